-- Two printed tokens with no blank between them are read as these two.
use Rattle.std.proofs.Common.{◌≡◌, ℕ, ◌≤◌, Bool, true, false, not, ◌&&◌, ◌||◌, ◌==◌, List, [], ◌∷◌, Some, refl, sym, ap, ◌∙◌, subst, inl, inr, ◌⊎◌, arith, rules, eqb-true, leb-true, ne_eqb}
use Rattle.std.proofs.lemmas.Bool.{lt-leb, not-false, or_cases, cases_Bool, or_parts}
use Rattle.std.proofs.lemmas.Option.{same_Some}
use Rattle.clu_base.specs.declared.tokens.Kind.{Kind}
use Rattle.clu_base.specs.declared.tokens.Kind.TheVariants as kind
use Rattle.clu_lexer.specs.declared.scanner.State.{State}
use Rattle.clu_lexer.specs.declared.scanner.State.TheVariants as state
use Rattle.clu_lexer.specs.declared.symbols.Symbol.{Symbol}
use Rattle.clu_lexer.specs.declared.symbols.Symbol.TheVariants as s
use Rattle.clu_lexer.specs.contracts.symbols.Symbol.{the_type}
use Rattle.clu_lexer.specs.Classes.{is_digit}
use Rattle.clu_lexer.specs.Scanner.{begin, next, accepts, run, class_of}
use Rattle.clu_lexer.specs.Tokens.{kind_in, kind_of}
use Rattle.clu_lexer.specs.Words.{symbol_of}
use Rattle.clu_grammar.specs.Choice.{has}
use Rattle.clu_grammar.specs.Grammar.{signs}
use Rattle.clu_grammar.proofs.Flags.{true_is_false, and_left, and_right}
use Rattle.clu_printer.specs.Blanks.{clings, holds, would_be_real, is_argument_list, blank_between}
use Rattle.clu_printed.proofs.Neighbours.{fits}
use Rattle.clu_printed.proofs.Lowered.{run_stopped, class_behind}
use Rattle.clu_printed.proofs.Joints.{byte_of, is_single, single_text, leans, leaning, leaning_stops, numeric_run, numeric_class}
use denote.Enum.Bare.{sameb, same_true}

digit_begins : (b : ℕ) → is_digit b ≡ true → begin b ≡ state.Whole
digit_begins b h =
    let below : b ≤ 57 = leb-true b 57 (and_right _ _ h) in
    rw (lt-leb 65 b (omega arith), lt-leb 97 b (omega arith), ne_eqb b 95 (λ e. omega (arith, e, below)), h) refl

-- a name behind a point begins with no digit
point_stops : (l : Kind) (b : ℕ) (more : List ℕ) → kind_of (b ∷ more) ≡ Some l → sameb the_type (symbol_of l (b ∷ more)) s.Idn ≡ true → next state.Point b ≡ state.Stop
unfolding class_of
point_stops l b more h name = elim (cases_Bool (is_digit b)) [
  | inl is_so ↦ (
      let c = class_behind (b ∷ more) l h in
      let e : begin b ≡ state.Whole = digit_begins b is_so in
      let is : accepts (run state.Whole more) ≡ Some c.class = subst (λ (st : State). accepts (run st more) ≡ Some c.class) e c.class_is in
      let is_not : sameb the_type (symbol_of (kind_in c.class (b ∷ more)) (b ∷ more)) s.Idn ≡ false = numeric_class (run state.Whole more) c.class (b ∷ more) (numeric_run state.Whole more refl) is in
      let is_not' : sameb the_type (symbol_of l (b ∷ more)) s.Idn ≡ false = subst (λ (k : Kind). sameb the_type (symbol_of k (b ∷ more)) s.Idn ≡ false) (sym c.kind_is) is_not in
      absurd (true_is_false (sameb the_type (symbol_of l (b ∷ more)) s.Idn) name is_not')
      )
  | inr is_not ↦ rw is_not refl
]

-- behind a mark that is whole nothing more is read
mark_alone : (bs : List ℕ) (c : Kind) → accepts (run state.Mark bs) ≡ Some c → bs ≡ []
mark_alone [] c h = refl
mark_alone (b ∷ bs) c h = (let h' : accepts state.Stop ≡ Some c = subst (λ (st : State). accepts st ≡ Some c) (run_stopped bs) h in absurd (cc))

equal_behind : (bs : List ℕ) (c : Kind) → accepts (run state.BeforeEqual bs) ≡ Some c → (bs ≡ []) ⊎ (bs ≡ 61 ∷ [])
equal_behind [] c h = inl refl
equal_behind (b ∷ bs) c h = elim (cases_Bool (b == 61)) [
  | inl is_so ↦ (
      let h' : accepts (run state.Mark bs) ≡ Some c = rw is_so at h in
      let e : b ≡ 61 = eqb-true b 61 is_so in
      let f : bs ≡ [] = mark_alone bs c h' in
      inr (rw (e, f) refl)
      )
  | inr is_not ↦ (
      let h' : accepts (run state.Stop bs) ≡ Some c = rw is_not at h in
      let h'' : accepts state.Stop ≡ Some c = subst (λ (st : State). accepts st ≡ Some c) (run_stopped bs) h' in
      absurd (cc)
      )
]

-- what fits behind ~ as a sign doesn't begin with < = or >
wrong_mark : (l : Kind) (text it : List ℕ) → text ≡ it → kind_of text ≡ Some l → kind_of it ≡ Some kind.Mark → fits s.Tilde (symbol_of kind.Mark it) ≡ false → fits s.Tilde (symbol_of l text) ≡ true → ⊥
wrong_mark l text it same h k is_not is_so =
    let e : l ≡ kind.Mark = same_Some _ _ (sym h ∙ ap kind_of same ∙ k) in
    let is_so' : fits s.Tilde (symbol_of kind.Mark it) ≡ true = subst (λ (k : Kind). fits s.Tilde (symbol_of k it) ≡ true) e (subst (λ (xs : List ℕ). fits s.Tilde (symbol_of l xs) ≡ true) same is_so) in
    true_is_false _ is_so' is_not

behind_tilde : (l : Kind) (b : ℕ) (more : List ℕ) → kind_of (b ∷ more) ≡ Some l → fits s.Tilde (symbol_of l (b ∷ more)) ≡ true → ((b ≡ 60) ⊎ (b ≡ 62)) ⊎ (b ≡ 61) → ⊥
unfolding class_of kind_of
behind_tilde l b more h fit (inl (inl e)) =
    let c = class_behind (b ∷ more) l h in
    let is : accepts (run state.BeforeEqual more) ≡ Some c.class = subst (λ (n : ℕ). accepts (run (begin n) more) ≡ Some c.class) e c.class_is in
    elim (equal_behind more c.class is) [
      | inl none ↦ wrong_mark l (b ∷ more) (60 ∷ []) (rw (e, none) refl) h refl refl fit
      | inr one ↦ wrong_mark l (b ∷ more) (60 ∷ 61 ∷ []) (rw (e, one) refl) h refl refl fit
    ]
behind_tilde l b more h fit (inl (inr e)) =
    let c = class_behind (b ∷ more) l h in
    let is : accepts (run state.BeforeEqual more) ≡ Some c.class = subst (λ (n : ℕ). accepts (run (begin n) more) ≡ Some c.class) e c.class_is in
    elim (equal_behind more c.class is) [
      | inl none ↦ wrong_mark l (b ∷ more) (62 ∷ []) (rw (e, none) refl) h refl refl fit
      | inr one ↦ wrong_mark l (b ∷ more) (62 ∷ 61 ∷ []) (rw (e, one) refl) h refl refl fit
    ]
behind_tilde l b more h fit (inr e) =
    let c = class_behind (b ∷ more) l h in
    let is : accepts (run state.Mark more) ≡ Some c.class = subst (λ (n : ℕ). accepts (run (begin n) more) ≡ Some c.class) e c.class_is in
    let none = mark_alone more c.class is in
    wrong_mark l (b ∷ more) (61 ∷ []) (rw (e, none) refl) h refl refl fit

tilde_stops : (l : Kind) (b : ℕ) (more : List ℕ) → kind_of (b ∷ more) ≡ Some l → fits s.Tilde (symbol_of l (b ∷ more)) ≡ true → next state.Tilde b ≡ state.Stop
tilde_stops l b more h fit = elim (cases_Bool (b == 60)) [
  | inl is_so ↦ absurd (behind_tilde l b more h fit (inl (inl (eqb-true b 60 is_so))))
  | inr is_not ↦ elim (cases_Bool (b == 62)) [
    | inl is_so ↦ absurd (behind_tilde l b more h fit (inl (inr (eqb-true b 62 is_so))))
    | inr none ↦ elim (cases_Bool (b == 61)) [
      | inl is_so ↦ absurd (behind_tilde l b more h fit (inr (eqb-true b 61 is_so)))
      | inr nor ↦ rw (is_not, none, nor) refl
    ]
  ]
]

sign_is : (x : Symbol) → has signs x ≡ true → (x ≡ s.Tilde) ⊎ (x ≡ s.Minus)
sign_is x h = next (sameb the_type s.Tilde x) (sameb the_type s.Minus x) refl refl h
  where
    next : (a b : Bool) → sameb the_type s.Tilde x ≡ a → sameb the_type s.Minus x ≡ b → has signs x ≡ true → (x ≡ s.Tilde) ⊎ (x ≡ s.Minus)
    next true b is is' h = inl (sym (same_true the_type (search rules) s.Tilde x is))
    next false true is is' h = inr (sym (same_true the_type (search rules) s.Minus x is'))
    next false false is is' h = (let h' : false ≡ true = rw (is, is') at h in absurd (cc))

holds_is : (x : Symbol) → holds x ≡ true → (x ≡ s.Point) ⊎ ((is_single x ≡ true) × (begin (byte_of x) ≡ state.Mark))
holds_is s.LeftParen h = inr (refl, refl)
holds_is s.LeftBracket h = inr (refl, refl)
holds_is s.LeftBrace h = inr (refl, refl)
holds_is s.Dollar h = inr (refl, refl)
holds_is s.Point h = inl refl
holds_is _ h = absurd (cc)

clings_lean : (y : Symbol) → clings y ≡ true → leans y ≡ true
clings_lean s.LeftParen h = refl
clings_lean _ h = h

module _ (k l : Kind) (text : List ℕ) (b : ℕ) (more : List ℕ) (is_k : kind_of text ≡ Some k) (is_l : kind_of (b ∷ more) ≡ Some l) (fit : fits (symbol_of k text) (symbol_of l (b ∷ more)) ≡ true) where
  -- the first of the two is a mark of one byte
  behind_single : (z : Symbol) → symbol_of k text ≡ z → is_single z ≡ true → next (begin (byte_of z)) b ≡ state.Stop → next (run state.Start text) b ≡ state.Stop
  behind_single z is single stops = subst (λ (xs : List ℕ). next (run state.Start xs) b ≡ state.Stop) (sym (single_text k text z single is)) stops

  behind_sign : has signs (symbol_of k text) ≡ true → next (run state.Start text) b ≡ state.Stop
  behind_sign sign = elim (sign_is (symbol_of k text) sign) [
    | inl tilde ↦ behind_single s.Tilde tilde refl (tilde_stops l b more is_l (subst (λ (z : Symbol). fits z (symbol_of l (b ∷ more)) ≡ true) tilde fit))
    | inr minus ↦ behind_single s.Minus minus refl refl
  ]

  behind_holder : holds (symbol_of k text) ≡ true → next (run state.Start text) b ≡ state.Stop
  behind_holder h = elim (holds_is (symbol_of k text) h) [
    | inl point ↦ behind_single s.Point point refl (point_stops l b more is_l (subst (λ (z : Symbol). fits z (symbol_of l (b ∷ more)) ≡ true) point fit))
    | inr mark ↦ behind_single (symbol_of k text) refl mark.0 (subst (λ (st : State). next st b ≡ state.Stop) (sym mark.1) refl)
  ]

  before_leaning : leans (symbol_of l (b ∷ more)) ≡ true → would_be_real (symbol_of k text) (symbol_of l (b ∷ more)) ≡ false → next (run state.Start text) b ≡ state.Stop
  unfolding class_of
  before_leaning h real =
      let c = class_behind text k is_k in
      let bytes : b ∷ more ≡ byte_of (symbol_of l (b ∷ more)) ∷ [] = single_text l (b ∷ more) (symbol_of l (b ∷ more)) (and_right _ _ (leaning_stops (symbol_of l (b ∷ more)) h)) refl in
      let first : b ≡ byte_of (symbol_of l (b ∷ more)) = cc in
      let stops = leaning (symbol_of l (b ∷ more)) (run state.Start text) c.class h c.class_is (λ e. no_point c.class e c.kind_is real) in
      subst (λ (n : ℕ). next (run state.Start text) n ≡ state.Stop) (sym first) stops
    where
      no_point : (class : Kind) → class ≡ kind.Int → k ≡ kind_in class text → would_be_real (symbol_of k text) (symbol_of l (b ∷ more)) ≡ false → sameb the_type (symbol_of l (b ∷ more)) s.Point ≡ false
      no_point class e is real =
          let int : k ≡ kind.Int = is ∙ ap (λ (z : Kind). kind_in z text) e in
          subst (λ (z : Kind). would_be_real (symbol_of z text) (symbol_of l (b ∷ more)) ≡ false) int real

  without_blank : blank_between (symbol_of k text) (symbol_of l (b ∷ more)) ≡ false → next (run state.Start text) b ≡ state.Stop
  without_blank none =
      let parts = or_parts _ _ none in
      elim (or_cases (clings (symbol_of l (b ∷ more)) || holds (symbol_of k text)) (is_argument_list (symbol_of k text) (symbol_of l (b ∷ more))) (not-false _ parts.1)) [
        | inl either ↦ elim (or_cases (clings (symbol_of l (b ∷ more))) (holds (symbol_of k text)) either) [
          | inl clinging ↦ before_leaning (clings_lean (symbol_of l (b ∷ more)) clinging) parts.0
          | inr holding ↦ behind_holder holding
        ]
        | inr arguments ↦ (
            let paren : symbol_of l (b ∷ more) ≡ s.LeftParen = same_true the_type (search rules) (symbol_of l (b ∷ more)) s.LeftParen (and_left _ _ arguments) in
            before_leaning (subst (λ (z : Symbol). leans z ≡ true) (sym paren) refl) parts.0
            )
      ]

  pub joint : (is_prefix : Bool) → (is_prefix ≡ true → has signs (symbol_of k text) ≡ true) → (not is_prefix && blank_between (symbol_of k text) (symbol_of l (b ∷ more))) ≡ false → next (run state.Start text) b ≡ state.Stop
  joint true sign none = behind_sign (sign refl)
  joint false sign none = without_blank none
