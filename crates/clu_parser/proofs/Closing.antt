-- Square brackets: what is known of the tokens to come stays true.
use Rattle.std.proofs.Common.{◌≡◌, ℕ, zero, suc, ◌+◌, ◌-◌, ◌≤◌, ◌&&◌, ◌==◌, not, nat_le, Bool, true, false, cond, List, [], ◌∷◌, drop, Option, Some, None, slice_get, refl, sym, ap, ◌∙◌, subst, inl, inr, arith, leb-true, eqb-true, rules}
use Rattle.std.specs.List.{list_all}
use Rattle.clu_lexer.specs.declared.symbols.Symbol.{Symbol}
use Rattle.clu_lexer.specs.declared.symbols.Symbol.TheVariants as s
use Rattle.clu_lexer.specs.contracts.symbols.Symbol.{the_type}
use Rattle.clu_grammar.specs.declared.items.Item.{Item}
use Rattle.clu_grammar.specs.declared.items.Item.TheVariants as item
use Rattle.clu_grammar.specs.declared.items.Nonterminal.{Nonterminal}
use Rattle.clu_grammar.specs.declared.items.Nonterminal.TheVariants as r
use Rattle.clu_grammar.specs.Choice.{has, is_among}
use Rattle.clu_grammar.specs.Grammar.{productions}
use Rattle.clu_grammar.specs.Language.{IsOneOf}
use Rattle.clu_grammar.specs.Rows.{Production, take, peek, otherwise}
use Rattle.clu_grammar.proofs.Flags.{and_left, and_right}
use Rattle.clu_parser.specs.Spellings.{is_dollar, closes}
use Rattle.clu_parser.specs.Trees.{Text, Built}
use Rattle.clu_parser.proofs.Sketch.{Known, nothing_known, in_bracket, at_dollar, shuts, is_known, passed, kept}
use Rattle.clu_parser.proofs.Typings.{may_come, is_last}
use Rattle.clu_parser.proofs.Deriving.{Ran, stopped, took, did, chose}
use denote.Enum.Bare.{sameb, same_true}
use Rattle.std.proofs.lemmas.Bool.{cases_Bool}
use Rattle.clu_base.proofs.Lists.{dropped}

-- with so many square brackets open, the items close all
abbrev keeps : List Item → ℕ → Bool
keeps [] n = n == 0
keeps (item.Terminal x ∷ items) n =
    elim (sameb the_type x s.LeftBracket) [
      | true ↦ keeps items (n + 1)
      | false ↦ elim (sameb the_type x s.RightBracket) [ true ↦ (nat_le 1 n && keeps items (n - 1)) | false ↦ keeps items n ]
    ]
keeps (item.Action a ∷ items) n = keeps items n
keeps (item.Nonterminal m ∷ items) n = nat_le (shuts m) n && keeps items (n - shuts m)

abbrev row_keeps : Nonterminal → Production → Bool
row_keeps n (take heads items) = list_all (λ x. keeps (item.Terminal x ∷ items) (shuts n)) heads
row_keeps n (peek heads items) = keeps items (shuts n)
row_keeps n (otherwise items) = keeps items (shuts n)

rows_keep : (n : Nonterminal) → list_all (row_keeps n) (productions n) ≡ true
rows_keep r.File = refl
rows_keep _ = refl

pub all_has : (f : Symbol → Bool) (heads : List Symbol) (x : Symbol) → list_all f heads ≡ true → has heads x ≡ true → f x ≡ true
all_has f [] x h k = absurd (cc)
all_has f (y ∷ heads) x h k = elim (cases_Bool (sameb the_type y x)) [
  | inl same ↦ subst (λ (z : Symbol). f z ≡ true) (same_true the_type (search rules) y x same) (and_left (f y) (list_all f heads) h)
  | inr other ↦ all_has f heads x (and_right (f y) (list_all f heads) h) (rw other at k)
]

alternative_keeps : (n : Nonterminal) (ps : List Production) (row : List Item) → list_all (row_keeps n) ps ≡ true → IsOneOf ps row → keeps row (shuts n) ≡ true
alternative_keeps n [] row h one = absurd one
alternative_keeps n (p ∷ ps) row h (inr one) = alternative_keeps n ps row (and_right (row_keeps n p) (list_all (row_keeps n) ps) h) one
alternative_keeps n (take heads items ∷ ps) row h (inl is) =
    subst (λ (x : List Item). keeps x (shuts n) ≡ true) (sym is.2) (all_has (λ x. keeps (item.Terminal x ∷ items) (shuts n)) heads is.0 (and_left (row_keeps n (take heads items)) (list_all (row_keeps n) ps) h) is.1)
alternative_keeps n (peek heads items ∷ ps) row h (inl is) = subst (λ (x : List Item). keeps x (shuts n) ≡ true) (sym is) (and_left (row_keeps n (peek heads items)) (list_all (row_keeps n) ps) h)
alternative_keeps n (otherwise items ∷ ps) row h (inl is) = subst (λ (x : List Item). keeps x (shuts n) ≡ true) (sym is) (and_left (row_keeps n (otherwise items)) (list_all (row_keeps n) ps) h)

closes_left : (n : ℕ) (x : Symbol) (xs : List Symbol) → sameb the_type x s.LeftBracket ≡ true → closes n (x ∷ xs) ≡ closes (n + 1) xs
closes_left zero x xs h = rw h refl
closes_left (suc n) x xs h = let more : n + 2 ≡ suc n + 1 = omega arith in rw h (ap (λ (k : ℕ). closes k xs) more)

closes_right : (n : ℕ) (x : Symbol) (xs : List Symbol) → sameb the_type x s.LeftBracket ≡ false → sameb the_type x s.RightBracket ≡ true → closes (suc n) (x ∷ xs) ≡ closes n xs
closes_right n x xs h k = rw (h, k) refl

closes_other : (n : ℕ) (x : Symbol) (xs : List Symbol) → sameb the_type x s.LeftBracket ≡ false → sameb the_type x s.RightBracket ≡ false → closes n (x ∷ xs) ≡ closes n xs
closes_other zero x xs h k = rw (h, k) refl
closes_other (suc n) x xs h k = rw (h, k) refl

balanced : (t : Text) (items : List Item) (at : ℕ) (b : Built) (to : ℕ) (z : Built) → Ran t items at b to z → (n d : ℕ) → keeps items n ≡ true → closes (d + n) (drop at t.symbols) ≡ closes d (drop to t.symbols)
balanced t _ at b _ _ (stopped _ _) n d h = let none : n ≡ 0 = eqb-true n 0 h in let same : d + n ≡ d = omega arith in ap (λ (k : ℕ). closes k (drop at t.symbols)) same
balanced t _ at b to z (took x items _ _ _ _ is e) n d h =
    let front = dropped t.symbols at x is in
    ap (closes (d + n)) front ∙ elim (cases_Bool (sameb the_type x s.LeftBracket)) [
      | inl left ↦ (let more : d + n + 1 ≡ d + (n + 1) = omega arith in closes_left (d + n) x (drop (at + 1) t.symbols) left ∙ ap (λ (k : ℕ). closes k (drop (at + 1) t.symbols)) more ∙ balanced t items (at + 1) b to z e (n + 1) d (rw (keeps, left) at h))
      | inr other ↦ elim (cases_Bool (sameb the_type x s.RightBracket)) [
        | inl right ↦ (let h' : (nat_le 1 n && keeps items (n - 1)) ≡ true = rw (keeps, other, right) at h in
            let some : 1 ≤ n = leb-true 1 n (and_left (nat_le 1 n) (keeps items (n - 1)) h') in
            let less : d + n ≡ suc (d + (n - 1)) = omega arith in
            ap (λ (k : ℕ). closes k (x ∷ drop (at + 1) t.symbols)) less ∙ closes_right (d + (n - 1)) x (drop (at + 1) t.symbols) other right ∙ balanced t items (at + 1) b to z e (n - 1) d (and_right (nat_le 1 n) (keeps items (n - 1)) h'))
        | inr neither ↦ (let h' : keeps items n ≡ true = rw (keeps, other, neither) at h in closes_other (d + n) x (drop (at + 1) t.symbols) other neither ∙ balanced t items (at + 1) b to z e n d h')
      ]
    ]
balanced t _ at b to z (did a items _ _ c _ _ is e) n d h = balanced t items at c to z e n d h
balanced t _ at b to z (chose m items row _ _ mid c _ _ one it e f) n d h =
    let fits : shuts m ≤ n = leb-true (shuts m) n (and_left (nat_le (shuts m) n) (keeps items (n - shuts m)) h) in
    let same : d + n ≡ d + (n - shuts m) + shuts m = omega arith in
    ap (λ (k : ℕ). closes k (drop at t.symbols)) same ∙
    balanced t row at b mid c e (shuts m) (d + (n - shuts m)) (alternative_keeps m (productions m) row (rows_keep m) one) ∙
    balanced t items mid c to z f (n - shuts m) d (and_right (nat_le (shuts m) n) (keeps items (n - shuts m)) h)

-- what is known is true of the tokens from a place on
abbrev pub Holds : Known → Text → ℕ → Type 0
Holds nothing_known t at = Unit {0}
Holds (in_bracket b) t at = closes 0 (drop at t.symbols) ≡ b
Holds (at_dollar b) t at = is_dollar (drop at t.symbols) ≡ b

pub passed_holds : (t : Text) (at : ℕ) (x : Symbol) (known : Known) → slice_get t.symbols at ≡ Some x → Holds known t at → Holds (passed x known) t (at + 1)
passed_holds t at x nothing_known is h = tt
passed_holds t at x (at_dollar b) is h = tt
passed_holds t at x (in_bracket b) is h =
    let h' : closes 0 (x ∷ drop (at + 1) t.symbols) ≡ b = subst (λ (y : List Symbol). closes 0 y ≡ b) (dropped t.symbols at x is) h in
    after (sameb the_type x s.LeftBracket) (sameb the_type x s.RightBracket) refl refl h'
  where
    after : (left right : Bool) → sameb the_type x s.LeftBracket ≡ left → sameb the_type x s.RightBracket ≡ right → closes 0 (x ∷ drop (at + 1) t.symbols) ≡ b → Holds (cond left nothing_known (cond right (at_dollar b) (in_bracket b))) t (at + 1)
    after true right l k h = tt
    after false true l k h = rw (l, k) at h
    after false false l k h = rw (l, k) at h

pub kept_holds : (t : Text) (m : Nonterminal) (row : List Item) (at : ℕ) (b : Built) (mid : ℕ) (c : Built) (known : Known) → IsOneOf (productions m) row → Ran t row at b mid c → Holds known t at → Holds (kept m known) t mid
kept_holds t m row at b mid c nothing_known one e h = tt
kept_holds t m row at b mid c (at_dollar f) one e h = tt
kept_holds t m row at b mid c (in_bracket f) one e h = after (shuts m == 0) refl
  where
    after : (none : Bool) → (shuts m == 0) ≡ none → Holds (cond none (in_bracket f) nothing_known) t mid
    after true is =
        let zero' : shuts m ≡ 0 = eqb-true (shuts m) 0 is in
        let keeps' : keeps row 0 ≡ true = subst (λ (k : ℕ). keeps row k ≡ true) zero' (alternative_keeps m (productions m) row (rows_keep m) one) in
        sym (balanced t row at b mid c e 0 0 keeps') ∙ h
    after false is = tt

flags_same : (a b : Bool) → cond a b (not b) ≡ true → a ≡ b
flags_same true true h = refl
flags_same true false h = absurd (cc)
flags_same false true h = absurd (cc)
flags_same false false h = refl

pub known_holds : (t : Text) (at : ℕ) (a b : Known) → is_known a b ≡ true → Holds b t at → Holds a t at
known_holds t at nothing_known b h k = tt
known_holds t at (in_bracket true) (in_bracket true) h k = k
known_holds t at (in_bracket false) (in_bracket false) h k = k
known_holds t at (at_dollar true) (at_dollar true) h k = k
known_holds t at (at_dollar false) (at_dollar false) h k = k
known_holds t at _ _ h k = absurd (cc)

-- which symbol may come next
pub comes : (t : Text) (at : ℕ) (x : Symbol) (known : Known) → Holds known t at → slice_get t.symbols at ≡ Some x → may_come known x ≡ true
comes t at x nothing_known h is = refl
comes t at x (in_bracket b) h is = refl
comes t at x (at_dollar true) h is = subst (λ (y : List Symbol). is_dollar y ≡ true) (dropped t.symbols at x is) h
comes t at x (at_dollar false) h is = let h' : sameb the_type x s.Dollar ≡ false = subst (λ (y : List Symbol). is_dollar y ≡ false) (dropped t.symbols at x is) h in rw h' refl

none_left : (xs : List Symbol) (i : ℕ) → slice_get xs i ≡ None → drop i xs ≡ []
none_left [] zero h = refl
none_left [] (suc i) h = refl
none_left (x ∷ xs) zero h = absurd (cc)
none_left (x ∷ xs) (suc i) h = none_left xs i h

-- no later row is chosen
pub last_comes : (t : Text) (at : ℕ) (heads : List Symbol) (known : Known) → Holds known t at → is_last known heads ≡ true → is_among (slice_get t.symbols at) heads ≡ true
last_comes t at heads nothing_known h k = absurd (cc)
last_comes t at heads (in_bracket b) h k = absurd (cc)
last_comes t at heads (at_dollar false) h k = absurd (cc)
last_comes t at heads (at_dollar true) h k = next (slice_get t.symbols at) refl
  where
    next : (o : Option Symbol) → slice_get t.symbols at ≡ o → is_among o heads ≡ true
    next None is = let h' : false ≡ true = subst (λ (y : List Symbol). is_dollar y ≡ true) (none_left t.symbols at is) h in absurd (cc)
    next (Some x) is =
        let h' : sameb the_type x s.Dollar ≡ true = subst (λ (y : List Symbol). is_dollar y ≡ true) (dropped t.symbols at x is) h in
        subst (λ (y : Symbol). has heads y ≡ true) (sym (same_true the_type (search rules) x s.Dollar h')) k
