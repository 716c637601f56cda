-- Which symbols may stand one behind the other in a file: a test of the grammar's table.
use Rattle.std.proofs.Common.{◌≡◌, ℕ, zero, suc, ◌+◌, ◌≤◌, Bool, true, false, not, ◌&&◌, List, [], ◌∷◌, ◌++◌, length, Option, Some, None, slice_get, refl, sym, ◌∙◌, subst, inl, inr, arith, rules}
use Rattle.std.specs.List.{list_all}
use Rattle.std.proofs.lemmas.Option.{slice_get_past}
use Rattle.std.proofs.lemmas.Bool.{cases_lt}
use Rattle.clu_lexer.specs.declared.symbols.Symbol.{Symbol}
use Rattle.clu_lexer.specs.declared.symbols.Symbol.TheVariants as s
use Rattle.clu_lexer.specs.contracts.symbols.Symbol.{the_type}
use Rattle.clu_grammar.specs.declared.items.Item.{Item}
use Rattle.clu_grammar.specs.declared.items.Item.TheVariants as item
use Rattle.clu_grammar.specs.declared.items.Nonterminal.{Nonterminal}
use Rattle.clu_grammar.specs.declared.items.Nonterminal.TheVariants as r
use Rattle.clu_grammar.specs.Choice.{has}
use Rattle.clu_grammar.specs.Grammar.{productions}
use Rattle.clu_grammar.specs.Language.{IsOneOf, Derives, done, symbol, action, choice, whole, IsFile}
use Rattle.clu_grammar.specs.Rows.{Production, take, peek, otherwise}
use Rattle.clu_grammar.proofs.Flags.{and_left, and_right, implied}
use Rattle.clu_grammar.proofs.Lookahead.{after}
use Rattle.clu_grammar.proofs.Tests.{code, in_set, begins, implies, symbols, place_of}
use Rattle.clu_grammar.proofs.Deterministic.{begun, begins-append, at_end, Followed, alternative_followed, after_sound, through}
use denote.Enum.Bare.{sameb, same_true}

-- marks that begin with = < or >
abbrev pub comparing : List Symbol
comparing = s.Equal ∷ s.Less ∷ s.AtMost ∷ s.Greater ∷ s.AtLeast ∷ []

-- whether the second may stand behind the first: where printing rests on it, else yes
abbrev pub fits : Symbol → Symbol → Bool
fits s.Semicolon x = not (sameb the_type x s.Semicolon) && not (sameb the_type x s.Dollar)
fits s.Point x = sameb the_type x s.Idn
fits s.Tilde x = not (has comparing x)
fits _ x = true

abbrev pub fits_behind : Option Symbol → Symbol → Bool
fits_behind None one = true
fits_behind (Some x) one = fits one x

-- x fits behind each symbol of the items behind which it may stand, if one of `set` follows them
abbrev items_fit : ℕ → Option Symbol → List Item → Bool
items_fit set x [] = true
items_fit set x (item.Terminal one ∷ items) = implies (begins items (in_set set) x) (fits_behind x one) && items_fit set x items
items_fit set x (item.Action a ∷ items) = items_fit set x items
items_fit set x (item.Nonterminal n ∷ items) = items_fit set x items

abbrev production_fits : ℕ → Option Symbol → Production → Bool
production_fits set x (take heads items) = implies (begins items (in_set set) x) (list_all (fits_behind x) heads) && items_fit set x items
production_fits set x (peek heads items) = items_fit set x items
production_fits set x (otherwise items) = items_fit set x items

abbrev fits_at : Nonterminal → Option Symbol → Bool
fits_at n x = list_all (production_fits (after n) x) (productions n)

all_fit : (n : Nonterminal) → list_all (fits_at n) symbols ≡ true
all_fit r.File = refl
all_fit _ = refl

pub all_at : {X : Type 0} (p : X → Bool) (xs : List X) (k : ℕ) (x : X) → list_all p xs ≡ true → slice_get xs k ≡ Some x → p x ≡ true
all_at p [] k x h at = absurd (cc)
all_at {X = X} p (y ∷ xs) zero x h at = let same : y ≡ x = cc in subst (λ (z : X). p z ≡ true) same (and_left (p y) (list_all p xs) h)
all_at p (y ∷ xs) (suc k) x h at = all_at p xs k x (and_right (p y) (list_all p xs) h) at

fit : (n : Nonterminal) (x : Option Symbol) → fits_at n x ≡ true
fit n x = all_at (fits_at n) symbols (code x) x (all_fit n) (place_of x)

pub all_has : (p : Symbol → Bool) (heads : List Symbol) (one : Symbol) → list_all p heads ≡ true → has heads one ≡ true → p one ≡ true
all_has p [] one h k = absurd (cc)
all_has p (head ∷ heads) one h k = next (sameb the_type head one) refl k (all_has p heads one (and_right (p head) (list_all p heads) h))
  where
    next : (b : Bool) → sameb the_type head one ≡ b → has (head ∷ heads) one ≡ true → (has heads one ≡ true → p one ≡ true) → p one ≡ true
    next true is k rest = subst (λ (y : Symbol). p y ≡ true) (same_true the_type (search rules) head one is) (and_left (p head) (list_all p heads) h)
    next false is k rest = rest (rw is at k)

-- behind each symbol of the items stands what fits
abbrev Joined : List Item → Type 0
Joined [] = Unit {0}
Joined (item.Terminal one ∷ items) = ((x : Option Symbol) → begins items at_end x ≡ true → fits_behind x one ≡ true) × Joined items
Joined (item.Action a ∷ items) = Joined items
Joined (item.Nonterminal n ∷ items) = Joined items

-- what may follow a row, when the set covers what follows
behind_row : (row items : List Item) (set : ℕ) (x : Option Symbol) → ((t : Option Symbol) → begins items at_end t ≡ true → in_set set t ≡ true) → begins (row ++ items) at_end x ≡ true → begins row (in_set set) x ≡ true
behind_row row items set x covers h = through row (begins items at_end) (in_set set) x (covers x) (sym (begins-append row items at_end x) ∙ h)

row_joined : (row items : List Item) (set : ℕ) → ((x : Option Symbol) → items_fit set x row ≡ true) → ((t : Option Symbol) → begins items at_end t ≡ true → in_set set t ≡ true) → Joined items → Joined (row ++ items)
row_joined [] items set test covers known = known
row_joined (item.Terminal one ∷ row) items set test covers known =
    (λ x h. implied _ _ (and_left _ _ (test x)) (behind_row row items set x covers h), row_joined row items set (λ x. and_right _ _ (test x)) covers known)
row_joined (item.Action a ∷ row) items set test covers known = row_joined row items set test covers known
row_joined (item.Nonterminal n ∷ row) items set test covers known = row_joined row items set test covers known

alternative_joined : (set : ℕ) (ps : List Production) (alternative items : List Item) → ((x : Option Symbol) → list_all (production_fits set x) ps ≡ true) → IsOneOf ps alternative → ((t : Option Symbol) → begins items at_end t ≡ true → in_set set t ≡ true) → Joined items → Joined (alternative ++ items)
alternative_joined set [] alternative items test one covers known = absurd one
alternative_joined set (p ∷ ps) alternative items test (inr one) covers known = alternative_joined set ps alternative items (λ x. and_right _ _ (test x)) one covers known
alternative_joined set (take heads row ∷ ps) alternative items test (inl is) covers known =
    subst (λ (y : List Item). Joined (y ++ items)) (sym is.2) (
      λ x h. all_has (fits_behind x) heads is.0 (implied _ _ (and_left _ _ (and_left _ _ (test x))) (behind_row row items set x covers h)) is.1,
      row_joined row items set (λ x. and_right _ _ (and_left _ _ (test x))) covers known,
    )
alternative_joined set (peek heads row ∷ ps) alternative items test (inl is) covers known =
    subst (λ (y : List Item). Joined (y ++ items)) (sym is) (row_joined row items set (λ x. and_left _ _ (test x)) covers known)
alternative_joined set (otherwise row ∷ ps) alternative items test (inl is) covers known =
    subst (λ (y : List Item). Joined (y ++ items)) (sym is) (row_joined row items set (λ x. and_left _ _ (test x)) covers known)

-- each symbol fits behind the one before it
abbrev pub AreFit : List Symbol → Type 0
AreFit ys = (i : ℕ) (one x : Symbol) → slice_get ys i ≡ Some one → slice_get ys (i + 1) ≡ Some x → fits one x ≡ true

fit_from : (ys : List Symbol) (items : List Item) (at to : ℕ) → Derives ys items at to → to ≡ length ys → Followed items at_end → Joined items → (i : ℕ) (one x : Symbol) → at ≤ i → slice_get ys i ≡ Some one → slice_get ys (i + 1) ≡ Some x → fits one x ≡ true
fit_from ys _ at _ (done _) last followed joined i one x le is then =
    let none : slice_get ys i ≡ None = slice_get_past ys i (omega (arith, last, le)) in absurd (cc)
fit_from ys _ at to (symbol z items _ _ here d) last followed joined i one x le is then = elim (cases_lt at i) [
  | inl less ↦ fit_from ys items (at + 1) to d last followed joined.1 i one x (omega arith) is then
  | inr more ↦ (
      let same : i ≡ at = omega arith in
      let first : one ≡ z = (let it : slice_get ys at ≡ Some one = subst (λ (k : ℕ). slice_get ys k ≡ Some one) same is in cc) in
      let next : slice_get ys (at + 1) ≡ Some x = subst (λ (k : ℕ). slice_get ys (k + 1) ≡ Some x) same then in
      let h : fits_behind (Some x) z ≡ true = joined.0 (Some x) (subst (λ (o : Option Symbol). begins items at_end o ≡ true) next (begun ys items (at + 1) to d last)) in
      subst (λ (y : Symbol). fits y x ≡ true) (sym first) h
      )
]
fit_from ys _ at to (action a items _ _ d) last followed joined i one x le is then = fit_from ys items at to d last followed joined i one x le is then
fit_from ys _ at to (choice n items alternative _ _ it d) last followed joined i one x le is then =
    fit_from ys (alternative ++ items) at to d last
    (alternative_followed (after n) (productions n) alternative items (after_sound n) it followed.0 followed.1)
    (alternative_joined (after n) (productions n) alternative items (fit n) it followed.0 joined) i one x le is then

whole_followed : Followed whole at_end
whole_followed = (λ x h. end_follows x h, tt)
  where
    end_follows : (x : Option Symbol) → at_end x ≡ true → in_set (after r.File) x ≡ true
    end_follows None h = refl
    end_follows (Some s) h = absurd (cc)

pub file_fits : (ys : List Symbol) → IsFile ys → AreFit ys
file_fits ys d i one x is then = fit_from ys whole 0 (length ys) d refl whole_followed tt i one x (omega arith) is then
