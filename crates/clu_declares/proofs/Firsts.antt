-- The first binding of a node and name: of a list that falls into two, of a list that belongs to one node.
use Rattle.std.proofs.Common.{◌≡◌, ◌∙◌, ℕ, ◌&&◌, ◌||◌, ◌==◌, Bool, true, false, if◌then◌else◌, [], ◌∷◌, ◌++◌, refl, ap, sym, inl, inr, eqb-true}
use Rattle.std.specs.Prelude.{bytes_eq}
use Rattle.std.specs.List.{AllByRecursion}
use Rattle.std.proofs.lemmas.Bool.{true≢false, cases_Bool, or_left, or_right}
use Rattle.clu_base.proofs.Bools.{second_true}
use Rattle.clu_syntax.specs.Syntax.{Identifier}
use Rattle.clu_meaning.specs.Scoping.{Meaning, Binding, Bindings, bound_at}
use Rattle.clu_declares.specs.Declares.{has}

abbrev pub is_it : Binding → ℕ → Identifier → Bool
is_it b n name = b.node == n && bytes_eq b.name name

one_or : (a b c d : Bool) → d ≡ (b || c) → (a || d) ≡ ((a || b) || c)
one_or true b c d e = refl
one_or false b c d e = e

pub has_append : (xs ys : Bindings) (n : ℕ) (name : Identifier) → has (xs ++ ys) n name ≡ (has xs n name || has ys n name)
has_append [] ys n name = refl
has_append (b ∷ xs) ys n name = one_or (is_it b n name) (has xs n name) (has ys n name) (has (xs ++ ys) n name) (has_append xs ys n name)

first_there : (t h : Bool) (m x y : Meaning) → (t || h) ≡ true → (h ≡ true → x ≡ y) → (if t then m else x) ≡ (if t then m else y)
first_there true h m x y e f = refl
first_there false h m x y e f = f e

pub bound_first : (xs ys : Bindings) (n : ℕ) (name : Identifier) → has xs n name ≡ true → bound_at (xs ++ ys) n name ≡ bound_at xs n name
bound_first [] ys n name h = absurd (true≢false (sym h))
bound_first (b ∷ xs) ys n name h = first_there (is_it b n name) (has xs n name) b.meaning (bound_at (xs ++ ys) n name) (bound_at xs n name) h (bound_first xs ys n name)

second_there : (t h : Bool) (m x y : Meaning) → (t || h) ≡ false → (h ≡ false → x ≡ y) → (if t then m else x) ≡ y
second_there true h m x y e f = absurd (true≢false e)
second_there false h m x y e f = f e

pub bound_second : (xs ys : Bindings) (n : ℕ) (name : Identifier) → has xs n name ≡ false → bound_at (xs ++ ys) n name ≡ bound_at ys n name
bound_second [] ys n name h = refl
bound_second (b ∷ xs) ys n name h = second_there (is_it b n name) (has xs n name) b.meaning (bound_at (xs ++ ys) n name) (bound_at ys n name) h (bound_second xs ys n name)

pub has_left : (xs ys : Bindings) (n : ℕ) (name : Identifier) → has xs n name ≡ true → has (xs ++ ys) n name ≡ true
has_left xs ys n name h = has_append xs ys n name ∙ or_left (has xs n name) (has ys n name) h

pub has_right : (xs ys : Bindings) (n : ℕ) (name : Identifier) → has ys n name ≡ true → has (xs ++ ys) n name ≡ true
has_right xs ys n name h = has_append xs ys n name ∙ or_right (has xs n name) (has ys n name) h

-- ---- all of one node

abbrev pub AreAt : ℕ → Bindings → Type 0
AreAt n bs = AllByRecursion (λ (b : Binding). b.node ≡ n) bs

and_left : (a b : Bool) → (a && b) ≡ true → a ≡ true
and_left true b e = refl
and_left false b e = absurd (true≢false (sym e))

it_or_more : (t h : Bool) → (t || h) ≡ true → (h ≡ false → t ≡ true)
it_or_more true h e f = refl
it_or_more false h e f = absurd (true≢false (sym e ∙ f))

pub node_is : (n : ℕ) (bs : Bindings) → AreAt n bs → (p : ℕ) (name : Identifier) → has bs p name ≡ true → n ≡ p
node_is n [] all p name h = absurd (true≢false (sym h))
node_is n (b ∷ bs) all p name h = elim (cases_Bool (has bs p name)) [
  | inl later ↦ node_is n bs all.1 p name later
  | inr not_there ↦ sym all.0 ∙ eqb-true b.node p (and_left (b.node == p) (bytes_eq b.name name) (it_or_more (is_it b p name) (has bs p name) h not_there))
]

-- ---- what is said of each node

module _ (said : ℕ → Bindings) where
  -- of each node and name that a list binds, its first binding is what is said
  abbrev pub IsRight : Bindings → Type 0
  IsRight bs = (p : ℕ) (name : Identifier) → has bs p name ≡ true → bound_at bs p name ≡ bound_at (said p) p name

  pub right_none : IsRight []
  right_none p name h = absurd (true≢false (sym h))

  pub right_both : (xs ys : Bindings) → IsRight xs → IsRight ys → IsRight (xs ++ ys)
  right_both xs ys f g p name h = elim (cases_Bool (has xs p name)) [
    | inl first ↦ bound_first xs ys p name first ∙ f p name first
    | inr not_there ↦ bound_second xs ys p name not_there ∙ g p name (second_true (has xs p name) (has ys p name) (sym (has_append xs ys p name) ∙ h) not_there)
  ]

  pub right_own : (n : ℕ) (bs : Bindings) → AreAt n bs → bs ≡ said n → IsRight bs
  right_own n bs all e p name h = ap (λ (bs : Bindings). bound_at bs p name) e ∙ ap (λ (m : ℕ). bound_at (said m) p name) (node_is n bs all p name h)
