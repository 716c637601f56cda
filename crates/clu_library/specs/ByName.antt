-- Lists of items that ascend by a name that each has.
use Rattle.std.specs.Prelude.{◌≡◌, ℕ, List, [], ◌∷◌, Result, Err}
use Rattle.std.specs.declared.cmp.Ordering.{Ordering}
use Rattle.std.specs.declared.cmp.Ordering.TheVariants.{Less, Equal, Greater}
use Rattle.clu_types.specs.Specs.{name_order, place_by}

-- each of the names is greater than this one
abbrev pub ComeAfter : {X : Type 0} → (X → List ℕ) → List ℕ → List X → Type 0
ComeAfter name_of name [] = Unit {0}
ComeAfter name_of name (x ∷ xs) = (name_order name (name_of x) ≡ Less) × ComeAfter name_of name xs

abbrev pub AreAscending : {X : Type 0} → (X → List ℕ) → List X → Type 0
AreAscending name_of [] = Unit {0}
AreAscending name_of (x ∷ xs) = ComeAfter name_of (name_of x) xs × AreAscending name_of xs

-- an item y and the first of a list, x, by the order of their names: y before x, in its place, or further on
abbrev pub placed : {X : Type 0} → Ordering → X → X → List X → List X → List X
placed Less y x xs further = x ∷ further
placed Equal y x xs further = y ∷ xs
placed Greater y x xs further = y ∷ x ∷ xs

-- the list with an item at its place, or in the place of the one of its name
abbrev pub with_item : {X : Type 0} → (X → List ℕ) → List X → X → List X
with_item name_of [] y = y ∷ []
with_item name_of (x ∷ xs) y = placed (name_order (name_of x) (name_of y)) y x xs (with_item name_of xs y)

-- the place of a name: that of the item which has it, or else where it belongs
abbrev pub place_of : {X : Type 0} → (X → List ℕ) → List X → List ℕ → Result ℕ ℕ
place_of name_of [] name = Err 0
place_of name_of (x ∷ xs) name = place_by (name_order (name_of x) name) (place_of name_of xs name)
