-- Items that ascend by their names, and the first of a name.
use Rattle.std.specs.Prelude.{ℕ, Bool, List, [], ◌∷◌, slice_get, bytes_eq, if◌then◌else◌, Option, Some, None}
use Rattle.std.specs.List.Sorted.{IsSortedBy}
use Rattle.std.specs.Ordering.{is_lt, nat_cmp}
use Rattle.std.specs.Cmp.Lexicographic.{slice_cmp}

module _ {A : Type 0} (name_of : A → List ℕ) where
  abbrev pub comes_before : A → A → Bool
  comes_before a b = is_lt (slice_cmp nat_cmp (name_of a) (name_of b))

  abbrev pub AreAscending : List A → Type 0
  AreAscending items = IsSortedBy comes_before items

  -- its name comes before this one
  abbrev pub is_below : List ℕ → A → Bool
  is_below name a = is_lt (slice_cmp nat_cmp (name_of a) name)

  abbrev pub is_named : List ℕ → A → Bool
  is_named name a = bytes_eq (name_of a) name

  abbrev pub if_named : List ℕ → Option A → Option A
  if_named name (Some a) = if is_named name a then Some a else None
  if_named name None = None

  abbrev pub first_named : List ℕ → List A → Option A
  first_named name [] = None
  first_named name (a ∷ items) = if is_named name a then Some a else first_named name items

-- the item at a place, if there is one
abbrev pub item_at : {A : Type 0} → List A → Option ℕ → Option A
item_at items (Some place) = slice_get items place
item_at items None = None
