-- Lists that are closed under what each of their items asks, and lists that grow.
use Rattle.std.specs.Prelude.{◌≡◌, ℕ, ◌≤◌, Bool, true, List, ◌++◌, length, slice_get, Contains, Option, Some}

module _ {N : Type 0} (asks : N → Option (List N)) where
  -- it asks something, and that is among these
  abbrev pub IsAnswered : List N → N → Type 0
  IsAnswered those n = (more : List N) × (asks n ≡ Some more) × ((m : N) → Contains more m → Contains those m)

  -- so it is of each of these
  abbrev pub IsClosed : List N → Type 0
  IsClosed those = (n : N) → Contains those n → IsAnswered those n

  -- so it is of each of these that is of a kind
  abbrev pub IsClosedFor : (N → Bool) → List N → Type 0
  IsClosedFor is_of those = (n : N) → Contains those n → is_of n ≡ true → IsAnswered those n

  -- it is one of some of which each is answered by them
  abbrev pub IsMet : N → Type 0
  IsMet n = (those : List N) × Contains those n × IsClosed those

module _ {A : Type 0} where
  abbrev pub IsFrontOf : List A → List A → Type 0
  IsFrontOf front whole = (more : List A) × (whole ≡ front ++ more)

-- a list with others at its end, but for those that it has
pub record HasAdded {A : Type 0} (old added new : List A) : Type 0 where
  pub front : IsFrontOf old new
  pub here : (a : A) → Contains added a → Contains new a
  pub from : (k : ℕ) (a : A) → length old ≤ k → slice_get new k ≡ Some a → Contains added a
