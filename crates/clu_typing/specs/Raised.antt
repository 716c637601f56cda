-- Raises, and the sets of them.
use Rattle.std.specs.Prelude.{ℕ, ◌==◌, nat_le, nat_lt, Bool, List, [], filter, slice_get, unwrap_or}
use Rattle.std.specs.declared.cmp.Ordering.{Ordering}
use Rattle.std.specs.Ordering.{nat_cmp, then_cmp}
use Rattle.std.specs.List.Sorted.{IsNonDecreasingBy}
use Rattle.clu_types.specs.declared.term.TypeId.{TypeId}
use Rattle.clu_operations.specs.declared.words.NameId.{NameId}
use Rattle.clu_typing.specs.declared.raising.Raise.{Raise}
use Rattle.clu_typing.specs.declared.raising.RaisesId.{RaisesId}

-- All sets, and the types of the objects of all raises, each by its number. Which set was found for each routine type, and
-- which one of sets together.
pub record Raised : Type 0 where
  pub sets : List (List Raise)
  pub objects : List (List TypeId)
  pub invoked : List (TypeId × RaisesId)
  pub unions : List (List RaisesId × RaisesId)

abbrev pub nothing : RaisesId
nothing = record { 0 = 0 }

-- the raises of a set
abbrev pub raises_of : Raised → RaisesId → List Raise
raises_of all set = unwrap_or (slice_get all.sets set.0) []

abbrev pub is_of : NameId → Raise → Bool
is_of name raise = raise.name.0 == name.0

-- those of this name
abbrev pub raises_named : Raised → RaisesId → NameId → List Raise
raises_named all set name = filter (is_of name) (raises_of all set)

-- the types of the objects of a raise
abbrev pub objects_of : Raised → Raise → List TypeId
objects_of all raise = unwrap_or (slice_get all.objects raise.objects.0) []

-- ---- in ascending order by name, and those of one name by their objects

abbrev pub by_name : Raise → Raise → Ordering
by_name a b = nat_cmp a.name.0 b.name.0

abbrev pub by_objects : Raise → Raise → Ordering
by_objects a b = nat_cmp a.objects.0 b.objects.0

abbrev pub order : Raise → Raise → Ordering
order = then_cmp by_name by_objects

-- the numbers of names don't fall
abbrev pub AreAscending : List Raise → Type 0
AreAscending raises = IsNonDecreasingBy (λ (raise : Raise). raise.name.0) raises

-- those of each set
abbrev pub HaveAscending : List (List Raise) → Type 0
HaveAscending sets = (set : ℕ) → AreAscending (unwrap_or (slice_get sets set) [])

-- ---- where those of a name begin and end

abbrev pub is_before : ℕ → Raise → Bool
is_before name raise = nat_lt raise.name.0 name

abbrev pub is_up_to : ℕ → Raise → Bool
is_up_to name raise = nat_le raise.name.0 name
