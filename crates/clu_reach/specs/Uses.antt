-- What uses are.
use Rattle.std.specs.Prelude.{◌≡◌, Bool, true, false, List, [], ◌∷◌, Option, Some, None}
use Rattle.clu_builtin.specs.Operation.{Operation}
use Rattle.clu_reach.specs.declared.denoting.Sort.{Sort}
use Rattle.clu_reach.specs.declared.denoting.Sort.TheVariants as sort

-- a built-in operation that iterates or needs others is an instance
abbrev pub sort_of_built : {X : Type 0} → Bool → List X → Sort
sort_of_built true needs = sort.Instance
sort_of_built false [] = sort.Operation
sort_of_built false (need ∷ needs) = sort.Instance

-- a use that denotes an operation of a built-in type: the type's table has it, and its row says what it is
abbrev pub IsSortOf : Option Operation → Option Sort → Type 0
IsSortOf found None = Unit {0}
IsSortOf None (Some s) = ⊥
IsSortOf (Some operation) (Some s) = s ≡ sort_of_built operation.iter operation.needs
