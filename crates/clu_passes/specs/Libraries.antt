-- Libraries of which each specification is whole and has its operations in ascending order.
use Rattle.std.specs.Prelude.{◌≡◌, ℕ, List, slice_get, Some}
use Rattle.clu_types.specs.declared.spec.Spec.{Spec}
use Rattle.clu_specs.specs.Specifications.{SpecHolds}
use Rattle.clu_operations.specs.ByName.{AreAscending}
use Rattle.clu_operations.specs.Modules.{operations_in, operation_name}

abbrev pub HoldAscending : List Spec → Type 0
HoldAscending specs = (i : ℕ) (s : Spec) → slice_get specs i ≡ Some s → SpecHolds s × AreAscending operation_name (operations_in s.form)
