-- What is in an object, for expressions and statements that look into one; None if the object is none of the kind.
use Rattle.std.specs.Prelude.{ℕ, ℤ, Bool, ◌&&◌, List, Option, None, Some, if◌then◌else◌, slice_get, bytes_eq}
use Rattle.clu_types.specs.CluType.{Actuals}
use Rattle.clu_layout.specs.Objects.{Routine, Object, bool_object, int_object, oneof_object, routine_object, reference, sealed, Cell, variant_cell}
use Rattle.clu_layout.specs.SameType.{same_actuals}

abbrev pub bool_in : Object → Option Bool
bool_in (bool_object b) = Some b
bool_in _ = None

abbrev pub int_in : Object → Option ℤ
int_in (int_object n) = Some n
int_in _ = None

abbrev pub routine_in : Object → Option Routine
routine_in (routine_object r heading) = Some r
routine_in _ = None

-- the object inside one that this cluster instance has sealed
abbrev pub unsealed : List ℕ → Actuals → Object → Option Object
unsealed cluster given (sealed c actuals o) = if bytes_eq c cluster && same_actuals actuals given then Some o else None
unsealed cluster given _ = None

-- the tag and value of a variant in a cell
abbrev pub variant_in : Option Cell → Option (List ℕ × Object)
variant_in (Some (variant_cell fs tag o)) = Some (tag, o)
variant_in _ = None

-- the tag and value of a oneof or variant
abbrev pub tagged_in : List Cell → Object → Option (List ℕ × Object)
tagged_in cells (oneof_object fs tag o) = Some (tag, o)
tagged_in cells (reference t c) = variant_in (slice_get cells c)
tagged_in cells _ = None
