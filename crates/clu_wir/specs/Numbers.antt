-- The numbers of kinds of holes, of primitives and of traps.
use Rattle.std.specs.Prelude.{ℕ, List, [], ◌∷◌}
use Rattle.clu_wir.specs.declared.hole.HoleKind.{HoleKind}
use Rattle.clu_wir.specs.declared.hole.HoleKind.TheVariants as kind
use Rattle.clu_wir.specs.declared.primitive.Primitive.{Primitive}
use Rattle.clu_wir.specs.declared.primitive.Primitive.TheVariants as primitive
use Rattle.clu_wir.specs.declared.trap.Trap.{Trap}
use Rattle.clu_wir.specs.declared.trap.Trap.TheVariants as trap

-- the number of a kind in an object file
abbrev pub kind_number : HoleKind → ℕ
kind_number kind.Entry = 0
kind_number kind.Descriptor = 1
kind_number kind.Constant = 2
kind_number kind.RoutineOwn = 3
kind_number kind.ClusterOwn = 4
kind_number kind.TypeWord = 5
kind_number kind.Regions = 6
kind_number kind.Runtime = 7
kind_number kind.Code = 8
kind_number kind.TypeCell = 5

-- the number by which word code calls a primitive
abbrev pub primitive_number : Primitive → ℕ
primitive_number primitive.Allocate = 0
primitive_number primitive.Write = 1
primitive_number primitive.TakeByte = 2
primitive_number primitive.PeekByte = 3
primitive_number primitive.SaveByte = 4

-- the primitives, each at its number
abbrev pub primitives : List Primitive
primitives =
    primitive.Allocate ∷ primitive.Write ∷ primitive.TakeByte ∷ primitive.PeekByte ∷ primitive.SaveByte ∷ []

-- the number by which code names a trap
abbrev pub trap_number : Trap → ℕ
trap_number trap.Overflow = 0
trap_number trap.ZeroDivide = 1
trap_number trap.Bounds = 2
trap_number trap.IllegalChar = 3
trap_number trap.WrongTag = 4
trap_number trap.Uninitialized = 5
