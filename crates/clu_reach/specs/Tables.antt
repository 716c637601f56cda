-- What an instance of a routine takes of a program. A number above 64 bits counts as the greatest of 64 bits.
use Rattle.std.specs.Prelude.{ℕ, ◌/◌, ◌==◌, ◌&&◌, ◌||◌, nat_le, nat_lt, not, Bool, if◌then◌else◌, List, fold, length, Option, Some, None}
use Rattle.std.specs.Option.{is_some}
use Rattle.std.specs.List.{list_all}
use Rattle.clu_base.specs.declared.constants.Const.{Const}
use Rattle.clu_base.specs.declared.constants.Const.TheVariants as constant
use Rattle.clu_types.specs.declared.term.Actual.{Actual}
use Rattle.clu_wir.specs.Rooms.{plus, times}
use Rattle.clu_wir.specs.declared.region.Arm.{Arm}
use Rattle.clu_object.specs.declared.object.Hole.{Hole}
use Rattle.clu_object.specs.declared.object.ObjRoutine.{ObjRoutine}
use Rattle.clu_object.specs.declared.object.Region.{Region}
use Rattle.clu_reach.specs.Parameters.{constant_of}

-- how many holes name own variables, of the routine or of the cluster round it
abbrev pub own_step : ℕ → Hole → ℕ
own_step count hole = if hole.kind == 3 || hole.kind == 4 then plus count 1 else count

abbrev pub own_holes : List Hole → ℕ
own_holes holes = fold own_step 0 holes

-- the cells of the link table: one for the regions table, two for each use, one for each constant, hole that names an own
-- variable, and type
abbrev pub cells : ObjRoutine → ℕ
cells routine =
    plus (plus (times (length routine.uses) 2) (plus (plus (length routine.constants) (own_holes routine.holes)) (length routine.types))) 1

-- how many bytes a constant has that is a string
abbrev pub length_of : Const → Option ℕ
length_of constant.Null = None
length_of (constant.Bool b) = None
length_of (constant.Int n) = None
length_of (constant.Char c) = None
length_of (constant.Str text) = Some (length text)

abbrev pub text_length : Option Const → Option ℕ
text_length (Some c) = length_of c
text_length None = None

abbrev pub length_or_0 : Option ℕ → ℕ
length_or_0 (Some n) = n
length_or_0 None = 0

-- the nodes that an instance counts: those of the routine, and one for each 64 bytes of a string
abbrev pub weight : List Actual → ObjRoutine → ℕ
weight actuals routine = fold (λ n c. plus n (length_or_0 (text_length (constant_of actuals c)) / 64)) routine.nodes routine.constants

-- the bytes of a string of this length: its size and its bytes, in whole words
abbrev pub string_bytes : ℕ → ℕ
string_bytes length = times (plus (plus length 7 / 8) 1) 8

-- the most bytes of a table of regions: 24 without any, 56 for each region, which may make two cuts more, and 24 for each
-- arm, whose name is a string
abbrev pub arm_step : ℕ → Arm → ℕ
arm_step bytes arm = plus (plus bytes 24) (string_bytes (length arm.name))

abbrev pub region_step : ℕ → Region → ℕ
region_step bytes region = plus (fold arm_step bytes region.arms) 56

abbrev pub region_bound : List Region → ℕ
region_bound regions = fold region_step 24 regions

-- the most bytes of the fixed part and the data: a descriptor, cells, a descriptor and six cells for each operation that is
-- used, own variables, regions, strings
abbrev pub with_text : ℕ → Option ℕ → ℕ
with_text bytes (Some length) = plus bytes (string_bytes length)
with_text bytes None = bytes

abbrev pub bytes_of : List Actual → ObjRoutine → ℕ
bytes_of actuals routine =
    fold (λ n c. with_text n (text_length (constant_of actuals c)))
    (plus (plus (plus (plus 24 (times (cells routine) 8)) (times (length routine.uses) 72)) (times (own_holes routine.holes) 16))
    (region_bound routine.regions))
    routine.constants

-- a hole for a part of the runtime names one of the four
abbrev pub is_filled : Hole → Bool
is_filled hole = not (hole.kind == 7) || nat_lt hole.number 4

-- all constants are known, all parts of the runtime are there, and neither code nor bytes are more than the nodes allow
abbrev pub fits : ObjRoutine → List Actual → Bool
fits routine actuals =
    list_all (λ c. is_some (constant_of actuals c)) routine.constants && list_all is_filled routine.holes
    && nat_le (length routine.code) (times 64 routine.nodes)
    && nat_le (bytes_of actuals routine) (times 256 (weight actuals routine))
