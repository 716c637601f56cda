-- What an instance takes of an image: the nodes that it counts, and the most bytes of the fixed part and the data.
use Rattle.std.specs.Prelude.{ℕ, ◌+◌, ◌*◌, ◌/◌, ◌==◌, ◌||◌, Bool, not, nat_lt, if◌then◌else◌, List, [], ◌∷◌, length, map, sum, Option, Some, None}
use Rattle.clu_base.specs.declared.constants.Const.{Const}
use Rattle.clu_base.specs.declared.constants.Const.TheVariants as constant
use Rattle.clu_types.specs.CluType.{Actuals}
use Rattle.clu_wir.specs.declared.region.Arm.{Arm}
use Rattle.clu_object.specs.declared.object.Hole.{Hole}
use Rattle.clu_object.specs.declared.object.ObjRoutine.{ObjRoutine}
use Rattle.clu_object.specs.declared.object.Region.{Region}
use Rattle.clu_link_meaning.specs.Closed.{constant_put_in}

-- a hole that names an own variable, of the routine or of the cluster round it
abbrev pub is_own : Hole → Bool
is_own h = h.kind == 3 || h.kind == 4

abbrev pub count_own : List Hole → ℕ
count_own [] = 0
count_own (h ∷ hs) = (if is_own h then 1 else 0) + count_own hs

-- a hole for a part of the runtime names one of the four
abbrev pub is_filled : Hole → Bool
is_filled h = not (h.kind == 7) || nat_lt h.number 4

-- the bytes of a string of this length: its size and its bytes, in whole words
abbrev pub string_bytes : ℕ → ℕ
string_bytes length = 8 * (1 + (length + 7) / 8)

-- the length of a constant that is a string
abbrev pub length_of : Const → Option ℕ
length_of constant.Null = None
length_of (constant.Bool b) = None
length_of (constant.Int n) = None
length_of (constant.Char c) = None
length_of (constant.Str text) = Some (length text)

abbrev pub text_length : Option Const → Option ℕ
text_length (Some c) = length_of c
text_length None = None

-- a string counts a node for each 64 bytes
abbrev pub text_nodes : Option ℕ → ℕ
text_nodes (Some length) = length / 64
text_nodes None = 0

abbrev pub text_bytes : Option ℕ → ℕ
text_bytes (Some length) = string_bytes length
text_bytes None = 0

abbrev pub weight : Actuals → ObjRoutine → ℕ
weight given o = o.nodes + sum (map (λ c. text_nodes (text_length (constant_put_in given c))) o.constants)

-- the most bytes of a table of regions, with the names of arms
abbrev pub arm_bytes : Arm → ℕ
arm_bytes a = 24 + string_bytes (length a.name)

abbrev pub region_bytes : Region → ℕ
region_bytes r = 56 + sum (map arm_bytes r.arms)

abbrev pub table_bytes : List Region → ℕ
table_bytes regions = 24 + sum (map region_bytes regions)

-- the cells of the link table: one for the table of regions, two for each use, one for each constant, own variable and type
abbrev pub cell_count : ObjRoutine → ℕ
cell_count o = 1 + 2 * length o.uses + length o.constants + count_own o.holes + length o.types

-- a descriptor, cells, a descriptor and six cells for each operation that is used, own variables, regions, strings
abbrev pub bytes_of : Actuals → ObjRoutine → ℕ
bytes_of given o =
    24 + 8 * cell_count o + 72 * length o.uses + 16 * count_own o.holes + table_bytes o.regions
    + sum (map (λ c. text_bytes (text_length (constant_put_in given c))) o.constants)
