-- The bytes of an object, version 2. Each number has the lowest byte first.
use Rattle.std.specs.Prelude.{ℕ, Bool, true, false, List, [], ◌∷◌, ◌++◌, length, codes, Option, Some, None}
use Rattle.std.specs.List.{flat_map}
use Rattle.byteorder.specs.Endian.{little_bytes}
use Rattle.clu_base.specs.declared.constants.Const.{Const}
use Rattle.clu_base.specs.declared.constants.Const.TheVariants as value
use Rattle.clu_base.specs.declared.constants.ObjConst.{ObjConst}
use Rattle.clu_base.specs.declared.constants.ObjConst.TheVariants as constant
use Rattle.clu_wir.specs.declared.region.Arm.{Arm}
use Rattle.clu_format.specs.Fields.{count_bytes, signed_bytes, text16_bytes, text64_bytes}
use Rattle.clu_object.specs.declared.object.Hole.{Hole}
use Rattle.clu_object.specs.declared.object.ObjRoutine.{ObjRoutine}
use Rattle.clu_object.specs.declared.object.Object.{Object}
use Rattle.clu_object.specs.declared.object.Region.{Region}

abbrev pub number_bytes : ℕ → List ℕ
number_bytes n = little_bytes 4 n

-- items after their count
abbrev pub list_bytes : {X : Type 0} → (X → List ℕ) → List X → List ℕ
list_bytes item_bytes items = count_bytes (length items) ++ flat_map item_bytes items

abbrev pub words_bytes : List ℕ → List ℕ
words_bytes words = list_bytes number_bytes words

abbrev pub texts_bytes : List (List ℕ) → List ℕ
texts_bytes texts = list_bytes text64_bytes texts

abbrev pub hole_bytes : Hole → List ℕ
hole_bytes h = number_bytes h.at ++ (h.kind ∷ []) ++ number_bytes h.number

abbrev pub holes_bytes : List Hole → List ℕ
holes_bytes holes = list_bytes hole_bytes holes

abbrev pub bool_byte : Bool → ℕ
bool_byte false = 0
bool_byte true = 1

-- a value after the number of its kind
abbrev pub value_bytes : Const → List ℕ
value_bytes value.Null = 0 ∷ []
value_bytes (value.Bool b) = 1 ∷ bool_byte b ∷ []
value_bytes (value.Int n) = (2 ∷ []) ++ signed_bytes n
value_bytes (value.Char c) = 3 ∷ c ∷ []
value_bytes (value.Str text) = (4 ∷ []) ++ text64_bytes text

abbrev pub constant_bytes : ObjConst → List ℕ
constant_bytes (constant.Value v) = value_bytes v
constant_bytes (constant.Param number) = (5 ∷ []) ++ number_bytes number

abbrev pub constants_bytes : List ObjConst → List ℕ
constants_bytes constants = list_bytes constant_bytes constants

abbrev pub arm_bytes : Arm → List ℕ
arm_bytes a = text16_bytes a.name ++ number_bytes a.target ++ number_bytes a.mark

abbrev pub arms_bytes : List Arm → List ℕ
arms_bytes arms = list_bytes arm_bytes arms

-- the number of the region round one, or the one for no region
abbrev pub parent_number : Option ℕ → ℕ
parent_number (Some n) = n
parent_number None = 0xffff_ffff

unfoldable pub region_bytes : Region → List ℕ
region_bytes r = number_bytes r.first ++ number_bytes r.last ++ number_bytes (parent_number r.parent) ++ arms_bytes r.arms

abbrev pub regions_bytes : List Region → List ℕ
regions_bytes regions = list_bytes region_bytes regions

unfoldable pub routine_bytes : ObjRoutine → List ℕ
routine_bytes r =
    text16_bytes r.name ++ number_bytes r.nodes ++ words_bytes r.code ++ holes_bytes r.holes
    ++ texts_bytes r.uses ++ constants_bytes r.constants ++ texts_bytes r.types ++ regions_bytes r.regions

abbrev pub routines_bytes : List ObjRoutine → List ℕ
routines_bytes routines = list_bytes routine_bytes routines

abbrev pub object_bytes : Object → List ℕ
object_bytes o = codes "CLUO" ++ number_bytes 2 ++ text16_bytes o.module ++ routines_bytes o.routines
