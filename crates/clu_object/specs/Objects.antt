-- What an object is: one that is read again once it is written.
use Rattle.std.specs.Prelude.{ℕ, ℤ, pos, negsuc, Bool, true, ◌&&◌, nat_lt, nat_le, List, [], ◌∷◌, ◌++◌, length}
use Rattle.std.specs.List.{list_all}
use Rattle.clu_base.specs.declared.constants.Const.{Const}
use Rattle.clu_base.specs.declared.constants.Const.TheVariants as value
use Rattle.clu_base.specs.declared.constants.ObjConst.{ObjConst}
use Rattle.clu_base.specs.declared.constants.ObjConst.TheVariants as constant
use Rattle.clu_wir.specs.declared.region.Arm.{Arm}
use Rattle.clu_format.specs.Fields.{is_module_name}
use Rattle.clu_object.specs.declared.object.ObjRoutine.{ObjRoutine}
use Rattle.clu_object.specs.declared.object.Object.{Object}
use Rattle.clu_object.specs.declared.object.Region.{Region}
use Rattle.clu_object.specs.Holes.{has_holes}
use Rattle.clu_object.specs.Nesting.{nests, span}
use Rattle.clu_object.specs.ObjectReading.{is_routine_name, is_arm_name, is_use_text, is_type_text}

-- four bytes hold the number
abbrev pub is_number : ℕ → Bool
is_number n = nat_le n 0xffff_ffff

-- eight bytes hold the length
abbrev pub is_content : List ℕ → Bool
is_content text = nat_lt (length text) 0x1_0000_0000_0000_0000

abbrev pub is_list : {X : Type 0} → (X → Bool) → List X → Bool
is_list test items = is_number (length items) && list_all test items

abbrev pub is_use : List ℕ → Bool
is_use text = is_content text && is_use_text text

abbrev pub is_type : List ℕ → Bool
is_type text = is_content text && is_type_text text

-- eight bytes hold the number by two's complement
abbrev pub is_int : ℤ → Bool
is_int (pos n) = nat_lt n 0x8000_0000_0000_0000
is_int (negsuc n) = nat_lt n 0x8000_0000_0000_0000

abbrev pub is_value : Const → Bool
is_value value.Null = true
is_value (value.Bool b) = true
is_value (value.Int n) = is_int n
is_value (value.Char c) = true
is_value (value.Str text) = is_content text

-- parameters are numbered from 1
abbrev pub is_constant : ObjConst → Bool
is_constant (constant.Value v) = is_value v
is_constant (constant.Param n) = nat_lt 0 n && is_number n

abbrev pub is_arm : ℕ → Arm → Bool
is_arm words a = is_arm_name a.name && nat_lt a.target words && is_number a.mark

-- a region lies in a routine of so many code words, with the targets of its arms
abbrev pub is_region : ℕ → Region → Bool
is_region words r = nat_lt r.last words && is_list (is_arm words) r.arms

-- each region nests in those before it
abbrev pub are_regions : ℕ → List (ℕ × ℕ) → List Region → Bool
are_regions words before [] = true
are_regions words before (r ∷ regions) = is_region words r && nests before r.first r.last r.parent && are_regions words (before ++ span r ∷ []) regions

-- a routine but for its uses, types and regions
abbrev pub is_coded : ObjRoutine → Bool
is_coded r = is_routine_name r.name && is_number r.nodes && is_list is_number r.code && is_number (length r.holes) && has_holes r && is_list is_constant r.constants

abbrev pub is_routine : ObjRoutine → Bool
is_routine r = is_coded r && is_list is_use r.uses && is_list is_type r.types && is_number (length r.regions) && are_regions (length r.code) [] r.regions

abbrev pub is_object : Object → Bool
is_object o = is_module_name o.module && is_list is_routine o.routines
