-- The words of an image: the code with its holes filled, and the fixed part, by the plan.
use Rattle.std.specs.Prelude.{◌≡◌, ℕ, suc, ◌+◌, ◌*◌, ◌/◌, ◌%◌, ◌-◌, ◌^◌, ◌==◌, if◌then◌else◌, List, [], ◌∷◌, ◌++◌, length, map, replicate, drop, Option, Some, None, slice_get, slice_set, get_or}
use Rattle.std.specs.List.{flat_map}
use Rattle.std.specs.Int.{cast_unsigned, to_le_bytes, w64}
use Rattle.clu_base.specs.declared.constants.Const.{Const}
use Rattle.clu_base.specs.declared.constants.Const.TheVariants as constant
use Rattle.clu_wir.specs.declared.region.Arm.{Arm}
use Rattle.clu_object.specs.declared.object.Hole.{Hole}
use Rattle.clu_object.specs.declared.object.ObjRoutine.{ObjRoutine}
use Rattle.clu_object.specs.declared.object.Region.{Region}
use Rattle.rv_isa.specs.Image.{Contents}
use Rattle.rv_select.specs.Tables.{table_words, rows_at}
use Rattle.clu_link_meaning.specs.Bounds.{count_own, is_own}
use Rattle.clu_link_meaning.specs.Plan.{Callable, Code, Plan, parts, code_at, string_at, descriptor_at, table_at, regions_at, variable_at, name_word}

-- ---- code

-- what a LUI and an ADDI become that are to give a number
abbrev pub upper : ℕ → ℕ → ℕ
upper word v = word % 2 ^ 12 + (v + 2048) % 2 ^ 32 / 2 ^ 12 * 2 ^ 12

abbrev pub lower : ℕ → ℕ → ℕ
lower word v = word % 2 ^ 20 + v % 2 ^ 12 * 2 ^ 20

abbrev pub filled : List ℕ → ℕ → ℕ → List ℕ
filled words at v = slice_set (slice_set words at (upper (get_or words at 0) v)) (suc at) (lower (get_or words (suc at) 0) v)

-- the number of the first cell for uses as descriptors, constants, own variables, types
abbrev pub descriptor_cells : ObjRoutine → ℕ
descriptor_cells o = 1 + length o.uses

abbrev pub constant_cells : ObjRoutine → ℕ
constant_cells o = 1 + 2 * length o.uses

abbrev pub own_cells : ObjRoutine → ℕ
own_cells o = constant_cells o + length o.constants

abbrev pub type_cells : ObjRoutine → ℕ
type_cells o = own_cells o + count_own o.holes

module _ (p : Plan) where
  -- what a hole gives, in the code n, where so many holes before it name own variables
  abbrev pub number_of : ℕ → ObjRoutine → ℕ → Hole → ℕ
  number_of n o own h =
      if h.kind == 0 then 8 * (1 + h.number) else
      if h.kind == 1 then 8 * (descriptor_cells o + h.number) else
      if h.kind == 2 then 8 * (constant_cells o + h.number) else
      if is_own h then 8 * (own_cells o + own) else
      if h.kind == 5 then 8 * (type_cells o + h.number) else
      if h.kind == 6 then regions_at p n else
      if h.kind == 7 then code_at p h.number else code_at p n + 4 * h.number

  abbrev pub with_holes : ℕ → ObjRoutine → ℕ → List Hole → List ℕ → List ℕ
  with_holes n o own [] words = words
  with_holes n o own (h ∷ hs) words = with_holes n o (if is_own h then suc own else own) hs (filled words h.at (number_of n o own h))

  abbrev pub routine_words : ℕ → ObjRoutine → List ℕ
  routine_words n o = with_holes n o 0 o.holes o.code

  abbrev pub code_from : ℕ → List Code → List ℕ
  code_from n [] = []
  code_from n (c ∷ cs) = routine_words n c.routine ++ code_from (suc n) cs

  abbrev pub code_words : List ℕ
  code_words = code_from 0 p.codes

  -- ---- the fixed part

  abbrev pub constant_word : Const → ℕ
  constant_word constant.Null = 0
  constant_word (constant.Bool b) = if b then 1 else 0
  constant_word (constant.Int n) = cast_unsigned w64 n
  constant_word (constant.Char c) = c
  constant_word (constant.Str text) = name_word p text

  abbrev pub code_of : Option Callable → ℕ
  code_of None = 0
  code_of (Some c) = c.code

  abbrev pub entry_at : ℕ → ℕ
  entry_at n = code_at p (code_of (slice_get p.callables n))

  -- entry, own type, link table
  abbrev pub descriptor_words : ℕ → Callable → List ℕ
  descriptor_words n c = code_at p c.code ∷ c.own ∷ table_at p n ∷ []

  abbrev pub link_table : Callable → List ℕ
  link_table c =
      regions_at p c.code ∷ (map entry_at c.uses ++ (map (descriptor_at p) c.uses ++ (map constant_word c.constants ++ (map (variable_at p) c.variables ++ c.types))))

  abbrev pub object_word : Option ℕ → ℕ
  object_word None = 0
  object_word (Some text) = string_at p text

  abbrev pub trap_words : ℕ × Option ℕ → List ℕ
  trap_words t = string_at p t.0 ∷ object_word t.1 ∷ []

  abbrev pub runtime_words : List ℕ
  runtime_words = string_at p p.failure ∷ string_at p p.unhandled ∷ descriptor_at p 0 ∷ flat_map trap_words p.traps

  abbrev pub arm_words : List Region → List ℕ
  arm_words regions = flat_map (λ (r : Region). map (λ (a : Arm). name_word p a.name) r.arms) regions

  abbrev pub region_table : ℕ → Code → List ℕ
  region_table n c = table_words c.cuts c.routine.regions (code_at p n) (rows_at (regions_at p n) (length c.cuts)) (arm_words c.routine.regions)

  abbrev pub descriptors_from : ℕ → List Callable → List ℕ
  descriptors_from n [] = []
  descriptors_from n (c ∷ cs) = descriptor_words n c ++ descriptors_from (suc n) cs

  abbrev pub regions_from : ℕ → List Code → List ℕ
  regions_from n [] = []
  regions_from n (c ∷ cs) = region_table n c ++ regions_from (suc n) cs

  -- the words behind the strings
  abbrev pub fixed_words : List ℕ
  fixed_words = descriptors_from 0 p.callables ++ (flat_map link_table p.callables ++ (runtime_words ++ regions_from parts (drop parts p.codes)))

  abbrev pub string_bytes : List ℕ → List ℕ
  string_bytes text = to_le_bytes w64 (length text) ++ (text ++ replicate (8 * ((length text + 7) / 8) - length text) 0)

  abbrev pub fixed_bytes : List ℕ
  fixed_bytes = flat_map string_bytes p.strings ++ flat_map (to_le_bytes w64) fixed_words

  abbrev pub image_of : Contents
  image_of = record { entry = 0; code = code_words; fixed = fixed_bytes; area = replicate (16 * p.variables) 0 }

abbrev pub IsImageOf : Plan → Contents → Type 0
IsImageOf p image = image ≡ image_of p
