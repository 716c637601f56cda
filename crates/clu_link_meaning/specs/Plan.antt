-- The parts of a program, and where each of them lies in the image: numbers computed from the lists.
use Rattle.std.specs.Prelude.{ℕ, zero, suc, ◌+◌, ◌*◌, ◌/◌, ◌-◌, nat_lt, if◌then◌else◌, List, [], ◌∷◌, length, drop, Option, Some, None}
use Rattle.std.specs.List.{position}
use Rattle.std.specs.Str.{bytes_eq}
use Rattle.clu_base.specs.declared.constants.Const.{Const}
use Rattle.clu_handlers.specs.declared.region.Cut.{Cut}
use Rattle.clu_object.specs.declared.object.ObjRoutine.{ObjRoutine}
use Rattle.clu_object.specs.declared.object.Region.{Region}

-- what has a descriptor and a link table: the number of its code, the number of its own type in the program, the callables
-- that its uses come to, what its constants are, its own variables by the holes that name them, and the numbers of its types
pub record Callable : Type 0 where
  pub code : ℕ
  pub own : ℕ
  pub uses : List ℕ
  pub constants : List Const
  pub variables : List ℕ
  pub types : List ℕ

-- a code stands once; of its regions the cuts are known, by which its table of regions is made
pub record Code : Type 0 where
  pub routine : ObjRoutine
  pub cuts : List Cut

pub record Plan : Type 0 where
  -- the parts of the runtime first, which have no table of regions of their own
  pub codes : List Code
  pub callables : List Callable
  pub strings : List (List ℕ)
  pub variables : ℕ
  -- by their numbers: failure, what stands before the name of an unhandled exception, and of each trap name and object
  pub failure : ℕ
  pub unhandled : ℕ
  pub traps : List (ℕ × Option ℕ)

-- ---- sizes

-- what the items before the n-th take
abbrev pub before : {X : Type 0} → (X → ℕ) → List X → ℕ → ℕ
before size [] n = 0
before size (x ∷ xs) zero = 0
before size (x ∷ xs) (suc n) = size x + before size xs n

abbrev pub all_of : {X : Type 0} → (X → ℕ) → List X → ℕ
all_of size [] = 0
all_of size (x ∷ xs) = size x + all_of size xs

abbrev pub parts : ℕ
parts = 4

abbrev pub words_of : Code → ℕ
words_of c = length c.routine.code

abbrev pub arms_in : List Region → ℕ
arms_in rs = all_of (λ (r : Region). length r.arms) rs

-- the words of a table of regions: a count, two for a cut, three for a region and for an arm
abbrev pub region_words : Code → ℕ
region_words c = 1 + 2 * length c.cuts + 3 * length c.routine.regions + 3 * arms_in c.routine.regions

-- size and bytes, in whole words
abbrev pub string_size : List ℕ → ℕ
string_size text = 8 * (1 + (length text + 7) / 8)

-- the cells of a link table
abbrev pub cells_of : Callable → ℕ
cells_of c = 1 + 2 * length c.uses + length c.constants + length c.variables + length c.types

-- ---- places

abbrev pub code_start : ℕ
code_start = 0x10000

-- in words, and as an address
abbrev pub first_word : Plan → ℕ → ℕ
first_word p n = before words_of p.codes n

abbrev pub code_at : Plan → ℕ → ℕ
code_at p n = code_start + 4 * first_word p n

abbrev pub fixed_start : Plan → ℕ
fixed_start p = code_start + 8 * ((all_of words_of p.codes + 1) / 2)

abbrev pub string_at : Plan → ℕ → ℕ
string_at p n = fixed_start p + before string_size p.strings n

abbrev pub descriptors_start : Plan → ℕ
descriptors_start p = fixed_start p + all_of string_size p.strings

abbrev pub descriptor_at : Plan → ℕ → ℕ
descriptor_at p n = descriptors_start p + 24 * n

abbrev pub tables_start : Plan → ℕ
tables_start p = descriptors_start p + 24 * length p.callables

abbrev pub table_at : Plan → ℕ → ℕ
table_at p n = tables_start p + 8 * before cells_of p.callables n

abbrev pub runtime_at : Plan → ℕ
runtime_at p = tables_start p + 8 * all_of cells_of p.callables

abbrev pub regions_start : Plan → ℕ
regions_start p = runtime_at p + 8 * (3 + 2 * length p.traps)

-- of a part of the runtime, the table of the runtime
abbrev pub regions_at : Plan → ℕ → ℕ
regions_at p n = if nat_lt n parts then runtime_at p else regions_start p + 8 * before region_words (drop parts p.codes) (n - parts)

abbrev pub data_start : Plan → ℕ
data_start p = regions_start p + 8 * all_of region_words (drop parts p.codes)

abbrev pub variable_at : Plan → ℕ → ℕ
variable_at p n = data_start p + 16 * n

abbrev pub image_end : Plan → ℕ
image_end p = data_start p + 16 * p.variables

-- the address of a string, by its bytes
abbrev pub or_none : Option ℕ → ℕ
or_none (Some n) = n
or_none None = 0

abbrev pub name_word : Plan → List ℕ → ℕ
name_word p text = string_at p (or_none (position (bytes_eq text) p.strings))
