-- The table in which the arm of an exception is searched, word by word.
use Rattle.std.specs.Prelude.{◌≡◌, ℕ, suc, ◌+◌, ◌*◌, ◌^◌, ◌%◌, ◌<◌, ◌≤◌, ◌==◌, ◌&&◌, nat_le, List, [], ◌∷◌, ◌++◌, length, take, drop, Bool, true, false, not, Option, None, Some, if◌then◌else◌}
use Rattle.clu_wir.specs.declared.region.Arm.{Arm}
use Rattle.clu_handlers.specs.declared.region.Cut.{Cut}
use Rattle.clu_handlers.specs.declared.region.Region.{Region as Ranged}
use Rattle.clu_handlers.specs.Cuts.{Ascend, StartAt, named_at, no_region}
use Rattle.clu_object.specs.declared.object.Region.{Region}

-- the address so many items of a size after another; addresses wrap at 64 bits
abbrev pub behind : ℕ → ℕ → ℕ → ℕ
behind address number size = (address + number * size % 2 ^ 64) % 2 ^ 64

-- of a word of code, and of a row of a region or an arm
abbrev pub code_address : ℕ → ℕ → ℕ
code_address code word = behind code word 4

abbrev pub row_address : ℕ → ℕ → ℕ
row_address rows number = behind rows number 24

-- of a region's row, and 0 for no region
abbrev pub region_address : ℕ → Option ℕ → ℕ
region_address rows None = 0
region_address rows (Some number) = row_address rows number

-- Rows.

-- of a cut: the address from which on it holds, and the row of the innermost region there
abbrev pub cut_row : ℕ → ℕ → Cut → List ℕ
cut_row code rows c = code_address code c.from ∷ (if c.region == no_region then 0 else row_address rows c.region) ∷ []

-- of a region: its parent's row, and where the rows of its arms begin and end
abbrev pub region_row : ℕ → ℕ → Region → List ℕ
region_row rows arms r = region_address rows r.parent ∷ arms ∷ row_address arms (length r.arms) ∷ []

-- of an arm: its name, where it begins, and how far the word with its mark is from the place of the frame
abbrev pub arm_row : ℕ → ℕ → Arm → List ℕ
arm_row code name a = name ∷ code_address code a.target ∷ (a.mark * 8) ∷ []

-- Rows after the words before them.

abbrev pub cuts_behind : ℕ → ℕ → List ℕ → List Cut → List ℕ
cuts_behind code rows before [] = before
cuts_behind code rows before (c ∷ cs) = cuts_behind code rows (before ++ cut_row code rows c) cs

abbrev pub regions_behind : ℕ → ℕ → List ℕ → List Region → List ℕ
regions_behind rows arms before [] = before
regions_behind rows arms before (r ∷ rs) = regions_behind rows (row_address arms (length r.arms)) (before ++ region_row rows arms r) rs

abbrev pub added : Bool → List ℕ → List ℕ → List ℕ
added true before row = before ++ row
added false before row = before

-- whether an arm takes all names
abbrev pub is_others : Arm → Bool
is_others a = length a.name == 0

abbrev pub named_behind : ℕ → List ℕ → List Arm → List ℕ → List ℕ
named_behind code before [] names = before
named_behind code before (a ∷ rest) [] = before
named_behind code before (a ∷ rest) (n ∷ ns) = named_behind code (added (not (is_others a)) before (arm_row code n a)) rest ns

abbrev pub others_behind : ℕ → List ℕ → List Arm → List ℕ
others_behind code before [] = before
others_behind code before (a ∷ rest) = others_behind code (added (is_others a) before (arm_row code 0 a)) rest

-- the arms of a region, those of all names last
abbrev pub own_behind : ℕ → List ℕ → List Arm → List ℕ → List ℕ
own_behind code before arms names = others_behind code (named_behind code before arms names) arms

abbrev pub arms_behind : ℕ → List ℕ → List Region → List ℕ → List ℕ
arms_behind code before [] names = before
arms_behind code before (r ∷ rs) names = arms_behind code (own_behind code before r.arms (take (length r.arms) names)) rs (drop (length r.arms) names)

-- The table.

-- the row of the first region after so many cuts
abbrev pub rows_at : ℕ → ℕ → ℕ
rows_at at cuts = behind (behind at 1 8) cuts 16

-- the number of cuts, their rows, the rows of the regions, and those of their arms
abbrev pub table_words : List Cut → List Region → ℕ → ℕ → List ℕ → List ℕ
table_words cuts regions code rows names =
    arms_behind code (regions_behind rows (row_address rows (length regions)) (cuts_behind code rows (length cuts ∷ []) cuts) regions) regions names

-- whether a place is in a region, and the number of the innermost region round a place: the last of those round it, since
-- each comes before those inside it
abbrev pub is_round : Region → ℕ → Bool
is_round r pc = nat_le r.first pc && nat_le pc r.last

abbrev pub innermost_behind : ℕ → ℕ → List Region → ℕ → ℕ
innermost_behind before n [] pc = before
innermost_behind before n (r ∷ rs) pc = innermost_behind (if is_round r pc then n else before) (suc n) rs pc

-- ascending from the routine's first word on, cuts name the innermost region of each place
pub record AreCutsOf (regions : List Region) (cuts : List Cut) : Type 0 where
  pub start : StartAt 0 cuts
  pub ascend : Ascend 0 cuts
  pub few : length cuts ≤ 2 * length regions + 1
  pub innermost : (pc : ℕ) → pc < 2 ^ 32 → named_at cuts pc ≡ innermost_behind no_region 0 regions pc

-- regions of the same ranges
abbrev pub SameRanges : List Ranged → List Region → Type 0
SameRanges [] [] = Unit {0}
SameRanges (s ∷ ss) (r ∷ rs) = (s.first ≡ r.first) × (s.last ≡ r.last) × SameRanges ss rs
SameRanges _ _ = ⊥

pub record IsTable (regions : List Region) (code at : ℕ) (names words : List ℕ) : Type 0 where
  pub cuts : List Cut
  pub are_cuts : AreCutsOf regions cuts
  pub all : words ≡ table_words cuts regions code (rows_at at (length cuts)) names
