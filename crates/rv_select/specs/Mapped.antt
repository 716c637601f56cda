-- Regions of steps as regions of words, where a list has the first word of each step and the number of words behind them.
use Rattle.std.specs.Prelude.{ℕ, ◌+◌, ◌-◌, ◌^◌, min, nat_le, Bool, true, false, List, [], ◌∷◌, ◌++◌, fold, length, map, slice_get, Option, Some, None}
use Rattle.clu_wir.specs.declared.region.Arm.{Arm}
use Rattle.clu_handlers.specs.declared.region.Region.{Region as StepRegion}
use Rattle.clu_object.specs.declared.object.Region.{Region}
use Rattle.rv_select.specs.declared.regions.Mapped.{Mapped}

abbrev pub or_none : Option ℕ → ℕ
or_none None = 0
or_none (Some n) = n

abbrev pub start_of : List ℕ → ℕ → ℕ
start_of starts step = or_none (slice_get starts step)

abbrev pub behind : List ℕ → ℕ → ℕ
behind starts step = start_of starts (min (step + 1) (2 ^ 32 - 1))

abbrev pub number_in : Option (Option ℕ) → Option ℕ
number_in None = None
number_in (Some n) = n

abbrev pub parent_of : List (Option ℕ) → Option ℕ → Option ℕ
parent_of numbers None = None
parent_of numbers (Some parent) = number_in (slice_get numbers parent)

abbrev pub mapped_arm : List ℕ → Arm → Arm
mapped_arm starts a = record a { target = start_of starts a.target }

-- the regions so far, and the number that each region of steps has among them
pub record Regioned : Type 0 where
  pub regions : List Region
  pub numbers : List (Option ℕ)

abbrev pub regioned : Mapped → Regioned
regioned m = record { regions = m.regions.items; numbers = m.numbers.items }

abbrev pub mapped_region : List ℕ → List (Option ℕ) → StepRegion → Region
mapped_region starts numbers r = record {
  first = start_of starts r.first;
  last = behind starts r.last - 1;
  parent = parent_of numbers r.parent;
  arms = map (mapped_arm starts) r.arms.items;
}

-- a region whose steps have no words is left out
abbrev pub with_number : Bool → List ℕ → Regioned → StepRegion → Regioned
with_number true starts m r = record { regions = m.regions; numbers = m.numbers ++ None ∷ [] }
with_number false starts m r = record { regions = m.regions ++ mapped_region starts m.numbers r ∷ []; numbers = m.numbers ++ Some (length m.regions) ∷ [] }

abbrev pub region_onto : List ℕ → Regioned → StepRegion → Regioned
region_onto starts m r = with_number (nat_le (behind starts r.last) (start_of starts r.first)) starts m r

abbrev pub regions_onto : List ℕ → Regioned → List StepRegion → Regioned
regions_onto starts m rs = fold (region_onto starts) m rs

abbrev pub mapped_regions : List ℕ → List StepRegion → List Region
mapped_regions starts rs = (regions_onto starts (record { regions = []; numbers = [] }) rs).regions
