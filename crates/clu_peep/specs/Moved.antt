-- Where the bounds and targets of regions go, by the numbers of the places that are left.
use Rattle.std.specs.Prelude.{◌≡◌, ℕ, suc, ◌+◌, Bool, if◌then◌else◌, nat_lt, List, [], ◌∷◌, map, take, option_map}
use Rattle.std.specs.List.{AllZip, filter}
use Rattle.clu_wir.specs.declared.region.Arm.{Arm}
use Rattle.clu_handlers.specs.declared.region.Region.{Region}

-- how many places before a place are left, which is the number of the first one that is left from there on
abbrev pub before : List ℕ → ℕ → ℕ
before [] place = 0
before (n ∷ left) place = if nat_lt n place then suc (before left place) else before left place

-- whether a place of a region is left
abbrev pub has_place : List ℕ → Region → Bool
has_place left r = nat_lt (before left r.first) (before left (r.last + 1))

-- which regions stay
abbrev pub staying : List ℕ → List Region → List Bool
staying left regions = map (has_place left) regions

-- how many are true
abbrev pub count_true : List Bool → ℕ
count_true [] = 0
count_true (b ∷ bs) = if b then suc (count_true bs) else count_true bs

-- the number of a region among those that stay
abbrev pub number_of : List Bool → ℕ → ℕ
number_of stays n = count_true (take n stays)

abbrev pub moved_arm : List ℕ → Arm → Arm
moved_arm left a = record a { target = before left a.target }

-- a region of the places that are left of another one
pub record IsMoved (left : List ℕ) (stays : List Bool) (old new : Region) : Type 0 where
  pub first : new.first ≡ before left old.first
  pub last : new.last + 1 ≡ before left (old.last + 1)
  pub parent : new.parent ≡ option_map (number_of stays) old.parent
  pub arms : new.arms.items ≡ map (moved_arm left) old.arms.items

-- the regions of which a place is left, in their order
abbrev pub AreMoved : List ℕ → List Region → List Region → Type 0
AreMoved left olds news = AllZip (IsMoved left (staying left olds)) (filter (has_place left) olds) news
