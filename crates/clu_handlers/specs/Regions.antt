-- Regions of code, the arms that take exceptions in them, and the cuts between them.
use Rattle.std.specs.Prelude.{◌≡◌, ℕ, ◌<◌, ◌≤◌, suc, List, [], ◌∷◌, ◌++◌, length, drop, Bool, true, false, Option, Some, None, nat_lt, nat_le, ◌&&◌, ◌||◌, slice_get, if◌then◌else◌, IsTrue}
use Rattle.std.specs.List.{list_all}
use Rattle.clu_handlers.specs.Arms.{arm_for}
use Rattle.clu_handlers.specs.declared.region.Region.{Region}
use Rattle.clu_handlers.specs.declared.region.Found.{Found}

-- Ranges of places, both ends of which are in them.

abbrev pub is_round : Region → ℕ → Bool
is_round r pc = nat_le r.first pc && nat_le pc r.last

abbrev pub is_apart : ℕ → ℕ → Region → Bool
is_apart first last r = nat_lt r.last first || nat_lt last r.first

abbrev pub is_in : ℕ → ℕ → Option Region → Bool
is_in first last None = false
is_in first last (Some r) = nat_le r.first first && nat_le last r.last

-- Whether a region may be added to these, of which outer ones come before those inside them: its parent is there and
-- holds its range, and each region that is neither the parent nor one round the parent lies wholly outside the range.
-- It is asked of the regions after the parent. Those before it that are not round it lie outside its range already.
abbrev pub can_add : List Region → ℕ → ℕ → Option ℕ → Bool
can_add rs first last None = nat_le first last && list_all (is_apart first last) rs
can_add rs first last (Some p) = nat_le first last && (is_in first last (slice_get rs p) && list_all (is_apart first last) (drop (suc p) rs))

-- each region may be added to those before it
abbrev pub nests_behind : List Region → List Region → Bool
nests_behind before [] = true
nests_behind before (r ∷ rs) = can_add before r.first r.last r.parent && nests_behind (before ++ r ∷ []) rs

abbrev pub are_nested : List Region → Bool
are_nested rs = nests_behind [] rs

-- Arms at places.

-- the arm of a region that takes a name at a place
abbrev pub arm_at : Region → ℕ → List ℕ → Option ℕ
arm_at r pc name = if is_round r pc then arm_for r.arms.items name else None

-- the same of the region with this number
abbrev pub arm_of : Option Region → ℕ → List ℕ → Option ℕ
arm_of None pc name = None
arm_of (Some r) pc name = arm_at r pc name

abbrev pub arm_in : List Region → ℕ → List ℕ → ℕ → Option ℕ
arm_in rs pc name n = arm_of (slice_get rs n) pc name

-- the region with one number holds that with another, which was added no earlier
abbrev pub Holds : Option Region → Option Region → Type 0
Holds (Some outer) (Some inner) = (outer.first ≤ inner.first) × (inner.last ≤ outer.last)
Holds _ _ = ⊥

-- the innermost of the regions round a place that have an arm for a name or for all others, and that arm
pub record IsInnermost (rs : List Region) (pc : ℕ) (name : List ℕ) (found : Found) : Type 0 where
  pub takes : arm_in rs pc name found.region ≡ Some found.arm
  pub last : (n arm : ℕ) → arm_in rs pc name n ≡ Some arm → n ≤ found.region
  pub innermost : (n arm : ℕ) → arm_in rs pc name n ≡ Some arm → Holds (slice_get rs n) (slice_get rs found.region)

-- How it is found: the last one, going over the regions in order.
abbrev pub found_next : Option Found → ℕ → Option ℕ → Option Found
found_next before n None = before
found_next before n (Some arm) = Some (record { region = n; arm = arm })

abbrev pub found_behind : Option Found → ℕ → List Region → ℕ → List ℕ → Option Found
found_behind before n [] pc name = before
found_behind before n (r ∷ rs) pc name = found_behind (found_next before n (arm_at r pc name)) (suc n) rs pc name
