-- Regions of code in the order in which they are added. Their places count from 0, their numbers too.
use Rattle.std.specs.Prelude.{ℕ, suc, List, [], ◌∷◌, ◌++◌, drop, Bool, true, false, ◌&&◌, ◌||◌, Option, Some, None, nat_lt, nat_le, slice_get}
use Rattle.std.specs.List.{list_all}
use Rattle.clu_wir.specs.declared.region.Arm.{Arm}

pub record Added : Type 0 where
  pub first : ℕ
  pub last : ℕ
  -- the number of the innermost region round it
  pub parent : Option ℕ
  pub arms : List Arm

abbrev pub added : ℕ → ℕ → Option ℕ → List Arm → Added
added first last parent arms = record { first = first; last = last; parent = parent; arms = arms }

-- Whether a region may be added to these, of which outer ones come before those inside them: its parent is there and
-- holds its range, and each region after the parent lies wholly outside the range. Those before the parent that are not
-- round it lie outside its range already.

abbrev pub is_apart : ℕ → ℕ → Added → Bool
is_apart first last r = nat_lt r.last first || nat_lt last r.first

abbrev pub is_in : ℕ → ℕ → Option Added → Bool
is_in first last None = false
is_in first last (Some r) = nat_le r.first first && nat_le last r.last

abbrev pub can_add : List Added → ℕ → ℕ → Option ℕ → Bool
can_add rs first last None = nat_le first last && list_all (is_apart first last) rs
can_add rs first last (Some p) = nat_le first last && (is_in first last (slice_get rs p) && list_all (is_apart first last) (drop (suc p) rs))

-- each of the second list may be added to those before it
abbrev pub nests_behind : List Added → List Added → Bool
nests_behind before [] = true
nests_behind before (r ∷ rs) = can_add before r.first r.last r.parent && nests_behind (before ++ r ∷ []) rs

abbrev pub are_nested : List Added → Bool
are_nested rs = nests_behind [] rs

-- whether the places of a region are below a number
abbrev pub is_placed : ℕ → Added → Bool
is_placed count r = nat_lt r.first count && (nat_lt r.last count && list_all (λ (a : Arm). nat_lt a.target count) r.arms)
