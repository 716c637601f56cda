-- The regions of a routine's code as they are made.
use Rattle.std.specs.Prelude.{IsTrue, ℕ, zero, suc, List, [], ◌∷◌, ◌++◌, length, Option}
use Rattle.std.specs.List.{list_all}
use Rattle.clu_wir.specs.Adding.{Added, are_nested, is_placed}
use Rattle.clu_wir.specs.declared.region.Arm.{Arm}
use Rattle.clu_frames.specs.declared.steps.Planned.{Planned}

abbrev pub added_of : Planned → Added
added_of p = record { first = p.first; last = p.last; parent = p.parent; arms = p.arms.items }

-- a region that begins at a place, and has no end yet
abbrev pub begun_at : ℕ → Option ℕ → Added
begun_at place parent = record { first = place; last = place; parent = parent; arms = [] }

abbrev pub ended_at : ℕ → Added → Added
ended_at last r = record { first = r.first; last = last; parent = r.parent; arms = r.arms }

abbrev pub with_arm : Arm → Added → Added
with_arm arm r = record { first = r.first; last = r.last; parent = r.parent; arms = r.arms ++ arm ∷ [] }

-- the region of this number changed
abbrev pub changed : (Added → Added) → ℕ → List Added → List Added
changed change n [] = []
changed change zero (r ∷ rs) = change r ∷ rs
changed change (suc n) (r ∷ rs) = r ∷ changed change n rs

-- What holds of the regions of each routine's code.
pub record AreRegions {X : Type 0} (code : List X) (regions : List Added) : Type 0 where
  -- each may be added to those before it
  pub nested : IsTrue (are_nested regions)
  -- their bounds and targets are places of the code
  pub placed : IsTrue (list_all (is_placed (length code)) regions)
