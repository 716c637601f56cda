-- The regions of a routine, and the arm that takes a name at a place.
use Rattle.std.specs.Prelude.{ℕ, ◌==◌, Bool, nat_le, ◌&&◌, if◌then◌else◌, List, [], ◌∷◌, Option, Some, None}

-- an arm by the word of its name, 0 for all others; the word at which it begins, and the word of the frame with its mark
pub record FlatArm : Type 0 where
  pub name : ℕ
  pub target : ℕ
  pub mark : ℕ

-- the words from the first to the last, and the number of the region round it
pub record FlatRegion : Type 0 where
  pub first : ℕ
  pub last : ℕ
  pub parent : Option ℕ
  pub arms : List FlatArm

abbrev pub is_round : ℕ → FlatRegion → Bool
is_round n r = nat_le r.first n && nat_le n r.last

abbrev pub takes : ℕ → FlatArm → Bool
takes name a = nat_le 1 (if a.name == 0 then 1 else (if a.name == name then 1 else 0))

abbrev pub first_arm : ℕ → List FlatArm → Option FlatArm
first_arm name [] = None
first_arm name (a ∷ rest) = if takes name a then Some a else first_arm name rest

abbrev pub or_before : Option FlatArm → Option FlatArm → Option FlatArm
or_before None before = before
or_before (Some a) before = Some a

-- the last region round the place that has such an arm: outer ones come first
abbrev pub arm_behind : Option FlatArm → List FlatRegion → ℕ → ℕ → Option FlatArm
arm_behind before [] n name = before
arm_behind before (r ∷ rs) n name = arm_behind (if is_round n r then or_before (first_arm name r.arms) before else before) rs n name
