-- The table of a routine's regions in memory, and what the search finds in it.
use Rattle.std.specs.Prelude.{◌≡◌, ◌⊎◌, ℕ, zero, suc, ◌+◌, ◌*◌, ◌^◌, ◌<◌, ◌≤◌, ◌==◌, true, not, if◌then◌else◌, List, [], ◌∷◌, length, slice_get, Option, Some, None}
use Rattle.std.specs.Int.{w64}
use Rattle.rv_machine.specs.State.{State, read_at}
use Rattle.laws_parts.specs.Regions.{FlatArm, FlatRegion, arm_behind, first_arm, is_round, or_before, takes}
use Rattle.laws_parts.specs.Part.{Regs, Runs, Stood, listed, place}

-- Rows in memory.

pub record ArmRow (m : State) (target : ℕ → ℕ) (at : ℕ) (a : FlatArm) : Type 0 where
  pub name : read_at w64 m at ≡ Some a.name
  pub begins : read_at w64 m (at + 8) ≡ Some (target a.target)
  pub mark : read_at w64 m (at + 16) ≡ Some (a.mark * 8)
  pub room : at + 24 < 2 ^ 64

abbrev pub ArmRows : State → (ℕ → ℕ) → ℕ → List FlatArm → Type 0
ArmRows m target at [] = Unit {0}
ArmRows m target at (a ∷ rest) = ArmRow m target at a × ArmRows m target (at + 24) rest

abbrev pub row_of : ℕ → Option ℕ → ℕ
row_of rows None = 0
row_of rows (Some n) = rows + 24 * n

pub record RegionRow (m : State) (target : ℕ → ℕ) (rows n : ℕ) (r : FlatRegion) : Type 0 where
  pub parent : read_at w64 m (rows + 24 * n) ≡ Some (row_of rows r.parent)
  pub at : ℕ
  pub first : read_at w64 m (rows + 24 * n + 8) ≡ Some at
  pub end : read_at w64 m (rows + 24 * n + 16) ≡ Some (at + 24 * length r.arms)
  pub room : at + 24 * length r.arms + 24 < 2 ^ 64
  pub arms : ArmRows m target at r.arms

pub record Rows (m : State) (target : ℕ → ℕ) (rows : ℕ) (regions : List FlatRegion) : Type 0 where
  pub some : 0 < rows
  pub room : rows + 24 * length regions < 2 ^ 64
  pub row : (n : ℕ) (r : FlatRegion) → slice_get regions n ≡ Some r → RegionRow m target rows n r
  -- outer ones come first
  pub below : (n p : ℕ) (r : FlatRegion) → slice_get regions n ≡ Some r → r.parent ≡ Some p → p < n

-- From region to region: the arm that is found so, and how many arms are looked at and regions left.

abbrev pub walk_in : ℕ → Option FlatRegion → (Option ℕ → Option FlatArm) → Option FlatArm
walk_in name None more = None
walk_in name (Some r) more = or_before (first_arm name r.arms) (more r.parent)

abbrev pub walk : List FlatRegion → ℕ → ℕ → Option ℕ → Option FlatArm
walk regions name zero o = None
walk regions name (suc k) None = None
walk regions name (suc k) (Some n) = walk_in name (slice_get regions n) (walk regions name k)

abbrev pub looked : ℕ → List FlatArm → ℕ
looked name [] = 0
looked name (a ∷ rest) = if takes name a then 1 else suc (looked name rest)

abbrev pub left_too : Option FlatArm → ℕ → ℕ
left_too None more = suc more
left_too (Some a) more = 0

abbrev pub looks_in : ℕ → Option FlatRegion → (Option ℕ → ℕ) → ℕ
looks_in name None more = 0
looks_in name (Some r) more = looked name r.arms + left_too (first_arm name r.arms) (more r.parent)

abbrev pub looks : List FlatRegion → ℕ → ℕ → Option ℕ → ℕ
looks regions name zero o = 0
looks regions name (suc k) None = 0
looks regions name (suc k) (Some n) = looks_in name (slice_get regions n) (looks regions name k)

-- The cuts of a table in memory: so many words of addresses, ascending, and rows.
pub record Cuts (m : State) (at count : ℕ) (from row : ℕ → ℕ) : Type 0 where
  pub room : at + 16 * count < 2 ^ 64
  pub few : count < 2 ^ 32
  pub from_there : (i : ℕ) → i < count → read_at w64 m (at + 16 * i) ≡ Some (from i)
  pub row_there : (i : ℕ) → i < count → read_at w64 m (at + 16 * i + 8) ≡ Some (row i)

-- Each comes behind the one round it and lies in that; all between them lie outside of it.
abbrev pub Behind : Option ℕ → ℕ → Type 0
Behind None i = Unit {0}
Behind (Some p) i = p < i

pub record Nest (rs : List FlatRegion) : Type 0 where
  pub parent : (n p : ℕ) (r : FlatRegion) → slice_get rs n ≡ Some r → r.parent ≡ Some p → p < n
  pub holds : (n p : ℕ) (r q : FlatRegion) → slice_get rs n ≡ Some r → r.parent ≡ Some p → slice_get rs p ≡ Some q → (q.first ≤ r.first) × (r.last ≤ q.last)
  pub apart : (n i : ℕ) (r q : FlatRegion) → slice_get rs n ≡ Some r → slice_get rs i ≡ Some q → i < n → Behind r.parent i → (q.last < r.first) ⊎ (r.last < q.first)

module _ (rs : List FlatRegion) (nest : Nest rs) (step name : ℕ) where
  -- the last of the first so many regions that is round the step
  abbrev pub last_in : Option FlatRegion → ℕ → Option ℕ → Option ℕ
  last_in None k before = before
  last_in (Some r) k before = if is_round step r then Some k else before

  abbrev pub last_below : ℕ → Option ℕ
  last_below zero = None
  last_below (suc k) = last_in (slice_get rs k) k (last_below k)

-- The regions table of a routine in memory, found by its link table.
pub record Laid (m : State) (target : ℕ → ℕ) (link code : ℕ) (regions : List FlatRegion) : Type 0 where
  pub tab : ℕ
  pub count : ℕ
  pub from : ℕ → ℕ
  pub row : ℕ → ℕ
  pub linked : read_at w64 m link ≡ Some tab
  pub counted : read_at w64 m tab ≡ Some count
  pub some : 1 ≤ count
  pub few : count ≤ 2 ^ 13
  pub first : from 0 ≡ code
  pub cuts : Cuts m (tab + 8) count from row
  pub rows : ℕ
  pub laid : Rows m target rows regions
  pub nest : Nest regions
  -- a cut names the innermost region from it on
  pub names : (cut step name : ℕ) → step < 2 ^ 32 → cut < count → from cut ≤ code + 4 * step → (suc cut ≡ count) ⊎ (code + 4 * step < from (suc cut)) → row cut ≡ row_of rows (last_below regions nest step name (length regions))

abbrev pub at_word : State → ℕ → ℕ → Regs → State
at_word m base k r = place m base k (listed r)

-- at the label Take with the arm's row, or at Outward
abbrev pub Arrives : State → ℕ → (ℕ → ℕ) → Regs → Regs → Option FlatArm → ℕ → Type 0
Arrives m base target r after None steps = Runs steps (at_word m base 1 r) (at_word m base 42 after)
Arrives m base target r after (Some a) steps = Runs steps (at_word m base 1 r) (at_word m base 37 after) × ArmRow m target after.x5 a

pub record Searched (m : State) (base : ℕ) (target : ℕ → ℕ) (r : Regs) (found : Option FlatArm) (count : ℕ) : Type 0 where
  pub after : Regs
  pub steps : ℕ
  pub few : steps ≤ 7 * count + 128
  pub x1 : after.x1 ≡ r.x1
  pub x2 : after.x2 ≡ r.x2
  pub x3 : after.x3 ≡ r.x3
  pub x4 : after.x4 ≡ r.x4
  pub x8 : after.x8 ≡ r.x8
  pub x9 : after.x9 ≡ r.x9
  pub x10 : after.x10 ≡ r.x10
  pub x11 : after.x11 ≡ r.x11
  pub x18 : after.x18 ≡ r.x18
  pub arrives : Arrives m base target r after found steps

-- from where an exception was raised, at a word of the code, the part comes to the arm that takes it, or out of the routine
abbrev pub ArmsAreFound : Type 0
ArmsAreFound =
    (m : State) (base table : ℕ) → Stood m.code base table → (target : ℕ → ℕ) (regions : List FlatRegion) (code step : ℕ) (r : Regs) → (laid : Laid m target r.x9 code regions) →
    not (r.x18 == 0) ≡ true → r.x1 ≡ code + 4 * step + 4 → code + 4 * step + 4 < 2 ^ 64 → step < 2 ^ 32 → r.x9 < 2 ^ 64 →
    Searched m base target r (arm_behind None regions step r.x10) (looks regions r.x10 (length regions) (last_below regions laid.nest step r.x10 (length regions)))
