-- What is known of each instance that a program reaches.
use Rattle.std.specs.Prelude.{◌≡◌, ◌<◌, ℕ, Bool, true, List, Option, Some, slice_get}
use Rattle.std.specs.List.{list_any}
use Rattle.clu_types.specs.CluType.{CluType}
use Rattle.clu_specs.specs.Seen.{Used}
use Rattle.clu_library.specs.Contents.{Contents}
use Rattle.clu_link_meaning.specs.Reach.{Fate, HasFate, Made, used_by}
use Rattle.clu_link_meaning.specs.Same.{same_used}

-- an item is listed, or one that is the same
abbrev pub Lists : {X : Type 0} → (X → X → Bool) → List X → X → Type 0
Lists eq xs x = list_any (eq x) xs ≡ true

module _ (made : CluType → List ℕ → Option Made) (library : Contents) where
  -- an instance was looked at, and what it uses is among those that are listed
  pub record Fated (all : List Used) (u : Used) : Type 0 where
    pub fate : Fate
    pub has : HasFate made library u fate
    pub uses : (j : ℕ) (v : Used) → slice_get (used_by fate) j ≡ Some v → Lists same_used all v

  -- an instance is used by one that stands before it
  pub record UsedBefore (all : List Used) (i : ℕ) (u : Used) : Type 0 where
    pub place : ℕ
    pub user : Used
    pub fate : Fate
    pub number : ℕ
    pub before : place < i
    pub there : slice_get all place ≡ Some user
    pub has : HasFate made library user fate
    pub uses : slice_get (used_by fate) number ≡ Some u
