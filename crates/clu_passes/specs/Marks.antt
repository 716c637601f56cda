-- The bits of circular equates, one for each declaration, as `circular_equates` gives them.
use Rattle.std.specs.Prelude.{◌≡◌, ◌↔◌, ◌<◌, ℕ, Bool, true, List, length, slice_get, Some}
use Rattle.clu_names.specs.declared.scopes.Declared.{Declared}
use Rattle.clu_checking.specs.Files.{File}
use Rattle.clu_settle.specs.Circular as by_place

-- the bits are those of circular equates, by the places of declarations
abbrev pub AreMarks : File → List Bool → Type 0
AreMarks f marks =
    (k : ℕ) → k < length f.scope.declarations → (slice_get marks k ≡ Some true) ↔ (by_place.is_circular f.nodes f.rounds f.scope.declarations k ≡ true)

-- a declaration of the node has its bit
pub record IsMarked (ds : List Declared) (marks : List Bool) (n : ℕ) : Type 0 where
  pub place : ℕ
  pub its : Declared
  pub there : slice_get ds place ≡ Some its
  pub declares : its.node ≡ n
  pub marked : slice_get marks place ≡ Some true
