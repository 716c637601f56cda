-- What stays of a program where a specification takes the place of another.
use Rattle.std.specs.Prelude.{◌≡◌, ◌≢◌, ◌≤◌, ◌↔◌, ℕ, List, Contains, Option, Some}
use Rattle.clu_types.specs.declared.spec.Spec.{Spec}
use Rattle.clu_library.specs.Contents.{Contents, body_of, spec_of}
use Rattle.clu_library.specs.Replacing.{IsReplaced}
use Rattle.clu_library.specs.Resting.{RestsOn}
use Rattle.clu_library.specs.Staleness.{IsStale}
use Rattle.clu_library.specs.declared.body.Body.{Body}
use Rattle.clu_library.specs.declared.program.Program.{Program}

-- a body of the module `own` that has these names rests on the same modules in both, and these have the same specifications
pub record RestsAsBefore (before after : Contents) (own : List ℕ) (names : Option (List (List ℕ))) : Type 0 where
  pub same : (m : List ℕ) → RestsOn after.specs own names m ↔ RestsOn before.specs own names m
  pub specs : (m : List ℕ) → RestsOn after.specs own names m → spec_of after m ≡ spec_of before m

-- a program was there; each of its modules was not replaced and has the same body, which isn't stale and rests on what it rested on.
-- That a body was checked at a revision of its library holds of each that was read or entered.
pub record IsKeptWhole (before after : Contents) (replaced : List ℕ) (p : Program) : Type 0 where
  pub there : Contains before.programs p
  pub other : (m : List ℕ) → Contains p.modules m → m ≢ replaced
  pub bodies : (m : List ℕ) → Contains p.modules m → body_of after m ≡ body_of before m
  pub fresh : (m : List ℕ) → Contains p.modules m → IsStale after m → ⊥
  pub rests : (m : List ℕ) (b : Body) → Contains p.modules m → body_of before m ≡ Some b → b.checked ≤ before.revision → RestsAsBefore before after m b.names

abbrev pub KeptProgramsRest : Type 0
KeptProgramsRest =
    (before after : Contents) (s : Spec) → IsReplaced before s after → (p : Program) → Contains after.programs p → IsKeptWhole before after s.name p
