-- Which bodies are stale.
use Rattle.std.specs.Prelude.{◌≡◌, ◌≢◌, ◌<◌, ◌&&◌, ℕ, Bool, List, Contains, Option, Some, None, find, is_some, not, nat_lt, IsSome}
use Rattle.std.specs.List.{list_any}
use Rattle.std.specs.Str.{bytes_eq}
use Rattle.std.specs.declared.cmp.Ordering.TheVariants.{Less}
use Rattle.clu_types.specs.Specs.{name_order}
use Rattle.clu_types.specs.declared.spec.Spec.{Spec}
use Rattle.clu_library.specs.Contents.{Contents, body_of, last_change, revision_of}
use Rattle.clu_library.specs.Resting.{RestsOn, IsClosure}
use Rattle.clu_library.specs.declared.body.Body.{Body}
use Rattle.clu_library.specs.declared.body.Change.{Change}
use Rattle.clu_library.specs.declared.staleness.StaleBy.{StaleBy}

-- the revision at which a module was replaced last, or 0
abbrev pub changed_in : List Change → List ℕ → ℕ
changed_in changes name = revision_of (find (λ c. bytes_eq c.name name) changes)

-- the module m is kept, and was replaced after a revision
abbrev pub ChangedAfter : List Spec → List Change → ℕ → List ℕ → Type 0
ChangedAfter specs changes revision m = IsSome (find (λ s. bytes_eq s.name m) specs) × (revision < changed_in changes m)

-- the module m makes a body of the module `own` stale: the body rests on it, and it was replaced after the body was checked
abbrev pub MakesStale : List Spec → List Change → List ℕ → Body → List ℕ → Type 0
MakesStale specs changes own body m = RestsOn specs own body.names m × ChangedAfter specs changes body.checked m

abbrev pub IsStaleBody : List Spec → List Change → List ℕ → Body → Type 0
IsStaleBody specs changes own body = (m : List ℕ) × MakesStale specs changes own body m

-- the body of a module is stale
abbrev pub IsStaleIf : Contents → List ℕ → Option Body → Type 0
IsStaleIf library name None = ⊥
IsStaleIf library name (Some body) = IsStaleBody library.specs library.changes name body

abbrev pub IsStale : Contents → List ℕ → Type 0
IsStale library name = IsStaleIf library name (body_of library name)

-- these are the modules whose bodies are stale
pub record AreStale (library : Contents) (names : List (List ℕ)) : Type 0 where
  pub stale : (name : List ℕ) → Contains names name → IsStale library name
  pub all : (name : List ℕ) → IsStale library name → Contains names name

-- why a body is stale: the least module that makes it so, with both revisions
pub record IsCause (library : Contents) (own : List ℕ) (body : Body) (cause : StaleBy) : Type 0 where
  pub by : MakesStale library.specs library.changes own body cause.by
  pub least : (m : List ℕ) → MakesStale library.specs library.changes own body m → name_order m cause.by ≢ Less
  pub changed : cause.changed ≡ last_change library cause.by
  pub checked : cause.checked ≡ body.checked

-- what is told of a module with a body, or with none
abbrev pub Tells : Contents → List ℕ → Option Body → Option StaleBy → Type 0
Tells library name None None = Unit {0}
Tells library name None (Some cause) = ⊥
Tells library name (Some body) None = IsStaleBody library.specs library.changes name body → ⊥
Tells library name (Some body) (Some cause) = IsCause library name body cause

-- a change is that of the least module that makes a body stale
pub record IsFirstChange (specs : List Spec) (changes : List Change) (own : List ℕ) (body : Body) (change : Change) : Type 0 where
  pub makes : MakesStale specs changes own body change.name
  pub least : (m : List ℕ) → MakesStale specs changes own body m → name_order m change.name ≢ Less
  pub revision : changed_in changes change.name ≡ change.revision

-- the change that makes a body stale, if one does
abbrev pub IsChangeOf : List Spec → List Change → List ℕ → Body → Option Change → Type 0
IsChangeOf specs changes own body None = IsStaleBody specs changes own body → ⊥
IsChangeOf specs changes own body (Some change) = IsFirstChange specs changes own body change

-- a change comes after a revision, and its module is kept
abbrev pub comes_after : List Spec → ℕ → Change → Bool
comes_after specs revision change = nat_lt revision change.revision && is_some (find (λ s. bytes_eq s.name change.name) specs)

-- the first later change of a module other than `own`
abbrev pub first_other : List Spec → List Change → List ℕ → ℕ → Option Change
first_other specs changes own checked = find (λ c. comes_after specs checked c && not (bytes_eq c.name own)) changes

-- the first later change of a module among some
abbrev pub first_among : List Spec → List Change → List (List ℕ) → ℕ → Option Change
first_among specs changes found checked = find (λ c. comes_after specs checked c && list_any (bytes_eq c.name) found) changes

-- the first later change of a module on which a body rests that has these names
abbrev pub IsFirstReached : List Spec → List Change → List ℕ → List (List ℕ) → ℕ → Option Change → Type 0
IsFirstReached specs changes own names checked change = (found : List (List ℕ)) × IsClosure specs own names found × (change ≡ first_among specs changes found checked)
