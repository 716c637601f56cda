-- What a refusal says of what the library keeps, and what is kept of the modules of a program.
use Rattle.std.specs.Prelude.{◌≡◌, ℕ, All, List, Some, None}
use Rattle.clu_library.specs.Contents.{Contents, spec_of, body_of}
use Rattle.clu_library.specs.Staleness.{IsCause, IsStaleBody}
use Rattle.clu_library.specs.declared.body.Body.{Body}
use Rattle.clu_reach.specs.Starts.{IsBadStart}
use Rattle.clu_reach.specs.declared.errors.LinkError.{LinkError}
use Rattle.clu_reach.specs.declared.errors.LinkError.TheVariants as error

-- a body of the module is kept, and it isn't stale
abbrev pub HasBody : Contents → List ℕ → Type 0
HasBody library name = (b : Body) × (body_of library name ≡ Some b) × (IsStaleBody library.specs library.changes name b → ⊥)

-- each of the modules has one
abbrev pub HaveBodies : Contents → List (List ℕ) → Type 0
HaveBodies library modules = All (HasBody library) modules

-- the start is not kept, or is none; of a module no body is kept, or one that is stale by the least module that makes it so,
-- or one that isn't stale and doesn't fit; of the others nothing is said
abbrev pub IsRefusalOf : LinkError → Contents → List ℕ → Type 0
IsRefusalOf (error.NoModule name) library start = (name ≡ start) × (spec_of library start ≡ None)
IsRefusalOf (error.BadStart name) library start = (name ≡ start) × IsBadStart (spec_of library start)
IsRefusalOf (error.NoBody name) library start = body_of library name ≡ None
IsRefusalOf (error.Stale name by changed checked) library start =
    (b : Body) × (body_of library name ≡ Some b) × IsCause library name b (record { by = by; changed = changed; checked = checked })
IsRefusalOf (error.Misfit name) library start = HasBody library name
IsRefusalOf _ library start = Unit {0}
