-- What is found while a program is reached.
use Rattle.std.specs.Prelude.{◌≡◌, All, List, Some, None, IfSome}
use Rattle.indexmap.specs.IndexMap.{keys}
use Rattle.clu_library.specs.Contents.{Contents, body_of}
use Rattle.clu_library.specs.Staleness.{AreStale, IsCause}
use Rattle.clu_library.specs.declared.body.Body.{Body}
use Rattle.clu_reach.specs.Causes.{HasBody}
use Rattle.clu_reach.specs.declared.faults.Faults.{Faults}
use Rattle.clu_reach.specs.declared.faults.StaleModule.{StaleModule}
use Rattle.clu_reach.specs.declared.reaching.RoutineName.{RoutineName}
use Rattle.clu_reach.specs.declared.reaching.RoutineName.TheVariants as named
use Rattle.clu_reach.specs.declared.reaching.Work.{Work}

-- why the body of a module is stale
abbrev pub IsStaleModule : Contents → StaleModule → Type 0
IsStaleModule library m = (b : Body) × (body_of library m.name ≡ Some b) × IsCause library m.name b m.by

-- each fault is one of the library
pub record AreFaults (library : Contents) (faults : Faults) : Type 0 where
  pub no_body : IfSome faults.no_body (λ name. body_of library name ≡ None)
  pub stale : IfSome faults.stale (IsStaleModule library)
  pub misfit : IfSome faults.misfit (HasBody library)
  pub stale_modules : AreStale library faults.stale_modules.keys

-- a routine that is kept is of a module with a body that isn't stale
abbrev pub IsKept : Contents → RoutineName → Type 0
IsKept library (named.Kept owner op) = HasBody library owner
IsKept library (named.Scheme of op) = Unit {0}
IsKept library (named.Derived family op) = Unit {0}

abbrev pub AreKept : Contents → List RoutineName → Type 0
AreKept library names = All (IsKept library) names

-- what is reached so far, and what was found wrong
pub record IsOf (library : Contents) (work : Work) : Type 0 where
  pub faults : AreFaults library work.faults.value
  pub routines : AreKept library (keys work.reached.value.routines)
