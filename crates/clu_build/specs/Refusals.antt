-- Why entries of a library are refused.
use Rattle.std.specs.Prelude.{◌≡◌, ◌≢◌, ◌≤◌, ℕ, List, Some, None, length, take, slice_get}
use Rattle.clu_library.specs.Contents.{Contents, body_of, limit, spec_of}
use Rattle.clu_library.specs.Replacing.{NotReplaced}
use Rattle.clu_library.specs.Staleness.{IsCause}
use Rattle.clu_library.specs.Unmet.{IsLeastUnmet}
use Rattle.clu_library.specs.declared.body.Body.{Body}
use Rattle.clu_library.specs.declared.errors.EnterError.TheVariants as enter
use Rattle.clu_reach.specs.Causes.{HasBody}
use Rattle.clu_reach.specs.Starts.{IsBadStart}
use Rattle.clu_specs.specs.Seen.{seen, spec_text}
use Rattle.clu_types.specs.declared.spec.Spec.{Spec}
use Rattle.clu_build.specs.Entering.{AreReplaced, names_of}
use Rattle.clu_build.specs.declared.errors.BuildError.{BuildError}
use Rattle.clu_build.specs.declared.errors.BuildError.TheVariants as error
use Rattle.clu_build.specs.declared.errors.Difference.{Difference}
use Rattle.clu_build.specs.declared.errors.StaleBody.{StaleBody}

-- memory was refused, or an inner condition did not hold
abbrev pub IsInner : BuildError → Type 0
IsInner error.Memory = Unit {0}
IsInner error.NotYet = Unit {0}
IsInner _ = ⊥

-- or there is no room
abbrev pub IsOfRoom : BuildError → Type 0
IsOfRoom error.LibraryFull = Unit {0}
IsOfRoom e = IsInner e

-- the specification that is kept of the module, and the text of another one
abbrev pub IsDifferent : Difference → List ℕ → Spec → Type 0
IsDifferent d name kept = (d.name ≡ name) × (d.kept ≡ spec_text (seen kept)) × (d.given ≢ d.kept)

-- or another specification is kept of the module of this name
abbrev pub IsOfKept : BuildError → List ℕ → Spec → Type 0
IsOfKept (error.SpecDiffers d) name kept = IsDifferent d name kept
IsOfKept e name kept = IsInner e

-- the modules of a file are not entered: another specification is kept of one of them, or there is no room
abbrev pub IsOfEntries : BuildError → Contents → Type 0
IsOfEntries (error.SpecDiffers d) library = (name : List ℕ) × (kept : Spec) × (spec_of library name ≡ Some kept) × IsDifferent d name kept
IsOfEntries e library = IsOfRoom e

-- there is no room for one of some specifications once those before it were entered
abbrev pub IsFull : Contents → List Spec → Type 0
IsFull library specs =
    (n : ℕ) × (s : Spec) × (between : Contents) × (slice_get specs n ≡ Some s) × AreReplaced library (take n specs) between × NotReplaced enter.Full between s (spec_of between s.name)

-- one specification is not entered
abbrev pub IsOfOne : BuildError → Contents → Spec → Type 0
IsOfOne error.LibraryFull library s = NotReplaced enter.Full library s (spec_of library s.name)
IsOfOne e library s = IsInner e

-- one of these is not
abbrev pub IsOfEach : BuildError → Contents → List Spec → Type 0
IsOfEach error.LibraryFull library specs = IsFull library specs
IsOfEach e library specs = IsInner e

-- the specification of another module than of these is not sound: this is the least
abbrev pub IsOfNeeded : BuildError → Contents → List (List ℕ) → Type 0
IsOfNeeded (error.SpecNeeded name) library besides = IsLeastUnmet library besides name
IsOfNeeded e library besides = IsInner e

-- specifications are not replaced: there is no room for one, or the kept specification of another module would no longer be sound
abbrev pub IsOfReplacement : BuildError → Contents → List Spec → Type 0
IsOfReplacement (error.SpecNeeded name) library specs = (after : Contents) × AreReplaced library specs after × IsLeastUnmet after (names_of specs) name
IsOfReplacement e library specs = IsOfEach e library specs

-- the body that is kept of a module is stale, by this module
abbrev pub IsStaleFor : Contents → StaleBody → Type 0
IsStaleFor library d = (b : Body) × (body_of library d.name ≡ Some b) × IsCause library d.name b (record { by = d.by; changed = d.changed; checked = d.checked })

-- a program is not entered: no module is kept of the start, or that is no start; no body is kept of a module, it is stale, or it is not and
-- its object is a misfit; or there is no room
abbrev pub IsOfProgram : BuildError → Contents → List ℕ → Type 0
IsOfProgram (error.NoModule name) library start = (name ≡ start) × (spec_of library start ≡ None)
IsOfProgram (error.BadStart name) library start = (name ≡ start) × IsBadStart (spec_of library start)
IsOfProgram error.TooManyInstances library start = Unit {0}
IsOfProgram (error.NoBody name) library start = body_of library name ≡ None
IsOfProgram (error.Stale body) library start = IsStaleFor library body
IsOfProgram (error.Misfit name) library start = HasBody library name
IsOfProgram error.ProgramTooLarge library start = Unit {0}
IsOfProgram error.LibraryFull library start = limit ≤ length library.programs
IsOfProgram e library start = IsInner e
