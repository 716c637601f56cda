-- What a refusal of one kind is besides, and what errors of the crates below come to.
use Rattle.std.proofs.Common.{◌≡◌, ℕ, List, Option, Some, None, length}
use Rattle.clu_frames.specs.declared.errors.FrameError.{FrameError}
use Rattle.clu_frames.specs.declared.errors.FrameError.TheVariants as frame
use Rattle.clu_library.specs.Contents.{Contents, NotKept, spec_of}
use Rattle.clu_library.specs.Replacing.{NotReplaced}
use Rattle.clu_library.specs.declared.errors.EnterError.{EnterError}
use Rattle.clu_library.specs.declared.errors.EnterError.TheVariants as enter
use Rattle.clu_library.specs.declared.program.Program.{Program}
use Rattle.clu_reach.specs.Causes.{IsRefusalOf}
use Rattle.clu_reach.specs.declared.errors.LinkError.{LinkError}
use Rattle.clu_reach.specs.declared.errors.LinkError.TheVariants as link
use Rattle.clu_lower_types.specs.declared.errors.LowerError.{LowerError}
use Rattle.clu_lower_types.specs.declared.errors.LowerError.TheVariants as lower
use Rattle.rv_select.specs.declared.error.SelectError.{SelectError}
use Rattle.rv_select.specs.declared.error.SelectError.TheVariants as select
use Rattle.clu_types.specs.declared.spec.Spec.{Spec}
use Rattle.clu_build.specs.Errors.{of_enter, of_frame, of_link, of_lower, of_select}
use Rattle.clu_build.specs.Entering.{AreReplaced, names_of}
use Rattle.clu_build.specs.Refusals.{IsInner, IsOfEach, IsOfEntries, IsOfKept, IsOfNeeded, IsOfOne, IsOfProgram, IsOfReplacement, IsOfRoom}
use Rattle.clu_build.specs.declared.errors.BuildError.{BuildError}
use Rattle.clu_build.specs.declared.errors.BuildError.TheVariants as error

pub lower_is_inner : (e : LowerError) → IsInner (of_lower e)
lower_is_inner lower.Memory = tt
lower_is_inner lower.NotYet = tt

pub frame_is_inner : (e : FrameError) → IsInner (of_frame e)
frame_is_inner frame.Memory = tt
frame_is_inner frame.NotYet = tt

pub select_is_inner : (e : SelectError) → IsInner (of_select e)
select_is_inner select.Memory = tt
select_is_inner select.NotYet = tt

pub enter_is_of_room : (e : EnterError) → IsOfRoom (of_enter e)
enter_is_of_room enter.Full = tt
enter_is_of_room enter.Memory = tt
enter_is_of_room enter.Differs = tt

pub inner_is_of_room : (e : BuildError) → IsInner e → IsOfRoom e
inner_is_of_room error.Memory is = tt
inner_is_of_room error.NotYet is = tt
inner_is_of_room _ is = elim is [ ]

pub room_is_of_entries : (e : BuildError) (library : Contents) → IsOfRoom e → IsOfEntries e library
room_is_of_entries error.LibraryFull library is = tt
room_is_of_entries error.Memory library is = tt
room_is_of_entries error.NotYet library is = tt
room_is_of_entries _ library is = elim is [ ]

pub inner_is_of_entries : (e : BuildError) (library : Contents) → IsInner e → IsOfEntries e library
inner_is_of_entries e library is = room_is_of_entries e library (inner_is_of_room e is)

-- what is said of the specification that was found is said of the library
pub kept_is_of_entries : (e : BuildError) (library : Contents) (name : List ℕ) (kept : Spec) → spec_of library name ≡ Some kept → IsOfKept e name kept → IsOfEntries e library
kept_is_of_entries (error.SpecDiffers d) library name kept found is = (name, kept, found, is)
kept_is_of_entries error.Memory library name kept found is = tt
kept_is_of_entries error.NotYet library name kept found is = tt
kept_is_of_entries _ library name kept found is = elim is [ ]

-- one of some specifications is not entered
pub inner_is_of_one : (e : BuildError) (library : Contents) (s : Spec) → IsInner e → IsOfOne e library s
inner_is_of_one error.Memory library s is = tt
inner_is_of_one error.NotYet library s is = tt
inner_is_of_one _ library s is = elim is [ ]

pub entry_is_of_one : (e : EnterError) (library : Contents) (s : Spec) → NotReplaced e library s (spec_of library s.name) → IsOfOne (of_enter e) library s
entry_is_of_one enter.Full library s is = is
entry_is_of_one enter.Memory library s is = tt
entry_is_of_one enter.Differs library s is = tt

pub each_is_of_replacement : (e : BuildError) (library : Contents) (specs : List Spec) → IsOfEach e library specs → IsOfReplacement e library specs
each_is_of_replacement error.LibraryFull library specs is = is
each_is_of_replacement error.Memory library specs is = tt
each_is_of_replacement error.NotYet library specs is = tt
each_is_of_replacement _ library specs is = elim is [ ]

pub inner_is_of_needed : (e : BuildError) (library : Contents) (besides : List (List ℕ)) → IsInner e → IsOfNeeded e library besides
inner_is_of_needed error.Memory library besides is = tt
inner_is_of_needed error.NotYet library besides is = tt
inner_is_of_needed _ library besides is = elim is [ ]

pub needed_is_of_replacement : (e : BuildError) (library after : Contents) (specs : List Spec) → AreReplaced library specs after → IsOfNeeded e after (names_of specs) → IsOfReplacement e library specs
needed_is_of_replacement (error.SpecNeeded name) library after specs replaced is = (after, replaced, is)
needed_is_of_replacement error.Memory library after specs replaced is = tt
needed_is_of_replacement error.NotYet library after specs replaced is = tt
needed_is_of_replacement _ library after specs replaced is = elim is [ ]

pub ruleset replacements = (inner_is_of_one, entry_is_of_one, each_is_of_replacement, inner_is_of_needed, needed_is_of_replacement)

-- a program is not entered since there is no room
pub of_entering : (e : EnterError) (library : Contents) (start : List ℕ) (p : Option Program) → NotKept e (length library.programs) p → IsOfProgram (of_enter e) library start
of_entering enter.Full library start None is = is
of_entering enter.Full library start (Some p) is = elim is [ ]
of_entering enter.Memory library start p is = tt
of_entering enter.Differs library start p is = elim is [ ]

-- or as the linker refuses it
pub of_linking : (e : LinkError) (library : Contents) (start : List ℕ) → IsRefusalOf e library start → IsOfProgram (of_link e) library start
of_linking (link.NoModule name) library start is = is
of_linking (link.BadStart name) library start is = is
of_linking link.TooManyInstances library start is = tt
of_linking (link.NoBody name) library start is = is
of_linking (link.Stale name by changed checked) library start is = is
of_linking (link.Misfit name) library start is = is
of_linking link.ProgramTooLarge library start is = tt
of_linking link.Memory library start is = tt
of_linking link.NotYet library start is = tt

pub ruleset programs = (of_entering, of_linking)

pub ruleset bodies = (lower_is_inner, frame_is_inner, select_is_inner)

pub ruleset entries = (kept_is_of_entries, enter_is_of_room, inner_is_of_room, room_is_of_entries, inner_is_of_entries)
