-- What refusals of entries of a library come to.
use Rattle.std.specs.Prelude.{◌≡◌, ℕ, List}
use Rattle.clu_build.specs.Refusals.{IsOfEntries, IsOfProgram, IsOfReplacement}
use Rattle.clu_library.specs.Contents.{Contents}
use Rattle.clu_build.specs.declared.errors.BuildError.{BuildError}
use Rattle.clu_build.specs.declared.errors.BuildError.TheVariants as build
use Rattle.clu_types.specs.declared.spec.Spec.{Spec}
use Rattle.clu_outcome.specs.declared.outcome.Outcome.{Outcome}
use Rattle.clu_outcome.specs.declared.outcome.Outcome.TheVariants as outcome
use Rattle.clu_driver.specs.declared.specifying.Kept.{Kept}
use Rattle.clu_driver.specs.declared.specifying.Kept.TheVariants as kept

-- each cause comes to its own outcome, with its module
abbrev pub IsRefusalBy : BuildError → Outcome → Type 0
IsRefusalBy (build.SpecDiffers d) (outcome.SpecDiffers told) = told.now ≡ d
IsRefusalBy (build.SpecDiffers d) _ = ⊥
IsRefusalBy build.LibraryFull how = how ≡ outcome.LibraryFull
IsRefusalBy (build.SpecNeeded name) (outcome.SpecNeeded told) = told.now ≡ name
IsRefusalBy (build.SpecNeeded name) _ = ⊥
IsRefusalBy (build.NoModule name) (outcome.NoModule told) = told.now ≡ name
IsRefusalBy (build.NoModule name) _ = ⊥
IsRefusalBy (build.BadStart name) (outcome.BadStart told) = told.now ≡ name
IsRefusalBy (build.BadStart name) _ = ⊥
IsRefusalBy build.TooManyInstances how = how ≡ outcome.TooManyInstances
IsRefusalBy (build.NoBody name) (outcome.NoBody told) = told.now ≡ name
IsRefusalBy (build.NoBody name) _ = ⊥
IsRefusalBy (build.Stale d) (outcome.Stale told) = told.now ≡ d
IsRefusalBy (build.Stale d) _ = ⊥
IsRefusalBy (build.Misfit name) (outcome.Misfit told) = told.now ≡ name
IsRefusalBy (build.Misfit name) _ = ⊥
IsRefusalBy build.ProgramTooLarge how = how ≡ outcome.ProgramTooLarge
IsRefusalBy build.Memory how = how ≡ outcome.Memory
IsRefusalBy build.NotYet how = how ≡ outcome.NotYet

-- the modules of a source were not entered into a library
abbrev pub NotEntered : Outcome → Contents → Type 0
NotEntered how library = (e : BuildError) × IsOfEntries e library × IsRefusalBy e how

-- what becomes of a kept specification decides for which reasons those of a source are refused
abbrev pub IsOfSpecifying : Kept → BuildError → Contents → List Spec → Type 0
IsOfSpecifying kept.Stays e library specs = IsOfEntries e library
IsOfSpecifying kept.Goes e library specs = IsOfReplacement e library specs

-- these specifications of a source were not entered into a library
abbrev pub NotSpecified : Kept → Outcome → Contents → List Spec → Type 0
NotSpecified kept how library specs = (e : BuildError) × IsOfSpecifying kept e library specs × IsRefusalBy e how

-- no program with this start was entered into a library
abbrev pub NotLinked : Outcome → List ℕ → Contents → Type 0
NotLinked how start library = (e : BuildError) × IsOfProgram e library start × IsRefusalBy e how
