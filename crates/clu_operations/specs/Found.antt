-- What was found, told by types, with what stays as it was.
use Rattle.std.specs.Prelude.{◌≡◌, ℕ, ◌<◌, List, length, option_map, IfSome, Option}
use Rattle.clu_types.specs.CluType.{CluType}
use Rattle.clu_types.specs.Arena.{types_of}
use Rattle.clu_types.specs.declared.term.Term.{Term}
use Rattle.clu_specs.specs.Specifications.{SpecHolds}
use Rattle.clu_bindings.specs.declared.meaning.ModuleId.{ModuleId}
use Rattle.clu_operations.specs.declared.found.FoundId.{FoundId}
use Rattle.clu_operations.specs.declared.finding.Finding.{Finding}
use Rattle.clu_operations.specs.Bundles.{FormBelow, IsShownIn, ShowsMore}
use Rattle.clu_operations.specs.Finding.{AreWithin, Follows}
use Rattle.clu_operations.specs.Modules.{Module, own, kept}
use Rattle.clu_operations.specs.Told.{Told, told}

-- This was found, told so by the terms of now; before there were so many types.
pub record Finds (types : ℕ) (terms : List Term) (old new : Finding) (it : Option Told) (found : Option FoundId) : Type 0 where
  pub tells : option_map (told (types_of terms) new) found ≡ it
  pub there : IfSome found (λ id. id.0 < length new.founds.items)
  pub follows : Follows old new
  pub within : AreWithin types old → AreWithin (length terms) new
  pub wished : new.wished ≡ old.wished

-- ---- of a module

-- what is kept of it is what it shows
abbrev pub IsModuleShown : List CluType → Finding → ModuleId → Module → Type 0
IsModuleShown types finding id (own head) = IsShownIn types finding.shown id head.form
IsModuleShown types finding id (kept spec) = Unit {0}

-- nothing else is kept more
abbrev pub ModuleShowsMore : List CluType → Finding → Finding → ModuleId → Module → Type 0
ModuleShowsMore types old new id (own head) = ShowsMore types old.shown new.shown id head.form
ModuleShowsMore types old new id (kept spec) = new.shown ≡ old.shown

-- the numbers that stand in a module are those of its arena
abbrev pub ModuleBelow : ℕ → Module → Type 0
ModuleBelow types (own head) = FormBelow types head.form
ModuleBelow types (kept spec) = SpecHolds spec
