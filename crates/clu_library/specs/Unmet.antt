-- The least kept module outside a list whose specification isn't sound.
use Rattle.std.specs.Prelude.{◌≡◌, ◌≢◌, ℕ, List, Contains, Option, Some, None}
use Rattle.std.specs.declared.cmp.Ordering.TheVariants.{Less}
use Rattle.clu_types.specs.Specs.{name_order}
use Rattle.clu_types.specs.declared.spec.Spec.{Spec}
use Rattle.clu_sound.specs.Sound.{IsSound}
use Rattle.clu_library.specs.Contents.{Contents, spec_of}

-- the module of this name is kept and outside the list, and its specification isn't sound
abbrev pub IsUnmet : Contents → List (List ℕ) → List ℕ → Type 0
IsUnmet library besides name = (s : Spec) × (spec_of library name ≡ Some s) × (Contains besides name → ⊥) × (IsSound library.specs s → ⊥)

pub record IsLeastUnmet (library : Contents) (besides : List (List ℕ)) (name : List ℕ) : Type 0 where
  pub unmet : IsUnmet library besides name
  pub least : (m : List ℕ) → IsUnmet library besides m → name_order m name ≢ Less

-- what is told: the least such module, if there is one
abbrev pub TellsUnmet : Contents → List (List ℕ) → Option (List ℕ) → Type 0
TellsUnmet library besides None = (m : List ℕ) → IsUnmet library besides m → ⊥
TellsUnmet library besides (Some name) = IsLeastUnmet library besides name

-- a specification is of a module outside the list, and isn't sound
abbrev pub IsAmiss : List Spec → List (List ℕ) → Spec → Type 0
IsAmiss specs besides s = (Contains besides s.name → ⊥) × (IsSound specs s → ⊥)
