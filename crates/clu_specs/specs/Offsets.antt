-- Where a text is refused.
use Rattle.std.specs.Prelude.{◌≡◌, ℕ, ◌+◌, ◌<◌, ◌≤◌, List, ◌++◌, length, take}
use Rattle.clu_base.specs.declared.errors.FormatError.{FormatError}
use Rattle.clu_base.specs.declared.errors.FormatError.TheVariants as error
use Rattle.clu_types.specs.CluType.{CluType}
use Rattle.clu_specs.specs.Texts.{type_text}
use Rattle.clu_specs.specs.Seen.{Used, use_text, Specification, spec_text}
use Rattle.clu_specs.specs.Scopes.{any_scope}
use Rattle.clu_specs.specs.Grammar.{IsType, IsUse, IsSpecification}

-- the bytes begin the text of a type
abbrev pub BeginsType : List ℕ → Type 0
BeginsType bytes = (t : CluType) × (rest : List ℕ) × IsType any_scope t × (type_text t ≡ bytes ++ rest)

abbrev pub BeginsUse : List ℕ → Type 0
BeginsUse bytes = (u : Used) × (rest : List ℕ) × IsUse u × (use_text u ≡ bytes ++ rest)

abbrev pub BeginsSpec : List ℕ → Type 0
BeginsSpec bytes = (s : Specification) × (rest : List ℕ) × IsSpecification s × (spec_text s ≡ bytes ++ rest)

-- the bytes before the offset begin a text
abbrev pub SoFar : (List ℕ → Type 0) → List ℕ → FormatError → Type 0
SoFar Begins bytes error.Memory = Unit {0}
SoFar Begins bytes (error.Bad offset) = (offset ≤ length bytes) × Begins (take offset bytes)

-- no text begins with the bytes up to that at the offset
abbrev pub NoFurther : (List ℕ → Type 0) → List ℕ → FormatError → Type 0
NoFurther Begins bytes error.Memory = Unit {0}
NoFurther Begins bytes (error.Bad offset) = offset < length bytes → Begins (take (offset + 1) bytes) → ⊥
