-- What nodes ask, while it is entered.
use Rattle.std.specs.Prelude.{◌≡◌, ℕ, ◌==◌, nat_lt, List, [], ◌∷◌, ◌++◌, length, if◌then◌else◌, Option, Some, None}
use Rattle.std.specs.HashMap.{get, Updates}
use Rattle.clu_types.specs.Arena.{types_of}
use Rattle.clu_types.specs.declared.term.Term.{Term}
use Rattle.clu_types.specs.declared.term.TypeId.{TypeId}
use Rattle.clu_head.specs.declared.head.Demanded.{Demanded}
use Rattle.clu_bindings.specs.declared.file.Headed.{Headed}
use Rattle.clu_bindings.specs.declared.meaning.ModuleId.{ModuleId}
use Rattle.clu_operations.specs.declared.finding.Finding.{Finding}
use Rattle.clu_operations.specs.declared.found.FoundId.{FoundId}
use Rattle.clu_operations.specs.declared.found.Given.{Given}
use Rattle.clu_operations.specs.declared.found.Wished.{Wished}
use Rattle.clu_operations.specs.Bundles.{WantedBelow, shown_in}
use Rattle.clu_operations.specs.Clauses.{same}
use Rattle.clu_operations.specs.Finding.{AreWithin}
use Rattle.clu_operations.specs.Given.{asked_in, AreEntered}
use Rattle.clu_operations.specs.Wished.{same_wished}
use Rattle.clu_operations.specs.Words.{AreOnce}

-- a new entry, of this type, that asks nothing
pub record PutsOne (old new : Finding) (key : Given) (of : Option TypeId) : Type 0 where
  pub id : FoundId
  pub number : id.0 ≡ length old.founds.items
  pub founds : new.founds.items ≡ old.founds.items ++ record { of = of; from = length old.asked.items; to = length old.asked.items } ∷ []
  pub asked : new.asked ≡ old.asked
  pub words : new.words ≡ old.words
  pub wished : new.wished ≡ old.wished
  pub shown : new.shown ≡ old.shown
  pub given : Updates same old.given new.given key (Some id)

-- what nodes ask, with more of one
abbrev pub also : ℕ → List Demanded → (ℕ → List Demanded) → ℕ → List Demanded
also n demands asked m = if m == n then asked m ++ demands else asked m

-- of the nodes below n
abbrev pub asked_below : Headed → ℕ → ℕ → List Demanded
asked_below headed n m = if nat_lt m n then asked_in headed m else []

-- what these nodes ask is entered, and nothing else was found
pub record IsEntering (asked : ℕ → List Demanded) (terms : List Term) (finding : Finding) : Type 0 where
  pub within : AreWithin (length terms) finding
  pub once : AreOnce finding.words
  pub wanted : (m : ℕ) → WantedBelow (length terms) (asked m)
  pub given : AreEntered asked (types_of terms) finding
  pub wished : (w : Wished) → get same_wished finding.wished w ≡ None
  pub shown : (id : ModuleId) → shown_in finding.shown id ≡ None
