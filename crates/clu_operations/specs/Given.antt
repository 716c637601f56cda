-- What where clauses and type sets give of type parameters, told by types.
use Rattle.std.specs.Prelude.{◌≡◌, ◌<◌, ℕ, ◌==◌, ◌&&◌, Bool, List, [], ◌∷◌, length, bytes_eq, if◌then◌else◌, option_map, option_and_then, Option, Some, None}
use Rattle.std.specs.Option.{option_or}
use Rattle.std.specs.HashMap.{get}
use Rattle.clu_types.specs.CluType.{CluType}
use Rattle.clu_head.specs.Asked.{demands_of}
use Rattle.clu_head.specs.declared.head.Demanded.{Demanded}
use Rattle.clu_bindings.specs.declared.file.Headed.{Headed}
use Rattle.clu_bindings.specs.Readers.{round_in}
use Rattle.clu_operations.specs.declared.finding.Finding.{Finding}
use Rattle.clu_operations.specs.declared.found.FoundId.{FoundId}
use Rattle.clu_operations.specs.declared.found.Given.{Given}
use Rattle.clu_operations.specs.Clauses.{same, given_by, set_round}
use Rattle.clu_operations.specs.Told.{Told, told, given_told}
use Rattle.clu_operations.specs.Words.{named}

-- it is asked of this parameter by this name
abbrev pub is_asked : ℕ → List ℕ → Demanded → Bool
is_asked parameter name d = (d.parameter == parameter) && bytes_eq name d.operation

-- of two of one name the first counts
abbrev pub first_asked : ℕ → List ℕ → List Demanded → Option Demanded
first_asked parameter name [] = None
first_asked parameter name (d ∷ demands) = if is_asked parameter name d then Some d else first_asked parameter name demands

module _ (headed : Headed) where
  -- what a node asks
  abbrev pub asked_in : ℕ → List Demanded
  asked_in n = demands_of headed.heads.now.asked.demands.items headed.heads.now.asked.starts.items n

  module _ (types : List CluType) where
    abbrev pub told_given : Option ℕ → ℕ → List ℕ → Option Told
    told_given (Some node) parameter name = option_map (given_told types) (first_asked parameter name (asked_in node))
    told_given None parameter name = None

    -- at a node: what the routine gives before what the cluster gives, and behind these what a type set asks
    abbrev pub told_round : ℕ → ℕ → List ℕ → Option Told
    told_round n parameter name =
        option_or (option_or (told_given (round_in headed.file n).routine parameter name) (told_given (round_in headed.file n).cluster parameter name))
        (told_given (set_round headed.file n parameter) parameter name)

-- ---- the table in which it is entered

-- what is entered by a name
abbrev pub entry : Finding → ℕ → ℕ → List ℕ → Option FoundId
entry finding node parameter name = option_and_then (given_by finding (Some node) parameter) (named finding.words name)

-- the numbers of an entry are there
abbrev pub IsEntryBelow : Finding → Given → FoundId → Type 0
IsEntryBelow finding key id = (key.operation.0 < length finding.words) × (id.0 < length finding.founds.items)

-- what nodes ask is entered
pub record AreEntered (asked : ℕ → List Demanded) (types : List CluType) (finding : Finding) : Type 0 where
  pub told : (node parameter : ℕ) (name : List ℕ) → option_map (told types finding) (entry finding node parameter name) ≡ option_map (given_told types) (first_asked parameter name (asked node))
  pub below : (key : Given) (id : FoundId) → get same finding.given key ≡ Some id → IsEntryBelow finding key id

abbrev pub AreGiven : Headed → List CluType → Finding → Type 0
AreGiven headed types finding = AreEntered (asked_in headed) types finding
