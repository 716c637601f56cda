-- What asks, and what of that is not met, by the nodes of a file.
use Rattle.std.specs.Prelude.{◌≡◌, ◌<◌, ℕ, ◌&&◌, ◌||◌, not, Bool, List, flat_map, length, slice_get, Contains, Option, Some}
use Rattle.std.specs.HashMap.{get}
use Rattle.clu_types.specs.Arena.{types_of}
use Rattle.clu_bindings.specs.declared.file.Headed.{Headed}
use Rattle.clu_operations.specs.declared.found.FoundId.{FoundId}
use Rattle.clu_operations.specs.Told.{Ask, told}
use Rattle.clu_operations.specs.declared.finding.Finding.{Finding}
use Rattle.clu_operations.specs.Wished.{IsFinding}
use Rattle.clu_typing.specs.declared.facts.Facts.{Facts}
use Rattle.clu_typing.specs.declared.facts.Invocations.{Invocations}
use Rattle.clu_typing.specs.Facts.{askers_at}
use Rattle.clu_type_rules.specs.declared.unmet.Asker.{Asker}
use Rattle.clu_type_rules.specs.declared.unmet.Clauses.{Clauses}
use Rattle.clu_type_rules.specs.declared.unmet.Meeting.{Meeting}
use Rattle.clu_type_rules.specs.declared.unmet.Unmet.{Unmet}
use Rattle.clu_type_rules.specs.contracts.unmet.AskerPartialEq.TheImpl as askers
use Rattle.clu_type_rules.specs.Needs.{World, Later, Setting, AreUnmetIf, Rests, clauses_at}

abbrev pub either : Unmet → Unmet → Unmet
either a b = record { by_has = a.by_has || b.by_has; by_in = a.by_in || b.by_in }

abbrev pub unmet_one : Bool → Bool → Unmet
unmet_one is_met in_set = record { by_has = not is_met && not in_set; by_in = not is_met && in_set }

abbrev pub same_asker : Asker → Asker → Bool
same_asker = (askers.ghosts).eq

abbrev pub asks_by : World → FoundId → List Ask
asks_by w id = (told (types_of w.terms) w.finding id).asks

abbrev pub asks_by_all : World → List FoundId → List Ask
asks_by_all w ids = flat_map (asks_by w) ids

-- it was found
abbrev pub IsAsker : World → FoundId → Type 0
IsAsker w id = id.0 < length w.finding.founds.items

abbrev pub AreAskers : World → List FoundId → Type 0
AreAskers w ids = (id : FoundId) → Contains ids id → IsAsker w id

module _ (headed : Headed) (s : Setting) where
  -- what is kept of the askers so far is right
  pub record Keeps (w : World) (meeting : Meeting) : Type 0 where
    pub rests : Rests headed s w meeting.met.keys
    pub there : (asker : Asker) (u : Unmet) → get same_asker meeting.askers asker ≡ Some u → IsAsker w asker.found
    pub unmet : (asker : Asker) (u : Unmet) → get same_asker meeting.askers asker ≡ Some u → AreUnmetIf s asker.under u (asks_by w asker.found)

  pub record Brings (v w : World) (meeting : Meeting) (under : Clauses) (asks : List Ask) (u : Unmet) : Type 0 where
    pub keeps : Keeps w meeting
    pub later : Later v w
    pub unmet : AreUnmetIf s under u asks

  -- for each node what is not met of all that is asked there
  abbrev pub AreFoundAt : World → Invocations → List Unmet → Type 0
  AreFoundAt w invocations all = (n : ℕ) (u : Unmet) → slice_get all n ≡ Some u → AreUnmetIf s (clauses_at headed n) u (asks_by_all w (askers_at invocations n))

-- more was found, and there may be more types
pub record FindsOn (headed : Headed) (v w : World) : Type 0 where
  pub later : Later v w
  pub finding : IsFinding headed w.terms w.finding

-- the same is known of nodes, and this was found
abbrev pub with_finding : Facts → Finding → Facts
with_finding facts finding = record { types = facts.types; invocations = facts.invocations; invoked = facts.invoked; raises = facts.raises; raising = facts.raising; finding = finding }
