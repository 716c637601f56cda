-- What was found, and what it asks, by types in place of their numbers.
use Rattle.std.specs.Prelude.{ℕ, Bool, false, List, [], ◌∷◌, map, flat_map, get_or, option_map, Option, Some, None}
use Rattle.clu_types.specs.CluType.{CluType, Actuals}
use Rattle.clu_types.specs.Arena.{type_at, types_of}
use Rattle.clu_types.specs.Substituted.{substituted, type_put}
use Rattle.clu_types.specs.declared.spec.Demand.{Demand}
use Rattle.clu_types.specs.declared.spec.OpSpec.{OpSpec}
use Rattle.clu_types.specs.declared.spec.Spec.{Spec}
use Rattle.clu_types.specs.declared.term.TypeId.{TypeId}
use Rattle.clu_head.specs.declared.head.Demanded.{Demanded}
use Rattle.clu_demands.specs.Meeting.{op_type}
use Rattle.clu_operations.specs.Finding.{found_at, asked_by}
use Rattle.clu_operations.specs.Modules.{Module, own, kept, Shows, own_part, kept_routine, kept_demands}
use Rattle.clu_operations.specs.declared.finding.Finding.{Finding}
use Rattle.clu_operations.specs.declared.found.Asked.{Asked}
use Rattle.clu_operations.specs.declared.found.FoundId.{FoundId}
use Rattle.clu_operations.specs.declared.modules.Part.{Part}

-- a type is asked for an operation of this name, whose type is included in the wanted one
pub record Ask : Type 0 where
  pub of : CluType
  pub operation : List ℕ
  pub wanted : CluType
  pub in_set : Bool

-- an operation or a module: its type, unless that is refused where it is declared, and what it asks
pub record Told : Type 0 where
  pub type : Option CluType
  pub asks : List Ask

-- ---- what stands by numbers

abbrev pub ask_told : List CluType → List (List ℕ) → Asked → Ask
ask_told types names a = record { of = type_at types a.of; operation = get_or names a.operation.0 []; wanted = type_at types a.wanted; in_set = a.in_set }

abbrev pub told : List CluType → Finding → FoundId → Told
told types finding id = record {
  type = option_map (type_at types) (found_at finding.founds.items id).of;
  asks = map (ask_told types finding.words) (asked_by finding id);
}

-- ---- a part of a module with actual parameters

-- what is asked of a parameter; nothing where the wanted type is refused
abbrev pub asked_of : Actuals → ℕ → List ℕ → Bool → Option CluType → List Ask
asked_of given parameter operation in_set (Some wanted) = record { of = type_put given parameter; operation = operation; wanted = wanted; in_set = in_set } ∷ []
asked_of given parameter operation in_set None = []

-- a type with actual parameters, if there is one
abbrev pub type_given : List CluType → Actuals → Option TypeId → Option CluType
type_given types given of = option_map (λ id. substituted given (type_at types id)) of

abbrev pub demand_told : List CluType → Actuals → Demanded → List Ask
demand_told types given d = asked_of given d.parameter d.operation d.in_set (type_given types given d.wanted)

abbrev pub part_told : List CluType → Actuals → Shows → Told
part_told types given shows = record { type = type_given types given shows.of; asks = flat_map (demand_told types given) shows.demands }

-- ---- the same of a module of the library

abbrev pub kept_demand_told : List CluType → Actuals → Demand → List Ask
kept_demand_told types given d = asked_of given d.param d.op false (Some (substituted given (type_at types d.wanted)))

-- of a cluster itself there is no routine
abbrev pub routine_told : List CluType → Actuals → Option OpSpec → List Demand → Told
routine_told types given routine demands = record { type = option_map (λ op. substituted given (op_type types op)) routine; asks = flat_map (kept_demand_told types given) demands }

abbrev pub kept_told : Spec → Actuals → Part → Told
kept_told spec given which = routine_told (types_of spec.types) given (kept_routine spec.form which) (kept_demands spec.form which)

-- ---- of either

abbrev pub module_told : List CluType → Actuals → Module → Part → Option Told
module_told types given (own head) which = option_map (part_told types given) (own_part head.form which)
module_told types given (kept spec) which = Some (kept_told spec given which)

-- ---- what a where clause gives, which asks nothing itself

abbrev pub given_told : List CluType → Demanded → Told
given_told types d = record { type = option_map (type_at types) d.wanted; asks = [] }
