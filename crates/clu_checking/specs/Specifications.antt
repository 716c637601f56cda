-- What a module shows of itself: its parameters, the headings of its routines as callers see them, and what it asks of
-- its type parameters.
use Rattle.std.specs.Prelude.{ℕ, Bool, true, false, List, [], map, find, bytes_eq, Option, Some}
use Rattle.clu_types.specs.CluType.{CluType, proc_of, iter_of, CluTypes, Signals}
use Rattle.clu_types.specs.Arena.{type_at, types_at, signals_at, types_of}
use Rattle.clu_types.specs.declared.spec.ParamKind.{ParamKind}
use Rattle.clu_types.specs.declared.spec.Demand.{Demand as KeptDemand}
use Rattle.clu_types.specs.declared.spec.OpSpec.{OpSpec}
use Rattle.clu_types.specs.declared.spec.Form.{Form as KeptForm}
use Rattle.clu_types.specs.declared.spec.Form.TheVariants as kept
use Rattle.clu_types.specs.declared.spec.Spec.{Spec}

-- The type parameter of this number must have an operation of this name, whose type is included in the one that is
-- wanted, unless that one is refused where it stands. The node is the Oper or Restrict that asks; `in_set` says that an
-- `in` clause does.
pub record Demand : Type 0 where
  pub node : ℕ
  pub parameter : ℕ
  pub operation : List ℕ
  pub wanted : Option CluType
  pub in_set : Bool

-- a routine: its name, its type as callers see it, unless that is refused where it stands, and what it asks itself
pub record Heading : Type 0 where
  pub name : List ℕ
  pub type : Option CluType
  pub demands : List Demand

-- a routine; or a cluster, what it asks and its operations
pub data Form : Type 0 where
  of_routine : Heading → Form
  of_cluster : List Demand → List Heading → Form

pub record Specification : Type 0 where
  pub name : List ℕ
  -- of what kind the actual for each parameter is, unless the parameter has no legal type
  pub kinds : List (Option ParamKind)
  pub form : Form

-- ---- by name

abbrev pub heading_named : List Heading → List ℕ → Option Heading
heading_named hs name = find (λ h. bytes_eq h.name name) hs

abbrev pub specification_in : List Specification → List ℕ → Option Specification
specification_in ss name = find (λ s. bytes_eq s.name name) ss

-- the demands on the actuals for a module's parameters
abbrev pub demands_of : Form → List Demand
demands_of (of_routine h) = h.demands
demands_of (of_cluster ds hs) = ds

abbrev pub operations_of : Form → List Heading
operations_of (of_routine h) = []
operations_of (of_cluster ds hs) = hs

-- ---- as a library keeps them: neither where something is asked nor by which clause

abbrev pub demand_kept : Demand → Demand
demand_kept d = record d { node = 0; in_set = false }

abbrev pub heading_kept : Heading → Heading
heading_kept h = record h { demands = map demand_kept h.demands }

abbrev pub form_kept : Form → Form
form_kept (of_routine h) = of_routine (heading_kept h)
form_kept (of_cluster ds hs) = of_cluster (map demand_kept ds) (map heading_kept hs)

abbrev pub specification_kept : Specification → Specification
specification_kept s = record s { form = form_kept s.form }

-- ---- those of a library, over the types of their arenas. Which clause asks for what is not kept.

abbrev pub demand_told : List CluType → KeptDemand → Demand
demand_told types d = record { node = 0; parameter = d.param; operation = d.op; wanted = Some (type_at types d.wanted); in_set = false }

abbrev pub type_told : Bool → CluTypes → CluTypes → Signals → CluType
type_told true args results signals = iter_of args results signals
type_told false args results signals = proc_of args results signals

abbrev pub heading_told : List CluType → OpSpec → Heading
heading_told types op = record {
  name = op.name;
  type = Some (type_told op.iter (types_at types op.heading.args) (types_at types op.heading.results) (signals_at types op.heading.signals));
  demands = map (demand_told types) op.demands;
}

abbrev pub form_told : List CluType → KeptForm → Form
form_told types (kept.Routine op) = of_routine (heading_told types op)
form_told types (kept.Cluster demands ops) = of_cluster (map (demand_told types) demands) (map (heading_told types) ops)

abbrev pub specification_told : Spec → Specification
specification_told s = record { name = s.name; kinds = map (λ k. Some k) s.kinds; form = form_told (types_of s.types) s.form }
