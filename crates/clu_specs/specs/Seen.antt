-- Specifications and uses without where their types lie in an arena, and their texts. 59 is ;, 36 is $.
use Rattle.std.specs.Prelude.{ℕ, Bool, true, false, List, [], ◌∷◌, ◌++◌, map, codes, decimal}
use Rattle.std.specs.List.{flat_map}
use Rattle.clu_types.specs.CluType.{CluType, CluTypes, Signals, Actuals}
use Rattle.clu_types.specs.Arena.{type_at, types_at, signals_at, actuals_at, types_of}
use Rattle.clu_types.specs.declared.spec.ParamKind.{ParamKind}
use Rattle.clu_types.specs.declared.spec.ParamKind.TheVariants as kind
use Rattle.clu_types.specs.declared.spec.Demand.{Demand}
use Rattle.clu_types.specs.declared.spec.OpSpec.{OpSpec}
use Rattle.clu_types.specs.declared.spec.Form.{Form}
use Rattle.clu_types.specs.declared.spec.Form.TheVariants as form
use Rattle.clu_types.specs.declared.spec.Spec.{Spec}
use Rattle.clu_specs.specs.declared.read_uses.Target.{Target}
use Rattle.clu_specs.specs.declared.read_uses.Target.TheVariants as target
use Rattle.clu_specs.specs.Texts.{type_text, all_actuals_text, heading_text}

-- a demand of a where clause
pub record Demanded : Type 0 where
  pub param : ℕ
  pub op : List ℕ
  pub wanted : CluType

-- a routine with its heading and demands
pub record Operation : Type 0 where
  pub name : List ℕ
  pub iter : Bool
  pub args : CluTypes
  pub results : CluTypes
  pub signals : Signals
  pub demands : List Demanded

pub data Shape : Type 0 where
  routine : Operation → Shape
  cluster : List Demanded → List Operation → Shape

pub record Specification : Type 0 where
  pub name : List ℕ
  pub kinds : List ParamKind
  pub shape : Shape

-- what a use names
pub data Used : Type 0 where
  a_module : List ℕ → Actuals → Used
  an_operation : CluType → List ℕ → Used
  own_set_up force_of : CluType → Used

abbrev pub demand_seen : List CluType → Demand → Demanded
demand_seen types d = record { param = d.param; op = d.op; wanted = type_at types d.wanted }

abbrev pub op_seen : List CluType → OpSpec → Operation
op_seen types op = record {
  name = op.name;
  iter = op.iter;
  args = types_at types op.heading.args;
  results = types_at types op.heading.results;
  signals = signals_at types op.heading.signals;
  demands = map (demand_seen types) op.demands;
}

abbrev pub form_seen : List CluType → Form → Shape
form_seen types (form.Routine op) = routine (op_seen types op)
form_seen types (form.Cluster demands ops) = cluster (map (demand_seen types) demands) (map (op_seen types) ops)

abbrev pub seen : Spec → Specification
seen s = record { name = s.name; kinds = s.kinds; shape = form_seen (types_of s.types) s.form }

abbrev pub target_seen : List CluType → Target → Used
target_seen types (target.Module name actuals) = a_module name (actuals_at types actuals)
target_seen types (target.Op id name) = an_operation (type_at types id) name
target_seen types (target.OwnSetUp id) = own_set_up (type_at types id)
target_seen types (target.ForceOf id) = force_of (type_at types id)

abbrev pub use_text : Used → List ℕ
use_text (a_module name given) = name ++ all_actuals_text given
use_text (an_operation t name) = type_text t ++ 36 ∷ name
use_text (own_set_up t) = type_text t ++ codes "$own"
use_text (force_of t) = type_text t ++ codes "$force"

abbrev pub kind_text : ParamKind → List ℕ
kind_text kind.OfType = codes "type"
kind_text kind.Null = codes "null"
kind_text kind.Bool = codes "bool"
kind_text kind.Int = codes "int"
kind_text kind.Char = codes "char"
kind_text kind.Str = codes "string"

abbrev pub kinds_text : List ParamKind → List ℕ
kinds_text [] = []
kinds_text (k ∷ ks) = 91 ∷ ((kind_text k ++ flat_map (λ x. 44 ∷ kind_text x) ks) ++ 93 ∷ [])

abbrev pub demand_text : Demanded → List ℕ
demand_text d = (35 ∷ decimal d.param) ++ (codes " has " ++ (d.op ++ 58 ∷ type_text d.wanted))

-- a where clause, or nothing
abbrev pub demands_text : List Demanded → List ℕ
demands_text [] = []
demands_text (d ∷ ds) = codes " where " ++ ((demand_text d ++ flat_map (λ x. 44 ∷ demand_text x) ds) ++ 32 ∷ [])

abbrev pub routine_word : Bool → List ℕ
routine_word true = codes "iter"
routine_word false = codes "proc"

-- a routine after its parameters
abbrev pub routine_text : Operation → List ℕ
routine_text op = heading_text op.iter op.args op.results op.signals ++ demands_text op.demands

abbrev pub op_text : Operation → List ℕ
op_text op = 59 ∷ (op.name ++ 58 ∷ (routine_word op.iter ++ routine_text op))

abbrev pub shape_text : List ParamKind → Shape → List ℕ
shape_text kinds (routine op) = 61 ∷ (routine_word op.iter ++ (kinds_text kinds ++ routine_text op))
shape_text kinds (cluster demands ops) = codes "=cluster" ++ (kinds_text kinds ++ (demands_text demands ++ (codes "is" ++ flat_map op_text ops)))

abbrev pub spec_text : Specification → List ℕ
spec_text s = s.name ++ shape_text s.kinds s.shape
