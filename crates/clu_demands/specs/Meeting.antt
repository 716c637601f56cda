-- When what is demanded of a type is met.
use Rattle.std.specs.Prelude.{◌≡◌, ℕ, zero, suc, Bool, true, false, List, [], ◌∷◌, Contains, find, length, Option, Some, None}
use Rattle.std.specs.Str.{bytes_eq}
use Rattle.clu_types.specs.CluType.{CluType, proc_of, iter_of, cluster_of, parameter, CluTypes, Signals, Actuals, no_actuals, actual_type, actual_const, actual_param}
use Rattle.clu_types.specs.Arena.{type_at, types_at, signals_at, types_of}
use Rattle.clu_types.specs.Included.{Included}
use Rattle.clu_types.specs.Substituted.{substituted}
use Rattle.clu_types.specs.declared.spec.Demand.{Demand}
use Rattle.clu_types.specs.declared.spec.Form.{Form}
use Rattle.clu_types.specs.declared.spec.Form.TheVariants as form
use Rattle.clu_types.specs.declared.spec.OpSpec.{OpSpec}
use Rattle.clu_types.specs.declared.spec.Spec.{Spec}
use Rattle.clu_builtin.specs.Operation.{Needed, Operation}
use Rattle.clu_builtin.specs.Table.{operation}
use Rattle.clu_specs.specs.Seen.{Demanded}
use Rattle.clu_specs.specs.Specifications.{OpBelow}
use Rattle.clu_demands.specs.Kinds.{MayBeOf}

abbrev pub routine_type : Bool → CluTypes → CluTypes → Signals → CluType
routine_type true args results signals = iter_of args results signals
routine_type false args results signals = proc_of args results signals

-- ---- type parameters: what where clauses give of them; of two demands of one name one is enough

-- such an operation is given of the parameter
abbrev pub IsGiven : ℕ → List ℕ → CluType → Demanded → Type 0
IsGiven n op wanted d = (d.param ≡ n) × (d.op ≡ op) × Included d.wanted wanted

abbrev pub AsksOfParameter : List Demanded → ℕ → List ℕ → CluType → List Needed → Type 0
AsksOfParameter given n op wanted asks = (d : Demanded) × Contains given d × IsGiven n op wanted d × (asks ≡ [])

-- ---- built-in types

abbrev pub AsksOfOperation : Operation → CluType → List Needed → Type 0
AsksOfOperation o wanted asks = Included (routine_type o.iter o.args o.results o.signals) wanted × (asks ≡ o.needs)

abbrev pub AsksOfBuiltin : CluType → List ℕ → CluType → List Needed → Type 0
AsksOfBuiltin t op wanted asks = (o : Operation) × (operation t op ≡ Some o) × AsksOfOperation o wanted asks

-- ---- clusters: what their specifications export, where the actual parameters may be of the kinds of the parameters

abbrev pub op_named : Form → List ℕ → Option OpSpec
op_named (form.Cluster demands ops) name = find (λ o. bytes_eq o.name name) ops
op_named (form.Routine o) name = None

-- the type of a routine of a specification with these types
abbrev pub op_type : List CluType → OpSpec → CluType
op_type types o = routine_type o.iter (types_at types o.heading.args) (types_at types o.heading.results) (signals_at types o.heading.signals)

-- the type at a place among actual parameters, from 0, and that of a number, from 1
abbrev pub type_in : Actuals → ℕ → Option CluType
type_in no_actuals i = None
type_in (actual_type t rest) zero = Some t
type_in (actual_type t rest) (suc i) = type_in rest i
type_in (actual_const c rest) zero = None
type_in (actual_const c rest) (suc i) = type_in rest i
type_in (actual_param p rest) zero = None
type_in (actual_param p rest) (suc i) = type_in rest i

abbrev pub type_numbered : Actuals → ℕ → Option CluType
type_numbered given zero = None
type_numbered given (suc i) = type_in given i

-- a demand with actual parameters put in, if the one that it is of is a type
abbrev pub demanded_of : List CluType → Actuals → Demand → Option CluType → Option Needed
demanded_of types given d None = None
demanded_of types given d (Some t) = Some (record { of = t; op = d.op; wanted = substituted given (type_at types d.wanted) })

abbrev pub demanded : List CluType → Actuals → Demand → Option Needed
demanded types given d = demanded_of types given d (type_numbered given d.param)

-- all of them, if each is there
abbrev pub with_first : Option Needed → Option (List Needed) → Option (List Needed)
with_first None more = None
with_first (Some n) None = None
with_first (Some n) (Some more) = Some (n ∷ more)

abbrev pub all_demanded : List CluType → Actuals → List Demand → Option (List Needed)
all_demanded types given [] = Some []
all_demanded types given (d ∷ ds) = with_first (demanded types given d) (all_demanded types given ds)

abbrev pub AsksOfRoutine : Spec → Actuals → OpSpec → CluType → List Needed → Type 0
AsksOfRoutine s given o wanted asks =
    OpBelow (length s.types) o × Included (substituted given (op_type (types_of s.types) o)) wanted × (all_demanded (types_of s.types) given o.demands ≡ Some asks)

abbrev pub AsksOfNamed : Spec → Actuals → List ℕ → CluType → List Needed → Type 0
AsksOfNamed s given op wanted asks = (o : OpSpec) × (op_named s.form op ≡ Some o) × AsksOfRoutine s given o wanted asks

abbrev pub AsksOfSpec : Spec → Actuals → List ℕ → CluType → List Needed → Type 0
AsksOfSpec s given op wanted asks = MayBeOf given s.kinds × AsksOfNamed s given op wanted asks

abbrev pub AsksOfCluster : List Spec → List ℕ → Actuals → List ℕ → CluType → List Needed → Type 0
AsksOfCluster specs name given op wanted asks = (s : Spec) × (find (λ s. bytes_eq s.name name) specs ≡ Some s) × AsksOfSpec s given op wanted asks

-- ---- a need: that a type has an operation of a name whose type is included in the wanted one. This operation asks such needs in its turn

abbrev pub AsksOf : List Demanded → List Spec → CluType → List ℕ → CluType → List Needed → Type 0
AsksOf given specs (parameter n) op wanted asks = AsksOfParameter given n op wanted asks
AsksOf given specs (cluster_of name actuals) op wanted asks = AsksOfCluster specs name actuals op wanted asks
AsksOf given specs t op wanted asks = AsksOfBuiltin t op wanted asks

abbrev pub Asks : List Demanded → List Spec → Needed → List Needed → Type 0
Asks given specs n asks = AsksOf given specs n.of n.op n.wanted asks

-- the type of a need has its operation, and what that asks is among these
abbrev pub IsAnswered : List Demanded → List Spec → List Needed → Needed → Type 0
IsAnswered given specs needs n = (asks : List Needed) × Asks given specs n asks × ((a : Needed) → Contains asks a → Contains needs a)

-- so it is of each of these
abbrev pub IsClosed : List Demanded → List Spec → List Needed → Type 0
IsClosed given specs needs = (n : Needed) → Contains needs n → IsAnswered given specs needs n

-- a need is met
abbrev pub Meets : List Demanded → List Spec → Needed → Type 0
Meets given specs n = (needs : List Needed) × Contains needs n × IsClosed given specs needs
