-- What a routine is: which definition it has, or that it is a primitive operation or force; and its heading.
use Rattle.std.specs.Prelude.{ℕ, Bool, true, false, ◌||◌, List, [], ◌∷◌, Option, None, Some, if◌then◌else◌, bytes_eq}
use Rattle.std.specs.Option.{option_map}
use Rattle.clu_types.specs.CluType.{CluType, proc_of, iter_of, cluster_of, CluTypes, Signals, no_signals, signal_and, Actuals}
use Rattle.clu_builtin.specs.Table.{operation}
use Rattle.clu_layout.specs.Objects.{Routine, module_routine, operation_of, force_of, Object}
use Rattle.clu_layout.specs.Actions.{Action, no_case}
use Rattle.clu_layout.specs.Primitive.{invocation, force_invocation, heading_type, force_heading}
use Rattle.clu_meaning.specs.Lists.{is_among}
use Rattle.clu_meaning.specs.Programs.{Exception, RoutineDefinition, ClusterDefinition, Module, routine_module, cluster_module, Program}
use Rattle.clu_meaning.specs.State.{of_routine}
use Rattle.clu_meaning.specs.Binding.{Running, outward, types_of_formals}
use Rattle.clu_meaning.specs.Texts.{text_of, text_given}

-- ---- definitions

abbrev pub name_of_module : Module → List ℕ
name_of_module (routine_module r) = r.name
name_of_module (cluster_module c) = c.name

abbrev pub module_named : Program → List ℕ → Option Module
module_named [] name = None
module_named (m ∷ ms) name = if bytes_eq (name_of_module m) name then Some m else module_named ms name

abbrev pub routine_named : List RoutineDefinition → List ℕ → Option RoutineDefinition
routine_named [] name = None
routine_named (r ∷ rs) name = if bytes_eq r.name name then Some r else routine_named rs name

-- a routine of these actuals as it runs, if it has a definition
abbrev pub with_definition : Routine → Actuals → Option ClusterDefinition → Option RoutineDefinition → Option Running
with_definition r given home (Some definition) = Some (record { instance = of_routine r; given = given; home = home; definition = definition })
with_definition r given home None = None

abbrev pub of_module : Routine → Actuals → Option Module → Option Running
of_module r given (Some (routine_module definition)) = with_definition r given None (Some definition)
of_module r given _ = None

abbrev pub of_cluster : Routine → List ℕ → Actuals → Option Module → Option Running
of_cluster r op given (Some (cluster_module cluster)) = with_definition r given (Some cluster) (routine_named cluster.routines op)
of_cluster r op given _ = None

-- an operation of a cluster instance, or of a built-in type, if a text defines it
abbrev pub of_type : Program → Routine → CluType → List ℕ → Option Running
of_type program r (cluster_of cluster given) op = of_cluster r op given (module_named program cluster)
of_type program r T op = with_definition r (text_given T) None (text_of T op)

-- the routine with its definition, if it has one
abbrev pub defined : Program → Routine → Option Running
defined program (module_routine m given) = of_module (module_routine m given) given (module_named program m)
defined program (operation_of T op) = of_type program (operation_of T op) T op
defined program (force_of t) = None

-- ---- operations that no text defines

abbrev pub undefined : Routine → List Object → Action
undefined (module_routine m given) os = no_case
undefined (operation_of T op) os = invocation T op os
undefined (force_of t) os = force_invocation t os

-- ---- headings

abbrev pub signals_of : Actuals → List Exception → Signals
signals_of given [] = no_signals
signals_of given (e ∷ es) = signal_and e.name (outward given e.objects) (signals_of given es)

abbrev pub routine_type : Bool → CluTypes → CluTypes → Signals → CluType
routine_type true formals results signals = iter_of formals results signals
routine_type false formals results signals = proc_of formals results signals

-- as a proctype or itertype, which is a routine object's own type
abbrev pub heading_of : Running → CluType
heading_of r =
    routine_type r.definition.is_iterator (outward r.given (types_of_formals r.definition.formals))
    (outward r.given r.definition.results) (signals_of r.given r.definition.signals)

abbrev pub headed : Program → Routine → Option CluType
headed program (module_routine m given) = option_map heading_of (defined program (module_routine m given))
headed program (operation_of (cluster_of cluster given) op) = option_map heading_of (defined program (operation_of (cluster_of cluster given) op))
headed program (operation_of T op) = option_map heading_type (operation T op)
headed program (force_of t) = Some (heading_type (force_heading t))

-- ---- which operations a routine may name: those of a cluster that it exports, and inside the cluster all

abbrev pub exports : Option Module → List ℕ → Bool
exports (Some (cluster_module cluster)) op = is_among cluster.exports op
exports _ op = false

abbrev pub stands_in : Option ClusterDefinition → List ℕ → Bool
stands_in (Some home) cluster = bytes_eq home.name cluster
stands_in None cluster = false

abbrev pub may_name : Program → Option ClusterDefinition → Routine → Bool
may_name program home (operation_of (cluster_of cluster given) op) = stands_in home cluster || exports (module_named program cluster) op
may_name program home _ = true
