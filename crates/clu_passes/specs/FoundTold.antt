-- What was found, told by types, as the definitions have it; and what is known of the modules of a file by the heads that tell them.
use Rattle.std.specs.Prelude.{◌≡◌, ℕ, true, List, map, flat_map, slice_get, bytes_eq, option_map, option_and_then, Option, Some}
use Rattle.std.specs.List.{AllByRecursion, list_any}
use Rattle.clu_types.specs.CluType.{CluType, Actuals}
use Rattle.clu_types.specs.Arena.{types_of}
use Rattle.clu_tree.specs.declared.node.NodeKind.TheVariants as kind
use Rattle.clu_syntax.specs.Syntax.{Identifier}
use Rattle.clu_meaning.specs.Scoping.{Scope, parameter_number}
use Rattle.clu_checking.specs.Specifications.{Form, Specification, form_told, demands_of}
use Rattle.clu_checking.specs.Files.{File, item, kind_in, is_kind, round, stands_below, parameters_round}
use Rattle.clu_checking.specs.Headings.{specification, routines_of}
use Rattle.clu_checking.specs.Operations.{Asked, Found, demanded}
use Rattle.clu_checking.specs.Typing.{found_in, found_type}
use Rattle.clu_settle.specs.Names.{names_of}
use Rattle.clu_head.specs.declared.head.Head.{Head}
use Rattle.clu_head.specs.declared.head.RoutineHead.{RoutineHead}
use Rattle.clu_bindings.specs.declared.file.Headed.{Headed}
use Rattle.clu_bindings.specs.declared.meaning.ModuleId.{ModuleId}
use Rattle.clu_bindings.specs.Modules.{named}
use Rattle.clu_bindings.specs.Readers.{unit_module}
use Rattle.clu_operations.specs.Clauses.{count_round}
use Rattle.clu_operations.specs.Given.{asked_in}
use Rattle.clu_operations.specs.Modules.{Module, own, kept, known_of, routines_in}
use Rattle.clu_operations.specs.Told.{Ask, Told}
use Rattle.clu_passes.specs.ConstantTables.{file_with}
use Rattle.clu_passes.specs.Demands.{asked_by, AreOfKinds}
use Rattle.clu_passes.specs.Told.{demand_told, routine_told, exported_told}

-- ---- what was found

abbrev pub ask_of : Ask → Asked
ask_of a = record { of = a.of; operation = a.operation; wanted = a.wanted; in_set = a.in_set }

abbrev pub found_of : Told → Found
found_of its = record { type = its.type; asks = map ask_of its.asks }

-- a module by itself: its routine, and what it asks of the actual parameters
abbrev pub module_found : Actuals → Form → Found
module_found given form = record { type = found_type (found_in given form); asks = flat_map (demanded given) (demands_of form) }

-- ---- modules

-- as users see one
abbrev pub form_seen : List CluType → Module → Form
form_seen types (own head) = exported_told types head.form
form_seen types (kept spec) = form_told (types_of spec.types) spec.form

-- those of its routines are exported that have one of these names
abbrev pub AreExported : List Identifier → List RoutineHead → Type 0
AreExported keys routines = AllByRecursion (λ r. r.exported ≡ list_any (bytes_eq r.name) keys) routines

abbrev pub IsExported : Module → Type 0
IsExported (own head) = (keys : List Identifier) × AreExported keys (routines_in head.form)
IsExported (kept spec) = Unit {0}

-- the first module of a name
abbrev pub module_named : Headed → Identifier → Option Module
module_named h name = option_and_then (known_of h) (named h.file.bindings.now.modules name)

-- The text of the cluster c round the node n is known: its name, and its routines.
pub record IsTextKnown (h : Headed) (f : File) (types : List CluType) (n c : ℕ) : Type 0 where
  pub name : slice_get (names_of (slice_get f.nodes c)) 0 ≡ Some (item f c).cluster.name
  pub id : ModuleId
  pub head : Head
  pub unit : unit_module h.file n ≡ Some id
  pub known : known_of h id ≡ Some (own head)
  pub routines : map (routine_told types) (routines_in head.form) ≡ routines_of f (item f c).cluster

-- Heads tell what the definitions say of modules, as users and as their texts see them, and of what nodes ask.
pub record TellHeads (h : Headed) (f : File) (types : List CluType) : Type 0 where
  pub forms : (name : Identifier) → option_map (form_seen types) (module_named h name) ≡ option_map (λ s. s.form) (specification f name)
  pub exported : (id : ModuleId) (its : Module) → known_of h id ≡ Some its → IsExported its
  pub texts : (n c : ℕ) → (round f n).cluster ≡ Some c → IsTextKnown h f types n c
  pub asked : (c : ℕ) → map (demand_told types) (asked_in h c) ≡ asked_by f (kind_in f c) c
  pub kinds : AreOfKinds f
  -- as many parameters has the module round a type set
  pub counts : (n s : ℕ) → is_kind f kind.TypeSet s ≡ true → stands_below f n s ≡ true → count_round h.file n ≡ parameter_number (parameters_round f.nodes (round f s).unit)

-- so they do of the file whose nodes and surroundings are read
abbrev pub TellFile : Headed → Scope → List Specification → List ℕ → List CluType → Type 0
TellFile h scope library refused types = TellHeads h (file_with h.file scope library refused) types
