-- What a file before its headings says of nodes, names and modules, by its tables.
use Rattle.std.specs.Prelude.{ℕ, zero, suc, Bool, true, false, List, [], slice_get, get_or, is_some, Option, Some, None}
use Rattle.clu_tree.specs.declared.node.NodeKind.{NodeKind}
use Rattle.clu_types.specs.declared.spec.ParamKind.{ParamKind}
use Rattle.clu_syntax.specs.declared.round.Round.{Round}
use Rattle.clu_syntax.specs.Kinds.{kind_at}
use Rattle.clu_syntax.specs.Splits.{children_of}
use Rattle.clu_syntax.specs.Rounds.{round_at}
use Rattle.clu_settle.specs.declared.value.Value.{Value}
use Rattle.clu_settle.specs.declared.value.Value.TheVariants as value
use Rattle.clu_head.specs.Refused.{is_set}
use Rattle.clu_bindings.specs.declared.bindings.ModuleKnown.{ModuleKnown}
use Rattle.clu_bindings.specs.declared.bindings.ParameterTypes.{ParameterTypes}
use Rattle.clu_bindings.specs.declared.meaning.Meaning.{Meaning}
use Rattle.clu_bindings.specs.declared.meaning.Meaning.TheVariants as meaning
use Rattle.clu_bindings.specs.declared.meaning.ModuleId.{ModuleId}
use Rattle.clu_bindings.specs.declared.wanted.Wanted.{Wanted}
use Rattle.clu_bindings.specs.declared.wanted.Wanted.TheVariants as wanted
use Rattle.clu_bindings.specs.declared.file.File.{File}
use Rattle.clu_bindings.specs.Tables.{optional, items_at}

-- the module that a meaning is
abbrev pub module_of : Meaning → Option ModuleId
module_of (meaning.Module its) = its
module_of _ = None

-- ---- modules

abbrev pub kinds_known : Option ModuleKnown → List (Option ParamKind)
kinds_known (Some known) = known.kinds
kinds_known None = []

abbrev pub is_routine_known : Option ModuleKnown → Bool
is_routine_known (Some known) = known.is_routine
is_routine_known None = false

-- ---- parameters, which are numbered from 1

abbrev pub numbered : List (Option ℕ) → ℕ → Option ℕ
numbered declared zero = None
numbered declared (suc k) = optional (slice_get declared k)

-- of the module of the Module node `unit`
abbrev pub declared_in : ParameterTypes → Option ℕ → ℕ → Option ℕ
declared_in parameters (Some unit) number = numbered (items_at parameters.declared.items parameters.starts.items unit) number
declared_in parameters None number = None

module _ (f : File) where
  -- ---- of a node

  abbrev pub kind_in : ℕ → NodeKind
  kind_in n = kind_at f.syntax.now n

  abbrev pub round_in : ℕ → Round
  round_in n = round_at f.rounds.now n

  abbrev pub children_in : ℕ → List ℕ
  children_in n = children_of (slice_get f.syntax.now n)

  -- its place among its parent's children
  abbrev pub place_in : ℕ → ℕ
  place_in n = get_or f.bindings.now.places.items n 0

  -- what the constant or type there comes to
  abbrev pub value_in : ℕ → Value
  value_in n = get_or f.values.now n value.Lost

  abbrev pub wanted_in : ℕ → Wanted
  wanted_in n = get_or f.bindings.now.wanted.items n wanted.Nothing

  -- it is a Name, and brackets after it hold actual parameters
  abbrev pub takes_actuals : ℕ → Bool
  takes_actuals n = is_set (slice_get f.bindings.now.takes_actuals.items n)

  -- ---- of its first name

  abbrev pub meaning_in : ℕ → Meaning
  meaning_in n = get_or (items_at f.bindings.now.meanings.items f.names.now.starts.items n) 0 (meaning.Module None)

  abbrev pub module_in : ℕ → Option ModuleId
  module_in n = module_of (meaning_in n)

  -- ---- of modules, type sets and parameters

  abbrev pub known_in : Option ModuleId → Option ModuleKnown
  known_in (Some id) = slice_get f.bindings.now.modules.known.items id.0
  known_in None = None

  abbrev pub kinds_in : Option ModuleId → List (Option ParamKind)
  kinds_in id = kinds_known (known_in id)

  abbrev pub is_routine : Option ModuleId → Bool
  is_routine id = is_routine_known (known_in id)

  abbrev pub module_at : Option ℕ → Option ModuleId
  module_at (Some unit) = optional (slice_get f.bindings.now.modules.units.items unit)
  module_at None = None

  -- the module round a node
  abbrev pub unit_module : ℕ → Option ModuleId
  unit_module n = module_at (round_in n).unit

  -- the TypeSet for which the declaration at a place stands
  abbrev pub set_at : Option ℕ → Option ℕ
  set_at (Some place) = optional (slice_get f.bindings.now.sets.items place)
  set_at None = None

  -- the node of the type of a constant parameter of the module round a node
  abbrev pub declared_parameter : ℕ → ℕ → Option ℕ
  declared_parameter n number = declared_in f.bindings.now.parameters (round_in n).unit number
