-- What is found of types where the clauses of a node count, by types in place of numbers, for what is asked and met.
use Rattle.std.specs.Prelude.{◌≡◌, ℕ, ◌&&◌, not, Bool, true, false, List, map, option_map, option_and_then, Option, Some, None}
use Rattle.std.specs.Option.{option_or}
use Rattle.clu_types.specs.CluType.{CluType, array_of, sequence_of, record_of, struct_of, oneof_of, variant_of, proc_of, iter_of, cluster_of, parameter, CluTypes, no_types, type_and, Fields, no_fields, field_and, Signals, no_signals, signal_and, Actuals, no_actuals, actual_type, actual_const, actual_param}
use Rattle.clu_types.specs.Arena.{types_of}
use Rattle.clu_types.specs.declared.term.Term.{Term}
use Rattle.clu_builtin.specs.Table.{operation}
use Rattle.clu_syntax.specs.Syntax.{Identifier}
use Rattle.clu_meaning.specs.Settling.{comes_after}
use Rattle.clu_checking.specs.Files.{File}
use Rattle.clu_checking.specs.Invocations.{asks_at}
use Rattle.clu_bindings.specs.declared.file.Headed.{Headed}
use Rattle.clu_bindings.specs.Modules.{named}
use Rattle.clu_operations.specs.declared.finding.Finding.{Finding}
use Rattle.clu_operations.specs.Builtins.{builtin_told}
use Rattle.clu_operations.specs.Clauses.{set_round}
use Rattle.clu_operations.specs.Modules.{Module, known_of}
use Rattle.clu_operations.specs.Told.{Told}
use Rattle.clu_operations.specs.Wished.{told_in}
use Rattle.clu_typing.specs.declared.facts.Invocations.{Invocations}
use Rattle.clu_typing.specs.Facts.{askers_at}
use Rattle.clu_type_rules.specs.declared.unmet.Clauses.{Clauses}
use Rattle.clu_type_rules.specs.Askers.{asks_by_all}
use Rattle.clu_type_rules.specs.Needs.{Setting, set_at, told_fitting, told_for, world}
use Rattle.clu_passes.specs.Met.{asked_told}

-- ---- whether components ascend in a type and in those of which it is made

abbrev pub comes_first : List ℕ → Fields → Bool
comes_first name no_fields = true
comes_first name (field_and other t others) = not (comes_after name other)

abbrev mutual
  pub ascends : CluType → Bool
  ascends (array_of t) = ascends t
  ascends (sequence_of t) = ascends t
  ascends (record_of fields) = fields_ascend fields
  ascends (struct_of fields) = fields_ascend fields
  ascends (oneof_of fields) = fields_ascend fields
  ascends (variant_of fields) = fields_ascend fields
  ascends (proc_of args results signals) = types_ascend args && (types_ascend results && signals_ascend signals)
  ascends (iter_of args results signals) = types_ascend args && (types_ascend results && signals_ascend signals)
  ascends (cluster_of name given) = actuals_ascend given
  ascends _ = true

  pub types_ascend : CluTypes → Bool
  types_ascend no_types = true
  types_ascend (type_and t types) = ascends t && types_ascend types

  pub fields_ascend : Fields → Bool
  fields_ascend no_fields = true
  fields_ascend (field_and name t fields) = comes_first name fields && (ascends t && fields_ascend fields)

  pub signals_ascend : Signals → Bool
  signals_ascend no_signals = true
  signals_ascend (signal_and name types signals) = types_ascend types && signals_ascend signals

  pub actuals_ascend : Actuals → Bool
  actuals_ascend no_actuals = true
  actuals_ascend (actual_type t given) = ascends t && actuals_ascend given
  actuals_ascend (actual_const c given) = actuals_ascend given
  actuals_ascend (actual_param n given) = actuals_ascend given

-- ---- what is found under clauses

module _ (headed : Headed) (types : List CluType) where
  -- what is given of a type parameter as it is asked for; in a type set, by the node itself
  abbrev pub given_inside : Clauses → ℕ → List ℕ → CluType → Option ℕ → Option Told
  given_inside u number name wanted (Some n) = told_for headed types number wanted n name
  given_inside u number name wanted None =
      option_or (told_fitting headed types number wanted u.routine name) (told_fitting headed types number wanted u.cluster name)

  -- the operation that users see of a module
  abbrev pub exported_in : List ℕ → Actuals → Option Module → Option Told
  exported_in name given (Some its) = told_in types false its (Some name) given
  exported_in name given None = None

  -- the module of this name
  abbrev pub module_of_name : Identifier → Option Module
  module_of_name c = option_and_then (known_of headed) (named headed.file.bindings.now.modules c)

  abbrev pub found_under : Clauses → CluType → List ℕ → CluType → Option Told
  found_under u (cluster_of c given) name wanted = exported_in name given (module_of_name c)
  found_under u (parameter number) name wanted = given_inside u number name wanted u.set
  found_under u t name wanted = option_map builtin_told (operation t name)

-- from this state on
abbrev pub setting_of : Headed → List Term → Finding → Setting
setting_of headed terms finding = record { start = world terms finding; found = found_under headed (types_of terms); fine = ascends }

-- ---- what is asked of the calls below

-- where a node stands in no type set, none gives anything there
abbrev pub AreInSets : Headed → Type 0
AreInSets headed = (n : ℕ) → set_at headed n ≡ None → (number : ℕ) → set_round headed.file n number ≡ None

-- what is asked at nodes is what the definitions say
abbrev pub AreAskedAt : File → List Term → Finding → Invocations → (ℕ → Bool) → Type 0
AreAskedAt f terms finding invocations lost = (n : ℕ) → lost n ≡ false → map asked_told (asks_by_all (world terms finding) (askers_at invocations n)) ≡ asks_at f n
