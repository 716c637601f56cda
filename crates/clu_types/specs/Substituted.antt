-- A type with actual parameters put in for the parameters, which are numbered from 1.
-- A parameter that has no actual of its kind stays.
use Rattle.std.specs.Prelude.{ℕ, zero, suc}
use Rattle.clu_types.specs.CluType.{CluType, null_type, bool_type, int_type, char_type, string_type, any_type, stream_type, array_of, sequence_of, record_of, struct_of, oneof_of, variant_of, proc_of, iter_of, cluster_of, parameter, CluTypes, no_types, type_and, Fields, no_fields, field_and, Signals, no_signals, signal_and, Actuals, no_actuals, actual_type, actual_const, actual_param}

-- the type at a place, from 0, or the other one
abbrev pub type_of_actual : Actuals → ℕ → CluType → CluType
type_of_actual no_actuals i other = other
type_of_actual (actual_type t rest) zero other = t
type_of_actual (actual_const c rest) zero other = other
type_of_actual (actual_param p rest) zero other = other
type_of_actual (actual_type t rest) (suc i) other = type_of_actual rest i other
type_of_actual (actual_const c rest) (suc i) other = type_of_actual rest i other
type_of_actual (actual_param p rest) (suc i) other = type_of_actual rest i other

-- the constant or constant parameter at a place, or the parameter n, before the actuals after it
abbrev pub constant_of_actual : Actuals → ℕ → ℕ → Actuals → Actuals
constant_of_actual no_actuals i n behind = actual_param n behind
constant_of_actual (actual_type t rest) zero n behind = actual_param n behind
constant_of_actual (actual_const c rest) zero n behind = actual_const c behind
constant_of_actual (actual_param p rest) zero n behind = actual_param p behind
constant_of_actual (actual_type t rest) (suc i) n behind = constant_of_actual rest i n behind
constant_of_actual (actual_const c rest) (suc i) n behind = constant_of_actual rest i n behind
constant_of_actual (actual_param p rest) (suc i) n behind = constant_of_actual rest i n behind

-- what a type parameter becomes
abbrev pub type_put : Actuals → ℕ → CluType
type_put given zero = parameter zero
type_put given (suc i) = type_of_actual given i (parameter (suc i))

-- what a constant parameter becomes
abbrev pub constant_put : Actuals → ℕ → Actuals → Actuals
constant_put given zero behind = actual_param zero behind
constant_put given (suc i) behind = constant_of_actual given i (suc i) behind

abbrev mutual
  pub substituted : Actuals → CluType → CluType
  substituted given null_type = null_type
  substituted given bool_type = bool_type
  substituted given int_type = int_type
  substituted given char_type = char_type
  substituted given string_type = string_type
  substituted given any_type = any_type
  substituted given stream_type = stream_type
  substituted given (array_of t) = array_of (substituted given t)
  substituted given (sequence_of t) = sequence_of (substituted given t)
  substituted given (record_of fs) = record_of (fields_substituted given fs)
  substituted given (struct_of fs) = struct_of (fields_substituted given fs)
  substituted given (oneof_of fs) = oneof_of (fields_substituted given fs)
  substituted given (variant_of fs) = variant_of (fields_substituted given fs)
  substituted given (proc_of args results signals) = proc_of (types_substituted given args) (types_substituted given results) (signals_substituted given signals)
  substituted given (iter_of args results signals) = iter_of (types_substituted given args) (types_substituted given results) (signals_substituted given signals)
  substituted given (cluster_of name inner) = cluster_of name (actuals_substituted given inner)
  substituted given (parameter n) = type_put given n

  pub types_substituted : Actuals → CluTypes → CluTypes
  types_substituted given no_types = no_types
  types_substituted given (type_and t ts) = type_and (substituted given t) (types_substituted given ts)

  pub fields_substituted : Actuals → Fields → Fields
  fields_substituted given no_fields = no_fields
  fields_substituted given (field_and name t fs) = field_and name (substituted given t) (fields_substituted given fs)

  pub signals_substituted : Actuals → Signals → Signals
  signals_substituted given no_signals = no_signals
  signals_substituted given (signal_and name ts ss) = signal_and name (types_substituted given ts) (signals_substituted given ss)

  pub actuals_substituted : Actuals → Actuals → Actuals
  actuals_substituted given no_actuals = no_actuals
  actuals_substituted given (actual_type t rest) = actual_type (substituted given t) (actuals_substituted given rest)
  actuals_substituted given (actual_const c rest) = actual_const c (actuals_substituted given rest)
  actuals_substituted given (actual_param p rest) = constant_put given p (actuals_substituted given rest)
