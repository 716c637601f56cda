-- Which texts name no parameter but those that are there, each of its kind; and what they are with the actuals put in.
use Rattle.std.specs.Prelude.{ℕ, zero, suc, Bool, true, false, ◌&&◌, Option, Some, None}
use Rattle.clu_base.specs.declared.constants.Const.{Const}
use Rattle.clu_base.specs.declared.constants.ObjConst.{ObjConst}
use Rattle.clu_base.specs.declared.constants.ObjConst.TheVariants as named
use Rattle.clu_types.specs.CluType.{CluType, null_type, bool_type, int_type, char_type, string_type, any_type, stream_type, array_of, sequence_of, record_of, struct_of, oneof_of, variant_of, proc_of, iter_of, cluster_of, parameter, CluTypes, no_types, type_and, Fields, no_fields, field_and, Signals, no_signals, signal_and, Actuals, no_actuals, actual_type, actual_const, actual_param}
use Rattle.clu_types.specs.Substituted.{substituted, actuals_substituted}
use Rattle.clu_specs.specs.Seen.{Used, a_module, an_operation, own_set_up, force_of}

-- the actual of a number from 1 is a type; a constant
abbrev pub is_type_at : Actuals → ℕ → Bool
is_type_at no_actuals i = false
is_type_at (actual_type t rest) zero = true
is_type_at (actual_const c rest) zero = false
is_type_at (actual_param p rest) zero = false
is_type_at (actual_type t rest) (suc i) = is_type_at rest i
is_type_at (actual_const c rest) (suc i) = is_type_at rest i
is_type_at (actual_param p rest) (suc i) = is_type_at rest i

abbrev pub constant_at : Actuals → ℕ → Option Const
constant_at no_actuals i = None
constant_at (actual_type t rest) zero = None
constant_at (actual_const c rest) zero = Some c
constant_at (actual_param p rest) zero = None
constant_at (actual_type t rest) (suc i) = constant_at rest i
constant_at (actual_const c rest) (suc i) = constant_at rest i
constant_at (actual_param p rest) (suc i) = constant_at rest i

abbrev pub is_type_numbered : Actuals → ℕ → Bool
is_type_numbered given zero = false
is_type_numbered given (suc i) = is_type_at given i

abbrev pub constant_numbered : Actuals → ℕ → Option Const
constant_numbered given zero = None
constant_numbered given (suc i) = constant_at given i

abbrev pub is_there : Option Const → Bool
is_there (Some c) = true
is_there None = false

-- a constant of a routine's table
abbrev pub constant_put_in : Actuals → ObjConst → Option Const
constant_put_in given (named.Value c) = Some c
constant_put_in given (named.Param n) = constant_numbered given n

abbrev mutual
  pub knows : Actuals → CluType → Bool
  knows given null_type = true
  knows given bool_type = true
  knows given int_type = true
  knows given char_type = true
  knows given string_type = true
  knows given any_type = true
  knows given stream_type = true
  knows given (array_of t) = knows given t
  knows given (sequence_of t) = knows given t
  knows given (record_of fs) = knows_fields given fs
  knows given (struct_of fs) = knows_fields given fs
  knows given (oneof_of fs) = knows_fields given fs
  knows given (variant_of fs) = knows_fields given fs
  knows given (proc_of args results signals) = knows_types given args && (knows_types given results && knows_signals given signals)
  knows given (iter_of args results signals) = knows_types given args && (knows_types given results && knows_signals given signals)
  knows given (cluster_of name inner) = knows_actuals given inner
  knows given (parameter n) = is_type_numbered given n

  pub knows_types : Actuals → CluTypes → Bool
  knows_types given no_types = true
  knows_types given (type_and t ts) = knows given t && knows_types given ts

  pub knows_fields : Actuals → Fields → Bool
  knows_fields given no_fields = true
  knows_fields given (field_and name t fs) = knows given t && knows_fields given fs

  pub knows_signals : Actuals → Signals → Bool
  knows_signals given no_signals = true
  knows_signals given (signal_and name ts ss) = knows_types given ts && knows_signals given ss

  pub knows_actuals : Actuals → Actuals → Bool
  knows_actuals given no_actuals = true
  knows_actuals given (actual_type t rest) = knows given t && knows_actuals given rest
  knows_actuals given (actual_const c rest) = knows_actuals given rest
  knows_actuals given (actual_param n rest) = is_there (constant_numbered given n) && knows_actuals given rest

abbrev pub knows_use : Actuals → Used → Bool
knows_use given (a_module name inner) = knows_actuals given inner
knows_use given (an_operation t op) = knows given t
knows_use given (own_set_up t) = knows given t
knows_use given (force_of t) = knows given t

abbrev pub use_put : Actuals → Used → Used
use_put given (a_module name inner) = a_module name (actuals_substituted given inner)
use_put given (an_operation t op) = an_operation (substituted given t) op
use_put given (own_set_up t) = own_set_up (substituted given t)
use_put given (force_of t) = force_of (substituted given t)
