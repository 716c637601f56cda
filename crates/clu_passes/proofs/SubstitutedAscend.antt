-- Components ascend where actual parameters are put in.
use Rattle.std.proofs.Common.{ℕ, zero, suc, List}
use Rattle.clu_types.specs.CluType.{CluType, array_of, sequence_of, record_of, struct_of, oneof_of, variant_of, proc_of, iter_of, cluster_of, parameter, CluTypes, no_types, type_and, Fields, no_fields, field_and, Signals, no_signals, signal_and, Actuals, no_actuals, actual_type, actual_const, actual_param}
use Rattle.clu_types.specs.Substituted.{type_of_actual, constant_of_actual, type_put, constant_put, substituted, types_substituted, fields_substituted, signals_substituted, actuals_substituted}
use Rattle.clu_passes.specs.Ascending.{ComesFirst, Ascends, TypesAscend, FieldsAscend, SignalsAscend, ActualsAscend}

actual_ascends : (given : Actuals) → ActualsAscend given → (i : ℕ) (other : CluType) → Ascends other → Ascends (type_of_actual given i other)
actual_ascends no_actuals all i other up = up
actual_ascends (actual_type t rest) all zero other up = all.0
actual_ascends (actual_const c rest) all zero other up = up
actual_ascends (actual_param p rest) all zero other up = up
actual_ascends (actual_type t rest) all (suc i) other up = actual_ascends rest all.1 i other up
actual_ascends (actual_const c rest) all (suc i) other up = actual_ascends rest all i other up
actual_ascends (actual_param p rest) all (suc i) other up = actual_ascends rest all i other up

put_ascends : (given : Actuals) → ActualsAscend given → (n : ℕ) → Ascends (type_put given n)
put_ascends given all zero = tt
put_ascends given all (suc i) = actual_ascends given all i (parameter (suc i)) tt

constant_ascends : (given : Actuals) (i n : ℕ) (behind : Actuals) → ActualsAscend behind → ActualsAscend (constant_of_actual given i n behind)
constant_ascends no_actuals i n behind all = all
constant_ascends (actual_type t rest) zero n behind all = all
constant_ascends (actual_const c rest) zero n behind all = all
constant_ascends (actual_param p rest) zero n behind all = all
constant_ascends (actual_type t rest) (suc i) n behind all = constant_ascends rest i n behind all
constant_ascends (actual_const c rest) (suc i) n behind all = constant_ascends rest i n behind all
constant_ascends (actual_param p rest) (suc i) n behind all = constant_ascends rest i n behind all

constant_put_ascends : (given : Actuals) (n : ℕ) (behind : Actuals) → ActualsAscend behind → ActualsAscend (constant_put given n behind)
constant_put_ascends given zero behind all = all
constant_put_ascends given (suc i) behind all = constant_ascends given i (suc i) behind all

module _ (given : Actuals) (puts : ActualsAscend given) where
  first_stays : (name : List ℕ) (fields : Fields) → ComesFirst name fields → ComesFirst name (fields_substituted given fields)
  first_stays name no_fields first = tt
  first_stays name (field_and other t others) first = first

  mutual
    pub type_put_in : (t : CluType) → Ascends t → Ascends (substituted given t)
    type_put_in (array_of t) up = type_put_in t up
    type_put_in (sequence_of t) up = type_put_in t up
    type_put_in (record_of fields) up = fields_put_in fields up
    type_put_in (struct_of fields) up = fields_put_in fields up
    type_put_in (oneof_of fields) up = fields_put_in fields up
    type_put_in (variant_of fields) up = fields_put_in fields up
    type_put_in (proc_of args results signals) up = (types_put_in args up.0, types_put_in results up.1, signals_put_in signals up.2)
    type_put_in (iter_of args results signals) up = (types_put_in args up.0, types_put_in results up.1, signals_put_in signals up.2)
    type_put_in (cluster_of name inner) up = actuals_put_in inner up
    type_put_in (parameter n) up = put_ascends given puts n
    type_put_in _ up = tt

    types_put_in : (types : CluTypes) → TypesAscend types → TypesAscend (types_substituted given types)
    types_put_in no_types up = tt
    types_put_in (type_and t types) up = (type_put_in t up.0, types_put_in types up.1)

    fields_put_in : (fields : Fields) → FieldsAscend fields → FieldsAscend (fields_substituted given fields)
    fields_put_in no_fields up = tt
    fields_put_in (field_and name t fields) up = (first_stays name fields up.0, type_put_in t up.1, fields_put_in fields up.2)

    signals_put_in : (signals : Signals) → SignalsAscend signals → SignalsAscend (signals_substituted given signals)
    signals_put_in no_signals up = tt
    signals_put_in (signal_and name types signals) up = (types_put_in types up.0, signals_put_in signals up.1)

    actuals_put_in : (inner : Actuals) → ActualsAscend inner → ActualsAscend (actuals_substituted given inner)
    actuals_put_in no_actuals up = tt
    actuals_put_in (actual_type t rest) up = (type_put_in t up.0, actuals_put_in rest up.1)
    actuals_put_in (actual_const c rest) up = actuals_put_in rest up
    actuals_put_in (actual_param n rest) up = constant_put_ascends given n (actuals_substituted given rest) (actuals_put_in rest up)
