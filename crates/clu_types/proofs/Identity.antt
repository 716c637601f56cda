-- Where no actuals are given every parameter stays, so the type does.
use Rattle.std.proofs.Common.{◌≡◌, ℕ, zero, suc, refl, ap, ◌∙◌, ap₂}
use Rattle.clu_types.specs.CluType.{CluType, null_type, bool_type, int_type, char_type, string_type, any_type, stream_type, array_of, sequence_of, record_of, struct_of, oneof_of, variant_of, proc_of, iter_of, cluster_of, parameter, CluTypes, no_types, type_and, Fields, no_fields, field_and, Signals, no_signals, signal_and, Actuals, no_actuals, actual_type, actual_const, actual_param}
use Rattle.clu_types.specs.Substituted.{substituted, types_substituted, fields_substituted, signals_substituted, actuals_substituted, constant_put, type_put}
use Rattle.clu_types.proofs.Equality.{join3}

type_stays : (n : ℕ) → type_put no_actuals n ≡ parameter n
type_stays zero = refl
type_stays (suc i) = refl

constant_stays : (n : ℕ) (behind : Actuals) → constant_put no_actuals n behind ≡ actual_param n behind
constant_stays zero behind = refl
constant_stays (suc i) behind = refl

mutual
  pub substituted-none : (t : CluType) → substituted no_actuals t ≡ t
  substituted-none null_type = refl
  substituted-none bool_type = refl
  substituted-none int_type = refl
  substituted-none char_type = refl
  substituted-none string_type = refl
  substituted-none any_type = refl
  substituted-none stream_type = refl
  substituted-none (array_of t) = ap array_of (substituted-none t)
  substituted-none (sequence_of t) = ap sequence_of (substituted-none t)
  substituted-none (record_of fs) = ap record_of (fields-none fs)
  substituted-none (struct_of fs) = ap struct_of (fields-none fs)
  substituted-none (oneof_of fs) = ap oneof_of (fields-none fs)
  substituted-none (variant_of fs) = ap variant_of (fields-none fs)
  substituted-none (proc_of args results signals) = join3 proc_of (types-none args) (types-none results) (signals-none signals)
  substituted-none (iter_of args results signals) = join3 iter_of (types-none args) (types-none results) (signals-none signals)
  substituted-none (cluster_of name inner) = ap (cluster_of name) (actuals-none inner)
  substituted-none (parameter n) = type_stays n

  types-none : (ts : CluTypes) → types_substituted no_actuals ts ≡ ts
  types-none no_types = refl
  types-none (type_and t ts) = ap₂ type_and (substituted-none t) (types-none ts)

  fields-none : (fs : Fields) → fields_substituted no_actuals fs ≡ fs
  fields-none no_fields = refl
  fields-none (field_and name t fs) = ap₂ (field_and name) (substituted-none t) (fields-none fs)

  signals-none : (ss : Signals) → signals_substituted no_actuals ss ≡ ss
  signals-none no_signals = refl
  signals-none (signal_and name ts ss) = ap₂ (signal_and name) (types-none ts) (signals-none ss)

  actuals-none : (given : Actuals) → actuals_substituted no_actuals given ≡ given
  actuals-none no_actuals = refl
  actuals-none (actual_type t rest) = ap₂ actual_type (substituted-none t) (actuals-none rest)
  actuals-none (actual_const c rest) = ap (actual_const c) (actuals-none rest)
  actuals-none (actual_param p rest) = constant_stays p (actuals_substituted no_actuals rest) ∙ ap (actual_param p) (actuals-none rest)
