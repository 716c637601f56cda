-- The test of ascending components says that they ascend.
use Rattle.std.proofs.Common.{◌≡◌, ◌&&◌, inl, inr, ℕ, zero, suc, not, true, List, refl, ap, subst}
use Rattle.std.proofs.lemmas.Bool.{and_parts, and_from, not-true}
use Rattle.clu_types.specs.CluType.{CluType, array_of, sequence_of, record_of, struct_of, oneof_of, variant_of, proc_of, iter_of, cluster_of, parameter, CluTypes, no_types, type_and, Fields, no_fields, field_and, Signals, no_signals, signal_and, Actuals, no_actuals, actual_type, actual_const, actual_param}
use Rattle.clu_types.specs.Substituted.{type_of_actual, type_put}
use Rattle.clu_meaning.specs.Settling.{comes_after}
use Rattle.clu_passes.specs.Ascending.{ComesFirst, Ascends, TypesAscend, FieldsAscend, SignalsAscend, ActualsAscend}
use Rattle.clu_passes.specs.Met.{IsComponent, IsPartOf}
use Rattle.clu_passes.specs.Settings.{comes_first, ascends, types_ascend, fields_ascend, signals_ascend, actuals_ascend}

first_true : (name : List ℕ) (fields : Fields) → comes_first name fields ≡ true → ComesFirst name fields
first_true name no_fields e = tt
first_true name (field_and other t others) e = not-true (comes_after name other) e

true_first : (name : List ℕ) (fields : Fields) → ComesFirst name fields → comes_first name fields ≡ true
true_first name no_fields e = refl
true_first name (field_and other t others) e = ap not e

mutual
  pub ascends_true : (t : CluType) → ascends t ≡ true → Ascends t
  ascends_true (array_of t) e = ascends_true t e
  ascends_true (sequence_of t) e = ascends_true t e
  ascends_true (record_of fields) e = fields_true fields e
  ascends_true (struct_of fields) e = fields_true fields e
  ascends_true (oneof_of fields) e = fields_true fields e
  ascends_true (variant_of fields) e = fields_true fields e
  ascends_true (proc_of args results signals) e =
      let p = and_parts (types_ascend args) (types_ascend results && signals_ascend signals) e in
      let q = and_parts (types_ascend results) (signals_ascend signals) p.1 in (types_true args p.0, types_true results q.0, signals_true signals q.1)
  ascends_true (iter_of args results signals) e =
      let p = and_parts (types_ascend args) (types_ascend results && signals_ascend signals) e in
      let q = and_parts (types_ascend results) (signals_ascend signals) p.1 in (types_true args p.0, types_true results q.0, signals_true signals q.1)
  ascends_true (cluster_of name given) e = actuals_true given e
  ascends_true _ e = tt

  types_true : (ts : CluTypes) → types_ascend ts ≡ true → TypesAscend ts
  types_true no_types e = tt
  types_true (type_and t ts) e = let p = and_parts (ascends t) (types_ascend ts) e in (ascends_true t p.0, types_true ts p.1)

  fields_true : (fields : Fields) → fields_ascend fields ≡ true → FieldsAscend fields
  fields_true no_fields e = tt
  fields_true (field_and name t fields) e =
      let p = and_parts (comes_first name fields) (ascends t && fields_ascend fields) e in
      let q = and_parts (ascends t) (fields_ascend fields) p.1 in (first_true name fields p.0, ascends_true t q.0, fields_true fields q.1)

  signals_true : (signals : Signals) → signals_ascend signals ≡ true → SignalsAscend signals
  signals_true no_signals e = tt
  signals_true (signal_and name ts signals) e = let p = and_parts (types_ascend ts) (signals_ascend signals) e in (types_true ts p.0, signals_true signals p.1)

  actuals_true : (given : Actuals) → actuals_ascend given ≡ true → ActualsAscend given
  actuals_true no_actuals e = tt
  actuals_true (actual_type t given) e = let p = and_parts (ascends t) (actuals_ascend given) e in (ascends_true t p.0, actuals_true given p.1)
  actuals_true (actual_const c given) e = actuals_true given e
  actuals_true (actual_param n given) e = actuals_true given e

mutual
  pub true_ascends : (t : CluType) → Ascends t → ascends t ≡ true
  true_ascends (array_of t) up = true_ascends t up
  true_ascends (sequence_of t) up = true_ascends t up
  true_ascends (record_of fields) up = true_fields fields up
  true_ascends (struct_of fields) up = true_fields fields up
  true_ascends (oneof_of fields) up = true_fields fields up
  true_ascends (variant_of fields) up = true_fields fields up
  true_ascends (proc_of args results signals) up =
      and_from (types_ascend args) (types_ascend results && signals_ascend signals) (true_types args up.0) (and_from (types_ascend results) (signals_ascend signals) (true_types results up.1) (true_signals signals up.2))
  true_ascends (iter_of args results signals) up =
      and_from (types_ascend args) (types_ascend results && signals_ascend signals) (true_types args up.0) (and_from (types_ascend results) (signals_ascend signals) (true_types results up.1) (true_signals signals up.2))
  true_ascends (cluster_of name given) up = true_actuals given up
  true_ascends _ up = refl

  true_types : (ts : CluTypes) → TypesAscend ts → types_ascend ts ≡ true
  true_types no_types up = refl
  true_types (type_and t ts) up = and_from (ascends t) (types_ascend ts) (true_ascends t up.0) (true_types ts up.1)

  true_fields : (fields : Fields) → FieldsAscend fields → fields_ascend fields ≡ true
  true_fields no_fields up = refl
  true_fields (field_and name t fields) up =
      and_from (comes_first name fields) (ascends t && fields_ascend fields) (true_first name fields up.0) (and_from (ascends t) (fields_ascend fields) (true_ascends t up.1) (true_fields fields up.2))

  true_signals : (signals : Signals) → SignalsAscend signals → signals_ascend signals ≡ true
  true_signals no_signals up = refl
  true_signals (signal_and name ts signals) up = and_from (types_ascend ts) (signals_ascend signals) (true_types ts up.0) (true_signals signals up.1)

  true_actuals : (given : Actuals) → ActualsAscend given → actuals_ascend given ≡ true
  true_actuals no_actuals up = refl
  true_actuals (actual_type t given) up = and_from (ascends t) (actuals_ascend given) (true_ascends t up.0) (true_actuals given up.1)
  true_actuals (actual_const c given) up = true_actuals given up
  true_actuals (actual_param n given) up = true_actuals given up

-- ---- they ascend in the parts of a type

component_up : (fields : Fields) → FieldsAscend fields → (of : CluType) → IsComponent fields of → Ascends of
component_up no_fields up of none = absurd none
component_up (field_and name t fields) up of (inl is) = subst Ascends is up.1
component_up (field_and name t fields) up of (inr there) = component_up fields up.2 of there

pub part_up : (t : CluType) → Ascends t → (of : CluType) → IsPartOf t of → Ascends of
part_up (array_of t) up of is = subst Ascends is up
part_up (sequence_of t) up of is = subst Ascends is up
part_up (record_of fields) up of is = component_up fields up of is
part_up (struct_of fields) up of is = component_up fields up of is
part_up (oneof_of fields) up of is = component_up fields up of is
part_up (variant_of fields) up of is = component_up fields up of is
part_up _ up of none = absurd none

actual_up : (given : Actuals) → ActualsAscend given → (i : ℕ) (other : CluType) → Ascends other → Ascends (type_of_actual given i other)
actual_up no_actuals up i other its = its
actual_up (actual_type t rest) up zero other its = up.0
actual_up (actual_const c rest) up zero other its = its
actual_up (actual_param p rest) up zero other its = its
actual_up (actual_type t rest) up (suc i) other its = actual_up rest up.1 i other its
actual_up (actual_const c rest) up (suc i) other its = actual_up rest up i other its
actual_up (actual_param p rest) up (suc i) other its = actual_up rest up i other its

pub put_up : (given : Actuals) → ActualsAscend given → (n : ℕ) → Ascends (type_put given n)
put_up given up zero = tt
put_up given up (suc i) = actual_up given up i (parameter (suc i)) tt
