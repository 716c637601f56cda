-- Actuals put in for parameters, and then others for theirs: the same as both at once, in a type whose parameters have actuals of their kinds.
use Rattle.std.proofs.Common.{◌≡◌, refl, sym, ap, ap₂, ◌∙◌}
use Rattle.std.specs.Prelude.{ℕ, zero, suc}
use Rattle.clu_types.specs.CluType.{CluType, null_type, bool_type, int_type, char_type, string_type, any_type, stream_type, array_of, sequence_of, record_of, struct_of, oneof_of, variant_of, proc_of, iter_of, cluster_of, parameter, CluTypes, no_types, type_and, Fields, no_fields, field_and, Signals, no_signals, signal_and, Actuals, no_actuals, actual_type, actual_const, actual_param}
use Rattle.clu_types.specs.Substituted.{type_of_actual, constant_of_actual, constant_put, substituted, types_substituted, fields_substituted, signals_substituted, actuals_substituted}

-- ---- actuals at places

abbrev pub TypeAt : Actuals → ℕ → Type 0
TypeAt no_actuals i = ⊥
TypeAt (actual_type t rest) zero = Unit {0}
TypeAt (actual_const c rest) zero = ⊥
TypeAt (actual_param p rest) zero = ⊥
TypeAt (actual_type t rest) (suc i) = TypeAt rest i
TypeAt (actual_const c rest) (suc i) = TypeAt rest i
TypeAt (actual_param p rest) (suc i) = TypeAt rest i

abbrev pub ConstAt : Actuals → ℕ → Type 0
ConstAt no_actuals i = ⊥
ConstAt (actual_type t rest) zero = ⊥
ConstAt (actual_const c rest) zero = Unit {0}
ConstAt (actual_param p rest) zero = Unit {0}
ConstAt (actual_type t rest) (suc i) = ConstAt rest i
ConstAt (actual_const c rest) (suc i) = ConstAt rest i
ConstAt (actual_param p rest) (suc i) = ConstAt rest i

abbrev TypeOf : Actuals → ℕ → Type 0
TypeOf inner zero = Unit {0}
TypeOf inner (suc i) = TypeAt inner i

abbrev pub ConstOf : Actuals → ℕ → Type 0
ConstOf inner zero = ⊥
ConstOf inner (suc i) = ConstAt inner i

-- the parameters in a type have actuals of their kinds
module _ (inner : Actuals) where
  abbrev mutual
    pub Covered : CluType → Type 0
    Covered (array_of t) = Covered t
    Covered (sequence_of t) = Covered t
    Covered (record_of fs) = FieldsCovered fs
    Covered (struct_of fs) = FieldsCovered fs
    Covered (oneof_of fs) = FieldsCovered fs
    Covered (variant_of fs) = FieldsCovered fs
    Covered (proc_of args results ss) = TypesCovered args × TypesCovered results × SignalsCovered ss
    Covered (iter_of args results ss) = TypesCovered args × TypesCovered results × SignalsCovered ss
    Covered (cluster_of c xs) = ActualsCovered xs
    Covered (parameter zero) = ⊥
    Covered (parameter (suc i)) = TypeAt inner i
    Covered _ = Unit {0}

    pub TypesCovered : CluTypes → Type 0
    TypesCovered no_types = Unit {0}
    TypesCovered (type_and t ts) = Covered t × TypesCovered ts

    pub FieldsCovered : Fields → Type 0
    FieldsCovered no_fields = Unit {0}
    FieldsCovered (field_and s t fs) = Covered t × FieldsCovered fs

    pub SignalsCovered : Signals → Type 0
    SignalsCovered no_signals = Unit {0}
    SignalsCovered (signal_and s ts ss) = TypesCovered ts × SignalsCovered ss

    pub ActualsCovered : Actuals → Type 0
    ActualsCovered no_actuals = Unit {0}
    ActualsCovered (actual_type t rest) = Covered t × ActualsCovered rest
    ActualsCovered (actual_const c rest) = ActualsCovered rest
    ActualsCovered (actual_param p rest) = ConstOf inner p × ActualsCovered rest

-- ---- what a constant parameter becomes stands in front

of_behind : (given : Actuals) (j n : ℕ) (behind : Actuals) (i : ℕ) (other : CluType) → type_of_actual (constant_of_actual given j n behind) (suc i) other ≡ type_of_actual behind i other
of_behind no_actuals j n behind i other = refl
of_behind (actual_type t rest) zero n behind i other = refl
of_behind (actual_const c rest) zero n behind i other = refl
of_behind (actual_param p rest) zero n behind i other = refl
of_behind (actual_type t rest) (suc j) n behind i other = of_behind rest j n behind i other
of_behind (actual_const c rest) (suc j) n behind i other = of_behind rest j n behind i other
of_behind (actual_param p rest) (suc j) n behind i other = of_behind rest j n behind i other

put_behind : (given : Actuals) (p : ℕ) (behind : Actuals) (i : ℕ) (other : CluType) → type_of_actual (constant_put given p behind) (suc i) other ≡ type_of_actual behind i other
put_behind given zero behind i other = refl
put_behind given (suc j) behind i other = of_behind given j (suc j) behind i other

const_behind : (given : Actuals) (j m : ℕ) (behind : Actuals) (i n : ℕ) (more : Actuals) → constant_of_actual (constant_of_actual given j m behind) (suc i) n more ≡ constant_of_actual behind i n more
const_behind no_actuals j m behind i n more = refl
const_behind (actual_type t rest) zero m behind i n more = refl
const_behind (actual_const c rest) zero m behind i n more = refl
const_behind (actual_param p rest) zero m behind i n more = refl
const_behind (actual_type t rest) (suc j) m behind i n more = const_behind rest j m behind i n more
const_behind (actual_const c rest) (suc j) m behind i n more = const_behind rest j m behind i n more
const_behind (actual_param p rest) (suc j) m behind i n more = const_behind rest j m behind i n more

const_put_behind : (given : Actuals) (p : ℕ) (behind : Actuals) (i n : ℕ) (more : Actuals) → constant_of_actual (constant_put given p behind) (suc i) n more ≡ constant_of_actual behind i n more
const_put_behind given zero behind i n more = refl
const_put_behind given (suc j) behind i n more = const_behind given j (suc j) behind i n more

const_front : (given : Actuals) (j m : ℕ) (behind : Actuals) (n : ℕ) (more : Actuals) → constant_of_actual (constant_of_actual given j m behind) zero n more ≡ constant_of_actual given j m more
const_front no_actuals j m behind n more = refl
const_front (actual_type t rest) zero m behind n more = refl
const_front (actual_const c rest) zero m behind n more = refl
const_front (actual_param p rest) zero m behind n more = refl
const_front (actual_type t rest) (suc j) m behind n more = const_front rest j m behind n more
const_front (actual_const c rest) (suc j) m behind n more = const_front rest j m behind n more
const_front (actual_param p rest) (suc j) m behind n more = const_front rest j m behind n more

const_put_front : (given : Actuals) (p : ℕ) (behind : Actuals) (n : ℕ) (more : Actuals) → constant_of_actual (constant_put given p behind) zero n more ≡ constant_put given p more
const_put_front given zero behind n more = refl
const_put_front given (suc j) behind n more = const_front given j (suc j) behind n more

module _ (given : Actuals) where
  type_composed : (inner : Actuals) (i : ℕ) (other other' : CluType) → TypeAt inner i → substituted given (type_of_actual inner i other) ≡ type_of_actual (actuals_substituted given inner) i other'
  type_composed no_actuals i other other' h = absurd h
  type_composed (actual_type t rest) zero other other' h = refl
  type_composed (actual_const c rest) zero other other' h = absurd h
  type_composed (actual_param p rest) zero other other' h = absurd h
  type_composed (actual_type t rest) (suc i) other other' h = type_composed rest i other other' h
  type_composed (actual_const c rest) (suc i) other other' h = type_composed rest i other other' h
  type_composed (actual_param p rest) (suc i) other other' h = type_composed rest i other other' h ∙ sym (put_behind given p (actuals_substituted given rest) i other')

  const_composed : (inner : Actuals) (i n : ℕ) (behind : Actuals) → ConstAt inner i → actuals_substituted given (constant_of_actual inner i n behind) ≡ constant_of_actual (actuals_substituted given inner) i n (actuals_substituted given behind)
  const_composed no_actuals i n behind h = absurd h
  const_composed (actual_type t rest) zero n behind h = absurd h
  const_composed (actual_const c rest) zero n behind h = refl
  const_composed (actual_param p rest) zero n behind h = sym (const_put_front given p (actuals_substituted given rest) n (actuals_substituted given behind))
  const_composed (actual_type t rest) (suc i) n behind h = const_composed rest i n behind h
  const_composed (actual_const c rest) (suc i) n behind h = const_composed rest i n behind h
  const_composed (actual_param p rest) (suc i) n behind h = const_composed rest i n behind h ∙ sym (const_put_behind given p (actuals_substituted given rest) i n (actuals_substituted given behind))

  module _ (inner : Actuals) where
    mutual
      pub composed : (t : CluType) → Covered inner t → substituted given (substituted inner t) ≡ substituted (actuals_substituted given inner) t
      composed (array_of t) h = ap array_of (composed t h)
      composed (sequence_of t) h = ap sequence_of (composed t h)
      composed (record_of fs) h = ap record_of (fields_composed fs h)
      composed (struct_of fs) h = ap struct_of (fields_composed fs h)
      composed (oneof_of fs) h = ap oneof_of (fields_composed fs h)
      composed (variant_of fs) h = ap variant_of (fields_composed fs h)
      composed (proc_of args results ss) h = rw (types_composed args h.0, types_composed results h.1, signals_composed ss h.2) refl
      composed (iter_of args results ss) h = rw (types_composed args h.0, types_composed results h.1, signals_composed ss h.2) refl
      composed (cluster_of c xs) h = ap (cluster_of c) (actuals_composed xs h)
      composed (parameter zero) h = absurd h
      composed (parameter (suc i)) h = type_composed inner i (parameter (suc i)) (parameter (suc i)) h
      composed null_type h = refl
      composed bool_type h = refl
      composed int_type h = refl
      composed char_type h = refl
      composed string_type h = refl
      composed any_type h = refl
      composed stream_type h = refl

      types_composed : (ts : CluTypes) → TypesCovered inner ts → types_substituted given (types_substituted inner ts) ≡ types_substituted (actuals_substituted given inner) ts
      types_composed no_types h = refl
      types_composed (type_and t ts) h = ap₂ type_and (composed t h.0) (types_composed ts h.1)

      fields_composed : (fs : Fields) → FieldsCovered inner fs → fields_substituted given (fields_substituted inner fs) ≡ fields_substituted (actuals_substituted given inner) fs
      fields_composed no_fields h = refl
      fields_composed (field_and s t fs) h = ap₂ (field_and s) (composed t h.0) (fields_composed fs h.1)

      signals_composed : (ss : Signals) → SignalsCovered inner ss → signals_substituted given (signals_substituted inner ss) ≡ signals_substituted (actuals_substituted given inner) ss
      signals_composed no_signals h = refl
      signals_composed (signal_and s ts ss) h = ap₂ (signal_and s) (types_composed ts h.0) (signals_composed ss h.1)

      actuals_composed : (xs : Actuals) → ActualsCovered inner xs → actuals_substituted given (actuals_substituted inner xs) ≡ actuals_substituted (actuals_substituted given inner) xs
      actuals_composed no_actuals h = refl
      actuals_composed (actual_type t rest) h = ap₂ actual_type (composed t h.0) (actuals_composed rest h.1)
      actuals_composed (actual_const c rest) h = ap (actual_const c) (actuals_composed rest h)
      actuals_composed (actual_param zero rest) h = absurd h.0
      actuals_composed (actual_param (suc i) rest) h = const_composed inner i (suc i) (actuals_substituted inner rest) h.0 ∙ ap (constant_of_actual (actuals_substituted given inner) i (suc i)) (actuals_composed rest h.1)
