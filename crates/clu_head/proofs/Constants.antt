-- Actual parameters that change nothing, of which one is a type for a while: then only the parameter of its number is changed.
use Rattle.std.proofs.Common.{◌≡◌, ◌∙◌, ℕ, zero, suc, ◌+◌, ◌-◌, ◌<◌, ◌≤◌, Bool, true, if◌then◌else◌, List, [], ◌∷◌, ◌++◌, length, set, refl, sym, ap, subst, arith, add-one, ap₂}
use Rattle.std.proofs.lemmas.Bool.{lt-ltb}
use Rattle.clu_types.specs.CluType.{CluType, null_type, bool_type, int_type, char_type, string_type, any_type, stream_type, array_of, sequence_of, record_of, struct_of, oneof_of, variant_of, proc_of, iter_of, cluster_of, parameter, CluTypes, no_types, type_and, Fields, no_fields, field_and, Signals, no_signals, signal_and, Actuals, no_actuals, actual_type, actual_const, actual_param}
use Rattle.clu_types.specs.Arena.{ActualBelow, ActualsBelow, Grows, type_at, types_of, actuals_at}
use Rattle.clu_types.specs.Substituted.{substituted, types_substituted, fields_substituted, signals_substituted, actuals_substituted, constant_put, type_put, type_of_actual, constant_of_actual}
use Rattle.clu_types.specs.declared.term.TypeId.{TypeId}
use Rattle.clu_types.specs.declared.term.Actual.{Actual}
use Rattle.clu_types.specs.declared.term.Actual.TheVariants as actual
use Rattle.clu_types.specs.declared.term.Term.{Term}
use Rattle.clu_types.proofs.Arenas.{types_grown}
use Rattle.clu_types.proofs.Carrying.{grows_on, length_grows}
use Rattle.clu_types.proofs.Equality.{join3}
use Rattle.clu_head.specs.OwnTypes.{number_at}
use Rattle.clu_head.specs.Unchanged.{IsUnchanged, AreUnchanged, behind_unchanged, only}
use Rattle.clu_head.specs.Wanted.{IsPutIn}

-- ---- each in its place

unchanged_below : (n place : ℕ) (a : Actual) → IsUnchanged place a → ActualBelow n a
unchanged_below n place (actual.Of id) is = absurd is
unchanged_below n place (actual.Const k) is = tt
unchanged_below n place (actual.ConstParam k) is = tt

all_below : (n place : ℕ) (given : List Actual) → AreUnchanged place given → ActualsBelow n given
all_below n place [] are = tt
all_below n place (a ∷ rest) are = (unchanged_below n place a are.0, all_below n (suc place) rest are.1)

pub below_put : (n place : ℕ) (given : List Actual) (i : ℕ) (id : TypeId) → AreUnchanged place given → id.0 < n → ActualsBelow n (set given i (actual.Of id))
below_put n place [] i id are lt = tt
below_put n place (a ∷ rest) zero id are lt = (lt, all_below n (suc place) rest are.1)
below_put n place (a ∷ rest) (suc i) id are lt = (unchanged_below n place a are.0, below_put n (suc place) rest i id are.1 lt)

-- the number of a place that is not too large
numbered : (i : ℕ) → i < 4294967295 → number_at i ≡ suc i
numbered i lt = ap (λ (b : Bool). if b then i + 1 else 4294967295) (lt-ltb i 4294967295 lt) ∙ add-one i

put_back : (place : ℕ) (given : List Actual) (i : ℕ) (other : Actual) (k : ℕ) → AreUnchanged place given → k ≡ suc (place + i) → AreUnchanged place (set (set given i other) i (actual.ConstParam k))
put_back place [] i other k are is = tt
put_back place (a ∷ rest) zero other k are is = (omega (arith, is), are.1)
put_back place (a ∷ rest) (suc i) other k are is = (are.0, put_back (suc place) rest i other k are.1 (omega (arith, is)))

pub restored : (given : List Actual) (i : ℕ) (other : Actual) → i < 4294967295 → AreUnchanged 0 given → AreUnchanged 0 (set (set given i other) i (actual.ConstParam (number_at i)))
restored given i other lt are = put_back 0 given i other (number_at i) are (numbered i lt ∙ omega arith)

put_behind : (place : ℕ) (given : List Actual) (k : ℕ) → AreUnchanged place given → k ≡ suc (place + length given) → AreUnchanged place (given ++ actual.ConstParam k ∷ [])
put_behind place [] k are is = (omega (arith, is), tt)
put_behind place (a ∷ rest) k are is = (are.0, put_behind (suc place) rest k are.1 (omega (arith, is)))

pub one_more : (given new : List Actual) (i : ℕ) → i < 4294967295 → length given ≡ i → AreUnchanged 0 given → new ≡ given ++ actual.ConstParam (number_at i) ∷ [] → AreUnchanged 0 new
one_more given new i lt size are is = subst (AreUnchanged 0) (sym is) (put_behind 0 given (number_at i) are (numbered i lt ∙ omega (arith, size)))

-- ---- what is put in for each parameter

module _ (types : List CluType) where
  no_type : (place : ℕ) (given : List Actual) → AreUnchanged place given → (i : ℕ) (other : CluType) → type_of_actual (actuals_at types given) i other ≡ other
  no_type place [] are i other = refl
  no_type place (actual.Of id ∷ rest) are i other = absurd are.0
  no_type place (actual.Const c ∷ rest) are i other = absurd are.0
  no_type place (actual.ConstParam n ∷ rest) are zero other = refl
  no_type place (actual.ConstParam n ∷ rest) are (suc i) other = no_type (suc place) rest are.1 i other

  no_constant : (place : ℕ) (given : List Actual) → AreUnchanged place given → (i n : ℕ) (behind : Actuals) → n ≡ suc (place + i) → constant_of_actual (actuals_at types given) i n behind ≡ actual_param n behind
  no_constant place [] are i n behind is = refl
  no_constant place (actual.Of id ∷ rest) are i n behind is = absurd are.0
  no_constant place (actual.Const c ∷ rest) are i n behind is = absurd are.0
  no_constant place (actual.ConstParam m ∷ rest) are zero n behind is = let same : m ≡ n = omega (arith, is, are.0) in ap (λ (x : ℕ). actual_param x behind) same
  no_constant place (actual.ConstParam m ∷ rest) are (suc i) n behind is = no_constant (suc place) rest are.1 i n behind (omega (arith, is))

  module _ (id : TypeId) where
    abbrev t : CluType
    t = type_at types id

    type_one : (place : ℕ) (given : List Actual) → AreUnchanged place given → (at i : ℕ) (other : CluType) → at < length given → type_of_actual (actuals_at types (set given at (actual.Of id))) i other ≡ type_of_actual (behind_unchanged place at t) i other
    type_one place [] are at i other lt = absurd (omega (arith, lt))
    type_one place (actual.Of j ∷ rest) are at i other lt = absurd are.0
    type_one place (actual.Const c ∷ rest) are at i other lt = absurd are.0
    type_one place (actual.ConstParam n ∷ rest) are zero zero other lt = refl
    type_one place (actual.ConstParam n ∷ rest) are zero (suc i) other lt = no_type (suc place) rest are.1 i other
    type_one place (actual.ConstParam n ∷ rest) are (suc at) zero other lt = refl
    type_one place (actual.ConstParam n ∷ rest) are (suc at) (suc i) other lt = type_one (suc place) rest are.1 at i other (omega (arith, lt))

    constant_one : (place : ℕ) (given : List Actual) → AreUnchanged place given → (at i n : ℕ) (behind : Actuals) → at < length given → n ≡ suc (place + i)
        → constant_of_actual (actuals_at types (set given at (actual.Of id))) i n behind ≡ constant_of_actual (behind_unchanged place at t) i n behind
    constant_one place [] are at i n behind lt is = absurd (omega (arith, lt))
    constant_one place (actual.Of j ∷ rest) are at i n behind lt is = absurd are.0
    constant_one place (actual.Const c ∷ rest) are at i n behind lt is = absurd are.0
    constant_one place (actual.ConstParam m ∷ rest) are zero zero n behind lt is = refl
    constant_one place (actual.ConstParam m ∷ rest) are zero (suc i) n behind lt is = no_constant (suc place) rest are.1 i n behind (omega (arith, is))
    constant_one place (actual.ConstParam m ∷ rest) are (suc at) zero n behind lt is = ap (λ (x : ℕ). actual_param x behind) are.0
    constant_one place (actual.ConstParam m ∷ rest) are (suc at) (suc i) n behind lt is = constant_one (suc place) rest are.1 at i n behind (omega (arith, lt)) (omega (arith, is))

    module _ (given : List Actual) (are : AreUnchanged 0 given) (at : ℕ) (lt : at < length given) where
      abbrev some : Actuals
      some = actuals_at types (set given at (actual.Of id))

      abbrev one : Actuals
      one = behind_unchanged 0 at t

      type_same : (n : ℕ) → type_put some n ≡ type_put one n
      type_same zero = refl
      type_same (suc i) = type_one 0 given are at i (parameter (suc i)) lt

      constant_same : (n : ℕ) (behind : Actuals) → constant_put some n behind ≡ constant_put one n behind
      constant_same zero behind = refl
      constant_same (suc i) behind = constant_one 0 given are at i (suc i) behind lt (omega arith)

      mutual
        pub put_same : (x : CluType) → substituted some x ≡ substituted one x
        put_same null_type = refl
        put_same bool_type = refl
        put_same int_type = refl
        put_same char_type = refl
        put_same string_type = refl
        put_same any_type = refl
        put_same stream_type = refl
        put_same (array_of x) = ap array_of (put_same x)
        put_same (sequence_of x) = ap sequence_of (put_same x)
        put_same (record_of fs) = ap record_of (fields_same fs)
        put_same (struct_of fs) = ap struct_of (fields_same fs)
        put_same (oneof_of fs) = ap oneof_of (fields_same fs)
        put_same (variant_of fs) = ap variant_of (fields_same fs)
        put_same (proc_of args results signals) = join3 proc_of (types_same args) (types_same results) (signals_same signals)
        put_same (iter_of args results signals) = join3 iter_of (types_same args) (types_same results) (signals_same signals)
        put_same (cluster_of name inner) = ap (cluster_of name) (actuals_same inner)
        put_same (parameter n) = type_same n

        types_same : (ts : CluTypes) → types_substituted some ts ≡ types_substituted one ts
        types_same no_types = refl
        types_same (type_and x ts) = ap₂ type_and (put_same x) (types_same ts)

        fields_same : (fs : Fields) → fields_substituted some fs ≡ fields_substituted one fs
        fields_same no_fields = refl
        fields_same (field_and name x fs) = ap₂ (field_and name) (put_same x) (fields_same fs)

        signals_same : (ss : Signals) → signals_substituted some ss ≡ signals_substituted one ss
        signals_same no_signals = refl
        signals_same (signal_and name ts ss) = ap₂ (signal_and name) (types_same ts) (signals_same ss)

        actuals_same : (inner : Actuals) → actuals_substituted some inner ≡ actuals_substituted one inner
        actuals_same no_actuals = refl
        actuals_same (actual_type x rest) = ap₂ actual_type (put_same x) (actuals_same rest)
        actuals_same (actual_const c rest) = ap (actual_const c) (actuals_same rest)
        actuals_same (actual_param p rest) = constant_same p (actuals_substituted some rest) ∙ ap (constant_put one p) (actuals_same rest)

-- ---- a parameter put in for a variable, in an arena that grew by it, and then by the type

pub put_in : (old mid new : List Term) → Grows old mid → Grows mid new → (given : List Actual) → AreUnchanged 0 given → (variable p : ℕ) → 0 < variable → variable ≤ length given
    → (of t id : TypeId) → type_at (types_of mid) of ≡ parameter p → t.0 < length old → id.0 < length new
    → type_at (types_of new) id ≡ substituted (actuals_at (types_of mid) (set given (variable - 1) (actual.Of of))) (type_at (types_of mid) t) → IsPutIn new variable p t id
unfolding IsPutIn
put_in old mid new front behind given are variable p first many of t id is t_in id_in made =
    let more = length_grows old mid front in
    let most = length_grows mid new behind in
    let at : ℕ = variable - 1 in
    let source : type_at (types_of new) t ≡ type_at (types_of mid) t = types_grown mid new behind t (omega (arith, more, t_in)) in (
      omega (arith, more, most, t_in),
      id_in,
      made
          ∙ put_same (types_of mid) of given are at (omega (arith, first, many)) (type_at (types_of mid) t)
          ∙ ap (λ (x : CluType). substituted (behind_unchanged 0 at x) (type_at (types_of mid) t)) is
          ∙ ap (substituted (only variable (parameter p))) (sym source),
    )
