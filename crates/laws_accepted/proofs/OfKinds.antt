-- Actuals of the kinds of parameters: what stands at each place, and that they stay so when others are put in for their own
-- parameters.
use Rattle.std.proofs.Common.{◌≡◌, ℕ, zero, suc, Bool, true, false, List, [], ◌∷◌, Option, None, Some, slice_get, rules, refl, sym, ap, subst, ◌∙◌}
use Rattle.std.specs.Option.{option_and_then}
use Rattle.std.proofs.lemmas.Bool.{false≢true, true≢false, and_parts, and_from}
use denote.Enum.Bare.{same_true, true_same}
use Rattle.clu_base.proofs.Bools.{of_three}
use Rattle.clu_base.specs.declared.constants.Const.{Const}
use Rattle.clu_base.specs.declared.constants.Const.TheVariants as constant
use Rattle.clu_types.specs.CluType.{CluType, array_of, sequence_of, record_of, struct_of, oneof_of, variant_of, proc_of, iter_of, cluster_of, parameter, CluTypes, no_types, type_and, Fields, no_fields, field_and, Signals, no_signals, signal_and, Actuals, no_actuals, actual_type, actual_const, actual_param}
use Rattle.clu_types.specs.Substituted.{constant_of_actual, constant_put, actuals_substituted}
use Rattle.clu_types.specs.declared.spec.ParamKind.{ParamKind}
use Rattle.clu_types.specs.declared.spec.ParamKind.TheVariants as param
use Rattle.clu_types.specs.contracts.spec.ParamKind.{the_type}
use Rattle.clu_checking.specs.Specifications.{Specification, demands_of}
use Rattle.clu_checking.specs.Wanted.{kind_of_constant}
use Rattle.laws_accepted.specs.Legal.{Specified, Context, is_kind, kind_of, is_type_parameter, is_of_constants, is_as, are_of_kinds, are_demands_met, is_instance, is_legal, types_legal, fields_legal, signals_legal, actuals_legal}
use Rattle.laws_accepted.proofs.Composed.{TypeAt, ConstAt, ConstOf, Covered, TypesCovered, FieldsCovered, SignalsCovered, ActualsCovered}

abbrev pub Kinds : Type 0
Kinds = List (Option ParamKind)

pub no : {A : Type 0} → false ≡ true → A
no h = absurd (false≢true h)

-- ---- one kind

abbrev flat : Option (Option ParamKind) → Option ParamKind
flat o = option_and_then (λ k. k) o

pub kind_is : (a : ParamKind) (x : Option ParamKind) → is_kind a x ≡ true → x ≡ Some a
kind_is a (Some k) h = ap Some (sym (same_true the_type (search rules) a k h))
kind_is a None h = no h

kind_same : (a : ParamKind) → is_kind a (Some a) ≡ true
kind_same a = true_same the_type a a refl

pub some_kind : {a b : ParamKind} → Some a ≡ Some b → a ≡ b
some_kind {a} {b} e = ap (λ o. get o a) e
  where
    get : Option ParamKind → ParamKind → ParamKind
    get (Some z) other = z
    get None other = other

-- a constant is of no type
pub constants_differ : (c : Const) → is_of_constants (kind_of_constant c) ≡ true
constants_differ constant.Null = refl
constants_differ (constant.Bool b) = refl
constants_differ (constant.Int n) = refl
constants_differ (constant.Char c) = refl
constants_differ (constant.Str bytes) = refl

no_type : {A : Type 0} (a : ParamKind) → is_of_constants a ≡ true → a ≡ param.OfType → A
no_type a h e = no (ap is_of_constants (sym e) ∙ h)

-- a constant parameter that takes what another takes
pub record IsAs (k x : Option ParamKind) : Type 0 where
  pub kind : ParamKind
  pub first : k ≡ Some kind
  pub second : x ≡ Some kind
  pub constants : is_of_constants kind ≡ true

pub as_is : (k x : Option ParamKind) → is_as k x ≡ true → IsAs k x
as_is (Some a) x h =
    let p = and_parts (is_of_constants a) (is_kind a x) h in
    record { kind = a; first = refl; second = kind_is a x p.1; constants = p.0 }
as_is None x h = no h

is_as_from : (k x : Option ParamKind) (a : ParamKind) → k ≡ Some a → x ≡ Some a → is_of_constants a ≡ true → is_as k x ≡ true
is_as_from k x a e f h = subst (λ y. is_as y x ≡ true) (sym e) (subst (λ y. is_as (Some a) y ≡ true) (sym f) (and_from (is_of_constants a) (is_kind a (Some a)) h (kind_same a)))

-- ---- what stands at a place

module _ (over : Kinds) where
  type_there : (ks : Kinds) (given : Actuals) (i : ℕ) → are_of_kinds over ks given ≡ true → flat (slice_get ks i) ≡ Some param.OfType → TypeAt given i
  type_there [] no_actuals i h e = absurd (true≢false (ap is_some (sym e)))
    where
      is_some : Option ParamKind → Bool
      is_some (Some k) = true
      is_some None = false
  type_there (k ∷ ks) (actual_type t rest) zero h e = tt
  type_there (k ∷ ks) (actual_type t rest) (suc i) h e = type_there ks rest i (and_parts (is_kind param.OfType k) (are_of_kinds over ks rest) h).1 e
  type_there (k ∷ ks) (actual_const c rest) zero h e =
      let is : k ≡ Some (kind_of_constant c) = kind_is (kind_of_constant c) k (and_parts (is_kind (kind_of_constant c) k) (are_of_kinds over ks rest) h).0 in
      no_type (kind_of_constant c) (constants_differ c) (some_kind (sym is ∙ e))
  type_there (k ∷ ks) (actual_const c rest) (suc i) h e = type_there ks rest i (and_parts (is_kind (kind_of_constant c) k) (are_of_kinds over ks rest) h).1 e
  type_there (k ∷ ks) (actual_param p rest) zero h e =
      let a = as_is k (kind_of over p) (and_parts (is_as k (kind_of over p)) (are_of_kinds over ks rest) h).0 in
      no_type a.kind a.constants (some_kind (sym a.first ∙ e))
  type_there (k ∷ ks) (actual_param p rest) (suc i) h e = type_there ks rest i (and_parts (is_as k (kind_of over p)) (are_of_kinds over ks rest) h).1 e
  type_there [] (actual_type t rest) i h e = no h
  type_there [] (actual_const c rest) i h e = no h
  type_there [] (actual_param p rest) i h e = no h
  type_there (k ∷ ks) no_actuals i h e = no h

  const_there : (ks : Kinds) (given : Actuals) (i : ℕ) (a : ParamKind) → are_of_kinds over ks given ≡ true → flat (slice_get ks i) ≡ Some a → is_of_constants a ≡ true → ConstAt given i
  const_there [] no_actuals i a h e c = absurd (true≢false (ap is_some (sym e)))
    where
      is_some : Option ParamKind → Bool
      is_some (Some k) = true
      is_some None = false
  const_there (k ∷ ks) (actual_type t rest) zero a h e c = no_type a c (some_kind (sym e ∙ kind_is param.OfType k (and_parts (is_kind param.OfType k) (are_of_kinds over ks rest) h).0))
  const_there (k ∷ ks) (actual_type t rest) (suc i) a h e c = const_there ks rest i a (and_parts (is_kind param.OfType k) (are_of_kinds over ks rest) h).1 e c
  const_there (k ∷ ks) (actual_const x rest) zero a h e c = tt
  const_there (k ∷ ks) (actual_const x rest) (suc i) a h e c = const_there ks rest i a (and_parts (is_kind (kind_of_constant x) k) (are_of_kinds over ks rest) h).1 e c
  const_there (k ∷ ks) (actual_param p rest) zero a h e c = tt
  const_there (k ∷ ks) (actual_param p rest) (suc i) a h e c = const_there ks rest i a (and_parts (is_as k (kind_of over p)) (are_of_kinds over ks rest) h).1 e c
  const_there [] (actual_type t rest) i a h e c = no h
  const_there [] (actual_const x rest) i a h e c = no h
  const_there [] (actual_param p rest) i a h e c = no h
  const_there (k ∷ ks) no_actuals i a h e c = no h

  -- what is put in for a constant parameter is of its kind
  kind_put : (ks : Kinds) (given : Actuals) (i : ℕ) (k : Option ParamKind) (n : ℕ) (more : Kinds) (behind : Actuals) → are_of_kinds over ks given ≡ true → IsAs k (flat (slice_get ks i)) → are_of_kinds over more behind ≡ true →
      are_of_kinds over (k ∷ more) (constant_of_actual given i n behind) ≡ true
  kind_put [] no_actuals i k n more behind h a b = absurd (true≢false (ap is_some (sym a.second)))
    where
      is_some : Option ParamKind → Bool
      is_some (Some k) = true
      is_some None = false
  kind_put (x ∷ ks) (actual_type t rest) zero k n more behind h a b = no_type a.kind a.constants (some_kind (sym a.second ∙ kind_is param.OfType x (and_parts (is_kind param.OfType x) (are_of_kinds over ks rest) h).0))
  kind_put (x ∷ ks) (actual_type t rest) (suc i) k n more behind h a b = kind_put ks rest i k n more behind (and_parts (is_kind param.OfType x) (are_of_kinds over ks rest) h).1 a b
  kind_put (x ∷ ks) (actual_const c rest) zero k n more behind h a b =
      let first = (and_parts (is_kind (kind_of_constant c) x) (are_of_kinds over ks rest) h).0 in
      and_from (is_kind (kind_of_constant c) k) (are_of_kinds over more behind) (subst (λ y. is_kind (kind_of_constant c) y ≡ true) (a.second ∙ sym a.first) first) b
  kind_put (x ∷ ks) (actual_const c rest) (suc i) k n more behind h a b = kind_put ks rest i k n more behind (and_parts (is_kind (kind_of_constant c) x) (are_of_kinds over ks rest) h).1 a b
  kind_put (x ∷ ks) (actual_param p rest) zero k n more behind h a b =
      let first = (and_parts (is_as x (kind_of over p)) (are_of_kinds over ks rest) h).0 in
      and_from (is_as k (kind_of over p)) (are_of_kinds over more behind) (subst (λ y. is_as y (kind_of over p) ≡ true) (a.second ∙ sym a.first) first) b
  kind_put (x ∷ ks) (actual_param p rest) (suc i) k n more behind h a b = kind_put ks rest i k n more behind (and_parts (is_as x (kind_of over p)) (are_of_kinds over ks rest) h).1 a b
  kind_put [] (actual_type t rest) i k n more behind h a b = no h
  kind_put [] (actual_const c rest) i k n more behind h a b = no h
  kind_put [] (actual_param p rest) i k n more behind h a b = no h
  kind_put (x ∷ ks) no_actuals i k n more behind h a b = no h

  pub type_of_kind : (ks : Kinds) (given : Actuals) (n : ℕ) → are_of_kinds over ks given ≡ true → is_type_parameter ks n ≡ true → Covered given (parameter n)
  type_of_kind ks given zero h e = no e
  type_of_kind ks given (suc i) h e = type_there ks given i h (kind_is param.OfType (flat (slice_get ks i)) e)

  const_of_kind : (ks : Kinds) (given : Actuals) (p : ℕ) (k : Option ParamKind) → are_of_kinds over ks given ≡ true → is_as k (kind_of ks p) ≡ true → ConstOf given p
  const_of_kind ks given zero k h e = absurd (true≢false (ap is_some (sym (as_is k None e).second)))
    where
      is_some : Option ParamKind → Bool
      is_some (Some k) = true
      is_some None = false
  const_of_kind ks given (suc i) k h e =
      let a = as_is k (flat (slice_get ks i)) e in
      const_there ks given i a.kind h a.second a.constants

  kind_of_put : (ks : Kinds) (given : Actuals) (p : ℕ) (k : Option ParamKind) (more : Kinds) (behind : Actuals) → are_of_kinds over ks given ≡ true → is_as k (kind_of ks p) ≡ true → are_of_kinds over more behind ≡ true →
      are_of_kinds over (k ∷ more) (constant_put given p behind) ≡ true
  kind_of_put ks given zero k more behind h e b = absurd (true≢false (ap is_some (sym (as_is k None e).second)))
    where
      is_some : Option ParamKind → Bool
      is_some (Some k) = true
      is_some None = false
  kind_of_put ks given (suc i) k more behind h e b = kind_put ks given i k (suc i) more behind h (as_is k (flat (slice_get ks i)) e) b

  -- actuals of kinds stay so
  pub kinds_put : (from : Kinds) (given : Actuals) → are_of_kinds over from given ≡ true → (ks : Kinds) (xs : Actuals) → are_of_kinds from ks xs ≡ true → are_of_kinds over ks (actuals_substituted given xs) ≡ true
  kinds_put from given g [] no_actuals h = refl
  kinds_put from given g (k ∷ ks) (actual_type t rest) h =
      let p = and_parts (is_kind param.OfType k) (are_of_kinds from ks rest) h in
      and_from (is_kind param.OfType k) (are_of_kinds over ks (actuals_substituted given rest)) p.0 (kinds_put from given g ks rest p.1)
  kinds_put from given g (k ∷ ks) (actual_const c rest) h =
      let p = and_parts (is_kind (kind_of_constant c) k) (are_of_kinds from ks rest) h in
      and_from (is_kind (kind_of_constant c) k) (are_of_kinds over ks (actuals_substituted given rest)) p.0 (kinds_put from given g ks rest p.1)
  kinds_put from given g (k ∷ ks) (actual_param n rest) h =
      let p = and_parts (is_as k (kind_of from n)) (are_of_kinds from ks rest) h in
      kind_of_put from given n k ks (actuals_substituted given rest) g p.0 (kinds_put from given g ks rest p.1)
  kinds_put from given g [] (actual_type t rest) h = no h
  kinds_put from given g [] (actual_const c rest) h = no h
  kinds_put from given g [] (actual_param p rest) h = no h
  kinds_put from given g (k ∷ ks) no_actuals h = no h

-- ---- a legal type has actuals for each parameter in it

-- the actuals of a cluster are of its kinds, and meet what it asks
pub record IsInstance (context : Context) (specified : Specified) (o : Option Specification) (xs : Actuals) : Type 0 where
  pub s : Specification
  pub is : o ≡ Some s
  pub kinds : are_of_kinds context.kinds s.kinds xs ≡ true
  pub demands : are_demands_met context specified xs (demands_of s.form) ≡ true

pub instance_is : (context : Context) (specified : Specified) (o : Option Specification) (xs : Actuals) → is_instance context specified o xs ≡ true → IsInstance context specified o xs
instance_is context specified (Some s) xs h =
    let p = and_parts (are_of_kinds context.kinds s.kinds xs) (are_demands_met context specified xs (demands_of s.form)) h in
    record { s = s; is = refl; kinds = p.0; demands = p.1 }
instance_is context specified None xs h = no h

module _ (specified : Specified) (from : Context) (over : Kinds) (given : Actuals) (g : are_of_kinds over from.kinds given ≡ true) where
  mutual
    pub covered : (t : CluType) → is_legal from specified t ≡ true → Covered given t
    covered (array_of t) h = covered t h
    covered (sequence_of t) h = covered t h
    covered (record_of fs) h = fields_covered fs (and_parts _ (fields_legal from specified fs) h).1
    covered (struct_of fs) h = fields_covered fs (and_parts _ (fields_legal from specified fs) h).1
    covered (oneof_of fs) h = fields_covered fs (and_parts _ (fields_legal from specified fs) h).1
    covered (variant_of fs) h = fields_covered fs (and_parts _ (fields_legal from specified fs) h).1
    covered (proc_of args results ss) h =
        let p = of_three (types_legal from specified args) (types_legal from specified results) (signals_legal from specified ss) h in
        (types_covered args p.0, types_covered results p.1, signals_covered ss p.2)
    covered (iter_of args results ss) h =
        let p = of_three (types_legal from specified args) (types_legal from specified results) (signals_legal from specified ss) h in
        (types_covered args p.0, types_covered results p.1, signals_covered ss p.2)
    covered (cluster_of c xs) h =
        let p = and_parts (actuals_legal from specified xs) (is_instance from specified (specified c) xs) h in
        let i = instance_is from specified (specified c) xs p.1 in
        actuals_covered xs i.s.kinds p.0 i.kinds
    covered (parameter n) h = type_of_kind over from.kinds given n g h
    covered _ h = tt

    pub types_covered : (ts : CluTypes) → types_legal from specified ts ≡ true → TypesCovered given ts
    types_covered no_types h = tt
    types_covered (type_and t ts) h =
        let p = and_parts (is_legal from specified t) (types_legal from specified ts) h in
        (covered t p.0, types_covered ts p.1)

    fields_covered : (fs : Fields) → fields_legal from specified fs ≡ true → FieldsCovered given fs
    fields_covered no_fields h = tt
    fields_covered (field_and s t fs) h =
        let p = and_parts (is_legal from specified t) (fields_legal from specified fs) h in
        (covered t p.0, fields_covered fs p.1)

    signals_covered : (ss : Signals) → signals_legal from specified ss ≡ true → SignalsCovered given ss
    signals_covered no_signals h = tt
    signals_covered (signal_and s ts ss) h =
        let p = and_parts (types_legal from specified ts) (signals_legal from specified ss) h in
        (types_covered ts p.0, signals_covered ss p.1)

    actuals_covered : (xs : Actuals) (ks : Kinds) → actuals_legal from specified xs ≡ true → are_of_kinds from.kinds ks xs ≡ true → ActualsCovered given xs
    actuals_covered no_actuals ks h k = tt
    actuals_covered (actual_type t rest) (x ∷ ks) h k =
        let p = and_parts (is_legal from specified t) (actuals_legal from specified rest) h in
        (covered t p.0, actuals_covered rest ks p.1 (and_parts (is_kind param.OfType x) (are_of_kinds from.kinds ks rest) k).1)
    actuals_covered (actual_const c rest) (x ∷ ks) h k = actuals_covered rest ks h (and_parts (is_kind (kind_of_constant c) x) (are_of_kinds from.kinds ks rest) k).1
    actuals_covered (actual_param n rest) (x ∷ ks) h k =
        let p = and_parts (is_as x (kind_of from.kinds n)) (are_of_kinds from.kinds ks rest) k in
        (const_of_kind over from.kinds given n x g p.0, actuals_covered rest ks h p.1)
    actuals_covered (actual_type t rest) [] h k = no k
    actuals_covered (actual_const c rest) [] h k = no k
    actuals_covered (actual_param n rest) [] h k = no k
