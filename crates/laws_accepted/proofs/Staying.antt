-- With actuals put in that are of the kinds of the parameters and meet what where clauses give, what was met is met, and legal
-- types stay legal.
use Rattle.std.proofs.Common.{◌≡◌, ℕ, zero, suc, Bool, true, false, List, [], ◌∷◌, Option, None, Some, refl, sym, ap, subst, ◌∙◌, inl, inr, arith}
use Rattle.std.specs.Prelude.{◌&&◌, ◌==◌, ◌-◌, bytes_eq, cond, is_none}
use Rattle.std.specs.List.{list_all}
use Rattle.std.specs.Option.{option_map}
use Rattle.std.proofs.lemmas.Bool.{and_parts, and_from, or_cases, cond-true, cond-false, eq-eqb, ne_eqb}
use Rattle.clu_base.proofs.Bools.{of_three}
use Rattle.clu_types.specs.CluType.{CluType, array_of, sequence_of, record_of, struct_of, oneof_of, variant_of, proc_of, iter_of, cluster_of, parameter, CluTypes, no_types, type_and, Fields, no_fields, field_and, Signals, no_signals, signal_and, Actuals, no_actuals, actual_type, actual_const, actual_param}
use Rattle.clu_types.specs.Substituted.{substituted, types_substituted, fields_substituted, signals_substituted, actuals_substituted, type_of_actual, type_put, constant_put, constant_of_actual}
use Rattle.clu_layout.specs.SameType.{same_type, fits}
use Rattle.clu_layout.proofs.SameTypeLaws.{types_are}
use Rattle.clu_meaning.specs.Typed.{type_of_selector}
use Rattle.clu_checking.specs.Specifications.{Demand, Heading, Form, of_routine, of_cluster, Specification, heading_named, operations_of, demands_of}
use Rattle.clu_checking.specs.Operations.{may_fit, is_put_met, is_met_in, exported_operation, is_included, is_given_by, given_of, meets, part_meets, actual_meets}
use Rattle.laws_accepted.specs.Legal.{Specified, Context, context_of, are_of_kinds, are_distinct, is_demand_met, are_demands_met, is_instance, is_legal, types_legal, fields_legal, signals_legal, actuals_legal}
use Rattle.laws_accepted.specs.Specified.{DemandsLegal, FormLegal, AllLegal, ClausesMet, PutsIn}
use Rattle.laws_accepted.proofs.PutIn.{fits_put, operation_of_put}
use Rattle.laws_accepted.proofs.Composed.{TypeAt, Covered, composed}
use Rattle.laws_accepted.proofs.OfKinds.{no, kinds_put, IsInstance, instance_is, type_of_kind, covered}
use Rattle.laws_accepted.proofs.Meeting.{meets_wider, chosen, operation_legal, part_there, part_of, has_put, builtin_put, constant_behind}

three : (x y z : Bool) → x ≡ true → y ≡ true → z ≡ true → (x && y && z) ≡ true
three x y z f g h = and_from (x && y) z (and_from x y f g) h

-- ---- selectors stay distinct

selector_put : (given : Actuals) (fs : Fields) (name : List ℕ) → type_of_selector (fields_substituted given fs) name ≡ option_map (substituted given) (type_of_selector fs name)
selector_put given no_fields name = refl
selector_put given (field_and s t fs) name = by (bytes_eq s name) (selector_put given fs name)
  where
    by : (b : Bool) → type_of_selector (fields_substituted given fs) name ≡ option_map (substituted given) (type_of_selector fs name) →
        cond b (Some (substituted given t)) (type_of_selector (fields_substituted given fs) name) ≡ option_map (substituted given) (cond b (Some t) (type_of_selector fs name))
    by true later = refl
    by false later = later

distinct_put : (given : Actuals) (fs : Fields) → are_distinct fs ≡ true → are_distinct (fields_substituted given fs) ≡ true
distinct_put given no_fields h = refl
distinct_put given (field_and s t fs) h =
    let p = and_parts (is_none (type_of_selector fs s)) (are_distinct fs) h in
    and_from (is_none (type_of_selector (fields_substituted given fs) s)) (are_distinct (fields_substituted given fs))
    (ap is_none (selector_put given fs s) ∙ still (type_of_selector fs s) p.0) (distinct_put given fs p.1)
  where
    still : (o : Option CluType) → is_none o ≡ true → is_none (option_map (substituted given) o) ≡ true
    still None e = refl
    still (Some u) e = no e

-- ---- what stands at a place is legal

type_at_legal : (context : Context) (specified : Specified) (xs : Actuals) (i : ℕ) (other : CluType) → TypeAt xs i → actuals_legal context specified xs ≡ true → is_legal context specified (type_of_actual xs i other) ≡ true
type_at_legal context specified no_actuals i other h l = absurd h
type_at_legal context specified (actual_type t rest) zero other h l = (and_parts (is_legal context specified t) (actuals_legal context specified rest) l).0
type_at_legal context specified (actual_const c rest) zero other h l = absurd h
type_at_legal context specified (actual_param p rest) zero other h l = absurd h
type_at_legal context specified (actual_type t rest) (suc i) other h l = type_at_legal context specified rest i other h (and_parts (is_legal context specified t) (actuals_legal context specified rest) l).1
type_at_legal context specified (actual_const c rest) (suc i) other h l = type_at_legal context specified rest i other h l
type_at_legal context specified (actual_param p rest) (suc i) other h l = type_at_legal context specified rest i other h l

pub parameter_legal : (context : Context) (specified : Specified) (xs : Actuals) (n : ℕ) → Covered xs (parameter n) → actuals_legal context specified xs ≡ true → is_legal context specified (type_put xs n) ≡ true
parameter_legal context specified xs zero h l = absurd h
parameter_legal context specified xs (suc i) h l = type_at_legal context specified xs i (parameter (suc i)) h l

constant_legal : (context : Context) (specified : Specified) (xs : Actuals) (i n : ℕ) (behind : Actuals) → actuals_legal context specified behind ≡ true → actuals_legal context specified (constant_of_actual xs i n behind) ≡ true
constant_legal context specified no_actuals i n behind l = l
constant_legal context specified (actual_type t rest) zero n behind l = l
constant_legal context specified (actual_const c rest) zero n behind l = l
constant_legal context specified (actual_param p rest) zero n behind l = l
constant_legal context specified (actual_type t rest) (suc i) n behind l = constant_legal context specified rest i n behind l
constant_legal context specified (actual_const c rest) (suc i) n behind l = constant_legal context specified rest i n behind l
constant_legal context specified (actual_param p rest) (suc i) n behind l = constant_legal context specified rest i n behind l

constant_put_legal : (context : Context) (specified : Specified) (xs : Actuals) (p : ℕ) (behind : Actuals) → actuals_legal context specified behind ≡ true → actuals_legal context specified (constant_put xs p behind) ≡ true
constant_put_legal context specified xs zero behind l = l
constant_put_legal context specified xs (suc i) behind l = constant_legal context specified xs i (suc i) behind l

-- what a module asks of its parameters
pub asked_legal : (specified : Specified) (s : Specification) (form : Form) → FormLegal specified s form → DemandsLegal specified (context_of s []) (demands_of form)
asked_legal specified s (of_routine h) l = l.demands
asked_legal specified s (of_cluster ds hs) l = l.0

-- one demand, whatever test its type passes
pub demand_put : (xs ys : Actuals) (test test' : ℕ → List ℕ → CluType → Bool) (d : Demand) (w : CluType) → d.wanted ≡ Some w → (test d.parameter d.operation (substituted xs w) ≡ true → test' d.parameter d.operation (substituted ys w) ≡ true) →
    is_put_met test xs d d.wanted ≡ true → is_put_met test' ys d d.wanted ≡ true
demand_put xs ys test test' d w e h k = subst (λ o. is_put_met test' ys d o ≡ true) (sym e) (h (subst (λ o. is_put_met test xs d o ≡ true) e k))

module _ (specified : Specified) (legal : AllLegal specified) (from to : Context) (given : Actuals) (p : PutsIn specified from to given) where
  abbrev put : CluType → CluType
  put t = substituted given t

  abbrev meets_from : CluType → List ℕ → CluType → Bool
  meets_from t name w = meets from.clauses specified t name w

  abbrev meets_to : CluType → List ℕ → CluType → Bool
  meets_to t name w = meets to.clauses specified t name w

  -- ---- what where clauses give

  given_put : (clauses : List (List Demand)) → ClausesMet specified to given clauses → (k : ℕ) (name : List ℕ) (w : CluType) → is_given_by clauses k name w ≡ true → meets_to (type_put given k) name (put w) ≡ true
  given_put [] m k name w h = no h
  given_put (c ∷ cs) m k name w h = elim (or_cases (is_included w (given_of c k name)) (is_given_by cs k name w) h) [
    | inl i ↦ by (given_of c k name) refl i
    | inr i ↦ given_put cs m.1 k name w i
  ]
    where
      by : (o : Option Demand) → given_of c k name ≡ o → is_included w o ≡ true → meets_to (type_put given k) name (put w) ≡ true
      by (Some d) e i =
          let x = m.0 k name d e in
          meets_wider to.clauses specified (type_put given k) name (put x.0) (put w) (fits_put given x.0 w (subst (λ o. may_fit o w ≡ true) x.1 i)) x.2
      by None e i = no i

  -- ---- operations of clusters, once their actuals are looked at

  -- a test of an actual by its number is kept
  abbrev Keeps : (ℕ → List ℕ → CluType → Bool) → (ℕ → List ℕ → CluType → Bool) → Actuals → Type 0
  Keeps test test' xs = (k : ℕ) (op : List ℕ) (w : CluType) → Covered xs (parameter k) → test k op w ≡ true → test' k op (put w) ≡ true

  module _ (s : Specification) (context : Context) (of_kinds : context.kinds ≡ s.kinds) (over : Context) (xs : Actuals) (kinds : are_of_kinds over.kinds s.kinds xs ≡ true) where
    of_context : are_of_kinds over.kinds context.kinds xs ≡ true
    of_context = subst (λ ks. are_of_kinds over.kinds ks xs ≡ true) (sym of_kinds) kinds

    -- the type that is wanted, with the actuals put in at once
    at_once : (w : CluType) → is_legal context specified w ≡ true → put (substituted xs w) ≡ substituted (actuals_substituted given xs) w
    at_once w l = composed given xs w (covered specified context over.kinds xs of_context w l)

    asked_put : (test test' : ℕ → List ℕ → CluType → Bool) → Keeps test test' xs → (ds : List Demand) → DemandsLegal specified context ds → list_all (λ d. is_put_met test xs d d.wanted) ds ≡ true →
        list_all (λ d. is_put_met test' (actuals_substituted given xs) d d.wanted) ds ≡ true
    asked_put test test' keeps [] l h = refl
    asked_put test test' keeps (d ∷ ds) l h =
        let q = and_parts (is_put_met test xs d d.wanted) (list_all (λ d. is_put_met test xs d d.wanted) ds) h in
        let x = l.0 in
        and_from (is_put_met test' (actuals_substituted given xs) d d.wanted) (list_all (λ d. is_put_met test' (actuals_substituted given xs) d d.wanted) ds)
        (demand_put xs (actuals_substituted given xs) test test' d x.wanted x.is
        (λ e. subst (λ t. test' d.parameter d.operation t ≡ true) (at_once x.wanted x.legal)
        (keeps d.parameter d.operation (substituted xs x.wanted) (type_of_kind over.kinds context.kinds xs d.parameter of_context x.parameter) e)) q.0)
        (asked_put test test' keeps ds l.1 q.1)

  cluster_put : (c : List ℕ) (xs : Actuals) (s : Specification) → specified c ≡ Some s → are_of_kinds from.kinds s.kinds xs ≡ true → (test test' : ℕ → List ℕ → CluType → Bool) → Keeps test test' xs → (name : List ℕ) (w : CluType) →
      is_met_in test xs w (exported_operation name (specified c)) ≡ true → is_met_in test' (actuals_substituted given xs) (put w) (exported_operation name (specified c)) ≡ true
  cluster_put c xs s e kinds test test' keeps name w h =
      subst (λ o. is_met_in test' (actuals_substituted given xs) (put w) (exported_operation name o) ≡ true) (sym e) (by (heading_named (operations_of s.form) name) refl (subst (λ o. is_met_in test xs w (exported_operation name o) ≡ true) e h))
    where
      by : (o : Option Heading) → heading_named (operations_of s.form) name ≡ o → is_met_in test xs w o ≡ true → is_met_in test' (actuals_substituted given xs) (put w) o ≡ true
      by (Some g) is m =
          let q = and_parts (may_fit (option_map (substituted xs) g.type) w) (list_all (λ d. is_put_met test xs d d.wanted) g.demands) m in
          let l = operation_legal specified s s.form name g (legal c s e) is in
          let context = context_of s g.demands in
          let fit : fits (substituted xs l.type) w ≡ true = subst (λ o. may_fit (option_map (substituted xs) o) w ≡ true) l.is q.0 in
          and_from (may_fit (option_map (substituted (actuals_substituted given xs)) g.type) (put w)) (list_all (λ d. is_put_met test' (actuals_substituted given xs) d d.wanted) g.demands)
          (subst (λ o. may_fit (option_map (substituted (actuals_substituted given xs)) o) (put w) ≡ true) (sym l.is)
          (subst (λ t. fits t (put w) ≡ true) (at_once s context refl from xs kinds l.type l.legal) (fits_put given (substituted xs l.type) w fit)))
          (asked_put s context refl from xs kinds test test' keeps g.demands l.demands q.1)
      by None is m = no m

  by_number : (xs : Actuals) → ((i : ℕ) → TypeAt xs i → (k : ℕ) → k ≡ suc i → (op : List ℕ) (w : CluType) (stays stays' : Bool) → actual_meets from.clauses specified xs k stays op w ≡ true →
      actual_meets to.clauses specified (actuals_substituted given xs) k stays' op (put w) ≡ true) → Keeps (λ k op u. actual_meets from.clauses specified xs k (is_given_by from.clauses k op u) op u)
      (λ k op u. actual_meets to.clauses specified (actuals_substituted given xs) k (is_given_by to.clauses k op u) op u) xs
  by_number xs kept zero op w c h = absurd c
  by_number xs kept (suc i) op w c h = kept i c (suc i) refl op w (is_given_by from.clauses (suc i) op w) (is_given_by to.clauses (suc i) op (put w)) h

  -- ---- what is met

  mutual
    pub meets_put : (t : CluType) (name : List ℕ) (w : CluType) → is_legal from specified t ≡ true → meets_from t name w ≡ true → meets_to (put t) name (put w) ≡ true
    meets_put (array_of t) name w l h = builtin_put given (array_of t) name (λ of op u. meets_from t op u) (λ of op u. meets_to (put t) op u) (operation_of_put given (array_of t) name refl) (λ of op u e. meets_put t op u l e) w h
    meets_put (sequence_of t) name w l h = builtin_put given (sequence_of t) name (λ of op u. meets_from t op u) (λ of op u. meets_to (put t) op u) (operation_of_put given (sequence_of t) name refl) (λ of op u e. meets_put t op u l e) w h
    meets_put (record_of fs) name w l h = builtin_put given (record_of fs) name (part_meets from.clauses specified fs) (part_meets to.clauses specified (fields_substituted given fs)) (operation_of_put given (record_of fs) name refl) (λ of op u e. part_of to.clauses specified (fields_substituted given fs) (put of) op (put u) (has_put given fs of (part_there from.clauses specified fs of op u e)) (part_kept fs (and_parts (are_distinct fs) (fields_legal from specified fs) l).1 of op u e)) w h
    meets_put (struct_of fs) name w l h = builtin_put given (struct_of fs) name (part_meets from.clauses specified fs) (part_meets to.clauses specified (fields_substituted given fs)) (operation_of_put given (struct_of fs) name refl) (λ of op u e. part_of to.clauses specified (fields_substituted given fs) (put of) op (put u) (has_put given fs of (part_there from.clauses specified fs of op u e)) (part_kept fs (and_parts (are_distinct fs) (fields_legal from specified fs) l).1 of op u e)) w h
    meets_put (oneof_of fs) name w l h = builtin_put given (oneof_of fs) name (part_meets from.clauses specified fs) (part_meets to.clauses specified (fields_substituted given fs)) (operation_of_put given (oneof_of fs) name refl) (λ of op u e. part_of to.clauses specified (fields_substituted given fs) (put of) op (put u) (has_put given fs of (part_there from.clauses specified fs of op u e)) (part_kept fs (and_parts (are_distinct fs) (fields_legal from specified fs) l).1 of op u e)) w h
    meets_put (variant_of fs) name w l h = builtin_put given (variant_of fs) name (part_meets from.clauses specified fs) (part_meets to.clauses specified (fields_substituted given fs)) (operation_of_put given (variant_of fs) name refl) (λ of op u e. part_of to.clauses specified (fields_substituted given fs) (put of) op (put u) (has_put given fs of (part_there from.clauses specified fs of op u e)) (part_kept fs (and_parts (are_distinct fs) (fields_legal from specified fs) l).1 of op u e)) w h
    meets_put (cluster_of c xs) name w l h =
        let q = and_parts (actuals_legal from specified xs) (is_instance from specified (specified c) xs) l in
        let i = instance_is from specified (specified c) xs q.1 in
        cluster_put c xs i.s i.is i.kinds (λ k op u. actual_meets from.clauses specified xs k (is_given_by from.clauses k op u) op u)
        (λ k op u. actual_meets to.clauses specified (actuals_substituted given xs) k (is_given_by to.clauses k op u) op u) (by_number xs (λ i t k e op u stays stays' m. actual_kept xs q.0 i t k e op u stays stays' m)) name w h
    meets_put (parameter k) name w l h = given_put from.clauses p.clauses k name w h
    meets_put t name w l h = builtin_put given t name (λ of op u. true) (λ of op u. true) (operation_of_put given t name refl) (λ of op u e. refl) w h

    part_kept : (fs : Fields) → fields_legal from specified fs ≡ true → (of : CluType) (op : List ℕ) (w : CluType) → part_meets from.clauses specified fs of op w ≡ true → meets_to (put of) op (put w) ≡ true
    part_kept no_fields l of op w h = no h
    part_kept (field_and s t fs) l of op w h =
        let q = and_parts (is_legal from specified t) (fields_legal from specified fs) l in
        elim (chosen (same_type t of) (meets_from t op w) (part_meets from.clauses specified fs of op w) h) [
          | inl e ↦ subst (λ u. meets_to (put u) op (put w) ≡ true) (types_are t of e.0) (meets_put t op w q.0 e.1)
          | inr e ↦ part_kept fs q.1 of op w e.1
        ]

    actual_kept : (xs : Actuals) → actuals_legal from specified xs ≡ true → (i : ℕ) → TypeAt xs i → (k : ℕ) → k ≡ suc i → (op : List ℕ) (w : CluType) (stays stays' : Bool) → actual_meets from.clauses specified xs k stays op w ≡ true →
        actual_meets to.clauses specified (actuals_substituted given xs) k stays' op (put w) ≡ true
    actual_kept no_actuals l i c k e op w stays stays' h = absurd c
    actual_kept (actual_type t rest) l zero c k e op w stays stays' h =
        let one : (k == 1) ≡ true = eq-eqb k 1 e in
        let q = and_parts (is_legal from specified t) (actuals_legal from specified rest) l in
        cond-true (k == 1) (meets_to (put t) op (put w)) (actual_meets to.clauses specified (actuals_substituted given rest) (k - 1) stays' op (put w)) one
        ∙ meets_put t op w q.0 (sym (cond-true (k == 1) (meets_from t op w) (actual_meets from.clauses specified rest (k - 1) stays op w) one) ∙ h)
    actual_kept (actual_type t rest) l (suc i) c k e op w stays stays' h =
        let more : (k == 1) ≡ false = ne_eqb k 1 (λ f. omega (arith, e, f)) in
        let q = and_parts (is_legal from specified t) (actuals_legal from specified rest) l in
        cond-false (k == 1) (meets_to (put t) op (put w)) (actual_meets to.clauses specified (actuals_substituted given rest) (k - 1) stays' op (put w)) more
        ∙ actual_kept rest q.1 i c (k - 1) (omega (arith, e)) op w stays stays' (sym (cond-false (k == 1) (meets_from t op w) (actual_meets from.clauses specified rest (k - 1) stays op w) more) ∙ h)
    actual_kept (actual_const x rest) l zero c k e op w stays stays' h = absurd c
    actual_kept (actual_const x rest) l (suc i) c k e op w stays stays' h = actual_kept rest l i c (k - 1) (omega (arith, e)) op w stays stays' h
    actual_kept (actual_param n rest) l zero c k e op w stays stays' h = absurd c
    actual_kept (actual_param n rest) l (suc i) c k e op w stays stays' h =
        constant_behind given to.clauses specified n (actuals_substituted given rest) k stays' op (put w) ∙ actual_kept rest l i c (k - 1) (omega (arith, e)) op w stays stays' h

  -- ---- legal types

  -- what a module asks of actuals is met by the actuals with others put in
  pub demands_put : (context : Context) (s : Specification) → context.kinds ≡ s.kinds → (xs : Actuals) → actuals_legal from specified xs ≡ true → are_of_kinds from.kinds s.kinds xs ≡ true → (ds : List Demand) → DemandsLegal specified context ds →
      are_demands_met from specified xs ds ≡ true → are_demands_met to specified (actuals_substituted given xs) ds ≡ true
  demands_put context s k xs l kinds [] ls h = refl
  demands_put context s k xs l kinds (d ∷ ds) ls h =
      let q = and_parts (is_demand_met from specified xs d) (are_demands_met from specified xs ds) h in
      let x = ls.0 in
      let c : Covered xs (parameter d.parameter) = type_of_kind from.kinds context.kinds xs d.parameter (of_context s context k from xs kinds) x.parameter in
      and_from (is_demand_met to specified (actuals_substituted given xs) d) (are_demands_met to specified (actuals_substituted given xs) ds)
      (demand_put xs (actuals_substituted given xs) (λ n op w. meets_from (type_put xs n) op w) (λ n op w. meets_to (type_put (actuals_substituted given xs) n) op w) d x.wanted x.is
      (λ e. subst (λ t. meets_to t d.operation (substituted (actuals_substituted given xs) x.wanted) ≡ true) (composed given xs (parameter d.parameter) c)
      (subst (λ t. meets_to (put (type_put xs d.parameter)) d.operation t ≡ true) (at_once s context k from xs kinds x.wanted x.legal)
      (meets_put (type_put xs d.parameter) d.operation (substituted xs x.wanted) (parameter_legal from specified xs d.parameter c l) e))) q.0)
      (demands_put context s k xs l kinds ds ls.1 q.1)

  pub instance_put : (c : List ℕ) (xs : Actuals) → actuals_legal from specified xs ≡ true → IsInstance from specified (specified c) xs → is_instance to specified (specified c) (actuals_substituted given xs) ≡ true
  instance_put c xs l i = subst (λ o. is_instance to specified o (actuals_substituted given xs) ≡ true) (sym i.is)
      (and_from (are_of_kinds to.kinds i.s.kinds (actuals_substituted given xs)) (are_demands_met to specified (actuals_substituted given xs) (demands_of i.s.form))
      (kinds_put to.kinds from.kinds given p.kinds i.s.kinds xs i.kinds)
      (demands_put (context_of i.s []) i.s refl xs l i.kinds (demands_of i.s.form) (asked_legal specified i.s i.s.form (legal c i.s i.is)) i.demands))

  mutual
    pub legal_put : (t : CluType) → is_legal from specified t ≡ true → is_legal to specified (put t) ≡ true
    legal_put (array_of t) h = legal_put t h
    legal_put (sequence_of t) h = legal_put t h
    legal_put (record_of fs) h =
        let q = and_parts (are_distinct fs) (fields_legal from specified fs) h in
        and_from (are_distinct (fields_substituted given fs)) (fields_legal to specified (fields_substituted given fs)) (distinct_put given fs q.0) (fields_put fs q.1)
    legal_put (struct_of fs) h =
        let q = and_parts (are_distinct fs) (fields_legal from specified fs) h in
        and_from (are_distinct (fields_substituted given fs)) (fields_legal to specified (fields_substituted given fs)) (distinct_put given fs q.0) (fields_put fs q.1)
    legal_put (oneof_of fs) h =
        let q = and_parts (are_distinct fs) (fields_legal from specified fs) h in
        and_from (are_distinct (fields_substituted given fs)) (fields_legal to specified (fields_substituted given fs)) (distinct_put given fs q.0) (fields_put fs q.1)
    legal_put (variant_of fs) h =
        let q = and_parts (are_distinct fs) (fields_legal from specified fs) h in
        and_from (are_distinct (fields_substituted given fs)) (fields_legal to specified (fields_substituted given fs)) (distinct_put given fs q.0) (fields_put fs q.1)
    legal_put (proc_of args results ss) h =
        let q = of_three (types_legal from specified args) (types_legal from specified results) (signals_legal from specified ss) h in
        three (types_legal to specified (types_substituted given args)) (types_legal to specified (types_substituted given results)) (signals_legal to specified (signals_substituted given ss)) (types_put args q.0) (types_put results q.1) (signals_put ss q.2)
    legal_put (iter_of args results ss) h =
        let q = of_three (types_legal from specified args) (types_legal from specified results) (signals_legal from specified ss) h in
        three (types_legal to specified (types_substituted given args)) (types_legal to specified (types_substituted given results)) (signals_legal to specified (signals_substituted given ss)) (types_put args q.0) (types_put results q.1) (signals_put ss q.2)
    legal_put (cluster_of c xs) h =
        let q = and_parts (actuals_legal from specified xs) (is_instance from specified (specified c) xs) h in
        and_from (actuals_legal to specified (actuals_substituted given xs)) (is_instance to specified (specified c) (actuals_substituted given xs))
        (actuals_put xs q.0) (instance_put c xs q.0 (instance_is from specified (specified c) xs q.1))
    legal_put (parameter n) h = parameter_legal to specified given n (type_of_kind to.kinds from.kinds given n p.kinds h) p.legal
    legal_put t h = refl

    pub types_put : (ts : CluTypes) → types_legal from specified ts ≡ true → types_legal to specified (types_substituted given ts) ≡ true
    types_put no_types h = refl
    types_put (type_and t ts) h =
        let q = and_parts (is_legal from specified t) (types_legal from specified ts) h in
        and_from (is_legal to specified (put t)) (types_legal to specified (types_substituted given ts)) (legal_put t q.0) (types_put ts q.1)

    fields_put : (fs : Fields) → fields_legal from specified fs ≡ true → fields_legal to specified (fields_substituted given fs) ≡ true
    fields_put no_fields h = refl
    fields_put (field_and s t fs) h =
        let q = and_parts (is_legal from specified t) (fields_legal from specified fs) h in
        and_from (is_legal to specified (put t)) (fields_legal to specified (fields_substituted given fs)) (legal_put t q.0) (fields_put fs q.1)

    pub signals_put : (ss : Signals) → signals_legal from specified ss ≡ true → signals_legal to specified (signals_substituted given ss) ≡ true
    signals_put no_signals h = refl
    signals_put (signal_and s ts ss) h =
        let q = and_parts (types_legal from specified ts) (signals_legal from specified ss) h in
        and_from (types_legal to specified (types_substituted given ts)) (signals_legal to specified (signals_substituted given ss)) (types_put ts q.0) (signals_put ss q.1)

    pub actuals_put : (xs : Actuals) → actuals_legal from specified xs ≡ true → actuals_legal to specified (actuals_substituted given xs) ≡ true
    actuals_put no_actuals h = refl
    actuals_put (actual_type t rest) h =
        let q = and_parts (is_legal from specified t) (actuals_legal from specified rest) h in
        and_from (is_legal to specified (put t)) (actuals_legal to specified (actuals_substituted given rest)) (legal_put t q.0) (actuals_put rest q.1)
    actuals_put (actual_const c rest) h = actuals_put rest h
    actuals_put (actual_param n rest) h = constant_put_legal to specified given n (actuals_substituted given rest) (actuals_put rest h)
