-- Where something stands in a list, and which node of a list keeps all of it from being found.
use Rattle.std.proofs.Common.{◌≡◌, ℕ, zero, suc, ◌<◌, Bool, true, false, if◌then◌else◌, List, [], ◌∷◌, ◌++◌, take, drop, Option, Some, None, refl, sym, subst}
use Rattle.std.specs.Prelude.{slice_get}
use Rattle.std.specs.List.{All, AllByRecursion}
use Rattle.std.specs.Option.{option_and_then, option_map}
use Rattle.std.proofs.lemmas.Bool.{true≢false}
use Rattle.std.proofs.lemmas.Option.{none-some, same_Some}
use Rattle.clu_base.specs.declared.constants.Const.{Const}
use Rattle.clu_tree.specs.declared.node.Node.{Node}
use Rattle.clu_syntax.specs.Splits.{first_name}
use Rattle.clu_types.specs.Arena.{AreBelow, FieldsBelow, SignalsBelow, ActualsBelow}
use Rattle.clu_types.specs.declared.term.TypeId.{TypeId}
use Rattle.clu_types.specs.declared.term.Field.{Field}
use Rattle.clu_types.specs.declared.term.Exception.{Exception}
use Rattle.clu_types.specs.declared.term.Actual.{Actual}
use Rattle.clu_settle.specs.declared.value.Value.{Value}
use Rattle.clu_settle.specs.declared.value.Value.TheVariants as value
use Rattle.clu_settle.specs.Values.{TypeWithin}
use Rattle.clu_settle.specs.Inserted.{inserted, in_order}
use Rattle.clu_settle.specs.Lists.{type_id, value_of, ids_behind, first_value, fields_named, selectors_in, selectors_at, selectors_behind, exception_with, exceptions_in, exceptions_at, signals_behind, actual_in, actuals_behind, field_before, exception_before}
use Rattle.clu_settle.specs.Lost.{is_typed}
use Rattle.clu_settle.proofs.Within.{value_has}

-- ---- places in lists

abbrev pub IsIn : ℕ → List ℕ → Type 0
IsIn d cs = (i : ℕ) × (slice_get cs i ≡ Some d)

get_front : (xs ys : List ℕ) (i d : ℕ) → slice_get xs i ≡ Some d → slice_get (xs ++ ys) i ≡ Some d
get_front [] ys i d e = absurd (none-some d e)
get_front (x ∷ xs) ys zero d e = e
get_front (x ∷ xs) ys (suc i) d e = get_front xs ys i d e

pub in_front : (d : ℕ) (xs ys : List ℕ) → IsIn d xs → IsIn d (xs ++ ys)
in_front d xs ys h = (h.0, get_front xs ys h.0 d h.1)

pub in_behind : (d : ℕ) (xs ys : List ℕ) → IsIn d ys → IsIn d (xs ++ ys)
in_behind d [] ys h = h
in_behind d (x ∷ xs) ys h = let more = in_behind d xs ys h in (suc more.0, more.1)

pub in_more : (d x : ℕ) (xs : List ℕ) → IsIn d xs → IsIn d (x ∷ xs)
in_more d x xs h = (suc h.0, h.1)

pub in_take : (d k : ℕ) (cs : List ℕ) → IsIn d (take k cs) → IsIn d cs
in_take d zero cs h = absurd (none-some d h.1)
in_take d (suc k) [] h = absurd (none-some d h.1)
in_take d (suc k) (c ∷ cs) h = by h.0 h.1 (in_take d k cs)
  where
    by : (i : ℕ) → slice_get (c ∷ take k cs) i ≡ Some d → (IsIn d (take k cs) → IsIn d cs) → IsIn d (c ∷ cs)
    by zero e more = (0, e)
    by (suc i) e more = in_more d c cs (more (i, e))

pub in_drop : (d k : ℕ) (cs : List ℕ) → IsIn d (drop k cs) → IsIn d cs
in_drop d zero cs h = h
in_drop d (suc k) [] h = h
in_drop d (suc k) (c ∷ cs) h = in_more d c cs (in_drop d k cs h)

-- what holds of all
pub part_at : (P : ℕ → Type 0) (cs : List ℕ) (d : ℕ) → AllByRecursion P cs → IsIn d cs → P d
part_at P [] d all h = absurd (none-some d h.1)
part_at P (c ∷ cs) d all h = by h.0 h.1 (part_at P cs d all.1)
  where
    by : (i : ℕ) → slice_get (c ∷ cs) i ≡ Some d → (IsIn d cs → P d) → P d
    by zero e more = subst P (same_Some c d e) all.0
    by (suc i) e more = more (i, e)

-- ---- what is no type where a type stands is lost

pub typed_lost : (v : Value) → is_typed v ≡ true → type_id v ≡ None → v ≡ value.Lost
typed_lost value.Lost t e = refl
typed_lost (value.Type id) t e = absurd (none-some id (sym e))
typed_lost value.Nothing t e = absurd (true≢false (sym t))
typed_lost (value.Constant k) t e = absurd (true≢false (sym t))
typed_lost (value.Parameter k) t e = absurd (true≢false (sym t))

actual_lost : (constants : List Const) (v : Value) → actual_in constants v ≡ None → v ≡ value.Lost
actual_lost constants value.Lost e = refl
actual_lost constants (value.Type id) e = absurd (none-some _ (sym e))
actual_lost constants value.Nothing e = absurd (none-some _ (sym e))
actual_lost constants (value.Constant k) e = absurd (none-some _ (sym e))
actual_lost constants (value.Parameter k) e = absurd (none-some _ (sym e))

mapped_none : {A B : Type 0} (f : A → B) (o : Option A) → option_map f o ≡ None → o ≡ None
mapped_none f None e = refl
mapped_none f (Some a) e = absurd (none-some (f a) (sym e))

module _ (values : List Value) where
  -- ---- types

  pub record NoType (ns : List ℕ) : Type 0 where
    pub node : ℕ
    pub is_in : IsIn node ns
    pub none : type_id (value_of values node) ≡ None

  pub ids_none : (ids : List TypeId) (ns : List ℕ) → ids_behind values ids ns ≡ None → NoType ns
  ids_none ids [] e = absurd (none-some ids (sym e))
  ids_none ids (n ∷ ns) e = by (type_id (value_of values n)) refl (λ id f. ids_none (ids ++ id ∷ []) ns f) e
    where
      by : (o : Option TypeId) → type_id (value_of values n) ≡ o → ((id : TypeId) → ids_behind values (ids ++ id ∷ []) ns ≡ None → NoType ns) → option_and_then (λ id. ids_behind values (ids ++ id ∷ []) ns) o ≡ None → NoType (n ∷ ns)
      by None is more e = record { node = n; is_in = (0, refl); none = is }
      by (Some id) is more e = let m = more id e in record { node = m.node; is_in = in_more m.node n ns m.is_in; none = m.none }

  -- ---- selectors, and exceptions

  pub record NoSelectors (nodes : List Node) (ns : List ℕ) : Type 0 where
    pub node : ℕ
    pub is_in : IsIn node ns
    pub none : selectors_at values (slice_get nodes node) ≡ None

  pub selectors_none : (nodes : List Node) (fields : List Field) (ns : List ℕ) → selectors_behind values nodes fields ns ≡ None → NoSelectors nodes ns
  selectors_none nodes fields [] e = absurd (none-some fields (sym e))
  selectors_none nodes fields (n ∷ ns) e = by (selectors_at values (slice_get nodes n)) refl (λ all f. selectors_none nodes all ns f) e
    where
      by : (o : Option (List Field)) → selectors_at values (slice_get nodes n) ≡ o → ((all : List Field) → selectors_behind values nodes all ns ≡ None → NoSelectors nodes ns) →
          option_and_then (λ all. selectors_behind values nodes all ns) (option_map (λ more. fields ++ more) o) ≡ None → NoSelectors nodes (n ∷ ns)
      by None is more e = record { node = n; is_in = (0, refl); none = is }
      by (Some added) is more e = let m = more (fields ++ added) e in record { node = m.node; is_in = in_more m.node n ns m.is_in; none = m.none }

  pub selector_none : (node : Node) → selectors_in values node ≡ None → type_id (first_value values node.children) ≡ None
  selector_none node e = mapped_none (λ of. fields_named of node.names) (type_id (first_value values node.children)) e

  pub record NoSignals (nodes : List Node) (ns : List ℕ) : Type 0 where
    pub node : ℕ
    pub is_in : IsIn node ns
    pub none : exceptions_at values (slice_get nodes node) ≡ None

  pub signals_none : (nodes : List Node) (signals : List Exception) (ns : List ℕ) → signals_behind values nodes signals ns ≡ None → NoSignals nodes ns
  signals_none nodes signals [] e = absurd (none-some signals (sym e))
  signals_none nodes signals (n ∷ ns) e = by (exceptions_at values (slice_get nodes n)) refl (λ all f. signals_none nodes all ns f) e
    where
      by : (o : Option (List Exception)) → exceptions_at values (slice_get nodes n) ≡ o → ((all : List Exception) → signals_behind values nodes all ns ≡ None → NoSignals nodes ns) →
          option_and_then (λ all. signals_behind values nodes all ns) (option_map (λ more. signals ++ more) o) ≡ None → NoSignals nodes (n ∷ ns)
      by None is more e = record { node = n; is_in = (0, refl); none = is }
      by (Some added) is more e = let m = more (signals ++ added) e in record { node = m.node; is_in = in_more m.node n ns m.is_in; none = m.none }

  pub exception_none : (node : Node) → exceptions_in values node ≡ None → ids_behind values [] node.children ≡ None
  exception_none node e = mapped_none (exception_with (first_name node.names)) (ids_behind values [] node.children) e

  -- ---- actual parameters

  pub record LostActual (ns : List ℕ) : Type 0 where
    pub node : ℕ
    pub is_in : IsIn node ns
    pub lost : value_of values node ≡ value.Lost

  pub actuals_none : (constants : List Const) (actuals : List Actual) (ns : List ℕ) → actuals_behind values constants actuals ns ≡ None → LostActual ns
  actuals_none constants actuals [] e = absurd (none-some actuals (sym e))
  actuals_none constants actuals (n ∷ ns) e = by (actual_in constants (value_of values n)) refl (λ all f. actuals_none constants all ns f) e
    where
      by : (o : Option (List Actual)) → actual_in constants (value_of values n) ≡ o → ((all : List Actual) → actuals_behind values constants all ns ≡ None → LostActual ns) →
          option_and_then (λ all. actuals_behind values constants all ns) (option_map (λ more. actuals ++ more) o) ≡ None → LostActual (n ∷ ns)
      by None is more e = record { node = n; is_in = (0, refl); lost = actual_lost constants (value_of values n) is }
      by (Some added) is more e = let m = more (actuals ++ added) e in record { node = m.node; is_in = in_more m.node n ns m.is_in; lost = m.lost }

  -- ---- the parts of what is found are of the arena

  module _ (m : ℕ) (within : All (TypeWithin m) values) where
    id_below : (id : TypeId) (n : ℕ) → type_id (value_of values n) ≡ Some id → id.0 < m
    id_below id n e = by (value_of values n) e (value_has (TypeWithin m) tt values n within)
      where
        by : (v : Value) → type_id v ≡ Some id → TypeWithin m v → id.0 < m
        by (value.Type k) e l = subst (λ (x : TypeId). x.0 < m) (same_Some k id e) l
        by value.Nothing e l = absurd (none-some id e)
        by value.Lost e l = absurd (none-some id e)
        by (value.Constant k) e l = absurd (none-some id e)
        by (value.Parameter k) e l = absurd (none-some id e)

    below_push : (ids : List TypeId) (id : TypeId) → AreBelow m ids → id.0 < m → AreBelow m (ids ++ id ∷ [])
    below_push [] id all l = (l, tt)
    below_push (x ∷ ids) id all l = (all.0, below_push ids id all.1 l)

    ids_below : (ids : List TypeId) (ns : List ℕ) (all : List TypeId) → AreBelow m ids → ids_behind values ids ns ≡ Some all → AreBelow m all
    ids_below ids [] all l e = subst (AreBelow m) (same_Some ids all e) l
    ids_below ids (n ∷ ns) all l e = by (type_id (value_of values n)) refl (λ id k f. ids_below (ids ++ id ∷ []) ns all k f) e
      where
        by : (o : Option TypeId) → type_id (value_of values n) ≡ o → ((id : TypeId) → AreBelow m (ids ++ id ∷ []) → ids_behind values (ids ++ id ∷ []) ns ≡ Some all → AreBelow m all) → option_and_then (λ id. ids_behind values (ids ++ id ∷ []) ns) o ≡ Some all → AreBelow m all
        by None is more e = absurd (none-some all e)
        by (Some id) is more e = more id (below_push ids id l (id_below id n is)) e

    pub types_below : (ns : List ℕ) (ids : List TypeId) → Some ids ≡ ids_behind values [] ns → AreBelow m ids
    types_below ns ids e = ids_below [] ns ids tt (sym e)

    -- ---- selectors

    fields_join : (fs gs : List Field) → FieldsBelow m fs → FieldsBelow m gs → FieldsBelow m (fs ++ gs)
    fields_join [] gs a b = b
    fields_join (f ∷ fs) gs a b = (a.0, fields_join fs gs a.1 b)

    named_below : (id : TypeId) (names : List (List ℕ)) → id.0 < m → FieldsBelow m (fields_named id names)
    named_below id [] l = tt
    named_below id (name ∷ names) l = (l, named_below id names l)

    first_below : (id : TypeId) (cs : List ℕ) → type_id (first_value values cs) ≡ Some id → id.0 < m
    first_below id [] e = absurd (none-some id e)
    first_below id (c ∷ cs) e = id_below id c e

    selector_below : (node : Node) (added : List Field) → selectors_in values node ≡ Some added → FieldsBelow m added
    selector_below node added e = by (type_id (first_value values node.children)) refl e
      where
        by : (o : Option TypeId) → type_id (first_value values node.children) ≡ o → option_map (λ of. fields_named of node.names) o ≡ Some added → FieldsBelow m added
        by None is e = absurd (none-some added e)
        by (Some id) is e = subst (FieldsBelow m) (same_Some (fields_named id node.names) added e) (named_below id node.names (first_below id node.children is))

    selectors_there : (its : Option Node) (added : List Field) → selectors_at values its ≡ Some added → FieldsBelow m added
    selectors_there None added e = absurd (none-some added e)
    selectors_there (Some node) added e = selector_below node added e

    selectors_below : (nodes : List Node) (fields : List Field) (ns : List ℕ) (all : List Field) → FieldsBelow m fields → selectors_behind values nodes fields ns ≡ Some all → FieldsBelow m all
    selectors_below nodes fields [] all l e = subst (FieldsBelow m) (same_Some fields all e) l
    selectors_below nodes fields (n ∷ ns) all l e = by (selectors_at values (slice_get nodes n)) refl (λ more k f. selectors_below nodes more ns all k f) e
      where
        by : (o : Option (List Field)) → selectors_at values (slice_get nodes n) ≡ o → ((more : List Field) → FieldsBelow m more → selectors_behind values nodes more ns ≡ Some all → FieldsBelow m all) →
            option_and_then (λ all. selectors_behind values nodes all ns) (option_map (λ more. fields ++ more) o) ≡ Some all → FieldsBelow m all
        by None is more e = absurd (none-some all e)
        by (Some added) is more e = more (fields ++ added) (fields_join fields added l (selectors_there (slice_get nodes n) added is)) e

    field_put : (f : Field) (fs : List Field) → f.of.0 < m → FieldsBelow m fs → FieldsBelow m (inserted field_before f fs)
    field_put f [] l h = (l, tt)
    field_put f (g ∷ fs) l h = by (field_before g f) (field_put f fs l h.1)
      where
        by : (b : Bool) → FieldsBelow m (inserted field_before f fs) → FieldsBelow m (if b then g ∷ inserted field_before f fs else f ∷ g ∷ fs)
        by true more = (h.0, more)
        by false more = (l, h)

    fields_put : (fs : List Field) → FieldsBelow m fs → FieldsBelow m (in_order field_before fs)
    fields_put [] h = tt
    fields_put (f ∷ fs) h = field_put f (in_order field_before fs) h.0 (fields_put fs h.1)

    pub fields_below : (nodes : List Node) (ns : List ℕ) (fields : List Field) → Some fields ≡ option_map (in_order field_before) (selectors_behind values nodes [] ns) → FieldsBelow m fields
    fields_below nodes ns fields e = by (selectors_behind values nodes [] ns) refl e
      where
        by : (o : Option (List Field)) → selectors_behind values nodes [] ns ≡ o → Some fields ≡ option_map (in_order field_before) o → FieldsBelow m fields
        by None is e = absurd (none-some fields (sym e))
        by (Some all) is e = subst (FieldsBelow m) (same_Some (in_order field_before all) fields (sym e)) (fields_put all (selectors_below nodes [] ns all tt is))

    -- ---- exceptions

    signals_join : (ss rs : List Exception) → SignalsBelow m ss → SignalsBelow m rs → SignalsBelow m (ss ++ rs)
    signals_join [] rs a b = b
    signals_join (s ∷ ss) rs a b = (a.0, signals_join ss rs a.1 b)

    listed_below : (b : Bool) (name : List ℕ) (ids : List TypeId) → AreBelow m ids → SignalsBelow m (if b then [] else record { name = name; objects = ids } ∷ [])
    listed_below true name ids l = tt
    listed_below false name ids l = (l, tt)

    exception_below : (node : Node) (added : List Exception) → exceptions_in values node ≡ Some added → SignalsBelow m added
    exception_below node added e = by (ids_behind values [] node.children) refl e
      where
        by : (o : Option (List TypeId)) → ids_behind values [] node.children ≡ o → option_map (exception_with (first_name node.names)) o ≡ Some added → SignalsBelow m added
        by None is e = absurd (none-some added e)
        by (Some ids) is e = subst (SignalsBelow m) (same_Some (exception_with (first_name node.names) ids) added e) (listed_below _ (first_name node.names) ids (ids_below [] node.children ids tt is))

    exceptions_there : (its : Option Node) (added : List Exception) → exceptions_at values its ≡ Some added → SignalsBelow m added
    exceptions_there None added e = absurd (none-some added e)
    exceptions_there (Some node) added e = exception_below node added e

    exceptions_below : (nodes : List Node) (signals : List Exception) (ns : List ℕ) (all : List Exception) → SignalsBelow m signals → signals_behind values nodes signals ns ≡ Some all → SignalsBelow m all
    exceptions_below nodes signals [] all l e = subst (SignalsBelow m) (same_Some signals all e) l
    exceptions_below nodes signals (n ∷ ns) all l e = by (exceptions_at values (slice_get nodes n)) refl (λ more k f. exceptions_below nodes more ns all k f) e
      where
        by : (o : Option (List Exception)) → exceptions_at values (slice_get nodes n) ≡ o → ((more : List Exception) → SignalsBelow m more → signals_behind values nodes more ns ≡ Some all → SignalsBelow m all) →
            option_and_then (λ all. signals_behind values nodes all ns) (option_map (λ more. signals ++ more) o) ≡ Some all → SignalsBelow m all
        by None is more e = absurd (none-some all e)
        by (Some added) is more e = more (signals ++ added) (signals_join signals added l (exceptions_there (slice_get nodes n) added is)) e

    signal_put : (s : Exception) (ss : List Exception) → AreBelow m s.objects → SignalsBelow m ss → SignalsBelow m (inserted exception_before s ss)
    signal_put s [] l h = (l, tt)
    signal_put s (r ∷ ss) l h = by (exception_before r s) (signal_put s ss l h.1)
      where
        by : (b : Bool) → SignalsBelow m (inserted exception_before s ss) → SignalsBelow m (if b then r ∷ inserted exception_before s ss else s ∷ r ∷ ss)
        by true more = (h.0, more)
        by false more = (l, h)

    signals_put : (ss : List Exception) → SignalsBelow m ss → SignalsBelow m (in_order exception_before ss)
    signals_put [] h = tt
    signals_put (s ∷ ss) h = signal_put s (in_order exception_before ss) h.0 (signals_put ss h.1)

    pub signals_below : (nodes : List Node) (ns : List ℕ) (signals : List Exception) → Some signals ≡ option_map (in_order exception_before) (signals_behind values nodes [] ns) → SignalsBelow m signals
    signals_below nodes ns signals e = by (signals_behind values nodes [] ns) refl e
      where
        by : (o : Option (List Exception)) → signals_behind values nodes [] ns ≡ o → Some signals ≡ option_map (in_order exception_before) o → SignalsBelow m signals
        by None is e = absurd (none-some signals (sym e))
        by (Some all) is e = subst (SignalsBelow m) (same_Some (in_order exception_before all) signals (sym e)) (signals_put all (exceptions_below nodes [] ns all tt is))

    -- ---- actual parameters

    actuals_join : (xs ys : List Actual) → ActualsBelow m xs → ActualsBelow m ys → ActualsBelow m (xs ++ ys)
    actuals_join [] ys a b = b
    actuals_join (x ∷ xs) ys a b = (a.0, actuals_join xs ys a.1 b)

    actual_below : (constants : List Const) (v : Value) (added : List Actual) → actual_in constants v ≡ Some added → TypeWithin m v → ActualsBelow m added
    actual_below constants (value.Type id) added e l = subst (ActualsBelow m) (same_Some _ added e) (l, tt)
    actual_below constants (value.Constant k) added e l = subst (ActualsBelow m) (same_Some _ added e) (tt, tt)
    actual_below constants (value.Parameter k) added e l = subst (ActualsBelow m) (same_Some _ added e) (tt, tt)
    actual_below constants value.Nothing added e l = subst (ActualsBelow m) (same_Some [] added e) tt
    actual_below constants value.Lost added e l = absurd (none-some added e)

    all_actuals_below : (constants : List Const) (actuals : List Actual) (ns : List ℕ) (all : List Actual) → ActualsBelow m actuals → actuals_behind values constants actuals ns ≡ Some all → ActualsBelow m all
    all_actuals_below constants actuals [] all l e = subst (ActualsBelow m) (same_Some actuals all e) l
    all_actuals_below constants actuals (n ∷ ns) all l e = by (actual_in constants (value_of values n)) refl (λ more k f. all_actuals_below constants more ns all k f) e
      where
        by : (o : Option (List Actual)) → actual_in constants (value_of values n) ≡ o → ((more : List Actual) → ActualsBelow m more → actuals_behind values constants more ns ≡ Some all → ActualsBelow m all) →
            option_and_then (λ all. actuals_behind values constants all ns) (option_map (λ more. actuals ++ more) o) ≡ Some all → ActualsBelow m all
        by None is more e = absurd (none-some all e)
        by (Some added) is more e = more (actuals ++ added) (actuals_join actuals added l (actual_below constants (value_of values n) added is (value_has (TypeWithin m) tt values n within))) e

    pub actuals_below : (constants : List Const) (ns : List ℕ) (given : List Actual) → Some given ≡ actuals_behind values constants [] ns → ActualsBelow m given
    actuals_below constants ns given e = all_actuals_below constants [] ns given tt (sym e)
