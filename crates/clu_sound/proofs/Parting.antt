-- A type is met exactly if it itself is, and its parts are.
use Rattle.std.proofs.Common.{◌≡◌, ◌⊎◌, inl, inr, ℕ, ◌<◌, zero, suc, Bool, true, false, List, [], ◌∷◌, ◌++◌, Contains, map, find, None, refl, sym, subst, arith}
use Rattle.std.specs.Str.{bytes_eq}
use Rattle.std.proofs.lemmas.List.Elements.{Contains-append_left, Contains-append_right, Contains-append_cases}
use Rattle.clu_base.proofs.Lists.{none_is_not, head_or_tail, in_head, in_tail, in_none}
use Rattle.clu_types.specs.CluType.{CluType, Actuals}
use Rattle.clu_types.specs.Arena.{type_at, types_at, fields_at, signals_at, actuals_at, type_of, PartsBelow}
use Rattle.clu_types.specs.declared.spec.Demand.{Demand}
use Rattle.clu_types.specs.declared.spec.OpSpec.{OpSpec}
use Rattle.clu_types.specs.declared.spec.Spec.{Spec}
use Rattle.clu_types.specs.declared.term.TypeId.{TypeId}
use Rattle.clu_types.specs.declared.term.Field.{Field}
use Rattle.clu_types.specs.declared.term.Exception.{Exception}
use Rattle.clu_types.specs.declared.term.Heading.{Heading}
use Rattle.clu_types.specs.declared.term.Actual.{Actual}
use Rattle.clu_types.specs.declared.term.Actual.TheVariants as actual
use Rattle.clu_types.specs.declared.term.Term.{Term}
use Rattle.clu_types.specs.declared.term.Term.TheVariants as term
use Rattle.clu_specs.specs.Seen.{Demanded, demand_seen}
use Rattle.clu_demands.specs.Asking.{instance_with, instance_of}
use Rattle.clu_demands.specs.Meeting.{routine_type}
use Rattle.clu_sound.specs.Parts.{field_types, object_types, type_actuals, heading_types, wanted_types, op_types, part_types}
use Rattle.clu_sound.specs.Sound.{clusters_in, clusters_of_types, clusters_of_fields, clusters_of_signals, clusters_of_actuals, IsInstanceMet, IsTypeMet, AreTypesMet, IsRoutineMet}
use Rattle.clu_sound.specs.Visiting.{IsOwnMet, AreIdsMet}
use Rattle.clu_sound.proofs.Growing.{below_in, parts_below}

module _ (given : List Demanded) (specs : List Spec) where
  -- of each of these cluster types
  abbrev Each : List (List ℕ × Actuals) → Type 0
  Each cs = (name : List ℕ) (actuals : Actuals) → Contains cs (name, actuals) → IsInstanceMet given specs actuals (find (λ s. bytes_eq s.name name) specs)

  each_none : Each []
  each_none name actuals c = in_none (name, actuals) c

  each_first : (xs ys : List (List ℕ × Actuals)) → Each (xs ++ ys) → Each xs
  each_first xs ys h name actuals c = h name actuals (Contains-append_left xs ys (name, actuals) c)

  each_then : (xs ys : List (List ℕ × Actuals)) → Each (xs ++ ys) → Each ys
  each_then xs ys h name actuals c = h name actuals (Contains-append_right xs ys (name, actuals) c)

  each_both : (xs ys : List (List ℕ × Actuals)) → Each xs → Each ys → Each (xs ++ ys)
  each_both xs ys a b name actuals c = by (Contains-append_cases xs ys (name, actuals) c)
    where
      by : Contains xs (name, actuals) ⊎ Contains ys (name, actuals) → IsInstanceMet given specs actuals (find (λ s. bytes_eq s.name name) specs)
      by (inl h) = a name actuals h
      by (inr h) = b name actuals h

  abbrev Own : List ℕ × Actuals → Type 0
  Own x = IsInstanceMet given specs x.1 (find (λ s. bytes_eq s.name x.0) specs)

  each_head : (x : List ℕ × Actuals) (xs : List (List ℕ × Actuals)) → Each (x ∷ xs) → Own x
  each_head x xs h = h x.0 x.1 (in_head x xs (x.0, x.1) refl)

  each_tail : (x : List ℕ × Actuals) (xs : List (List ℕ × Actuals)) → Each (x ∷ xs) → Each xs
  each_tail x xs h name actuals c = h name actuals (in_tail x xs (name, actuals) c)

  each_more : (x : List ℕ × Actuals) (xs : List (List ℕ × Actuals)) → Own x → Each xs → Each (x ∷ xs)
  each_more x xs own rest name actuals c = by (head_or_tail x xs (name, actuals) c)
    where
      by : (x ≡ (name, actuals)) ⊎ Contains xs (name, actuals) → IsInstanceMet given specs actuals (find (λ s. bytes_eq s.name name) specs)
      by (inl is) = subst Own is own
      by (inr h) = rest name actuals h

  module _ (types : List CluType) where
    abbrev Ids : List TypeId → Type 0
    Ids ids = AreIdsMet given specs types ids

    pub ids_first : (xs ys : List TypeId) → Ids (xs ++ ys) → Ids xs
    ids_first [] ys h = tt
    ids_first (x ∷ xs) ys h = (h.0, ids_first xs ys h.1)

    pub ids_then : (xs ys : List TypeId) → Ids (xs ++ ys) → Ids ys
    ids_then [] ys h = h
    ids_then (x ∷ xs) ys h = ids_then xs ys h.1

    pub ids_both : (xs ys : List TypeId) → Ids xs → Ids ys → Ids (xs ++ ys)
    ids_both [] ys a b = b
    ids_both (x ∷ xs) ys a b = (a.0, ids_both xs ys a.1 b)

    pub ids_each : (xs : List TypeId) → ((p : TypeId) → Contains xs p → IsTypeMet given specs (type_at types p)) → Ids xs
    ids_each [] h = tt
    ids_each (x ∷ xs) h = (h x (in_head x xs x refl), ids_each xs (λ p c. h p (in_tail x xs p c)))

    pub ids_in : (xs : List TypeId) → Ids xs → (p : TypeId) → Contains xs p → IsTypeMet given specs (type_at types p)
    ids_in [] h p c = in_none p c
    ids_in (x ∷ xs) h p c = by (head_or_tail x xs p c) (ids_in xs h.1 p)
      where
        by : (x ≡ p) ⊎ Contains xs p → (Contains xs p → IsTypeMet given specs (type_at types p)) → IsTypeMet given specs (type_at types p)
        by (inl is) later = subst (λ (q : TypeId). IsTypeMet given specs (type_at types q)) is h.0
        by (inr there) later = later there

    -- ---- lists of types

    types_to : (ids : List TypeId) → Each (clusters_of_types (types_at types ids)) → Ids ids
    types_to [] h = tt
    types_to (id ∷ ids) h =
        (each_first (clusters_in (type_at types id)) (clusters_of_types (types_at types ids)) h, types_to ids (each_then (clusters_in (type_at types id)) (clusters_of_types (types_at types ids)) h))

    types_from : (ids : List TypeId) → Ids ids → Each (clusters_of_types (types_at types ids))
    types_from [] h = each_none
    types_from (id ∷ ids) h = each_both (clusters_in (type_at types id)) (clusters_of_types (types_at types ids)) h.0 (types_from ids h.1)

    fields_to : (fs : List Field) → Each (clusters_of_fields (fields_at types fs)) → Ids (field_types fs)
    fields_to [] h = tt
    fields_to (f ∷ fs) h =
        (each_first (clusters_in (type_at types f.of)) (clusters_of_fields (fields_at types fs)) h, fields_to fs (each_then (clusters_in (type_at types f.of)) (clusters_of_fields (fields_at types fs)) h))

    fields_from : (fs : List Field) → Ids (field_types fs) → Each (clusters_of_fields (fields_at types fs))
    fields_from [] h = each_none
    fields_from (f ∷ fs) h = each_both (clusters_in (type_at types f.of)) (clusters_of_fields (fields_at types fs)) h.0 (fields_from fs h.1)

    signals_to : (ss : List Exception) → Each (clusters_of_signals (signals_at types ss)) → Ids (object_types ss)
    signals_to [] h = tt
    signals_to (s ∷ ss) h =
        let front = clusters_of_types (types_at types s.objects) in
        let rest = clusters_of_signals (signals_at types ss) in
        ids_both s.objects (object_types ss) (types_to s.objects (each_first front rest h)) (signals_to ss (each_then front rest h))

    signals_from : (ss : List Exception) → Ids (object_types ss) → Each (clusters_of_signals (signals_at types ss))
    signals_from [] h = each_none
    signals_from (s ∷ ss) h =
        each_both (clusters_of_types (types_at types s.objects)) (clusters_of_signals (signals_at types ss)) (types_from s.objects (ids_first s.objects (object_types ss) h)) (signals_from ss (ids_then s.objects (object_types ss) h))

    actuals_to : (params : List Actual) → Each (clusters_of_actuals (actuals_at types params)) → Ids (type_actuals params)
    actuals_to [] h = tt
    actuals_to (actual.Of id ∷ rest) h =
        (each_first (clusters_in (type_at types id)) (clusters_of_actuals (actuals_at types rest)) h, actuals_to rest (each_then (clusters_in (type_at types id)) (clusters_of_actuals (actuals_at types rest)) h))
    actuals_to (actual.Const c ∷ rest) h = actuals_to rest h
    actuals_to (actual.ConstParam n ∷ rest) h = actuals_to rest h

    actuals_from : (params : List Actual) → Ids (type_actuals params) → Each (clusters_of_actuals (actuals_at types params))
    actuals_from [] h = each_none
    actuals_from (actual.Of id ∷ rest) h = each_both (clusters_in (type_at types id)) (clusters_of_actuals (actuals_at types rest)) h.0 (actuals_from rest h.1)
    actuals_from (actual.Const c ∷ rest) h = actuals_from rest h
    actuals_from (actual.ConstParam n ∷ rest) h = actuals_from rest h

    abbrev in_heading : Heading → List (List ℕ × Actuals)
    in_heading h = clusters_of_types (types_at types h.args) ++ clusters_of_types (types_at types h.results) ++ clusters_of_signals (signals_at types h.signals)

    pub heading_to : (h : Heading) → Each (in_heading h) → Ids (heading_types h)
    heading_to h e =
        let a = clusters_of_types (types_at types h.args) in
        let r = clusters_of_types (types_at types h.results) in
        let s = clusters_of_signals (signals_at types h.signals) in
        let front : Each (a ++ r) = each_first (a ++ r) s e in
        ids_both h.args (h.results ++ object_types h.signals) (types_to h.args (each_first a r front))
        (ids_both h.results (object_types h.signals) (types_to h.results (each_then a r front)) (signals_to h.signals (each_then (a ++ r) s e)))

    pub heading_from : (h : Heading) → Ids (heading_types h) → Each (in_heading h)
    heading_from h m =
        let a = clusters_of_types (types_at types h.args) in
        let r = clusters_of_types (types_at types h.results) in
        let s = clusters_of_signals (signals_at types h.signals) in
        let rest : Ids (h.results ++ object_types h.signals) = ids_then h.args (h.results ++ object_types h.signals) m in
        let front : Each (a ++ r) = each_both a r (types_from h.args (ids_first h.args (h.results ++ object_types h.signals) m)) (types_from h.results (ids_first h.results (object_types h.signals) rest)) in
        each_both (a ++ r) s front (signals_from h.signals (ids_then h.results (object_types h.signals) rest))

    -- ---- a type

    pub term_own : (t : Term) → IsTypeMet given specs (type_of types t) → IsOwnMet given specs (type_of types t)
    term_own term.Null h = tt
    term_own term.Bool h = tt
    term_own term.Int h = tt
    term_own term.Char h = tt
    term_own term.Str h = tt
    term_own term.Any h = tt
    term_own term.Stream h = tt
    term_own (term.Array of) h = tt
    term_own (term.Sequence of) h = tt
    term_own (term.Record fs) h = tt
    term_own (term.Struct fs) h = tt
    term_own (term.Oneof fs) h = tt
    term_own (term.Variant fs) h = tt
    term_own (term.Proc p) h = tt
    term_own (term.Iter p) h = tt
    term_own (term.Cluster name params) h = each_head (name, actuals_at types params) (clusters_of_actuals (actuals_at types params)) h
    term_own (term.Param n) h = tt

    pub term_parts : (t : Term) → IsTypeMet given specs (type_of types t) → Ids (part_types t)
    term_parts term.Null h = tt
    term_parts term.Bool h = tt
    term_parts term.Int h = tt
    term_parts term.Char h = tt
    term_parts term.Str h = tt
    term_parts term.Any h = tt
    term_parts term.Stream h = tt
    term_parts (term.Array of) h = (h, tt)
    term_parts (term.Sequence of) h = (h, tt)
    term_parts (term.Record fs) h = fields_to fs h
    term_parts (term.Struct fs) h = fields_to fs h
    term_parts (term.Oneof fs) h = fields_to fs h
    term_parts (term.Variant fs) h = fields_to fs h
    term_parts (term.Proc p) h = heading_to p h
    term_parts (term.Iter p) h = heading_to p h
    term_parts (term.Cluster name params) h = actuals_to params (each_tail (name, actuals_at types params) (clusters_of_actuals (actuals_at types params)) h)
    term_parts (term.Param n) h = tt

    pub term_met : (t : Term) → IsOwnMet given specs (type_of types t) → Ids (part_types t) → IsTypeMet given specs (type_of types t)
    term_met term.Null o h = each_none
    term_met term.Bool o h = each_none
    term_met term.Int o h = each_none
    term_met term.Char o h = each_none
    term_met term.Str o h = each_none
    term_met term.Any o h = each_none
    term_met term.Stream o h = each_none
    term_met (term.Array of) o h = h.0
    term_met (term.Sequence of) o h = h.0
    term_met (term.Record fs) o h = fields_from fs h
    term_met (term.Struct fs) o h = fields_from fs h
    term_met (term.Oneof fs) o h = fields_from fs h
    term_met (term.Variant fs) o h = fields_from fs h
    term_met (term.Proc p) o h = heading_from p h
    term_met (term.Iter p) o h = heading_from p h
    term_met (term.Cluster name params) o h = each_more (name, actuals_at types params) (clusters_of_actuals (actuals_at types params)) o (actuals_from params h)
    term_met (term.Param n) o h = each_none

    -- a type itself is met, and its parts are among some
    abbrev pub IsWhole : (TypeId → Type 0) → TypeId → Type 0
    IsWhole Among id = (t : Term) × (type_at types id ≡ type_of types t) × PartsBelow id.0 t × IsOwnMet given specs (type_at types id) × ((p : TypeId) → Contains (part_types t) p → Among p)

    whole_to : (Among : TypeId → Type 0) → ((id : TypeId) → Among id → IsWhole Among id) → (n : ℕ) (id : TypeId) → id.0 < n → Among id → IsTypeMet given specs (type_at types id)
    whole_to Among h zero id lt c = absurd (omega (arith, lt))
    whole_to Among h (suc n) id lt c =
        let w = h id c in
        let own : IsOwnMet given specs (type_of types w.0) = subst (IsOwnMet given specs) w.1 w.3 in
        let parts : Ids (part_types w.0) = ids_each (part_types w.0) (λ p there. whole_to Among h n p (omega (arith, lt, below_in id.0 (part_types w.0) p (parts_below id.0 w.0 w.2) there)) (w.4 p there)) in
        subst (IsTypeMet given specs) (sym w.1) (term_met w.0 own parts)

    -- if so it is of each of them, they are met
    pub whole_met : (Among : TypeId → Type 0) → ((id : TypeId) → Among id → IsWhole Among id) → (id : TypeId) → Among id → IsTypeMet given specs (type_at types id)
    whole_met Among h id c = whole_to Among h (suc id.0) id (omega arith) c

    -- ---- a routine

    pub routine_to : (b : Bool) (h : Heading) → IsTypeMet given specs (routine_type b (types_at types h.args) (types_at types h.results) (signals_at types h.signals)) → Ids (heading_types h)
    routine_to true h m = heading_to h m
    routine_to false h m = heading_to h m

    pub routine_from : (b : Bool) (h : Heading) → Ids (heading_types h) → IsTypeMet given specs (routine_type b (types_at types h.args) (types_at types h.results) (signals_at types h.signals))
    routine_from true h m = heading_from h m
    routine_from false h m = heading_from h m

    pub wanted_to : (ds : List Demand) → AreTypesMet given specs (map (demand_seen types) ds) → Ids (wanted_types ds)
    wanted_to [] h = tt
    wanted_to (d ∷ ds) h = (h.0, wanted_to ds h.1)

    pub wanted_from : (ds : List Demand) → Ids (wanted_types ds) → AreTypesMet given specs (map (demand_seen types) ds)
    wanted_from [] h = tt
    wanted_from (d ∷ ds) h = (h.0, wanted_from ds h.1)

    -- a type that is of no cluster is met itself
    pub no_instance : (t : Term) → None ≡ instance_of t → IsOwnMet given specs (type_of types t)
    no_instance term.Null e = tt
    no_instance term.Bool e = tt
    no_instance term.Int e = tt
    no_instance term.Char e = tt
    no_instance term.Str e = tt
    no_instance term.Any e = tt
    no_instance term.Stream e = tt
    no_instance (term.Array of) e = tt
    no_instance (term.Sequence of) e = tt
    no_instance (term.Record fs) e = tt
    no_instance (term.Struct fs) e = tt
    no_instance (term.Oneof fs) e = tt
    no_instance (term.Variant fs) e = tt
    no_instance (term.Proc p) e = tt
    no_instance (term.Iter p) e = tt
    no_instance (term.Cluster name params) e = none_is_not (instance_with name params) e
    no_instance (term.Param n) e = tt

-- the types of a routine are met exactly if those which its heading and its demands name are
module _ (specs : List Spec) (types : List CluType) (given : List Demand) (o : OpSpec) where
  abbrev gives : List Demanded
  gives = map (demand_seen types) given

  pub op_to : IsRoutineMet specs types given o → AreIdsMet gives specs types (op_types o)
  op_to h = ids_both gives specs types (heading_types o.heading) (wanted_types o.demands) (routine_to gives specs types o.iter o.heading h.0) (wanted_to gives specs types o.demands h.1)

  pub op_from : AreIdsMet gives specs types (op_types o) → IsRoutineMet specs types given o
  op_from h = (
    routine_from gives specs types o.iter o.heading (ids_first gives specs types (heading_types o.heading) (wanted_types o.demands) h),
    wanted_from gives specs types o.demands (ids_then gives specs types (heading_types o.heading) (wanted_types o.demands) h),
  )
