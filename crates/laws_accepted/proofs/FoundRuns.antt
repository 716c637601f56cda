-- An operation that the rules find of a type at a node is there when an instance of the text runs, and lawful; and its type is
-- legal at the node.
use Rattle.std.proofs.Common.{◌≡◌, ℕ, Bool, true, false, List, [], ◌∷◌, ◌++◌, map, Option, None, Some, refl, sym, ap, subst, ◌∙◌, inl, inr, ◌⊎◌}
use Rattle.std.specs.Prelude.{◌==◌, not, bytes_eq, cond, if◌then◌else◌, flat_map}
use Rattle.std.specs.List.{list_any}
use Rattle.std.specs.Option.{option_map}
use Rattle.std.proofs.lemmas.Bool.{and_parts, and_from, or_parts, or_from, or_left, or_right, eqb-true, not-false}
use Rattle.clu_base.proofs.Lists.{same_bytes}
use Rattle.clu_types.specs.CluType.{CluType, cluster_of, parameter, Actuals}
use Rattle.clu_types.specs.Substituted.{substituted, actuals_substituted, type_put}
use Rattle.clu_builtin.specs.Operation.{Needed, Operation}
use Rattle.clu_builtin.specs.Table.{operation}
use Rattle.clu_syntax.specs.Syntax.{Identifier, Cluster}
use Rattle.clu_layout.specs.Objects.{Routine, module_routine, operation_of}
use Rattle.clu_layout.specs.SameType.{fits}
use Rattle.clu_layout.specs.Primitive.{heading_type}
use Rattle.clu_layout.proofs.SameTypeLaws.{type_same}
use Rattle.clu_meaning.specs.Programs.{Program}
use Rattle.clu_meaning.specs.Binding.{Running}
use Rattle.clu_meaning.specs.Operations.{may_name, exports, stands_in, module_named}
use Rattle.clu_checking.specs.Specifications.{Demand, Heading, Form, of_routine, Specification, heading_named, operations_of, demands_of}
use Rattle.clu_checking.specs.Specifications as specifications
use Rattle.clu_checking.specs.Files.{File, cluster_round, routine_round}
use Rattle.clu_checking.specs.Headings.{routines_of, specification}
use Rattle.clu_checking.specs.Operations.{Asked, Found, builtin_type, needed, builtin_found, demanded, asked_as, routine_found, given_found, given_of, is_given, given_at, given_by_routine, given_by_cluster, given_by_sets, where_at, is_met, are_met_by, is_put_met, meets, headings_seen, exported_headings, operation_found}
use Rattle.clu_checking.specs.Typing.{found_in, heading_in, module_found}
use Rattle.laws_sound.specs.Sound.{LawfulBy}
use Rattle.laws_sound.specs.Builtins.{IsMet}
use Rattle.laws_accepted.specs.Legal.{Specified, Context, closed, context_of, are_of_kinds, is_demand_met, are_demands_met, is_instance, is_legal, actuals_legal}
use Rattle.laws_accepted.specs.Specified.{DemandsLegal, FormLegal, AllLegal, ClauseMet}
use Rattle.laws_accepted.specs.Lawful.{Routines, are_needs_met, are_own_met, is_lawful, HasTexts}
use Rattle.laws_accepted.specs.Instances.{RoutinesLegal, context_at, ClauseLegal, AllMet, RunsInside, RunsAt, Runs}
use Rattle.laws_accepted.proofs.PutIn.{is_parameter, needed_put, operation_put, operation_of_put}
use Rattle.laws_accepted.proofs.Composed.{composed}
use Rattle.laws_accepted.proofs.OfKinds.{no, IsInstance, instance_is, covered}
use Rattle.laws_accepted.proofs.Meeting.{some_is, none_some, built_put}
use Rattle.laws_accepted.proofs.Staying.{asked_legal, meets_put, legal_put, demands_put, instance_put, actuals_put}
use Rattle.laws_accepted.proofs.Tables as tables
use Rattle.laws_accepted.proofs.Tables.{needs_all, needs_legal}
use Rattle.laws_accepted.proofs.BuiltinsHold.{same_heading, is_builtin, headed_builtin, may_builtin, law_builtin, met}

pub fits_itself : (t : CluType) → fits t t ≡ true
fits_itself t = or_left _ _ (or_left _ _ (type_same t))

-- ---- built-in types stay built-in

pub builtin_still : (given : Actuals) (t : CluType) → is_builtin t ≡ true → is_builtin (substituted given t) ≡ true
builtin_still given (cluster_of c inner) e = no e
builtin_still given (parameter k) e = no e
builtin_still given _ e = refl

no_parameter : (t : CluType) → is_builtin t ≡ true → is_parameter t ≡ false
no_parameter (cluster_of c inner) e = no e
no_parameter (parameter k) e = no e
no_parameter _ e = refl

-- ---- what is asked as what is met

found_front : (k : ℕ) (name : Identifier) (xs ys : List Demand) (d : Demand) → given_of (xs ++ ys) k name ≡ Some d → (given_of xs k name ≡ Some d) ⊎ (given_of ys k name ≡ Some d)
found_front k name [] ys d e = inr e
found_front k name (x ∷ xs) ys d e = by (is_given k name x) e (λ h. found_front k name xs ys d h)
  where
    by : (b : Bool) → cond b (Some x) (given_of (xs ++ ys) k name) ≡ Some d → (given_of (xs ++ ys) k name ≡ Some d → (given_of xs k name ≡ Some d) ⊎ (given_of ys k name ≡ Some d)) →
        (cond b (Some x) (given_of xs k name) ≡ Some d) ⊎ (given_of ys k name ≡ Some d)
    by true e later = inl e
    by false e later = later e

any_front : (test : Asked → Bool) (xs ys : List Asked) → list_any test (xs ++ ys) ≡ false → (list_any test xs ≡ false) × (list_any test ys ≡ false)
any_front test [] ys h = (refl, h)
any_front test (x ∷ xs) ys h =
    let p = or_parts (test x) (list_any test (xs ++ ys)) h in
    let q = any_front test xs ys p.1 in
    (or_from (test x) (list_any test xs) p.0 q.0, q.1)

module _ (f : File) (n : ℕ) where
  -- demands with these actuals
  pub demands_met : (context : Context) (xs : Actuals) (ds : List Demand) → DemandsLegal (specification f) context ds → AllMet f n (flat_map (demanded xs) ds) → are_demands_met (context_at f n) (specification f) xs ds ≡ true
  demands_met context xs [] l h = refl
  demands_met context xs (d ∷ ds) l h =
      let x = l.0 in
      let p = any_front (λ a. not (is_met f n a)) (demanded xs d) (flat_map (demanded xs) ds) h in
      let one : list_any (λ a. not (is_met f n a)) (asked_as xs d (Some x.wanted)) ≡ false = subst (λ o. list_any (λ a. not (is_met f n a)) (asked_as xs d o) ≡ false) x.is p.0 in
      let asked : meets (where_at f n) (specification f) (type_put xs d.parameter) d.operation (substituted xs x.wanted) ≡ true =
      not-false (meets (where_at f n) (specification f) (type_put xs d.parameter) d.operation (substituted xs x.wanted))
      (or_parts (not (meets (where_at f n) (specification f) (type_put xs d.parameter) d.operation (substituted xs x.wanted))) false one).0 in
      and_from (is_demand_met (context_at f n) (specification f) xs d) (are_demands_met (context_at f n) (specification f) xs ds)
      (subst (λ o. is_put_met (λ k op w. meets (where_at f n) (specification f) (type_put xs k) op w) xs d o ≡ true) (sym x.is) asked) (demands_met context xs ds l.1 p.1)

  needs_met : (needs : List Needed) → AllMet f n (map needed needs) → are_met_by (meets (where_at f n) (specification f)) needs ≡ true
  needs_met [] h = refl
  needs_met (x ∷ xs) h =
      let p = or_parts (not (meets (where_at f n) (specification f) x.of x.op x.wanted)) (list_any (λ a. not (is_met f n a)) (map needed xs)) h in
      and_from (meets (where_at f n) (specification f) x.of x.op x.wanted) (are_met_by (meets (where_at f n) (specification f)) xs) (not-false (meets (where_at f n) (specification f) x.of x.op x.wanted) p.0) (needs_met xs p.1)

-- what is met of each demand is met of the one that is found
clause_met : (specified : Specified) (context to : Context) (xs : Actuals) (ds : List Demand) → DemandsLegal specified context ds → are_demands_met to specified xs ds ≡ true → ClauseMet specified to xs ds
clause_met specified context to xs [] l h k name d e = absurd (none_some e)
clause_met specified context to xs (x ∷ ds) l h k name d e =
    let p = and_parts (is_demand_met to specified xs x) (are_demands_met to specified xs ds) h in
    by (is_given k name x) refl e p.0 (λ m. clause_met specified context to xs ds l.1 p.1 k name d m)
  where
    by : (b : Bool) → is_given k name x ≡ b → cond b (Some x) (given_of ds k name) ≡ Some d → is_demand_met to specified xs x ≡ true →
        (given_of ds k name ≡ Some d → (wanted : CluType) × (d.wanted ≡ Some wanted) × (meets to.clauses specified (type_put xs k) name (substituted xs wanted) ≡ true)) →
        (wanted : CluType) × (d.wanted ≡ Some wanted) × (meets to.clauses specified (type_put xs k) name (substituted xs wanted) ≡ true)
    by true g e m later =
        let q = and_parts (x.parameter == k) (bytes_eq x.operation name) g in (
          l.0.wanted,
          sym (ap (λ (z : Demand). z.wanted) (some_is e)) ∙ l.0.is,
          subst (λ z. meets to.clauses specified (type_put xs z) name (substituted xs l.0.wanted) ≡ true) (eqb-true x.parameter k q.0)
              (subst (λ z. meets to.clauses specified (type_put xs x.parameter) z (substituted xs l.0.wanted) ≡ true) (same_bytes x.operation name q.1)
              (subst (λ o. is_put_met (λ k op w. meets to.clauses specified (type_put xs k) op w) xs x o ≡ true) l.0.is m)),
        )
    by false g e m later = later e

nothing_met : (specified : Specified) (to : Context) (xs : Actuals) → ClauseMet specified to xs []
nothing_met specified to xs k name d e = absurd (none_some e)

module _ (f : File) (program : Program) (routines : Routines) (legal : AllLegal (specification f)) (others : RoutinesLegal (specification f) routines) (texts : HasTexts (specification f) routines program) (n : ℕ) (r : Running) (at : RunsAt f n routines r) where
  abbrev put : CluType → CluType
  put t = substituted r.given t

  abbrev Law : Routine → Type 0
  Law = LawfulBy (is_lawful (specification f) routines)

  abbrev IsLegal : CluType → Type 0
  IsLegal t = is_legal (context_at f n) (specification f) t ≡ true

  -- the operation of this name of a type, when it runs
  abbrev OperationRuns : CluType → Identifier → CluType → Type 0
  OperationRuns t name T = Runs program Law r (operation_of (put t) name) (put T) × IsLegal T

  may_anywhere : (p : Routine) → may_name program None p ≡ true → may_name program r.home p ≡ true
  may_anywhere (operation_of (cluster_of c xs) op) h = or_right (stands_in r.home c) (exports (module_named program c) op) h
  may_anywhere _ h = refl

  -- ---- built-in types

  needs_kept : (needs : List Needed) → needs_all (is_legal (context_at f n) (specification f)) needs ≡ true → are_met_by (meets (where_at f n) (specification f)) needs ≡ true → are_met_by (meets [] (specification f)) (map (needed_put r.given) needs) ≡ true
  needs_kept [] l h = refl
  needs_kept (x ∷ xs) l h =
      let p = and_parts (is_legal (context_at f n) (specification f) x.of) (needs_all (is_legal (context_at f n) (specification f)) xs) l in
      let q = and_parts (meets (where_at f n) (specification f) x.of x.op x.wanted) (are_met_by (meets (where_at f n) (specification f)) xs) h in
      and_from (meets [] (specification f) (put x.of) x.op (put x.wanted)) (are_met_by (meets [] (specification f)) (map (needed_put r.given) xs))
      (meets_put (specification f) legal (context_at f n) closed r.given at.actuals x.of x.op x.wanted p.0 q.0) (needs_kept xs p.1 q.1)

  type_legal : (b : Bool) (op : Operation) → tables.heading_legal (context_at f n) (specification f) op ≡ true → IsLegal (builtin_type b op)
  type_legal true op h = h
  type_legal false op h = h

  of_builtin : (t : CluType) (name : Identifier) (o : Option Operation) (x : Found) (T : CluType) → is_builtin t ≡ true → IsLegal t → operation t name ≡ o → option_map builtin_found o ≡ Some x → x.type ≡ Some T → AllMet f n x.asks → OperationRuns t name T
  of_builtin t name (Some op) x T b l e is typed asks =
      let same : builtin_type op.iter op ≡ T = some_is (ap (λ (y : Found). y.type) (some_is is) ∙ typed) in
      let there : operation (put t) name ≡ Some (operation_put r.given op) = operation_of_put r.given t name (no_parameter t b) ∙ ap (option_map (operation_put r.given)) e in
      let asked : AllMet f n (map needed op.needs) = subst (λ (y : Found). AllMet f n y.asks) (sym (some_is is)) asks in
      let still : is_builtin (put t) ≡ true = builtin_still r.given t b in
      let met : are_met_by (meets [] (specification f)) (map (needed_put r.given) op.needs) ≡ true = needs_kept op.needs (needs_legal (context_at f n) (specification f) t name op l e) (needs_met f n op.needs asked) in
      subst (λ u. OperationRuns t name u) same (
        record {
          heading = heading_type (operation_put r.given op);
          there = headed_builtin program (put t) name still ∙ ap (option_map heading_type) there;
          fit = subst (λ h. fits h (put (builtin_type op.iter op)) ≡ true) (sym (same_heading (operation_put r.given op) op.iter refl ∙ built_put r.given op.iter op)) (fits_itself (put (builtin_type op.iter op)));
          may = may_anywhere (operation_of (put t) name) (may_builtin program (put t) name still);
          law = law_builtin program (specification f) routines legal texts (put t) name still (legal_put (specification f) legal (context_at f n) closed r.given at.actuals t l)
              (subst (λ o. are_needs_met (specification f) routines o ≡ true) (sym there) met);
        },
        type_legal op.iter op (tables.operation_legal (context_at f n) (specification f) t name op l e),
      )
  of_builtin t name None x T b l e is typed asks = absurd (none_some is)

  -- ---- type parameters

  of_clause : (k : ℕ) (name : Identifier) (T : CluType) (clause : List Demand) (d : Demand) → IsLegal (parameter k) → ClauseMet (specification f) closed r.given clause → ClauseLegal f n clause → given_of clause k name ≡ Some d → d.wanted ≡ Some T → OperationRuns (parameter k) name T
  of_clause k name T clause d l m w e typed =
      let x = m k name d e in
      let y = w k name d e in
      let same : x.0 ≡ T = some_is (sym x.1 ∙ typed) in
      let there : IsMet program Law (record { of = type_put r.given k; op = name; wanted = put T }) = met program (specification f) routines legal texts (type_put r.given k) name (put T)
      (legal_put (specification f) legal (context_at f n) closed r.given at.actuals (parameter k) l) (subst (λ u. meets [] (specification f) (type_put r.given k) name (put u) ≡ true) same x.2) in (
        record { heading = there.heading; there = there.there; fit = there.fit; may = may_anywhere (operation_of (type_put r.given k) name) there.may; law = there.law },
        subst (λ u. IsLegal u) (some_is (sym y.1 ∙ typed)) y.2,
      )

  of_parameter : (k : ℕ) (name : Identifier) (o : Option Demand) (x : Found) (T : CluType) → IsLegal (parameter k) → given_of (given_at f n) k name ≡ o → option_map (given_found f) o ≡ Some x → x.type ≡ Some T → OperationRuns (parameter k) name T
  of_parameter k name (Some d) x T l e is typed =
      let wanted : d.wanted ≡ Some T = ap (λ (y : Found). y.type) (some_is is) ∙ typed in
      let cs = at.actuals.clauses in
      elim (found_front k name (given_by_routine f (routine_round f n) ++ given_by_cluster f (cluster_round f n)) (given_by_sets f n) d e) [
        | inl front ↦ elim (found_front k name (given_by_routine f (routine_round f n)) (given_by_cluster f (cluster_round f n)) d front) [
          | inl first ↦ of_clause k name T (given_by_routine f (routine_round f n)) d l cs.0 at.first first wanted
          | inr second ↦ of_clause k name T (given_by_cluster f (cluster_round f n)) d l cs.1.0 at.second second wanted
        ]
        | inr third ↦ of_clause k name T (given_by_sets f n) d l cs.1.1.0 at.third third wanted
      ]
  of_parameter k name None x T l e is typed = absurd (none_some is)

  -- ---- clusters

  abbrev Seen : List ℕ → Identifier → Heading → Type 0
  Seen c name h = (routines c name ≡ Some h) × ((xs : Actuals) → may_name program r.home (operation_of (cluster_of c xs) name) ≡ true)

  seen_outside : (c : List ℕ) (name : Identifier) (h : Heading) (o : Option Specification) → specification f c ≡ o → heading_named (exported_headings f o) name ≡ Some h → Seen c name h
  seen_outside c name h (Some s) is e =
      let x = texts.exported c name s h is e in
      (x.0, λ xs. or_right (stands_in r.home c) (exports (module_named program c) name) x.1)
  seen_outside c name h None is e = absurd (none_some e)

  seen_inside : (c : List ℕ) (name : Identifier) (h : Heading) (C : Cluster) → RunsInside f n routines r (Some C) → (b : Bool) → bytes_eq C.name c ≡ b → heading_named (if b then routines_of f C else exported_headings f (specification f c)) name ≡ Some h → Seen c name h
  seen_inside c name h C i true same e = (
    subst (λ x. routines x name ≡ Some h) (same_bytes C.name c same) (i.1 name ∙ e),
    λ xs. or_left (stands_in r.home c) (exports (module_named program c) name) (ap (λ o. stands_in o c) i.0 ∙ same),
  )
  seen_inside c name h C i false same e = seen_outside c name h (specification f c) refl e

  seen : (c : List ℕ) (name : Identifier) (h : Heading) (o : Option Cluster) → RunsInside f n routines r o → heading_named (headings_seen f c o) name ≡ Some h → Seen c name h
  seen c name h (Some C) i e = seen_inside c name h C i (bytes_eq C.name c) refl e
  seen c name h None i e = seen_outside c name h (specification f c) refl e

  of_cluster : (c : List ℕ) (xs : Actuals) (name : Identifier) (o : Option Heading) (x : Found) (T : CluType) → IsLegal (cluster_of c xs) → heading_named (headings_seen f c (cluster_round f n)) name ≡ o → option_map (routine_found xs) o ≡ Some x → x.type ≡ Some T → AllMet f n x.asks →
      OperationRuns (cluster_of c xs) name T
  of_cluster c xs name (Some h) x T l e is typed asks =
      let s = seen c name h (cluster_round f n) at.inside e in
      let sp = others c name h s.0 in
      let parts = and_parts (actuals_legal (context_at f n) (specification f) xs) (is_instance (context_at f n) (specification f) (specification f c) xs) l in
      let i = instance_is (context_at f n) (specification f) (specification f c) xs parts.1 in
      let same : i.s ≡ sp.0 = some_is (sym i.is ∙ sp.1) in
      let kinds : are_of_kinds (context_at f n).kinds sp.0.kinds xs ≡ true = subst (λ (y : Specification). are_of_kinds (context_at f n).kinds y.kinds xs ≡ true) same i.kinds in
      let demands : are_demands_met (context_at f n) (specification f) xs (demands_of sp.0.form) ≡ true = subst (λ (y : Specification). are_demands_met (context_at f n) (specification f) xs (demands_of y.form) ≡ true) same i.demands in
      let context : Context = context_of sp.0 h.demands in
      let asked : AllMet f n (flat_map (demanded xs) h.demands) = subst (λ (y : Found). AllMet f n y.asks) (sym (some_is is)) asks in
      let own : are_demands_met (context_at f n) (specification f) xs h.demands ≡ true = demands_met f n context xs h.demands sp.2.demands asked in
      let is_type : substituted xs sp.2.type ≡ T = some_is (sym (ap (option_map (substituted xs)) sp.2.is) ∙ ap (λ (y : Found). y.type) (some_is is) ∙ typed) in
      let ys : Actuals = actuals_substituted r.given xs in
      let one : put (substituted xs sp.2.type) ≡ substituted ys sp.2.type = composed r.given xs sp.2.type (covered (specification f) context (context_at f n).kinds xs kinds sp.2.type sp.2.legal) in
      subst (λ u. OperationRuns (cluster_of c xs) name u) is_type (
        record {
          heading = substituted ys sp.2.type;
          there = texts.of_clusters c name h sp.2.type ys s.0 sp.2.is;
          fit = subst (λ t. fits (substituted ys sp.2.type) t ≡ true) (sym one) (fits_itself (substituted ys sp.2.type));
          may = s.1 ys;
          law = and_from (is_legal closed (specification f) (put (cluster_of c xs))) (are_own_met (specification f) routines ys (routines c name)) (legal_put (specification f) legal (context_at f n) closed r.given at.actuals (cluster_of c xs) l)
              (subst (λ o. are_own_met (specification f) routines ys o ≡ true) (sym s.0) (demands_put (specification f) legal (context_at f n) closed r.given at.actuals context sp.0 refl xs parts.0 kinds h.demands sp.2.demands own));
        },
        legal_put (specification f) legal context (context_at f n) xs (record {
          kinds = kinds;
          legal = parts.0;
          clauses = (
            clause_met (specification f) context (context_at f n) xs h.demands sp.2.demands own,
            (clause_met (specification f) (context_of sp.0 []) (context_at f n) xs (demands_of sp.0.form) (asked_legal (specification f) sp.0 sp.0.form (legal c sp.0 sp.1)) demands, tt),
          );
        }) sp.2.type sp.2.legal,
      )
  of_cluster c xs name None x T l e is typed asks = absurd (none_some is)

  -- ---- the operation that sugar and `t$op` find

  pub found_runs : (t : CluType) (name : Identifier) (x : Found) (T : CluType) → IsLegal t → operation_found f n t name ≡ Some x → x.type ≡ Some T → AllMet f n x.asks → OperationRuns t name T
  found_runs (cluster_of c xs) name x T l e typed asks = of_cluster c xs name (heading_named (headings_seen f c (cluster_round f n)) name) x T l refl e typed asks
  found_runs (parameter k) name x T l e typed asks = of_parameter k name (given_of (given_at f n) k name) x T l refl e typed
  found_runs t name x T l e typed asks = of_builtin t name (operation t name) x T refl l refl e typed asks

  -- an operation that is found has a type
  typed_operation : (o : Option Operation) (x : Found) → option_map builtin_found o ≡ Some x → (T : CluType) × (x.type ≡ Some T)
  typed_operation (Some op) x e = (builtin_type op.iter op, ap (λ (y : Found). y.type) (sym (some_is e)))
  typed_operation None x e = absurd (none_some e)

  typed_demand : (k : ℕ) (name : Identifier) (o : Option Demand) (x : Found) → given_of (given_at f n) k name ≡ o → option_map (given_found f) o ≡ Some x → (T : CluType) × (x.type ≡ Some T)
  typed_demand k name (Some d) x e is = elim (found_front k name (given_by_routine f (routine_round f n) ++ given_by_cluster f (cluster_round f n)) (given_by_sets f n) d e) [
    | inl front ↦ elim (found_front k name (given_by_routine f (routine_round f n)) (given_by_cluster f (cluster_round f n)) d front) [
      | inl first ↦ of_legal (at.first k name d first)
      | inr second ↦ of_legal (at.second k name d second)
    ]
    | inr third ↦ of_legal (at.third k name d third)
  ]
    where
      of_legal : (wanted : CluType) × (d.wanted ≡ Some wanted) × (is_legal (context_at f n) (specification f) wanted ≡ true) → (T : CluType) × (x.type ≡ Some T)
      of_legal l = (l.0, sym (ap (λ (y : Found). y.type) (some_is is)) ∙ l.1)
  typed_demand k name None x e is = absurd (none_some is)

  typed_heading : (c : List ℕ) (xs : Actuals) (name : Identifier) (o : Option Heading) (x : Found) → heading_named (headings_seen f c (cluster_round f n)) name ≡ o → option_map (routine_found xs) o ≡ Some x → (T : CluType) × (x.type ≡ Some T)
  typed_heading c xs name (Some h) x e is =
      let sp = others c name h (seen c name h (cluster_round f n) at.inside e).0 in
      (substituted xs sp.2.type, sym (ap (λ (y : Found). y.type) (some_is is)) ∙ ap (option_map (substituted xs)) sp.2.is)
  typed_heading c xs name None x e is = absurd (none_some is)

  pub found_typed : (t : CluType) (name : Identifier) (x : Found) → operation_found f n t name ≡ Some x → (T : CluType) × (x.type ≡ Some T)
  found_typed (cluster_of c xs) name x e = typed_heading c xs name (heading_named (headings_seen f c (cluster_round f n)) name) x refl e
  found_typed (parameter k) name x e = typed_demand k name (given_of (given_at f n) k name) x refl e
  found_typed t name x e = typed_operation (operation t name) x e

  -- ---- the routine of a module with actuals

  pub module_runs : (m : Identifier) (xs : Actuals) (x : Found) (T : CluType) → actuals_legal (context_at f n) (specification f) xs ≡ true → is_instance (context_at f n) (specification f) (specification f m) xs ≡ true →
      module_found f m xs ≡ Some x → x.type ≡ Some T → Runs program Law r (module_routine m (actuals_substituted r.given xs)) (put T) × IsLegal T
  module_runs m xs x T l i e typed = by (instance_is (context_at f n) (specification f) (specification f m) xs i)
    where
      of_form : (s : Specification) → specification f m ≡ Some s → (form : Form) → s.form ≡ form → are_of_kinds (context_at f n).kinds s.kinds xs ≡ true → are_demands_met (context_at f n) (specification f) xs (demands_of form) ≡ true → FormLegal (specification f) s form →
          IsInstance (context_at f n) (specification f) (specification f m) xs → found_in xs form ≡ Some x → Runs program Law r (module_routine m (actuals_substituted r.given xs)) (put T) × IsLegal T
      of_form s is (of_routine h) form kinds demands hl instance found =
          let is_type : substituted xs hl.type ≡ T = some_is (sym (ap (option_map (substituted xs)) hl.is) ∙ ap (λ (y : Found). y.type) (some_is found) ∙ typed) in
          let one : put (substituted xs hl.type) ≡ substituted (actuals_substituted r.given xs) hl.type = composed r.given xs hl.type (covered (specification f) (context_of s []) (context_at f n).kinds xs kinds hl.type hl.legal) in
          subst (λ u. Runs program Law r (module_routine m (actuals_substituted r.given xs)) (put u) × IsLegal u) is_type (
            record {
              heading = substituted (actuals_substituted r.given xs) hl.type;
              there = texts.of_modules m s h hl.type (actuals_substituted r.given xs) is form hl.is;
              fit = subst (λ t. fits (substituted (actuals_substituted r.given xs) hl.type) t ≡ true) (sym one) (fits_itself (substituted (actuals_substituted r.given xs) hl.type));
              may = refl;
              law = and_from (actuals_legal closed (specification f) (actuals_substituted r.given xs)) (is_instance closed (specification f) (specification f m) (actuals_substituted r.given xs))
                  (actuals_put (specification f) legal (context_at f n) closed r.given at.actuals xs l) (instance_put (specification f) legal (context_at f n) closed r.given at.actuals m xs l instance);
            },
            legal_put (specification f) legal (context_of s []) (context_at f n) xs (record {
              kinds = kinds;
              legal = l;
              clauses = (
                nothing_met (specification f) (context_at f n) xs,
                (
                  subst (λ y. ClauseMet (specification f) (context_at f n) xs (demands_of y)) (sym form)
                      (clause_met (specification f) (context_of s []) (context_at f n) xs h.demands hl.demands demands),
                  tt,
                ),
              );
            }) hl.type hl.legal,
          )
      of_form s is (specifications.of_cluster ds hs) form kinds demands hl instance found = absurd (none_some found)

      by : IsInstance (context_at f n) (specification f) (specification f m) xs → Runs program Law r (module_routine m (actuals_substituted r.given xs)) (put T) × IsLegal T
      by i = of_form i.s i.is i.s.form refl i.kinds i.demands (legal m i.s i.is) i (sym (ap (heading_in xs) i.is) ∙ e)
