-- What built-in operations need of the types of their parts is there and lawful, where types are legal and modules are as they
-- are specified.
use Rattle.std.proofs.Common.{◌≡◌, ℕ, zero, suc, Bool, true, false, List, [], ◌∷◌, Option, None, Some, refl, sym, ap, subst, ◌∙◌, inl, inr, arith}
use Rattle.std.specs.Prelude.{◌&&◌, ◌==◌, ◌-◌, cond, is_none}
use Rattle.std.specs.List.{list_all}
use Rattle.std.specs.Option.{option_map}
use Rattle.std.proofs.lemmas.Bool.{and_parts, and_from, cond-true, cond-false, eq-eqb, ne_eqb}
use Rattle.clu_types.specs.CluType.{CluType, null_type, bool_type, int_type, char_type, string_type, any_type, stream_type, array_of, sequence_of, record_of, struct_of, oneof_of, variant_of, proc_of, iter_of, cluster_of, parameter, Fields, no_fields, field_and, Actuals, no_actuals, actual_type, actual_const, actual_param}
use Rattle.clu_types.specs.Substituted.{substituted, type_of_actual, type_put}
use Rattle.clu_builtin.specs.Operation.{Needed, Operation}
use Rattle.clu_builtin.specs.Table.{operation}
use Rattle.clu_layout.specs.Objects.{Routine, operation_of}
use Rattle.clu_layout.specs.SameType.{same_type, fits}
use Rattle.clu_layout.specs.Primitive.{heading_type}
use Rattle.clu_layout.proofs.SameTypeLaws.{types_are, type_same}
use Rattle.clu_meaning.specs.Programs.{Program}
use Rattle.clu_meaning.specs.Operations.{headed, may_name}
use Rattle.clu_meaning.specs.Typed.{type_of_selector}
use Rattle.clu_checking.specs.Specifications.{Demand, Heading, Specification, heading_named, operations_of}
use Rattle.clu_checking.specs.Operations.{builtin_type, are_met_by, is_met_by, may_fit, is_put_met, is_met_in, exported_operation, is_given_by, meets, part_meets, actual_meets}
use Rattle.laws_sound.specs.Sound.{LawfulBy}
use Rattle.laws_sound.specs.Builtins.{AreDistinct, HasDistinct, IsMet, AreMet, BuiltinsLawful}
use Rattle.laws_accepted.specs.Legal.{Specified, closed, context_of, is_type_parameter, are_distinct, is_demand_met, are_demands_met, is_instance, is_legal, fields_legal, actuals_legal, are_of_kinds}
use Rattle.laws_accepted.specs.Specified.{DemandsLegal, AllLegal}
use Rattle.laws_accepted.specs.Lawful.{Routines, are_needs_met, are_own_met, is_lawful, HasTexts}
use Rattle.laws_accepted.proofs.Composed.{TypeAt, Covered}
use Rattle.laws_accepted.proofs.OfKinds.{no, instance_is, type_of_kind}
use Rattle.laws_accepted.proofs.Meeting.{none_some, chosen, operation_legal}
use Rattle.laws_accepted.proofs.Staying.{demand_put}
use Rattle.laws_accepted.proofs.Tables.{never, needs_all, needs_of, plain_needs, bool_needs, int_needs, char_needs, string_needs, stream_needs, array_needs, sequence_needs, needs_legal}

-- ---- headings of built-in operations

pub same_heading : (h : Operation) (b : Bool) → h.iter ≡ b → heading_type h ≡ builtin_type h.iter h
same_heading h true e = ap (λ b. cond b (iter_of h.args h.results h.signals) (proc_of h.args h.results h.signals)) e ∙ sym (ap (λ b. builtin_type b h) e)
same_heading h false e = ap (λ b. cond b (iter_of h.args h.results h.signals) (proc_of h.args h.results h.signals)) e ∙ sym (ap (λ b. builtin_type b h) e)

abbrev pub is_builtin : CluType → Bool
is_builtin (cluster_of c given) = false
is_builtin (parameter k) = false
is_builtin _ = true

pub headed_builtin : (program : Program) (T : CluType) (name : List ℕ) → is_builtin T ≡ true → headed program (operation_of T name) ≡ option_map heading_type (operation T name)
headed_builtin program (cluster_of c given) name e = no e
headed_builtin program (parameter k) name e = no e
headed_builtin program _ name e = refl

pub may_builtin : (program : Program) (T : CluType) (name : List ℕ) → is_builtin T ≡ true → may_name program None (operation_of T name) ≡ true
may_builtin program (cluster_of c given) name e = no e
may_builtin program (parameter k) name e = no e
may_builtin program _ name e = refl

-- ---- needs

same_needs : (clauses : List (List Demand)) (specified : Specified) (t : CluType) (needs : List Needed) → needs_all (λ u. same_type t u) needs ≡ true → are_met_by (λ of op w. meets clauses specified t op w) needs ≡ true → are_met_by (meets clauses specified) needs ≡ true
same_needs clauses specified t [] a h = refl
same_needs clauses specified t (n ∷ ns) a h =
    let p = and_parts (same_type t n.of) (needs_all (λ u. same_type t u) ns) a in
    let q = and_parts (meets clauses specified t n.op n.wanted) (are_met_by (λ of op w. meets clauses specified t op w) ns) h in
    and_from (meets clauses specified n.of n.op n.wanted) (are_met_by (meets clauses specified) ns) (subst (λ u. meets clauses specified u n.op n.wanted ≡ true) (types_are t n.of p.0) q.0) (same_needs clauses specified t ns p.1 q.1)

part_is : (clauses : List (List Demand)) (specified : Specified) (fs : Fields) (of : CluType) (op : List ℕ) (w : CluType) → part_meets clauses specified fs of op w ≡ true → meets clauses specified of op w ≡ true
part_is clauses specified no_fields of op w h = no h
part_is clauses specified (field_and s t fs) of op w h = elim (chosen (same_type t of) (meets clauses specified t op w) (part_meets clauses specified fs of op w) h) [
  | inl e ↦ subst (λ u. meets clauses specified u op w ≡ true) (types_are t of e.0) e.1
  | inr e ↦ part_is clauses specified fs of op w e.1
]

part_needs : (clauses : List (List Demand)) (specified : Specified) (fs : Fields) (needs : List Needed) → are_met_by (part_meets clauses specified fs) needs ≡ true → are_met_by (meets clauses specified) needs ≡ true
part_needs clauses specified fs [] h = refl
part_needs clauses specified fs (n ∷ ns) h =
    let q = and_parts (part_meets clauses specified fs n.of n.op n.wanted) (are_met_by (part_meets clauses specified fs) ns) h in
    and_from (meets clauses specified n.of n.op n.wanted) (are_met_by (meets clauses specified) ns) (part_is clauses specified fs n.of n.op n.wanted q.0) (part_needs clauses specified fs ns q.1)

-- what asks nothing
no_needs : (test : CluType → List ℕ → CluType → Bool) (needs : List Needed) → needs_all never needs ≡ true → are_met_by test needs ≡ true
no_needs test [] h = refl
no_needs test (n ∷ ns) h = no h

-- ---- actuals by their numbers

actual_is : (clauses : List (List Demand)) (specified : Specified) (xs : Actuals) (i : ℕ) → TypeAt xs i → (k : ℕ) → k ≡ suc i → (stays : Bool) (op : List ℕ) (w : CluType) (other : CluType) → actual_meets clauses specified xs k stays op w ≡ true →
    meets clauses specified (type_of_actual xs i other) op w ≡ true
actual_is clauses specified no_actuals i c k e stays op w other h = absurd c
actual_is clauses specified (actual_type t rest) zero c k e stays op w other h =
    let one : (k == 1) ≡ true = eq-eqb k 1 e in
    sym (cond-true (k == 1) (meets clauses specified t op w) (actual_meets clauses specified rest (k - 1) stays op w) one) ∙ h
actual_is clauses specified (actual_type t rest) (suc i) c k e stays op w other h =
    let more : (k == 1) ≡ false = ne_eqb k 1 (λ f. omega (arith, e, f)) in
    actual_is clauses specified rest i c (k - 1) (omega (arith, e)) stays op w other (sym (cond-false (k == 1) (meets clauses specified t op w) (actual_meets clauses specified rest (k - 1) stays op w) more) ∙ h)
actual_is clauses specified (actual_const x rest) zero c k e stays op w other h = absurd c
actual_is clauses specified (actual_const x rest) (suc i) c k e stays op w other h = actual_is clauses specified rest i c (k - 1) (omega (arith, e)) stays op w other h
actual_is clauses specified (actual_param n rest) zero c k e stays op w other h = absurd c
actual_is clauses specified (actual_param n rest) (suc i) c k e stays op w other h = actual_is clauses specified rest i c (k - 1) (omega (arith, e)) stays op w other h

actual_put : (clauses : List (List Demand)) (specified : Specified) (xs : Actuals) (k : ℕ) → Covered xs (parameter k) → (stays : Bool) (op : List ℕ) (w : CluType) → actual_meets clauses specified xs k stays op w ≡ true → meets clauses specified (type_put xs k) op w ≡ true
actual_put clauses specified xs zero c stays op w h = absurd c
actual_put clauses specified xs (suc i) c stays op w h = actual_is clauses specified xs i c (suc i) refl stays op w (parameter (suc i)) h

no_parameter : {A : Type 0} (k : ℕ) → is_type_parameter [] k ≡ true → A
no_parameter zero h = no h
no_parameter (suc i) h = no h

-- ---- distinct selectors

distinct_is : (fs : Fields) → are_distinct fs ≡ true → AreDistinct fs
distinct_is no_fields h = tt
distinct_is (field_and s t fs) h =
    let p = and_parts (is_none (type_of_selector fs s)) (are_distinct fs) h in
    (nothing (type_of_selector fs s) p.0, distinct_is fs p.1)
  where
    nothing : (o : Option CluType) → is_none o ≡ true → o ≡ None
    nothing None e = refl
    nothing (Some u) e = no e

module _ (program : Program) (specified : Specified) (routines : Routines) (legal : AllLegal specified) (texts : HasTexts specified routines program) where
  abbrev is_law : Routine → Bool
  is_law r = is_lawful specified routines r

  abbrev Law : Routine → Type 0
  Law = LawfulBy (is_lawful specified routines)

  abbrev IsLegal : CluType → Type 0
  IsLegal t = is_legal closed specified t ≡ true

  pub law_builtin : (T : CluType) (op : List ℕ) → is_builtin T ≡ true → IsLegal T → are_needs_met specified routines (operation T op) ≡ true → is_law (operation_of T op) ≡ true
  law_builtin (cluster_of c xs) op b l n = no b
  law_builtin T op b l n = and_from (is_legal closed specified T) (are_needs_met specified routines (operation T op)) l n

  met_builtin : (T : CluType) (name : List ℕ) (w : CluType) (test : CluType → List ℕ → CluType → Bool) → is_builtin T ≡ true → IsLegal T →
      ((h : Operation) → operation T name ≡ Some h → are_met_by test h.needs ≡ true → are_met_by (meets [] specified) h.needs ≡ true) → is_met_by test w (operation T name) ≡ true →
      IsMet program Law (record { of = T; op = name; wanted = w })
  met_builtin T name w test b l needs m = by (operation T name) refl m
    where
      by : (o : Option Operation) → operation T name ≡ o → is_met_by test w o ≡ true → IsMet program Law (record { of = T; op = name; wanted = w })
      by (Some h) e k =
          let p = and_parts (fits (builtin_type h.iter h) w) (are_met_by test h.needs) k in
          record {
            heading = heading_type h;
            there = headed_builtin program T name b ∙ ap (option_map heading_type) e;
            fit = subst (λ t. fits t w ≡ true) (sym (same_heading h h.iter refl)) p.0;
            may = may_builtin program T name b;
            law = law_builtin T name b l (subst (λ o. are_needs_met specified routines o ≡ true) (sym e) (needs h e p.1));
          }
      by None e k = no k

  -- what an operation of a cluster asks
  own_met : (xs : Actuals) (s : Specification) (own : List Demand) → are_of_kinds [] s.kinds xs ≡ true → (ds : List Demand) → DemandsLegal specified (context_of s own) ds →
      list_all (λ d. is_put_met (λ k op w. actual_meets [] specified xs k (is_given_by [] k op w) op w) xs d d.wanted) ds ≡ true → are_demands_met closed specified xs ds ≡ true
  own_met xs s own kinds [] l h = refl
  own_met xs s own kinds (d ∷ ds) l h =
      let q = and_parts (is_put_met (λ k op w. actual_meets [] specified xs k (is_given_by [] k op w) op w) xs d d.wanted)
      (list_all (λ d. is_put_met (λ k op w. actual_meets [] specified xs k (is_given_by [] k op w) op w) xs d d.wanted) ds) h in
      let x = l.0 in
      and_from (is_demand_met closed specified xs d) (are_demands_met closed specified xs ds)
      (demand_put xs xs (λ k op w. actual_meets [] specified xs k (is_given_by [] k op w) op w) (λ k op w. meets [] specified (type_put xs k) op w) d x.wanted x.is
      (λ e. actual_put [] specified xs d.parameter (type_of_kind [] s.kinds xs d.parameter kinds x.parameter) (is_given_by [] d.parameter d.operation (substituted xs x.wanted)) d.operation (substituted xs x.wanted) e) q.0)
      (own_met xs s own kinds ds l.1 q.1)

  met_cluster : (c : List ℕ) (xs : Actuals) (name : List ℕ) (w : CluType) → IsLegal (cluster_of c xs) → meets [] specified (cluster_of c xs) name w ≡ true → IsMet program Law (record { of = cluster_of c xs; op = name; wanted = w })
  met_cluster c xs name w l h =
      let p = and_parts (actuals_legal closed specified xs) (is_instance closed specified (specified c) xs) l in
      let i = instance_is closed specified (specified c) xs p.1 in
      by i.s i.is i.kinds (heading_named (operations_of i.s.form) name) refl (subst (λ o. is_met_in (λ k op u. actual_meets [] specified xs k (is_given_by [] k op u) op u) xs w (exported_operation name o) ≡ true) i.is h)
    where
      by : (s : Specification) → specified c ≡ Some s → are_of_kinds [] s.kinds xs ≡ true → (o : Option Heading) → heading_named (operations_of s.form) name ≡ o → is_met_in (λ k op u. actual_meets [] specified xs k (is_given_by [] k op u) op u) xs w o ≡ true → IsMet program Law (record { of = cluster_of c xs; op = name; wanted = w })
      by s e kinds (Some g) is m =
          let q = and_parts (may_fit (option_map (substituted xs) g.type) w) (list_all (λ d. is_put_met (λ k op u. actual_meets [] specified xs k (is_given_by [] k op u) op u) xs d d.wanted) g.demands) m in
          let x = operation_legal specified s s.form name g (legal c s e) is in
          let there = texts.exported c name s g e is in
          record {
            heading = substituted xs x.type;
            there = texts.of_clusters c name g x.type xs there.0 x.is;
            fit = subst (λ o. may_fit (option_map (substituted xs) o) w ≡ true) x.is q.0;
            may = there.1;
            law = and_from (is_legal closed specified (cluster_of c xs)) (are_own_met specified routines xs (routines c name)) l
                (subst (λ o. are_own_met specified routines xs o ≡ true) (sym there.0) (own_met xs s g.demands kinds g.demands x.demands q.1));
          }
      by s e kinds None is m = no m

  pub met : (T : CluType) (name : List ℕ) (w : CluType) → IsLegal T → meets [] specified T name w ≡ true → IsMet program Law (record { of = T; op = name; wanted = w })
  met null_type name w l h = met_builtin null_type name w (λ of op u. true) refl l (λ x e m. no_needs (meets [] specified) x.needs (plain_needs null_type name x e)) h
  met bool_type name w l h = met_builtin bool_type name w (λ of op u. true) refl l (λ x e m. no_needs (meets [] specified) x.needs (bool_needs name x e)) h
  met int_type name w l h = met_builtin int_type name w (λ of op u. true) refl l (λ x e m. no_needs (meets [] specified) x.needs (int_needs name x e)) h
  met char_type name w l h = met_builtin char_type name w (λ of op u. true) refl l (λ x e m. no_needs (meets [] specified) x.needs (char_needs name x e)) h
  met string_type name w l h = met_builtin string_type name w (λ of op u. true) refl l (λ x e m. no_needs (meets [] specified) x.needs (string_needs name x e)) h
  met any_type name w l h = no h
  met stream_type name w l h = met_builtin stream_type name w (λ of op u. true) refl l (λ x e m. no_needs (meets [] specified) x.needs (stream_needs name x e)) h
  met (array_of t) name w l h = met_builtin (array_of t) name w (λ of op u. meets [] specified t op u) refl l (λ x e m. same_needs [] specified t x.needs (array_needs (λ u. same_type t u) t name x (type_same t) e) m) h
  met (sequence_of t) name w l h = met_builtin (sequence_of t) name w (λ of op u. meets [] specified t op u) refl l (λ x e m. same_needs [] specified t x.needs (sequence_needs (λ u. same_type t u) t name x (type_same t) e) m) h
  met (record_of fs) name w l h = met_builtin (record_of fs) name w (part_meets [] specified fs) refl l (λ x e m. part_needs [] specified fs x.needs m) h
  met (struct_of fs) name w l h = met_builtin (struct_of fs) name w (part_meets [] specified fs) refl l (λ x e m. part_needs [] specified fs x.needs m) h
  met (oneof_of fs) name w l h = met_builtin (oneof_of fs) name w (part_meets [] specified fs) refl l (λ x e m. part_needs [] specified fs x.needs m) h
  met (variant_of fs) name w l h = met_builtin (variant_of fs) name w (part_meets [] specified fs) refl l (λ x e m. part_needs [] specified fs x.needs m) h
  met (proc_of args results ss) name w l h = met_builtin (proc_of args results ss) name w (λ of op u. true) refl l (λ x e m. no_needs (meets [] specified) x.needs (plain_needs (proc_of args results ss) name x e)) h
  met (iter_of args results ss) name w l h = met_builtin (iter_of args results ss) name w (λ of op u. true) refl l (λ x e m. no_needs (meets [] specified) x.needs (plain_needs (iter_of args results ss) name x e)) h
  met (cluster_of c xs) name w l h = met_cluster c xs name w l h
  met (parameter k) name w l h = no_parameter k l

  all_met : (needs : List Needed) → needs_all (is_legal closed specified) needs ≡ true → are_met_by (meets [] specified) needs ≡ true → AreMet program Law needs
  all_met [] l h = tt
  all_met (n ∷ ns) l h =
      let p = and_parts (is_legal closed specified n.of) (needs_all (is_legal closed specified) ns) l in
      let q = and_parts (meets [] specified n.of n.op n.wanted) (are_met_by (meets [] specified) ns) h in
      (met n.of n.op n.wanted p.0 q.0, all_met ns p.1 q.1)

  -- ---- what holds of every program that is so

  plain_met : (o : Option Operation) → ((h : Operation) → o ≡ Some h → needs_of never h ≡ true) → are_needs_met specified routines o ≡ true
  plain_met (Some h) n = no_needs (meets [] specified) h.needs (n h refl)
  plain_met None n = refl

  same_law : (T : CluType) (op other : List ℕ) (h : Operation) → is_law (operation_of T op) ≡ true → operation T other ≡ Some h → h.needs ≡ [] → is_law (operation_of T other) ≡ true
  same_law (cluster_of c xs) op other h law e none = absurd (none_some e)
  same_law T op other h law e none =
      let p = and_parts (is_legal closed specified T) (are_needs_met specified routines (operation T op)) law in
      and_from (is_legal closed specified T) (are_needs_met specified routines (operation T other)) p.0
      (subst (λ o. are_needs_met specified routines o ≡ true) (sym e) (subst (λ ns. are_met_by (meets [] specified) ns ≡ true) (sym none) refl))

  array_law : (t : CluType) (op other : List ℕ) (h : Operation) → is_law (operation_of (sequence_of t) op) ≡ true → operation (array_of t) other ≡ Some h → h.needs ≡ [] → is_law (operation_of (array_of t) other) ≡ true
  array_law t op other h law e none =
      let p = and_parts (is_legal closed specified t) (are_needs_met specified routines (operation (sequence_of t) op)) law in
      and_from (is_legal closed specified t) (are_needs_met specified routines (operation (array_of t) other)) p.0
      (subst (λ o. are_needs_met specified routines o ≡ true) (sym e) (subst (λ ns. are_met_by (meets [] specified) ns ≡ true) (sym none) refl))

  distinct_law : (T : CluType) (op : List ℕ) → is_law (operation_of T op) ≡ true → HasDistinct T
  distinct_law (struct_of fs) op law = of_fields fs (and_parts (are_distinct fs && fields_legal closed specified fs) (are_needs_met specified routines (operation (struct_of fs) op)) law).0
    where
      of_fields : (fs : Fields) → (are_distinct fs && fields_legal closed specified fs) ≡ true → AreDistinct fs
      of_fields fs h = distinct_is fs (and_parts (are_distinct fs) (fields_legal closed specified fs) h).0
  distinct_law (record_of fs) op law = distinct_is fs (and_parts (are_distinct fs) (fields_legal closed specified fs) (and_parts (are_distinct fs && fields_legal closed specified fs) (are_needs_met specified routines (operation (record_of fs) op)) law).0).0
  distinct_law (oneof_of fs) op law = distinct_is fs (and_parts (are_distinct fs) (fields_legal closed specified fs) (and_parts (are_distinct fs && fields_legal closed specified fs) (are_needs_met specified routines (operation (oneof_of fs) op)) law).0).0
  distinct_law (variant_of fs) op law = distinct_is fs (and_parts (are_distinct fs) (fields_legal closed specified fs) (and_parts (are_distinct fs && fields_legal closed specified fs) (are_needs_met specified routines (operation (variant_of fs) op)) law).0).0
  distinct_law _ op law = tt

  needs_law : (T : CluType) (op : List ℕ) (h : Operation) → is_law (operation_of T op) ≡ true → operation T op ≡ Some h → AreMet program Law h.needs
  needs_law (cluster_of c xs) op h law e = absurd (none_some e)
  needs_law T op h law e =
      let p = and_parts (is_legal closed specified T) (are_needs_met specified routines (operation T op)) law in
      all_met h.needs (needs_legal closed specified T op h p.0 e) (subst (λ o. are_needs_met specified routines o ≡ true) e p.1)

  pub builtins_hold : BuiltinsLawful program Law
  builtins_hold = record {
    ints = λ op. plain_met (operation int_type op) (λ h e. int_needs op h e);
    bools = λ op. plain_met (operation bool_type op) (λ h e. bool_needs op h e);
    same = same_law;
    arrays = array_law;
    distinct = distinct_law;
    needs = needs_law;
  }
