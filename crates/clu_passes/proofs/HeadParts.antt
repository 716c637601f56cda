-- The parts of a routine's type, as it is made from the values of its nodes, are of the arena of these values.
use Rattle.std.proofs.Common.{◌≡◌, ℕ, ◌<◌, Bool, true, false, if◌then◌else◌, List, [], ◌∷◌, ◌++◌, Option, Some, None, refl, subst}
use Rattle.std.specs.Prelude.{slice_get, bytes_eq, codes}
use Rattle.std.specs.Option.{option_and_then, option_map}
use Rattle.std.proofs.lemmas.Option.{none-some, same_Some}
use Rattle.clu_tree.specs.declared.node.Node.{Node}
use Rattle.clu_types.specs.declared.term.TypeId.{TypeId}
use Rattle.clu_types.specs.declared.term.Exception.{Exception}
use Rattle.clu_types.specs.declared.term.Heading.{Heading}
use Rattle.clu_types.specs.declared.term.Term.{Term}
use Rattle.clu_types.specs.Arena.{AreBelow, SignalsBelow, HeadingBelow, PartsBelow}
use Rattle.clu_syntax.specs.declared.words.RoutineKind.{RoutineKind}
use Rattle.clu_syntax.specs.declared.words.RoutineKind.TheVariants as word
use Rattle.clu_syntax.specs.Splits.{first_name}
use Rattle.clu_syntax.specs.Syntax.{TypeExpression}
use Rattle.clu_syntax.specs.Nodes.{item_at}
use Rattle.clu_settle.specs.declared.value.Value.{Value}
use Rattle.clu_settle.specs.Inserted.{inserted, in_order}
use Rattle.clu_settle.specs.Lists.{value_of, type_id, exception_before, exception_with}
use Rattle.clu_settle.specs.Values.{IsWithin, AreWithin}
use Rattle.clu_settle.proofs.Within.{value_within}
use Rattle.clu_head.specs.declared.known.Known.{Known}
use Rattle.clu_head.specs.Seen.{is_cvt, seen_type}
use Rattle.clu_head.specs.Outside.{times, type_outside, types_behind, first_type, declared_at, arguments_behind, exceptions_at, signals_behind, heading_outside}
use Rattle.clu_head.specs.Routines.{kind_in, arguments_in, results_in, exceptions_in, term_at}
use Rattle.clu_head.specs.Terms.{is_refused_heading, term_of, routine_term}
use Rattle.clu_passes.proofs.HeadKinds.{type_within}

module _ (many : ℕ) where
  ids_append : (xs ys : List TypeId) → AreBelow many xs → AreBelow many ys → AreBelow many (xs ++ ys)
  ids_append [] ys l m = m
  ids_append (x ∷ xs) ys l m = (l.0, ids_append xs ys l.1 m)

  ids_times : (id : TypeId) (names : List (List ℕ)) → id.0 < many → AreBelow many (times id names)
  ids_times id [] l = tt
  ids_times id (name ∷ names) l = (l, ids_times id names l)

  signals_append : (xs ys : List Exception) → SignalsBelow many xs → SignalsBelow many ys → SignalsBelow many (xs ++ ys)
  signals_append [] ys l m = m
  signals_append (x ∷ xs) ys l m = (l.0, signals_append xs ys l.1 m)

  signals_inserted : (x : Exception) (xs : List Exception) → AreBelow many x.objects → SignalsBelow many xs → SignalsBelow many (inserted exception_before x xs)
  signals_inserted x [] l m = (l, tt)
  signals_inserted x (y ∷ ys) l m = by (exception_before y x) (signals_inserted x ys l m.1)
    where
      by : (b : Bool) → SignalsBelow many (inserted exception_before x ys) → SignalsBelow many (if b then y ∷ inserted exception_before x ys else x ∷ y ∷ ys)
      by true more = (m.0, more)
      by false more = (l, m)

  signals_ordered : (xs : List Exception) → SignalsBelow many xs → SignalsBelow many (in_order exception_before xs)
  signals_ordered [] l = tt
  signals_ordered (x ∷ xs) l = signals_inserted x (in_order exception_before xs) l.0 (signals_ordered xs l.1)

  one_exception : (name : List ℕ) (ids : List TypeId) → AreBelow many ids → SignalsBelow many (exception_with name ids)
  one_exception name ids l = by (bytes_eq name (codes "failure"))
    where
      by : (b : Bool) → SignalsBelow many (if b then [] else record { name = name; objects = ids } ∷ [])
      by true = tt
      by false = (l, tt)

  module _ (constants : ℕ) (nodes : List Node) (values : List Value) (within : AreWithin many constants values) (own : Option TypeId) (own_below : (id : TypeId) → own ≡ Some id → id.0 < many) where
    one_below : (t : TypeExpression) (v : Value) (id : TypeId) → IsWithin many constants v → seen_type own t v ≡ Some id → id.0 < many
    one_below t v id w e = by (is_cvt t) e
      where
        by : (b : Bool) → (if b then own else type_id v) ≡ Some id → id.0 < many
        by true e = own_below id e
        by false e = type_within many constants v id w e

    type_below : (n : ℕ) (id : TypeId) → type_outside own nodes values n ≡ Some id → id.0 < many
    unfolding type_outside
    type_below n id e = one_below (item_at nodes n).type (value_of values n) id (value_within many constants values n within) e

    types_below : (cs : List ℕ) (done all : List TypeId) → AreBelow many done → types_behind own nodes values done cs ≡ Some all → AreBelow many all
    types_below [] done all l e = subst (AreBelow many) (same_Some done all e) l
    types_below (c ∷ cs) done all l e = by (type_outside own nodes values c) refl e (λ id. types_below cs (done ++ id ∷ []) all)
      where
        by : (o : Option TypeId) → type_outside own nodes values c ≡ o → option_and_then (λ id. types_behind own nodes values (done ++ id ∷ []) cs) o ≡ Some all
            → ((id : TypeId) → AreBelow many (done ++ id ∷ []) → types_behind own nodes values (done ++ id ∷ []) cs ≡ Some all → AreBelow many all) → AreBelow many all
        by None is e more = absurd (none-some all e)
        by (Some id) is e more = more id (ids_append done (id ∷ []) l (type_below c id is, tt)) e

    first_below : (cs : List ℕ) (id : TypeId) → first_type own nodes values cs ≡ Some id → id.0 < many
    first_below [] id e = absurd (none-some id e)
    first_below (c ∷ cs) id e = type_below c id e

    declared_below : (its : Option Node) (ids : List TypeId) → declared_at own nodes values its ≡ Some ids → AreBelow many ids
    declared_below None ids e = absurd (none-some ids e)
    declared_below (Some node) ids e = by (first_type own nodes values node.children) refl e
      where
        by : (o : Option TypeId) → first_type own nodes values node.children ≡ o → option_map (λ of. times of node.names) o ≡ Some ids → AreBelow many ids
        by None is e = absurd (none-some ids e)
        by (Some id) is e = subst (AreBelow many) (same_Some (times id node.names) ids e) (ids_times id node.names (first_below node.children id is))

    arguments_below : (cs : List ℕ) (done all : List TypeId) → AreBelow many done → arguments_behind own nodes values done cs ≡ Some all → AreBelow many all
    arguments_below [] done all l e = subst (AreBelow many) (same_Some done all e) l
    arguments_below (c ∷ cs) done all l e = by (declared_at own nodes values (slice_get nodes c)) refl e (λ more. arguments_below cs (done ++ more) all)
      where
        by : (o : Option (List TypeId)) → declared_at own nodes values (slice_get nodes c) ≡ o → option_and_then (λ all. arguments_behind own nodes values all cs) (option_map (λ more. done ++ more) o) ≡ Some all
            → ((more : List TypeId) → AreBelow many (done ++ more) → arguments_behind own nodes values (done ++ more) cs ≡ Some all → AreBelow many all) → AreBelow many all
        by None is e go = absurd (none-some all e)
        by (Some more) is e go = go more (ids_append done more l (declared_below (slice_get nodes c) more is)) e

    exceptions_below : (its : Option Node) (ss : List Exception) → exceptions_at own nodes values its ≡ Some ss → SignalsBelow many ss
    exceptions_below None ss e = absurd (none-some ss e)
    exceptions_below (Some node) ss e = by (types_behind own nodes values [] node.children) refl e
      where
        by : (o : Option (List TypeId)) → types_behind own nodes values [] node.children ≡ o → option_map (exception_with (first_name node.names)) o ≡ Some ss → SignalsBelow many ss
        by None is e = absurd (none-some ss e)
        by (Some ids) is e = subst (SignalsBelow many) (same_Some (exception_with (first_name node.names) ids) ss e) (one_exception (first_name node.names) ids (types_below node.children [] ids tt is))

    signals_below : (cs : List ℕ) (done all : List Exception) → SignalsBelow many done → signals_behind own nodes values done cs ≡ Some all → SignalsBelow many all
    signals_below [] done all l e = subst (SignalsBelow many) (same_Some done all e) l
    signals_below (c ∷ cs) done all l e = by (exceptions_at own nodes values (slice_get nodes c)) refl e (λ more. signals_below cs (done ++ more) all)
      where
        by : (o : Option (List Exception)) → exceptions_at own nodes values (slice_get nodes c) ≡ o → option_and_then (λ all. signals_behind own nodes values all cs) (option_map (λ more. done ++ more) o) ≡ Some all
            → ((more : List Exception) → SignalsBelow many (done ++ more) → signals_behind own nodes values (done ++ more) cs ≡ Some all → SignalsBelow many all) → SignalsBelow many all
        by None is e go = absurd (none-some all e)
        by (Some more) is e go = go more (signals_append done more l (exceptions_below (slice_get nodes c) more is)) e

    heading_below : (arguments results exceptions : List ℕ) (h : Heading) → heading_outside own nodes values arguments results exceptions ≡ Some h → HeadingBelow many h
    heading_below arguments results exceptions h e = by (arguments_behind own nodes values [] arguments) refl (types_behind own nodes values [] results) refl (signals_behind own nodes values [] exceptions) refl e
      where
        by : (a : Option (List TypeId)) → arguments_behind own nodes values [] arguments ≡ a → (r : Option (List TypeId)) → types_behind own nodes values [] results ≡ r → (s : Option (List Exception)) → signals_behind own nodes values [] exceptions ≡ s
            → option_and_then (λ args. option_and_then (λ types. option_map (λ signals. record { args = args; results = types; signals = signals }) (option_map (in_order exception_before) s)) r) a ≡ Some h → HeadingBelow many h
        by None is r was s so e = absurd (none-some h e)
        by (Some args) is None was s so e = absurd (none-some h e)
        by (Some args) is (Some types) was None so e = absurd (none-some h e)
        by (Some args) is (Some types) was (Some list) so e =
            subst (HeadingBelow many) (same_Some (record { args = args; results = types; signals = in_order exception_before list }) h e)
            (arguments_below arguments [] args tt is, types_below results [] types tt was, signals_ordered list (signals_below exceptions [] list tt so))

of_kind : (many : ℕ) (k : RoutineKind) (h : Heading) → HeadingBelow many h → PartsBelow many (term_of k h)
of_kind many word.Procedure h l = l
of_kind many word.Iterator h l = l

made_below : (many : ℕ) (b : Bool) (k : RoutineKind) (o : Option Heading) (t : Term) → ((h : Heading) → o ≡ Some h → HeadingBelow many h) → routine_term b k o ≡ Some t → PartsBelow many t
made_below many true k o t below e = absurd (none-some t e)
made_below many false k None t below e = absurd (none-some t e)
made_below many false k (Some h) t below e = subst (PartsBelow many) (same_Some (term_of k h) t e) (of_kind many k h (below h refl))

pub parts_below : (k : Known) (many constants : ℕ) → AreWithin many constants k.values.now → (own : Option TypeId) → ((id : TypeId) → own ≡ Some id → id.0 < many) → (n : ℕ) (its : Option Node) (t : Term) → term_at k own n its ≡ Some t → PartsBelow many t
unfolding term_at
parts_below k many constants within own below n None t e = absurd (none-some t e)
parts_below k many constants within own below n (Some node) t e =
    made_below many (is_refused_heading k.syntax.now k.refused.now k.rounds.now n) (kind_in node)
    (heading_outside own k.syntax.now k.values.now (arguments_in k.syntax.now node) (results_in k.syntax.now node) (exceptions_in k.syntax.now node)) t
    (λ h so. heading_below many constants k.syntax.now k.values.now within own below (arguments_in k.syntax.now node) (results_in k.syntax.now node) (exceptions_in k.syntax.now node) h so) e
