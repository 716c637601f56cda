-- What the rules leave of each invocation at a node.
use Rattle.std.proofs.Common.{◌≡◌, ℕ, Bool, true, false, List, [], ◌∷◌, ◌++◌, map, length, Option, refl, sym, ap, subst, ◌∙◌}
use Rattle.std.specs.Prelude.{◌==◌, ◌&&◌, not, is_none, flat_map}
use Rattle.std.specs.List.{list_any}
use Rattle.std.proofs.lemmas.Bool.{or_parts, or_from}
use Rattle.clu_base.specs.declared.rules.Rule.TheVariants as rule
use Rattle.clu_tree.specs.declared.node.NodeKind.{NodeKind}
use Rattle.clu_builtin.specs.Operation.{one}
use Rattle.clu_checking.specs.Files.{File, kind_in}
use Rattle.clu_checking.specs.Operations.{Asked, Found, is_met}
use Rattle.clu_checking.specs.Wanted.{Wanted, wanted, named_at}
use Rattle.clu_checking.specs.Invocations.{Invocation, invocations, operations_by, operations_at, asks_of, asks_of_name, asks_at}
use Rattle.clu_checking.specs.ExpressionRules.{has_other_count, has_other_types, has_not_one_result, invokes_iterator, is_one_wanted, is_loop_call, is_misfit, is_no_object, has_no_one_result, is_not_one_object, is_broken, is_iterator_misused}
use Rattle.clu_checking.specs.StatementRules.{bindings_at, v36_in}
use Rattle.laws_accepted.specs.Accepted.{KeepsRules}
use Rattle.laws_accepted.specs.Instances.{AllMet}
use Rattle.laws_accepted.proofs.OfKinds.{no}
use Rattle.laws_accepted.proofs.Invocations.{Holds}

-- of two lists no item passes a test
pub any_parts : {A : Type 0} (test : A → Bool) (xs ys : List A) → list_any test (xs ++ ys) ≡ false → (list_any test xs ≡ false) × (list_any test ys ≡ false)
any_parts test [] ys h = (refl, h)
any_parts test (x ∷ xs) ys h =
    let p = or_parts (test x) (list_any test (xs ++ ys)) h in
    let q = any_parts test xs ys p.1 in
    (or_from (test x) (list_any test xs) p.0 q.0, q.1)

pub second_false : (a b : Bool) → a ≡ true → (a && b) ≡ false → b ≡ false
second_false true b e h = h
second_false false b e h = no e

pub if_not : (a b : Bool) → a ≡ false → (not a && b) ≡ false → b ≡ false
if_not false b e h = h
if_not true b e h = no (sym e)

either_way : (s b : Bool) → (not s && b) ≡ false → (s && b) ≡ false → b ≡ false
either_way true b h k = k
either_way false b h k = h

module _ (f : File) (n : ℕ) where
  -- what is asked is met, by whatever clause
  all_met : (asks : List Asked) → list_any (λ a. not a.in_set && is_broken f n a) asks ≡ false → list_any (λ a. a.in_set && is_broken f n a) asks ≡ false → AllMet f n asks
  all_met [] h k = refl
  all_met (a ∷ asks) h k =
      let p = or_parts (not a.in_set && is_broken f n a) (list_any (λ a. not a.in_set && is_broken f n a) asks) h in
      let q = or_parts (a.in_set && is_broken f n a) (list_any (λ a. a.in_set && is_broken f n a) asks) k in
      or_from (not (is_met f n a)) (list_any (λ a. not (is_met f n a)) asks) (either_way a.in_set (is_broken f n a) p.0 q.0) (all_met asks p.1 q.1)

  pub record Kept (i : Invocation) : Type 0 where
    pub there : is_none i.invoked ≡ false
    pub holds : Holds i
    pub asks : AllMet f n (asks_of f i.invoked)

  abbrev pub EachKept : List Invocation → Type 0
  EachKept [] = Unit {0}
  EachKept (i ∷ is) = Kept i × EachKept is

  each_kept : (is : List Invocation) → list_any is_none (map (λ i. i.invoked) is) ≡ false → list_any has_other_count is ≡ false → list_any has_other_types is ≡ false → list_any invokes_iterator is ≡ false →
      AllMet f n (flat_map (asks_of f) (map (λ i. i.invoked) is)) → EachKept is
  each_kept [] a b c d e = tt
  each_kept (i ∷ is) a b c d e =
      let p = or_parts (is_none i.invoked) (list_any is_none (map (λ i. i.invoked) is)) a in
      let q = or_parts (has_other_count i) (list_any has_other_count is) b in
      let r = or_parts (has_other_types i) (list_any has_other_types is) c in
      let s = or_parts (invokes_iterator i) (list_any invokes_iterator is) d in
      let m = any_parts (λ a. not (is_met f n a)) (asks_of f i.invoked) (flat_map (asks_of f) (map (λ i. i.invoked) is)) e in
      (record { there = p.0; holds = record { counted = q.0; fitted = r.0; plain = s.0 }; asks = m.0 }, each_kept is p.1 q.1 r.1 s.1 m.1)

  flat_parts : (xs ys : List (Option Found)) → AllMet f n (flat_map (asks_of f) (xs ++ ys)) → (AllMet f n (flat_map (asks_of f) xs)) × (AllMet f n (flat_map (asks_of f) ys))
  flat_parts [] ys h = (refl, h)
  flat_parts (x ∷ xs) ys h =
      let p = any_parts (λ a. not (is_met f n a)) (asks_of f x) (flat_map (asks_of f) (xs ++ ys)) h in
      let q = flat_parts xs ys p.1 in
      (any_both (asks_of f x) (flat_map (asks_of f) xs) p.0 q.0, q.1)
    where
      any_both : (xs ys : List Asked) → list_any (λ a. not (is_met f n a)) xs ≡ false → list_any (λ a. not (is_met f n a)) ys ≡ false → list_any (λ a. not (is_met f n a)) (xs ++ ys) ≡ false
      any_both [] ys h k = k
      any_both (x ∷ xs) ys h k =
          let p = or_parts (not (is_met f n x)) (list_any (λ a. not (is_met f n a)) xs) h in
          or_from (not (is_met f n x)) (list_any (λ a. not (is_met f n a)) (xs ++ ys)) p.0 (any_both xs ys p.1 k)

  module _ (rules : KeepsRules f n) where
    asks_met : AllMet f n (asks_at f n)
    asks_met = all_met (asks_at f n) (rules rule.WhereNotMet) (rules rule.NotInTypeSet)

    -- what is asked of each operation, and of the names at the node
    pub operations_met : AllMet f n (flat_map (asks_of f) (operations_at f n))
    operations_met = (any_parts (λ a. not (is_met f n a)) (flat_map (asks_of f) (operations_at f n)) (flat_map (asks_of_name f) (named_at f n)) asks_met).0

    pub names_met : AllMet f n (flat_map (asks_of_name f) (named_at f n))
    names_met = (any_parts (λ a. not (is_met f n a)) (flat_map (asks_of f) (operations_at f n)) (flat_map (asks_of_name f) (named_at f n)) asks_met).1

    -- the invocations of a node that is no For, where no loop's call is wanted
    pub invocations_kept : (k : NodeKind) → kind_in f n ≡ k → v36_in f k n ≡ is_iterator_misused f n → (w : Wanted) → wanted f n ≡ w → is_loop_call w ≡ false → (is : List Invocation) → invocations f n ≡ is → EachKept is
    invocations_kept k of_kind plain w wants no_loop is e =
        let here = any_parts is_none (map (λ i. i.invoked) (invocations f n)) (operations_by f (kind_in f n) n) (rules rule.NoOperation) in
        let types = or_parts (list_any has_other_types (invocations f n)) (is_misfit f (kind_in f n) n) (rules rule.ArgumentType) in
        let misused : is_iterator_misused f n ≡ false = sym plain ∙ sym (ap (λ k. v36_in f k n) of_kind) ∙ rules rule.IteratorUse in
        let met = flat_parts (map (λ i. i.invoked) (invocations f n)) (operations_by f (kind_in f n) n) operations_met in
        each_kept is (sym (ap (λ is. list_any is_none (map (λ i. i.invoked) is)) e) ∙ here.0) (sym (ap (list_any has_other_count) e) ∙ rules rule.ArgumentCount) (sym (ap (list_any has_other_types) e) ∙ types.0)
        (sym (ap (list_any invokes_iterator) e) ∙ if_not (is_loop_call (wanted f n)) (list_any invokes_iterator (invocations f n)) (ap is_loop_call wants ∙ no_loop) misused)
        (subst (λ is. AllMet f n (flat_map (asks_of f) (map (λ i. i.invoked) is))) e met.0)

    -- what is invoked gives one object where one is wanted
    pub one_wanted : (k : NodeKind) → kind_in f n ≡ k → (w : Wanted) → wanted f n ≡ w → is_one_wanted k w ≡ true → (is : List Invocation) → invocations f n ≡ is → list_any has_not_one_result is ≡ false
    one_wanted k of_kind w wants one is e =
        let counted = or_parts (is_not_one_object f n) (list_any (λ b. not (length b.variables == length b.objects)) (bindings_at f n)) (rules rule.ResultCount) in
        let results = or_parts (has_no_one_result f n) (is_no_object f (kind_in f n) n) counted.0 in
        sym (ap (list_any has_not_one_result) e) ∙ second_false (is_one_wanted (kind_in f n) (wanted f n)) (list_any has_not_one_result (invocations f n)) (ap (λ k. is_one_wanted k (wanted f n)) of_kind ∙ ap (is_one_wanted k) wants ∙ one) results.0
