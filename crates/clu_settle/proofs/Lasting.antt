-- The order of the graph, and what is lost of the nodes that are settled in this order.
use Rattle.std.proofs.Common.{◌≡◌, ◌∙◌, ℕ, zero, suc, ◌+◌, ◌-◌, ◌<◌, ◌≤◌, Bool, true, false, ◌&&◌, ◌||◌, if◌then◌else◌, List, [], ◌∷◌, ◌++◌, length, map, set, replicate, Option, Some, None, refl, ap, sym, subst, inl, inr, ◌⊎◌, arith, length-append}
use Rattle.std.specs.Prelude.{slice_get, nat_lt}
use Rattle.std.specs.List.{list_any}
use Rattle.std.proofs.lemmas.Bool.{cases_eq, cases_lt, lt-ltb, and_from}
use Rattle.std.proofs.lemmas.Option.{none-some, same_Some, slice_get_within, slice_get-get_or, slice_get_past}
use Rattle.clu_base.proofs.Lists.{got_front, get_shifted}
use Rattle.clu_tree.specs.declared.node.Node.{Node}
use Rattle.clu_tree.specs.Nodes.{IsTree}
use Rattle.clu_parser.specs.Shape.{HaveForms}
use Rattle.clu_circles.specs.declared.states.Span.{Span}
use Rattle.clu_circles.specs.Circles.{Leads, AreCircles}
use Rattle.clu_syntax.specs.Kinds.{is_type, kind_at}
use Rattle.clu_syntax.specs.Splits.{children_of}
use Rattle.clu_settle.specs.declared.value.Value.{Value}
use Rattle.clu_settle.specs.declared.value.Value.TheVariants as value
use Rattle.clu_settle.specs.declared.meanings.Meaning.{Meaning}
use Rattle.clu_settle.specs.declared.meanings.Meaning.TheVariants as meaning
use Rattle.clu_settle.specs.Graph.{named_target, targets_at, targets_to, spans_to}
use Rattle.clu_settle.specs.Names.{meaning_in}
use Rattle.clu_settle.specs.Lists.{value_of}
use Rattle.clu_settle.specs.Standing.{IsRead}
use Rattle.clu_settle.specs.Lost.{is_source, right_side, made_from, is_lost_in, IsLost, goes_on, IsEndless, IsMadeFrom, Reaches, at_once, by_way_of, IsExplained, is_typed, AreLost, IsOrder}
use Rattle.clu_settle.proofs.Inside.{spans_size}
use Rattle.clu_settle.proofs.Members.{IsIn, in_more}
use Rattle.clu_settle.proofs.Passing.{set_here, set_other, lost_at}
use Rattle.clu_settle.proofs.Reading.{one_read, none_more_read, none_read}

-- ---- places in lists that are joined

get_last : {X : Type 0} (xs : List X) (x : X) (n : ℕ) → length xs ≡ n → slice_get (xs ++ x ∷ []) n ≡ Some x
get_last [] x n e = ap (λ (k : ℕ). slice_get (x ∷ []) k) (sym e)
get_last (y ∷ xs) x zero e = absurd (omega (arith, e))
get_last (y ∷ xs) x (suc n) e = get_last xs x n (omega (arith, e))

any_in : (f : ℕ → Bool) (cs : List ℕ) (d : ℕ) → IsIn d cs → f d ≡ true → list_any f cs ≡ true
any_in f [] d h e = absurd (none-some d h.1)
any_in f (c ∷ cs) d h e = by h.0 h.1 (any_in f cs d)
  where
    or_true : (b c : Bool) → c ≡ true → (b || c) ≡ true
    or_true true c e = refl
    or_true false c e = e

    by : (i : ℕ) → slice_get (c ∷ cs) i ≡ Some d → (IsIn d cs → f d ≡ true → list_any f cs ≡ true) → (f c || list_any f cs) ≡ true
    by zero is more = ap (λ (b : Bool). b || list_any f cs) (ap f (same_Some c d is) ∙ e)
    by (suc i) is more = or_true (f c) (list_any f cs) (more (i, is) e)

-- ---- targets are what a node is made from

from_named : (all t i : ℕ) (m : Meaning) → slice_get (named_target all m) i ≡ Some (Some t) → IsIn t (right_side m)
from_named all t i (meaning.Equate r) e = by (nat_lt r all) i e
  where
    by : (b : Bool) (i : ℕ) → slice_get (if b then Some r ∷ [] else []) i ≡ Some (Some t) → IsIn t (r ∷ [])
    by true zero e = (0, same_Some (Some r) (Some t) e)
    by true (suc i) e = absurd (none-some (Some t) e)
    by false i e = absurd (none-some (Some t) e)
from_named all t i (meaning.TypeParameter k) e = absurd (none-some (Some t) e)
from_named all t i (meaning.ConstantParameter k) e = absurd (none-some (Some t) e)
from_named all t i meaning.Module e = absurd (none-some (Some t) e)
from_named all t i meaning.Other e = absurd (none-some (Some t) e)

from_targets : (all t : ℕ) (cs : List ℕ) (m : Meaning) (i : ℕ) → slice_get (map Some cs ++ named_target all m) i ≡ Some (Some t) → IsIn t (cs ++ right_side m)
from_targets all t [] m i e = from_named all t i m e
from_targets all t (c ∷ cs) m zero e = (0, same_Some (Some c) (Some t) e)
from_targets all t (c ∷ cs) m (suc i) e = in_more t c (cs ++ right_side m) (from_targets all t cs m i e)

to_named : (all t : ℕ) (m : Meaning) → t < all → IsIn t (right_side m) → (i : ℕ) × (slice_get (named_target all m) i ≡ Some (Some t))
to_named all t (meaning.Equate r) l h = by h.0 h.1
  where
    there : (r : ℕ) → r ≡ t → (i : ℕ) × (slice_get (named_target all (meaning.Equate r)) i ≡ Some (Some t))
    there r is = (0, ap (λ (b : Bool). slice_get (if b then Some r ∷ [] else []) 0) (lt-ltb r all (omega (arith, l, is))) ∙ ap (λ (k : ℕ). Some (Some k)) is)

    by : (i : ℕ) → slice_get (r ∷ []) i ≡ Some t → (i : ℕ) × (slice_get (named_target all (meaning.Equate r)) i ≡ Some (Some t))
    by zero e = there r (same_Some r t e)
    by (suc i) e = absurd (none-some t e)
to_named all t (meaning.TypeParameter k) l h = absurd (none-some t h.1)
to_named all t (meaning.ConstantParameter k) l h = absurd (none-some t h.1)
to_named all t meaning.Module l h = absurd (none-some t h.1)
to_named all t meaning.Other l h = absurd (none-some t h.1)

to_targets : (all t : ℕ) (cs : List ℕ) (m : Meaning) → t < all → IsIn t (cs ++ right_side m) → (i : ℕ) × (slice_get (map Some cs ++ named_target all m) i ≡ Some (Some t))
to_targets all t [] m l h = to_named all t m l h
to_targets all t (c ∷ cs) m l h = by h.0 h.1 (to_targets all t cs m l)
  where
    by : (i : ℕ) → slice_get (c ∷ (cs ++ right_side m)) i ≡ Some t → (IsIn t (cs ++ right_side m) → (i : ℕ) × (slice_get (map Some cs ++ named_target all m) i ≡ Some (Some t))) → (i : ℕ) × (slice_get (map Some (c ∷ cs) ++ named_target all m) i ≡ Some (Some t))
    by zero e more = (0, ap Some e)
    by (suc i) e more = let k = more (i, e) in (suc k.0, k.1)

module _ (nodes : List Node) (meanings : List Meaning) where
  abbrev span_of : ℕ → Span
  span_of k = record { from = length (targets_to nodes meanings k); to = length (targets_to nodes meanings k ++ targets_at nodes meanings k) }

  span_there : (n k : ℕ) → k < n → slice_get (spans_to nodes meanings n) k ≡ Some (span_of k)
  unfolding spans_to
  span_there zero k l = absurd (omega (arith, l))
  span_there (suc n) k l = elim (cases_eq k n) [
    | inl same ↦ subst (λ (x : ℕ). slice_get (spans_to nodes meanings n ++ span_of n ∷ []) k ≡ Some (span_of x)) (sym same) (get_last (spans_to nodes meanings n) (span_of n) k (spans_size nodes meanings n ∙ sym same))
    | inr apart ↦ got_front (spans_to nodes meanings n) (span_of n ∷ []) k (span_of k) (span_there n k (omega (arith, l, apart)))
  ]

  target_there : (n k i : ℕ) (o : Option ℕ) → k < n → slice_get (targets_at nodes meanings k) i ≡ Some o → slice_get (targets_to nodes meanings n) (length (targets_to nodes meanings k) + i) ≡ Some o
  unfolding targets_to
  target_there zero k i o l e = absurd (omega (arith, l))
  target_there (suc n) k i o l e = elim (cases_eq k n) [
    | inl same ↦ subst (λ (x : ℕ). slice_get (targets_to nodes meanings n ++ targets_at nodes meanings n) (length (targets_to nodes meanings x) + i) ≡ Some o) (sym same)
        (get_shifted (targets_to nodes meanings n) (targets_at nodes meanings n) i ∙ subst (λ (x : ℕ). slice_get (targets_at nodes meanings x) i ≡ Some o) same e)
    | inr apart ↦ got_front (targets_to nodes meanings n) (targets_at nodes meanings n) (length (targets_to nodes meanings k) + i) o (target_there n k i o (omega (arith, l, apart)) e)
  ]

  -- ---- what a node leads to is what it is made from

  module _ (targets : List (Option ℕ)) (spans : List Span) (targets_are : targets ≡ targets_to nodes meanings (length nodes)) (spans_are : spans ≡ spans_to nodes meanings (length nodes)) where
    spans_length : length spans ≡ length nodes
    spans_length = ap length spans_are ∙ spans_size nodes meanings (length nodes)

    leads : (k t : ℕ) → k < length nodes → t < length nodes → IsMadeFrom nodes meanings k t → Leads targets spans k t
    leads k t l m h =
        let at = to_targets (length nodes) t (children_of (slice_get nodes k)) (meaning_in (slice_get meanings k)) m h in
        let few : at.0 < length (targets_at nodes meanings k) = slice_get_within (targets_at nodes meanings k) at.0 (Some t) at.1 in
        let size : length (targets_to nodes meanings k ++ targets_at nodes meanings k) ≡ length (targets_to nodes meanings k) + length (targets_at nodes meanings k) = length-append (targets_to nodes meanings k) (targets_at nodes meanings k) in
        record {
          span = span_of k;
          place = length (targets_to nodes meanings k) + at.0;
          its = ap (λ (xs : List Span). slice_get xs k) spans_are ∙ span_there (length nodes) k l;
          onward = omega arith;
          before = omega (arith, few, size);
          there = ap (λ (xs : List (Option ℕ)). slice_get xs (length (targets_to nodes meanings k) + at.0)) targets_are ∙ target_there (length nodes) k at.0 (Some t) l at.1;
        }

    made_by : (k t i place : ℕ) (o : Option ℕ) → k < length nodes → slice_get (targets_at nodes meanings k) i ≡ Some o → place ≡ length (targets_to nodes meanings k) + i → slice_get targets place ≡ Some (Some t) → slice_get (targets_at nodes meanings k) i ≡ Some (Some t)
    made_by k t i place o l e at there =
        let found : slice_get targets place ≡ Some o = ap (λ (xs : List (Option ℕ)). slice_get xs place) targets_are ∙ ap (λ (x : ℕ). slice_get (targets_to nodes meanings (length nodes)) x) at ∙ target_there (length nodes) k i o l e in
        e ∙ sym found ∙ there

    made : (k t : ℕ) → Leads targets spans k t → IsMadeFrom nodes meanings k t
    made k t leads =
        let l : k < length spans = slice_get_within spans k leads.span leads.its in
        let size : length spans ≡ length nodes = spans_length in
        let inside : k < length nodes = omega (arith, l, size) in
        let same : leads.span ≡ span_of k = same_Some leads.span (span_of k) (sym leads.its ∙ ap (λ (xs : List Span). slice_get xs k) spans_are ∙ span_there (length nodes) k inside) in
        let from : leads.span.from ≡ length (targets_to nodes meanings k) = ap (λ (s : Span). s.from) same in
        let to : leads.span.to ≡ length (targets_to nodes meanings k ++ targets_at nodes meanings k) = ap (λ (s : Span). s.to) same in
        let both : length (targets_to nodes meanings k ++ targets_at nodes meanings k) ≡ length (targets_to nodes meanings k) + length (targets_at nodes meanings k) = length-append (targets_to nodes meanings k) (targets_at nodes meanings k) in
        let onward : leads.span.from ≤ leads.place = leads.onward in
        let before : leads.place < leads.span.to = leads.before in
        let few : leads.place - length (targets_to nodes meanings k) < length (targets_at nodes meanings k) = omega (arith, from, to, both, onward, before) in
        let place : leads.place ≡ length (targets_to nodes meanings k) + (leads.place - length (targets_to nodes meanings k)) = omega (arith, from, onward) in
        from_targets (length nodes) t (children_of (slice_get nodes k)) (meaning_in (slice_get meanings k)) (leads.place - length (targets_to nodes meanings k))
        (made_by k t (leads.place - length (targets_to nodes meanings k)) leads.place _ inside (slice_get-get_or (targets_at nodes meanings k) (leads.place - length (targets_to nodes meanings k)) None few) place leads.there)

    -- ---- lost, however many steps are taken

    pub order_is : (order : List ℕ) (circular : List Bool) → AreCircles targets spans order circular → IsOrder nodes meanings order
    unfolding is_lost_in goes_on
    order_is order circular circles = record {
      after = λ p k t at from l. circles.after p k t at (leads k t (straight_inside p k at) l from);
      once = circles.once;
      inside = straight_inside;
      others = λ k l. by k (cases_circular k l);
      endless = λ k l. endless_by k (cases_circular k l);
    }
      where
        size : length circular ≡ length nodes
        size = circles.size ∙ spans_length

        straight_inside : (p k : ℕ) → slice_get order p ≡ Some k → k < length nodes
        straight_inside p k at = let l : k < length circular = slice_get_within circular k false (circles.straight p k at) in let s : length circular ≡ length nodes = size in omega (arith, l, s)

        stays_lost : (steps k : ℕ) → slice_get circular k ≡ Some true → is_lost_in nodes meanings steps k ≡ true
        stays_lost zero k e = refl
        stays_lost (suc steps) k e =
            let next = circles.circles k e in
            or_so (is_source (slice_get nodes k)) (any_in (is_lost_in nodes meanings steps) (made_from nodes meanings k) next.0 (made k next.0 next.1) (stays_lost steps next.0 next.2))
          where
            or_so : (b : Bool) → list_any (is_lost_in nodes meanings steps) (made_from nodes meanings k) ≡ true → (b || list_any (is_lost_in nodes meanings steps) (made_from nodes meanings k)) ≡ true
            or_so true h = refl
            or_so false h = h

        leads_on : (steps k : ℕ) → slice_get circular k ≡ Some true → goes_on nodes meanings steps k ≡ true
        leads_on zero k e = refl
        leads_on (suc steps) k e =
            let next = circles.circles k e in
            let l : next.0 < length circular = slice_get_within circular next.0 true next.2 in
            let s : length circular ≡ length nodes = size in
            any_in (λ d. nat_lt d (length nodes) && goes_on nodes meanings steps d) (made_from nodes meanings k) next.0 (made k next.0 next.1)
            (and_from (nat_lt next.0 (length nodes)) (goes_on nodes meanings steps next.0) (lt-ltb next.0 (length nodes) (omega (arith, l, s))) (leads_on steps next.0 next.2))

        cases_circular : (k : ℕ) → k < length nodes → (slice_get circular k ≡ Some true) ⊎ (slice_get circular k ≡ Some false)
        cases_circular k l = let s : length circular ≡ length nodes = size in which _ (slice_get-get_or circular k false (omega (arith, l, s)))
          where
            which : (b : Bool) → slice_get circular k ≡ Some b → (slice_get circular k ≡ Some true) ⊎ (slice_get circular k ≡ Some false)
            which true e = inl e
            which false e = inr e

        by : (k : ℕ) → (slice_get circular k ≡ Some true) ⊎ (slice_get circular k ≡ Some false) → IsLost nodes meanings k ⊎ ((p : ℕ) × (slice_get order p ≡ Some k))
        by k (inl e) = inl (λ steps. stays_lost steps k e)
        by k (inr e) = inr (circles.listed k e)

        endless_by : (k : ℕ) → (slice_get circular k ≡ Some true) ⊎ (slice_get circular k ≡ Some false) → IsEndless nodes meanings k ⊎ ((p : ℕ) × (slice_get order p ≡ Some k))
        endless_by k (inl e) = inl (λ steps. leads_on steps k e)
        endless_by k (inr e) = inr (circles.listed k e)

  -- ---- what is made from something lost

  source_lost : (n : ℕ) → is_source (slice_get nodes n) ≡ true → IsLost nodes meanings n
  unfolding is_lost_in
  source_lost n e = λ steps. by steps
    where
      by : (steps : ℕ) → is_lost_in nodes meanings steps n ≡ true
      by zero = refl
      by (suc steps) = ap (λ (b : Bool). b || list_any (is_lost_in nodes meanings steps) (made_from nodes meanings n)) e

  made_lost : (n d : ℕ) → IsMadeFrom nodes meanings n d → IsLost nodes meanings d → IsLost nodes meanings n
  unfolding is_lost_in
  made_lost n d made lost = λ steps. by steps
    where
      or_so : (steps : ℕ) (b : Bool) → list_any (is_lost_in nodes meanings steps) (made_from nodes meanings n) ≡ true → (b || list_any (is_lost_in nodes meanings steps) (made_from nodes meanings n)) ≡ true
      or_so steps true h = refl
      or_so steps false h = h

      by : (steps : ℕ) → is_lost_in nodes meanings steps n ≡ true
      by zero = refl
      by (suc steps) = or_so steps (is_source (slice_get nodes n)) (any_in (is_lost_in nodes meanings steps) (made_from nodes meanings n) d made (lost steps))

  no_node_lost : (n : ℕ) → length nodes ≤ n → IsLost nodes meanings n
  no_node_lost n l = source_lost n (ap is_source (slice_get_past nodes n l))

  module _ (order : List ℕ) (ordered : IsOrder nodes meanings order) (values : List Value) (p : ℕ)
      (low : (q k : ℕ) → q < p → slice_get order q ≡ Some k → value_of values k ≡ value.Lost → IsLost nodes meanings k) where
    -- the node at a place up to p
    reach_lost : (n d : ℕ) → Reaches nodes meanings n d → (q : ℕ) → q ≤ p → slice_get order q ≡ Some n → value_of values d ≡ value.Lost → IsLost nodes meanings n
    reach_lost n d (at_once _ _ made) q l at lost = elim (cases_lt d (length nodes)) [
      | inl inside ↦
          let earlier = ordered.after q n d at made inside in
          let below : earlier.0 < q = earlier.1 in
          made_lost n d made (low earlier.0 d (omega (arith, below, l)) earlier.2 lost)
      | inr outside ↦ made_lost n d made (no_node_lost d outside)
    ]
    reach_lost n d (by_way_of _ c _ made more) q l at lost = elim (cases_lt c (length nodes)) [
      | inl inside ↦
          let earlier = ordered.after q n c at made inside in
          let below : earlier.0 < q = earlier.1 in
          made_lost n c made (reach_lost c d more earlier.0 (omega (arith, below, l)) earlier.2 lost)
      | inr outside ↦ made_lost n c made (no_node_lost c outside)
    ]

    explained_lost : (n : ℕ) → slice_get order p ≡ Some n → IsExplained nodes meanings values n → IsLost nodes meanings n
    explained_lost n at (inl source) = source_lost n source
    explained_lost n at (inr h) = reach_lost n h.0 h.1 p (omega arith) at h.2

  -- ---- the pass

  module _ (order : List ℕ) (ordered : IsOrder nodes meanings order) (p n : ℕ) (at : slice_get order p ≡ Some n) (there : n < length nodes) (values values' : List Value) (v : Value)
      (passed : AreLost nodes meanings order p values) (inside : n < length values) (is_set : values' ≡ set values n v)
      (typed : is_type (kind_at nodes n) ≡ true → is_typed v ≡ true) (read : IsRead nodes meanings values n v) (explained : v ≡ value.Lost → IsExplained nodes meanings values n) where
    new_here : value_of values' n ≡ v
    new_here = ap (λ (vs : List Value). value_of vs n) is_set ∙ set_here values n v inside

    new_other : (m : ℕ) → (m ≡ n → ⊥) → value_of values' m ≡ value_of values m
    new_other m apart = ap (λ (vs : List Value). value_of vs m) is_set ∙ set_other values n m v apart

    typed_more : (m : ℕ) → is_type (kind_at nodes m) ≡ true → is_typed (value_of values' m) ≡ true
    typed_more m e = elim (cases_eq m n) [
      | inl same ↦ ap (λ (x : ℕ). is_typed (value_of values' x)) same ∙ ap is_typed new_here ∙ typed (sym (ap (λ (x : ℕ). is_type (kind_at nodes x)) same) ∙ e)
      | inr apart ↦ ap is_typed (new_other m apart) ∙ passed.typed.types m e
    ]

    lost_more : (q k : ℕ) → q < suc p → slice_get order q ≡ Some k → value_of values' k ≡ value.Lost → IsLost nodes meanings k
    lost_more q k l e lost = elim (cases_eq q p) [
      | inl same ↦
          let is : n ≡ k = same_Some n k (sym at ∙ ap (slice_get order) (sym same) ∙ e) in
          let here : v ≡ value.Lost = sym new_here ∙ ap (value_of values') is ∙ lost in
          subst (IsLost nodes meanings) is (explained_lost order ordered values p passed.lost n at (explained here))
      | inr apart ↦
          let other : k ≡ n → ⊥ = λ same. apart (ordered.once q p k e (at ∙ ap Some (sym same))) in
          passed.lost q k (omega (arith, l, apart)) e (sym (new_other k other) ∙ lost)
    ]

    pub one_lost : AreLost nodes meanings order (suc p) values'
    one_lost = record {
      typed = record { tree = passed.typed.tree; shaped = passed.typed.shaped; types = typed_more };
      read = one_read nodes meanings order ordered passed.typed.tree passed.typed.shaped p n at there values values' v passed.read inside is_set read;
      lost = lost_more;
    }

  pub none_more_lost : (order : List ℕ) (p n : ℕ) → slice_get order p ≡ Some n → length nodes ≤ n → (values : List Value) → AreLost nodes meanings order p values → AreLost nodes meanings order (suc p) values
  none_more_lost order p n at outside values passed = record {
    typed = passed.typed;
    read = none_more_read nodes meanings order p n at outside values passed.read;
    lost = λ q k l e lost. elim (cases_eq q p) [
      | inl same ↦ subst (IsLost nodes meanings) (same_Some n k (sym at ∙ ap (slice_get order) (sym same) ∙ e)) (no_node_lost n outside)
      | inr apart ↦ passed.lost q k (omega (arith, l, apart)) e lost
    ];
  }

  pub none_lost : IsTree nodes → HaveForms nodes → (order : List ℕ) (values : List Value) → values ≡ replicate (length nodes) value.Lost → AreLost nodes meanings order 0 values
  none_lost tree shaped order values e = record {
    typed = record { tree = tree; shaped = shaped; types = λ n is. ap is_typed (ap (λ (vs : List Value). value_of vs n) e ∙ lost_at (length nodes) n) };
    read = none_read nodes meanings order values e;
    lost = λ q k l at lost. absurd (omega (arith, l));
  }

  pub lost_after : (order : List ℕ) (values : List Value) → IsOrder nodes meanings order → AreLost nodes meanings order (length order) values → (n : ℕ) → n < length nodes → value_of values n ≡ value.Lost → IsLost nodes meanings n
  lost_after order values ordered passed n l e = by (ordered.others n l)
    where
      by : IsLost nodes meanings n ⊎ ((p : ℕ) × (slice_get order p ≡ Some n)) → IsLost nodes meanings n
      by (inl lost) = lost
      by (inr h) = passed.lost h.0 n (slice_get_within order h.0 n h.1) h.1 e
