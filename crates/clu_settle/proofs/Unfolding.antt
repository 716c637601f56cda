-- The equates that are named in an equate are those at whose places the search looks.
use Rattle.std.proofs.Common.{◌≡◌, ◌∙◌, ℕ, zero, suc, ◌+◌, ◌-◌, ◌<◌, ◌≤◌, Bool, true, false, ◌||◌, if◌then◌else◌, List, [], ◌∷◌, ◌++◌, length, map, Option, Some, None, refl, ap, sym, subst, inl, inr, arith, length-append, add-one}
use Rattle.std.specs.Prelude.{◌↔◌, slice_get}
use Rattle.std.specs.List.{list_any, range_with_len}
use Rattle.std.specs.Option.{option_map}
use Rattle.std.proofs.lemmas.Bool.{cases_eq, cases_lt, true≢false, or_cases}
use Rattle.std.proofs.lemmas.List.{append-nil, length-map}
use Rattle.std.proofs.lemmas.Map.Keys.{any_passes_from_place}
use Rattle.std.proofs.lemmas.Option.{none-some, same_Some, slice_get_within, slice_get-get_or, slice_get_past, slice_get-map}
use Rattle.clu_base.proofs.Lists.{got_front, get_shifted, split}
use Rattle.clu_tree.specs.declared.node.Node.{Node}
use Rattle.clu_tree.specs.declared.node.NodeKind.{NodeKind}
use Rattle.clu_tree.specs.declared.node.NodeKind.TheVariants as kind
use Rattle.clu_syntax.specs.declared.round.Round.{Round}
use Rattle.clu_syntax.specs.Rounds.{round_at, outside}
use Rattle.clu_syntax.specs.Kinds.{kind_of, kind_at}
use Rattle.clu_names.specs.declared.scopes.Declared.{Declared}
use Rattle.clu_names.specs.Denotes.{bound_at}
use Rattle.clu_circles.specs.declared.states.Span.{Span}
use Rattle.clu_circles.specs.Circles.{Leads, LeadsFor}
use Rattle.clu_settle.specs.Graph.{is_equate_kind, is_equate_at, equate_of, if_used, unfolded_at, unfolded_to}
use Rattle.clu_settle.specs.Circular.{nodes_of, nodes_in, goes_on, goes_far, is_circular, unfolded_starts, start_in, span_if, span_in}

-- ---- lists

record Passes {X : Type 0} (f : X → Bool) (xs : List X) : Type 0 where
  place : ℕ
  item : X
  there : slice_get xs place ≡ Some item
  passes : f item ≡ true

any_out : {X : Type 0} (f : X → Bool) (xs : List X) → list_any f xs ≡ true → Passes f xs
any_out f [] e = absurd (true≢false (sym e))
any_out f (x ∷ xs) e = elim (or_cases (f x) (list_any f xs) e) [
  | inl here ↦ record { place = 0; item = x; there = refl; passes = here }
  | inr rest ↦ let more = any_out f xs rest in record { place = suc more.place; item = more.item; there = more.there; passes = more.passes }
]

-- the numbers of a range
range_in : (f : ℕ → Bool) (from count n : ℕ) → from ≤ n → n < from + count → f n ≡ true → list_any f (range_with_len from count) ≡ true
range_in f from zero n l m h = absurd (omega (arith, l, m))
range_in f from (suc count) n l m h = elim (cases_eq n from) [
  | inl same ↦ ap (λ (b : Bool). b || list_any f (range_with_len (from + 1) count)) (sym (ap f same) ∙ h)
  | inr apart ↦ or_true (f from) (range_in f (from + 1) count n (omega (arith, l, apart)) (omega (arith, m)) h)
]
  where
    or_true : (b : Bool) → list_any f (range_with_len (from + 1) count) ≡ true → (b || list_any f (range_with_len (from + 1) count)) ≡ true
    or_true true h = refl
    or_true false h = h

record InRange (f : ℕ → Bool) (from count : ℕ) : Type 0 where
  number : ℕ
  least : from ≤ number
  most : number < from + count
  passes : f number ≡ true

range_out : (f : ℕ → Bool) (from count : ℕ) → list_any f (range_with_len from count) ≡ true → InRange f from count
range_out f from zero e = absurd (true≢false (sym e))
range_out f from (suc count) e = elim (or_cases (f from) (list_any f (range_with_len (from + 1) count)) e) [
  | inl here ↦ record { number = from; least = omega arith; most = omega arith; passes = here }
  | inr rest ↦
      let more = range_out f (from + 1) count rest in
      let least : from + 1 ≤ more.number = more.least in
      let most : more.number < from + 1 + count = more.most in
      record { number = more.number; least = omega (arith, least); most = omega (arith, most); passes = more.passes }
]

get_last : {X : Type 0} (xs : List X) (x : X) (n : ℕ) → length xs ≡ n → slice_get (xs ++ x ∷ []) n ≡ Some x
get_last [] x n e = ap (λ (k : ℕ). slice_get (x ∷ []) k) (sym e)
get_last (y ∷ xs) x zero e = absurd (omega (arith, e))
get_last (y ∷ xs) x (suc n) e = get_last xs x n (omega (arith, e))

module _ (nodes : List Node) (ds : List Declared) where
  -- ---- the names of nodes, one after the other

  there : (n k i : ℕ) (o : Option ℕ) → k < n → slice_get (unfolded_at nodes ds k) i ≡ Some o → slice_get (unfolded_to nodes ds n) (length (unfolded_to nodes ds k) + i) ≡ Some o
  unfolding unfolded_to
  there zero k i o l e = absurd (omega (arith, l))
  there (suc n) k i o l e = elim (cases_eq k n) [
    | inl same ↦ subst (λ (x : ℕ). slice_get (unfolded_to nodes ds n ++ unfolded_at nodes ds n) (length (unfolded_to nodes ds x) + i) ≡ Some o) (sym same)
        (get_shifted (unfolded_to nodes ds n) (unfolded_at nodes ds n) i ∙ subst (λ (x : ℕ). slice_get (unfolded_at nodes ds x) i ≡ Some o) same e)
    | inr apart ↦ got_front (unfolded_to nodes ds n) (unfolded_at nodes ds n) (length (unfolded_to nodes ds k) + i) o (there n k i o (omega (arith, l, apart)) e)
  ]

  record Place (n place : ℕ) (o : Option ℕ) : Type 0 where
    node : ℕ
    index : ℕ
    below : node < n
    is : place ≡ length (unfolded_to nodes ds node) + index
    at : slice_get (unfolded_at nodes ds node) index ≡ Some o

  back : (n place : ℕ) (o : Option ℕ) → slice_get (unfolded_to nodes ds n) place ≡ Some o → Place n place o
  unfolding unfolded_to
  back zero place o e = absurd (none-some o e)
  back (suc n) place o e = elim (split (unfolded_to nodes ds n) (unfolded_at nodes ds n) place o e) [
    | inl front ↦
        let p = back n place o front in
        let below : p.node < n = p.below in
        record { node = p.node; index = p.index; below = omega (arith, below); is = p.is; at = p.at }
    | inr behind ↦ record { node = n; index = behind.0; below = omega arith; is = behind.1; at = behind.2 }
  ]

  next_length : (k : ℕ) → length (unfolded_to nodes ds (suc k)) ≡ length (unfolded_to nodes ds k) + length (unfolded_at nodes ds k)
  unfolding unfolded_to
  next_length k = length-append (unfolded_to nodes ds k) (unfolded_at nodes ds k)

  longer : (m k : ℕ) → k ≤ m → length (unfolded_to nodes ds k) ≤ length (unfolded_to nodes ds m)
  longer zero k l = let none : k ≡ 0 = omega (arith, l) in let same : length (unfolded_to nodes ds k) ≡ length (unfolded_to nodes ds 0) = ap (λ (x : ℕ). length (unfolded_to nodes ds x)) none in omega (arith, same)
  longer (suc m) k l = elim (cases_eq k (suc m)) [
    | inl same ↦ let is : length (unfolded_to nodes ds k) ≡ length (unfolded_to nodes ds (suc m)) = ap (λ (x : ℕ). length (unfolded_to nodes ds x)) same in omega (arith, is)
    | inr apart ↦
        let less : length (unfolded_to nodes ds k) ≤ length (unfolded_to nodes ds m) = longer m k (omega (arith, l, apart)) in
        let next : length (unfolded_to nodes ds (suc m)) ≡ length (unfolded_to nodes ds m) + length (unfolded_at nodes ds m) = next_length m in
        omega (arith, less, next)
  ]

  -- what is no node has no names
  none_past : (n : ℕ) → length nodes ≤ n → unfolded_at nodes ds n ≡ []
  none_past n l =
      let none : kind_at nodes n ≡ kind_of None = ap kind_of (slice_get_past nodes n l) in
      ap (λ (bound : List (Option ℕ)). map (equate_of nodes ds) bound) (ap (λ k. if_used k (bound_at ds n (slice_get nodes n))) none)

  all_past : (n : ℕ) → length nodes ≤ n → unfolded_to nodes ds n ≡ unfolded_to nodes ds (length nodes)
  unfolding unfolded_to
  all_past zero l = let none : length nodes ≡ 0 = omega (arith, l) in ap (unfolded_to nodes ds) (sym none)
  all_past (suc n) l = elim (cases_lt n (length nodes)) [
    | inl less ↦ let same : suc n ≡ length nodes = omega (arith, l, less) in ap (unfolded_to nodes ds) same
    | inr more ↦ ap (λ (xs : List (Option ℕ)). unfolded_to nodes ds n ++ xs) (none_past n more) ∙ append-nil (unfolded_to nodes ds n) ∙ all_past n more
  ]

  -- ---- where they begin

  pub starts_next : (n start : ℕ) (targets : List (Option ℕ)) (old new : List ℕ) → old ≡ unfolded_starts nodes ds n → targets ≡ unfolded_to nodes ds n → start ≡ length targets → new ≡ old ++ start ∷ [] → new ≡ unfolded_starts nodes ds (n + 1)
  unfolding unfolded_starts
  starts_next n start targets old new e f g h = subst (λ (x : ℕ). new ≡ unfolded_starts nodes ds x) (sym (add-one n))
      (h ∙ ap (λ (xs : List ℕ). xs ++ start ∷ []) e ∙ ap (λ (x : ℕ). unfolded_starts nodes ds n ++ x ∷ []) (g ∙ ap length f))

  starts_size : (n : ℕ) → length (unfolded_starts nodes ds n) ≡ n
  unfolding unfolded_starts
  starts_size zero = refl
  starts_size (suc n) =
      let before : length (unfolded_starts nodes ds n) ≡ n = starts_size n in
      length-append (unfolded_starts nodes ds n) _ ∙ omega (arith, before)

  start_there : (n k : ℕ) → k < n → slice_get (unfolded_starts nodes ds n) k ≡ Some (length (unfolded_to nodes ds k))
  unfolding unfolded_starts
  start_there zero k l = absurd (omega (arith, l))
  start_there (suc n) k l = elim (cases_eq k n) [
    | inl same ↦ subst (λ (x : ℕ). slice_get (unfolded_starts nodes ds n ++ length (unfolded_to nodes ds n) ∷ []) k ≡ Some (length (unfolded_to nodes ds x))) (sym same) (get_last (unfolded_starts nodes ds n) (length (unfolded_to nodes ds n)) k (starts_size n ∙ sym same))
    | inr apart ↦ got_front (unfolded_starts nodes ds n) (length (unfolded_to nodes ds n) ∷ []) k (length (unfolded_to nodes ds k)) (start_there n k (omega (arith, l, apart)))
  ]

  start_is : (starts : List ℕ) (all n : ℕ) → starts ≡ unfolded_starts nodes ds (length nodes) → all ≡ length (unfolded_to nodes ds (length nodes)) → start_in all (slice_get starts n) ≡ length (unfolded_to nodes ds n)
  start_is starts all n e f = elim (cases_lt n (length nodes)) [
    | inl less ↦ ap (start_in all) (ap (λ (xs : List ℕ). slice_get xs n) e ∙ start_there (length nodes) n less)
    | inr more ↦
        let size : length starts ≡ length nodes = ap length e ∙ starts_size (length nodes) in
        ap (start_in all) (slice_get_past starts n (omega (arith, size, more))) ∙ f ∙ sym (ap length (all_past n more))
  ]

  -- ---- the search

  module _ (rounds : List Round) (sizes : length rounds ≡ length nodes) (targets : List (Option ℕ)) (starts : List ℕ) (all : ℕ) (spans : List Span)
      (targets_are : targets ≡ unfolded_to nodes ds (length nodes)) (starts_are : starts ≡ unfolded_starts nodes ds (length nodes)) (all_is : all ≡ length targets) (spans_are : spans ≡ map (span_in nodes rounds all starts) ds) where
    all_names : all ≡ length (unfolded_to nodes ds (length nodes))
    all_names = all_is ∙ ap length targets_are

    -- an equate is a node
    equate_inside : (e : ℕ) → is_equate_at nodes e ≡ true → e < length nodes
    equate_inside e is = elim (cases_lt e (length nodes)) [
      | inl less ↦ less
      | inr more ↦ absurd (true≢false (sym is ∙ ap (λ its. is_equate_kind (kind_of its)) (slice_get_past nodes e more)))
    ]

    round_there : (e : ℕ) → e < length nodes → slice_get rounds e ≡ Some (round_at rounds e)
    round_there e l = slice_get-get_or rounds e outside (omega (arith, l, sizes))

    span_is : (d : Declared) → is_equate_at nodes d.node ≡ true → span_in nodes rounds all starts d ≡ record { from = length (unfolded_to nodes ds (round_at rounds d.node).first); to = length (unfolded_to nodes ds d.node) }
    span_is d is =
        let a : start_in all (slice_get starts (round_at rounds d.node).first) ≡ length (unfolded_to nodes ds (round_at rounds d.node).first) = start_is starts all (round_at rounds d.node).first starts_are all_names in
        let b : start_in all (slice_get starts d.node) ≡ length (unfolded_to nodes ds d.node) = start_is starts all d.node starts_are all_names in
        ap (λ (b : Bool). span_if b all starts d.node (slice_get rounds d.node)) is
        ∙ ap (span_if true all starts d.node) (round_there d.node (equate_inside d.node is))
        ∙ ap (λ (x : ℕ). record { from = x; to = start_in all (slice_get starts d.node) }) a
        ∙ ap (λ (x : ℕ). record { from = length (unfolded_to nodes ds (round_at rounds d.node).first); to = x }) b

    span_there : (k : ℕ) (d : Declared) → slice_get ds k ≡ Some d → slice_get spans k ≡ Some (span_in nodes rounds all starts d)
    span_there k d at = ap (λ (xs : List Span). slice_get xs k) spans_are ∙ slice_get-map (span_in nodes rounds all starts) ds k ∙ ap (option_map (span_in nodes rounds all starts)) at

    no_span : (k : ℕ) → slice_get ds k ≡ None → slice_get spans k ≡ None
    no_span k at = ap (λ (xs : List Span). slice_get xs k) spans_are ∙ slice_get-map (span_in nodes rounds all starts) ds k ∙ ap (option_map (span_in nodes rounds all starts)) at

    abbrev far : ℕ → ℕ → Bool
    far steps k = goes_far nodes rounds ds steps k

    abbrev named_on : ℕ → ℕ → Bool
    named_on steps n = list_any (goes_on nodes rounds ds (goes_far nodes rounds ds steps)) (unfolded_at nodes ds n)

    -- ---- what the search finds goes on

    in_equate : (steps k t : ℕ) (d : Declared) (leads : Leads targets spans k t) → far steps t ≡ true → leads.span ≡ span_in nodes rounds all starts d → is_equate_at nodes d.node ≡ true → list_any (named_on steps) (nodes_of nodes rounds ds d.node) ≡ true
    in_equate steps k t d leads h same is =
        let from : leads.span.from ≡ length (unfolded_to nodes ds (round_at rounds d.node).first) = ap (λ (s : Span). s.from) (same ∙ span_is d is) in
        let to : leads.span.to ≡ length (unfolded_to nodes ds d.node) = ap (λ (s : Span). s.to) (same ∙ span_is d is) in
        let onward : leads.span.from ≤ leads.place = leads.onward in
        let before : leads.place < leads.span.to = leads.before in
        let p = back (length nodes) leads.place (Some t) (ap (λ (xs : List (Option ℕ)). slice_get xs leads.place) (sym targets_are) ∙ leads.there) in
        let place : leads.place ≡ length (unfolded_to nodes ds p.node) + p.index = p.is in
        let few : p.index < length (unfolded_at nodes ds p.node) = slice_get_within (unfolded_at nodes ds p.node) p.index (Some t) p.at in
        let next : length (unfolded_to nodes ds (suc p.node)) ≡ length (unfolded_to nodes ds p.node) + length (unfolded_at nodes ds p.node) = next_length p.node in
        let least : (round_at rounds d.node).first ≤ p.node = elim (cases_lt p.node (round_at rounds d.node).first) [
          | inl less ↦ let before_first : length (unfolded_to nodes ds (suc p.node)) ≤ length (unfolded_to nodes ds (round_at rounds d.node).first) = longer (round_at rounds d.node).first (suc p.node) (omega (arith, less)) in absurd (omega (arith, from, onward, place, few, next, before_first))
          | inr more ↦ more
        ] in
        let most : p.node < d.node = elim (cases_lt p.node d.node) [
          | inl less ↦ less
          | inr more ↦ let behind : length (unfolded_to nodes ds d.node) ≤ length (unfolded_to nodes ds p.node) = longer p.node d.node more in absurd (omega (arith, to, before, place, behind))
        ] in
        range_in (named_on steps) (round_at rounds d.node).first (suc d.node - (round_at rounds d.node).first) p.node least (omega (arith, least, most))
        (any_passes_from_place (goes_on nodes rounds ds (goes_far nodes rounds ds steps)) (unfolded_at nodes ds p.node) p.index (Some t) p.at h)

    onward : (steps k t : ℕ) → Leads targets spans k t → far steps t ≡ true → far (suc steps) k ≡ true
    unfolding goes_far
    onward steps k t leads h = by (slice_get ds k) refl
      where
        on : (d : Declared) → slice_get ds k ≡ Some d → (b : Bool) → is_equate_at nodes d.node ≡ b → list_any (named_on steps) (if b then nodes_of nodes rounds ds d.node else []) ≡ true
        on d at true is = in_equate steps k t d leads h (same_Some leads.span (span_in nodes rounds all starts d) (sym leads.its ∙ span_there k d at)) is
        on d at false is =
            let same : leads.span ≡ span_in nodes rounds all starts d = same_Some leads.span (span_in nodes rounds all starts d) (sym leads.its ∙ span_there k d at) in
            let to : leads.span.to ≡ 0 = ap (λ (s : Span). s.to) (same ∙ ap (λ (b : Bool). span_if b all starts d.node (slice_get rounds d.node)) is) in
            let before : leads.place < leads.span.to = leads.before in
            absurd (omega (arith, to, before))

        by : (its : Option Declared) → slice_get ds k ≡ its → list_any (named_on steps) (nodes_in nodes rounds ds its) ≡ true
        by None at = absurd (none-some leads.span (sym (no_span k at) ∙ leads.its))
        by (Some d) at = on d at (is_equate_at nodes d.node) refl

    forward : (steps k : ℕ) → LeadsFor targets spans steps k → far steps k ≡ true
    unfolding goes_far LeadsFor
    forward zero k h = refl
    forward (suc steps) k h = onward steps k h.0 h.1 (forward steps h.0 h.2)

    -- ---- what goes on is found

    record Next (steps k : ℕ) : Type 0 where
      to : ℕ
      leads : Leads targets spans k to
      rest : far steps to ≡ true

    -- an equate has no name by which others are unfolded
    unnamed : (k : NodeKind) (bound : List (Option ℕ)) → is_equate_kind k ≡ true → if_used k bound ≡ []
    unnamed kind.Name bound e = absurd (true≢false (sym e))
    unnamed kind.NameT bound e = absurd (true≢false (sym e))
    unnamed kind.Simple bound e = absurd (true≢false (sym e))
    unnamed _ bound e = refl

    equate_unnamed : (e : ℕ) → is_equate_at nodes e ≡ true → unfolded_at nodes ds e ≡ []
    equate_unnamed e is = ap (λ (bound : List (Option ℕ)). map (equate_of nodes ds) bound) (unnamed (kind_at nodes e) (bound_at ds e (slice_get nodes e)) is)

    -- an equate leads to those that are named in it
    pub named_leads : (k : ℕ) (d : Declared) → slice_get ds k ≡ Some d → is_equate_at nodes d.node ≡ true → (n i t : ℕ) → (round_at rounds d.node).first ≤ n → n < d.node → slice_get (unfolded_at nodes ds n) i ≡ Some (Some t) → Leads targets spans k t
    named_leads k d at is n i t least below e =
        let few : i < length (unfolded_at nodes ds n) = slice_get_within (unfolded_at nodes ds n) i (Some t) e in
        let inside : d.node < length nodes = equate_inside d.node is in
        let next : length (unfolded_to nodes ds (suc n)) ≡ length (unfolded_to nodes ds n) + length (unfolded_at nodes ds n) = next_length n in
        let first : length (unfolded_to nodes ds (round_at rounds d.node).first) ≤ length (unfolded_to nodes ds n) = longer n (round_at rounds d.node).first least in
        let last : length (unfolded_to nodes ds (suc n)) ≤ length (unfolded_to nodes ds d.node) = longer d.node (suc n) (omega (arith, below)) in
        record {
          span = record { from = length (unfolded_to nodes ds (round_at rounds d.node).first); to = length (unfolded_to nodes ds d.node) };
          place = length (unfolded_to nodes ds n) + i;
          its = span_there k d at ∙ ap Some (span_is d is);
          onward = omega (arith, first);
          before = omega (arith, few, next, last);
          there = ap (λ (xs : List (Option ℕ)). slice_get xs (length (unfolded_to nodes ds n) + i)) targets_are ∙ there (length nodes) n i (Some t) (omega (arith, below, inside)) e;
        }

    next_in : (steps k : ℕ) (d : Declared) → slice_get ds k ≡ Some d → is_equate_at nodes d.node ≡ true → (n i : ℕ) (o : Option ℕ) → (round_at rounds d.node).first ≤ n → n < suc d.node → slice_get (unfolded_at nodes ds n) i ≡ Some o → goes_on nodes rounds ds (goes_far nodes rounds ds steps) o ≡ true → Next steps k
    next_in steps k d at is n i None least most e h = absurd (true≢false (sym h))
    next_in steps k d at is n i (Some t) least most e h =
        let few : i < length (unfolded_at nodes ds n) = slice_get_within (unfolded_at nodes ds n) i (Some t) e in
        let below : n < d.node = elim (cases_eq n d.node) [
          | inl same ↦ let none : length (unfolded_at nodes ds n) ≡ 0 = ap (λ (x : ℕ). length (unfolded_at nodes ds x)) same ∙ ap length (equate_unnamed d.node is) in absurd (omega (arith, few, none))
          | inr apart ↦ omega (arith, most, apart)
        ] in
        record { to = t; leads = named_leads k d at is n i t least below e; rest = h }

    next_at : (steps k : ℕ) → far (suc steps) k ≡ true → Next steps k
    unfolding goes_far
    next_at steps k h = by (slice_get ds k) refl h
      where
        on : (d : Declared) → slice_get ds k ≡ Some d → (b : Bool) → is_equate_at nodes d.node ≡ b → list_any (named_on steps) (if b then nodes_of nodes rounds ds d.node else []) ≡ true → Next steps k
        on d at false is h = absurd (true≢false (sym h))
        on d at true is h =
            let r = range_out (named_on steps) (round_at rounds d.node).first (suc d.node - (round_at rounds d.node).first) h in
            let p = any_out (goes_on nodes rounds ds (goes_far nodes rounds ds steps)) (unfolded_at nodes ds r.number) r.passes in
            let least : (round_at rounds d.node).first ≤ r.number = r.least in
            let most : r.number < (round_at rounds d.node).first + (suc d.node - (round_at rounds d.node).first) = r.most in
            next_in steps k d at is r.number p.place p.item least (omega (arith, least, most)) p.there p.passes

        by : (its : Option Declared) → slice_get ds k ≡ its → list_any (named_on steps) (nodes_in nodes rounds ds its) ≡ true → Next steps k
        by None at h = absurd (true≢false (sym h))
        by (Some d) at h = on d at (is_equate_at nodes d.node) refl h

    backward : (steps k : ℕ) → far steps k ≡ true → LeadsFor targets spans steps k
    unfolding LeadsFor
    backward zero k h = tt
    backward (suc steps) k h = let n = next_at steps k h in (n.to, n.leads, backward steps n.to n.rest)

    pub circular_is : (circular : List Bool) → ((k : ℕ) → k < length spans → (slice_get circular k ≡ Some true) ↔ LeadsFor targets spans (length spans) k) → (k : ℕ) → k < length ds → (slice_get circular k ≡ Some true) ↔ (is_circular nodes rounds ds k ≡ true)
    circular_is circular exactly k l =
        let size : length spans ≡ length ds = ap length spans_are ∙ length-map ds (span_in nodes rounds all starts) in
        let inside : k < length spans = omega (arith, l, size) in (
          λ e. forward (length ds) k (subst (λ (steps : ℕ). LeadsFor targets spans steps k) size ((exactly k inside).0 e)),
          λ h. (exactly k inside).1 (subst (λ (steps : ℕ). LeadsFor targets spans steps k) (sym size) (backward (length ds) k h)),
        )
