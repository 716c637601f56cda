-- What nodes lead to are nodes, and what equates lead to are declarations.
use Rattle.std.proofs.Common.{◌≡◌, ◌∙◌, ℕ, zero, suc, ◌<◌, ◌≤◌, Bool, true, false, if◌then◌else◌, List, [], ◌∷◌, length, map, Option, Some, None, refl, ap, sym, subst, arith, length-append}
use Rattle.std.specs.Prelude.{slice_get, nat_lt}
use Rattle.std.specs.List.{All}
use Rattle.std.proofs.lemmas.List.Elements.{All-append, All-nil, All-cons, All-head, All-tail}
use Rattle.std.proofs.lemmas.Option.{slice_get_within}
use Rattle.clu_base.proofs.Lists.{all_got}
use Rattle.clu_tree.specs.declared.node.Node.{Node}
use Rattle.clu_tree.specs.Nodes.{IsTree}
use Rattle.clu_syntax.specs.Splits.{children_of}
use Rattle.clu_syntax.specs.Kinds.{kind_at}
use Rattle.clu_names.specs.declared.scopes.Declared.{Declared}
use Rattle.clu_names.specs.Denotes.{bound_at}
use Rattle.clu_circles.specs.declared.states.Span.{Span}
use Rattle.clu_circles.specs.Circles.{AreInside}
use Rattle.clu_settle.specs.declared.meanings.Meaning.{Meaning}
use Rattle.clu_settle.specs.declared.meanings.Meaning.TheVariants as meaning
use Rattle.clu_settle.specs.Names.{meaning_in}
use Rattle.clu_settle.specs.Graph.{named_target, targets_at, targets_to, spans_to, is_equate_at, equate_at, equate_of, if_used, unfolded_at, unfolded_to}

-- a target is one of so many
abbrev pub IsBelow : ℕ → Option ℕ → Type 0
IsBelow n None = Unit {0}
IsBelow n (Some t) = t < n

pub all_inside : (targets : List (Option ℕ)) (spans : List Span) (n : ℕ) → n ≡ length spans → All (IsBelow n) targets → AreInside targets spans
all_inside targets spans n e all at t there = let below : t < n = all_got (IsBelow n) targets at (Some t) all there in omega (arith, below, e)

-- ---- nodes

children_below : (m n : ℕ) (cs : List ℕ) → n ≤ m → All (λ c. c < n) cs → All (IsBelow m) (map Some cs)
children_below m n [] l all = All-nil (IsBelow m)
children_below m n (c ∷ cs) l all =
    let first : c < n = All-head (λ c. c < n) c cs all in
    All-cons (IsBelow m) (Some c) (map Some cs) (omega (arith, first, l)) (children_below m n cs l (All-tail (λ c. c < n) c cs all))

below_of : (nodes : List Node) → IsTree nodes → (n : ℕ) (its : Option Node) → slice_get nodes n ≡ its → n ≤ length nodes → All (IsBelow (length nodes)) (map Some (children_of its))
below_of nodes tree n None is l = All-nil (IsBelow (length nodes))
below_of nodes tree n (Some node) is l = children_below (length nodes) n node.children l (tree.below n node is)

named_if : (m r : ℕ) (b : Bool) → nat_lt r m ≡ b → All (IsBelow m) (if b then Some r ∷ [] else [])
named_if m r true e = All-cons (IsBelow m) (Some r) [] (search (arith, e)) (All-nil (IsBelow m))
named_if m r false e = All-nil (IsBelow m)

named_below : (m : ℕ) (v : Meaning) → All (IsBelow m) (named_target m v)
named_below m (meaning.Equate r) = named_if m r (nat_lt r m) refl
named_below m (meaning.TypeParameter k) = All-nil (IsBelow m)
named_below m (meaning.ConstantParameter k) = All-nil (IsBelow m)
named_below m meaning.Module = All-nil (IsBelow m)
named_below m meaning.Other = All-nil (IsBelow m)

module _ (nodes : List Node) (meanings : List Meaning) where
  targets_below : IsTree nodes → (n : ℕ) → n ≤ length nodes → All (IsBelow (length nodes)) (targets_to nodes meanings n)
  unfolding targets_to
  targets_below tree zero l = All-nil (IsBelow (length nodes))
  targets_below tree (suc n) l = All-append (IsBelow (length nodes)) (targets_to nodes meanings n) (targets_at nodes meanings n)
      (targets_below tree n (omega (arith, l)))
      (All-append (IsBelow (length nodes)) (map Some (children_of (slice_get nodes n))) (named_target (length nodes) (meaning_in (slice_get meanings n)))
      (below_of nodes tree n (slice_get nodes n) refl (omega (arith, l)))
      (named_below (length nodes) (meaning_in (slice_get meanings n))))

  pub spans_size : (n : ℕ) → length (spans_to nodes meanings n) ≡ n
  unfolding spans_to
  spans_size zero = refl
  spans_size (suc n) =
      let before : length (spans_to nodes meanings n) ≡ n = spans_size n in
      length-append (spans_to nodes meanings n) _ ∙ omega (arith, before)

  pub graph_inside : (targets : List (Option ℕ)) (spans : List Span) → IsTree nodes → targets ≡ targets_to nodes meanings (length nodes) → spans ≡ spans_to nodes meanings (length nodes) → AreInside targets spans
  graph_inside targets spans tree e f = all_inside targets spans (length nodes) (sym (ap length f ∙ spans_size (length nodes))) (subst (All (IsBelow (length nodes))) (sym e) (targets_below tree (length nodes) (omega arith)))

-- ---- declarations

module _ (nodes : List Node) (ds : List Declared) where
  equate_if : (place : ℕ) (b : Bool) → place < length ds → IsBelow (length ds) (if b then Some place else None)
  equate_if place true l = l
  equate_if place false l = tt

  equate_in : (place : ℕ) (its : Option Declared) → slice_get ds place ≡ its → IsBelow (length ds) (equate_at nodes place its)
  equate_in place None e = tt
  equate_in place (Some one) e = equate_if place (is_equate_at nodes one.node) (slice_get_within ds place one e)

  equate_below : (bound : Option ℕ) → IsBelow (length ds) (equate_of nodes ds bound)
  equate_below None = tt
  equate_below (Some place) = equate_in place (slice_get ds place) refl

  equates_below : (bound : List (Option ℕ)) → All (IsBelow (length ds)) (map (equate_of nodes ds) bound)
  equates_below [] = All-nil (IsBelow (length ds))
  equates_below (b ∷ bs) = All-cons (IsBelow (length ds)) (equate_of nodes ds b) (map (equate_of nodes ds) bs) (equate_below b) (equates_below bs)

  unfolded_below : (n : ℕ) → All (IsBelow (length ds)) (unfolded_to nodes ds n)
  unfolding unfolded_to
  unfolded_below zero = All-nil (IsBelow (length ds))
  unfolded_below (suc n) = All-append (IsBelow (length ds)) (unfolded_to nodes ds n) (unfolded_at nodes ds n)
      (unfolded_below n)
      (equates_below (if_used (kind_at nodes n) (bound_at ds n (slice_get nodes n))))

  pub equates_inside : (targets : List (Option ℕ)) (spans : List Span) (n : ℕ) → targets ≡ unfolded_to nodes ds n → length spans ≡ length ds → AreInside targets spans
  equates_inside targets spans n e f = all_inside targets spans (length ds) (sym f) (subst (All (IsBelow (length ds))) (sym e) (unfolded_below n))
