use Rattle.std.proofs.Common.{◌≡◌, ◌∙◌, ℕ, Bool, List, Option, length, map, ap, subst, sym}
use Rattle.clu_circles.specs.Circles.{AreCircles}
use Rattle.clu_circles.specs.declared.states.Span.{Span}
use Rattle.clu_names.specs.declared.scopes.Declared.{Declared}
use Rattle.clu_tree.specs.declared.node.Node.{Node}
use Rattle.clu_syntax.specs.declared.round.Round.{Round}
use Rattle.clu_settle.specs.Circular.{span_in, spans_to, unfolded_starts}
use Rattle.clu_settle.specs.Graph.{unfolded_to}
use Rattle.clu_settle.proofs.Inside.{equates_inside}
use Rattle.clu_settle.proofs.Unfolding.{circular_is}
use Rattle.clu_settle.proofs.circular.equate_circles.Goals as goal

pub find_circles-requires : goal.find_circles-requires
find_circles-requires c = equates_inside c.args.tree.now c.args.names.now.declared.items _ _ (length c.args.tree.now)
    (c.as_slice.ensures.value ∙ c.in_ok-unfolded.ensures.targets)
    (ap length c.as_slice-2.ensures.value ∙ (c.in_ok-spans.ensures.size ∙ ap length c.as_slice-declared.ensures.value))

-- the graph is that of the tree
graph : (nodes : List Node) (rounds : List Round) (ds : List Declared) (targets : List (Option ℕ)) (starts : List ℕ) (all : ℕ) (spans : List Span) (order : List ℕ) (circular : List Bool) →
    targets ≡ unfolded_to nodes ds (length nodes) → starts ≡ unfolded_starts nodes ds (length nodes) → all ≡ length targets → spans ≡ map (span_in nodes rounds all starts) ds →
    AreCircles targets spans order circular → AreCircles (unfolded_to nodes ds (length nodes)) (spans_to nodes rounds ds) order circular
graph nodes rounds ds targets starts all spans order circular targets_are starts_are many spans_are circles =
    let its : spans ≡ spans_to nodes rounds ds = spans_are ∙ ap (λ (n : ℕ). map (span_in nodes rounds n starts) ds) (many ∙ ap length targets_are) ∙ ap (λ (ss : List ℕ). map (span_in nodes rounds (length (unfolded_to nodes ds (length nodes))) ss) ds) starts_are in
    subst (λ (ts : List (Option ℕ)). AreCircles ts (spans_to nodes rounds ds) order circular) targets_are (subst (λ (ss : List Span). AreCircles targets ss order circular) its circles)

pub returns-clause-order : goal.returns-clause-order
returns-clause-order c = graph c.args.tree.now c.args.rounds.now c.args.names.now.declared.items c.as_slice.result.now c.in_ok-unfolded.unfolded.starts.items c.in_ok-unfolded.unfolded.targets.len c.as_slice-2.result.now c.in_ok-found.found.order.items c.in_ok-found.found.circular.items
    (c.as_slice.ensures.value ∙ c.in_ok-unfolded.ensures.targets) c.in_ok-unfolded.ensures.starts (c.in_ok-unfolded.unfolded.targets.ok.0 ∙ sym (ap length c.as_slice.ensures.value))
    (c.as_slice-2.ensures.value ∙ c.in_ok-spans.ensures.spans ∙ ap (λ (ds : List Declared). map (span_in c.args.tree.now c.args.rounds.now c.in_ok-unfolded.unfolded.targets.len c.in_ok-unfolded.unfolded.starts.items) ds) c.as_slice-declared.ensures.value)
    c.in_ok-found.ensures.circles

pub returns-clause-circular : goal.returns-clause-circular
returns-clause-circular c = λ sizes. circular_is c.args.tree.now c.args.names.now.declared.items c.args.rounds.now sizes c.as_slice.result.now c.in_ok-unfolded.unfolded.starts.items c.in_ok-unfolded.unfolded.targets.len c.as_slice-2.result.now
    (c.as_slice.ensures.value ∙ c.in_ok-unfolded.ensures.targets) c.in_ok-unfolded.ensures.starts (c.in_ok-unfolded.unfolded.targets.ok.0 ∙ sym (ap length c.as_slice.ensures.value))
    (c.as_slice-2.ensures.value ∙ c.in_ok-spans.ensures.spans ∙ ap (λ (ds : List Declared). map (span_in c.args.tree.now c.args.rounds.now c.in_ok-unfolded.unfolded.targets.len c.in_ok-unfolded.unfolded.starts.items) ds) c.as_slice-declared.ensures.value)
    c.in_ok-found.found.circular.items c.in_ok-found.ensures.exactly
