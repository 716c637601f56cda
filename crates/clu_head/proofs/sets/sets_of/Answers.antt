use Rattle.std.proofs.Common.{◌≡◌, ◌∙◌, ℕ, List, Option, None, length, map, fold, replicate, ap, sym, subst}
use Rattle.std.specs.List.{All}
use Rattle.clu_tree.specs.declared.node.Node.{Node}
use Rattle.clu_names.specs.declared.scopes.Declared.{Declared}
use Rattle.clu_circles.specs.declared.states.Span.{Span}
use Rattle.clu_head.specs.declared.sets.Said.{Said}
use Rattle.clu_head.specs.Sets.{IsBelow, said_of, target_of, AreOne, kept_at, with_set}
use Rattle.clu_head.proofs.Inside.{all_inside}
use Rattle.clu_head.proofs.Led.{sets_found}
use Rattle.clu_head.proofs.sets.sets_of.Goals as goal

pub find_circles-requires : goal.find_circles-requires
find_circles-requires c =
    all_inside _ _ _ (sym (ap length c.as_slice-4.ensures.value ∙ c.in_ok-spans.ensures.size))
    (subst (All (IsBelow _)) (sym c.as_slice-3.ensures.value) c.in_ok-targets.ensures.below)

pub returns : goal.returns
returns c = λ place.
    let declared : List Declared = c.args.names.now.declared.items in
    let said : List Said = c.as_slice-5.result.now in
    let many : ℕ = c.len-many.result in
    let its : said ≡ said_of c.args.syntax.now declared declared =
    c.as_slice-5.ensures.value ∙ c.in_ok-said.ensures ∙ ap (λ (nodes : List Node). said_of nodes declared c.as_slice.result.now) c.tree.ensures.same ∙ ap (said_of c.args.syntax.now declared) c.as_slice.ensures.value in
    ap (λ (sets : List (Option ℕ)). kept_at sets place) (c.in_ok-sets.ensures ∙ ap (fold (with_set said) (replicate (length said) None)) c.as_slice-6.ensures.value)
    ∙ sets_found (said_of c.args.syntax.now declared declared) said many c.as_slice-3.result.now c.as_slice-4.result.now c.in_ok-order.order.order.items c.in_ok-order.order.circular.items
    its
    (c.len-many.ensures ∙ c.in_ok-said.said.ok.0 ∙ ap length (sym c.as_slice-5.ensures.value))
    (c.as_slice-3.ensures.value ∙ c.in_ok-targets.ensures.exact ∙ ap (map (target_of many)) (c.as_slice-2.ensures.value ∙ sym c.as_slice-5.ensures.value))
    (ap length c.as_slice-4.ensures.value ∙ c.in_ok-spans.ensures.size)
    (subst (λ (ss : List Span). AreOne ss many) (sym c.as_slice-4.ensures.value) c.in_ok-spans.ensures.one)
    c.in_ok-order.ensures.circles
    c.in_ok-order.ensures.exactly
    place
