use Rattle.std.proofs.Common.{◌-◌, ◌^◌, ◌<◌, ◌++◌, ◌∷◌, [], ℕ, List, length, take, drop, reverse, refl, sym, ap, ◌∙◌, subst}
use Rattle.std.proofs.lemmas.List.{take_rest}
use Rattle.clu_tree.specs.declared.node.Node.{Node}
use Rattle.clu_parser.specs.Steps.{spent}
use Rattle.clu_parser.specs.Trees.{Built, text, node_of}
use Rattle.clu_parser.proofs.Building.{building_pop, building_close, building_fits}
use Rattle.clu_parser.proofs.builder.Builder.close.Goals as goal

pub add-requires : goal.add-requires
add-requires c =
    let b : Built = record { nodes = c.self.inside.tree; tops = c.self.inside.tops.items; begun = reverse c.self.inside.begun.items } in
    let kids = take_rest c.as_slice-tops.result.now c.in-Some.begun.height ∙ ap (drop c.in-Some.begun.height) (c.as_slice-tops.ensures.value ∙ c.in_ok-reserve.ensures.items) in
    let made = c.in_ok-node.ensures ∙ ap (λ (children : List ℕ). node_of (text c.args.source.now) c.args.kind c.args.last c.self.inside.tree children c.in-Some.begun) kids in
    building_fits (text c.args.source.now) b c.self.inside.begun.items c.pop.new.self.items c.in-Some.begun c.args.kind c.args.last c.in_ok-node.node c.self.invariant.sound refl c.in-Some.ensures.items made
    (subst (λ (x : Built). length x.nodes < 2 ^ 32 - 1) (sym c.self.view_is) c.requires.nodes)
    (subst (λ (x : Built). spent (text c.args.source.now) x < 2 ^ 32 - 1) (sym c.self.view_is) c.requires.count)

pub invariant_of-self : goal.invariant_of-self
invariant_of-self c = rw c.in_err-reserve.ensures.items (building_pop c.self.inside.tree c.self.inside.tops.items c.self.inside.begun.items c.pop.new.self.items c.in-Some.begun c.self.invariant c.in-Some.ensures.items)

pub invariant_of-self-in_err-node : goal.invariant_of-self-in_err-node
invariant_of-self-in_err-node c = rw c.in_ok-reserve.ensures.items (building_pop c.self.inside.tree c.self.inside.tops.items c.self.inside.begun.items c.pop.new.self.items c.in-Some.begun c.self.invariant c.in-Some.ensures.items)

pub invariant_of-self-in_err-number : goal.invariant_of-self-in_err-number
invariant_of-self-in_err-number c =
    rw (c.in_err-number.ensures.unchanged, c.in_ok-reserve.ensures.items)
    (building_pop c.self.inside.tree c.self.inside.tops.items c.self.inside.begun.items c.pop.new.self.items c.in-Some.begun c.self.invariant c.in-Some.ensures.items)

pub invariant_of-self-2 : goal.invariant_of-self-2
invariant_of-self-2 c =
    let kids = ap (λ (n : Node). n.children) c.in_ok-node.ensures ∙ take_rest c.as_slice-tops.result.now c.in-Some.begun.height ∙ ap (drop c.in-Some.begun.height) (c.as_slice-tops.ensures.value ∙ c.in_ok-reserve.ensures.items) in
    let tops = c.push_reserved.ensures.items ∙ ap (λ (x : List ℕ). x ++ c.in_ok-number.number ∷ []) (c.truncate.ensures.items ∙ ap (take c.in-Some.begun.height) c.in_ok-reserve.ensures.items) in
    rw (c.in_ok-number.ensures.added, tops, c.in_ok-number.ensures.number)
    (building_close c.self.inside.tree c.self.inside.tops.items c.self.inside.begun.items c.pop.new.self.items c.in-Some.begun c.in_ok-node.node c.self.invariant c.in-Some.ensures.items kids)
