use Rattle.std.proofs.Common.{◌≡◌, ℕ, List, length, ap, subst, arith}
use Rattle.clu_tree.specs.declared.node.Node.{Node}
use Rattle.clu_types.proofs.Carrying.{grows_on}
use Rattle.clu_typing.specs.Pass.{AreKnown}
use Rattle.clu_typing.proofs.Growing.{grows_refl}
use Rattle.clu_typing.proofs.Passing.{known_next}
use Rattle.clu_typing.proofs.pass.note_nodes.Goals as goal

pub loop-n-init : goal.loop-n-init
loop-n-init c = record { known = λ items first nothing. nothing; grows = grows_refl c.args.types.now }

pub loop-n-preserved : goal.loop-n-preserved
loop-n-preserved c = record {
  known = λ items first nothing.
      known_next c.args.headed items first c.loop-n.n c.loop-n.types c.note_node.new.types c.loop-n.facts c.note_node.new.facts (c.loop-n.invariant.known items first nothing) (c.in_ok-note_node.ensures.next items);
  grows = grows_on c.args.types.now c.loop-n.types c.note_node.new.types c.loop-n.invariant.grows c.in_ok-note_node.ensures.kept;
}

pub returns-clause-known : goal.returns-clause-known
returns-clause-known c = λ items first nothing.
    let all : length c.tree.result.now ≡ length c.args.headed.file.syntax.now = ap (λ (nodes : List Node). length nodes) c.tree.ensures.same in
    let last : c.loop-n.n ≡ length c.args.headed.file.syntax.now = omega (arith, c.loop-n-test.false, c.loop-n.auto.n-end, c.len-n-end.ensures.len, all) in
    subst (λ (k : ℕ). AreKnown c.args.headed items first k c.loop-n.types c.loop-n.facts) last (c.loop-n.invariant.known items first nothing)
