use Rattle.std.proofs.Common.{◌≡◌, ◌<◌, length, ℕ, ◌-◌, arith, subst}
use Rattle.clu_syntax.specs.Rounds.{AreRounds}
use Rattle.clu_syntax.proofs.Downward.{Done, started_so, stepped_so, finished}
use Rattle.clu_syntax.proofs.Unique.{unique}
use Rattle.clu_syntax.proofs.surround.rounds.Goals as goal

pub loop-n-init : goal.loop-n-init
loop-n-init c = (omega arith, started_so c.args.tree.now c.len-len.result c.in_ok-rounds.rounds.items c.len-len.ensures.len (c.in_ok-rounds.ensures.items_if_clones_equal (λ y e. e)))

pub loop-n-preserved : goal.loop-n-preserved
loop-n-preserved c =
    let small : c.loop-n.n - 1 < length c.loop-n.rounds.items = omega (arith, c.loop-n.invariant.1.size) in (
      omega arith,
      stepped_so c.args.tree.now c.len-len.ensures.tree (c.loop-n.n - 1) c.loop-n.n c.node-node.result.now c.loop-n.rounds.items c.set_rounds.new.rounds.items c.index.result.now
          c.node-node.ensures.node c.loop-n.invariant.1 (omega arith) small c.index.ensures c.set_rounds.ensures,
    )

pub returns : goal.returns
returns c =
    let z : c.loop-n.n ≡ 0 = omega arith in
    let are : AreRounds c.args.tree.now c.loop-n.rounds.items = finished c.args.tree.now c.loop-n.rounds.items (subst (λ (n : ℕ). Done c.args.tree.now n c.loop-n.rounds.items) z c.loop-n.invariant.1) in
    record { are = are; only = unique c.args.tree.now c.len-len.ensures.tree c.loop-n.rounds.items are }
