use Rattle.clu_bindings.proofs.Appending.{own_begun, own_next, own_ended}
use Rattle.clu_bindings.proofs.modules.push_modules.Goals as goal

pub loop-n-init : goal.loop-n-init
loop-n-init c = own_begun c.args.types.now c.args.values.now c.args.syntax.now c.args.modules.now c.args.nodes.now

pub loop-n-preserved : goal.loop-n-preserved
loop-n-preserved c =
    own_next c.args.types.now c.args.values.now c.args.syntax.now c.args.modules.now c.loop-n.modules c.push_module.new.modules c.args.nodes.now c.loop-n.n-index c.loop-n-test.true c.loop-n.invariant c.in_ok-push_module.ensures

pub returns : goal.returns
returns c = own_ended c.args.types.now c.args.values.now c.args.syntax.now c.args.modules.now c.loop-n.modules c.args.nodes.now c.loop-n.n-index c.loop-n-test.false c.loop-n.invariant
