use Rattle.std.proofs.Common.{[], sym}
use Rattle.std.proofs.lemmas.List.{append-nil}
use Rattle.clu_types.proofs.Carrying.{grows_on}
use Rattle.clu_head.proofs.OfModules.{modules_first, modules_next}
use Rattle.clu_head.proofs.heads.of_modules.Goals as goal

pub loop-n-init : goal.loop-n-init
loop-n-init c = record { modules = modules_first c.args.known c.args.asked.now c.args.types.now c.new-modules.result.items c.new-modules.ensures.items; kept = ([], sym (append-nil _)) }

pub loop-n-preserved : goal.loop-n-preserved
loop-n-preserved c = record {
  modules = modules_next c.args.known c.args.asked.now c.args.types.now c.loop-n.types c.push_module.new.types c.loop-n.invariant.kept c.push_module.ensures.kept
      c.args.nodes.now c.loop-n.n-index c.loop-n-test.true c.loop-n.modules.items c.push_module.new.modules.items c.loop-n.invariant.modules c.in_ok-push_module.ensures.more;
  kept = grows_on _ _ _ c.loop-n.invariant.kept c.push_module.ensures.kept;
}
