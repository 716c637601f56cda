use Rattle.clu_check_mod.proofs.Modules.{module_within}
use Rattle.clu_check_mod.proofs.naming.named_by_all.Goals as goal

pub named_in-requires-clause-inside : goal.named_in-requires-clause-inside
named_in-requires-clause-inside c = module_within c.args.tree.now c.modules-module-items.result.now c.loop-module.module-index c.modules-module-items.ensures c.loop-module-test.true
