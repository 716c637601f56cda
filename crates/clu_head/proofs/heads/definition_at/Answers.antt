use Rattle.std.proofs.Common.{slice_get}
use Rattle.clu_head.proofs.OfModules.{label, module_defines}
use Rattle.clu_head.proofs.heads.definition_at.Goals as goal

pub returns : goal.returns
returns c = module_defines c.args.syntax.now c.args.n c.module.result (slice_get c.args.syntax.now c.args.n) c.requires.kind (c.module.ensures.told label)
