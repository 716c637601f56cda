use Rattle.std.proofs.Common.{slice_get}
use Rattle.clu_head.proofs.Labels.{label, set_opers}
use Rattle.clu_head.proofs.parts.opers_in.Goals as goal

pub returns : goal.returns
returns c = set_opers c.args.syntax.now c.args.n c.type_set.result (slice_get c.args.syntax.now c.args.n) c.requires.kind (c.type_set.ensures.told label)
