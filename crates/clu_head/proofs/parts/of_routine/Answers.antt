use Rattle.std.proofs.Common.{slice_get}
use Rattle.clu_head.proofs.Labels.{label, routine_restricts}
use Rattle.clu_head.proofs.parts.of_routine.Goals as goal

pub returns : goal.returns
returns c = routine_restricts c.args.syntax.now c.args.n c.routine.result (slice_get c.args.syntax.now c.args.n) c.requires.kind (c.routine.ensures.told label)
