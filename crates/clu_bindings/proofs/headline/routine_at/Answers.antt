use Rattle.std.proofs.Common.{slice_get}
use Rattle.clu_bindings.proofs.Labelled.{label, routine_headline}
use Rattle.clu_bindings.proofs.headline.routine_at.Goals as goal

pub returns : goal.returns
returns c = routine_headline c.args.syntax.now c.args.n c.routine-routine.result (slice_get c.args.syntax.now c.args.n) c.requires.kind (c.routine-routine.ensures.told label)
