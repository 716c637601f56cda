use Rattle.clu_frames.proofs.Arms.{some_second}
use Rattle.clu_frames.proofs.statements.is_only_break.Goals as goal

pub returns-in-len2-up : goal.returns-in-len2-up
returns-in-len2-up c = some_second c.args.list.now c.in-len2-up.len_at_least
