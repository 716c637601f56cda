use Rattle.clu_frames.proofs.Arms.{some_first}
use Rattle.clu_frames.proofs.statements.is_none.Goals as goal

pub returns-in-len1-up : goal.returns-in-len1-up
returns-in-len1-up c = some_first c.args.list.now c.in-len1-up.len_at_least
