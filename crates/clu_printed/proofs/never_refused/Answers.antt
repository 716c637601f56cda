use Rattle.clu_printed.proofs.Accepted.{never_refused}
use Rattle.clu_printed.proofs.never_refused.Goals as goal

pub returns : goal.returns
returns c = never_refused
