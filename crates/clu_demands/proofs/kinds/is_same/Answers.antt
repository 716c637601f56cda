use Rattle.clu_demands.proofs.Fitting.{same_kind}
use Rattle.clu_demands.proofs.kinds.is_same.Goals as goal

pub returns : goal.returns
returns c = rw c.eq.ensures (same_kind c.args.a c.args.b)
