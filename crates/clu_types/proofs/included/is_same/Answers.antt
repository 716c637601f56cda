use Rattle.clu_types.proofs.Equality.{same_exception}
use Rattle.clu_types.proofs.included.is_same.Goals as goal

pub returns : goal.returns
returns c = rw c.eq.ensures (same_exception c.args.a.now c.args.b.now)
