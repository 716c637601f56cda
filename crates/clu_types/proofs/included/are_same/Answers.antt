use Rattle.clu_types.proofs.Equality.{items, same_id}
use Rattle.clu_types.proofs.included.are_same.Goals as goal

pub returns : goal.returns
returns c = rw c.eq.ensures (items same_id c.args.a.now c.args.b.now)
