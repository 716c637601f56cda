use Rattle.clu_checked.proofs.Told.{is_order}
use Rattle.clu_checked.proofs.order_answered.Goals as goal

pub returns : goal.returns
returns c = is_order
