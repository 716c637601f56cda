use Rattle.clu_circles.proofs.Levels.{exactly}
use Rattle.clu_circles.proofs.circles.find_circles.Goals as goal

pub returns-clause-exactly : goal.returns-clause-exactly
returns-clause-exactly c = exactly c.args.targets.now c.args.spans.now c.in_ok-all.all.order.items c.in_ok-all.all.circular.items c.in_ok-all.ensures
