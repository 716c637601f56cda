use Rattle.clu_reach.proofs.Keeping.{stale_if}
use Rattle.clu_reach.proofs.faults.Faults.is_stale.Goals as goal

pub returns : goal.returns
returns c = λ library are. stale_if library c.args.self.now.stale_modules.keys c.args.name.now c.contains.result are.stale_modules c.contains.ensures
