use Rattle.clu_passes.proofs.Counted.{refused_is}
use Rattle.clu_passes.proofs.refusals.refused_counted.Goals as goal

pub returns : goal.returns
returns c = refused_is
