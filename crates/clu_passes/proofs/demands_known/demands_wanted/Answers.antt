use Rattle.clu_passes.proofs.AskedWhole.{table_told}
use Rattle.clu_passes.proofs.demands_known.demands_wanted.Goals as goal

pub returns : goal.returns
returns c = table_told
