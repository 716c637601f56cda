use Rattle.clu_passes.proofs.AskedTold as asked
use Rattle.clu_passes.proofs.heads.demands_told.Goals as goal

pub returns : goal.returns
returns c = record { routines = asked.of_routine; clusters = asked.of_cluster }
