use Rattle.clu_flat_meaning.proofs.Rising.{run_rises}
use Rattle.clu_flat_meaning.proofs.laws.tops_rise.Goals as goal

pub returns : goal.returns
returns c = run_rises
