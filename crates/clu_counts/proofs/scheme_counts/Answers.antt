use Rattle.clu_counts.proofs.Selectors.{same_counts}
use Rattle.clu_counts.proofs.scheme_counts.Goals as goal

pub returns : goal.returns
returns c = same_counts
