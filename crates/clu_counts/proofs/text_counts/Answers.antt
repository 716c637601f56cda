use Rattle.clu_counts.proofs.Found.{same_texts}
use Rattle.clu_counts.proofs.text_counts.Goals as goal

pub returns : goal.returns
returns c = same_texts
