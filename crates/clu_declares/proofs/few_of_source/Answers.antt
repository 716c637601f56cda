use Rattle.clu_declares.proofs.Sources.{few_of_source}
use Rattle.clu_declares.proofs.few_of_source.Goals as goal

pub returns : goal.returns
returns c = few_of_source
