use Rattle.clu_link_meaning.proofs.Types.{numbers_differ}
use Rattle.clu_link_meaning.proofs.laws.types_differ.Goals as goal

pub returns : goal.returns
returns c = numbers_differ
