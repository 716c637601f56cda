use Rattle.clu_checked.proofs.ModulesNamed.{all_named}
use Rattle.clu_checked.proofs.naming.named_of_source.Goals as goal

pub returns : goal.returns
returns c = all_named
