use Rattle.clu_printed.proofs.OneReading.{tokens_one, tree_one}
use Rattle.clu_printed.proofs.one_reading.Goals as goal

pub returns-clause-tokens : goal.returns-clause-tokens
returns-clause-tokens c = tokens_one

pub returns-clause-tree : goal.returns-clause-tree
returns-clause-tree c = tree_one
