use Rattle.clu_passes.proofs.RepsOfTree.{reps_of_tree}
use Rattle.clu_passes.proofs.others.reps_of_tree.Goals as goal

pub returns : goal.returns
returns c = λ t f parsed of are tree. reps_of_tree t f parsed of are tree
