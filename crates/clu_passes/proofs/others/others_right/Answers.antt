use Rattle.clu_passes.proofs.OthersRight.{others_right}
use Rattle.clu_passes.proofs.others.others_right.Goals as goal

pub returns : goal.returns
returns c = λ t k library refused all lost known placed order circular its_order items bits n inside plain apart straight decls quiet first. others_right t k library refused all lost known placed order circular its_order items bits straight decls n inside plain apart quiet first
