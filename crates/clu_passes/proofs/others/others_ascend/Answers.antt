use Rattle.clu_passes.proofs.OthersAscend.{others_ascend}
use Rattle.clu_passes.proofs.others.others_ascend.Goals as goal

pub returns : goal.returns
returns c = λ t k library refused all lost known placed up n inside plain apart asks first. others_ascend t k library refused all lost known placed up n inside plain apart asks first
