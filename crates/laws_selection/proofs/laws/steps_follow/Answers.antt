use Rattle.laws_selection.proofs.Simple.{steps_follow}
use Rattle.laws_selection.proofs.laws.steps_follow.Goals as goal

pub returns : goal.returns
returns c = λ image m standing x b is fits lawful mode step there simple top s held runs. steps_follow image m standing x b is fits lawful mode step there simple top s held runs
