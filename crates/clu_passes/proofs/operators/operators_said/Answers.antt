use Rattle.clu_passes.proofs.Sugared.{infix_said, negated_said, prefix_said}
use Rattle.clu_passes.proofs.operators.operators_said.Goals as goal

pub returns : goal.returns
returns c = record { between = infix_said; negated = negated_said; before = prefix_said }
