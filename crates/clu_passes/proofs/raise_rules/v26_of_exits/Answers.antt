use Rattle.clu_passes.proofs.ExitTypes.{of_exits}
use Rattle.clu_passes.proofs.raise_rules.v26_of_exits.Goals as goal

pub returns : goal.returns
returns c = λ k scope library refused t parsed rounds are firsts lost facts inside bits bad are_bad items n is here known. of_exits k scope library refused t parsed rounds are firsts lost facts inside bits bad are_bad items n is here known
