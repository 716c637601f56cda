use Rattle.std.proofs.Common.{◌∙◌, sym}
use Rattle.clu_operations.proofs.Looking.{found_again}
use Rattle.clu_operations.proofs.operations.find_once.Goals as goal

pub returns-in-Some-clause-found : goal.returns-in-Some-clause-found
returns-in-Some-clause-found c = λ of name was. found_again c.args.headed c.args.types.now c.args.finding.now c.args.wished c.in-Some.found was (sym c.get.ensures.value ∙ sym c.in-Some.ensures)
