use Rattle.clu_printed.proofs.Again.{read_again}
use Rattle.clu_printed.proofs.read_again.Goals as goal

pub returns : goal.returns
returns c = read_again
