use Rattle.clu_meaning.proofs.TypedRun.{run_typed}
use Rattle.clu_meaning.proofs.laws.ends_typed.Goals as goal

pub returns : goal.returns
returns c = run_typed
