use Rattle.laws_accepted.proofs.FoundRuns.{found_runs}
use Rattle.laws_accepted.proofs.laws.found_operations_run.Goals as goal

pub returns : goal.returns
returns c = λ f program routines s n r at t name x T l e typed asks. found_runs f program routines s.specifications s.of_clusters s.texts n r at t name x T l e typed asks
