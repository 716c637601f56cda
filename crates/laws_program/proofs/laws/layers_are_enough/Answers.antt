use Rattle.clu_meaning.specs.Run.{run}
use Rattle.laws_program.specs.Stands.{observed}
use Rattle.laws_program.proofs.Composed.{agrees}
use Rattle.laws_program.proofs.Machines.{observed_runs}
use Rattle.laws_program.proofs.laws.layers_are_enough.Goals as goal

pub returns : goal.returns
returns c = λ image program name layers. record {
  agrees = λ sizes limits input bytes. agrees sizes (run program name input) (observed image sizes input) (observed_runs image sizes input) (layers sizes limits input bytes);
}
