use Rattle.clu_passes.proofs.InsideTold.{results_inside, types_inside, variables_inside}
use Rattle.clu_passes.proofs.known_files.inside_known.Goals as goal

pub returns-clause-types : goal.returns-clause-types
returns-clause-types c = λ t h its library refused is terms grows items n m of_type fine. types_inside t h its library refused is terms grows items n m of_type fine

pub returns-clause-variables : goal.returns-clause-variables
returns-clause-variables c = λ t h its library refused is terms grows n m less fine items. variables_inside t h its library refused is terms grows n m less fine items

pub returns-clause-results : goal.returns-clause-results
returns-clause-results c = λ t h its library refused is terms grows n m less fine items r has. results_inside t h its library refused is terms grows n m less fine items r has
