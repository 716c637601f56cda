use Rattle.clu_passes.proofs.CvtsKnown.{cvts_known}
use Rattle.clu_passes.proofs.RepsAtHome.{routines_home}
use Rattle.clu_passes.proofs.VariableTypes.{variable_types}
use Rattle.clu_passes.proofs.known_files.reps_told.Goals as goal

pub returns-clause-routines : goal.returns-clause-routines
returns-clause-routines c = λ f of parents are reps. routines_home f of parents are reps

pub returns-clause-variables : goal.returns-clause-variables
returns-clause-variables c = λ t k library refused all reps. variable_types t k library refused all reps

pub returns-clause-cvts : goal.returns-clause-cvts
returns-clause-cvts c = λ t h its library refused whole owned reps. cvts_known t h its library refused whole owned reps
