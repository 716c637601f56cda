use Rattle.clu_checked.proofs.TypesTold.{bad_told, refused_told}
use Rattle.clu_checked.proofs.types_answered.Goals as goal

pub returns-clause-equates : goal.returns-clause-equates
returns-clause-equates c = bad_told

pub returns-clause-refused : goal.returns-clause-refused
returns-clause-refused c = refused_told
