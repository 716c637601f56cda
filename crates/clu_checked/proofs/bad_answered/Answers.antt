use Rattle.clu_checked.proofs.Told.{arms_told, bad_told}
use Rattle.clu_checked.proofs.bad_answered.Goals as goal

pub returns-clause-equates : goal.returns-clause-equates
returns-clause-equates c = bad_told

pub returns-clause-arms : goal.returns-clause-arms
returns-clause-arms c = arms_told
