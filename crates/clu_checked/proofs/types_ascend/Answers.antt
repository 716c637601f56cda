use Rattle.clu_checked.proofs.Ascending.{equates_ascend, walks_ascend}
use Rattle.clu_checked.proofs.types_ascend.Goals as goal

pub returns-clause-equates : goal.returns-clause-equates
returns-clause-equates c = equates_ascend

pub returns-clause-walks : goal.returns-clause-walks
returns-clause-walks c = walks_ascend
