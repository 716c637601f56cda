use Rattle.clu_passes.proofs.FaultsFound.{agree_at, agree_of_headings, agree_of_rest}
use Rattle.clu_passes.proofs.refusing.rules_agree.Goals as goal

pub returns-clause-at : goal.returns-clause-at
returns-clause-at c = λ found violated k same. agree_at found violated k same

pub returns-clause-of_headings : goal.returns-clause-of_headings
returns-clause-of_headings c = λ found violated k same in_heading. agree_of_headings found violated k same in_heading

pub returns-clause-of_rest : goal.returns-clause-of_rest
returns-clause-of_rest c = λ found violated k same in_heading. agree_of_rest found violated k same in_heading
