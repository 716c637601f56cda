use Rattle.clu_passes.proofs.WalksAgree.{agree_in_equates, agree_in_headings, agree_in_rest}
use Rattle.clu_passes.proofs.alike.walks_agree.Goals as goal

pub returns-clause-equates : goal.returns-clause-equates
returns-clause-equates c = agree_in_equates

pub returns-clause-headings : goal.returns-clause-headings
returns-clause-headings c = agree_in_headings

pub returns-clause-rest : goal.returns-clause-rest
returns-clause-rest c = agree_in_rest
