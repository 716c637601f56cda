use Rattle.clu_passes.proofs.ByKinds.{not_elsewhere, least_at, least_of_headings, least_of_rest}
use Rattle.clu_passes.proofs.asking.least_asked.Goals as goal

pub returns-clause-elsewhere : goal.returns-clause-elsewhere
returns-clause-elsewhere c = λ f of bad n r e. not_elsewhere f of bad n r e

pub returns-clause-of_all : goal.returns-clause-of_all
returns-clause-of_all c = λ f of bad n. least_at f of bad n

pub returns-clause-of_headings : goal.returns-clause-of_headings
returns-clause-of_headings c = λ f of bad n h. least_of_headings f of bad n h

pub returns-clause-of_rest : goal.returns-clause-of_rest
returns-clause-of_rest c = λ f of bad n h. least_of_rest f of bad n h
