use Rattle.clu_checked.proofs.Checks.{headings_first, none_lost, whole_first}
use Rattle.clu_checked.proofs.first_checked.Goals as goal

pub returns-clause-whole : goal.returns-clause-whole
returns-clause-whole c = whole_first

pub returns-clause-headings : goal.returns-clause-headings
returns-clause-headings c = headings_first

pub returns-clause-lost : goal.returns-clause-lost
returns-clause-lost c = none_lost
