use Rattle.clu_checked.proofs.Told.{headings_found, whole_found}
use Rattle.clu_checked.proofs.walks_found.Goals as goal

pub returns-clause-headings : goal.returns-clause-headings
returns-clause-headings c = headings_found

pub returns-clause-whole : goal.returns-clause-whole
returns-clause-whole c = whole_found
