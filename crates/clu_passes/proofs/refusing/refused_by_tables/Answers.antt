use Rattle.clu_passes.proofs.FaultsFound as found
use Rattle.clu_passes.proofs.refusing.refused_by_tables.Goals as goal

pub returns-clause-headings : goal.returns-clause-headings
returns-clause-headings c = λ k scope library refused of items bits heads. found.heading_by_tables k scope library refused of items bits heads

pub returns-clause-whole : goal.returns-clause-whole
returns-clause-whole c = λ k scope library refused of items bits heads others. found.refused_by_tables k scope library refused of items bits heads others
