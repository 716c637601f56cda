use Rattle.clu_passes.proofs.TagsAsked.{none_in_equates, none_in_headings}
use Rattle.clu_passes.proofs.ascending.tags_asked.Goals as goal

pub returns-clause-headings : goal.returns-clause-headings
returns-clause-headings c = none_in_headings

pub returns-clause-equates : goal.returns-clause-equates
returns-clause-equates c = none_in_equates
