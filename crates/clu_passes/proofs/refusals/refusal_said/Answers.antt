use Rattle.clu_passes.proofs.Walked as walked
use Rattle.clu_passes.proofs.refusals.refusal_said.Goals as goal

pub returns-clause-headings : goal.returns-clause-headings
returns-clause-headings c = λ f first heads. walked.heading_said f first first heads

pub returns-clause-whole : goal.returns-clause-whole
returns-clause-whole c = λ f first second heads others. walked.refusal_said f first second heads others
