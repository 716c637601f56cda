use Rattle.clu_passes.proofs.HeadingsTold as headings
use Rattle.clu_passes.proofs.heads.heading_types_told.Goals as goal

pub returns : goal.returns
returns c = headings.heading_at
