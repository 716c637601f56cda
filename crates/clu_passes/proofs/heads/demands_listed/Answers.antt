use Rattle.clu_passes.proofs.Listing.{listed_told}
use Rattle.clu_passes.proofs.heads.demands_listed.Goals as goal

pub returns : goal.returns
returns c = listed_told
