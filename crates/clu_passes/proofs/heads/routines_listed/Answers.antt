use Rattle.clu_head.specs.Named.{name_rank}
use Rattle.clu_passes.proofs.Listing.{listed_named}
use Rattle.clu_passes.proofs.heads.routines_listed.Goals as goal

pub returns : goal.returns
returns c = listed_named name_rank
