use Rattle.clu_passes.proofs.Routines.{own_routines, exported_routines}
use Rattle.clu_passes.proofs.heads.routines_headed.Goals as goal

pub returns : goal.returns
returns c = record { own = own_routines; exported = exported_routines }
