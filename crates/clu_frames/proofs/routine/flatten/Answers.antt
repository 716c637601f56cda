use Rattle.clu_frames.proofs.Nested.{regions_handed}
use Rattle.clu_frames.proofs.Whole.{routine_flat}
use Rattle.clu_frames.proofs.routine.flatten.Goals as goal

pub returns-in-Ok-clause-flat : goal.returns-in-Ok-clause-flat
returns-in-Ok-clause-flat g c = routine_flat c.args.r.now c.in-Ok.flat.code.items c.in-Ok.ensures.steps c.in-Ok.ensures.few

pub returns-in-Ok-clause-nest : goal.returns-in-Ok-clause-nest
returns-in-Ok-clause-nest g c =
    regions_handed c.args.r.now c.in-Ok.flat.code.items (g.B.RegionBuilder.regions c.bounded.new.regions) c.in-Ok.ensures.steps c.in-Ok.ensures.regions
