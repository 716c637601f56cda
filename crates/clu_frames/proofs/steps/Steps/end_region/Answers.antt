use Rattle.std.proofs.Common.{List, refl, ap}
use Rattle.clu_frames.specs.Flattening.{made, with_regions}
use Rattle.clu_wir.specs.Adding.{Added}
use Rattle.clu_frames.specs.Regions.{ended_at}
use Rattle.clu_frames.proofs.Changing.{set_changed}
use Rattle.clu_frames.proofs.steps.Steps.end_region.Goals as goal

pub returns-in-Some : goal.returns-in-Some
returns-in-Some c = record {
  made = ap (λ (rs : List Added). with_regions rs (made c.args.self.now))
      (set_changed (ended_at c.args.last) c.args.self.now.regions.items c.args.region c.in-Some.planned.now (record c.in-Some.planned.now { last = c.args.last })
      c.in-Some.ensures.item.3.0 c.in-Some.ensures.item.1 refl);
}
