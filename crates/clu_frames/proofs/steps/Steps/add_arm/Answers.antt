use Rattle.std.proofs.Common.{◌≡◌, ◌∙◌, ℕ, List, [], ◌∷◌, ◌++◌, length, ap}
use Rattle.clu_frames.specs.Flattening.{arm_at, made, with_regions}
use Rattle.clu_wir.specs.Adding.{Added}
use Rattle.clu_frames.specs.Regions.{with_arm}
use Rattle.clu_frames.proofs.Changing.{set_changed, with_arms}
use Rattle.clu_frames.proofs.steps.Steps.add_arm.Goals as goal

pub returns-in_ok-push-in-Some : goal.returns-in_ok-push-in-Some
returns-in_ok-push-in-Some c =
    let arms : c.push.new.self.items ≡ c.in-Some.planned.now.arms.items ++ arm_at c.args.name (length (made c.args.self.now).code) c.args.mark ∷ [] =
    c.in_ok-push-in-Some.ensures.items ∙ ap (λ (t : ℕ). c.in-Some.planned.now.arms.items ++ arm_at c.args.name t c.args.mark ∷ []) c.in_ok-target.ensures in
    record {
      made = ap (λ (rs : List Added). with_regions rs (made c.args.self.now))
          (set_changed (with_arm (arm_at c.args.name (length (made c.args.self.now).code) c.args.mark)) c.args.self.now.regions.items c.args.region
          c.in-Some.planned.now (record c.in-Some.planned.now { arms = c.push.new.self })
          c.in-Some.ensures.item.3.0 c.in-Some.ensures.item.1 (ap (with_arms c.in-Some.planned.now) arms));
    }
