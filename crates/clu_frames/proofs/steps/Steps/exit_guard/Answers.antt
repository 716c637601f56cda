use Rattle.std.proofs.Common.{length, rules}
use Rattle.clu_frames.proofs.Arms.{arm_there, slots_at}
use Rattle.clu_frames.proofs.steps.Steps.exit_guard.Goals as goal

pub returns : goal.returns
returns c =
    let inside = arm_there c.args.guard.arms.now c.args.arm (length c.args.words.now) c.requires.formed in
    let slots = slots_at c.args.guard.arms.now c.args.arm c.index-guard-arm.result inside c.index-guard-arm.is in
    record { made = rw slots (search rules) }
