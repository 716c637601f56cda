use Rattle.std.proofs.Common.{◌≡◌, ◌∙◌, ◌||◌, Bool, List, ap, sym, subst}
use Rattle.std.specs.Vec.Iter.{into_iter_items}
use Rattle.clu_base.proofs.Lists.{next_item}
use Rattle.clu_frames.specs.declared.flat.Flat.{Flat}
use Rattle.clu_peep.specs.Left.{Adds, begins}
use Rattle.clu_peep.proofs.Passing.{SettlesSoFar, settles_next}
use Rattle.clu_peep.proofs.settling.settled.Goals as goal
use Rattle.clu_peep.proofs.settling.settled.Goals.{then-is_passed, else-is_passed}

pub loop-step-preserved : goal.loop-step-preserved
loop-step-preserved c =
    let rest = next_item c.loop-step.step-iterator c.next.new.self c.next.result c.in-Some.step c.in-Some.is c.next.ensures.steps in
    let flag : c.if-is_passed.is_target ≡ (c.loop-step.is_passed || begins c.args.regions.now c.loop-step.number) =
    elim c.if-is_passed.branch [
      | then-is_passed w ↦ w.is_target-is ∙ w.if-is_passed.true ∙ sym (ap (λ (b : Bool). b || begins c.args.regions.now c.loop-step.number) w.if-is_passed.true)
      | else-is_passed w ↦ w.is_target-is ∙ w.begins-is_target.ensures ∙ sym (ap (λ (b : Bool). b || begins c.args.regions.now c.loop-step.number) w.if-is_passed.false)
    ] in
    settles_next (begins c.args.regions.now) c.args.code.items c.loop-step.left.items c.loop-step.is_passed c.loop-step.number c.in-Some.step
    (into_iter_items c.next.new.self) c.add.new.left.items c.in_ok-is_passed.is_passed
    (subst (λ (l : List Flat). SettlesSoFar (begins c.args.regions.now) c.args.code.items c.loop-step.left.items c.loop-step.is_passed c.loop-step.number l) rest c.loop-step.invariant)
    (subst (λ (b : Bool). Adds c.loop-step.left.items (record { step = c.in-Some.step; number = c.loop-step.number; is_target = b }) c.add.new.left.items c.in_ok-is_passed.is_passed) flag c.in_ok-is_passed.ensures.adds)
    c.in_ok-is_passed.ensures.settled
