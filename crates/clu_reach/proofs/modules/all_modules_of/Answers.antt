use Rattle.clu_reach.proofs.Keeping.{first_kept, rest_kept}
use Rattle.clu_reach.proofs.modules.all_modules_of.Goals as goal

pub loop-routine-preserved : goal.loop-routine-preserved
loop-routine-preserved c =
    λ library all.
    let so_far = c.loop-routine.invariant library all in (
      rest_kept library c.loop-routine.routine-iterator c.next.new.self c.in-Some.routine.now c.in-Some.ensures.steps so_far.0,
      c.in_ok-add_module.ensures library (first_kept library c.loop-routine.routine-iterator c.next.new.self c.in-Some.routine.now c.in-Some.ensures.steps so_far.0) so_far.1,
    )

pub returns : goal.returns
returns c = λ library all. (c.loop-routine.invariant library all).1
