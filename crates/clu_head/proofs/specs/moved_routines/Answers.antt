use Rattle.std.proofs.Common.{◌∙◌, sym}
use Rattle.clu_types.proofs.Carrying.{grows_on}
use Rattle.clu_head.proofs.Keeping.{routines_next, routines_all}
use Rattle.clu_head.proofs.Whole.{routine_whole}
use Rattle.clu_head.proofs.specs.moved_routines.Goals as goal

pub returns-then-not-branch-clause-whole : goal.returns-then-not-branch-clause-whole
returns-then-not-branch-clause-whole c = λ all.
    sym c.if-not-branch.true
    ∙ c.in_ok-push_routine.ensures.whole (routine_whole c.args.from.now c.args.routines.now c.loop-routine.routine-index c.routine-item.result c.loop-routine-test.true c.routine-item.is all)

pub returns-then-not-branch-clause-kept : goal.returns-then-not-branch-clause-kept
returns-then-not-branch-clause-kept c = grows_on _ _ _ c.loop-routine.invariant.kept c.push_routine.ensures.kept

pub loop-routine-preserved : goal.loop-routine-preserved
loop-routine-preserved c = record {
  made = routines_next c.args.from.now c.loop-routine.to c.push_routine.new.to c.push_routine.ensures.kept c.args.routines.now c.loop-routine.routine-index c.routine-item.result c.loop-routine-test.true c.routine-item.is
      c.loop-routine.all.items c.push_routine.new.all.items c.loop-routine.invariant.made (c.in_ok-push_routine.ensures.more c.if-not-branch.false);
  kept = grows_on _ _ _ c.loop-routine.invariant.kept c.push_routine.ensures.kept;
}

pub returns-clause-routines : goal.returns-clause-routines
returns-clause-routines c =
    routines_all c.args.from.now c.loop-routine.to c.args.routines.now c.loop-routine.routine-index c.loop-routine.all.items c.from_vec.result c.loop-routine-test.false c.from_vec.ensures c.loop-routine.invariant.made
