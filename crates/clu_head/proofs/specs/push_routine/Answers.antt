use Rattle.std.proofs.Common.{Option, IfSome, IsSome, sym, subst}
use Rattle.clu_types.specs.declared.spec.OpSpec.{OpSpec}
use Rattle.clu_head.specs.Kept.{IsRoutineOf}
use Rattle.clu_head.proofs.Keeping.{exported_one, exported_none}
use Rattle.clu_head.proofs.Whole.{exported_whole}
use Rattle.clu_head.proofs.specs.push_routine.Goals as goal

pub returns-then-not-routine-clause-more : goal.returns-then-not-routine-clause-more
returns-then-not-routine-clause-more c = λ is. exported_none (IsRoutineOf c.args.from.now c.args.to.now) c.args.routine.now c.args.all.now.items c.if-not-routine.true

pub returns-in_ok-push-in-Some-clause-more : goal.returns-in_ok-push-in-Some-clause-more
returns-in_ok-push-in-Some-clause-more c = λ is.
    exported_one (IsRoutineOf c.args.from.now c.moved_routine.new.to) c.args.routine.now c.into_inner.result c.args.all.now.items c.push.new.self.items c.if-not-routine.false c.in_ok-push-in-Some.ensures.items
    (subst (IsRoutineOf c.args.from.now c.moved_routine.new.to c.args.routine.now) (sym c.into_inner.ensures)
    (subst (λ o. IfSome o (λ op. IsRoutineOf c.args.from.now c.moved_routine.new.to c.args.routine.now op.value)) c.in-Some.is c.in_ok-op.ensures.routine))

pub returns-in-None-clause-whole : goal.returns-in-None-clause-whole
returns-in-None-clause-whole c = λ are. subst (λ o. IsSome o) c.in-None.is (c.in_ok-op.ensures.whole (exported_whole c.args.from.now c.args.routine.now c.if-not-routine.false are))
