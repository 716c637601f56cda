use Rattle.std.proofs.Common.{List, Option, IfSome, subst, rules}
use Rattle.clu_types.specs.declared.spec.OpSpec.{OpSpec}
use Rattle.clu_head.specs.declared.head.RoutineHead.{RoutineHead}
use Rattle.clu_head.specs.Kept.{AreRoutinesOf}
use Rattle.clu_head.proofs.Keeping.{cluster_kept}
use Rattle.clu_head.proofs.specs.cluster_with.Goals as goal

pub returns-in_ok-new-in-Some-clause-form : goal.returns-in_ok-new-in-Some-clause-form
returns-in_ok-new-in-Some-clause-form c = λ asked are.
    cluster_kept c.args.from.now c.args.to.now c.moved_routines.new.to c.moved_routines.ensures.kept asked c.args.routines.now c.args.demands c.in-Some.ops c.in_ok-new-in-Some.field-0.value are
    (subst (λ (rs : List RoutineHead). AreRoutinesOf c.args.from.now c.moved_routines.new.to rs c.in-Some.ops) c.as_slice.ensures
    (subst (λ (o : Option (List OpSpec)). IfSome o (AreRoutinesOf c.args.from.now c.moved_routines.new.to c.as_slice.result.now)) c.in-Some.is c.in_ok-ops.ensures.routines))
    (search rules)
