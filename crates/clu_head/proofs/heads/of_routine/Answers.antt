use Rattle.std.proofs.Common.{◌∙◌, IfSome, subst}
use Rattle.clu_head.specs.Modules.{IsRoutineForm}
use Rattle.clu_head.proofs.OfModules.{of_routine_made}
use Rattle.clu_head.proofs.heads.of_routine.Goals as goal

pub returns-in_ok-head_with-in-Some-clause-head : goal.returns-in_ok-head_with-in-Some-clause-head
returns-in_ok-head_with-in-Some-clause-head c =
    of_routine_made c.args.known c.args.asked.now c.args.types.now c.routine_form.new.types c.routine_form.ensures.kept c.args.n c.routine-routine.result c.in_ok-head_with-in-Some.field-0.value c.in-Some.form.value
    c.requires.kind c.routine-routine.ensures.told c.in_ok-head_with-in-Some.ensures.name (c.in_ok-head_with-in-Some.ensures.kinds ∙ c.in_ok-kinds-in-Some.ensures) c.in_ok-head_with-in-Some.ensures.form
    (subst (λ o. IfSome o (λ form. IsRoutineForm c.args.known c.args.asked.now c.args.types.now c.routine_form.new.types c.args.n form.value)) c.in-Some.is c.in_ok-form.ensures.form)
