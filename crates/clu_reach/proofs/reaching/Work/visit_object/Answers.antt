use Rattle.std.proofs.Common.{◌∙◌, List, ap, sym}
use Rattle.clu_types.specs.declared.term.Actual.{Actual}
use Rattle.clu_reach.specs.Reach.{RoutineFate, UsesFate, routine_in}
use Rattle.clu_reach.specs.Tables.{fits, weight}
use Rattle.clu_reach.specs.Walked.{IsStep}
use Rattle.clu_reach.proofs.Steps.{on_ok, routine_fit}
use Rattle.clu_reach.proofs.reaching.Work.visit_object.Goals as goal

pub returns-then-fits-clause-step : goal.returns-then-fits-clause-step
returns-then-fits-clause-step c =
    let kept = c.args.kept in
    let found = routine_in kept.routine c.args.object.now.routines in
    on_ok c.visit_routine.result
    (IsStep (UsesFate kept.module (weight kept.actuals.items c.in-Some.routine.now)) c.args.self.now c.visit_routine.new.self)
    (IsStep (RoutineFate kept.module kept.actuals.items found) c.args.self.now c.visit_routine.new.self)
    (routine_fit kept.module kept.actuals.items found c.in-Some.routine.now c.args.self.now c.visit_routine.new.self (sym c.in-Some.ensures)
    (sym (c.fits.ensures ∙ ap (λ (g : List Actual). fits c.in-Some.routine.now g) c.as_slice.ensures.value) ∙ c.if-fits.true))
    c.visit_routine.ensures.step
