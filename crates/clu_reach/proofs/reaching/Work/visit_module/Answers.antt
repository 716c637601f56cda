use Rattle.std.proofs.Common.{subst, sym}
use Rattle.clu_reach.specs.Found.{AreFaults}
use Rattle.clu_reach.specs.Reach.{RoutineFate, routine_in}
use Rattle.clu_reach.specs.Walked.{IsStep, KeptStep}
use Rattle.clu_reach.specs.declared.faults.Faults.{Faults}
use Rattle.clu_reach.proofs.Keeping.{has_body}
use Rattle.clu_reach.proofs.Steps.{kept_fresh, on_ok}
use Rattle.clu_reach.proofs.reaching.Work.visit_module.Goals as goal

pub returns-else-is_stale-clause-step : goal.returns-else-is_stale-clause-step
returns-else-is_stale-clause-step c =
    let kept = c.args.kept in
    let lib = c.args.lib.now in
    let are = subst (λ (f : Faults). AreFaults lib f) (sym c.deref.ensures) c.requires.faults in
    let has = has_body lib kept.module c.in-Some.body.now c.is_stale.result c.in-Some.ensures c.if-is_stale.false (c.is_stale.ensures lib are) in
    on_ok c.visit_object.result
    (IsStep (RoutineFate kept.module kept.actuals.items (routine_in kept.routine c.in-Some.body.now.object.routines)) c.args.self.now c.visit_object.new.self)
    (KeptStep lib kept c.args.self.now c.visit_object.new.self)
    (kept_fresh lib kept.module kept.routine kept.actuals.items c.in-Some.body.now c.args.self.now c.visit_object.new.self (sym c.in-Some.ensures) has)
    c.visit_object.ensures.step
