use Rattle.std.proofs.Common.{Option, slice_get, arith, refl, subst}
use Rattle.std.proofs.lemmas.Bool.Decides.{nat_tests}
use Rattle.clu_reach.specs.Walked.{IsOriginAt}
use Rattle.clu_reach.specs.declared.origins.Origin.{Origin}
use Rattle.clu_reach.proofs.Steps.{next_on, no_origin}
use Rattle.clu_reach.proofs.reaching.Work.visit_next.Goals as goal

pub returns-in_ok-visit-in-Some-clause-next : goal.returns-in_ok-visit-in-Some-clause-next
returns-in_ok-visit-in-Some-clause-next c = λ first w.
    let reached = c.args.self.now.reached.value in
    let found = slice_get reached.members.keys c.args.n in
    next_on c.args.lib.now first c.args.n found c.in-Some.origin c.args.self.now c.visit.new.self refl
    (subst (λ (o : Option Origin). IsOriginAt reached.types found o) c.in-Some.is c.in_ok-origin.ensures)
    (grind (arith, nat_tests, c.if-len-gt-MAX_INSTANCES.false, c.len.ensures.len, c.deref.ensures))
    c.in_ok-visit-in-Some.ensures.step w

pub returns-in-None-clause-next : goal.returns-in-None-clause-next
returns-in-None-clause-next c = λ first w.
    let reached = c.args.self.now.reached.value in
    let found = slice_get reached.members.keys c.args.n in
    no_origin c.args.lib.now first c.args.n found c.args.self.now refl (subst (λ (o : Option Origin). IsOriginAt reached.types found o) c.in-None.is c.in_ok-origin.ensures) w
