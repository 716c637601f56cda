use Rattle.std.proofs.Common.{arith, subst, sym}
use Rattle.std.proofs.lemmas.Bool.Decides.{nat_tests}
use Rattle.clu_reach.specs.Walked.{AreFirst}
use Rattle.clu_reach.specs.declared.faults.Faults.{Faults}
use Rattle.clu_reach.proofs.Steps.{error_refused, many_refused, none_refused}
use Rattle.clu_reach.proofs.reaching.Work.finish.Goals as goal

pub returns-then-len-gt-MAX_INSTANCES-clause-exact : goal.returns-then-len-gt-MAX_INSTANCES-clause-exact
returns-then-len-gt-MAX_INSTANCES-clause-exact c = λ library first w.
    many_refused library first c.args.self w (grind (arith, nat_tests, c.if-len-gt-MAX_INSTANCES.true, c.len.ensures.len, c.deref.ensures))

pub returns-in-Some-clause-exact : goal.returns-in-Some-clause-exact
returns-in-Some-clause-exact c = λ library first w.
    error_refused library first c.args.self c.in-Some.error w (grind (arith, nat_tests, c.if-len-gt-MAX_INSTANCES.false, c.len.ensures.len, c.deref.ensures)) (λ fates a. c.in-Some.ensures.exact fates (subst (λ (f : Faults). AreFirst fates f) (sym c.into_inner.ensures) a))

pub returns-clause-accepted : goal.returns-clause-accepted
returns-clause-accepted c = λ library first w.
    none_refused library first c.args.self w (grind (arith, nat_tests, c.if-len-gt-MAX_INSTANCES.false, c.len.ensures.len, c.deref.ensures)) (λ fates a. c.in-None.ensures.exact fates (subst (λ (f : Faults). AreFirst fates f) (sym c.into_inner.ensures) a))
