use Rattle.std.proofs.Common.{arith}
use Rattle.std.proofs.lemmas.Bool.Decides.{nat_tests}
use Rattle.clu_reach.proofs.Steps.{all_walked, stopped}
use Rattle.clu_reach.proofs.reaching.Work.visit_all.Goals as goal

pub returns-then-not-branch-clause-walked : goal.returns-then-not-branch-clause-walked
returns-then-not-branch-clause-walked c = λ first w.
    stopped c.args.lib.now first c.loop-n.n c.in_ok-visit_next.field-0 c.visit_next.new.self c.if-not-branch.true (c.in_ok-visit_next.ensures.next first (c.loop-n.invariant.1 first w))

pub returns-clause-walked : goal.returns-clause-walked
returns-clause-walked c = λ first w. all_walked c.args.lib.now first c.loop-n.n c.loop-n.self (grind (arith, nat_tests, c.loop-n-test.false)) (c.loop-n.invariant.1 first w)
