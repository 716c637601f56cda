use Rattle.std.proofs.Common.{arith, sym, ◌∙◌}
use Rattle.clu_check_mod.specs.Asking.{is_violated}
use Rattle.clu_check_mod.proofs.Ascending.{one_ascends}
use Rattle.clu_check_mod.proofs.Closed.{passed_all, passed_more}
use Rattle.clu_check_mod.proofs.Finding.{find_here, find_next, find_none}
use Rattle.clu_check_mod.proofs.asking.least.Goals as goal

pub loop-rule-preserved : goal.loop-rule-preserved
loop-rule-preserved c = (
  λ node at. passed_more node c.args.rules.now c.loop-rule.rule-index _ c.loop-rule-test.true (c.loop-rule.invariant.0 node at) (λ e. c.violates.ensures.lengths e node at c.if-violates.false)
      (λ e is. c.violates.ensures.end e node at is c.if-violates.false),
  λ items values ascend.
      find_next (is_violated c.args.k.now c.args.bad.now items c.args.n) c.args.rules.now c.loop-rule.rule-index _ c.loop-rule-test.true
      (sym (c.violates.ensures.exact items values (one_ascends c.args.k.now c.args.n c.args.rules.now c.loop-rule.rule-index _ c.loop-rule-test.true ascend)) ∙ c.if-violates.false) (c.loop-rule.invariant.1 items values ascend),
)

pub returns-clause-passed : goal.returns-clause-passed
returns-clause-passed c node at none = passed_all node c.args.rules.now c.loop-rule.rule-index (omega (arith, c.loop-rule-test.false)) (c.loop-rule.invariant.0 node at)

pub returns-then-violates-clause-exact : goal.returns-then-violates-clause-exact
returns-then-violates-clause-exact c items values ascend =
    find_here (is_violated c.args.k.now c.args.bad.now items c.args.n) c.args.rules.now c.loop-rule.rule-index _ c.loop-rule-test.true
    (sym (c.violates.ensures.exact items values (one_ascends c.args.k.now c.args.n c.args.rules.now c.loop-rule.rule-index _ c.loop-rule-test.true ascend)) ∙ c.if-violates.true) (c.loop-rule.invariant.1 items values ascend)

pub returns-clause-exact : goal.returns-clause-exact
returns-clause-exact c items values ascend =
    find_none (is_violated c.args.k.now c.args.bad.now items c.args.n) c.args.rules.now c.loop-rule.rule-index (omega (arith, c.loop-rule-test.false)) (c.loop-rule.invariant.1 items values ascend)
