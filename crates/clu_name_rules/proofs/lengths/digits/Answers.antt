use Rattle.clu_name_rules.specs.Lengths.{digits_in}
use Rattle.clu_name_rules.proofs.Reckoned.{last_digit, more_digits, no_digits}
use Rattle.clu_name_rules.proofs.lengths.digits.Goals as goal

pub returns-then-left-eq0 : goal.returns-then-left-eq0
returns-then-left-eq0 c = last_digit c.loop-before.before c.loop-before.left (digits_in 64 c.args.n) c.loop-before-test.true c.loop-before.invariant c.if-left-eq0.true

pub loop-before-preserved : goal.loop-before-preserved
loop-before-preserved c = more_digits c.loop-before.before c.loop-before.left (digits_in 64 c.args.n) c.loop-before-test.true c.loop-before.invariant c.if-left-eq0.false

pub returns : goal.returns
returns c = no_digits c.loop-before.before c.loop-before.left (digits_in 64 c.args.n) c.loop-before-test.false c.loop-before.auto.before-end c.loop-before.invariant
