use Rattle.clu_types.proofs.Inclusion.{found_first, after_first}
use Rattle.clu_types.proofs.included.after.Goals as goal

pub returns-then-is_same : goal.returns-then-is_same
returns-then-is_same c =
    found_first c.loop-many.many.now c.args.many.now c.first-item.result c.args.wanted.now c.in-len1-up.len_at_least c.first-item.is (c.is_same.ensures.0 c.if-is_same.true) c.loop-many.invariant.1

pub loop-many-preserved : goal.loop-many-preserved
loop-many-preserved c =
    after_first c.loop-many.many.now c.args.many.now c.first-item.result c.args.wanted.now c.in-len1-up.len_at_least c.first-item.is (λ e. let found = c.is_same.ensures.1 e in let none = c.if-is_same.false in cc) c.loop-many.invariant
