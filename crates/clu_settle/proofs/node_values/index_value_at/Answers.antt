use Rattle.std.proofs.Common.{◌≡◌, length, ap, arith}
use Rattle.clu_settle.proofs.Made.{ok_more}
use Rattle.clu_settle.proofs.node_values.index_value_at.Goals as goal

pub returns-then-of-len-clause-lost : goal.returns-then-of-len-clause-lost
returns-then-of-len-clause-lost c = ok_more _ _ c.index_value.result c.index_value.ensures.lost (λ v p lost within inside. p lost within)

pub returns-else-of-len-clause-lost : goal.returns-else-of-len-clause-lost
returns-else-of-len-clause-lost c = λ lost within inside.
    let size : length c.tree.result.now ≡ length c.args.asked.syntax.now = ap length c.tree.ensures.same in
    absurd (omega (arith, inside, size, c.len.ensures.len, c.if-of-len.false))

pub returns-then-of-len-clause-same : goal.returns-then-of-len-clause-same
returns-then-of-len-clause-same c = ok_more _ _ c.index_value.result c.index_value.ensures.same (λ v p inside. p)

pub returns-else-of-len-clause-same : goal.returns-else-of-len-clause-same
returns-else-of-len-clause-same c = λ inside.
    let size : length c.tree.result.now ≡ length c.args.asked.syntax.now = ap length c.tree.ensures.same in
    absurd (omega (arith, inside, size, c.len.ensures.len, c.if-of-len.false))
