use Rattle.std.proofs.Common.{◌≡◌, length, ap, add-one, arith}
use Rattle.clu_settle.proofs.Passing.{none_more}
use Rattle.clu_settle.proofs.Lasting.{none_more_lost}
use Rattle.clu_settle.proofs.settling.settle_at.Goals as goal

pub returns-else-place-len-clause-known : goal.returns-else-place-len-clause-known
returns-else-place-len-clause-known c = λ order p at passed. rw (add-one p)
    (none_more c.args.asked.syntax.now c.args.asked.meanings.now order p c.args.types.now c.args.constants.now c.args.values.now passed)

pub returns-else-place-len-clause-lost : goal.returns-else-place-len-clause-lost
returns-else-place-len-clause-lost c = λ order p ordered at passed lost.
    let size : length c.tree.result.now ≡ length c.args.asked.syntax.now = ap length c.tree.ensures.same in
    rw (add-one p) (none_more_lost c.args.asked.syntax.now c.args.asked.meanings.now order p c.args.place at (omega (arith, size, c.len.ensures.len, c.if-place-len.false)) c.args.values.now lost)
