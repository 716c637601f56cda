use Rattle.std.proofs.Common.{◌≡◌, length, add-one, refl, arith}
use Rattle.clu_settle.proofs.Passing.{one_passed}
use Rattle.clu_settle.proofs.Lasting.{one_lost}
use Rattle.clu_settle.proofs.settling.settle_one.Goals as goal

pub returns-clause-known : goal.returns-clause-known
returns-clause-known c = λ order p at passed. rw (add-one p)
    (one_passed c.args.asked.syntax.now c.args.asked.meanings.now order p c.args.n at c.args.types.now c.node_value.new.types c.args.constants.now c.node_value.new.constants c.args.values.now _ c.in_ok-value.value passed c.requires.inside
    c.in_ok-value.ensures.types_kept c.in_ok-value.ensures.constants_kept refl (c.in_ok-value.ensures.within passed.within) c.in_ok-value.ensures.known)

pub returns-clause-lost : goal.returns-clause-lost
returns-clause-lost c = λ order p ordered at passed lost.
    let size : length c.args.values.now ≡ length c.args.asked.syntax.now = passed.size in
    rw (add-one p) (one_lost c.args.asked.syntax.now c.args.asked.meanings.now order ordered p c.args.n at c.requires.inside c.args.values.now _ c.in_ok-value.value lost (omega (arith, size, c.requires.inside)) refl
    c.in_ok-value.ensures.typed c.in_ok-value.ensures.read (λ e. c.in_ok-value.ensures.lost e passed.within.0 lost.typed))
