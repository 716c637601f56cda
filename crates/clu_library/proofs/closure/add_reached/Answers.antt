use Rattle.std.proofs.Common.{arith}
use Rattle.std.specs.Option.{option_copied}
use Rattle.clu_library.specs.Resting.{with_changed}
use Rattle.clu_library.proofs.Closing.{reaching_all, reaching_more}
use Rattle.clu_library.proofs.closure.add_reached.Goals as goal

pub returns-then-n-len : goal.returns-then-n-len
returns-then-n-len c =
    reaching_all (with_changed c.args.specs.now (option_copied c.args.changed)) c.args.own.now c.args.found.now.keys c.loop-n.found.keys c.loop-n.n c.loop-n.invariant (omega (arith, c.if-n-len.true, c.len.ensures.len))

pub loop-n-preserved : goal.loop-n-preserved
loop-n-preserved c =
    reaching_more (with_changed c.args.specs.now (option_copied c.args.changed)) c.args.own.now c.args.found.now.keys c.loop-n.found.keys c.loop-n.n c.loop-n.invariant
    (omega (arith, c.if-n-len.false, c.len.ensures.len)) (omega (arith, c.if-n-len.false, c.len.ensures.small)) c.add_next.new.found.keys c.in_ok-add_next.ensures
