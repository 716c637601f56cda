use Rattle.std.proofs.Common.{arith}
use Rattle.clu_sound.proofs.Judging.{demanding_more}
use Rattle.clu_sound.proofs.sound.is_any_demanding.Goals as goal

pub loop-n-init : goal.loop-n-init
loop-n-init c = λ id lt. absurd (omega (arith, lt))

pub loop-n-preserved : goal.loop-n-preserved
loop-n-preserved c = demanding_more c.args.specs.now c.args.types.now c.loop-n.n c.view.result.now c.view.ensures.term c.view.ensures.parts c.view.ensures.of_type (c.is_demanding.ensures c.if-is_demanding.false) c.loop-n.invariant

pub returns : goal.returns
returns c = λ e id lt. c.loop-n.invariant id (omega (arith, lt, c.loop-n-test.false, c.len-n-end.ensures))
