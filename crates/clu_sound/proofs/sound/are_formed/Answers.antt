use Rattle.std.proofs.Common.{true≢false, arith, refl, sym}
use Rattle.clu_sound.proofs.Judging.{formed_more, formed_all}
use Rattle.clu_sound.proofs.sound.are_formed.Goals as goal

pub loop-n-init : goal.loop-n-init
loop-n-init c = λ k t lt e. absurd (omega (arith, lt))

pub loop-n-preserved : goal.loop-n-preserved
loop-n-preserved c = formed_more c.args.specs.now c.args.spec.now.kinds c.args.spec.now.types c.loop-n.n c.view.result.now c.view.ensures.term c.loop-n.invariant (rw (← c.as_slice.ensures) (c.is_formed.ensures.0 c.if-not-is_formed.false))

pub returns-then-not-is_formed : goal.returns-then-not-is_formed
returns-then-not-is_formed c = (λ t. absurd (true≢false (sym t)), λ h. let found = c.is_formed.ensures.1 (rw c.as_slice.ensures (h c.loop-n.n c.view.result.now c.view.ensures.term)) in let none = c.if-not-is_formed.true in cc)

pub returns : goal.returns
returns c = (λ t. formed_all c.args.specs.now c.args.spec.now.kinds c.args.spec.now.types c.loop-n.n (omega (arith, c.loop-n-test.false, c.len-n-end.ensures)) c.loop-n.invariant, λ h. refl)
