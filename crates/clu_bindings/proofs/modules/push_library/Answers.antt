use Rattle.std.proofs.Common.{◌≡◌, ℕ, take, sym, subst, arith}
use Rattle.clu_bindings.specs.Modules.{kept_in}
use Rattle.clu_bindings.proofs.Appending.{Adds, kept_next, kept_whole}
use Rattle.clu_bindings.proofs.modules.push_library.Goals as goal

pub returns-in-None : goal.returns-in-None
returns-in-None c = kept_whole c.args.modules.now c.loop-n.modules c.args.library.now c.loop-n.n (sym c.in-None.ensures.nth) (omega (arith, c.loop-n-test.true)) c.loop-n.invariant

pub loop-n-preserved : goal.loop-n-preserved
loop-n-preserved c =
    kept_next c.args.modules.now c.loop-n.modules _ c.args.library.now c.loop-n.n c.in-Some.spec.now (sym c.in-Some.ensures.nth) c.loop-n.invariant c.in_ok-push_kept-in-Some.ensures

pub returns : goal.returns
returns c =
    let all : c.loop-n.n ≡ 4294967295 = omega (arith, c.loop-n-test.false, c.loop-n.auto.n-end) in
    subst (λ (k : ℕ). Adds c.args.modules.now c.loop-n.modules (kept_in (take k c.args.library.now))) all c.loop-n.invariant
