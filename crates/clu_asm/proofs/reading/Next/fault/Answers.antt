use Rattle.std.proofs.Common.{refl, inr}
use Rattle.clu_asm.proofs.FaultLemmas.{lined_not_free}
use Rattle.clu_asm.proofs.reading.Next.fault.Goals as goal

pub returns-in-Some : goal.returns-in-Some
returns-in-Some c =
    let first = c.in-Some.ensures {u = tt} in
    inr (λ free b. lined_not_free c.args.rest.now _ _ first.free first.splits free, refl)
