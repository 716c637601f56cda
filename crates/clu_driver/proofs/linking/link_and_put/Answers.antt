use Rattle.std.proofs.Common.{inl, inr, refl}
use Rattle.clu_driver.proofs.Entered.{shown_as}
use Rattle.clu_driver.proofs.linking.link_and_put.Goals as goal

pub returns-in-Ok : goal.returns-in-Ok
returns-in-Ok g c =
    record { told = shown_as _ _ _ _ _ _ _ (λ how shown. inr (_, c.in-Ok.ensures.entered, shown)) c.put_library.ensures.told }

pub returns-in-Err : goal.returns-in-Err
returns-in-Err g c =
    record { told = record { how = c.refusal_of.result; shown = inl ((_, c.in-Err.ensures.refused, c.refusal_of.ensures.by), refl); told = c.report.ensures.told } }
