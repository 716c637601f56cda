use Rattle.clu_driver.proofs.Entered.{link_refused, link_shows, shown_as}
use Rattle.clu_driver.proofs.linking.link.Goals as goal

pub returns-in-Ok : goal.returns-in-Ok
returns-in-Ok g c =
    let read = c.library_in.ensures in
    record { told = shown_as _ _ _ _ _ _ _ (λ how. link_shows how c.args.library.now c.args.program.now c.args.start.now c.deref_mut.result.now c.in-Ok.kept.value _ _ _ _ _ _ c.deref_mut.ensures.value c.in-Ok.ensures.library read.kept read.counts) c.link_and_put.ensures.told }

pub returns-in-Err : goal.returns-in-Err
returns-in-Err g c =
    let refused = link_refused c.in-Err.how c.args.library.now c.args.program.now c.args.start.now _ _ _ _ c.in-Err.ensures.refused c.in-Err.ensures.kept in
    record { told = record { how = c.in-Err.how; shown = refused; told = c.report.ensures.told } }
