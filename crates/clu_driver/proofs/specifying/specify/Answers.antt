use Rattle.clu_driver.proofs.Entered.{shown_as, specify_refused, specify_shows}
use Rattle.clu_driver.proofs.specifying.specify.Goals as goal

pub returns-in-Ok : goal.returns-in-Ok
returns-in-Ok g c =
    let read = c.gather.ensures in
    let known = c.in-Ok.ensures in
    record { told = shown_as _ _ _ _ _ _ _ (λ how. specify_shows c.args.kept how _ _ _ _ _ _ _ _ _ _ _ _ known.library known.found known.parsed read.kept read.counts) c.specify_source.ensures.told }

pub returns-in-Err : goal.returns-in-Err
returns-in-Err g c =
    let refused = specify_refused c.args.kept c.in-Err.how c.args.library.now c.args.file.now _ _ _ _ c.in-Err.ensures.refused c.in-Err.ensures.kept in
    record { told = record { how = c.in-Err.how; shown = refused; told = c.report.ensures.told } }
