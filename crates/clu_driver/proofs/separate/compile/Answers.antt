use Rattle.clu_driver.proofs.Entered.{compile_refused, compile_shows, shown_as}
use Rattle.clu_driver.proofs.separate.compile.Goals as goal

pub returns-in-Ok : goal.returns-in-Ok
returns-in-Ok g c =
    let read = c.gather.ensures in
    let known = c.in-Ok.ensures in
    record { told = shown_as _ _ _ _ _ _ _ (λ how. compile_shows how _ _ _ _ _ _ _ _ _ _ _ _ known.library known.found known.parsed read.kept read.counts) c.compile_source.ensures.told }

pub returns-in-Err : goal.returns-in-Err
returns-in-Err g c =
    let refused = compile_refused c.in-Err.how c.args.library.now c.args.file.now _ _ _ _ c.in-Err.ensures.refused c.in-Err.ensures.kept in
    record { told = record { how = c.in-Err.how; shown = refused; told = c.report.ensures.told } }
