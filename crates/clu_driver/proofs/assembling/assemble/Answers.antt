use Rattle.clu_driver.proofs.Found.{asm_shows}
use Rattle.clu_driver.proofs.assembling.assemble.Goals as goal

pub returns-in-Ok : goal.returns-in-Ok
returns-in-Ok g c =
    let put = c.put_assembled.ensures.told in
    let before = c.assembled.ensures in
    record { told = record { how = put.how; shown = asm_shows put.how _ _ c.in-Ok.made _ _ _ _ _ _ c.in-Ok.ensures.text before.kept before.counts put.shown; told = put.told } }
