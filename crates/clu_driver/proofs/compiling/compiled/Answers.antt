use Rattle.clu_driver.proofs.Found.{found_accepted, made_not}
use Rattle.clu_driver.proofs.compiling.compiled.Goals as goal

pub returns-in-Ok-image_of-clause-accepted : goal.returns-in-Ok-image_of-clause-accepted
returns-in-Ok-image_of-clause-accepted g c = found_accepted _ _ _ _ _ c.in-Ok.ensures.found c.in-Ok.ensures.parsed c.in-Ok-image_of.ensures.accepted

pub returns-in-Err-image_of-clause-refused : goal.returns-in-Err-image_of-clause-refused
returns-in-Err-image_of-clause-refused g c =
    made_not c.in-Err-image_of.how c.args.file.now c.in-Ok.source.bytes.items _ _ _ _ _ c.in-Ok.ensures.found c.in-Ok.ensures.parsed c.in-Err-image_of.ensures.refused
