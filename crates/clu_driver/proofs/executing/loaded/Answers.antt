use Rattle.std.proofs.Common.{◌∙◌, ap, sym}
use Rattle.clu_image.specs.Faults.{fault_of}
use Rattle.clu_driver.proofs.Found.{fault_found, refused_at}
use Rattle.clu_driver.proofs.executing.loaded.Goals as goal

pub returns-in-Err-Bad-clause-refused : goal.returns-in-Err-Bad-clause-refused
returns-in-Err-Bad-clause-refused g c =
    let fault = refused_at _ c.in-Err-Bad.offset c.in-Err-Bad.field-0 c.in-Err-Bad.field-0-is c.in-Err-Bad.ensures.refused in
    fault_found _ c.args.name.now c.in_ok-bytes.bytes.items c.in-Err-Bad.offset c.in_ok-bytes.ensures.found (ap fault_of (sym c.deref.ensures.value) ∙ fault)
