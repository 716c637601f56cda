use Rattle.std.proofs.Common.{◌∙◌, sym}
use Rattle.clu_asm.specs.AssemblyText.{asm_text}
use Rattle.clu_driver.proofs.Found.{bad_text_found, found_text}
use Rattle.clu_driver.proofs.assembling.assembled.Goals as goal

pub returns-in-Ok-clause-text : goal.returns-in-Ok-clause-text
returns-in-Ok-clause-text g c = found_text _ c.args.name.now c.in_ok-bytes.bytes.items (asm_text c.in-Ok.image) c.in_ok-bytes.ensures.found (sym c.deref.ensures.value ∙ c.in-Ok.ensures.text)

pub returns-in-Err-Bad-clause-refused : goal.returns-in-Err-Bad-clause-refused
returns-in-Err-Bad-clause-refused g c =
    bad_text_found _ c.args.name.now c.in_ok-bytes.bytes.items _ _ _ c.in_ok-bytes.ensures.found c.deref.ensures.value c.in-Err-Bad.field-0-is c.in-Err-Bad.ensures.place
    (λ i is e. let m = c.in-Err-Bad.ensures.every_text i is (c.deref.ensures.value ∙ e) in absurd (cc (m, c.in-Err-Bad.field-0-is)))
