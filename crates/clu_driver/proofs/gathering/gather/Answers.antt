use Rattle.clu_driver.proofs.Entered.{gathered_refused, unread_library, unread_source}
use Rattle.clu_driver.proofs.Held.{ok_with, under_with}
use Rattle.clu_driver.specs.Held.{IsLibraryOf}
use Rattle.clu_driver.proofs.gathering.gather.Goals as goal

pub returns-in-Ok-source_content-clause-refused : goal.returns-in-Ok-source_content-clause-refused
returns-in-Ok-source_content-clause-refused g c =
    let kept = c.content_if_any.ensures in
    let got = c.in-Ok-source_content.ensures in
    gathered_refused c.read_both.result c.args.library.now c.args.file.now c.in-Ok-source_content.bytes.items _ _ _ _ _ _ kept.kept kept.counts c.in-Ok.ensures.found got.found c.read_both.ensures.refused

pub returns-in-Err-source_content-clause-refused : goal.returns-in-Err-source_content-clause-refused
returns-in-Err-source_content-clause-refused g c =
    let kept = c.content_if_any.ensures in
    unread_source c.in-Err-source_content.how c.args.library.now c.args.file.now _ _ _ _ _ kept.kept kept.counts c.in-Err-source_content.ensures.refused

pub returns-in-Ok-source_content-clause-library : goal.returns-in-Ok-source_content-clause-library
returns-in-Ok-source_content-clause-library g c = ok_with _ _ c.read_both.result (λ both held. under_with (λ x. IsLibraryOf x both.library.value) _ _ _ c.in-Ok.ensures.found held) c.read_both.ensures.library

pub returns-in-Err-clause-refused : goal.returns-in-Err-clause-refused
returns-in-Err-clause-refused g c = unread_library c.in-Err.how c.args.library.now c.args.file.now _ _ _ c.in-Err.ensures.refused
