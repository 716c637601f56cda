use Rattle.clu_driver.proofs.Held.{empty_kept, ok_with, same_kept}
use Rattle.clu_driver.proofs.libraries.library_of.Goals as goal

pub returns-in-None-clause-specs : goal.returns-in-None-clause-specs
returns-in-None-clause-specs c = ok_with _ _ c.boxed.result (λ kept same. same_kept kept.value c.empty.result same (empty_kept c.empty.result c.empty.ensures)) c.boxed.ensures.same
