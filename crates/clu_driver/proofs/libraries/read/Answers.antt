use Rattle.clu_driver.proofs.Held.{ok_with, read_kept, same_kept}
use Rattle.clu_driver.proofs.libraries.read.Goals as goal

pub returns-in-Ok-clause-specs : goal.returns-in-Ok-clause-specs
returns-in-Ok-clause-specs c = ok_with _ _ c.boxed.result (λ kept same. same_kept kept.value c.in-Ok.library same (read_kept c.in-Ok.library c.in-Ok.ensures.library c.sound.ensures)) c.boxed.ensures.same
