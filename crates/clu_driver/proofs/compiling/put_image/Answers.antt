use Rattle.std.proofs.Common.{◌∙◌}
use Rattle.clu_driver.proofs.Found.{not_put}
use Rattle.clu_driver.proofs.compiling.put_image.Goals as goal

pub returns-in-Ok-clause-refused : goal.returns-in-Ok-clause-refused
returns-in-Ok-clause-refused g c = not_put _ _ _ _ _ _ _ _ (c.as_slice.ensures ∙ c.in-Ok.ensures.bytes) c.put.ensures.refused
