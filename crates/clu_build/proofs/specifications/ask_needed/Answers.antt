use Rattle.std.proofs.Common.{◌∙◌}
use Rattle.clu_build.proofs.Replacing.{told_none}
use Rattle.clu_build.proofs.specifications.ask_needed.Goals as goal

pub returns-clause-sound : goal.returns-clause-sound
returns-clause-sound c = told_none c.args.library.now c.as_slice.result.now _ c.in_ok-name.field-0 (c.as_slice.ensures.value ∙ c.in_ok-names.ensures.named) c.in_ok-name.ensures c.in-None.is
