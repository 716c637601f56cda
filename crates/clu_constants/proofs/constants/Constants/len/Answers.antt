use Rattle.std.proofs.Common.{◌∙◌, ℕ, length, ap, sym}
use Rattle.clu_constants.proofs.Listed.{length_all}
use Rattle.clu_constants.proofs.constants.Constants.len.Goals as goal

pub returns : goal.returns
returns c = ap {B = ℕ} length c.as_slice.ensures.value ∙ sym (length_all c.self.inside.held.items) ∙ ap {B = ℕ} length c.self.view_is
