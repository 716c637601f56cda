use Rattle.clu_passes.proofs.Selectors.{others_by_count}
use Rattle.clu_passes.proofs.expression_rules.selectors_by_count.Goals as goal

pub returns : goal.returns
returns c = λ f types fields names cs once_in once_of. others_by_count types fields names cs once_in once_of f
