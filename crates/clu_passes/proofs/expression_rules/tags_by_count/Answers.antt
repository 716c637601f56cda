use Rattle.clu_passes.proofs.Selectors.{tags_by_count}
use Rattle.clu_passes.proofs.expression_rules.tags_by_count.Goals as goal

pub returns : goal.returns
returns c = tags_by_count
