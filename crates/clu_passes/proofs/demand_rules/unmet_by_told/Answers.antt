use Rattle.clu_passes.proofs.Broken.{v18_is, v20_is}
use Rattle.clu_passes.proofs.demand_rules.unmet_by_told.Goals as goal

pub returns : goal.returns
returns c = record {
  v18 = λ f n found tell asks asked u are. v18_is f n found tell asks asked u are;
  v20 = λ f n found tell asks asked u are. v20_is f n found tell asks asked u are;
}
