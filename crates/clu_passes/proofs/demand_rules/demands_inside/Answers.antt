use Rattle.clu_passes.proofs.DemandsInside.{all_inside}
use Rattle.clu_passes.proofs.demand_rules.demands_inside.Goals as goal

pub returns : goal.returns
returns c = λ t f parsed are counts restricted n d h. all_inside t f parsed are counts restricted n d h
