use Rattle.clu_passes.proofs.AskedInside.{within, inside}
use Rattle.clu_passes.proofs.demand_rules.asked_inside.Goals as goal

pub returns : goal.returns
returns c = record {
  within = λ headed types heads n d h. within headed types heads n d h;
  inside = λ t f parsed are counts restricted asked starts demands n d h. inside t f parsed are counts restricted asked starts demands n d h;
}
