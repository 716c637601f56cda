use Rattle.clu_passes.proofs.FoundUnder.{setting_looks}
use Rattle.clu_passes.proofs.demand_rules.settings_look.Goals as goal

pub returns : goal.returns
returns c = λ headed terms finding sets was. setting_looks headed terms finding sets was
