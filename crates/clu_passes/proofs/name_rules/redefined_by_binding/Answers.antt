use Rattle.clu_passes.proofs.Redefined.{redefined_is}
use Rattle.clu_passes.proofs.name_rules.redefined_by_binding.Goals as goal

pub returns : goal.returns
returns c = λ ds n name own e there of_one. redefined_is n name own e ds there of_one
