use Rattle.clu_sound.proofs.Judging.{nothing_met}
use Rattle.clu_sound.proofs.sound.are_demands_met.Goals as goal

pub returns-else-is_any_demanding : goal.returns-else-is_any_demanding
returns-else-is_any_demanding c = nothing_met c.args.specs.now c.args.spec.now (c.is_any_demanding.ensures c.if-is_any_demanding.false) c.requires.formed c.requires.holds
