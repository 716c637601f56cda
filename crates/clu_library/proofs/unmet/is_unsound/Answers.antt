use Rattle.clu_sound.specs.Sound.{IsSound}
use Rattle.clu_library.proofs.Amiss.{not_sound}
use Rattle.clu_library.proofs.unmet.is_unsound.Goals as goal

pub returns : goal.returns
returns c = not_sound (IsSound c.args.specs.now c.args.spec.now) _ c.in_ok-sound.ensures
