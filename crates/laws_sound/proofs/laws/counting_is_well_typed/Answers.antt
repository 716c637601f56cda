use Rattle.laws_sound.proofs.Counting.{counting_typed}
use Rattle.laws_sound.proofs.laws.counting_is_well_typed.Goals as goal

pub returns : goal.returns
returns c = counting_typed
