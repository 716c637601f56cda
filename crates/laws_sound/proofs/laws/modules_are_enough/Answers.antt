use Rattle.laws_sound.specs.Sound.{LawfulBy}
use Rattle.laws_sound.proofs.TextsHold.{program_typed}
use Rattle.laws_sound.proofs.laws.modules_are_enough.Goals as goal

pub returns : goal.returns
returns c = λ program lawful modules. program_typed program (LawfulBy lawful) modules
