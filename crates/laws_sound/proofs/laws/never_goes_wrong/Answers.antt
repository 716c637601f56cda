use Rattle.laws_sound.specs.Sound.{LawfulBy}
use Rattle.laws_sound.proofs.Starting.{never_wrong}
use Rattle.laws_sound.proofs.laws.never_goes_wrong.Goals as goal

pub returns : goal.returns
returns c = λ program lawful whole. never_wrong program (LawfulBy lawful) whole
