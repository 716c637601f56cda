use Rattle.laws_sound.specs.Sound.{LawfulBy}
use Rattle.laws_sound.proofs.Starting.{comes_as_headed}
use Rattle.laws_sound.proofs.laws.calls_come_as_headed.Goals as goal

pub returns : goal.returns
returns c = λ program lawful whole. comes_as_headed program (LawfulBy lawful) whole
