use Rattle.laws_sound.specs.Sound.{LawfulBy}
use Rattle.laws_sound.proofs.TextsHold.{texts_typed}
use Rattle.laws_sound.proofs.laws.texts_are_well_typed.Goals as goal

pub returns : goal.returns
returns c = λ program lawful closed T op d i e law. texts_typed program (LawfulBy lawful) closed i T op d e law
