use Rattle.std.proofs.Common.{subst}
use Rattle.clu_sound.specs.Visiting.{DemandsNothing}
use Rattle.clu_sound.proofs.sound.is_named_demanding.Goals as goal

pub returns-in-Some : goal.returns-in-Some
returns-in-Some c = λ no. subst DemandsNothing c.in-Some.ensures (c.has_demands.ensures no)

pub returns-in-None : goal.returns-in-None
returns-in-None c = λ no. subst DemandsNothing c.in-None.ensures tt
