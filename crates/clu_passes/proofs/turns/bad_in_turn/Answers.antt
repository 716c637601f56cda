use Rattle.clu_passes.proofs.Apart.{bits_are_bad, equate_right}
use Rattle.clu_passes.proofs.DeclaredOnce.{declare_once}
use Rattle.clu_passes.proofs.turns.bad_in_turn.Goals as goal

pub returns-clause-faults : goal.returns-clause-faults
returns-clause-faults c = λ f of names are order circular circles fault alone all marks e equate straight. equate_right f of names are (declare_once f.nodes f.rounds f.scope.declarations of.shaped all) order circular circles fault alone all marks e equate straight

pub returns-clause-bad : goal.returns-clause-bad
returns-clause-bad c = λ f of names are order circular circles fault alone all marks rules same e equate straight. bits_are_bad f of names are (declare_once f.nodes f.rounds f.scope.declarations of.shaped all) order circular circles fault alone all marks rules same e equate straight
