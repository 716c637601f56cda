use Rattle.laws_replacing.proofs.Programs.{kept_programs}
use Rattle.laws_replacing.proofs.laws.kept_programs_rest.Goals as goal

pub returns : goal.returns
returns c = λ before after s is p h. kept_programs before after s is p h
