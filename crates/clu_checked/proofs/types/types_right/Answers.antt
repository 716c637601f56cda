use Rattle.clu_checked.proofs.TypesRight.{bits_right, known_ascending, refused_right}
use Rattle.clu_checked.proofs.types.types_right.Goals as goal

pub returns-clause-bits : goal.returns-clause-bits
returns-clause-bits c = bits_right

pub returns-clause-refused : goal.returns-clause-refused
returns-clause-refused c = refused_right

pub returns-clause-ascend : goal.returns-clause-ascend
returns-clause-ascend c = known_ascending
