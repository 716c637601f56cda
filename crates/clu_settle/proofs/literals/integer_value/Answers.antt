use Rattle.std.proofs.Common.{[]}
use Rattle.std.proofs.lemmas.Bool.{le-leb}
use Rattle.clu_settle.proofs.Made.{ok_more}
use Rattle.clu_settle.proofs.Found.{told_there}
use Rattle.clu_settle.proofs.literals.integer_value.Goals as goal

pub returns-in-Some-clause-lost : goal.returns-in-Some-clause-lost
returns-in-Some-clause-lost c = ok_more _ _ c.keep.result c.keep.ensures.known (λ v p lost. absurd (told_there [] c.keep.new.constants v _ (p []) lost))

pub returns-in-None-clause-lost : goal.returns-in-None-clause-lost
returns-in-None-clause-lost c = λ lost. le-leb _ _ c.in-None.ensures
