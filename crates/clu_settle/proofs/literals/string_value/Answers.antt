use Rattle.std.proofs.Common.{[]}
use Rattle.clu_settle.proofs.Made.{ok_more}
use Rattle.clu_settle.proofs.Found.{told_there}
use Rattle.clu_settle.proofs.literals.string_value.Goals as goal

pub returns-in-Some-clause-lost : goal.returns-in-Some-clause-lost
returns-in-Some-clause-lost c = ok_more _ _ c.keep.result c.keep.ensures.known (λ v p lost. told_there [] c.keep.new.constants v _ (p []) lost)
