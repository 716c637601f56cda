use Rattle.std.proofs.Common.{◌∙◌, [], sym, inr}
use Rattle.clu_settle.proofs.Made.{ok_more}
use Rattle.clu_settle.proofs.Found.{told_there, beside_lost}
use Rattle.clu_settle.proofs.operators.infix_value.Goals as goal

pub returns-in-Constant-right-clause-lost : goal.returns-in-Constant-right-clause-lost
returns-in-Constant-right-clause-lost c = ok_more _ _ c.folded_value.result c.folded_value.ensures.known (λ v p lost. absurd (told_there [] c.folded_value.new.constants v _ (p []) lost))

pub returns-in_default-clause-lost : goal.returns-in_default-clause-lost
returns-in_default-clause-lost c = λ lost. inr (beside_lost c.args.right (sym c.nothing_beside-in_default.ensures ∙ lost))
