use Rattle.std.proofs.Common.{[], ◌∙◌, ap}
use Rattle.clu_syntax.specs.declared.words.Literal.{Literal}
use Rattle.clu_syntax.specs.Words.{literal_told}
use Rattle.clu_settle.specs.Lost.{is_too_large}
use Rattle.clu_settle.proofs.Made.{ok_more}
use Rattle.clu_settle.proofs.Found.{told_there}
use Rattle.clu_settle.proofs.literals.literal_value.Goals as goal

pub returns-in-Nil-clause-lost : goal.returns-in-Nil-clause-lost
returns-in-Nil-clause-lost c = ok_more _ _ c.keep.result c.keep.ensures.known (λ v p lost. absurd (told_there [] c.keep.new.constants v _ (p []) lost))

pub returns-in-True-clause-lost : goal.returns-in-True-clause-lost
returns-in-True-clause-lost c = ok_more _ _ c.keep-in-True.result c.keep-in-True.ensures.known (λ v p lost. absurd (told_there [] c.keep-in-True.new.constants v _ (p []) lost))

pub returns-in-False-clause-lost : goal.returns-in-False-clause-lost
returns-in-False-clause-lost c = ok_more _ _ c.keep-in-False.result c.keep-in-False.ensures.known (λ v p lost. absurd (told_there [] c.keep-in-False.new.constants v _ (p []) lost))

pub returns-in-Integer-clause-lost : goal.returns-in-Integer-clause-lost
returns-in-Integer-clause-lost c = ok_more _ _ c.integer_value.result c.integer_value.ensures.lost (λ v p lost. ap (λ (l : Literal). is_too_large (literal_told l)) c.in-Integer.is ∙ p lost)

pub returns-in-Character-clause-lost : goal.returns-in-Character-clause-lost
returns-in-Character-clause-lost c = ok_more _ _ c.character_value.result c.character_value.ensures.lost (λ v p lost. absurd (p lost))

pub returns-in-String-clause-lost : goal.returns-in-String-clause-lost
returns-in-String-clause-lost c = ok_more _ _ c.string_value.result c.string_value.ensures.lost (λ v p lost. absurd (p lost))
