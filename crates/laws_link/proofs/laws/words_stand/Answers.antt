use Rattle.laws_link.proofs.CodeWords.{code_length, unfilled}
use Rattle.laws_link.proofs.laws.words_stand.Goals as goal

pub returns : goal.returns
returns c = λ p. record { word = unfilled p; all = code_length p }
