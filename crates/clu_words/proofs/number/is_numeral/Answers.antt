use Rattle.std.proofs.Common.{rules}
use Rattle.clu_words.proofs.Numeral.{numeral_of_some}
use Rattle.clu_words.proofs.number.is_numeral.Goals as goal

pub returns-in-len1-up : goal.returns-in-len1-up
returns-in-len1-up c = numeral_of_some c.args.text.now c.are_digits.result (search rules) c.are_digits.ensures
