use Rattle.std.proofs.Common.{arith}
use Rattle.clu_words.proofs.Numeral.{numeral_parses}
use Rattle.clu_words.proofs.number.number_within.Goals as goal

pub returns-in-Ok : goal.returns-in-Ok
returns-in-Ok c = let h = numeral_parses c.args.text.now _ c.parse.ensures.value.0 in grind (arith, h)

pub returns-in_default : goal.returns-in_default
returns-in_default c = let h = numeral_parses c.args.text.now _ c.parse.ensures.value.0 in grind (arith, h)

pub returns-in_default-2 : goal.returns-in_default-2
returns-in_default-2 c = let h = numeral_parses c.args.text.now _ c.parse.ensures.value.0 in grind (arith, h)

pub returns-in_default-3 : goal.returns-in_default-3
returns-in_default-3 c = let h = numeral_parses c.args.text.now _ c.parse.ensures.value.0 in grind (arith, h)
