use Rattle.laws_link.proofs.Names.{listed_named, words_told}
use Rattle.laws_link.proofs.laws.names_differ.Goals as goal

pub returns : goal.returns
returns c = λ p. record { name = listed_named p; differ = words_told p }
