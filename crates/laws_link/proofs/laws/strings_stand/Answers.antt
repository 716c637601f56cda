use Rattle.laws_link.proofs.Strings.{name_of_word, string_stands}
use Rattle.laws_link.proofs.laws.strings_stand.Goals as goal

pub returns : goal.returns
returns c = λ p. record { byte = string_stands p; name = name_of_word p }
