use Rattle.laws_accepted.proofs.FileTexts.{texts_there}
use Rattle.laws_accepted.proofs.laws.files_are_as_specified.Goals as goal

pub returns : goal.returns
returns c = λ f alone. texts_there f alone
