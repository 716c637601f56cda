use Rattle.laws_accepted.proofs.BuiltinsHold.{builtins_hold}
use Rattle.laws_accepted.proofs.laws.builtins_are_lawful.Goals as goal

pub returns : goal.returns
returns c = λ program specified routines legal texts. builtins_hold program specified routines legal texts
