use Rattle.std.proofs.Common.{sym, subst}
use Rattle.clu_checking.specs.Files.{scope_in}
use Rattle.clu_settle.specs.Names.{AreMeanings}
use Rattle.clu_declares.proofs.Each.{are_meanings}
use Rattle.clu_declares.proofs.values_said.Goals as goal

pub returns : goal.returns
returns c t nodes rounds parsed are few all same settled = settled (scope_in nodes rounds) (subst (AreMeanings nodes (scope_in nodes rounds)) (sym same) (are_meanings t nodes rounds parsed are few))
