use Rattle.laws_operations.proofs.LoopIndexc.{indexc_right}
use Rattle.laws_operations.proofs.LoopIndexs.{indexs_right}
use Rattle.laws_operations.proofs.LoopStrings.{compared_right}
use Rattle.laws_operations.proofs.laws.searches_do_as_their_rows.Goals as goal

pub returns : goal.returns
returns c = record { compared = compared_right; indexc = indexc_right; indexs = indexs_right }
