use Rattle.laws_operations.proofs.Changing.{changes_right}
use Rattle.laws_operations.proofs.EmptyArrays.{create_right, new_right, predict_right}
use Rattle.laws_operations.proofs.SetLow.{set_low_right}
use Rattle.laws_operations.proofs.Variants.{variants_right}
use Rattle.laws_operations.proofs.laws.cells_do_as_their_rows.Goals as goal

pub returns : goal.returns
returns c = record { made = variants_right; changed = changes_right; emptied = new_right; created = create_right; predicted = predict_right; lowered = set_low_right }
