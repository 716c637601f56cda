use Rattle.laws_operations.proofs.NumberValues.{chars_right, ints_right}
use Rattle.laws_operations.proofs.laws.numbers_do_as_their_rows.Goals as goal

pub returns : goal.returns
returns c = record { ints = ints_right; chars = chars_right }
