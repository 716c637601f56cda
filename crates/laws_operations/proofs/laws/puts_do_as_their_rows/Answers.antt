use Rattle.laws_operations.proofs.Puts.{set_right, store_right, two_steps}
use Rattle.laws_operations.proofs.laws.puts_do_as_their_rows.Goals as goal

pub returns : goal.returns
returns c = record { store = store_right; set = set_right; entered = two_steps }
