use Rattle.laws_operations.proofs.Pairs.{c2s_right, e2s_right, make_right}
use Rattle.laws_operations.proofs.laws.pairs_do_as_their_rows.Goals as goal

pub returns : goal.returns
returns c = record { strings = c2s_right; sequences = e2s_right; oneofs = make_right }
