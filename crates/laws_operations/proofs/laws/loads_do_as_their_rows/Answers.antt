use Rattle.laws_operations.proofs.ArrayLoads.{arrays_right}
use Rattle.laws_operations.proofs.SequenceLoads.{sequences_right}
use Rattle.laws_operations.proofs.StringLoads.{string_loads_right}
use Rattle.laws_operations.proofs.laws.loads_do_as_their_rows.Goals as goal

pub returns : goal.returns
returns c = record { strings = string_loads_right; sequences = sequences_right; arrays = arrays_right }
