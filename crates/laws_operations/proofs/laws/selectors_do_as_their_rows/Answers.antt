use Rattle.laws_operations.proofs.ComponentLoads.{oneofs_right, records_right, structs_right, variants_right}
use Rattle.laws_operations.proofs.laws.selectors_do_as_their_rows.Goals as goal

pub returns : goal.returns
returns c = record { records = records_right; structs = structs_right; oneofs = oneofs_right; variants = variants_right }
