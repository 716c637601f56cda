use Rattle.laws_operations.proofs.ComponentLoads.{records_equal, variants_equal}
use Rattle.laws_operations.proofs.PlainValues.{bools_right}
use Rattle.laws_operations.proofs.Sameness.{arrays_equal, iters_right, nulls_right, procs_right, streams_right, strings_right}
use Rattle.laws_operations.proofs.laws.words_tell_objects_apart.Goals as goal

pub returns : goal.returns
returns c = record { nulls = nulls_right; bools = bools_right; strings = strings_right; streams = streams_right; procs = procs_right; iters = iters_right; arrays = arrays_equal; records = records_equal; variants = variants_equal }
