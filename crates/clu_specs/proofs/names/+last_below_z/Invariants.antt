use Rattle.std.proofs.Common.{length}
use Rattle.clu_specs.proofs.names.+last_below_z.Given as goal

abbrev pub decreases-last_below_z : goal.decreases-last_below_z
decreases-last_below_z l = length l.name.now
