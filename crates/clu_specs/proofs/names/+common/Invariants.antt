use Rattle.std.proofs.Common.{length}
use Rattle.clu_specs.proofs.names.+common.Given as goal

abbrev pub decreases-common : goal.decreases-common
decreases-common l = length l.b.now
