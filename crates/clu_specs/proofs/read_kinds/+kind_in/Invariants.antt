use Rattle.std.proofs.Common.{length}
use Rattle.clu_specs.proofs.read_kinds.+kind_in.Given as goal

abbrev pub decreases-kind_in : goal.decreases-kind_in
decreases-kind_in l = length l.table.now
