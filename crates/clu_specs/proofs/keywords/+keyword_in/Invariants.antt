use Rattle.std.proofs.Common.{length}
use Rattle.clu_specs.proofs.keywords.+keyword_in.Given as goal

abbrev pub decreases-keyword_in : goal.decreases-keyword_in
decreases-keyword_in l = length l.table.now
