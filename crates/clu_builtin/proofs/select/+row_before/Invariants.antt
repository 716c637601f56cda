use Rattle.std.proofs.Common.{length}
use Rattle.clu_builtin.proofs.select.+row_before.Given as goal

abbrev pub decreases-row_before : goal.decreases-row_before
decreases-row_before l = length l.rows.now
