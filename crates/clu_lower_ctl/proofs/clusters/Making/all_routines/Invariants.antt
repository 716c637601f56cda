use Rattle.std.proofs.Common.{All}
use Rattle.clu_lower_expr.specs.Bounds.{IsBounded}
use Rattle.clu_lower_ctl.proofs.clusters.Making.all_routines.Given as goal

-- each routine so far keeps to its bounds
abbrev pub invariant-loop-n : goal.invariant-loop-n
invariant-loop-n l = All IsBounded l.routines.items
