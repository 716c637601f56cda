use Rattle.std.proofs.Common.{length}
use Rattle.clu_specs.proofs.marks.+literal.Given as goal

abbrev pub decreases-literal : goal.decreases-literal
decreases-literal l = length l.bytes.now
