use Rattle.std.proofs.Common.{length}
use Rattle.clu_specs.proofs.scope.Scope.+left_of_number.Given as goal

abbrev pub decreases-left_of_number : goal.decreases-left_of_number
decreases-left_of_number l = length l.bytes.now
