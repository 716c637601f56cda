use Rattle.std.proofs.Common.{◌≤◌, length}
use Rattle.clu_library.proofs.library.Library.modules.Given as goal

abbrev pub invariant-loop-n : goal.invariant-loop-n
invariant-loop-n l = l.n ≤ length l.self.specs
