use Rattle.std.proofs.Common.{length}
use Rattle.clu_builtin.specs.Built.{NeedsBelow}
use Rattle.clu_types.specs.Arena.{Grows}
use Rattle.clu_reach.proofs.denoting.are_met.Given as goal

-- the arena only grew
abbrev pub invariant-loop-need : goal.invariant-loop-need
invariant-loop-need l = Grows l.fn.types l.types × NeedsBelow (length l.types) l.needs
