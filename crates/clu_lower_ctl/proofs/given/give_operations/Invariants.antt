use Rattle.std.proofs.Common.{◌≡◌}
use Rattle.clu_lower_ctl.proofs.given.give_operations.Given as goal

-- the syntax stays
abbrev pub invariant-loop-operation : goal.invariant-loop-operation
invariant-loop-operation l = l.fixed.syntax ≡ l.initial.fixed.syntax
