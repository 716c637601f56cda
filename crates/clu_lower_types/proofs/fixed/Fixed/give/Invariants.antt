use Rattle.std.proofs.Common.{◌≡◌}
use Rattle.clu_lower_types.proofs.fixed.Fixed.give.Given as goal

-- the syntax stays
abbrev pub invariant-loop-demand : goal.invariant-loop-demand
invariant-loop-demand l = l.self.syntax ≡ l.initial.self.syntax
