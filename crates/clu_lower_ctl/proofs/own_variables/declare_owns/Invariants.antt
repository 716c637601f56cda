use Rattle.std.proofs.Common.{◌≡◌}
use Rattle.clu_lower_ctl.proofs.own_variables.declare_owns.Given as goal

-- the syntax stays
abbrev pub invariant-loop-own : goal.invariant-loop-own
invariant-loop-own l = l.fixed.syntax ≡ l.initial.fixed.syntax
