use Rattle.std.proofs.Common.{◌≡◌}
use Rattle.clu_lower_ctl.proofs.own_variables.declare_own.Given as goal

-- the syntax stays
abbrev pub invariant-loop-declared : goal.invariant-loop-declared
invariant-loop-declared l = l.fixed.syntax ≡ l.initial.fixed.syntax
