use Rattle.std.proofs.Common.{◌≡◌}
use Rattle.clu_lower_ctl.proofs.given.give_member.Given as goal

-- the syntax stays
abbrev pub invariant-loop-restriction : goal.invariant-loop-restriction
invariant-loop-restriction l = l.fixed.syntax ≡ l.initial.fixed.syntax
