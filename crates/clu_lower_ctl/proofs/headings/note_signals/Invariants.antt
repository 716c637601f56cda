use Rattle.std.proofs.Common.{◌≡◌}
use Rattle.clu_lower_ctl.proofs.headings.note_signals.Given as goal

-- the syntax stays
abbrev pub invariant-loop-exception : goal.invariant-loop-exception
invariant-loop-exception l = l.fixed.syntax ≡ l.initial.fixed.syntax
