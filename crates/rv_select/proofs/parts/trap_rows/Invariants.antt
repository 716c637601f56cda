use Rattle.std.proofs.Common.{◌≡◌, drop}
use Rattle.rv_select.specs.Runtime.{trap_rows_onto}
use Rattle.rv_select.specs.Written.{written}
use Rattle.rv_select.proofs.parts.trap_rows.Given as goal

-- the traps that are left add the rest
abbrev pub invariant-loop-trap : goal.invariant-loop-trap
invariant-loop-trap l = trap_rows_onto l.raise (drop l.trap-index l.traps) (written l.words) ≡ trap_rows_onto l.raise l.traps (written l.fn.words)
