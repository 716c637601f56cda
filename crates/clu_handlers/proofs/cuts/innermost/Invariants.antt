use Rattle.std.proofs.Common.{◌≡◌, drop}
use Rattle.clu_handlers.specs.Cuts.{innermost, innermost_behind}
use Rattle.clu_handlers.proofs.cuts.innermost.Given as goal

abbrev pub invariant-loop-number : goal.invariant-loop-number
invariant-loop-number l = innermost_behind l.innermost l.number (drop l.number l.regions) l.pc ≡ innermost l.regions l.pc
