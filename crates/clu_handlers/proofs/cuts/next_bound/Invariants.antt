use Rattle.std.proofs.Common.{◌≡◌, drop}
use Rattle.clu_handlers.specs.Cuts.{next_behind, next_bound}
use Rattle.clu_handlers.proofs.cuts.next_bound.Given as goal

abbrev pub invariant-loop-region : goal.invariant-loop-region
invariant-loop-region l = next_behind l.next (drop l.region-index l.regions) l.pc ≡ next_bound l.regions l.pc
