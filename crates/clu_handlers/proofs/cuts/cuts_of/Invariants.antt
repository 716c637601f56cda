use Rattle.std.proofs.Common.{◌-◌, ◌^◌}
use Rattle.clu_handlers.proofs.Cutting.{CutSoFar}
use Rattle.clu_handlers.proofs.cuts.cuts_of.Given as goal

abbrev pub invariant-loop-from : goal.invariant-loop-from
invariant-loop-from l = CutSoFar l.regions l.cuts.items l.from

abbrev pub decreases-loop-from : goal.decreases-loop-from
decreases-loop-from l = 2 ^ 32 - l.from
