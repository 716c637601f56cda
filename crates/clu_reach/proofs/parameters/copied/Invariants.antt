use Rattle.std.proofs.Common.{◌≡◌, take}
use Rattle.clu_reach.proofs.parameters.copied.Given as goal

-- those before the place are copied
abbrev pub invariant-loop-actual : goal.invariant-loop-actual
invariant-loop-actual l = l.copies.items ≡ take l.actual-index l.actuals
