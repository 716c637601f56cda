use Rattle.std.proofs.Common.{◌≡◌, take}
use Rattle.clu_demands.proofs.asking.copied.Given as goal

abbrev pub invariant-loop-actual : goal.invariant-loop-actual
invariant-loop-actual l = l.made.items ≡ take l.actual-index l.actuals
