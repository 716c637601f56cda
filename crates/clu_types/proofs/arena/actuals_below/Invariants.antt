use Rattle.std.proofs.Common.{◌↔◌, drop}
use Rattle.clu_types.specs.Arena.{ActualsBelow}
use Rattle.clu_types.proofs.arena.actuals_below.Given as goal

-- those that are left decide
abbrev pub invariant-loop-actual : goal.invariant-loop-actual
invariant-loop-actual l = ActualsBelow l.n (drop l.actual-index l.actuals) ↔ ActualsBelow l.n l.actuals
