use Rattle.std.proofs.Common.{◌≡◌, drop}
use Rattle.std.specs.List.{find}
use Rattle.clu_lower_types.specs.Given.{is_demand}
use Rattle.clu_lower_types.proofs.fixed.demand_of.Given as goal

abbrev pub invariant-loop-demand : goal.invariant-loop-demand
invariant-loop-demand l = find (is_demand l.param l.op) (drop l.demand-index l.demands) ≡ find (is_demand l.param l.op) l.demands
