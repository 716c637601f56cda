use Rattle.std.proofs.Common.{drop}
use Rattle.clu_demands.proofs.Exporting.{AreDemanded}
use Rattle.clu_demands.proofs.exported.all_demanded.Given as goal

abbrev pub invariant-loop-demand : goal.invariant-loop-demand
invariant-loop-demand l = AreDemanded l.from l.actuals l.fn.types l.demands l.types (drop l.demand-index l.demands) l.made.items
