use Rattle.std.proofs.Common.{take}
use Rattle.std.specs.List.{AllZip}
use Rattle.clu_types.specs.Arena.{Grows}
use Rattle.clu_head.specs.Kept.{IsDemandOf}
use Rattle.clu_head.proofs.specs.moved_demands.Given as goal

abbrev pub invariant-loop-demand : goal.invariant-loop-demand
invariant-loop-demand l = record {
  made : AllZip (IsDemandOf l.from l.to) (take l.demand-index l.demands) l.all.items;
  kept : Grows l.fn.to l.to;
}
