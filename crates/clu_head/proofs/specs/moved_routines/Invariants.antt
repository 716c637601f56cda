use Rattle.std.proofs.Common.{take}
use Rattle.std.specs.List.{AllZip, filter}
use Rattle.clu_types.specs.Arena.{Grows}
use Rattle.clu_head.specs.Kept.{IsRoutineOf}
use Rattle.clu_head.proofs.specs.moved_routines.Given as goal

abbrev pub invariant-loop-routine : goal.invariant-loop-routine
invariant-loop-routine l = record {
  made : AllZip (IsRoutineOf l.from l.to) (filter (λ r. r.exported) (take l.routine-index l.routines)) l.all.items;
  kept : Grows l.fn.to l.to;
}
