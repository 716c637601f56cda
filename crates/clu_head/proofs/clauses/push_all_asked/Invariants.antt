use Rattle.std.proofs.Common.{take}
use Rattle.clu_types.specs.Arena.{Grows}
use Rattle.clu_head.specs.Wanted.{HaveAsked}
use Rattle.clu_head.proofs.clauses.push_all_asked.Given as goal

abbrev pub invariant-loop-asking : goal.invariant-loop-asking
invariant-loop-asking l = record {
  asked : HaveAsked l.known l.fn.types l.types (take l.asking-index l.all) l.fn.demands.items l.demands.items;
  kept : Grows l.fn.types l.types;
}
