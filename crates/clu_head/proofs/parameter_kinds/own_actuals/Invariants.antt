use Rattle.std.proofs.Common.{take}
use Rattle.clu_types.specs.Arena.{Grows}
use Rattle.clu_head.specs.OwnTypes.{AreOwn}
use Rattle.clu_head.proofs.parameter_kinds.own_actuals.Given as goal

abbrev pub invariant-loop-kind : goal.invariant-loop-kind
invariant-loop-kind l = record {
  own : AreOwn l.types 0 (take l.kind-index l.kinds) l.actuals.items;
  kept : Grows l.fn.types l.types;
}
