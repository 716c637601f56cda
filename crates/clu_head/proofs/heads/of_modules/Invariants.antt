use Rattle.std.proofs.Common.{take}
use Rattle.clu_types.specs.Arena.{Grows}
use Rattle.clu_head.specs.Modules.{AreOfModules}
use Rattle.clu_head.proofs.heads.of_modules.Given as goal

abbrev pub invariant-loop-n : goal.invariant-loop-n
invariant-loop-n l = record {
  modules : AreOfModules l.known l.asked l.fn.types l.types (take l.n-index l.nodes) l.modules.items;
  kept : Grows l.fn.types l.types;
}
