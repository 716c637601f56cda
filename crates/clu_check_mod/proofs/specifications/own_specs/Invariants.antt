use Rattle.std.proofs.Common.{take}
use Rattle.clu_check_mod.specs.Modules.{AreMade, AreOf}
use Rattle.clu_check_mod.proofs.specifications.own_specs.Given as goal

abbrev pub invariant-loop-n : goal.invariant-loop-n
invariant-loop-n l = record {
  own : AreOf l.tree (take l.n-index l.numbers) l.own.items;
  made : AreMade l.types l.heads l.own.items;
}
