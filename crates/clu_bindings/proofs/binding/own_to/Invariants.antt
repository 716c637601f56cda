use Rattle.clu_types.specs.Arena.{Grows}
use Rattle.clu_bindings.specs.Owned.{AreOwned}
use Rattle.clu_bindings.proofs.binding.own_to.Given as goal

abbrev pub invariant-loop-n : goal.invariant-loop-n
invariant-loop-n l = record {
  own : AreOwned l.types l.fn.values l.fn.syntax l.n l.all.items;
  kept : Grows l.fn.types l.types;
}
