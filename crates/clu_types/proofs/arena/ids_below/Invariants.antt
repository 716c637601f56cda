use Rattle.std.proofs.Common.{◌↔◌, drop}
use Rattle.clu_types.specs.Arena.{AreBelow}
use Rattle.clu_types.proofs.arena.ids_below.Given as goal

-- those that are left decide
abbrev pub invariant-loop-id : goal.invariant-loop-id
invariant-loop-id l = AreBelow l.n (drop l.id-index l.ids) ↔ AreBelow l.n l.ids
