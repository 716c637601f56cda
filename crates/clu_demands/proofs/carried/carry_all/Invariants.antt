use Rattle.std.proofs.Common.{take}
use Rattle.clu_demands.proofs.Bringing.{AreCarried}
use Rattle.clu_demands.proofs.carried.carry_all.Given as goal

abbrev pub invariant-loop-id : goal.invariant-loop-id
invariant-loop-id l = AreCarried l.from l.actuals l.fn.types l.types (take l.id-index l.ids) l.made.items
