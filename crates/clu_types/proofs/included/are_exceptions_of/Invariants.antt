use Rattle.std.proofs.Common.{◌↔◌, drop}
use Rattle.clu_types.specs.Narrower.{AreExceptionsOf, AreAmongThese}
use Rattle.clu_types.proofs.included.are_exceptions_of.Given as goal

abbrev pub invariant-loop-wanted : goal.invariant-loop-wanted
invariant-loop-wanted l = (AreExceptionsOf (drop l.wanted-index l.few) l.many ↔ AreExceptionsOf l.few l.many) × AreAmongThese l.left l.many
