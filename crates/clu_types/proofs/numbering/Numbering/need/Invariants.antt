use Rattle.std.proofs.Common.{take}
use Rattle.clu_types.specs.Numbering.{numbers_of}
use Rattle.clu_types.specs.Carried.{AreAdded}
use Rattle.clu_types.proofs.numbering.Numbering.need.Given as goal

abbrev pub invariant-loop-id : goal.invariant-loop-id
invariant-loop-id l = AreAdded (numbers_of l.initial.self) (numbers_of l.self) (take l.id-index l.ids)
