use Rattle.std.proofs.Common.{sym, subst, take}
use Rattle.std.proofs.lemmas.List.{take_more}
use Rattle.clu_types.specs.Carried.{AreAdded}
use Rattle.clu_types.specs.Numbering.{numbers_of}
use Rattle.clu_types.proofs.Needing.{added_next}
use Rattle.clu_types.proofs.numbering.Numbering.need.Goals as goal

pub loop-id-preserved : goal.loop-id-preserved
loop-id-preserved c =
    subst (AreAdded (numbers_of c.args.self.now) (numbers_of c.put.new.self)) (sym (take_more c.args.ids.now c.loop-id.id-index _ c.loop-id-test.true))
    (added_next (numbers_of c.args.self.now) (numbers_of c.loop-id.self) (numbers_of c.put.new.self) (take c.loop-id.id-index c.args.ids.now) _ c.loop-id.invariant c.in_ok-put.ensures)
