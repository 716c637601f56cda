use Rattle.clu_types.specs.declared.term.TypeId.{TypeId}
use Rattle.clu_types.proofs.Carrying.{id_below}
use Rattle.clu_operations.proofs.InPlace.{placed_none, placed_more}
use Rattle.clu_operations.proofs.builtins.in_place.Goals as goal

pub loop-id-init : goal.loop-id-init
loop-id-init c = rw c.new-made.ensures.items (placed_none _ _ _ _)

pub put-requires-clause-id_in : goal.put-requires-clause-id_in
put-requires-clause-id_in c = let d : TypeId = record { 0 = 0 } in id_below _ _ _ d c.requires.ids_in c.loop-id-test.true

pub loop-id-preserved : goal.loop-id-preserved
loop-id-preserved c =
    let d : TypeId = record { 0 = 0 } in
    rw c.in_ok-push.ensures.items (placed_more _ _ _ _ _ _ _ d _ c.loop-id-test.true c.loop-id.invariant c.put.ensures.put c.put.ensures.within)
