use Rattle.std.proofs.Common.{get_or}
use Rattle.clu_types.specs.declared.term.TypeId.{TypeId}
use Rattle.clu_types.proofs.Carrying.{id_below, given_more}
use Rattle.clu_demands.proofs.Bringing.{carried_more}
use Rattle.clu_demands.proofs.carried.carry_all.Goals as goal

pub carry-requires-clause-t_in : goal.carry-requires-clause-t_in
carry-requires-clause-t_in c = let d : TypeId = record { 0 = 0 } in id_below _ _ _ d c.requires.ids_in c.loop-id-test.true

pub carry-requires-clause-actuals_in : goal.carry-requires-clause-actuals_in
carry-requires-clause-actuals_in c = given_more _ _ c.loop-id.invariant.grows _ c.requires.actuals_in

pub loop-id-preserved : goal.loop-id-preserved
loop-id-preserved c =
    let d : TypeId = record { 0 = 0 } in
    rw c.in_ok-push.ensures.items
    (carried_more c.args.from.now c.args.actuals.now c.args.types.now c.loop-id.types c.carry.new.self c.args.ids.now c.loop-id.made.items c.loop-id.id-index d c.in_ok-carried.carried
    c.loop-id-test.true c.requires.actuals_in c.loop-id.invariant c.in_ok-carried.ensures.kept c.in_ok-carried.ensures.within c.in_ok-carried.ensures.of_type)
