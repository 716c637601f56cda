use Rattle.std.proofs.Common.{true≢false, length, refl, sym}
use Rattle.clu_types.proofs.Carrying.{grows_on}
use Rattle.clu_demands.proofs.Closing.{given_below}
use Rattle.clu_sound.proofs.Judging.{routines_first, routines_more, routines_not, routines_all, op_at, op_grown}
use Rattle.clu_sound.proofs.sound.are_routines_met.Goals as goal

pub loop-op-init : goal.loop-op-init
loop-op-init c = routines_first c.args.specs.now c.args.types.now c.args.demands.now c.args.ops.now

pub is_op_met-requires-clause-op_in : goal.is_op_met-requires-clause-op_in
is_op_met-requires-clause-op_in c = op_grown c.args.types.now c.loop-op.types c.loop-op.invariant.grows c.op-item.result (op_at (length c.args.types.now) c.args.ops.now c.loop-op.op-index c.op-item.result c.op-item.is c.requires.ops_in c.loop-op-test.true)

pub is_op_met-requires-clause-demands_in : goal.is_op_met-requires-clause-demands_in
is_op_met-requires-clause-demands_in c = given_below c.args.demands.now c.args.types.now c.loop-op.types c.loop-op.invariant.grows c.requires.demands_in

pub returns-then-not-is_one_met : goal.returns-then-not-is_one_met
returns-then-not-is_one_met c = record {
  met = (λ t. absurd (true≢false (sym t)), λ m. absurd (routines_not c.args.specs.now c.args.types.now c.args.demands.now c.args.ops.now c.loop-op.types c.is_op_met.new.types c.loop-op.op-index c.op-item.result _ c.requires.demands_in c.requires.ops_in c.loop-op-test.true c.op-item.is c.loop-op.invariant c.in_ok-is_one_met.ensures.kept c.in_ok-is_one_met.ensures.met c.if-not-is_one_met.true m));
  kept = grows_on c.args.types.now c.loop-op.types c.is_op_met.new.types c.loop-op.invariant.grows c.in_ok-is_one_met.ensures.kept;
}

pub loop-op-preserved : goal.loop-op-preserved
loop-op-preserved c =
    routines_more c.args.specs.now c.args.types.now c.args.demands.now c.args.ops.now c.loop-op.types c.is_op_met.new.types c.loop-op.op-index c.op-item.result _ c.requires.demands_in c.requires.ops_in c.loop-op-test.true c.op-item.is c.loop-op.invariant c.in_ok-is_one_met.ensures.kept c.in_ok-is_one_met.ensures.met c.if-not-is_one_met.false

pub returns : goal.returns
returns c = record {
  met = (λ t. routines_all c.args.specs.now c.args.types.now c.args.demands.now c.args.ops.now c.loop-op.types c.loop-op.op-index c.loop-op-test.false c.loop-op.invariant, λ m. refl);
  kept = c.loop-op.invariant.grows;
}
