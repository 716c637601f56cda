use Rattle.clu_types.specs.Arena.{types_of}
use Rattle.clu_sound.proofs.Judging.{op_filled, op_in, op_ok}
use Rattle.clu_sound.proofs.sound.is_routine_met_in.Goals as goal

pub are_met-requires-clause-ids_in : goal.are_met-requires-clause-ids_in
are_met-requires-clause-ids_in c = op_in _ c.add_op.new.ids.keys c.args.op.now (op_filled c.args.ids.now.keys c.add_op.new.ids.keys c.args.op.now c.requires.none c.in_ok-add_op.ensures) c.requires.op_in

pub returns-clause-met : goal.returns-clause-met
returns-clause-met c =
    op_ok c.args.given.now c.args.specs.now (types_of c.args.types.now) c.args.op.now c.add_op.new.ids.keys (op_filled c.args.ids.now.keys c.add_op.new.ids.keys c.args.op.now c.requires.none c.in_ok-add_op.ensures) _ c.are_met.ensures.met
