use Rattle.clu_types.specs.Arena.{types_of}
use Rattle.clu_specs.proofs.Writing.{parts_pushed}
use Rattle.clu_specs.proofs.write_types.write_piece.Goals as goal

pub returns-in-Types : goal.returns-in-Types
returns-in-Types c =
    parts_pushed (types_of c.args.types.now) c.push_more_types.result c.args.out.now.items c.args.stack.now.items c.push_more_types.new.stack.items c.args.piece _ c.in-Types.is (c.push_more_types.ensures (types_of c.args.types.now))

pub returns-in-Fields : goal.returns-in-Fields
returns-in-Fields c =
    parts_pushed (types_of c.args.types.now) c.push_more_fields.result c.args.out.now.items c.args.stack.now.items c.push_more_fields.new.stack.items c.args.piece _ c.in-Fields.is (c.push_more_fields.ensures (types_of c.args.types.now))

pub returns-in-Signals : goal.returns-in-Signals
returns-in-Signals c =
    parts_pushed (types_of c.args.types.now) c.push_more_signals.result c.args.out.now.items c.args.stack.now.items c.push_more_signals.new.stack.items c.args.piece _ c.in-Signals.is (c.push_more_signals.ensures (types_of c.args.types.now))

pub returns-in-Actuals : goal.returns-in-Actuals
returns-in-Actuals c =
    parts_pushed (types_of c.args.types.now) c.push_more_actuals.result c.args.out.now.items c.args.stack.now.items c.push_more_actuals.new.stack.items c.args.piece _ c.in-Actuals.is (c.push_more_actuals.ensures (types_of c.args.types.now))

pub returns-in-Kinds : goal.returns-in-Kinds
returns-in-Kinds c =
    parts_pushed (types_of c.args.types.now) c.push_more_kinds.result c.args.out.now.items c.args.stack.now.items c.push_more_kinds.new.stack.items c.args.piece _ c.in-Kinds.is (c.push_more_kinds.ensures (types_of c.args.types.now))

pub returns-in-Demands : goal.returns-in-Demands
returns-in-Demands c =
    parts_pushed (types_of c.args.types.now) c.push_more_demands.result c.args.out.now.items c.args.stack.now.items c.push_more_demands.new.stack.items c.args.piece _ c.in-Demands.is (c.push_more_demands.ensures (types_of c.args.types.now))

pub returns-in-Operations : goal.returns-in-Operations
returns-in-Operations c =
    parts_pushed (types_of c.args.types.now) c.push_operations.result c.args.out.now.items c.args.stack.now.items c.push_operations.new.stack.items c.args.piece _ c.in-Operations.is (c.push_operations.ensures (types_of c.args.types.now))
