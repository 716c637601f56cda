use Rattle.std.proofs.Common.{◌≡◌, option_map, ap, sym, subst, IfOk, Option}
use Rattle.clu_types.specs.Arena.{type_at, types_of, actuals_at}
use Rattle.clu_types.specs.Substituted.{substituted}
use Rattle.clu_types.specs.declared.spec.OpSpec.{OpSpec}
use Rattle.clu_demands.specs.Meeting.{op_type}
use Rattle.clu_operations.proofs.Pushing.{routine_whole}
use Rattle.clu_operations.proofs.parts.kept_type.Goals as goal

pub returns-in-Some-clause-of_type : goal.returns-in-Some-clause-of_type
returns-in-Some-clause-of_type c = λ whole below.
    subst
    (λ (o : Option OpSpec). IfOk c.routine_type.result (λ of. option_map (type_at (types_of c.routine_type.new.types)) of ≡ option_map (λ op. substituted (actuals_at (types_of c.args.types.now) c.args.actuals.now) (op_type (types_of c.args.spec.now.types) op)) o))
    c.in-Some.ensures (c.routine_type.ensures.of_type (routine_whole _ c.args.spec.now.form c.args.part c.in-Some.routine.now whole (sym c.in-Some.ensures)) below)

pub returns-in-None-clause-of_type : goal.returns-in-None-clause-of_type
returns-in-None-clause-of_type c = λ whole below. ap (option_map (λ (op : OpSpec). substituted (actuals_at (types_of c.args.types.now) c.args.actuals.now) (op_type (types_of c.args.spec.now.types) op))) c.in-None.ensures
