use Rattle.std.proofs.Common.{◌∙◌, sym, ap, length, arith}
use Rattle.clu_types.specs.Arena.{type_at, types_of}
use Rattle.clu_demands.specs.Asking.{instance_of}
use Rattle.clu_demands.proofs.Answering.{answers_at, instance_type, instance_in, builtin_answers}
use Rattle.clu_demands.proofs.asking.asked_of_other.Goals as goal

pub asked_of_instance-requires-clause-actuals_in : goal.asked_of_instance-requires-clause-actuals_in
asked_of_instance-requires-clause-actuals_in c =
    instance_in c.args.need.now.of.0 (length c.args.types.now) (omega (arith, c.requires.need_in.0)) c.view.result.now c.in-Some.instance (sym c.in-Some.is ∙ c.in_ok-instance.ensures) c.view.ensures.parts

pub returns-in-Some-clause-asks : goal.returns-in-Some-clause-asks
returns-in-Some-clause-asks c =
    λ given. answers_at given c.args.specs.now c.args.need.now.op _ _ _ _ _
    (c.view.ensures.of_type ∙ instance_type (types_of c.args.types.now) c.view.result.now c.in-Some.instance (sym c.in-Some.is ∙ c.in_ok-instance.ensures)) c.asked_of_instance.ensures.asks

pub returns-in-None-clause-asks : goal.returns-in-None-clause-asks
returns-in-None-clause-asks c =
    λ given. builtin_answers given c.args.specs.now (types_of c.args.types.now) c.view.result.now (type_at (types_of c.args.types.now) c.args.need.now.of) c.args.need.now.op
    (type_at (types_of c.args.types.now) c.args.need.now.wanted) c.view.ensures.of_type (c.requires.other c.view.result.now c.view.ensures.term) (sym c.in-None.is ∙ c.in_ok-instance.ensures) _ _ c.asked_of_builtin.ensures.asks
