use Rattle.std.proofs.Common.{◌∙◌, map}
use Rattle.clu_types.specs.Arena.{types_of}
use Rattle.clu_specs.specs.Seen.{demand_seen}
use Rattle.clu_demands.specs.Asking.{parameter_of}
use Rattle.clu_demands.proofs.Answering.{answers_at, parameter_type, has_none}
use Rattle.clu_demands.proofs.asking.asked_by.Goals as goal

pub returns-in-Some-clause-asks : goal.returns-in-Some-clause-asks
returns-in-Some-clause-asks c =
    answers_at (map (demand_seen (types_of c.args.types.now)) c.args.given.now) c.args.specs.now c.args.need.now.op _ _ _ _ _
    (c.view.ensures.of_type ∙ parameter_type (types_of c.args.types.now) c.view.result.now c.in-Some.n c.in-Some.ensures) c.asked_of_parameter.ensures.asks

pub asked_of_other-requires-clause-other : goal.asked_of_other-requires-clause-other
asked_of_other-requires-clause-other c = has_none parameter_of c.args.types.now c.args.need.now.of c.view.result.now c.view.ensures.term c.in-None.ensures

pub returns-in-None-clause-asks : goal.returns-in-None-clause-asks
returns-in-None-clause-asks c = c.asked_of_other.ensures.asks (map (demand_seen (types_of c.args.types.now)) c.args.given.now)
