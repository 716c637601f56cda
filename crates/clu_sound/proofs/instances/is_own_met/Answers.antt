use Rattle.std.proofs.Common.{map, sym, ◌∙◌, length, arith}
use Rattle.clu_types.specs.Arena.{types_of}
use Rattle.clu_specs.specs.Seen.{demand_seen}
use Rattle.clu_demands.proofs.Answering.{instance_in}
use Rattle.clu_sound.proofs.Judging.{own_instance, own_none}
use Rattle.clu_sound.proofs.instances.is_own_met.Goals as goal

pub is_instance_met-requires-clause-actuals_in : goal.is_instance_met-requires-clause-actuals_in
is_instance_met-requires-clause-actuals_in c = instance_in c.args.id.0 (length c.args.types.now) (omega (arith, c.requires.id_in)) c.view.result.now c.in-Some.instance (sym c.in-Some.is ∙ c.in_ok-instance.ensures) c.view.ensures.parts

pub returns-in-Some-clause-met : goal.returns-in-Some-clause-met
returns-in-Some-clause-met c = own_instance (map (demand_seen (types_of c.args.types.now)) c.args.given.now) c.args.specs.now (types_of c.args.types.now) c.view.result.now _ c.in-Some.instance c.view.ensures.of_type (sym c.in-Some.is ∙ c.in_ok-instance.ensures) _ c.is_instance_met.ensures.met

pub returns-in-None-clause-met : goal.returns-in-None-clause-met
returns-in-None-clause-met c = own_none (map (demand_seen (types_of c.args.types.now)) c.args.given.now) c.args.specs.now (types_of c.args.types.now) c.view.result.now _ c.view.ensures.of_type (sym c.in-None.is ∙ c.in_ok-instance.ensures)
