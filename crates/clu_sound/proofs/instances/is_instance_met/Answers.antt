use Rattle.std.proofs.Common.{map}
use Rattle.clu_types.specs.Arena.{actuals_at}
use Rattle.clu_types.specs.Arena.{types_of}
use Rattle.clu_specs.specs.Seen.{demand_seen}
use Rattle.clu_sound.proofs.Judging.{instance_kept, instance_none}
use Rattle.clu_sound.proofs.instances.is_instance_met.Goals as goal

pub returns-in-Some-clause-met : goal.returns-in-Some-clause-met
returns-in-Some-clause-met c =
    rw (← c.as_slice.ensures) (instance_kept (map (demand_seen (types_of c.args.types.now)) c.args.given.now) c.args.specs.now (actuals_at (types_of c.args.types.now) c.as_slice.result.now) c.in-Some.spec.now _ c.in-Some.ensures _ c.is_spec_met.ensures.met)

pub returns-in-None-clause-met : goal.returns-in-None-clause-met
returns-in-None-clause-met c = instance_none (map (demand_seen (types_of c.args.types.now)) c.args.given.now) c.args.specs.now (actuals_at (types_of c.args.types.now) c.args.instance.now.actuals) _ c.in-None.ensures
