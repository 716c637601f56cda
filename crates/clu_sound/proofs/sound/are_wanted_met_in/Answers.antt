use Rattle.std.proofs.Common.{map}
use Rattle.clu_types.specs.Arena.{types_of}
use Rattle.clu_specs.specs.Seen.{demand_seen}
use Rattle.clu_sound.proofs.Judging.{wanted_filled, wanted_in, wanted_ok}
use Rattle.clu_sound.proofs.sound.are_wanted_met_in.Goals as goal

pub are_met-requires-clause-ids_in : goal.are_met-requires-clause-ids_in
are_met-requires-clause-ids_in c = wanted_in _ c.add_wanted.new.ids.keys c.args.demands.now (wanted_filled c.args.ids.now.keys c.add_wanted.new.ids.keys c.args.demands.now c.requires.none c.in_ok-add_wanted.ensures) c.requires.demands_in

pub returns-clause-met : goal.returns-clause-met
returns-clause-met c =
    wanted_ok (map (demand_seen (types_of c.args.types.now)) c.args.demands.now) c.args.specs.now (types_of c.args.types.now) c.args.demands.now c.add_wanted.new.ids.keys
    (wanted_filled c.args.ids.now.keys c.add_wanted.new.ids.keys c.args.demands.now c.requires.none c.in_ok-add_wanted.ensures) _ c.are_met.ensures.met
