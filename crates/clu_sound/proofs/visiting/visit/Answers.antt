use Rattle.std.proofs.Common.{map}
use Rattle.clu_types.specs.Arena.{types_of}
use Rattle.clu_specs.specs.Seen.{demand_seen}
use Rattle.clu_sound.proofs.PartsMet.{visited_ok}
use Rattle.clu_sound.proofs.visiting.visit.Goals as goal

pub returns-clause-visited : goal.returns-clause-visited
returns-clause-visited c =
    visited_ok (map (demand_seen (types_of c.args.types.now)) c.args.given.now) c.args.specs.now c.args.types.now c.args.ids.now.keys c.add_parts.new.ids.keys c.args.id c.view.result.now c.view.ensures.term c.view.ensures.parts c.view.ensures.of_type c.in_ok-add_parts.ensures
    _ c.is_own_met.ensures.met
