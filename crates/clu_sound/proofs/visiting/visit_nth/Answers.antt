use Rattle.std.proofs.Common.{sym, map, ◌∙◌}
use Rattle.clu_base.proofs.Lists.{none_is_not, is_there}
use Rattle.clu_types.specs.Arena.{types_of}
use Rattle.clu_specs.specs.Seen.{demand_seen}
use Rattle.clu_sound.proofs.Growing.{below_in}
use Rattle.clu_sound.proofs.PartsMet.{visited_at}
use Rattle.clu_sound.proofs.visiting.visit_nth.Goals as goal

pub visit-requires-clause-id_in : goal.visit-requires-clause-id_in
visit-requires-clause-id_in c = below_in _ c.args.ids.now.keys c.in-Some.id c.requires.ids_in (is_there c.args.ids.now.keys c.args.n c.in-Some.id (sym c.in-Some.ensures))

pub returns-in-Some-clause-visited : goal.returns-in-Some-clause-visited
returns-in-Some-clause-visited c = visited_at (map (demand_seen (types_of c.args.types.now)) c.args.given.now) c.args.specs.now c.args.types.now c.args.ids.now.keys c.visit.new.ids.keys c.args.n c.in-Some.id c.in-Some.ensures _ c.visit.ensures.visited

pub returns-in-None-clause-visited : goal.returns-in-None-clause-visited
returns-in-None-clause-visited c = λ p e. none_is_not p (c.in-None.ensures ∙ e)
