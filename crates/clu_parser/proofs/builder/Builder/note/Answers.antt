use Rattle.clu_parser.proofs.Building.{building_pop}
use Rattle.clu_parser.proofs.builder.Builder.note.Goals as goal

pub invariant_of-self : goal.invariant_of-self
invariant_of-self c = building_pop c.self.inside.tree c.self.inside.tops.items c.self.inside.begun.items c.pop.new.self.items c.in-Some.begun c.self.invariant c.in-Some.ensures.items
