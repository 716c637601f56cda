use Rattle.std.proofs.Common.{ap}
use Rattle.clu_parser.specs.declared.begun.Begun.{Begun}
use Rattle.clu_parser.proofs.Building.{building_pop, building_same}
use Rattle.clu_parser.proofs.builder.Builder.give.Goals as goal

pub invariant_of-self : goal.invariant_of-self
invariant_of-self c =
    let outer = building_pop c.self.inside.tree c.self.inside.tops.items c.self.inside.begun.items c.pop.new.self.items c.in-Some.inner c.self.invariant c.in-Some.ensures.items in
    building_pop c.self.inside.tree c.self.inside.tops.items c.pop.new.self.items c.pop-2.new.self.items c.in-Some-pop.outer outer c.in-Some-pop.ensures.items

pub invariant_of-self-2 : goal.invariant_of-self-2
invariant_of-self-2 c =
    let outer = building_pop c.self.inside.tree c.self.inside.tops.items c.self.inside.begun.items c.pop.new.self.items c.in-Some.inner c.self.invariant c.in-Some.ensures.items in
    building_same c.self.inside.tree c.self.inside.tops.items c.pop.new.self.items c.pop-2.new.self.items c.push.new.self.items c.in-Some-pop.outer c.in_ok-both.both outer c.in-Some-pop.ensures.items c.in_ok-push.ensures.items (ap (λ (o : Begun). o.height) c.in_ok-both.ensures)
