use Rattle.std.proofs.Common.{◌∙◌, List, None, ap}
use Rattle.clu_handlers.specs.declared.region.Region.{Region}
use Rattle.clu_handlers.specs.Regions.{found_behind}
use Rattle.clu_handlers.proofs.Nesting.{found_clause, none_clause}
use Rattle.clu_handlers.proofs.regions.Regions.find.Goals as goal

pub returns-clause-found : goal.returns-clause-found
returns-clause-found c =
    found_clause c.args.self.now c.as_slice.ensures.nested c.args.pc c.args.name.now c.last_with_arm.result
    (c.last_with_arm.ensures ∙ ap (λ (l : List Region). found_behind None 0 l c.args.pc c.args.name.now) c.as_slice.ensures.same)

pub returns-clause-none : goal.returns-clause-none
returns-clause-none c =
    none_clause c.args.self.now c.args.pc c.args.name.now c.last_with_arm.result
    (c.last_with_arm.ensures ∙ ap (λ (l : List Region). found_behind None 0 l c.args.pc c.args.name.now) c.as_slice.ensures.same)
