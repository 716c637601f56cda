use Rattle.std.proofs.Common.{◌≡◌, List, true, subst}
use Rattle.clu_handlers.specs.declared.region.Region.{Region}
use Rattle.clu_handlers.specs.Regions.{are_nested}
use Rattle.clu_handlers.proofs.regions.Regions.as_slice.Goals as goal

pub returns-clause-nested : goal.returns-clause-nested
returns-clause-nested c = subst (λ (l : List Region). are_nested l ≡ true) c.self.view_is c.self.invariant.1
