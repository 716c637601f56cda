use Rattle.clu_parser.proofs.Building.{building_none}
use Rattle.clu_parser.proofs.builder.Builder.new.Goals as goal

pub invariant_of-result : goal.invariant_of-result
invariant_of-result c = rw (c.new.ensures, c.new-2.ensures.items, c.new-3.ensures.items) building_none
