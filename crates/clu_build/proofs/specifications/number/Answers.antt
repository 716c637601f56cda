use Rattle.clu_build.proofs.Numbering.{renumbered}
use Rattle.clu_build.proofs.specifications.number.Goals as goal

pub returns-clause-numbered : goal.returns-clause-numbered
returns-clause-numbered c = renumbered c.args.specs.now c.add_each.new.numbers.entries c.sort_keys.new.self.entries c.in_ok-sort_keys.ensures.reordered.2 c.in_ok-add_each.ensures.numbered
