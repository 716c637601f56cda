use Rattle.clu_name_rules.specs.Repeated.{with_item}
use Rattle.clu_name_rules.proofs.Noting.{Goes}
use Rattle.clu_name_rules.proofs.repeated.Items.note_items.Given as goal

abbrev pub invariant-loop-n : goal.invariant-loop-n
invariant-loop-n l = Goes (with_item l.words l.syntax l.list) l.items l.n-index l.initial.self l.self
