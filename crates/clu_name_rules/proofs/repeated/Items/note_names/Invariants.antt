use Rattle.clu_name_rules.specs.Repeated.{with_name}
use Rattle.clu_name_rules.proofs.Noting.{Goes}
use Rattle.clu_name_rules.proofs.repeated.Items.note_names.Given as goal

abbrev pub invariant-loop-name : goal.invariant-loop-name
invariant-loop-name l = Goes (with_name l.words l.list l.kind l.n) l.names l.name-index l.initial.self l.self
