use Rattle.clu_name_rules.specs.Repeated.{with_nodes, Notes}
use Rattle.clu_name_rules.proofs.repeated.Items.note_nodes.Given as goal

abbrev pub invariant-loop-n : goal.invariant-loop-n
invariant-loop-n l = Notes (with_nodes l.words l.syntax l.n) l.initial.self l.self
