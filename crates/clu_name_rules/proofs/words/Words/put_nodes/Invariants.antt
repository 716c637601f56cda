use Rattle.std.proofs.Common.{◌≡◌}
use Rattle.clu_name_rules.specs.Words.{words_to}
use Rattle.clu_name_rules.proofs.words.Words.put_nodes.Given as goal

abbrev pub invariant-loop-n : goal.invariant-loop-n
invariant-loop-n l = l.self ≡ words_to l.tree l.n
