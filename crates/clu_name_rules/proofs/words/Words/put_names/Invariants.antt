use Rattle.std.proofs.Common.{◌≡◌, drop}
use Rattle.clu_name_rules.specs.Words.{with_names}
use Rattle.clu_name_rules.proofs.words.Words.put_names.Given as goal

abbrev pub invariant-loop-name : goal.invariant-loop-name
invariant-loop-name l = with_names l.self (drop l.name-index l.names) ≡ with_names l.initial.self l.names
