use Rattle.std.proofs.Common.{◌≡◌, ◌-◌}
use Rattle.std.specs.List.{list_any, range_with_len}
use Rattle.clu_name_rules.specs.NameRules.{names_argument}
use Rattle.clu_name_rules.proofs.name_rules.has_argument.Given as goal

abbrev pub invariant-loop-n : goal.invariant-loop-n
invariant-loop-n l = list_any (names_argument l.f.syntax.now l.f.rounds.now l.f.names.now) (range_with_len l.n (l.to - l.n)) ≡ list_any (names_argument l.f.syntax.now l.f.rounds.now l.f.names.now) (range_with_len l.from (l.to - l.from))
