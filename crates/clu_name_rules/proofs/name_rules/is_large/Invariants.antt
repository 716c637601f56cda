use Rattle.std.proofs.Common.{◌≡◌, drop}
use Rattle.clu_name_rules.specs.NameRules.{number_after, is_large}
use Rattle.clu_name_rules.proofs.name_rules.is_large.Given as goal

abbrev pub invariant-loop-digit : goal.invariant-loop-digit
invariant-loop-digit l = is_large (number_after l.number (drop l.digit-index l.digits)) ≡ is_large (number_after 0 l.digits)
