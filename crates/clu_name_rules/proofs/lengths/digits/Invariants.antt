use Rattle.std.proofs.Common.{◌≡◌, ◌+◌, ◌-◌}
use Rattle.clu_name_rules.specs.Lengths.{digits_in}
use Rattle.clu_name_rules.proofs.lengths.digits.Given as goal

abbrev pub invariant-loop-before : goal.invariant-loop-before
invariant-loop-before l = l.before + digits_in (64 - l.before) l.left ≡ digits_in 64 l.n
