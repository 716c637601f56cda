use Rattle.std.proofs.Common.{◌≡◌, length}
use Rattle.clu_meaning.specs.Constants.{number_after}
use Rattle.clu_settle.proofs.literals.number.Given as goal

abbrev pub invariant-digits : goal.invariant-digits
invariant-digits l = number_after l.number l.digits ≡ number_after 0 l.initial.digits

abbrev pub decreases-digits : goal.decreases-digits
decreases-digits l = length l.digits
