use Rattle.std.proofs.Common.{◌≡◌, ◌+◌, ◌≤◌, length}
use Rattle.clu_parser.specs.Spellings.{closes}
use Rattle.clu_parser.proofs.brackets.closes_before_dollar.Given as goal

abbrev pub invariant-brackets : goal.invariant-brackets
invariant-brackets l = (closes l.depth l.left ≡ closes 0 l.symbols) × (l.depth + length l.left ≤ length l.symbols)

abbrev pub decreases-brackets : goal.decreases-brackets
decreases-brackets l = length l.left
