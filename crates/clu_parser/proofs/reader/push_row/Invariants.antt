use Rattle.std.proofs.Common.{◌≡◌, ◌++◌, length, reverse}
use Rattle.clu_parser.proofs.reader.push_row.Given as goal

abbrev pub invariant-row : goal.invariant-row
invariant-row l = l.left ++ reverse l.stack.items ≡ l.items ++ reverse l.initial.stack.items

abbrev pub decreases-row : goal.decreases-row
decreases-row l = length l.left
