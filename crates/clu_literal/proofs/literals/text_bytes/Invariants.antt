use Rattle.std.proofs.Common.{◌≡◌, ◌≤◌, ◌+◌, length}
use Rattle.clu_literal.specs.Literal.{text_denoted}
use Rattle.clu_literal.proofs.Taken.{taken}
use Rattle.clu_literal.proofs.literals.text_bytes.Given as goal

-- what has been taken and what the rest denotes is what the text denotes, and no byte of it is taken twice
abbrev pub invariant-loop-text : goal.invariant-loop-text
invariant-loop-text l = (taken l.bytes.items (text_denoted l.skip l.text) ≡ text_denoted 0 l.initial.text) × (length l.bytes.items + length l.text ≤ length l.initial.text)

abbrev pub decreases-loop-text : goal.decreases-loop-text
decreases-loop-text l = length l.text
