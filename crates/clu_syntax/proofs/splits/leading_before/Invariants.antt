use Rattle.std.proofs.Common.{◌≡◌, ◌<◌, ◌+◌, length}
use Rattle.std.specs.Prelude.{All}
use Rattle.clu_syntax.specs.Splits.{leading_before}
use Rattle.clu_syntax.proofs.splits.leading_before.Given as goal

abbrev pub invariant-loop-rest : goal.invariant-loop-rest
invariant-loop-rest l =
    (leading_before l.fn.tree l.fn.node l.rest + l.count ≡ leading_before l.fn.tree l.fn.node l.fn.children) × (l.count + length l.rest ≡ length l.fn.children)
    × All (λ c. c < l.fn.n) l.rest

abbrev pub decreases-loop-rest : goal.decreases-loop-rest
decreases-loop-rest l = length l.rest
