use Rattle.std.proofs.Common.{◌≡◌, ◌<◌, length}
use Rattle.std.specs.Prelude.{All}
use Rattle.clu_syntax.specs.Bodies.{after_heads}
use Rattle.clu_syntax.proofs.bodies.after_heads.Given as goal

abbrev pub invariant-loop-children : goal.invariant-loop-children
invariant-loop-children l = (after_heads l.fn.tree l.first l.children ≡ after_heads l.fn.tree l.initial.first l.initial.children) × All (λ c. c < l.fn.n) l.children

abbrev pub decreases-loop-children : goal.decreases-loop-children
decreases-loop-children l = length l.children
