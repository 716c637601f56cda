use Rattle.std.proofs.Common.{◌≡◌, ◌<◌, length}
use Rattle.std.specs.Prelude.{All}
use Rattle.clu_syntax.specs.Bodies.{last_of_body}
use Rattle.clu_syntax.proofs.bodies.last_of_body.Given as goal

abbrev pub invariant-loop-children : goal.invariant-loop-children
invariant-loop-children l = (last_of_body l.fn.tree l.fn.node l.last l.children ≡ last_of_body l.fn.tree l.fn.node l.initial.last l.initial.children) × All (λ c. c < length l.fn.tree) l.children

abbrev pub decreases-loop-children : goal.decreases-loop-children
decreases-loop-children l = length l.children
