use Rattle.std.proofs.Common.{◌≡◌, ◌<◌, length}
use Rattle.std.specs.Prelude.{All}
use Rattle.clu_syntax.specs.Rounds.{rounds_in, set_all}
use Rattle.clu_syntax.proofs.surround.set_rounds.Given as goal

abbrev pub invariant-loop-children : goal.invariant-loop-children
invariant-loop-children l = (set_all l.rounds.items l.children (rounds_in l.fn.tree l.fn.n l.fn.node l.fn.round l.part l.first l.children) ≡ set_all l.fn.rounds.items l.initial.children (rounds_in l.fn.tree l.fn.n l.fn.node l.fn.round l.initial.part l.initial.first l.initial.children)) × All (λ c. c < l.fn.n) l.children × (length l.rounds.items ≡ length l.fn.tree)

abbrev pub decreases-loop-children : goal.decreases-loop-children
decreases-loop-children l = length l.children
