use Rattle.std.proofs.Common.{◌≡◌, ◌+◌, take, get_or}
use Rattle.std.specs.Prelude.{sum_by}
use Rattle.clu_tree.specs.Count.{own_count}
use Rattle.clu_tree.proofs.count.count_with.Given as goal

abbrev pub invariant-loop-child : goal.invariant-loop-child
invariant-loop-child l = l.count ≡ own_count l.node + sum_by (λ c. get_or l.counts c 0) (take l.child-index l.node.children)
