use Rattle.std.proofs.Common.{◌≡◌, ◌<◌, ℕ}
use Rattle.clu_syntax.specs.Items.{Item}
use Rattle.clu_name_rules.specs.Constructors.{ValuesAscend}
use Rattle.clu_check_mod.specs.Walks.{IsClosedNode, NoneBefore, WalkAscends, fault_at}
use Rattle.clu_check_mod.specs.declared.rules.Walk.TheVariants as walk
use Rattle.clu_check_mod.proofs.Finding.{Goes}
use Rattle.clu_check_mod.proofs.walk.walk_nodes.Given as goal

abbrev pub invariant-loop-n : goal.invariant-loop-n
invariant-loop-n l = (l.walk ≡ walk.Rest → (m : ℕ) → m < l.n → IsClosedNode l.tree m) × ((items : ℕ → Item) → ValuesAscend l.k.tables → WalkAscends l.k l.bad items l.walk → Goes (fault_at l.k l.bad items l.walk) l.tree l.n × NoneBefore l.k l.bad items l.walk l.n)
