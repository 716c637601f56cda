use Rattle.std.proofs.Common.{◌≡◌, ◌++◌, drop, map}
use Rattle.clu_tree.specs.Nodes.{modules}
use Rattle.clu_syntax.specs.Rounds.{round_at}
use Rattle.clu_check_mod.specs.Naming.{named_in, named_by_all}
use Rattle.clu_check_mod.proofs.naming.named_by_all.Given as goal

abbrev pub invariant-loop-module : goal.invariant-loop-module
invariant-loop-module l =
    l.all.items ++ map (λ n. named_in l.fn.tree l.fn.names.declared.items (round_at l.fn.rounds n).first n) (drop l.module-index (modules l.fn.tree)) ≡ named_by_all l.fn.tree l.fn.rounds l.fn.names.declared.items
