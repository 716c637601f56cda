use Rattle.std.proofs.Common.{◌≡◌, drop}
use Rattle.clu_typing.specs.Invoking.{lists_of, with_arguments}
use Rattle.clu_typing.proofs.invoking.push_arguments.Given as goal

abbrev pub invariant-loop-n : goal.invariant-loop-n
invariant-loop-n l = with_arguments l.types (drop l.n-index l.nodes) (lists_of l.list) ≡ with_arguments l.types l.nodes (lists_of l.initial.list)
