use Rattle.std.proofs.Common.{◌≡◌, ◌++◌}
use Rattle.clu_check_mod.specs.Naming.{named_in}
use Rattle.clu_check_mod.proofs.naming.named_in.Given as goal

abbrev pub invariant-loop-name : goal.invariant-loop-name
invariant-loop-name l = l.ascending.items ++ l.name-iterator ≡ named_in l.fn.tree l.fn.names.declared.items l.fn.first l.fn.last
