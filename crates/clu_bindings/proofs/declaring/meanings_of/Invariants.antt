use Rattle.std.proofs.Common.{◌≡◌}
use Rattle.clu_bindings.specs.Modules.{named}
use Rattle.clu_bindings.specs.Declaring.{meant_at}
use Rattle.clu_bindings.specs.Tables.{joined_to}
use Rattle.clu_bindings.proofs.declaring.meanings_of.Given as goal

abbrev pub invariant-loop-n : goal.invariant-loop-n
invariant-loop-n l = l.all.items ≡ joined_to (meant_at (named l.fn.modules) l.fn.declared l.fn.tree l.fn.names) l.n
