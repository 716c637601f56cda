use Rattle.std.proofs.Common.{◌≡◌}
use Rattle.clu_names.specs.Scopes.{declared_to}
use Rattle.clu_names.proofs.declaring.declarations.Given as goal

abbrev pub invariant-loop-n : goal.invariant-loop-n
invariant-loop-n l = l.list.items ≡ declared_to l.fn.tree l.fn.rounds l.n
