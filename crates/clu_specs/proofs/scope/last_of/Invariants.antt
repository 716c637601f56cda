use Rattle.std.proofs.Common.{◌≡◌, drop}
use Rattle.clu_specs.specs.Scopes.{last_from}
use Rattle.clu_specs.proofs.scope.last_of.Given as goal

abbrev pub invariant-loop-i : goal.invariant-loop-i
invariant-loop-i l = last_from l.sort l.i l.last (drop l.i l.kinds) ≡ last_from l.sort 0 0 l.kinds
