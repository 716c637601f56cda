use Rattle.std.proofs.Common.{◌≡◌, ◌+◌, drop}
use Rattle.clu_specs.specs.Scopes.{begins_among}
use Rattle.clu_specs.proofs.scope.Scope.begins_number.Given as goal

abbrev pub invariant-loop-i : goal.invariant-loop-i
invariant-loop-i l = begins_among l.sort l.least l.n (l.i + 1) (drop l.i l.self.kinds) ≡ begins_among l.sort l.least l.n 1 l.self.kinds
