use Rattle.std.proofs.Common.{◌≡◌, drop}
use Rattle.clu_library.specs.Bounds.{at_most, in_table}
use Rattle.clu_library.proofs.latest.Table.are_at_most.Given as goal

abbrev pub invariant-loop-name : goal.invariant-loop-name
invariant-loop-name l = at_most (in_table l.self) l.most (drop l.name-index l.names) ≡ at_most (in_table l.self) l.most l.names
