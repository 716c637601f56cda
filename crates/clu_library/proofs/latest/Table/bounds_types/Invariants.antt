use Rattle.std.proofs.Common.{◌≡◌, drop}
use Rattle.std.specs.List.{filter_map}
use Rattle.clu_library.specs.Bounds.{at_most, in_table}
use Rattle.clu_library.specs.Resting.{cluster_name}
use Rattle.clu_library.proofs.latest.Table.bounds_types.Given as goal

abbrev pub invariant-loop-n : goal.invariant-loop-n
invariant-loop-n l = at_most (in_table l.self) l.most (filter_map cluster_name (drop l.n l.types)) ≡ at_most (in_table l.self) l.most (filter_map cluster_name l.types)
