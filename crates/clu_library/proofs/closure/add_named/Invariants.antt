use Rattle.std.proofs.Common.{◌≡◌, drop, fold}
use Rattle.std.specs.List.{filter_map}
use Rattle.clu_library.specs.Growing.{with_name}
use Rattle.clu_library.specs.Resting.{cluster_name}
use Rattle.clu_library.proofs.closure.add_named.Given as goal

abbrev pub invariant-loop-n : goal.invariant-loop-n
invariant-loop-n l = fold (with_name l.own) l.found.keys (filter_map cluster_name (drop l.n l.types)) ≡ fold (with_name l.own) l.initial.found.keys (filter_map cluster_name l.types)
