use Rattle.std.proofs.Common.{◌≡◌, drop}
use Rattle.std.specs.List.{list_all}
use Rattle.clu_library.specs.Bounds.{bounds_spec, in_table}
use Rattle.clu_library.proofs.latest.Table.bounds_specs.Given as goal

abbrev pub invariant-loop-n : goal.invariant-loop-n
invariant-loop-n l = list_all (bounds_spec (in_table l.self)) (drop l.n l.specs) ≡ list_all (bounds_spec (in_table l.self)) l.specs
