use Rattle.std.proofs.Common.{◌≡◌, drop}
use Rattle.std.specs.List.{list_all}
use Rattle.clu_library.specs.Bounds.{bounds_change, in_table}
use Rattle.clu_library.proofs.latest.Table.bounds_changes.Given as goal

abbrev pub invariant-loop-change : goal.invariant-loop-change
invariant-loop-change l = list_all (bounds_change (in_table l.self)) (drop l.change-index l.changes) ≡ list_all (bounds_change (in_table l.self)) l.changes
