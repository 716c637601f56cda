use Rattle.std.proofs.Common.{◌≡◌, drop}
use Rattle.std.specs.List.{list_all}
use Rattle.std.specs.Option.{option_copied}
use Rattle.clu_library.specs.Bounds.{in_table, rank_in, reaches_spec}
use Rattle.clu_library.specs.Resting.{with_changed}
use Rattle.clu_library.proofs.latest.Table.reaches_specs.Given as goal

abbrev pub invariant-loop-n : goal.invariant-loop-n
invariant-loop-n l =
    list_all (reaches_spec (with_changed l.specs (option_copied l.changed)) l.changes (in_table l.self) (rank_in l.self)) (drop l.n l.specs) ≡ list_all (reaches_spec (with_changed l.specs (option_copied l.changed)) l.changes (in_table l.self) (rank_in l.self)) l.specs
