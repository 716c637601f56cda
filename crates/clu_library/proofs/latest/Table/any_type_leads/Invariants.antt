use Rattle.std.proofs.Common.{◌≡◌, drop}
use Rattle.std.specs.List.{filter_map, list_any}
use Rattle.std.specs.Option.{option_copied}
use Rattle.clu_library.specs.Bounds.{in_table, rank_in, leads}
use Rattle.clu_library.specs.Resting.{cluster_name, with_changed}
use Rattle.clu_library.proofs.latest.Table.any_type_leads.Given as goal

abbrev pub invariant-loop-n : goal.invariant-loop-n
invariant-loop-n l =
    list_any (leads (with_changed l.specs (option_copied l.changed)) (in_table l.self) (rank_in l.self) l.own l.least) (filter_map cluster_name (drop l.n l.types))
    ≡ list_any (leads (with_changed l.specs (option_copied l.changed)) (in_table l.self) (rank_in l.self) l.own l.least) (filter_map cluster_name l.types)
