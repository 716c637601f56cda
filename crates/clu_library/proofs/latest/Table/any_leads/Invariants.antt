use Rattle.std.proofs.Common.{◌≡◌, drop}
use Rattle.std.specs.List.{list_any}
use Rattle.std.specs.Option.{option_copied}
use Rattle.clu_library.specs.Bounds.{in_table, rank_in, leads}
use Rattle.clu_library.specs.Resting.{with_changed}
use Rattle.clu_library.proofs.latest.Table.any_leads.Given as goal

abbrev pub invariant-loop-name : goal.invariant-loop-name
invariant-loop-name l =
    list_any (leads (with_changed l.specs (option_copied l.changed)) (in_table l.self) (rank_in l.self) l.own l.least) (drop l.name-index l.names) ≡ list_any (leads (with_changed l.specs (option_copied l.changed)) (in_table l.self) (rank_in l.self) l.own l.least) l.names
