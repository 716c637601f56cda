-- What is asked of types at nodes and not met, read from its table.
use Rattle.std.specs.Prelude.{ℕ, false, List, get_or}
use Rattle.clu_type_rules.specs.declared.unmet.Unmet.{Unmet}

abbrev pub all_met : Unmet
all_met = record { by_has = false; by_in = false }

abbrev pub unmet_at : List Unmet → ℕ → Unmet
unmet_at unmet n = get_or unmet n all_met
