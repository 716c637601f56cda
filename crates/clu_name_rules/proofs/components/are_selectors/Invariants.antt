use Rattle.std.proofs.Common.{◌≡◌, length}
use Rattle.std.specs.List.{list_all}
use Rattle.clu_name_rules.specs.Components.{AreAscending, is_selector_of}
use Rattle.clu_name_rules.proofs.components.are_selectors.Given as goal

abbrev pub invariant-loop-names : goal.invariant-loop-names
invariant-loop-names l = AreAscending l.fields → list_all (is_selector_of l.fields) l.names ≡ list_all (is_selector_of l.fields) l.initial.names

abbrev pub decreases-loop-names : goal.decreases-loop-names
decreases-loop-names l = length l.names
