use Rattle.std.proofs.Common.{◌≡◌, length}
use Rattle.std.specs.List.{list_all}
use Rattle.clu_name_rules.specs.Components.{AreAscending}
use Rattle.clu_name_rules.specs.Constructors.{are_selectors}
use Rattle.clu_name_rules.proofs.constructors.are_components.Given as goal

abbrev pub invariant-loop-components : goal.invariant-loop-components
invariant-loop-components l = AreAscending l.fields → list_all (are_selectors l.f.syntax.now l.fields) l.components ≡ list_all (are_selectors l.f.syntax.now l.fields) l.initial.components

abbrev pub decreases-loop-components : goal.decreases-loop-components
decreases-loop-components l = length l.components
