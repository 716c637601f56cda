use Rattle.std.proofs.Common.{◌≡◌, length}
use Rattle.std.specs.List.{list_all}
use Rattle.clu_name_rules.specs.Components.{AreAscending}
use Rattle.clu_type_rules.specs.Constructors.{component_fits}
use Rattle.clu_type_rules.proofs.misfits.components_fit.Given as goal

abbrev pub invariant-loop-components : goal.invariant-loop-components
invariant-loop-components l = AreAscending l.fields → list_all (component_fits l.k l.fields) l.components ≡ list_all (component_fits l.k l.fields) l.initial.components

abbrev pub decreases-loop-components : goal.decreases-loop-components
decreases-loop-components l = length l.components
