use Rattle.std.proofs.Common.{◌≡◌, length}
use Rattle.std.specs.List.{list_all}
use Rattle.clu_name_rules.specs.Components.{AreAscending, component_type}
use Rattle.clu_type_rules.specs.Included.{may_be}
use Rattle.clu_type_rules.proofs.misfits.fits_names.Given as goal

abbrev pub invariant-loop-names : goal.invariant-loop-names
invariant-loop-names l = AreAscending l.fields → list_all (λ name. may_be l.k.tables.types.now l.given (component_type l.fields name)) l.names ≡ list_all (λ name. may_be l.k.tables.types.now l.given (component_type l.fields name)) l.initial.names

abbrev pub decreases-loop-names : goal.decreases-loop-names
decreases-loop-names l = length l.names
