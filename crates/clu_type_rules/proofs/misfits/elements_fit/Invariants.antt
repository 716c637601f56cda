use Rattle.std.proofs.Common.{◌≡◌, length}
use Rattle.std.specs.List.{list_all}
use Rattle.clu_type_rules.specs.Constructors.{element_fits}
use Rattle.clu_type_rules.proofs.misfits.elements_fit.Given as goal

abbrev pub invariant-loop-elements : goal.invariant-loop-elements
invariant-loop-elements l = list_all (element_fits l.k l.of) l.elements ≡ list_all (element_fits l.k l.of) l.initial.elements

abbrev pub decreases-loop-elements : goal.decreases-loop-elements
decreases-loop-elements l = length l.elements
