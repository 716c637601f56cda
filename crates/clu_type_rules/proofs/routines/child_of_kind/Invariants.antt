use Rattle.std.proofs.Common.{◌≡◌, length}
use Rattle.clu_type_rules.specs.Routines.{child_of_kind}
use Rattle.clu_type_rules.proofs.routines.child_of_kind.Given as goal

abbrev pub invariant-loop-children : goal.invariant-loop-children
invariant-loop-children l = child_of_kind l.tree l.kind l.children ≡ child_of_kind l.tree l.kind l.initial.children

abbrev pub decreases-loop-children : goal.decreases-loop-children
decreases-loop-children l = length l.children
