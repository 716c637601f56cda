use Rattle.std.proofs.Common.{◌≡◌, length}
use Rattle.clu_type_rules.specs.StatementRules.{call_in}
use Rattle.clu_type_rules.proofs.statement_rules.call_in.Given as goal

abbrev pub invariant-loop-children : goal.invariant-loop-children
invariant-loop-children l = call_in l.f.syntax.now l.children ≡ call_in l.f.syntax.now l.initial.children

abbrev pub decreases-loop-children : goal.decreases-loop-children
decreases-loop-children l = length l.children
