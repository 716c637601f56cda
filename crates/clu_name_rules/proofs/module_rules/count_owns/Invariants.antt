use Rattle.std.proofs.Common.{◌≡◌, ◌+◌, ◌≤◌, length, min}
use Rattle.clu_name_rules.specs.ModuleRules.{count_owns}
use Rattle.clu_name_rules.proofs.module_rules.count_owns.Given as goal

abbrev pub invariant-loop-children : goal.invariant-loop-children
invariant-loop-children l = record {
  total : min (l.count + count_owns l.f.syntax.now l.children) 18446744073709551615 ≡ min (count_owns l.f.syntax.now l.initial.children) 18446744073709551615;
  most : l.count ≤ 18446744073709551615;
}

abbrev pub decreases-loop-children : goal.decreases-loop-children
decreases-loop-children l = length l.children
