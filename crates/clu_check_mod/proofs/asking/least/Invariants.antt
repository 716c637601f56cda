use Rattle.std.proofs.Common.{◌≡◌, ℕ, Some, All, drop, take}
use Rattle.std.specs.Prelude.{find, slice_get}
use Rattle.clu_tree.specs.declared.node.Node.{Node}
use Rattle.clu_syntax.specs.Items.{Item}
use Rattle.clu_name_rules.specs.Constructors.{ValuesAscend}
use Rattle.clu_check_mod.specs.Asking.{RulesAscend, is_violated}
use Rattle.clu_check_mod.specs.Walks.{IsPassed}
use Rattle.clu_check_mod.proofs.asking.least.Given as goal

-- no rule so far is violated: of two of them a node shows what it means; and the first that is violated is behind
abbrev pub invariant-loop-rule : goal.invariant-loop-rule
invariant-loop-rule l =
    ((node : Node) → slice_get l.k.tables.file.syntax.now l.n ≡ Some node → All (IsPassed node) (take l.rule-index l.rules))
    × ((items : ℕ → Item) → ValuesAscend l.k.tables → RulesAscend l.k l.n l.rules → find (is_violated l.k l.bad items l.n) (drop l.rule-index l.rules) ≡ find (is_violated l.k l.bad items l.n) l.rules)
