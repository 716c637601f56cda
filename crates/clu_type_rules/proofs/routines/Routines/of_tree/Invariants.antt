use Rattle.std.proofs.Common.{◌≡◌, ℕ}
use Rattle.clu_syntax.specs.Items.{Item}
use Rattle.clu_type_rules.specs.Routines.{parts_to}
use Rattle.clu_type_rules.proofs.routines.Routines.of_tree.Given as goal

abbrev pub invariant-loop-n : goal.invariant-loop-n
invariant-loop-n l = (items : ℕ → Item) → l.parts.items ≡ parts_to items l.syntax l.n
