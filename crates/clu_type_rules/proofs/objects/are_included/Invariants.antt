use Rattle.std.proofs.Common.{◌≡◌, ℕ, length}
use Rattle.clu_syntax.specs.Items.{Item}
use Rattle.clu_type_rules.specs.StatementRules.{are_included}
use Rattle.clu_type_rules.proofs.objects.are_included.Given as goal

abbrev pub invariant-loop-values : goal.invariant-loop-values
invariant-loop-values l = (items : ℕ → Item) → are_included l.k items l.n l.values l.wanted ≡ are_included l.k items l.n l.initial.values l.initial.wanted

abbrev pub decreases-loop-values : goal.decreases-loop-values
decreases-loop-values l = length l.values
