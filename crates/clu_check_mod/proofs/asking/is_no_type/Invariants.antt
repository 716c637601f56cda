use Rattle.std.proofs.Common.{◌≡◌, ℕ, drop}
use Rattle.std.specs.Prelude.{find}
use Rattle.clu_syntax.specs.Items.{Item}
use Rattle.clu_name_rules.specs.Constructors.{ValuesAscend}
use Rattle.clu_check_mod.specs.Asking.{is_violated_of_types}
use Rattle.clu_check_mod.proofs.asking.is_no_type.Given as goal

abbrev pub invariant-loop-rule : goal.invariant-loop-rule
invariant-loop-rule l = (items : ℕ → Item) → ValuesAscend l.t → find (is_violated_of_types l.t l.bad items l.n) (drop l.rule-index l.rules) ≡ find (is_violated_of_types l.t l.bad items l.n) l.rules
