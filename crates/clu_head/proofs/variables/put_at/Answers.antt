use Rattle.std.proofs.Common.{ℕ, set, sym, subst}
use Rattle.clu_types.specs.declared.term.Actual.TheVariants as actual
use Rattle.clu_head.specs.Unchanged.{AreUnchanged}
use Rattle.clu_head.proofs.Constants.{below_put, restored}
use Rattle.clu_head.proofs.variables.put_at.Goals as goal

pub subst-made-requires-clause-actuals_in : goal.subst-made-requires-clause-actuals_in
subst-made-requires-clause-actuals_in c = below_put _ 0 c.args.actuals.now c.args.at c.args.of c.requires.unchanged c.requires.of_in

pub returns-clause-unchanged : goal.returns-clause-unchanged
returns-clause-unchanged c =
    subst (λ (n : ℕ). AreUnchanged 0 (set (set c.args.actuals.now c.args.at (actual.Of c.args.of)) c.args.at (actual.ConstParam n))) (sym c.number_at.ensures)
    (restored c.args.actuals.now c.args.at (actual.Of c.args.of) c.requires.numbered c.requires.unchanged)
