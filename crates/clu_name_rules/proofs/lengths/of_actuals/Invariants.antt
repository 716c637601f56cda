use Rattle.std.proofs.Common.{◌≡◌, drop}
use Rattle.std.specs.Prelude.{fold}
use Rattle.clu_name_rules.specs.Lengths.{with_actual}
use Rattle.clu_name_rules.proofs.lengths.of_actuals.Given as goal

abbrev pub invariant-loop-actual : goal.invariant-loop-actual
invariant-loop-actual l = fold (with_actual l.lengths) l.length (drop l.actual-index l.actuals) ≡ fold (with_actual l.lengths) 0 l.actuals
