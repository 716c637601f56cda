use Rattle.std.proofs.Common.{◌≡◌, drop, fold}
use Rattle.clu_sound.specs.Parts.{with_actual}
use Rattle.clu_sound.proofs.parts.add_actuals.Given as goal

abbrev pub invariant-loop-actual : goal.invariant-loop-actual
invariant-loop-actual l = fold with_actual l.ids.keys (drop l.actual-index l.actuals) ≡ fold with_actual l.initial.ids.keys l.actuals
