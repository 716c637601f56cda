use Rattle.std.proofs.Common.{◌≡◌, drop, map}
use Rattle.clu_wir.specs.Kept.{all_kept}
use Rattle.clu_wir.specs.Plain.{expr_of}
use Rattle.clu_wir.proofs.kept.+kept.Given as goal

-- the values that are left decide
abbrev pub invariant-all-loop-value : goal.invariant-all-loop-value
invariant-all-loop-value l = all_kept l.slots (map expr_of (drop l.value-index l.values)) ≡ all_kept l.slots (map expr_of l.values)
