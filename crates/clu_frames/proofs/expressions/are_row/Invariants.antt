use Rattle.std.proofs.Common.{◌≡◌, drop, map}
use Rattle.clu_wir.specs.Plain.{expr_of}
use Rattle.clu_frames.specs.Flattening.{are_row}
use Rattle.clu_frames.proofs.expressions.are_row.Given as goal

-- the values that are left decide
abbrev pub invariant-loop-value : goal.invariant-loop-value
invariant-loop-value l = are_row l.next (map expr_of (drop l.value-index l.values)) ≡ are_row l.first (map expr_of l.values)
