use Rattle.std.proofs.Common.{◌≡◌, map, take}
use Rattle.clu_wir.specs.Plain.{expr_of}
use Rattle.clu_wir.proofs.+copies.Given as goal

abbrev pub invariant-copy::copies-loop-value : goal.invariant-copy::copies-loop-value
invariant-copy::copies-loop-value l = map expr_of l.copied.items ≡ map expr_of (take l.value-index l.values)
