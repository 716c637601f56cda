use Rattle.std.proofs.Common.{◌≡◌, take}
use Rattle.clu_wir.proofs.copy.copy_constants.Given as goal

abbrev pub invariant-loop-constant : goal.invariant-loop-constant
invariant-loop-constant l = l.copied.items ≡ take l.constant-index l.constants
