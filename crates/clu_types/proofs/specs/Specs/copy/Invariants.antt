use Rattle.std.proofs.Common.{◌≡◌, take}
use Rattle.clu_types.proofs.specs.Specs.copy.Given as goal

abbrev pub invariant-loop-s : goal.invariant-loop-s
invariant-loop-s l = l.items.items ≡ take l.s-index l.kept
