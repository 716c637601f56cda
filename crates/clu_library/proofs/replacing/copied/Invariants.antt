use Rattle.std.proofs.Common.{◌≡◌, take}
use Rattle.clu_library.proofs.replacing.copied.Given as goal

abbrev pub invariant-loop-change : goal.invariant-loop-change
invariant-loop-change l = l.items.items ≡ take l.change-index l.changes
