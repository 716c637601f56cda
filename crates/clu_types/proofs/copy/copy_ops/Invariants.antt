use Rattle.std.proofs.Common.{◌≡◌, take}
use Rattle.clu_types.proofs.copy.copy_ops.Given as goal

abbrev pub invariant-loop-op : goal.invariant-loop-op
invariant-loop-op l = l.copied.items ≡ take l.op-index l.ops
