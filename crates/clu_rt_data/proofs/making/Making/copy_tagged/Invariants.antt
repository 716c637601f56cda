use Rattle.std.proofs.Common.{◌≡◌, ◌+◌, length}
use Rattle.clu_rt_data.proofs.making.Making.copy_tagged.Given as goal

abbrev pub invariant-loop-tag : goal.invariant-loop-tag
invariant-loop-tag l = length l.self.uses.items ≡ length l.fn.self.uses.items + l.tag
