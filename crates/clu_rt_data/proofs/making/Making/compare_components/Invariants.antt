use Rattle.std.proofs.Common.{◌≡◌, ◌+◌, length}
use Rattle.clu_rt_data.proofs.making.Making.compare_components.Given as goal

abbrev pub invariant-loop-place : goal.invariant-loop-place
invariant-loop-place l = length l.self.uses.items ≡ length l.fn.self.uses.items + l.place
