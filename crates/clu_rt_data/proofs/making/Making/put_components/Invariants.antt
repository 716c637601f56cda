use Rattle.std.proofs.Common.{◌≡◌}
use Rattle.clu_rt_data.proofs.making.Making.put_components.Given as goal

abbrev pub invariant-loop-copied : goal.invariant-loop-copied
invariant-loop-copied l = l.self.uses ≡ l.fn.self.uses
