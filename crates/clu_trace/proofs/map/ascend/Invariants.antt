use Rattle.std.proofs.Common.{◌≡◌, drop}
use Rattle.clu_trace.specs.Maps.{ascend}
use Rattle.clu_trace.proofs.map.ascend.Given as goal

-- the instances that are left decide
abbrev pub invariant-loop-instance : goal.invariant-loop-instance
invariant-loop-instance l = ascend l.from l.below l.instances ≡ ascend l.least l.below (drop l.instance-index l.instances)
