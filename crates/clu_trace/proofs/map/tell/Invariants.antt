use Rattle.std.proofs.Common.{◌≡◌, drop}
use Rattle.std.specs.List.{list_all}
use Rattle.clu_trace.specs.Maps.{tells}
use Rattle.clu_trace.proofs.map.tell.Given as goal

-- the instances that are left decide
abbrev pub invariant-loop-instance : goal.invariant-loop-instance
invariant-loop-instance l = list_all (tells l.names) l.instances ≡ list_all (tells l.names) (drop l.instance-index l.instances)
