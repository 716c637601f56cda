use Rattle.std.proofs.Common.{◌≡◌, drop, find}
use Rattle.std.specs.Str.{bytes_eq}
use Rattle.clu_types.specs.declared.spec.OpSpec.{OpSpec}
use Rattle.clu_demands.proofs.found.op_among.Given as goal

-- the operations that are left decide
abbrev pub invariant-loop-op : goal.invariant-loop-op
invariant-loop-op l = find (λ (o : OpSpec). bytes_eq o.name l.name) l.ops ≡ find (λ (o : OpSpec). bytes_eq o.name l.name) (drop l.op-index l.ops)
