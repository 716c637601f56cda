use Rattle.std.proofs.Common.{◌≡◌, drop}
use Rattle.std.specs.List.{find}
use Rattle.std.specs.Str.{bytes_eq}
use Rattle.clu_types.specs.declared.spec.OpSpec.{OpSpec}
use Rattle.clu_lower_types.proofs.headings.operation_named.Given as goal

abbrev pub invariant-loop-op : goal.invariant-loop-op
invariant-loop-op l = find (λ (o : OpSpec). bytes_eq o.name l.name) (drop l.op-index l.ops) ≡ find (λ (o : OpSpec). bytes_eq o.name l.name) l.ops
