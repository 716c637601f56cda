use Rattle.std.proofs.lemmas.Result.{err_from_is_err_and}
use Rattle.clu_types.specs.Arena.{types_of}
use Rattle.clu_specs.specs.Seen.{op_seen}
use Rattle.clu_specs.proofs.Wholes.{routine_fails, routine_made}
use Rattle.clu_specs.proofs.read_specs.routine_over.Goals as goal

pub returns-in_err-op-clause-reads : goal.returns-in_err-op-clause-reads
returns-in_err-op-clause-reads c =
    let p = err_from_is_err_and c.from_residual-in_err-op.result c.from_residual-in_err-op.ensures.1 in
    rw (p.1, p.2) (routine_fails c.args.name.now c.args.kinds.items c.args.depth c.args.bytes.now c.scope_of-scope.result c.scope_of-scope.ensures c.args.iter c.in_err-op.field-0.0 c.in_err-op.ensures.reads)

pub returns-clause-reads : goal.returns-clause-reads
returns-clause-reads c =
    routine_made c.args.name.now c.args.kinds.items c.args.depth c.args.bytes.now c.scope_of-scope.result c.scope_of-scope.ensures c.in_ok-name_of_spec.name_of_spec c.args.iter (op_seen (types_of c.last_operation_at.new.types) c.in_ok-op.op) c.in_ok-name_of_spec.ensures c.in_ok-op.ensures.reads
