use Rattle.std.proofs.Common.{length, map, sym, refl}
use Rattle.std.proofs.lemmas.Result.{err_from_is_err_and}
use Rattle.clu_types.specs.Arena.{types_of}
use Rattle.clu_specs.specs.TypeReading.{type_read}
use Rattle.clu_specs.specs.Seen.{op_seen}
use Rattle.clu_specs.specs.SpecReading.{operations_step, operations_next, operations_read}
use Rattle.clu_specs.specs.Specifications.{OpsBelow}
use Rattle.clu_specs.proofs.Growing.{Makes, ops_turn}
use Rattle.clu_specs.proofs.Rows.{row_on, row_end, row_fails, fails_on, row_out}
use Rattle.clu_specs.proofs.SpecRows.{operations_made}
use Rattle.clu_specs.proofs.read_specs.operations_at.Goals as goal

pub loop-preserved : goal.loop-preserved
loop-preserved c =
    let part = type_read c.args.scope.now c.args.depth in
    record {
      makes = rw c.in_ok-push.ensures.items (ops_turn _ _ _ _ _ c.loop.invariant.makes c.in_ok-op.ensures.kept (c.in_ok-op.ensures.within, tt));
      so_far =
          rw c.in_ok-push.ensures.items
          (row_on (operations_step c.args.scope.now part) (operations_next c.args.scope.now part) (length c.args.bytes.now) c.loop.counter (map (op_seen (types_of c.loop.types)) c.loop.made.items, c.loop.previous.now) _ c.loop.rest.now c.in_ok-op.after.now c.in-Some.next.now _ c.loop-test.true
          (operations_made c.loop.types c.named_operation_at.new.types c.in_ok-op.ensures.kept c.args.scope.now part c.loop.made.items c.in_ok-op.op c.loop.previous.now c.in_ok-op.name.now c.loop.rest.now c.in_ok-op.after.now c.in_ok-op.ensures.name c.loop.invariant.makes.within c.in_ok-op.ensures.reads) (sym c.in-Some.ensures) c.loop.invariant.so_far);
    }

pub returns-in-None-clause-within : goal.returns-in-None-clause-within
returns-in-None-clause-within c =
    let made : Makes OpsBelow c.args.types.now c.named_operation_at.new.types c.push.new.self.items =
    rw c.in_ok-push.ensures.items (ops_turn _ _ _ _ _ c.loop.invariant.makes c.in_ok-op.ensures.kept (c.in_ok-op.ensures.within, tt)) in
    rw c.from_vec.ensures made.within

pub returns-in-None-clause-reads : goal.returns-in-None-clause-reads
unfolding operations_read
returns-in-None-clause-reads c =
    let part = type_read c.args.scope.now c.args.depth in
    let read = row_end (operations_step c.args.scope.now part) (operations_next c.args.scope.now part) (length c.args.bytes.now) c.loop.counter (map (op_seen (types_of c.loop.types)) c.loop.made.items, c.loop.previous.now) _ c.loop.rest.now c.in_ok-op.after.now _ c.loop-test.true
    (operations_made c.loop.types c.named_operation_at.new.types c.in_ok-op.ensures.kept c.args.scope.now part c.loop.made.items c.in_ok-op.op c.loop.previous.now c.in_ok-op.name.now c.loop.rest.now c.in_ok-op.after.now c.in_ok-op.ensures.name c.loop.invariant.makes.within c.in_ok-op.ensures.reads) (sym c.in-None.ensures) c.loop.invariant.so_far in
    rw (c.from_vec.ensures, c.in_ok-push.ensures.items) (rw read refl)

pub returns-clause-reads : goal.returns-clause-reads
unfolding operations_read
returns-clause-reads c =
    let part = type_read c.args.scope.now c.args.depth in
    let read = row_out (operations_step c.args.scope.now part) (operations_next c.args.scope.now part) (length c.args.bytes.now) c.loop.counter (map (op_seen (types_of c.loop.types)) c.loop.made.items, c.loop.previous.now) c.loop.rest.now _ c.loop-test.false c.loop.invariant.so_far in
    rw c.fault.ensures (rw read refl)

pub returns-in_err-op-clause-reads : goal.returns-in_err-op-clause-reads
unfolding operations_read
returns-in_err-op-clause-reads c =
    let part = type_read c.args.scope.now c.args.depth in
    let p = err_from_is_err_and c.from_residual.result c.from_residual.ensures.1 in
    rw (p.1, p.2) (fails_on c.in_err-op.field-0.0 _ _ (row_fails (operations_step c.args.scope.now part) (operations_next c.args.scope.now part) c.in_err-op.field-0.0 (length c.args.bytes.now) c.loop.counter (map (op_seen (types_of c.loop.types)) c.loop.made.items, c.loop.previous.now) c.loop.rest.now _ c.loop-test.true (fails_on c.in_err-op.field-0.0 _ _ c.in_err-op.ensures.reads) c.loop.invariant.so_far))
