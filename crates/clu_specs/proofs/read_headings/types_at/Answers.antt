use Rattle.std.proofs.Common.{length, sym}
use Rattle.std.proofs.lemmas.Result.{err_from_is_err_and}
use Rattle.clu_types.specs.Arena.{types_at, types_of, AreBelow}
use Rattle.clu_specs.specs.Reading.{behind}
use Rattle.clu_specs.specs.TypeReading.{type_read, types_step, types_read}
use Rattle.clu_specs.proofs.Growing.{Makes, types_turn}
use Rattle.clu_specs.proofs.Rows.{row_on, row_end, row_fails, fails_on, row_out, types_made}
use Rattle.clu_specs.proofs.read_headings.types_at.Goals as goal

pub loop-preserved : goal.loop-preserved
loop-preserved c =
    let part = type_read c.args.scope.now c.args.depth in
    record {
      makes = rw c.in_ok-push.ensures.items (types_turn _ _ _ _ _ c.loop.invariant.makes c.in_ok-id.ensures.kept (c.in_ok-id.ensures.within, tt));
      so_far =
          rw c.in_ok-push.ensures.items
          (row_on (types_step part) (λ made rest. behind 44 rest) (length c.args.bytes.now) c.loop.counter (types_at (types_of c.loop.types) c.loop.made.items) _ c.loop.rest.now c.in_ok-id.after.now c.in-Some.next.now _ c.loop-test.true
          (types_made c.loop.types c.type_at.new.types c.in_ok-id.ensures.kept part c.loop.made.items c.in_ok-id.id c.loop.rest.now c.in_ok-id.after.now c.loop.invariant.makes.within c.in_ok-id.ensures.reads) (sym c.in-Some.ensures) c.loop.invariant.so_far);
    }

pub returns-in-None-clause-within : goal.returns-in-None-clause-within
returns-in-None-clause-within c =
    let made : Makes AreBelow c.args.types.now c.type_at.new.types c.push.new.self.items =
    rw c.in_ok-push.ensures.items (types_turn _ _ _ _ _ c.loop.invariant.makes c.in_ok-id.ensures.kept (c.in_ok-id.ensures.within, tt)) in
    rw c.from_vec.ensures made.within

pub returns-in-None-clause-reads : goal.returns-in-None-clause-reads
unfolding types_read
returns-in-None-clause-reads c =
    let part = type_read c.args.scope.now c.args.depth in
    let read = row_end (types_step part) (λ made rest. behind 44 rest) (length c.args.bytes.now) c.loop.counter (types_at (types_of c.loop.types) c.loop.made.items) _ c.loop.rest.now c.in_ok-id.after.now _ c.loop-test.true
    (types_made c.loop.types c.type_at.new.types c.in_ok-id.ensures.kept part c.loop.made.items c.in_ok-id.id c.loop.rest.now c.in_ok-id.after.now c.loop.invariant.makes.within c.in_ok-id.ensures.reads) (sym c.in-None.ensures) c.loop.invariant.so_far in
    rw (c.from_vec.ensures, c.in_ok-push.ensures.items) read

pub returns-clause-reads : goal.returns-clause-reads
unfolding types_read
returns-clause-reads c =
    let part = type_read c.args.scope.now c.args.depth in
    let read = row_out (types_step part) (λ made rest. behind 44 rest) (length c.args.bytes.now) c.loop.counter (types_at (types_of c.loop.types) c.loop.made.items) c.loop.rest.now _ c.loop-test.false c.loop.invariant.so_far in
    rw c.fault.ensures read

pub returns-in_err-id-clause-reads : goal.returns-in_err-id-clause-reads
unfolding types_read
returns-in_err-id-clause-reads c =
    let part = type_read c.args.scope.now c.args.depth in
    let p = err_from_is_err_and c.from_residual.result c.from_residual.ensures.1 in
    rw (p.1, p.2) (row_fails (types_step part) (λ made rest. behind 44 rest) c.in_err-id.field-0.0 (length c.args.bytes.now) c.loop.counter (types_at (types_of c.loop.types) c.loop.made.items) c.loop.rest.now _ c.loop-test.true (fails_on c.in_err-id.field-0.0 _ _ c.in_err-id.ensures.reads) c.loop.invariant.so_far)
