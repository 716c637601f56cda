use Rattle.std.proofs.Common.{length, sym, refl}
use Rattle.std.proofs.lemmas.Result.{err_from_is_err_and}
use Rattle.clu_types.specs.Arena.{signals_at, types_of, SignalsBelow}
use Rattle.clu_specs.specs.TypeReading.{type_read, signals_step, next_after, signals_read}
use Rattle.clu_specs.proofs.Growing.{Makes, signals_turn}
use Rattle.clu_specs.proofs.Rows.{row_on, row_end, row_fails, fails_on, row_out, signals_made}
use Rattle.clu_specs.proofs.read_headings.signals_at.Goals as goal

pub loop-preserved : goal.loop-preserved
loop-preserved c =
    let part = type_read c.args.scope.now c.args.depth in
    record {
      makes = rw c.in_ok-push.ensures.items (signals_turn _ _ _ _ _ c.loop.invariant.makes c.in_ok-signal.ensures.kept (c.in_ok-signal.ensures.within, tt));
      so_far =
          rw c.in_ok-push.ensures.items
          (row_on (signals_step part) (λ made rest. next_after made.1 rest) (length c.args.bytes.now) c.loop.counter (signals_at (types_of c.loop.types) c.loop.made.items, c.loop.previous.now) _ c.loop.rest.now c.in_ok-signal.after.now c.in-Some.next.now _ c.loop-test.true
          (signals_made c.loop.types c.signal_at.new.types c.in_ok-signal.ensures.kept part c.loop.made.items c.in_ok-signal.signal c.loop.previous.now c.in_ok-signal.name.now c.loop.rest.now c.in_ok-signal.after.now c.in_ok-signal.ensures.name c.loop.invariant.makes.within c.in_ok-signal.ensures.reads) (sym c.in-Some.ensures) c.loop.invariant.so_far);
    }

pub returns-in-None-clause-within : goal.returns-in-None-clause-within
returns-in-None-clause-within c =
    let made : Makes SignalsBelow c.args.types.now c.signal_at.new.types c.push.new.self.items =
    rw c.in_ok-push.ensures.items (signals_turn _ _ _ _ _ c.loop.invariant.makes c.in_ok-signal.ensures.kept (c.in_ok-signal.ensures.within, tt)) in
    rw c.from_vec.ensures made.within

pub returns-in-None-clause-reads : goal.returns-in-None-clause-reads
unfolding signals_read
returns-in-None-clause-reads c =
    let part = type_read c.args.scope.now c.args.depth in
    let read = row_end (signals_step part) (λ made rest. next_after made.1 rest) (length c.args.bytes.now) c.loop.counter (signals_at (types_of c.loop.types) c.loop.made.items, c.loop.previous.now) _ c.loop.rest.now c.in_ok-signal.after.now _ c.loop-test.true
    (signals_made c.loop.types c.signal_at.new.types c.in_ok-signal.ensures.kept part c.loop.made.items c.in_ok-signal.signal c.loop.previous.now c.in_ok-signal.name.now c.loop.rest.now c.in_ok-signal.after.now c.in_ok-signal.ensures.name c.loop.invariant.makes.within c.in_ok-signal.ensures.reads) (sym c.in-None.ensures) c.loop.invariant.so_far in
    rw (c.from_vec.ensures, c.in_ok-push.ensures.items) (rw read refl)

pub returns-clause-reads : goal.returns-clause-reads
unfolding signals_read
returns-clause-reads c =
    let part = type_read c.args.scope.now c.args.depth in
    let read = row_out (signals_step part) (λ made rest. next_after made.1 rest) (length c.args.bytes.now) c.loop.counter (signals_at (types_of c.loop.types) c.loop.made.items, c.loop.previous.now) c.loop.rest.now _ c.loop-test.false c.loop.invariant.so_far in
    rw c.fault.ensures (rw read refl)

pub returns-in_err-signal-clause-reads : goal.returns-in_err-signal-clause-reads
unfolding signals_read
returns-in_err-signal-clause-reads c =
    let part = type_read c.args.scope.now c.args.depth in
    let p = err_from_is_err_and c.from_residual.result c.from_residual.ensures.1 in
    rw (p.1, p.2) (fails_on c.in_err-signal.field-0.0 _ _ (row_fails (signals_step part) (λ made rest. next_after made.1 rest) c.in_err-signal.field-0.0 (length c.args.bytes.now) c.loop.counter (signals_at (types_of c.loop.types) c.loop.made.items, c.loop.previous.now) c.loop.rest.now _ c.loop-test.true (fails_on c.in_err-signal.field-0.0 _ _ c.in_err-signal.ensures.reads) c.loop.invariant.so_far))
