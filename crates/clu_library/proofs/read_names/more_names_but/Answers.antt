use Rattle.std.proofs.Common.{[], ap, sym, subst, ◌∙◌}
use Rattle.std.proofs.lemmas.Result.{err_from_is_err_and}
use Rattle.clu_specs.specs.Reading.{Fails}
use Rattle.clu_format.proofs.Counting.{turn_on, turn_fails, all_made}
use Rattle.clu_library.specs.LibraryReading.{name_but_read, next_name_read}
use Rattle.clu_library.proofs.Stepping.{behind_pushed}
use Rattle.clu_library.proofs.read_names.more_names_but.Goals as goal

pub loop-preserved : goal.loop-preserved
loop-preserved c =
    record {
      last = rw (c.in_ok-push.ensures.items, c.in_ok-kept.ensures) (sym (behind_pushed [] c.in_ok-name.name.now c.loop.names.items));
      so_far =
          rw (c.in_ok-push.ensures.items, c.in_ok-kept.ensures)
          (turn_on (next_name_read c.args.own.now) c.args.count c.loop.counter c.loop.names.items c.in_ok-name.name.now c.loop.rest.now c.in_ok-name.after.now _ c.loop-test.true
          (ap (λ previous. name_but_read c.args.own.now previous c.loop.rest.now) (sym c.loop.invariant.last) ∙ c.in_ok-name.ensures) c.loop.invariant.so_far);
    }

pub returns-in_err-name : goal.returns-in_err-name
returns-in_err-name c =
    let p = err_from_is_err_and c.from_residual.result c.from_residual.ensures.1 in
    rw (p.1, p.2)
    (turn_fails (next_name_read c.args.own.now) c.in_err-name.field-0.0 c.args.count c.loop.counter c.loop.names.items c.loop.rest.now _ c.loop-test.true
    (subst (λ previous. Fails c.in_err-name.field-0.0 (name_but_read c.args.own.now previous c.loop.rest.now)) c.loop.invariant.last c.in_err-name.ensures) c.loop.invariant.so_far)

pub returns : goal.returns
returns c = rw c.from_vec.ensures (all_made (next_name_read c.args.own.now) c.args.count c.loop.counter c.loop.names.items c.loop.rest.now _ c.loop-test.false c.loop.invariant.so_far)
