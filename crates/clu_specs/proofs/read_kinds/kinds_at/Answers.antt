use Rattle.std.proofs.Common.{◌≡◌, [], ◌∷◌, ◌++◌, length, sym, ap, ◌∙◌}
use Rattle.std.proofs.lemmas.Result.{err_from_is_err_and}
use Rattle.clu_specs.specs.SpecReading.{kinds_step, kinds_next, kinds_read}
use Rattle.clu_specs.proofs.Rows.{row_on, row_end, row_fails, fails_on, row_out}
use Rattle.clu_specs.proofs.SpecRows.{kinds_made, counted}
use Rattle.clu_specs.proofs.read_kinds.kinds_at.Goals as goal

pub loop-preserved : goal.loop-preserved
loop-preserved c =
    let n : c.len.result ≡ length (c.loop.made.items ++ c.in_ok-kind.kind ∷ []) = c.len.ensures ∙ (c.push.new.self.ok.0 ∙ ap length c.in_ok-push.ensures.items) in
    rw c.in_ok-push.ensures.items
    (row_on kinds_step kinds_next (length c.args.bytes.now) c.loop.counter c.loop.made.items _ c.loop.rest.now c.in_ok-kind.after.now c.in-Some.next.now _ c.loop-test.true
    (kinds_made c.loop.made.items c.in_ok-kind.kind c.loop.rest.now c.in_ok-kind.after.now c.in_ok-kind.ensures) (counted _ _ c.in_ok-kind.after.now _ n (sym c.in-Some.ensures)) c.loop.invariant)

pub returns-in-None : goal.returns-in-None
unfolding kinds_read
returns-in-None c =
    let n : c.len.result ≡ length (c.loop.made.items ++ c.in_ok-kind.kind ∷ []) = c.len.ensures ∙ (c.push.new.self.ok.0 ∙ ap length c.in_ok-push.ensures.items) in
    rw c.in_ok-push.ensures.items
    (row_end kinds_step kinds_next (length c.args.bytes.now) c.loop.counter c.loop.made.items _ c.loop.rest.now c.in_ok-kind.after.now _ c.loop-test.true
    (kinds_made c.loop.made.items c.in_ok-kind.kind c.loop.rest.now c.in_ok-kind.after.now c.in_ok-kind.ensures) (counted _ _ c.in_ok-kind.after.now _ n (sym c.in-None.ensures)) c.loop.invariant)

pub returns : goal.returns
unfolding kinds_read
returns c = rw c.fault.ensures (row_out kinds_step kinds_next (length c.args.bytes.now) c.loop.counter c.loop.made.items c.loop.rest.now _ c.loop-test.false c.loop.invariant)

pub returns-in_err-kind : goal.returns-in_err-kind
unfolding kinds_read
returns-in_err-kind c =
    let p = err_from_is_err_and c.from_residual.result c.from_residual.ensures.1 in
    rw (p.1, p.2) (row_fails kinds_step kinds_next c.in_err-kind.field-0.0 (length c.args.bytes.now) c.loop.counter c.loop.made.items c.loop.rest.now _ c.loop-test.true (fails_on c.in_err-kind.field-0.0 _ _ c.in_err-kind.ensures) c.loop.invariant)
