use Rattle.std.proofs.Common.{◌≡◌, ◌++◌, ◌%◌, length, vec_len, List, ℕ, arith, ap, ◌∙◌, inr, refl, []}
use Rattle.clu_asm.specs.AssemblyText.{line, row_line}
use Rattle.clu_asm.proofs.LineLemmas.{stop_row, other_row}
use Rattle.clu_asm.proofs.RowLemmas.{rows_none, read_on}
use Rattle.clu_asm.proofs.reading.read_rows.Goals as goal

pub loop-line-init : goal.loop-line-init
loop-line-init c =
    let none : vec_len c.args.bytes.now ≡ 0 = c.args.bytes.now.ok.0 ∙ ap length c.requires.empty in
    record {
      text = rw c.requires.empty (rw (rows_none c.args.word.now [] (omega arith)) refl);
      whole = omega (arith, none);
      few = omega (arith, none);
    }

pub loop-line-preserved : goal.loop-line-preserved
loop-line-preserved c =
    let len : vec_len c.loop-line.bytes ≡ length c.loop-line.bytes.items = c.loop-line.bytes.ok.0 in
    let more = c.in_ok-extend_from_slice.ensures {u = tt} in
    let found = c.in-Some-row.ensures {u = tt} in
    let first = c.in-Some.ensures {u = tt} in
    let is_line : c.loop-line.rest.now ≡ row_line c.args.word.now c.in-Some-row.row ++ c.in-Some.after.now =
    first.splits ∙ ap (λ (t : List ℕ). line t ++ c.in-Some.after.now) found.text in
    record {
      text = rw more.items (read_on c.args.b.now c.args.word.now c.loop-line.bytes.items c.in-Some-row.row c.loop-line.rest.now c.in-Some.after.now
          (omega (arith, len, c.loop-line.invariant.whole)) found.eight c.loop-line.invariant.text is_line);
      whole = omega (arith, more.len, found.eight, c.loop-line.invariant.whole);
      few = omega (arith, more.len, found.eight, c.loop-line-test.true);
    }

pub returns-in_default-clause-stops : goal.returns-in_default-clause-stops
returns-in_default-clause-stops c = inr (stop_row c.args.word.now c.loop-line.rest.now c.requires.word (c.in_default.ensures {u = tt}).none)

pub returns-in_default-row-clause-stops : goal.returns-in_default-row-clause-stops
returns-in_default-row-clause-stops c =
    let first = c.in-Some.ensures {u = tt} in
    inr (other_row c.args.word.now c.loop-line.rest.now c.in-Some.line.now c.in-Some.after.now c.requires.word first.splits first.free
    (λ row eight are e. c.in_default-row.not-Some row (c.row.ensures.only row eight are e)))
