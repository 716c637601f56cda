use Rattle.std.proofs.Common.{◌≡◌, ◌++◌, ℕ, List, length, ap, subst, sym, ◌∙◌, IfErr}
use Rattle.clu_base.specs.declared.errors.FormatError.{FormatError}
use Rattle.clu_asm.specs.AssemblyText.{line}
use Rattle.clu_asm.specs.Faults.{IsFault}
use Rattle.clu_asm.proofs.FaultLemmas.{first_bad}
use Rattle.clu_asm.proofs.Unique.{asm_first, asm_lines, small_entry}
use Rattle.clu_asm.proofs.reading.read_asm.Goals as goal

pub read_parts-requires-clause-end : goal.read_parts-requires-clause-end
read_parts-requires-clause-end c =
    let first = c.in-Some.ensures {u = tt} in
    let read = c.in-Some-entry.ensures {u = tt} in
    ap length (first.splits ∙ ap (λ (t : List ℕ). line t ++ c.in-Some.rest.now) read.text)

pub returns-in-Some-entry-clause-place : goal.returns-in-Some-entry-clause-place
returns-in-Some-entry-clause-place c =
    let first = c.in-Some.ensures {u = tt} in
    let read = c.in-Some-entry.ensures {u = tt} in
    let whole = first.splits ∙ ap (λ (t : List ℕ). line t ++ c.in-Some.rest.now) read.text in
    subst (λ (t : List ℕ). IfErr c.read_parts.result (λ (e : FormatError). IsFault e t)) (sym whole) c.read_parts.ensures.place

pub returns-in-None-entry-clause-every_text : goal.returns-in-None-entry-clause-every_text
returns-in-None-entry-clause-every_text c = λ i is e.
    let first = c.in-Some.ensures {u = tt} in
    let text = asm_first c.args.b.now c.in-Some.text.now c.in-Some.rest.now i is first.splits first.free e in
    let read = (c.in-None-entry.ensures {u = tt}).only i.entry (small_entry i is) text in
    absurd (cc (read))

pub returns-in-None-entry-clause-place : goal.returns-in-None-entry-clause-place
returns-in-None-entry-clause-place c =
    let first = c.in-Some.ensures {u = tt} in
    first_bad c.args.b.now c.in-Some.text.now c.in-Some.rest.now first.splits first.free
    (λ n lt e. let read = (c.in-None-entry.ensures {u = tt}).only n lt e in absurd (cc (read)))

pub returns-in-None-clause-every_text : goal.returns-in-None-clause-every_text
returns-in-None-clause-every_text c = λ i is e. absurd (asm_lines c.args.b.now i is (c.in-None.ensures {u = tt}).none e)
