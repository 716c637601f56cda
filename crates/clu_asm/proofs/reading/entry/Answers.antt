use mir.Syntax.{w32}
use mir.Val.{SFits, to_z, of_z}
use Rattle.std.proofs.Common.{◌≡◌, rules, Some, ap, ◌∙◌, sym, ℤ}
use Rattle.std.proofs.Math.Facts.{to_z-of_z}
use Rattle.clu_asm.specs.Candidates.{number_of}
use Rattle.clu_asm.proofs.NumberLemmas.{entry_text, entry_number_is, entry_number_none}
use Rattle.clu_asm.proofs.reading.entry.Goals as goal

pub returns-in-Some-number-clause-text : goal.returns-in-Some-number-clause-text
returns-in-Some-number-clause-text c =
    let fits : SFits w32 c.in-Some-number.n = search rules in
    let back : to_z w32 (of_z w32 c.in-Some-number.n) ≡ c.in-Some-number.n = to_z-of_z fits in
    let read : Some (to_z w32 (of_z w32 c.in-Some-number.n)) ≡ number_of c.in-Some.digits.now = ap (λ (z : ℤ). Some z) back ∙ c.in-Some-number.ensures {u = tt} in
    entry_text c.entry_number.result (to_z w32 (of_z w32 c.in-Some-number.n)) c.args.text.now c.in-Some.digits.now c.entry_number.ensures.number read (c.in-Some.ensures {u = tt})

pub returns-in-Some-number-clause-only : goal.returns-in-Some-number-clause-only
returns-in-Some-number-clause-only c = λ n lt e.
    let fits : SFits w32 c.in-Some-number.n = search rules in
    let back : to_z w32 (of_z w32 c.in-Some-number.n) ≡ c.in-Some-number.n = to_z-of_z fits in
    let is = entry_number_is c.in-Some-number.n c.args.text.now c.in-Some.digits.now n (c.in-Some-number.ensures {u = tt}) (c.in-Some.ensures {u = tt}) lt e in
    c.entry_number.ensures.only n lt (back ∙ is)

pub returns-in-None-number-clause-only : goal.returns-in-None-number-clause-only
returns-in-None-number-clause-only c = λ n lt e.
    absurd (entry_number_none c.args.text.now c.in-Some.digits.now n (c.in-None-number.ensures {u = tt}) (c.in-Some.ensures {u = tt}) lt e)
