use Rattle.std.proofs.Common.{◌≤◌, length, arith, sym, ◌∙◌}
use Rattle.clu_asm.proofs.DigitLemmas.{row_past, row_within}
use Rattle.clu_asm.proofs.FrontLemmas.{no, both}
use Rattle.clu_asm.proofs.rows.begins_row.Goals as goal

pub returns-then-digits-count : goal.returns-then-digits-count
returns-then-digits-count c =
    let past = row_past c.args.word.now c.args.count c.args.cut.now c.in-Some.digits.now (c.in-Some.ensures {u = tt}) in
    (λ t. past.0 (c.if-digits-count.true, sym c.are_digits.ensures ∙ t), λ d. c.are_digits.ensures ∙ (past.1 d).1)

pub returns-else-digits-count : goal.returns-else-digits-count
returns-else-digits-count c =
    let past = row_past c.args.word.now c.args.count c.args.cut.now c.in-Some.digits.now (c.in-Some.ensures {u = tt}) in
    no (λ d. let few : length c.in-Some.digits.now ≤ c.args.count = (past.1 d).0 in omega (arith, few, c.if-digits-count.false))

pub returns-in-None : goal.returns-in-None
returns-in-None c = both c.is_front.ensures (row_within c.args.word.now c.args.count c.args.cut.now (c.in-None.ensures {u = tt}))
