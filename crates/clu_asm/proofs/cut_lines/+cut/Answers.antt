use mir.Syntax.{w64}
use mir.Val.{SFits, to_z, of_z}
use Rattle.std.proofs.Common.{◌≡◌, ◌∙◌, ap, arith, below_more, rules}
use Rattle.std.proofs.Math.Facts.{to_z-of_z}
use Rattle.std.specs.Fmt.{signed_decimal}
use Rattle.clu_asm.specs.CutLines.{number_text, BeginsAt}
use Rattle.clu_asm.proofs.CutLemmas.{begin_end, begin_start, begin_so, begin_not, register_start, register_on, register_not, number_is_operand, at_so, at_front, number_one, number_no}
use Rattle.clu_asm.proofs.FrontLemmas.{yes, no, not_so, both}
use Rattle.clu_asm.proofs.cut_lines.+cut.Goals as goal

pub begins-returns-in-empty : goal.begins-returns-in-empty
begins-returns-in-empty t c = begin_end c.args.kinds.now c.args.mark c.args.cut.now c.is_empty.result c.in-empty.len_below c.is_empty.ensures

pub begins-returns-in-empty-cut : goal.begins-returns-in-empty-cut
begins-returns-in-empty-cut t c = begin_start c.args.kinds.now c.args.mark c.args.cut.now c.in-len1-up.len_at_least c.in-empty-cut.len_below

pub begins-returns-then-first-mark : goal.begins-returns-then-first-mark
begins-returns-then-first-mark t c =
    begin_so c.args.kinds.now _ c.args.mark c.args.cut.now c.begins_operand.result c.in-len1-up.len_at_least c.in-len1-up-cut.len_at_least c.if-first-mark.true c.begins_operand.ensures

pub begins-returns-else-first-mark : goal.begins-returns-else-first-mark
begins-returns-else-first-mark t c = begin_not c.args.kinds.now c.args.mark c.args.cut.now c.in-len1-up.len_at_least c.in-len1-up-cut.len_at_least c.if-first-mark.false

pub begins_at-returns-in-Some : goal.begins_at-returns-in-Some
begins_at-returns-in-Some t c =
    let fits : SFits w64 c.number.result = search rules in
    let back : to_z w64 (of_z w64 c.number.result) ≡ c.number.result = to_z-of_z fits in
    let text : c.as_bytes-text.result.now ≡ number_text c.args.kind c.args.n = c.as_bytes-text.ensures.value ∙ c.format.ensures.text ∙ ap signed_decimal (back ∙ c.number.ensures) in
    at_so c.args.kind c.args.rest.now c.args.cut.now c.args.n c.as_bytes-text.result.now c.in-Some.left.now c.begins.result text (c.in-Some.ensures {u = tt}) c.begins.ensures

pub begins_at-returns-in-None : goal.begins_at-returns-in-None
begins_at-returns-in-None t c =
    let fits : SFits w64 c.number.result = search rules in
    let back : to_z w64 (of_z w64 c.number.result) ≡ c.number.result = to_z-of_z fits in
    let text : c.as_bytes-text.result.now ≡ number_text c.args.kind c.args.n = c.as_bytes-text.ensures.value ∙ c.format.ensures.text ∙ ap signed_decimal (back ∙ c.number.ensures) in
    at_front c.args.kind c.args.rest.now c.args.cut.now c.args.n c.as_bytes-text.result.now c.is_front.result text (c.in-None.ensures {u = tt}) c.is_front.ensures

pub begins_number-returns-then-begins_at : goal.begins_number-returns-then-begins_at
begins_number-returns-then-begins_at t c =
    yes (number_one c.args.kind c.args.rest.now c.args.cut.now c.loop-n.n (omega (arith, c.loop-n-test.true, c.range_of-count.ensures.count)) (c.begins_at.ensures.0 c.if-begins_at.true))

pub begins_number-returns : goal.begins_number-returns
begins_number-returns t c =
    no (number_no c.args.kind c.args.rest.now c.args.cut.now (λ n lt. c.loop-n.invariant n (omega (arith, lt, c.loop-n-test.false, c.range_of-count.ensures.count))))

pub begins_operand-returns-in-empty : goal.begins_operand-returns-in-empty
begins_operand-returns-in-empty t c = register_start c.args.kind c.args.rest.now c.args.cut.now c.in-Register.is c.in-empty.len_below

pub begins_operand-returns-then-first-eq120 : goal.begins_operand-returns-then-first-eq120
begins_operand-returns-then-first-eq120 t c =
    register_on c.args.kind c.args.rest.now c.args.cut.now c.begins_number.result c.in-Register.is c.in-len1-up.len_at_least c.if-first-eq120.true c.begins_number.ensures

pub begins_operand-returns-else-first-eq120 : goal.begins_operand-returns-else-first-eq120
begins_operand-returns-else-first-eq120 t c = register_not c.args.kind c.args.rest.now c.args.cut.now c.in-Register.is c.in-len1-up.len_at_least c.if-first-eq120.false

pub begins_operand-returns-in_default : goal.begins_operand-returns-in_default
begins_operand-returns-in_default t c = both c.begins_number-in_default.ensures (number_is_operand c.args.kind c.args.rest.now c.args.cut.now c.in_default.not-Register)

pub begins_number-loop-n-init : goal.begins_number-loop-n-init
begins_number-loop-n-init t c = λ k lt. absurd (omega (arith, lt))

pub begins_number-loop-n-preserved : goal.begins_number-loop-n-preserved
begins_number-loop-n-preserved t c =
    below_more (λ k. BeginsAt c.args.kind c.args.rest.now c.args.cut.now k → ⊥) c.loop-n.n c.loop-n.invariant (not_so c.begins_at.result c.if-begins_at.false c.begins_at.ensures)
