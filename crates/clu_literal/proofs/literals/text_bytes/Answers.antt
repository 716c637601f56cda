use Rattle.std.proofs.lemmas.Grind.{common_steps}
use Rattle.std.proofs.Common.{◌∙◌, Some, ap, arith, rules}
use Rattle.clu_literal.specs.Literal.{as_byte}
use Rattle.clu_literal.proofs.Taken.{end_taken, escape_fails, escape_taken, plain_taken}
use Rattle.clu_literal.proofs.literals.text_bytes.Goals as goal

pub loop-text-preserved-in_ok-push-in-Some : goal.loop-text-preserved-in_ok-push-in-Some
loop-text-preserved-in_ok-push-in-Some c = (
  escape_taken c.loop-text.bytes.items c.push.new.self.items c.loop-text.text.now c.loop-text.skip c.escape_len-skip.result c.in-Some.byte _
      c.in-len1-up.len_at_least (omega (arith, c.if-skip-gt0.false)) c.if-b-eq92.true (c.in-Some.ensures ∙ ap as_byte c.escape_code.ensures) (search rules) c.escape_len-skip.ensures c.loop-text.invariant.0,
  grind (arith, common_steps),
)

pub loop-text-preserved : goal.loop-text-preserved
loop-text-preserved c = (
  plain_taken c.loop-text.bytes.items c.push-else-b-eq92.new.self.items c.loop-text.text.now c.loop-text.skip _
      c.in-len1-up.len_at_least (omega (arith, c.if-skip-gt0.false)) c.if-b-eq34.false c.if-b-eq92.false (search rules) c.loop-text.invariant.0,
  grind (arith, common_steps),
)

pub returns-clause-denoted : goal.returns-clause-denoted
returns-clause-denoted c = ap Some c.from_vec-2.ensures ∙ (end_taken c.loop-text.bytes.items c.loop-text.text.now c.loop-text.skip _ c.in_default.len_below c.loop-text.invariant.0)

pub returns-in-None-clause-denoted : goal.returns-in-None-clause-denoted
returns-in-None-clause-denoted c =
    escape_fails c.loop-text.bytes.items c.loop-text.text.now c.loop-text.skip _
    c.in-len1-up.len_at_least (omega (arith, c.if-skip-gt0.false)) c.if-b-eq92.true (c.in-None.ensures ∙ ap as_byte c.escape_code.ensures) c.loop-text.invariant.0
