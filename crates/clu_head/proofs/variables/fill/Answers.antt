use Rattle.std.proofs.Common.{◌∙◌, ℕ, [], ◌∷◌, ◌++◌, ap, sym, length, arith, length-append}
use Rattle.clu_types.specs.declared.term.Actual.TheVariants as actual
use Rattle.clu_head.proofs.Constants.{one_more}
use Rattle.clu_head.proofs.variables.fill.Goals as goal

pub loop-at-init : goal.loop-at-init
loop-at-init c = record { unchanged = c.requires; size = sym (c.len-at.ensures ∙ c.args.actuals.now.ok.0) }

pub loop-at-preserved : goal.loop-at-preserved
loop-at-preserved c = record {
  unchanged = one_more c.loop-at.actuals.items c.push.new.self.items c.loop-at.at (omega (arith, c.loop-at-test.true)) c.loop-at.invariant.size c.loop-at.invariant.unchanged
      (c.in_ok-push.ensures.items ∙ ap (λ (n : ℕ). c.loop-at.actuals.items ++ actual.ConstParam n ∷ []) c.number_at.ensures);
  size = ap length c.in_ok-push.ensures.items ∙ length-append c.loop-at.actuals.items _ ∙ omega (arith, c.loop-at.invariant.size);
}
