use Rattle.std.proofs.Common.{◌∙◌, refl, ap, length, arith, length-append}
use Rattle.clu_head.proofs.Led.{one_more}
use Rattle.clu_head.proofs.sets.spans_of.Goals as goal

pub loop-at-preserved : goal.loop-at-preserved
loop-at-preserved c = record {
  size = ap length c.in_ok-push.ensures.items ∙ length-append c.loop-at.spans.items _ ∙ omega (arith, c.loop-at.invariant.size);
  one = one_more c.loop-at.spans.items c.push.new.self.items c.loop-at.at _ c.loop-at.invariant.size c.loop-at.invariant.one refl c.in_ok-push.ensures.items;
}
