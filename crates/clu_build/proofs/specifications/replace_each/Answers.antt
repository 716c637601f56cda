use Rattle.clu_base.proofs.Lists.{item_at}
use Rattle.clu_build.proofs.Replacing.{replaced_more}
use Rattle.clu_build.proofs.specifications.replace_each.Goals as goal

pub loop-spec-preserved : goal.loop-spec-preserved
loop-spec-preserved c =
    let at = item_at c.args.specs.now c.loop-spec.spec-index c.spec-item.result c.loop-spec-test.true c.spec-item.is in
    replaced_more c.args.library.now c.loop-spec.library c.replace.new.library c.args.specs.now c.loop-spec.spec-index c.spec-item.result c.in_ok-replace.field-0 at c.loop-spec.invariant c.in_ok-replace.ensures.replaced
