use Rattle.clu_base.proofs.Lists.{item_at}
use Rattle.clu_build.proofs.Adding.{one_entered}
use Rattle.clu_build.proofs.specifications.enter_nth.Goals as goal

pub returns-clause-entered : goal.returns-clause-entered
returns-clause-entered c = one_entered c.enter.result c.args.library.now c.enter.new.library c.args.specs.now c.args.number c.index-specs-number.result (item_at _ _ _ c.requires c.index-specs-number.is) c.enter.ensures.entered
