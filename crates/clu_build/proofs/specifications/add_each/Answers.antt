use Rattle.clu_base.proofs.Lists.{item_at}
use Rattle.clu_build.proofs.Numbering.{numbered_all, numbered_more}
use Rattle.clu_build.proofs.specifications.add_each.Goals as goal

pub loop-number-preserved : goal.loop-number-preserved
loop-number-preserved c =
    let at = item_at c.args.specs.now c.loop-number.number c.index-specs-number.result c.loop-number-test.true c.index-specs-number.is in
    numbered_more c.args.specs.now c.loop-number.numbers.entries c.add.new.numbers.entries c.loop-number.number c.index-specs-number.result c.loop-number.invariant at c.in_ok-add.ensures.added

pub returns-clause-numbered : goal.returns-clause-numbered
returns-clause-numbered c = numbered_all c.args.specs.now c.loop-number.numbers.entries c.loop-number.number c.loop-number-test.false c.loop-number.invariant
