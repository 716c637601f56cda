use Rattle.std.proofs.Common.{◌+◌, Bool, List, sym, subst}
use Rattle.clu_handlers.specs.declared.region.Region.{Region}
use Rattle.clu_peep.specs.Moved.{IsMoved}
use Rattle.clu_peep.proofs.Nesting.{MovedSoFar, may_add, moved_more}
use Rattle.clu_peep.proofs.regions.moved_each.Goals as goal

pub insert-requires-clause-fits : goal.insert-requires-clause-fits
insert-requires-clause-fits c =
    may_add c.args.left.now c.args.regions.now c.loop-region.region-index c.loop-region.moved c.region-item.result c.in_ok-region.region
    c.loop-region.invariant c.requires.nested c.loop-region-test.true c.region-item.is (sym c.if-not-has_place.ensures)
    (subst (λ (s : List Bool). IsMoved c.args.left.now s c.region-item.result c.in_ok-region.region) c.requires.stays c.in_ok-region.ensures)

pub loop-region-preserved : goal.loop-region-preserved
loop-region-preserved c =
    subst (λ (l : List Region). MovedSoFar c.args.left.now c.args.regions.now (c.loop-region.region-index + 1) l) (sym c.in_ok-insert.ensures.added)
    (moved_more c.args.left.now c.args.regions.now c.loop-region.region-index c.loop-region.moved c.region-item.result c.in_ok-region.region
    c.loop-region.invariant c.loop-region-test.true c.region-item.is (sym c.if-not-has_place.ensures)
    (subst (λ (s : List Bool). IsMoved c.args.left.now s c.region-item.result c.in_ok-region.region) c.requires.stays c.in_ok-region.ensures))
