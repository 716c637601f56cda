use Rattle.std.proofs.Common.{List, map, subst, sym}
use Rattle.std.specs.Vec.Iter.{into_iter_items}
use Rattle.clu_wir.specs.Adding.{Added}
use Rattle.clu_frames.specs.Regions.{added_of}
use Rattle.clu_frames.proofs.Giving.{Given, all_given, given_few, given_fits, given_next, next_given}
use Rattle.clu_frames.proofs.steps.give.Goals as goal

pub add-requires-clause-fits : goal.add-requires-clause-fits
add-requires-clause-fits g c =
    given_fits (next_given c.loop-region.region-iterator c.next.new.self c.next.result c.in-Some.region c.in-Some.is c.next.ensures.steps c.loop-region.invariant)

pub add-requires-clause-few : goal.add-requires-clause-few
add-requires-clause-few g c =
    given_few (next_given c.loop-region.region-iterator c.next.new.self c.next.result c.in-Some.region c.in-Some.is c.next.ensures.steps c.loop-region.invariant)

pub loop-region-preserved : goal.loop-region-preserved
loop-region-preserved g c =
    subst (λ (l : List Added). Given (map added_of c.args.regions.items) l (map added_of (into_iter_items c.next.new.self))) (sym c.in_ok-add.ensures.added)
    (given_next (next_given c.loop-region.region-iterator c.next.new.self c.next.result c.in-Some.region c.in-Some.is c.next.ensures.steps c.loop-region.invariant))

pub returns : goal.returns
returns g c = all_given c.loop-region.region-iterator c.next.new.self c.next.result c.in-None.is c.next.ensures.steps c.loop-region.invariant
