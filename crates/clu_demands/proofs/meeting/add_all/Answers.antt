use Rattle.std.proofs.Common.{List, sym, subst, ◌∙◌}
use Rattle.std.specs.Vec.Iter.{into_iter_items}
use Rattle.clu_base.proofs.Lists.{next_item}
use Rattle.clu_demands.specs.declared.needs.Asked.{Asked}
use Rattle.clu_demands.proofs.Lists.{Adding, adding_first, adding_more, adding_all, none_left}
use Rattle.clu_demands.proofs.meeting.add_all.Goals as goal

pub loop-need-init : goal.loop-need-init
loop-need-init c =
    subst (λ (l : List Asked). Adding c.args.met.now.keys c.args.asked l c.args.met.now.keys) (sym (c.into_iter-need-iterator.ensures.into_iter_gives.0 ∙ c.into_vec-asked.ensures)) (adding_first c.args.met.now.keys c.args.asked)

pub loop-need-preserved : goal.loop-need-preserved
loop-need-preserved c =
    let rest = next_item c.loop-need.need-iterator c.next.new.self c.next.result c.in-Some.need c.in-Some.is c.next.ensures.steps in
    adding_more c.args.met.now.keys c.args.asked (into_iter_items c.next.new.self) c.loop-need.met.keys c.in-Some.need c.insert.new.self.keys
    (subst (λ (l : List Asked). Adding c.args.met.now.keys c.args.asked l c.loop-need.met.keys) rest c.loop-need.invariant) c.in_ok-insert.ensures.keys

pub returns : goal.returns
returns c =
    adding_all c.args.met.now.keys c.args.asked (into_iter_items c.loop-need.need-iterator) c.loop-need.met.keys
    (none_left c.loop-need.need-iterator c.next.new.self c.next.result c.in-None.is c.next.ensures.steps) c.loop-need.invariant
