use Rattle.std.proofs.Common.{◌<◌, true≢false, arith, refl, sym, length}
use Rattle.clu_base.proofs.Lists.{some_at}
use Rattle.clu_types.proofs.Carrying.{ids_grown, grows_on}
use Rattle.clu_demands.proofs.Closing.{given_below}
use Rattle.clu_sound.proofs.PartsMet.{visiting_first, visiting_more, visiting_not, visiting_all, holds_now}
use Rattle.clu_sound.proofs.visiting.are_met_with.Goals as goal

pub loop-n-init : goal.loop-n-init
loop-n-init c = visiting_first c.args.given.now c.args.specs.now c.args.types.now c.args.ids.now.keys c.args.met.now.keys c.requires.ids_in c.requires.holds

pub visit_nth-requires-clause-ids_in : goal.visit_nth-requires-clause-ids_in
visit_nth-requires-clause-ids_in c = ids_grown c.args.types.now c.loop-n.types c.loop-n.invariant.grows c.loop-n.ids.keys c.loop-n.invariant.within

pub visit_nth-requires-clause-given_in : goal.visit_nth-requires-clause-given_in
visit_nth-requires-clause-given_in c = given_below c.args.given.now c.args.types.now c.loop-n.types c.loop-n.invariant.grows c.requires.given_in

pub visit_nth-requires-clause-holds : goal.visit_nth-requires-clause-holds
visit_nth-requires-clause-holds c = holds_now c.args.given.now c.args.specs.now c.args.types.now c.loop-n.types c.loop-n.met.keys c.loop-n.invariant.grows c.requires.given_in c.loop-n.invariant.holds

pub returns-then-n-len : goal.returns-then-n-len
returns-then-n-len c = record {
  met = (λ t. visiting_all c.args.given.now c.args.specs.now c.args.types.now c.args.ids.now.keys c.requires.given_in c.loop-n.types c.loop-n.ids.keys c.loop-n.met.keys c.loop-n.n c.loop-n.invariant (omega (arith, c.if-n-len.true, c.len.ensures.len)), λ m. refl);
  kept = c.loop-n.invariant.grows;
}

pub returns-then-not-is_one_met : goal.returns-then-not-is_one_met
returns-then-not-is_one_met c =
    let here = some_at c.loop-n.ids.keys c.loop-n.n (omega (arith, c.if-n-len.false, c.len.ensures.len)) in
    record {
      met = (λ t. absurd (true≢false (sym t)), λ m. absurd (visiting_not c.args.given.now c.args.specs.now c.args.types.now c.args.ids.now.keys c.requires.given_in c.loop-n.types c.loop-n.ids.keys c.loop-n.met.keys c.loop-n.n c.loop-n.invariant here.0 here.1 _ _ (c.in_ok-is_one_met.ensures.visited here.0 here.1) c.if-not-is_one_met.true m));
      kept = grows_on c.args.types.now c.loop-n.types c.visit_nth.new.types c.loop-n.invariant.grows c.in_ok-is_one_met.ensures.kept;
    }

pub loop-n-preserved : goal.loop-n-preserved
loop-n-preserved c =
    let lt : c.loop-n.n < length c.loop-n.ids.keys = omega (arith, c.if-n-len.false, c.len.ensures.len) in
    let here = some_at c.loop-n.ids.keys c.loop-n.n lt in
    visiting_more c.args.given.now c.args.specs.now c.args.types.now c.args.ids.now.keys c.requires.given_in c.loop-n.types c.loop-n.ids.keys c.loop-n.met.keys c.loop-n.n c.loop-n.invariant here.0 here.1 c.visit_nth.new.ids.keys _ (c.in_ok-is_one_met.ensures.visited here.0 here.1) c.if-not-is_one_met.false
    lt (omega (arith, c.if-n-len.false, c.len.ensures.small)) c.visit_nth.new.types c.visit_nth.new.met.keys c.in_ok-is_one_met.ensures.kept c.in_ok-is_one_met.ensures.holds

pub returns : goal.returns
returns c = absurd (omega (arith, c.loop-n-test.false, c.loop-n.invariant.few))
