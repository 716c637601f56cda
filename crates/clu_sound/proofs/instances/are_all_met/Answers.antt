use Rattle.std.proofs.Common.{true≢false, length, refl, sym}
use Rattle.clu_types.proofs.Carrying.{grows_on, length_grows}
use Rattle.clu_demands.proofs.Closing.{given_below}
use Rattle.clu_sound.proofs.PartsMet.{met_first, met_more, met_not, met_all, need_here, holds_now, holds_then}
use Rattle.clu_sound.proofs.instances.are_all_met.Goals as goal

pub loop-need-init : goal.loop-need-init
loop-need-init c = met_first c.args.given.now c.args.specs.now c.args.types.now c.args.asked.now c.args.met.now.keys c.requires.holds

pub is_need_met-requires-clause-need_in : goal.is_need_met-requires-clause-need_in
is_need_met-requires-clause-need_in c =
    need_here (length c.args.types.now) (length c.loop-need.types) (length_grows c.args.types.now c.loop-need.types c.loop-need.invariant.grows) c.args.asked.now c.loop-need.need-index c.need-item.result c.need-item.is c.requires.asked_in c.loop-need-test.true

pub is_need_met-requires-clause-given_in : goal.is_need_met-requires-clause-given_in
is_need_met-requires-clause-given_in c = given_below c.args.given.now c.args.types.now c.loop-need.types c.loop-need.invariant.grows c.requires.given_in

pub is_need_met-requires-clause-holds : goal.is_need_met-requires-clause-holds
is_need_met-requires-clause-holds c = holds_now c.args.given.now c.args.specs.now c.args.types.now c.loop-need.types c.loop-need.met.keys c.loop-need.invariant.grows c.requires.given_in c.loop-need.invariant.holds

pub returns-then-not-is_one_met : goal.returns-then-not-is_one_met
returns-then-not-is_one_met c = record {
  met = (λ t. absurd (true≢false (sym t)), λ m. absurd (met_not c.args.given.now c.args.specs.now c.args.types.now c.args.asked.now c.loop-need.types c.is_need_met.new.types c.loop-need.met.keys c.is_need_met.new.met.keys c.loop-need.need-index c.need-item.result _ c.requires.given_in c.requires.asked_in c.loop-need-test.true c.need-item.is c.loop-need.invariant c.in_ok-is_one_met.ensures.kept c.in_ok-is_one_met.ensures.holds c.in_ok-is_one_met.ensures.met c.if-not-is_one_met.true m));
  holds = holds_then c.args.given.now c.args.specs.now c.args.types.now c.loop-need.types c.is_need_met.new.types c.is_need_met.new.met.keys c.loop-need.invariant.grows c.requires.given_in c.in_ok-is_one_met.ensures.holds;
  kept = grows_on c.args.types.now c.loop-need.types c.is_need_met.new.types c.loop-need.invariant.grows c.in_ok-is_one_met.ensures.kept;
}

pub loop-need-preserved : goal.loop-need-preserved
loop-need-preserved c =
    met_more c.args.given.now c.args.specs.now c.args.types.now c.args.asked.now c.loop-need.types c.is_need_met.new.types c.loop-need.met.keys c.is_need_met.new.met.keys c.loop-need.need-index c.need-item.result _ c.requires.given_in c.requires.asked_in c.loop-need-test.true c.need-item.is c.loop-need.invariant c.in_ok-is_one_met.ensures.kept c.in_ok-is_one_met.ensures.holds c.in_ok-is_one_met.ensures.met c.if-not-is_one_met.false

pub returns : goal.returns
returns c = record {
  met = (λ t. met_all c.args.given.now c.args.specs.now c.args.types.now c.args.asked.now c.loop-need.types c.loop-need.met.keys c.loop-need.need-index c.loop-need-test.false c.loop-need.invariant, λ m. refl);
  holds = c.loop-need.invariant.holds;
  kept = c.loop-need.invariant.grows;
}
