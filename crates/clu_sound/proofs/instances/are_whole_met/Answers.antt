use Rattle.std.proofs.Common.{length, sym, ap, subst, ◌∙◌}
use Rattle.clu_types.specs.Arena.{types_of, actuals_at}
use Rattle.clu_demands.specs.Asking.{seen_if, AreBelowIf}
use Rattle.clu_demands.proofs.Closing.{given_below}
use Rattle.clu_sound.proofs.PartsMet.{holds_grown, holds_now, on_then}
use Rattle.clu_sound.proofs.Judging.{demands_met, demands_none}
use Rattle.clu_sound.proofs.instances.are_whole_met.Goals as goal

pub are_needs_met-requires-clause-asked_in : goal.are_needs_met-requires-clause-asked_in
are_needs_met-requires-clause-asked_in c = subst (AreBelowIf (length c.all_demanded.new.types)) c.in-Some.is c.in_ok-asked.ensures.within

pub are_needs_met-requires-clause-given_in : goal.are_needs_met-requires-clause-given_in
are_needs_met-requires-clause-given_in c = given_below c.args.given.now c.args.types.now c.all_demanded.new.types c.in_ok-asked.ensures.kept c.requires.given_in

pub are_needs_met-requires-clause-holds : goal.are_needs_met-requires-clause-holds
are_needs_met-requires-clause-holds c =
    holds_now c.args.given.now c.args.specs.now c.args.types.now c.all_demanded.new.types c.args.met.now.keys c.in_ok-asked.ensures.kept c.requires.given_in
    (holds_grown c.args.given.now c.args.specs.now c.args.types.now c.all_demanded.new.types c.args.met.now.keys c.in_ok-asked.ensures.kept c.requires.holds)

pub returns-in-Some-clause-met : goal.returns-in-Some-clause-met
returns-in-Some-clause-met c =
    demands_met c.args.given.now c.args.specs.now c.args.spec.now c.args.demands.now (actuals_at (types_of c.args.types.now) c.args.actuals.now) c.args.types.now c.all_demanded.new.types c.in_ok-asked.ensures.kept c.requires.given_in c.requires.demands_in
    c.in-Some.asked (ap (seen_if (types_of c.all_demanded.new.types)) (sym c.in-Some.is) ∙ c.in_ok-asked.ensures.demanded) _ c.are_needs_met.ensures.met

pub returns-in-Some-clause-holds : goal.returns-in-Some-clause-holds
returns-in-Some-clause-holds c = on_then c.args.given.now c.args.specs.now c.args.types.now c.all_demanded.new.types c.are_needs_met.new.types c.are_needs_met.new.met.keys c.in_ok-asked.ensures.kept c.requires.given_in _ c.are_needs_met.ensures.holds

pub returns-in-None-clause-met : goal.returns-in-None-clause-met
returns-in-None-clause-met c =
    demands_none c.args.given.now c.args.specs.now c.args.spec.now c.args.demands.now (actuals_at (types_of c.args.types.now) c.args.actuals.now) c.args.types.now c.all_demanded.new.types c.in_ok-asked.ensures.kept c.requires.given_in c.requires.demands_in
    (ap (seen_if (types_of c.all_demanded.new.types)) (sym c.in-None.is) ∙ c.in_ok-asked.ensures.demanded)

pub returns-in-None-clause-holds : goal.returns-in-None-clause-holds
returns-in-None-clause-holds c = holds_grown c.args.given.now c.args.specs.now c.args.types.now c.all_demanded.new.types c.args.met.now.keys c.in_ok-asked.ensures.kept c.requires.holds
