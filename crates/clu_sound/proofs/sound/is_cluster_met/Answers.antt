use Rattle.std.proofs.Common.{true≢false, sym}
use Rattle.clu_demands.proofs.Closing.{given_below}
use Rattle.clu_sound.proofs.Judging.{ops_below, cluster_then}
use Rattle.clu_sound.proofs.sound.is_cluster_met.Goals as goal

pub are_routines_met-requires-clause-demands_in : goal.are_routines_met-requires-clause-demands_in
are_routines_met-requires-clause-demands_in c = given_below c.args.demands.now c.args.types.now c.are_wanted_met.new.types c.in_ok-are_own_met.ensures.kept c.requires.demands_in

pub are_routines_met-requires-clause-ops_in : goal.are_routines_met-requires-clause-ops_in
are_routines_met-requires-clause-ops_in c = ops_below c.args.types.now c.are_wanted_met.new.types c.in_ok-are_own_met.ensures.kept c.args.ops.now c.requires.ops_in

pub returns-then-are_own_met : goal.returns-then-are_own_met
returns-then-are_own_met c =
    cluster_then c.args.specs.now c.args.types.now c.are_wanted_met.new.types c.in_ok-are_own_met.ensures.kept c.args.demands.now c.requires.demands_in c.args.ops.now c.requires.ops_in
    (c.in_ok-are_own_met.ensures.met.0 c.if-are_own_met.true) _ c.are_routines_met.ensures.met

pub returns-else-are_own_met : goal.returns-else-are_own_met
returns-else-are_own_met c = (λ t. absurd (true≢false (sym t)), λ h. let found = c.in_ok-are_own_met.ensures.met.1 h.0 in let none = c.if-are_own_met.false in cc)
