use Rattle.std.proofs.Common.{map, true≢false, length, arith, refl, sym, ◌∙◌}
use Rattle.clu_types.specs.Arena.{types_of}
use Rattle.clu_specs.specs.Seen.{demand_seen}
use Rattle.clu_demands.proofs.Closing.{begun_answered, begun_below, is_met, is_not_met, met_left, left_closed, left_below}
use Rattle.clu_demands.proofs.meeting.is_met.Goals as goal

pub are_met_from-requires-clause-few : goal.are_met_from-requires-clause-few
are_met_from-requires-clause-few c = omega (arith, c.len-before.ensures.small)

pub are_met_from-requires-clause-met_in : goal.are_met_from-requires-clause-met_in
are_met_from-requires-clause-met_in c = begun_below (map (demand_seen (types_of c.args.types.now)) c.args.given.now) c.args.specs.now c.args.types.now c.args.met.now.keys c.args.need c.requires.closed c.requires.met_in c.requires.need_in c.insert.new.self.keys c.in_ok-insert.ensures.keys

pub are_met_from-requires-clause-answered : goal.are_met_from-requires-clause-answered
are_met_from-requires-clause-answered c = begun_answered (map (demand_seen (types_of c.args.types.now)) c.args.given.now) c.args.specs.now c.args.types.now c.args.met.now.keys c.args.need c.requires.closed c.requires.met_in c.requires.need_in c.insert.new.self.keys c.in_ok-insert.ensures.keys c.len-before.result c.len-before.ensures.len

pub returns-then-all : goal.returns-then-all
returns-then-all c = record {
  met = (λ t. is_met (map (demand_seen (types_of c.args.types.now)) c.args.given.now) c.args.specs.now c.args.types.now c.args.met.now.keys c.args.need c.requires.closed c.requires.met_in c.requires.need_in c.insert.new.self.keys c.in_ok-insert.ensures.keys c.are_met_from.new.types c.are_met_from.new.met.keys c.in_ok-all.ensures.kept c.in_ok-all.ensures.front (c.in_ok-all.ensures.all c.if-all.true), λ m. refl);
  closed = c.in_ok-all.ensures.all c.if-all.true;
  within = c.in_ok-all.ensures.within;
  kept = c.in_ok-all.ensures.kept;
}

pub returns-else-all : goal.returns-else-all
returns-else-all c =
    let left = met_left (map (demand_seen (types_of c.args.types.now)) c.args.given.now) c.args.specs.now c.args.types.now c.args.met.now.keys c.args.need c.requires.closed c.requires.met_in c.requires.need_in c.insert.new.self.keys c.in_ok-insert.ensures.keys c.len-before.result c.len-before.ensures.len c.are_met_from.new.met.keys c.in_ok-all.ensures.front in
    record {
      met = (λ t. absurd (true≢false (sym t)), λ m. absurd (is_not_met (map (demand_seen (types_of c.args.types.now)) c.args.given.now) c.args.specs.now c.args.types.now c.args.met.now.keys c.args.need c.requires.closed c.requires.met_in c.requires.need_in c.insert.new.self.keys c.in_ok-insert.ensures.keys c.len-before.result c.len-before.ensures.len (c.in_ok-all.ensures.none c.if-all.false) m));
      closed = left_closed (map (demand_seen (types_of c.args.types.now)) c.args.given.now) c.args.specs.now c.args.types.now c.args.met.now.keys c.args.need c.requires.closed c.requires.met_in c.requires.need_in c.are_met_from.new.types c.in_ok-all.ensures.kept c.truncate.new.self.keys (c.truncate.ensures.keys ∙ left);
      within = left_below (map (demand_seen (types_of c.args.types.now)) c.args.given.now) c.args.specs.now c.args.types.now c.args.met.now.keys c.args.need c.requires.closed c.requires.met_in c.requires.need_in c.are_met_from.new.types c.in_ok-all.ensures.kept c.truncate.new.self.keys (c.truncate.ensures.keys ∙ left);
      kept = c.in_ok-all.ensures.kept;
    }
