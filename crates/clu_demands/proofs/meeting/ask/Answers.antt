use Rattle.std.proofs.Common.{map, sym}
use Rattle.clu_types.specs.Arena.{types_of}
use Rattle.clu_specs.specs.Seen.{demand_seen}
use Rattle.clu_demands.proofs.Seen.{below_at}
use Rattle.clu_demands.proofs.Closing.{asked_if_ok, none_if_ok, none_there}
use Rattle.clu_demands.proofs.meeting.ask.Goals as goal

pub asked_by-requires-clause-need_in : goal.asked_by-requires-clause-need_in
asked_by-requires-clause-need_in c = below_at _ _ _ _ c.requires.met_in (sym c.in-Some.ensures.key)

pub returns-in_ok-found-in-Some-clause-more : goal.returns-in_ok-found-in-Some-clause-more
returns-in_ok-found-in-Some-clause-more c =
    asked_if_ok (map (demand_seen (types_of c.args.types.now)) c.args.given.now) c.args.specs.now c.args.types.now c.asked_by.new.types c.args.met.now.keys c.add_found.new.met.keys c.args.n c.in-Some.need.now (sym c.in-Some.ensures.key)
    c.in_ok-found-in-Some.found c.in_ok-found-in-Some.ensures.asks c.in_ok-found-in-Some.ensures.within _ c.add_found.ensures.more

pub returns-in_ok-found-in-Some-clause-none : goal.returns-in_ok-found-in-Some-clause-none
returns-in_ok-found-in-Some-clause-none c =
    none_if_ok (map (demand_seen (types_of c.args.types.now)) c.args.given.now) c.args.specs.now c.args.types.now c.asked_by.new.types c.args.met.now.keys c.add_found.new.met.keys c.args.n c.in-Some.need.now (sym c.in-Some.ensures.key)
    c.in_ok-found-in-Some.found c.in_ok-found-in-Some.ensures.asks _ c.add_found.ensures.none

pub returns-in-None-clause-none : goal.returns-in-None-clause-none
returns-in-None-clause-none c = λ e. none_there (map (demand_seen (types_of c.args.types.now)) c.args.given.now) c.args.specs.now (types_of c.args.types.now) c.args.met.now.keys c.args.n c.in-None.ensures.key
