use Rattle.std.proofs.Common.{◌∙◌, ap}
use Rattle.clu_types.specs.Arena.{types_of, actuals_at}
use Rattle.clu_demands.specs.Meeting.{demanded_of}
use Rattle.clu_demands.proofs.exported.demanded.Goals as goal

pub demanded_of-requires-clause-of_in : goal.demanded_of-requires-clause-of_in
demanded_of-requires-clause-of_in c = c.in-Some.ensures.below _ c.requires.actuals_in

pub returns-in_ok-demanded_of-in-Some-clause-demanded : goal.returns-in_ok-demanded_of-in-Some-clause-demanded
returns-in_ok-demanded_of-in-Some-clause-demanded c =
    c.in_ok-demanded_of-in-Some.ensures.demanded
    ∙ ap (demanded_of (types_of c.args.from.now) (actuals_at (types_of c.args.types.now) c.args.actuals.now) c.args.demand.now) (c.in-Some.ensures.found (types_of c.args.types.now))

pub returns-in-None-clause-demanded : goal.returns-in-None-clause-demanded
returns-in-None-clause-demanded c =
    ap (demanded_of (types_of c.args.from.now) (actuals_at (types_of c.args.types.now) c.args.actuals.now) c.args.demand.now) (c.in-None.ensures.found (types_of c.args.types.now))
