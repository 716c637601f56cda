use Rattle.std.proofs.Common.{◌∙◌, refl}
use Rattle.clu_types.specs.CluType.{no_types, type_and}
use Rattle.clu_types.specs.Arena.{types_of, actuals_at}
use Rattle.clu_types.specs.Substituted.{types_substituted}
use Rattle.clu_operations.specs.Bundles.{type_or_null, wanted_types}
use Rattle.clu_operations.proofs.Pushing.{shown_wanted, asked_as}
use Rattle.clu_operations.proofs.parts.push_shown.Goals as goal

pub returns-clause-asks : goal.returns-clause-asks
returns-clause-asks c = λ source shows below put at.
    asked_as c.push_demand.result c.push_demand.new.types c.args.finding.now c.push_demand.new.finding (actuals_at (types_of c.args.types.now) c.args.actuals.now) (actuals_at (types_of c.args.types.now) c.args.actuals.now)
    c.args.demand.now.parameter c.args.demand.now.operation c.args.demand.now.in_set _ _ refl
    (c.shown_at-wanted.ensures.of_type (types_substituted (actuals_at (types_of c.args.types.now) c.args.actuals.now) (wanted_types source shows.demands (type_and (type_or_null source shows.of) no_types))) put.within put.type
    ∙ shown_wanted source (actuals_at (types_of c.args.types.now) c.args.actuals.now) shows c.args.at c.args.demand.now at)
    (c.push_demand.ensures.asks below c.shown_at-wanted.ensures.within)
