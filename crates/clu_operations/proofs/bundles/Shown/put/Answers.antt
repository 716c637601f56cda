use Rattle.std.proofs.Common.{option_map, ap}
use Rattle.clu_types.specs.Arena.{type_at, types_of, actuals_at}
use Rattle.clu_types.specs.Substituted.{substituted}
use Rattle.clu_operations.proofs.Bundling.{put_typed}
use Rattle.clu_operations.proofs.bundles.Shown.put.Goals as goal

pub returns-in-Some-clause-of_type : goal.returns-in-Some-clause-of_type
returns-in-Some-clause-of_type c = λ source form shown given.
    put_typed c.put_in.result (types_of c.put_in.new.types) (substituted (actuals_at (types_of c.args.types.now) c.args.actuals.now)) (type_at (types_of c.args.self.now.types) c.in-Some.bundle) _
    (c.in-Some.ensures.of_type source form shown) (c.put_in.ensures.found c.in-Some.ensures.within given) c.put_in.ensures.of_type

pub returns-in-None-clause-of_type : goal.returns-in-None-clause-of_type
returns-in-None-clause-of_type c = λ source form shown given. ap (option_map (substituted (actuals_at (types_of c.args.types.now) c.args.actuals.now))) (c.in-None.ensures.of_type source form shown)
