use Rattle.clu_types.specs.Arena.{types_of, actuals_at}
use Rattle.clu_demands.proofs.Bringing.{typed_as}
use Rattle.clu_operations.proofs.Pushing.{put_some, put_none}
use Rattle.clu_operations.proofs.parts.put_of.Goals as goal

pub returns-in-Some-clause-of_type : goal.returns-in-Some-clause-of_type
returns-in-Some-clause-of_type c = put_some (actuals_at (types_of c.args.types.now) c.args.actuals.now) c.args.parameter _ (c.in-Some.ensures.found (types_of c.args.types.now))

pub returns-in-Some-clause-within : goal.returns-in-Some-clause-within
returns-in-Some-clause-within c = λ below. c.in-Some.ensures.below _ below

pub returns-in-None-clause-of_type : goal.returns-in-None-clause-of_type
returns-in-None-clause-of_type c =
    typed_as c.intern.result (types_of c.intern.new.self) _ _ (put_none (actuals_at (types_of c.args.types.now) c.args.actuals.now) c.args.parameter (c.in-None.ensures.found (types_of c.args.types.now))) c.intern.ensures.of_type
