use Rattle.std.proofs.Common.{◌∙◌}
use Rattle.clu_operations.specs.Bundles.{routine_types}
use Rattle.clu_operations.proofs.Bundling.{nth_routine}
use Rattle.clu_operations.proofs.bundles.routine_among.Goals as goal

pub returns-clause-of_type : goal.returns-clause-of_type
returns-clause-of_type c = λ source routines lt e. c.bundled.ensures.of_type (routine_types source routines) lt e ∙ nth_routine source routines c.args.place
