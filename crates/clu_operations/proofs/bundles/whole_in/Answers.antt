use Rattle.clu_operations.specs.Bundles.{form_types}
use Rattle.clu_operations.proofs.bundles.whole_in.Goals as goal

pub returns-clause-of_type : goal.returns-clause-of_type
returns-clause-of_type c = λ source form lt e. c.bundled.ensures.of_type (form_types source form) lt e
