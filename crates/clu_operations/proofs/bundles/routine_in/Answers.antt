use Rattle.std.proofs.lemmas.Option.{same_Some}
use Rattle.clu_base.proofs.Lists.{none_is_not}
use Rattle.clu_operations.specs.Bundles.{form_types}
use Rattle.clu_operations.specs.Modules.{routines_in}
use Rattle.clu_operations.proofs.bundles.routine_in.Goals as goal

pub returns-in-Some-clause-of_type : goal.returns-in-Some-clause-of_type
returns-in-Some-clause-of_type c = λ source form lt e.
    c.routine_among.ensures.of_type source (routines_in form) c.in-Some.ensures.within (same_Some _ _ (c.in-Some.ensures.of_type (form_types source form) lt e))

pub returns-in-None-clause-of_type : goal.returns-in-None-clause-of_type
returns-in-None-clause-of_type c = λ source form lt e. none_is_not _ (c.in-None.ensures.of_type (form_types source form) lt e)
