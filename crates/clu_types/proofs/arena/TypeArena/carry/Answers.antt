use Rattle.clu_types.proofs.Carrying.{given_more, given_grown}
use Rattle.clu_types.proofs.arena.TypeArena.carry.Goals as goal

pub make-requires-clause-actuals_in : goal.make-requires-clause-actuals_in
make-requires-clause-actuals_in c = given_more _ _ c.make_needed.ensures.kept _ c.requires.actuals_in

pub returns-clause-of_type : goal.returns-clause-of_type
returns-clause-of_type c = rw (← given_grown _ _ c.make_needed.ensures.kept c.args.actuals.now c.requires.actuals_in) c.make.ensures.of_type
