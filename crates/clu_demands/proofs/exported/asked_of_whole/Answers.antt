use Rattle.clu_types.proofs.Carrying.{given_more}
use Rattle.clu_demands.proofs.Exporting.{routine_asks, routine_lacks}
use Rattle.clu_demands.proofs.exported.asked_of_whole.Goals as goal

pub demanded_by-requires-clause-actuals_in : goal.demanded_by-requires-clause-actuals_in
demanded_by-requires-clause-actuals_in c = given_more _ _ c.in_ok-of.ensures.kept _ c.requires.actuals_in

pub returns-then-included-clause-asks : goal.returns-then-included-clause-asks
returns-then-included-clause-asks c =
    routine_asks c.args.spec.now c.args.actuals.now c.args.routine.now c.args.types.now c.carried_type.new.types c.in_ok-of.ensures.kept c.requires.actuals_in c.requires.routine_in
    c.in_ok-of.of c.args.wanted c.requires.wanted_in c.in_ok-of.ensures.of_type (c.included.ensures.0 c.if-included.true) _ _ c.demanded_by.ensures.demanded

pub returns-else-included-clause-asks : goal.returns-else-included-clause-asks
returns-else-included-clause-asks c =
    routine_lacks c.args.spec.now c.args.actuals.now c.args.routine.now c.args.types.now c.carried_type.new.types c.in_ok-of.ensures.kept c.requires.actuals_in c.requires.routine_in
    c.in_ok-of.of c.args.wanted c.requires.wanted_in c.in_ok-of.ensures.of_type (λ e. let found = c.included.ensures.1 e in let none = c.if-included.false in cc)
