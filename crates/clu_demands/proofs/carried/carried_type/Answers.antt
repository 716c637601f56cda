use Rattle.std.proofs.Common.{refl}
use Rattle.clu_types.proofs.Carrying.{grows_on, given_more, ids_grown}
use Rattle.clu_demands.proofs.Bringing.{heading_is, typed_as}
use Rattle.clu_demands.proofs.carried.carried_type.Goals as goal

pub carry_ids-requires-2-clause-actuals_in : goal.carry_ids-requires-2-clause-actuals_in
carry_ids-requires-2-clause-actuals_in c = given_more _ _ c.in_ok-args.ensures.kept _ c.requires.actuals_in

pub carry_exceptions-requires-clause-actuals_in : goal.carry_exceptions-requires-clause-actuals_in
carry_exceptions-requires-clause-actuals_in c = given_more _ _ c.in_ok-results.ensures.kept _ (given_more _ _ c.in_ok-args.ensures.kept _ c.requires.actuals_in)

pub intern_routine-requires : goal.intern_routine-requires
intern_routine-requires c = (
  ids_grown _ _ c.in_ok-signals.ensures.kept _ (ids_grown _ _ c.in_ok-results.ensures.kept _ c.in_ok-args.ensures.within),
  ids_grown _ _ c.in_ok-signals.ensures.kept _ c.in_ok-results.ensures.within,
  c.in_ok-signals.ensures.within,
)

pub returns-clause-of_type : goal.returns-clause-of_type
returns-clause-of_type c =
    typed_as _ _ _ _
    (heading_is c.args.from.now c.args.actuals.now c.args.types.now c.carry_ids.new.types c.carry_ids-2.new.types c.carry_exceptions.new.types
    c.in_ok-args.ensures.kept c.in_ok-results.ensures.kept c.in_ok-signals.ensures.kept c.requires.actuals_in
    c.in_ok-args.args c.in_ok-results.results c.in_ok-signals.signals c.in_ok-args.ensures.within c.in_ok-results.ensures.within c.in_ok-signals.ensures.within
    c.args.op.now c.args.op.now.iter refl c.in_ok-args.ensures.made c.in_ok-results.ensures.made c.in_ok-signals.ensures.made)
    c.intern_routine.ensures.of_type

pub returns-clause-kept : goal.returns-clause-kept
returns-clause-kept c =
    grows_on _ _ _ (grows_on _ _ _ (grows_on _ _ _ c.in_ok-args.ensures.kept c.in_ok-results.ensures.kept) c.in_ok-signals.ensures.kept) c.intern_routine.ensures.kept
