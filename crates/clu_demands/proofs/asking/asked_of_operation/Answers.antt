use Rattle.std.proofs.Common.{length, subst, sym}
use Rattle.clu_types.proofs.Carrying.{length_grows}
use Rattle.clu_demands.specs.Asking.{AreBelowAll}
use Rattle.clu_demands.proofs.Answering.{operation_asks, operation_lacks, needs_below}
use Rattle.clu_demands.proofs.asking.asked_of_operation.Goals as goal

pub returns-then-included-clause-asks : goal.returns-then-included-clause-asks
returns-then-included-clause-asks c =
    operation_asks c.args.types.now c.intern_routine.new.types c.in_ok-routine.ensures.kept c.args.builtin c.args.wanted c.in_ok-routine.routine c.requires.wanted_in c.in_ok-routine.ensures.of_type
    c.requires.needs_in c.in_ok-asked.asked c.in_ok-asked.ensures (c.included.ensures.0 c.if-included.true)

pub returns-then-included-clause-within : goal.returns-then-included-clause-within
returns-then-included-clause-within c =
    subst (AreBelowAll (length c.intern_routine.new.types)) (sym c.in_ok-asked.ensures) (needs_below _ _ (length_grows _ _ c.in_ok-routine.ensures.kept) _ c.requires.needs_in)

pub returns-clause-asks : goal.returns-clause-asks
returns-clause-asks c =
    operation_lacks c.args.types.now c.intern_routine.new.types c.in_ok-routine.ensures.kept c.args.builtin c.args.wanted c.in_ok-routine.routine c.requires.wanted_in c.in_ok-routine.ensures.of_type
    (λ e. let found = c.included.ensures.1 e in let none = c.if-included.false in cc)
