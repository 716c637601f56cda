use Rattle.clu_demands.proofs.exported.asked_of_routine.Goals as goal

pub returns-else-is_whole_op-clause-asks : goal.returns-else-is_whole_op-clause-asks
returns-else-is_whole_op-clause-asks c = λ asks q. let found = c.is_whole_op.ensures.1 q.0 in let none = c.if-is_whole_op.false in cc

pub asked_of_whole-requires-clause-routine_in : goal.asked_of_whole-requires-clause-routine_in
asked_of_whole-requires-clause-routine_in c = c.is_whole_op.ensures.0 c.if-is_whole_op.true
