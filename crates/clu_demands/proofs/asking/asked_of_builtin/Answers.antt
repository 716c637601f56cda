use Rattle.std.proofs.Common.{length, subst}
use Rattle.clu_builtin.specs.Built.{IsBelow}
use Rattle.clu_demands.proofs.Answering.{builtin_some, builtin_none}
use Rattle.clu_demands.proofs.asking.asked_of_builtin.Goals as goal

pub asked_of_operation-requires-clause-heading_in : goal.asked_of_operation-requires-clause-heading_in
asked_of_operation-requires-clause-heading_in c = (subst (IsBelow (length c.heading.new.types)) c.in-Some.is c.in_ok-found.ensures.within).0

pub asked_of_operation-requires-clause-needs_in : goal.asked_of_operation-requires-clause-needs_in
asked_of_operation-requires-clause-needs_in c = (subst (IsBelow (length c.heading.new.types)) c.in-Some.is c.in_ok-found.ensures.within).1

pub returns-in-Some-clause-asks : goal.returns-in-Some-clause-asks
returns-in-Some-clause-asks c =
    builtin_some c.args.types.now c.heading.new.types c.in_ok-found.ensures.kept c.args.of c.args.wanted c.args.op.now c.in_ok-found.found c.in_ok-found.ensures.found c.requires.wanted_in c.in-Some.builtin c.in-Some.is _ _ c.asked_of_operation.ensures.asks

pub returns-in-None-clause-asks : goal.returns-in-None-clause-asks
returns-in-None-clause-asks c =
    builtin_none c.args.types.now c.heading.new.types c.in_ok-found.ensures.kept c.args.of c.args.wanted c.args.op.now c.in_ok-found.found c.in_ok-found.ensures.found c.in-None.is
