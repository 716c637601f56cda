use Rattle.std.proofs.Common.{◌∙◌, length, ap, sym, subst}
use Rattle.clu_types.specs.Arena.{type_at, types_of}
use Rattle.clu_builtin.specs.Built.{found_at, IsBelow}
use Rattle.clu_operations.proofs.Selecting.{whole_found, no_operation}
use Rattle.clu_operations.proofs.builtins.found_in_whole.Goals as goal

pub in_whole-requires-clause-builtin_in : goal.in_whole-requires-clause-builtin_in
in_whole-requires-clause-builtin_in c = subst (IsBelow (length c.args.types.now)) c.in-Some.is c.requires.found_in

pub returns-in_ok-made-in-Some-clause-found : goal.returns-in_ok-made-in-Some-clause-found
returns-in_ok-made-in-Some-clause-found c name part_is found_is =
    whole_found (types_of c.args.types.now) c.args.part c.args.of name c.in-Some.builtin c.in_ok-made-in-Some.made c.in_ok-made-in-Some.ensures.put part_is
    (ap (found_at (types_of c.args.types.now)) (sym c.in-Some.is) ∙ found_is)

pub returns-in_ok-made-in-Some-clause-within : goal.returns-in_ok-made-in-Some-clause-within
returns-in_ok-made-in-Some-clause-within c = c.in_ok-made-in-Some.ensures.within

pub returns-in-None-clause-found : goal.returns-in-None-clause-found
returns-in-None-clause-found c name part_is found_is =
    sym (no_operation (type_at (types_of c.args.types.now) c.args.of) name (sym (ap (found_at (types_of c.args.types.now)) (sym c.in-None.is) ∙ found_is)))
