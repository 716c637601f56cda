use Rattle.std.proofs.Common.{◌≡◌, ℕ, List, Option, IfOk, ap, subst}
use Rattle.clu_types.specs.Arena.{type_at, types_of}
use Rattle.clu_builtin.specs.Built.{found_at}
use Rattle.clu_operations.specs.Builtins.{operation_if}
use Rattle.clu_operations.proofs.builtins.operation_named.Goals as goal

pub returns-in-Some-clause-found : goal.returns-in-Some-clause-found
returns-in-Some-clause-found c within up =
    subst (λ (its : Option (List ℕ)). IfOk c.operation_within.result (λ found. found_at (types_of c.operation_within.new.types) found ≡ operation_if (type_at (types_of c.args.types.now) c.args.of) its))
    c.in-Some.ensures (c.operation_within.ensures.found within up)

pub returns-in-None-clause-found : goal.returns-in-None-clause-found
returns-in-None-clause-found c within up = ap (operation_if (type_at (types_of c.args.types.now) c.args.of)) c.in-None.ensures
