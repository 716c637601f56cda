use Rattle.std.proofs.Common.{◌≡◌, ℕ, List, Option, IfOk, ap, subst}
use Rattle.clu_types.specs.CluType.{CluType}
use Rattle.clu_types.specs.Arena.{type_at, types_of}
use Rattle.clu_operations.specs.Builtins.{narrowed_to}
use Rattle.clu_operations.proofs.builtins.narrowed.Goals as goal

pub returns-in-Some-clause-of_type : goal.returns-in-Some-clause-of_type
returns-in-Some-clause-of_type c up =
    subst (λ (t : CluType). IfOk c.type_with.result (λ part. type_at (types_of c.type_with.new.types) part ≡ t))
    (ap (λ (selector : Option (List ℕ)). narrowed_to selector (type_at (types_of c.args.types.now) c.args.of)) c.in-Some.ensures) (c.type_with.ensures.of_type up)

pub returns-in-None-clause-of_type : goal.returns-in-None-clause-of_type
returns-in-None-clause-of_type c up = ap (λ (selector : Option (List ℕ)). narrowed_to selector (type_at (types_of c.args.types.now) c.args.of)) c.in-None.ensures
