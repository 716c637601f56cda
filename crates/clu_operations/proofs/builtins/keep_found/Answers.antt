use Rattle.std.proofs.Common.{[], length, append-nil, option_map, Option, Some, None, refl, sym, subst}
use Rattle.clu_types.specs.Arena.{types_of}
use Rattle.clu_builtin.specs.declared.lookup.Builtin.{Builtin}
use Rattle.clu_builtin.specs.Built.{found_at, IsBelow}
use Rattle.clu_operations.specs.Builtins.{builtin_told}
use Rattle.clu_operations.specs.Found.{Finds}
use Rattle.clu_operations.proofs.Founds.{finds_nothing}
use Rattle.clu_operations.proofs.builtins.keep_found.Goals as goal

pub keep-requires : goal.keep-requires
keep-requires c = subst (IsBelow (length c.args.types.now)) c.in-Some.is c.requires

pub returns-in_ok-id-in-Some-clause-found : goal.returns-in_ok-id-in-Some-clause-found
returns-in_ok-id-in-Some-clause-found c =
    subst (λ (found : Option Builtin). Finds (length c.args.types.now) c.keep.new.types c.args.finding.now c.keep.new.finding (option_map builtin_told (found_at (types_of c.args.types.now) found)) (Some c.in_ok-id-in-Some.id))
    (sym c.in-Some.is) c.in_ok-id-in-Some.ensures.found

pub returns-in-None-clause-found : goal.returns-in-None-clause-found
returns-in-None-clause-found c =
    subst (λ (found : Option Builtin). Finds (length c.args.types.now) c.args.types.now c.args.finding.now c.args.finding.now (option_map builtin_told (found_at (types_of c.args.types.now) found)) None)
    (sym c.in-None.is) (finds_nothing c.args.types.now c.args.types.now ([], sym (append-nil c.args.types.now)) c.args.finding.now c.args.finding.now refl refl refl refl refl None refl)
