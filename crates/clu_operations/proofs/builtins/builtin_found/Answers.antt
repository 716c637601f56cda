use Rattle.std.proofs.Common.{length, option_map, Option, refl, ap, sym, subst}
use Rattle.clu_types.specs.Arena.{types_of}
use Rattle.clu_types.proofs.Carrying.{grows_on}
use Rattle.clu_builtin.specs.Built.{found_at}
use Rattle.clu_operations.specs.Builtins.{builtin_told}
use Rattle.clu_operations.specs.Found.{Finds}
use Rattle.clu_operations.specs.Told.{Told}
use Rattle.clu_operations.proofs.Founds.{finds_after}
use Rattle.clu_operations.proofs.builtins.builtin_found.Goals as goal

pub returns-clause-found : goal.returns-clause-found
returns-clause-found c within up =
    subst (λ (it : Option Told). Finds (length c.args.types.now) c.keep_found.new.types c.args.finding.now c.keep_found.new.finding it c.in_ok-id.id)
    (ap (option_map builtin_told) (c.in_ok-found.ensures.found within up))
    (finds_after c.args.types.now c.operation_named.new.types c.keep_found.new.types c.in_ok-found.ensures.kept c.args.finding.now c.args.finding.now c.keep_found.new.finding refl refl refl refl refl
    (option_map builtin_told (found_at (types_of c.operation_named.new.types) c.in_ok-found.found)) c.in_ok-id.id c.in_ok-id.ensures.found)

pub returns-clause-stays : goal.returns-clause-stays
returns-clause-stays c =
    let found = finds_after c.args.types.now c.operation_named.new.types c.keep_found.new.types c.in_ok-found.ensures.kept c.args.finding.now c.args.finding.now c.keep_found.new.finding refl refl refl refl refl
    (option_map builtin_told (found_at (types_of c.operation_named.new.types) c.in_ok-found.found)) c.in_ok-id.id c.in_ok-id.ensures.found in
    subst (λ (it : Option Told). Finds (length c.args.types.now) c.keep_found.new.types c.args.finding.now c.keep_found.new.finding it c.in_ok-id.id) (sym found.tells) found

pub returns-clause-shown : goal.returns-clause-shown
returns-clause-shown c = c.in_ok-id.ensures.shown

pub returns-clause-kept : goal.returns-clause-kept
returns-clause-kept c = grows_on _ _ _ c.in_ok-found.ensures.kept c.in_ok-id.ensures.kept
