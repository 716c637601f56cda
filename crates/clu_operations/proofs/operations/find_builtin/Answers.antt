use Rattle.std.proofs.Common.{[], length, IfOk, Option, None, append-nil, refl, sym, subst}
use Rattle.clu_types.specs.Arena.{type_at, types_of}
use Rattle.clu_operations.specs.Found.{Finds}
use Rattle.clu_operations.specs.Wished.{builtin_by}
use Rattle.clu_operations.specs.declared.words.NameId.{NameId}
use Rattle.clu_operations.proofs.Founds.{finds_nothing}
use Rattle.clu_operations.proofs.operations.find_builtin.Goals as goal

pub returns-in-Some-clause-found : goal.returns-in-Some-clause-found
returns-in-Some-clause-found c = λ of up.
    subst (λ (o : Option NameId). IfOk c.builtin_found.result (Finds (length c.args.types.now) c.builtin_found.new.types c.args.finding.now c.builtin_found.new.finding (builtin_by (type_at (types_of c.args.types.now) c.args.of) c.args.finding.now.words o)))
    (sym c.in-Some.is) (c.builtin_found.ensures.found of up)

pub returns-in-None-clause-found : goal.returns-in-None-clause-found
returns-in-None-clause-found c = λ of up.
    subst (λ (o : Option NameId). Finds (length c.args.types.now) c.args.types.now c.args.finding.now c.args.finding.now (builtin_by (type_at (types_of c.args.types.now) c.args.of) c.args.finding.now.words o) None)
    (sym c.in-None.is) (finds_nothing c.args.types.now c.args.types.now ([], sym (append-nil c.args.types.now)) c.args.finding.now c.args.finding.now refl refl refl refl refl None refl)

pub returns-in-None-clause-stays : goal.returns-in-None-clause-stays
returns-in-None-clause-stays c = finds_nothing c.args.types.now c.args.types.now ([], sym (append-nil c.args.types.now)) c.args.finding.now c.args.finding.now refl refl refl refl refl None refl
