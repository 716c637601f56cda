use Rattle.std.proofs.Common.{[], length, option_map, IfOk, Option, append-nil, refl, ap, sym, subst}
use Rattle.clu_types.specs.Arena.{types_of, actuals_at}
use Rattle.clu_operations.specs.Found.{Finds}
use Rattle.clu_operations.specs.Told.{Told, part_told}
use Rattle.clu_operations.proofs.Founds.{finds_nothing}
use Rattle.clu_operations.proofs.Showing.{none_shown}
use Rattle.clu_operations.proofs.callees.own_found.Goals as goal

pub returns-in-Some-clause-found : goal.returns-in-Some-clause-found
returns-in-Some-clause-found c = λ below right given.
    subst (λ (o : Option Told). IfOk c.own_some.result (Finds (length c.args.types.now) c.own_some.new.types c.args.finding.now c.own_some.new.finding o))
    (ap (option_map (part_told (types_of c.args.types.now) (actuals_at (types_of c.args.types.now) c.args.callee.actuals.now))) c.in-Some.ensures) (c.own_some.ensures.found (sym c.in-Some.ensures) below right given)

pub returns-in-Some-clause-shown : goal.returns-in-Some-clause-shown
returns-in-Some-clause-shown c = λ below right given. c.own_some.ensures.shown (sym c.in-Some.ensures) below right given

pub returns-in-None-clause-found : goal.returns-in-None-clause-found
returns-in-None-clause-found c = λ below right given.
    finds_nothing c.args.types.now c.args.types.now ([], sym (append-nil c.args.types.now)) c.args.finding.now c.args.finding.now refl refl refl refl refl _
    (ap (option_map (part_told (types_of c.args.types.now) (actuals_at (types_of c.args.types.now) c.args.callee.actuals.now))) c.in-None.ensures)

pub returns-in-None-clause-shown : goal.returns-in-None-clause-shown
returns-in-None-clause-shown c = λ below right given. none_shown (types_of c.args.types.now) c.args.finding.now.shown c.args.callee.id c.args.head.now.form
