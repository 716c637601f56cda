use Rattle.std.proofs.Common.{◌∙◌, [], length, option_map, option_and_then, IfOk, IfSome, Option, append-nil, refl, sym, ap, subst}
use Rattle.clu_types.specs.CluType.{Actuals}
use Rattle.clu_types.specs.Arena.{types_of, actuals_at, ActualsBelow}
use Rattle.clu_demands.specs.declared.needs.Instance.{Instance}
use Rattle.clu_operations.specs.Found.{Finds}
use Rattle.clu_operations.specs.Modules.{module_seen}
use Rattle.clu_operations.specs.Told.{module_told}
use Rattle.clu_operations.proofs.Founds.{finds_nothing}
use Rattle.clu_operations.proofs.Wishing.{no_more_shown}
use Rattle.clu_operations.proofs.operations.find_part.Goals as goal

pub returns-in-Some-clause-found : goal.returns-in-Some-clause-found
returns-in-Some-clause-found c = λ below right.
    subst
    (λ (o : Option Actuals). IfOk c.instance_found.result (Finds (length c.args.types.now) c.instance_found.new.types c.args.finding.now c.instance_found.new.finding (option_and_then (λ given. module_told (types_of c.args.types.now) given (module_seen c.args.known) c.args.part) o)))
    (sym (ap (option_map (λ (its : Instance). actuals_at (types_of c.args.types.now) its.actuals)) c.in-Some.is) ∙ c.in_ok-instance.ensures.given)
    (c.instance_found.ensures.found below right (subst (λ (o : Option Instance). IfSome o (λ its. ActualsBelow (length c.args.types.now) its.actuals)) c.in-Some.is c.in_ok-instance.ensures.within))

pub returns-in-Some-clause-shown : goal.returns-in-Some-clause-shown
returns-in-Some-clause-shown c = λ below right.
    c.instance_found.ensures.shown below right (subst (λ (o : Option Instance). IfSome o (λ its. ActualsBelow (length c.args.types.now) its.actuals)) c.in-Some.is c.in_ok-instance.ensures.within)

pub returns-in-None-clause-found : goal.returns-in-None-clause-found
returns-in-None-clause-found c = λ below right.
    finds_nothing c.args.types.now c.args.types.now ([], sym (append-nil c.args.types.now)) c.args.finding.now c.args.finding.now refl refl refl refl refl _
    (ap (option_and_then (λ (given : Actuals). module_told (types_of c.args.types.now) given (module_seen c.args.known) c.args.part))
    (sym (ap (option_map (λ (its : Instance). actuals_at (types_of c.args.types.now) its.actuals)) c.in-None.is) ∙ c.in_ok-instance.ensures.given))

pub returns-in-None-clause-shown : goal.returns-in-None-clause-shown
returns-in-None-clause-shown c = λ below right. no_more_shown (types_of c.args.types.now) c.args.finding.now c.args.id (module_seen c.args.known)
