use Rattle.std.proofs.Common.{Some, None, sym, ◌∙◌, ap}
use Rattle.clu_types.specs.declared.term.Actual.TheVariants as actual
use Rattle.clu_types.proofs.PutIn.{nth_below}
use Rattle.clu_demands.proofs.Fitting.{type_numbered-nth}
use Rattle.clu_demands.proofs.found.type_actual.Goals as goal

pub returns-in-Some-Of-clause-found : goal.returns-in-Some-Of-clause-found
returns-in-Some-Of-clause-found c = λ types. type_numbered-nth types c.args.actuals.now c.args.n (Some (actual.Of c.in-Some-Of.id)) (sym c.in-Some-Of.ensures ∙ ap Some c.in-Some-Of.field-0-is)

pub returns-in-Some-Of-clause-below : goal.returns-in-Some-Of-clause-below
returns-in-Some-Of-clause-below c = λ m b. nth_below m c.args.actuals.now c.args.n (actual.Of c.in-Some-Of.id) (sym c.in-Some-Of.ensures ∙ ap Some c.in-Some-Of.field-0-is) b

pub returns-in-Some-Const-clause-found : goal.returns-in-Some-Const-clause-found
returns-in-Some-Const-clause-found c = λ types. type_numbered-nth types c.args.actuals.now c.args.n (Some (actual.Const c.in-Some-Const.field-0-0)) (sym c.in-Some-Const.ensures ∙ ap Some c.in-Some-Const.field-0-is)

pub returns-in-Some-ConstParam-clause-found : goal.returns-in-Some-ConstParam-clause-found
returns-in-Some-ConstParam-clause-found c = λ types. type_numbered-nth types c.args.actuals.now c.args.n (Some (actual.ConstParam c.in-Some-ConstParam.field-0-0)) (sym c.in-Some-ConstParam.ensures ∙ ap Some c.in-Some-ConstParam.field-0-is)

pub returns-in-None-clause-found : goal.returns-in-None-clause-found
returns-in-None-clause-found c = λ types. type_numbered-nth types c.args.actuals.now c.args.n None (sym c.in-None.ensures)
