use Rattle.std.proofs.Common.{◌∙◌, length, subst, sym}
use Rattle.clu_types.specs.Arena.{types_of, ActualsBelow}
use Rattle.clu_settle.specs.Values.{told}
use Rattle.clu_settle.proofs.Made.{ok_more, module_agrees}
use Rattle.clu_settle.proofs.Found.{told_there, not_held}
use Rattle.clu_settle.proofs.Members.{actuals_below}
use Rattle.clu_settle.proofs.named.module_value.Goals as goal

pub returns-then-holds_actuals-clause-known : goal.returns-then-holds_actuals-clause-known
returns-then-holds_actuals-clause-known c = ok_more _ _ c.module_type.result c.module_type.ensures.known (λ v p gs a.
    module_agrees (types_of c.args.types.now) c.args.constants.now c.args.values.now (told (types_of c.module_type.new.types) c.args.constants.now v) c.args.name.now c.args.given.now c.in-Some.given gs
    (sym c.in-Some.is ∙ c.in_ok-given.ensures) a (p c.args.constants.now))

pub returns-then-holds_actuals-clause-lost : goal.returns-then-holds_actuals-clause-lost
returns-then-holds_actuals-clause-lost c = ok_more _ _ c.module_type.result c.module_type.ensures.known (λ v p is within. absurd (told_there (types_of c.module_type.new.types) c.args.constants.now v _ (p c.args.constants.now) is))

pub returns-else-holds_actuals-clause-lost : goal.returns-else-holds_actuals-clause-lost
returns-else-holds_actuals-clause-lost c = λ is within.
    absurd (not_held c.holds_actuals.result _ c.holds_actuals.ensures c.if-holds_actuals.false
    (subst (ActualsBelow (length c.args.types.now)) (sym c.as_slice.ensures) (actuals_below c.args.values.now (length c.args.types.now) within c.args.constants.now c.args.given.now c.in-Some.given (sym c.in-Some.is ∙ c.in_ok-given.ensures))))

pub returns-in-None-clause-lost : goal.returns-in-None-clause-lost
returns-in-None-clause-lost c = λ is within. sym c.in_ok-given.ensures ∙ c.in-None.is
