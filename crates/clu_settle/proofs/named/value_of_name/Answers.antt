use Rattle.std.proofs.Common.{◌∙◌, ap, sym, subst}
use Rattle.std.proofs.lemmas.Option.{none-some, same_Some}
use Rattle.clu_settle.specs.declared.meanings.Meaning.{Meaning}
use Rattle.clu_settle.specs.Lists.{value_of}
use Rattle.clu_settle.specs.Standing.{right_named}
use Rattle.clu_settle.specs.Lost.{IsNameLost}
use Rattle.clu_settle.proofs.Made.{ok_more}
use Rattle.clu_settle.proofs.named.value_of_name.Goals as goal

pub returns-in-Module-clause-within : goal.returns-in-Module-clause-within
returns-in-Module-clause-within c = ok_more _ _ c.module_value.result c.module_value.ensures.within (λ v p n all. p n)

pub returns-in-TypeParameter-clause-lost : goal.returns-in-TypeParameter-clause-lost
returns-in-TypeParameter-clause-lost c = ok_more _ _ c.type_value.result c.type_value.ensures.there (λ v p lost within. absurd (p lost))

pub returns-in-Module-clause-lost : goal.returns-in-Module-clause-lost
returns-in-Module-clause-lost c = ok_more _ _ c.module_value.result c.module_value.ensures.lost (λ v p lost within.
    subst (λ (m : Meaning). IsNameLost c.args.values.now c.args.constants.now c.args.given.now m) (sym c.in-Module.is) (p lost within))

-- ---- the right side of an equate

pub returns-in-Equate-clause-same : goal.returns-in-Equate-clause-same
returns-in-Equate-clause-same c = λ r e. c.value_at.ensures ∙ ap (value_of c.args.values.now) (same_Some c.in-Equate.right r (ap right_named (sym c.in-Equate.is) ∙ e))

pub returns-in-TypeParameter-clause-same : goal.returns-in-TypeParameter-clause-same
returns-in-TypeParameter-clause-same c = ok_more _ _ c.type_value.result c.type_value.ensures.there (λ v p r e. absurd (none-some r (ap right_named (sym c.in-TypeParameter.is) ∙ e)))

pub returns-in-ConstantParameter-clause-same : goal.returns-in-ConstantParameter-clause-same
returns-in-ConstantParameter-clause-same c = λ r e. absurd (none-some r (ap right_named (sym c.in-ConstantParameter.is) ∙ e))

pub returns-in-Module-clause-same : goal.returns-in-Module-clause-same
returns-in-Module-clause-same c = ok_more _ _ c.module_value.result c.module_value.ensures.lost (λ v p r e. absurd (none-some r (ap right_named (sym c.in-Module.is) ∙ e)))

pub returns-in-Other-clause-same : goal.returns-in-Other-clause-same
returns-in-Other-clause-same c = λ r e. absurd (none-some r (ap right_named (sym c.in-Other.is) ∙ e))
