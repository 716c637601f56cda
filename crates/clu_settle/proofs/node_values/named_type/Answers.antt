use Rattle.std.proofs.Common.{◌∙◌, ap, sym, subst}
use Rattle.clu_settle.specs.declared.meanings.Meaning.{Meaning}
use Rattle.clu_settle.specs.Standing.{is_lost, right_named}
use Rattle.clu_settle.specs.Lost.{IsNameLost}
use Rattle.clu_meaning.specs.Settling.{value_of_meaning}
use Rattle.clu_settle.proofs.Made.{ok_more, meant_as}
use Rattle.clu_settle.proofs.node_values.named_type.Goals as goal

pub returns-clause-known : goal.returns-clause-known
returns-clause-known c = ok_more _ _ c.as_type.result c.as_type.ensures.known (λ v p scope unfolded m gs a b.
    p c.args.constants.now (value_of_meaning scope unfolded c.args.name.now gs m)
    (c.in_ok-value.ensures.known scope unfolded m gs (meant_as _ _ _ unfolded _ c.meaning_at-meaning.result m (sym c.meaning_at-meaning.ensures) a) b))

pub returns-clause-within : goal.returns-clause-within
returns-clause-within c = ok_more _ _ c.as_type.result c.as_type.ensures.within (λ v p n all. p n (c.in_ok-value.ensures.within n all))

pub returns-clause-lost : goal.returns-clause-lost
returns-clause-lost c = ok_more _ _ c.as_type.result c.as_type.ensures.lost (λ v p lost within.
    subst (λ (m : Meaning). IsNameLost c.args.values.now c.args.constants.now c.args.given.now m) c.meaning_at-meaning.ensures (c.in_ok-value.ensures.lost (p lost) within))

pub returns-clause-same : goal.returns-clause-same
returns-clause-same c = ok_more _ _ c.as_type.result c.as_type.ensures.same (λ v p r e. p ∙ ap is_lost (c.in_ok-value.ensures.same r (ap right_named c.meaning_at-meaning.ensures ∙ e)))
