use Rattle.std.proofs.Common.{◌≡◌, ◌∙◌, ◌<◌, ℕ, [], true, length, inl, inr, refl, sym, ap, subst, arith, List}
use Rattle.std.proofs.lemmas.Option.{none-some, same_Some}
use Rattle.clu_base.specs.declared.constants.Const.{Const}
use Rattle.clu_types.specs.CluType.{Actuals}
use Rattle.clu_types.specs.Arena.{types_of}
use Rattle.clu_syntax.specs.Kinds.{is_expression, kind_at}
use Rattle.clu_syntax.specs.declared.expressions.Expression.{Expression as ExpressionView}
use Rattle.clu_syntax.specs.Items.{Item}
use Rattle.clu_syntax.specs.Nodes.{before, item_at}
use Rattle.clu_syntax.specs.Parts.{expression_parts}
use Rattle.clu_syntax.specs.Views.{expression_told}
use Rattle.clu_meaning.specs.Scoping.{Meaning as Meant}
use Rattle.clu_meaning.specs.Settling.{value_of_expression, value_of_meaning}
use Rattle.clu_settle.specs.declared.value.Value.{Value}
use Rattle.clu_settle.specs.Agreeing.{ActualsAgree, MeaningAgrees}
use Rattle.clu_settle.specs.Indexed.{indexed}
use Rattle.clu_settle.specs.Known.{AreKnown}
use Rattle.clu_settle.specs.Values.{told, Agrees}
use Rattle.clu_settle.specs.declared.meanings.Meaning.{Meaning}
use Rattle.clu_settle.specs.Lists.{value_of}
use Rattle.clu_settle.specs.Steps.{expression_node}
use Rattle.clu_settle.specs.Standing.{is_lost, right_named, index_stands_for, expression_stands_for}
use Rattle.clu_settle.specs.Lost.{IsNameLost}
use Rattle.clu_settle.proofs.Made.{ok_more, meant_as}
use Rattle.clu_settle.proofs.Parts.{before_is, node_at}
use Rattle.clu_settle.proofs.Reading.{expression_view, expression_there, other_stands}
use Rattle.clu_settle.proofs.Nodes.{infix_known, prefix_known, paren_known, literal_known, name_known, index_known}
use Rattle.clu_settle.proofs.Losing.{infix_explained, prefix_explained, paren_explained, literal_explained, name_explained, index_explained}
use Rattle.clu_settle.proofs.Handed.{ok_within, other_expression}
use Rattle.clu_settle.proofs.node_values.value_of_expression.Goals as goal

pub returns-in-Infix-clause-known : goal.returns-in-Infix-clause-known
returns-in-Infix-clause-known c = ok_more _ _ c.infix_value.result c.infix_value.ensures.known (λ v p scope unfolded known is.
    let here = node_at c.args.asked.syntax.now c.args.n c.requires in
    infix_known _ _ _ _ _ _ _ known known.tree known.shaped c.args.n here.node here.at c.in-Infix.operator c.in-Infix.left c.in-Infix.right _
    (λ items. ap (expression_told items c.args.n) (sym c.in-Infix.is) ∙ c.expression.ensures.told items)
    (λ s u a b. p (types_of c.args.types.now) s u
    (subst (λ (v : Value). Agrees (told (types_of c.args.types.now) c.args.constants.now v) s) (sym c.value_at-left.ensures) a)
    (subst (λ (v : Value). Agrees (told (types_of c.args.types.now) c.args.constants.now v) u) (sym c.value_at.ensures) b)))

pub returns-in-Infix-clause-within : goal.returns-in-Infix-clause-within
returns-in-Infix-clause-within c = ok_within _ _ _ c.infix_value.result c.infix_value.ensures.constant_in c.infix_value.ensures.type_in

pub returns-in-Prefix-clause-known : goal.returns-in-Prefix-clause-known
returns-in-Prefix-clause-known c = ok_more _ _ c.prefix_value.result c.prefix_value.ensures.known (λ v p scope unfolded known is.
    let here = node_at c.args.asked.syntax.now c.args.n c.requires in
    prefix_known _ _ _ _ _ _ _ known known.tree known.shaped c.args.n here.node here.at c.in-Prefix.sign c.in-Prefix.operand _
    (λ items. ap (expression_told items c.args.n) (sym c.in-Prefix.is) ∙ c.expression.ensures.told items)
    (λ s a. p (types_of c.args.types.now) s
    (subst (λ (v : Value). Agrees (told (types_of c.args.types.now) c.args.constants.now v) s) (sym c.value_at-in-Prefix.ensures) a)))

pub returns-in-Prefix-clause-within : goal.returns-in-Prefix-clause-within
returns-in-Prefix-clause-within c = ok_within _ _ _ c.prefix_value.result c.prefix_value.ensures.constant_in c.prefix_value.ensures.type_in

pub returns-in-Paren-clause-known : goal.returns-in-Paren-clause-known
returns-in-Paren-clause-known c = λ scope unfolded known is.
    let here = node_at c.args.asked.syntax.now c.args.n c.requires in
    subst (λ (v : Value). Agrees (told (types_of c.args.types.now) c.args.constants.now v) (value_of_expression scope unfolded (item_at c.args.asked.syntax.now c.args.n).expression)) (sym c.value_at-in-Paren.ensures)
    (paren_known _ _ _ _ _ _ _ known known.tree known.shaped c.args.n here.node here.at c.in-Paren.inside
    (λ items. ap (expression_told items c.args.n) (sym c.in-Paren.is) ∙ c.expression.ensures.told items))

pub returns-in-Literal-clause-known : goal.returns-in-Literal-clause-known
returns-in-Literal-clause-known c = ok_more _ _ c.literal_value.result c.literal_value.ensures.known (λ v p scope unfolded known is.
    let here = node_at c.args.asked.syntax.now c.args.n c.requires in
    literal_known _ _ _ _ _ _ _ known known.tree known.shaped c.args.n here.node here.at _ _
    (λ items. ap (expression_told items c.args.n) (sym c.in-Literal.is) ∙ c.expression.ensures.told items)
    (p (types_of c.args.types.now)))

pub returns-in-Literal-clause-within : goal.returns-in-Literal-clause-within
returns-in-Literal-clause-within c = ok_within _ _ _ c.literal_value.result c.literal_value.ensures.constant_in c.literal_value.ensures.type_in

pub returns-in-Name-clause-known : goal.returns-in-Name-clause-known
returns-in-Name-clause-known c = ok_more _ _ c.value_of_name.result c.value_of_name.ensures.known (λ v p scope unfolded known is.
    let here = node_at c.args.asked.syntax.now c.args.n c.requires in
    name_known _ _ _ _ _ _ _ known known.tree known.shaped c.args.n here.node here.at c.in-Name.name.now _ is
    (λ items. ap (expression_told items c.args.n) (sym c.in-Name.is) ∙ c.expression.ensures.told items)
    (λ m gs a b. p scope unfolded m gs (meant_as _ _ _ unfolded _ c.meaning_at-meaning.result m (sym c.meaning_at-meaning.ensures) a) b))

pub returns-in-Name-clause-within : goal.returns-in-Name-clause-within
returns-in-Name-clause-within c = ok_more _ _ c.value_of_name.result c.value_of_name.ensures.within (λ v p all. p (length c.args.constants.now) all)

pub returns-in-Index-clause-known : goal.returns-in-Index-clause-known
returns-in-Index-clause-known c = ok_more _ _ c.index_value_at.result c.index_value_at.ensures.known (λ v p scope unfolded known is.
    let here = node_at c.args.asked.syntax.now c.args.n c.requires in
    index_known _ _ _ _ _ _ _ known known.tree known.shaped c.args.n here.node here.at c.in-Index.of c.in-Index.given.now _
    (λ items. ap (expression_told items c.args.n) (sym c.in-Index.is) ∙ c.expression.ensures.told items)
    (λ gs first given. p scope unfolded gs known first given))

pub returns-in-Index-clause-within : goal.returns-in-Index-clause-within
returns-in-Index-clause-within c = ok_more _ _ c.index_value_at.result c.index_value_at.ensures.within (λ v p all. p (length c.args.constants.now) all)

pub returns-in_default-clause-known : goal.returns-in_default-clause-known
returns-in_default-clause-known c = λ scope unfolded known is.
    other_expression scope unfolded c.args.asked.syntax.now c.args.n c.expression.result c.expression.ensures.told c.in_default.not-Infix c.in_default.not-Prefix c.in_default.not-Paren c.in_default.not-Literal c.in_default.not-Name c.in_default.not-Index

-- ---- what is lost

pub returns-in-Infix-clause-lost : goal.returns-in-Infix-clause-lost
returns-in-Infix-clause-lost c = ok_more _ _ c.infix_value.result c.infix_value.ensures.lost (λ v p lost within typed.
    let here = node_at c.args.asked.syntax.now c.args.n c.requires in
    infix_explained _ _ _ typed.tree typed.shaped c.args.n here.node here.at c.in-Infix.operator c.in-Infix.left c.in-Infix.right
    (λ items. ap (expression_told items c.args.n) (sym c.in-Infix.is) ∙ c.expression.ensures.told items)
    (elim (p lost) [ inl l ↦ inl (sym c.value_at-left.ensures ∙ l) | inr r ↦ inr (sym c.value_at.ensures ∙ r) ]))

pub returns-in-Prefix-clause-lost : goal.returns-in-Prefix-clause-lost
returns-in-Prefix-clause-lost c = ok_more _ _ c.prefix_value.result c.prefix_value.ensures.lost (λ v p lost within typed.
    let here = node_at c.args.asked.syntax.now c.args.n c.requires in
    prefix_explained _ _ _ typed.tree typed.shaped c.args.n here.node here.at c.in-Prefix.sign c.in-Prefix.operand
    (λ items. ap (expression_told items c.args.n) (sym c.in-Prefix.is) ∙ c.expression.ensures.told items)
    (sym c.value_at-in-Prefix.ensures ∙ p lost))

pub returns-in-Paren-clause-lost : goal.returns-in-Paren-clause-lost
returns-in-Paren-clause-lost c = λ lost within typed.
    let here = node_at c.args.asked.syntax.now c.args.n c.requires in
    paren_explained _ _ _ typed.tree typed.shaped c.args.n here.node here.at c.in-Paren.inside
    (λ items. ap (expression_told items c.args.n) (sym c.in-Paren.is) ∙ c.expression.ensures.told items)
    (sym c.value_at-in-Paren.ensures ∙ lost)

pub returns-in-Literal-clause-lost : goal.returns-in-Literal-clause-lost
returns-in-Literal-clause-lost c = ok_more _ _ c.literal_value.result c.literal_value.ensures.lost (λ v p lost within typed.
    let here = node_at c.args.asked.syntax.now c.args.n c.requires in
    literal_explained _ _ _ typed.tree typed.shaped c.args.n here.node here.at _
    (λ items. ap (expression_told items c.args.n) (sym c.in-Literal.is) ∙ c.expression.ensures.told items) (p lost))

pub returns-in-Name-clause-lost : goal.returns-in-Name-clause-lost
returns-in-Name-clause-lost c = ok_more _ _ c.value_of_name.result c.value_of_name.ensures.lost (λ v p lost within typed.
    name_explained c.args.asked.syntax.now c.args.asked.meanings.now c.args.values.now c.args.constants.now c.args.n
    (subst (λ (m : Meaning). IsNameLost c.args.values.now c.args.constants.now [] m) c.meaning_at-meaning.ensures (p lost within)))

pub returns-in-Index-clause-lost : goal.returns-in-Index-clause-lost
returns-in-Index-clause-lost c = ok_more _ _ c.index_value_at.result c.index_value_at.ensures.lost (λ v p lost within typed.
    let here = node_at c.args.asked.syntax.now c.args.n c.requires in
    index_explained _ _ _ typed.tree typed.shaped c.args.n here.node here.at c.args.constants.now c.in-Index.of c.in-Index.given.now
    (λ items. ap (expression_told items c.args.n) (sym c.in-Index.is) ∙ c.expression.ensures.told items)
    (λ inside. p lost within inside))

-- ---- what an expression stands for

pub returns-in-Infix-clause-same : goal.returns-in-Infix-clause-same
returns-in-Infix-clause-same c = ok_more _ _ c.infix_value.result c.infix_value.ensures.lost (λ v p r e. absurd (none-some r (ap (expression_stands_for c.args.asked.meanings.now) (expression_view c.args.asked.syntax.now c.args.n _ _ c.expression.ensures.told c.in-Infix.is) ∙ e)))

pub returns-in-Prefix-clause-same : goal.returns-in-Prefix-clause-same
returns-in-Prefix-clause-same c = ok_more _ _ c.prefix_value.result c.prefix_value.ensures.lost (λ v p r e. absurd (none-some r (ap (expression_stands_for c.args.asked.meanings.now) (expression_view c.args.asked.syntax.now c.args.n _ _ c.expression.ensures.told c.in-Prefix.is) ∙ e)))

pub returns-in-Literal-clause-same : goal.returns-in-Literal-clause-same
returns-in-Literal-clause-same c = ok_more _ _ c.literal_value.result c.literal_value.ensures.lost (λ v p r e. absurd (none-some r (ap (expression_stands_for c.args.asked.meanings.now) (expression_view c.args.asked.syntax.now c.args.n _ _ c.expression.ensures.told c.in-Literal.is) ∙ e)))

pub returns-in-Paren-clause-same : goal.returns-in-Paren-clause-same
returns-in-Paren-clause-same c = λ r e.
    let inside : c.in-Paren.inside < c.args.n = subst (λ (v : ExpressionView). expression_parts c.args.asked.syntax.now c.args.n v) c.in-Paren.is c.expression.ensures.parts in
    let its : expression_node (before c.args.n (item_at c.args.asked.syntax.now) c.in-Paren.inside).expression ≡ c.in-Paren.inside =
    ap (λ (i : Item). expression_node i.expression) (before_is c.args.asked.syntax.now c.args.n c.in-Paren.inside inside) ∙ expression_there c.args.asked.syntax.now c.in-Paren.inside (omega (arith, inside, c.requires)) in
    ap is_lost (c.value_at-in-Paren.ensures ∙ ap (value_of c.args.values.now) (sym its ∙ same_Some _ r (ap (expression_stands_for c.args.asked.meanings.now) (expression_view c.args.asked.syntax.now c.args.n _ _ c.expression.ensures.told c.in-Paren.is) ∙ e)))

pub returns-in-Name-clause-same : goal.returns-in-Name-clause-same
returns-in-Name-clause-same c = ok_more _ _ c.value_of_name.result c.value_of_name.ensures.same (λ v p r e.
    ap is_lost (p r (ap right_named c.meaning_at-meaning.ensures ∙ (ap (expression_stands_for c.args.asked.meanings.now) (expression_view c.args.asked.syntax.now c.args.n _ _ c.expression.ensures.told c.in-Name.is) ∙ e))))

pub returns-in-Index-clause-same : goal.returns-in-Index-clause-same
returns-in-Index-clause-same c = ok_more _ _ c.index_value_at.result c.index_value_at.ensures.same (λ v p r e.
    let parts = subst (λ (v : ExpressionView). expression_parts c.args.asked.syntax.now c.args.n v) c.in-Index.is c.expression.ensures.parts in
    let inside : c.in-Index.of < c.args.n = parts.0 in
    p (omega (arith, inside, c.requires)) r
    (ap (λ (i : Item). index_stands_for c.args.asked.meanings.now i.expression) (sym (before_is c.args.asked.syntax.now c.args.n c.in-Index.of inside)) ∙ (ap (expression_stands_for c.args.asked.meanings.now) (expression_view c.args.asked.syntax.now c.args.n _ _ c.expression.ensures.told c.in-Index.is) ∙ e)))

pub returns-in_default-clause-same : goal.returns-in_default-clause-same
returns-in_default-clause-same c = λ r e.
    absurd (other_stands c.args.asked.meanings.now (before c.args.n (item_at c.args.asked.syntax.now)) c.args.n r c.expression.result c.in_default.not-Name c.in_default.not-Paren c.in_default.not-Index
    (ap (expression_stands_for c.args.asked.meanings.now) (expression_view c.args.asked.syntax.now c.args.n c.expression.result c.expression.result c.expression.ensures.told refl) ∙ e))
