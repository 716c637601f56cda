use Rattle.std.proofs.Common.{◌∙◌, sym, refl, ap, subst}
use Rattle.clu_types.specs.Arena.{types_of}
use Rattle.clu_syntax.specs.Nodes.{before, item_at}
use Rattle.clu_syntax.specs.Views.{expression_told}
use Rattle.clu_settle.specs.declared.meanings.Meaning.{Meaning}
use Rattle.clu_settle.specs.Values.{told}
use Rattle.clu_settle.specs.Standing.{is_lost, right_named, index_stands_for}
use Rattle.clu_settle.specs.Lost.{IsNameLost}
use Rattle.clu_settle.proofs.Made.{meant_as}
use Rattle.clu_settle.proofs.Reading.{expression_view, other_index}
use Rattle.clu_settle.proofs.Parts.{node_at}
use Rattle.clu_settle.proofs.Nodes.{indexed_name}
use Rattle.clu_settle.proofs.Handed.{other_indexed}
use Rattle.clu_settle.proofs.node_values.index_value.Goals as goal

pub returns-in_ok-value-in-Name-clause-known : goal.returns-in_ok-value-in-Name-clause-known
returns-in_ok-value-in-Name-clause-known c = λ scope unfolded gs known is given.
    let here = node_at c.args.asked.syntax.now c.args.of c.requires in
    indexed_name c.args.asked.syntax.now scope c.args.asked.meanings.now (types_of c.args.types.now) c.args.constants.now c.args.values.now unfolded known known.tree known.shaped c.args.of here.node here.at c.in-Name.name.now c.args.given.now gs
    (told (types_of c.value_of_name.new.types) c.args.constants.now c.in_ok-value-in-Name.value) _ is
    (λ items. ap (expression_told items c.args.of) (sym c.in-Name.is) ∙ c.expression.ensures.told items) given
    (λ m gs a b. c.in_ok-value-in-Name.ensures.known scope unfolded m gs (meant_as _ _ _ unfolded _ c.meaning_at-meaning.result m (sym c.meaning_at-meaning.ensures) a) b)
    (λ s a. c.with_brackets.ensures.known (types_of c.value_of_name.new.types) c.args.constants.now s a)

pub returns-in_ok-value-in-Name-clause-within : goal.returns-in_ok-value-in-Name-clause-within
returns-in_ok-value-in-Name-clause-within c = λ n all. c.with_brackets.ensures.within _ _ (c.in_ok-value-in-Name.ensures.within n all)

pub returns-in_default-clause-known : goal.returns-in_default-clause-known
returns-in_default-clause-known c = λ scope unfolded gs known is given.
    other_indexed scope unfolded c.args.asked.syntax.now c.args.of c.expression.result c.expression.ensures.told c.in_default.not-Name gs

pub returns-in_ok-value-in-Name-clause-lost : goal.returns-in_ok-value-in-Name-clause-lost
returns-in_ok-value-in-Name-clause-lost c = λ lost within.
    subst (λ (m : Meaning). IsNameLost c.args.values.now c.args.constants.now c.args.given.now m) c.meaning_at-meaning.ensures
    (c.in_ok-value-in-Name.ensures.lost (c.with_brackets.ensures.lost lost) within)

pub returns-in_ok-value-in-Name-clause-same : goal.returns-in_ok-value-in-Name-clause-same
returns-in_ok-value-in-Name-clause-same c = λ r e.
    c.with_brackets.ensures.same ∙ ap is_lost (c.in_ok-value-in-Name.ensures.same r
    (ap right_named c.meaning_at-meaning.ensures ∙ ap (index_stands_for c.args.asked.meanings.now) (expression_view c.args.asked.syntax.now c.args.of _ _ c.expression.ensures.told c.in-Name.is) ∙ e))

pub returns-in_default-clause-same : goal.returns-in_default-clause-same
returns-in_default-clause-same c = λ r e.
    absurd (other_index c.args.asked.meanings.now (before c.args.of (item_at c.args.asked.syntax.now)) c.args.of r c.expression.result c.in_default.not-Name
    (ap (index_stands_for c.args.asked.meanings.now) (expression_view c.args.asked.syntax.now c.args.of c.expression.result c.expression.result c.expression.ensures.told refl) ∙ e))
