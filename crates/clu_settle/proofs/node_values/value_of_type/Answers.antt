use Rattle.std.proofs.Common.{◌≡◌, ◌⊎◌, ◌∙◌, [], None, sym, ap, subst, List}
use Rattle.std.proofs.lemmas.Bool.{true≢false}
use Rattle.std.proofs.lemmas.Option.{none-some}
use Rattle.clu_tree.specs.declared.node.Node.{Node}
use Rattle.clu_types.specs.Arena.{types_of}
use Rattle.clu_settle.specs.Agreeing.{SelectorsAgree, SignalsAgree}
use Rattle.clu_syntax.specs.Views.{type_told}
use Rattle.clu_settle.specs.Standing.{is_cvt_type, is_plain_type, type_stands_for}
use Rattle.clu_settle.proofs.Made.{ok_more}
use Rattle.clu_settle.proofs.Reading.{cvt_is, type_view}
use Rattle.clu_settle.proofs.Parts.{node_at}
use Rattle.clu_settle.specs.Lists.{ids_behind, selectors_behind, signals_behind}
use Rattle.clu_settle.proofs.Nodes.{word_known, list_known, fields_known, routine_known, named_known}
use Rattle.clu_settle.proofs.Losing.{word_explained, list_explained, fields_explained, routine_explained, named_explained}
use Rattle.clu_settle.proofs.node_values.value_of_type.Goals as goal

pub returns-in-Simple-clause-known : goal.returns-in-Simple-clause-known
returns-in-Simple-clause-known c = ok_more _ _ c.simple_value.result c.simple_value.ensures.known (λ v p scope unfolded known is.
    let here = node_at c.args.asked.syntax.now c.args.n c.requires in
    word_known _ _ _ _ _ _ _ known known.tree known.shaped c.args.n here.node here.at c.in-Simple.word _ is
    (λ items. ap (type_told items c.args.n) (sym c.in-Simple.is) ∙ c.type_expression.ensures.told items) (p scope unfolded))

pub returns-in-List-clause-known : goal.returns-in-List-clause-known
returns-in-List-clause-known c = ok_more _ _ c.list_value.result c.list_value.ensures.known (λ v p scope unfolded known is.
    let here = node_at c.args.asked.syntax.now c.args.n c.requires in
    list_known _ _ _ _ _ _ _ known known.tree known.shaped c.args.n here.node here.at c.in-List.word c.in-List.of _
    (λ items. ap (type_told items c.args.n) (sym c.in-List.is) ∙ c.type_expression.ensures.told items) (p c.args.constants.now))

pub returns-in-Fields-clause-known : goal.returns-in-Fields-clause-known
returns-in-Fields-clause-known c = ok_more _ _ c.fields_value.result c.fields_value.ensures.known (λ v p scope unfolded known is.
    let here = node_at c.args.asked.syntax.now c.args.n c.requires in
    fields_known _ _ _ _ _ _ _ known known.tree known.shaped c.args.n here.node here.at c.in-Fields.word c.in-Fields.selectors.now _
    (λ items. ap (type_told items c.args.n) (sym c.in-Fields.is) ∙ c.type_expression.ensures.told items)
    (λ fs a. p c.args.constants.now fs (subst (λ (nodes : List Node). SelectorsAgree (types_of c.args.types.now) c.args.constants.now c.args.values.now nodes c.in-Fields.selectors.now fs) (sym c.tree-tree.ensures.same) a)))

pub returns-in-Routine-clause-known : goal.returns-in-Routine-clause-known
returns-in-Routine-clause-known c = ok_more _ _ c.routine_value.result c.routine_value.ensures.known (λ v p scope unfolded known is.
    let here = node_at c.args.asked.syntax.now c.args.n c.requires in
    routine_known _ _ _ _ _ _ _ known known.tree known.shaped c.args.n here.node here.at c.in-Routine.kind c.in-Routine.arguments.now c.in-Routine.results.now c.in-Routine.exceptions.now _
    (λ items. ap (type_told items c.args.n) (sym c.in-Routine.is) ∙ c.type_expression.ensures.told items)
    (λ args given ss a b e. p c.args.constants.now args given ss a b (subst (λ (nodes : List Node). SignalsAgree (types_of c.args.types.now) c.args.constants.now c.args.values.now nodes c.in-Routine.exceptions.now ss) (sym c.tree-tree.ensures.same) e)))

pub returns-in-Named-clause-known : goal.returns-in-Named-clause-known
returns-in-Named-clause-known c = ok_more _ _ c.named_type.result c.named_type.ensures.known (λ v p scope unfolded known is.
    let here = node_at c.args.asked.syntax.now c.args.n c.requires in
    named_known _ _ _ _ _ _ _ known known.tree known.shaped c.args.n here.node here.at c.in-Named.name.now c.in-Named.given.now _
    (λ items. ap (type_told items c.args.n) (sym c.in-Named.is) ∙ c.type_expression.ensures.told items)
    (p scope unfolded))

pub returns-in-Simple-clause-lost : goal.returns-in-Simple-clause-lost
returns-in-Simple-clause-lost c = ok_more _ _ c.simple_value.result c.simple_value.ensures.lost (λ v p lost within typed is.
    let here = node_at c.args.asked.syntax.now c.args.n c.requires in
    word_explained _ _ _ typed.tree typed.shaped c.args.n here.node here.at c.args.constants.now c.in-Simple.word is
    (λ items. ap (type_told items c.args.n) (sym c.in-Simple.is) ∙ c.type_expression.ensures.told items) (p lost within))

pub returns-in-List-clause-lost : goal.returns-in-List-clause-lost
returns-in-List-clause-lost c = ok_more _ _ c.list_value.result c.list_value.ensures.lost (λ v p lost within typed is.
    let here = node_at c.args.asked.syntax.now c.args.n c.requires in
    list_explained _ _ _ typed.tree typed.shaped c.args.n here.node here.at typed.types c.in-List.word c.in-List.of
    (λ items. ap (type_told items c.args.n) (sym c.in-List.is) ∙ c.type_expression.ensures.told items) (p lost within))

pub returns-in-Fields-clause-lost : goal.returns-in-Fields-clause-lost
returns-in-Fields-clause-lost c = ok_more _ _ c.fields_value.result c.fields_value.ensures.lost (λ v p lost within typed is.
    let here = node_at c.args.asked.syntax.now c.args.n c.requires in
    fields_explained _ _ _ typed.tree typed.shaped c.args.n here.node here.at typed.types c.in-Fields.word c.in-Fields.selectors.now
    (λ items. ap (type_told items c.args.n) (sym c.in-Fields.is) ∙ c.type_expression.ensures.told items)
    (subst (λ (nodes : List Node). selectors_behind c.args.values.now nodes [] c.in-Fields.selectors.now ≡ None) c.tree-tree.ensures.same (p lost within)))

pub returns-in-Routine-clause-lost : goal.returns-in-Routine-clause-lost
returns-in-Routine-clause-lost c = ok_more _ _ c.routine_value.result c.routine_value.ensures.lost (λ v p lost within typed is.
    let here = node_at c.args.asked.syntax.now c.args.n c.requires in
    routine_explained _ _ _ typed.tree typed.shaped c.args.n here.node here.at typed.types c.in-Routine.kind c.in-Routine.arguments.now c.in-Routine.results.now c.in-Routine.exceptions.now
    (λ items. ap (type_told items c.args.n) (sym c.in-Routine.is) ∙ c.type_expression.ensures.told items)
    (subst (λ (nodes : List Node). (ids_behind c.args.values.now [] c.in-Routine.arguments.now ≡ None) ⊎ ((ids_behind c.args.values.now [] c.in-Routine.results.now ≡ None) ⊎ (signals_behind c.args.values.now nodes [] c.in-Routine.exceptions.now ≡ None))) c.tree-tree.ensures.same (p lost within)))

pub returns-in-Named-clause-lost : goal.returns-in-Named-clause-lost
returns-in-Named-clause-lost c = ok_more _ _ c.named_type.result c.named_type.ensures.lost (λ v p lost within typed is.
    let here = node_at c.args.asked.syntax.now c.args.n c.requires in
    named_explained _ _ _ typed.tree typed.shaped c.args.n here.node here.at c.args.constants.now c.in-Named.name.now c.in-Named.given.now
    (λ items. ap (type_told items c.args.n) (sym c.in-Named.is) ∙ c.type_expression.ensures.told items) (p lost within))

-- ---- what a type stands for

pub returns-in-Simple-clause-same : goal.returns-in-Simple-clause-same
returns-in-Simple-clause-same c = ok_more _ _ c.simple_value.result c.simple_value.ensures.same (λ v p r e. p r (ap (type_stands_for c.args.asked.meanings.now) (type_view c.args.asked.syntax.now c.args.n _ _ c.type_expression.ensures.told c.in-Simple.is) ∙ e))

pub returns-in-List-clause-same : goal.returns-in-List-clause-same
returns-in-List-clause-same c = ok_more _ _ c.list_value.result c.list_value.ensures.lost (λ v p r e. absurd (none-some r (ap (type_stands_for c.args.asked.meanings.now) (type_view c.args.asked.syntax.now c.args.n _ _ c.type_expression.ensures.told c.in-List.is) ∙ e)))

pub returns-in-Fields-clause-same : goal.returns-in-Fields-clause-same
returns-in-Fields-clause-same c = ok_more _ _ c.fields_value.result c.fields_value.ensures.lost (λ v p r e. absurd (none-some r (ap (type_stands_for c.args.asked.meanings.now) (type_view c.args.asked.syntax.now c.args.n _ _ c.type_expression.ensures.told c.in-Fields.is) ∙ e)))

pub returns-in-Routine-clause-same : goal.returns-in-Routine-clause-same
returns-in-Routine-clause-same c = ok_more _ _ c.routine_value.result c.routine_value.ensures.lost (λ v p r e. absurd (none-some r (ap (type_stands_for c.args.asked.meanings.now) (type_view c.args.asked.syntax.now c.args.n _ _ c.type_expression.ensures.told c.in-Routine.is) ∙ e)))

pub returns-in-Named-clause-same : goal.returns-in-Named-clause-same
returns-in-Named-clause-same c = ok_more _ _ c.named_type.result c.named_type.ensures.same (λ v p r e. p r (ap (type_stands_for c.args.asked.meanings.now) (type_view c.args.asked.syntax.now c.args.n _ _ c.type_expression.ensures.told c.in-Named.is) ∙ e))

pub returns-in-Simple-clause-cvt : goal.returns-in-Simple-clause-cvt
returns-in-Simple-clause-cvt c = ok_more _ _ c.simple_value.result c.simple_value.ensures.cvt (λ v p e. p (cvt_is c.args.n c.in-Simple.word (ap is_cvt_type (type_view c.args.asked.syntax.now c.args.n _ _ c.type_expression.ensures.told c.in-Simple.is) ∙ e)))

pub returns-in-List-clause-cvt : goal.returns-in-List-clause-cvt
returns-in-List-clause-cvt c = ok_more _ _ c.list_value.result c.list_value.ensures.lost (λ v p e. absurd (true≢false (sym e ∙ sym (ap is_cvt_type (type_view c.args.asked.syntax.now c.args.n _ _ c.type_expression.ensures.told c.in-List.is)))))

pub returns-in-Fields-clause-cvt : goal.returns-in-Fields-clause-cvt
returns-in-Fields-clause-cvt c = ok_more _ _ c.fields_value.result c.fields_value.ensures.lost (λ v p e. absurd (true≢false (sym e ∙ sym (ap is_cvt_type (type_view c.args.asked.syntax.now c.args.n _ _ c.type_expression.ensures.told c.in-Fields.is)))))

pub returns-in-Routine-clause-cvt : goal.returns-in-Routine-clause-cvt
returns-in-Routine-clause-cvt c = ok_more _ _ c.routine_value.result c.routine_value.ensures.lost (λ v p e. absurd (true≢false (sym e ∙ sym (ap is_cvt_type (type_view c.args.asked.syntax.now c.args.n _ _ c.type_expression.ensures.told c.in-Routine.is)))))

pub returns-in-Named-clause-cvt : goal.returns-in-Named-clause-cvt
returns-in-Named-clause-cvt c = ok_more _ _ c.named_type.result c.named_type.ensures.same (λ v p e. absurd (true≢false (sym e ∙ sym (ap is_cvt_type (type_view c.args.asked.syntax.now c.args.n _ _ c.type_expression.ensures.told c.in-Named.is)))))

pub returns-in-Simple-clause-plain : goal.returns-in-Simple-clause-plain
returns-in-Simple-clause-plain c = ok_more _ _ c.simple_value.result c.simple_value.ensures.plain (λ v p e. p (ap is_plain_type (type_view c.args.asked.syntax.now c.args.n _ _ c.type_expression.ensures.told c.in-Simple.is) ∙ e))

pub returns-in-List-clause-plain : goal.returns-in-List-clause-plain
returns-in-List-clause-plain c = ok_more _ _ c.list_value.result c.list_value.ensures.lost (λ v p e. absurd (true≢false (sym e ∙ sym (ap is_plain_type (type_view c.args.asked.syntax.now c.args.n _ _ c.type_expression.ensures.told c.in-List.is)))))

pub returns-in-Fields-clause-plain : goal.returns-in-Fields-clause-plain
returns-in-Fields-clause-plain c = ok_more _ _ c.fields_value.result c.fields_value.ensures.lost (λ v p e. absurd (true≢false (sym e ∙ sym (ap is_plain_type (type_view c.args.asked.syntax.now c.args.n _ _ c.type_expression.ensures.told c.in-Fields.is)))))

pub returns-in-Routine-clause-plain : goal.returns-in-Routine-clause-plain
returns-in-Routine-clause-plain c = ok_more _ _ c.routine_value.result c.routine_value.ensures.lost (λ v p e. absurd (true≢false (sym e ∙ sym (ap is_plain_type (type_view c.args.asked.syntax.now c.args.n _ _ c.type_expression.ensures.told c.in-Routine.is)))))

pub returns-in-Named-clause-plain : goal.returns-in-Named-clause-plain
returns-in-Named-clause-plain c = ok_more _ _ c.named_type.result c.named_type.ensures.same (λ v p e. absurd (true≢false (sym e ∙ sym (ap is_plain_type (type_view c.args.asked.syntax.now c.args.n _ _ c.type_expression.ensures.told c.in-Named.is)))))
