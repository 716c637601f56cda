use Rattle.std.proofs.Common.{◌≡◌, ◌∙◌, true, false, length, refl, sym, ap, subst, List}
use Rattle.clu_base.specs.declared.constants.Const.{Const}
use Rattle.clu_types.specs.Arena.{types_of}
use Rattle.clu_syntax.specs.Kinds.{is_expression, is_type, kind_at}
use Rattle.clu_syntax.specs.Nodes.{item_at}
use Rattle.clu_meaning.specs.Settling.{settled_type, type_of}
use Rattle.clu_settle.specs.Known.{AreKnown}
use Rattle.clu_settle.specs.Values.{told, Agrees}
use Rattle.std.proofs.lemmas.Bool.{true≢false}
use Rattle.clu_settle.specs.Standing.{stands_for, IsRead}
use Rattle.clu_settle.proofs.Made.{ok_more}
use Rattle.clu_settle.proofs.Parts.{constant_is, type_is_constant, expression_is_constant, no_type_kind}
use Rattle.clu_settle.proofs.Reading.{ok_three}
use Rattle.clu_settle.proofs.Nodes.{type_known, expression_known}
use Rattle.clu_settle.proofs.Handed.{kind_told, no_constant}
use Rattle.clu_settle.proofs.node_values.node_value.Goals as goal

pub returns-then-is_type-clause-known : goal.returns-then-is_type-clause-known
returns-then-is_type-clause-known c = ok_more _ _ c.value_of_type.result c.value_of_type.ensures.known (λ v p scope unfolded known is.
    let kind = kind_told c.args.asked.syntax.now c.tree.result.now c.args.n c.node.result.now c.tree.ensures.same c.node.ensures.node in
    let type_here : is_type (kind_at c.args.asked.syntax.now c.args.n) ≡ true = ap is_type kind ∙ sym c.is_type.ensures ∙ c.if-is_type.true in
    type_known _ _ _ _ _ _ _ known c.args.n _ type_here (p scope unfolded known type_here))

pub returns-then-is_type-clause-within : goal.returns-then-is_type-clause-within
returns-then-is_type-clause-within c = ok_more _ _ c.value_of_type.result c.value_of_type.ensures.within (λ v p all. p (length c.args.constants.now) all)

pub returns-then-is_expression-clause-known : goal.returns-then-is_expression-clause-known
returns-then-is_expression-clause-known c = ok_more _ _ c.value_of_expression.result c.value_of_expression.ensures.known (λ v p scope unfolded known is.
    let kind = kind_told c.args.asked.syntax.now c.tree.result.now c.args.n c.node.result.now c.tree.ensures.same c.node.ensures.node in
    let expression_here : is_expression (kind_at c.args.asked.syntax.now c.args.n) ≡ true = ap is_expression kind ∙ sym c.is_expression.ensures ∙ c.if-is_expression.true in
    expression_known _ _ _ _ _ _ _ known c.args.n _ expression_here (p scope unfolded known expression_here))

pub returns-else-is_expression-clause-known : goal.returns-else-is_expression-clause-known
returns-else-is_expression-clause-known c = λ scope unfolded known is.
    let kind = kind_told c.args.asked.syntax.now c.tree.result.now c.args.n c.node.result.now c.tree.ensures.same c.node.ensures.node in
    absurd (no_constant c.args.asked.syntax.now c.args.n c.node.result.now.kind c.is_type.result c.is_expression.result kind c.is_type.ensures c.if-is_type.false c.is_expression.ensures c.if-is_expression.false is)

-- ---- what is lost

pub returns-then-is_type-clause-typed : goal.returns-then-is_type-clause-typed
returns-then-is_type-clause-typed c = ok_more _ _ c.value_of_type.result c.value_of_type.ensures.typed (λ v p is. p)

pub returns-then-is_type-clause-lost : goal.returns-then-is_type-clause-lost
returns-then-is_type-clause-lost c =
    let kind = kind_told c.args.asked.syntax.now c.tree.result.now c.args.n c.node.result.now c.tree.ensures.same c.node.ensures.node in
    ok_more _ _ c.value_of_type.result c.value_of_type.ensures.lost (λ v p lost within typed. p lost within typed (ap is_type kind ∙ sym c.is_type.ensures ∙ c.if-is_type.true))

pub returns-then-is_expression-clause-typed : goal.returns-then-is_expression-clause-typed
returns-then-is_expression-clause-typed c =
    let kind = kind_told c.args.asked.syntax.now c.tree.result.now c.args.n c.node.result.now c.tree.ensures.same c.node.ensures.node in
    ok_more _ _ c.value_of_expression.result c.value_of_expression.ensures.lost (λ v p is. absurd (true≢false (sym is ∙ ap is_type kind ∙ sym c.is_type.ensures ∙ c.if-is_type.false)))

pub returns-else-is_expression-clause-typed : goal.returns-else-is_expression-clause-typed
returns-else-is_expression-clause-typed c = λ is.
    let kind = kind_told c.args.asked.syntax.now c.tree.result.now c.args.n c.node.result.now c.tree.ensures.same c.node.ensures.node in
    absurd (true≢false (sym is ∙ ap is_type kind ∙ sym c.is_type.ensures ∙ c.if-is_type.false))

-- ---- what is read

pub returns-then-is_type-clause-read : goal.returns-then-is_type-clause-read
returns-then-is_type-clause-read c =
    let kind = kind_told c.args.asked.syntax.now c.tree.result.now c.args.n c.node.result.now c.tree.ensures.same c.node.ensures.node in
    let type_here : is_type (kind_at c.args.asked.syntax.now c.args.n) ≡ true = ap is_type kind ∙ sym c.is_type.ensures ∙ c.if-is_type.true in
    ok_three _ _ _ (IsRead c.args.asked.syntax.now c.args.asked.meanings.now c.args.values.now c.args.n) c.value_of_type.result c.value_of_type.ensures.same c.value_of_type.ensures.cvt c.value_of_type.ensures.plain (λ v same cvt plain. record {
      other = λ none_here. absurd (true≢false (sym (type_is_constant c.args.asked.syntax.now c.args.n type_here) ∙ none_here));
      cvt = λ is word. cvt word;
      word = λ is word. plain word;
      same = λ is d e. same d (ap (stands_for c.args.asked.meanings.now) (sym (constant_is c.args.asked.syntax.now c.args.n true type_here)) ∙ e);
    })

pub returns-then-is_expression-clause-read : goal.returns-then-is_expression-clause-read
returns-then-is_expression-clause-read c =
    let kind = kind_told c.args.asked.syntax.now c.tree.result.now c.args.n c.node.result.now c.tree.ensures.same c.node.ensures.node in
    let expression_here : is_expression (kind_at c.args.asked.syntax.now c.args.n) ≡ true = ap is_expression kind ∙ sym c.is_expression.ensures ∙ c.if-is_expression.true in
    let no_type : is_type (kind_at c.args.asked.syntax.now c.args.n) ≡ false = no_type_kind (kind_at c.args.asked.syntax.now c.args.n) expression_here in
    ok_more _ (IsRead c.args.asked.syntax.now c.args.asked.meanings.now c.args.values.now c.args.n) c.value_of_expression.result c.value_of_expression.ensures.same (λ v same. record {
      other = λ none_here. absurd (true≢false (sym (expression_is_constant c.args.asked.syntax.now c.args.n expression_here) ∙ none_here));
      cvt = λ is word. absurd (true≢false (sym is ∙ no_type));
      word = λ is word. absurd (true≢false (sym is ∙ no_type));
      same = λ is d e. same d (ap (stands_for c.args.asked.meanings.now) (sym (constant_is c.args.asked.syntax.now c.args.n false no_type)) ∙ e);
    })

pub returns-else-is_expression-clause-read : goal.returns-else-is_expression-clause-read
returns-else-is_expression-clause-read c =
    let kind = kind_told c.args.asked.syntax.now c.tree.result.now c.args.n c.node.result.now c.tree.ensures.same c.node.ensures.node in
    record {
      other = λ none_here. refl;
      cvt = λ is word. absurd (true≢false (sym is ∙ ap is_type kind ∙ sym c.is_type.ensures ∙ c.if-is_type.false));
      word = λ is word. absurd (true≢false (sym is ∙ ap is_type kind ∙ sym c.is_type.ensures ∙ c.if-is_type.false));
      same = λ is. absurd (no_constant c.args.asked.syntax.now c.args.n c.node.result.now.kind c.is_type.result c.is_expression.result kind c.is_type.ensures c.if-is_type.false c.is_expression.ensures c.if-is_expression.false is);
    }
