-- What the functions of nodes hand on: what is no constant by its form, and results in other words.
use Rattle.std.proofs.Common.{◌≡◌, ◌∙◌, ℕ, Bool, true, false, ◌||◌, List, Some, Result, Ok, Err, IfOk, refl, ap, sym}
use Rattle.std.specs.Prelude.{slice_get}
use Rattle.std.proofs.lemmas.Bool.{true≢false}
use Rattle.clu_tree.specs.declared.node.Node.{Node}
use Rattle.clu_tree.specs.declared.node.NodeKind.{NodeKind}
use Rattle.clu_types.specs.CluType.{Actuals}
use Rattle.clu_syntax.specs.declared.words.Operator.{Operator}
use Rattle.clu_syntax.specs.declared.words.Sign.{Sign}
use Rattle.clu_syntax.specs.declared.expressions.Expression.{Expression as ExpressionView}
use Rattle.clu_syntax.specs.declared.expressions.Expression.TheVariants as view
use Rattle.clu_syntax.specs.Kinds.{is_expression, is_type, kind_of, kind_at}
use Rattle.clu_syntax.specs.Syntax.{Constant, Expression}
use Rattle.clu_syntax.specs.Items.{Item}
use Rattle.clu_syntax.specs.Nodes.{before, item_with, item_at}
use Rattle.clu_syntax.specs.Views.{expression_told}
use Rattle.clu_syntax.proofs.Items.{item_is}
use Rattle.clu_meaning.specs.Scoping.{Scope}
use Rattle.clu_meaning.specs.Settling.{Value as Settled, unsettled, value_of_expression}
use Rattle.clu_settle.specs.declared.value.Value.{Value}
use Rattle.clu_settle.specs.Values.{TypeWithin, ConstantWithin, IsWithin}
use Rattle.clu_settle.specs.Names.{is_constant}
use Rattle.clu_settle.specs.Indexed.{indexed}

-- ---- types and constants that are there

pub ok_within : {E : Type 0} (types constants : ℕ) (P : Type 0) (r : Result Value E) → IfOk r (λ v. ConstantWithin constants v) → IfOk r (λ v. (n : ℕ) → TypeWithin n v) → IfOk r (λ v. P → IsWithin types constants v)
ok_within types constants P (Ok v) c t = λ _. (t types, c)
ok_within types constants P (Err e) c t = tt

-- ---- the kind of a node

pub kind_told : (nodes tree : List Node) (n : ℕ) (node : Node) → tree ≡ nodes → slice_get tree n ≡ Some node → kind_at nodes n ≡ node.kind
kind_told nodes tree n node e at = ap (λ (ns : List Node). kind_at ns n) (sym e) ∙ ap kind_of at

pub no_constant : (nodes : List Node) (n : ℕ) (k : NodeKind) (t x : Bool) → kind_at nodes n ≡ k → t ≡ is_type k → t ≡ false → x ≡ is_expression k → x ≡ false → is_constant nodes n ≡ true → ⊥
no_constant nodes n k t x e is_t f is_x g is =
    let no_expression : is_expression (kind_at nodes n) ≡ false = ap is_expression e ∙ sym is_x ∙ g in
    let no_type : is_type (kind_at nodes n) ≡ false = ap is_type e ∙ sym is_t ∙ f in
    true≢false (sym is ∙ ap (λ (b : Bool). b || is_type (kind_at nodes n)) no_expression ∙ no_type)

-- ---- what is no constant by its form

module _ (scope : Scope) (unfolded : Constant → Settled) (nodes : List Node) (n : ℕ) (v : ExpressionView)
    (is : (items : ℕ → Item) → expression_told items n v ≡ (item_with items nodes n (slice_get nodes n)).expression) where
  its_expression : expression_told (before n (item_at nodes)) n v ≡ (item_at nodes n).expression
  its_expression = is (before n (item_at nodes)) ∙ ap (λ (i : Item). i.expression) (sym (item_is nodes n))

  pub other_indexed : ((name : _) → v ≡ view.Name name → ⊥) → (gs : Actuals) → indexed scope unfolded (item_at nodes n).expression gs ≡ unsettled
  other_indexed not_name gs = ap (λ (x : Expression). indexed scope unfolded x gs) (sym its_expression) ∙ by v not_name
    where
      by : (v : ExpressionView) → ((name : _) → v ≡ view.Name name → ⊥) → indexed scope unfolded (expression_told (before n (item_at nodes)) n v) gs ≡ unsettled
      by (view.Name name) f = absurd (f name refl)
      by _ f = refl

  pub other_expression : ((o : Operator) (a b : ℕ) → v ≡ view.Infix o a b → ⊥) → ((s : Sign) (a : ℕ) → v ≡ view.Prefix s a → ⊥) → ((a : ℕ) → v ≡ view.Paren a → ⊥) → ((literal : _) → v ≡ view.Literal literal → ⊥) → ((name : _) → v ≡ view.Name name → ⊥) → ((a : ℕ) (cs : _) → v ≡ view.Index a cs → ⊥) →
      value_of_expression scope unfolded (item_at nodes n).expression ≡ unsettled
  other_expression f g h i j k = ap (value_of_expression scope unfolded) (sym its_expression) ∙ by v f g h i j k
    where
      by : (v : ExpressionView) → ((o : Operator) (a b : ℕ) → v ≡ view.Infix o a b → ⊥) → ((s : Sign) (a : ℕ) → v ≡ view.Prefix s a → ⊥) → ((a : ℕ) → v ≡ view.Paren a → ⊥) → ((literal : _) → v ≡ view.Literal literal → ⊥) → ((name : _) → v ≡ view.Name name → ⊥) → ((a : ℕ) (cs : _) → v ≡ view.Index a cs → ⊥) →
          value_of_expression scope unfolded (expression_told (before n (item_at nodes)) n v) ≡ unsettled
      by (view.Infix o a b) f g h i j k = absurd (f o a b refl)
      by (view.Prefix s a) f g h i j k = absurd (g s a refl)
      by (view.Paren a) f g h i j k = absurd (h a refl)
      by (view.Literal literal) f g h i j k = absurd (i literal refl)
      by (view.Name name) f g h i j k = absurd (j name refl)
      by (view.Index a cs) f g h i j k = absurd (k a cs refl)
      by _ f g h i j k = refl
