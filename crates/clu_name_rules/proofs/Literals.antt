-- The node of a literal alone may be a literal that is out of range.
use Rattle.std.proofs.Common.{◌≡◌, ℕ, Bool, true, false, true≢false, List, [], ◌∷◌, Option, Some, None, drop, refl, sym}
use Rattle.clu_tree.specs.declared.node.Node.{Node}
use Rattle.clu_tree.specs.declared.node.NodeKind.{NodeKind}
use Rattle.clu_tree.specs.declared.node.NodeKind.TheVariants as kind
use Rattle.clu_settle.specs.declared.value.Value.{Value}
use Rattle.clu_syntax.specs.Items.{Item}
use Rattle.clu_syntax.specs.Nodes.{elements_of, expression_of, item_with}
use Rattle.clu_syntax.specs.Splits.{child, is_of}
use Rattle.clu_syntax.specs.Syntax.{TypeExpression}
use Rattle.clu_head.specs.There.{is_there}
use Rattle.clu_name_rules.specs.NameRules.{is_literal_out_of_range}

module _ (items : ℕ → Item) (nodes : List Node) (n : ℕ) (v : Value) where
  of_elements : (t : TypeExpression) (token : Option ℕ) (cs : List ℕ) → is_literal_out_of_range (elements_of items nodes n t token cs) v ≡ false
  of_elements t None cs = refl
  of_elements t (Some token) [] = refl
  of_elements t (Some token) (c ∷ cs) = refl

  by_kind : (node : Node) (k : NodeKind) → is_of kind.Literal k ≡ false → is_literal_out_of_range (expression_of items nodes n node k) v ≡ false
  by_kind node kind.Literal other = absurd (true≢false other)
  by_kind node kind.Elems other = of_elements (items (child 0 node)).type node.value_token (drop 1 node.children)
  by_kind node _ other = refl

  pub no_literal : (found : Option Node) → is_there kind.Literal found ≡ false → is_literal_out_of_range (item_with items nodes n found).expression v ≡ false
  no_literal None other = refl
  no_literal (Some node) other = by_kind node node.kind other
