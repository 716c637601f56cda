-- V4 by the values of literals.
use Rattle.std.proofs.Common.{◌≡◌, ◌∙◌, ℕ, ◌+◌, ◌-◌, ◌*◌, nat_lt, Bool, false, ◌||◌, List, [], ◌∷◌, drop, get_or, Option, Some, None, refl, sym, ap}
use Rattle.std.specs.Prelude.{slice_get}
use Rattle.std.specs.List.{list_any}
use Rattle.clu_tree.specs.declared.node.Node.{Node}
use Rattle.clu_tree.specs.declared.node.NodeKind.{NodeKind}
use Rattle.clu_tree.specs.declared.node.NodeKind.TheVariants as kind
use Rattle.clu_syntax.specs.Items.{Item}
use Rattle.clu_syntax.specs.Kinds.{kind_of}
use Rattle.clu_syntax.specs.Nodes.{item_at, item_to, item_with, before, elements_of, expression_of}
use Rattle.clu_syntax.specs.Syntax.{TypeExpression, Literal, integer, string, a_literal}
use Rattle.clu_syntax.specs.Words.{literal_of}
use Rattle.clu_meaning.specs.Constants as constants
use Rattle.clu_checking.specs.Files.{File, node_names}
use Rattle.clu_checking.specs.NameRules as rules_of
use Rattle.clu_checking.specs.NameRules.{has_bad_literal, v4}
use Rattle.clu_settle.specs.declared.value.Value.{Value}
use Rattle.clu_settle.specs.declared.value.Value.TheVariants as value
use Rattle.clu_settle.specs.Names.{names_of}
use Rattle.clu_name_rules.specs.Closed.{is_long}
use Rattle.clu_name_rules.specs.NameRules.{number_after, is_out_of_range, is_literal_out_of_range}
use Rattle.clu_passes.specs.Tables.{TellStrings}

number_same : (n : ℕ) (digits : List ℕ) → constants.number_after n digits ≡ number_after n digits
number_same n [] = refl
number_same n (digit ∷ digits) = number_same (10 * n + (digit - 48)) digits

no_elements : (items : ℕ → Item) (nodes : List Node) (n : ℕ) (t : TypeExpression) (token : Option ℕ) (cs : List ℕ) (v : Value) → false ≡ is_literal_out_of_range (elements_of items nodes n t token cs) v
no_elements items nodes n t None cs v = refl
no_elements items nodes n t (Some token) [] v = refl
no_elements items nodes n t (Some token) (c ∷ cs) v = refl

pub literal_is : (nodes : List Node) (n : ℕ) (node : Node) → slice_get nodes n ≡ Some node → node.kind ≡ kind.Literal → (item_at nodes n).expression ≡ a_literal n (literal_of node.value)
unfolding item_to
literal_is nodes n node at is =
    ap (λ (its : Option Node). (item_with (before n (item_to nodes n)) nodes n its).expression) at
    ∙ ap (λ (k : NodeKind). expression_of (before n (item_to nodes n)) nodes n node k) is

module _ (f : File) (values : List Value) (tell : TellStrings f values) (items : ℕ → Item) (n : ℕ) where
  abbrev its_value : Value
  its_value = get_or values n value.Lost

  range_same : (node : Node) → slice_get f.nodes n ≡ Some node → node.kind ≡ kind.Literal → (literal : Literal) → literal_of node.value ≡ literal → rules_of.is_out_of_range literal ≡ is_out_of_range literal its_value
  range_same node at is (integer digits) e = ap (λ (k : ℕ). nat_lt 9223372036854775807 k) (number_same 0 digits)
  range_same node at is (string text) e = sym (tell n node text at is e)
  range_same node at is _ e = refl

  by_kind : (node : Node) → slice_get f.nodes n ≡ Some node → (k : NodeKind) → node.kind ≡ k → has_bad_literal f k n ≡ is_literal_out_of_range (expression_of items f.nodes n node k) its_value
  by_kind node at kind.Literal is = ap rules_of.is_literal_out_of_range (literal_is f.nodes n node at is) ∙ range_same node at is (literal_of node.value) refl
  by_kind node at kind.Elems is = no_elements items f.nodes n (items (get_or node.children 0 0)).type node.value_token (drop 1 node.children) its_value
  by_kind node at _ is = refl

  pub v4_is : v4 f n ≡ (list_any is_long (names_of (slice_get f.nodes n)) || is_literal_out_of_range (item_with items f.nodes n (slice_get f.nodes n)).expression its_value)
  v4_is = by (slice_get f.nodes n) refl
    where
      by : (its : Option Node) → slice_get f.nodes n ≡ its →
          (list_any is_long (node_names f its) || has_bad_literal f (kind_of its) n) ≡ (list_any is_long (names_of its) || is_literal_out_of_range (item_with items f.nodes n its).expression its_value)
      by None at = refl
      by (Some node) at = ap (λ (b : Bool). list_any is_long node.names || b) (by_kind node at node.kind refl)
