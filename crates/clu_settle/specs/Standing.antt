-- For which node a constant stands, whose value it has; and what is read of the nodes that are settled: what is neither an
-- expression nor a type is no type, of the words among the types `cvt` alone is lost by itself, and what stands for a node is lost just
-- if that is.
use Rattle.std.specs.Prelude.{◌≡◌, ◌<◌, ℕ, Bool, true, false, List, slice_get, Option, Some, None}
use Rattle.clu_tree.specs.declared.node.Node.{Node}
use Rattle.clu_syntax.specs.declared.words.SimpleType.{SimpleType}
use Rattle.clu_syntax.specs.declared.words.SimpleType.TheVariants as simple
use Rattle.clu_syntax.specs.Kinds.{is_type, kind_at}
use Rattle.clu_syntax.specs.Nodes.{item_at}
use Rattle.clu_syntax.specs.Syntax.{Expression, a_name, a_paren, an_index, TypeExpression, a_simple_type, a_named_type, Constant, an_expression, a_type}
use Rattle.clu_settle.specs.declared.value.Value.{Value}
use Rattle.clu_settle.specs.declared.value.Value.TheVariants as value
use Rattle.clu_settle.specs.declared.meanings.Meaning.{Meaning}
use Rattle.clu_settle.specs.declared.meanings.Meaning.TheVariants as meaning
use Rattle.clu_settle.specs.Lists.{type_id, value_of}
use Rattle.clu_settle.specs.Names.{is_constant, meaning_in}
use Rattle.clu_settle.specs.Steps.{expression_node}

abbrev pub is_lost : Value → Bool
is_lost value.Lost = true
is_lost _ = false

-- the right side of an equate
abbrev pub right_named : Meaning → Option ℕ
right_named (meaning.Equate right) = Some right
right_named _ = None

abbrev pub is_cvt_type : TypeExpression → Bool
is_cvt_type (a_simple_type n simple.Cvt) = true
is_cvt_type _ = false

-- a word that is a type by itself
abbrev pub is_plain_word : SimpleType → Bool
is_plain_word simple.Rep = false
is_plain_word simple.Cvt = false
is_plain_word _ = true

abbrev pub is_plain_type : TypeExpression → Bool
is_plain_type (a_simple_type n word) = is_plain_word word
is_plain_type _ = false

module _ (meanings : List Meaning) where
  abbrev pub right_named_at : ℕ → Option ℕ
  right_named_at n = right_named (meaning_in (slice_get meanings n))

  -- of the words among the types `rep` is a name
  abbrev pub word_stands_for : ℕ → SimpleType → Option ℕ
  word_stands_for n simple.Rep = right_named_at n
  word_stands_for n _ = None

  abbrev pub type_stands_for : TypeExpression → Option ℕ
  type_stands_for (a_simple_type n word) = word_stands_for n word
  type_stands_for (a_named_type n name cs) = right_named_at n
  type_stands_for _ = None

  -- a name before brackets
  abbrev pub index_stands_for : Expression → Option ℕ
  index_stands_for (a_name n name) = right_named_at n
  index_stands_for _ = None

  abbrev pub expression_stands_for : Expression → Option ℕ
  expression_stands_for (a_name n name) = right_named_at n
  expression_stands_for (a_paren n e) = Some (expression_node e)
  expression_stands_for (an_index n e cs) = index_stands_for e
  expression_stands_for _ = None

  abbrev pub stands_for : Constant → Option ℕ
  stands_for (an_expression e) = expression_stands_for e
  stands_for (a_type t) = type_stands_for t

-- what is read of the node n, whose value this is
pub record IsRead (nodes : List Node) (meanings : List Meaning) (values : List Value) (n : ℕ) (v : Value) : Type 0 where
  pub other : is_constant nodes n ≡ false → type_id v ≡ None
  pub cvt : is_type (kind_at nodes n) ≡ true → is_cvt_type (item_at nodes n).type ≡ true → v ≡ value.Lost
  pub word : is_type (kind_at nodes n) ≡ true → is_plain_type (item_at nodes n).type ≡ true → is_lost v ≡ false
  pub same : is_constant nodes n ≡ true → (d : ℕ) → stands_for meanings (item_at nodes n).constant ≡ Some d → is_lost v ≡ is_lost (value_of values d)

-- the first p nodes in order are read, all others are lost
pub record AreReadTo (nodes : List Node) (meanings : List Meaning) (order : List ℕ) (p : ℕ) (values : List Value) : Type 0 where
  pub other : (n : ℕ) → is_constant nodes n ≡ false → type_id (value_of values n) ≡ None
  pub cvt : (n : ℕ) → is_type (kind_at nodes n) ≡ true → is_cvt_type (item_at nodes n).type ≡ true → value_of values n ≡ value.Lost
  pub word : (q n : ℕ) → q < p → slice_get order q ≡ Some n → is_type (kind_at nodes n) ≡ true → is_plain_type (item_at nodes n).type ≡ true → is_lost (value_of values n) ≡ false
  pub same : (q n d : ℕ) → q < p → slice_get order q ≡ Some n → is_constant nodes n ≡ true → stands_for meanings (item_at nodes n).constant ≡ Some d → is_lost (value_of values n) ≡ is_lost (value_of values d)
  pub unread : (n : ℕ) → ((q : ℕ) → q < p → slice_get order q ≡ Some n → ⊥) → value_of values n ≡ value.Lost
