-- Of which nodes nothing is found: of a circle of equates, of `cvt`, of an integer that is too large, and of what is made
-- from one of these.
use Rattle.std.specs.Prelude.{◌≡◌, ◌<◌, ◌⊎◌, ◌&&◌, ◌||◌, ◌^◌, nat_le, nat_lt, ℕ, zero, suc, Bool, true, false, List, [], ◌∷◌, ◌++◌, length, slice_get, Option, Some, None}
use Rattle.std.specs.List.{list_any}
use Rattle.clu_base.specs.declared.constants.Const.{Const}
use Rattle.clu_tree.specs.declared.node.Node.{Node}
use Rattle.clu_tree.specs.declared.node.NodeKind.{NodeKind}
use Rattle.clu_tree.specs.declared.node.NodeKind.TheVariants as kind
use Rattle.clu_tree.specs.Nodes.{IsTree}
use Rattle.clu_parser.specs.Shape.{HaveForms}
use Rattle.clu_syntax.specs.declared.words.SimpleType.{SimpleType}
use Rattle.clu_syntax.specs.declared.words.SimpleType.TheVariants as simple
use Rattle.clu_syntax.specs.Words.{symbol_in, simple_type, literal_of}
use Rattle.clu_syntax.specs.Kinds.{is_type, kind_at}
use Rattle.clu_syntax.specs.Splits.{children_of}
use Rattle.clu_syntax.specs.Nodes.{item_at}
use Rattle.clu_syntax.specs.Syntax.{Literal, integer}
use Rattle.clu_meaning.specs.Constants.{number_after}
use Rattle.clu_settle.specs.declared.value.Value.{Value}
use Rattle.clu_settle.specs.declared.value.Value.TheVariants as value
use Rattle.clu_settle.specs.declared.meanings.Meaning.{Meaning}
use Rattle.clu_settle.specs.declared.meanings.Meaning.TheVariants as meaning
use Rattle.clu_settle.specs.Lists.{type_id, value_of, actuals_behind}
use Rattle.clu_settle.specs.Names.{is_constant, meaning_in}
use Rattle.clu_settle.specs.Standing.{is_lost, is_cvt_type, is_plain_type, stands_for, AreReadTo}

-- the largest int is 9223372036854775807
abbrev pub is_too_large : Literal → Bool
is_too_large (integer digits) = nat_le (2 ^ 63) (number_after 0 digits)
is_too_large _ = false

abbrev pub is_cvt : SimpleType → Bool
is_cvt simple.Cvt = true
is_cvt _ = false

abbrev pub is_lost_word : NodeKind → List ℕ → Bool
is_lost_word kind.Literal word = is_too_large (literal_of word)
is_lost_word kind.Simple word = is_cvt (simple_type (symbol_in word))
is_lost_word _ word = false

-- nothing is found of what is no node either
abbrev pub is_source : Option Node → Bool
is_source (Some node) = is_lost_word node.kind node.value
is_source None = true

abbrev pub right_side : Meaning → List ℕ
right_side (meaning.Equate right) = right ∷ []
right_side _ = []

module _ (nodes : List Node) (meanings : List Meaning) where
  -- its children, and the right side of the equate that it names
  abbrev pub made_from : ℕ → List ℕ
  made_from n = children_of (slice_get nodes n) ++ right_side (meaning_in (slice_get meanings n))

  unfoldable pub is_lost_in : ℕ → ℕ → Bool
  is_lost_in zero n = true
  is_lost_in (suc steps) n = is_source (slice_get nodes n) || list_any (is_lost_in steps) (made_from n)

  -- however many steps are taken: a longer way than there are nodes goes round a circle
  abbrev pub IsLost : ℕ → Type 0
  IsLost n = (steps : ℕ) → is_lost_in steps n ≡ true

  -- from a node one can go on, for so many steps, to nodes from which it is made
  unfoldable pub goes_on : ℕ → ℕ → Bool
  goes_on zero n = true
  goes_on (suc steps) n = list_any (λ d. nat_lt d (length nodes) && goes_on steps d) (made_from n)

  -- for any number of steps, so that it leads to a circle
  abbrev pub IsEndless : ℕ → Type 0
  IsEndless n = (steps : ℕ) → goes_on steps n ≡ true

  -- ---- why the value of a node is lost: something is, from which it is made

  abbrev pub IsMadeFrom : ℕ → ℕ → Type 0
  IsMadeFrom n d = (i : ℕ) × (slice_get (made_from n) i ≡ Some d)

  pub data Reaches : ℕ → ℕ → Type 0 where
    at_once : (n d : ℕ) → IsMadeFrom n d → Reaches n d
    by_way_of : (n c d : ℕ) → IsMadeFrom n c → Reaches c d → Reaches n d

  abbrev pub IsExplained : List Value → ℕ → Type 0
  IsExplained values n = (is_source (slice_get nodes n) ≡ true) ⊎ ((d : ℕ) × Reaches n d × (value_of values d ≡ value.Lost))

-- a name with actual parameters
abbrev pub IsNameLost : List Value → List Const → List ℕ → Meaning → Type 0
IsNameLost values constants given (meaning.Equate right) = value_of values right ≡ value.Lost
IsNameLost values constants given meaning.Module = actuals_behind values constants [] given ≡ None
IsNameLost values constants given _ = true ≡ false

-- ---- what is found of a type is a type

abbrev pub is_typed : Value → Bool
is_typed (value.Type id) = true
is_typed value.Lost = true
is_typed _ = false

abbrev pub AreTypes : List Node → List Value → Type 0
AreTypes nodes values = (n : ℕ) → is_type (kind_at nodes n) ≡ true → is_typed (value_of values n) ≡ true

-- in a tree of the grammar
pub record AreTyped (nodes : List Node) (values : List Value) : Type 0 where
  pub tree : IsTree nodes
  pub shaped : HaveForms nodes
  pub types : AreTypes nodes values

-- ---- the first p nodes in order: what is lost of them is lost however many steps are taken

pub record AreLost (nodes : List Node) (meanings : List Meaning) (order : List ℕ) (p : ℕ) (values : List Value) : Type 0 where
  pub typed : AreTyped nodes values
  pub read : AreReadTo nodes meanings order p values
  pub lost : (q k : ℕ) → q < p → slice_get order q ≡ Some k → value_of values k ≡ value.Lost → IsLost nodes meanings k

-- each node stands once in the order, behind those from which it is made
pub record IsOrder (nodes : List Node) (meanings : List Meaning) (order : List ℕ) : Type 0 where
  pub after : (p k t : ℕ) → slice_get order p ≡ Some k → IsMadeFrom nodes meanings k t → t < length nodes → (q : ℕ) × (q < p) × (slice_get order q ≡ Some t)
  pub once : (p q k : ℕ) → slice_get order p ≡ Some k → slice_get order q ≡ Some k → p ≡ q
  pub inside : (p k : ℕ) → slice_get order p ≡ Some k → k < length nodes
  pub others : (k : ℕ) → k < length nodes → IsLost nodes meanings k ⊎ ((p : ℕ) × (slice_get order p ≡ Some k))
  pub endless : (k : ℕ) → k < length nodes → IsEndless nodes meanings k ⊎ ((p : ℕ) × (slice_get order p ≡ Some k))

-- ---- the whole table: what leads to a circle is lost, where one can go on for as many steps as there are nodes; and what else
-- stands for a node is lost just if that is

pub record AreRead (nodes : List Node) (meanings : List Meaning) (values : List Value) : Type 0 where
  pub other : (n : ℕ) → is_constant nodes n ≡ false → type_id (value_of values n) ≡ None
  pub cvt : (n : ℕ) → is_type (kind_at nodes n) ≡ true → is_cvt_type (item_at nodes n).type ≡ true → value_of values n ≡ value.Lost
  pub endless : (n : ℕ) → goes_on nodes meanings (length nodes) n ≡ true → value_of values n ≡ value.Lost
  pub word : (n : ℕ) → is_type (kind_at nodes n) ≡ true → is_plain_type (item_at nodes n).type ≡ true → IsEndless nodes meanings n ⊎ (is_lost (value_of values n) ≡ false)
  pub same : (n d : ℕ) → is_constant nodes n ≡ true → stands_for meanings (item_at nodes n).constant ≡ Some d → IsEndless nodes meanings n ⊎ (is_lost (value_of values n) ≡ is_lost (value_of values d))
