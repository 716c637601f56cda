-- What the table of meanings says of the name of each node.
use Rattle.std.specs.Prelude.{◌≡◌, ◌<◌, ◌||◌, ℕ, Bool, true, false, List, [], length, codes, slice_get, Option, Some, None}
use Rattle.clu_tree.specs.declared.node.Node.{Node}
use Rattle.clu_tree.specs.declared.node.NodeKind.{NodeKind}
use Rattle.clu_tree.specs.declared.node.NodeKind.TheVariants as kind
use Rattle.clu_syntax.specs.declared.words.SimpleType.{SimpleType}
use Rattle.clu_syntax.specs.declared.words.SimpleType.TheVariants as simple
use Rattle.clu_syntax.specs.Words.{symbol_in, simple_type}
use Rattle.clu_syntax.specs.Kinds.{is_expression, is_type, kind_at}
use Rattle.clu_syntax.specs.Splits.{first_name}
use Rattle.clu_syntax.specs.Syntax.{Identifier}
use Rattle.clu_syntax.specs.Nodes.{item_at}
use Rattle.clu_meaning.specs.Scoping as means
use Rattle.clu_meaning.specs.Scoping.{Scope, meaning_of}
use Rattle.clu_settle.specs.declared.meanings.Meaning.{Meaning}
use Rattle.clu_settle.specs.declared.meanings.Meaning.TheVariants as meaning

-- neither an equate of a constant or type, a parameter nor a module
abbrev pub is_other : means.Meaning → Bool
is_other (means.is_equate c) = false
is_other (means.is_type_parameter k) = false
is_other (means.is_constant_parameter k) = false
is_other means.is_module = false
is_other _ = true

-- an expression or a type stands at the node
abbrev pub is_constant : List Node → ℕ → Bool
is_constant nodes n = is_expression (kind_at nodes n) || is_type (kind_at nodes n)

-- an equate is given by the node of its right side
abbrev pub Means : List Node → Meaning → means.Meaning → Type 0
Means nodes (meaning.Equate right) m = (right < length nodes) × (is_constant nodes right ≡ true) × (m ≡ means.is_equate (item_at nodes right).constant)
Means nodes (meaning.TypeParameter k) m = m ≡ means.is_type_parameter k
Means nodes (meaning.ConstantParameter k) m = m ≡ means.is_constant_parameter k
Means nodes meaning.Module m = m ≡ means.is_module
Means nodes meaning.Other m = is_other m ≡ true

abbrev pub names_of : Option Node → List Identifier
names_of (Some node) = node.names
names_of None = []

-- the name by which a node stands for something else; `rep` is the word among the types that is one
abbrev pub name_in : NodeKind → Option Node → Identifier
name_in kind.Simple its = codes "rep"
name_in _ its = first_name (names_of its)

abbrev pub name_at : List Node → ℕ → Identifier
name_at nodes n = name_in (kind_at nodes n) (slice_get nodes n)

abbrev pub meaning_in : Option Meaning → Meaning
meaning_in (Some m) = m
meaning_in None = meaning.Other

-- names, types by their names, and the word `rep`
abbrev pub is_rep : SimpleType → Bool
is_rep simple.Rep = true
is_rep _ = false

abbrev pub may_stand : NodeKind → List ℕ → Bool
may_stand kind.Name value = true
may_stand kind.NameT value = true
may_stand kind.Simple value = is_rep (simple_type (symbol_in value))
may_stand _ value = false

abbrev pub may_name : Option Node → Bool
may_name (Some node) = may_stand node.kind node.value
may_name None = false

-- of each of these the table says what it means
pub record AreMeanings (nodes : List Node) (scope : Scope) (meanings : List Meaning) : Type 0 where
  pub size : length meanings ≡ length nodes
  pub each : (n : ℕ) → may_name (slice_get nodes n) ≡ true → Means nodes (meaning_in (slice_get meanings n)) (meaning_of scope n (name_at nodes n))
