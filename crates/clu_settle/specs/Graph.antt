-- What the value of each node is made from, and what the unfolding of each equate meets, by number.
use Rattle.std.specs.Prelude.{ℕ, zero, suc, nat_lt, if◌then◌else◌, Bool, true, false, List, [], ◌∷◌, ◌++◌, length, map, slice_get, Option, Some, None}
use Rattle.clu_tree.specs.declared.node.Node.{Node}
use Rattle.clu_tree.specs.declared.node.NodeKind.{NodeKind}
use Rattle.clu_tree.specs.declared.node.NodeKind.TheVariants as kind
use Rattle.clu_syntax.specs.Kinds.{kind_at}
use Rattle.clu_syntax.specs.Splits.{children_of}
use Rattle.clu_names.specs.declared.scopes.Declared.{Declared}
use Rattle.clu_names.specs.Denotes.{bound_at}
use Rattle.clu_circles.specs.declared.states.Span.{Span}
use Rattle.clu_settle.specs.declared.meanings.Meaning.{Meaning}
use Rattle.clu_settle.specs.declared.meanings.Meaning.TheVariants as meaning
use Rattle.clu_settle.specs.Names.{meaning_in}

-- ---- of values: the children of a node, and the right side of the equate that it names, which is one of so many nodes

abbrev pub named_target : ℕ → Meaning → List (Option ℕ)
named_target nodes (meaning.Equate right) = if nat_lt right nodes then Some right ∷ [] else []
named_target nodes _ = []

module _ (nodes : List Node) (meanings : List Meaning) where
  abbrev pub targets_at : ℕ → List (Option ℕ)
  targets_at n = map Some (children_of (slice_get nodes n)) ++ named_target (length nodes) (meaning_in (slice_get meanings n))

  -- of the first n nodes, one after the other
  unfoldable pub targets_to : ℕ → List (Option ℕ)
  targets_to zero = []
  targets_to (suc n) = targets_to n ++ targets_at n

  -- where those of each of the first n nodes stand
  unfoldable pub spans_to : ℕ → List Span
  spans_to zero = []
  spans_to (suc n) = spans_to n ++ record { from = length (targets_to n); to = length (targets_to n ++ targets_at n) } ∷ []

-- ---- of unfolding: the equates that a node names

abbrev pub is_equate_kind : NodeKind → Bool
is_equate_kind kind.Equate = true
is_equate_kind _ = false

abbrev pub is_equate_at : List Node → ℕ → Bool
is_equate_at nodes n = is_equate_kind (kind_at nodes n)

abbrev pub equate_at : List Node → ℕ → Option Declared → Option ℕ
equate_at nodes place (Some one) = if is_equate_at nodes one.node then Some place else None
equate_at nodes place None = None

abbrev pub equate_of : List Node → List Declared → Option ℕ → Option ℕ
equate_of nodes ds (Some place) = equate_at nodes place (slice_get ds place)
equate_of nodes ds None = None

-- a name, a type by its name and the word `rep` may stand for an equate
abbrev pub if_used : NodeKind → List (Option ℕ) → List (Option ℕ)
if_used kind.Name bound = bound
if_used kind.NameT bound = bound
if_used kind.Simple bound = bound
if_used _ bound = []

module _ (nodes : List Node) (ds : List Declared) where
  abbrev pub unfolded_at : ℕ → List (Option ℕ)
  unfolded_at n = map (equate_of nodes ds) (if_used (kind_at nodes n) (bound_at ds n (slice_get nodes n)))

  unfoldable pub unfolded_to : ℕ → List (Option ℕ)
  unfolded_to zero = []
  unfolded_to (suc n) = unfolded_to n ++ unfolded_at n
