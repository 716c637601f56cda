-- What a file has at a node, read from its tables. Of a node that isn't there all is nothing.
use Rattle.std.specs.Prelude.{ℕ, Bool, false, List, slice_get, Option, Some, None}
use Rattle.clu_tree.specs.declared.node.Node.{Node}
use Rattle.clu_tree.specs.declared.node.NodeKind.{NodeKind}
use Rattle.clu_syntax.specs.declared.round.Round.{Round}
use Rattle.clu_syntax.specs.Rounds.{round_at}
use Rattle.clu_head.specs.There.{is_there}
use Rattle.clu_names.specs.declared.binding.Names.{Names}
use Rattle.clu_names.specs.declared.scopes.Declared.{Declared}
use Rattle.clu_bindings.specs.Tables.{optional, items_at}

abbrev pub is_there_at : List Node → NodeKind → Option ℕ → Bool
is_there_at nodes k (Some n) = is_there k (slice_get nodes n)
is_there_at nodes k None = false

-- the parent is of this kind
abbrev pub stands_in : List Node → List Round → NodeKind → ℕ → Bool
stands_in nodes rounds k n = is_there_at nodes k (round_at rounds n).parent

abbrev pub node_of : Option Declared → Option ℕ
node_of (Some d) = Some d.node
node_of None = None

module _ (names : Names) where
  -- the declarations to which the names of a node are bound, by their places
  abbrev pub bound_in : ℕ → List (Option ℕ)
  bound_in n = items_at names.bound.items names.starts.items n

  -- that of the first name
  abbrev pub declaration_in : ℕ → Option ℕ
  declaration_in n = optional (slice_get (bound_in n) 0)

  -- the node of the declaration at a place
  abbrev pub declaring_node : Option ℕ → Option ℕ
  declaring_node (Some place) = node_of (slice_get names.declared.items place)
  declaring_node None = None

  -- the node that declares the first name of a node
  abbrev pub declared_by : ℕ → Option ℕ
  declared_by n = declaring_node (declaration_in n)
