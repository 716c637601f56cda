-- The order of the nodes of a tree.
use Rattle.std.specs.Prelude.{◌≡◌, ℕ, ◌+◌, ◌-◌, List, [], ◌∷◌, length, slice_get, Some}
use Rattle.clu_tree.specs.declared.node.Node.{Node}
use Rattle.clu_tree.specs.declared.node.NodeKind.TheVariants as kind

-- the nodes from the one number up to the other are the trees of these roots, one after the other, and in each tree
-- the nodes below the root come before it and are, in the same way, the trees of its children
pub data IsForest (nodes : List Node) : ℕ → List ℕ → ℕ → Type 0 where
  none : (at : ℕ) → IsForest nodes at [] at
  tree : (from root to : ℕ) (n : Node) (roots : List ℕ) → slice_get nodes root ≡ Some n → IsForest nodes from n.children root → IsForest nodes (root + 1) roots to → IsForest nodes from (root ∷ roots) to

-- the nodes are one tree in post-order: the root is the last, the numbers of a node's children ascend, and the nodes
-- below a node are those between the child before it, or its parent's first node, and itself
abbrev pub IsPostOrder : List Node → Type 0
IsPostOrder nodes = IsForest nodes 0 ((length nodes - 1) ∷ []) (length nodes)

-- the last node is a file over so many tokens
pub record IsFileOver (tokens : ℕ) (nodes : List Node) : Type 0 where
  pub root : Node
  pub is_last : slice_get nodes (length nodes - 1) ≡ Some root
  pub kind_is : root.kind ≡ kind.File
  pub first_is : root.first ≡ 0
  pub last_is : root.last + 1 ≡ tokens
