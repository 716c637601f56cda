-- Trees as lists of nodes.
use Rattle.std.specs.Prelude.{◌≡◌, ℕ, ◌+◌, ◌^◌, ◌-◌, ◌<◌, List, [], ◌∷◌, ◌++◌, length, slice_get, Some, All, AllPairs, Contains, ◌≢◌}
use Rattle.clu_tree.specs.declared.node.Node.{Node}
use Rattle.clu_tree.specs.declared.node.NodeKind.{NodeKind}
use Rattle.clu_tree.specs.declared.node.NodeKind.TheVariants as kind
use Rattle.clu_tree.specs.Count.{counts, count_with}

-- each child comes before its parent, and no node stands in two places
pub record IsTree (nodes : List Node) : Type 0 where
  pub below : (i : ℕ) (n : Node) → slice_get nodes i ≡ Some n → All (λ c. c < i) n.children
  pub apart : (i j : ℕ) (m n : Node) (c : ℕ) → slice_get nodes i ≡ Some m → slice_get nodes j ≡ Some n → Contains m.children c → Contains n.children c → i ≡ j
  pub once : (i : ℕ) (n : Node) → slice_get nodes i ≡ Some n → AllPairs ◌≢◌ n.children

-- no node is the parent of c
abbrev pub IsRoot : List Node → ℕ → Type 0
IsRoot nodes c = (i : ℕ) (n : Node) → slice_get nodes i ≡ Some n → Contains n.children c → ⊥

-- the node may be added: its children are there, differ and have no parent, and its count has 32 bits
pub record Fits (nodes : List Node) (n : Node) : Type 0 where
  pub room : length nodes < 2 ^ 32 - 1
  pub below : All (λ c. c < length nodes) n.children
  pub apart : All (IsRoot nodes) n.children
  pub once : AllPairs ◌≢◌ n.children
  pub small : count_with (counts nodes) n < 2 ^ 32

abbrev pub module_at : ℕ → NodeKind → List ℕ
module_at at kind.Module = at ∷ []
module_at at _ = []

abbrev pub modules_from : ℕ → List Node → List ℕ
modules_from at [] = []
modules_from at (n ∷ ns) = module_at at n.kind ++ modules_from (at + 1) ns

-- the numbers of the modules, in order
abbrev pub modules : List Node → List ℕ
modules nodes = modules_from 0 nodes

-- what a tree keeps besides its nodes
pub record IsKept (nodes : List Node) (kept : List ℕ) (module_numbers : List ℕ) : Type 0 where
  pub tree : IsTree nodes
  pub few : length nodes < 2 ^ 32
  pub counts_are : kept ≡ counts nodes
  pub modules_are : module_numbers ≡ modules nodes
