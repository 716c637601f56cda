-- What the grammar says of the word `rep` in the tree of a text.
use Rattle.std.specs.Prelude.{◌≡◌, ℕ, true, false, List, slice_get, Some}
use Rattle.std.specs.List.{list_any}
use Rattle.clu_tree.specs.declared.node.Node.{Node}
use Rattle.clu_tree.specs.declared.node.NodeKind.TheVariants as kind
use Rattle.clu_syntax.specs.Roles.{has_no_name}
use Rattle.clu_names.specs.Denotes.{is_rep}
use Rattle.clu_passes.specs.Notes.{has}

-- it is reserved, so no name; and an equate without a name, which is one of `rep`, stands in a cluster
pub record HaveReps (nodes : List Node) : Type 0 where
  pub reserved : (n : ℕ) (node : Node) → slice_get nodes n ≡ Some node → list_any is_rep node.names ≡ false
  pub clusters : (p : ℕ) (outer : Node) → slice_get nodes p ≡ Some outer → (n : ℕ) (node : Node) → has n outer.children ≡ true → slice_get nodes n ≡ Some node → node.kind ≡ kind.Equate → has_no_name node.names ≡ true → outer.kind ≡ kind.Cluster
