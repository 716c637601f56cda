-- What V4 and V34 show of a routine or cluster that violates neither.
use Rattle.std.specs.Prelude.{Bool, true, false, ℕ, ◌-◌, List, length, slice_get, Option, Some, None, nat_lt, IsTrue, IsFalse}
use Rattle.std.specs.List.{list_any}
use Rattle.std.specs.Str.{bytes_eq}
use Rattle.clu_tree.specs.declared.node.Node.{Node}
use Rattle.clu_tree.specs.declared.node.NodeKind.{NodeKind}
use Rattle.clu_tree.specs.declared.node.NodeKind.TheVariants as kind

-- a name is too long: above 200 bytes
abbrev pub is_long : List ℕ → Bool
is_long name = nat_lt 200 (length name)

-- one of the names is
abbrev pub has_long_name : Node → Bool
has_long_name node = list_any is_long node.names

-- the first and the last name are the same, or there is none
abbrev pub same_names : Option (List ℕ) → Option (List ℕ) → Bool
same_names None None = true
same_names (Some a) (Some b) = bytes_eq a b
same_names _ _ = false

-- the name after `end` is that of the routine or cluster
abbrev pub ends_as_named : Node → Bool
ends_as_named node = same_names (slice_get node.names 0) (slice_get node.names (length node.names - 1))

-- what a module defines
abbrev pub is_definition : NodeKind → Bool
is_definition kind.Routine = true
is_definition kind.Cluster = true
is_definition _ = false

-- the routine or cluster violates neither: none of its names is too long, and its end has its name
pub record IsClosed (node : Node) : Type 0 where
  pub lengths : IsFalse (has_long_name node)
  pub end : IsTrue (ends_as_named node)
