-- What nodes of a kind are to the node round them.
use Rattle.std.specs.Prelude.{◌||◌, Bool, true, false, ℕ, List, slice_get, Option, Some, None}
pub use Rattle.clu_grammar.specs.Kinds.{is_expression, is_type}
use Rattle.clu_tree.specs.declared.node.Node.{Node}
use Rattle.clu_tree.specs.declared.node.NodeKind.{NodeKind}
use Rattle.clu_tree.specs.declared.node.NodeKind.TheVariants as kind

-- what stands before a body: conditions, the call and the declarations of a loop, the variables of an arm, and
-- the arms of a Tagcase before its `others`
abbrev pub is_head : NodeKind → Bool
is_head kind.Decl = true
is_head kind.TagArm = true
is_head k = is_expression k || is_type k

-- the arms of an Except
abbrev pub is_arm : NodeKind → Bool
is_arm kind.When = true
is_arm kind.Others = true
is_arm _ = false

-- the kind of a node; what is none counts as a File
abbrev pub kind_of : Option Node → NodeKind
kind_of (Some node) = node.kind
kind_of None = kind.File

abbrev pub kind_at : List Node → ℕ → NodeKind
kind_at nodes n = kind_of (slice_get nodes n)

-- what stands outside of the bodies of its parent
abbrev pub is_outside : NodeKind → Bool
is_outside kind.TagArm = true
is_outside k = is_expression k

-- what of a routine belongs to its heading
abbrev pub is_of_heading : NodeKind → Bool
is_of_heading kind.Parm = true
is_of_heading kind.Decl = true
is_of_heading kind.Results = true
is_of_heading kind.Signals = true
is_of_heading kind.Where = true
is_of_heading _ = false

abbrev pub is_equate : NodeKind → Bool
is_equate kind.Equate = true
is_equate _ = false
