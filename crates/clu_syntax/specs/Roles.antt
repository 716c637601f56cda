-- What is wanted where a child of a node stands.
use Rattle.std.specs.Prelude.{◌&&◌, if◌then◌else◌, Bool, true, false, ℕ, List, [], ◌∷◌}
use Rattle.clu_tree.specs.declared.node.Node.{Node}
use Rattle.clu_tree.specs.declared.node.NodeKind.{NodeKind}
use Rattle.clu_tree.specs.declared.node.NodeKind.TheVariants as kind
use Rattle.clu_syntax.specs.declared.round.Role.{Role}
use Rattle.clu_syntax.specs.declared.round.Role.TheVariants as role
use Rattle.clu_syntax.specs.Kinds.{is_expression, is_type, kind_at}

-- what the kind of a node alone wants
abbrev pub role_of : NodeKind → Role
role_of k = if is_expression k then role.Object else if is_type k then role.Type else role.Part

abbrev pub role_or : Role → Bool → NodeKind → Role
role_or given is_given k = if is_given then given else role_of k

abbrev pub is_name : NodeKind → Bool
is_name kind.Name = true
is_name _ = false

abbrev pub is_call : NodeKind → Bool
is_call kind.Call = true
is_call _ = false

abbrev pub begins_with_name : List Node → List ℕ → Bool
begins_with_name nodes [] = false
begins_with_name nodes (c ∷ rest) = is_name (kind_at nodes c)

abbrev pub has_no_name : List (List ℕ) → Bool
has_no_name [] = true
has_no_name (name ∷ rest) = false

abbrev pub is_one : List ℕ → Bool
is_one (c ∷ []) = true
is_one _ = false

-- several names before one right side
abbrev pub is_shared : List (List ℕ) → List ℕ → Bool
is_shared (a ∷ b ∷ rest) children = is_one children
is_shared _ children = false

-- a right side and actual parameters want a constant or a type, the call of a loop an iterator; several variables
-- take all results of one call
abbrev pub role_in : NodeKind → List Node → Node → NodeKind → Role
role_in kind.Equate nodes node child = role.Constant
role_in kind.NameT nodes node child = role.Constant
role_in kind.Index nodes node child = role_or role.Instance (begins_with_name nodes node.children) child
role_in kind.CallS nodes node child = role.Results
role_in kind.For nodes node child = role_or role.LoopCall (is_expression child) child
role_in kind.Init nodes node child = role_or role.Results (is_expression child && has_no_name node.names) child
role_in kind.Own nodes node child = role_or role.Results (is_expression child && has_no_name node.names) child
role_in kind.Assign nodes node child = role_or role.Results (is_call child && is_shared node.names node.children) child
role_in _ nodes node child = role_of child
