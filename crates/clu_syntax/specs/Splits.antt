-- How the children and names of a node fall into parts.
use Rattle.std.specs.Prelude.{ℕ, ◌+◌, ◌-◌, if◌then◌else◌, Bool, true, false, List, [], ◌∷◌, length, take, drop, get_or, slice_get, Option, Some, None}
use Rattle.clu_tree.specs.declared.node.Node.{Node}
use Rattle.clu_tree.specs.declared.node.NodeKind.{NodeKind}
use Rattle.clu_tree.specs.declared.node.NodeKind.TheVariants as kind
use Rattle.clu_tree.specs.contracts.node.NodeKind.{the_type}
use Rattle.clu_syntax.specs.Kinds.{is_expression, is_type, kind_at}
use Rattle.clu_syntax.specs.Bodies.{behind_at}
use denote.Enum.Bare.{sameb}

abbrev pub child : ℕ → Node → ℕ
child k node = get_or node.children k 0

abbrev pub last_child : Node → ℕ
last_child node = get_or node.children (length node.children - 1) 0

abbrev pub name_at : ℕ → List (List ℕ) → List ℕ
name_at k names = get_or names k []

abbrev pub first_name : List (List ℕ) → List ℕ
first_name names = name_at 0 names

abbrev pub last_name : List (List ℕ) → List ℕ
last_name names = name_at (length names - 1) names

-- the names before the last
abbrev pub but_last : List (List ℕ) → List (List ℕ)
but_last names = take (length names - 1) names

-- the last of the names, if there are some
abbrev pub last_option : List (List ℕ) → Option (List ℕ)
last_option [] = None
last_option (name ∷ names) = Some (name_at (length names) (name ∷ names))

abbrev pub is_of : NodeKind → NodeKind → Bool
is_of kind other = sameb the_type other kind

-- how many children of this kind a list begins with
unfoldable pub leading : List Node → NodeKind → List ℕ → ℕ
leading nodes kind [] = 0
leading nodes kind (c ∷ cs) = if is_of kind (kind_at nodes c) then leading nodes kind cs + 1 else 0

-- how many types
unfoldable pub leading_types : List Node → List ℕ → ℕ
leading_types nodes [] = 0
leading_types nodes (c ∷ cs) = if is_type (kind_at nodes c) then leading_types nodes cs + 1 else 0

-- how many that are no expressions
unfoldable pub leading_items : List Node → List ℕ → ℕ
leading_items nodes [] = 0
leading_items nodes (c ∷ cs) = if is_expression (kind_at nodes c) then 0 else leading_items nodes cs + 1

-- how many that stand before the value of the node
unfoldable pub leading_before : List Node → Node → List ℕ → ℕ
leading_before nodes node [] = 0
leading_before nodes node (c ∷ cs) = if behind_at node (slice_get nodes c) then 0 else leading_before nodes node cs + 1

-- those of this kind with which the list begins, and those after them
abbrev pub run : List Node → NodeKind → List ℕ → List ℕ
run nodes kind cs = take (leading nodes kind cs) cs

abbrev pub after_run : List Node → NodeKind → List ℕ → List ℕ
after_run nodes kind cs = drop (leading nodes kind cs) cs

abbrev pub children_of : Option Node → List ℕ
children_of (Some node) = node.children
children_of None = []

-- the children of this kind of the first node of the list, if that is one of the other kind: the types of Results, the
-- exceptions of Signals, the restrictions of Where
abbrev pub parts : List Node → NodeKind → List ℕ → List ℕ
parts nodes kind [] = []
parts nodes kind (c ∷ cs) = if is_of kind (kind_at nodes c) then children_of (slice_get nodes c) else []

-- the list without this first node
abbrev pub after_one : List Node → NodeKind → List ℕ → List ℕ
after_one nodes kind [] = []
after_one nodes kind (c ∷ cs) = if is_of kind (kind_at nodes c) then cs else c ∷ cs

-- the first node, if it is one of this kind, or a type
abbrev pub one_of : List Node → NodeKind → List ℕ → Option ℕ
one_of nodes kind [] = None
one_of nodes kind (c ∷ cs) = if is_of kind (kind_at nodes c) then Some c else None

abbrev pub type_of : List Node → List ℕ → Option ℕ
type_of nodes [] = None
type_of nodes (c ∷ cs) = if is_type (kind_at nodes c) then Some c else None

-- what stands after it
abbrev pub after_option : Option ℕ → List ℕ → List ℕ
after_option None cs = cs
after_option (Some c) cs = drop 1 cs
