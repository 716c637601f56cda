-- Declarations with their scopes: from which node to which a declared name may be used.
use Rattle.std.specs.Prelude.{◌&&◌, ◌+◌, ◌-◌, ◌^◌, ◌++◌, ◌==◌, min, if◌then◌else◌, Bool, true, false, ℕ, zero, suc, List, [], ◌∷◌, length, map, take, drop, slice_get, Option, Some, None, codes}
use Rattle.std.specs.Str.{bytes_eq}
use Rattle.clu_tree.specs.declared.node.Node.{Node}
use Rattle.clu_tree.specs.declared.node.NodeKind.{NodeKind}
use Rattle.clu_tree.specs.declared.node.NodeKind.TheVariants as kind
use Rattle.clu_syntax.specs.declared.round.Round.{Round}
use Rattle.clu_syntax.specs.Kinds.{is_type, kind_of}
use Rattle.clu_syntax.specs.Rounds.{round_at}
use Rattle.clu_names.specs.declared.scopes.Declared.{Declared}

-- the next number, if it has 32 bits
abbrev pub next : ℕ → ℕ
next n = min (n + 1) (2 ^ 32 - 1)

-- the number after the parent
abbrev pub after : Option ℕ → ℕ
after (Some outer) = next outer
after None = 0

abbrev pub node_at : List Node → Option ℕ → Option Node
node_at nodes (Some n) = slice_get nodes n
node_at nodes None = None

abbrev pub kind_at_parent : List Node → Option ℕ → NodeKind
kind_at_parent nodes outer = kind_of (node_at nodes outer)

-- an argument is in scope after its Decl, the variable of a loop or an arm in the body, any other after the statement
abbrev pub decl_scope : NodeKind → ℕ → Round → ℕ × ℕ
decl_scope kind.Routine n round = (next n, round.body_last)
decl_scope kind.For n round = (round.body_first, round.body_last)
decl_scope kind.When n round = (round.body_first, round.body_last)
decl_scope _ n round = (after round.parent, round.body_last)

abbrev pub routine_scope : NodeKind → Round → Option (ℕ × ℕ)
routine_scope kind.Cluster round = Some (round.body_first, round.body_last)
routine_scope _ round = None

-- the scope of what the node n declares by itself: equates, parameters and the routines of a cluster have all of the
-- body, routine, cluster or module in which they stand; variables what comes after their declaration
abbrev pub scope_of : NodeKind → NodeKind → ℕ → Round → Option (ℕ × ℕ)
scope_of kind.Equate outer n round = Some (round.body_first, round.body_last)
scope_of kind.Parm outer n round = Some (round.body_first, round.body_last)
scope_of kind.Init outer n round = Some (next n, round.body_last)
scope_of kind.Own outer n round = Some (next n, round.body_last)
scope_of kind.Decl outer n round = Some (decl_scope outer n round)
scope_of kind.Routine outer n round = routine_scope outer round
scope_of _ outer n round = None

-- the name of an equate, or the word `rep`
abbrev pub equate_names : List (List ℕ) → List ℕ → List (List ℕ)
equate_names [] value = value ∷ []
equate_names (name ∷ names) value = name ∷ names

abbrev pub own_names : NodeKind → Node → List (List ℕ)
own_names kind.Equate node = equate_names node.names node.value
own_names kind.Routine node = take 1 node.names
own_names _ node = node.names

abbrev pub declared_as : ℕ → Option ℕ → Option (ℕ × ℕ) → List (List ℕ) → List Declared
declared_as n unit (Some scope) names = map (λ name. record { name = name; node = n; from = scope.0; to = scope.1; unit = unit }) names
declared_as n unit None names = []

-- what the node declares by itself
abbrev pub own_at : NodeKind → ℕ → Node → Round → List Declared
own_at outer n node round = declared_as n round.unit (scope_of node.kind outer n round) (own_names node.kind node)

abbrev pub is_stream : List ℕ → Bool
is_stream name = bytes_eq name (codes "stream")

abbrev pub module_named : ℕ → List (List ℕ) → List Declared
module_named n [] = []
module_named n (name ∷ rest) = if is_stream name then [] else record { name = name; node = n; from = 0; to = 4294967295; unit = None } ∷ []

abbrev pub is_module : NodeKind → NodeKind → Bool
is_module kind.Module kind.Routine = true
is_module kind.Module kind.Cluster = true
is_module _ _ = false

-- a module is in scope everywhere; one of the name `stream` is not known by it
abbrev pub module_at : NodeKind → ℕ → Node → List Declared
module_at outer n node = if is_module outer node.kind then module_named n node.names else []

abbrev pub is_first : ℕ → List ℕ → Bool
is_first n [] = false
is_first n (c ∷ rest) = c == n

-- the child of this kind stands before a body, or a type set's inside, for which its parent declares a variable
abbrev pub opens : NodeKind → NodeKind → Bool
opens kind.TypeSet child = true
opens kind.TagArm child = is_type child
opens kind.Others child = is_type child
opens _ child = false

-- the variable of a type set is its first name, that of an arm its last one
abbrev pub variable_names : NodeKind → List (List ℕ) → List (List ℕ)
variable_names kind.TypeSet names = take 1 names
variable_names _ names = drop (length names - 1) names

abbrev pub variable_of : ℕ → NodeKind → Round → Option ℕ → Option Node → List Declared
variable_of n child round (Some p) (Some outer) =
    if opens outer.kind child && is_first n outer.children
    then declared_as p round.unit (Some (round.body_first, round.body_last)) (variable_names outer.kind outer.names)
    else []
variable_of n child round _ _ = []

-- what is declared at a node: the variable of its parent, at the first child; what the node itself declares
abbrev pub declared_at : List Node → List Round → ℕ → Option Node → List Declared
declared_at nodes rounds n (Some node) =
    variable_of n node.kind (round_at rounds n) (round_at rounds n).parent (node_at nodes (round_at rounds n).parent)
    ++ own_at (kind_at_parent nodes (round_at rounds n).parent) n node (round_at rounds n)
    ++ module_at (kind_at_parent nodes (round_at rounds n).parent) n node
declared_at nodes rounds n None = []

unfoldable pub declared_to : List Node → List Round → ℕ → List Declared
declared_to nodes rounds zero = []
declared_to nodes rounds (suc n) = declared_to nodes rounds n ++ declared_at nodes rounds n (slice_get nodes n)

-- all declarations; of two in one body the one that comes first in the text stands first
abbrev pub declarations : List Node → List Round → List Declared
declarations nodes rounds = declared_to nodes rounds (length nodes)
