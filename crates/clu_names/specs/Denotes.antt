-- The declaration that a name denotes at a node.
use Rattle.std.specs.Prelude.{◌&&◌, ◌+◌, ◌++◌, nat_lt, nat_le, if◌then◌else◌, Bool, true, ℕ, zero, suc, List, [], ◌∷◌, length, map, slice_get, Option, Some, None, codes}
use Rattle.std.specs.Str.{bytes_eq}
use Rattle.clu_tree.specs.declared.node.Node.{Node}
use Rattle.clu_tree.specs.declared.node.NodeKind.{NodeKind}
use Rattle.clu_tree.specs.declared.node.NodeKind.TheVariants as kind
use Rattle.clu_names.specs.declared.scopes.Declared.{Declared}
use Rattle.clu_names.specs.Scopes.{equate_names}

-- the node stands in the scope of a declaration; in that of a module stands every node
abbrev pub stands_in : Option ℕ → ℕ → ℕ → ℕ → Bool
stands_in None from to n = true
stands_in (Some unit) from to n = nat_le from n && nat_le n to

abbrev pub is_open : List ℕ → ℕ → Declared → Bool
is_open name n d = bytes_eq d.name name && stands_in d.unit d.from d.to n

-- how far out a declaration stands: further, the later its scope ends. A module is hidden by all that a text declares
abbrev pub rank_of : Option ℕ → ℕ → ℕ
rank_of None to = 0
rank_of (Some unit) to = to + 1

abbrev pub rank : Declared → ℕ
rank d = rank_of d.unit d.to

-- the place of a declaration in the list, with its rank
abbrev pub outranks : ℕ → Option (ℕ × ℕ) → Bool
outranks rank None = true
outranks rank (Some best) = nat_lt best.1 rank

-- the first of the declarations of the highest rank among those that pass the test, where k is the place of the first
abbrev pub best_from : (Declared → Bool) → Option (ℕ × ℕ) → ℕ → List Declared → Option (ℕ × ℕ)
best_from test best k [] = best
best_from test best k (d ∷ ds) = best_from test (if test d && outranks (rank d) best then Some (k, rank d) else best) (suc k) ds

abbrev pub place_of : Option (ℕ × ℕ) → Option ℕ
place_of None = None
place_of (Some best) = Some best.0

-- what a name denotes at a node: of its declarations in whose scope the node stands, the one that stands furthest out
-- in the module; of several in one body, the first; and if the module declares no such name, the first module of it
abbrev pub found : List Declared → List ℕ → ℕ → Option ℕ
found ds name n = place_of (best_from (is_open name n) None 0 ds)

-- `rep` is the one word among the types that an equate defines
abbrev pub is_rep : List ℕ → Bool
is_rep word = bytes_eq word (codes "rep")

abbrev pub rep_names : List ℕ → List (List ℕ)
rep_names word = if is_rep word then word ∷ [] else []

-- the names of a node that are names of declarations: those that it uses, and those that it declares
abbrev pub names_in : NodeKind → Node → List (List ℕ)
names_in kind.Simple node = rep_names node.value
names_in kind.Equate node = equate_names node.names node.value
names_in kind.Routine node = node.names
names_in kind.Parm node = node.names
names_in kind.Restrict node = node.names
names_in kind.TypeSet node = node.names
names_in kind.Own node = node.names
names_in kind.Decl node = node.names
names_in kind.NameT node = node.names
names_in kind.Init node = node.names
names_in kind.Assign node = node.names
names_in kind.For node = node.names
names_in kind.TagArm node = node.names
names_in kind.Others node = node.names
names_in kind.Name node = node.names
names_in _ node = []

-- what the names of a node denote
abbrev pub bound_at : List Declared → ℕ → Option Node → List (Option ℕ)
bound_at ds n (Some node) = map (λ name. found ds name n) (names_in node.kind node)
bound_at ds n None = []

-- what the names of the first n nodes denote, one after the other
unfoldable pub bound_to : List Node → List Declared → ℕ → List (Option ℕ)
bound_to nodes ds zero = []
bound_to nodes ds (suc n) = bound_to nodes ds n ++ bound_at ds n (slice_get nodes n)

-- where the names of each of the first n nodes begin in that list
unfoldable pub starts_to : List Node → List Declared → ℕ → List ℕ
starts_to nodes ds zero = []
starts_to nodes ds (suc n) = starts_to nodes ds n ++ length (bound_to nodes ds n) ∷ []

abbrev pub end_in : Option ℕ → ℕ → ℕ
end_in (Some end) all = end
end_in None all = all

-- where the names of the node n end, by where those of each node begin; all together are `all`
abbrev pub end_of : List ℕ → ℕ → ℕ → ℕ
end_of starts all n = end_in (slice_get starts (n + 1)) all
