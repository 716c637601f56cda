-- The names of a tree, each once, and their numbers.
use Rattle.std.specs.Prelude.{ℕ, zero, suc, List, [], ◌∷◌, ◌++◌, slice_get, length, position, unwrap_or, bytes_eq, if◌then◌else◌, Option}
use Rattle.std.specs.List.{list_any}
use Rattle.clu_tree.specs.declared.node.Node.{Node}
use Rattle.clu_settle.specs.Names.{names_of}

-- the place of a name among all
abbrev pub place_of : List (List ℕ) → List ℕ → Option ℕ
place_of all name = position (bytes_eq name) all

-- its number; behind all others if it is not there
abbrev pub number_of : List (List ℕ) → List ℕ → ℕ
number_of all name = unwrap_or (place_of all name) (length all)

abbrev pub with_name : List (List ℕ) → List ℕ → List (List ℕ)
with_name all name = if list_any (bytes_eq name) all then all else all ++ name ∷ []

abbrev pub with_names : List (List ℕ) → List (List ℕ) → List (List ℕ)
with_names all [] = all
with_names all (name ∷ names) = with_names (with_name all name) names

-- those of the first n nodes
abbrev pub words_to : List Node → ℕ → List (List ℕ)
words_to nodes zero = []
words_to nodes (suc n) = with_names (words_to nodes n) (names_of (slice_get nodes n))
