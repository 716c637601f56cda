-- The other modules that a module's text names: in its leading equates, its heading, its equates and its bodies.
use Rattle.std.specs.Prelude.{ℕ, ◌==◌, ◌&&◌, not, Bool, false, List, [], ◌∷◌, filter, flat_map, bytes_eq, if◌then◌else◌, Option, Some, None}
use Rattle.clu_tree.specs.declared.node.NodeKind.{NodeKind}
use Rattle.clu_tree.specs.declared.node.NodeKind.TheVariants as kind
use Rattle.clu_syntax.specs.Syntax.{Identifier, Module, a_routine, a_cluster}
use Rattle.clu_meaning.specs.Settling.{comes_after}
use Rattle.clu_checking.specs.Files.{File, kind_in, names, below, declared_by, is_of_module}

-- in ascending order, each once
abbrev pub with_name : Identifier → List Identifier → List Identifier
with_name name [] = name ∷ []
with_name name (other ∷ rest) =
    if bytes_eq name other then other ∷ rest else
    if comes_after name other then other ∷ with_name name rest else name ∷ other ∷ rest

abbrev pub ascending : List Identifier → List Identifier
ascending [] = []
ascending (name ∷ rest) = with_name name (ascending rest)

-- the Module, and its Routine or Cluster
abbrev pub module_node : Module → ℕ
module_node (a_routine n es r) = n
module_node (a_cluster n es c) = n

abbrev pub definition_node : Module → ℕ
definition_node (a_routine n es r) = r.node
definition_node (a_cluster n es c) = c.node

abbrev pub is_node : ℕ → Option ℕ → Bool
is_node own (Some n) = n == own
is_node own None = false

module _ (f : File) where
  -- the names at a node that may be those of modules
  abbrev pub names_at : NodeKind → ℕ → List Identifier
  names_at kind.Name n = names f n
  names_at kind.NameT n = names f n
  names_at _ n = []

  -- of the file or of the library, and not the own one
  abbrev pub is_other_module : ℕ → ℕ → Identifier → Bool
  is_other_module own n name = is_of_module f n name && not (is_node own (declared_by f n name))

  abbrev pub named_from : ℕ → ℕ → List Identifier
  named_from own n = filter (is_other_module own n) (names_at (kind_in f n) n)

  abbrev pub modules_named : Module → List Identifier
  modules_named m = ascending (flat_map (named_from (definition_node m)) (below f (module_node m)))
