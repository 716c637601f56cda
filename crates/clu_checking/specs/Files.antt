-- A file as it is checked: the nodes of its tree, what surrounds them, its declarations, and the specifications of a
-- library. What stands at a node, and what a name denotes there.
use Rattle.std.specs.Prelude.{ℕ, suc, ◌+◌, ◌-◌, ◌&&◌, ◌||◌, not, nat_le, Bool, true, false, List, [], ◌∷◌, ◌++◌, length, slice_get, filter, flat_map, is_some, bytes_eq, if◌then◌else◌, Option, Some, None}
use Rattle.std.specs.List.{list_any, range_with_len}
use Rattle.clu_tree.specs.declared.node.Node.{Node}
use Rattle.clu_tree.specs.declared.node.NodeKind.{NodeKind}
use Rattle.clu_tree.specs.declared.node.NodeKind.TheVariants as kind
use Rattle.clu_syntax.specs.declared.round.Round.{Round}
use Rattle.clu_syntax.specs.Kinds.{kind_at}
use Rattle.clu_syntax.specs.Splits.{is_of}
use Rattle.clu_syntax.specs.Rounds.{round_at}
use Rattle.clu_syntax.specs.Items.{Item}
use Rattle.clu_syntax.specs.Nodes.{item_at, file_of}
use Rattle.clu_syntax.specs.Syntax.{Identifier, Parameter, TypeSet, a_type_set, Routine, Cluster, Module, a_routine, a_cluster}
use Rattle.clu_names.specs.declared.scopes.Declared.{Declared}
use Rattle.clu_names.specs.Scopes.{declarations, is_stream}
use Rattle.clu_names.specs.Denotes.{found}
use Rattle.clu_meaning.specs.Scoping.{Meaning, is_type_parameter, is_module, Bindings, binding, of_equates, of_modules, parameter_number, Scope, meaning_of, declaration_at}
use Rattle.clu_checking.specs.Specifications.{Specification, specification_in}

pub record File : Type 0 where
  pub nodes : List Node
  pub rounds : List Round
  -- the declarations, and what each of them declares
  pub scope : Scope
  pub library : List Specification
  -- the nodes by which a type is refused where it stands
  pub refused : List ℕ

abbrev pub numbers : List Node → List ℕ
numbers nodes = range_with_len 0 (length nodes)

-- ---- modules

abbrev pub module_name : Module → Identifier
module_name (a_routine n es r) = r.name
module_name (a_cluster n es c) = c.name

-- ---- parameters

abbrev pub parameters_in : Module → List Parameter
parameters_in (a_routine n es r) = r.parameters
parameters_in (a_cluster n es c) = c.parameters

abbrev pub parameters_round : List Node → Option ℕ → List Parameter
parameters_round nodes (Some unit) = parameters_in (item_at nodes unit).module_
parameters_round nodes None = []

-- ---- type sets: the variable of a set is a parameter after those of its module, of a number that no other set has

abbrev pub variable_number : List Node → List Round → ℕ → ℕ
variable_number nodes rounds n = suc n + parameter_number (parameters_round nodes (round_at rounds n).unit)

abbrev pub of_type_set : ℕ → TypeSet → Bindings
of_type_set k (a_type_set n variable asked operations equates) = binding n (is_type_parameter k) variable ∷ of_equates equates

abbrev pub is_type_set_node : List Node → ℕ → Bool
is_type_set_node nodes n = is_of kind.TypeSet (kind_at nodes n)

abbrev pub type_sets : List Node → List ℕ
type_sets nodes = filter (is_type_set_node nodes) (numbers nodes)

abbrev pub of_type_sets : List Node → List Round → Bindings
of_type_sets nodes rounds = flat_map (λ n. of_type_set (variable_number nodes rounds n) (item_at nodes n).type_set) (type_sets nodes)

-- ---- the file of a tree

abbrev pub scope_in : List Node → List Round → Scope
scope_in nodes rounds = record { declarations = declarations nodes rounds; bindings = of_modules (file_of nodes) ++ of_type_sets nodes rounds }

-- one in which no type is refused
abbrev pub plain_file : List Node → List Round → List Specification → File
plain_file nodes rounds library = record { nodes = nodes; rounds = rounds; scope = scope_in nodes rounds; library = library; refused = [] }

module _ (f : File) where
  -- ---- what stands at a node, and round it

  abbrev pub item : ℕ → Item
  item n = item_at f.nodes n

  abbrev pub kind_in : ℕ → NodeKind
  kind_in n = kind_at f.nodes n

  abbrev pub is_kind : NodeKind → ℕ → Bool
  is_kind k n = is_of k (kind_in n)

  abbrev pub round : ℕ → Round
  round n = round_at f.rounds n

  abbrev pub is_kind_at : NodeKind → Option ℕ → Bool
  is_kind_at k (Some n) = is_kind k n
  is_kind_at k None = false

  abbrev pub parent : ℕ → Option ℕ
  parent n = (round n).parent

  abbrev pub parent_of : Option ℕ → Option ℕ
  parent_of (Some n) = parent n
  parent_of None = None

  -- the parent is of this kind
  abbrev pub stands_in : NodeKind → ℕ → Bool
  stands_in k n = is_kind_at k (parent n)

  abbrev pub node_children : Option Node → List ℕ
  node_children (Some node) = node.children
  node_children None = []

  abbrev pub children : ℕ → List ℕ
  children n = node_children (slice_get f.nodes n)

  abbrev pub children_at : Option ℕ → List ℕ
  children_at (Some n) = children n
  children_at None = []

  abbrev pub node_names : Option Node → List Identifier
  node_names (Some node) = node.names
  node_names None = []

  abbrev pub names : ℕ → List Identifier
  names n = node_names (slice_get f.nodes n)

  -- the nodes below a node, itself too: nodes come after their children
  abbrev pub below : ℕ → List ℕ
  below n = range_with_len (round n).first (suc n - (round n).first)

  abbrev pub stands_below : ℕ → ℕ → Bool
  stands_below n top = nat_le (round top).first n && nat_le n top

  -- a node by which a type is refused stands at or below this one
  abbrev pub is_refused : ℕ → Bool
  is_refused top = list_any (λ n. stands_below n top) f.refused

  abbrev pub is_refused_at : Option ℕ → Bool
  is_refused_at (Some n) = is_refused n
  is_refused_at None = false

  abbrev pub routine_at : Option ℕ → Option Routine
  routine_at (Some n) = Some (item n).routine
  routine_at None = None

  abbrev pub cluster_at : Option ℕ → Option Cluster
  cluster_at (Some n) = Some (item n).cluster
  cluster_at None = None

  abbrev pub routine_round : ℕ → Option Routine
  routine_round n = routine_at (round n).routine

  abbrev pub cluster_round : ℕ → Option Cluster
  cluster_round n = cluster_at (round n).cluster

  -- ---- names

  abbrev pub declaration : ℕ → Identifier → Option Declared
  declaration n name = declaration_at f.scope (found f.scope.declarations name n)

  abbrev pub is_kept : Identifier → Bool
  is_kept name = is_some (specification_in f.library name)

  -- a name of the file, of the library, or the type stream
  abbrev pub is_known : ℕ → Identifier → Bool
  is_known n name = is_some (declaration n name) || is_kept name || is_stream name

  abbrev pub meaning : ℕ → Identifier → Meaning
  meaning n name = meaning_of f.scope n name

  abbrev pub denotes_module : Meaning → Bool
  denotes_module is_module = true
  denotes_module _ = false

  -- the file has a module of this name
  abbrev pub is_own_module : Identifier → Bool
  is_own_module name = list_any (λ m. bytes_eq (module_name m) name) (file_of f.nodes)

  -- a module of the file or of the library; the type stream is none
  abbrev pub is_of_module : ℕ → Identifier → Bool
  is_of_module n name = denotes_module (meaning n name) && not (is_stream name) && (is_own_module name || is_kept name)

  abbrev pub declaring_node : Option Declared → Option ℕ
  declaring_node (Some d) = Some d.node
  declaring_node None = None

  -- the node that declares a name
  abbrev pub declared_by : ℕ → Identifier → Option ℕ
  declared_by n name = declaring_node (declaration n name)

  -- the Equate that a name denotes
  abbrev pub equate_of : Option ℕ → Option ℕ
  equate_of (Some n) = if is_kind kind.Equate n then Some n else None
  equate_of None = None

  abbrev pub equate_named : ℕ → Identifier → Option ℕ
  equate_named n name = equate_of (declared_by n name)
