-- What each node declares by itself, by what stands at it and round it; and when that is what the bindings of its file say.
use Rattle.std.specs.Prelude.{◌≡◌, ◌<◌, ◌+◌, ◌-◌, ◌^◌, ◌&&◌, ◌||◌, ◌==◌, ℕ, Bool, true, false, if◌then◌else◌, List, [], ◌∷◌, length, bytes_eq, slice_get, Option, Some, None}
use Rattle.clu_tree.specs.declared.node.Node.{Node}
use Rattle.clu_tree.specs.declared.node.NodeKind.{NodeKind}
use Rattle.clu_tree.specs.declared.node.NodeKind.TheVariants as kind
use Rattle.clu_tree.specs.Nodes.{IsTree}
use Rattle.clu_parser.specs.Order.{IsPostOrder}
use Rattle.clu_parser.specs.Shape.{IsShaped, HaveForms}
use Rattle.clu_parser.specs.Trees.{Text}
use Rattle.clu_syntax.specs.declared.round.Round.{Round}
use Rattle.clu_syntax.specs.Kinds.{kind_at}
use Rattle.clu_syntax.specs.Rounds.{round_at}
use Rattle.clu_syntax.specs.Nodes.{item_at}
use Rattle.clu_syntax.specs.Syntax.{Identifier, TypeExpression, TypeSet, a_type_set, Statement, an_init, Own, own_init, Others, no_others, others, Parameter}
use Rattle.clu_names.specs.declared.scopes.Declared.{Declared}
use Rattle.clu_names.specs.Scopes.{kind_at_parent, declarations}
use Rattle.clu_meaning.specs.Scoping.{Meaning, is_local, is_own_of_routine, is_own_of_cluster, is_routine_of_cluster, is_module, is_type_parameter, Bindings, binding, equate_binding, of_declarations, of_variable, of_names, bound_at}
use Rattle.clu_checking.specs.Files.{parameters_round, variable_number, scope_in}
use Rattle.clu_settle.specs.Parameters.{is_parameter}

-- ---- variables: those of an Own are the routine's in which it stands, or the cluster's

abbrev pub own_variable : Option ℕ → TypeExpression → Meaning
own_variable (Some routine) t = is_own_of_routine t
own_variable None t = is_own_of_cluster t

abbrev pub variable_in : NodeKind → Round → TypeExpression → Meaning
variable_in kind.Own round t = own_variable round.routine t
variable_in _ round t = is_local t

abbrev pub of_initial : Statement → Bindings
of_initial (an_init n x e) = of_variable n is_local (Some x)
of_initial _ = []

abbrev pub of_own_initial : (TypeExpression → Meaning) → Own → Bindings
of_own_initial variable (own_init n x e) = of_variable n variable (Some x)
of_own_initial variable _ = []

abbrev pub of_arm : Others → Bindings
of_arm no_others = []
of_arm (others n x body) = of_variable n is_local x

-- ---- parameters of modules: the number of the first one of the node n, where the first of the list has the number k; a Parm in
-- a routine of a cluster declares none

abbrev pub numbered : ℕ → List Parameter → ℕ → ℕ
numbered k [] n = k
numbered k (p ∷ ps) n = if p.node == n then k else numbered (k + length p.names) ps n

abbrev pub of_parameter : ℕ → Parameter → Bindings
of_parameter k p = of_names p.node p.type k p.names

abbrev pub of_parm : Bool → ℕ → Parameter → Bindings
of_parm true k p = of_parameter k p
of_parm false k p = []

-- ---- routines, which are modules, or those of a cluster

abbrev pub routine_meaning : NodeKind → Meaning
routine_meaning kind.Cluster = is_routine_of_cluster
routine_meaning _ = is_module

abbrev pub of_set_variable : ℕ → ℕ → TypeSet → Bindings
of_set_variable k n (a_type_set m variable asked operations es) = binding n (is_type_parameter k) variable ∷ []

module _ (nodes : List Node) (rounds : List Round) where
  abbrev pub outer_kind : ℕ → NodeKind
  outer_kind n = kind_at_parent nodes (round_at rounds n).parent

  abbrev pub declared_in : NodeKind → ℕ → Bindings
  declared_in kind.Equate n = equate_binding (item_at nodes n).equate ∷ []
  declared_in kind.Parm n = of_parm (is_parameter nodes rounds n) (numbered 1 (parameters_round nodes (round_at rounds n).unit) n) (item_at nodes n).parameter
  declared_in kind.TypeSet n = of_set_variable (variable_number nodes rounds n) n (item_at nodes n).type_set
  declared_in kind.Decl n = of_declarations (variable_in (outer_kind n) (round_at rounds n)) ((item_at nodes n).declaration ∷ [])
  declared_in kind.Init n = of_initial (item_at nodes n).statement
  declared_in kind.Own n = of_own_initial (own_variable (round_at rounds n).routine) (item_at nodes n).own
  declared_in kind.TagArm n = of_variable n is_local (item_at nodes n).tag_arm.variable
  declared_in kind.Others n = of_arm (item_at nodes n).others
  declared_in kind.Routine n = binding n (routine_meaning (outer_kind n)) (item_at nodes n).routine.name ∷ []
  declared_in kind.Cluster n = binding n is_module (item_at nodes n).cluster.name ∷ []
  declared_in _ n = []

  -- what the node n declares by itself
  abbrev pub declared_by : ℕ → Bindings
  declared_by n = declared_in (kind_at nodes n) n

-- a binding of this node and name is there
abbrev pub has : Bindings → ℕ → Identifier → Bool
has [] n name = false
has (b ∷ bs) n name = (b.node == n && bytes_eq b.name name) || has bs n name

-- the binding of the declaration is there, and is what its node says
pub record IsSaid (nodes : List Node) (rounds : List Round) (d : Declared) : Type 0 where
  pub there : has (scope_in nodes rounds).bindings d.node d.name ≡ true
  pub said : bound_at (scope_in nodes rounds).bindings d.node d.name ≡ bound_at (declared_by nodes rounds d.node) d.node d.name

-- so few nodes and declarations that 32 bits count them, so that each parameter has a number
abbrev pub AreFew : List Node → List Round → Type 0
AreFew nodes rounds = length nodes + length (declarations nodes rounds) < 2 ^ 32

-- the tree of a text
pub record IsParsed (t : Text) (nodes : List Node) : Type 0 where
  pub tree : IsTree nodes
  pub order : IsPostOrder nodes
  pub file : (root : Node) × (slice_get nodes (length nodes - 1) ≡ Some root) × (root.kind ≡ kind.File)
  pub shape : IsShaped t nodes
  pub forms : HaveForms nodes
