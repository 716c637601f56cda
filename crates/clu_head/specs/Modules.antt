-- The heads of the modules of a file, while the arena grows, and the tables from which they are made.
use Rattle.std.specs.Prelude.{◌≡◌, ℕ, ◌&&◌, Bool, List, [], ◌∷◌, ◌++◌, drop, length, map, slice_get, Option, Some, None}
use Rattle.std.specs.List.{AllZip}
use Rattle.clu_tree.specs.declared.node.Node.{Node}
use Rattle.clu_tree.specs.declared.node.NodeKind.{NodeKind}
use Rattle.clu_tree.specs.declared.node.NodeKind.TheVariants as kind
use Rattle.clu_tree.specs.Nodes.{modules}
use Rattle.clu_names.specs.declared.scopes.Declared.{Declared}
use Rattle.clu_syntax.specs.declared.modules.Definition.{Definition}
use Rattle.clu_syntax.specs.declared.modules.Definition.TheVariants as defines
use Rattle.clu_syntax.specs.declared.round.Round.{Round}
use Rattle.clu_syntax.specs.Kinds.{kind_at}
use Rattle.clu_syntax.specs.Splits.{but_last, last_child, run, after_run, after_one}
use Rattle.clu_types.specs.Arena.{Grows}
use Rattle.clu_types.specs.declared.spec.ParamKind.{ParamKind}
use Rattle.clu_types.specs.declared.term.TypeId.{TypeId}
use Rattle.clu_types.specs.declared.term.Term.{Term}
use Rattle.clu_settle.specs.declared.parameters.Parameters.{Parameters}
use Rattle.clu_settle.specs.declared.value.Value.{Value}
use Rattle.clu_settle.specs.Parameters.{AreNumbered}
use Rattle.clu_head.specs.declared.asked.Asked.{Asked}
use Rattle.clu_head.specs.declared.head.Demanded.{Demanded}
use Rattle.clu_head.specs.declared.head.RoutineHead.{RoutineHead}
use Rattle.clu_head.specs.declared.head.HeadForm.{HeadForm}
use Rattle.clu_head.specs.declared.head.HeadForm.TheVariants as form
use Rattle.clu_head.specs.declared.head.Head.{Head}
use Rattle.clu_head.specs.declared.heads.Heads.{Heads}
use Rattle.clu_head.specs.declared.known.Known.{Known}
use Rattle.clu_head.specs.Asked.{demands_at, demands_of, demands_to, starts_to}
use Rattle.clu_head.specs.Asking.{untyped}
use Rattle.clu_head.specs.Listed.{listed}
use Rattle.clu_head.specs.OwnTypes.{IsOwnType}
use Rattle.clu_head.specs.ParameterKinds.{kinds_of}
use Rattle.clu_head.specs.Ranks.{before, same, demand_rank, both_asked}
use Rattle.clu_head.specs.Refused.{counts_to}
use Rattle.clu_head.specs.Restricting.{restricted_to}
use Rattle.clu_head.specs.Routines.{name_at, once_if, IsHead, AreListed}
use Rattle.clu_head.specs.Sets.{kept_at, said_of, set_led}
use Rattle.clu_head.specs.There.{is_there}
use Rattle.clu_head.specs.Wanted.{asked_to, AreAsked}

-- ---- the parts of modules

-- what a Module defines, by its last node
abbrev pub definition_of : NodeKind → ℕ → Definition
definition_of kind.Cluster c = defines.Cluster c
definition_of _ c = defines.Routine c

module _ (nodes : List Node) where
  unfoldable pub definition_at : Option Node → Definition
  definition_at (Some node) = definition_of (kind_at nodes (last_child node)) (last_child node)
  definition_at None = defines.Routine 0

  -- it is there
  unfoldable pub is_defined : Definition → Bool
  is_defined (defines.Routine d) = is_there kind.Routine (slice_get nodes d)
  is_defined (defines.Cluster d) = is_there kind.Cluster (slice_get nodes d)

  -- the node n is a Module with what it defines
  unfoldable pub has_head : ℕ → Bool
  has_head n = is_there kind.Module (slice_get nodes n) && is_defined (definition_at (slice_get nodes n))

  -- the Parms of a Routine or a Cluster
  abbrev pub parameters_in : Option Node → List ℕ
  parameters_in (Some node) = run nodes kind.Parm node.children
  parameters_in None = []

  -- the Routines of a Cluster
  abbrev pub routines_in : Option Node → List ℕ
  routines_in (Some node) = run nodes kind.Routine (after_run nodes kind.Own (after_run nodes kind.Equate (after_one nodes kind.Where (after_run nodes kind.Parm node.children))))
  routines_in None = []

abbrev pub exports_in : Option Node → List (List ℕ)
exports_in (Some node) = drop 1 (but_last node.names)
exports_in None = []

-- those of a list that pass a test
abbrev pub among : (ℕ → Bool) → List ℕ → List ℕ
among test [] = []
among test (n ∷ ns) = once_if (test n) n ++ among test ns

-- ---- heads

module _ (k : Known) (asked : Asked) (old new : List Term) where
  -- the kinds of parameters, by an arena between
  unfoldable pub AreKinds : List ℕ → List (Option ParamKind) → Type 0
  AreKinds parameters kinds = (types : List Term) × Grows old types × Grows types new × (kinds ≡ kinds_of types k.values.now k.syntax.now parameters)

  -- the form of a module that is the Routine n
  unfoldable pub IsRoutineForm : ℕ → HeadForm → Type 0
  IsRoutineForm n f = (r : RoutineHead) × (f ≡ form.Routine r) × IsHead k asked None [] old new n r

  -- that of a cluster, the node n, whose type is `own`
  unfoldable pub IsClusterForm : Option TypeId → List (List ℕ) → List ℕ → ℕ → HeadForm → Type 0
  IsClusterForm own exports routines n f =
      (rs : List RoutineHead)
      × (f ≡ form.Cluster (listed (before demand_rank) (same demand_rank) both_asked (demands_of asked.demands.items asked.starts.items n)) rs)
      × AreListed k.syntax.now (IsHead k asked own exports old new) routines rs

  -- the head of a module that is the Routine n
  pub record IsOfRoutine (n : ℕ) (h : Head) : Type 0 where
    pub name : h.name ≡ name_at (slice_get k.syntax.now n)
    pub kinds : AreKinds (parameters_in k.syntax.now (slice_get k.syntax.now n)) h.kinds
    pub form : IsRoutineForm n h.form

-- that of a module that is the Cluster n: when its form is made, its own type stands in the arena
pub record IsOfCluster (k : Known) (asked : Asked) (old new : List Term) (n : ℕ) (h : Head) : Type 0 where
  pub name : h.name ≡ name_at (slice_get k.syntax.now n)
  pub kinds : AreKinds k asked old new (parameters_in k.syntax.now (slice_get k.syntax.now n)) h.kinds
  pub own : Option TypeId
  pub between : List Term
  pub front : Grows old between
  pub behind : Grows between new
  pub of_own : IsOwnType between h.name h.kinds own
  pub form : IsClusterForm k asked between new own (exports_in (slice_get k.syntax.now n)) (routines_in k.syntax.now (slice_get k.syntax.now n)) n h.form

module _ (k : Known) (asked : Asked) (old new : List Term) where
  unfoldable pub IsOfDefinition : Definition → Head → Type 0
  IsOfDefinition (defines.Routine d) h = IsOfRoutine k asked old new d h
  IsOfDefinition (defines.Cluster d) h = IsOfCluster k asked old new d h

  -- the head of the Module n
  unfoldable pub IsOfModule : ℕ → Head → Type 0
  IsOfModule n h = IsOfDefinition (definition_at k.syntax.now (slice_get k.syntax.now n)) h

  -- those of several, in order
  unfoldable pub AreOfModules : List ℕ → List Head → Type 0
  AreOfModules ns hs = AllZip IsOfModule (among (has_head k.syntax.now) ns) hs

-- ---- all of a file

-- what is known of each node, as it is made from the names of a tree, its values and the nodes that are refused
pub record AreKnown (nodes : List Node) (rounds : List Round) (ds : List Declared) (values : List Value) (refused : List Bool) (k : Known) : Type 0 where
  pub tree : k.syntax.now ≡ nodes
  pub round : k.rounds.now ≡ rounds
  pub value : k.values.now ≡ values
  pub counted : k.refused.now ≡ counts_to refused (length refused)
  pub parameters : Parameters
  pub numbered : AreNumbered nodes rounds ds parameters
  pub counts : k.counts.now ≡ parameters.counts.items
  pub sets : List (Option ℕ)
  pub led : (place : ℕ) → kept_at sets place ≡ set_led (said_of nodes ds ds) place
  pub restricted : k.restricted.now ≡ restricted_to nodes ds sets parameters.numbers.items (length nodes)

-- what is asked, and the heads of modules
pub record AreOf (k : Known) (old new : List Term) (heads : Heads) : Type 0 where
  pub starts : heads.asked.starts.items ≡ starts_to (demands_at k.syntax.now k.rounds.now k.counts.now k.restricted.now) (length k.syntax.now)
  pub demands : map untyped heads.asked.demands.items ≡ demands_to (demands_at k.syntax.now k.rounds.now k.counts.now k.restricted.now) (length k.syntax.now)
  pub asked : AreAsked k old new (asked_to k (length k.syntax.now)) heads.asked.demands.items
  pub modules : AreOfModules k heads.asked old new (modules k.syntax.now) heads.modules.items

unfoldable pub AreHeadsOf : List Node → List Round → List Declared → List Value → List Bool → List Term → List Term → Heads → Type 0
AreHeadsOf nodes rounds ds values refused old new heads = (k : Known) × AreKnown nodes rounds ds values refused k × AreOf k old new heads
