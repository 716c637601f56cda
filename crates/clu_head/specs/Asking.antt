-- Who asks by which Opers, of each Routine, Cluster and TypeSet, in the order of the text; and what that is, but for the types
-- of operations.
use Rattle.std.specs.Prelude.{ℕ, ◌+◌, min, if◌then◌else◌, List, [], ◌∷◌, ◌++◌, map, slice_get, is_some, Option, Some, None}
use Rattle.clu_tree.specs.declared.node.Node.{Node}
use Rattle.clu_tree.specs.declared.node.NodeKind.TheVariants as kind
use Rattle.clu_syntax.specs.declared.round.Round.{Round}
use Rattle.clu_syntax.specs.Splits.{run, after_run, parts, after_one, one_of}
use Rattle.clu_types.specs.declared.term.TypeId.{TypeId}
use Rattle.clu_head.specs.declared.head.Demanded.{Demanded}
use Rattle.clu_head.specs.declared.restricted.Restricted.{Restricted}
use Rattle.clu_head.specs.declared.clauses.InSet.{InSet}
use Rattle.clu_head.specs.declared.clauses.Asking.{Asking}
use Rattle.clu_head.specs.There.{is_there}

-- ---- the parts of nodes

module _ (nodes : List Node) where
  -- the Opers of a TypeSet
  abbrev pub opers_of : Node → List ℕ
  opers_of node = run nodes kind.Oper node.children

  abbrev pub opers_in : Option Node → List ℕ
  opers_in (Some node) = opers_of node
  opers_in None = []

  unfoldable pub set_operations : Option Node → List ℕ
  set_operations its = if is_there kind.TypeSet its then opers_in its else []

  -- those of a Restrict that names no set
  abbrev pub operations_by : List (List ℕ) → Option ℕ → List ℕ → List ℕ
  operations_by names (Some c) opers = []
  operations_by (a ∷ b ∷ names) None opers = []
  operations_by names None opers = opers

  abbrev pub operations_had : Option Node → List ℕ
  operations_had (Some node) = operations_by node.names (one_of nodes kind.TypeSet node.children) (opers_of node)
  operations_had None = []

  unfoldable pub had_operations : Option Node → List ℕ
  had_operations its = if is_there kind.Restrict its then operations_had its else []

  -- the Restricts of a Routine and of a Cluster
  abbrev pub restricts_in : List ℕ → List ℕ
  restricts_in rest = run nodes kind.Restrict (parts nodes kind.Where rest)

  abbrev pub routine_restrictions : Option Node → List ℕ
  routine_restrictions (Some node) = restricts_in (after_one nodes kind.Signals (after_one nodes kind.Results (after_run nodes kind.Decl (after_run nodes kind.Parm node.children))))
  routine_restrictions None = []

  abbrev pub cluster_restrictions : Option Node → List ℕ
  cluster_restrictions (Some node) = restricts_in (after_run nodes kind.Parm node.children)
  cluster_restrictions None = []

  unfoldable pub restrictions_in : Option Node → List ℕ
  restrictions_in its = if is_there kind.Routine its then routine_restrictions its else if is_there kind.Cluster its then cluster_restrictions its else []

-- ---- who asks

abbrev pub no_restriction : Restricted
no_restriction = record { parameter = None; set = None }

abbrev pub restricted_in : Option Restricted → Restricted
restricted_in (Some r) = r
restricted_in None = no_restriction

abbrev pub count_in : Option ℕ → ℕ
count_in (Some count) = count
count_in None = 0

abbrev pub count_of : List ℕ → Option ℕ → ℕ
count_of counts (Some unit) = count_in (slice_get counts unit)
count_of counts None = 0

abbrev pub unit_in : Option Round → Option ℕ
unit_in (Some round) = round.unit
unit_in None = None

-- the number of the variable of the type set n: it is a parameter after those of its module
unfoldable pub variable_of : List ℕ → List Round → ℕ → ℕ
variable_of counts rounds n = min (min (n + 1) 4294967295 + count_of counts (unit_in (slice_get rounds n))) 4294967295

abbrev pub asked_by_opers : ℕ → Option InSet → List ℕ → List Asking
asked_by_opers parameter set opers = map (λ oper. record { oper = oper; parameter = parameter; set = set }) opers

module _ (nodes : List Node) (rounds : List Round) (counts : List ℕ) where
  -- by a Restrict, whose parameter and set are these
  unfoldable pub asked_of_parameter : ℕ → ℕ → Option ℕ → List Asking
  asked_of_parameter n parameter (Some set) = asked_by_opers parameter (Some (record { node = n; variable = variable_of counts rounds set })) (set_operations nodes (slice_get nodes set))
  asked_of_parameter n parameter None = asked_by_opers parameter None (had_operations nodes (slice_get nodes n))

  abbrev pub asked_by_parts : ℕ → Option ℕ → Option ℕ → List Asking
  asked_by_parts n (Some parameter) set = asked_of_parameter n parameter set
  asked_by_parts n None set = []

  module _ (restricted : List Restricted) where
    unfoldable pub asked_by_restriction : ℕ → List Asking
    asked_by_restriction n = asked_by_parts n (restricted_in (slice_get restricted n)).parameter (restricted_in (slice_get restricted n)).set

    abbrev pub asked_by_restrictions : List ℕ → List Asking
    asked_by_restrictions [] = []
    asked_by_restrictions (n ∷ ns) = asked_by_restriction n ++ asked_by_restrictions ns

    -- of a TypeSet of its own variable, of a Routine and a Cluster by their restrictions
    unfoldable pub asked_at : ℕ → List Asking
    asked_at n = asked_by_opers (variable_of counts rounds n) None (set_operations nodes (slice_get nodes n)) ++ asked_by_restrictions (restrictions_in nodes (slice_get nodes n))

-- ---- what is asked, but for types

unfoldable pub untyped : Demanded → Demanded
untyped d = record d { wanted = None }

-- the node that asks
abbrev pub asking_node : ℕ → Option InSet → ℕ
asking_node oper (Some set) = set.node
asking_node oper None = oper

unfoldable pub demanded : Asking → Option TypeId → List ℕ → Demanded
demanded a wanted name = record { node = asking_node a.oper a.set; parameter = a.parameter; operation = name; wanted = wanted; in_set = is_some a.set }

abbrev pub demanded_by : Asking → Option TypeId → List (List ℕ) → List Demanded
demanded_by a wanted names = map (demanded a wanted) names

module _ (nodes : List Node) where
  abbrev pub names_in : Option Node → List (List ℕ)
  names_in (Some node) = node.names
  names_in None = []

  unfoldable pub demands_by : Asking → List Demanded
  demands_by a = if is_there kind.Oper (slice_get nodes a.oper) then demanded_by a None (names_in (slice_get nodes a.oper)) else []

  unfoldable pub demands_by_all : List Asking → List Demanded
  demands_by_all [] = []
  demands_by_all (a ∷ more) = demands_by a ++ demands_by_all more
