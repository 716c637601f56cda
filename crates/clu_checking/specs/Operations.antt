-- The operations that a type has at a node, and when what is asked of a type is met.
use Rattle.std.specs.Prelude.{ℕ, ◌-◌, ◌==◌, ◌&&◌, Bool, true, false, List, [], ◌∷◌, ◌++◌, map, flat_map, filter, find, bytes_eq, if◌then◌else◌, Option, Some, None}
use Rattle.std.specs.List.{list_all, list_any}
use Rattle.std.specs.Option.{option_map}
use Rattle.clu_types.specs.CluType.{CluType, array_of, sequence_of, record_of, struct_of, oneof_of, variant_of, proc_of, iter_of, cluster_of, parameter, Fields, no_fields, field_and, Actuals, no_actuals, actual_type, actual_const, actual_param}
use Rattle.clu_types.specs.Substituted.{substituted, type_put}
use Rattle.clu_builtin.specs.Operation.{Needed, Operation}
use Rattle.clu_builtin.specs.Table.{operation}
use Rattle.clu_layout.specs.SameType.{same_type, fits}
use Rattle.clu_syntax.specs.Syntax.{Identifier, TypeSet, Routine, Cluster}
use Rattle.clu_checking.specs.Specifications.{Demand, Heading, Specification, heading_named, operations_of}
use Rattle.clu_checking.specs.Files.{File, item, routine_round, cluster_round, stands_below, type_sets, variable_number}
use Rattle.clu_checking.specs.Equates.{asked_by_set, demands_in}
use Rattle.clu_checking.specs.Headings.{routines_of, specification}

-- what is asked: that the type has an operation of this name, whose type is included in the wanted one, and that what
-- this operation asks is met in its turn
pub record Asked : Type 0 where
  pub of : CluType
  pub operation : Identifier
  pub wanted : CluType
  pub in_set : Bool

-- an operation that was found: its type, unless that is refused where it is declared, and what it asks
pub record Found : Type 0 where
  pub type : Option CluType
  pub asks : List Asked

-- ---- what is given of type parameters

abbrev pub is_given : ℕ → Identifier → Demand → Bool
is_given k name d = d.parameter == k && bytes_eq d.operation name

-- of two headings of one name the first counts
abbrev pub given_of : List Demand → ℕ → Identifier → Option Demand
given_of given k name = find (is_given k name) given

-- ---- built-in operations

abbrev pub builtin_type : Bool → Operation → CluType
builtin_type true op = iter_of op.args op.results op.signals
builtin_type false op = proc_of op.args op.results op.signals

abbrev pub needed : Needed → Asked
needed n = record { of = n.of; operation = n.op; wanted = n.wanted; in_set = false }

abbrev pub builtin_found : Operation → Found
builtin_found op = record { type = Some (builtin_type op.iter op); asks = map needed op.needs }

-- ---- what a routine asks of the actuals for its parameters

abbrev pub asked_as : Actuals → Demand → Option CluType → List Asked
asked_as given d (Some wanted) = record { of = type_put given d.parameter; operation = d.operation; wanted = substituted given wanted; in_set = d.in_set } ∷ []
asked_as given d None = []

-- a demand with a type that is refused asks nothing
abbrev pub demanded : Actuals → Demand → List Asked
demanded given d = asked_as given d d.wanted

abbrev pub routine_found : Actuals → Heading → Found
routine_found given h = record { type = option_map (substituted given) h.type; asks = flat_map (demanded given) h.demands }

-- ---- what is met

abbrev pub are_met_by : (CluType → Identifier → CluType → Bool) → List Needed → Bool
are_met_by test needs = list_all (λ n. test n.of n.op n.wanted) needs

-- a built-in operation, by a test for its parts: whether one has an operation of this name and wanted type
abbrev pub is_met_by : (CluType → Identifier → CluType → Bool) → CluType → Option Operation → Bool
is_met_by test wanted (Some op) = fits (builtin_type op.iter op) wanted && are_met_by test op.needs
is_met_by test wanted None = false

-- a type that is refused where it is declared fits all
abbrev pub may_fit : Option CluType → CluType → Bool
may_fit (Some t) wanted = fits t wanted
may_fit None wanted = true

abbrev pub is_put_met : (ℕ → Identifier → CluType → Bool) → Actuals → Demand → Option CluType → Bool
is_put_met test given d (Some wanted) = test d.parameter d.operation (substituted given wanted)
is_put_met test given d None = true

-- an operation of a cluster with these actuals, by a test for the actual of each number
abbrev pub is_met_in : (ℕ → Identifier → CluType → Bool) → Actuals → CluType → Option Heading → Bool
is_met_in test given wanted (Some h) = may_fit (option_map (substituted given) h.type) wanted && list_all (λ d. is_put_met test given d d.wanted) h.demands
is_met_in test given wanted None = false

abbrev pub exported_operation : Identifier → Option Specification → Option Heading
exported_operation name (Some s) = heading_named (operations_of s.form) name
exported_operation name None = None

abbrev pub is_included : CluType → Option Demand → Bool
is_included wanted (Some d) = may_fit d.wanted wanted
is_included wanted None = false

-- of several where clauses one is enough
abbrev pub is_given_by : List (List Demand) → ℕ → Identifier → CluType → Bool
is_given_by clauses k name wanted = list_any (λ given. is_included wanted (given_of given k name)) clauses

module _ (clauses : List (List Demand)) (specified : Identifier → Option Specification) where
  abbrev mutual
    -- the type has an operation of this name, whose type is included in the wanted one, and what that asks is met; of a
    -- cluster its exported operations count alone
    pub meets : CluType → Identifier → CluType → Bool
    meets (array_of t) name wanted = is_met_by (λ of op w. meets t op w) wanted (operation (array_of t) name)
    meets (sequence_of t) name wanted = is_met_by (λ of op w. meets t op w) wanted (operation (sequence_of t) name)
    meets (record_of fs) name wanted = is_met_by (part_meets fs) wanted (operation (record_of fs) name)
    meets (struct_of fs) name wanted = is_met_by (part_meets fs) wanted (operation (struct_of fs) name)
    meets (oneof_of fs) name wanted = is_met_by (part_meets fs) wanted (operation (oneof_of fs) name)
    meets (variant_of fs) name wanted = is_met_by (part_meets fs) wanted (operation (variant_of fs) name)
    meets (cluster_of c actuals) name wanted = is_met_in (λ k op w. actual_meets actuals k (is_given_by clauses k op w) op w) actuals wanted (exported_operation name (specified c))
    meets (parameter k) name wanted = is_given_by clauses k name wanted
    meets t name wanted = is_met_by (λ of op w. true) wanted (operation t name)

    -- the component of this type
    pub part_meets : Fields → CluType → Identifier → CluType → Bool
    part_meets no_fields of name wanted = false
    part_meets (field_and selector t fs) of name wanted = if same_type t of then meets t name wanted else part_meets fs of name wanted

    -- the actual of this number, from 1; a type parameter that has no type for its actual stays, and counts by what is given of it
    pub actual_meets : Actuals → ℕ → Bool → Identifier → CluType → Bool
    actual_meets no_actuals k stays name wanted = stays
    actual_meets (actual_type t rest) k stays name wanted = if k == 1 then meets t name wanted else actual_meets rest (k - 1) stays name wanted
    actual_meets (actual_const c rest) k stays name wanted = actual_meets rest (k - 1) stays name wanted
    actual_meets (actual_param p rest) k stays name wanted = actual_meets rest (k - 1) stays name wanted

module _ (f : File) where
  -- ---- what where clauses give at a node: those of the routine before those of the cluster; and inside a type set, what
  -- the set asks

  abbrev pub given_by_set : ℕ → TypeSet → List Demand
  given_by_set n set = asked_by_set f (variable_number f.nodes f.rounds n) set

  abbrev pub sets_round : ℕ → List ℕ
  sets_round n = filter (stands_below f n) (type_sets f.nodes)

  abbrev pub given_by_sets : ℕ → List Demand
  given_by_sets n = flat_map (λ s. given_by_set s (item f s).type_set) (sets_round n)

  abbrev pub given_by_routine : Option Routine → List Demand
  given_by_routine (Some r) = demands_in f r.restrictions
  given_by_routine None = []

  abbrev pub given_by_cluster : Option Cluster → List Demand
  given_by_cluster (Some c) = demands_in f c.restrictions
  given_by_cluster None = []

  abbrev pub given_at : ℕ → List Demand
  given_at n = given_by_routine (routine_round f n) ++ given_by_cluster (cluster_round f n) ++ given_by_sets n

  -- the same by the clauses, each of which may meet what is asked
  abbrev pub where_at : ℕ → List (List Demand)
  where_at n = given_by_routine (routine_round f n) ∷ given_by_cluster (cluster_round f n) ∷ given_by_sets n ∷ []

  abbrev pub is_met : ℕ → Asked → Bool
  is_met n a = meets (where_at n) (specification f) a.of a.operation a.wanted

  -- ---- the operations of a type at a node

  abbrev pub exported_headings : Option Specification → List Heading
  exported_headings (Some s) = operations_of s.form
  exported_headings None = []

  -- inside a cluster all its routines count
  abbrev pub headings_seen : Identifier → Option Cluster → List Heading
  headings_seen name (Some c) = if bytes_eq c.name name then routines_of f c else exported_headings (specification f name)
  headings_seen name None = exported_headings (specification f name)

  abbrev pub given_found : Demand → Found
  given_found d = record { type = d.wanted; asks = [] }

  -- the operation of this name that the type has for sugar and for `t$op`
  abbrev pub operation_found : ℕ → CluType → Identifier → Option Found
  operation_found n (cluster_of c actuals) name = option_map (routine_found actuals) (heading_named (headings_seen c (cluster_round f n)) name)
  operation_found n (parameter k) name = option_map given_found (given_of (given_at n) k name)
  operation_found n t name = option_map builtin_found (operation t name)
