-- The headings of a file's modules: kinds of parameters, types as callers and as bodies see them, and specifications.
use Rattle.std.specs.Prelude.{ℕ, zero, suc, ◌==◌, ◌&&◌, ◌||◌, nat_lt, Bool, true, false, List, [], ◌∷◌, map, flat_map, filter, slice_get, is_some, codes, bytes_eq, if◌then◌else◌, Option, Some, None}
use Rattle.std.specs.List.{list_any}
use Rattle.std.specs.Option.{option_and_then}
use Rattle.clu_types.specs.CluType.{CluType, null_type, bool_type, int_type, char_type, string_type, CluTypes, no_types, type_and, Signals, no_signals, signal_and}
use Rattle.clu_types.specs.declared.spec.ParamKind.{ParamKind}
use Rattle.clu_types.specs.declared.spec.ParamKind.TheVariants as param
use Rattle.clu_tree.specs.declared.node.NodeKind.{NodeKind}
use Rattle.clu_tree.specs.declared.node.NodeKind.TheVariants as kind
use Rattle.clu_syntax.specs.declared.words.SimpleType.TheVariants as simple
use Rattle.clu_syntax.specs.Syntax.{Identifier, TypeExpression, a_simple_type, TypeExpressions, Exceptions, Parameter, Routine, Cluster, Module, a_routine, a_cluster}
use Rattle.clu_syntax.specs.Nodes.{file_of}
use Rattle.clu_names.specs.Scopes.{is_stream}
use Rattle.clu_meaning.specs.Settling.{comes_after, type_settled, routine_type}
use Rattle.clu_meaning.specs.Programs.{HeadingType, plain, cvt, Formal, Exception}
use Rattle.clu_meaning.specs.Resolving.{Place, cluster_place, heading_type, heading_types, formals_of, exceptions_of}
use Rattle.clu_checking.specs.Specifications.{Demand, Heading, of_routine, of_cluster, Specification, specification_in}
use Rattle.clu_checking.specs.Files.{File, kind_in, children, stands_below, is_refused, is_refused_at, declaration, equate_named, cluster_round, parameters_round, round}
use Rattle.clu_checking.specs.Equates.{type_node, meets_circle, is_cvt, demands_in}

-- ---- in ascending order, each once

abbrev pub comes_before : Demand → Demand → Bool
comes_before a b = nat_lt a.parameter b.parameter || (a.parameter == b.parameter && comes_after b.operation a.operation)

abbrev pub is_same : Demand → Demand → Bool
is_same a b = a.parameter == b.parameter && bytes_eq a.operation b.operation

-- one that stands twice is asked by an `in` clause if both are
abbrev pub with_demand : Demand → List Demand → List Demand
with_demand d [] = d ∷ []
with_demand d (e ∷ es) =
    if is_same d e then record d { in_set = d.in_set && e.in_set } ∷ es else
    if comes_before d e then d ∷ e ∷ es else e ∷ with_demand d es

abbrev pub listed_demands : List Demand → List Demand
listed_demands [] = []
listed_demands (d ∷ ds) = with_demand d (listed_demands ds)

-- of two of one name the first counts
abbrev pub with_heading : Heading → List Heading → List Heading
with_heading h [] = h ∷ []
with_heading h (g ∷ gs) =
    if bytes_eq h.name g.name then h ∷ gs else
    if comes_after h.name g.name then g ∷ with_heading h gs else h ∷ g ∷ gs

abbrev pub listed_headings : List Heading → List Heading
listed_headings [] = []
listed_headings (h ∷ hs) = with_heading h (listed_headings hs)

-- ---- types as callers see them, and as the body does

abbrev pub for_callers : HeadingType → CluType
for_callers (plain t) = t
for_callers (cvt abstract representation) = abstract

-- a cluster without `rep` has no other type for its bodies
abbrev pub for_body : Bool → HeadingType → CluType
for_body is_represented (plain t) = t
for_body true (cvt abstract representation) = representation
for_body false (cvt abstract representation) = abstract

abbrev pub types_by : (HeadingType → CluType) → List HeadingType → CluTypes
types_by seen [] = no_types
types_by seen (t ∷ ts) = type_and (seen t) (types_by seen ts)

abbrev pub signals_by : (HeadingType → CluType) → List Exception → Signals
signals_by seen [] = no_signals
signals_by seen (e ∷ es) = signal_and e.name (types_by seen e.objects) (signals_by seen es)

abbrev pub formal_types : List Formal → List HeadingType
formal_types formals = map (λ formal. formal.type) formals

-- ---- parameters

-- the kind of constants that a parameter of this type takes
abbrev pub kind_of_type : CluType → Option ParamKind
kind_of_type null_type = Some param.Null
kind_of_type bool_type = Some param.Bool
kind_of_type int_type = Some param.Int
kind_of_type char_type = Some param.Char
kind_of_type string_type = Some param.Str
kind_of_type _ = None

abbrev pub kind_unless : Bool → Option ParamKind → Option ParamKind
kind_unless true k = None
kind_unless false k = k

abbrev pub types_in : List Parameter → List (Option TypeExpression)
types_in ps = flat_map (λ p. map (λ name. p.type) p.names) ps

abbrev pub nth : {A : Type 0} → List A → ℕ → Option A
nth xs zero = None
nth xs (suc k) = slice_get xs k

abbrev pub legal_type : CluType → Option ParamKind → Option CluType
legal_type t (Some k) = Some t
legal_type t None = None

-- the parts of a routine's heading that make its type
abbrev pub is_of_type : NodeKind → Bool
is_of_type kind.Decl = true
is_of_type kind.Results = true
is_of_type kind.Signals = true
is_of_type _ = false

module _ (f : File) where
  -- ---- types in the headings of a file

  -- inside a cluster `cvt` stands for the cluster; elsewhere for nothing
  abbrev pub place_in : Option Cluster → Place
  place_in (Some c) = cluster_place f.scope c
  place_in None = record { scope = f.scope; home = None }

  abbrev pub place_at : ℕ → Place
  place_at n = place_in (cluster_round f n)

  -- the cluster's type with its own parameters
  abbrev pub own_type : ℕ → Option CluType
  own_type n = (place_at n).home

  abbrev pub is_represented : ℕ → Bool
  is_represented n = is_some (declaration f n (codes "rep"))

  -- what `rep` is equated to is refused
  abbrev pub is_refused_rep : ℕ → Bool
  is_refused_rep n = is_refused_at f (equate_named f n (codes "rep"))

  -- the types of variables, results and signals at the node n, as the body sees them
  abbrev pub type_inside : ℕ → TypeExpression → CluType
  type_inside n t = for_body (is_represented n) (heading_type (place_at n) t)

  abbrev pub is_refused_inside : ℕ → TypeExpression → Bool
  is_refused_inside n (a_simple_type m simple.Cvt) = is_refused f m || is_refused_rep n
  is_refused_inside n t = is_refused f (type_node t)

  -- the type of a variable by its name, unless it is refused where it is declared
  abbrev pub known_inside : ℕ → TypeExpression → Option CluType
  known_inside n t = if is_refused_inside n t then None else Some (type_inside n t)

  abbrev pub results_inside : ℕ → TypeExpressions → CluTypes
  results_inside n ts = types_by (for_body (is_represented n)) (heading_types (place_at n) ts)

  -- the types of results and signals at the node n, as callers see them
  abbrev pub results_outside : ℕ → TypeExpressions → CluTypes
  results_outside n ts = types_by for_callers (heading_types (place_at n) ts)

  -- in ascending order, without failure
  abbrev pub signals_inside : ℕ → Exceptions → Signals
  signals_inside n es = signals_by (for_body (is_represented n)) (exceptions_of (place_at n) es)

  -- ---- parameters

  -- `cvt`, an equate for it, and what leads to a circle of equates
  abbrev pub is_no_parameter_type : TypeExpression → Bool
  is_no_parameter_type t = is_cvt f t || meets_circle f (type_node t)

  -- a parameter of another type has no kind
  abbrev pub kind_of_parameter : Option TypeExpression → Option ParamKind
  kind_of_parameter None = Some param.OfType
  kind_of_parameter (Some t) = kind_unless (is_no_parameter_type t) (kind_of_type (type_settled f.scope t))

  abbrev pub kinds_in : List Parameter → List (Option ParamKind)
  kinds_in ps = flat_map (λ p. map (λ name. kind_of_parameter p.type) p.names) ps

  -- the type expression of the constant parameter k of the module round a node
  abbrev pub declared_parameter : ℕ → ℕ → Option TypeExpression
  declared_parameter n k = option_and_then (λ t. t) (nth (types_in (parameters_round f.nodes (round f n).unit)) k)

  -- its type, if it has one that parameters may have
  abbrev pub parameter_type_of : Option TypeExpression → Option CluType
  parameter_type_of (Some t) = legal_type (type_settled f.scope t) (kind_of_parameter (Some t))
  parameter_type_of None = None

  abbrev pub parameter_type : ℕ → ℕ → Option CluType
  parameter_type n k = parameter_type_of (declared_parameter n k)

  -- ---- specifications

  -- a Decl, Results or Signals of the Routine in which the node stands
  abbrev pub is_in_type_of : Routine → ℕ → Bool
  is_in_type_of r n = list_any (λ c. is_of_type (kind_in f c) && stands_below f n c) (children f r.node)

  abbrev pub is_refused_heading : Routine → Bool
  is_refused_heading r = list_any (is_in_type_of r) f.refused

  abbrev pub outside_type : Place → Routine → CluType
  outside_type place r = routine_type r.kind (types_by for_callers (formal_types (formals_of place r.arguments))) (types_by for_callers (heading_types place r.results)) (signals_by for_callers (exceptions_of place r.signals))

  abbrev pub heading_of : Place → Routine → Heading
  heading_of place r = record {
    name = r.name;
    type = if is_refused_heading r then None else Some (outside_type place r);
    demands = listed_demands (demands_in f r.restrictions);
  }

  abbrev pub is_exported : Cluster → Heading → Bool
  is_exported c h = list_any (bytes_eq h.name) c.exports

  -- all routines of a cluster, which sugar and `t$op` inside it find
  abbrev pub routines_of : Cluster → List Heading
  routines_of c = listed_headings (map (heading_of (cluster_place f.scope c)) c.routines)

  -- what a module shows of itself
  abbrev pub specification_of : Module → Specification
  specification_of (a_routine n es r) = record { name = r.name; kinds = kinds_in r.parameters; form = of_routine (heading_of (place_in None) r) }
  specification_of (a_cluster n es c) = record { name = c.name; kinds = kinds_in c.parameters; form = of_cluster (listed_demands (demands_in f c.restrictions)) (filter (is_exported c) (routines_of c)) }

  abbrev pub own_specifications : List Specification
  own_specifications = map specification_of (file_of f.nodes)

  -- of two modules of one name the first counts, and one of the file before one of the library
  abbrev pub or_kept : Option Specification → Identifier → Option Specification
  or_kept (Some s) name = Some s
  or_kept None name = specification_in f.library name

  -- the specification of a module by its name; `stream` is no module
  abbrev pub specification : Identifier → Option Specification
  specification name = if is_stream name then None else or_kept (specification_in own_specifications name) name
