-- The rules on names: V4 LiteralRange, V5 UnknownName, V6 DefinedTwice, V7 CircularEquate, V37 OwnPlace.
use Rattle.std.specs.Prelude.{ℕ, suc, ◌==◌, ◌&&◌, ◌||◌, nat_lt, not, Bool, false, List, [], ◌∷◌, ◌++◌, length, take, drop, slice_get, is_none, bytes_eq, if◌then◌else◌, Option, Some, None}
use Rattle.std.specs.List.{list_any}
use Rattle.clu_literal.specs.Literal.{string_denoted, char_denoted}
use Rattle.clu_types.specs.CluType.{CluType}
use Rattle.clu_layout.specs.SameType.{same_type}
use Rattle.clu_tree.specs.declared.node.NodeKind.{NodeKind}
use Rattle.clu_tree.specs.declared.node.NodeKind.TheVariants as kind
use Rattle.clu_syntax.specs.Splits.{first_name}
use Rattle.clu_syntax.specs.Syntax.{Identifier, Literal, integer, character, string, Expression, a_literal, Restriction, Routine, Cluster}
use Rattle.clu_names.specs.declared.scopes.Declared.{Declared}
use Rattle.clu_names.specs.Denotes.{is_open, rank}
use Rattle.clu_names.specs.Latest.{is_local}
use Rattle.clu_names.specs.Scopes.{is_stream}
use Rattle.clu_meaning.specs.Constants.{number_after}
use Rattle.clu_meaning.specs.Counting.{variable_names}
use Rattle.clu_meaning.specs.Resolving.{declared_from}
use Rattle.clu_checking.specs.Specifications.{Demand}
use Rattle.clu_checking.specs.Files.{File, item, kind_in, is_kind, stands_in, parent, names, below, is_known, declared_by, equate_named, routine_round, cluster_round, children_at, variable_number}
use Rattle.clu_checking.specs.Equates.{is_circular_at, equates_named, demands_in, asked_by_set, is_bad_name}

-- ---- V4: an identifier of more than 200 bytes, an integer above 9223372036854775807, an octal code above 377

abbrev pub is_long : Identifier → Bool
is_long name = nat_lt 200 (length name)

abbrev pub is_out_of_range : Literal → Bool
is_out_of_range (integer digits) = nat_lt 9223372036854775807 (number_after 0 digits)
is_out_of_range (character text) = is_none (char_denoted text)
is_out_of_range (string text) = is_none (string_denoted text)
is_out_of_range _ = false

abbrev pub is_literal_out_of_range : Expression → Bool
is_literal_out_of_range (a_literal n literal) = is_out_of_range literal
is_literal_out_of_range _ = false

-- ---- for V6

-- the declaration d at the place k comes before another one: its scope ends later, or it stands before it
abbrev pub comes_before : ℕ → Declared → ℕ → Declared → Bool
comes_before k d own e = nat_lt (rank e) (rank d) || (rank d == rank e && nat_lt k own)

abbrev pub same_unit : Option ℕ → Option ℕ → Bool
same_unit (Some a) (Some b) = a == b
same_unit _ _ = false

-- some declaration of the same module and name has the node in its scope and comes before this one; the first of the
-- list has the place k
abbrev pub is_preceded : ℕ → Identifier → ℕ → Declared → ℕ → List Declared → Bool
is_preceded n name own e k [] = false
is_preceded n name own e k (d ∷ ds) = (same_unit d.unit e.unit && is_open name n d && comes_before k d own e) || is_preceded n name own e (suc k) ds

abbrev pub stands_twice : List Identifier → Bool
stands_twice [] = false
stands_twice (name ∷ rest) = list_any (bytes_eq name) rest || stands_twice rest

-- those of a list before the node
abbrev pub before_in : List ℕ → ℕ → List ℕ
before_in [] n = []
before_in (c ∷ cs) n = if c == n then [] else c ∷ before_in cs n

-- both are known
abbrev pub are_other_types : Option CluType → Option CluType → Bool
are_other_types (Some a) (Some b) = not (same_type a b)
are_other_types _ _ = false

-- the same operation of one parameter is asked for with another type
abbrev pub disagrees : Demand → Demand → Bool
disagrees d e = d.parameter == e.parameter && bytes_eq d.operation e.operation && are_other_types d.wanted e.wanted

-- a demand that the node makes disagrees with one before it
abbrev pub disagrees_with : ℕ → List Demand → List Demand → Bool
disagrees_with n before [] = false
disagrees_with n before (d ∷ ds) = (d.node == n && list_any (disagrees d) before) || disagrees_with n (d ∷ before) ds

abbrev pub restrictions_of : Option Routine → Option Cluster → List Restriction
restrictions_of (Some r) c = r.restrictions
restrictions_of None (Some c) = c.restrictions
restrictions_of None None = []

-- a module of this name whose definition comes before the node
abbrev pub is_before : ℕ → Identifier → Declared → Bool
is_before n name d = not (is_local d.unit) && nat_lt d.node n && bytes_eq d.name name

module _ (f : File) where
  abbrev pub has_bad_literal : NodeKind → ℕ → Bool
  has_bad_literal kind.Literal n = is_literal_out_of_range (item f n).expression
  has_bad_literal _ n = false

  abbrev pub v4 : ℕ → Bool
  v4 n = list_any is_long (names f n) || has_bad_literal (kind_in f n) n

  -- ---- V5: a name denotes nothing

  -- the names at a node that are used there: those of a type set are its variable and the name before `has`
  abbrev pub names_used : NodeKind → ℕ → List Identifier
  names_used kind.Name n = names f n
  names_used kind.NameT n = names f n
  names_used kind.Assign n = names f n
  names_used kind.For n = names f n
  names_used kind.Restrict n = names f n
  names_used kind.TypeSet n = drop 1 (names f n)
  names_used _ n = []

  abbrev pub v5 : ℕ → Bool
  v5 n = list_any (λ name. not (is_known f n name)) (names_used (kind_in f n) n)

  -- ---- V6: a name is defined that is in scope from the same module, or stands twice

  abbrev pub is_redefined_at : ℕ → Identifier → ℕ → Option Declared → Bool
  is_redefined_at n name own (Some e) = is_preceded n name own e 0 f.scope.declarations
  is_redefined_at n name own None = false

  -- the place of the node's own declaration of the name
  abbrev pub own_place : ℕ → Identifier → ℕ
  own_place n name = declared_from 0 f.scope.declarations n name

  abbrev pub is_redefined : ℕ → Identifier → Bool
  is_redefined n name = is_redefined_at n name (own_place n name) (slice_get f.scope.declarations (own_place n name))

  abbrev pub siblings_before : ℕ → List ℕ
  siblings_before n = before_in (children_at f (parent f n)) n

  -- the names of the siblings of this kind before the node
  abbrev pub names_before : NodeKind → List ℕ → List Identifier
  names_before k [] = []
  names_before k (c ∷ cs) = if is_kind f k c then names f c ++ names_before k cs else names_before k cs

  abbrev pub stands_before : NodeKind → ℕ → Bool
  stands_before k n = list_any (λ name. list_any (bytes_eq name) (names_before k (siblings_before n))) (names f n)

  -- the names that a node declares in its module: of an arm its variable, of a type set its variable
  abbrev pub names_defined : NodeKind → ℕ → List Identifier
  names_defined kind.Equate n = names f n
  names_defined kind.Parm n = names f n
  names_defined kind.Decl n = names f n
  names_defined kind.Init n = names f n
  names_defined kind.Own n = names f n
  names_defined kind.Routine n = take 1 (names f n)
  names_defined kind.TagArm n = variable_names (item f n).tag_arm.variable
  names_defined kind.Others n = names f n
  names_defined kind.TypeSet n = take 1 (names f n)
  names_defined _ n = []

  -- ---- of modules and exports

  abbrev pub module_before : ℕ → Identifier → Bool
  module_before n name = list_any (is_before n name) f.scope.declarations

  abbrev pub exports : ℕ → List Identifier
  exports n = (item f n).cluster.exports

  -- a module of this name stands before it; a Routine of a cluster is asked as other names are
  abbrev pub is_module_redefined : ℕ → Bool
  is_module_redefined n = is_stream (first_name (names f n)) || module_before n (first_name (names f n))

  abbrev pub v6_by : NodeKind → ℕ → Bool
  v6_by kind.Exc n = stands_before kind.Exc n
  v6_by kind.Decl n = stands_before kind.Decl n
  v6_by kind.Routine n = stands_in f kind.Module n && is_module_redefined n
  v6_by kind.Cluster n = is_module_redefined n || stands_twice (exports n)
  v6_by _ n = false

  abbrev pub is_defined_twice : ℕ → Bool
  is_defined_twice n =
      let defined = names_defined (kind_in f n) n in
      stands_twice defined || list_any (is_redefined n) defined || v6_by (kind_in f n) n

  -- ---- V7: a name leads to an equate whose unfolding meets itself

  abbrev pub leads_to_circle : NodeKind → ℕ → Bool
  leads_to_circle kind.Restrict n = list_any (λ name. is_circular_at f (equate_named f n name)) (names f n)
  leads_to_circle _ n = list_any (is_circular_at f) (equates_named f n)

  abbrev pub v7 : ℕ → Bool
  v7 n = leads_to_circle (kind_in f n) n

  -- ---- V37: the initialiser of an own variable names a formal argument

  abbrev pub is_argument : Option ℕ → Bool
  is_argument (Some d) = is_kind f kind.Decl d && stands_in f kind.Routine d
  is_argument None = false

  abbrev pub names_argument : ℕ → Bool
  names_argument n = is_kind f kind.Name n && is_argument (declared_by f n (first_name (names f n)))

  abbrev pub v37 : ℕ → Bool
  v37 n = is_kind f kind.Own n && list_any names_argument (below f n)

module _ (f : File) (bad : ℕ → Bool) where
  -- ---- V6: a name is defined twice, or a demand disagrees with one before it

  -- the where clause in which the node stands
  abbrev pub clause_round : ℕ → List Demand
  clause_round n = demands_in f (restrictions_of (routine_round f n) (cluster_round f n))

  abbrev pub asked_in_set : Option ℕ → List Demand
  asked_in_set (Some s) = asked_by_set f (variable_number f.nodes f.rounds s) (item f s).type_set
  asked_in_set None = []

  -- nothing is asked by a set that is bad or circular
  abbrev pub is_unusable : ℕ → Identifier → Bool
  is_unusable n name = is_circular_at f (equate_named f n name) || is_bad_name f bad n name

  abbrev pub disagrees_at : NodeKind → ℕ → Bool
  disagrees_at kind.Oper n = if stands_in f kind.TypeSet n then disagrees_with n [] (asked_in_set (parent f n)) else disagrees_with n [] (clause_round n)
  disagrees_at kind.Restrict n = not (list_any (is_unusable n) (names f n)) && disagrees_with n [] (clause_round n)
  disagrees_at _ n = false

  abbrev pub v6 : ℕ → Bool
  v6 n = is_defined_twice f n || disagrees_at (kind_in f n) n
