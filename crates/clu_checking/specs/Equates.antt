-- Equates that lead to themselves, and the type sets that names stand for. What else a name is equated to is settled by
-- clu_meaning, whether a rule is violated on the way or not.
use Rattle.std.specs.Prelude.{ℕ, zero, suc, Bool, true, false, List, [], ◌∷◌, length, is_some, codes, if◌then◌else◌, Option, Some, None, map, flat_map, ◌++◌}
use Rattle.std.specs.List.{list_any}
use Rattle.clu_tree.specs.declared.node.NodeKind.{NodeKind}
use Rattle.clu_tree.specs.declared.node.NodeKind.TheVariants as kind
use Rattle.clu_types.specs.CluType.{CluType}
use Rattle.clu_syntax.specs.declared.words.SimpleType.TheVariants as simple
use Rattle.clu_syntax.specs.Syntax.{Identifier, Expression, a_name, a_paren, an_index, Constant, an_expression, a_type, TypeExpression, a_simple_type, a_list_type, a_fields_type, a_routine_type, a_named_type, Equate, an_equate, a_set_equate, TypeSet, Typed, a_type_set, Restriction, has_operations, is_in, is_in_set}
use Rattle.clu_meaning.specs.Scoping.{Meaning, is_equate, is_type_parameter, Scope, binding, meaning_of}
use Rattle.clu_meaning.specs.Settling.{type_settled}
use Rattle.clu_checking.specs.Specifications.{Demand}
use Rattle.clu_checking.specs.Files.{File, item, kind_in, is_kind, children, children_at, names, below, is_refused, equate_named}

-- the node of a type
abbrev pub type_node : TypeExpression → ℕ
type_node (a_simple_type n word) = n
type_node (a_list_type n word t) = n
type_node (a_fields_type n word ss) = n
type_node (a_routine_type n word args results signals) = n
type_node (a_named_type n name cs) = n

module _ (f : File) where
  -- ---- circles

  abbrev pub word_named : TypeExpression → List Identifier
  word_named (a_simple_type n simple.Rep) = codes "rep" ∷ []
  word_named _ = []

  -- the names at a node by which equates are unfolded
  abbrev pub names_unfolded : NodeKind → ℕ → List Identifier
  names_unfolded kind.Name n = names f n
  names_unfolded kind.NameT n = names f n
  names_unfolded kind.Simple n = word_named (item f n).type
  names_unfolded _ n = []

  abbrev pub equates_at : ℕ → List Identifier → List (Option ℕ)
  equates_at n names = map (equate_named f n) names

  -- the equates that are named at a node
  abbrev pub equates_named : ℕ → List (Option ℕ)
  equates_named n = equates_at n (names_unfolded (kind_in f n) n)

  abbrev pub leads_on : (ℕ → Bool) → Option ℕ → Bool
  leads_on leads (Some e) = leads e
  leads_on leads None = false

  -- some name below the Equate leads on for so many steps
  unfoldable pub leads_far : ℕ → ℕ → Bool
  leads_far zero e = true
  leads_far (suc steps) e = list_any (λ n. list_any (leads_on (leads_far steps)) (equates_named n)) (below f e)

  -- the unfolding of the Equate meets itself: it goes on for more steps than there are declarations
  abbrev pub is_circular : ℕ → Bool
  is_circular e = leads_far (length f.scope.declarations) e

  abbrev pub is_circular_at : Option ℕ → Bool
  is_circular_at e = leads_on is_circular e

  -- ---- what leads to a circle, or to `cvt`, from any node

  abbrev pub first_equate : List (Option ℕ) → Option ℕ
  first_equate (e ∷ es) = e
  first_equate [] = None

  -- the right side of an equate, if it is no type set
  abbrev pub right_child : List ℕ → List ℕ
  right_child (c ∷ cs) = if is_kind f kind.TypeSet c then [] else c ∷ []
  right_child [] = []

  -- a node is made from its children, and from the right side of the equate that it names
  abbrev pub made_from : ℕ → List ℕ
  made_from n = children f n ++ right_child (children_at f (first_equate (equates_named n)))

  unfoldable pub can_go_on : ℕ → ℕ → Bool
  can_go_on zero n = true
  can_go_on (suc steps) n = list_any (can_go_on steps) (made_from n)

  -- a circle is met: from the node one can go on for as many steps as there are nodes
  abbrev pub meets_circle : ℕ → Bool
  meets_circle n = can_go_on (length f.nodes) n

  abbrev pub means_cvt : (Constant → Bool) → Meaning → Bool
  means_cvt leads (is_equate c) = leads c
  means_cvt leads _ = false

  abbrev pub is_cvt_type : (Constant → Bool) → TypeExpression → Bool
  is_cvt_type leads (a_simple_type n simple.Cvt) = true
  is_cvt_type leads (a_simple_type n simple.Rep) = means_cvt leads (meaning_of f.scope n (codes "rep"))
  is_cvt_type leads (a_named_type n name cs) = means_cvt leads (meaning_of f.scope n name)
  is_cvt_type leads _ = false

  abbrev pub is_cvt_expression : (Constant → Bool) → Expression → Bool
  is_cvt_expression leads (a_name n name) = means_cvt leads (meaning_of f.scope n name)
  is_cvt_expression leads (a_paren n e) = is_cvt_expression leads e
  is_cvt_expression leads (an_index n (a_name m name) cs) = means_cvt leads (meaning_of f.scope m name)
  is_cvt_expression leads _ = false

  abbrev pub is_cvt_constant : (Constant → Bool) → Constant → Bool
  is_cvt_constant leads (an_expression e) = is_cvt_expression leads e
  is_cvt_constant leads (a_type t) = is_cvt_type leads t

  -- for so many steps of unfolding
  unfoldable pub leads_to_cvt : ℕ → Constant → Bool
  leads_to_cvt zero c = false
  leads_to_cvt (suc steps) c = is_cvt_constant (leads_to_cvt steps) c

  -- the type is `cvt`, or an equate for it
  abbrev pub is_cvt : TypeExpression → Bool
  is_cvt t = is_cvt_type (leads_to_cvt (length f.scope.declarations)) t

  -- ---- type sets

  abbrev pub set_of : (ℕ → Identifier → Option TypeSet) → Equate → Option TypeSet
  set_of unfolded (a_set_equate n name set) = Some set
  set_of unfolded (an_equate n name (an_expression (a_name m other))) = unfolded m other
  set_of unfolded (an_equate n name c) = None

  abbrev pub set_at : (ℕ → Identifier → Option TypeSet) → Option ℕ → Option TypeSet
  set_at unfolded (Some e) = set_of unfolded (item f e).equate
  set_at unfolded None = None

  unfoldable pub set_in : ℕ → ℕ → Identifier → Option TypeSet
  set_in zero n name = None
  set_in (suc steps) n name = set_at (set_in steps) (equate_named f n name)

  -- the type set that a name stands for
  abbrev pub set_named : ℕ → Identifier → Option TypeSet
  set_named n name = set_in (length f.scope.declarations) n name

  abbrev pub is_set_name : ℕ → Identifier → Bool
  is_set_name n name = is_some (set_named n name)

  -- ---- what where clauses ask of the type parameter k

  -- a type, unless it is refused where it stands
  abbrev pub unless_refused : ℕ → CluType → Option CluType
  unless_refused n t = if is_refused f n then None else Some t

  abbrev pub demands_for : Scope → ℕ → ℕ → TypeExpression → Bool → List Identifier → List Demand
  demands_for scope node k wanted in_set names = map (λ name. record { node = node; parameter = k; operation = name; wanted = unless_refused (type_node wanted) (type_settled scope wanted); in_set = in_set }) names

  -- by operations
  abbrev pub operations_asked : Scope → ℕ → List Typed → List Demand
  operations_asked scope k [] = []
  operations_asked scope k (d ∷ ds) = demands_for scope d.node k d.type false d.names ++ operations_asked scope k ds

  abbrev pub asked_at : ℕ → Demand → Demand
  asked_at n d = record d { node = n; in_set = true }

  abbrev pub with_variable : ℕ → Identifier → ℕ → Scope
  with_variable n variable k = record f.scope { bindings = binding n (is_type_parameter k) variable ∷ f.scope.bindings }

  -- by a type set, with its variable replaced by the parameter
  abbrev pub asked_by_set : ℕ → TypeSet → List Demand
  asked_by_set k (a_type_set n variable asked operations es) = operations_asked (with_variable n variable k) k operations

  abbrev pub asked_by : ℕ → ℕ → Option TypeSet → List Demand
  asked_by n k (Some set) = map (asked_at n) (asked_by_set k set)
  asked_by n k None = []

  abbrev pub restricted : Restriction → Meaning → List Demand
  restricted (has_operations n name operations) (is_type_parameter k) = operations_asked f.scope k operations
  restricted (is_in n name set) (is_type_parameter k) = asked_by n k (set_named n set)
  restricted (is_in_set n name set) (is_type_parameter k) = asked_by n k (Some set)
  restricted _ _ = []

  abbrev pub restriction_node : Restriction → ℕ × Identifier
  restriction_node (has_operations n name operations) = (n, name)
  restriction_node (is_in n name set) = (n, name)
  restriction_node (is_in_set n name set) = (n, name)

  abbrev pub demands_by : Restriction → List Demand
  demands_by r = restricted r (meaning_of f.scope (restriction_node r).0 (restriction_node r).1)

  -- all that a where clause asks, in the order of the text
  abbrev pub demands_in : List Restriction → List Demand
  demands_in rs = flat_map demands_by rs

module _ (f : File) (bad : ℕ → Bool) where
  -- ---- names of bad equates; of a circle V7 is asked alone

  abbrev pub bad_unless : Bool → ℕ → Bool
  bad_unless true e = false
  bad_unless false e = bad e

  abbrev pub is_bad_at : Option ℕ → Bool
  is_bad_at (Some e) = bad_unless (is_circular f e) e
  is_bad_at None = false

  abbrev pub is_bad_name : ℕ → Identifier → Bool
  is_bad_name n name = is_bad_at (equate_named f n name)
