-- The rules on statements over the tables that they read: V16 NotBool, V21 NotTagged, V30 ReturnValues, and of
-- V36 IteratorUse what is asked of loops.
use Rattle.std.specs.Prelude.{ℕ, ◌==◌, ◌&&◌, not, length, is_none, is_some, if◌then◌else◌, Bool, true, false, List, [], ◌∷◌, slice_get, Option, Some, None}
use Rattle.std.specs.List.{list_any}
use Rattle.clu_tree.specs.declared.node.Node.{Node}
use Rattle.clu_tree.specs.declared.node.NodeKind.{NodeKind}
use Rattle.clu_tree.specs.declared.node.NodeKind.TheVariants as kind
use Rattle.clu_syntax.specs.declared.words.Operator.TheVariants as operator
use Rattle.clu_syntax.specs.Items.{Item}
use Rattle.clu_syntax.specs.Nodes.{item_with}
use Rattle.clu_syntax.specs.Syntax.{Expression, an_infix}
use Rattle.clu_types.specs.declared.term.TypeId.{TypeId}
use Rattle.clu_types.specs.declared.term.Field.{Field}
use Rattle.clu_head.specs.There.{is_there}
use Rattle.clu_bindings.specs.Inside.{type_inside}
use Rattle.clu_bindings.specs.Wanted.{is_object_wanted}
use Rattle.clu_type_rules.specs.declared.known.Known.{Known}
use Rattle.clu_type_rules.specs.declared.routines.Parts.{Parts}
use Rattle.clu_type_rules.specs.Included.{may_be}
use Rattle.clu_type_rules.specs.Known.{is_other_than_bool, is_iterator, tags_in, nodes, is_node, children, wanted_in, parts_round, type_at, term_of, term_at, first_type, invoked_by}
use Rattle.clu_type_rules.specs.Routines.{is_in_procedure}

-- the operators whose operands are conditions
abbrev pub joins_conditions : Expression → Bool
joins_conditions (an_infix n operator.Cand a b) = true
joins_conditions (an_infix n operator.Cor a b) = true
joins_conditions _ = false

abbrev pub is_logical : List Node → (ℕ → Item) → ℕ → Bool
is_logical tree items n = joins_conditions (item_with items tree n (slice_get tree n)).expression

-- the call of a loop is its first child that declares nothing
abbrev pub call_in : List Node → List ℕ → Option ℕ
call_in tree [] = None
call_in tree (c ∷ cs) = if is_there kind.Decl (slice_get tree c) then call_in tree cs else Some c

module _ (k : Known) where
  -- ---- V16: a condition, or an operand of cand or cor, isn't bool

  abbrev pub is_no_condition : ℕ → Bool
  is_no_condition n = is_other_than_bool (term_at k n)

  abbrev pub some_no_condition : ℕ → Bool
  some_no_condition n = list_any is_no_condition (children k n)

  module _ (items : ℕ → Item) where
    abbrev pub has_no_bool : ℕ → Bool
    has_no_bool n = is_object_wanted (wanted_in k n) && (is_logical (nodes k) items n && some_no_condition n)

    abbrev pub has_no_condition : NodeKind → ℕ → Bool
    has_no_condition kind.If n = some_no_condition n
    has_no_condition kind.While n = some_no_condition n
    has_no_condition kind.Infix n = has_no_bool n
    has_no_condition _ n = false

  -- ---- V21: tagcase on no oneof or variant

  -- the type on which the Tagcase selects
  abbrev pub tagged_by : ℕ → Option TypeId
  tagged_by n = if is_node k kind.Tagcase n then first_type k (children k n) else None

  abbrev pub tags_by : ℕ → Option (List Field)
  tags_by n = tags_in (term_of k (tagged_by n))

  abbrev pub is_on_no_tags : ℕ → Bool
  is_on_no_tags n = is_some (tagged_by n) && is_none (tags_by n)

  -- ---- V30: the number or the types of what is returned or yielded don't fit the heading

  abbrev pub results_in : Option Parts → Option ℕ
  results_in (Some parts) = parts.results
  results_in None = None

  abbrev pub children_at : Option ℕ → List ℕ
  children_at (Some n) = children k n
  children_at None = []

  -- the nodes of the types that the routine round the node gives
  abbrev pub results_round : ℕ → List ℕ
  results_round n = children_at (results_in (parts_round k n))

  -- what a return gives: an iterator nothing
  abbrev pub returned : ℕ → List ℕ
  returned n = if is_in_procedure (parts_round k n) then results_round n else []

  module _ (items : ℕ → Item) where
    -- each value is included in the type at its place, where the body in which the node stands sees it
    abbrev pub are_included : ℕ → List ℕ → List ℕ → Bool
    are_included n (value ∷ values) (t ∷ types) = may_be k.tables.types.now (type_at k value) (type_inside k.tables.file items n t) && are_included n values types
    are_included n _ _ = true

    abbrev pub fit_values : ℕ → List ℕ → List ℕ → Bool
    fit_values n values types = length values == length types && are_included n values types

    abbrev pub gives_other : NodeKind → ℕ → Bool
    gives_other kind.Return n = not (fit_values n (children k n) (returned n))
    gives_other kind.Yield n = not (fit_values n (children k n) (results_round n))
    gives_other _ n = false

  -- ---- V36, of loops: for over no iterator

  abbrev pub invoked_at : Option ℕ → Option TypeId
  invoked_at (Some call) = invoked_by k call
  invoked_at None = None

  abbrev pub invoked_in : ℕ → Option TypeId
  invoked_in n = invoked_at (call_in (nodes k) (children k n))

  abbrev pub loops_over_other : ℕ → Bool
  loops_over_other n = is_some (invoked_in n) && not (is_iterator (term_of k (invoked_in n)))
