-- The rules on expressions: V11 NoOperation, V12 ArgumentCount, V13 ArgumentType, V17 Selectors, V18 WhereNotMet,
-- V20 NotInTypeSet, V32 UpDown, and of V14 ResultCount, V16 NotBool and V36 IteratorUse what is asked of expressions.
-- An expression without a type violates a rule by itself, so nothing is asked of it here.
use Rattle.std.specs.Prelude.{ℕ, suc, ◌==◌, ◌&&◌, ◌||◌, not, Bool, true, false, List, [], ◌∷◌, ◌++◌, length, is_none, is_some, codes, bytes_eq, if◌then◌else◌, Option, Some, None}
use Rattle.std.specs.List.{list_any, list_all}
use Rattle.clu_types.specs.CluType.{CluType, bool_type, int_type, array_of, sequence_of, record_of, struct_of, iter_of, CluTypes, no_types, type_and, Fields, no_fields, field_and}
use Rattle.clu_layout.specs.SameType.{same_type, is_routine_type}
use Rattle.clu_tree.specs.declared.node.NodeKind.{NodeKind}
use Rattle.clu_tree.specs.declared.node.NodeKind.TheVariants as kind
use Rattle.clu_syntax.specs.Kinds.{is_type}
use Rattle.clu_syntax.specs.Syntax.{Identifier, Expression, an_infix, a_name, an_index, fields, elements, elements_from, an_up, a_down, Expressions, Components, no_components, component_and}
use Rattle.clu_meaning.specs.Constants.{Sugar, is_cand, is_cor, sugar}
use Rattle.clu_meaning.specs.Scoping.{Meaning, is_equate, is_type_set, is_type_parameter, is_module}
use Rattle.clu_meaning.specs.Settling.{type_settled}
use Rattle.clu_checking.specs.Settled.{value_settled}
use Rattle.clu_checking.specs.Files.{File, item, kind_in, parent, names, meaning, is_of_module, equate_named}
use Rattle.clu_checking.specs.Equates.{is_set_name}
use Rattle.clu_checking.specs.Headings.{own_type}
use Rattle.clu_checking.specs.Operations.{Asked, Found, may_fit, is_met}
use Rattle.clu_checking.specs.Typing.{type_of, found_type, arguments_of, results_of, takes_actuals, is_type_value, representation}
use Rattle.clu_checking.specs.Wanted.{Wanted, an_object, a_loop_call, a_name_with_actuals, wanted, first_name_at}
use Rattle.clu_checking.specs.Invocations.{Invocation, is_object_wanted, invocations, operations_at, asks_at, types_of}
use Rattle.clu_checking.specs.NameRules.{stands_twice, stands_before}
use Rattle.clu_checking.specs.ConstantRules.{is_module_routine}

-- ---- lists of types

abbrev pub count : CluTypes → ℕ
count no_types = 0
count (type_and t ts) = suc (count ts)

-- each of the types is included in the one at its place
abbrev pub all_may_fit : List (Option CluType) → CluTypes → Bool
all_may_fit (t ∷ ts) (type_and wanted rest) = may_fit t wanted && all_may_fit ts rest
all_may_fit _ _ = true

abbrev pub is_iterator : CluType → Bool
is_iterator (iter_of args results ss) = true
is_iterator _ = false

-- ---- invocations

abbrev pub holds_if : (CluType → Bool) → Option CluType → Bool
holds_if test (Some t) = test t
holds_if test None = false

-- of a type that is known
abbrev pub holds_of : (CluType → Bool) → Option Found → Bool
holds_of test found = holds_if test (found_type found)

abbrev pub has_other_count : Invocation → Bool
has_other_count i = holds_of (λ t. is_routine_type t && not (count (arguments_of t) == length i.arguments)) i.invoked

abbrev pub has_other_types : Invocation → Bool
has_other_types i = holds_of (λ t. not (is_routine_type t) || not (all_may_fit i.arguments (arguments_of t))) i.invoked

abbrev pub has_not_one_result : Invocation → Bool
has_not_one_result i = holds_of (λ t. is_routine_type t && not (count (results_of t) == 1)) i.invoked

abbrev pub invokes_iterator : Invocation → Bool
invokes_iterator i = holds_of is_iterator i.invoked

-- a call statement, a loop's call and r.s := e may have any number of results
abbrev pub is_one_wanted : NodeKind → Wanted → Bool
is_one_wanted kind.SetField w = false
is_one_wanted kind.SetIndex w = false
is_one_wanted k an_object = true
is_one_wanted k _ = false

abbrev pub is_loop_call : Wanted → Bool
is_loop_call a_loop_call = true
is_loop_call _ = false

-- ---- constructors

abbrev pub components_of : CluType → Option Fields
components_of (record_of fs) = Some fs
components_of (struct_of fs) = Some fs
components_of _ = None

abbrev pub element_of : CluType → Option CluType
element_of (array_of t) = Some t
element_of (sequence_of t) = Some t
element_of _ = None

abbrev pub is_array : CluType → Bool
is_array (array_of t) = true
is_array _ = false

abbrev pub component_type : Fields → Identifier → Option CluType
component_type no_fields name = None
component_type (field_and selector t fs) name = if bytes_eq selector name then Some t else component_type fs name

abbrev pub may_be : Option CluType → Option CluType → Bool
may_be given (Some wanted) = may_fit given wanted
may_be given None = true

abbrev pub selectors_of : Components → List Identifier
selectors_of no_components = []
selectors_of (component_and n names e cs) = names ++ selectors_of cs

abbrev pub is_selector_of : Fields → Identifier → Bool
is_selector_of fs name = is_some (component_type fs name)

abbrev pub has_each : Fields → List Identifier → Bool
has_each no_fields names = true
has_each (field_and selector t fs) names = list_any (bytes_eq selector) names && has_each fs names

-- ---- operands

abbrev pub is_other_than : CluType → Option CluType → Bool
is_other_than wanted (Some t) = not (same_type t wanted)
is_other_than wanted None = false

-- as far as both are known
abbrev pub is_not_of : Option CluType → Option CluType → Bool
is_not_of (Some wanted) given = is_other_than wanted given
is_not_of None given = false

module _ (f : File) where
  -- V11: the type gives no operation of that name
  abbrev pub v11 : ℕ → Bool
  v11 n = list_any is_none (operations_at f n)

  -- V12: an invocation has another number of arguments
  abbrev pub v12 : ℕ → Bool
  v12 n = list_any has_other_count (invocations f n)

  -- ---- V13: an argument's type isn't included in the formal's, or what is invoked is no routine; a component's or
  -- element's type isn't included in that of the constructor, or the low bound isn't an int

  abbrev pub all_components_fit : Fields → Components → Bool
  all_components_fit fs no_components = true
  all_components_fit fs (component_and n names e cs) = list_all (λ name. may_be (type_of f e) (component_type fs name)) names && all_components_fit fs cs

  abbrev pub some_component_misfits : Option Fields → Components → Bool
  some_component_misfits (Some fs) cs = not (all_components_fit fs cs)
  some_component_misfits None cs = false

  abbrev pub some_element_misfits : Option CluType → Expressions → Bool
  some_element_misfits (Some t) es = not (list_all (λ given. may_fit given t) (types_of f es))
  some_element_misfits None es = false

  abbrev pub has_misfit : Expression → Bool
  has_misfit (fields n t cs) = some_component_misfits (components_of (type_settled f.scope t)) cs
  has_misfit (elements n t es) = some_element_misfits (element_of (type_settled f.scope t)) es
  has_misfit (elements_from n t low es) = is_other_than int_type (type_of f low) || some_element_misfits (element_of (type_settled f.scope t)) es
  has_misfit _ = false

  abbrev pub is_misfit : NodeKind → ℕ → Bool
  is_misfit kind.Fields n = is_object_wanted (wanted f n) && has_misfit (item f n).expression
  is_misfit kind.Elems n = is_object_wanted (wanted f n) && has_misfit (item f n).expression
  is_misfit _ n = false

  abbrev pub v13 : ℕ → Bool
  v13 n = list_any has_other_types (invocations f n) || is_misfit (kind_in f n) n

  -- ---- V14, of expressions: not exactly one result; or a type, a type set or a cluster where an object is wanted

  -- modules that are no routines are clusters, and stream is a type
  abbrev pub names_no_object : ℕ → Identifier → Meaning → Bool
  names_no_object n name (is_equate c) = is_type_value (value_settled f.scope c) || is_set_name f n name
  names_no_object n name is_type_set = true
  names_no_object n name (is_type_parameter k) = true
  names_no_object n name is_module = not (is_module_routine f n name)
  names_no_object n name _ = false

  abbrev pub is_no_object_name : ℕ → Identifier → Bool
  is_no_object_name n name = names_no_object n name (meaning f n name)

  abbrev pub is_no_object_index : Expression → Bool
  is_no_object_index (an_index n (a_name m name) cs) = takes_actuals f m name && is_no_object_name m name
  is_no_object_index _ = false

  abbrev pub is_object_wanted_at : Option ℕ → Bool
  is_object_wanted_at (Some p) = is_object_wanted (wanted f p)
  is_object_wanted_at None = false

  -- a type's name before an index
  abbrev pub is_type_before_index : Wanted → ℕ → Bool
  is_type_before_index a_name_with_actuals n = is_object_wanted_at (parent f n) && not (is_of_module f n (first_name_at f n))
  is_type_before_index w n = is_object_wanted w && is_no_object_name n (first_name_at f n)

  abbrev pub is_no_object : NodeKind → ℕ → Bool
  is_no_object kind.Name n = is_type_before_index (wanted f n) n
  is_no_object kind.Index n = is_object_wanted (wanted f n) && is_no_object_index (item f n).expression
  is_no_object k n = is_type k && is_object_wanted (wanted f n)

  abbrev pub has_no_one_result : ℕ → Bool
  has_no_one_result n = is_one_wanted (kind_in f n) (wanted f n) && list_any has_not_one_result (invocations f n)

  abbrev pub is_not_one_object : ℕ → Bool
  is_not_one_object n = has_no_one_result n || is_no_object (kind_in f n) n

  -- ---- V16, of cand and cor

  abbrev pub has_no_bool_operand : Sugar → Expression → Expression → Bool
  has_no_bool_operand is_cand a b = is_other_than bool_type (type_of f a) || is_other_than bool_type (type_of f b)
  has_no_bool_operand is_cor a b = is_other_than bool_type (type_of f a) || is_other_than bool_type (type_of f b)
  has_no_bool_operand _ a b = false

  abbrev pub is_no_condition : Expression → Bool
  is_no_condition (an_infix n op a b) = has_no_bool_operand (sugar op) a b
  is_no_condition _ = false

  abbrev pub has_no_bool : NodeKind → ℕ → Bool
  has_no_bool kind.Infix n = is_object_wanted (wanted f n) && is_no_condition (item f n).expression
  has_no_bool _ n = false

  -- ---- V17: a selector stands twice, a constructor has not exactly the selectors of its type, or its type has no such
  -- constructor

  abbrev pub has_other_selectors : Option Fields → List Identifier → Bool
  has_other_selectors (Some fs) names = not (list_all (is_selector_of fs) names && has_each fs names)
  has_other_selectors None names = true

  abbrev pub has_no_constructor : Expression → Bool
  has_no_constructor (fields n t cs) = has_other_selectors (components_of (type_settled f.scope t)) (selectors_of cs)
  has_no_constructor (elements n t es) = is_none (element_of (type_settled f.scope t))
  has_no_constructor (elements_from n t low es) = not (is_array (type_settled f.scope t))
  has_no_constructor _ = false

  abbrev pub v17_at : NodeKind → ℕ → Bool
  v17_at kind.FieldT n = stands_twice (names f n) || stands_before f kind.FieldT n
  v17_at kind.FieldE n = stands_twice (names f n) || stands_before f kind.FieldE n
  v17_at kind.Fields n = is_object_wanted (wanted f n) && has_no_constructor (item f n).expression
  v17_at kind.Elems n = is_object_wanted (wanted f n) && has_no_constructor (item f n).expression
  v17_at _ n = false

  abbrev pub v17 : ℕ → Bool
  v17 n = v17_at (kind_in f n) n

  -- ---- what is asked of types

  abbrev pub is_broken : ℕ → Asked → Bool
  is_broken n a = not (is_met f n a)

  -- V18: what a `has` clause or a built-in operation asks is not met
  abbrev pub v18 : ℕ → Bool
  v18 n = list_any (λ a. not a.in_set && is_broken n a) (asks_at f n)

  -- V20: what an `in` clause asks is not met
  abbrev pub v20 : ℕ → Bool
  v20 n = list_any (λ a. a.in_set && is_broken n a) (asks_at f n)

  -- ---- V32: up takes an object of exactly `rep`, down one of the cluster's type with its own parameters; without `rep`
  -- neither stands, and a `rep` that is refused asks nothing

  abbrev pub has_no_rep : ℕ → Bool
  has_no_rep n = is_none (own_type f n) || is_none (equate_named f n (codes "rep"))

  abbrev pub is_misplaced : Expression → Bool
  is_misplaced (an_up n e) = has_no_rep n || is_not_of (representation f n) (type_of f e)
  is_misplaced (a_down n e) = has_no_rep n || is_not_of (own_type f n) (type_of f e)
  is_misplaced _ = false

  abbrev pub v32_at : NodeKind → ℕ → Bool
  v32_at kind.Up n = is_object_wanted (wanted f n) && is_misplaced (item f n).expression
  v32_at kind.Down n = is_object_wanted (wanted f n) && is_misplaced (item f n).expression
  v32_at _ n = false

  abbrev pub v32 : ℕ → Bool
  v32 n = v32_at (kind_in f n) n

  -- ---- V36, of expressions: an iterator is invoked outside for

  abbrev pub is_iterator_misused : ℕ → Bool
  is_iterator_misused n = not (is_loop_call (wanted f n)) && list_any invokes_iterator (invocations f n)
