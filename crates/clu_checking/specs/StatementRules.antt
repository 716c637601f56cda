-- The rules on statements: V15 AssignType, V21 NotTagged, V22 TagMissingOrTwice, V28 NotInLoop, V29 NotInIterator,
-- V30 ReturnValues, and with those on expressions V14 ResultCount, V16 NotBool and V36 IteratorUse.
use Rattle.std.specs.Prelude.{ℕ, suc, ◌==◌, ◌&&◌, ◌||◌, nat_lt, not, Bool, true, false, List, [], ◌∷◌, length, map, flat_map, is_none, bytes_eq, if◌then◌else◌, Option, Some, None}
use Rattle.std.specs.List.{list_any, list_all}
use Rattle.std.specs.Option.{option_and_then}
use Rattle.clu_types.specs.CluType.{CluType, bool_type, oneof_of, variant_of, CluTypes, no_types, type_and, Fields, no_fields, field_and}
use Rattle.clu_layout.specs.SameType.{is_routine_type}
use Rattle.clu_tree.specs.declared.node.NodeKind.{NodeKind}
use Rattle.clu_tree.specs.declared.node.NodeKind.TheVariants as kind
use Rattle.clu_syntax.specs.declared.words.RoutineKind.{RoutineKind}
use Rattle.clu_syntax.specs.declared.words.RoutineKind.TheVariants as routine_kind
use Rattle.clu_syntax.specs.Syntax.{Identifier, Expression, a_call, Expressions, no_expressions, expression_and, Typed, Variable, Statement, an_init, a_call_init, an_assign, a_while, a_for, a_for_of_names, an_if, a_tagcase, a_return, a_yield, Clauses, no_clauses, clause_and, Otherwise, nothing_else, otherwise, Own, own_variables, own_init, own_call_init, Routine}
use Rattle.clu_syntax.specs.Items.{TagArm}
use Rattle.clu_meaning.specs.Scoping.{Meaning, is_local, is_own_of_routine, is_own_of_cluster}
use Rattle.clu_checking.specs.Files.{File, item, kind_in, is_kind, parent, children, meaning, round, routine_round}
use Rattle.clu_checking.specs.Headings.{type_inside, results_inside}
use Rattle.clu_checking.specs.Typing.{type_of, results_of}
use Rattle.clu_checking.specs.Invocations.{types_of}
use Rattle.clu_checking.specs.NameRules.{stands_twice, siblings_before}
use Rattle.clu_checking.specs.Operations.{may_fit}
use Rattle.clu_checking.specs.ExpressionRules.{count, all_may_fit, is_iterator, is_other_than, component_type, is_selector_of, is_not_one_object, has_no_bool, is_iterator_misused}

-- ---- lists of types

abbrev pub as_list : CluTypes → List CluType
as_list no_types = []
as_list (type_and t ts) = t ∷ as_list ts

abbrev pub in_order : List CluType → CluTypes
in_order [] = no_types
in_order (t ∷ ts) = type_and t (in_order ts)

abbrev pub known : List CluType → List (Option CluType)
known ts = map (λ t. Some t) ts

-- as many as are wanted, each included
abbrev pub fit : List (Option CluType) → CluTypes → Bool
fit given wanted = length given == count wanted && all_may_fit given wanted

abbrev pub number_of : Expressions → ℕ
number_of no_expressions = 0
number_of (expression_and e es) = suc (number_of es)

-- what a statement binds: variables, each with its type unless the target is none, and the types of the objects. The
-- list is empty if nothing is bound, or not known what.
pub record Binding : Type 0 where
  pub variables : List (Option CluType)
  pub objects : List (Option CluType)

-- ---- tags

abbrev pub tags_of : CluType → Option Fields
tags_of (oneof_of fs) = Some fs
tags_of (variant_of fs) = Some fs
tags_of _ = None

abbrev pub count_of : Fields → ℕ
count_of no_fields = 0
count_of (field_and tag t fs) = suc (count_of fs)

abbrev pub has_others : Otherwise → Bool
has_others nothing_else = false
has_others (otherwise body) = true

abbrev pub is_none_tagged : Option CluType → Bool
is_none_tagged (Some t) = is_none (tags_of t)
is_none_tagged None = false

abbrev pub is_procedure : RoutineKind → Bool
is_procedure routine_kind.Procedure = true
is_procedure routine_kind.Iterator = false

module _ (f : File) where
  -- ---- variables, and the objects that they are to name

  -- the types of the variables of declarations, one for each name
  abbrev pub declared_types : List Typed → List CluType
  declared_types ds = flat_map (λ d. map (λ name. type_inside f d.node d.type) d.names) ds

  -- the results of an invocation, if a routine is invoked
  abbrev pub results_if : Bool → CluType → List (List (Option CluType))
  results_if true t = known (as_list (results_of t)) ∷ []
  results_if false t = []

  abbrev pub results_by : Option CluType → List (List (Option CluType))
  results_by (Some t) = results_if (is_routine_type t) t
  results_by None = []

  abbrev pub call_results : Expression → List (List (Option CluType))
  call_results (a_call n e es) = results_by (type_of f e)
  call_results _ = []

  -- the type of a variable that is assigned to, if the name is one of a variable
  abbrev pub variable_type : ℕ → Meaning → Option CluType
  variable_type n (is_local t) = Some (type_inside f n t)
  variable_type n (is_own_of_routine t) = Some (type_inside f n t)
  variable_type n (is_own_of_cluster t) = Some (type_inside f n t)
  variable_type n _ = None

  abbrev pub target_types : ℕ → List Identifier → List (Option CluType)
  target_types n names = map (λ name. variable_type n (meaning f n name)) names

  abbrev pub bound_to : List (Option CluType) → List (List (Option CluType)) → List Binding
  bound_to variables given = map (λ objects. record { variables = variables; objects = objects }) given

  -- several variables take all results of one invocation
  abbrev pub assigned : ℕ → List Identifier → Expressions → List Binding
  assigned n (x ∷ y ∷ names) (expression_and (a_call m e es) no_expressions) = bound_to (target_types n (x ∷ y ∷ names)) (call_results (a_call m e es))
  assigned n names es = bound_to (target_types n names) (types_of f es ∷ [])

  abbrev pub initialised : ℕ → Variable → Expression → List Binding
  initialised n x e = bound_to (Some (type_inside f n x.type) ∷ []) ((type_of f e ∷ []) ∷ [])

  abbrev pub bound_by : Statement → List Binding
  bound_by (an_init n x e) = initialised n x e
  bound_by (a_call_init n ds e) = bound_to (known (declared_types ds)) (call_results e)
  bound_by (an_assign n names es) = assigned n names es
  bound_by (a_for n ds e body) = bound_to (known (declared_types ds)) (call_results e)
  bound_by (a_for_of_names n names e body) = bound_to (target_types n names) (call_results e)
  bound_by _ = []

  abbrev pub owned_by : Own → List Binding
  owned_by (own_variables n ds) = []
  owned_by (own_init n x e) = initialised n x e
  owned_by (own_call_init n ds e) = bound_to (known (declared_types ds)) (call_results e)

  abbrev pub bindings_in : NodeKind → ℕ → List Binding
  bindings_in kind.Init n = bound_by (item f n).statement
  bindings_in kind.Assign n = bound_by (item f n).statement
  bindings_in kind.For n = bound_by (item f n).statement
  bindings_in kind.Own n = owned_by (item f n).own
  bindings_in _ n = []

  abbrev pub bindings_at : ℕ → List Binding
  bindings_at n = bindings_in (kind_in f n) n

  -- V14: an expression has not exactly one result, or a statement another number of variables than objects
  abbrev pub v14 : ℕ → Bool
  v14 n = is_not_one_object f n || list_any (λ b. not (length b.variables == length b.objects)) (bindings_at n)

  -- ---- V15: an object's type isn't included in the variable's, or the target is no variable

  abbrev pub may_name : List (Option CluType) → List (Option CluType) → Bool
  may_name (Some t ∷ variables) (given ∷ objects) = may_fit given t && may_name variables objects
  may_name (None ∷ variables) (given ∷ objects) = false
  may_name _ _ = true

  -- ---- tagcase

  abbrev pub tagged_by : Statement → Option CluType
  tagged_by (a_tagcase n e arms other) = type_of f e
  tagged_by _ = None

  abbrev pub tagged_at : Option ℕ → Option CluType
  tagged_at (Some p) = tagged_by (item f p).statement
  tagged_at None = None

  -- the tags of the type on which the Tagcase round an arm selects
  abbrev pub tags_round : ℕ → Option Fields
  tags_round n = option_and_then tags_of (tagged_at (parent f n))

  -- the variable of an arm may name the objects of its tags
  abbrev pub takes_tags : CluType → Fields → List Identifier → Bool
  takes_tags t fs names = list_all (λ name. may_fit (component_type fs name) t) names

  abbrev pub arm_misfits : ℕ → TagArm → Option Variable → Option Fields → Bool
  arm_misfits n arm (Some x) (Some fs) = not (takes_tags (type_inside f n x.type) fs arm.tags)
  arm_misfits n arm _ _ = false

  abbrev pub v15_in : NodeKind → ℕ → Bool
  v15_in kind.TagArm n = arm_misfits n (item f n).tag_arm (item f n).tag_arm.variable (tags_round n)
  v15_in k n = list_any (λ b. not (may_name b.variables b.objects)) (bindings_in k n)

  abbrev pub v15 : ℕ → Bool
  v15 n = v15_in (kind_in f n) n

  -- ---- V16: a condition, or an operand of cand or cor, isn't bool

  abbrev pub some_other_condition : Clauses → Bool
  some_other_condition no_clauses = false
  some_other_condition (clause_and e body cs) = is_other_than bool_type (type_of f e) || some_other_condition cs

  abbrev pub has_other_condition : Statement → Bool
  has_other_condition (an_if n cs other) = some_other_condition cs
  has_other_condition (a_while n e body) = is_other_than bool_type (type_of f e)
  has_other_condition _ = false

  abbrev pub v16_in : NodeKind → ℕ → Bool
  v16_in kind.If n = has_other_condition (item f n).statement
  v16_in kind.While n = has_other_condition (item f n).statement
  v16_in k n = has_no_bool f k n

  abbrev pub v16 : ℕ → Bool
  v16 n = v16_in (kind_in f n) n

  -- ---- V21: tagcase on no oneof or variant

  abbrev pub v21_in : NodeKind → ℕ → Bool
  v21_in kind.Tagcase n = is_none_tagged (tagged_by (item f n).statement)
  v21_in _ n = false

  abbrev pub v21 : ℕ → Bool
  v21 n = v21_in (kind_in f n) n

  -- ---- V22: an arm names a foreign tag, or one that stands before it; or a tag is left without others

  abbrev pub tags_at : ℕ → List Identifier
  tags_at n = if is_kind f kind.TagArm n then (item f n).tag_arm.tags else []

  abbrev pub tags_before : ℕ → List Identifier
  tags_before n = flat_map tags_at (siblings_before f n)

  abbrev pub has_bad_tag : ℕ → Option Fields → List Identifier → Bool
  has_bad_tag n (Some fs) tags = not (list_all (is_selector_of fs) tags) || stands_twice tags || list_any (λ tag. list_any (bytes_eq tag) (tags_before n)) tags
  has_bad_tag n None tags = false

  -- fewer are named than there are: no arm names a foreign tag, or one of another arm
  abbrev pub leaves_tag : Option Fields → List Identifier → Otherwise → Bool
  leaves_tag (Some fs) tags nothing_else = nat_lt (length tags) (count_of fs)
  leaves_tag _ tags other = false

  abbrev pub leaves_some_tag : ℕ → Statement → Bool
  leaves_some_tag n (a_tagcase m e arms other) = leaves_tag (option_and_then tags_of (type_of f e)) (flat_map tags_at (children f n)) other
  leaves_some_tag n _ = false

  abbrev pub v22_in : NodeKind → ℕ → Bool
  v22_in kind.TagArm n = has_bad_tag n (tags_round n) (item f n).tag_arm.tags
  v22_in kind.Tagcase n = leaves_some_tag n (item f n).statement
  v22_in _ n = false

  abbrev pub v22 : ℕ → Bool
  v22 n = v22_in (kind_in f n) n

  -- V28: break or continue outside a loop of the routine
  abbrev pub v28 : ℕ → Bool
  v28 n = (is_kind f kind.Break n || is_kind f kind.Continue n) && not (round f n).in_loop

  -- ---- V29 and V30: yield outside an iterator; number or types of return or yield don't fit the heading

  abbrev pub is_in_procedure : Option Routine → Bool
  is_in_procedure (Some r) = is_procedure r.kind
  is_in_procedure None = true

  abbrev pub v29 : ℕ → Bool
  v29 n = is_kind f kind.Yield n && is_in_procedure (routine_round f n)

  abbrev pub results_round : Option Routine → CluTypes
  results_round (Some r) = results_inside f r.node r.results
  results_round None = no_types

  -- what a return gives: an iterator nothing
  abbrev pub returned : Bool → ℕ → CluTypes
  returned true n = results_round (routine_round f n)
  returned false n = no_types

  abbrev pub gives_other : ℕ → Statement → Bool
  gives_other n (a_return m es) = not (fit (types_of f es) (returned (is_in_procedure (routine_round f n)) n))
  gives_other n (a_yield m es) = not (fit (types_of f es) (results_round (routine_round f n)))
  gives_other n _ = false

  abbrev pub v30_in : NodeKind → ℕ → Bool
  v30_in kind.Return n = gives_other n (item f n).statement
  v30_in kind.Yield n = gives_other n (item f n).statement
  v30_in _ n = false

  abbrev pub v30 : ℕ → Bool
  v30 n = v30_in (kind_in f n) n

  -- ---- V36: an iterator is invoked outside for, or for is over no iterator

  abbrev pub is_other_than_iterator : Option CluType → Bool
  is_other_than_iterator (Some t) = not (is_iterator t)
  is_other_than_iterator None = false

  abbrev pub invoked_by : Expression → Option CluType
  invoked_by (a_call n e es) = type_of f e
  invoked_by _ = None

  abbrev pub loops_over : Statement → Option CluType
  loops_over (a_for n ds e body) = invoked_by e
  loops_over (a_for_of_names n names e body) = invoked_by e
  loops_over _ = None

  abbrev pub v36_in : NodeKind → ℕ → Bool
  v36_in kind.For n = is_other_than_iterator (loops_over (item f n).statement)
  v36_in k n = is_iterator_misused f n

  abbrev pub v36 : ℕ → Bool
  v36 n = v36_in (kind_in f n) n
