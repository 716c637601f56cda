-- What a node of each kind is, production by production, where `items` says what the nodes before it are.
use Rattle.std.specs.Prelude.{ℕ, zero, suc, ◌+◌, nat_lt, if◌then◌else◌, Bool, true, false, List, [], ◌∷◌, length, take, drop, slice_get, Option, Some, None}
use Rattle.clu_tree.specs.declared.node.Node.{Node}
use Rattle.clu_tree.specs.declared.node.NodeKind.{NodeKind}
use Rattle.clu_tree.specs.declared.node.NodeKind.TheVariants as kind
use Rattle.clu_syntax.specs.Kinds.{is_expression, is_type, kind_at}
use Rattle.clu_syntax.specs.Splits.{child, last_child, name_at, first_name, last_name, but_last, last_option, leading_types, leading_before, run, after_run, parts, after_one, one_of, type_of, after_option}
use Rattle.clu_syntax.specs.Syntax.{Identifier, Expression, an_infix, a_prefix, a_paren, a_literal, a_name, an_index, a_get, a_call, fields, elements, elements_from, an_operation, a_force, an_up, a_down, Constant, an_expression, a_type, TypeExpression, a_simple_type, a_list_type, a_fields_type, a_routine_type, a_named_type, Typed, Component, Exception, Equate, an_equate, a_set_equate, TypeSet, a_type_set, Taken, objects, any_objects, Statement, a_declare, an_init, a_call_init, an_assign, a_set_field, a_set_index, a_call_statement, a_while, a_for, a_for_of_names, an_if, a_tagcase, a_return, a_yield, a_signal, an_exit, a_break, a_continue, a_begin, a_resignal, an_except, Body, a_body, Clauses, no_clauses, clause_and, Otherwise, nothing_else, otherwise, Others, no_others, others, Parameter, Own, own_variables, own_init, own_call_init, Restriction, has_operations, is_in, is_in_set, Routine, Cluster, Module, a_routine, a_cluster}
use Rattle.clu_syntax.specs.Items.{Item, TagArm, When, no_item, no_type, no_typed, expressions_at, components_at, constants_at, types_at, selectors_at, exceptions_at, operations_at, declarations_at, equates_at, statements_at, tag_arms_at, whens_at, others_at, parameters_at, restrictions_at, owns_at, routines_at, modules_at, variable_of, type_of_option}
use Rattle.clu_syntax.specs.Words.{symbol_in, infix_operator, sign, simple_type, list_type, fields_type, routine_kind, literal_of}

-- constant = expr / type
abbrev pub constant_of : Bool → Expression → TypeExpression → Constant
constant_of true e t = a_type t
constant_of false e t = an_expression e

-- `rep` has no name
abbrev pub equate_name : List Identifier → Option Identifier
equate_name [] = None
equate_name (name ∷ names) = Some name

-- the last name of an arm is that of its variable, if there is one
abbrev pub tags_of : Option ℕ → List Identifier → List Identifier
tags_of None names = names
tags_of (Some c) names = but_last names

module _ (items : ℕ → Item) (nodes : List Node) where
  -- type "$" "[" [expr ":"] [expr#] "]": the first expression is the low bound, if there is a `:`
  abbrev pub elements_of : ℕ → TypeExpression → Option ℕ → List ℕ → Expression
  elements_of n t None cs = elements n t (expressions_at items cs)
  elements_of n t (Some token) [] = elements n t (expressions_at items [])
  elements_of n t (Some token) (c ∷ cs) = elements_from n t (items c).expression (expressions_at items cs)

  abbrev pub expression_of : ℕ → Node → NodeKind → Expression
  expression_of n node kind.Infix = an_infix n (infix_operator (symbol_in node.value)) (items (child 0 node)).expression (items (child 1 node)).expression
  expression_of n node kind.Prefix = a_prefix n (sign (symbol_in node.value)) (items (child 0 node)).expression
  expression_of n node kind.Paren = a_paren n (items (child 0 node)).expression
  expression_of n node kind.Literal = a_literal n (literal_of node.value)
  expression_of n node kind.Name = a_name n (first_name node.names)
  expression_of n node kind.Index = an_index n (items (child 0 node)).expression (constants_at items (drop 1 node.children))
  expression_of n node kind.Get = a_get n (items (child 0 node)).expression (first_name node.names)
  expression_of n node kind.Call = a_call n (items (child 0 node)).expression (expressions_at items (drop 1 node.children))
  expression_of n node kind.Fields = fields n (items (child 0 node)).type (components_at items (run nodes kind.FieldE (drop 1 node.children)))
  expression_of n node kind.Elems = elements_of n (items (child 0 node)).type node.value_token (drop 1 node.children)
  expression_of n node kind.OperOf = an_operation n (items (child 0 node)).type (first_name node.names)
  expression_of n node kind.Force = a_force n (items (child 0 node)).type
  expression_of n node kind.Up = an_up n (items (child 0 node)).expression
  expression_of n node kind.Down = a_down n (items (child 0 node)).expression
  expression_of n node _ = a_name n node.value

  abbrev pub routine_type_of : ℕ → Node → List ℕ → List ℕ → TypeExpression
  routine_type_of n node args rest =
      a_routine_type n (routine_kind (symbol_in node.value)) (types_at items args) (types_at items (parts nodes kind.Results rest))
      (exceptions_at items (run nodes kind.Exc (parts nodes kind.Signals (after_one nodes kind.Results rest))))

  abbrev pub type_expression_of : ℕ → Node → NodeKind → TypeExpression
  type_expression_of n node kind.ListT = a_list_type n (list_type (symbol_in node.value)) (items (child 0 node)).type
  type_expression_of n node kind.FieldsT = a_fields_type n (fields_type (symbol_in node.value)) (selectors_at items (run nodes kind.FieldT node.children))
  type_expression_of n node kind.RoutineT = routine_type_of n node (take (leading_types nodes node.children) node.children) (drop (leading_types nodes node.children) node.children)
  type_expression_of n node kind.NameT = a_named_type n (first_name node.names) (constants_at items node.children)
  type_expression_of n node _ = a_simple_type n (simple_type (symbol_in node.value))

  abbrev pub typed_of : ℕ → Node → Typed
  typed_of n node = record { node = n; names = node.names; type = (items (child 0 node)).type }

  abbrev pub selector_of : ℕ → Node → NodeKind → Typed
  selector_of n node kind.FieldT = typed_of n node
  selector_of n node _ = no_typed

  abbrev pub operation_of : ℕ → Node → NodeKind → Typed
  operation_of n node kind.Oper = typed_of n node
  operation_of n node _ = no_typed

  abbrev pub declaration_of : ℕ → Node → NodeKind → Typed
  declaration_of n node kind.Decl = typed_of n node
  declaration_of n node _ = no_typed

  abbrev pub component_from : ℕ → Node → Component
  component_from n node = record { node = n; names = node.names; value = (items (child 0 node)).expression }

  abbrev pub component_of : ℕ → Node → NodeKind → Component
  component_of n node kind.FieldE = component_from n node
  component_of n node _ = no_item.component

  abbrev pub exception_from : ℕ → Node → Exception
  exception_from n node = record { node = n; name = first_name node.names; types = types_at items node.children }

  abbrev pub exception_of : ℕ → Node → NodeKind → Exception
  exception_of n node kind.Exc = exception_from n node
  exception_of n node _ = no_item.exception

  abbrev pub type_set_from : ℕ → Node → TypeSet
  type_set_from n node =
      a_type_set n (first_name node.names) (name_at 1 node.names) (operations_at items (run nodes kind.Oper node.children))
      (equates_at items (run nodes kind.Equate (after_run nodes kind.Oper node.children)))

  abbrev pub type_set_of : ℕ → Node → NodeKind → TypeSet
  type_set_of n node kind.TypeSet = type_set_from n node
  type_set_of n node _ = no_item.type_set

  -- the right side is a type set, or a constant
  abbrev pub equated : ℕ → Option Identifier → NodeKind → ℕ → Equate
  equated n name kind.TypeSet c = a_set_equate n name (items c).type_set
  equated n name _ c = an_equate n name (items c).constant

  abbrev pub equate_of : ℕ → Node → NodeKind → Equate
  equate_of n node kind.Equate = equated n (equate_name node.names) (kind_at nodes (child 0 node)) (child 0 node)
  equate_of n node _ = no_item.equate

  -- {Equate} {stmt}
  abbrev pub body_of : List ℕ → Body
  body_of cs = a_body (equates_at items (run nodes kind.Equate cs)) (statements_at items (after_run nodes kind.Equate cs))

  -- the items before the first condition, and the clauses from it on
  abbrev pub split_clauses : List ℕ → List ℕ × Clauses
  split_clauses [] = ([], no_clauses)
  split_clauses (c ∷ cs) =
      let rest = split_clauses cs in
      if is_expression (kind_at nodes c) then ([], clause_and (items c).expression (body_of rest.0) rest.1)
      else (c ∷ rest.0, rest.1)

  abbrev pub clauses_of : List ℕ → Clauses
  clauses_of cs = (split_clauses cs).1

  -- the body after `else` or `others`, if that is the value of the node
  abbrev pub otherwise_of : Option ℕ → List ℕ → Otherwise
  otherwise_of None cs = nothing_else
  otherwise_of (Some token) cs = otherwise (body_of cs)

  -- idn ":" type ":=" expr / Decl# ":=" Call
  abbrev pub init_of : ℕ → Node → List Identifier → Statement
  init_of n node [] = a_call_init n (declarations_at items (run nodes kind.Decl node.children)) (items (last_child node)).expression
  init_of n node (name ∷ names) = an_init n (record { name = name; type = (items (child 0 node)).type }) (items (child 1 node)).expression

  -- the call is the first child after the declarations
  abbrev pub for_of : ℕ → List Identifier → List ℕ → List ℕ → Statement
  for_of n names decls [] = a_break n
  for_of n [] decls (c ∷ cs) = a_for n (declarations_at items decls) (items c).expression (body_of cs)
  for_of n (name ∷ names) decls (c ∷ cs) = a_for_of_names n (name ∷ names) (items c).expression (body_of cs)

  -- the clauses, and the body after `else`, which begins after so many children
  abbrev pub if_of : ℕ → Node → ℕ → Statement
  if_of n node count = an_if n (clauses_of (take count node.children)) (otherwise_of node.value_token (drop count node.children))

  abbrev pub tagcase_of : ℕ → ℕ → Option ℕ → List ℕ → Statement
  tagcase_of n of value cs = a_tagcase n (items of).expression (tag_arms_at items (run nodes kind.TagArm cs)) (otherwise_of value (after_run nodes kind.TagArm cs))

  abbrev pub except_of : ℕ → ℕ → List ℕ → Statement
  except_of n s cs = an_except n (items s).statement (whens_at items (run nodes kind.When cs)) (others_at items (one_of nodes kind.Others (after_run nodes kind.When cs)))

  abbrev pub statement_of : ℕ → Node → NodeKind → Statement
  statement_of n node kind.Declare = a_declare n (items (child 0 node)).declaration
  statement_of n node kind.Init = init_of n node node.names
  statement_of n node kind.Assign = an_assign n node.names (expressions_at items node.children)
  statement_of n node kind.SetField = a_set_field n (items (child 0 node)).expression (first_name node.names) (items (child 1 node)).expression
  statement_of n node kind.SetIndex = a_set_index n (items (child 0 node)).expression (items (child 1 node)).expression (items (child 2 node)).expression
  statement_of n node kind.CallS = a_call_statement n (items (child 0 node)).expression
  statement_of n node kind.While = a_while n (items (child 0 node)).expression (body_of (drop 1 node.children))
  statement_of n node kind.For = for_of n node.names (run nodes kind.Decl node.children) (after_run nodes kind.Decl node.children)
  statement_of n node kind.If = if_of n node (leading_before nodes node node.children)
  statement_of n node kind.Tagcase = tagcase_of n (child 0 node) node.value_token (drop 1 node.children)
  statement_of n node kind.Return = a_return n (expressions_at items node.children)
  statement_of n node kind.Yield = a_yield n (expressions_at items node.children)
  statement_of n node kind.Signal = a_signal n (first_name node.names) (expressions_at items node.children)
  statement_of n node kind.Exit = an_exit n (first_name node.names) (expressions_at items node.children)
  statement_of n node kind.Continue = a_continue n
  statement_of n node kind.Begin = a_begin n (body_of node.children)
  statement_of n node kind.Resignal = a_resignal n (items (child 0 node)).statement node.names
  statement_of n node kind.Except = except_of n (child 0 node) (drop 1 node.children)
  statement_of n node _ = a_break n

  abbrev pub tag_arm_with : ℕ → Node → Option ℕ → TagArm
  tag_arm_with n node t = record { node = n; tags = tags_of t node.names; variable = variable_of items (last_option node.names) t; body = body_of (after_option t node.children) }

  abbrev pub tag_arm_of : ℕ → Node → NodeKind → TagArm
  tag_arm_of n node kind.TagArm = tag_arm_with n node (type_of nodes node.children)
  tag_arm_of n node _ = no_item.tag_arm

  -- `*` is the value
  abbrev pub taken_of : Option ℕ → List ℕ → Taken
  taken_of None decls = objects (declarations_at items decls)
  taken_of (Some token) decls = any_objects

  abbrev pub when_from : ℕ → Node → When
  when_from n node = record { node = n; names = node.names; taken = taken_of node.value_token (run nodes kind.Decl node.children); body = body_of (after_run nodes kind.Decl node.children) }

  abbrev pub when_of : ℕ → Node → NodeKind → When
  when_of n node kind.When = when_from n node
  when_of n node _ = no_item.when

  abbrev pub others_with : ℕ → Node → Option ℕ → Others
  others_with n node t = others n (variable_of items (last_option node.names) t) (body_of (after_option t node.children))

  abbrev pub others_of : ℕ → Node → NodeKind → Others
  others_of n node kind.Others = others_with n node (type_of nodes node.children)
  others_of n node _ = no_others

  -- `type` is a value and no child
  abbrev pub parameter_from : ℕ → Node → Parameter
  parameter_from n node = record { node = n; names = node.names; type = type_of_option items (type_of nodes node.children) }

  abbrev pub parameter_of : ℕ → Node → NodeKind → Parameter
  parameter_of n node kind.Parm = parameter_from n node
  parameter_of n node _ = no_item.parameter

  abbrev pub restricted : ℕ → List Identifier → Option ℕ → List ℕ → Restriction
  restricted n names (Some c) cs = is_in_set n (first_name names) (items c).type_set
  restricted n (a ∷ b ∷ names) None cs = is_in n a b
  restricted n names None cs = has_operations n (first_name names) (operations_at items cs)

  abbrev pub restriction_of : ℕ → Node → NodeKind → Restriction
  restriction_of n node kind.Restrict = restricted n node.names (one_of nodes kind.TypeSet node.children) (run nodes kind.Oper node.children)
  restriction_of n node _ = no_item.restriction

  -- Decl# / idn ":" type ":=" expr / Decl# ":=" Call; the declarations, and what stands after them
  abbrev pub owned : ℕ → List Identifier → List ℕ → List ℕ → Own
  owned n [] decls [] = own_variables n (declarations_at items decls)
  owned n [] decls (c ∷ cs) = own_call_init n (declarations_at items decls) (items c).expression
  owned n (name ∷ names) decls (c ∷ d ∷ cs) = own_init n (record { name = name; type = (items c).type }) (items d).expression
  owned n (name ∷ names) decls _ = own_variables n (declarations_at items decls)

  abbrev pub own_of : ℕ → Node → NodeKind → Own
  own_of n node kind.Own = owned n node.names (run nodes kind.Decl node.children) (after_run nodes kind.Decl node.children)
  own_of n node _ = no_item.own

  -- what stands after the arguments of a routine: [Results] [Signals] [Where] {Equate} {Own} {stmt}
  abbrev pub routine_from : ℕ → Node → List ℕ → List ℕ → Routine
  routine_from n node cs rest =
      let after_results = after_one nodes kind.Results rest in
      let after_signals = after_one nodes kind.Signals after_results in
      let after_where = after_one nodes kind.Where after_signals in
      let after_equates = after_run nodes kind.Equate after_where in
      record {
        node = n;
        name = first_name node.names;
        closing = last_name node.names;
        kind = routine_kind (symbol_in node.value);
        parameters = parameters_at items (run nodes kind.Parm cs);
        arguments = declarations_at items (run nodes kind.Decl (after_run nodes kind.Parm cs));
        results = types_at items (parts nodes kind.Results rest);
        signals = exceptions_at items (run nodes kind.Exc (parts nodes kind.Signals after_results));
        restrictions = restrictions_at items (run nodes kind.Restrict (parts nodes kind.Where after_signals));
        equates = equates_at items (run nodes kind.Equate after_where);
        owns = owns_at items (run nodes kind.Own after_equates);
        statements = statements_at items (after_run nodes kind.Own after_equates);
      }

  abbrev pub routine_of : ℕ → Node → NodeKind → Routine
  routine_of n node kind.Routine = routine_from n node node.children (after_run nodes kind.Decl (after_run nodes kind.Parm node.children))
  routine_of n node _ = no_item.routine

  -- what stands after the parameters of a cluster: [Where] {Equate} {Own} Routine {Routine}
  abbrev pub cluster_from : ℕ → Node → List ℕ → List ℕ → Cluster
  cluster_from n node cs rest =
      let after_where = after_one nodes kind.Where rest in
      let after_equates = after_run nodes kind.Equate after_where in
      record {
        node = n;
        name = first_name node.names;
        closing = last_name node.names;
        parameters = parameters_at items (run nodes kind.Parm cs);
        exports = drop 1 (but_last node.names);
        restrictions = restrictions_at items (run nodes kind.Restrict (parts nodes kind.Where rest));
        equates = equates_at items (run nodes kind.Equate after_where);
        owns = owns_at items (run nodes kind.Own after_equates);
        routines = routines_at items (run nodes kind.Routine (after_run nodes kind.Own after_equates));
      }

  abbrev pub cluster_of : ℕ → Node → NodeKind → Cluster
  cluster_of n node kind.Cluster = cluster_from n node node.children (after_run nodes kind.Parm node.children)
  cluster_of n node _ = no_item.cluster

  -- {Equate} (Routine / Cluster)
  abbrev pub defined : ℕ → List ℕ → NodeKind → ℕ → Module
  defined n equates kind.Cluster c = a_cluster n (equates_at items equates) (items c).cluster
  defined n equates _ c = a_routine n (equates_at items equates) (items c).routine

  abbrev pub module_of : ℕ → Node → NodeKind → Module
  module_of n node kind.Module = defined n (run nodes kind.Equate node.children) (kind_at nodes (last_child node)) (last_child node)
  module_of n node _ = no_item.module_

  abbrev pub modules_of : Node → NodeKind → List Module
  modules_of node kind.File = modules_at items (run nodes kind.Module node.children)
  modules_of node _ = []

  abbrev pub item_of : ℕ → Node → Item
  item_of n node =
      let e = expression_of n node node.kind in
      let t = type_expression_of n node node.kind in
      record {
        expression = e;
        component = component_of n node node.kind;
        type = t;
        constant = constant_of (is_type node.kind) e t;
        selector = selector_of n node node.kind;
        operation = operation_of n node node.kind;
        declaration = declaration_of n node node.kind;
        exception = exception_of n node node.kind;
        type_set = type_set_of n node node.kind;
        equate = equate_of n node node.kind;
        statement = statement_of n node node.kind;
        tag_arm = tag_arm_of n node node.kind;
        when = when_of n node node.kind;
        others = others_of n node node.kind;
        parameter = parameter_of n node node.kind;
        restriction = restriction_of n node node.kind;
        own = own_of n node node.kind;
        routine = routine_of n node node.kind;
        cluster = cluster_of n node node.kind;
        module_ = module_of n node node.kind;
        modules = modules_of node node.kind;
      }

-- what `items` says of the nodes before n
abbrev pub before : ℕ → (ℕ → Item) → ℕ → Item
before n items c = if nat_lt c n then items c else no_item

-- what the node n is, if it is there
abbrev pub item_with : (ℕ → Item) → List Node → ℕ → Option Node → Item
item_with items nodes n None = no_item
item_with items nodes n (Some node) = item_of items nodes n node

unfoldable pub item_to : List Node → ℕ → ℕ → Item
item_to nodes zero n = no_item
item_to nodes (suc steps) n = item_with (before n (item_to nodes steps)) nodes n (slice_get nodes n)

-- what the node n of a tree is
abbrev pub item_at : List Node → ℕ → Item
item_at nodes n = item_to nodes (suc n) n

-- the syntax of a file, whose node is the last one of its tree
abbrev pub file_of : List Node → List Module
file_of [] = []
file_of (node ∷ nodes) = (item_at (node ∷ nodes) (length nodes)).modules
