-- What the parts that the code gives of a node are, over what `items` says of their nodes.
use Rattle.std.specs.Prelude.{ℕ, List, [], ◌∷◌, Option, Some, None, option_map}
use Rattle.clu_tree.specs.declared.node.Node.{Node}
use Rattle.clu_syntax.specs.declared.words.RoutineKind.{RoutineKind}
use Rattle.clu_syntax.specs.declared.expressions.Expression.{Expression as ExpressionView}
use Rattle.clu_syntax.specs.declared.expressions.Expression.TheVariants as e
use Rattle.clu_syntax.specs.declared.expressions.TypeExpression.{TypeExpression as TypeView}
use Rattle.clu_syntax.specs.declared.expressions.TypeExpression.TheVariants as t
use Rattle.clu_syntax.specs.declared.expressions.Constant.{Constant as ConstantView}
use Rattle.clu_syntax.specs.declared.expressions.Constant.TheVariants as c
use Rattle.clu_syntax.specs.declared.statements.Body.{Body as BodyView}
use Rattle.clu_syntax.specs.declared.statements.Clause.{Clause as ClauseView}
use Rattle.clu_syntax.specs.declared.statements.Clauses.{Clauses as ClausesView}
use Rattle.clu_syntax.specs.declared.statements.Statement.{Statement as StatementView}
use Rattle.clu_syntax.specs.declared.statements.Statement.TheVariants as s
use Rattle.clu_syntax.specs.declared.arms.Variable.{Variable as VariableView}
use Rattle.clu_syntax.specs.declared.arms.TagArm.{TagArm as TagArmView}
use Rattle.clu_syntax.specs.declared.arms.Taken.{Taken as TakenView}
use Rattle.clu_syntax.specs.declared.arms.Taken.TheVariants as taken
use Rattle.clu_syntax.specs.declared.arms.When.{When as WhenView}
use Rattle.clu_syntax.specs.declared.arms.Others.{Others as OthersView}
use Rattle.clu_syntax.specs.declared.declarations.Typed.{Typed as TypedView}
use Rattle.clu_syntax.specs.declared.declarations.Component.{Component as ComponentView}
use Rattle.clu_syntax.specs.declared.declarations.Exception.{Exception as ExceptionView}
use Rattle.clu_syntax.specs.declared.declarations.Parameter.{Parameter as ParameterView}
use Rattle.clu_syntax.specs.declared.declarations.Restriction.{Restriction as RestrictionView}
use Rattle.clu_syntax.specs.declared.declarations.Restriction.TheVariants as r
use Rattle.clu_syntax.specs.declared.declarations.TypeSet.{TypeSet as TypeSetView}
use Rattle.clu_syntax.specs.declared.declarations.Equated.{Equated as EquatedView}
use Rattle.clu_syntax.specs.declared.declarations.Equated.TheVariants as right
use Rattle.clu_syntax.specs.declared.declarations.Equate.{Equate as EquateView}
use Rattle.clu_syntax.specs.declared.declarations.Own.{Own as OwnView}
use Rattle.clu_syntax.specs.declared.declarations.Own.TheVariants as own
use Rattle.clu_syntax.specs.declared.modules.Routine.{Routine as RoutineView}
use Rattle.clu_syntax.specs.declared.modules.Cluster.{Cluster as ClusterView}
use Rattle.clu_syntax.specs.declared.modules.Definition.{Definition as DefinitionView}
use Rattle.clu_syntax.specs.declared.modules.Definition.TheVariants as defines
use Rattle.clu_syntax.specs.declared.modules.Module.{Module as ModuleView}
use Rattle.clu_syntax.specs.Syntax.{Identifier, Expression, an_infix, a_prefix, a_paren, a_literal, a_name, an_index, a_get, a_call, fields, elements, elements_from, an_operation, a_force, an_up, a_down, Constant, an_expression, a_type, TypeExpression, a_simple_type, a_list_type, a_fields_type, a_routine_type, a_named_type, Typed, Component, Exception, Equate, an_equate, a_set_equate, TypeSet, a_type_set, Variable, Taken, objects, any_objects, Statement, a_declare, an_init, a_call_init, an_assign, a_set_field, a_set_index, a_call_statement, a_while, a_for, a_for_of_names, an_if, a_tagcase, a_return, a_yield, a_signal, an_exit, a_break, a_continue, a_begin, a_resignal, an_except, Body, a_body, Clauses, no_clauses, clause_and, Otherwise, nothing_else, otherwise, Others, others, Parameter, Own, own_variables, own_init, own_call_init, Restriction, has_operations, is_in, is_in_set, Routine, Cluster, Module, a_routine, a_cluster}
use Rattle.clu_syntax.specs.Items.{Item, TagArm, When, expressions_at, components_at, constants_at, types_at, selectors_at, exceptions_at, operations_at, declarations_at, equates_at, statements_at, tag_arms_at, whens_at, others_at, parameters_at, restrictions_at, owns_at, routines_at, type_of_option}
use Rattle.clu_syntax.specs.Nodes.{clauses_of}
use Rattle.clu_syntax.specs.Words.{literal_told}

module _ (items : ℕ → Item) where
  abbrev pub expression_told : ℕ → ExpressionView → Expression
  expression_told n (e.Infix operator left right) = an_infix n operator (items left).expression (items right).expression
  expression_told n (e.Prefix sign operand) = a_prefix n sign (items operand).expression
  expression_told n (e.Paren inside) = a_paren n (items inside).expression
  expression_told n (e.Literal literal) = a_literal n (literal_told literal)
  expression_told n (e.Name name) = a_name n name.now
  expression_told n (e.Index of constants) = an_index n (items of).expression (constants_at items constants.now)
  expression_told n (e.Get of selector) = a_get n (items of).expression selector.now
  expression_told n (e.Call routine arguments) = a_call n (items routine).expression (expressions_at items arguments.now)
  expression_told n (e.Fields of components) = fields n (items of).type (components_at items components.now)
  expression_told n (e.Elements of es) = elements n (items of).type (expressions_at items es.now)
  expression_told n (e.ElementsFrom of low es) = elements_from n (items of).type (items low).expression (expressions_at items es.now)
  expression_told n (e.Operation of operation) = an_operation n (items of).type operation.now
  expression_told n (e.Force to) = a_force n (items to).type
  expression_told n (e.Up inside) = an_up n (items inside).expression
  expression_told n (e.Down inside) = a_down n (items inside).expression

  abbrev pub type_told : ℕ → TypeView → TypeExpression
  type_told n (t.Simple word) = a_simple_type n word
  type_told n (t.List word of) = a_list_type n word (items of).type
  type_told n (t.Fields word selectors) = a_fields_type n word (selectors_at items selectors.now)
  type_told n (t.Routine kind arguments results exceptions) = a_routine_type n kind (types_at items arguments.now) (types_at items results.now) (exceptions_at items exceptions.now)
  type_told n (t.Named name constants) = a_named_type n name.now (constants_at items constants.now)

  abbrev pub constant_told : ConstantView → Constant
  constant_told (c.Expression n) = an_expression (items n).expression
  constant_told (c.Type n) = a_type (items n).type

  abbrev pub typed_told : ℕ → TypedView → Typed
  typed_told n v = record { node = n; names = v.names.now; type = (items v.declared).type }

  abbrev pub component_told : ℕ → ComponentView → Component
  component_told n v = record { node = n; names = v.selectors.now; value = (items v.value).expression }

  abbrev pub exception_told : ℕ → ExceptionView → Exception
  exception_told n v = record { node = n; name = v.name.now; types = types_at items v.types.now }

  abbrev pub parameter_told : ℕ → ParameterView → Parameter
  parameter_told n v = record { node = n; names = v.names.now; type = type_of_option items v.declared }

  abbrev pub restriction_told : ℕ → RestrictionView → Restriction
  restriction_told n (r.Has name operations) = has_operations n name.now (operations_at items operations.now)
  restriction_told n (r.In name set) = is_in n name.now set.now
  restriction_told n (r.InSet name set) = is_in_set n name.now (items set).type_set

  abbrev pub type_set_told : ℕ → TypeSetView → TypeSet
  type_set_told n v = a_type_set n v.name.now v.variable.now (operations_at items v.operations.now) (equates_at items v.equates.now)

  abbrev pub equated_told : ℕ → Option Identifier → EquatedView → Equate
  equated_told n name (right.Constant c) = an_equate n name (items c).constant
  equated_told n name (right.Set c) = a_set_equate n name (items c).type_set

  abbrev pub equate_told : ℕ → EquateView → Equate
  equate_told n v = equated_told n (option_map (λ name. name.now) v.name) v.value

  abbrev pub own_told : ℕ → OwnView → Own
  own_told n (own.Declare declarations) = own_variables n (declarations_at items declarations.now)
  own_told n (own.Init name declared value) = own_init n (record { name = name.now; type = (items declared).type }) (items value).expression
  own_told n (own.InitByCall declarations call) = own_call_init n (declarations_at items declarations.now) (items call).expression

  abbrev pub body_told : BodyView → Body
  body_told v = a_body (equates_at items v.equates.now) (statements_at items v.statements.now)

  abbrev pub otherwise_told : Option BodyView → Otherwise
  otherwise_told None = nothing_else
  otherwise_told (Some body) = otherwise (body_told body)

  abbrev pub variable_told : Option VariableView → Option Variable
  variable_told None = None
  variable_told (Some v) = Some (record { name = v.name.now; type = (items v.declared).type })

  abbrev pub tag_arm_told : ℕ → TagArmView → TagArm
  tag_arm_told n v = record { node = n; tags = v.tags.now; variable = variable_told v.variable; body = body_told v.body }

  abbrev pub taken_told : TakenView → Taken
  taken_told (taken.Objects declarations) = objects (declarations_at items declarations.now)
  taken_told taken.Any = any_objects

  abbrev pub when_told : ℕ → WhenView → When
  when_told n v = record { node = n; names = v.names.now; taken = taken_told v.taken; body = body_told v.body }

  abbrev pub others_told : ℕ → OthersView → Others
  others_told n v = others n (variable_told v.variable) (body_told v.body)

  abbrev pub routine_told : ℕ → RoutineView → Routine
  routine_told n v = record {
    node = n;
    name = v.name.now;
    closing = v.closing.now;
    kind = v.kind;
    parameters = parameters_at items v.parameters.now;
    arguments = declarations_at items v.arguments.now;
    results = types_at items v.results.now;
    signals = exceptions_at items v.exceptions.now;
    restrictions = restrictions_at items v.restrictions.now;
    equates = equates_at items v.equates.now;
    owns = owns_at items v.owns.now;
    statements = statements_at items v.statements.now;
  }

  abbrev pub cluster_told : ℕ → ClusterView → Cluster
  cluster_told n v = record {
    node = n;
    name = v.name.now;
    closing = v.closing.now;
    parameters = parameters_at items v.parameters.now;
    exports = v.exports.now;
    restrictions = restrictions_at items v.restrictions.now;
    equates = equates_at items v.equates.now;
    owns = owns_at items v.owns.now;
    routines = routines_at items v.routines.now;
  }

  abbrev pub definition_told : ℕ → List ℕ → DefinitionView → Module
  definition_told n equates (defines.Routine c) = a_routine n (equates_at items equates) (items c).routine
  definition_told n equates (defines.Cluster c) = a_cluster n (equates_at items equates) (items c).cluster

  abbrev pub module_told : ℕ → ModuleView → Module
  module_told n v = definition_told n v.equates.now v.definition

  -- the clauses of an If are split by the kinds of the nodes
  module _ (nodes : List Node) where
    abbrev pub clauses_told : Option (ClauseView × ClausesView) → Clauses
    clauses_told None = no_clauses
    clauses_told (Some both) = clause_and (items both.0.condition).expression (body_told both.0.body) (clauses_of items nodes both.1.rest.now)

    abbrev pub statement_told : ℕ → StatementView → Statement
    statement_told n (s.Declare declaration) = a_declare n (items declaration).declaration
    statement_told n (s.Init name declared value) = an_init n (record { name = name.now; type = (items declared).type }) (items value).expression
    statement_told n (s.InitByCall declarations call) = a_call_init n (declarations_at items declarations.now) (items call).expression
    statement_told n (s.Assign names values) = an_assign n names.now (expressions_at items values.now)
    statement_told n (s.SetField of selector value) = a_set_field n (items of).expression selector.now (items value).expression
    statement_told n (s.SetIndex of index value) = a_set_index n (items of).expression (items index).expression (items value).expression
    statement_told n (s.Call call) = a_call_statement n (items call).expression
    statement_told n (s.While condition body) = a_while n (items condition).expression (body_told body)
    statement_told n (s.For declarations call body) = a_for n (declarations_at items declarations.now) (items call).expression (body_told body)
    statement_told n (s.ForNames names call body) = a_for_of_names n names.now (items call).expression (body_told body)
    statement_told n (s.If clauses body) = an_if n (clauses_of items nodes clauses.rest.now) (otherwise_told body)
    statement_told n (s.Tagcase of arms body) = a_tagcase n (items of).expression (tag_arms_at items arms.now) (otherwise_told body)
    statement_told n (s.Return values) = a_return n (expressions_at items values.now)
    statement_told n (s.Yield values) = a_yield n (expressions_at items values.now)
    statement_told n (s.Signal name values) = a_signal n name.now (expressions_at items values.now)
    statement_told n (s.Exit name values) = an_exit n name.now (expressions_at items values.now)
    statement_told n s.Break = a_break n
    statement_told n s.Continue = a_continue n
    statement_told n (s.Begin body) = a_begin n (body_told body)
    statement_told n (s.Resignal statement names) = a_resignal n (items statement).statement names.now
    statement_told n (s.Except statement arms other) = an_except n (items statement).statement (whens_at items arms.now) (others_at items other)
