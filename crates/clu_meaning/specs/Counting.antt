-- The count of nodes: one for each node, one more for each of its names after the first, and one more for each whole 64
-- bytes that a string literal denotes. A body, the conditions of an if statement and a constant are no nodes of their own.
use Rattle.std.specs.Prelude.{ℕ, zero, suc, ◌+◌, ◌-◌, ◌/◌, List, [], ◌∷◌, length, Option, None, Some}
use Rattle.clu_tree.specs.Count.{string_len}
use Rattle.clu_syntax.specs.Syntax.{Identifier, Literal, string, Expression, an_infix, a_prefix, a_paren, a_literal, a_name, an_index, a_get, a_call, fields, elements, elements_from, an_operation, a_force, an_up, a_down, Expressions, no_expressions, expression_and, Components, no_components, component_and, Constant, an_expression, a_type, Constants, no_constants, constant_and, TypeExpression, a_simple_type, a_list_type, a_fields_type, a_routine_type, a_named_type, TypeExpressions, no_types, type_and, Selectors, no_selectors, selector_and, Exceptions, no_exceptions, exception_and, Typed, Equate, an_equate, a_set_equate, TypeSet, a_type_set, Equates, no_equates, equate_and, Variable, Taken, objects, any_objects, Statement, a_declare, an_init, a_call_init, an_assign, a_set_field, a_set_index, a_call_statement, a_while, a_for, a_for_of_names, an_if, a_tagcase, a_return, a_yield, a_signal, an_exit, a_break, a_continue, a_begin, a_resignal, an_except, Statements, no_statements, statement_and, Body, a_body, Clauses, no_clauses, clause_and, Otherwise, nothing_else, otherwise, TagArms, no_tag_arms, tag_arm_and, Whens, no_whens, when_and, Others, no_others, others, Parameter, Own, own_variables, own_init, own_call_init, Restriction, has_operations, is_in, is_in_set, Routine}

-- a node with names
abbrev pub named : List Identifier → ℕ
named names = 1 + (length names - 1)

-- a node of its own for what stands there, if anything does
abbrev pub part : ℕ → ℕ
part zero = 0
part (suc n) = 1 + suc n

abbrev pub literal_count : Literal → ℕ
literal_count (string text) = 1 + string_len text / 64
literal_count _ = 1

abbrev mutual
  pub expression_count : Expression → ℕ
  expression_count (an_infix n op a b) = 1 + expression_count a + expression_count b
  expression_count (a_prefix n s e) = 1 + expression_count e
  expression_count (a_paren n e) = 1 + expression_count e
  expression_count (a_literal n literal) = literal_count literal
  expression_count (a_name n name) = 1
  expression_count (an_index n e cs) = 1 + expression_count e + constants_count cs
  expression_count (a_get n e name) = 1 + expression_count e
  expression_count (a_call n e es) = 1 + expression_count e + expressions_count es
  expression_count (fields n t cs) = 1 + type_count t + components_count cs
  expression_count (elements n t es) = 1 + type_count t + expressions_count es
  expression_count (elements_from n t e es) = 1 + type_count t + expression_count e + expressions_count es
  expression_count (an_operation n t name) = 1 + type_count t
  expression_count (a_force n t) = 1 + type_count t
  expression_count (an_up n e) = 1 + expression_count e
  expression_count (a_down n e) = 1 + expression_count e

  pub expressions_count : Expressions → ℕ
  expressions_count no_expressions = 0
  expressions_count (expression_and e es) = expression_count e + expressions_count es

  pub components_count : Components → ℕ
  components_count no_components = 0
  components_count (component_and n names e cs) = named names + expression_count e + components_count cs

  pub constant_count : Constant → ℕ
  constant_count (an_expression e) = expression_count e
  constant_count (a_type t) = type_count t

  pub constants_count : Constants → ℕ
  constants_count no_constants = 0
  constants_count (constant_and c cs) = constant_count c + constants_count cs

  pub type_count : TypeExpression → ℕ
  type_count (a_simple_type n word) = 1
  type_count (a_list_type n word t) = 1 + type_count t
  type_count (a_fields_type n word ss) = 1 + selectors_count ss
  type_count (a_routine_type n kind args results signals) = 1 + types_count args + part (types_count results) + part (exceptions_count signals)
  type_count (a_named_type n name cs) = 1 + constants_count cs

  pub types_count : TypeExpressions → ℕ
  types_count no_types = 0
  types_count (type_and t ts) = type_count t + types_count ts

  pub selectors_count : Selectors → ℕ
  selectors_count no_selectors = 0
  selectors_count (selector_and n names t ss) = named names + type_count t + selectors_count ss

  pub exceptions_count : Exceptions → ℕ
  exceptions_count no_exceptions = 0
  exceptions_count (exception_and n name ts es) = 1 + types_count ts + exceptions_count es

abbrev pub typed_count : List Typed → ℕ
typed_count [] = 0
typed_count (d ∷ ds) = named d.names + type_count d.type + typed_count ds

abbrev mutual
  pub equate_count : Equate → ℕ
  equate_count (an_equate n name c) = 1 + constant_count c
  equate_count (a_set_equate n name set) = 1 + set_count set

  pub set_count : TypeSet → ℕ
  set_count (a_type_set n name variable opers es) = 2 + typed_count opers + equates_count es

  pub equates_count : Equates → ℕ
  equates_count no_equates = 0
  equates_count (equate_and e es) = equate_count e + equates_count es

abbrev pub variable_count : Option Variable → ℕ
variable_count (Some x) = type_count x.type
variable_count None = 0

abbrev pub variable_names : Option Variable → List Identifier
variable_names (Some x) = x.name ∷ []
variable_names None = []

abbrev pub taken_count : Taken → ℕ
taken_count (objects ds) = typed_count ds
taken_count any_objects = 0

abbrev mutual
  pub statement_count : Statement → ℕ
  statement_count (a_declare n d) = 1 + typed_count (d ∷ [])
  statement_count (an_init n x e) = 1 + type_count x.type + expression_count e
  statement_count (a_call_init n ds e) = 1 + typed_count ds + expression_count e
  statement_count (an_assign n names es) = named names + expressions_count es
  statement_count (a_set_field n r name e) = 1 + expression_count r + expression_count e
  statement_count (a_set_index n a i e) = 1 + expression_count a + expression_count i + expression_count e
  statement_count (a_call_statement n e) = 1 + expression_count e
  statement_count (a_while n e body) = 1 + expression_count e + body_count body
  statement_count (a_for n ds e body) = 1 + typed_count ds + expression_count e + body_count body
  statement_count (a_for_of_names n names e body) = named names + expression_count e + body_count body
  statement_count (an_if n clauses other) = 1 + clauses_count clauses + otherwise_count other
  statement_count (a_tagcase n e arms other) = 1 + expression_count e + tag_arms_count arms + otherwise_count other
  statement_count (a_return n es) = 1 + expressions_count es
  statement_count (a_yield n es) = 1 + expressions_count es
  statement_count (a_signal n name es) = 1 + expressions_count es
  statement_count (an_exit n name es) = 1 + expressions_count es
  statement_count (a_break n) = 1
  statement_count (a_continue n) = 1
  statement_count (a_begin n body) = 1 + body_count body
  statement_count (a_resignal n s names) = statement_count s + named names
  statement_count (an_except n s whens other) = 1 + statement_count s + whens_count whens + others_count other

  pub statements_count : Statements → ℕ
  statements_count no_statements = 0
  statements_count (statement_and s ss) = statement_count s + statements_count ss

  pub body_count : Body → ℕ
  body_count (a_body es ss) = equates_count es + statements_count ss

  pub clauses_count : Clauses → ℕ
  clauses_count no_clauses = 0
  clauses_count (clause_and e body clauses) = expression_count e + body_count body + clauses_count clauses

  pub otherwise_count : Otherwise → ℕ
  otherwise_count nothing_else = 0
  otherwise_count (otherwise body) = body_count body

  pub tag_arms_count : TagArms → ℕ
  tag_arms_count no_tag_arms = 0
  tag_arms_count (tag_arm_and n tags x body arms) = 1 + (length tags - 1) + length (variable_names x) + variable_count x + body_count body + tag_arms_count arms

  pub whens_count : Whens → ℕ
  whens_count no_whens = 0
  whens_count (when_and n names taken body whens) = named names + taken_count taken + body_count body + whens_count whens

  pub others_count : Others → ℕ
  others_count no_others = 0
  others_count (others n x body) = 1 + variable_count x + body_count body

abbrev pub own_count : Own → ℕ
own_count (own_variables n ds) = 1 + typed_count ds
own_count (own_init n x e) = 1 + type_count x.type + expression_count e
own_count (own_call_init n ds e) = 1 + typed_count ds + expression_count e

abbrev pub owns_count : List Own → ℕ
owns_count [] = 0
owns_count (o ∷ os) = own_count o + owns_count os

abbrev pub parameter_type_count : Option TypeExpression → ℕ
parameter_type_count (Some t) = type_count t
parameter_type_count None = 0

abbrev pub parameters_count : List Parameter → ℕ
parameters_count [] = 0
parameters_count (p ∷ ps) = named p.names + parameter_type_count p.type + parameters_count ps

abbrev pub restrictions_count : List Restriction → ℕ
restrictions_count [] = 0
restrictions_count (has_operations n name opers ∷ rs) = 1 + typed_count opers + restrictions_count rs
restrictions_count (is_in n name set ∷ rs) = 2 + restrictions_count rs
restrictions_count (is_in_set n name set ∷ rs) = 1 + set_count set + restrictions_count rs

-- a routine with its heading; it has its name twice
abbrev pub routine_count : Routine → ℕ
routine_count r =
    2 + parameters_count r.parameters + typed_count r.arguments + part (types_count r.results) + part (exceptions_count r.signals)
    + part (restrictions_count r.restrictions) + equates_count r.equates + owns_count r.owns + statements_count r.statements
