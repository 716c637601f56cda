-- From the syntax of modules, and the declarations that their names denote, to programs as they run.
use Rattle.std.specs.Prelude.{ℕ, suc, ◌+◌, ◌&&◌, ◌==◌, Bool, true, false, List, [], ◌∷◌, ◌++◌, length, map, Option, None, Some, codes, bytes_eq, if◌then◌else◌}
use Rattle.clu_types.specs.CluType.{CluType, cluster_of, Actuals, no_actuals}
use Rattle.clu_layout.specs.Objects.{module_routine, operation_of, force_of}
use Rattle.clu_syntax.specs.declared.words.SimpleType.TheVariants as simple
use Rattle.clu_syntax.specs.declared.words.RoutineKind.{RoutineKind}
use Rattle.clu_syntax.specs.declared.words.RoutineKind.TheVariants as kind
use Rattle.clu_syntax.specs.Syntax.{Identifier, an_infix, a_prefix, a_paren, a_literal, a_name, an_index, a_get, a_call, fields, elements, elements_from, an_operation, a_force, an_up, a_down, Constant, an_expression, a_type, Constants, no_constants, constant_and, TypeExpression, a_simple_type, TypeExpressions, no_types, type_and, Exceptions, no_exceptions, exception_and, Typed, Taken, objects, any_objects, a_declare, an_init, a_call_init, an_assign, a_set_field, a_set_index, a_call_statement, a_while, a_for, a_for_of_names, an_if, a_tagcase, a_return, a_yield, a_signal, an_exit, a_break, a_continue, a_begin, a_resignal, an_except, Body, a_body, Own, own_variables, own_init, own_call_init, Cluster, a_routine, a_cluster}
use Rattle.clu_syntax.specs.Syntax as syntax
use Rattle.clu_names.specs.declared.scopes.Declared.{Declared}
use Rattle.clu_meaning.specs.Constants.{Sugar, is_cand, is_cor, is_operation, is_negated, sugar, prefix_name, denoted}
use Rattle.clu_meaning.specs.Scoping.{Meaning, is_local, is_own_of_routine, is_own_of_cluster, is_routine_of_cluster, is_module, Bindings, Scope, meaning_of, number_of, bound_at, own_actuals, parameter_number, of_routine, of_owns, of_modules}
use Rattle.clu_meaning.specs.Settling.{Value, settled_constant, settled_parameter, constant_value, no_type, type_in, comes_after, settled, type_settled, actuals_settled, name_settled}
use Rattle.clu_meaning.specs.Counting.{routine_count, owns_count}
use Rattle.clu_meaning.specs.Programs.{Variable, local, own_of_routine, own_of_cluster, Expression, constant, constant_parameter, variable, routine, parenthesized, operator, negated, cand, cor, call, Expressions, no_expressions, expression_and, Components, no_components, component_and, named, dropped, Statement, declaration, initialisation, assignment, assignment_of_results, update, call_statement, while_statement, for_statement, if_statement, tagcase_statement, return_statement, yield_statement, signal_statement, exit_statement, break_statement, continue_statement, begin_statement, resignal_statement, except_statement, Statements, no_statements, statement_and, Clauses, no_clauses, clause_and, Otherwise, nothing_else, otherwise, TagArms, no_tag_arms, tag_arm_and, Whens, no_whens, when_and, Others, no_others, others, HeadingType, plain, cvt, Declaration, Formal, Exception, RoutineDefinition, ClusterDefinition, Module, routine_module, cluster_module, Program}
use Rattle.clu_meaning.specs.Programs as program

-- where a text stands: the declarations of its file; and inside a cluster, the cluster's type
pub record Place : Type 0 where
  pub scope : Scope
  pub home : Option CluType

-- the place of the declaration of this node and name, where the first one has the place k
abbrev pub declared_from : ℕ → List Declared → ℕ → Identifier → ℕ
declared_from k [] n name = k
declared_from k (d ∷ ds) n name = if d.node == n && bytes_eq d.name name then k else declared_from (suc k) ds n name

-- stands for an expression that isn't one
abbrev pub no_expression : Expression
no_expression = constant_parameter 0

module _ (place : Place) where
  abbrev pub settled_at : TypeExpression → CluType
  settled_at = type_settled place.scope

  -- ---- names

  -- the operation of the cluster in which the text stands
  abbrev pub routine_here : Option CluType → Identifier → Expression
  routine_here (Some cluster) name = routine (operation_of cluster name)
  routine_here None name = no_expression

  abbrev pub constant_expression : Value → Expression
  constant_expression (settled_constant c) = constant c
  constant_expression (settled_parameter k) = constant_parameter k
  constant_expression _ = no_expression

  -- a name by what it denotes, with actuals if it is a module's
  abbrev pub expression_of : ℕ → Identifier → Actuals → Meaning → Expression
  expression_of n name given (is_local t) = variable (local (number_of place.scope n name))
  expression_of n name given (is_own_of_routine t) = variable (own_of_routine (number_of place.scope n name))
  expression_of n name given (is_own_of_cluster t) = variable (own_of_cluster (number_of place.scope n name))
  expression_of n name given is_routine_of_cluster = routine_here place.home name
  expression_of n name given is_module = routine (module_routine name given)
  expression_of n name given _ = constant_expression (name_settled place.scope n name)

  abbrev pub expression_named : ℕ → Identifier → Expression
  expression_named n name = expression_of n name no_actuals (meaning_of place.scope n name)

  -- a name with brackets: the instance of a module, or an element
  abbrev pub indexed_by : ℕ → Identifier → Constants → Expressions → Meaning → Expression
  indexed_by n name cs es is_module = routine (module_routine name (actuals_settled place.scope cs))
  indexed_by n name cs es _ = operator (codes "fetch") (expression_named n name) es

  abbrev pub target_of : ℕ → Identifier → Meaning → Variable
  target_of n name (is_own_of_routine t) = own_of_routine (number_of place.scope n name)
  target_of n name (is_own_of_cluster t) = own_of_cluster (number_of place.scope n name)
  target_of n name _ = local (number_of place.scope n name)

  -- the variables that are assigned at a node
  abbrev pub targets : ℕ → List Identifier → List Variable
  targets n names = map (λ name. target_of n name (meaning_of place.scope n name)) names

  -- ---- declared variables, of which `own` says which these are

  abbrev pub declared_variable : (ℕ → Variable) → ℕ → Identifier → Variable
  declared_variable own n name = own (declared_from 0 place.scope.declarations n name)

  abbrev pub declared_variables : (ℕ → Variable) → List Typed → List Variable
  declared_variables own [] = []
  declared_variables own (d ∷ ds) = map (declared_variable own d.node) d.names ++ declared_variables own ds

  abbrev pub variable_of_arm : ℕ → Option syntax.Variable → List Variable
  variable_of_arm n (Some x) = declared_variable local n x.name ∷ []
  variable_of_arm n None = []

  -- ---- expressions

  abbrev pub infix_of : Sugar → Expression → Expression → Expression
  infix_of is_cand a b = cand a b
  infix_of is_cor a b = cor a b
  infix_of (is_operation name) a b = operator name a (expression_and b no_expressions)
  infix_of (is_negated name) a b = negated name a (expression_and b no_expressions)

  abbrev mutual
    pub expression : syntax.Expression → Expression
    expression (an_infix n op a b) = infix_of (sugar op) (expression a) (expression b)
    expression (a_prefix n s e) = operator (prefix_name s) (expression e) no_expressions
    expression (a_paren n e) = parenthesized (expression e)
    expression (a_literal n literal) = constant_expression (constant_value (denoted literal))
    expression (a_name n name) = expression_named n name
    expression (an_index n (a_name m name) cs) = indexed_by m name cs (constants cs) (meaning_of place.scope m name)
    expression (an_index n e cs) = operator (codes "fetch") (expression e) (constants cs)
    expression (a_get n e name) = operator (codes "get_" ++ name) (expression e) no_expressions
    expression (a_call n e es) = call (expression e) (expressions es)
    expression (fields n t cs) = program.fields (settled_at t) (components cs)
    expression (elements n t es) = program.elements (settled_at t) (expressions es)
    expression (elements_from n t e es) = program.elements_from (settled_at t) (expression e) (expressions es)
    expression (an_operation n t name) = routine (operation_of (settled_at t) name)
    expression (a_force n t) = routine (force_of (settled_at t))
    expression (an_up n e) = program.up (expression e)
    expression (a_down n e) = program.down (expression e)

    pub expressions : syntax.Expressions → Expressions
    expressions syntax.no_expressions = no_expressions
    expressions (syntax.expression_and e es) = expression_and (expression e) (expressions es)

    pub components : syntax.Components → Components
    components syntax.no_components = no_components
    components (syntax.component_and n names e cs) = component_and names (expression e) (components cs)

    pub constant_at : Constant → Expression
    constant_at (an_expression e) = expression e
    constant_at (a_type t) = no_expression

    pub constants : Constants → Expressions
    constants no_constants = no_expressions
    constants (constant_and c cs) = expression_and (constant_at c) (constants cs)

  -- ---- statements

  -- as many expressions as variables, or one invocation that gives as many objects
  abbrev pub assignment_of : List Variable → Expressions → Statement
  assignment_of (x ∷ y ∷ xs) (expression_and e no_expressions) = assignment_of_results (x ∷ y ∷ xs) e
  assignment_of xs es = assignment xs es

  abbrev pub taken_of : Taken → program.Taken
  taken_of (objects ds) = named (declared_variables local ds)
  taken_of any_objects = dropped

  abbrev pub declared_number : List Typed → ℕ
  declared_number [] = 0
  declared_number (d ∷ ds) = length d.names + declared_number ds

  -- a for statement over an invocation
  abbrev pub loop_of : ℕ → List Variable → syntax.Expression → Statements → Statement
  loop_of declared xs (a_call n e es) body = for_statement declared xs (expression e) (expressions es) body
  loop_of declared xs e body = for_statement declared xs (expression e) no_expressions body

  abbrev mutual
    pub statement : syntax.Statement → Statement
    statement (a_declare n d) = declaration (declared_variables local (d ∷ []))
    statement (an_init n x e) = initialisation (declared_variable local n x.name ∷ []) (expression e)
    statement (a_call_init n ds e) = initialisation (declared_variables local ds) (expression e)
    statement (an_assign n names es) = assignment_of (targets n names) (expressions es)
    statement (a_set_field n r name e) = update (codes "set_" ++ name) (expression r) (expression_and (expression e) no_expressions)
    statement (a_set_index n a i e) = update (codes "store") (expression a) (expression_and (expression i) (expression_and (expression e) no_expressions))
    statement (a_call_statement n e) = call_statement (expression e)
    statement (a_while n e b) = while_statement (expression e) (body b)
    statement (a_for n ds e b) = loop_of (declared_number ds) (declared_variables local ds) e (body b)
    statement (a_for_of_names n names e b) = loop_of 0 (targets n names) e (body b)
    statement (an_if n cs other) = if_statement (clauses cs) (otherwise_of other)
    statement (a_tagcase n e arms other) = tagcase_statement (expression e) (tag_arms arms) (otherwise_of other)
    statement (a_return n es) = return_statement (expressions es)
    statement (a_yield n es) = yield_statement (expressions es)
    statement (a_signal n name es) = signal_statement name (expressions es)
    statement (an_exit n name es) = exit_statement name (expressions es)
    statement (a_break n) = break_statement
    statement (a_continue n) = continue_statement
    statement (a_begin n b) = begin_statement (body b)
    statement (a_resignal n s names) = resignal_statement (statement s) names
    statement (an_except n s ws other) = except_statement (statement s) (whens ws) (others_of other)

    pub statements : syntax.Statements → Statements
    statements syntax.no_statements = no_statements
    statements (syntax.statement_and s ss) = statement_and (statement s) (statements ss)

    pub body : Body → Statements
    body (a_body es ss) = statements ss

    pub clauses : syntax.Clauses → Clauses
    clauses syntax.no_clauses = no_clauses
    clauses (syntax.clause_and e b cs) = clause_and (expression e) (body b) (clauses cs)

    pub otherwise_of : syntax.Otherwise → Otherwise
    otherwise_of syntax.nothing_else = nothing_else
    otherwise_of (syntax.otherwise b) = otherwise (body b)

    pub tag_arms : syntax.TagArms → TagArms
    tag_arms syntax.no_tag_arms = no_tag_arms
    tag_arms (syntax.tag_arm_and n tags x b arms) = tag_arm_and tags (variable_of_arm n x) (body b) (tag_arms arms)

    pub whens : syntax.Whens → Whens
    whens syntax.no_whens = no_whens
    whens (syntax.when_and n names taken b ws) = when_and names (taken_of taken) (body b) (whens ws)

    pub others_of : syntax.Others → Others
    others_of syntax.no_others = no_others
    others_of (syntax.others n x b) = others (variable_of_arm n x) (body b)

  -- ---- own variables

  abbrev pub set_up_of : (ℕ → Variable) → Own → Statement
  set_up_of own (own_variables n ds) = declaration (declared_variables own ds)
  set_up_of own (own_init n x e) = initialisation (declared_variable own n x.name ∷ []) (expression e)
  set_up_of own (own_call_init n ds e) = initialisation (declared_variables own ds) (expression e)

  abbrev pub set_up : (ℕ → Variable) → List Own → Statements
  set_up own [] = no_statements
  set_up own (o ∷ os) = statement_and (set_up_of own o) (set_up own os)

  -- ---- headings

  abbrev pub type_or : Option CluType → CluType → HeadingType
  type_or (Some cluster) representation = cvt cluster representation
  type_or None representation = plain representation

  abbrev pub heading_type : TypeExpression → HeadingType
  heading_type (a_simple_type n simple.Cvt) = type_or place.home (settled_at (a_simple_type n simple.Cvt))
  heading_type t = plain (settled_at t)

  abbrev pub heading_types : TypeExpressions → List HeadingType
  heading_types no_types = []
  heading_types (type_and t ts) = heading_type t ∷ heading_types ts

  abbrev pub formals_of : List Typed → List Formal
  formals_of [] = []
  formals_of (d ∷ ds) =
      map (λ name. record { number = declared_from 0 place.scope.declarations d.node name; type = heading_type d.type }) d.names ++ formals_of ds

  abbrev pub with_exception : Exception → List Exception → List Exception
  with_exception e [] = e ∷ []
  with_exception e (f ∷ fs) = if comes_after e.name f.name then f ∷ with_exception e fs else e ∷ f ∷ fs

  -- in ascending order, without failure
  abbrev pub exceptions_of : Exceptions → List Exception
  exceptions_of no_exceptions = []
  exceptions_of (exception_and n name ts es) =
      if bytes_eq name (codes "failure") then exceptions_of es
      else with_exception (record { name = name; objects = heading_types ts }) (exceptions_of es)

  -- ---- the declarations of variables with their types, where the first has the number k

  abbrev pub declared_as : ℕ → Meaning → List Declaration
  declared_as k (is_local t) = record { number = k; type = settled_at t } ∷ []
  declared_as k _ = []

  abbrev pub owned_as : ℕ → Meaning → List Declaration
  owned_as k (is_own_of_routine t) = record { number = k; type = settled_at t } ∷ []
  owned_as k (is_own_of_cluster t) = record { number = k; type = settled_at t } ∷ []
  owned_as k _ = []

  abbrev pub each_declared : (ℕ → Meaning → List Declaration) → Bindings → ℕ → List Declared → List Declaration
  each_declared as_declared bindings k [] = []
  each_declared as_declared bindings k (d ∷ ds) = as_declared k (bound_at bindings d.node d.name) ++ each_declared as_declared bindings (suc k) ds

  -- those among these bindings
  abbrev pub locals_of : Bindings → List Declaration
  locals_of bindings = each_declared declared_as bindings 0 place.scope.declarations

  abbrev pub owns_of : Bindings → List Declaration
  owns_of bindings = each_declared owned_as bindings 0 place.scope.declarations

-- ---- modules

abbrev pub is_iterator : RoutineKind → Bool
is_iterator kind.Procedure = false
is_iterator kind.Iterator = true

-- a routine, whose module has so many parameters
abbrev pub routine_definition : Place → ℕ → syntax.Routine → RoutineDefinition
routine_definition place parameters r = record {
  name = r.name;
  is_iterator = is_iterator r.kind;
  parameters = parameters;
  formals = formals_of place r.arguments;
  results = heading_types place r.results;
  signals = exceptions_of place r.signals;
  locals = locals_of place (of_routine r);
  owns = owns_of place (of_routine r);
  set_up = set_up place own_of_routine r.owns;
  body = statements place r.statements;
  count = routine_count r;
}

abbrev pub cluster_place : Scope → Cluster → Place
cluster_place scope c = record { scope = scope; home = Some (cluster_of c.name (own_actuals 1 c.parameters)) }

-- the representation is what the cluster's `rep` is equated to
abbrev pub represented : Scope → syntax.Equate → Option CluType
represented scope (syntax.an_equate n None c) = Some (type_in (settled scope c))
represented scope e = None

abbrev pub representation_or : Option CluType → CluType → CluType
representation_or (Some t) other = t
representation_or None other = other

abbrev pub representation_in : Scope → syntax.Equates → CluType
representation_in scope syntax.no_equates = no_type
representation_in scope (syntax.equate_and e es) = representation_or (represented scope e) (representation_in scope es)

abbrev pub cluster_definition : Scope → Cluster → ClusterDefinition
cluster_definition scope c = record {
  name = c.name;
  parameters = parameter_number c.parameters;
  exports = c.exports;
  representation = representation_in scope c.equates;
  owns = owns_of (cluster_place scope c) (of_owns is_own_of_cluster c.owns);
  set_up = set_up (cluster_place scope c) own_of_cluster c.owns;
  set_up_count = owns_count c.owns;
  routines = map (routine_definition (cluster_place scope c) (parameter_number c.parameters)) c.routines;
}

abbrev pub module_of : Scope → syntax.Module → Module
module_of scope (a_routine n es r) = routine_module (routine_definition (record { scope = scope; home = None }) (parameter_number r.parameters) r)
module_of scope (a_cluster n es c) = cluster_module (cluster_definition scope c)

-- a file: the declarations of its names, and its modules
pub record File : Type 0 where
  pub declarations : List Declared
  pub modules : List syntax.Module

abbrev pub scope_of : File → Scope
scope_of file = record { declarations = file.declarations; bindings = of_modules file.modules }

-- The program of some files. A name means what it does in its own file; one that this doesn't declare is that of a module
-- of another file.
abbrev pub resolved : List File → Program
resolved [] = []
resolved (file ∷ files) = map (module_of (scope_of file)) file.modules ++ resolved files
