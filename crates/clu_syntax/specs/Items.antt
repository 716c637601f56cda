-- What a node of a tree is, as each construct of the syntax, and lists of them. In a tree of the grammar each part is
-- what its name says; where a node is something else, an empty construct stands for it, so that no case is left out.
use Rattle.std.specs.Prelude.{ℕ, List, [], ◌∷◌, Option, Some, None}
use Rattle.clu_syntax.specs.Syntax.{Identifier, Expression, a_name, Expressions, no_expressions, expression_and, Components, no_components, component_and, Constant, an_expression, Constants, no_constants, constant_and, TypeExpression, a_named_type, TypeExpressions, no_types, type_and, Selectors, no_selectors, selector_and, Exceptions, no_exceptions, exception_and, Typed, Component, Exception, Equate, an_equate, TypeSet, a_type_set, Equates, no_equates, equate_and, Variable, Taken, any_objects, Statement, a_break, Statements, no_statements, statement_and, Body, a_body, TagArms, no_tag_arms, tag_arm_and, Whens, no_whens, when_and, Others, no_others, others, Parameter, Own, own_variables, Restriction, is_in, Routine, Cluster, Module, a_routine}
use Rattle.clu_syntax.specs.declared.words.RoutineKind.TheVariants as routine_word

-- an arm of a Tagcase, and a when arm
pub record TagArm : Type 0 where
  pub node : ℕ
  pub tags : List Identifier
  pub variable : Option Variable
  pub body : Body

pub record When : Type 0 where
  pub node : ℕ
  pub names : List Identifier
  pub taken : Taken
  pub body : Body

-- what a node is as each of these; it is one of them. Results, Signals and Where are known by their children.
pub record Item : Type 0 where
  pub expression : Expression
  pub component : Component
  pub type : TypeExpression
  pub constant : Constant
  pub selector : Typed
  pub operation : Typed
  pub declaration : Typed
  pub exception : Exception
  pub type_set : TypeSet
  pub equate : Equate
  pub statement : Statement
  pub tag_arm : TagArm
  pub when : When
  pub others : Others
  pub parameter : Parameter
  pub restriction : Restriction
  pub own : Own
  pub routine : Routine
  pub cluster : Cluster
  pub module_ : Module
  pub modules : List Module

-- what is none of them
abbrev pub no_name : Expression
no_name = a_name 0 []

abbrev pub no_type : TypeExpression
no_type = a_named_type 0 [] no_constants

abbrev pub no_typed : Typed
no_typed = record { node = 0; names = []; type = no_type }

abbrev pub no_body : Body
no_body = a_body no_equates no_statements

abbrev pub no_routine : Routine
no_routine = record { node = 0; name = []; closing = []; kind = routine_word.Procedure; parameters = []; arguments = []; results = no_types; signals = no_exceptions; restrictions = []; equates = no_equates; owns = []; statements = no_statements }

abbrev pub no_item : Item
no_item = record {
  expression = no_name;
  component = record { node = 0; names = []; value = no_name };
  type = no_type;
  constant = an_expression no_name;
  selector = no_typed;
  operation = no_typed;
  declaration = no_typed;
  exception = record { node = 0; name = []; types = no_types };
  type_set = a_type_set 0 [] [] [] no_equates;
  equate = an_equate 0 None (an_expression no_name);
  statement = a_break 0;
  tag_arm = record { node = 0; tags = []; variable = None; body = no_body };
  when = record { node = 0; names = []; taken = any_objects; body = no_body };
  others = no_others;
  parameter = record { node = 0; names = []; type = None };
  restriction = is_in 0 [] [];
  own = own_variables 0 [];
  routine = no_routine;
  cluster = record { node = 0; name = []; closing = []; parameters = []; exports = []; restrictions = []; equates = no_equates; owns = []; routines = [] };
  module_ = a_routine 0 no_equates no_routine;
  modules = [];
}

-- lists of parts, where `items` says what each node is
module _ (items : ℕ → Item) where
  abbrev pub expressions_at : List ℕ → Expressions
  expressions_at [] = no_expressions
  expressions_at (c ∷ cs) = expression_and (items c).expression (expressions_at cs)

  abbrev pub component_before : Component → Components → Components
  component_before c cs = component_and c.node c.names c.value cs

  abbrev pub components_at : List ℕ → Components
  components_at [] = no_components
  components_at (c ∷ cs) = component_before (items c).component (components_at cs)

  abbrev pub constants_at : List ℕ → Constants
  constants_at [] = no_constants
  constants_at (c ∷ cs) = constant_and (items c).constant (constants_at cs)

  abbrev pub types_at : List ℕ → TypeExpressions
  types_at [] = no_types
  types_at (c ∷ cs) = type_and (items c).type (types_at cs)

  abbrev pub selector_before : Typed → Selectors → Selectors
  selector_before t ts = selector_and t.node t.names t.type ts

  abbrev pub selectors_at : List ℕ → Selectors
  selectors_at [] = no_selectors
  selectors_at (c ∷ cs) = selector_before (items c).selector (selectors_at cs)

  abbrev pub exception_before : Exception → Exceptions → Exceptions
  exception_before e es = exception_and e.node e.name e.types es

  abbrev pub exceptions_at : List ℕ → Exceptions
  exceptions_at [] = no_exceptions
  exceptions_at (c ∷ cs) = exception_before (items c).exception (exceptions_at cs)

  abbrev pub operations_at : List ℕ → List Typed
  operations_at [] = []
  operations_at (c ∷ cs) = (items c).operation ∷ operations_at cs

  abbrev pub declarations_at : List ℕ → List Typed
  declarations_at [] = []
  declarations_at (c ∷ cs) = (items c).declaration ∷ declarations_at cs

  abbrev pub equates_at : List ℕ → Equates
  equates_at [] = no_equates
  equates_at (c ∷ cs) = equate_and (items c).equate (equates_at cs)

  abbrev pub statements_at : List ℕ → Statements
  statements_at [] = no_statements
  statements_at (c ∷ cs) = statement_and (items c).statement (statements_at cs)

  abbrev pub tag_arm_before : TagArm → TagArms → TagArms
  tag_arm_before a arms = tag_arm_and a.node a.tags a.variable a.body arms

  abbrev pub tag_arms_at : List ℕ → TagArms
  tag_arms_at [] = no_tag_arms
  tag_arms_at (c ∷ cs) = tag_arm_before (items c).tag_arm (tag_arms_at cs)

  abbrev pub when_before : When → Whens → Whens
  when_before w ws = when_and w.node w.names w.taken w.body ws

  abbrev pub whens_at : List ℕ → Whens
  whens_at [] = no_whens
  whens_at (c ∷ cs) = when_before (items c).when (whens_at cs)

  abbrev pub others_at : Option ℕ → Others
  others_at None = no_others
  others_at (Some c) = (items c).others

  abbrev pub parameters_at : List ℕ → List Parameter
  parameters_at [] = []
  parameters_at (c ∷ cs) = (items c).parameter ∷ parameters_at cs

  abbrev pub restrictions_at : List ℕ → List Restriction
  restrictions_at [] = []
  restrictions_at (c ∷ cs) = (items c).restriction ∷ restrictions_at cs

  abbrev pub owns_at : List ℕ → List Own
  owns_at [] = []
  owns_at (c ∷ cs) = (items c).own ∷ owns_at cs

  abbrev pub routines_at : List ℕ → List Routine
  routines_at [] = []
  routines_at (c ∷ cs) = (items c).routine ∷ routines_at cs

  abbrev pub modules_at : List ℕ → List Module
  modules_at [] = []
  modules_at (c ∷ cs) = (items c).module_ ∷ modules_at cs

  -- idn ":" type, where the type is there
  abbrev pub variable_of : Option Identifier → Option ℕ → Option Variable
  variable_of None t = None
  variable_of (Some name) None = None
  variable_of (Some name) (Some c) = Some (record { name = name; type = (items c).type })

  abbrev pub type_of_option : Option ℕ → Option TypeExpression
  type_of_option None = None
  type_of_option (Some c) = Some (items c).type
