-- The syntax of CLU as values. A comment is the production: `[x]` is optional, `{x}` is any number, `x#` is one or more
-- x separated by commas, `a / b` is a choice. The first number of a construct is that of its node, by which the
-- declarations of names are found. Words and identifiers are in lower case.
use Rattle.std.specs.Prelude.{ℕ, List, [], ◌∷◌, Option}
use Rattle.clu_syntax.specs.declared.words.Operator.{Operator}
use Rattle.clu_syntax.specs.declared.words.Sign.{Sign}
use Rattle.clu_syntax.specs.declared.words.SimpleType.{SimpleType}
use Rattle.clu_syntax.specs.declared.words.ListType.{ListType}
use Rattle.clu_syntax.specs.declared.words.FieldsType.{FieldsType}
use Rattle.clu_syntax.specs.declared.words.RoutineKind.{RoutineKind}

abbrev pub Identifier : Type 0
Identifier = List ℕ

-- an integer, real, character or string literal as it is spelled
pub data Literal : Type 0 where
  nil true_literal false_literal : Literal
  integer real character string : List ℕ → Literal

mutual
  -- expr = Infix / Prefix / Paren / Literal / Name / Index / Get / Call / Fields / Elems / OperOf / Force / Up / Down
  pub data Expression : Type 0 where
    -- expr operator expr
    an_infix : ℕ → Operator → Expression → Expression → Expression
    -- ("~" / "-") expr
    a_prefix : ℕ → Sign → Expression → Expression
    -- "(" expr ")"
    a_paren : ℕ → Expression → Expression
    a_literal : ℕ → Literal → Expression
    a_name : ℕ → Identifier → Expression
    -- primary "[" constant# "]"
    an_index : ℕ → Expression → Constants → Expression
    -- primary "." idn
    a_get : ℕ → Expression → Identifier → Expression
    -- primary "(" [expr#] ")"
    a_call : ℕ → Expression → Expressions → Expression
    -- type "$" "{" FieldE# "}"
    fields : ℕ → TypeExpression → Components → Expression
    -- type "$" "[" [expr#] "]"
    elements : ℕ → TypeExpression → Expressions → Expression
    -- type "$" "[" expr ":" [expr#] "]"
    elements_from : ℕ → TypeExpression → Expression → Expressions → Expression
    -- type "$" idn
    an_operation : ℕ → TypeExpression → Identifier → Expression
    -- force "[" type "]"
    a_force : ℕ → TypeExpression → Expression
    -- up "(" expr ")"
    an_up : ℕ → Expression → Expression
    -- down "(" expr ")"
    a_down : ℕ → Expression → Expression

  pub data Expressions : Type 0 where
    no_expressions : Expressions
    expression_and : Expression → Expressions → Expressions

  -- FieldE = idn# ":" expr
  pub data Components : Type 0 where
    no_components : Components
    component_and : ℕ → List Identifier → Expression → Components → Components

  -- constant = expr / type
  pub data Constant : Type 0 where
    an_expression : Expression → Constant
    a_type : TypeExpression → Constant

  pub data Constants : Type 0 where
    no_constants : Constants
    constant_and : Constant → Constants → Constants

  -- type = Simple / ListT / FieldsT / RoutineT / NameT
  pub data TypeExpression : Type 0 where
    -- null / bool / int / real / char / string / any / rep / cvt
    a_simple_type : ℕ → SimpleType → TypeExpression
    -- (array / sequence) "[" type "]"
    a_list_type : ℕ → ListType → TypeExpression → TypeExpression
    -- (record / struct / oneof / variant) "[" FieldT# "]"
    a_fields_type : ℕ → FieldsType → Selectors → TypeExpression
    -- (proctype / itertype) "(" [type#] ")" [(returns / yields) "(" type# ")"] [signals "(" Exc# ")"]
    a_routine_type : ℕ → RoutineKind → TypeExpressions → TypeExpressions → Exceptions → TypeExpression
    -- idn ["[" constant# "]"]
    a_named_type : ℕ → Identifier → Constants → TypeExpression

  pub data TypeExpressions : Type 0 where
    no_types : TypeExpressions
    type_and : TypeExpression → TypeExpressions → TypeExpressions

  -- FieldT = idn# ":" type
  pub data Selectors : Type 0 where
    no_selectors : Selectors
    selector_and : ℕ → List Identifier → TypeExpression → Selectors → Selectors

  -- Exc = idn ["(" type# ")"]
  pub data Exceptions : Type 0 where
    no_exceptions : Exceptions
    exception_and : ℕ → Identifier → TypeExpressions → Exceptions → Exceptions

-- idn# ":" type; this is a Decl, an Oper, and a FieldT by itself
pub record Typed : Type 0 where
  pub node : ℕ
  pub names : List Identifier
  pub type : TypeExpression

-- FieldE = idn# ":" expr
pub record Component : Type 0 where
  pub node : ℕ
  pub names : List Identifier
  pub value : Expression

-- Exc = idn ["(" type# ")"]
pub record Exception : Type 0 where
  pub node : ℕ
  pub name : Identifier
  pub types : TypeExpressions

mutual
  -- (idn / rep) "=" (constant / TypeSet); `rep` has no identifier
  pub data Equate : Type 0 where
    an_equate : ℕ → Option Identifier → Constant → Equate
    a_set_equate : ℕ → Option Identifier → TypeSet → Equate

  -- "{" idn "|" idn has Oper# {Equate} "}"
  pub data TypeSet : Type 0 where
    a_type_set : ℕ → Identifier → Identifier → List Typed → Equates → TypeSet

  pub data Equates : Type 0 where
    no_equates : Equates
    equate_and : Equate → Equates → Equates

-- idn ":" type, the one variable of an arm
pub record Variable : Type 0 where
  pub name : Identifier
  pub type : TypeExpression

-- what a when arm takes: ["(" Decl# ")" / "(" "*" ")"]
pub data Taken : Type 0 where
  objects : List Typed → Taken
  any_objects : Taken

mutual
  pub data Statement : Type 0 where
    -- idn# ":" type
    a_declare : ℕ → Typed → Statement
    -- idn ":" type ":=" expr
    an_init : ℕ → Variable → Expression → Statement
    -- Decl# ":=" Call
    a_call_init : ℕ → List Typed → Expression → Statement
    -- idn# ":=" expr#
    an_assign : ℕ → List Identifier → Expressions → Statement
    -- primary "." idn ":=" expr
    a_set_field : ℕ → Expression → Identifier → Expression → Statement
    -- primary "[" expr "]" ":=" expr
    a_set_index : ℕ → Expression → Expression → Expression → Statement
    a_call_statement : ℕ → Expression → Statement
    -- while expr do body end
    a_while : ℕ → Expression → Body → Statement
    -- for [Decl#] in Call do body end
    a_for : ℕ → List Typed → Expression → Body → Statement
    -- for idn# in Call do body end
    a_for_of_names : ℕ → List Identifier → Expression → Body → Statement
    -- if expr then body {elseif expr then body} [else body] end
    an_if : ℕ → Clauses → Otherwise → Statement
    -- tagcase expr TagArm {TagArm} [others ":" body] end
    a_tagcase : ℕ → Expression → TagArms → Otherwise → Statement
    -- return ["(" expr# ")"]
    a_return : ℕ → Expressions → Statement
    -- yield ["(" expr# ")"]
    a_yield : ℕ → Expressions → Statement
    -- signal idn ["(" expr# ")"]
    a_signal : ℕ → Identifier → Expressions → Statement
    -- exit idn ["(" expr# ")"]
    an_exit : ℕ → Identifier → Expressions → Statement
    a_break a_continue : ℕ → Statement
    -- begin body end
    a_begin : ℕ → Body → Statement
    -- stmt resignal idn#
    a_resignal : ℕ → Statement → List Identifier → Statement
    -- stmt except {When} [Others] end
    an_except : ℕ → Statement → Whens → Others → Statement

  pub data Statements : Type 0 where
    no_statements : Statements
    statement_and : Statement → Statements → Statements

  -- {Equate} {stmt}
  pub data Body : Type 0 where
    a_body : Equates → Statements → Body

  -- expr then body
  pub data Clauses : Type 0 where
    no_clauses : Clauses
    clause_and : Expression → Body → Clauses → Clauses

  pub data Otherwise : Type 0 where
    nothing_else : Otherwise
    otherwise : Body → Otherwise

  -- TagArm = tag idn# ["(" idn ":" type ")"] ":" body
  pub data TagArms : Type 0 where
    no_tag_arms : TagArms
    tag_arm_and : ℕ → List Identifier → Option Variable → Body → TagArms → TagArms

  -- When = when idn# ["(" Decl# ")" / "(" "*" ")"] ":" body
  pub data Whens : Type 0 where
    no_whens : Whens
    when_and : ℕ → List Identifier → Taken → Body → Whens → Whens

  -- Others = others ["(" idn ":" type ")"] ":" body
  pub data Others : Type 0 where
    no_others : Others
    others : ℕ → Option Variable → Body → Others

-- idn# ":" (type-word / type); `type` has no type expression
pub record Parameter : Type 0 where
  pub node : ℕ
  pub names : List Identifier
  pub type : Option TypeExpression

-- own (Decl# / idn ":" type ":=" expr / Decl# ":=" Call)
pub data Own : Type 0 where
  own_variables : ℕ → List Typed → Own
  own_init : ℕ → Variable → Expression → Own
  own_call_init : ℕ → List Typed → Expression → Own

-- idn has Oper# / idn in idn / idn in TypeSet
pub data Restriction : Type 0 where
  has_operations : ℕ → Identifier → List Typed → Restriction
  is_in : ℕ → Identifier → Identifier → Restriction
  is_in_set : ℕ → Identifier → TypeSet → Restriction

-- idn "=" (proc / iter) ["[" Parm# "]"] "(" [Decl#] ")" [Results] [Signals] [Where] {Equate} {Own} {stmt} end idn
pub record Routine : Type 0 where
  pub node : ℕ
  pub name : Identifier
  pub closing : Identifier
  pub kind : RoutineKind
  pub parameters : List Parameter
  pub arguments : List Typed
  pub results : TypeExpressions
  pub signals : Exceptions
  pub restrictions : List Restriction
  pub equates : Equates
  pub owns : List Own
  pub statements : Statements

-- idn "=" cluster ["[" Parm# "]"] is idn# [Where] {Equate} {Own} Routine {Routine} end idn
pub record Cluster : Type 0 where
  pub node : ℕ
  pub name : Identifier
  pub closing : Identifier
  pub parameters : List Parameter
  pub exports : List Identifier
  pub restrictions : List Restriction
  pub equates : Equates
  pub owns : List Own
  pub routines : List Routine

-- {Equate} (Routine / Cluster)
pub data Module : Type 0 where
  a_routine : ℕ → Equates → Routine → Module
  a_cluster : ℕ → Equates → Cluster → Module
