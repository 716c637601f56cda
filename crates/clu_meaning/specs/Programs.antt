-- Programs as they run. A variable is the number of its declaration, types and constants are terms over the parameters of
-- the module, and the name of a routine is what it denotes. A comment is the CLU that a construct comes from.
use Rattle.std.specs.Prelude.{ℕ, Bool, List}
use Rattle.clu_base.specs.declared.constants.Const.{Const}
use Rattle.clu_types.specs.CluType.{CluType}
use Rattle.clu_layout.specs.Objects.{Routine}

-- a variable of the running routine, formal arguments too; an own variable of the routine; one of its cluster
pub data Variable : Type 0 where
  local own_of_routine own_of_cluster : ℕ → Variable

mutual
  pub data Expression : Type 0 where
    -- a literal, or the name of a constant
    constant : Const → Expression
    -- the name of a constant parameter, by its number
    constant_parameter : ℕ → Expression
    variable : Variable → Expression
    -- p, p[actuals], t$op, force[t]
    routine : Routine → Expression
    -- (e)
    parenthesized : Expression → Expression
    -- e1 + e2, -e, a[i], r.s: the operation of this name of the first operand's type
    operator : List ℕ → Expression → Expressions → Expression
    -- e1 ~= e2: not of that
    negated : List ℕ → Expression → Expressions → Expression
    -- e1 cand e2, e1 cor e2
    cand cor : Expression → Expression → Expression
    -- f(es)
    call : Expression → Expressions → Expression
    -- t${a, b: e}
    fields : CluType → Components → Expression
    -- t$[es], t$[low: es]
    elements : CluType → Expressions → Expression
    elements_from : CluType → Expression → Expressions → Expression
    -- up(e), down(e)
    up down : Expression → Expression
    -- an expression that counts so many units of work besides, once it has given its objects
    besides : ℕ → Expression → Expression

  pub data Expressions : Type 0 where
    no_expressions : Expressions
    expression_and : Expression → Expressions → Expressions

  -- selectors with the object that each of them has
  pub data Components : Type 0 where
    no_components : Components
    component_and : List (List ℕ) → Expression → Components → Components

-- what a when arm does with the objects of an exception: it names them, or drops them
pub data Taken : Type 0 where
  named : List Variable → Taken
  dropped : Taken

mutual
  pub data Statement : Type 0 where
    -- x, y: t
    declaration : List Variable → Statement
    -- x: t := e; x: t, y: u := f(es)
    initialisation : List Variable → Expression → Statement
    -- x, y := es
    assignment : List Variable → Expressions → Statement
    -- x, y := f(es)
    assignment_of_results : List Variable → Expression → Statement
    -- r.s := e, a[i] := e: the operation of this name of the first object's type
    update : List ℕ → Expression → Expressions → Statement
    call_statement : Expression → Statement
    while_statement : Expression → Statements → Statement
    -- for x: t in f(es) do body end, with how many variables it declares
    for_statement : ℕ → List Variable → Expression → Expressions → Statements → Statement
    if_statement : Clauses → Otherwise → Statement
    tagcase_statement : Expression → TagArms → Otherwise → Statement
    return_statement yield_statement : Expressions → Statement
    signal_statement exit_statement : List ℕ → Expressions → Statement
    break_statement continue_statement : Statement
    begin_statement : Statements → Statement
    resignal_statement : Statement → List (List ℕ) → Statement
    except_statement : Statement → Whens → Others → Statement

  pub data Statements : Type 0 where
    no_statements : Statements
    statement_and : Statement → Statements → Statements

  -- e then body
  pub data Clauses : Type 0 where
    no_clauses : Clauses
    clause_and : Expression → Statements → Clauses → Clauses

  pub data Otherwise : Type 0 where
    nothing_else : Otherwise
    otherwise : Statements → Otherwise

  -- tag a, b (x: t): body
  pub data TagArms : Type 0 where
    no_tag_arms : TagArms
    tag_arm_and : List (List ℕ) → List Variable → Statements → TagArms → TagArms

  -- when e, f (x: t): body
  pub data Whens : Type 0 where
    no_whens : Whens
    when_and : List (List ℕ) → Taken → Statements → Whens → Whens

  -- others (s: string): body
  pub data Others : Type 0 where
    no_others : Others
    others : List Variable → Statements → Others

-- a type in a heading. `cvt` is the cluster's type to callers, and its representation to the body
pub data HeadingType : Type 0 where
  plain : CluType → HeadingType
  cvt : CluType → CluType → HeadingType

-- a declared variable
pub record Declaration : Type 0 where
  pub number : ℕ
  pub type : CluType

pub record Formal : Type 0 where
  pub number : ℕ
  pub type : HeadingType

pub record Exception : Type 0 where
  pub name : List ℕ
  pub objects : List HeadingType

-- A procedure or iterator: its heading, with what it returns or yields and its signals in ascending order without
-- failure; its variables, formal arguments too, with types as the body sees them; its own variables, and the statements
-- that set them up; and the count of its nodes.
pub record RoutineDefinition : Type 0 where
  pub name : List ℕ
  pub is_iterator : Bool
  pub parameters : ℕ
  pub formals : List Formal
  pub results : List HeadingType
  pub signals : List Exception
  pub locals : List Declaration
  pub owns : List Declaration
  pub set_up : Statements
  pub body : Statements
  pub count : ℕ

-- a cluster: its exported operations, its representation, its own variables with what sets them up, and the count of the
-- nodes of their declarations; and its routines
pub record ClusterDefinition : Type 0 where
  pub name : List ℕ
  pub parameters : ℕ
  pub exports : List (List ℕ)
  pub representation : CluType
  pub owns : List Declaration
  pub set_up : Statements
  pub set_up_count : ℕ
  pub routines : List RoutineDefinition

pub data Module : Type 0 where
  routine_module : RoutineDefinition → Module
  cluster_module : ClusterDefinition → Module

abbrev pub Program : Type 0
Program = List Module
