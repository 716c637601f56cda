-- Programs that compute: operations of int. Each is the tree of the CLU above it.
use Rattle.std.specs.Fmt.{digits}
use Rattle.std.specs.Prelude.{refl, List, [], ◌∷◌, codes, Some, None}
use Rattle.clu_names.specs.declared.scopes.Declared.{Declared}
use Rattle.clu_syntax.specs.declared.words.Operator.TheVariants as op
use Rattle.clu_syntax.specs.declared.words.Sign.TheVariants as sign
use Rattle.clu_syntax.specs.declared.words.SimpleType.TheVariants as simple
use Rattle.clu_syntax.specs.declared.words.ListType.TheVariants as list
use Rattle.clu_syntax.specs.declared.words.RoutineKind.TheVariants as kind
use Rattle.clu_syntax.specs.Syntax.{integer, string, an_infix, a_prefix, a_paren, a_literal, a_name, a_call, elements, an_operation, no_expressions, expression_and, no_constants, a_simple_type, a_list_type, a_named_type, no_types, no_exceptions, no_equates, objects, an_init, an_assign, a_call_statement, a_for, an_if, an_except, no_statements, statement_and, a_body, no_clauses, clause_and, otherwise, no_whens, when_and, no_others, others, Module, a_routine}
use Rattle.clu_layout.specs.Computing.{computing}
use Rattle.clu_meaning.specs.Run.{returned_normally}
use Rattle.clu_meaning.specs.Executing.{executing}
use Rattle.clu_meaning.proofs.Running.{d, typed, a_variable, routine, Runs}

-- % int-edges
-- start_up = proc ()
-- stream$putl(stream$primary_output(), int$unparse(9223372036854775807 - 1 + 1)) stream$putl(stream$primary_output(), int$unparse((-9223372036854775807 - 1) + 1 - 1)) stream$putl(stream$primary_output(), int$unparse(3037000499 * 3037000499))
--   stream$putl(stream$primary_output(), int$unparse(-9223372036854775807)) stream$putl(stream$primary_output(), int$unparse((-9223372036854775807 - 1) + 9223372036854775807)) stream$putl(stream$primary_output(), int$unparse((-2) ** 63)) stream$putl(stream$primary_output(), int$unparse(2 ** 62)) stream$putl(stream$primary_output(), int$unparse((-9223372036854775807 - 1) * 1))
-- end start_up
abbrev int_edges_modules : List Module
int_edges_modules =
    ((a_routine 122 no_equates (routine 121 (codes "start_up") (codes "start_up") kind.Procedure [] ([]) no_types no_exceptions ([]) no_equates ([])
    (statement_and (a_call_statement 14 (a_call 13 (an_operation 1 (a_named_type 0 (codes "stream") no_constants) (codes "putl")) (expression_and
    (a_call 4 (an_operation 3 (a_named_type 2 (codes "stream") no_constants) (codes "primary_output")) no_expressions) (expression_and (a_call 12
    (an_operation 6 (a_simple_type 5 simple.Int) (codes "unparse")) (expression_and (an_infix 11 op.Add (an_infix 9 op.Subtract (a_literal 7 (integer
    (codes "9223372036854775807"))) (a_literal 8 (integer (codes "1")))) (a_literal 10 (integer (codes "1")))) no_expressions)) no_expressions))))
    (statement_and (a_call_statement 33 (a_call 32 (an_operation 16 (a_named_type 15 (codes "stream") no_constants) (codes "putl")) (expression_and
    (a_call 19 (an_operation 18 (a_named_type 17 (codes "stream") no_constants) (codes "primary_output")) no_expressions) (expression_and (a_call 31
    (an_operation 21 (a_simple_type 20 simple.Int) (codes "unparse")) (expression_and (an_infix 30 op.Subtract (an_infix 28 op.Add (a_paren 26
    (an_infix 25 op.Subtract (a_prefix 23 sign.Minus (a_literal 22 (integer (codes "9223372036854775807")))) (a_literal 24 (integer (codes "1")))))
    (a_literal 27 (integer (codes "1")))) (a_literal 29 (integer (codes "1")))) no_expressions)) no_expressions)))) (statement_and (a_call_statement
    46 (a_call 45 (an_operation 35 (a_named_type 34 (codes "stream") no_constants) (codes "putl")) (expression_and (a_call 38 (an_operation 37
    (a_named_type 36 (codes "stream") no_constants) (codes "primary_output")) no_expressions) (expression_and (a_call 44 (an_operation 40
    (a_simple_type 39 simple.Int) (codes "unparse")) (expression_and (an_infix 43 op.Multiply (a_literal 41 (integer (codes "3037000499"))) (a_literal
    42 (integer (codes "3037000499")))) no_expressions)) no_expressions)))) (statement_and (a_call_statement 58 (a_call 57 (an_operation 48
    (a_named_type 47 (codes "stream") no_constants) (codes "putl")) (expression_and (a_call 51 (an_operation 50 (a_named_type 49 (codes "stream")
    no_constants) (codes "primary_output")) no_expressions) (expression_and (a_call 56 (an_operation 53 (a_simple_type 52 simple.Int) (codes
    "unparse")) (expression_and (a_prefix 55 sign.Minus (a_literal 54 (integer (codes "9223372036854775807")))) no_expressions)) no_expressions))))
    (statement_and (a_call_statement 75 (a_call 74 (an_operation 60 (a_named_type 59 (codes "stream") no_constants) (codes "putl")) (expression_and
    (a_call 63 (an_operation 62 (a_named_type 61 (codes "stream") no_constants) (codes "primary_output")) no_expressions) (expression_and (a_call 73
    (an_operation 65 (a_simple_type 64 simple.Int) (codes "unparse")) (expression_and (an_infix 72 op.Add (a_paren 70 (an_infix 69 op.Subtract
    (a_prefix 67 sign.Minus (a_literal 66 (integer (codes "9223372036854775807")))) (a_literal 68 (integer (codes "1"))))) (a_literal 71 (integer
    (codes "9223372036854775807")))) no_expressions)) no_expressions)))) (statement_and (a_call_statement 90 (a_call 89 (an_operation 77 (a_named_type
    76 (codes "stream") no_constants) (codes "putl")) (expression_and (a_call 80 (an_operation 79 (a_named_type 78 (codes "stream") no_constants)
    (codes "primary_output")) no_expressions) (expression_and (a_call 88 (an_operation 82 (a_simple_type 81 simple.Int) (codes "unparse"))
    (expression_and (an_infix 87 op.Power (a_paren 85 (a_prefix 84 sign.Minus (a_literal 83 (integer (codes "2"))))) (a_literal 86 (integer (codes
    "63")))) no_expressions)) no_expressions)))) (statement_and (a_call_statement 103 (a_call 102 (an_operation 92 (a_named_type 91 (codes "stream")
    no_constants) (codes "putl")) (expression_and (a_call 95 (an_operation 94 (a_named_type 93 (codes "stream") no_constants) (codes
    "primary_output")) no_expressions) (expression_and (a_call 101 (an_operation 97 (a_simple_type 96 simple.Int) (codes "unparse")) (expression_and
    (an_infix 100 op.Power (a_literal 98 (integer (codes "2"))) (a_literal 99 (integer (codes "62")))) no_expressions)) no_expressions))))
    (statement_and (a_call_statement 120 (a_call 119 (an_operation 105 (a_named_type 104 (codes "stream") no_constants) (codes "putl"))
    (expression_and (a_call 108 (an_operation 107 (a_named_type 106 (codes "stream") no_constants) (codes "primary_output")) no_expressions)
    (expression_and (a_call 118 (an_operation 110 (a_simple_type 109 simple.Int) (codes "unparse")) (expression_and (an_infix 117 op.Multiply (a_paren
    115 (an_infix 114 op.Subtract (a_prefix 112 sign.Minus (a_literal 111 (integer (codes "9223372036854775807")))) (a_literal 113 (integer (codes
    "1"))))) (a_literal 116 (integer (codes "1")))) no_expressions)) no_expressions)))) no_statements)))))))))) ∷ [])

abbrev int_edges_declared : List Declared
int_edges_declared =
    (d (codes "start_up") 121 0 4294967295 None ∷ [])

int_edges : Runs int_edges_declared int_edges_modules (codes "") 10000 returned_normally (57 ∷ 50 ∷ 50 ∷ 51 ∷ 51 ∷ 55 ∷ 50 ∷ 48 ∷ 51 ∷ 54 ∷ 56 ∷ 53 ∷ 52 ∷ 55 ∷ 55 ∷ 53 ∷ 56 ∷ 48 ∷ 55 ∷ 10 ∷ 45 ∷ 57 ∷ 50 ∷ 50 ∷ 51 ∷ 51 ∷ 55 ∷ 50 ∷ 48 ∷ 51 ∷ 54 ∷ 56 ∷ 53 ∷ 52 ∷ 55 ∷ 55 ∷ 53 ∷ 56 ∷ 48 ∷ 56 ∷ 10 ∷ 57 ∷ 50 ∷ 50 ∷ 51 ∷ 51 ∷ 55 ∷ 50 ∷ 48 ∷ 51 ∷ 48 ∷ 57 ∷ 50 ∷ 54 ∷ 50 ∷ 52 ∷ 57 ∷ 48 ∷ 48 ∷ 49 ∷ 10 ∷ 45 ∷ 57 ∷ 50 ∷ 50 ∷ 51 ∷ 51 ∷ 55 ∷ 50 ∷ 48 ∷ 51 ∷ 54 ∷ 56 ∷ 53 ∷ 52 ∷ 55 ∷ 55 ∷ 53 ∷ 56 ∷ 48 ∷ 55 ∷ 10 ∷ 45 ∷ 49 ∷ 10 ∷ 45 ∷ 57 ∷ 50 ∷ 50 ∷ 51 ∷ 51 ∷ 55 ∷ 50 ∷ 48 ∷ 51 ∷ 54 ∷ 56 ∷ 53 ∷ 52 ∷ 55 ∷ 55 ∷ 53 ∷ 56 ∷ 48 ∷ 56 ∷ 10 ∷ 52 ∷ 54 ∷ 49 ∷ 49 ∷ 54 ∷ 56 ∷ 54 ∷ 48 ∷ 49 ∷ 56 ∷ 52 ∷ 50 ∷ 55 ∷ 51 ∷ 56 ∷ 55 ∷ 57 ∷ 48 ∷ 52 ∷ 10 ∷ 45 ∷ 57 ∷ 50 ∷ 50 ∷ 51 ∷ 51 ∷ 55 ∷ 50 ∷ 48 ∷ 51 ∷ 54 ∷ 56 ∷ 53 ∷ 52 ∷ 55 ∷ 55 ∷ 53 ∷ 56 ∷ 48 ∷ 56 ∷ 10 ∷ []) 32 326
unfolding executing computing digits
int_edges = refl

-- % int-zero-divide
-- start_up = proc ()
-- x: int := 1 / 0 except when zero_divide: stream$putl(stream$primary_output(), "z") end
--   x := (-9223372036854775807 - 1) / 0 except when overflow: stream$putl(stream$primary_output(), "o") when zero_divide: stream$putl(stream$primary_output(), "z2") end
--   x := 5 // 0 except when zero_divide: stream$putl(stream$primary_output(), "z3") end
--   x := 0 / 0 except others (s: string): stream$putl(stream$primary_output(), s) end
-- end start_up
abbrev int_zero_divide_modules : List Module
int_zero_divide_modules =
    ((a_routine 72 no_equates (routine 71 (codes "start_up") (codes "start_up") kind.Procedure [] ([]) no_types no_exceptions ([]) no_equates ([])
    (statement_and (an_except 14 (an_init 4 (a_variable (codes "x") (a_simple_type 0 simple.Int)) (an_infix 3 op.Divide (a_literal 1 (integer (codes
    "1"))) (a_literal 2 (integer (codes "0"))))) (when_and 13 ((codes "zero_divide") ∷ []) (objects []) (a_body no_equates (statement_and
    (a_call_statement 12 (a_call 11 (an_operation 6 (a_named_type 5 (codes "stream") no_constants) (codes "putl")) (expression_and (a_call 9
    (an_operation 8 (a_named_type 7 (codes "stream") no_constants) (codes "primary_output")) no_expressions) (expression_and (a_literal 10 (string (34
    ∷ 122 ∷ 34 ∷ []))) no_expressions)))) no_statements)) no_whens) no_others) (statement_and (an_except 41 (an_assign 22 ((codes "x") ∷ [])
    (expression_and (an_infix 21 op.Divide (a_paren 19 (an_infix 18 op.Subtract (a_prefix 16 sign.Minus (a_literal 15 (integer (codes
    "9223372036854775807")))) (a_literal 17 (integer (codes "1"))))) (a_literal 20 (integer (codes "0")))) no_expressions)) (when_and 31 ((codes
    "overflow") ∷ []) (objects []) (a_body no_equates (statement_and (a_call_statement 30 (a_call 29 (an_operation 24 (a_named_type 23 (codes
    "stream") no_constants) (codes "putl")) (expression_and (a_call 27 (an_operation 26 (a_named_type 25 (codes "stream") no_constants) (codes
    "primary_output")) no_expressions) (expression_and (a_literal 28 (string (34 ∷ 111 ∷ 34 ∷ []))) no_expressions)))) no_statements)) (when_and 40
    ((codes "zero_divide") ∷ []) (objects []) (a_body no_equates (statement_and (a_call_statement 39 (a_call 38 (an_operation 33 (a_named_type 32
    (codes "stream") no_constants) (codes "putl")) (expression_and (a_call 36 (an_operation 35 (a_named_type 34 (codes "stream") no_constants) (codes
    "primary_output")) no_expressions) (expression_and (a_literal 37 (string (34 ∷ 122 ∷ 50 ∷ 34 ∷ []))) no_expressions)))) no_statements)) no_whens))
    no_others) (statement_and (an_except 55 (an_assign 45 ((codes "x") ∷ []) (expression_and (an_infix 44 op.Remainder (a_literal 42 (integer (codes
    "5"))) (a_literal 43 (integer (codes "0")))) no_expressions)) (when_and 54 ((codes "zero_divide") ∷ []) (objects []) (a_body no_equates
    (statement_and (a_call_statement 53 (a_call 52 (an_operation 47 (a_named_type 46 (codes "stream") no_constants) (codes "putl")) (expression_and
    (a_call 50 (an_operation 49 (a_named_type 48 (codes "stream") no_constants) (codes "primary_output")) no_expressions) (expression_and (a_literal
    51 (string (34 ∷ 122 ∷ 51 ∷ 34 ∷ []))) no_expressions)))) no_statements)) no_whens) no_others) (statement_and (an_except 70 (an_assign 59 ((codes
    "x") ∷ []) (expression_and (an_infix 58 op.Divide (a_literal 56 (integer (codes "0"))) (a_literal 57 (integer (codes "0")))) no_expressions))
    no_whens (others 69 (Some (a_variable (codes "s") (a_simple_type 60 simple.String))) (a_body no_equates (statement_and (a_call_statement 68
    (a_call 67 (an_operation 62 (a_named_type 61 (codes "stream") no_constants) (codes "putl")) (expression_and (a_call 65 (an_operation 64
    (a_named_type 63 (codes "stream") no_constants) (codes "primary_output")) no_expressions) (expression_and (a_name 66 (codes "s"))
    no_expressions)))) no_statements)))) no_statements)))))) ∷ [])

abbrev int_zero_divide_declared : List Declared
int_zero_divide_declared =
    (d (codes "x") 4 5 71 (Some 0) ∷ d (codes "s") 69 61 68 (Some 0) ∷ d (codes "start_up") 71 0 4294967295 None ∷ [])

int_zero_divide : Runs int_zero_divide_declared int_zero_divide_modules (codes "") 10000 returned_normally (122 ∷ 10 ∷ 122 ∷ 50 ∷ 10 ∷ 122 ∷ 51 ∷ 10 ∷ 122 ∷ 101 ∷ 114 ∷ 111 ∷ 95 ∷ 100 ∷ 105 ∷ 118 ∷ 105 ∷ 100 ∷ 101 ∷ 10 ∷ []) 0 226
unfolding executing computing digits
int_zero_divide = refl

-- % int-orders
-- tf = proc (b: bool) if b then stream$putl(stream$primary_output(), "T") else stream$putl(stream$primary_output(), "F") end end tf
-- start_up = proc ()
-- tf(1 < 2) tf(2 <= 2) tf(3 >= 4) tf(9223372036854775807 > (-9223372036854775807 - 1)) tf(1 ~< 2) tf(2 ~<= 2) tf(3 ~>= 4)
--   tf(9223372036854775807 ~> (-9223372036854775807 - 1)) tf(-1 < 0) tf(int$lt(5, 4)) tf(int$le(4, 4)) tf(int$ge(4, 5)) tf(int$gt(5, 4))
-- end start_up
abbrev int_orders_modules : List Module
int_orders_modules =
    ((a_routine 21 no_equates (routine 20 (codes "tf") (codes "tf") kind.Procedure [] (typed 1 ((codes "b") ∷ []) (a_simple_type 0 simple.Bool) ∷ [])
    no_types no_exceptions ([]) no_equates ([]) (statement_and (an_if 19 (clause_and (a_name 2 (codes "b")) (a_body no_equates (statement_and
    (a_call_statement 10 (a_call 9 (an_operation 4 (a_named_type 3 (codes "stream") no_constants) (codes "putl")) (expression_and (a_call 7
    (an_operation 6 (a_named_type 5 (codes "stream") no_constants) (codes "primary_output")) no_expressions) (expression_and (a_literal 8 (string (34
    ∷ 84 ∷ 34 ∷ []))) no_expressions)))) no_statements)) no_clauses) (otherwise (a_body no_equates (statement_and (a_call_statement 18 (a_call 17
    (an_operation 12 (a_named_type 11 (codes "stream") no_constants) (codes "putl")) (expression_and (a_call 15 (an_operation 14 (a_named_type 13
    (codes "stream") no_constants) (codes "primary_output")) no_expressions) (expression_and (a_literal 16 (string (34 ∷ 70 ∷ 34 ∷ [])))
    no_expressions)))) no_statements)))) no_statements))) ∷ (a_routine 118 no_equates (routine 117 (codes "start_up") (codes "start_up")
    kind.Procedure [] ([]) no_types no_exceptions ([]) no_equates ([]) (statement_and (a_call_statement 27 (a_call 26 (a_name 22 (codes "tf"))
    (expression_and (an_infix 25 op.Less (a_literal 23 (integer (codes "1"))) (a_literal 24 (integer (codes "2")))) no_expressions))) (statement_and
    (a_call_statement 33 (a_call 32 (a_name 28 (codes "tf")) (expression_and (an_infix 31 op.AtMost (a_literal 29 (integer (codes "2"))) (a_literal 30
    (integer (codes "2")))) no_expressions))) (statement_and (a_call_statement 39 (a_call 38 (a_name 34 (codes "tf")) (expression_and (an_infix 37
    op.AtLeast (a_literal 35 (integer (codes "3"))) (a_literal 36 (integer (codes "4")))) no_expressions))) (statement_and (a_call_statement 49
    (a_call 48 (a_name 40 (codes "tf")) (expression_and (an_infix 47 op.Greater (a_literal 41 (integer (codes "9223372036854775807"))) (a_paren 46
    (an_infix 45 op.Subtract (a_prefix 43 sign.Minus (a_literal 42 (integer (codes "9223372036854775807")))) (a_literal 44 (integer (codes "1"))))))
    no_expressions))) (statement_and (a_call_statement 55 (a_call 54 (a_name 50 (codes "tf")) (expression_and (an_infix 53 op.NotLess (a_literal 51
    (integer (codes "1"))) (a_literal 52 (integer (codes "2")))) no_expressions))) (statement_and (a_call_statement 61 (a_call 60 (a_name 56 (codes
    "tf")) (expression_and (an_infix 59 op.NotAtMost (a_literal 57 (integer (codes "2"))) (a_literal 58 (integer (codes "2")))) no_expressions)))
    (statement_and (a_call_statement 67 (a_call 66 (a_name 62 (codes "tf")) (expression_and (an_infix 65 op.NotAtLeast (a_literal 63 (integer (codes
    "3"))) (a_literal 64 (integer (codes "4")))) no_expressions))) (statement_and (a_call_statement 77 (a_call 76 (a_name 68 (codes "tf"))
    (expression_and (an_infix 75 op.NotGreater (a_literal 69 (integer (codes "9223372036854775807"))) (a_paren 74 (an_infix 73 op.Subtract (a_prefix
    71 sign.Minus (a_literal 70 (integer (codes "9223372036854775807")))) (a_literal 72 (integer (codes "1")))))) no_expressions))) (statement_and
    (a_call_statement 84 (a_call 83 (a_name 78 (codes "tf")) (expression_and (an_infix 82 op.Less (a_prefix 80 sign.Minus (a_literal 79 (integer
    (codes "1")))) (a_literal 81 (integer (codes "0")))) no_expressions))) (statement_and (a_call_statement 92 (a_call 91 (a_name 85 (codes "tf"))
    (expression_and (a_call 90 (an_operation 87 (a_simple_type 86 simple.Int) (codes "lt")) (expression_and (a_literal 88 (integer (codes "5")))
    (expression_and (a_literal 89 (integer (codes "4"))) no_expressions))) no_expressions))) (statement_and (a_call_statement 100 (a_call 99 (a_name
    93 (codes "tf")) (expression_and (a_call 98 (an_operation 95 (a_simple_type 94 simple.Int) (codes "le")) (expression_and (a_literal 96 (integer
    (codes "4"))) (expression_and (a_literal 97 (integer (codes "4"))) no_expressions))) no_expressions))) (statement_and (a_call_statement 108
    (a_call 107 (a_name 101 (codes "tf")) (expression_and (a_call 106 (an_operation 103 (a_simple_type 102 simple.Int) (codes "ge")) (expression_and
    (a_literal 104 (integer (codes "4"))) (expression_and (a_literal 105 (integer (codes "5"))) no_expressions))) no_expressions))) (statement_and
    (a_call_statement 116 (a_call 115 (a_name 109 (codes "tf")) (expression_and (a_call 114 (an_operation 111 (a_simple_type 110 simple.Int) (codes
    "gt")) (expression_and (a_literal 112 (integer (codes "5"))) (expression_and (a_literal 113 (integer (codes "4"))) no_expressions)))
    no_expressions))) no_statements))))))))))))))) ∷ [])

abbrev int_orders_declared : List Declared
int_orders_declared =
    (d (codes "b") 1 2 20 (Some 0) ∷ d (codes "tf") 20 0 4294967295 None ∷ d (codes "start_up") 117 0 4294967295 None ∷ [])

int_orders : Runs int_orders_declared int_orders_modules (codes "") 10000 returned_normally (84 ∷ 10 ∷ 84 ∷ 10 ∷ 70 ∷ 10 ∷ 84 ∷ 10 ∷ 70 ∷ 10 ∷ 70 ∷ 10 ∷ 84 ∷ 10 ∷ 70 ∷ 10 ∷ 84 ∷ 10 ∷ 70 ∷ 10 ∷ 84 ∷ 10 ∷ 70 ∷ 10 ∷ 84 ∷ 10 ∷ []) 0 334
unfolding executing computing digits
int_orders = refl

-- % int-parse
-- p = proc (s: string) stream$putl(stream$primary_output(), int$unparse(int$parse(s))) except others (e: string): stream$putl(stream$primary_output(), e) end end p
-- start_up = proc () p("12") p("+5") p("-7") p("") p("+") p("-") p("1 ") p(" 1")
--   p("1a2") p("--1") p("+-1") p("9223372036854775807") p("9223372036854775808")
--   p("-9223372036854775808") p("-9223372036854775809") p("007") p("-0") p("+0")
--   p("00000000000000000000000000012") p("99999999999999999999999999x")
--   p("99999999999999999999999999") p("1.0") p("1\000") end start_up
abbrev int_parse_modules : List Module
int_parse_modules =
    ((a_routine 28 no_equates (routine 27 (codes "p") (codes "p") kind.Procedure [] (typed 1 ((codes "s") ∷ []) (a_simple_type 0 simple.String) ∷ [])
    no_types no_exceptions ([]) no_equates ([]) (statement_and (an_except 26 (a_call_statement 15 (a_call 14 (an_operation 3 (a_named_type 2 (codes
    "stream") no_constants) (codes "putl")) (expression_and (a_call 6 (an_operation 5 (a_named_type 4 (codes "stream") no_constants) (codes
    "primary_output")) no_expressions) (expression_and (a_call 13 (an_operation 8 (a_simple_type 7 simple.Int) (codes "unparse")) (expression_and
    (a_call 12 (an_operation 10 (a_simple_type 9 simple.Int) (codes "parse")) (expression_and (a_name 11 (codes "s")) no_expressions))
    no_expressions)) no_expressions)))) no_whens (others 25 (Some (a_variable (codes "e") (a_simple_type 16 simple.String))) (a_body no_equates
    (statement_and (a_call_statement 24 (a_call 23 (an_operation 18 (a_named_type 17 (codes "stream") no_constants) (codes "putl")) (expression_and
    (a_call 21 (an_operation 20 (a_named_type 19 (codes "stream") no_constants) (codes "primary_output")) no_expressions) (expression_and (a_name 22
    (codes "e")) no_expressions)))) no_statements)))) no_statements))) ∷ (a_routine 122 no_equates (routine 121 (codes "start_up") (codes "start_up")
    kind.Procedure [] ([]) no_types no_exceptions ([]) no_equates ([]) (statement_and (a_call_statement 32 (a_call 31 (a_name 29 (codes "p"))
    (expression_and (a_literal 30 (string (34 ∷ 49 ∷ 50 ∷ 34 ∷ []))) no_expressions))) (statement_and (a_call_statement 36 (a_call 35 (a_name 33
    (codes "p")) (expression_and (a_literal 34 (string (34 ∷ 43 ∷ 53 ∷ 34 ∷ []))) no_expressions))) (statement_and (a_call_statement 40 (a_call 39
    (a_name 37 (codes "p")) (expression_and (a_literal 38 (string (34 ∷ 45 ∷ 55 ∷ 34 ∷ []))) no_expressions))) (statement_and (a_call_statement 44
    (a_call 43 (a_name 41 (codes "p")) (expression_and (a_literal 42 (string (34 ∷ 34 ∷ []))) no_expressions))) (statement_and (a_call_statement 48
    (a_call 47 (a_name 45 (codes "p")) (expression_and (a_literal 46 (string (34 ∷ 43 ∷ 34 ∷ []))) no_expressions))) (statement_and (a_call_statement
    52 (a_call 51 (a_name 49 (codes "p")) (expression_and (a_literal 50 (string (34 ∷ 45 ∷ 34 ∷ []))) no_expressions))) (statement_and
    (a_call_statement 56 (a_call 55 (a_name 53 (codes "p")) (expression_and (a_literal 54 (string (34 ∷ 49 ∷ 32 ∷ 34 ∷ []))) no_expressions)))
    (statement_and (a_call_statement 60 (a_call 59 (a_name 57 (codes "p")) (expression_and (a_literal 58 (string (34 ∷ 32 ∷ 49 ∷ 34 ∷ [])))
    no_expressions))) (statement_and (a_call_statement 64 (a_call 63 (a_name 61 (codes "p")) (expression_and (a_literal 62 (string (34 ∷ 49 ∷ 97 ∷ 50
    ∷ 34 ∷ []))) no_expressions))) (statement_and (a_call_statement 68 (a_call 67 (a_name 65 (codes "p")) (expression_and (a_literal 66 (string (34 ∷
    45 ∷ 45 ∷ 49 ∷ 34 ∷ []))) no_expressions))) (statement_and (a_call_statement 72 (a_call 71 (a_name 69 (codes "p")) (expression_and (a_literal 70
    (string (34 ∷ 43 ∷ 45 ∷ 49 ∷ 34 ∷ []))) no_expressions))) (statement_and (a_call_statement 76 (a_call 75 (a_name 73 (codes "p")) (expression_and
    (a_literal 74 (string (34 ∷ 57 ∷ 50 ∷ 50 ∷ 51 ∷ 51 ∷ 55 ∷ 50 ∷ 48 ∷ 51 ∷ 54 ∷ 56 ∷ 53 ∷ 52 ∷ 55 ∷ 55 ∷ 53 ∷ 56 ∷ 48 ∷ 55 ∷ 34 ∷ [])))
    no_expressions))) (statement_and (a_call_statement 80 (a_call 79 (a_name 77 (codes "p")) (expression_and (a_literal 78 (string (34 ∷ 57 ∷ 50 ∷ 50
    ∷ 51 ∷ 51 ∷ 55 ∷ 50 ∷ 48 ∷ 51 ∷ 54 ∷ 56 ∷ 53 ∷ 52 ∷ 55 ∷ 55 ∷ 53 ∷ 56 ∷ 48 ∷ 56 ∷ 34 ∷ []))) no_expressions))) (statement_and (a_call_statement 84
    (a_call 83 (a_name 81 (codes "p")) (expression_and (a_literal 82 (string (34 ∷ 45 ∷ 57 ∷ 50 ∷ 50 ∷ 51 ∷ 51 ∷ 55 ∷ 50 ∷ 48 ∷ 51 ∷ 54 ∷ 56 ∷ 53 ∷ 52
    ∷ 55 ∷ 55 ∷ 53 ∷ 56 ∷ 48 ∷ 56 ∷ 34 ∷ []))) no_expressions))) (statement_and (a_call_statement 88 (a_call 87 (a_name 85 (codes "p"))
    (expression_and (a_literal 86 (string (34 ∷ 45 ∷ 57 ∷ 50 ∷ 50 ∷ 51 ∷ 51 ∷ 55 ∷ 50 ∷ 48 ∷ 51 ∷ 54 ∷ 56 ∷ 53 ∷ 52 ∷ 55 ∷ 55 ∷ 53 ∷ 56 ∷ 48 ∷ 57 ∷ 34
    ∷ []))) no_expressions))) (statement_and (a_call_statement 92 (a_call 91 (a_name 89 (codes "p")) (expression_and (a_literal 90 (string (34 ∷ 48 ∷
    48 ∷ 55 ∷ 34 ∷ []))) no_expressions))) (statement_and (a_call_statement 96 (a_call 95 (a_name 93 (codes "p")) (expression_and (a_literal 94
    (string (34 ∷ 45 ∷ 48 ∷ 34 ∷ []))) no_expressions))) (statement_and (a_call_statement 100 (a_call 99 (a_name 97 (codes "p")) (expression_and
    (a_literal 98 (string (34 ∷ 43 ∷ 48 ∷ 34 ∷ []))) no_expressions))) (statement_and (a_call_statement 104 (a_call 103 (a_name 101 (codes "p"))
    (expression_and (a_literal 102 (string (34 ∷ 48 ∷ 48 ∷ 48 ∷ 48 ∷ 48 ∷ 48 ∷ 48 ∷ 48 ∷ 48 ∷ 48 ∷ 48 ∷ 48 ∷ 48 ∷ 48 ∷ 48 ∷ 48 ∷ 48 ∷ 48 ∷ 48 ∷ 48 ∷
    48 ∷ 48 ∷ 48 ∷ 48 ∷ 48 ∷ 48 ∷ 48 ∷ 49 ∷ 50 ∷ 34 ∷ []))) no_expressions))) (statement_and (a_call_statement 108 (a_call 107 (a_name 105 (codes
    "p")) (expression_and (a_literal 106 (string (34 ∷ 57 ∷ 57 ∷ 57 ∷ 57 ∷ 57 ∷ 57 ∷ 57 ∷ 57 ∷ 57 ∷ 57 ∷ 57 ∷ 57 ∷ 57 ∷ 57 ∷ 57 ∷ 57 ∷ 57 ∷ 57 ∷ 57 ∷
    57 ∷ 57 ∷ 57 ∷ 57 ∷ 57 ∷ 57 ∷ 57 ∷ 120 ∷ 34 ∷ []))) no_expressions))) (statement_and (a_call_statement 112 (a_call 111 (a_name 109 (codes "p"))
    (expression_and (a_literal 110 (string (34 ∷ 57 ∷ 57 ∷ 57 ∷ 57 ∷ 57 ∷ 57 ∷ 57 ∷ 57 ∷ 57 ∷ 57 ∷ 57 ∷ 57 ∷ 57 ∷ 57 ∷ 57 ∷ 57 ∷ 57 ∷ 57 ∷ 57 ∷ 57 ∷
    57 ∷ 57 ∷ 57 ∷ 57 ∷ 57 ∷ 57 ∷ 34 ∷ []))) no_expressions))) (statement_and (a_call_statement 116 (a_call 115 (a_name 113 (codes "p"))
    (expression_and (a_literal 114 (string (34 ∷ 49 ∷ 46 ∷ 48 ∷ 34 ∷ []))) no_expressions))) (statement_and (a_call_statement 120 (a_call 119 (a_name
    117 (codes "p")) (expression_and (a_literal 118 (string (34 ∷ 49 ∷ 92 ∷ 48 ∷ 48 ∷ 48 ∷ 34 ∷ []))) no_expressions)))
    no_statements))))))))))))))))))))))))) ∷ [])

abbrev int_parse_declared : List Declared
int_parse_declared =
    (d (codes "s") 1 2 27 (Some 0) ∷ d (codes "e") 25 17 24 (Some 0) ∷ d (codes "p") 27 0 4294967295 None ∷ d (codes "start_up") 121 0 4294967295 None
    ∷ [])

int_parse : Runs int_parse_declared int_parse_modules (codes "") 10000 returned_normally (49 ∷ 50 ∷ 10 ∷ 53 ∷ 10 ∷ 45 ∷ 55 ∷ 10 ∷ 98 ∷ 97 ∷ 100 ∷ 95 ∷ 102 ∷ 111 ∷ 114 ∷ 109 ∷ 97 ∷ 116 ∷ 10 ∷ 98 ∷ 97 ∷ 100 ∷ 95 ∷ 102 ∷ 111 ∷ 114 ∷ 109 ∷ 97 ∷ 116 ∷ 10 ∷ 98 ∷ 97 ∷ 100 ∷ 95 ∷ 102 ∷ 111 ∷ 114 ∷ 109 ∷ 97 ∷ 116 ∷ 10 ∷ 98 ∷ 97 ∷ 100 ∷ 95 ∷ 102 ∷ 111 ∷ 114 ∷ 109 ∷ 97 ∷ 116 ∷ 10 ∷ 98 ∷ 97 ∷ 100 ∷ 95 ∷ 102 ∷ 111 ∷ 114 ∷ 109 ∷ 97 ∷ 116 ∷ 10 ∷ 98 ∷ 97 ∷ 100 ∷ 95 ∷ 102 ∷ 111 ∷ 114 ∷ 109 ∷ 97 ∷ 116 ∷ 10 ∷ 98 ∷ 97 ∷ 100 ∷ 95 ∷ 102 ∷ 111 ∷ 114 ∷ 109 ∷ 97 ∷ 116 ∷ 10 ∷ 98 ∷ 97 ∷ 100 ∷ 95 ∷ 102 ∷ 111 ∷ 114 ∷ 109 ∷ 97 ∷ 116 ∷ 10 ∷ 57 ∷ 50 ∷ 50 ∷ 51 ∷ 51 ∷ 55 ∷ 50 ∷ 48 ∷ 51 ∷ 54 ∷ 56 ∷ 53 ∷ 52 ∷ 55 ∷ 55 ∷ 53 ∷ 56 ∷ 48 ∷ 55 ∷ 10 ∷ 111 ∷ 118 ∷ 101 ∷ 114 ∷ 102 ∷ 108 ∷ 111 ∷ 119 ∷ 10 ∷ 45 ∷ 57 ∷ 50 ∷ 50 ∷ 51 ∷ 51 ∷ 55 ∷ 50 ∷ 48 ∷ 51 ∷ 54 ∷ 56 ∷ 53 ∷ 52 ∷ 55 ∷ 55 ∷ 53 ∷ 56 ∷ 48 ∷ 56 ∷ 10 ∷ 111 ∷ 118 ∷ 101 ∷ 114 ∷ 102 ∷ 108 ∷ 111 ∷ 119 ∷ 10 ∷ 55 ∷ 10 ∷ 48 ∷ 10 ∷ 48 ∷ 10 ∷ 49 ∷ 50 ∷ 10 ∷ 98 ∷ 97 ∷ 100 ∷ 95 ∷ 102 ∷ 111 ∷ 114 ∷ 109 ∷ 97 ∷ 116 ∷ 10 ∷ 111 ∷ 118 ∷ 101 ∷ 114 ∷ 102 ∷ 108 ∷ 111 ∷ 119 ∷ 10 ∷ 98 ∷ 97 ∷ 100 ∷ 95 ∷ 102 ∷ 111 ∷ 114 ∷ 109 ∷ 97 ∷ 116 ∷ 10 ∷ 98 ∷ 97 ∷ 100 ∷ 95 ∷ 102 ∷ 111 ∷ 114 ∷ 109 ∷ 97 ∷ 116 ∷ 10 ∷ []) 36 342
unfolding executing computing digits
int_parse = refl

-- % int-from_to
-- start_up = proc ()
-- for i: int in int$from_to(2, 4) do stream$putl(stream$primary_output(), int$unparse(i)) end
--   for i: int in int$from_to(2, 1) do stream$putl(stream$primary_output(), "no") end
--   for i: int in int$from_to(3, 3) do stream$putl(stream$primary_output(), int$unparse(i)) end
--   for i: int in int$from_to(9223372036854775807 - 1, 9223372036854775807) do stream$putl(stream$primary_output(), int$unparse(i)) end
--   for i: int in int$from_to(-1, 1) do stream$putl(stream$primary_output(), int$unparse(i)) end
-- end start_up
abbrev int_from_to_modules : List Module
int_from_to_modules =
    ((a_routine 96 no_equates (routine 95 (codes "start_up") (codes "start_up") kind.Procedure [] ([]) no_types no_exceptions ([]) no_equates ([])
    (statement_and (a_for 18 (typed 1 ((codes "i") ∷ []) (a_simple_type 0 simple.Int) ∷ []) (a_call 6 (an_operation 3 (a_simple_type 2 simple.Int)
    (codes "from_to")) (expression_and (a_literal 4 (integer (codes "2"))) (expression_and (a_literal 5 (integer (codes "4"))) no_expressions)))
    (a_body no_equates (statement_and (a_call_statement 17 (a_call 16 (an_operation 8 (a_named_type 7 (codes "stream") no_constants) (codes "putl"))
    (expression_and (a_call 11 (an_operation 10 (a_named_type 9 (codes "stream") no_constants) (codes "primary_output")) no_expressions)
    (expression_and (a_call 15 (an_operation 13 (a_simple_type 12 simple.Int) (codes "unparse")) (expression_and (a_name 14 (codes "i"))
    no_expressions)) no_expressions)))) no_statements))) (statement_and (a_for 34 (typed 20 ((codes "i") ∷ []) (a_simple_type 19 simple.Int) ∷ [])
    (a_call 25 (an_operation 22 (a_simple_type 21 simple.Int) (codes "from_to")) (expression_and (a_literal 23 (integer (codes "2"))) (expression_and
    (a_literal 24 (integer (codes "1"))) no_expressions))) (a_body no_equates (statement_and (a_call_statement 33 (a_call 32 (an_operation 27
    (a_named_type 26 (codes "stream") no_constants) (codes "putl")) (expression_and (a_call 30 (an_operation 29 (a_named_type 28 (codes "stream")
    no_constants) (codes "primary_output")) no_expressions) (expression_and (a_literal 31 (string (34 ∷ 110 ∷ 111 ∷ 34 ∷ []))) no_expressions))))
    no_statements))) (statement_and (a_for 53 (typed 36 ((codes "i") ∷ []) (a_simple_type 35 simple.Int) ∷ []) (a_call 41 (an_operation 38
    (a_simple_type 37 simple.Int) (codes "from_to")) (expression_and (a_literal 39 (integer (codes "3"))) (expression_and (a_literal 40 (integer
    (codes "3"))) no_expressions))) (a_body no_equates (statement_and (a_call_statement 52 (a_call 51 (an_operation 43 (a_named_type 42 (codes
    "stream") no_constants) (codes "putl")) (expression_and (a_call 46 (an_operation 45 (a_named_type 44 (codes "stream") no_constants) (codes
    "primary_output")) no_expressions) (expression_and (a_call 50 (an_operation 48 (a_simple_type 47 simple.Int) (codes "unparse")) (expression_and
    (a_name 49 (codes "i")) no_expressions)) no_expressions)))) no_statements))) (statement_and (a_for 74 (typed 55 ((codes "i") ∷ []) (a_simple_type
    54 simple.Int) ∷ []) (a_call 62 (an_operation 57 (a_simple_type 56 simple.Int) (codes "from_to")) (expression_and (an_infix 60 op.Subtract
    (a_literal 58 (integer (codes "9223372036854775807"))) (a_literal 59 (integer (codes "1")))) (expression_and (a_literal 61 (integer (codes
    "9223372036854775807"))) no_expressions))) (a_body no_equates (statement_and (a_call_statement 73 (a_call 72 (an_operation 64 (a_named_type 63
    (codes "stream") no_constants) (codes "putl")) (expression_and (a_call 67 (an_operation 66 (a_named_type 65 (codes "stream") no_constants) (codes
    "primary_output")) no_expressions) (expression_and (a_call 71 (an_operation 69 (a_simple_type 68 simple.Int) (codes "unparse")) (expression_and
    (a_name 70 (codes "i")) no_expressions)) no_expressions)))) no_statements))) (statement_and (a_for 94 (typed 76 ((codes "i") ∷ []) (a_simple_type
    75 simple.Int) ∷ []) (a_call 82 (an_operation 78 (a_simple_type 77 simple.Int) (codes "from_to")) (expression_and (a_prefix 80 sign.Minus
    (a_literal 79 (integer (codes "1")))) (expression_and (a_literal 81 (integer (codes "1"))) no_expressions))) (a_body no_equates (statement_and
    (a_call_statement 93 (a_call 92 (an_operation 84 (a_named_type 83 (codes "stream") no_constants) (codes "putl")) (expression_and (a_call 87
    (an_operation 86 (a_named_type 85 (codes "stream") no_constants) (codes "primary_output")) no_expressions) (expression_and (a_call 91
    (an_operation 89 (a_simple_type 88 simple.Int) (codes "unparse")) (expression_and (a_name 90 (codes "i")) no_expressions)) no_expressions))))
    no_statements))) no_statements))))))) ∷ [])

abbrev int_from_to_declared : List Declared
int_from_to_declared =
    (d (codes "i") 1 7 17 (Some 0) ∷ d (codes "i") 20 26 33 (Some 0) ∷ d (codes "i") 36 42 52 (Some 0) ∷ d (codes "i") 55 63 73 (Some 0) ∷ d (codes
    "i") 76 83 93 (Some 0) ∷ d (codes "start_up") 95 0 4294967295 None ∷ [])

int_from_to : Runs int_from_to_declared int_from_to_modules (codes "") 10000 returned_normally (50 ∷ 10 ∷ 51 ∷ 10 ∷ 52 ∷ 10 ∷ 51 ∷ 10 ∷ 57 ∷ 50 ∷ 50 ∷ 51 ∷ 51 ∷ 55 ∷ 50 ∷ 48 ∷ 51 ∷ 54 ∷ 56 ∷ 53 ∷ 52 ∷ 55 ∷ 55 ∷ 53 ∷ 56 ∷ 48 ∷ 54 ∷ 10 ∷ 57 ∷ 50 ∷ 50 ∷ 51 ∷ 51 ∷ 55 ∷ 50 ∷ 48 ∷ 51 ∷ 54 ∷ 56 ∷ 53 ∷ 52 ∷ 55 ∷ 55 ∷ 53 ∷ 56 ∷ 48 ∷ 55 ∷ 10 ∷ 45 ∷ 49 ∷ 10 ∷ 48 ∷ 10 ∷ 49 ∷ 10 ∷ []) 36 456
unfolding executing computing digits
int_from_to = refl

-- % int-from_to-body-overflow
-- start_up = proc ()
-- for i: int in int$from_to(1, 3) do
--     stream$putl(stream$primary_output(), int$unparse(i)) x: int := 9223372036854775807 + i end
--   except when overflow: stream$putl(stream$primary_output(), "caught") end
-- end start_up
abbrev int_from_to_body_overflow_modules : List Module
int_from_to_body_overflow_modules =
    ((a_routine 35 no_equates (routine 34 (codes "start_up") (codes "start_up") kind.Procedure [] ([]) no_types no_exceptions ([]) no_equates ([])
    (statement_and (an_except 33 (a_for 23 (typed 1 ((codes "i") ∷ []) (a_simple_type 0 simple.Int) ∷ []) (a_call 6 (an_operation 3 (a_simple_type 2
    simple.Int) (codes "from_to")) (expression_and (a_literal 4 (integer (codes "1"))) (expression_and (a_literal 5 (integer (codes "3")))
    no_expressions))) (a_body no_equates (statement_and (a_call_statement 17 (a_call 16 (an_operation 8 (a_named_type 7 (codes "stream") no_constants)
    (codes "putl")) (expression_and (a_call 11 (an_operation 10 (a_named_type 9 (codes "stream") no_constants) (codes "primary_output"))
    no_expressions) (expression_and (a_call 15 (an_operation 13 (a_simple_type 12 simple.Int) (codes "unparse")) (expression_and (a_name 14 (codes
    "i")) no_expressions)) no_expressions)))) (statement_and (an_init 22 (a_variable (codes "x") (a_simple_type 18 simple.Int)) (an_infix 21 op.Add
    (a_literal 19 (integer (codes "9223372036854775807"))) (a_name 20 (codes "i")))) no_statements)))) (when_and 32 ((codes "overflow") ∷ []) (objects
    []) (a_body no_equates (statement_and (a_call_statement 31 (a_call 30 (an_operation 25 (a_named_type 24 (codes "stream") no_constants) (codes
    "putl")) (expression_and (a_call 28 (an_operation 27 (a_named_type 26 (codes "stream") no_constants) (codes "primary_output")) no_expressions)
    (expression_and (a_literal 29 (string (34 ∷ 99 ∷ 97 ∷ 117 ∷ 103 ∷ 104 ∷ 116 ∷ 34 ∷ []))) no_expressions)))) no_statements)) no_whens) no_others)
    no_statements))) ∷ [])

abbrev int_from_to_body_overflow_declared : List Declared
int_from_to_body_overflow_declared =
    (d (codes "i") 1 7 22 (Some 0) ∷ d (codes "x") 22 23 22 (Some 0) ∷ d (codes "start_up") 34 0 4294967295 None ∷ [])

int_from_to_body_overflow : Runs int_from_to_body_overflow_declared int_from_to_body_overflow_modules (codes "") 10000 returned_normally (49 ∷ 10 ∷ 99 ∷ 97 ∷ 117 ∷ 103 ∷ 104 ∷ 116 ∷ 10 ∷ []) 4 334
unfolding executing computing digits
int_from_to_body_overflow = refl

-- % parse
-- start_up = proc ()
-- for s: string in array[string]$elements(array[string]$["12", "-5", "+7", "", "1 ", "99999999999999999999", "x"]) do
-- stream$putl(stream$primary_output(), int$unparse(int$parse(s))) except when bad_format: stream$putl(stream$primary_output(), "bad") when overflow: stream$putl(stream$primary_output(), "much") end end
-- end start_up
abbrev parse_modules : List Module
parse_modules =
    ((a_routine 51 no_equates (routine 50 (codes "start_up") (codes "start_up") kind.Procedure [] ([]) no_types no_exceptions ([]) no_equates ([])
    (statement_and (a_for 49 (typed 1 ((codes "s") ∷ []) (a_simple_type 0 simple.String) ∷ []) (a_call 15 (an_operation 4 (a_list_type 3 list.Array
    (a_simple_type 2 simple.String)) (codes "elements")) (expression_and (elements 14 (a_list_type 6 list.Array (a_simple_type 5 simple.String))
    (expression_and (a_literal 7 (string (34 ∷ 49 ∷ 50 ∷ 34 ∷ []))) (expression_and (a_literal 8 (string (34 ∷ 45 ∷ 53 ∷ 34 ∷ []))) (expression_and
    (a_literal 9 (string (34 ∷ 43 ∷ 55 ∷ 34 ∷ []))) (expression_and (a_literal 10 (string (34 ∷ 34 ∷ []))) (expression_and (a_literal 11 (string (34 ∷
    49 ∷ 32 ∷ 34 ∷ []))) (expression_and (a_literal 12 (string (34 ∷ 57 ∷ 57 ∷ 57 ∷ 57 ∷ 57 ∷ 57 ∷ 57 ∷ 57 ∷ 57 ∷ 57 ∷ 57 ∷ 57 ∷ 57 ∷ 57 ∷ 57 ∷ 57 ∷
    57 ∷ 57 ∷ 57 ∷ 57 ∷ 34 ∷ []))) (expression_and (a_literal 13 (string (34 ∷ 120 ∷ 34 ∷ []))) no_expressions)))))))) no_expressions)) (a_body
    no_equates (statement_and (an_except 48 (a_call_statement 29 (a_call 28 (an_operation 17 (a_named_type 16 (codes "stream") no_constants) (codes
    "putl")) (expression_and (a_call 20 (an_operation 19 (a_named_type 18 (codes "stream") no_constants) (codes "primary_output")) no_expressions)
    (expression_and (a_call 27 (an_operation 22 (a_simple_type 21 simple.Int) (codes "unparse")) (expression_and (a_call 26 (an_operation 24
    (a_simple_type 23 simple.Int) (codes "parse")) (expression_and (a_name 25 (codes "s")) no_expressions)) no_expressions)) no_expressions))))
    (when_and 38 ((codes "bad_format") ∷ []) (objects []) (a_body no_equates (statement_and (a_call_statement 37 (a_call 36 (an_operation 31
    (a_named_type 30 (codes "stream") no_constants) (codes "putl")) (expression_and (a_call 34 (an_operation 33 (a_named_type 32 (codes "stream")
    no_constants) (codes "primary_output")) no_expressions) (expression_and (a_literal 35 (string (34 ∷ 98 ∷ 97 ∷ 100 ∷ 34 ∷ []))) no_expressions))))
    no_statements)) (when_and 47 ((codes "overflow") ∷ []) (objects []) (a_body no_equates (statement_and (a_call_statement 46 (a_call 45
    (an_operation 40 (a_named_type 39 (codes "stream") no_constants) (codes "putl")) (expression_and (a_call 43 (an_operation 42 (a_named_type 41
    (codes "stream") no_constants) (codes "primary_output")) no_expressions) (expression_and (a_literal 44 (string (34 ∷ 109 ∷ 117 ∷ 99 ∷ 104 ∷ 34 ∷
    []))) no_expressions)))) no_statements)) no_whens)) no_others) no_statements))) no_statements))) ∷ [])

abbrev parse_declared : List Declared
parse_declared =
    (d (codes "s") 1 16 48 (Some 0) ∷ d (codes "start_up") 50 0 4294967295 None ∷ [])

parse : Runs parse_declared parse_modules (codes "") 10000 returned_normally (49 ∷ 50 ∷ 10 ∷ 45 ∷ 53 ∷ 10 ∷ 55 ∷ 10 ∷ 98 ∷ 97 ∷ 100 ∷ 10 ∷ 98 ∷ 97 ∷ 100 ∷ 10 ∷ 109 ∷ 117 ∷ 99 ∷ 104 ∷ 10 ∷ 98 ∷ 97 ∷ 100 ∷ 10 ∷ []) 25 552
unfolding executing computing digits
parse = refl
