-- Programs that compute: operations of char and string. Each is the tree of the CLU above it.
use Rattle.std.specs.Fmt.{digits}
use Rattle.std.specs.Prelude.{refl, List, [], ◌∷◌, codes, Some, None}
use Rattle.clu_names.specs.declared.scopes.Declared.{Declared}
use Rattle.clu_syntax.specs.declared.words.Operator.TheVariants as op
use Rattle.clu_syntax.specs.declared.words.Sign.TheVariants as sign
use Rattle.clu_syntax.specs.declared.words.SimpleType.TheVariants as simple
use Rattle.clu_syntax.specs.declared.words.RoutineKind.TheVariants as kind
use Rattle.clu_syntax.specs.Syntax.{integer, character, string, an_infix, a_prefix, a_literal, a_name, an_index, a_call, an_operation, no_expressions, expression_and, an_expression, no_constants, constant_and, a_simple_type, a_named_type, no_types, no_exceptions, no_equates, objects, an_init, an_assign, a_call_statement, a_while, a_for, an_if, an_except, no_statements, statement_and, a_body, no_clauses, clause_and, otherwise, no_whens, when_and, no_others, Module, a_routine}
use Rattle.clu_layout.specs.Computing.{computing}
use Rattle.clu_meaning.specs.Run.{returned_normally}
use Rattle.clu_meaning.specs.Executing.{executing}
use Rattle.clu_meaning.proofs.Running.{d, typed, a_variable, routine, Runs}

-- % char-orders
-- tf = proc (b: bool) if b then stream$putl(stream$primary_output(), "T") else stream$putl(stream$primary_output(), "F") end end tf
-- start_up = proc ()
-- tf('a' < 'b') tf('b' <= 'a') tf('a' >= 'a') tf('b' > 'a') tf('\377' > 'a')
--   tf('a' = 'a') tf('a' = 'A') tf(char$similar('x', 'x')) tf(char$copy('x') = 'x') tf('a' ~= 'a')
--   tf(char$lt('a', 'a')) tf(char$le('a', 'a')) tf(char$ge('a', 'b')) tf(char$gt('b', 'a'))
-- end start_up
abbrev char_orders_modules : List Module
char_orders_modules =
    ((a_routine 21 no_equates (routine 20 (codes "tf") (codes "tf") kind.Procedure [] (typed 1 ((codes "b") ∷ []) (a_simple_type 0 simple.Bool) ∷ [])
    no_types no_exceptions ([]) no_equates ([]) (statement_and (an_if 19 (clause_and (a_name 2 (codes "b")) (a_body no_equates (statement_and
    (a_call_statement 10 (a_call 9 (an_operation 4 (a_named_type 3 (codes "stream") no_constants) (codes "putl")) (expression_and (a_call 7
    (an_operation 6 (a_named_type 5 (codes "stream") no_constants) (codes "primary_output")) no_expressions) (expression_and (a_literal 8 (string (34
    ∷ 84 ∷ 34 ∷ []))) no_expressions)))) no_statements)) no_clauses) (otherwise (a_body no_equates (statement_and (a_call_statement 18 (a_call 17
    (an_operation 12 (a_named_type 11 (codes "stream") no_constants) (codes "putl")) (expression_and (a_call 15 (an_operation 14 (a_named_type 13
    (codes "stream") no_constants) (codes "primary_output")) no_expressions) (expression_and (a_literal 16 (string (34 ∷ 70 ∷ 34 ∷ [])))
    no_expressions)))) no_statements)))) no_statements))) ∷ (a_routine 120 no_equates (routine 119 (codes "start_up") (codes "start_up")
    kind.Procedure [] ([]) no_types no_exceptions ([]) no_equates ([]) (statement_and (a_call_statement 27 (a_call 26 (a_name 22 (codes "tf"))
    (expression_and (an_infix 25 op.Less (a_literal 23 (character (codes "'a'"))) (a_literal 24 (character (codes "'b'")))) no_expressions)))
    (statement_and (a_call_statement 33 (a_call 32 (a_name 28 (codes "tf")) (expression_and (an_infix 31 op.AtMost (a_literal 29 (character (codes
    "'b'"))) (a_literal 30 (character (codes "'a'")))) no_expressions))) (statement_and (a_call_statement 39 (a_call 38 (a_name 34 (codes "tf"))
    (expression_and (an_infix 37 op.AtLeast (a_literal 35 (character (codes "'a'"))) (a_literal 36 (character (codes "'a'")))) no_expressions)))
    (statement_and (a_call_statement 45 (a_call 44 (a_name 40 (codes "tf")) (expression_and (an_infix 43 op.Greater (a_literal 41 (character (codes
    "'b'"))) (a_literal 42 (character (codes "'a'")))) no_expressions))) (statement_and (a_call_statement 51 (a_call 50 (a_name 46 (codes "tf"))
    (expression_and (an_infix 49 op.Greater (a_literal 47 (character (39 ∷ 92 ∷ 51 ∷ 55 ∷ 55 ∷ 39 ∷ []))) (a_literal 48 (character (codes "'a'"))))
    no_expressions))) (statement_and (a_call_statement 57 (a_call 56 (a_name 52 (codes "tf")) (expression_and (an_infix 55 op.Equal (a_literal 53
    (character (codes "'a'"))) (a_literal 54 (character (codes "'a'")))) no_expressions))) (statement_and (a_call_statement 63 (a_call 62 (a_name 58
    (codes "tf")) (expression_and (an_infix 61 op.Equal (a_literal 59 (character (codes "'a'"))) (a_literal 60 (character (codes "'A'"))))
    no_expressions))) (statement_and (a_call_statement 71 (a_call 70 (a_name 64 (codes "tf")) (expression_and (a_call 69 (an_operation 66
    (a_simple_type 65 simple.Char) (codes "similar")) (expression_and (a_literal 67 (character (codes "'x'"))) (expression_and (a_literal 68
    (character (codes "'x'"))) no_expressions))) no_expressions))) (statement_and (a_call_statement 80 (a_call 79 (a_name 72 (codes "tf"))
    (expression_and (an_infix 78 op.Equal (a_call 76 (an_operation 74 (a_simple_type 73 simple.Char) (codes "copy")) (expression_and (a_literal 75
    (character (codes "'x'"))) no_expressions)) (a_literal 77 (character (codes "'x'")))) no_expressions))) (statement_and (a_call_statement 86
    (a_call 85 (a_name 81 (codes "tf")) (expression_and (an_infix 84 op.NotEqual (a_literal 82 (character (codes "'a'"))) (a_literal 83 (character
    (codes "'a'")))) no_expressions))) (statement_and (a_call_statement 94 (a_call 93 (a_name 87 (codes "tf")) (expression_and (a_call 92
    (an_operation 89 (a_simple_type 88 simple.Char) (codes "lt")) (expression_and (a_literal 90 (character (codes "'a'"))) (expression_and (a_literal
    91 (character (codes "'a'"))) no_expressions))) no_expressions))) (statement_and (a_call_statement 102 (a_call 101 (a_name 95 (codes "tf"))
    (expression_and (a_call 100 (an_operation 97 (a_simple_type 96 simple.Char) (codes "le")) (expression_and (a_literal 98 (character (codes "'a'")))
    (expression_and (a_literal 99 (character (codes "'a'"))) no_expressions))) no_expressions))) (statement_and (a_call_statement 110 (a_call 109
    (a_name 103 (codes "tf")) (expression_and (a_call 108 (an_operation 105 (a_simple_type 104 simple.Char) (codes "ge")) (expression_and (a_literal
    106 (character (codes "'a'"))) (expression_and (a_literal 107 (character (codes "'b'"))) no_expressions))) no_expressions))) (statement_and
    (a_call_statement 118 (a_call 117 (a_name 111 (codes "tf")) (expression_and (a_call 116 (an_operation 113 (a_simple_type 112 simple.Char) (codes
    "gt")) (expression_and (a_literal 114 (character (codes "'b'"))) (expression_and (a_literal 115 (character (codes "'a'"))) no_expressions)))
    no_expressions))) no_statements)))))))))))))))) ∷ [])

abbrev char_orders_declared : List Declared
char_orders_declared =
    (d (codes "b") 1 2 20 (Some 0) ∷ d (codes "tf") 20 0 4294967295 None ∷ d (codes "start_up") 119 0 4294967295 None ∷ [])

char_orders : Runs char_orders_declared char_orders_modules (codes "") 10000 returned_normally (84 ∷ 10 ∷ 70 ∷ 10 ∷ 84 ∷ 10 ∷ 84 ∷ 10 ∷ 84 ∷ 10 ∷ 84 ∷ 10 ∷ 70 ∷ 10 ∷ 84 ∷ 10 ∷ 84 ∷ 10 ∷ 70 ∷ 10 ∷ 70 ∷ 10 ∷ 84 ∷ 10 ∷ 70 ∷ 10 ∷ 84 ∷ 10 ∷ []) 0 338
unfolding executing computing digits
char_orders = refl

-- % string-literals
-- start_up = proc ()
-- stream$puts(stream$primary_output(), "a\"b'c\'\\\n\t\377\0012")
-- end start_up
abbrev string_literals_modules : List Module
string_literals_modules =
    ((a_routine 9 no_equates (routine 8 (codes "start_up") (codes "start_up") kind.Procedure [] ([]) no_types no_exceptions ([]) no_equates ([])
    (statement_and (a_call_statement 7 (a_call 6 (an_operation 1 (a_named_type 0 (codes "stream") no_constants) (codes "puts")) (expression_and
    (a_call 4 (an_operation 3 (a_named_type 2 (codes "stream") no_constants) (codes "primary_output")) no_expressions) (expression_and (a_literal 5
    (string (34 ∷ 97 ∷ 92 ∷ 34 ∷ 98 ∷ 39 ∷ 99 ∷ 92 ∷ 39 ∷ 92 ∷ 92 ∷ 92 ∷ 110 ∷ 92 ∷ 116 ∷ 92 ∷ 51 ∷ 55 ∷ 55 ∷ 92 ∷ 48 ∷ 48 ∷ 49 ∷ 50 ∷ 34 ∷ [])))
    no_expressions)))) no_statements))) ∷ [])

abbrev string_literals_declared : List Declared
string_literals_declared =
    (d (codes "start_up") 8 0 4294967295 None ∷ [])

string_literals : Runs string_literals_declared string_literals_modules (codes "") 10000 returned_normally (97 ∷ 34 ∷ 98 ∷ 39 ∷ 99 ∷ 39 ∷ 92 ∷ 10 ∷ 9 ∷ 255 ∷ 1 ∷ 50 ∷ []) 0 100
unfolding executing computing digits
string_literals = refl

-- % string-orders
-- tf = proc (b: bool) if b then stream$putl(stream$primary_output(), "T") else stream$putl(stream$primary_output(), "F") end end tf
-- start_up = proc ()
-- tf("a" < "b") tf("a" < "ab") tf("ab" < "a") tf("" < "a") tf("b" > "ab")
--   tf("a" <= "a") tf("a" >= "b") tf("\377" > "z") tf("Z" < "a") tf("a" = "a") tf("a" = "b")
--   tf("a" ~= "b") tf(string$similar("x", "x")) stream$putl(stream$primary_output(), string$copy("cp")) tf(string$lt("", ""))
--   tf(string$le("b", "a")) tf(string$ge("b", "a")) tf(string$gt("a", "a"))
-- end start_up
abbrev string_orders_modules : List Module
string_orders_modules =
    ((a_routine 21 no_equates (routine 20 (codes "tf") (codes "tf") kind.Procedure [] (typed 1 ((codes "b") ∷ []) (a_simple_type 0 simple.Bool) ∷ [])
    no_types no_exceptions ([]) no_equates ([]) (statement_and (an_if 19 (clause_and (a_name 2 (codes "b")) (a_body no_equates (statement_and
    (a_call_statement 10 (a_call 9 (an_operation 4 (a_named_type 3 (codes "stream") no_constants) (codes "putl")) (expression_and (a_call 7
    (an_operation 6 (a_named_type 5 (codes "stream") no_constants) (codes "primary_output")) no_expressions) (expression_and (a_literal 8 (string (34
    ∷ 84 ∷ 34 ∷ []))) no_expressions)))) no_statements)) no_clauses) (otherwise (a_body no_equates (statement_and (a_call_statement 18 (a_call 17
    (an_operation 12 (a_named_type 11 (codes "stream") no_constants) (codes "putl")) (expression_and (a_call 15 (an_operation 14 (a_named_type 13
    (codes "stream") no_constants) (codes "primary_output")) no_expressions) (expression_and (a_literal 16 (string (34 ∷ 70 ∷ 34 ∷ [])))
    no_expressions)))) no_statements)))) no_statements))) ∷ (a_routine 146 no_equates (routine 145 (codes "start_up") (codes "start_up")
    kind.Procedure [] ([]) no_types no_exceptions ([]) no_equates ([]) (statement_and (a_call_statement 27 (a_call 26 (a_name 22 (codes "tf"))
    (expression_and (an_infix 25 op.Less (a_literal 23 (string (34 ∷ 97 ∷ 34 ∷ []))) (a_literal 24 (string (34 ∷ 98 ∷ 34 ∷ [])))) no_expressions)))
    (statement_and (a_call_statement 33 (a_call 32 (a_name 28 (codes "tf")) (expression_and (an_infix 31 op.Less (a_literal 29 (string (34 ∷ 97 ∷ 34 ∷
    []))) (a_literal 30 (string (34 ∷ 97 ∷ 98 ∷ 34 ∷ [])))) no_expressions))) (statement_and (a_call_statement 39 (a_call 38 (a_name 34 (codes "tf"))
    (expression_and (an_infix 37 op.Less (a_literal 35 (string (34 ∷ 97 ∷ 98 ∷ 34 ∷ []))) (a_literal 36 (string (34 ∷ 97 ∷ 34 ∷ []))))
    no_expressions))) (statement_and (a_call_statement 45 (a_call 44 (a_name 40 (codes "tf")) (expression_and (an_infix 43 op.Less (a_literal 41
    (string (34 ∷ 34 ∷ []))) (a_literal 42 (string (34 ∷ 97 ∷ 34 ∷ [])))) no_expressions))) (statement_and (a_call_statement 51 (a_call 50 (a_name 46
    (codes "tf")) (expression_and (an_infix 49 op.Greater (a_literal 47 (string (34 ∷ 98 ∷ 34 ∷ []))) (a_literal 48 (string (34 ∷ 97 ∷ 98 ∷ 34 ∷
    [])))) no_expressions))) (statement_and (a_call_statement 57 (a_call 56 (a_name 52 (codes "tf")) (expression_and (an_infix 55 op.AtMost (a_literal
    53 (string (34 ∷ 97 ∷ 34 ∷ []))) (a_literal 54 (string (34 ∷ 97 ∷ 34 ∷ [])))) no_expressions))) (statement_and (a_call_statement 63 (a_call 62
    (a_name 58 (codes "tf")) (expression_and (an_infix 61 op.AtLeast (a_literal 59 (string (34 ∷ 97 ∷ 34 ∷ []))) (a_literal 60 (string (34 ∷ 98 ∷ 34 ∷
    [])))) no_expressions))) (statement_and (a_call_statement 69 (a_call 68 (a_name 64 (codes "tf")) (expression_and (an_infix 67 op.Greater
    (a_literal 65 (string (34 ∷ 92 ∷ 51 ∷ 55 ∷ 55 ∷ 34 ∷ []))) (a_literal 66 (string (34 ∷ 122 ∷ 34 ∷ [])))) no_expressions))) (statement_and
    (a_call_statement 75 (a_call 74 (a_name 70 (codes "tf")) (expression_and (an_infix 73 op.Less (a_literal 71 (string (34 ∷ 90 ∷ 34 ∷ [])))
    (a_literal 72 (string (34 ∷ 97 ∷ 34 ∷ [])))) no_expressions))) (statement_and (a_call_statement 81 (a_call 80 (a_name 76 (codes "tf"))
    (expression_and (an_infix 79 op.Equal (a_literal 77 (string (34 ∷ 97 ∷ 34 ∷ []))) (a_literal 78 (string (34 ∷ 97 ∷ 34 ∷ [])))) no_expressions)))
    (statement_and (a_call_statement 87 (a_call 86 (a_name 82 (codes "tf")) (expression_and (an_infix 85 op.Equal (a_literal 83 (string (34 ∷ 97 ∷ 34
    ∷ []))) (a_literal 84 (string (34 ∷ 98 ∷ 34 ∷ [])))) no_expressions))) (statement_and (a_call_statement 93 (a_call 92 (a_name 88 (codes "tf"))
    (expression_and (an_infix 91 op.NotEqual (a_literal 89 (string (34 ∷ 97 ∷ 34 ∷ []))) (a_literal 90 (string (34 ∷ 98 ∷ 34 ∷ []))))
    no_expressions))) (statement_and (a_call_statement 101 (a_call 100 (a_name 94 (codes "tf")) (expression_and (a_call 99 (an_operation 96
    (a_simple_type 95 simple.String) (codes "similar")) (expression_and (a_literal 97 (string (34 ∷ 120 ∷ 34 ∷ []))) (expression_and (a_literal 98
    (string (34 ∷ 120 ∷ 34 ∷ []))) no_expressions))) no_expressions))) (statement_and (a_call_statement 112 (a_call 111 (an_operation 103
    (a_named_type 102 (codes "stream") no_constants) (codes "putl")) (expression_and (a_call 106 (an_operation 105 (a_named_type 104 (codes "stream")
    no_constants) (codes "primary_output")) no_expressions) (expression_and (a_call 110 (an_operation 108 (a_simple_type 107 simple.String) (codes
    "copy")) (expression_and (a_literal 109 (string (34 ∷ 99 ∷ 112 ∷ 34 ∷ []))) no_expressions)) no_expressions)))) (statement_and (a_call_statement
    120 (a_call 119 (a_name 113 (codes "tf")) (expression_and (a_call 118 (an_operation 115 (a_simple_type 114 simple.String) (codes "lt"))
    (expression_and (a_literal 116 (string (34 ∷ 34 ∷ []))) (expression_and (a_literal 117 (string (34 ∷ 34 ∷ []))) no_expressions)))
    no_expressions))) (statement_and (a_call_statement 128 (a_call 127 (a_name 121 (codes "tf")) (expression_and (a_call 126 (an_operation 123
    (a_simple_type 122 simple.String) (codes "le")) (expression_and (a_literal 124 (string (34 ∷ 98 ∷ 34 ∷ []))) (expression_and (a_literal 125
    (string (34 ∷ 97 ∷ 34 ∷ []))) no_expressions))) no_expressions))) (statement_and (a_call_statement 136 (a_call 135 (a_name 129 (codes "tf"))
    (expression_and (a_call 134 (an_operation 131 (a_simple_type 130 simple.String) (codes "ge")) (expression_and (a_literal 132 (string (34 ∷ 98 ∷ 34
    ∷ []))) (expression_and (a_literal 133 (string (34 ∷ 97 ∷ 34 ∷ []))) no_expressions))) no_expressions))) (statement_and (a_call_statement 144
    (a_call 143 (a_name 137 (codes "tf")) (expression_and (a_call 142 (an_operation 139 (a_simple_type 138 simple.String) (codes "gt"))
    (expression_and (a_literal 140 (string (34 ∷ 97 ∷ 34 ∷ []))) (expression_and (a_literal 141 (string (34 ∷ 97 ∷ 34 ∷ []))) no_expressions)))
    no_expressions))) no_statements)))))))))))))))))))) ∷ [])

abbrev string_orders_declared : List Declared
string_orders_declared =
    (d (codes "b") 1 2 20 (Some 0) ∷ d (codes "tf") 20 0 4294967295 None ∷ d (codes "start_up") 145 0 4294967295 None ∷ [])

string_orders : Runs string_orders_declared string_orders_modules (codes "") 10000 returned_normally (84 ∷ 10 ∷ 84 ∷ 10 ∷ 70 ∷ 10 ∷ 84 ∷ 10 ∷ 84 ∷ 10 ∷ 84 ∷ 10 ∷ 70 ∷ 10 ∷ 84 ∷ 10 ∷ 84 ∷ 10 ∷ 84 ∷ 10 ∷ 70 ∷ 10 ∷ 84 ∷ 10 ∷ 84 ∷ 10 ∷ 99 ∷ 112 ∷ 10 ∷ 70 ∷ 10 ∷ 70 ∷ 10 ∷ 84 ∷ 10 ∷ 70 ∷ 10 ∷ []) 0 390
unfolding executing computing digits
string_orders = refl

-- % string-fetch
-- start_up = proc ()
-- s: string := "abc" stream$puts(stream$primary_output(), string$c2s(s[1])) stream$puts(stream$primary_output(), string$c2s(s[3])) stream$puts(stream$primary_output(), string$c2s(string$fetch(s, 2)))
--   c: char := s[0] except when bounds: stream$puts(stream$primary_output(), "b0") end
--   c := s[4] except when bounds: stream$puts(stream$primary_output(), "b4") end
--   c := s[-1] except when bounds: stream$puts(stream$primary_output(), "b-1") end
--   c := ""[1] except when bounds: stream$puts(stream$primary_output(), "be") end
-- end start_up
abbrev string_fetch_modules : List Module
string_fetch_modules =
    ((a_routine 103 no_equates (routine 102 (codes "start_up") (codes "start_up") kind.Procedure [] ([]) no_types no_exceptions ([]) no_equates ([])
    (statement_and (an_init 2 (a_variable (codes "s") (a_simple_type 0 simple.String)) (a_literal 1 (string (34 ∷ 97 ∷ 98 ∷ 99 ∷ 34 ∷ []))))
    (statement_and (a_call_statement 15 (a_call 14 (an_operation 4 (a_named_type 3 (codes "stream") no_constants) (codes "puts")) (expression_and
    (a_call 7 (an_operation 6 (a_named_type 5 (codes "stream") no_constants) (codes "primary_output")) no_expressions) (expression_and (a_call 13
    (an_operation 9 (a_simple_type 8 simple.String) (codes "c2s")) (expression_and (an_index 12 (a_name 10 (codes "s")) (constant_and (an_expression
    (a_literal 11 (integer (codes "1")))) no_constants)) no_expressions)) no_expressions)))) (statement_and (a_call_statement 28 (a_call 27
    (an_operation 17 (a_named_type 16 (codes "stream") no_constants) (codes "puts")) (expression_and (a_call 20 (an_operation 19 (a_named_type 18
    (codes "stream") no_constants) (codes "primary_output")) no_expressions) (expression_and (a_call 26 (an_operation 22 (a_simple_type 21
    simple.String) (codes "c2s")) (expression_and (an_index 25 (a_name 23 (codes "s")) (constant_and (an_expression (a_literal 24 (integer (codes
    "3")))) no_constants)) no_expressions)) no_expressions)))) (statement_and (a_call_statement 43 (a_call 42 (an_operation 30 (a_named_type 29 (codes
    "stream") no_constants) (codes "puts")) (expression_and (a_call 33 (an_operation 32 (a_named_type 31 (codes "stream") no_constants) (codes
    "primary_output")) no_expressions) (expression_and (a_call 41 (an_operation 35 (a_simple_type 34 simple.String) (codes "c2s")) (expression_and
    (a_call 40 (an_operation 37 (a_simple_type 36 simple.String) (codes "fetch")) (expression_and (a_name 38 (codes "s")) (expression_and (a_literal
    39 (integer (codes "2"))) no_expressions))) no_expressions)) no_expressions)))) (statement_and (an_except 58 (an_init 48 (a_variable (codes "c")
    (a_simple_type 44 simple.Char)) (an_index 47 (a_name 45 (codes "s")) (constant_and (an_expression (a_literal 46 (integer (codes "0"))))
    no_constants))) (when_and 57 ((codes "bounds") ∷ []) (objects []) (a_body no_equates (statement_and (a_call_statement 56 (a_call 55 (an_operation
    50 (a_named_type 49 (codes "stream") no_constants) (codes "puts")) (expression_and (a_call 53 (an_operation 52 (a_named_type 51 (codes "stream")
    no_constants) (codes "primary_output")) no_expressions) (expression_and (a_literal 54 (string (34 ∷ 98 ∷ 48 ∷ 34 ∷ []))) no_expressions))))
    no_statements)) no_whens) no_others) (statement_and (an_except 72 (an_assign 62 ((codes "c") ∷ []) (expression_and (an_index 61 (a_name 59 (codes
    "s")) (constant_and (an_expression (a_literal 60 (integer (codes "4")))) no_constants)) no_expressions)) (when_and 71 ((codes "bounds") ∷ [])
    (objects []) (a_body no_equates (statement_and (a_call_statement 70 (a_call 69 (an_operation 64 (a_named_type 63 (codes "stream") no_constants)
    (codes "puts")) (expression_and (a_call 67 (an_operation 66 (a_named_type 65 (codes "stream") no_constants) (codes "primary_output"))
    no_expressions) (expression_and (a_literal 68 (string (34 ∷ 98 ∷ 52 ∷ 34 ∷ []))) no_expressions)))) no_statements)) no_whens) no_others)
    (statement_and (an_except 87 (an_assign 77 ((codes "c") ∷ []) (expression_and (an_index 76 (a_name 73 (codes "s")) (constant_and (an_expression
    (a_prefix 75 sign.Minus (a_literal 74 (integer (codes "1"))))) no_constants)) no_expressions)) (when_and 86 ((codes "bounds") ∷ []) (objects [])
    (a_body no_equates (statement_and (a_call_statement 85 (a_call 84 (an_operation 79 (a_named_type 78 (codes "stream") no_constants) (codes "puts"))
    (expression_and (a_call 82 (an_operation 81 (a_named_type 80 (codes "stream") no_constants) (codes "primary_output")) no_expressions)
    (expression_and (a_literal 83 (string (34 ∷ 98 ∷ 45 ∷ 49 ∷ 34 ∷ []))) no_expressions)))) no_statements)) no_whens) no_others) (statement_and
    (an_except 101 (an_assign 91 ((codes "c") ∷ []) (expression_and (an_index 90 (a_literal 88 (string (34 ∷ 34 ∷ []))) (constant_and (an_expression
    (a_literal 89 (integer (codes "1")))) no_constants)) no_expressions)) (when_and 100 ((codes "bounds") ∷ []) (objects []) (a_body no_equates
    (statement_and (a_call_statement 99 (a_call 98 (an_operation 93 (a_named_type 92 (codes "stream") no_constants) (codes "puts")) (expression_and
    (a_call 96 (an_operation 95 (a_named_type 94 (codes "stream") no_constants) (codes "primary_output")) no_expressions) (expression_and (a_literal
    97 (string (34 ∷ 98 ∷ 101 ∷ 34 ∷ []))) no_expressions)))) no_statements)) no_whens) no_others) no_statements)))))))))) ∷ [])

abbrev string_fetch_declared : List Declared
string_fetch_declared =
    (d (codes "s") 2 3 102 (Some 0) ∷ d (codes "c") 48 49 102 (Some 0) ∷ d (codes "start_up") 102 0 4294967295 None ∷ [])

string_fetch : Runs string_fetch_declared string_fetch_modules (codes "") 10000 returned_normally (codes "acbb0b4b-1be") 6 288
unfolding executing computing digits
string_fetch = refl

-- % chars
-- start_up = proc ()
-- for c: char in string$chars("aZ0") do stream$putl(stream$primary_output(), int$unparse(char$c2i(c))) end
-- stream$putl(stream$primary_output(), string$c2s(char$i2c(65))) c: char := char$i2c(256) except when illegal_char: stream$putl(stream$primary_output(), "illegal") end
-- end start_up
abbrev chars_modules : List Module
chars_modules =
    ((a_routine 52 no_equates (routine 51 (codes "start_up") (codes "start_up") kind.Procedure [] ([]) no_types no_exceptions ([]) no_equates ([])
    (statement_and (a_for 20 (typed 1 ((codes "c") ∷ []) (a_simple_type 0 simple.Char) ∷ []) (a_call 5 (an_operation 3 (a_simple_type 2 simple.String)
    (codes "chars")) (expression_and (a_literal 4 (string (34 ∷ 97 ∷ 90 ∷ 48 ∷ 34 ∷ []))) no_expressions)) (a_body no_equates (statement_and
    (a_call_statement 19 (a_call 18 (an_operation 7 (a_named_type 6 (codes "stream") no_constants) (codes "putl")) (expression_and (a_call 10
    (an_operation 9 (a_named_type 8 (codes "stream") no_constants) (codes "primary_output")) no_expressions) (expression_and (a_call 17 (an_operation
    12 (a_simple_type 11 simple.Int) (codes "unparse")) (expression_and (a_call 16 (an_operation 14 (a_simple_type 13 simple.Char) (codes "c2i"))
    (expression_and (a_name 15 (codes "c")) no_expressions)) no_expressions)) no_expressions)))) no_statements))) (statement_and (a_call_statement 34
    (a_call 33 (an_operation 22 (a_named_type 21 (codes "stream") no_constants) (codes "putl")) (expression_and (a_call 25 (an_operation 24
    (a_named_type 23 (codes "stream") no_constants) (codes "primary_output")) no_expressions) (expression_and (a_call 32 (an_operation 27
    (a_simple_type 26 simple.String) (codes "c2s")) (expression_and (a_call 31 (an_operation 29 (a_simple_type 28 simple.Char) (codes "i2c"))
    (expression_and (a_literal 30 (integer (codes "65"))) no_expressions)) no_expressions)) no_expressions)))) (statement_and (an_except 50 (an_init
    40 (a_variable (codes "c") (a_simple_type 35 simple.Char)) (a_call 39 (an_operation 37 (a_simple_type 36 simple.Char) (codes "i2c"))
    (expression_and (a_literal 38 (integer (codes "256"))) no_expressions))) (when_and 49 ((codes "illegal_char") ∷ []) (objects []) (a_body
    no_equates (statement_and (a_call_statement 48 (a_call 47 (an_operation 42 (a_named_type 41 (codes "stream") no_constants) (codes "putl"))
    (expression_and (a_call 45 (an_operation 44 (a_named_type 43 (codes "stream") no_constants) (codes "primary_output")) no_expressions)
    (expression_and (a_literal 46 (string (34 ∷ 105 ∷ 108 ∷ 108 ∷ 101 ∷ 103 ∷ 97 ∷ 108 ∷ 34 ∷ []))) no_expressions)))) no_statements)) no_whens)
    no_others) no_statements))))) ∷ [])

abbrev chars_declared : List Declared
chars_declared =
    (d (codes "c") 1 6 19 (Some 0) ∷ d (codes "c") 40 41 51 (Some 0) ∷ d (codes "start_up") 51 0 4294967295 None ∷ [])

chars : Runs chars_declared chars_modules (codes "") 10000 returned_normally (57 ∷ 55 ∷ 10 ∷ 57 ∷ 48 ∷ 10 ∷ 52 ∷ 56 ∷ 10 ∷ 65 ∷ 10 ∷ 105 ∷ 108 ∷ 108 ∷ 101 ∷ 103 ∷ 97 ∷ 108 ∷ 10 ∷ []) 14 442
unfolding executing computing digits
chars = refl

-- % characters
-- start_up = proc ()
-- s: stream := stream$primary_input() n: int := 0 while ~stream$empty(s) do n := n + char$c2i(stream$getc(s)) end stream$putl(stream$primary_output(), int$unparse(n))
-- end start_up
abbrev characters_modules : List Module
characters_modules =
    ((a_routine 36 no_equates (routine 35 (codes "start_up") (codes "start_up") kind.Procedure [] ([]) no_types no_exceptions ([]) no_equates ([])
    (statement_and (an_init 4 (a_variable (codes "s") (a_named_type 0 (codes "stream") no_constants)) (a_call 3 (an_operation 2 (a_named_type 1 (codes
    "stream") no_constants) (codes "primary_input")) no_expressions)) (statement_and (an_init 7 (a_variable (codes "n") (a_simple_type 5 simple.Int))
    (a_literal 6 (integer (codes "0")))) (statement_and (a_while 23 (a_prefix 12 sign.Not (a_call 11 (an_operation 9 (a_named_type 8 (codes "stream")
    no_constants) (codes "empty")) (expression_and (a_name 10 (codes "s")) no_expressions))) (a_body no_equates (statement_and (an_assign 22 ((codes
    "n") ∷ []) (expression_and (an_infix 21 op.Add (a_name 13 (codes "n")) (a_call 20 (an_operation 15 (a_simple_type 14 simple.Char) (codes "c2i"))
    (expression_and (a_call 19 (an_operation 17 (a_named_type 16 (codes "stream") no_constants) (codes "getc")) (expression_and (a_name 18 (codes
    "s")) no_expressions)) no_expressions))) no_expressions)) no_statements))) (statement_and (a_call_statement 34 (a_call 33 (an_operation 25
    (a_named_type 24 (codes "stream") no_constants) (codes "putl")) (expression_and (a_call 28 (an_operation 27 (a_named_type 26 (codes "stream")
    no_constants) (codes "primary_output")) no_expressions) (expression_and (a_call 32 (an_operation 30 (a_simple_type 29 simple.Int) (codes
    "unparse")) (expression_and (a_name 31 (codes "n")) no_expressions)) no_expressions)))) no_statements)))))) ∷ [])

abbrev characters_declared : List Declared
characters_declared =
    (d (codes "s") 4 5 35 (Some 0) ∷ d (codes "n") 7 8 35 (Some 0) ∷ d (codes "start_up") 35 0 4294967295 None ∷ [])

characters : Runs characters_declared characters_modules (97 ∷ 10 ∷ 98 ∷ 99 ∷ []) 10000 returned_normally (51 ∷ 48 ∷ 52 ∷ 10 ∷ []) 4 154
unfolding executing computing digits
characters = refl
