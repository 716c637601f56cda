-- Programs that compute: variables that name no object, assignment, if statements. Each is the tree of the CLU above it.
use Rattle.std.specs.Fmt.{digits}
use Rattle.std.specs.Prelude.{refl, List, [], ◌∷◌, codes, Some, None}
use Rattle.clu_names.specs.declared.scopes.Declared.{Declared}
use Rattle.clu_syntax.specs.declared.words.Operator.TheVariants as op
use Rattle.clu_syntax.specs.declared.words.SimpleType.TheVariants as simple
use Rattle.clu_syntax.specs.declared.words.ListType.TheVariants as list
use Rattle.clu_syntax.specs.declared.words.RoutineKind.TheVariants as kind
use Rattle.clu_syntax.specs.Syntax.{true_literal, false_literal, integer, string, an_infix, a_literal, a_name, an_index, a_call, elements, an_operation, no_expressions, expression_and, an_expression, no_constants, constant_and, a_simple_type, a_list_type, a_named_type, no_types, type_and, no_exceptions, no_equates, objects, a_declare, an_init, a_call_init, an_assign, a_set_index, a_call_statement, a_for, an_if, a_return, an_except, no_statements, statement_and, a_body, no_clauses, clause_and, nothing_else, otherwise, no_whens, when_and, no_others, Module, a_routine}
use Rattle.clu_layout.specs.Computing.{computing}
use Rattle.clu_meaning.specs.Run.{returned_normally, failure_with}
use Rattle.clu_meaning.specs.Executing.{executing}
use Rattle.clu_meaning.proofs.Running.{d, typed, a_variable, routine, Runs}

-- % an uninitialised variable
-- start_up = proc ()
-- x: int stream$putl(stream$primary_output(), "a") stream$putl(stream$primary_output(), int$unparse(x))
-- end start_up
abbrev an_uninitialised_variable_modules : List Module
an_uninitialised_variable_modules =
    ((a_routine 23 no_equates (routine 22 (codes "start_up") (codes "start_up") kind.Procedure [] ([]) no_types no_exceptions ([]) no_equates ([])
    (statement_and (a_declare 2 (typed 1 ((codes "x") ∷ []) (a_simple_type 0 simple.Int))) (statement_and (a_call_statement 10 (a_call 9 (an_operation
    4 (a_named_type 3 (codes "stream") no_constants) (codes "putl")) (expression_and (a_call 7 (an_operation 6 (a_named_type 5 (codes "stream")
    no_constants) (codes "primary_output")) no_expressions) (expression_and (a_literal 8 (string (34 ∷ 97 ∷ 34 ∷ []))) no_expressions))))
    (statement_and (a_call_statement 21 (a_call 20 (an_operation 12 (a_named_type 11 (codes "stream") no_constants) (codes "putl")) (expression_and
    (a_call 15 (an_operation 14 (a_named_type 13 (codes "stream") no_constants) (codes "primary_output")) no_expressions) (expression_and (a_call 19
    (an_operation 17 (a_simple_type 16 simple.Int) (codes "unparse")) (expression_and (a_name 18 (codes "x")) no_expressions)) no_expressions))))
    no_statements))))) ∷ [])

abbrev an_uninitialised_variable_declared : List Declared
an_uninitialised_variable_declared =
    (d (codes "x") 1 3 22 (Some 0) ∷ d (codes "start_up") 22 0 4294967295 None ∷ [])

an_uninitialised_variable : Runs an_uninitialised_variable_declared an_uninitialised_variable_modules (codes "") 10000 (failure_with (codes "uninitialized variable")) (97 ∷ 10 ∷ []) 0 128
unfolding executing computing digits
an_uninitialised_variable = refl

-- % an uninitialised variable is caught
-- start_up = proc ()
-- x: int y: int := x + 1 except when failure (s: string): stream$putl(stream$primary_output(), s) end
-- x := 1 stream$putl(stream$primary_output(), int$unparse(x))
-- end start_up
abbrev an_uninitialised_variable_is_caught_modules : List Module
an_uninitialised_variable_is_caught_modules =
    ((a_routine 34 no_equates (routine 33 (codes "start_up") (codes "start_up") kind.Procedure [] ([]) no_types no_exceptions ([]) no_equates ([])
    (statement_and (a_declare 2 (typed 1 ((codes "x") ∷ []) (a_simple_type 0 simple.Int))) (statement_and (an_except 19 (an_init 7 (a_variable (codes
    "y") (a_simple_type 3 simple.Int)) (an_infix 6 op.Add (a_name 4 (codes "x")) (a_literal 5 (integer (codes "1"))))) (when_and 18 ((codes "failure")
    ∷ []) (objects (typed 9 ((codes "s") ∷ []) (a_simple_type 8 simple.String) ∷ [])) (a_body no_equates (statement_and (a_call_statement 17 (a_call
    16 (an_operation 11 (a_named_type 10 (codes "stream") no_constants) (codes "putl")) (expression_and (a_call 14 (an_operation 13 (a_named_type 12
    (codes "stream") no_constants) (codes "primary_output")) no_expressions) (expression_and (a_name 15 (codes "s")) no_expressions))))
    no_statements)) no_whens) no_others) (statement_and (an_assign 21 ((codes "x") ∷ []) (expression_and (a_literal 20 (integer (codes "1")))
    no_expressions)) (statement_and (a_call_statement 32 (a_call 31 (an_operation 23 (a_named_type 22 (codes "stream") no_constants) (codes "putl"))
    (expression_and (a_call 26 (an_operation 25 (a_named_type 24 (codes "stream") no_constants) (codes "primary_output")) no_expressions)
    (expression_and (a_call 30 (an_operation 28 (a_simple_type 27 simple.Int) (codes "unparse")) (expression_and (a_name 29 (codes "x"))
    no_expressions)) no_expressions)))) no_statements)))))) ∷ [])

abbrev an_uninitialised_variable_is_caught_declared : List Declared
an_uninitialised_variable_is_caught_declared =
    (d (codes "x") 1 3 33 (Some 0) ∷ d (codes "y") 7 8 33 (Some 0) ∷ d (codes "s") 9 10 17 (Some 0) ∷ d (codes "start_up") 33 0 4294967295 None ∷ [])

an_uninitialised_variable_is_caught : Runs an_uninitialised_variable_is_caught_declared an_uninitialised_variable_is_caught_modules (codes "") 10000 returned_normally (117 ∷ 110 ∷ 105 ∷ 110 ∷ 105 ∷ 116 ∷ 105 ∷ 97 ∷ 108 ∷ 105 ∷ 122 ∷ 101 ∷ 100 ∷ 32 ∷ 118 ∷ 97 ∷ 114 ∷ 105 ∷ 97 ∷ 98 ∷ 108 ∷ 101 ∷ 10 ∷ 49 ∷ 10 ∷ []) 4 150
unfolding executing computing digits
an_uninitialised_variable_is_caught = refl

-- % a declaration in a loop
-- start_up = proc ()
-- for i: int in int$from_to(1, 2) do
-- x: int
-- if i = 1 then x := 5 end
-- stream$putl(stream$primary_output(), int$unparse(x))
-- end except when failure (s: string): stream$putl(stream$primary_output(), s) end
-- end start_up
abbrev a_declaration_in_a_loop_modules : List Module
a_declaration_in_a_loop_modules =
    ((a_routine 41 no_equates (routine 40 (codes "start_up") (codes "start_up") kind.Procedure [] ([]) no_types no_exceptions ([]) no_equates ([])
    (statement_and (an_except 39 (a_for 27 (typed 1 ((codes "i") ∷ []) (a_simple_type 0 simple.Int) ∷ []) (a_call 6 (an_operation 3 (a_simple_type 2
    simple.Int) (codes "from_to")) (expression_and (a_literal 4 (integer (codes "1"))) (expression_and (a_literal 5 (integer (codes "2")))
    no_expressions))) (a_body no_equates (statement_and (a_declare 9 (typed 8 ((codes "x") ∷ []) (a_simple_type 7 simple.Int))) (statement_and (an_if
    15 (clause_and (an_infix 12 op.Equal (a_name 10 (codes "i")) (a_literal 11 (integer (codes "1")))) (a_body no_equates (statement_and (an_assign 14
    ((codes "x") ∷ []) (expression_and (a_literal 13 (integer (codes "5"))) no_expressions)) no_statements)) no_clauses) nothing_else) (statement_and
    (a_call_statement 26 (a_call 25 (an_operation 17 (a_named_type 16 (codes "stream") no_constants) (codes "putl")) (expression_and (a_call 20
    (an_operation 19 (a_named_type 18 (codes "stream") no_constants) (codes "primary_output")) no_expressions) (expression_and (a_call 24
    (an_operation 22 (a_simple_type 21 simple.Int) (codes "unparse")) (expression_and (a_name 23 (codes "x")) no_expressions)) no_expressions))))
    no_statements))))) (when_and 38 ((codes "failure") ∷ []) (objects (typed 29 ((codes "s") ∷ []) (a_simple_type 28 simple.String) ∷ [])) (a_body
    no_equates (statement_and (a_call_statement 37 (a_call 36 (an_operation 31 (a_named_type 30 (codes "stream") no_constants) (codes "putl"))
    (expression_and (a_call 34 (an_operation 33 (a_named_type 32 (codes "stream") no_constants) (codes "primary_output")) no_expressions)
    (expression_and (a_name 35 (codes "s")) no_expressions)))) no_statements)) no_whens) no_others) no_statements))) ∷ [])

abbrev a_declaration_in_a_loop_declared : List Declared
a_declaration_in_a_loop_declared =
    (d (codes "i") 1 7 26 (Some 0) ∷ d (codes "x") 8 10 26 (Some 0) ∷ d (codes "s") 29 30 37 (Some 0) ∷ d (codes "start_up") 40 0 4294967295 None ∷
    [])

a_declaration_in_a_loop : Runs a_declaration_in_a_loop_declared a_declaration_in_a_loop_modules (codes "") 10000 returned_normally (53 ∷ 10 ∷ 117 ∷ 110 ∷ 105 ∷ 110 ∷ 105 ∷ 116 ∷ 105 ∷ 97 ∷ 108 ∷ 105 ∷ 122 ∷ 101 ∷ 100 ∷ 32 ∷ 118 ∷ 97 ∷ 114 ∷ 105 ∷ 97 ∷ 98 ∷ 108 ∷ 101 ∷ 10 ∷ []) 4 346
unfolding executing computing digits
a_declaration_in_a_loop = refl

-- % several variables
-- p = proc () returns (int, int) return (3, 4) end p
-- q = proc () returns (string, int, int) return ("s", 5, 6) end q
-- start_up = proc ()
-- a, b: int := p() stream$putl(stream$primary_output(), int$unparse(a)) stream$putl(stream$primary_output(), int$unparse(b)) a, b := b, a stream$putl(stream$primary_output(), int$unparse(a)) stream$putl(stream$primary_output(), int$unparse(b))
-- x: string, y, z: int := q() stream$putl(stream$primary_output(), x) stream$putl(stream$primary_output(), int$unparse(y + z)) a, b := p() p()
-- stream$putl(stream$primary_output(), int$unparse(a - b))
-- end start_up
abbrev several_variables_modules : List Module
several_variables_modules =
    ((a_routine 7 no_equates (routine 6 (codes "p") (codes "p") kind.Procedure [] ([]) (type_and (a_simple_type 0 simple.Int) (type_and (a_simple_type
    1 simple.Int) no_types)) no_exceptions ([]) no_equates ([]) (statement_and (a_return 5 (expression_and (a_literal 3 (integer (codes "3")))
    (expression_and (a_literal 4 (integer (codes "4"))) no_expressions))) no_statements))) ∷ (a_routine 17 no_equates (routine 16 (codes "q") (codes
    "q") kind.Procedure [] ([]) (type_and (a_simple_type 8 simple.String) (type_and (a_simple_type 9 simple.Int) (type_and (a_simple_type 10
    simple.Int) no_types))) no_exceptions ([]) no_equates ([]) (statement_and (a_return 15 (expression_and (a_literal 12 (string (34 ∷ 115 ∷ 34 ∷
    []))) (expression_and (a_literal 13 (integer (codes "5"))) (expression_and (a_literal 14 (integer (codes "6"))) no_expressions))))
    no_statements))) ∷ (a_routine 118 no_equates (routine 117 (codes "start_up") (codes "start_up") kind.Procedure [] ([]) no_types no_exceptions ([])
    no_equates ([]) (statement_and (a_call_init 22 (typed 19 ((codes "a") ∷ (codes "b") ∷ []) (a_simple_type 18 simple.Int) ∷ []) (a_call 21 (a_name
    20 (codes "p")) no_expressions)) (statement_and (a_call_statement 33 (a_call 32 (an_operation 24 (a_named_type 23 (codes "stream") no_constants)
    (codes "putl")) (expression_and (a_call 27 (an_operation 26 (a_named_type 25 (codes "stream") no_constants) (codes "primary_output"))
    no_expressions) (expression_and (a_call 31 (an_operation 29 (a_simple_type 28 simple.Int) (codes "unparse")) (expression_and (a_name 30 (codes
    "a")) no_expressions)) no_expressions)))) (statement_and (a_call_statement 44 (a_call 43 (an_operation 35 (a_named_type 34 (codes "stream")
    no_constants) (codes "putl")) (expression_and (a_call 38 (an_operation 37 (a_named_type 36 (codes "stream") no_constants) (codes
    "primary_output")) no_expressions) (expression_and (a_call 42 (an_operation 40 (a_simple_type 39 simple.Int) (codes "unparse")) (expression_and
    (a_name 41 (codes "b")) no_expressions)) no_expressions)))) (statement_and (an_assign 47 ((codes "a") ∷ (codes "b") ∷ []) (expression_and (a_name
    45 (codes "b")) (expression_and (a_name 46 (codes "a")) no_expressions))) (statement_and (a_call_statement 58 (a_call 57 (an_operation 49
    (a_named_type 48 (codes "stream") no_constants) (codes "putl")) (expression_and (a_call 52 (an_operation 51 (a_named_type 50 (codes "stream")
    no_constants) (codes "primary_output")) no_expressions) (expression_and (a_call 56 (an_operation 54 (a_simple_type 53 simple.Int) (codes
    "unparse")) (expression_and (a_name 55 (codes "a")) no_expressions)) no_expressions)))) (statement_and (a_call_statement 69 (a_call 68
    (an_operation 60 (a_named_type 59 (codes "stream") no_constants) (codes "putl")) (expression_and (a_call 63 (an_operation 62 (a_named_type 61
    (codes "stream") no_constants) (codes "primary_output")) no_expressions) (expression_and (a_call 67 (an_operation 65 (a_simple_type 64 simple.Int)
    (codes "unparse")) (expression_and (a_name 66 (codes "b")) no_expressions)) no_expressions)))) (statement_and (a_call_init 76 (typed 71 ((codes
    "x") ∷ []) (a_simple_type 70 simple.String) ∷ typed 73 ((codes "y") ∷ (codes "z") ∷ []) (a_simple_type 72 simple.Int) ∷ []) (a_call 75 (a_name 74
    (codes "q")) no_expressions)) (statement_and (a_call_statement 84 (a_call 83 (an_operation 78 (a_named_type 77 (codes "stream") no_constants)
    (codes "putl")) (expression_and (a_call 81 (an_operation 80 (a_named_type 79 (codes "stream") no_constants) (codes "primary_output"))
    no_expressions) (expression_and (a_name 82 (codes "x")) no_expressions)))) (statement_and (a_call_statement 97 (a_call 96 (an_operation 86
    (a_named_type 85 (codes "stream") no_constants) (codes "putl")) (expression_and (a_call 89 (an_operation 88 (a_named_type 87 (codes "stream")
    no_constants) (codes "primary_output")) no_expressions) (expression_and (a_call 95 (an_operation 91 (a_simple_type 90 simple.Int) (codes
    "unparse")) (expression_and (an_infix 94 op.Add (a_name 92 (codes "y")) (a_name 93 (codes "z"))) no_expressions)) no_expressions))))
    (statement_and (an_assign 100 ((codes "a") ∷ (codes "b") ∷ []) (expression_and (a_call 99 (a_name 98 (codes "p")) no_expressions) no_expressions))
    (statement_and (a_call_statement 103 (a_call 102 (a_name 101 (codes "p")) no_expressions)) (statement_and (a_call_statement 116 (a_call 115
    (an_operation 105 (a_named_type 104 (codes "stream") no_constants) (codes "putl")) (expression_and (a_call 108 (an_operation 107 (a_named_type 106
    (codes "stream") no_constants) (codes "primary_output")) no_expressions) (expression_and (a_call 114 (an_operation 110 (a_simple_type 109
    simple.Int) (codes "unparse")) (expression_and (an_infix 113 op.Subtract (a_name 111 (codes "a")) (a_name 112 (codes "b"))) no_expressions))
    no_expressions)))) no_statements)))))))))))))) ∷ [])

abbrev several_variables_declared : List Declared
several_variables_declared =
    (d (codes "p") 6 0 4294967295 None ∷ d (codes "q") 16 0 4294967295 None ∷ d (codes "a") 19 23 117 (Some 0) ∷ d (codes "b") 19 23 117 (Some 0) ∷ d
    (codes "x") 71 77 117 (Some 0) ∷ d (codes "y") 73 77 117 (Some 0) ∷ d (codes "z") 73 77 117 (Some 0) ∷ d (codes "start_up") 117 0 4294967295 None
    ∷ [])

several_variables : Runs several_variables_declared several_variables_modules (codes "") 10000 returned_normally (51 ∷ 10 ∷ 52 ∷ 10 ∷ 52 ∷ 10 ∷ 51 ∷ 10 ∷ 115 ∷ 10 ∷ 49 ∷ 49 ∷ 10 ∷ 45 ∷ 49 ∷ 10 ∷ []) 24 326
unfolding executing computing digits
several_variables = refl

-- % arguments are shared
-- p = proc (a: array[int], n: int) a[1] := n n := 100 a := array[int]$[7] a[1] := 8 end p
-- start_up = proc () x: array[int] := array[int]$[0] n: int := 3 p(x, n) stream$putl(stream$primary_output(), int$unparse(x[1])) stream$putl(stream$primary_output(), int$unparse(n)) end start_up
abbrev arguments_are_shared_modules : List Module
arguments_are_shared_modules =
    ((a_routine 21 no_equates (routine 20 (codes "p") (codes "p") kind.Procedure [] (typed 2 ((codes "a") ∷ []) (a_list_type 1 list.Array
    (a_simple_type 0 simple.Int)) ∷ typed 4 ((codes "n") ∷ []) (a_simple_type 3 simple.Int) ∷ []) no_types no_exceptions ([]) no_equates ([])
    (statement_and (a_set_index 8 (a_name 5 (codes "a")) (a_literal 6 (integer (codes "1"))) (a_name 7 (codes "n"))) (statement_and (an_assign 10
    ((codes "n") ∷ []) (expression_and (a_literal 9 (integer (codes "100"))) no_expressions)) (statement_and (an_assign 15 ((codes "a") ∷ [])
    (expression_and (elements 14 (a_list_type 12 list.Array (a_simple_type 11 simple.Int)) (expression_and (a_literal 13 (integer (codes "7")))
    no_expressions)) no_expressions)) (statement_and (a_set_index 19 (a_name 16 (codes "a")) (a_literal 17 (integer (codes "1"))) (a_literal 18
    (integer (codes "8")))) no_statements)))))) ∷ (a_routine 62 no_equates (routine 61 (codes "start_up") (codes "start_up") kind.Procedure [] ([])
    no_types no_exceptions ([]) no_equates ([]) (statement_and (an_init 28 (a_variable (codes "x") (a_list_type 23 list.Array (a_simple_type 22
    simple.Int))) (elements 27 (a_list_type 25 list.Array (a_simple_type 24 simple.Int)) (expression_and (a_literal 26 (integer (codes "0")))
    no_expressions))) (statement_and (an_init 31 (a_variable (codes "n") (a_simple_type 29 simple.Int)) (a_literal 30 (integer (codes "3"))))
    (statement_and (a_call_statement 36 (a_call 35 (a_name 32 (codes "p")) (expression_and (a_name 33 (codes "x")) (expression_and (a_name 34 (codes
    "n")) no_expressions)))) (statement_and (a_call_statement 49 (a_call 48 (an_operation 38 (a_named_type 37 (codes "stream") no_constants) (codes
    "putl")) (expression_and (a_call 41 (an_operation 40 (a_named_type 39 (codes "stream") no_constants) (codes "primary_output")) no_expressions)
    (expression_and (a_call 47 (an_operation 43 (a_simple_type 42 simple.Int) (codes "unparse")) (expression_and (an_index 46 (a_name 44 (codes "x"))
    (constant_and (an_expression (a_literal 45 (integer (codes "1")))) no_constants)) no_expressions)) no_expressions)))) (statement_and
    (a_call_statement 60 (a_call 59 (an_operation 51 (a_named_type 50 (codes "stream") no_constants) (codes "putl")) (expression_and (a_call 54
    (an_operation 53 (a_named_type 52 (codes "stream") no_constants) (codes "primary_output")) no_expressions) (expression_and (a_call 58
    (an_operation 56 (a_simple_type 55 simple.Int) (codes "unparse")) (expression_and (a_name 57 (codes "n")) no_expressions)) no_expressions))))
    no_statements))))))) ∷ [])

abbrev arguments_are_shared_declared : List Declared
arguments_are_shared_declared =
    (d (codes "a") 2 3 20 (Some 0) ∷ d (codes "n") 4 5 20 (Some 0) ∷ d (codes "p") 20 0 4294967295 None ∷ d (codes "x") 28 29 61 (Some 0) ∷ d (codes
    "n") 31 32 61 (Some 0) ∷ d (codes "start_up") 61 0 4294967295 None ∷ [])

arguments_are_shared : Runs arguments_are_shared_declared arguments_are_shared_modules (codes "") 10000 returned_normally (51 ∷ 10 ∷ 51 ∷ 10 ∷ []) 22 222
unfolding executing computing digits
arguments_are_shared = refl

-- % if
-- start_up = proc ()
-- for i: int in int$from_to(1, 4) do if i = 1 then stream$putl(stream$primary_output(), "one") elseif i = 2 then stream$putl(stream$primary_output(), "two")
-- elseif i < 4 then stream$putl(stream$primary_output(), "three") else stream$putl(stream$primary_output(), "more") end end
-- end start_up
abbrev if_modules : List Module
if_modules =
    ((a_routine 51 no_equates (routine 50 (codes "start_up") (codes "start_up") kind.Procedure [] ([]) no_types no_exceptions ([]) no_equates ([])
    (statement_and (a_for 49 (typed 1 ((codes "i") ∷ []) (a_simple_type 0 simple.Int) ∷ []) (a_call 6 (an_operation 3 (a_simple_type 2 simple.Int)
    (codes "from_to")) (expression_and (a_literal 4 (integer (codes "1"))) (expression_and (a_literal 5 (integer (codes "4"))) no_expressions)))
    (a_body no_equates (statement_and (an_if 48 (clause_and (an_infix 9 op.Equal (a_name 7 (codes "i")) (a_literal 8 (integer (codes "1")))) (a_body
    no_equates (statement_and (a_call_statement 17 (a_call 16 (an_operation 11 (a_named_type 10 (codes "stream") no_constants) (codes "putl"))
    (expression_and (a_call 14 (an_operation 13 (a_named_type 12 (codes "stream") no_constants) (codes "primary_output")) no_expressions)
    (expression_and (a_literal 15 (string (34 ∷ 111 ∷ 110 ∷ 101 ∷ 34 ∷ []))) no_expressions)))) no_statements)) (clause_and (an_infix 20 op.Equal
    (a_name 18 (codes "i")) (a_literal 19 (integer (codes "2")))) (a_body no_equates (statement_and (a_call_statement 28 (a_call 27 (an_operation 22
    (a_named_type 21 (codes "stream") no_constants) (codes "putl")) (expression_and (a_call 25 (an_operation 24 (a_named_type 23 (codes "stream")
    no_constants) (codes "primary_output")) no_expressions) (expression_and (a_literal 26 (string (34 ∷ 116 ∷ 119 ∷ 111 ∷ 34 ∷ [])))
    no_expressions)))) no_statements)) (clause_and (an_infix 31 op.Less (a_name 29 (codes "i")) (a_literal 30 (integer (codes "4")))) (a_body
    no_equates (statement_and (a_call_statement 39 (a_call 38 (an_operation 33 (a_named_type 32 (codes "stream") no_constants) (codes "putl"))
    (expression_and (a_call 36 (an_operation 35 (a_named_type 34 (codes "stream") no_constants) (codes "primary_output")) no_expressions)
    (expression_and (a_literal 37 (string (34 ∷ 116 ∷ 104 ∷ 114 ∷ 101 ∷ 101 ∷ 34 ∷ []))) no_expressions)))) no_statements)) no_clauses))) (otherwise
    (a_body no_equates (statement_and (a_call_statement 47 (a_call 46 (an_operation 41 (a_named_type 40 (codes "stream") no_constants) (codes "putl"))
    (expression_and (a_call 44 (an_operation 43 (a_named_type 42 (codes "stream") no_constants) (codes "primary_output")) no_expressions)
    (expression_and (a_literal 45 (string (34 ∷ 109 ∷ 111 ∷ 114 ∷ 101 ∷ 34 ∷ []))) no_expressions)))) no_statements)))) no_statements)))
    no_statements))) ∷ [])

abbrev if_declared : List Declared
if_declared =
    (d (codes "i") 1 7 48 (Some 0) ∷ d (codes "start_up") 50 0 4294967295 None ∷ [])

if : Runs if_declared if_modules (codes "") 10000 returned_normally (111 ∷ 110 ∷ 101 ∷ 10 ∷ 116 ∷ 119 ∷ 111 ∷ 10 ∷ 116 ∷ 104 ∷ 114 ∷ 101 ∷ 101 ∷ 10 ∷ 109 ∷ 111 ∷ 114 ∷ 101 ∷ 10 ∷ []) 0 366
unfolding executing computing digits
if = refl

-- % mutual recursion
-- even = proc (n: int) returns (bool) if n = 0 then return (true) end return (odd(n - 1)) end even
-- odd = proc (n: int) returns (bool) if n = 0 then return (false) end return (even(n - 1)) end odd
-- start_up = proc () if even(100) then stream$putl(stream$primary_output(), "even") end if odd(77) then stream$putl(stream$primary_output(), "odd") end end start_up
abbrev mutual_recursion_modules : List Module
mutual_recursion_modules =
    ((a_routine 17 no_equates (routine 16 (codes "even") (codes "even") kind.Procedure [] (typed 1 ((codes "n") ∷ []) (a_simple_type 0 simple.Int) ∷
    []) (type_and (a_simple_type 2 simple.Bool) no_types) no_exceptions ([]) no_equates ([]) (statement_and (an_if 9 (clause_and (an_infix 6 op.Equal
    (a_name 4 (codes "n")) (a_literal 5 (integer (codes "0")))) (a_body no_equates (statement_and (a_return 8 (expression_and (a_literal 7
    true_literal) no_expressions)) no_statements)) no_clauses) nothing_else) (statement_and (a_return 15 (expression_and (a_call 14 (a_name 10 (codes
    "odd")) (expression_and (an_infix 13 op.Subtract (a_name 11 (codes "n")) (a_literal 12 (integer (codes "1")))) no_expressions)) no_expressions))
    no_statements)))) ∷ (a_routine 35 no_equates (routine 34 (codes "odd") (codes "odd") kind.Procedure [] (typed 19 ((codes "n") ∷ []) (a_simple_type
    18 simple.Int) ∷ []) (type_and (a_simple_type 20 simple.Bool) no_types) no_exceptions ([]) no_equates ([]) (statement_and (an_if 27 (clause_and
    (an_infix 24 op.Equal (a_name 22 (codes "n")) (a_literal 23 (integer (codes "0")))) (a_body no_equates (statement_and (a_return 26 (expression_and
    (a_literal 25 false_literal) no_expressions)) no_statements)) no_clauses) nothing_else) (statement_and (a_return 33 (expression_and (a_call 32
    (a_name 28 (codes "even")) (expression_and (an_infix 31 op.Subtract (a_name 29 (codes "n")) (a_literal 30 (integer (codes "1")))) no_expressions))
    no_expressions)) no_statements)))) ∷ (a_routine 61 no_equates (routine 60 (codes "start_up") (codes "start_up") kind.Procedure [] ([]) no_types
    no_exceptions ([]) no_equates ([]) (statement_and (an_if 47 (clause_and (a_call 38 (a_name 36 (codes "even")) (expression_and (a_literal 37
    (integer (codes "100"))) no_expressions)) (a_body no_equates (statement_and (a_call_statement 46 (a_call 45 (an_operation 40 (a_named_type 39
    (codes "stream") no_constants) (codes "putl")) (expression_and (a_call 43 (an_operation 42 (a_named_type 41 (codes "stream") no_constants) (codes
    "primary_output")) no_expressions) (expression_and (a_literal 44 (string (34 ∷ 101 ∷ 118 ∷ 101 ∷ 110 ∷ 34 ∷ []))) no_expressions))))
    no_statements)) no_clauses) nothing_else) (statement_and (an_if 59 (clause_and (a_call 50 (a_name 48 (codes "odd")) (expression_and (a_literal 49
    (integer (codes "77"))) no_expressions)) (a_body no_equates (statement_and (a_call_statement 58 (a_call 57 (an_operation 52 (a_named_type 51
    (codes "stream") no_constants) (codes "putl")) (expression_and (a_call 55 (an_operation 54 (a_named_type 53 (codes "stream") no_constants) (codes
    "primary_output")) no_expressions) (expression_and (a_literal 56 (string (34 ∷ 111 ∷ 100 ∷ 100 ∷ 34 ∷ []))) no_expressions)))) no_statements))
    no_clauses) nothing_else) no_statements)))) ∷ [])

abbrev mutual_recursion_declared : List Declared
mutual_recursion_declared =
    (d (codes "n") 1 2 16 (Some 0) ∷ d (codes "even") 16 0 4294967295 None ∷ d (codes "n") 19 20 34 (Some 0) ∷ d (codes "odd") 34 0 4294967295 None ∷
    d (codes "start_up") 60 0 4294967295 None ∷ [])

mutual_recursion : Runs mutual_recursion_declared mutual_recursion_modules (codes "") 10000 returned_normally (101 ∷ 118 ∷ 101 ∷ 110 ∷ 10 ∷ 111 ∷ 100 ∷ 100 ∷ 10 ∷ []) 0 5384
unfolding executing computing digits
mutual_recursion = refl

-- % one variable twice
-- start_up = proc ()
--   x: int
--   x, x := 1, 2
--   stream$puts(stream$primary_output(), int$unparse(x))
-- end start_up
abbrev one_variable_twice_modules : List Module
one_variable_twice_modules =
    ((a_routine 18 no_equates (routine 17 (codes "start_up") (codes "start_up") kind.Procedure [] ([]) no_types no_exceptions ([]) no_equates ([])
    (statement_and (a_declare 2 (typed 1 ((codes "x") ∷ []) (a_simple_type 0 simple.Int))) (statement_and (an_assign 5 ((codes "x") ∷ (codes "x") ∷
    []) (expression_and (a_literal 3 (integer (codes "1"))) (expression_and (a_literal 4 (integer (codes "2"))) no_expressions))) (statement_and
    (a_call_statement 16 (a_call 15 (an_operation 7 (a_named_type 6 (codes "stream") no_constants) (codes "puts")) (expression_and (a_call 10
    (an_operation 9 (a_named_type 8 (codes "stream") no_constants) (codes "primary_output")) no_expressions) (expression_and (a_call 14 (an_operation
    12 (a_simple_type 11 simple.Int) (codes "unparse")) (expression_and (a_name 13 (codes "x")) no_expressions)) no_expressions)))) no_statements)))))
    ∷ [])

abbrev one_variable_twice_declared : List Declared
one_variable_twice_declared =
    (d (codes "x") 1 3 17 (Some 0) ∷ d (codes "start_up") 17 0 4294967295 None ∷ [])

one_variable_twice : Runs one_variable_twice_declared one_variable_twice_modules (codes "") 10000 returned_normally (codes "2") 4 120
unfolding executing computing digits
one_variable_twice = refl
