-- Programs that compute: units of work. Each is the tree of the CLU above it.
use Rattle.std.specs.Fmt.{digits}
use Rattle.std.specs.Prelude.{refl, List, [], ◌∷◌, codes, Some, None}
use Rattle.clu_names.specs.declared.scopes.Declared.{Declared}
use Rattle.clu_syntax.specs.declared.words.Operator.TheVariants as op
use Rattle.clu_syntax.specs.declared.words.SimpleType.TheVariants as simple
use Rattle.clu_syntax.specs.declared.words.ListType.TheVariants as list
use Rattle.clu_syntax.specs.declared.words.RoutineKind.TheVariants as kind
use Rattle.clu_syntax.specs.Syntax.{integer, character, string, an_infix, a_literal, a_name, a_call, elements, an_operation, no_expressions, expression_and, no_constants, a_simple_type, a_list_type, a_named_type, no_types, no_exceptions, exception_and, no_equates, objects, an_init, an_assign, a_call_statement, a_for, an_if, a_signal, a_resignal, an_except, no_statements, statement_and, a_body, no_clauses, clause_and, nothing_else, no_whens, when_and, no_others, Module, a_routine}
use Rattle.clu_layout.specs.Computing.{computing}
use Rattle.clu_meaning.specs.Run.{returned_normally}
use Rattle.clu_meaning.specs.Executing.{executing}
use Rattle.clu_meaning.proofs.Running.{d, typed, a_variable, routine, Runs, Works}

-- % names that an exception passes
-- p = proc () signals (c) signal c end p
-- q = proc () signals (a, b, c) p() resignal a, b, c end q
-- start_up = proc () q() except when x, y: when z: when a, c: end end start_up
abbrev names_that_an_exception_passes_modules : List Module
names_that_an_exception_passes_modules =
    ((a_routine 4 no_equates (routine 3 (codes "p") (codes "p") kind.Procedure [] ([]) no_types (exception_and 0 (codes "c") no_types no_exceptions)
    ([]) no_equates ([]) (statement_and (a_signal 2 (codes "c") no_expressions) no_statements))) ∷ (a_routine 14 no_equates (routine 13 (codes "q")
    (codes "q") kind.Procedure [] ([]) no_types (exception_and 5 (codes "a") no_types (exception_and 6 (codes "b") no_types (exception_and 7 (codes
    "c") no_types no_exceptions))) ([]) no_equates ([]) (statement_and (a_resignal 12 (a_call_statement 11 (a_call 10 (a_name 9 (codes "p"))
    no_expressions)) ((codes "a") ∷ (codes "b") ∷ (codes "c") ∷ [])) no_statements))) ∷ (a_routine 23 no_equates (routine 22 (codes "start_up") (codes
    "start_up") kind.Procedure [] ([]) no_types no_exceptions ([]) no_equates ([]) (statement_and (an_except 21 (a_call_statement 17 (a_call 16
    (a_name 15 (codes "q")) no_expressions)) (when_and 18 ((codes "x") ∷ (codes "y") ∷ []) (objects []) (a_body no_equates no_statements) (when_and 19
    ((codes "z") ∷ []) (objects []) (a_body no_equates no_statements) (when_and 20 ((codes "a") ∷ (codes "c") ∷ []) (objects []) (a_body no_equates
    no_statements) no_whens))) no_others) no_statements))) ∷ [])

abbrev names_that_an_exception_passes_declared : List Declared
names_that_an_exception_passes_declared =
    (d (codes "p") 3 0 4294967295 None ∷ d (codes "q") 13 0 4294967295 None ∷ d (codes "start_up") 22 0 4294967295 None ∷ [])

names_that_an_exception_passes : Runs names_that_an_exception_passes_declared names_that_an_exception_passes_modules (codes "") 10000 returned_normally (codes "") 0 168
unfolding executing computing digits
names_that_an_exception_passes = refl

names_that_an_exception_passes_work : Works names_that_an_exception_passes_declared names_that_an_exception_passes_modules (codes "") 10000 135
unfolding executing computing digits
names_that_an_exception_passes_work = refl

-- % an array that grows
-- start_up = proc ()
--   a: array[int] := array[int]$[1, 2]
--   array[int]$addh(a, 3) array[int]$addl(a, 4) array[int]$addh(a, 5)
-- end start_up
abbrev an_array_that_grows_modules : List Module
an_array_that_grows_modules =
    ((a_routine 30 no_equates (routine 29 (codes "start_up") (codes "start_up") kind.Procedure [] ([]) no_types no_exceptions ([]) no_equates ([])
    (statement_and (an_init 7 (a_variable (codes "a") (a_list_type 1 list.Array (a_simple_type 0 simple.Int))) (elements 6 (a_list_type 3 list.Array
    (a_simple_type 2 simple.Int)) (expression_and (a_literal 4 (integer (codes "1"))) (expression_and (a_literal 5 (integer (codes "2")))
    no_expressions)))) (statement_and (a_call_statement 14 (a_call 13 (an_operation 10 (a_list_type 9 list.Array (a_simple_type 8 simple.Int)) (codes
    "addh")) (expression_and (a_name 11 (codes "a")) (expression_and (a_literal 12 (integer (codes "3"))) no_expressions)))) (statement_and
    (a_call_statement 21 (a_call 20 (an_operation 17 (a_list_type 16 list.Array (a_simple_type 15 simple.Int)) (codes "addl")) (expression_and (a_name
    18 (codes "a")) (expression_and (a_literal 19 (integer (codes "4"))) no_expressions)))) (statement_and (a_call_statement 28 (a_call 27
    (an_operation 24 (a_list_type 23 list.Array (a_simple_type 22 simple.Int)) (codes "addh")) (expression_and (a_name 25 (codes "a")) (expression_and
    (a_literal 26 (integer (codes "5"))) no_expressions)))) no_statements)))))) ∷ [])

abbrev an_array_that_grows_declared : List Declared
an_array_that_grows_declared =
    (d (codes "a") 7 8 29 (Some 0) ∷ d (codes "start_up") 29 0 4294967295 None ∷ [])

an_array_that_grows : Runs an_array_that_grows_declared an_array_that_grows_modules (codes "") 10000 returned_normally (codes "") 20 142
unfolding executing computing digits
an_array_that_grows = refl

an_array_that_grows_work : Works an_array_that_grows_declared an_array_that_grows_modules (codes "") 10000 127
unfolding executing computing digits
an_array_that_grows_work = refl

-- % strings
-- start_up = proc ()
--   s: string := "ab" || "cde"
--   if s = "abcde" then stream$puts(stream$primary_output(), s) end
-- end start_up
abbrev strings_modules : List Module
strings_modules =
    ((a_routine 18 no_equates (routine 17 (codes "start_up") (codes "start_up") kind.Procedure [] ([]) no_types no_exceptions ([]) no_equates ([])
    (statement_and (an_init 4 (a_variable (codes "s") (a_simple_type 0 simple.String)) (an_infix 3 op.Concatenate (a_literal 1 (string (34 ∷ 97 ∷ 98 ∷
    34 ∷ []))) (a_literal 2 (string (34 ∷ 99 ∷ 100 ∷ 101 ∷ 34 ∷ []))))) (statement_and (an_if 16 (clause_and (an_infix 7 op.Equal (a_name 5 (codes
    "s")) (a_literal 6 (string (34 ∷ 97 ∷ 98 ∷ 99 ∷ 100 ∷ 101 ∷ 34 ∷ [])))) (a_body no_equates (statement_and (a_call_statement 15 (a_call 14
    (an_operation 9 (a_named_type 8 (codes "stream") no_constants) (codes "puts")) (expression_and (a_call 12 (an_operation 11 (a_named_type 10 (codes
    "stream") no_constants) (codes "primary_output")) no_expressions) (expression_and (a_name 13 (codes "s")) no_expressions)))) no_statements))
    no_clauses) nothing_else) no_statements)))) ∷ [])

abbrev strings_declared : List Declared
strings_declared =
    (d (codes "s") 4 5 17 (Some 0) ∷ d (codes "start_up") 17 0 4294967295 None ∷ [])

strings : Runs strings_declared strings_modules (codes "") 10000 returned_normally (codes "abcde") 2 118
unfolding executing computing digits
strings = refl

strings_work : Works strings_declared strings_modules (codes "") 10000 95
unfolding executing computing digits
strings_work = refl

-- % operations that count more
-- start_up = proc ()
--   s: string := stream$getl(stream$primary_input())
--   i: int := string$indexs("b", s)
--   i := string$indexc('c', s)
--   i := int$parse("12") ** 2
-- end start_up
abbrev operations_that_count_more_modules : List Module
operations_that_count_more_modules =
    ((a_routine 29 no_equates (routine 28 (codes "start_up") (codes "start_up") kind.Procedure [] ([]) no_types no_exceptions ([]) no_equates ([])
    (statement_and (an_init 7 (a_variable (codes "s") (a_simple_type 0 simple.String)) (a_call 6 (an_operation 2 (a_named_type 1 (codes "stream")
    no_constants) (codes "getl")) (expression_and (a_call 5 (an_operation 4 (a_named_type 3 (codes "stream") no_constants) (codes "primary_input"))
    no_expressions) no_expressions))) (statement_and (an_init 14 (a_variable (codes "i") (a_simple_type 8 simple.Int)) (a_call 13 (an_operation 10
    (a_simple_type 9 simple.String) (codes "indexs")) (expression_and (a_literal 11 (string (34 ∷ 98 ∷ 34 ∷ []))) (expression_and (a_name 12 (codes
    "s")) no_expressions)))) (statement_and (an_assign 20 ((codes "i") ∷ []) (expression_and (a_call 19 (an_operation 16 (a_simple_type 15
    simple.String) (codes "indexc")) (expression_and (a_literal 17 (character (codes "'c'"))) (expression_and (a_name 18 (codes "s"))
    no_expressions))) no_expressions)) (statement_and (an_assign 27 ((codes "i") ∷ []) (expression_and (an_infix 26 op.Power (a_call 24 (an_operation
    22 (a_simple_type 21 simple.Int) (codes "parse")) (expression_and (a_literal 23 (string (34 ∷ 49 ∷ 50 ∷ 34 ∷ []))) no_expressions)) (a_literal 25
    (integer (codes "2")))) no_expressions)) no_statements)))))) ∷ [])

abbrev operations_that_count_more_declared : List Declared
operations_that_count_more_declared =
    (d (codes "s") 7 8 28 (Some 0) ∷ d (codes "i") 14 15 28 (Some 0) ∷ d (codes "start_up") 28 0 4294967295 None ∷ [])

operations_that_count_more : Runs operations_that_count_more_declared operations_that_count_more_modules (codes "abc") 10000 returned_normally (codes "") 2 140
unfolding executing computing digits
operations_that_count_more = refl

operations_that_count_more_work : Works operations_that_count_more_declared operations_that_count_more_modules (codes "abc") 10000 190
unfolding executing computing digits
operations_that_count_more_work = refl

-- % a loop
-- start_up = proc () for i: int in int$from_to(1, 1) do end end start_up
abbrev a_loop_modules : List Module
a_loop_modules =
    ((a_routine 9 no_equates (routine 8 (codes "start_up") (codes "start_up") kind.Procedure [] ([]) no_types no_exceptions ([]) no_equates ([])
    (statement_and (a_for 7 (typed 1 ((codes "i") ∷ []) (a_simple_type 0 simple.Int) ∷ []) (a_call 6 (an_operation 3 (a_simple_type 2 simple.Int)
    (codes "from_to")) (expression_and (a_literal 4 (integer (codes "1"))) (expression_and (a_literal 5 (integer (codes "1"))) no_expressions)))
    (a_body no_equates no_statements)) no_statements))) ∷ [])

abbrev a_loop_declared : List Declared
a_loop_declared =
    (d (codes "i") 1 7 6 (Some 0) ∷ d (codes "start_up") 8 0 4294967295 None ∷ [])

a_loop : Runs a_loop_declared a_loop_modules (codes "") 10000 returned_normally (codes "") 0 282
unfolding executing computing digits
a_loop = refl

a_loop_work : Works a_loop_declared a_loop_modules (codes "") 10000 248
unfolding executing computing digits
a_loop_work = refl
