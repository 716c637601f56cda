-- Programs that compute: copies of a parameter, and worked examples. Each is the tree of the CLU above it.
use Rattle.std.specs.Fmt.{digits}
use Rattle.std.specs.Prelude.{refl, List, [], ◌∷◌, codes, Some, None}
use Rattle.clu_names.specs.declared.scopes.Declared.{Declared}
use Rattle.clu_syntax.specs.declared.words.Operator.TheVariants as op
use Rattle.clu_syntax.specs.declared.words.SimpleType.TheVariants as simple
use Rattle.clu_syntax.specs.declared.words.ListType.TheVariants as list
use Rattle.clu_syntax.specs.declared.words.FieldsType.TheVariants as fields_word
use Rattle.clu_syntax.specs.declared.words.RoutineKind.TheVariants as kind
use Rattle.clu_syntax.specs.Syntax.{integer, string, an_infix, a_paren, a_literal, a_name, an_index, a_call, fields, elements, an_operation, no_expressions, expression_and, no_components, component_and, an_expression, a_type, no_constants, constant_and, a_simple_type, a_list_type, a_fields_type, a_routine_type, a_named_type, no_types, type_and, no_selectors, selector_and, no_exceptions, an_equate, no_equates, equate_and, objects, an_init, an_assign, a_set_index, a_call_statement, a_for, an_if, a_return, a_yield, a_signal, an_except, no_statements, statement_and, a_body, no_clauses, clause_and, nothing_else, no_whens, when_and, no_others, own_init, has_operations, Module, a_routine, a_cluster}
use Rattle.clu_layout.specs.Computing.{computing}
use Rattle.clu_meaning.specs.Run.{returned_normally, failure_with}
use Rattle.clu_meaning.specs.Executing.{executing}
use Rattle.clu_meaning.proofs.Running.{d, typed, a_variable, parameter, routine, cluster, Runs, Works}

-- % copies of a parameter
-- dup = proc [t: type] (x: t) returns (t) where t has copy: proctype (t) returns (t) return (t$copy(x)) end dup
-- start_up = proc () a: array[int] := array[int]$[1] b: array[int] := dup[array[int]](a) b[1] := 2 stream$putl(stream$primary_output(), int$unparse(a[1])) stream$putl(stream$primary_output(), dup[string]("s")) end start_up
abbrev copies_of_a_parameter_modules : List Module
copies_of_a_parameter_modules =
    ((a_routine 18 no_equates (routine 17 (codes "dup") (codes "dup") kind.Procedure (parameter 0 ((codes "t") ∷ []) None ∷ []) (typed 2 ((codes "x")
    ∷ []) (a_named_type 1 (codes "t") no_constants) ∷ []) (type_and (a_named_type 3 (codes "t") no_constants) no_types) no_exceptions ((has_operations
    10 (codes "t") (typed 9 ((codes "copy") ∷ []) (a_routine_type 8 kind.Procedure (type_and (a_named_type 5 (codes "t") no_constants) no_types)
    (type_and (a_named_type 6 (codes "t") no_constants) no_types) no_exceptions) ∷ [])) ∷ []) no_equates ([]) (statement_and (a_return 16
    (expression_and (a_call 15 (an_operation 13 (a_named_type 12 (codes "t") no_constants) (codes "copy")) (expression_and (a_name 14 (codes "x"))
    no_expressions)) no_expressions)) no_statements))) ∷ (a_routine 65 no_equates (routine 64 (codes "start_up") (codes "start_up") kind.Procedure []
    ([]) no_types no_exceptions ([]) no_equates ([]) (statement_and (an_init 25 (a_variable (codes "a") (a_list_type 20 list.Array (a_simple_type 19
    simple.Int))) (elements 24 (a_list_type 22 list.Array (a_simple_type 21 simple.Int)) (expression_and (a_literal 23 (integer (codes "1")))
    no_expressions))) (statement_and (an_init 34 (a_variable (codes "b") (a_list_type 27 list.Array (a_simple_type 26 simple.Int))) (a_call 33
    (an_index 31 (a_name 28 (codes "dup")) (constant_and (a_type (a_list_type 30 list.Array (a_simple_type 29 simple.Int))) no_constants))
    (expression_and (a_name 32 (codes "a")) no_expressions))) (statement_and (a_set_index 38 (a_name 35 (codes "b")) (a_literal 36 (integer (codes
    "1"))) (a_literal 37 (integer (codes "2")))) (statement_and (a_call_statement 51 (a_call 50 (an_operation 40 (a_named_type 39 (codes "stream")
    no_constants) (codes "putl")) (expression_and (a_call 43 (an_operation 42 (a_named_type 41 (codes "stream") no_constants) (codes
    "primary_output")) no_expressions) (expression_and (a_call 49 (an_operation 45 (a_simple_type 44 simple.Int) (codes "unparse")) (expression_and
    (an_index 48 (a_name 46 (codes "a")) (constant_and (an_expression (a_literal 47 (integer (codes "1")))) no_constants)) no_expressions))
    no_expressions)))) (statement_and (a_call_statement 63 (a_call 62 (an_operation 53 (a_named_type 52 (codes "stream") no_constants) (codes "putl"))
    (expression_and (a_call 56 (an_operation 55 (a_named_type 54 (codes "stream") no_constants) (codes "primary_output")) no_expressions)
    (expression_and (a_call 61 (an_index 59 (a_name 57 (codes "dup")) (constant_and (a_type (a_simple_type 58 simple.String)) no_constants))
    (expression_and (a_literal 60 (string (34 ∷ 115 ∷ 34 ∷ []))) no_expressions)) no_expressions)))) no_statements))))))) ∷ [])

abbrev copies_of_a_parameter_declared : List Declared
copies_of_a_parameter_declared =
    (d (codes "t") 0 0 17 (Some 0) ∷ d (codes "x") 2 3 17 (Some 0) ∷ d (codes "dup") 17 0 4294967295 None ∷ d (codes "a") 25 26 64 (Some 0) ∷ d (codes
    "b") 34 35 64 (Some 0) ∷ d (codes "start_up") 64 0 4294967295 None ∷ [])

copies_of_a_parameter : Runs copies_of_a_parameter_declared copies_of_a_parameter_modules (codes "") 10000 returned_normally (49 ∷ 10 ∷ 115 ∷ 10 ∷ []) 21 692
unfolding executing computing digits
copies_of_a_parameter = refl

-- % a worked example
-- it = iter (a: array[int]) yields (int)
--   yield (1) except when bounds: stream$putl(stream$primary_output(), "iterator") end
-- end it
-- start_up = proc ()
--   a: array[int] := array[int]$new()
--   for x: int in it(a) do y: int := a[x] end
--   except when bounds: stream$putl(stream$primary_output(), "caller") end
-- end start_up
abbrev example_modules : List Module
example_modules =
    ((a_routine 18 no_equates (routine 17 (codes "it") (codes "it") kind.Iterator [] (typed 2 ((codes "a") ∷ []) (a_list_type 1 list.Array
    (a_simple_type 0 simple.Int)) ∷ []) (type_and (a_simple_type 3 simple.Int) no_types) no_exceptions ([]) no_equates ([]) (statement_and (an_except
    16 (a_yield 6 (expression_and (a_literal 5 (integer (codes "1"))) no_expressions)) (when_and 15 ((codes "bounds") ∷ []) (objects []) (a_body
    no_equates (statement_and (a_call_statement 14 (a_call 13 (an_operation 8 (a_named_type 7 (codes "stream") no_constants) (codes "putl"))
    (expression_and (a_call 11 (an_operation 10 (a_named_type 9 (codes "stream") no_constants) (codes "primary_output")) no_expressions)
    (expression_and (a_literal 12 (string (34 ∷ 105 ∷ 116 ∷ 101 ∷ 114 ∷ 97 ∷ 116 ∷ 111 ∷ 114 ∷ 34 ∷ []))) no_expressions)))) no_statements)) no_whens)
    no_others) no_statements))) ∷ (a_routine 48 no_equates (routine 47 (codes "start_up") (codes "start_up") kind.Procedure [] ([]) no_types
    no_exceptions ([]) no_equates ([]) (statement_and (an_init 25 (a_variable (codes "a") (a_list_type 20 list.Array (a_simple_type 19 simple.Int)))
    (a_call 24 (an_operation 23 (a_list_type 22 list.Array (a_simple_type 21 simple.Int)) (codes "new")) no_expressions)) (statement_and (an_except 46
    (a_for 36 (typed 27 ((codes "x") ∷ []) (a_simple_type 26 simple.Int) ∷ []) (a_call 30 (a_name 28 (codes "it")) (expression_and (a_name 29 (codes
    "a")) no_expressions)) (a_body no_equates (statement_and (an_init 35 (a_variable (codes "y") (a_simple_type 31 simple.Int)) (an_index 34 (a_name
    32 (codes "a")) (constant_and (an_expression (a_name 33 (codes "x"))) no_constants))) no_statements))) (when_and 45 ((codes "bounds") ∷ [])
    (objects []) (a_body no_equates (statement_and (a_call_statement 44 (a_call 43 (an_operation 38 (a_named_type 37 (codes "stream") no_constants)
    (codes "putl")) (expression_and (a_call 41 (an_operation 40 (a_named_type 39 (codes "stream") no_constants) (codes "primary_output"))
    no_expressions) (expression_and (a_literal 42 (string (34 ∷ 99 ∷ 97 ∷ 108 ∷ 108 ∷ 101 ∷ 114 ∷ 34 ∷ []))) no_expressions)))) no_statements))
    no_whens) no_others) no_statements)))) ∷ [])

abbrev example_declared : List Declared
example_declared =
    (d (codes "a") 2 3 17 (Some 0) ∷ d (codes "it") 17 0 4294967295 None ∷ d (codes "a") 25 26 47 (Some 0) ∷ d (codes "x") 27 31 35 (Some 0) ∷ d
    (codes "y") 35 36 35 (Some 0) ∷ d (codes "start_up") 47 0 4294967295 None ∷ [])

example : Runs example_declared example_modules (codes "") 10000 returned_normally (99 ∷ 97 ∷ 108 ∷ 108 ∷ 101 ∷ 114 ∷ 10 ∷ []) 6 210
unfolding executing computing digits
example = refl

-- % a worked example
-- find = proc (k: int) returns (int)
--   for i: int in int$from_to(1, 9) do
--     for j: int in int$from_to(1, 9) do
--       if i * j = k then return (10 * i + j) end
--     end
--   end
--   return (0)
-- end find
-- start_up = proc () stream$putl(stream$primary_output(), int$unparse(find(12))) stream$putl(stream$primary_output(), int$unparse(find(11))) end start_up
abbrev example_2_modules : List Module
example_2_modules =
    ((a_routine 35 no_equates (routine 34 (codes "find") (codes "find") kind.Procedure [] (typed 1 ((codes "k") ∷ []) (a_simple_type 0 simple.Int) ∷
    []) (type_and (a_simple_type 2 simple.Int) no_types) no_exceptions ([]) no_equates ([]) (statement_and (a_for 31 (typed 5 ((codes "i") ∷ [])
    (a_simple_type 4 simple.Int) ∷ []) (a_call 10 (an_operation 7 (a_simple_type 6 simple.Int) (codes "from_to")) (expression_and (a_literal 8
    (integer (codes "1"))) (expression_and (a_literal 9 (integer (codes "9"))) no_expressions))) (a_body no_equates (statement_and (a_for 30 (typed 12
    ((codes "j") ∷ []) (a_simple_type 11 simple.Int) ∷ []) (a_call 17 (an_operation 14 (a_simple_type 13 simple.Int) (codes "from_to"))
    (expression_and (a_literal 15 (integer (codes "1"))) (expression_and (a_literal 16 (integer (codes "9"))) no_expressions))) (a_body no_equates
    (statement_and (an_if 29 (clause_and (an_infix 22 op.Equal (an_infix 20 op.Multiply (a_name 18 (codes "i")) (a_name 19 (codes "j"))) (a_name 21
    (codes "k"))) (a_body no_equates (statement_and (a_return 28 (expression_and (an_infix 27 op.Add (an_infix 25 op.Multiply (a_literal 23 (integer
    (codes "10"))) (a_name 24 (codes "i"))) (a_name 26 (codes "j"))) no_expressions)) no_statements)) no_clauses) nothing_else) no_statements)))
    no_statements))) (statement_and (a_return 33 (expression_and (a_literal 32 (integer (codes "0"))) no_expressions)) no_statements)))) ∷ (a_routine
    63 no_equates (routine 62 (codes "start_up") (codes "start_up") kind.Procedure [] ([]) no_types no_exceptions ([]) no_equates ([]) (statement_and
    (a_call_statement 48 (a_call 47 (an_operation 37 (a_named_type 36 (codes "stream") no_constants) (codes "putl")) (expression_and (a_call 40
    (an_operation 39 (a_named_type 38 (codes "stream") no_constants) (codes "primary_output")) no_expressions) (expression_and (a_call 46
    (an_operation 42 (a_simple_type 41 simple.Int) (codes "unparse")) (expression_and (a_call 45 (a_name 43 (codes "find")) (expression_and (a_literal
    44 (integer (codes "12"))) no_expressions)) no_expressions)) no_expressions)))) (statement_and (a_call_statement 61 (a_call 60 (an_operation 50
    (a_named_type 49 (codes "stream") no_constants) (codes "putl")) (expression_and (a_call 53 (an_operation 52 (a_named_type 51 (codes "stream")
    no_constants) (codes "primary_output")) no_expressions) (expression_and (a_call 59 (an_operation 55 (a_simple_type 54 simple.Int) (codes
    "unparse")) (expression_and (a_call 58 (a_name 56 (codes "find")) (expression_and (a_literal 57 (integer (codes "11"))) no_expressions))
    no_expressions)) no_expressions)))) no_statements)))) ∷ [])

abbrev example_2_declared : List Declared
example_2_declared =
    (d (codes "k") 1 2 34 (Some 0) ∷ d (codes "i") 5 11 30 (Some 0) ∷ d (codes "j") 12 18 29 (Some 0) ∷ d (codes "find") 34 0 4294967295 None ∷ d
    (codes "start_up") 62 0 4294967295 None ∷ [])

example_2 : Runs example_2_declared example_2_modules (codes "") 10000 returned_normally (50 ∷ 54 ∷ 10 ∷ 48 ∷ 10 ∷ []) 8 588
unfolding executing computing digits
example_2 = refl

-- % a worked example
-- tally = cluster [t: type] is note where t has equal: proctype (t, t) returns (bool)
--   rep = null
--   own n: int := 0
--   note = proc (a, b: t) returns (int)
--     if a = b then n := n + 1 end
--     return (n)
--   end note
-- end tally
--
-- start_up = proc ()
--   i: int := tally[int]$note(1, 1)
--   i := tally[int]$note(2, 2)
--   s: int := tally[string]$note("a", "a")
--   stream$putl(stream$primary_output(), int$unparse(i)) stream$putl(stream$primary_output(), int$unparse(s))
-- end start_up
abbrev example_3_modules : List Module
example_3_modules =
    ((a_cluster 30 no_equates (cluster 29 (codes "tally") (codes "tally") (parameter 0 ((codes "t") ∷ []) None ∷ []) ((codes "note") ∷ [])
    ((has_operations 7 (codes "t") (typed 6 ((codes "equal") ∷ []) (a_routine_type 5 kind.Procedure (type_and (a_named_type 1 (codes "t")
    no_constants) (type_and (a_named_type 2 (codes "t") no_constants) no_types)) (type_and (a_simple_type 3 simple.Bool) no_types) no_exceptions) ∷
    [])) ∷ []) (equate_and (an_equate 10 None (a_type (a_simple_type 9 simple.Null))) no_equates) ((own_init 13 (a_variable (codes "n") (a_simple_type
    11 simple.Int)) (a_literal 12 (integer (codes "0")))) ∷ []) ((routine 28 (codes "note") (codes "note") kind.Procedure [] (typed 15 ((codes "a") ∷
    (codes "b") ∷ []) (a_named_type 14 (codes "t") no_constants) ∷ []) (type_and (a_simple_type 16 simple.Int) no_types) no_exceptions ([]) no_equates
    ([]) (statement_and (an_if 25 (clause_and (an_infix 20 op.Equal (a_name 18 (codes "a")) (a_name 19 (codes "b"))) (a_body no_equates (statement_and
    (an_assign 24 ((codes "n") ∷ []) (expression_and (an_infix 23 op.Add (a_name 21 (codes "n")) (a_literal 22 (integer (codes "1"))))
    no_expressions)) no_statements)) no_clauses) nothing_else) (statement_and (a_return 27 (expression_and (a_name 26 (codes "n")) no_expressions))
    no_statements))) ∷ []))) ∷ (a_routine 77 no_equates (routine 76 (codes "start_up") (codes "start_up") kind.Procedure [] ([]) no_types
    no_exceptions ([]) no_equates ([]) (statement_and (an_init 38 (a_variable (codes "i") (a_simple_type 31 simple.Int)) (a_call 37 (an_operation 34
    (a_named_type 33 (codes "tally") (constant_and (a_type (a_simple_type 32 simple.Int)) no_constants)) (codes "note")) (expression_and (a_literal 35
    (integer (codes "1"))) (expression_and (a_literal 36 (integer (codes "1"))) no_expressions)))) (statement_and (an_assign 45 ((codes "i") ∷ [])
    (expression_and (a_call 44 (an_operation 41 (a_named_type 40 (codes "tally") (constant_and (a_type (a_simple_type 39 simple.Int)) no_constants))
    (codes "note")) (expression_and (a_literal 42 (integer (codes "2"))) (expression_and (a_literal 43 (integer (codes "2"))) no_expressions)))
    no_expressions)) (statement_and (an_init 53 (a_variable (codes "s") (a_simple_type 46 simple.Int)) (a_call 52 (an_operation 49 (a_named_type 48
    (codes "tally") (constant_and (a_type (a_simple_type 47 simple.String)) no_constants)) (codes "note")) (expression_and (a_literal 50 (string (34 ∷
    97 ∷ 34 ∷ []))) (expression_and (a_literal 51 (string (34 ∷ 97 ∷ 34 ∷ []))) no_expressions)))) (statement_and (a_call_statement 64 (a_call 63
    (an_operation 55 (a_named_type 54 (codes "stream") no_constants) (codes "putl")) (expression_and (a_call 58 (an_operation 57 (a_named_type 56
    (codes "stream") no_constants) (codes "primary_output")) no_expressions) (expression_and (a_call 62 (an_operation 60 (a_simple_type 59 simple.Int)
    (codes "unparse")) (expression_and (a_name 61 (codes "i")) no_expressions)) no_expressions)))) (statement_and (a_call_statement 75 (a_call 74
    (an_operation 66 (a_named_type 65 (codes "stream") no_constants) (codes "putl")) (expression_and (a_call 69 (an_operation 68 (a_named_type 67
    (codes "stream") no_constants) (codes "primary_output")) no_expressions) (expression_and (a_call 73 (an_operation 71 (a_simple_type 70 simple.Int)
    (codes "unparse")) (expression_and (a_name 72 (codes "s")) no_expressions)) no_expressions)))) no_statements))))))) ∷ [])

abbrev example_3_declared : List Declared
example_3_declared =
    (d (codes "t") 0 0 29 (Some 0) ∷ d (codes "rep") 10 0 29 (Some 0) ∷ d (codes "n") 13 14 29 (Some 0) ∷ d (codes "a") 15 16 28 (Some 0) ∷ d (codes
    "b") 15 16 28 (Some 0) ∷ d (codes "note") 28 0 29 (Some 0) ∷ d (codes "tally") 29 0 4294967295 None ∷ d (codes "i") 38 39 76 (Some 0) ∷ d (codes
    "s") 53 54 76 (Some 0) ∷ d (codes "start_up") 76 0 4294967295 None ∷ [])

example_3 : Runs example_3_declared example_3_modules (codes "") 10000 returned_normally (50 ∷ 10 ∷ 49 ∷ 10 ∷ []) 8 246
unfolding executing computing digits
example_3 = refl

-- % a worked example
-- c = cluster is get rep = null own n: int := c$get()
--  get = proc () returns (int) return (n) end get end c
-- start_up = proc () stream$putl(stream$primary_output(), int$unparse(c$get())) end start_up
abbrev example_4_modules : List Module
example_4_modules =
    ((a_cluster 13 no_equates (cluster 12 (codes "c") (codes "c") [] ((codes "get") ∷ []) ([]) (equate_and (an_equate 1 None (a_type (a_simple_type 0
    simple.Null))) no_equates) ((own_init 6 (a_variable (codes "n") (a_simple_type 2 simple.Int)) (a_call 5 (an_operation 4 (a_named_type 3 (codes
    "c") no_constants) (codes "get")) no_expressions)) ∷ []) ((routine 11 (codes "get") (codes "get") kind.Procedure [] ([]) (type_and (a_simple_type
    7 simple.Int) no_types) no_exceptions ([]) no_equates ([]) (statement_and (a_return 10 (expression_and (a_name 9 (codes "n")) no_expressions))
    no_statements)) ∷ []))) ∷ (a_routine 28 no_equates (routine 27 (codes "start_up") (codes "start_up") kind.Procedure [] ([]) no_types no_exceptions
    ([]) no_equates ([]) (statement_and (a_call_statement 26 (a_call 25 (an_operation 15 (a_named_type 14 (codes "stream") no_constants) (codes
    "putl")) (expression_and (a_call 18 (an_operation 17 (a_named_type 16 (codes "stream") no_constants) (codes "primary_output")) no_expressions)
    (expression_and (a_call 24 (an_operation 20 (a_simple_type 19 simple.Int) (codes "unparse")) (expression_and (a_call 23 (an_operation 22
    (a_named_type 21 (codes "c") no_constants) (codes "get")) no_expressions) no_expressions)) no_expressions)))) no_statements))) ∷ [])

abbrev example_4_declared : List Declared
example_4_declared =
    (d (codes "rep") 1 0 12 (Some 0) ∷ d (codes "n") 6 7 12 (Some 0) ∷ d (codes "get") 11 0 12 (Some 0) ∷ d (codes "c") 12 0 4294967295 None ∷ d
    (codes "start_up") 27 0 4294967295 None ∷ [])

example_4 : Runs example_4_declared example_4_modules (codes "") 10000 (failure_with (codes "uninitialized variable")) (codes "") 0 192
unfolding executing computing digits
example_4 = refl

-- % a worked example
-- m1 = proc (x: int) returns (int)
-- for i: int in int$from_to(1, 1) do
-- x := (x * 31 + i) // 1000000
-- end
-- return (x)
-- end m1
-- m2 = proc (x: int) returns (int)
-- for i: int in int$from_to(1, 2) do
-- x := (x * 31 + i) // 1000000
-- end
-- return (x)
-- end m2
-- m3 = proc (x: int) returns (int)
-- for i: int in int$from_to(1, 3) do
-- x := (x * 31 + i) // 1000000
-- end
-- return (x)
-- end m3
-- start_up = proc ()
-- x: int := 1
-- x := m1(x)
-- x := m2(x)
-- x := m3(x)
-- stream$putl(stream$primary_output(), int$unparse(x))
-- end start_up
abbrev example_5_modules : List Module
example_5_modules =
    ((a_routine 24 no_equates (routine 23 (codes "m1") (codes "m1") kind.Procedure [] (typed 1 ((codes "x") ∷ []) (a_simple_type 0 simple.Int) ∷ [])
    (type_and (a_simple_type 2 simple.Int) no_types) no_exceptions ([]) no_equates ([]) (statement_and (a_for 20 (typed 5 ((codes "i") ∷ [])
    (a_simple_type 4 simple.Int) ∷ []) (a_call 10 (an_operation 7 (a_simple_type 6 simple.Int) (codes "from_to")) (expression_and (a_literal 8
    (integer (codes "1"))) (expression_and (a_literal 9 (integer (codes "1"))) no_expressions))) (a_body no_equates (statement_and (an_assign 19
    ((codes "x") ∷ []) (expression_and (an_infix 18 op.Remainder (a_paren 16 (an_infix 15 op.Add (an_infix 13 op.Multiply (a_name 11 (codes "x"))
    (a_literal 12 (integer (codes "31")))) (a_name 14 (codes "i")))) (a_literal 17 (integer (codes "1000000")))) no_expressions)) no_statements)))
    (statement_and (a_return 22 (expression_and (a_name 21 (codes "x")) no_expressions)) no_statements)))) ∷ (a_routine 49 no_equates (routine 48
    (codes "m2") (codes "m2") kind.Procedure [] (typed 26 ((codes "x") ∷ []) (a_simple_type 25 simple.Int) ∷ []) (type_and (a_simple_type 27
    simple.Int) no_types) no_exceptions ([]) no_equates ([]) (statement_and (a_for 45 (typed 30 ((codes "i") ∷ []) (a_simple_type 29 simple.Int) ∷ [])
    (a_call 35 (an_operation 32 (a_simple_type 31 simple.Int) (codes "from_to")) (expression_and (a_literal 33 (integer (codes "1"))) (expression_and
    (a_literal 34 (integer (codes "2"))) no_expressions))) (a_body no_equates (statement_and (an_assign 44 ((codes "x") ∷ []) (expression_and
    (an_infix 43 op.Remainder (a_paren 41 (an_infix 40 op.Add (an_infix 38 op.Multiply (a_name 36 (codes "x")) (a_literal 37 (integer (codes "31"))))
    (a_name 39 (codes "i")))) (a_literal 42 (integer (codes "1000000")))) no_expressions)) no_statements))) (statement_and (a_return 47
    (expression_and (a_name 46 (codes "x")) no_expressions)) no_statements)))) ∷ (a_routine 74 no_equates (routine 73 (codes "m3") (codes "m3")
    kind.Procedure [] (typed 51 ((codes "x") ∷ []) (a_simple_type 50 simple.Int) ∷ []) (type_and (a_simple_type 52 simple.Int) no_types) no_exceptions
    ([]) no_equates ([]) (statement_and (a_for 70 (typed 55 ((codes "i") ∷ []) (a_simple_type 54 simple.Int) ∷ []) (a_call 60 (an_operation 57
    (a_simple_type 56 simple.Int) (codes "from_to")) (expression_and (a_literal 58 (integer (codes "1"))) (expression_and (a_literal 59 (integer
    (codes "3"))) no_expressions))) (a_body no_equates (statement_and (an_assign 69 ((codes "x") ∷ []) (expression_and (an_infix 68 op.Remainder
    (a_paren 66 (an_infix 65 op.Add (an_infix 63 op.Multiply (a_name 61 (codes "x")) (a_literal 62 (integer (codes "31")))) (a_name 64 (codes "i"))))
    (a_literal 67 (integer (codes "1000000")))) no_expressions)) no_statements))) (statement_and (a_return 72 (expression_and (a_name 71 (codes "x"))
    no_expressions)) no_statements)))) ∷ (a_routine 102 no_equates (routine 101 (codes "start_up") (codes "start_up") kind.Procedure [] ([]) no_types
    no_exceptions ([]) no_equates ([]) (statement_and (an_init 77 (a_variable (codes "x") (a_simple_type 75 simple.Int)) (a_literal 76 (integer (codes
    "1")))) (statement_and (an_assign 81 ((codes "x") ∷ []) (expression_and (a_call 80 (a_name 78 (codes "m1")) (expression_and (a_name 79 (codes
    "x")) no_expressions)) no_expressions)) (statement_and (an_assign 85 ((codes "x") ∷ []) (expression_and (a_call 84 (a_name 82 (codes "m2"))
    (expression_and (a_name 83 (codes "x")) no_expressions)) no_expressions)) (statement_and (an_assign 89 ((codes "x") ∷ []) (expression_and (a_call
    88 (a_name 86 (codes "m3")) (expression_and (a_name 87 (codes "x")) no_expressions)) no_expressions)) (statement_and (a_call_statement 100 (a_call
    99 (an_operation 91 (a_named_type 90 (codes "stream") no_constants) (codes "putl")) (expression_and (a_call 94 (an_operation 93 (a_named_type 92
    (codes "stream") no_constants) (codes "primary_output")) no_expressions) (expression_and (a_call 98 (an_operation 96 (a_simple_type 95 simple.Int)
    (codes "unparse")) (expression_and (a_name 97 (codes "x")) no_expressions)) no_expressions)))) no_statements))))))) ∷ [])

abbrev example_5_declared : List Declared
example_5_declared =
    (d (codes "x") 1 2 23 (Some 0) ∷ d (codes "i") 5 11 19 (Some 0) ∷ d (codes "m1") 23 0 4294967295 None ∷ d (codes "x") 26 27 48 (Some 0) ∷ d (codes
    "i") 30 36 44 (Some 0) ∷ d (codes "m2") 48 0 4294967295 None ∷ d (codes "x") 51 52 73 (Some 0) ∷ d (codes "i") 55 61 69 (Some 0) ∷ d (codes "m3")
    73 0 4294967295 None ∷ d (codes "x") 77 78 101 (Some 0) ∷ d (codes "start_up") 101 0 4294967295 None ∷ [])

example_5 : Runs example_5_declared example_5_modules (codes "") 10000 returned_normally (49 ∷ 49 ∷ 54 ∷ 57 ∷ 54 ∷ 49 ∷ 10 ∷ []) 4 384
unfolding executing computing digits
example_5 = refl

-- % a copy of a component that fails
-- c = cluster is make, copy
--   rep = int
--   make = proc () returns (cvt) return (1) end make
--   copy = proc (x: cvt) returns (cvt) signal failure("no") end copy
-- end c
-- start_up = proc ()
--   s = struct[a: c, b: int]
--   x: s := s${a: c$make(), b: 2}
--   x := s$copy(x) except when failure (t: string): stream$puts(stream$primary_output(), t) end
-- end start_up
abbrev a_copy_of_a_component_that_fails_modules : List Module
a_copy_of_a_component_that_fails_modules =
    ((a_cluster 15 no_equates (cluster 14 (codes "c") (codes "c") [] ((codes "make") ∷ (codes "copy") ∷ []) ([]) (equate_and (an_equate 1 None (a_type
    (a_simple_type 0 simple.Int))) no_equates) ([]) ((routine 6 (codes "make") (codes "make") kind.Procedure [] ([]) (type_and (a_simple_type 2
    simple.Cvt) no_types) no_exceptions ([]) no_equates ([]) (statement_and (a_return 5 (expression_and (a_literal 4 (integer (codes "1")))
    no_expressions)) no_statements)) ∷ (routine 13 (codes "copy") (codes "copy") kind.Procedure [] (typed 8 ((codes "x") ∷ []) (a_simple_type 7
    simple.Cvt) ∷ []) (type_and (a_simple_type 9 simple.Cvt) no_types) no_exceptions ([]) no_equates ([]) (statement_and (a_signal 12 (codes
    "failure") (expression_and (a_literal 11 (string (34 ∷ 110 ∷ 111 ∷ 34 ∷ []))) no_expressions)) no_statements)) ∷ []))) ∷ (a_routine 50 no_equates
    (routine 49 (codes "start_up") (codes "start_up") kind.Procedure [] ([]) no_types no_exceptions ([]) (equate_and (an_equate 21 (Some (codes "s"))
    (a_type (a_fields_type 20 fields_word.Struct (selector_and 17 ((codes "a") ∷ []) (a_named_type 16 (codes "c") no_constants) (selector_and 19
    ((codes "b") ∷ []) (a_simple_type 18 simple.Int) no_selectors))))) no_equates) ([]) (statement_and (an_init 31 (a_variable (codes "x")
    (a_named_type 22 (codes "s") no_constants)) (fields 30 (a_named_type 23 (codes "s") no_constants) (component_and 27 ((codes "a") ∷ []) (a_call 26
    (an_operation 25 (a_named_type 24 (codes "c") no_constants) (codes "make")) no_expressions) (component_and 29 ((codes "b") ∷ []) (a_literal 28
    (integer (codes "2"))) no_components)))) (statement_and (an_except 48 (an_assign 36 ((codes "x") ∷ []) (expression_and (a_call 35 (an_operation 33
    (a_named_type 32 (codes "s") no_constants) (codes "copy")) (expression_and (a_name 34 (codes "x")) no_expressions)) no_expressions)) (when_and 47
    ((codes "failure") ∷ []) (objects (typed 38 ((codes "t") ∷ []) (a_simple_type 37 simple.String) ∷ [])) (a_body no_equates (statement_and
    (a_call_statement 46 (a_call 45 (an_operation 40 (a_named_type 39 (codes "stream") no_constants) (codes "puts")) (expression_and (a_call 43
    (an_operation 42 (a_named_type 41 (codes "stream") no_constants) (codes "primary_output")) no_expressions) (expression_and (a_name 44 (codes "t"))
    no_expressions)))) no_statements)) no_whens) no_others) no_statements)))) ∷ [])

abbrev a_copy_of_a_component_that_fails_declared : List Declared
a_copy_of_a_component_that_fails_declared =
    (d (codes "rep") 1 0 14 (Some 0) ∷ d (codes "make") 6 0 14 (Some 0) ∷ d (codes "x") 8 9 13 (Some 0) ∷ d (codes "copy") 13 0 14 (Some 0) ∷ d (codes
    "c") 14 0 4294967295 None ∷ d (codes "s") 21 16 49 (Some 0) ∷ d (codes "x") 31 32 49 (Some 0) ∷ d (codes "t") 38 39 46 (Some 0) ∷ d (codes
    "start_up") 49 0 4294967295 None ∷ [])

a_copy_of_a_component_that_fails_work : Works a_copy_of_a_component_that_fails_declared a_copy_of_a_component_that_fails_modules (codes "") 10000 262
unfolding executing computing digits
a_copy_of_a_component_that_fails_work = refl
