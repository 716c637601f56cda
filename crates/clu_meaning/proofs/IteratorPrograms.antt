-- Programs that compute: iterators that don't see what the body of the loop does. Each is the tree of the CLU above it.
use Rattle.std.specs.Fmt.{digits}
use Rattle.std.specs.Prelude.{refl, List, [], ◌∷◌, codes, Some, None}
use Rattle.clu_names.specs.declared.scopes.Declared.{Declared}
use Rattle.clu_syntax.specs.declared.words.Operator.TheVariants as op
use Rattle.clu_syntax.specs.declared.words.Sign.TheVariants as sign
use Rattle.clu_syntax.specs.declared.words.SimpleType.TheVariants as simple
use Rattle.clu_syntax.specs.declared.words.ListType.TheVariants as list
use Rattle.clu_syntax.specs.declared.words.RoutineKind.TheVariants as kind
use Rattle.clu_syntax.specs.Syntax.{integer, string, an_infix, a_prefix, a_literal, a_name, an_index, a_call, elements, an_operation, no_expressions, expression_and, an_expression, no_constants, constant_and, a_simple_type, a_list_type, a_routine_type, a_named_type, no_types, type_and, no_exceptions, no_equates, objects, an_init, an_assign, a_set_index, a_call_statement, a_while, a_for, an_if, a_return, a_yield, a_signal, an_exit, a_begin, an_except, no_statements, statement_and, a_body, no_clauses, clause_and, nothing_else, no_whens, when_and, no_others, others, own_init, Module, a_routine}
use Rattle.clu_layout.specs.Computing.{computing}
use Rattle.clu_meaning.specs.Run.{returned_normally}
use Rattle.clu_meaning.specs.Executing.{executing}
use Rattle.clu_meaning.proofs.Running.{d, typed, a_variable, routine, Runs, Works}

-- % an own exception of an iterator
-- it = iter () yields (int) begin yield (1) x: int := 1 / 0 end except when zero_divide: stream$putl(stream$primary_output(), "it") end yield (2) end it
-- start_up = proc () for x: int in it() do stream$putl(stream$primary_output(), int$unparse(x)) end except when zero_divide: stream$putl(stream$primary_output(), "!") end end start_up
abbrev an_own_exception_of_an_iterator_modules : List Module
an_own_exception_of_an_iterator_modules =
    ((a_routine 23 no_equates (routine 22 (codes "it") (codes "it") kind.Iterator [] ([]) (type_and (a_simple_type 0 simple.Int) no_types)
    no_exceptions ([]) no_equates ([]) (statement_and (an_except 19 (a_begin 9 (a_body no_equates (statement_and (a_yield 3 (expression_and (a_literal
    2 (integer (codes "1"))) no_expressions)) (statement_and (an_init 8 (a_variable (codes "x") (a_simple_type 4 simple.Int)) (an_infix 7 op.Divide
    (a_literal 5 (integer (codes "1"))) (a_literal 6 (integer (codes "0"))))) no_statements)))) (when_and 18 ((codes "zero_divide") ∷ []) (objects [])
    (a_body no_equates (statement_and (a_call_statement 17 (a_call 16 (an_operation 11 (a_named_type 10 (codes "stream") no_constants) (codes "putl"))
    (expression_and (a_call 14 (an_operation 13 (a_named_type 12 (codes "stream") no_constants) (codes "primary_output")) no_expressions)
    (expression_and (a_literal 15 (string (34 ∷ 105 ∷ 116 ∷ 34 ∷ []))) no_expressions)))) no_statements)) no_whens) no_others) (statement_and (a_yield
    21 (expression_and (a_literal 20 (integer (codes "2"))) no_expressions)) no_statements)))) ∷ (a_routine 51 no_equates (routine 50 (codes
    "start_up") (codes "start_up") kind.Procedure [] ([]) no_types no_exceptions ([]) no_equates ([]) (statement_and (an_except 49 (a_for 39 (typed 25
    ((codes "x") ∷ []) (a_simple_type 24 simple.Int) ∷ []) (a_call 27 (a_name 26 (codes "it")) no_expressions) (a_body no_equates (statement_and
    (a_call_statement 38 (a_call 37 (an_operation 29 (a_named_type 28 (codes "stream") no_constants) (codes "putl")) (expression_and (a_call 32
    (an_operation 31 (a_named_type 30 (codes "stream") no_constants) (codes "primary_output")) no_expressions) (expression_and (a_call 36
    (an_operation 34 (a_simple_type 33 simple.Int) (codes "unparse")) (expression_and (a_name 35 (codes "x")) no_expressions)) no_expressions))))
    no_statements))) (when_and 48 ((codes "zero_divide") ∷ []) (objects []) (a_body no_equates (statement_and (a_call_statement 47 (a_call 46
    (an_operation 41 (a_named_type 40 (codes "stream") no_constants) (codes "putl")) (expression_and (a_call 44 (an_operation 43 (a_named_type 42
    (codes "stream") no_constants) (codes "primary_output")) no_expressions) (expression_and (a_literal 45 (string (34 ∷ 33 ∷ 34 ∷ [])))
    no_expressions)))) no_statements)) no_whens) no_others) no_statements))) ∷ [])

abbrev an_own_exception_of_an_iterator_declared : List Declared
an_own_exception_of_an_iterator_declared =
    (d (codes "x") 8 9 8 (Some 0) ∷ d (codes "it") 22 0 4294967295 None ∷ d (codes "x") 25 28 38 (Some 0) ∷ d (codes "start_up") 50 0 4294967295 None
    ∷ [])

an_own_exception_of_an_iterator : Runs an_own_exception_of_an_iterator_declared an_own_exception_of_an_iterator_modules (codes "") 10000 returned_normally (49 ∷ 10 ∷ 105 ∷ 116 ∷ 10 ∷ 50 ∷ 10 ∷ []) 8 216
unfolding executing computing digits
an_own_exception_of_an_iterator = refl

-- % an exit out of nested loops
-- it = iter () yields (int) begin yield (1) yield (2) end except others: stream$putl(stream$primary_output(), "!") end end it
-- start_up = proc () for x: int in it() do for y: int in it() do if x + y = 4 then exit out(x) end stream$putl(stream$primary_output(), int$unparse(x * 10 + y)) end end
-- except when out (n: int): stream$putl(stream$primary_output(), int$unparse(n)) end end start_up
abbrev an_exit_out_of_nested_loops_modules : List Module
an_exit_out_of_nested_loops_modules =
    ((a_routine 18 no_equates (routine 17 (codes "it") (codes "it") kind.Iterator [] ([]) (type_and (a_simple_type 0 simple.Int) no_types)
    no_exceptions ([]) no_equates ([]) (statement_and (an_except 16 (a_begin 6 (a_body no_equates (statement_and (a_yield 3 (expression_and (a_literal
    2 (integer (codes "1"))) no_expressions)) (statement_and (a_yield 5 (expression_and (a_literal 4 (integer (codes "2"))) no_expressions))
    no_statements)))) no_whens (others 15 None (a_body no_equates (statement_and (a_call_statement 14 (a_call 13 (an_operation 8 (a_named_type 7
    (codes "stream") no_constants) (codes "putl")) (expression_and (a_call 11 (an_operation 10 (a_named_type 9 (codes "stream") no_constants) (codes
    "primary_output")) no_expressions) (expression_and (a_literal 12 (string (34 ∷ 33 ∷ 34 ∷ []))) no_expressions)))) no_statements))))
    no_statements))) ∷ (a_routine 68 no_equates (routine 67 (codes "start_up") (codes "start_up") kind.Procedure [] ([]) no_types no_exceptions ([])
    no_equates ([]) (statement_and (an_except 66 (a_for 51 (typed 20 ((codes "x") ∷ []) (a_simple_type 19 simple.Int) ∷ []) (a_call 22 (a_name 21
    (codes "it")) no_expressions) (a_body no_equates (statement_and (a_for 50 (typed 24 ((codes "y") ∷ []) (a_simple_type 23 simple.Int) ∷ []) (a_call
    26 (a_name 25 (codes "it")) no_expressions) (a_body no_equates (statement_and (an_if 34 (clause_and (an_infix 31 op.Equal (an_infix 29 op.Add
    (a_name 27 (codes "x")) (a_name 28 (codes "y"))) (a_literal 30 (integer (codes "4")))) (a_body no_equates (statement_and (an_exit 33 (codes "out")
    (expression_and (a_name 32 (codes "x")) no_expressions)) no_statements)) no_clauses) nothing_else) (statement_and (a_call_statement 49 (a_call 48
    (an_operation 36 (a_named_type 35 (codes "stream") no_constants) (codes "putl")) (expression_and (a_call 39 (an_operation 38 (a_named_type 37
    (codes "stream") no_constants) (codes "primary_output")) no_expressions) (expression_and (a_call 47 (an_operation 41 (a_simple_type 40 simple.Int)
    (codes "unparse")) (expression_and (an_infix 46 op.Add (an_infix 44 op.Multiply (a_name 42 (codes "x")) (a_literal 43 (integer (codes "10"))))
    (a_name 45 (codes "y"))) no_expressions)) no_expressions)))) no_statements)))) no_statements))) (when_and 65 ((codes "out") ∷ []) (objects (typed
    53 ((codes "n") ∷ []) (a_simple_type 52 simple.Int) ∷ [])) (a_body no_equates (statement_and (a_call_statement 64 (a_call 63 (an_operation 55
    (a_named_type 54 (codes "stream") no_constants) (codes "putl")) (expression_and (a_call 58 (an_operation 57 (a_named_type 56 (codes "stream")
    no_constants) (codes "primary_output")) no_expressions) (expression_and (a_call 62 (an_operation 60 (a_simple_type 59 simple.Int) (codes
    "unparse")) (expression_and (a_name 61 (codes "n")) no_expressions)) no_expressions)))) no_statements)) no_whens) no_others) no_statements))) ∷
    [])

abbrev an_exit_out_of_nested_loops_declared : List Declared
an_exit_out_of_nested_loops_declared =
    (d (codes "it") 17 0 4294967295 None ∷ d (codes "x") 20 23 50 (Some 0) ∷ d (codes "y") 24 27 49 (Some 0) ∷ d (codes "n") 53 54 64 (Some 0) ∷ d
    (codes "start_up") 67 0 4294967295 None ∷ [])

an_exit_out_of_nested_loops : Runs an_exit_out_of_nested_loops_declared an_exit_out_of_nested_loops_modules (codes "") 10000 returned_normally (49 ∷ 49 ∷ 10 ∷ 49 ∷ 50 ∷ 10 ∷ 50 ∷ 49 ∷ 10 ∷ 50 ∷ 10 ∷ []) 16 320
unfolding executing computing digits
an_exit_out_of_nested_loops = refl

-- % the body changes the caller's variables
-- it = iter (a: array[int]) yields (int) yield (a[1]) yield (a[1]) end it
-- start_up = proc () a: array[int] := array[int]$[1] n: int := 0 for x: int in it(a) do n := n + x a[1] := 10 end stream$putl(stream$primary_output(), int$unparse(n)) end start_up
abbrev the_body_changes_the_caller_s_variables_modules : List Module
the_body_changes_the_caller_s_variables_modules =
    ((a_routine 14 no_equates (routine 13 (codes "it") (codes "it") kind.Iterator [] (typed 2 ((codes "a") ∷ []) (a_list_type 1 list.Array
    (a_simple_type 0 simple.Int)) ∷ []) (type_and (a_simple_type 3 simple.Int) no_types) no_exceptions ([]) no_equates ([]) (statement_and (a_yield 8
    (expression_and (an_index 7 (a_name 5 (codes "a")) (constant_and (an_expression (a_literal 6 (integer (codes "1")))) no_constants))
    no_expressions)) (statement_and (a_yield 12 (expression_and (an_index 11 (a_name 9 (codes "a")) (constant_and (an_expression (a_literal 10
    (integer (codes "1")))) no_constants)) no_expressions)) no_statements)))) ∷ (a_routine 51 no_equates (routine 50 (codes "start_up") (codes
    "start_up") kind.Procedure [] ([]) no_types no_exceptions ([]) no_equates ([]) (statement_and (an_init 21 (a_variable (codes "a") (a_list_type 16
    list.Array (a_simple_type 15 simple.Int))) (elements 20 (a_list_type 18 list.Array (a_simple_type 17 simple.Int)) (expression_and (a_literal 19
    (integer (codes "1"))) no_expressions))) (statement_and (an_init 24 (a_variable (codes "n") (a_simple_type 22 simple.Int)) (a_literal 23 (integer
    (codes "0")))) (statement_and (a_for 38 (typed 26 ((codes "x") ∷ []) (a_simple_type 25 simple.Int) ∷ []) (a_call 29 (a_name 27 (codes "it"))
    (expression_and (a_name 28 (codes "a")) no_expressions)) (a_body no_equates (statement_and (an_assign 33 ((codes "n") ∷ []) (expression_and
    (an_infix 32 op.Add (a_name 30 (codes "n")) (a_name 31 (codes "x"))) no_expressions)) (statement_and (a_set_index 37 (a_name 34 (codes "a"))
    (a_literal 35 (integer (codes "1"))) (a_literal 36 (integer (codes "10")))) no_statements)))) (statement_and (a_call_statement 49 (a_call 48
    (an_operation 40 (a_named_type 39 (codes "stream") no_constants) (codes "putl")) (expression_and (a_call 43 (an_operation 42 (a_named_type 41
    (codes "stream") no_constants) (codes "primary_output")) no_expressions) (expression_and (a_call 47 (an_operation 45 (a_simple_type 44 simple.Int)
    (codes "unparse")) (expression_and (a_name 46 (codes "n")) no_expressions)) no_expressions)))) no_statements)))))) ∷ [])

abbrev the_body_changes_the_caller_s_variables_declared : List Declared
the_body_changes_the_caller_s_variables_declared =
    (d (codes "a") 2 3 13 (Some 0) ∷ d (codes "it") 13 0 4294967295 None ∷ d (codes "a") 21 22 50 (Some 0) ∷ d (codes "n") 24 25 50 (Some 0) ∷ d
    (codes "x") 26 30 37 (Some 0) ∷ d (codes "start_up") 50 0 4294967295 None ∷ [])

the_body_changes_the_caller_s_variables : Runs the_body_changes_the_caller_s_variables_declared the_body_changes_the_caller_s_variables_modules (codes "") 10000 returned_normally (49 ∷ 49 ∷ 10 ∷ []) 11 216
unfolding executing computing digits
the_body_changes_the_caller_s_variables = refl

-- % an iterator as an object
-- it = iter (n: int) yields (int) yield (n) yield (n + 1) end it
-- p = proc (f: itertype (int) yields (int)) returns (int) s: int := 0 for i: int in f(5) do s := s + i end return (s) end p
-- start_up = proc () stream$putl(stream$primary_output(), int$unparse(p(it))) f: itertype (int, int) yields (int) := int$from_to for i: int in f(1, 2) do stream$putl(stream$primary_output(), int$unparse(i)) end
-- end start_up
abbrev an_iterator_as_an_object_modules : List Module
an_iterator_as_an_object_modules =
    ((a_routine 11 no_equates (routine 10 (codes "it") (codes "it") kind.Iterator [] (typed 1 ((codes "n") ∷ []) (a_simple_type 0 simple.Int) ∷ [])
    (type_and (a_simple_type 2 simple.Int) no_types) no_exceptions ([]) no_equates ([]) (statement_and (a_yield 5 (expression_and (a_name 4 (codes
    "n")) no_expressions)) (statement_and (a_yield 9 (expression_and (an_infix 8 op.Add (a_name 6 (codes "n")) (a_literal 7 (integer (codes "1"))))
    no_expressions)) no_statements)))) ∷ (a_routine 35 no_equates (routine 34 (codes "p") (codes "p") kind.Procedure [] (typed 16 ((codes "f") ∷ [])
    (a_routine_type 15 kind.Iterator (type_and (a_simple_type 12 simple.Int) no_types) (type_and (a_simple_type 13 simple.Int) no_types)
    no_exceptions) ∷ []) (type_and (a_simple_type 17 simple.Int) no_types) no_exceptions ([]) no_equates ([]) (statement_and (an_init 21 (a_variable
    (codes "s") (a_simple_type 19 simple.Int)) (a_literal 20 (integer (codes "0")))) (statement_and (a_for 31 (typed 23 ((codes "i") ∷ [])
    (a_simple_type 22 simple.Int) ∷ []) (a_call 26 (a_name 24 (codes "f")) (expression_and (a_literal 25 (integer (codes "5"))) no_expressions))
    (a_body no_equates (statement_and (an_assign 30 ((codes "s") ∷ []) (expression_and (an_infix 29 op.Add (a_name 27 (codes "s")) (a_name 28 (codes
    "i"))) no_expressions)) no_statements))) (statement_and (a_return 33 (expression_and (a_name 32 (codes "s")) no_expressions)) no_statements))))) ∷
    (a_routine 76 no_equates (routine 75 (codes "start_up") (codes "start_up") kind.Procedure [] ([]) no_types no_exceptions ([]) no_equates ([])
    (statement_and (a_call_statement 48 (a_call 47 (an_operation 37 (a_named_type 36 (codes "stream") no_constants) (codes "putl")) (expression_and
    (a_call 40 (an_operation 39 (a_named_type 38 (codes "stream") no_constants) (codes "primary_output")) no_expressions) (expression_and (a_call 46
    (an_operation 42 (a_simple_type 41 simple.Int) (codes "unparse")) (expression_and (a_call 45 (a_name 43 (codes "p")) (expression_and (a_name 44
    (codes "it")) no_expressions)) no_expressions)) no_expressions)))) (statement_and (an_init 56 (a_variable (codes "f") (a_routine_type 53
    kind.Iterator (type_and (a_simple_type 49 simple.Int) (type_and (a_simple_type 50 simple.Int) no_types)) (type_and (a_simple_type 51 simple.Int)
    no_types) no_exceptions)) (an_operation 55 (a_simple_type 54 simple.Int) (codes "from_to"))) (statement_and (a_for 74 (typed 58 ((codes "i") ∷ [])
    (a_simple_type 57 simple.Int) ∷ []) (a_call 62 (a_name 59 (codes "f")) (expression_and (a_literal 60 (integer (codes "1"))) (expression_and
    (a_literal 61 (integer (codes "2"))) no_expressions))) (a_body no_equates (statement_and (a_call_statement 73 (a_call 72 (an_operation 64
    (a_named_type 63 (codes "stream") no_constants) (codes "putl")) (expression_and (a_call 67 (an_operation 66 (a_named_type 65 (codes "stream")
    no_constants) (codes "primary_output")) no_expressions) (expression_and (a_call 71 (an_operation 69 (a_simple_type 68 simple.Int) (codes
    "unparse")) (expression_and (a_name 70 (codes "i")) no_expressions)) no_expressions)))) no_statements))) no_statements))))) ∷ [])

abbrev an_iterator_as_an_object_declared : List Declared
an_iterator_as_an_object_declared =
    (d (codes "n") 1 2 10 (Some 0) ∷ d (codes "it") 10 0 4294967295 None ∷ d (codes "f") 16 17 34 (Some 0) ∷ d (codes "s") 21 22 34 (Some 0) ∷ d
    (codes "i") 23 27 30 (Some 0) ∷ d (codes "p") 34 0 4294967295 None ∷ d (codes "f") 56 57 75 (Some 0) ∷ d (codes "i") 58 63 73 (Some 0) ∷ d (codes
    "start_up") 75 0 4294967295 None ∷ [])

an_iterator_as_an_object : Runs an_iterator_as_an_object_declared an_iterator_as_an_object_modules (codes "") 10000 returned_normally (49 ∷ 49 ∷ 10 ∷ 49 ∷ 10 ∷ 50 ∷ 10 ∷ []) 12 344
unfolding executing computing digits
an_iterator_as_an_object = refl

-- % an iterator does not see an exit
-- it = iter () yields (int) begin yield (1) yield (2) end except when done: stream$putl(stream$primary_output(), "!") others: stream$putl(stream$primary_output(), "!!") end stream$putl(stream$primary_output(), "!!!") end it
-- start_up = proc () for x: int in it() do if x = 2 then exit done end stream$putl(stream$primary_output(), int$unparse(x)) end except when done: stream$putl(stream$primary_output(), "done") end end start_up
abbrev an_iterator_does_not_see_an_exit_modules : List Module
an_iterator_does_not_see_an_exit_modules =
    ((a_routine 35 no_equates (routine 34 (codes "it") (codes "it") kind.Iterator [] ([]) (type_and (a_simple_type 0 simple.Int) no_types)
    no_exceptions ([]) no_equates ([]) (statement_and (an_except 25 (a_begin 6 (a_body no_equates (statement_and (a_yield 3 (expression_and (a_literal
    2 (integer (codes "1"))) no_expressions)) (statement_and (a_yield 5 (expression_and (a_literal 4 (integer (codes "2"))) no_expressions))
    no_statements)))) (when_and 15 ((codes "done") ∷ []) (objects []) (a_body no_equates (statement_and (a_call_statement 14 (a_call 13 (an_operation
    8 (a_named_type 7 (codes "stream") no_constants) (codes "putl")) (expression_and (a_call 11 (an_operation 10 (a_named_type 9 (codes "stream")
    no_constants) (codes "primary_output")) no_expressions) (expression_and (a_literal 12 (string (34 ∷ 33 ∷ 34 ∷ []))) no_expressions))))
    no_statements)) no_whens) (others 24 None (a_body no_equates (statement_and (a_call_statement 23 (a_call 22 (an_operation 17 (a_named_type 16
    (codes "stream") no_constants) (codes "putl")) (expression_and (a_call 20 (an_operation 19 (a_named_type 18 (codes "stream") no_constants) (codes
    "primary_output")) no_expressions) (expression_and (a_literal 21 (string (34 ∷ 33 ∷ 33 ∷ 34 ∷ []))) no_expressions)))) no_statements))))
    (statement_and (a_call_statement 33 (a_call 32 (an_operation 27 (a_named_type 26 (codes "stream") no_constants) (codes "putl")) (expression_and
    (a_call 30 (an_operation 29 (a_named_type 28 (codes "stream") no_constants) (codes "primary_output")) no_expressions) (expression_and (a_literal
    31 (string (34 ∷ 33 ∷ 33 ∷ 33 ∷ 34 ∷ []))) no_expressions)))) no_statements)))) ∷ (a_routine 68 no_equates (routine 67 (codes "start_up") (codes
    "start_up") kind.Procedure [] ([]) no_types no_exceptions ([]) no_equates ([]) (statement_and (an_except 66 (a_for 56 (typed 37 ((codes "x") ∷ [])
    (a_simple_type 36 simple.Int) ∷ []) (a_call 39 (a_name 38 (codes "it")) no_expressions) (a_body no_equates (statement_and (an_if 44 (clause_and
    (an_infix 42 op.Equal (a_name 40 (codes "x")) (a_literal 41 (integer (codes "2")))) (a_body no_equates (statement_and (an_exit 43 (codes "done")
    no_expressions) no_statements)) no_clauses) nothing_else) (statement_and (a_call_statement 55 (a_call 54 (an_operation 46 (a_named_type 45 (codes
    "stream") no_constants) (codes "putl")) (expression_and (a_call 49 (an_operation 48 (a_named_type 47 (codes "stream") no_constants) (codes
    "primary_output")) no_expressions) (expression_and (a_call 53 (an_operation 51 (a_simple_type 50 simple.Int) (codes "unparse")) (expression_and
    (a_name 52 (codes "x")) no_expressions)) no_expressions)))) no_statements)))) (when_and 65 ((codes "done") ∷ []) (objects []) (a_body no_equates
    (statement_and (a_call_statement 64 (a_call 63 (an_operation 58 (a_named_type 57 (codes "stream") no_constants) (codes "putl")) (expression_and
    (a_call 61 (an_operation 60 (a_named_type 59 (codes "stream") no_constants) (codes "primary_output")) no_expressions) (expression_and (a_literal
    62 (string (34 ∷ 100 ∷ 111 ∷ 110 ∷ 101 ∷ 34 ∷ []))) no_expressions)))) no_statements)) no_whens) no_others) no_statements))) ∷ [])

abbrev an_iterator_does_not_see_an_exit_declared : List Declared
an_iterator_does_not_see_an_exit_declared =
    (d (codes "it") 34 0 4294967295 None ∷ d (codes "x") 37 40 55 (Some 0) ∷ d (codes "start_up") 67 0 4294967295 None ∷ [])

an_iterator_does_not_see_an_exit : Runs an_iterator_does_not_see_an_exit_declared an_iterator_does_not_see_an_exit_modules (codes "") 10000 returned_normally (49 ∷ 10 ∷ 100 ∷ 111 ∷ 110 ∷ 101 ∷ 10 ∷ []) 4 250
unfolding executing computing digits
an_iterator_does_not_see_an_exit = refl

-- % a return through nested iterators
-- count = iter (a, b: int) yields (int) i: int := a while i <= b do yield (i) i := i + 1 end stream$putl(stream$primary_output(), "!") end count
-- twice = iter (n: int) yields (int) for i: int in count(1, n) do yield (i) yield (i) end stream$putl(stream$primary_output(), "!!") end twice
-- p = proc () returns (int) s: int := 0 for i: int in twice(9) do for j: int in count(i, 9) do s := s + j if s > 20 then return (s) end end
-- if i = 9 then return (0) end end return (-1) end p
-- start_up = proc () stream$putl(stream$primary_output(), int$unparse(p())) end start_up
abbrev a_return_through_nested_iterators_modules : List Module
a_return_through_nested_iterators_modules =
    ((a_routine 26 no_equates (routine 25 (codes "count") (codes "count") kind.Iterator [] (typed 1 ((codes "a") ∷ (codes "b") ∷ []) (a_simple_type 0
    simple.Int) ∷ []) (type_and (a_simple_type 2 simple.Int) no_types) no_exceptions ([]) no_equates ([]) (statement_and (an_init 6 (a_variable (codes
    "i") (a_simple_type 4 simple.Int)) (a_name 5 (codes "a"))) (statement_and (a_while 16 (an_infix 9 op.AtMost (a_name 7 (codes "i")) (a_name 8
    (codes "b"))) (a_body no_equates (statement_and (a_yield 11 (expression_and (a_name 10 (codes "i")) no_expressions)) (statement_and (an_assign 15
    ((codes "i") ∷ []) (expression_and (an_infix 14 op.Add (a_name 12 (codes "i")) (a_literal 13 (integer (codes "1")))) no_expressions))
    no_statements)))) (statement_and (a_call_statement 24 (a_call 23 (an_operation 18 (a_named_type 17 (codes "stream") no_constants) (codes "putl"))
    (expression_and (a_call 21 (an_operation 20 (a_named_type 19 (codes "stream") no_constants) (codes "primary_output")) no_expressions)
    (expression_and (a_literal 22 (string (34 ∷ 33 ∷ 34 ∷ []))) no_expressions)))) no_statements))))) ∷ (a_routine 51 no_equates (routine 50 (codes
    "twice") (codes "twice") kind.Iterator [] (typed 28 ((codes "n") ∷ []) (a_simple_type 27 simple.Int) ∷ []) (type_and (a_simple_type 29 simple.Int)
    no_types) no_exceptions ([]) no_equates ([]) (statement_and (a_for 41 (typed 32 ((codes "i") ∷ []) (a_simple_type 31 simple.Int) ∷ []) (a_call 36
    (a_name 33 (codes "count")) (expression_and (a_literal 34 (integer (codes "1"))) (expression_and (a_name 35 (codes "n")) no_expressions))) (a_body
    no_equates (statement_and (a_yield 38 (expression_and (a_name 37 (codes "i")) no_expressions)) (statement_and (a_yield 40 (expression_and (a_name
    39 (codes "i")) no_expressions)) no_statements)))) (statement_and (a_call_statement 49 (a_call 48 (an_operation 43 (a_named_type 42 (codes
    "stream") no_constants) (codes "putl")) (expression_and (a_call 46 (an_operation 45 (a_named_type 44 (codes "stream") no_constants) (codes
    "primary_output")) no_expressions) (expression_and (a_literal 47 (string (34 ∷ 33 ∷ 33 ∷ 34 ∷ []))) no_expressions)))) no_statements)))) ∷
    (a_routine 90 no_equates (routine 89 (codes "p") (codes "p") kind.Procedure [] ([]) (type_and (a_simple_type 52 simple.Int) no_types)
    no_exceptions ([]) no_equates ([]) (statement_and (an_init 56 (a_variable (codes "s") (a_simple_type 54 simple.Int)) (a_literal 55 (integer (codes
    "0")))) (statement_and (a_for 85 (typed 58 ((codes "i") ∷ []) (a_simple_type 57 simple.Int) ∷ []) (a_call 61 (a_name 59 (codes "twice"))
    (expression_and (a_literal 60 (integer (codes "9"))) no_expressions)) (a_body no_equates (statement_and (a_for 78 (typed 63 ((codes "j") ∷ [])
    (a_simple_type 62 simple.Int) ∷ []) (a_call 67 (a_name 64 (codes "count")) (expression_and (a_name 65 (codes "i")) (expression_and (a_literal 66
    (integer (codes "9"))) no_expressions))) (a_body no_equates (statement_and (an_assign 71 ((codes "s") ∷ []) (expression_and (an_infix 70 op.Add
    (a_name 68 (codes "s")) (a_name 69 (codes "j"))) no_expressions)) (statement_and (an_if 77 (clause_and (an_infix 74 op.Greater (a_name 72 (codes
    "s")) (a_literal 73 (integer (codes "20")))) (a_body no_equates (statement_and (a_return 76 (expression_and (a_name 75 (codes "s"))
    no_expressions)) no_statements)) no_clauses) nothing_else) no_statements)))) (statement_and (an_if 84 (clause_and (an_infix 81 op.Equal (a_name 79
    (codes "i")) (a_literal 80 (integer (codes "9")))) (a_body no_equates (statement_and (a_return 83 (expression_and (a_literal 82 (integer (codes
    "0"))) no_expressions)) no_statements)) no_clauses) nothing_else) no_statements)))) (statement_and (a_return 88 (expression_and (a_prefix 87
    sign.Minus (a_literal 86 (integer (codes "1")))) no_expressions)) no_statements))))) ∷ (a_routine 104 no_equates (routine 103 (codes "start_up")
    (codes "start_up") kind.Procedure [] ([]) no_types no_exceptions ([]) no_equates ([]) (statement_and (a_call_statement 102 (a_call 101
    (an_operation 92 (a_named_type 91 (codes "stream") no_constants) (codes "putl")) (expression_and (a_call 95 (an_operation 94 (a_named_type 93
    (codes "stream") no_constants) (codes "primary_output")) no_expressions) (expression_and (a_call 100 (an_operation 97 (a_simple_type 96
    simple.Int) (codes "unparse")) (expression_and (a_call 99 (a_name 98 (codes "p")) no_expressions) no_expressions)) no_expressions))))
    no_statements))) ∷ [])

abbrev a_return_through_nested_iterators_declared : List Declared
a_return_through_nested_iterators_declared =
    (d (codes "a") 1 2 25 (Some 0) ∷ d (codes "b") 1 2 25 (Some 0) ∷ d (codes "i") 6 7 25 (Some 0) ∷ d (codes "count") 25 0 4294967295 None ∷ d (codes
    "n") 28 29 50 (Some 0) ∷ d (codes "i") 32 37 40 (Some 0) ∷ d (codes "twice") 50 0 4294967295 None ∷ d (codes "s") 56 57 89 (Some 0) ∷ d (codes
    "i") 58 62 84 (Some 0) ∷ d (codes "j") 63 68 77 (Some 0) ∷ d (codes "p") 89 0 4294967295 None ∷ d (codes "start_up") 103 0 4294967295 None ∷ [])

a_return_through_nested_iterators : Runs a_return_through_nested_iterators_declared a_return_through_nested_iterators_modules (codes "") 10000 returned_normally (50 ∷ 49 ∷ 10 ∷ []) 4 460
unfolding executing computing digits
a_return_through_nested_iterators = refl

-- % a failure passes others of the iterator
-- it = iter () yields (int) begin yield (1) end except others (s: string): stream$putl(stream$primary_output(), "it " || s) end end it
-- p = proc () for x: int in it() do signal failure("from the body") end end p
-- start_up = proc () p() except when failure (s: string): stream$putl(stream$primary_output(), s) end end start_up
abbrev a_failure_passes_others_of_the_iterator_modules : List Module
a_failure_passes_others_of_the_iterator_modules =
    ((a_routine 19 no_equates (routine 18 (codes "it") (codes "it") kind.Iterator [] ([]) (type_and (a_simple_type 0 simple.Int) no_types)
    no_exceptions ([]) no_equates ([]) (statement_and (an_except 17 (a_begin 4 (a_body no_equates (statement_and (a_yield 3 (expression_and (a_literal
    2 (integer (codes "1"))) no_expressions)) no_statements))) no_whens (others 16 (Some (a_variable (codes "s") (a_simple_type 5 simple.String)))
    (a_body no_equates (statement_and (a_call_statement 15 (a_call 14 (an_operation 7 (a_named_type 6 (codes "stream") no_constants) (codes "putl"))
    (expression_and (a_call 10 (an_operation 9 (a_named_type 8 (codes "stream") no_constants) (codes "primary_output")) no_expressions)
    (expression_and (an_infix 13 op.Concatenate (a_literal 11 (string (34 ∷ 105 ∷ 116 ∷ 32 ∷ 34 ∷ []))) (a_name 12 (codes "s"))) no_expressions))))
    no_statements)))) no_statements))) ∷ (a_routine 28 no_equates (routine 27 (codes "p") (codes "p") kind.Procedure [] ([]) no_types no_exceptions
    ([]) no_equates ([]) (statement_and (a_for 26 (typed 21 ((codes "x") ∷ []) (a_simple_type 20 simple.Int) ∷ []) (a_call 23 (a_name 22 (codes "it"))
    no_expressions) (a_body no_equates (statement_and (a_signal 25 (codes "failure") (expression_and (a_literal 24 (string (34 ∷ 102 ∷ 114 ∷ 111 ∷ 109
    ∷ 32 ∷ 116 ∷ 104 ∷ 101 ∷ 32 ∷ 98 ∷ 111 ∷ 100 ∷ 121 ∷ 34 ∷ []))) no_expressions)) no_statements))) no_statements))) ∷ (a_routine 45 no_equates
    (routine 44 (codes "start_up") (codes "start_up") kind.Procedure [] ([]) no_types no_exceptions ([]) no_equates ([]) (statement_and (an_except 43
    (a_call_statement 31 (a_call 30 (a_name 29 (codes "p")) no_expressions)) (when_and 42 ((codes "failure") ∷ []) (objects (typed 33 ((codes "s") ∷
    []) (a_simple_type 32 simple.String) ∷ [])) (a_body no_equates (statement_and (a_call_statement 41 (a_call 40 (an_operation 35 (a_named_type 34
    (codes "stream") no_constants) (codes "putl")) (expression_and (a_call 38 (an_operation 37 (a_named_type 36 (codes "stream") no_constants) (codes
    "primary_output")) no_expressions) (expression_and (a_name 39 (codes "s")) no_expressions)))) no_statements)) no_whens) no_others)
    no_statements))) ∷ [])

abbrev a_failure_passes_others_of_the_iterator_declared : List Declared
a_failure_passes_others_of_the_iterator_declared =
    (d (codes "s") 16 6 15 (Some 0) ∷ d (codes "it") 18 0 4294967295 None ∷ d (codes "x") 21 24 25 (Some 0) ∷ d (codes "p") 27 0 4294967295 None ∷ d
    (codes "s") 33 34 41 (Some 0) ∷ d (codes "start_up") 44 0 4294967295 None ∷ [])

a_failure_passes_others_of_the_iterator : Runs a_failure_passes_others_of_the_iterator_declared a_failure_passes_others_of_the_iterator_modules (codes "") 10000 returned_normally (102 ∷ 114 ∷ 111 ∷ 109 ∷ 32 ∷ 116 ∷ 104 ∷ 101 ∷ 32 ∷ 98 ∷ 111 ∷ 100 ∷ 121 ∷ 10 ∷ []) 0 220
unfolding executing computing digits
a_failure_passes_others_of_the_iterator = refl

-- % the state of loops side by side
-- gen = iter (n: int) yields (int) own total: int := 0 for i: int in int$from_to(1, n) do total := total + i yield (total) end end gen
-- start_up = proc () for a: int in gen(2) do for b: int in gen(2) do stream$puts(stream$primary_output(), int$unparse(a)) stream$puts(stream$primary_output(), " ") stream$puts(stream$primary_output(), int$unparse(b)) stream$puts(stream$primary_output(), ";") end end stream$putl(stream$primary_output(), "") end start_up
abbrev the_state_of_loops_side_by_side_modules : List Module
the_state_of_loops_side_by_side_modules =
    ((a_routine 22 no_equates (routine 21 (codes "gen") (codes "gen") kind.Iterator [] (typed 1 ((codes "n") ∷ []) (a_simple_type 0 simple.Int) ∷ [])
    (type_and (a_simple_type 2 simple.Int) no_types) no_exceptions ([]) no_equates ((own_init 6 (a_variable (codes "total") (a_simple_type 4
    simple.Int)) (a_literal 5 (integer (codes "0")))) ∷ []) (statement_and (a_for 20 (typed 8 ((codes "i") ∷ []) (a_simple_type 7 simple.Int) ∷ [])
    (a_call 13 (an_operation 10 (a_simple_type 9 simple.Int) (codes "from_to")) (expression_and (a_literal 11 (integer (codes "1"))) (expression_and
    (a_name 12 (codes "n")) no_expressions))) (a_body no_equates (statement_and (an_assign 17 ((codes "total") ∷ []) (expression_and (an_infix 16
    op.Add (a_name 14 (codes "total")) (a_name 15 (codes "i"))) no_expressions)) (statement_and (a_yield 19 (expression_and (a_name 18 (codes
    "total")) no_expressions)) no_statements)))) no_statements))) ∷ (a_routine 82 no_equates (routine 81 (codes "start_up") (codes "start_up")
    kind.Procedure [] ([]) no_types no_exceptions ([]) no_equates ([]) (statement_and (a_for 72 (typed 24 ((codes "a") ∷ []) (a_simple_type 23
    simple.Int) ∷ []) (a_call 27 (a_name 25 (codes "gen")) (expression_and (a_literal 26 (integer (codes "2"))) no_expressions)) (a_body no_equates
    (statement_and (a_for 71 (typed 29 ((codes "b") ∷ []) (a_simple_type 28 simple.Int) ∷ []) (a_call 32 (a_name 30 (codes "gen")) (expression_and
    (a_literal 31 (integer (codes "2"))) no_expressions)) (a_body no_equates (statement_and (a_call_statement 43 (a_call 42 (an_operation 34
    (a_named_type 33 (codes "stream") no_constants) (codes "puts")) (expression_and (a_call 37 (an_operation 36 (a_named_type 35 (codes "stream")
    no_constants) (codes "primary_output")) no_expressions) (expression_and (a_call 41 (an_operation 39 (a_simple_type 38 simple.Int) (codes
    "unparse")) (expression_and (a_name 40 (codes "a")) no_expressions)) no_expressions)))) (statement_and (a_call_statement 51 (a_call 50
    (an_operation 45 (a_named_type 44 (codes "stream") no_constants) (codes "puts")) (expression_and (a_call 48 (an_operation 47 (a_named_type 46
    (codes "stream") no_constants) (codes "primary_output")) no_expressions) (expression_and (a_literal 49 (string (34 ∷ 32 ∷ 34 ∷ [])))
    no_expressions)))) (statement_and (a_call_statement 62 (a_call 61 (an_operation 53 (a_named_type 52 (codes "stream") no_constants) (codes "puts"))
    (expression_and (a_call 56 (an_operation 55 (a_named_type 54 (codes "stream") no_constants) (codes "primary_output")) no_expressions)
    (expression_and (a_call 60 (an_operation 58 (a_simple_type 57 simple.Int) (codes "unparse")) (expression_and (a_name 59 (codes "b"))
    no_expressions)) no_expressions)))) (statement_and (a_call_statement 70 (a_call 69 (an_operation 64 (a_named_type 63 (codes "stream")
    no_constants) (codes "puts")) (expression_and (a_call 67 (an_operation 66 (a_named_type 65 (codes "stream") no_constants) (codes
    "primary_output")) no_expressions) (expression_and (a_literal 68 (string (34 ∷ 59 ∷ 34 ∷ []))) no_expressions)))) no_statements))))))
    no_statements))) (statement_and (a_call_statement 80 (a_call 79 (an_operation 74 (a_named_type 73 (codes "stream") no_constants) (codes "putl"))
    (expression_and (a_call 77 (an_operation 76 (a_named_type 75 (codes "stream") no_constants) (codes "primary_output")) no_expressions)
    (expression_and (a_literal 78 (string (34 ∷ 34 ∷ []))) no_expressions)))) no_statements)))) ∷ [])

abbrev the_state_of_loops_side_by_side_declared : List Declared
the_state_of_loops_side_by_side_declared =
    (d (codes "n") 1 2 21 (Some 0) ∷ d (codes "total") 6 7 21 (Some 0) ∷ d (codes "i") 8 14 19 (Some 0) ∷ d (codes "gen") 21 0 4294967295 None ∷ d
    (codes "a") 24 28 71 (Some 0) ∷ d (codes "b") 29 33 70 (Some 0) ∷ d (codes "start_up") 81 0 4294967295 None ∷ [])

the_state_of_loops_side_by_side : Runs the_state_of_loops_side_by_side_declared the_state_of_loops_side_by_side_modules (codes "") 10000 returned_normally (49 ∷ 32 ∷ 50 ∷ 59 ∷ 49 ∷ 32 ∷ 52 ∷ 59 ∷ 54 ∷ 32 ∷ 55 ∷ 59 ∷ 54 ∷ 32 ∷ 57 ∷ 59 ∷ 10 ∷ []) 32 720
unfolding executing computing digits
the_state_of_loops_side_by_side = refl

-- % an iterator that handles no exception
-- it = iter () yields (int) yield (1) yield (1 / 0) end it
-- start_up = proc ()
--   for x: int in it() do stream$puts(stream$primary_output(), int$unparse(x)) end
--   except when zero_divide: stream$puts(stream$primary_output(), "no")
--          when failure (s: string): stream$puts(stream$primary_output(), s) end
-- end start_up
abbrev an_iterator_that_handles_no_exception_modules : List Module
an_iterator_that_handles_no_exception_modules =
    ((a_routine 9 no_equates (routine 8 (codes "it") (codes "it") kind.Iterator [] ([]) (type_and (a_simple_type 0 simple.Int) no_types) no_exceptions
    ([]) no_equates ([]) (statement_and (a_yield 3 (expression_and (a_literal 2 (integer (codes "1"))) no_expressions)) (statement_and (a_yield 7
    (expression_and (an_infix 6 op.Divide (a_literal 4 (integer (codes "1"))) (a_literal 5 (integer (codes "0")))) no_expressions)) no_statements))))
    ∷ (a_routine 48 no_equates (routine 47 (codes "start_up") (codes "start_up") kind.Procedure [] ([]) no_types no_exceptions ([]) no_equates ([])
    (statement_and (an_except 46 (a_for 25 (typed 11 ((codes "x") ∷ []) (a_simple_type 10 simple.Int) ∷ []) (a_call 13 (a_name 12 (codes "it"))
    no_expressions) (a_body no_equates (statement_and (a_call_statement 24 (a_call 23 (an_operation 15 (a_named_type 14 (codes "stream") no_constants)
    (codes "puts")) (expression_and (a_call 18 (an_operation 17 (a_named_type 16 (codes "stream") no_constants) (codes "primary_output"))
    no_expressions) (expression_and (a_call 22 (an_operation 20 (a_simple_type 19 simple.Int) (codes "unparse")) (expression_and (a_name 21 (codes
    "x")) no_expressions)) no_expressions)))) no_statements))) (when_and 34 ((codes "zero_divide") ∷ []) (objects []) (a_body no_equates
    (statement_and (a_call_statement 33 (a_call 32 (an_operation 27 (a_named_type 26 (codes "stream") no_constants) (codes "puts")) (expression_and
    (a_call 30 (an_operation 29 (a_named_type 28 (codes "stream") no_constants) (codes "primary_output")) no_expressions) (expression_and (a_literal
    31 (string (34 ∷ 110 ∷ 111 ∷ 34 ∷ []))) no_expressions)))) no_statements)) (when_and 45 ((codes "failure") ∷ []) (objects (typed 36 ((codes "s") ∷
    []) (a_simple_type 35 simple.String) ∷ [])) (a_body no_equates (statement_and (a_call_statement 44 (a_call 43 (an_operation 38 (a_named_type 37
    (codes "stream") no_constants) (codes "puts")) (expression_and (a_call 41 (an_operation 40 (a_named_type 39 (codes "stream") no_constants) (codes
    "primary_output")) no_expressions) (expression_and (a_name 42 (codes "s")) no_expressions)))) no_statements)) no_whens)) no_others)
    no_statements))) ∷ [])

abbrev an_iterator_that_handles_no_exception_declared : List Declared
an_iterator_that_handles_no_exception_declared =
    (d (codes "it") 8 0 4294967295 None ∷ d (codes "x") 11 14 24 (Some 0) ∷ d (codes "s") 36 37 44 (Some 0) ∷ d (codes "start_up") 47 0 4294967295
    None ∷ [])

an_iterator_that_handles_no_exception : Runs an_iterator_that_handles_no_exception_declared an_iterator_that_handles_no_exception_modules (codes "") 10000 returned_normally (codes "1unhandled exception: zero_divide") 9 210
unfolding executing computing digits
an_iterator_that_handles_no_exception = refl

an_iterator_that_handles_no_exception_work : Works an_iterator_that_handles_no_exception_declared an_iterator_that_handles_no_exception_modules (codes "") 10000 222
unfolding executing computing digits
an_iterator_that_handles_no_exception_work = refl
