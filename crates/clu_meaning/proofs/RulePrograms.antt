-- Programs that compute: the rules of loops, exceptions and own variables, turns, the trace and work. Each is the tree of the CLU above it.
use Rattle.std.specs.Fmt.{digits}
use Rattle.std.specs.Prelude.{refl, List, [], ◌∷◌, codes, Some, None}
use Rattle.clu_names.specs.declared.scopes.Declared.{Declared}
use Rattle.clu_syntax.specs.declared.words.Operator.TheVariants as op
use Rattle.clu_syntax.specs.declared.words.SimpleType.TheVariants as simple
use Rattle.clu_syntax.specs.declared.words.ListType.TheVariants as list
use Rattle.clu_syntax.specs.declared.words.RoutineKind.TheVariants as kind
use Rattle.clu_syntax.specs.Syntax.{integer, string, an_infix, a_paren, a_literal, a_name, an_index, a_call, an_operation, a_force, no_expressions, expression_and, an_expression, a_type, no_constants, constant_and, a_simple_type, a_list_type, a_routine_type, a_named_type, no_types, type_and, no_exceptions, exception_and, an_equate, no_equates, equate_and, objects, a_declare, an_init, an_assign, a_call_statement, a_while, a_for, an_if, a_return, a_yield, a_signal, a_begin, an_except, no_statements, statement_and, a_body, no_clauses, clause_and, nothing_else, no_whens, when_and, no_others, own_init, has_operations, Module, a_routine, a_cluster}
use Rattle.clu_layout.specs.Computing.{computing}
use Rattle.clu_meaning.specs.Run.{still_running, returned_normally, failure_with}
use Rattle.clu_meaning.specs.Executing.{executing}
use Rattle.clu_meaning.proofs.Running.{d, m, typed, a_variable, parameter, routine, cluster, Ends, Works, Traces}

-- it = iter (a: array[int]) yields (int)
--   yield (1) except when bounds: stream$putl(stream$primary_output(), "iterator") end
-- end it
-- start_up = proc ()
--   a: array[int] := array[int]$new()
--   for x: int in it(a) do y: int := a[x] end
--   except when bounds: stream$putl(stream$primary_output(), "caller") end
-- end start_up
abbrev it_arm_modules : List Module
it_arm_modules =
    ((a_routine 18 no_equates (routine 17 (codes "it") (codes "it") kind.Iterator [] (typed 2 ((codes "a") ∷ []) (a_list_type 1 list.Array
    (a_simple_type 0 simple.Int)) ∷ []) (type_and (a_simple_type 3 simple.Int) no_types) no_exceptions ([]) no_equates ([]) (statement_and (an_except
    16 (a_yield 6 (expression_and (a_literal 5 (integer (codes "1"))) no_expressions)) (when_and 15 ((codes "bounds") ∷ []) (objects []) (a_body
    no_equates (statement_and (a_call_statement 14 (a_call 13 (an_operation 8 (a_named_type 7 (codes "stream") no_constants) (codes "putl"))
    (expression_and (a_call 11 (an_operation 10 (a_named_type 9 (codes "stream") no_constants) (codes "primary_output")) no_expressions)
    (expression_and (a_literal 12 (string (34 ∷ 105 ∷ 116 ∷ 101 ∷ 114 ∷ 97 ∷ 116 ∷ 111 ∷ 114 ∷ 34 ∷ []))) no_expressions)))) no_statements)) no_whens)
    no_others) no_statements))) ∷ (a_routine 48 no_equates (routine 47 (codes "start_up") (codes "start_up") kind.Procedure [] ([]) no_types
    no_exceptions ([]) no_equates ([]) (statement_and (an_init 25 (a_variable (codes "a") (a_list_type 20 list.Array (a_simple_type 19 simple.Int)))
    (a_call 24 (an_operation 23 (a_list_type 22 list.Array (a_simple_type 21 simple.Int)) (codes "new")) no_expressions)) (statement_and (an_except 46
    (a_for 36 (typed 27 ((codes "x") ∷ []) (a_simple_type 26 simple.Int) ∷ []) (a_call 30 (a_name 28 (codes "it")) (expression_and (a_name 29 (codes
    "a")) no_expressions)) (a_body no_equates (statement_and (an_init 35 (a_variable (codes "y") (a_simple_type 31 simple.Int)) (an_index 34 (a_name
    32 (codes "a")) (constant_and (an_expression (a_name 33 (codes "x"))) no_constants))) no_statements))) (when_and 45 ((codes "bounds") ∷ [])
    (objects []) (a_body no_equates (statement_and (a_call_statement 44 (a_call 43 (an_operation 38 (a_named_type 37 (codes "stream") no_constants)
    (codes "putl")) (expression_and (a_call 41 (an_operation 40 (a_named_type 39 (codes "stream") no_constants) (codes "primary_output"))
    no_expressions) (expression_and (a_literal 42 (string (34 ∷ 99 ∷ 97 ∷ 108 ∷ 108 ∷ 101 ∷ 114 ∷ 34 ∷ []))) no_expressions)))) no_statements))
    no_whens) no_others) no_statements)))) ∷ [])

abbrev it_arm_declared : List Declared
it_arm_declared =
    (d (codes "a") 2 3 17 (Some 0) ∷ d (codes "it") 17 0 4294967295 None ∷ d (codes "a") 25 26 47 (Some 0) ∷ d (codes "x") 27 31 35 (Some 0) ∷ d
    (codes "y") 35 36 35 (Some 0) ∷ d (codes "start_up") 47 0 4294967295 None ∷ [])

it_arm : Ends it_arm_declared it_arm_modules (codes "") 10000 returned_normally (99 ∷ 97 ∷ 108 ∷ 108 ∷ 101 ∷ 114 ∷ 10 ∷ [])
unfolding executing computing digits
it_arm = refl

-- find = proc (k: int) returns (int)
--   for i: int in int$from_to(1, 9) do
--     for j: int in int$from_to(1, 9) do
--       if i * j = k then return (10 * i + j) end
--     end
--   end
--   return (0)
-- end find
-- start_up = proc () stream$putl(stream$primary_output(), int$unparse(find(12))) stream$putl(stream$primary_output(), int$unparse(find(11))) end start_up
abbrev find_modules : List Module
find_modules =
    ((a_routine 35 no_equates (routine 34 (codes "find") (codes "find") kind.Procedure [] (typed 1 ((codes "k") ∷ []) (a_simple_type 0 simple.Int) ∷
    []) (type_and (a_simple_type 2 simple.Int) no_types) no_exceptions ([]) no_equates ([]) (statement_and (a_for 31 (typed 5 ((codes "i") ∷ [])
    (a_simple_type 4 simple.Int) ∷ []) (a_call 10 (an_operation 7 (a_simple_type 6 simple.Int) (codes "from_to")) (expression_and (a_literal 8
    (integer (codes "1"))) (expression_and (a_literal 9 (integer (codes "9"))) no_expressions))) (a_body no_equates (statement_and (a_for 30 (typed 12
    ((codes "j") ∷ []) (a_simple_type 11 simple.Int) ∷ []) (a_call 17 (an_operation 14 (a_simple_type 13 simple.Int) (codes "from_to"))
    (expression_and (a_literal 15 (integer (codes "1"))) (expression_and (a_literal 16 (integer (codes "9"))) no_expressions))) (a_body no_equates
    (statement_and (an_if 29 (clause_and (an_infix 22 op.Equal (an_infix 20 op.Multiply (a_name 18 (codes "i")) (a_name 19 (codes "j"))) (a_name 21
    (codes "k"))) (a_body no_equates (statement_and (a_return 28 (expression_and (an_infix 27 op.Add (an_infix 25 op.Multiply (a_literal 23 (integer
    (codes "10"))) (a_name 24 (codes "i"))) (a_name 26 (codes "j"))) no_expressions)) no_statements)) no_clauses) nothing_else) no_statements)))
    no_statements))) (statement_and (a_return 33 (expression_and (a_literal 32 (integer (codes "0"))) no_expressions)) no_statements)))) ∷ (a_routine
    63 no_equates (routine 62 (codes "start_up") (codes "start_up") kind.Procedure [] ([]) no_types no_exceptions ([]) no_equates ([]) (statement_and
    (a_call_statement 48 (a_call 47 (an_operation 37 (a_named_type 36 (codes "stream") no_constants) (codes "putl")) (expression_and (a_call 40
    (an_operation 39 (a_named_type 38 (codes "stream") no_constants) (codes "primary_output")) no_expressions) (expression_and (a_call 46
    (an_operation 42 (a_simple_type 41 simple.Int) (codes "unparse")) (expression_and (a_call 45 (a_name 43 (codes "find")) (expression_and (a_literal
    44 (integer (codes "12"))) no_expressions)) no_expressions)) no_expressions)))) (statement_and (a_call_statement 61 (a_call 60 (an_operation 50
    (a_named_type 49 (codes "stream") no_constants) (codes "putl")) (expression_and (a_call 53 (an_operation 52 (a_named_type 51 (codes "stream")
    no_constants) (codes "primary_output")) no_expressions) (expression_and (a_call 59 (an_operation 55 (a_simple_type 54 simple.Int) (codes
    "unparse")) (expression_and (a_call 58 (a_name 56 (codes "find")) (expression_and (a_literal 57 (integer (codes "11"))) no_expressions))
    no_expressions)) no_expressions)))) no_statements)))) ∷ [])

abbrev find_declared : List Declared
find_declared =
    (d (codes "k") 1 2 34 (Some 0) ∷ d (codes "i") 5 11 30 (Some 0) ∷ d (codes "j") 12 18 29 (Some 0) ∷ d (codes "find") 34 0 4294967295 None ∷ d
    (codes "start_up") 62 0 4294967295 None ∷ [])

find : Ends find_declared find_modules (codes "") 10000 returned_normally (50 ∷ 54 ∷ 10 ∷ 48 ∷ 10 ∷ [])
unfolding executing computing digits
find = refl

-- p = proc () signals (e) begin signal e end except when e: stream$putl(stream$primary_output(), "inside") end end p
-- start_up = proc () p() except when e: stream$putl(stream$primary_output(), "outside") end end start_up
abbrev signal_modules : List Module
signal_modules =
    ((a_routine 15 no_equates (routine 14 (codes "p") (codes "p") kind.Procedure [] ([]) no_types (exception_and 0 (codes "e") no_types no_exceptions)
    ([]) no_equates ([]) (statement_and (an_except 13 (a_begin 3 (a_body no_equates (statement_and (a_signal 2 (codes "e") no_expressions)
    no_statements))) (when_and 12 ((codes "e") ∷ []) (objects []) (a_body no_equates (statement_and (a_call_statement 11 (a_call 10 (an_operation 5
    (a_named_type 4 (codes "stream") no_constants) (codes "putl")) (expression_and (a_call 8 (an_operation 7 (a_named_type 6 (codes "stream")
    no_constants) (codes "primary_output")) no_expressions) (expression_and (a_literal 9 (string (34 ∷ 105 ∷ 110 ∷ 115 ∷ 105 ∷ 100 ∷ 101 ∷ 34 ∷ [])))
    no_expressions)))) no_statements)) no_whens) no_others) no_statements))) ∷ (a_routine 30 no_equates (routine 29 (codes "start_up") (codes
    "start_up") kind.Procedure [] ([]) no_types no_exceptions ([]) no_equates ([]) (statement_and (an_except 28 (a_call_statement 18 (a_call 17
    (a_name 16 (codes "p")) no_expressions)) (when_and 27 ((codes "e") ∷ []) (objects []) (a_body no_equates (statement_and (a_call_statement 26
    (a_call 25 (an_operation 20 (a_named_type 19 (codes "stream") no_constants) (codes "putl")) (expression_and (a_call 23 (an_operation 22
    (a_named_type 21 (codes "stream") no_constants) (codes "primary_output")) no_expressions) (expression_and (a_literal 24 (string (34 ∷ 111 ∷ 117 ∷
    116 ∷ 115 ∷ 105 ∷ 100 ∷ 101 ∷ 34 ∷ []))) no_expressions)))) no_statements)) no_whens) no_others) no_statements))) ∷ [])

abbrev signal_declared : List Declared
signal_declared =
    (d (codes "p") 14 0 4294967295 None ∷ d (codes "start_up") 29 0 4294967295 None ∷ [])

signal : Ends signal_declared signal_modules (codes "") 10000 returned_normally (111 ∷ 117 ∷ 116 ∷ 115 ∷ 105 ∷ 100 ∷ 101 ∷ 10 ∷ [])
unfolding executing computing digits
signal = refl

-- tally = cluster [t: type] is note where t has equal: proctype (t, t) returns (bool)
--   rep = null
--   own n: int := 0
--   note = proc (a, b: t) returns (int)
--     if a = b then n := n + 1 end
--     return (n)
--   end note
-- end tally
-- start_up = proc ()
--   i: int := tally[int]$note(1, 1)
--   i := tally[int]$note(2, 2)
--   s: int := tally[string]$note("a", "a")
--   stream$putl(stream$primary_output(), int$unparse(i)) stream$putl(stream$primary_output(), int$unparse(s))
-- end start_up
abbrev tally_modules : List Module
tally_modules =
    ((a_cluster 30 no_equates (cluster 29 (codes "tally") (codes "tally") (parameter 0 ((codes "t") ∷ []) None ∷ []) ((codes "note") ∷ [])
    ((has_operations 7 (codes "t") (typed 6 ((codes "equal") ∷ []) (a_routine_type 5 kind.Procedure (type_and (a_named_type 1 (codes "t")
    no_constants) (type_and (a_named_type 2 (codes "t") no_constants) no_types)) (type_and (a_simple_type 3 simple.Bool) no_types) no_exceptions) ∷
    [])) ∷ []) (equate_and (an_equate 10 None (a_type (a_simple_type 9 simple.Null))) no_equates) ((own_init 13 (a_variable (codes "n") (a_simple_type
    11 simple.Int)) (a_literal 12 (integer (codes "0")))) ∷ []) ((routine 28 (codes "note") (codes "note") kind.Procedure [] (typed 15 ((codes "a") ∷
    (codes "b") ∷ []) (a_named_type 14 (codes "t") no_constants) ∷ []) (type_and (a_simple_type 16 simple.Int) no_types) no_exceptions ([]) no_equates
    ([]) (statement_and (an_if 25 (clause_and (an_infix 20 op.Equal (a_name 18 (codes "a")) (a_name 19 (codes "b"))) (a_body no_equates (statement_and
    (an_assign 24 ((codes "n") ∷ []) (expression_and (an_infix 23 op.Add (a_name 21 (codes "n")) (a_literal 22 (integer (codes "1"))))
    no_expressions)) no_statements)) no_clauses) nothing_else) (statement_and (a_return 27 (expression_and (a_name 26 (codes "n")) no_expressions))
    no_statements))) ∷ []))) ∷ (a_routine 77 no_equates (routine 76 (codes "start_up") (codes "start_up") kind.Procedure [] ([]) no_types
    no_exceptions ([]) no_equates ([]) (statement_and (an_init 38 (a_variable (codes "i") (a_simple_type 31 simple.Int)) (a_call 37 (an_operation 34
    (a_named_type 33 (codes "tally") (constant_and (a_type (a_simple_type 32 simple.Int)) no_constants)) (codes "note")) (expression_and (a_literal 35
    (integer (codes "1"))) (expression_and (a_literal 36 (integer (codes "1"))) no_expressions)))) (statement_and (an_assign 45 ((codes "i") ∷ [])
    (expression_and (a_call 44 (an_operation 41 (a_named_type 40 (codes "tally") (constant_and (a_type (a_simple_type 39 simple.Int)) no_constants))
    (codes "note")) (expression_and (a_literal 42 (integer (codes "2"))) (expression_and (a_literal 43 (integer (codes "2"))) no_expressions)))
    no_expressions)) (statement_and (an_init 53 (a_variable (codes "s") (a_simple_type 46 simple.Int)) (a_call 52 (an_operation 49 (a_named_type 48
    (codes "tally") (constant_and (a_type (a_simple_type 47 simple.String)) no_constants)) (codes "note")) (expression_and (a_literal 50 (string (34 ∷
    97 ∷ 34 ∷ []))) (expression_and (a_literal 51 (string (34 ∷ 97 ∷ 34 ∷ []))) no_expressions)))) (statement_and (a_call_statement 64 (a_call 63
    (an_operation 55 (a_named_type 54 (codes "stream") no_constants) (codes "putl")) (expression_and (a_call 58 (an_operation 57 (a_named_type 56
    (codes "stream") no_constants) (codes "primary_output")) no_expressions) (expression_and (a_call 62 (an_operation 60 (a_simple_type 59 simple.Int)
    (codes "unparse")) (expression_and (a_name 61 (codes "i")) no_expressions)) no_expressions)))) (statement_and (a_call_statement 75 (a_call 74
    (an_operation 66 (a_named_type 65 (codes "stream") no_constants) (codes "putl")) (expression_and (a_call 69 (an_operation 68 (a_named_type 67
    (codes "stream") no_constants) (codes "primary_output")) no_expressions) (expression_and (a_call 73 (an_operation 71 (a_simple_type 70 simple.Int)
    (codes "unparse")) (expression_and (a_name 72 (codes "s")) no_expressions)) no_expressions)))) no_statements))))))) ∷ [])

abbrev tally_declared : List Declared
tally_declared =
    (d (codes "t") 0 0 29 (Some 0) ∷ d (codes "rep") 10 0 29 (Some 0) ∷ d (codes "n") 13 14 29 (Some 0) ∷ d (codes "a") 15 16 28 (Some 0) ∷ d (codes
    "b") 15 16 28 (Some 0) ∷ d (codes "note") 28 0 29 (Some 0) ∷ d (codes "tally") 29 0 4294967295 None ∷ d (codes "i") 38 39 76 (Some 0) ∷ d (codes
    "s") 53 54 76 (Some 0) ∷ d (codes "start_up") 76 0 4294967295 None ∷ [])

tally : Ends tally_declared tally_modules (codes "") 10000 returned_normally (50 ∷ 10 ∷ 49 ∷ 10 ∷ [])
unfolding executing computing digits
tally = refl

-- box = cluster is make rep = array[int] make = proc () returns (cvt) return (rep$new()) end make end box
-- start_up = proc ()
--   v: any := box$make()
--   begin a: array[int] := force[array[int]](v) end except when wrong_type: stream$putl(stream$primary_output(), "wrong_type") end
-- end start_up
abbrev box_modules : List Module
box_modules =
    ((a_cluster 11 no_equates (cluster 10 (codes "box") (codes "box") [] ((codes "make") ∷ []) ([]) (equate_and (an_equate 2 None (a_type (a_list_type
    1 list.Array (a_simple_type 0 simple.Int)))) no_equates) ([]) ((routine 9 (codes "make") (codes "make") kind.Procedure [] ([]) (type_and
    (a_simple_type 3 simple.Cvt) no_types) no_exceptions ([]) no_equates ([]) (statement_and (a_return 8 (expression_and (a_call 7 (an_operation 6
    (a_simple_type 5 simple.Rep) (codes "new")) no_expressions) no_expressions)) no_statements)) ∷ []))) ∷ (a_routine 37 no_equates (routine 36 (codes
    "start_up") (codes "start_up") kind.Procedure [] ([]) no_types no_exceptions ([]) no_equates ([]) (statement_and (an_init 16 (a_variable (codes
    "v") (a_simple_type 12 simple.Any)) (a_call 15 (an_operation 14 (a_named_type 13 (codes "box") no_constants) (codes "make")) no_expressions))
    (statement_and (an_except 35 (a_begin 25 (a_body no_equates (statement_and (an_init 24 (a_variable (codes "a") (a_list_type 18 list.Array
    (a_simple_type 17 simple.Int))) (a_call 23 (a_force 21 (a_list_type 20 list.Array (a_simple_type 19 simple.Int))) (expression_and (a_name 22
    (codes "v")) no_expressions))) no_statements))) (when_and 34 ((codes "wrong_type") ∷ []) (objects []) (a_body no_equates (statement_and
    (a_call_statement 33 (a_call 32 (an_operation 27 (a_named_type 26 (codes "stream") no_constants) (codes "putl")) (expression_and (a_call 30
    (an_operation 29 (a_named_type 28 (codes "stream") no_constants) (codes "primary_output")) no_expressions) (expression_and (a_literal 31 (string
    (34 ∷ 119 ∷ 114 ∷ 111 ∷ 110 ∷ 103 ∷ 95 ∷ 116 ∷ 121 ∷ 112 ∷ 101 ∷ 34 ∷ []))) no_expressions)))) no_statements)) no_whens) no_others)
    no_statements)))) ∷ [])

abbrev box_declared : List Declared
box_declared =
    (d (codes "rep") 2 0 10 (Some 0) ∷ d (codes "make") 9 0 10 (Some 0) ∷ d (codes "box") 10 0 4294967295 None ∷ d (codes "v") 16 17 36 (Some 0) ∷ d
    (codes "a") 24 25 24 (Some 0) ∷ d (codes "start_up") 36 0 4294967295 None ∷ [])

box : Ends box_declared box_modules (codes "") 10000 returned_normally (119 ∷ 114 ∷ 111 ∷ 110 ∷ 103 ∷ 95 ∷ 116 ∷ 121 ∷ 112 ∷ 101 ∷ 10 ∷ [])
unfolding executing computing digits
box = refl

-- c = cluster is get rep = null own n: int := c$get() get = proc () returns (int) return (n) end get end c
-- start_up = proc () stream$putl(stream$primary_output(), int$unparse(c$get())) end start_up
abbrev own_uses_itself_modules : List Module
own_uses_itself_modules =
    ((a_cluster 13 no_equates (cluster 12 (codes "c") (codes "c") [] ((codes "get") ∷ []) ([]) (equate_and (an_equate 1 None (a_type (a_simple_type 0
    simple.Null))) no_equates) ((own_init 6 (a_variable (codes "n") (a_simple_type 2 simple.Int)) (a_call 5 (an_operation 4 (a_named_type 3 (codes
    "c") no_constants) (codes "get")) no_expressions)) ∷ []) ((routine 11 (codes "get") (codes "get") kind.Procedure [] ([]) (type_and (a_simple_type
    7 simple.Int) no_types) no_exceptions ([]) no_equates ([]) (statement_and (a_return 10 (expression_and (a_name 9 (codes "n")) no_expressions))
    no_statements)) ∷ []))) ∷ (a_routine 28 no_equates (routine 27 (codes "start_up") (codes "start_up") kind.Procedure [] ([]) no_types no_exceptions
    ([]) no_equates ([]) (statement_and (a_call_statement 26 (a_call 25 (an_operation 15 (a_named_type 14 (codes "stream") no_constants) (codes
    "putl")) (expression_and (a_call 18 (an_operation 17 (a_named_type 16 (codes "stream") no_constants) (codes "primary_output")) no_expressions)
    (expression_and (a_call 24 (an_operation 20 (a_simple_type 19 simple.Int) (codes "unparse")) (expression_and (a_call 23 (an_operation 22
    (a_named_type 21 (codes "c") no_constants) (codes "get")) no_expressions) no_expressions)) no_expressions)))) no_statements))) ∷ [])

abbrev own_uses_itself_declared : List Declared
own_uses_itself_declared =
    (d (codes "rep") 1 0 12 (Some 0) ∷ d (codes "n") 6 7 12 (Some 0) ∷ d (codes "get") 11 0 12 (Some 0) ∷ d (codes "c") 12 0 4294967295 None ∷ d
    (codes "start_up") 27 0 4294967295 None ∷ [])

own_uses_itself : Ends own_uses_itself_declared own_uses_itself_modules (codes "") 10000 (failure_with (codes "uninitialized variable")) (codes "")
unfolding executing computing digits
own_uses_itself = refl

-- start_up = proc ()
--   a: array[int] := array[int]$new()
--   array[int]$addl(a, 7)
--   stream$putl(stream$primary_output(), int$unparse(array[int]$low(a)))
--   stream$putl(stream$primary_output(), int$unparse(a[1])) except when bounds: stream$putl(stream$primary_output(), "bounds") end
-- end start_up
abbrev low_modules : List Module
low_modules =
    ((a_routine 53 no_equates (routine 52 (codes "start_up") (codes "start_up") kind.Procedure [] ([]) no_types no_exceptions ([]) no_equates ([])
    (statement_and (an_init 6 (a_variable (codes "a") (a_list_type 1 list.Array (a_simple_type 0 simple.Int))) (a_call 5 (an_operation 4 (a_list_type
    3 list.Array (a_simple_type 2 simple.Int)) (codes "new")) no_expressions)) (statement_and (a_call_statement 13 (a_call 12 (an_operation 9
    (a_list_type 8 list.Array (a_simple_type 7 simple.Int)) (codes "addl")) (expression_and (a_name 10 (codes "a")) (expression_and (a_literal 11
    (integer (codes "7"))) no_expressions)))) (statement_and (a_call_statement 28 (a_call 27 (an_operation 15 (a_named_type 14 (codes "stream")
    no_constants) (codes "putl")) (expression_and (a_call 18 (an_operation 17 (a_named_type 16 (codes "stream") no_constants) (codes
    "primary_output")) no_expressions) (expression_and (a_call 26 (an_operation 20 (a_simple_type 19 simple.Int) (codes "unparse")) (expression_and
    (a_call 25 (an_operation 23 (a_list_type 22 list.Array (a_simple_type 21 simple.Int)) (codes "low")) (expression_and (a_name 24 (codes "a"))
    no_expressions)) no_expressions)) no_expressions)))) (statement_and (an_except 51 (a_call_statement 41 (a_call 40 (an_operation 30 (a_named_type
    29 (codes "stream") no_constants) (codes "putl")) (expression_and (a_call 33 (an_operation 32 (a_named_type 31 (codes "stream") no_constants)
    (codes "primary_output")) no_expressions) (expression_and (a_call 39 (an_operation 35 (a_simple_type 34 simple.Int) (codes "unparse"))
    (expression_and (an_index 38 (a_name 36 (codes "a")) (constant_and (an_expression (a_literal 37 (integer (codes "1")))) no_constants))
    no_expressions)) no_expressions)))) (when_and 50 ((codes "bounds") ∷ []) (objects []) (a_body no_equates (statement_and (a_call_statement 49
    (a_call 48 (an_operation 43 (a_named_type 42 (codes "stream") no_constants) (codes "putl")) (expression_and (a_call 46 (an_operation 45
    (a_named_type 44 (codes "stream") no_constants) (codes "primary_output")) no_expressions) (expression_and (a_literal 47 (string (34 ∷ 98 ∷ 111 ∷
    117 ∷ 110 ∷ 100 ∷ 115 ∷ 34 ∷ []))) no_expressions)))) no_statements)) no_whens) no_others) no_statements)))))) ∷ [])

abbrev low_declared : List Declared
low_declared =
    (d (codes "a") 6 7 52 (Some 0) ∷ d (codes "start_up") 52 0 4294967295 None ∷ [])

low : Ends low_declared low_modules (codes "") 10000 returned_normally (48 ∷ 10 ∷ 98 ∷ 111 ∷ 117 ∷ 110 ∷ 100 ∷ 115 ∷ 10 ∷ [])
unfolding executing computing digits
low = refl

-- q = proc (x: int) returns (int) return (x / 0) end q
-- it = iter () yields (int) yield (1) end it
-- start_up = proc () for i: int in it() do x: int := q(i) end end start_up
abbrev trace_modules : List Module
trace_modules =
    ((a_routine 9 no_equates (routine 8 (codes "q") (codes "q") kind.Procedure [] (typed 1 ((codes "x") ∷ []) (a_simple_type 0 simple.Int) ∷ [])
    (type_and (a_simple_type 2 simple.Int) no_types) no_exceptions ([]) no_equates ([]) (statement_and (a_return 7 (expression_and (an_infix 6
    op.Divide (a_name 4 (codes "x")) (a_literal 5 (integer (codes "0")))) no_expressions)) no_statements))) ∷ (a_routine 15 no_equates (routine 14
    (codes "it") (codes "it") kind.Iterator [] ([]) (type_and (a_simple_type 10 simple.Int) no_types) no_exceptions ([]) no_equates ([])
    (statement_and (a_yield 13 (expression_and (a_literal 12 (integer (codes "1"))) no_expressions)) no_statements))) ∷ (a_routine 27 no_equates
    (routine 26 (codes "start_up") (codes "start_up") kind.Procedure [] ([]) no_types no_exceptions ([]) no_equates ([]) (statement_and (a_for 25
    (typed 17 ((codes "i") ∷ []) (a_simple_type 16 simple.Int) ∷ []) (a_call 19 (a_name 18 (codes "it")) no_expressions) (a_body no_equates
    (statement_and (an_init 24 (a_variable (codes "x") (a_simple_type 20 simple.Int)) (a_call 23 (a_name 21 (codes "q")) (expression_and (a_name 22
    (codes "i")) no_expressions))) no_statements))) no_statements))) ∷ [])

abbrev trace_declared : List Declared
trace_declared =
    (d (codes "x") 1 2 8 (Some 0) ∷ d (codes "q") 8 0 4294967295 None ∷ d (codes "it") 14 0 4294967295 None ∷ d (codes "i") 17 20 24 (Some 0) ∷ d
    (codes "x") 24 25 24 (Some 0) ∷ d (codes "start_up") 26 0 4294967295 None ∷ [])

trace : Ends trace_declared trace_modules (codes "") 10000 (failure_with (codes "unhandled exception: zero_divide")) (codes "")
unfolding executing computing digits
trace = refl

trace_trace : Traces trace_declared trace_modules (codes "") 10000 (m "q" ∷ m "it" ∷ m "start_up" ∷ [])
unfolding executing computing digits
trace_trace = refl

-- q = proc () signals (e) signal e end q
-- p = proc () q() end p
-- start_up = proc () p() end start_up
abbrev trace_of_signal_modules : List Module
trace_of_signal_modules =
    ((a_routine 4 no_equates (routine 3 (codes "q") (codes "q") kind.Procedure [] ([]) no_types (exception_and 0 (codes "e") no_types no_exceptions)
    ([]) no_equates ([]) (statement_and (a_signal 2 (codes "e") no_expressions) no_statements))) ∷ (a_routine 9 no_equates (routine 8 (codes "p")
    (codes "p") kind.Procedure [] ([]) no_types no_exceptions ([]) no_equates ([]) (statement_and (a_call_statement 7 (a_call 6 (a_name 5 (codes "q"))
    no_expressions)) no_statements))) ∷ (a_routine 14 no_equates (routine 13 (codes "start_up") (codes "start_up") kind.Procedure [] ([]) no_types
    no_exceptions ([]) no_equates ([]) (statement_and (a_call_statement 12 (a_call 11 (a_name 10 (codes "p")) no_expressions)) no_statements))) ∷ [])

abbrev trace_of_signal_declared : List Declared
trace_of_signal_declared =
    (d (codes "q") 3 0 4294967295 None ∷ d (codes "p") 8 0 4294967295 None ∷ d (codes "start_up") 13 0 4294967295 None ∷ [])

trace_of_signal : Ends trace_of_signal_declared trace_of_signal_modules (codes "") 10000 (failure_with (codes "unhandled exception: e")) (codes "")
unfolding executing computing digits
trace_of_signal = refl

trace_of_signal_trace : Traces trace_of_signal_declared trace_of_signal_modules (codes "") 10000 (m "p" ∷ m "start_up" ∷ [])
unfolding executing computing digits
trace_of_signal_trace = refl

-- start_up = proc () signal failure("x") end start_up
abbrev trace_of_failure_modules : List Module
trace_of_failure_modules =
    ((a_routine 3 no_equates (routine 2 (codes "start_up") (codes "start_up") kind.Procedure [] ([]) no_types no_exceptions ([]) no_equates ([])
    (statement_and (a_signal 1 (codes "failure") (expression_and (a_literal 0 (string (34 ∷ 120 ∷ 34 ∷ []))) no_expressions)) no_statements))) ∷ [])

abbrev trace_of_failure_declared : List Declared
trace_of_failure_declared =
    (d (codes "start_up") 2 0 4294967295 None ∷ [])

trace_of_failure : Ends trace_of_failure_declared trace_of_failure_modules (codes "") 10000 (failure_with (codes "x")) (codes "")
unfolding executing computing digits
trace_of_failure = refl

trace_of_failure_trace : Traces trace_of_failure_declared trace_of_failure_modules (codes "") 10000 ([])
unfolding executing computing digits
trace_of_failure_trace = refl

-- start_up = proc ()
--   i: int := 0
--   while i < 2 do
--     x: int := 5 / (1 - i) except when zero_divide: stream$putl(stream$primary_output(), int$unparse(x)) end
--     i := i + 1
--   end
-- end start_up
abbrev declared_again_modules : List Module
declared_again_modules =
    ((a_routine 33 no_equates (routine 32 (codes "start_up") (codes "start_up") kind.Procedure [] ([]) no_types no_exceptions ([]) no_equates ([])
    (statement_and (an_init 2 (a_variable (codes "i") (a_simple_type 0 simple.Int)) (a_literal 1 (integer (codes "0")))) (statement_and (a_while 31
    (an_infix 5 op.Less (a_name 3 (codes "i")) (a_literal 4 (integer (codes "2")))) (a_body no_equates (statement_and (an_except 26 (an_init 13
    (a_variable (codes "x") (a_simple_type 6 simple.Int)) (an_infix 12 op.Divide (a_literal 7 (integer (codes "5"))) (a_paren 11 (an_infix 10
    op.Subtract (a_literal 8 (integer (codes "1"))) (a_name 9 (codes "i")))))) (when_and 25 ((codes "zero_divide") ∷ []) (objects []) (a_body
    no_equates (statement_and (a_call_statement 24 (a_call 23 (an_operation 15 (a_named_type 14 (codes "stream") no_constants) (codes "putl"))
    (expression_and (a_call 18 (an_operation 17 (a_named_type 16 (codes "stream") no_constants) (codes "primary_output")) no_expressions)
    (expression_and (a_call 22 (an_operation 20 (a_simple_type 19 simple.Int) (codes "unparse")) (expression_and (a_name 21 (codes "x"))
    no_expressions)) no_expressions)))) no_statements)) no_whens) no_others) (statement_and (an_assign 30 ((codes "i") ∷ []) (expression_and (an_infix
    29 op.Add (a_name 27 (codes "i")) (a_literal 28 (integer (codes "1")))) no_expressions)) no_statements)))) no_statements)))) ∷ [])

abbrev declared_again_declared : List Declared
declared_again_declared =
    (d (codes "i") 2 3 32 (Some 0) ∷ d (codes "x") 13 14 30 (Some 0) ∷ d (codes "start_up") 32 0 4294967295 None ∷ [])

declared_again : Ends declared_again_declared declared_again_modules (codes "") 10000 (failure_with (codes "uninitialized variable")) (codes "")
unfolding executing computing digits
declared_again = refl

-- start_up = proc ()
--   i: int := 0
--   while i < 3 do i := i + 1 end
-- end start_up
abbrev turns_of_while_modules : List Module
turns_of_while_modules =
    ((a_routine 12 no_equates (routine 11 (codes "start_up") (codes "start_up") kind.Procedure [] ([]) no_types no_exceptions ([]) no_equates ([])
    (statement_and (an_init 2 (a_variable (codes "i") (a_simple_type 0 simple.Int)) (a_literal 1 (integer (codes "0")))) (statement_and (a_while 10
    (an_infix 5 op.Less (a_name 3 (codes "i")) (a_literal 4 (integer (codes "3")))) (a_body no_equates (statement_and (an_assign 9 ((codes "i") ∷ [])
    (expression_and (an_infix 8 op.Add (a_name 6 (codes "i")) (a_literal 7 (integer (codes "1")))) no_expressions)) no_statements))) no_statements))))
    ∷ [])

abbrev turns_of_while_declared : List Declared
turns_of_while_declared =
    (d (codes "i") 2 3 11 (Some 0) ∷ d (codes "start_up") 11 0 4294967295 None ∷ [])

turns_of_while : Ends turns_of_while_declared turns_of_while_modules (codes "") 10000 returned_normally (codes "")
unfolding executing computing digits
turns_of_while = refl

turns_of_while_turns_4 : Ends turns_of_while_declared turns_of_while_modules (codes "") 4 returned_normally (codes "")
unfolding executing computing digits
turns_of_while_turns_4 = refl

turns_of_while_turns_3 : Ends turns_of_while_declared turns_of_while_modules (codes "") 3 still_running (codes "")
unfolding executing computing digits
turns_of_while_turns_3 = refl

-- start_up = proc ()
--   for i: int in int$from_to(1, 2) do stream$putl(stream$primary_output(), int$unparse(i)) end
-- end start_up
abbrev turns_of_loop_modules : List Module
turns_of_loop_modules =
    ((a_routine 20 no_equates (routine 19 (codes "start_up") (codes "start_up") kind.Procedure [] ([]) no_types no_exceptions ([]) no_equates ([])
    (statement_and (a_for 18 (typed 1 ((codes "i") ∷ []) (a_simple_type 0 simple.Int) ∷ []) (a_call 6 (an_operation 3 (a_simple_type 2 simple.Int)
    (codes "from_to")) (expression_and (a_literal 4 (integer (codes "1"))) (expression_and (a_literal 5 (integer (codes "2"))) no_expressions)))
    (a_body no_equates (statement_and (a_call_statement 17 (a_call 16 (an_operation 8 (a_named_type 7 (codes "stream") no_constants) (codes "putl"))
    (expression_and (a_call 11 (an_operation 10 (a_named_type 9 (codes "stream") no_constants) (codes "primary_output")) no_expressions)
    (expression_and (a_call 15 (an_operation 13 (a_simple_type 12 simple.Int) (codes "unparse")) (expression_and (a_name 14 (codes "i"))
    no_expressions)) no_expressions)))) no_statements))) no_statements))) ∷ [])

abbrev turns_of_loop_declared : List Declared
turns_of_loop_declared =
    (d (codes "i") 1 7 17 (Some 0) ∷ d (codes "start_up") 19 0 4294967295 None ∷ [])

turns_of_loop : Ends turns_of_loop_declared turns_of_loop_modules (codes "") 10000 returned_normally (49 ∷ 10 ∷ 50 ∷ 10 ∷ [])
unfolding executing computing digits
turns_of_loop = refl

turns_of_loop_turns_9 : Ends turns_of_loop_declared turns_of_loop_modules (codes "") 9 returned_normally (49 ∷ 10 ∷ 50 ∷ 10 ∷ [])
unfolding executing computing digits
turns_of_loop_turns_9 = refl

turns_of_loop_turns_8 : Ends turns_of_loop_declared turns_of_loop_modules (codes "") 8 still_running (49 ∷ 10 ∷ [])
unfolding executing computing digits
turns_of_loop_turns_8 = refl

-- start_up = proc () x: int := 1 + 2 end start_up
abbrev work_of_sum_modules : List Module
work_of_sum_modules =
    ((a_routine 6 no_equates (routine 5 (codes "start_up") (codes "start_up") kind.Procedure [] ([]) no_types no_exceptions ([]) no_equates ([])
    (statement_and (an_init 4 (a_variable (codes "x") (a_simple_type 0 simple.Int)) (an_infix 3 op.Add (a_literal 1 (integer (codes "1"))) (a_literal
    2 (integer (codes "2"))))) no_statements))) ∷ [])

abbrev work_of_sum_declared : List Declared
work_of_sum_declared =
    (d (codes "x") 4 5 5 (Some 0) ∷ d (codes "start_up") 5 0 4294967295 None ∷ [])

work_of_sum : Ends work_of_sum_declared work_of_sum_modules (codes "") 10000 returned_normally (codes "")
unfolding executing computing digits
work_of_sum = refl

work_of_sum_work : Works work_of_sum_declared work_of_sum_modules (codes "") 10000 36
unfolding executing computing digits
work_of_sum_work = refl

-- start_up = proc () for x: int in it() do y: int := x / 0 end end start_up
-- it = iter () yields (int) yield (1) end it
abbrev trace_in_a_body_modules : List Module
trace_in_a_body_modules =
    ((a_routine 11 no_equates (routine 10 (codes "start_up") (codes "start_up") kind.Procedure [] ([]) no_types no_exceptions ([]) no_equates ([])
    (statement_and (a_for 9 (typed 1 ((codes "x") ∷ []) (a_simple_type 0 simple.Int) ∷ []) (a_call 3 (a_name 2 (codes "it")) no_expressions) (a_body
    no_equates (statement_and (an_init 8 (a_variable (codes "y") (a_simple_type 4 simple.Int)) (an_infix 7 op.Divide (a_name 5 (codes "x")) (a_literal
    6 (integer (codes "0"))))) no_statements))) no_statements))) ∷ (a_routine 17 no_equates (routine 16 (codes "it") (codes "it") kind.Iterator []
    ([]) (type_and (a_simple_type 12 simple.Int) no_types) no_exceptions ([]) no_equates ([]) (statement_and (a_yield 15 (expression_and (a_literal 14
    (integer (codes "1"))) no_expressions)) no_statements))) ∷ [])

abbrev trace_in_a_body_declared : List Declared
trace_in_a_body_declared =
    (d (codes "x") 1 4 8 (Some 0) ∷ d (codes "y") 8 9 8 (Some 0) ∷ d (codes "start_up") 10 0 4294967295 None ∷ d (codes "it") 16 0 4294967295 None ∷
    [])

trace_in_a_body : Ends trace_in_a_body_declared trace_in_a_body_modules (codes "") 10000 (failure_with (codes "unhandled exception: zero_divide")) (codes "")
unfolding executing computing digits
trace_in_a_body = refl

trace_in_a_body_trace : Traces trace_in_a_body_declared trace_in_a_body_modules (codes "") 10000 (m "it" ∷ m "start_up" ∷ [])
unfolding executing computing digits
trace_in_a_body_trace = refl

-- a = iter () yields (int) yield (1) end a
-- b = iter () yields (int) yield (1) end b
-- start_up = proc () for x: int in a() do for y: int in b() do z: int z := z + x + y end end end start_up
abbrev trace_in_nested_bodies_modules : List Module
trace_in_nested_bodies_modules =
    ((a_routine 5 no_equates (routine 4 (codes "a") (codes "a") kind.Iterator [] ([]) (type_and (a_simple_type 0 simple.Int) no_types) no_exceptions
    ([]) no_equates ([]) (statement_and (a_yield 3 (expression_and (a_literal 2 (integer (codes "1"))) no_expressions)) no_statements))) ∷ (a_routine
    11 no_equates (routine 10 (codes "b") (codes "b") kind.Iterator [] ([]) (type_and (a_simple_type 6 simple.Int) no_types) no_exceptions ([])
    no_equates ([]) (statement_and (a_yield 9 (expression_and (a_literal 8 (integer (codes "1"))) no_expressions)) no_statements))) ∷ (a_routine 32
    no_equates (routine 31 (codes "start_up") (codes "start_up") kind.Procedure [] ([]) no_types no_exceptions ([]) no_equates ([]) (statement_and
    (a_for 30 (typed 13 ((codes "x") ∷ []) (a_simple_type 12 simple.Int) ∷ []) (a_call 15 (a_name 14 (codes "a")) no_expressions) (a_body no_equates
    (statement_and (a_for 29 (typed 17 ((codes "y") ∷ []) (a_simple_type 16 simple.Int) ∷ []) (a_call 19 (a_name 18 (codes "b")) no_expressions)
    (a_body no_equates (statement_and (a_declare 22 (typed 21 ((codes "z") ∷ []) (a_simple_type 20 simple.Int))) (statement_and (an_assign 28 ((codes
    "z") ∷ []) (expression_and (an_infix 27 op.Add (an_infix 25 op.Add (a_name 23 (codes "z")) (a_name 24 (codes "x"))) (a_name 26 (codes "y")))
    no_expressions)) no_statements)))) no_statements))) no_statements))) ∷ [])

abbrev trace_in_nested_bodies_declared : List Declared
trace_in_nested_bodies_declared =
    (d (codes "a") 4 0 4294967295 None ∷ d (codes "b") 10 0 4294967295 None ∷ d (codes "x") 13 16 29 (Some 0) ∷ d (codes "y") 17 20 28 (Some 0) ∷ d
    (codes "z") 21 23 28 (Some 0) ∷ d (codes "start_up") 31 0 4294967295 None ∷ [])

trace_in_nested_bodies : Ends trace_in_nested_bodies_declared trace_in_nested_bodies_modules (codes "") 10000 (failure_with (codes "uninitialized variable")) (codes "")
unfolding executing computing digits
trace_in_nested_bodies = refl

trace_in_nested_bodies_trace : Traces trace_in_nested_bodies_declared trace_in_nested_bodies_modules (codes "") 10000 (m "b" ∷ m "a" ∷ m "start_up" ∷ [])
unfolding executing computing digits
trace_in_nested_bodies_trace = refl
