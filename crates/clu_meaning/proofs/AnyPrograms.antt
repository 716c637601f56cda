-- Programs that compute: objects of type any, and force. Each is the tree of the CLU above it.
use Rattle.std.specs.Fmt.{digits}
use Rattle.std.specs.Prelude.{◌≡◌, refl, List, [], ◌∷◌, codes, Some, None}
use Rattle.clu_names.specs.declared.scopes.Declared.{Declared}
use Rattle.clu_syntax.specs.declared.words.SimpleType.TheVariants as simple
use Rattle.clu_syntax.specs.declared.words.ListType.TheVariants as list
use Rattle.clu_syntax.specs.declared.words.RoutineKind.TheVariants as kind
use Rattle.clu_syntax.specs.Syntax.{nil, true_literal, integer, character, string, a_literal, a_name, a_call, elements, an_operation, a_force, no_expressions, expression_and, no_constants, a_simple_type, a_list_type, a_named_type, no_types, type_and, no_exceptions, no_equates, objects, an_init, an_assign, a_call_statement, a_for, an_if, a_return, a_begin, an_except, no_statements, statement_and, a_body, no_clauses, clause_and, nothing_else, no_whens, when_and, no_others, Module, a_routine}
use Rattle.clu_layout.specs.Computing.{computing}
use Rattle.clu_meaning.specs.Run.{returned_normally}
use Rattle.clu_meaning.specs.Executing.{executing}
use Rattle.clu_meaning.proofs.Running.{d, typed, a_variable, routine, run_of, Runs, Ends}

-- % any
-- start_up = proc ()
-- a: any := 3 stream$putl(stream$primary_output(), int$unparse(force[int](a))) a := "s" stream$putl(stream$primary_output(), force[string](a))
--   n: int := force[int](a) except when wrong_type: stream$putl(stream$primary_output(), "wt") end
--   a := 'c' n := force[int](a) except when wrong_type: stream$putl(stream$primary_output(), "wt2") end
--   a := nil x: null := force[null](a) a := true if force[bool](a) then stream$putl(stream$primary_output(), "b") end
--   b: any := a if force[bool](b) then stream$putl(stream$primary_output(), "b2") end
-- end start_up
abbrev any_modules : List Module
any_modules =
    ((a_routine 103 no_equates (routine 102 (codes "start_up") (codes "start_up") kind.Procedure [] ([]) no_types no_exceptions ([]) no_equates ([])
    (statement_and (an_init 2 (a_variable (codes "a") (a_simple_type 0 simple.Any)) (a_literal 1 (integer (codes "3")))) (statement_and
    (a_call_statement 16 (a_call 15 (an_operation 4 (a_named_type 3 (codes "stream") no_constants) (codes "putl")) (expression_and (a_call 7
    (an_operation 6 (a_named_type 5 (codes "stream") no_constants) (codes "primary_output")) no_expressions) (expression_and (a_call 14 (an_operation
    9 (a_simple_type 8 simple.Int) (codes "unparse")) (expression_and (a_call 13 (a_force 11 (a_simple_type 10 simple.Int)) (expression_and (a_name 12
    (codes "a")) no_expressions)) no_expressions)) no_expressions)))) (statement_and (an_assign 18 ((codes "a") ∷ []) (expression_and (a_literal 17
    (string (34 ∷ 115 ∷ 34 ∷ []))) no_expressions)) (statement_and (a_call_statement 29 (a_call 28 (an_operation 20 (a_named_type 19 (codes "stream")
    no_constants) (codes "putl")) (expression_and (a_call 23 (an_operation 22 (a_named_type 21 (codes "stream") no_constants) (codes
    "primary_output")) no_expressions) (expression_and (a_call 27 (a_force 25 (a_simple_type 24 simple.String)) (expression_and (a_name 26 (codes
    "a")) no_expressions)) no_expressions)))) (statement_and (an_except 45 (an_init 35 (a_variable (codes "n") (a_simple_type 30 simple.Int)) (a_call
    34 (a_force 32 (a_simple_type 31 simple.Int)) (expression_and (a_name 33 (codes "a")) no_expressions))) (when_and 44 ((codes "wrong_type") ∷ [])
    (objects []) (a_body no_equates (statement_and (a_call_statement 43 (a_call 42 (an_operation 37 (a_named_type 36 (codes "stream") no_constants)
    (codes "putl")) (expression_and (a_call 40 (an_operation 39 (a_named_type 38 (codes "stream") no_constants) (codes "primary_output"))
    no_expressions) (expression_and (a_literal 41 (string (34 ∷ 119 ∷ 116 ∷ 34 ∷ []))) no_expressions)))) no_statements)) no_whens) no_others)
    (statement_and (an_assign 47 ((codes "a") ∷ []) (expression_and (a_literal 46 (character (codes "'c'"))) no_expressions)) (statement_and
    (an_except 62 (an_assign 52 ((codes "n") ∷ []) (expression_and (a_call 51 (a_force 49 (a_simple_type 48 simple.Int)) (expression_and (a_name 50
    (codes "a")) no_expressions)) no_expressions)) (when_and 61 ((codes "wrong_type") ∷ []) (objects []) (a_body no_equates (statement_and
    (a_call_statement 60 (a_call 59 (an_operation 54 (a_named_type 53 (codes "stream") no_constants) (codes "putl")) (expression_and (a_call 57
    (an_operation 56 (a_named_type 55 (codes "stream") no_constants) (codes "primary_output")) no_expressions) (expression_and (a_literal 58 (string
    (34 ∷ 119 ∷ 116 ∷ 50 ∷ 34 ∷ []))) no_expressions)))) no_statements)) no_whens) no_others) (statement_and (an_assign 64 ((codes "a") ∷ [])
    (expression_and (a_literal 63 nil) no_expressions)) (statement_and (an_init 70 (a_variable (codes "x") (a_simple_type 65 simple.Null)) (a_call 69
    (a_force 67 (a_simple_type 66 simple.Null)) (expression_and (a_name 68 (codes "a")) no_expressions))) (statement_and (an_assign 72 ((codes "a") ∷
    []) (expression_and (a_literal 71 true_literal) no_expressions)) (statement_and (an_if 85 (clause_and (a_call 76 (a_force 74 (a_simple_type 73
    simple.Bool)) (expression_and (a_name 75 (codes "a")) no_expressions)) (a_body no_equates (statement_and (a_call_statement 84 (a_call 83
    (an_operation 78 (a_named_type 77 (codes "stream") no_constants) (codes "putl")) (expression_and (a_call 81 (an_operation 80 (a_named_type 79
    (codes "stream") no_constants) (codes "primary_output")) no_expressions) (expression_and (a_literal 82 (string (34 ∷ 98 ∷ 34 ∷ [])))
    no_expressions)))) no_statements)) no_clauses) nothing_else) (statement_and (an_init 88 (a_variable (codes "b") (a_simple_type 86 simple.Any))
    (a_name 87 (codes "a"))) (statement_and (an_if 101 (clause_and (a_call 92 (a_force 90 (a_simple_type 89 simple.Bool)) (expression_and (a_name 91
    (codes "b")) no_expressions)) (a_body no_equates (statement_and (a_call_statement 100 (a_call 99 (an_operation 94 (a_named_type 93 (codes
    "stream") no_constants) (codes "putl")) (expression_and (a_call 97 (an_operation 96 (a_named_type 95 (codes "stream") no_constants) (codes
    "primary_output")) no_expressions) (expression_and (a_literal 98 (string (34 ∷ 98 ∷ 50 ∷ 34 ∷ []))) no_expressions)))) no_statements)) no_clauses)
    nothing_else) no_statements))))))))))))))) ∷ [])

abbrev any_declared : List Declared
any_declared =
    (d (codes "a") 2 3 102 (Some 0) ∷ d (codes "n") 35 36 102 (Some 0) ∷ d (codes "x") 70 71 102 (Some 0) ∷ d (codes "b") 88 89 102 (Some 0) ∷ d
    (codes "start_up") 102 0 4294967295 None ∷ [])

any : Runs any_declared any_modules (codes "") 10000 returned_normally (51 ∷ 10 ∷ 115 ∷ 10 ∷ 119 ∷ 116 ∷ 10 ∷ 119 ∷ 116 ∷ 50 ∷ 10 ∷ 98 ∷ 10 ∷ 98 ∷ 50 ∷ 10 ∷ []) 30 288
unfolding executing computing digits
any = refl

-- % any-any
-- start_up = proc ()
-- a: any := 3 b: any := force[any](a) except when wrong_type: stream$putl(stream$primary_output(), "w") end
-- end start_up
abbrev any_any_modules : List Module
any_any_modules =
    ((a_routine 20 no_equates (routine 19 (codes "start_up") (codes "start_up") kind.Procedure [] ([]) no_types no_exceptions ([]) no_equates ([])
    (statement_and (an_init 2 (a_variable (codes "a") (a_simple_type 0 simple.Any)) (a_literal 1 (integer (codes "3")))) (statement_and (an_except 18
    (an_init 8 (a_variable (codes "b") (a_simple_type 3 simple.Any)) (a_call 7 (a_force 5 (a_simple_type 4 simple.Any)) (expression_and (a_name 6
    (codes "a")) no_expressions))) (when_and 17 ((codes "wrong_type") ∷ []) (objects []) (a_body no_equates (statement_and (a_call_statement 16
    (a_call 15 (an_operation 10 (a_named_type 9 (codes "stream") no_constants) (codes "putl")) (expression_and (a_call 13 (an_operation 12
    (a_named_type 11 (codes "stream") no_constants) (codes "primary_output")) no_expressions) (expression_and (a_literal 14 (string (34 ∷ 119 ∷ 34 ∷
    []))) no_expressions)))) no_statements)) no_whens) no_others) no_statements)))) ∷ [])

abbrev any_any_declared : List Declared
any_any_declared =
    (d (codes "a") 2 3 19 (Some 0) ∷ d (codes "b") 8 9 19 (Some 0) ∷ d (codes "start_up") 19 0 4294967295 None ∷ [])

any_any : Runs any_any_declared any_any_modules (codes "") 10000 returned_normally (119 ∷ 10 ∷ []) 4 122
unfolding executing computing digits
any_any = refl

-- % any-args
-- p = proc (x: any) returns (any) return (x) end p
-- start_up = proc () stream$putl(stream$primary_output(), int$unparse(force[int](p(4)))) for x: any in array[any]$elements(array[any]$[1, "a"]) do
--   stream$putl(stream$primary_output(), int$unparse(force[int](x))) except when wrong_type: stream$putl(stream$primary_output(), force[string](x)) end end end start_up
abbrev any_args_modules : List Module
any_args_modules =
    ((a_routine 7 no_equates (routine 6 (codes "p") (codes "p") kind.Procedure [] (typed 1 ((codes "x") ∷ []) (a_simple_type 0 simple.Any) ∷ [])
    (type_and (a_simple_type 2 simple.Any) no_types) no_exceptions ([]) no_equates ([]) (statement_and (a_return 5 (expression_and (a_name 4 (codes
    "x")) no_expressions)) no_statements))) ∷ (a_routine 64 no_equates (routine 63 (codes "start_up") (codes "start_up") kind.Procedure [] ([])
    no_types no_exceptions ([]) no_equates ([]) (statement_and (a_call_statement 23 (a_call 22 (an_operation 9 (a_named_type 8 (codes "stream")
    no_constants) (codes "putl")) (expression_and (a_call 12 (an_operation 11 (a_named_type 10 (codes "stream") no_constants) (codes
    "primary_output")) no_expressions) (expression_and (a_call 21 (an_operation 14 (a_simple_type 13 simple.Int) (codes "unparse")) (expression_and
    (a_call 20 (a_force 16 (a_simple_type 15 simple.Int)) (expression_and (a_call 19 (a_name 17 (codes "p")) (expression_and (a_literal 18 (integer
    (codes "4"))) no_expressions)) no_expressions)) no_expressions)) no_expressions)))) (statement_and (a_for 62 (typed 25 ((codes "x") ∷ [])
    (a_simple_type 24 simple.Any) ∷ []) (a_call 34 (an_operation 28 (a_list_type 27 list.Array (a_simple_type 26 simple.Any)) (codes "elements"))
    (expression_and (elements 33 (a_list_type 30 list.Array (a_simple_type 29 simple.Any)) (expression_and (a_literal 31 (integer (codes "1")))
    (expression_and (a_literal 32 (string (34 ∷ 97 ∷ 34 ∷ []))) no_expressions))) no_expressions)) (a_body no_equates (statement_and (an_except 61
    (a_call_statement 48 (a_call 47 (an_operation 36 (a_named_type 35 (codes "stream") no_constants) (codes "putl")) (expression_and (a_call 39
    (an_operation 38 (a_named_type 37 (codes "stream") no_constants) (codes "primary_output")) no_expressions) (expression_and (a_call 46
    (an_operation 41 (a_simple_type 40 simple.Int) (codes "unparse")) (expression_and (a_call 45 (a_force 43 (a_simple_type 42 simple.Int))
    (expression_and (a_name 44 (codes "x")) no_expressions)) no_expressions)) no_expressions)))) (when_and 60 ((codes "wrong_type") ∷ []) (objects [])
    (a_body no_equates (statement_and (a_call_statement 59 (a_call 58 (an_operation 50 (a_named_type 49 (codes "stream") no_constants) (codes "putl"))
    (expression_and (a_call 53 (an_operation 52 (a_named_type 51 (codes "stream") no_constants) (codes "primary_output")) no_expressions)
    (expression_and (a_call 57 (a_force 55 (a_simple_type 54 simple.String)) (expression_and (a_name 56 (codes "x")) no_expressions))
    no_expressions)))) no_statements)) no_whens) no_others) no_statements))) no_statements)))) ∷ [])

abbrev any_args_declared : List Declared
any_args_declared =
    (d (codes "x") 1 2 6 (Some 0) ∷ d (codes "p") 6 0 4294967295 None ∷ d (codes "x") 25 35 61 (Some 0) ∷ d (codes "start_up") 63 0 4294967295 None ∷
    [])

any_args : Ends any_args_declared any_args_modules (codes "") 10000 returned_normally (52 ∷ 10 ∷ 49 ∷ 10 ∷ 97 ∷ 10 ∷ [])
unfolding executing computing digits
any_args = refl

any_args_stack : (run_of any_args_declared any_args_modules (codes "") 10000).stack ≡ 562
unfolding executing computing digits
any_args_stack = refl

-- % any and force
-- start_up = proc ()
-- a: array[any] := array[any]$[1, "two", 'c', nil, array[int]$[4]]
-- for x: any in array[any]$elements(a) do
-- begin n: int := force[int](x) stream$putl(stream$primary_output(), int$unparse(n)) end except when wrong_type: begin s: string := force[string](x) stream$putl(stream$primary_output(), s) end
-- except when wrong_type: stream$putl(stream$primary_output(), "?") end end end
-- end start_up
abbrev any_and_force_modules : List Module
any_and_force_modules =
    ((a_routine 68 no_equates (routine 67 (codes "start_up") (codes "start_up") kind.Procedure [] ([]) no_types no_exceptions ([]) no_equates ([])
    (statement_and (an_init 13 (a_variable (codes "a") (a_list_type 1 list.Array (a_simple_type 0 simple.Any))) (elements 12 (a_list_type 3 list.Array
    (a_simple_type 2 simple.Any)) (expression_and (a_literal 4 (integer (codes "1"))) (expression_and (a_literal 5 (string (34 ∷ 116 ∷ 119 ∷ 111 ∷ 34
    ∷ []))) (expression_and (a_literal 6 (character (codes "'c'"))) (expression_and (a_literal 7 nil) (expression_and (elements 11 (a_list_type 9
    list.Array (a_simple_type 8 simple.Int)) (expression_and (a_literal 10 (integer (codes "4"))) no_expressions)) no_expressions)))))))
    (statement_and (a_for 66 (typed 15 ((codes "x") ∷ []) (a_simple_type 14 simple.Any) ∷ []) (a_call 20 (an_operation 18 (a_list_type 17 list.Array
    (a_simple_type 16 simple.Any)) (codes "elements")) (expression_and (a_name 19 (codes "a")) no_expressions)) (a_body no_equates (statement_and
    (an_except 65 (a_begin 38 (a_body no_equates (statement_and (an_init 26 (a_variable (codes "n") (a_simple_type 21 simple.Int)) (a_call 25 (a_force
    23 (a_simple_type 22 simple.Int)) (expression_and (a_name 24 (codes "x")) no_expressions))) (statement_and (a_call_statement 37 (a_call 36
    (an_operation 28 (a_named_type 27 (codes "stream") no_constants) (codes "putl")) (expression_and (a_call 31 (an_operation 30 (a_named_type 29
    (codes "stream") no_constants) (codes "primary_output")) no_expressions) (expression_and (a_call 35 (an_operation 33 (a_simple_type 32 simple.Int)
    (codes "unparse")) (expression_and (a_name 34 (codes "n")) no_expressions)) no_expressions)))) no_statements)))) (when_and 64 ((codes
    "wrong_type") ∷ []) (objects []) (a_body no_equates (statement_and (an_except 63 (a_begin 53 (a_body no_equates (statement_and (an_init 44
    (a_variable (codes "s") (a_simple_type 39 simple.String)) (a_call 43 (a_force 41 (a_simple_type 40 simple.String)) (expression_and (a_name 42
    (codes "x")) no_expressions))) (statement_and (a_call_statement 52 (a_call 51 (an_operation 46 (a_named_type 45 (codes "stream") no_constants)
    (codes "putl")) (expression_and (a_call 49 (an_operation 48 (a_named_type 47 (codes "stream") no_constants) (codes "primary_output"))
    no_expressions) (expression_and (a_name 50 (codes "s")) no_expressions)))) no_statements)))) (when_and 62 ((codes "wrong_type") ∷ []) (objects [])
    (a_body no_equates (statement_and (a_call_statement 61 (a_call 60 (an_operation 55 (a_named_type 54 (codes "stream") no_constants) (codes "putl"))
    (expression_and (a_call 58 (an_operation 57 (a_named_type 56 (codes "stream") no_constants) (codes "primary_output")) no_expressions)
    (expression_and (a_literal 59 (string (34 ∷ 63 ∷ 34 ∷ []))) no_expressions)))) no_statements)) no_whens) no_others) no_statements)) no_whens)
    no_others) no_statements))) no_statements)))) ∷ [])

abbrev any_and_force_declared : List Declared
any_and_force_declared =
    (d (codes "a") 13 14 67 (Some 0) ∷ d (codes "x") 15 21 65 (Some 0) ∷ d (codes "n") 26 27 37 (Some 0) ∷ d (codes "s") 44 45 52 (Some 0) ∷ d (codes
    "start_up") 67 0 4294967295 None ∷ [])

any_and_force : Ends any_and_force_declared any_and_force_modules (codes "") 10000 returned_normally (49 ∷ 10 ∷ 116 ∷ 119 ∷ 111 ∷ 10 ∷ 63 ∷ 10 ∷ 63 ∷ 10 ∷ 63 ∷ 10 ∷ [])
unfolding executing computing digits
any_and_force = refl

any_and_force_stack : (run_of any_and_force_declared any_and_force_modules (codes "") 10000).stack ≡ 586
unfolding executing computing digits
any_and_force_stack = refl
