-- Programs that compute: instances, type sets, own variables without an object, and what no other program does. Each is the tree of the CLU above it.
use Rattle.std.specs.Fmt.{digits}
use Rattle.std.specs.Prelude.{refl, List, [], ◌∷◌, codes, Some, None}
use Rattle.clu_names.specs.declared.scopes.Declared.{Declared}
use Rattle.clu_syntax.specs.declared.words.Operator.TheVariants as op
use Rattle.clu_syntax.specs.declared.words.Sign.TheVariants as sign
use Rattle.clu_syntax.specs.declared.words.SimpleType.TheVariants as simple
use Rattle.clu_syntax.specs.declared.words.ListType.TheVariants as list
use Rattle.clu_syntax.specs.declared.words.RoutineKind.TheVariants as kind
use Rattle.clu_syntax.specs.Syntax.{true_literal, false_literal, integer, string, an_infix, a_prefix, a_literal, a_name, an_index, a_call, elements, an_operation, no_expressions, expression_and, an_expression, a_type, no_constants, constant_and, a_simple_type, a_list_type, a_routine_type, a_named_type, no_types, type_and, no_exceptions, a_set_equate, a_type_set, no_equates, equate_and, an_init, an_assign, a_call_statement, an_if, a_return, no_statements, statement_and, a_body, no_clauses, clause_and, nothing_else, own_variables, own_init, is_in, is_in_set, Module, a_routine}
use Rattle.clu_layout.specs.Computing.{computing}
use Rattle.clu_meaning.specs.Run.{returned_normally}
use Rattle.clu_meaning.specs.Executing.{executing}
use Rattle.clu_meaning.proofs.Running.{d, typed, a_variable, parameter, routine, Runs, Ends}

-- g = proc [t: type] (n: int) returns (int) return (n) end g
-- start_up = proc ()
--   f: proctype (int) returns (int) := g[int]
--   if f = g[int] then stream$putl(stream$primary_output(), "same") end
--   if f ~= g[string] then stream$putl(stream$primary_output(), "differs") end
-- end start_up
abbrev same_instance_modules : List Module
same_instance_modules =
    ((a_routine 8 no_equates (routine 7 (codes "g") (codes "g") kind.Procedure (parameter 0 ((codes "t") ∷ []) None ∷ []) (typed 2 ((codes "n") ∷ [])
    (a_simple_type 1 simple.Int) ∷ []) (type_and (a_simple_type 3 simple.Int) no_types) no_exceptions ([]) no_equates ([]) (statement_and (a_return 6
    (expression_and (a_name 5 (codes "n")) no_expressions)) no_statements))) ∷ (a_routine 46 no_equates (routine 45 (codes "start_up") (codes
    "start_up") kind.Procedure [] ([]) no_types no_exceptions ([]) no_equates ([]) (statement_and (an_init 16 (a_variable (codes "f") (a_routine_type
    12 kind.Procedure (type_and (a_simple_type 9 simple.Int) no_types) (type_and (a_simple_type 10 simple.Int) no_types) no_exceptions)) (an_index 15
    (a_name 13 (codes "g")) (constant_and (a_type (a_simple_type 14 simple.Int)) no_constants))) (statement_and (an_if 30 (clause_and (an_infix 21
    op.Equal (a_name 17 (codes "f")) (an_index 20 (a_name 18 (codes "g")) (constant_and (a_type (a_simple_type 19 simple.Int)) no_constants))) (a_body
    no_equates (statement_and (a_call_statement 29 (a_call 28 (an_operation 23 (a_named_type 22 (codes "stream") no_constants) (codes "putl"))
    (expression_and (a_call 26 (an_operation 25 (a_named_type 24 (codes "stream") no_constants) (codes "primary_output")) no_expressions)
    (expression_and (a_literal 27 (string (34 ∷ 115 ∷ 97 ∷ 109 ∷ 101 ∷ 34 ∷ []))) no_expressions)))) no_statements)) no_clauses) nothing_else)
    (statement_and (an_if 44 (clause_and (an_infix 35 op.NotEqual (a_name 31 (codes "f")) (an_index 34 (a_name 32 (codes "g")) (constant_and (a_type
    (a_simple_type 33 simple.String)) no_constants))) (a_body no_equates (statement_and (a_call_statement 43 (a_call 42 (an_operation 37 (a_named_type
    36 (codes "stream") no_constants) (codes "putl")) (expression_and (a_call 40 (an_operation 39 (a_named_type 38 (codes "stream") no_constants)
    (codes "primary_output")) no_expressions) (expression_and (a_literal 41 (string (34 ∷ 100 ∷ 105 ∷ 102 ∷ 102 ∷ 101 ∷ 114 ∷ 115 ∷ 34 ∷ [])))
    no_expressions)))) no_statements)) no_clauses) nothing_else) no_statements))))) ∷ [])

abbrev same_instance_declared : List Declared
same_instance_declared =
    (d (codes "t") 0 0 7 (Some 0) ∷ d (codes "n") 2 3 7 (Some 0) ∷ d (codes "g") 7 0 4294967295 None ∷ d (codes "f") 16 17 45 (Some 0) ∷ d (codes
    "start_up") 45 0 4294967295 None ∷ [])

same_instance : Ends same_instance_declared same_instance_modules (codes "") 10000 returned_normally (115 ∷ 97 ∷ 109 ∷ 101 ∷ 10 ∷ 100 ∷ 105 ∷ 102 ∷ 102 ∷ 101 ∷ 114 ∷ 115 ∷ 10 ∷ [])
unfolding executing computing digits
same_instance = refl

-- has_equal = proc [t: type] (a, b: t) returns (bool)
--   where t in equals
--   equals = {s | s has equal: proctype (s, s) returns (bool)}
--   return (a = b)
-- end has_equal
-- start_up = proc ()
--   if has_equal[int](3, 3) then stream$putl(stream$primary_output(), "equal") end
--   if has_equal[string]("a", "b") then stream$putl(stream$primary_output(), "no") end
-- end start_up
abbrev type_set_modules : List Module
type_set_modules =
    ((a_routine 20 no_equates (routine 19 (codes "has_equal") (codes "has_equal") kind.Procedure (parameter 0 ((codes "t") ∷ []) None ∷ []) (typed 2
    ((codes "a") ∷ (codes "b") ∷ []) (a_named_type 1 (codes "t") no_constants) ∷ []) (type_and (a_simple_type 3 simple.Bool) no_types) no_exceptions
    ((is_in 5 (codes "t") (codes "equals")) ∷ []) (equate_and (a_set_equate 14 (Some (codes "equals")) (a_type_set 13 (codes "s") (codes "s") (typed
    12 ((codes "equal") ∷ []) (a_routine_type 11 kind.Procedure (type_and (a_named_type 7 (codes "s") no_constants) (type_and (a_named_type 8 (codes
    "s") no_constants) no_types)) (type_and (a_simple_type 9 simple.Bool) no_types) no_exceptions) ∷ []) no_equates)) no_equates) ([]) (statement_and
    (a_return 18 (expression_and (an_infix 17 op.Equal (a_name 15 (codes "a")) (a_name 16 (codes "b"))) no_expressions)) no_statements))) ∷ (a_routine
    52 no_equates (routine 51 (codes "start_up") (codes "start_up") kind.Procedure [] ([]) no_types no_exceptions ([]) no_equates ([]) (statement_and
    (an_if 35 (clause_and (a_call 26 (an_index 23 (a_name 21 (codes "has_equal")) (constant_and (a_type (a_simple_type 22 simple.Int)) no_constants))
    (expression_and (a_literal 24 (integer (codes "3"))) (expression_and (a_literal 25 (integer (codes "3"))) no_expressions))) (a_body no_equates
    (statement_and (a_call_statement 34 (a_call 33 (an_operation 28 (a_named_type 27 (codes "stream") no_constants) (codes "putl")) (expression_and
    (a_call 31 (an_operation 30 (a_named_type 29 (codes "stream") no_constants) (codes "primary_output")) no_expressions) (expression_and (a_literal
    32 (string (34 ∷ 101 ∷ 113 ∷ 117 ∷ 97 ∷ 108 ∷ 34 ∷ []))) no_expressions)))) no_statements)) no_clauses) nothing_else) (statement_and (an_if 50
    (clause_and (a_call 41 (an_index 38 (a_name 36 (codes "has_equal")) (constant_and (a_type (a_simple_type 37 simple.String)) no_constants))
    (expression_and (a_literal 39 (string (34 ∷ 97 ∷ 34 ∷ []))) (expression_and (a_literal 40 (string (34 ∷ 98 ∷ 34 ∷ []))) no_expressions))) (a_body
    no_equates (statement_and (a_call_statement 49 (a_call 48 (an_operation 43 (a_named_type 42 (codes "stream") no_constants) (codes "putl"))
    (expression_and (a_call 46 (an_operation 45 (a_named_type 44 (codes "stream") no_constants) (codes "primary_output")) no_expressions)
    (expression_and (a_literal 47 (string (34 ∷ 110 ∷ 111 ∷ 34 ∷ []))) no_expressions)))) no_statements)) no_clauses) nothing_else) no_statements))))
    ∷ [])

abbrev type_set_declared : List Declared
type_set_declared =
    (d (codes "t") 0 0 19 (Some 0) ∷ d (codes "a") 2 3 19 (Some 0) ∷ d (codes "b") 2 3 19 (Some 0) ∷ d (codes "s") 13 7 13 (Some 0) ∷ d (codes
    "equals") 14 0 19 (Some 0) ∷ d (codes "has_equal") 19 0 4294967295 None ∷ d (codes "start_up") 51 0 4294967295 None ∷ [])

type_set : Ends type_set_declared type_set_modules (codes "") 10000 returned_normally (101 ∷ 113 ∷ 117 ∷ 97 ∷ 108 ∷ 10 ∷ [])
unfolding executing computing digits
type_set = refl

-- count = proc () returns (int)
--   own n: int
--   own started: bool := false
--   if ~started then n := 0 started := true end
--   n := n + 1
--   return (n)
-- end count
-- start_up = proc ()
--   x: int := count()
--   x := count()
--   stream$putl(stream$primary_output(), int$unparse(x))
-- end start_up
abbrev own_without_object_modules : List Module
own_without_object_modules =
    ((a_routine 22 no_equates (routine 21 (codes "count") (codes "count") kind.Procedure [] ([]) (type_and (a_simple_type 0 simple.Int) no_types)
    no_exceptions ([]) no_equates ((own_variables 4 (typed 3 ((codes "n") ∷ []) (a_simple_type 2 simple.Int) ∷ [])) ∷ (own_init 7 (a_variable (codes
    "started") (a_simple_type 5 simple.Bool)) (a_literal 6 false_literal)) ∷ []) (statement_and (an_if 14 (clause_and (a_prefix 9 sign.Not (a_name 8
    (codes "started"))) (a_body no_equates (statement_and (an_assign 11 ((codes "n") ∷ []) (expression_and (a_literal 10 (integer (codes "0")))
    no_expressions)) (statement_and (an_assign 13 ((codes "started") ∷ []) (expression_and (a_literal 12 true_literal) no_expressions))
    no_statements))) no_clauses) nothing_else) (statement_and (an_assign 18 ((codes "n") ∷ []) (expression_and (an_infix 17 op.Add (a_name 15 (codes
    "n")) (a_literal 16 (integer (codes "1")))) no_expressions)) (statement_and (a_return 20 (expression_and (a_name 19 (codes "n")) no_expressions))
    no_statements))))) ∷ (a_routine 42 no_equates (routine 41 (codes "start_up") (codes "start_up") kind.Procedure [] ([]) no_types no_exceptions ([])
    no_equates ([]) (statement_and (an_init 26 (a_variable (codes "x") (a_simple_type 23 simple.Int)) (a_call 25 (a_name 24 (codes "count"))
    no_expressions)) (statement_and (an_assign 29 ((codes "x") ∷ []) (expression_and (a_call 28 (a_name 27 (codes "count")) no_expressions)
    no_expressions)) (statement_and (a_call_statement 40 (a_call 39 (an_operation 31 (a_named_type 30 (codes "stream") no_constants) (codes "putl"))
    (expression_and (a_call 34 (an_operation 33 (a_named_type 32 (codes "stream") no_constants) (codes "primary_output")) no_expressions)
    (expression_and (a_call 38 (an_operation 36 (a_simple_type 35 simple.Int) (codes "unparse")) (expression_and (a_name 37 (codes "x"))
    no_expressions)) no_expressions)))) no_statements))))) ∷ [])

abbrev own_without_object_declared : List Declared
own_without_object_declared =
    (d (codes "n") 3 5 21 (Some 0) ∷ d (codes "started") 7 8 21 (Some 0) ∷ d (codes "count") 21 0 4294967295 None ∷ d (codes "x") 26 27 41 (Some 0) ∷
    d (codes "start_up") 41 0 4294967295 None ∷ [])

own_without_object : Ends own_without_object_declared own_without_object_modules (codes "") 10000 returned_normally (50 ∷ 10 ∷ [])
unfolding executing computing digits
own_without_object = refl

-- start_up = proc ()
--   a: array[int] := array[int]$predict(3, 10)
--   array[int]$addh(a, 7)
--   stream$putl(stream$primary_output(), int$unparse(array[int]$low(a)))
--   stream$putl(stream$primary_output(), int$unparse(a[3]))
--   s: sequence[int] := sequence[int]$replace(sequence[int]$[1, 2], 1, 5)
--   s := s || s
--   stream$putl(stream$primary_output(), int$unparse(sequence[int]$size(s)))
--   stream$putl(stream$primary_output(), int$unparse(s[3]))
--   b: array[int] := sequence[int]$s2a(s)
--   stream$putl(stream$primary_output(), int$unparse(array[int]$high(b)))
--   if stream$primary_input() ~= stream$primary_output() then stream$puts(stream$primary_output(), "differ") end
-- end start_up
abbrev rest_of_operations_modules : List Module
rest_of_operations_modules =
    ((a_routine 130 no_equates (routine 129 (codes "start_up") (codes "start_up") kind.Procedure [] ([]) no_types no_exceptions ([]) no_equates ([])
    (statement_and (an_init 8 (a_variable (codes "a") (a_list_type 1 list.Array (a_simple_type 0 simple.Int))) (a_call 7 (an_operation 4 (a_list_type
    3 list.Array (a_simple_type 2 simple.Int)) (codes "predict")) (expression_and (a_literal 5 (integer (codes "3"))) (expression_and (a_literal 6
    (integer (codes "10"))) no_expressions)))) (statement_and (a_call_statement 15 (a_call 14 (an_operation 11 (a_list_type 10 list.Array
    (a_simple_type 9 simple.Int)) (codes "addh")) (expression_and (a_name 12 (codes "a")) (expression_and (a_literal 13 (integer (codes "7")))
    no_expressions)))) (statement_and (a_call_statement 30 (a_call 29 (an_operation 17 (a_named_type 16 (codes "stream") no_constants) (codes "putl"))
    (expression_and (a_call 20 (an_operation 19 (a_named_type 18 (codes "stream") no_constants) (codes "primary_output")) no_expressions)
    (expression_and (a_call 28 (an_operation 22 (a_simple_type 21 simple.Int) (codes "unparse")) (expression_and (a_call 27 (an_operation 25
    (a_list_type 24 list.Array (a_simple_type 23 simple.Int)) (codes "low")) (expression_and (a_name 26 (codes "a")) no_expressions)) no_expressions))
    no_expressions)))) (statement_and (a_call_statement 43 (a_call 42 (an_operation 32 (a_named_type 31 (codes "stream") no_constants) (codes "putl"))
    (expression_and (a_call 35 (an_operation 34 (a_named_type 33 (codes "stream") no_constants) (codes "primary_output")) no_expressions)
    (expression_and (a_call 41 (an_operation 37 (a_simple_type 36 simple.Int) (codes "unparse")) (expression_and (an_index 40 (a_name 38 (codes "a"))
    (constant_and (an_expression (a_literal 39 (integer (codes "3")))) no_constants)) no_expressions)) no_expressions)))) (statement_and (an_init 57
    (a_variable (codes "s") (a_list_type 45 list.Sequence (a_simple_type 44 simple.Int))) (a_call 56 (an_operation 48 (a_list_type 47 list.Sequence
    (a_simple_type 46 simple.Int)) (codes "replace")) (expression_and (elements 53 (a_list_type 50 list.Sequence (a_simple_type 49 simple.Int))
    (expression_and (a_literal 51 (integer (codes "1"))) (expression_and (a_literal 52 (integer (codes "2"))) no_expressions))) (expression_and
    (a_literal 54 (integer (codes "1"))) (expression_and (a_literal 55 (integer (codes "5"))) no_expressions))))) (statement_and (an_assign 61 ((codes
    "s") ∷ []) (expression_and (an_infix 60 op.Concatenate (a_name 58 (codes "s")) (a_name 59 (codes "s"))) no_expressions)) (statement_and
    (a_call_statement 76 (a_call 75 (an_operation 63 (a_named_type 62 (codes "stream") no_constants) (codes "putl")) (expression_and (a_call 66
    (an_operation 65 (a_named_type 64 (codes "stream") no_constants) (codes "primary_output")) no_expressions) (expression_and (a_call 74
    (an_operation 68 (a_simple_type 67 simple.Int) (codes "unparse")) (expression_and (a_call 73 (an_operation 71 (a_list_type 70 list.Sequence
    (a_simple_type 69 simple.Int)) (codes "size")) (expression_and (a_name 72 (codes "s")) no_expressions)) no_expressions)) no_expressions))))
    (statement_and (a_call_statement 89 (a_call 88 (an_operation 78 (a_named_type 77 (codes "stream") no_constants) (codes "putl")) (expression_and
    (a_call 81 (an_operation 80 (a_named_type 79 (codes "stream") no_constants) (codes "primary_output")) no_expressions) (expression_and (a_call 87
    (an_operation 83 (a_simple_type 82 simple.Int) (codes "unparse")) (expression_and (an_index 86 (a_name 84 (codes "s")) (constant_and
    (an_expression (a_literal 85 (integer (codes "3")))) no_constants)) no_expressions)) no_expressions)))) (statement_and (an_init 97 (a_variable
    (codes "b") (a_list_type 91 list.Array (a_simple_type 90 simple.Int))) (a_call 96 (an_operation 94 (a_list_type 93 list.Sequence (a_simple_type 92
    simple.Int)) (codes "s2a")) (expression_and (a_name 95 (codes "s")) no_expressions))) (statement_and (a_call_statement 112 (a_call 111
    (an_operation 99 (a_named_type 98 (codes "stream") no_constants) (codes "putl")) (expression_and (a_call 102 (an_operation 101 (a_named_type 100
    (codes "stream") no_constants) (codes "primary_output")) no_expressions) (expression_and (a_call 110 (an_operation 104 (a_simple_type 103
    simple.Int) (codes "unparse")) (expression_and (a_call 109 (an_operation 107 (a_list_type 106 list.Array (a_simple_type 105 simple.Int)) (codes
    "high")) (expression_and (a_name 108 (codes "b")) no_expressions)) no_expressions)) no_expressions)))) (statement_and (an_if 128 (clause_and
    (an_infix 119 op.NotEqual (a_call 115 (an_operation 114 (a_named_type 113 (codes "stream") no_constants) (codes "primary_input")) no_expressions)
    (a_call 118 (an_operation 117 (a_named_type 116 (codes "stream") no_constants) (codes "primary_output")) no_expressions)) (a_body no_equates
    (statement_and (a_call_statement 127 (a_call 126 (an_operation 121 (a_named_type 120 (codes "stream") no_constants) (codes "puts"))
    (expression_and (a_call 124 (an_operation 123 (a_named_type 122 (codes "stream") no_constants) (codes "primary_output")) no_expressions)
    (expression_and (a_literal 125 (string (34 ∷ 100 ∷ 105 ∷ 102 ∷ 102 ∷ 101 ∷ 114 ∷ 34 ∷ []))) no_expressions)))) no_statements)) no_clauses)
    nothing_else) no_statements))))))))))))) ∷ [])

abbrev rest_of_operations_declared : List Declared
rest_of_operations_declared =
    (d (codes "a") 8 9 129 (Some 0) ∷ d (codes "s") 57 58 129 (Some 0) ∷ d (codes "b") 97 98 129 (Some 0) ∷ d (codes "start_up") 129 0 4294967295 None
    ∷ [])

rest_of_operations : Ends rest_of_operations_declared rest_of_operations_modules (codes "") 10000 returned_normally (51 ∷ 10 ∷ 55 ∷ 10 ∷ 52 ∷ 10 ∷ 53 ∷ 10 ∷ 52 ∷ 10 ∷ 100 ∷ 105 ∷ 102 ∷ 102 ∷ 101 ∷ 114 ∷ [])
unfolding executing computing digits
rest_of_operations = refl

-- % a parameter in a set of types
-- same = proc [t: type] (x, y: t) returns (bool) where t in {s | s has equal: proctype (s, s) returns (bool)} return (x = y) end same
-- start_up = proc () if same[int](1, 1) then stream$puts(stream$primary_output(), "yes") end end start_up
abbrev a_parameter_in_a_set_modules : List Module
a_parameter_in_a_set_modules =
    ((a_routine 19 no_equates (routine 18 (codes "same") (codes "same") kind.Procedure (parameter 0 ((codes "t") ∷ []) None ∷ []) (typed 2 ((codes
    "x") ∷ (codes "y") ∷ []) (a_named_type 1 (codes "t") no_constants) ∷ []) (type_and (a_simple_type 3 simple.Bool) no_types) no_exceptions
    ((is_in_set 12 (codes "t") (a_type_set 11 (codes "s") (codes "s") (typed 10 ((codes "equal") ∷ []) (a_routine_type 9 kind.Procedure (type_and
    (a_named_type 5 (codes "s") no_constants) (type_and (a_named_type 6 (codes "s") no_constants) no_types)) (type_and (a_simple_type 7 simple.Bool)
    no_types) no_exceptions) ∷ []) no_equates)) ∷ []) no_equates ([]) (statement_and (a_return 17 (expression_and (an_infix 16 op.Equal (a_name 14
    (codes "x")) (a_name 15 (codes "y"))) no_expressions)) no_statements))) ∷ (a_routine 36 no_equates (routine 35 (codes "start_up") (codes
    "start_up") kind.Procedure [] ([]) no_types no_exceptions ([]) no_equates ([]) (statement_and (an_if 34 (clause_and (a_call 25 (an_index 22
    (a_name 20 (codes "same")) (constant_and (a_type (a_simple_type 21 simple.Int)) no_constants)) (expression_and (a_literal 23 (integer (codes
    "1"))) (expression_and (a_literal 24 (integer (codes "1"))) no_expressions))) (a_body no_equates (statement_and (a_call_statement 33 (a_call 32
    (an_operation 27 (a_named_type 26 (codes "stream") no_constants) (codes "puts")) (expression_and (a_call 30 (an_operation 29 (a_named_type 28
    (codes "stream") no_constants) (codes "primary_output")) no_expressions) (expression_and (a_literal 31 (string (34 ∷ 121 ∷ 101 ∷ 115 ∷ 34 ∷ [])))
    no_expressions)))) no_statements)) no_clauses) nothing_else) no_statements))) ∷ [])

abbrev a_parameter_in_a_set_declared : List Declared
a_parameter_in_a_set_declared =
    (d (codes "t") 0 0 18 (Some 0) ∷ d (codes "x") 2 3 18 (Some 0) ∷ d (codes "y") 2 3 18 (Some 0) ∷ d (codes "s") 11 5 11 (Some 0) ∷ d (codes "same")
    18 0 4294967295 None ∷ d (codes "start_up") 35 0 4294967295 None ∷ [])

a_parameter_in_a_set : Runs a_parameter_in_a_set_declared a_parameter_in_a_set_modules (codes "") 10000 returned_normally (codes "yes") 0 174
unfolding executing computing digits
a_parameter_in_a_set = refl
