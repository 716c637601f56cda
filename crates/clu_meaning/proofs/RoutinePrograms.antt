-- Programs that compute: routines as objects. Each is the tree of the CLU above it.
use Rattle.std.specs.Fmt.{digits}
use Rattle.std.specs.Prelude.{refl, List, [], ◌∷◌, codes, Some, None}
use Rattle.clu_names.specs.declared.scopes.Declared.{Declared}
use Rattle.clu_syntax.specs.declared.words.Operator.TheVariants as op
use Rattle.clu_syntax.specs.declared.words.Sign.TheVariants as sign
use Rattle.clu_syntax.specs.declared.words.SimpleType.TheVariants as simple
use Rattle.clu_syntax.specs.declared.words.ListType.TheVariants as list
use Rattle.clu_syntax.specs.declared.words.RoutineKind.TheVariants as kind
use Rattle.clu_syntax.specs.Syntax.{integer, string, an_infix, a_prefix, a_literal, a_name, an_index, a_call, elements, elements_from, an_operation, a_force, no_expressions, expression_and, an_expression, a_type, no_constants, constant_and, a_simple_type, a_list_type, a_routine_type, a_named_type, no_types, type_and, no_exceptions, exception_and, no_equates, objects, an_init, an_assign, a_set_index, a_call_statement, a_while, a_for, an_if, a_return, an_except, no_statements, statement_and, a_body, no_clauses, clause_and, nothing_else, no_whens, when_and, no_others, has_operations, Module, a_routine}
use Rattle.clu_layout.specs.Computing.{computing}
use Rattle.clu_meaning.specs.Run.{returned_normally}
use Rattle.clu_meaning.specs.Executing.{executing}
use Rattle.clu_meaning.proofs.Running.{d, typed, a_variable, parameter, routine, Runs}

-- % routine-calls
-- twice = proc (f: proctype (int) returns (int), n: int) returns (int) return (f(f(n))) end twice
-- inc = proc (n: int) returns (int) return (n + 1) end inc
-- start_up = proc ()
--   stream$putl(stream$primary_output(), int$unparse(twice(inc, 5))) stream$putl(stream$primary_output(), int$unparse(twice(int$copy, 5)))
--   f: proctype (int, int) returns (int) signals (overflow, zero_divide) := int$div
--   stream$putl(stream$primary_output(), int$unparse(f(9, 2))) f := int$add stream$putl(stream$primary_output(), int$unparse(f(9, 2)))
--   x: int := f(9223372036854775807, 1) except when overflow: stream$putl(stream$primary_output(), "ov") end
--   it: itertype (int, int) yields (int) := int$from_to
--   for i: int in it(1, 2) do stream$putl(stream$primary_output(), int$unparse(i)) end
--   rs: array[proctype (int) returns (int)] := array[proctype (int) returns (int)]$[inc]
--   stream$putl(stream$primary_output(), int$unparse(rs[1](41)))
-- end start_up
abbrev routine_calls_modules : List Module
routine_calls_modules =
    ((a_routine 16 no_equates (routine 15 (codes "twice") (codes "twice") kind.Procedure [] (typed 4 ((codes "f") ∷ []) (a_routine_type 3
    kind.Procedure (type_and (a_simple_type 0 simple.Int) no_types) (type_and (a_simple_type 1 simple.Int) no_types) no_exceptions) ∷ typed 6 ((codes
    "n") ∷ []) (a_simple_type 5 simple.Int) ∷ []) (type_and (a_simple_type 7 simple.Int) no_types) no_exceptions ([]) no_equates ([]) (statement_and
    (a_return 14 (expression_and (a_call 13 (a_name 9 (codes "f")) (expression_and (a_call 12 (a_name 10 (codes "f")) (expression_and (a_name 11
    (codes "n")) no_expressions)) no_expressions)) no_expressions)) no_statements))) ∷ (a_routine 26 no_equates (routine 25 (codes "inc") (codes
    "inc") kind.Procedure [] (typed 18 ((codes "n") ∷ []) (a_simple_type 17 simple.Int) ∷ []) (type_and (a_simple_type 19 simple.Int) no_types)
    no_exceptions ([]) no_equates ([]) (statement_and (a_return 24 (expression_and (an_infix 23 op.Add (a_name 21 (codes "n")) (a_literal 22 (integer
    (codes "1")))) no_expressions)) no_statements))) ∷ (a_routine 169 no_equates (routine 168 (codes "start_up") (codes "start_up") kind.Procedure []
    ([]) no_types no_exceptions ([]) no_equates ([]) (statement_and (a_call_statement 40 (a_call 39 (an_operation 28 (a_named_type 27 (codes "stream")
    no_constants) (codes "putl")) (expression_and (a_call 31 (an_operation 30 (a_named_type 29 (codes "stream") no_constants) (codes
    "primary_output")) no_expressions) (expression_and (a_call 38 (an_operation 33 (a_simple_type 32 simple.Int) (codes "unparse")) (expression_and
    (a_call 37 (a_name 34 (codes "twice")) (expression_and (a_name 35 (codes "inc")) (expression_and (a_literal 36 (integer (codes "5")))
    no_expressions))) no_expressions)) no_expressions)))) (statement_and (a_call_statement 55 (a_call 54 (an_operation 42 (a_named_type 41 (codes
    "stream") no_constants) (codes "putl")) (expression_and (a_call 45 (an_operation 44 (a_named_type 43 (codes "stream") no_constants) (codes
    "primary_output")) no_expressions) (expression_and (a_call 53 (an_operation 47 (a_simple_type 46 simple.Int) (codes "unparse")) (expression_and
    (a_call 52 (a_name 48 (codes "twice")) (expression_and (an_operation 50 (a_simple_type 49 simple.Int) (codes "copy")) (expression_and (a_literal
    51 (integer (codes "5"))) no_expressions))) no_expressions)) no_expressions)))) (statement_and (an_init 66 (a_variable (codes "f") (a_routine_type
    63 kind.Procedure (type_and (a_simple_type 56 simple.Int) (type_and (a_simple_type 57 simple.Int) no_types)) (type_and (a_simple_type 58
    simple.Int) no_types) (exception_and 60 (codes "overflow") no_types (exception_and 61 (codes "zero_divide") no_types no_exceptions))))
    (an_operation 65 (a_simple_type 64 simple.Int) (codes "div"))) (statement_and (a_call_statement 80 (a_call 79 (an_operation 68 (a_named_type 67
    (codes "stream") no_constants) (codes "putl")) (expression_and (a_call 71 (an_operation 70 (a_named_type 69 (codes "stream") no_constants) (codes
    "primary_output")) no_expressions) (expression_and (a_call 78 (an_operation 73 (a_simple_type 72 simple.Int) (codes "unparse")) (expression_and
    (a_call 77 (a_name 74 (codes "f")) (expression_and (a_literal 75 (integer (codes "9"))) (expression_and (a_literal 76 (integer (codes "2")))
    no_expressions))) no_expressions)) no_expressions)))) (statement_and (an_assign 83 ((codes "f") ∷ []) (expression_and (an_operation 82
    (a_simple_type 81 simple.Int) (codes "add")) no_expressions)) (statement_and (a_call_statement 97 (a_call 96 (an_operation 85 (a_named_type 84
    (codes "stream") no_constants) (codes "putl")) (expression_and (a_call 88 (an_operation 87 (a_named_type 86 (codes "stream") no_constants) (codes
    "primary_output")) no_expressions) (expression_and (a_call 95 (an_operation 90 (a_simple_type 89 simple.Int) (codes "unparse")) (expression_and
    (a_call 94 (a_name 91 (codes "f")) (expression_and (a_literal 92 (integer (codes "9"))) (expression_and (a_literal 93 (integer (codes "2")))
    no_expressions))) no_expressions)) no_expressions)))) (statement_and (an_except 113 (an_init 103 (a_variable (codes "x") (a_simple_type 98
    simple.Int)) (a_call 102 (a_name 99 (codes "f")) (expression_and (a_literal 100 (integer (codes "9223372036854775807"))) (expression_and
    (a_literal 101 (integer (codes "1"))) no_expressions)))) (when_and 112 ((codes "overflow") ∷ []) (objects []) (a_body no_equates (statement_and
    (a_call_statement 111 (a_call 110 (an_operation 105 (a_named_type 104 (codes "stream") no_constants) (codes "putl")) (expression_and (a_call 108
    (an_operation 107 (a_named_type 106 (codes "stream") no_constants) (codes "primary_output")) no_expressions) (expression_and (a_literal 109
    (string (34 ∷ 111 ∷ 118 ∷ 34 ∷ []))) no_expressions)))) no_statements)) no_whens) no_others) (statement_and (an_init 121 (a_variable (codes "it")
    (a_routine_type 118 kind.Iterator (type_and (a_simple_type 114 simple.Int) (type_and (a_simple_type 115 simple.Int) no_types)) (type_and
    (a_simple_type 116 simple.Int) no_types) no_exceptions)) (an_operation 120 (a_simple_type 119 simple.Int) (codes "from_to"))) (statement_and
    (a_for 139 (typed 123 ((codes "i") ∷ []) (a_simple_type 122 simple.Int) ∷ []) (a_call 127 (a_name 124 (codes "it")) (expression_and (a_literal 125
    (integer (codes "1"))) (expression_and (a_literal 126 (integer (codes "2"))) no_expressions))) (a_body no_equates (statement_and (a_call_statement
    138 (a_call 137 (an_operation 129 (a_named_type 128 (codes "stream") no_constants) (codes "putl")) (expression_and (a_call 132 (an_operation 131
    (a_named_type 130 (codes "stream") no_constants) (codes "primary_output")) no_expressions) (expression_and (a_call 136 (an_operation 134
    (a_simple_type 133 simple.Int) (codes "unparse")) (expression_and (a_name 135 (codes "i")) no_expressions)) no_expressions)))) no_statements)))
    (statement_and (an_init 152 (a_variable (codes "rs") (a_list_type 144 list.Array (a_routine_type 143 kind.Procedure (type_and (a_simple_type 140
    simple.Int) no_types) (type_and (a_simple_type 141 simple.Int) no_types) no_exceptions))) (elements 151 (a_list_type 149 list.Array
    (a_routine_type 148 kind.Procedure (type_and (a_simple_type 145 simple.Int) no_types) (type_and (a_simple_type 146 simple.Int) no_types)
    no_exceptions)) (expression_and (a_name 150 (codes "inc")) no_expressions))) (statement_and (a_call_statement 167 (a_call 166 (an_operation 154
    (a_named_type 153 (codes "stream") no_constants) (codes "putl")) (expression_and (a_call 157 (an_operation 156 (a_named_type 155 (codes "stream")
    no_constants) (codes "primary_output")) no_expressions) (expression_and (a_call 165 (an_operation 159 (a_simple_type 158 simple.Int) (codes
    "unparse")) (expression_and (a_call 164 (an_index 162 (a_name 160 (codes "rs")) (constant_and (an_expression (a_literal 161 (integer (codes
    "1")))) no_constants)) (expression_and (a_literal 163 (integer (codes "41"))) no_expressions)) no_expressions)) no_expressions))))
    no_statements))))))))))))) ∷ [])

abbrev routine_calls_declared : List Declared
routine_calls_declared =
    (d (codes "f") 4 5 15 (Some 0) ∷ d (codes "n") 6 7 15 (Some 0) ∷ d (codes "twice") 15 0 4294967295 None ∷ d (codes "n") 18 19 25 (Some 0) ∷ d
    (codes "inc") 25 0 4294967295 None ∷ d (codes "f") 66 67 168 (Some 0) ∷ d (codes "x") 103 104 168 (Some 0) ∷ d (codes "it") 121 122 168 (Some 0) ∷
    d (codes "i") 123 128 138 (Some 0) ∷ d (codes "rs") 152 153 168 (Some 0) ∷ d (codes "start_up") 168 0 4294967295 None ∷ [])

routine_calls : Runs routine_calls_declared routine_calls_modules (codes "") 10000 returned_normally (55 ∷ 10 ∷ 53 ∷ 10 ∷ 52 ∷ 10 ∷ 49 ∷ 49 ∷ 10 ∷ 111 ∷ 118 ∷ 10 ∷ 49 ∷ 10 ∷ 50 ∷ 10 ∷ 52 ∷ 50 ∷ 10 ∷ []) 35 548
unfolding executing computing digits
routine_calls = refl

-- % routines as objects
-- add1 = proc (n: int) returns (int) return (n + 1) end add1
-- twice = proc (f: proctype (int) returns (int), n: int) returns (int) return (f(f(n))) end twice
-- start_up = proc () stream$putl(stream$primary_output(), int$unparse(twice(add1, 5))) fs: array[proctype (int) returns (int)] := array[proctype (int) returns (int)]$[add1]
-- stream$putl(stream$primary_output(), int$unparse(fs[1](1))) f: proctype (int, int) returns (int) signals (overflow) := int$mul stream$putl(stream$primary_output(), int$unparse(f(6, 7)))
-- if fs[1] = add1 then stream$putl(stream$primary_output(), "same") end g: proctype (any) returns (string) signals (wrong_type) := force[string] stream$putl(stream$primary_output(), g("s")) end start_up
abbrev routines_as_objects_modules : List Module
routines_as_objects_modules =
    ((a_routine 9 no_equates (routine 8 (codes "add1") (codes "add1") kind.Procedure [] (typed 1 ((codes "n") ∷ []) (a_simple_type 0 simple.Int) ∷ [])
    (type_and (a_simple_type 2 simple.Int) no_types) no_exceptions ([]) no_equates ([]) (statement_and (a_return 7 (expression_and (an_infix 6 op.Add
    (a_name 4 (codes "n")) (a_literal 5 (integer (codes "1")))) no_expressions)) no_statements))) ∷ (a_routine 26 no_equates (routine 25 (codes
    "twice") (codes "twice") kind.Procedure [] (typed 14 ((codes "f") ∷ []) (a_routine_type 13 kind.Procedure (type_and (a_simple_type 10 simple.Int)
    no_types) (type_and (a_simple_type 11 simple.Int) no_types) no_exceptions) ∷ typed 16 ((codes "n") ∷ []) (a_simple_type 15 simple.Int) ∷ [])
    (type_and (a_simple_type 17 simple.Int) no_types) no_exceptions ([]) no_equates ([]) (statement_and (a_return 24 (expression_and (a_call 23
    (a_name 19 (codes "f")) (expression_and (a_call 22 (a_name 20 (codes "f")) (expression_and (a_name 21 (codes "n")) no_expressions))
    no_expressions)) no_expressions)) no_statements))) ∷ (a_routine 127 no_equates (routine 126 (codes "start_up") (codes "start_up") kind.Procedure
    [] ([]) no_types no_exceptions ([]) no_equates ([]) (statement_and (a_call_statement 40 (a_call 39 (an_operation 28 (a_named_type 27 (codes
    "stream") no_constants) (codes "putl")) (expression_and (a_call 31 (an_operation 30 (a_named_type 29 (codes "stream") no_constants) (codes
    "primary_output")) no_expressions) (expression_and (a_call 38 (an_operation 33 (a_simple_type 32 simple.Int) (codes "unparse")) (expression_and
    (a_call 37 (a_name 34 (codes "twice")) (expression_and (a_name 35 (codes "add1")) (expression_and (a_literal 36 (integer (codes "5")))
    no_expressions))) no_expressions)) no_expressions)))) (statement_and (an_init 53 (a_variable (codes "fs") (a_list_type 45 list.Array
    (a_routine_type 44 kind.Procedure (type_and (a_simple_type 41 simple.Int) no_types) (type_and (a_simple_type 42 simple.Int) no_types)
    no_exceptions))) (elements 52 (a_list_type 50 list.Array (a_routine_type 49 kind.Procedure (type_and (a_simple_type 46 simple.Int) no_types)
    (type_and (a_simple_type 47 simple.Int) no_types) no_exceptions)) (expression_and (a_name 51 (codes "add1")) no_expressions))) (statement_and
    (a_call_statement 68 (a_call 67 (an_operation 55 (a_named_type 54 (codes "stream") no_constants) (codes "putl")) (expression_and (a_call 58
    (an_operation 57 (a_named_type 56 (codes "stream") no_constants) (codes "primary_output")) no_expressions) (expression_and (a_call 66
    (an_operation 60 (a_simple_type 59 simple.Int) (codes "unparse")) (expression_and (a_call 65 (an_index 63 (a_name 61 (codes "fs")) (constant_and
    (an_expression (a_literal 62 (integer (codes "1")))) no_constants)) (expression_and (a_literal 64 (integer (codes "1"))) no_expressions))
    no_expressions)) no_expressions)))) (statement_and (an_init 78 (a_variable (codes "f") (a_routine_type 75 kind.Procedure (type_and (a_simple_type
    69 simple.Int) (type_and (a_simple_type 70 simple.Int) no_types)) (type_and (a_simple_type 71 simple.Int) no_types) (exception_and 73 (codes
    "overflow") no_types no_exceptions))) (an_operation 77 (a_simple_type 76 simple.Int) (codes "mul"))) (statement_and (a_call_statement 92 (a_call
    91 (an_operation 80 (a_named_type 79 (codes "stream") no_constants) (codes "putl")) (expression_and (a_call 83 (an_operation 82 (a_named_type 81
    (codes "stream") no_constants) (codes "primary_output")) no_expressions) (expression_and (a_call 90 (an_operation 85 (a_simple_type 84 simple.Int)
    (codes "unparse")) (expression_and (a_call 89 (a_name 86 (codes "f")) (expression_and (a_literal 87 (integer (codes "6"))) (expression_and
    (a_literal 88 (integer (codes "7"))) no_expressions))) no_expressions)) no_expressions)))) (statement_and (an_if 106 (clause_and (an_infix 97
    op.Equal (an_index 95 (a_name 93 (codes "fs")) (constant_and (an_expression (a_literal 94 (integer (codes "1")))) no_constants)) (a_name 96 (codes
    "add1"))) (a_body no_equates (statement_and (a_call_statement 105 (a_call 104 (an_operation 99 (a_named_type 98 (codes "stream") no_constants)
    (codes "putl")) (expression_and (a_call 102 (an_operation 101 (a_named_type 100 (codes "stream") no_constants) (codes "primary_output"))
    no_expressions) (expression_and (a_literal 103 (string (34 ∷ 115 ∷ 97 ∷ 109 ∷ 101 ∷ 34 ∷ []))) no_expressions)))) no_statements)) no_clauses)
    nothing_else) (statement_and (an_init 115 (a_variable (codes "g") (a_routine_type 112 kind.Procedure (type_and (a_simple_type 107 simple.Any)
    no_types) (type_and (a_simple_type 108 simple.String) no_types) (exception_and 110 (codes "wrong_type") no_types no_exceptions))) (a_force 114
    (a_simple_type 113 simple.String))) (statement_and (a_call_statement 125 (a_call 124 (an_operation 117 (a_named_type 116 (codes "stream")
    no_constants) (codes "putl")) (expression_and (a_call 120 (an_operation 119 (a_named_type 118 (codes "stream") no_constants) (codes
    "primary_output")) no_expressions) (expression_and (a_call 123 (a_name 121 (codes "g")) (expression_and (a_literal 122 (string (34 ∷ 115 ∷ 34 ∷
    []))) no_expressions)) no_expressions)))) no_statements)))))))))) ∷ [])

abbrev routines_as_objects_declared : List Declared
routines_as_objects_declared =
    (d (codes "n") 1 2 8 (Some 0) ∷ d (codes "add1") 8 0 4294967295 None ∷ d (codes "f") 14 15 25 (Some 0) ∷ d (codes "n") 16 17 25 (Some 0) ∷ d
    (codes "twice") 25 0 4294967295 None ∷ d (codes "fs") 53 54 126 (Some 0) ∷ d (codes "f") 78 79 126 (Some 0) ∷ d (codes "g") 115 116 126 (Some 0) ∷
    d (codes "start_up") 126 0 4294967295 None ∷ [])

routines_as_objects : Runs routines_as_objects_declared routines_as_objects_modules (codes "") 10000 returned_normally (55 ∷ 10 ∷ 50 ∷ 10 ∷ 52 ∷ 50 ∷ 10 ∷ 115 ∷ 97 ∷ 109 ∷ 101 ∷ 10 ∷ 115 ∷ 10 ∷ []) 21 368
unfolding executing computing digits
routines_as_objects = refl

-- % a recursive instance
-- g = proc [t: type] (x: t, n: int, f: proctype (t) returns (string)) if n > 0 then stream$putl(stream$primary_output(), f(x)) g[t](x, n - 1, f) end end g
-- start_up = proc () g[int](3, 2, int$unparse) end start_up
abbrev a_recursive_instance_modules : List Module
a_recursive_instance_modules =
    ((a_routine 35 no_equates (routine 34 (codes "g") (codes "g") kind.Procedure (parameter 0 ((codes "t") ∷ []) None ∷ []) (typed 2 ((codes "x") ∷
    []) (a_named_type 1 (codes "t") no_constants) ∷ typed 4 ((codes "n") ∷ []) (a_simple_type 3 simple.Int) ∷ typed 9 ((codes "f") ∷ [])
    (a_routine_type 8 kind.Procedure (type_and (a_named_type 5 (codes "t") no_constants) no_types) (type_and (a_simple_type 6 simple.String) no_types)
    no_exceptions) ∷ []) no_types no_exceptions ([]) no_equates ([]) (statement_and (an_if 33 (clause_and (an_infix 12 op.Greater (a_name 10 (codes
    "n")) (a_literal 11 (integer (codes "0")))) (a_body no_equates (statement_and (a_call_statement 22 (a_call 21 (an_operation 14 (a_named_type 13
    (codes "stream") no_constants) (codes "putl")) (expression_and (a_call 17 (an_operation 16 (a_named_type 15 (codes "stream") no_constants) (codes
    "primary_output")) no_expressions) (expression_and (a_call 20 (a_name 18 (codes "f")) (expression_and (a_name 19 (codes "x")) no_expressions))
    no_expressions)))) (statement_and (a_call_statement 32 (a_call 31 (an_index 25 (a_name 23 (codes "g")) (constant_and (an_expression (a_name 24
    (codes "t"))) no_constants)) (expression_and (a_name 26 (codes "x")) (expression_and (an_infix 29 op.Subtract (a_name 27 (codes "n")) (a_literal
    28 (integer (codes "1")))) (expression_and (a_name 30 (codes "f")) no_expressions))))) no_statements))) no_clauses) nothing_else) no_statements)))
    ∷ (a_routine 46 no_equates (routine 45 (codes "start_up") (codes "start_up") kind.Procedure [] ([]) no_types no_exceptions ([]) no_equates ([])
    (statement_and (a_call_statement 44 (a_call 43 (an_index 38 (a_name 36 (codes "g")) (constant_and (a_type (a_simple_type 37 simple.Int))
    no_constants)) (expression_and (a_literal 39 (integer (codes "3"))) (expression_and (a_literal 40 (integer (codes "2"))) (expression_and
    (an_operation 42 (a_simple_type 41 simple.Int) (codes "unparse")) no_expressions))))) no_statements))) ∷ [])

abbrev a_recursive_instance_declared : List Declared
a_recursive_instance_declared =
    (d (codes "t") 0 0 34 (Some 0) ∷ d (codes "x") 2 3 34 (Some 0) ∷ d (codes "n") 4 5 34 (Some 0) ∷ d (codes "f") 9 10 34 (Some 0) ∷ d (codes "g") 34
    0 4294967295 None ∷ d (codes "start_up") 45 0 4294967295 None ∷ [])

a_recursive_instance : Runs a_recursive_instance_declared a_recursive_instance_modules (codes "") 10000 returned_normally (51 ∷ 10 ∷ 51 ∷ 10 ∷ []) 8 366
unfolding executing computing digits
a_recursive_instance = refl

-- % sort
-- sort = proc [t: type] (a: array[t]) where t has lt: proctype (t, t) returns (bool)
-- for i: int in int$from_to(array[t]$low(a) + 1, array[t]$high(a)) do j: int := i
-- while j > array[t]$low(a) cand a[j] < a[j - 1] do x: t := a[j] a[j] := a[j - 1] a[j - 1] := x j := j - 1 end
-- end end sort
-- start_up = proc () a: array[int] := array[int]$[3, 1, 2, -5] sort[int](a) for i: int in array[int]$elements(a) do stream$puts(stream$primary_output(), int$unparse(i) || " ") end
-- b: array[string] := array[string]$[0: "pear", "apple", "fig"] sort[string](b) for s: string in array[string]$elements(b) do stream$puts(stream$primary_output(), s || " ") end stream$putl(stream$primary_output(), "") end start_up
abbrev sort_modules : List Module
sort_modules =
    ((a_routine 75 no_equates (routine 74 (codes "sort") (codes "sort") kind.Procedure (parameter 0 ((codes "t") ∷ []) None ∷ []) (typed 3 ((codes
    "a") ∷ []) (a_list_type 2 list.Array (a_named_type 1 (codes "t") no_constants)) ∷ []) no_types no_exceptions ((has_operations 10 (codes "t")
    (typed 9 ((codes "lt") ∷ []) (a_routine_type 8 kind.Procedure (type_and (a_named_type 4 (codes "t") no_constants) (type_and (a_named_type 5 (codes
    "t") no_constants) no_types)) (type_and (a_simple_type 6 simple.Bool) no_types) no_exceptions) ∷ [])) ∷ []) no_equates ([]) (statement_and (a_for
    73 (typed 13 ((codes "i") ∷ []) (a_simple_type 12 simple.Int) ∷ []) (a_call 28 (an_operation 15 (a_simple_type 14 simple.Int) (codes "from_to"))
    (expression_and (an_infix 22 op.Add (a_call 20 (an_operation 18 (a_list_type 17 list.Array (a_named_type 16 (codes "t") no_constants)) (codes
    "low")) (expression_and (a_name 19 (codes "a")) no_expressions)) (a_literal 21 (integer (codes "1")))) (expression_and (a_call 27 (an_operation 25
    (a_list_type 24 list.Array (a_named_type 23 (codes "t") no_constants)) (codes "high")) (expression_and (a_name 26 (codes "a")) no_expressions))
    no_expressions))) (a_body no_equates (statement_and (an_init 31 (a_variable (codes "j") (a_simple_type 29 simple.Int)) (a_name 30 (codes "i")))
    (statement_and (a_while 72 (an_infix 48 op.Cand (an_infix 38 op.Greater (a_name 32 (codes "j")) (a_call 37 (an_operation 35 (a_list_type 34
    list.Array (a_named_type 33 (codes "t") no_constants)) (codes "low")) (expression_and (a_name 36 (codes "a")) no_expressions))) (an_infix 47
    op.Less (an_index 41 (a_name 39 (codes "a")) (constant_and (an_expression (a_name 40 (codes "j"))) no_constants)) (an_index 46 (a_name 42 (codes
    "a")) (constant_and (an_expression (an_infix 45 op.Subtract (a_name 43 (codes "j")) (a_literal 44 (integer (codes "1"))))) no_constants))))
    (a_body no_equates (statement_and (an_init 53 (a_variable (codes "x") (a_named_type 49 (codes "t") no_constants)) (an_index 52 (a_name 50 (codes
    "a")) (constant_and (an_expression (a_name 51 (codes "j"))) no_constants))) (statement_and (a_set_index 61 (a_name 54 (codes "a")) (a_name 55
    (codes "j")) (an_index 60 (a_name 56 (codes "a")) (constant_and (an_expression (an_infix 59 op.Subtract (a_name 57 (codes "j")) (a_literal 58
    (integer (codes "1"))))) no_constants))) (statement_and (a_set_index 67 (a_name 62 (codes "a")) (an_infix 65 op.Subtract (a_name 63 (codes "j"))
    (a_literal 64 (integer (codes "1")))) (a_name 66 (codes "x"))) (statement_and (an_assign 71 ((codes "j") ∷ []) (expression_and (an_infix 70
    op.Subtract (a_name 68 (codes "j")) (a_literal 69 (integer (codes "1")))) no_expressions)) no_statements)))))) no_statements)))) no_statements)))
    ∷ (a_routine 157 no_equates (routine 156 (codes "start_up") (codes "start_up") kind.Procedure [] ([]) no_types no_exceptions ([]) no_equates ([])
    (statement_and (an_init 86 (a_variable (codes "a") (a_list_type 77 list.Array (a_simple_type 76 simple.Int))) (elements 85 (a_list_type 79
    list.Array (a_simple_type 78 simple.Int)) (expression_and (a_literal 80 (integer (codes "3"))) (expression_and (a_literal 81 (integer (codes
    "1"))) (expression_and (a_literal 82 (integer (codes "2"))) (expression_and (a_prefix 84 sign.Minus (a_literal 83 (integer (codes "5"))))
    no_expressions)))))) (statement_and (a_call_statement 92 (a_call 91 (an_index 89 (a_name 87 (codes "sort")) (constant_and (a_type (a_simple_type
    88 simple.Int)) no_constants)) (expression_and (a_name 90 (codes "a")) no_expressions))) (statement_and (a_for 113 (typed 94 ((codes "i") ∷ [])
    (a_simple_type 93 simple.Int) ∷ []) (a_call 99 (an_operation 97 (a_list_type 96 list.Array (a_simple_type 95 simple.Int)) (codes "elements"))
    (expression_and (a_name 98 (codes "a")) no_expressions)) (a_body no_equates (statement_and (a_call_statement 112 (a_call 111 (an_operation 101
    (a_named_type 100 (codes "stream") no_constants) (codes "puts")) (expression_and (a_call 104 (an_operation 103 (a_named_type 102 (codes "stream")
    no_constants) (codes "primary_output")) no_expressions) (expression_and (an_infix 110 op.Concatenate (a_call 108 (an_operation 106 (a_simple_type
    105 simple.Int) (codes "unparse")) (expression_and (a_name 107 (codes "i")) no_expressions)) (a_literal 109 (string (34 ∷ 32 ∷ 34 ∷ []))))
    no_expressions)))) no_statements))) (statement_and (an_init 123 (a_variable (codes "b") (a_list_type 115 list.Array (a_simple_type 114
    simple.String))) (elements_from 122 (a_list_type 117 list.Array (a_simple_type 116 simple.String)) (a_literal 118 (integer (codes "0")))
    (expression_and (a_literal 119 (string (34 ∷ 112 ∷ 101 ∷ 97 ∷ 114 ∷ 34 ∷ []))) (expression_and (a_literal 120 (string (34 ∷ 97 ∷ 112 ∷ 112 ∷ 108 ∷
    101 ∷ 34 ∷ []))) (expression_and (a_literal 121 (string (34 ∷ 102 ∷ 105 ∷ 103 ∷ 34 ∷ []))) no_expressions))))) (statement_and (a_call_statement
    129 (a_call 128 (an_index 126 (a_name 124 (codes "sort")) (constant_and (a_type (a_simple_type 125 simple.String)) no_constants)) (expression_and
    (a_name 127 (codes "b")) no_expressions))) (statement_and (a_for 147 (typed 131 ((codes "s") ∷ []) (a_simple_type 130 simple.String) ∷ []) (a_call
    136 (an_operation 134 (a_list_type 133 list.Array (a_simple_type 132 simple.String)) (codes "elements")) (expression_and (a_name 135 (codes "b"))
    no_expressions)) (a_body no_equates (statement_and (a_call_statement 146 (a_call 145 (an_operation 138 (a_named_type 137 (codes "stream")
    no_constants) (codes "puts")) (expression_and (a_call 141 (an_operation 140 (a_named_type 139 (codes "stream") no_constants) (codes
    "primary_output")) no_expressions) (expression_and (an_infix 144 op.Concatenate (a_name 142 (codes "s")) (a_literal 143 (string (34 ∷ 32 ∷ 34 ∷
    [])))) no_expressions)))) no_statements))) (statement_and (a_call_statement 155 (a_call 154 (an_operation 149 (a_named_type 148 (codes "stream")
    no_constants) (codes "putl")) (expression_and (a_call 152 (an_operation 151 (a_named_type 150 (codes "stream") no_constants) (codes
    "primary_output")) no_expressions) (expression_and (a_literal 153 (string (34 ∷ 34 ∷ []))) no_expressions)))) no_statements))))))))) ∷ [])

abbrev sort_declared : List Declared
sort_declared =
    (d (codes "t") 0 0 74 (Some 0) ∷ d (codes "a") 3 4 74 (Some 0) ∷ d (codes "i") 13 29 72 (Some 0) ∷ d (codes "j") 31 32 72 (Some 0) ∷ d (codes "x")
    53 54 71 (Some 0) ∷ d (codes "sort") 74 0 4294967295 None ∷ d (codes "a") 86 87 156 (Some 0) ∷ d (codes "i") 94 100 112 (Some 0) ∷ d (codes "b")
    123 124 156 (Some 0) ∷ d (codes "s") 131 137 146 (Some 0) ∷ d (codes "start_up") 156 0 4294967295 None ∷ [])

sort : Runs sort_declared sort_modules (codes "") 10000 returned_normally (45 ∷ 53 ∷ 32 ∷ 49 ∷ 32 ∷ 50 ∷ 32 ∷ 51 ∷ 32 ∷ 97 ∷ 112 ∷ 112 ∷ 108 ∷ 101 ∷ 32 ∷ 102 ∷ 105 ∷ 103 ∷ 32 ∷ 112 ∷ 101 ∷ 97 ∷ 114 ∷ 32 ∷ 10 ∷ []) 49 612
unfolding executing computing digits
sort = refl
