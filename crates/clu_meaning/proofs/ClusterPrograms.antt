-- Programs that compute: clusters. Each is the tree of the CLU above it.
use Rattle.std.specs.Fmt.{digits}
use Rattle.std.specs.Prelude.{refl, List, [], ◌∷◌, codes, Some, None}
use Rattle.clu_names.specs.declared.scopes.Declared.{Declared}
use Rattle.clu_syntax.specs.declared.words.Operator.TheVariants as op
use Rattle.clu_syntax.specs.declared.words.SimpleType.TheVariants as simple
use Rattle.clu_syntax.specs.declared.words.ListType.TheVariants as list
use Rattle.clu_syntax.specs.declared.words.FieldsType.TheVariants as fields_word
use Rattle.clu_syntax.specs.declared.words.RoutineKind.TheVariants as kind
use Rattle.clu_syntax.specs.Syntax.{integer, string, an_infix, a_literal, a_name, an_index, a_call, fields, elements, an_operation, an_up, a_down, no_expressions, expression_and, no_components, component_and, an_expression, a_type, no_constants, constant_and, a_simple_type, a_list_type, a_fields_type, a_named_type, no_types, type_and, no_selectors, selector_and, no_exceptions, exception_and, an_equate, no_equates, equate_and, objects, an_init, a_call_statement, a_for, an_if, a_return, a_yield, a_signal, an_except, no_statements, statement_and, a_body, no_clauses, clause_and, nothing_else, no_whens, when_and, no_others, Module, a_routine, a_cluster}
use Rattle.clu_layout.specs.Computing.{computing}
use Rattle.clu_meaning.specs.Run.{returned_normally}
use Rattle.clu_meaning.specs.Executing.{executing}
use Rattle.clu_meaning.proofs.Running.{d, typed, a_variable, routine, cluster, Runs}

-- % up and down
-- c = cluster is make, next, get rep = int make = proc (n: int) returns (c) return (up(n)) end make
-- next = proc (x: c) returns (c) return (up(down(x) + 1)) end next get = proc (x: cvt) returns (int) return (x) end get end c
-- start_up = proc () stream$putl(stream$primary_output(), int$unparse(c$get(c$next(c$make(4))))) end start_up
abbrev up_and_down_modules : List Module
up_and_down_modules =
    ((a_cluster 29 no_equates (cluster 28 (codes "c") (codes "c") [] ((codes "make") ∷ (codes "next") ∷ (codes "get") ∷ []) ([]) (equate_and
    (an_equate 1 None (a_type (a_simple_type 0 simple.Int))) no_equates) ([]) ((routine 9 (codes "make") (codes "make") kind.Procedure [] (typed 3
    ((codes "n") ∷ []) (a_simple_type 2 simple.Int) ∷ []) (type_and (a_named_type 4 (codes "c") no_constants) no_types) no_exceptions ([]) no_equates
    ([]) (statement_and (a_return 8 (expression_and (an_up 7 (a_name 6 (codes "n"))) no_expressions)) no_statements)) ∷ (routine 20 (codes "next")
    (codes "next") kind.Procedure [] (typed 11 ((codes "x") ∷ []) (a_named_type 10 (codes "c") no_constants) ∷ []) (type_and (a_named_type 12 (codes
    "c") no_constants) no_types) no_exceptions ([]) no_equates ([]) (statement_and (a_return 19 (expression_and (an_up 18 (an_infix 17 op.Add (a_down
    15 (a_name 14 (codes "x"))) (a_literal 16 (integer (codes "1"))))) no_expressions)) no_statements)) ∷ (routine 27 (codes "get") (codes "get")
    kind.Procedure [] (typed 22 ((codes "x") ∷ []) (a_simple_type 21 simple.Cvt) ∷ []) (type_and (a_simple_type 23 simple.Int) no_types) no_exceptions
    ([]) no_equates ([]) (statement_and (a_return 26 (expression_and (a_name 25 (codes "x")) no_expressions)) no_statements)) ∷ []))) ∷ (a_routine 51
    no_equates (routine 50 (codes "start_up") (codes "start_up") kind.Procedure [] ([]) no_types no_exceptions ([]) no_equates ([]) (statement_and
    (a_call_statement 49 (a_call 48 (an_operation 31 (a_named_type 30 (codes "stream") no_constants) (codes "putl")) (expression_and (a_call 34
    (an_operation 33 (a_named_type 32 (codes "stream") no_constants) (codes "primary_output")) no_expressions) (expression_and (a_call 47
    (an_operation 36 (a_simple_type 35 simple.Int) (codes "unparse")) (expression_and (a_call 46 (an_operation 38 (a_named_type 37 (codes "c")
    no_constants) (codes "get")) (expression_and (a_call 45 (an_operation 40 (a_named_type 39 (codes "c") no_constants) (codes "next"))
    (expression_and (a_call 44 (an_operation 42 (a_named_type 41 (codes "c") no_constants) (codes "make")) (expression_and (a_literal 43 (integer
    (codes "4"))) no_expressions)) no_expressions)) no_expressions)) no_expressions)) no_expressions)))) no_statements))) ∷ [])

abbrev up_and_down_declared : List Declared
up_and_down_declared =
    (d (codes "rep") 1 0 28 (Some 0) ∷ d (codes "n") 3 4 9 (Some 0) ∷ d (codes "make") 9 0 28 (Some 0) ∷ d (codes "x") 11 12 20 (Some 0) ∷ d (codes
    "next") 20 0 28 (Some 0) ∷ d (codes "x") 22 23 27 (Some 0) ∷ d (codes "get") 27 0 28 (Some 0) ∷ d (codes "c") 28 0 4294967295 None ∷ d (codes
    "start_up") 50 0 4294967295 None ∷ [])

up_and_down : Runs up_and_down_declared up_and_down_modules (codes "") 10000 returned_normally (53 ∷ 10 ∷ []) 4 164
unfolding executing computing digits
up_and_down = refl

-- % operations that are not exported
-- c = cluster is f rep = null f = proc () returns (int) return (g(2) + c$g(3)) end f
-- g = proc (n: int) returns (int) return (n * n) end g end c start_up = proc () stream$putl(stream$primary_output(), int$unparse(c$f())) end start_up
abbrev operations_that_are_not_exported_modules : List Module
operations_that_are_not_exported_modules =
    ((a_cluster 24 no_equates (cluster 23 (codes "c") (codes "c") [] ((codes "f") ∷ []) ([]) (equate_and (an_equate 1 None (a_type (a_simple_type 0
    simple.Null))) no_equates) ([]) ((routine 13 (codes "f") (codes "f") kind.Procedure [] ([]) (type_and (a_simple_type 2 simple.Int) no_types)
    no_exceptions ([]) no_equates ([]) (statement_and (a_return 12 (expression_and (an_infix 11 op.Add (a_call 6 (a_name 4 (codes "g"))
    (expression_and (a_literal 5 (integer (codes "2"))) no_expressions)) (a_call 10 (an_operation 8 (a_named_type 7 (codes "c") no_constants) (codes
    "g")) (expression_and (a_literal 9 (integer (codes "3"))) no_expressions))) no_expressions)) no_statements)) ∷ (routine 22 (codes "g") (codes "g")
    kind.Procedure [] (typed 15 ((codes "n") ∷ []) (a_simple_type 14 simple.Int) ∷ []) (type_and (a_simple_type 16 simple.Int) no_types) no_exceptions
    ([]) no_equates ([]) (statement_and (a_return 21 (expression_and (an_infix 20 op.Multiply (a_name 18 (codes "n")) (a_name 19 (codes "n")))
    no_expressions)) no_statements)) ∷ []))) ∷ (a_routine 39 no_equates (routine 38 (codes "start_up") (codes "start_up") kind.Procedure [] ([])
    no_types no_exceptions ([]) no_equates ([]) (statement_and (a_call_statement 37 (a_call 36 (an_operation 26 (a_named_type 25 (codes "stream")
    no_constants) (codes "putl")) (expression_and (a_call 29 (an_operation 28 (a_named_type 27 (codes "stream") no_constants) (codes
    "primary_output")) no_expressions) (expression_and (a_call 35 (an_operation 31 (a_simple_type 30 simple.Int) (codes "unparse")) (expression_and
    (a_call 34 (an_operation 33 (a_named_type 32 (codes "c") no_constants) (codes "f")) no_expressions) no_expressions)) no_expressions))))
    no_statements))) ∷ [])

abbrev operations_that_are_not_exported_declared : List Declared
operations_that_are_not_exported_declared =
    (d (codes "rep") 1 0 23 (Some 0) ∷ d (codes "f") 13 0 23 (Some 0) ∷ d (codes "n") 15 16 22 (Some 0) ∷ d (codes "g") 22 0 23 (Some 0) ∷ d (codes
    "c") 23 0 4294967295 None ∷ d (codes "start_up") 38 0 4294967295 None ∷ [])

operations_that_are_not_exported : Runs operations_that_are_not_exported_declared operations_that_are_not_exported_modules (codes "") 10000 returned_normally (49 ∷ 51 ∷ 10 ∷ []) 4 188
unfolding executing computing digits
operations_that_are_not_exported = refl

-- % a cluster in a signal
-- c = cluster is make, fail, get rep = int make = proc () returns (cvt) return (4) end make
-- fail = proc (x: cvt) signals (e(cvt)) signal e(x + 1) end fail get = proc (x: cvt) returns (int) return (x) end get end c
-- start_up = proc () c$fail(c$make()) except when e (x: c): stream$putl(stream$primary_output(), int$unparse(c$get(x))) end end start_up
abbrev a_cluster_in_a_signal_modules : List Module
a_cluster_in_a_signal_modules =
    ((a_cluster 25 no_equates (cluster 24 (codes "c") (codes "c") [] ((codes "make") ∷ (codes "fail") ∷ (codes "get") ∷ []) ([]) (equate_and
    (an_equate 1 None (a_type (a_simple_type 0 simple.Int))) no_equates) ([]) ((routine 6 (codes "make") (codes "make") kind.Procedure [] ([])
    (type_and (a_simple_type 2 simple.Cvt) no_types) no_exceptions ([]) no_equates ([]) (statement_and (a_return 5 (expression_and (a_literal 4
    (integer (codes "4"))) no_expressions)) no_statements)) ∷ (routine 16 (codes "fail") (codes "fail") kind.Procedure [] (typed 8 ((codes "x") ∷ [])
    (a_simple_type 7 simple.Cvt) ∷ []) no_types (exception_and 10 (codes "e") (type_and (a_simple_type 9 simple.Cvt) no_types) no_exceptions) ([])
    no_equates ([]) (statement_and (a_signal 15 (codes "e") (expression_and (an_infix 14 op.Add (a_name 12 (codes "x")) (a_literal 13 (integer (codes
    "1")))) no_expressions)) no_statements)) ∷ (routine 23 (codes "get") (codes "get") kind.Procedure [] (typed 18 ((codes "x") ∷ []) (a_simple_type
    17 simple.Cvt) ∷ []) (type_and (a_simple_type 19 simple.Int) no_types) no_exceptions ([]) no_equates ([]) (statement_and (a_return 22
    (expression_and (a_name 21 (codes "x")) no_expressions)) no_statements)) ∷ []))) ∷ (a_routine 52 no_equates (routine 51 (codes "start_up") (codes
    "start_up") kind.Procedure [] ([]) no_types no_exceptions ([]) no_equates ([]) (statement_and (an_except 50 (a_call_statement 32 (a_call 31
    (an_operation 27 (a_named_type 26 (codes "c") no_constants) (codes "fail")) (expression_and (a_call 30 (an_operation 29 (a_named_type 28 (codes
    "c") no_constants) (codes "make")) no_expressions) no_expressions))) (when_and 49 ((codes "e") ∷ []) (objects (typed 34 ((codes "x") ∷ [])
    (a_named_type 33 (codes "c") no_constants) ∷ [])) (a_body no_equates (statement_and (a_call_statement 48 (a_call 47 (an_operation 36 (a_named_type
    35 (codes "stream") no_constants) (codes "putl")) (expression_and (a_call 39 (an_operation 38 (a_named_type 37 (codes "stream") no_constants)
    (codes "primary_output")) no_expressions) (expression_and (a_call 46 (an_operation 41 (a_simple_type 40 simple.Int) (codes "unparse"))
    (expression_and (a_call 45 (an_operation 43 (a_named_type 42 (codes "c") no_constants) (codes "get")) (expression_and (a_name 44 (codes "x"))
    no_expressions)) no_expressions)) no_expressions)))) no_statements)) no_whens) no_others) no_statements))) ∷ [])

abbrev a_cluster_in_a_signal_declared : List Declared
a_cluster_in_a_signal_declared =
    (d (codes "rep") 1 0 24 (Some 0) ∷ d (codes "make") 6 0 24 (Some 0) ∷ d (codes "x") 8 9 16 (Some 0) ∷ d (codes "fail") 16 0 24 (Some 0) ∷ d (codes
    "x") 18 19 23 (Some 0) ∷ d (codes "get") 23 0 24 (Some 0) ∷ d (codes "c") 24 0 4294967295 None ∷ d (codes "x") 34 35 48 (Some 0) ∷ d (codes
    "start_up") 51 0 4294967295 None ∷ [])

a_cluster_in_a_signal : Runs a_cluster_in_a_signal_declared a_cluster_in_a_signal_modules (codes "") 10000 returned_normally (53 ∷ 10 ∷ []) 4 172
unfolding executing computing digits
a_cluster_in_a_signal = refl

-- % abstract equality in arrays
-- c = cluster is make, equal rep = int make = proc (n: int) returns (cvt) return (n) end make
-- equal = proc (a, b: cvt) returns (bool) return (a // 10 = b // 10) end equal end c
-- start_up = proc () a: array[c] := array[c]$[c$make(1), c$make(2)] b: array[c] := array[c]$[c$make(11), c$make(22)]
-- if a ~= b then stream$putl(stream$primary_output(), "other") end if array[c]$similar1(a, b) then stream$putl(stream$primary_output(), "similar1") end
-- s: sequence[c] := sequence[c]$a2s(a) if s = sequence[c]$a2s(b) then stream$putl(stream$primary_output(), "equal") end
-- if struct[x: c]${x: a[1]} = struct[x: c]${x: b[1]} then stream$putl(stream$primary_output(), "structs") end end start_up
abbrev abstract_equality_in_arrays_modules : List Module
abstract_equality_in_arrays_modules =
    ((a_cluster 23 no_equates (cluster 22 (codes "c") (codes "c") [] ((codes "make") ∷ (codes "equal") ∷ []) ([]) (equate_and (an_equate 1 None
    (a_type (a_simple_type 0 simple.Int))) no_equates) ([]) ((routine 8 (codes "make") (codes "make") kind.Procedure [] (typed 3 ((codes "n") ∷ [])
    (a_simple_type 2 simple.Int) ∷ []) (type_and (a_simple_type 4 simple.Cvt) no_types) no_exceptions ([]) no_equates ([]) (statement_and (a_return 7
    (expression_and (a_name 6 (codes "n")) no_expressions)) no_statements)) ∷ (routine 21 (codes "equal") (codes "equal") kind.Procedure [] (typed 10
    ((codes "a") ∷ (codes "b") ∷ []) (a_simple_type 9 simple.Cvt) ∷ []) (type_and (a_simple_type 11 simple.Bool) no_types) no_exceptions ([])
    no_equates ([]) (statement_and (a_return 20 (expression_and (an_infix 19 op.Equal (an_infix 15 op.Remainder (a_name 13 (codes "a")) (a_literal 14
    (integer (codes "10")))) (an_infix 18 op.Remainder (a_name 16 (codes "b")) (a_literal 17 (integer (codes "10"))))) no_expressions))
    no_statements)) ∷ []))) ∷ (a_routine 130 no_equates (routine 129 (codes "start_up") (codes "start_up") kind.Procedure [] ([]) no_types
    no_exceptions ([]) no_equates ([]) (statement_and (an_init 37 (a_variable (codes "a") (a_list_type 25 list.Array (a_named_type 24 (codes "c")
    no_constants))) (elements 36 (a_list_type 27 list.Array (a_named_type 26 (codes "c") no_constants)) (expression_and (a_call 31 (an_operation 29
    (a_named_type 28 (codes "c") no_constants) (codes "make")) (expression_and (a_literal 30 (integer (codes "1"))) no_expressions)) (expression_and
    (a_call 35 (an_operation 33 (a_named_type 32 (codes "c") no_constants) (codes "make")) (expression_and (a_literal 34 (integer (codes "2")))
    no_expressions)) no_expressions)))) (statement_and (an_init 51 (a_variable (codes "b") (a_list_type 39 list.Array (a_named_type 38 (codes "c")
    no_constants))) (elements 50 (a_list_type 41 list.Array (a_named_type 40 (codes "c") no_constants)) (expression_and (a_call 45 (an_operation 43
    (a_named_type 42 (codes "c") no_constants) (codes "make")) (expression_and (a_literal 44 (integer (codes "11"))) no_expressions)) (expression_and
    (a_call 49 (an_operation 47 (a_named_type 46 (codes "c") no_constants) (codes "make")) (expression_and (a_literal 48 (integer (codes "22")))
    no_expressions)) no_expressions)))) (statement_and (an_if 63 (clause_and (an_infix 54 op.NotEqual (a_name 52 (codes "a")) (a_name 53 (codes "b")))
    (a_body no_equates (statement_and (a_call_statement 62 (a_call 61 (an_operation 56 (a_named_type 55 (codes "stream") no_constants) (codes "putl"))
    (expression_and (a_call 59 (an_operation 58 (a_named_type 57 (codes "stream") no_constants) (codes "primary_output")) no_expressions)
    (expression_and (a_literal 60 (string (34 ∷ 111 ∷ 116 ∷ 104 ∷ 101 ∷ 114 ∷ 34 ∷ []))) no_expressions)))) no_statements)) no_clauses) nothing_else)
    (statement_and (an_if 78 (clause_and (a_call 69 (an_operation 66 (a_list_type 65 list.Array (a_named_type 64 (codes "c") no_constants)) (codes
    "similar1")) (expression_and (a_name 67 (codes "a")) (expression_and (a_name 68 (codes "b")) no_expressions))) (a_body no_equates (statement_and
    (a_call_statement 77 (a_call 76 (an_operation 71 (a_named_type 70 (codes "stream") no_constants) (codes "putl")) (expression_and (a_call 74
    (an_operation 73 (a_named_type 72 (codes "stream") no_constants) (codes "primary_output")) no_expressions) (expression_and (a_literal 75 (string
    (34 ∷ 115 ∷ 105 ∷ 109 ∷ 105 ∷ 108 ∷ 97 ∷ 114 ∷ 49 ∷ 34 ∷ []))) no_expressions)))) no_statements)) no_clauses) nothing_else) (statement_and
    (an_init 86 (a_variable (codes "s") (a_list_type 80 list.Sequence (a_named_type 79 (codes "c") no_constants))) (a_call 85 (an_operation 83
    (a_list_type 82 list.Sequence (a_named_type 81 (codes "c") no_constants)) (codes "a2s")) (expression_and (a_name 84 (codes "a")) no_expressions)))
    (statement_and (an_if 102 (clause_and (an_infix 93 op.Equal (a_name 87 (codes "s")) (a_call 92 (an_operation 90 (a_list_type 89 list.Sequence
    (a_named_type 88 (codes "c") no_constants)) (codes "a2s")) (expression_and (a_name 91 (codes "b")) no_expressions))) (a_body no_equates
    (statement_and (a_call_statement 101 (a_call 100 (an_operation 95 (a_named_type 94 (codes "stream") no_constants) (codes "putl")) (expression_and
    (a_call 98 (an_operation 97 (a_named_type 96 (codes "stream") no_constants) (codes "primary_output")) no_expressions) (expression_and (a_literal
    99 (string (34 ∷ 101 ∷ 113 ∷ 117 ∷ 97 ∷ 108 ∷ 34 ∷ []))) no_expressions)))) no_statements)) no_clauses) nothing_else) (statement_and (an_if 128
    (clause_and (an_infix 119 op.Equal (fields 110 (a_fields_type 105 fields_word.Struct (selector_and 104 ((codes "x") ∷ []) (a_named_type 103 (codes
    "c") no_constants) no_selectors)) (component_and 109 ((codes "x") ∷ []) (an_index 108 (a_name 106 (codes "a")) (constant_and (an_expression
    (a_literal 107 (integer (codes "1")))) no_constants)) no_components)) (fields 118 (a_fields_type 113 fields_word.Struct (selector_and 112 ((codes
    "x") ∷ []) (a_named_type 111 (codes "c") no_constants) no_selectors)) (component_and 117 ((codes "x") ∷ []) (an_index 116 (a_name 114 (codes "b"))
    (constant_and (an_expression (a_literal 115 (integer (codes "1")))) no_constants)) no_components))) (a_body no_equates (statement_and
    (a_call_statement 127 (a_call 126 (an_operation 121 (a_named_type 120 (codes "stream") no_constants) (codes "putl")) (expression_and (a_call 124
    (an_operation 123 (a_named_type 122 (codes "stream") no_constants) (codes "primary_output")) no_expressions) (expression_and (a_literal 125
    (string (34 ∷ 115 ∷ 116 ∷ 114 ∷ 117 ∷ 99 ∷ 116 ∷ 115 ∷ 34 ∷ []))) no_expressions)))) no_statements)) no_clauses) nothing_else)
    no_statements))))))))) ∷ [])

abbrev abstract_equality_in_arrays_declared : List Declared
abstract_equality_in_arrays_declared =
    (d (codes "rep") 1 0 22 (Some 0) ∷ d (codes "n") 3 4 8 (Some 0) ∷ d (codes "make") 8 0 22 (Some 0) ∷ d (codes "a") 10 11 21 (Some 0) ∷ d (codes
    "b") 10 11 21 (Some 0) ∷ d (codes "equal") 21 0 22 (Some 0) ∷ d (codes "c") 22 0 4294967295 None ∷ d (codes "a") 37 38 129 (Some 0) ∷ d (codes
    "b") 51 52 129 (Some 0) ∷ d (codes "s") 86 87 129 (Some 0) ∷ d (codes "start_up") 129 0 4294967295 None ∷ [])

abstract_equality_in_arrays : Runs abstract_equality_in_arrays_declared abstract_equality_in_arrays_modules (codes "") 10000 returned_normally (111 ∷ 116 ∷ 104 ∷ 101 ∷ 114 ∷ 10 ∷ 115 ∷ 105 ∷ 109 ∷ 105 ∷ 108 ∷ 97 ∷ 114 ∷ 49 ∷ 10 ∷ 101 ∷ 113 ∷ 117 ∷ 97 ∷ 108 ∷ 10 ∷ 115 ∷ 116 ∷ 114 ∷ 117 ∷ 99 ∷ 116 ∷ 115 ∷ 10 ∷ []) 26 734
unfolding executing computing digits
abstract_equality_in_arrays = refl

-- % objects that are yielded as cvt
-- c = cluster is all, get
--   rep = int
--   all = iter () yields (cvt) yield (1) yield (2) end all
--   get = proc (x: cvt) returns (int) return (x) end get
-- end c
-- start_up = proc ()
--   for x: c in c$all() do stream$puts(stream$primary_output(), int$unparse(c$get(x))) end
-- end start_up
abbrev objects_that_are_yielded_as_cvt_modules : List Module
objects_that_are_yielded_as_cvt_modules =
    ((a_cluster 17 no_equates (cluster 16 (codes "c") (codes "c") [] ((codes "all") ∷ (codes "get") ∷ []) ([]) (equate_and (an_equate 1 None (a_type
    (a_simple_type 0 simple.Int))) no_equates) ([]) ((routine 8 (codes "all") (codes "all") kind.Iterator [] ([]) (type_and (a_simple_type 2
    simple.Cvt) no_types) no_exceptions ([]) no_equates ([]) (statement_and (a_yield 5 (expression_and (a_literal 4 (integer (codes "1")))
    no_expressions)) (statement_and (a_yield 7 (expression_and (a_literal 6 (integer (codes "2"))) no_expressions)) no_statements))) ∷ (routine 15
    (codes "get") (codes "get") kind.Procedure [] (typed 10 ((codes "x") ∷ []) (a_simple_type 9 simple.Cvt) ∷ []) (type_and (a_simple_type 11
    simple.Int) no_types) no_exceptions ([]) no_equates ([]) (statement_and (a_return 14 (expression_and (a_name 13 (codes "x")) no_expressions))
    no_statements)) ∷ []))) ∷ (a_routine 39 no_equates (routine 38 (codes "start_up") (codes "start_up") kind.Procedure [] ([]) no_types no_exceptions
    ([]) no_equates ([]) (statement_and (a_for 37 (typed 19 ((codes "x") ∷ []) (a_named_type 18 (codes "c") no_constants) ∷ []) (a_call 22
    (an_operation 21 (a_named_type 20 (codes "c") no_constants) (codes "all")) no_expressions) (a_body no_equates (statement_and (a_call_statement 36
    (a_call 35 (an_operation 24 (a_named_type 23 (codes "stream") no_constants) (codes "puts")) (expression_and (a_call 27 (an_operation 26
    (a_named_type 25 (codes "stream") no_constants) (codes "primary_output")) no_expressions) (expression_and (a_call 34 (an_operation 29
    (a_simple_type 28 simple.Int) (codes "unparse")) (expression_and (a_call 33 (an_operation 31 (a_named_type 30 (codes "c") no_constants) (codes
    "get")) (expression_and (a_name 32 (codes "x")) no_expressions)) no_expressions)) no_expressions)))) no_statements))) no_statements))) ∷ [])

abbrev objects_that_are_yielded_as_cvt_declared : List Declared
objects_that_are_yielded_as_cvt_declared =
    (d (codes "rep") 1 0 16 (Some 0) ∷ d (codes "all") 8 0 16 (Some 0) ∷ d (codes "x") 10 11 15 (Some 0) ∷ d (codes "get") 15 0 16 (Some 0) ∷ d (codes
    "c") 16 0 4294967295 None ∷ d (codes "x") 19 23 36 (Some 0) ∷ d (codes "start_up") 38 0 4294967295 None ∷ [])

objects_that_are_yielded_as_cvt : Runs objects_that_are_yielded_as_cvt_declared objects_that_are_yielded_as_cvt_modules (codes "") 10000 returned_normally (codes "12") 8 204
unfolding executing computing digits
objects_that_are_yielded_as_cvt = refl
