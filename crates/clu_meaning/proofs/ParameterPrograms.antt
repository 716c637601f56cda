-- Programs that compute: parameters and where clauses. Each is the tree of the CLU above it.
use Rattle.std.specs.Fmt.{digits}
use Rattle.std.specs.Prelude.{refl, List, [], ◌∷◌, codes, Some, None}
use Rattle.clu_types.specs.CluType as term
use Rattle.clu_types.specs.Substituted.{actuals_substituted}
use Rattle.clu_names.specs.declared.scopes.Declared.{Declared}
use Rattle.clu_syntax.specs.declared.words.Operator.TheVariants as op
use Rattle.clu_syntax.specs.declared.words.SimpleType.TheVariants as simple
use Rattle.clu_syntax.specs.declared.words.ListType.TheVariants as list
use Rattle.clu_syntax.specs.declared.words.FieldsType.TheVariants as fields_word
use Rattle.clu_syntax.specs.declared.words.RoutineKind.TheVariants as kind
use Rattle.clu_syntax.specs.Syntax.{integer, string, an_infix, a_literal, a_name, an_index, a_get, a_call, fields, elements, an_operation, no_expressions, expression_and, no_components, component_and, an_expression, a_type, no_constants, constant_and, a_simple_type, a_list_type, a_fields_type, a_routine_type, a_named_type, no_types, type_and, no_selectors, selector_and, no_exceptions, an_equate, no_equates, equate_and, objects, an_init, an_assign, a_call_statement, a_for, a_return, an_except, no_statements, statement_and, a_body, no_whens, when_and, no_others, has_operations, Module, a_routine, a_cluster}
use Rattle.clu_layout.specs.Computing.{computing}
use Rattle.clu_meaning.specs.Resolving.{resolved}
use Rattle.clu_meaning.specs.Run.{returned_normally}
use Rattle.clu_meaning.specs.Headings.{HeadingsStand}
use Rattle.clu_meaning.specs.Executing.{executing}
use Rattle.clu_meaning.proofs.Running.{d, typed, a_variable, parameter, routine, cluster, file, Runs}

-- % a type parameter
-- first = proc [t: type] (a: array[t], d: t) returns (t) return (array[t]$bottom(a)) except when bounds: return (d) end end first
-- start_up = proc () stream$putl(stream$primary_output(), int$unparse(first[int](array[int]$[7, 8], 0))) stream$putl(stream$primary_output(), first[string](array[string]$new(), "none")) end start_up
abbrev a_type_parameter_modules : List Module
a_type_parameter_modules =
    ((a_routine 19 no_equates (routine 18 (codes "first") (codes "first") kind.Procedure (parameter 0 ((codes "t") ∷ []) None ∷ []) (typed 3 ((codes
    "a") ∷ []) (a_list_type 2 list.Array (a_named_type 1 (codes "t") no_constants)) ∷ typed 5 ((codes "d") ∷ []) (a_named_type 4 (codes "t")
    no_constants) ∷ []) (type_and (a_named_type 6 (codes "t") no_constants) no_types) no_exceptions ([]) no_equates ([]) (statement_and (an_except 17
    (a_return 13 (expression_and (a_call 12 (an_operation 10 (a_list_type 9 list.Array (a_named_type 8 (codes "t") no_constants)) (codes "bottom"))
    (expression_and (a_name 11 (codes "a")) no_expressions)) no_expressions)) (when_and 16 ((codes "bounds") ∷ []) (objects []) (a_body no_equates
    (statement_and (a_return 15 (expression_and (a_name 14 (codes "d")) no_expressions)) no_statements)) no_whens) no_others) no_statements))) ∷
    (a_routine 57 no_equates (routine 56 (codes "start_up") (codes "start_up") kind.Procedure [] ([]) no_types no_exceptions ([]) no_equates ([])
    (statement_and (a_call_statement 39 (a_call 38 (an_operation 21 (a_named_type 20 (codes "stream") no_constants) (codes "putl")) (expression_and
    (a_call 24 (an_operation 23 (a_named_type 22 (codes "stream") no_constants) (codes "primary_output")) no_expressions) (expression_and (a_call 37
    (an_operation 26 (a_simple_type 25 simple.Int) (codes "unparse")) (expression_and (a_call 36 (an_index 29 (a_name 27 (codes "first"))
    (constant_and (a_type (a_simple_type 28 simple.Int)) no_constants)) (expression_and (elements 34 (a_list_type 31 list.Array (a_simple_type 30
    simple.Int)) (expression_and (a_literal 32 (integer (codes "7"))) (expression_and (a_literal 33 (integer (codes "8"))) no_expressions)))
    (expression_and (a_literal 35 (integer (codes "0"))) no_expressions))) no_expressions)) no_expressions)))) (statement_and (a_call_statement 55
    (a_call 54 (an_operation 41 (a_named_type 40 (codes "stream") no_constants) (codes "putl")) (expression_and (a_call 44 (an_operation 43
    (a_named_type 42 (codes "stream") no_constants) (codes "primary_output")) no_expressions) (expression_and (a_call 53 (an_index 47 (a_name 45
    (codes "first")) (constant_and (a_type (a_simple_type 46 simple.String)) no_constants)) (expression_and (a_call 51 (an_operation 50 (a_list_type
    49 list.Array (a_simple_type 48 simple.String)) (codes "new")) no_expressions) (expression_and (a_literal 52 (string (34 ∷ 110 ∷ 111 ∷ 110 ∷ 101 ∷
    34 ∷ []))) no_expressions))) no_expressions)))) no_statements)))) ∷ [])

abbrev a_type_parameter_declared : List Declared
a_type_parameter_declared =
    (d (codes "t") 0 0 18 (Some 0) ∷ d (codes "a") 3 4 18 (Some 0) ∷ d (codes "d") 5 6 18 (Some 0) ∷ d (codes "first") 18 0 4294967295 None ∷ d (codes
    "start_up") 56 0 4294967295 None ∷ [])

a_type_parameter : Runs a_type_parameter_declared a_type_parameter_modules (codes "") 10000 returned_normally (55 ∷ 10 ∷ 110 ∷ 111 ∷ 110 ∷ 101 ∷ 10 ∷ []) 18 212
unfolding executing computing digits
a_type_parameter = refl

-- % operations of a parameter
-- s = cluster is zero, add, show rep = string zero = proc () returns (cvt) return ("") end zero
-- add = proc (a, b: cvt) returns (cvt) return (a || b || ".") end add show = proc (a: cvt) returns (string) return ("<" || a || ">") end show end s
-- i = cluster is zero, add, show rep = int zero = proc () returns (cvt) return (100) end zero
-- add = proc (a, b: cvt) returns (cvt) return (a + b) end add show = proc (a: cvt) returns (string) return (int$unparse(a)) end show end i
-- total = proc [t: type] (n: int) returns (string) where t has zero: proctype () returns (t), add: proctype (t, t) returns (t), show: proctype (t) returns (string)
-- x: t := t$zero() for k: int in int$from_to(1, n) do x := x + t$zero() end return (t$show(x)) end total
-- start_up = proc () stream$putl(stream$primary_output(), total[s](3)) stream$putl(stream$primary_output(), total[i](2)) end start_up
abbrev operations_of_a_parameter_modules : List Module
operations_of_a_parameter_modules =
    ((a_cluster 30 no_equates (cluster 29 (codes "s") (codes "s") [] ((codes "zero") ∷ (codes "add") ∷ (codes "show") ∷ []) ([]) (equate_and
    (an_equate 1 None (a_type (a_simple_type 0 simple.String))) no_equates) ([]) ((routine 6 (codes "zero") (codes "zero") kind.Procedure [] ([])
    (type_and (a_simple_type 2 simple.Cvt) no_types) no_exceptions ([]) no_equates ([]) (statement_and (a_return 5 (expression_and (a_literal 4
    (string (34 ∷ 34 ∷ []))) no_expressions)) no_statements)) ∷ (routine 17 (codes "add") (codes "add") kind.Procedure [] (typed 8 ((codes "a") ∷
    (codes "b") ∷ []) (a_simple_type 7 simple.Cvt) ∷ []) (type_and (a_simple_type 9 simple.Cvt) no_types) no_exceptions ([]) no_equates ([])
    (statement_and (a_return 16 (expression_and (an_infix 15 op.Concatenate (an_infix 13 op.Concatenate (a_name 11 (codes "a")) (a_name 12 (codes
    "b"))) (a_literal 14 (string (34 ∷ 46 ∷ 34 ∷ [])))) no_expressions)) no_statements)) ∷ (routine 28 (codes "show") (codes "show") kind.Procedure []
    (typed 19 ((codes "a") ∷ []) (a_simple_type 18 simple.Cvt) ∷ []) (type_and (a_simple_type 20 simple.String) no_types) no_exceptions ([])
    no_equates ([]) (statement_and (a_return 27 (expression_and (an_infix 26 op.Concatenate (an_infix 24 op.Concatenate (a_literal 22 (string (34 ∷ 60
    ∷ 34 ∷ []))) (a_name 23 (codes "a"))) (a_literal 25 (string (34 ∷ 62 ∷ 34 ∷ [])))) no_expressions)) no_statements)) ∷ []))) ∷ (a_cluster 58
    no_equates (cluster 57 (codes "i") (codes "i") [] ((codes "zero") ∷ (codes "add") ∷ (codes "show") ∷ []) ([]) (equate_and (an_equate 32 None
    (a_type (a_simple_type 31 simple.Int))) no_equates) ([]) ((routine 37 (codes "zero") (codes "zero") kind.Procedure [] ([]) (type_and
    (a_simple_type 33 simple.Cvt) no_types) no_exceptions ([]) no_equates ([]) (statement_and (a_return 36 (expression_and (a_literal 35 (integer
    (codes "100"))) no_expressions)) no_statements)) ∷ (routine 46 (codes "add") (codes "add") kind.Procedure [] (typed 39 ((codes "a") ∷ (codes "b")
    ∷ []) (a_simple_type 38 simple.Cvt) ∷ []) (type_and (a_simple_type 40 simple.Cvt) no_types) no_exceptions ([]) no_equates ([]) (statement_and
    (a_return 45 (expression_and (an_infix 44 op.Add (a_name 42 (codes "a")) (a_name 43 (codes "b"))) no_expressions)) no_statements)) ∷ (routine 56
    (codes "show") (codes "show") kind.Procedure [] (typed 48 ((codes "a") ∷ []) (a_simple_type 47 simple.Cvt) ∷ []) (type_and (a_simple_type 49
    simple.String) no_types) no_exceptions ([]) no_equates ([]) (statement_and (a_return 55 (expression_and (a_call 54 (an_operation 52 (a_simple_type
    51 simple.Int) (codes "unparse")) (expression_and (a_name 53 (codes "a")) no_expressions)) no_expressions)) no_statements)) ∷ []))) ∷ (a_routine
    106 no_equates (routine 105 (codes "total") (codes "total") kind.Procedure (parameter 59 ((codes "t") ∷ []) None ∷ []) (typed 61 ((codes "n") ∷
    []) (a_simple_type 60 simple.Int) ∷ []) (type_and (a_simple_type 62 simple.String) no_types) no_exceptions ((has_operations 79 (codes "t") (typed
    67 ((codes "zero") ∷ []) (a_routine_type 66 kind.Procedure no_types (type_and (a_named_type 64 (codes "t") no_constants) no_types) no_exceptions)
    ∷ typed 73 ((codes "add") ∷ []) (a_routine_type 72 kind.Procedure (type_and (a_named_type 68 (codes "t") no_constants) (type_and (a_named_type 69
    (codes "t") no_constants) no_types)) (type_and (a_named_type 70 (codes "t") no_constants) no_types) no_exceptions) ∷ typed 78 ((codes "show") ∷
    []) (a_routine_type 77 kind.Procedure (type_and (a_named_type 74 (codes "t") no_constants) no_types) (type_and (a_simple_type 75 simple.String)
    no_types) no_exceptions) ∷ [])) ∷ []) no_equates ([]) (statement_and (an_init 85 (a_variable (codes "x") (a_named_type 81 (codes "t")
    no_constants)) (a_call 84 (an_operation 83 (a_named_type 82 (codes "t") no_constants) (codes "zero")) no_expressions)) (statement_and (a_for 99
    (typed 87 ((codes "k") ∷ []) (a_simple_type 86 simple.Int) ∷ []) (a_call 92 (an_operation 89 (a_simple_type 88 simple.Int) (codes "from_to"))
    (expression_and (a_literal 90 (integer (codes "1"))) (expression_and (a_name 91 (codes "n")) no_expressions))) (a_body no_equates (statement_and
    (an_assign 98 ((codes "x") ∷ []) (expression_and (an_infix 97 op.Add (a_name 93 (codes "x")) (a_call 96 (an_operation 95 (a_named_type 94 (codes
    "t") no_constants) (codes "zero")) no_expressions)) no_expressions)) no_statements))) (statement_and (a_return 104 (expression_and (a_call 103
    (an_operation 101 (a_named_type 100 (codes "t") no_constants) (codes "show")) (expression_and (a_name 102 (codes "x")) no_expressions))
    no_expressions)) no_statements))))) ∷ (a_routine 132 no_equates (routine 131 (codes "start_up") (codes "start_up") kind.Procedure [] ([]) no_types
    no_exceptions ([]) no_equates ([]) (statement_and (a_call_statement 118 (a_call 117 (an_operation 108 (a_named_type 107 (codes "stream")
    no_constants) (codes "putl")) (expression_and (a_call 111 (an_operation 110 (a_named_type 109 (codes "stream") no_constants) (codes
    "primary_output")) no_expressions) (expression_and (a_call 116 (an_index 114 (a_name 112 (codes "total")) (constant_and (an_expression (a_name 113
    (codes "s"))) no_constants)) (expression_and (a_literal 115 (integer (codes "3"))) no_expressions)) no_expressions)))) (statement_and
    (a_call_statement 130 (a_call 129 (an_operation 120 (a_named_type 119 (codes "stream") no_constants) (codes "putl")) (expression_and (a_call 123
    (an_operation 122 (a_named_type 121 (codes "stream") no_constants) (codes "primary_output")) no_expressions) (expression_and (a_call 128 (an_index
    126 (a_name 124 (codes "total")) (constant_and (an_expression (a_name 125 (codes "i"))) no_constants)) (expression_and (a_literal 127 (integer
    (codes "2"))) no_expressions)) no_expressions)))) no_statements)))) ∷ [])

abbrev operations_of_a_parameter_declared : List Declared
operations_of_a_parameter_declared =
    (d (codes "rep") 1 0 29 (Some 0) ∷ d (codes "zero") 6 0 29 (Some 0) ∷ d (codes "a") 8 9 17 (Some 0) ∷ d (codes "b") 8 9 17 (Some 0) ∷ d (codes
    "add") 17 0 29 (Some 0) ∷ d (codes "a") 19 20 28 (Some 0) ∷ d (codes "show") 28 0 29 (Some 0) ∷ d (codes "s") 29 0 4294967295 None ∷ d (codes
    "rep") 32 31 57 (Some 0) ∷ d (codes "zero") 37 31 57 (Some 0) ∷ d (codes "a") 39 40 46 (Some 0) ∷ d (codes "b") 39 40 46 (Some 0) ∷ d (codes
    "add") 46 31 57 (Some 0) ∷ d (codes "a") 48 49 56 (Some 0) ∷ d (codes "show") 56 31 57 (Some 0) ∷ d (codes "i") 57 0 4294967295 None ∷ d (codes
    "t") 59 59 105 (Some 0) ∷ d (codes "n") 61 62 105 (Some 0) ∷ d (codes "x") 85 86 105 (Some 0) ∷ d (codes "k") 87 93 98 (Some 0) ∷ d (codes
    "total") 105 0 4294967295 None ∷ d (codes "start_up") 131 0 4294967295 None ∷ [])

operations_of_a_parameter : Runs operations_of_a_parameter_declared operations_of_a_parameter_modules (codes "") 10000 returned_normally (60 ∷ 46 ∷ 46 ∷ 46 ∷ 62 ∷ 10 ∷ 51 ∷ 48 ∷ 48 ∷ 10 ∷ []) 19 468
unfolding executing computing digits
operations_of_a_parameter = refl

-- % a parameterised cluster
-- pair = cluster [s, t: type] is make, left, right, swap rep = struct[l: s, r: t]
-- make = proc (a: s, b: t) returns (cvt) return (rep${l: a, r: b}) end make
-- left = proc (p: cvt) returns (s) return (p.l) end left right = proc (p: cvt) returns (t) return (p.r) end right
-- swap = proc (p: pair[s, t]) returns (pair[t, s]) return (pair[t, s]$make(right(p), left(p))) end swap end pair
-- start_up = proc () p: pair[int, string] := pair[int, string]$make(1, "x") q: pair[string, int] := pair[int, string]$swap(p)
-- stream$putl(stream$primary_output(), pair[string, int]$left(q)) stream$putl(stream$primary_output(), int$unparse(pair[string, int]$right(q))) end start_up
abbrev a_parameterised_cluster_modules : List Module
a_parameterised_cluster_modules =
    ((a_cluster 59 no_equates (cluster 58 (codes "pair") (codes "pair") (parameter 0 ((codes "s") ∷ (codes "t") ∷ []) None ∷ []) ((codes "make") ∷
    (codes "left") ∷ (codes "right") ∷ (codes "swap") ∷ []) ([]) (equate_and (an_equate 6 None (a_type (a_fields_type 5 fields_word.Struct
    (selector_and 2 ((codes "l") ∷ []) (a_named_type 1 (codes "s") no_constants) (selector_and 4 ((codes "r") ∷ []) (a_named_type 3 (codes "t")
    no_constants) no_selectors))))) no_equates) ([]) ((routine 20 (codes "make") (codes "make") kind.Procedure [] (typed 8 ((codes "a") ∷ [])
    (a_named_type 7 (codes "s") no_constants) ∷ typed 10 ((codes "b") ∷ []) (a_named_type 9 (codes "t") no_constants) ∷ []) (type_and (a_simple_type
    11 simple.Cvt) no_types) no_exceptions ([]) no_equates ([]) (statement_and (a_return 19 (expression_and (fields 18 (a_simple_type 13 simple.Rep)
    (component_and 15 ((codes "l") ∷ []) (a_name 14 (codes "a")) (component_and 17 ((codes "r") ∷ []) (a_name 16 (codes "b")) no_components)))
    no_expressions)) no_statements)) ∷ (routine 28 (codes "left") (codes "left") kind.Procedure [] (typed 22 ((codes "p") ∷ []) (a_simple_type 21
    simple.Cvt) ∷ []) (type_and (a_named_type 23 (codes "s") no_constants) no_types) no_exceptions ([]) no_equates ([]) (statement_and (a_return 27
    (expression_and (a_get 26 (a_name 25 (codes "p")) (codes "l")) no_expressions)) no_statements)) ∷ (routine 36 (codes "right") (codes "right")
    kind.Procedure [] (typed 30 ((codes "p") ∷ []) (a_simple_type 29 simple.Cvt) ∷ []) (type_and (a_named_type 31 (codes "t") no_constants) no_types)
    no_exceptions ([]) no_equates ([]) (statement_and (a_return 35 (expression_and (a_get 34 (a_name 33 (codes "p")) (codes "r")) no_expressions))
    no_statements)) ∷ (routine 57 (codes "swap") (codes "swap") kind.Procedure [] (typed 40 ((codes "p") ∷ []) (a_named_type 39 (codes "pair")
    (constant_and (an_expression (a_name 37 (codes "s"))) (constant_and (an_expression (a_name 38 (codes "t"))) no_constants))) ∷ []) (type_and
    (a_named_type 43 (codes "pair") (constant_and (an_expression (a_name 41 (codes "t"))) (constant_and (an_expression (a_name 42 (codes "s")))
    no_constants))) no_types) no_exceptions ([]) no_equates ([]) (statement_and (a_return 56 (expression_and (a_call 55 (an_operation 48 (a_named_type
    47 (codes "pair") (constant_and (an_expression (a_name 45 (codes "t"))) (constant_and (an_expression (a_name 46 (codes "s"))) no_constants)))
    (codes "make")) (expression_and (a_call 51 (a_name 49 (codes "right")) (expression_and (a_name 50 (codes "p")) no_expressions)) (expression_and
    (a_call 54 (a_name 52 (codes "left")) (expression_and (a_name 53 (codes "p")) no_expressions)) no_expressions))) no_expressions)) no_statements))
    ∷ []))) ∷ (a_routine 111 no_equates (routine 110 (codes "start_up") (codes "start_up") kind.Procedure [] ([]) no_types no_exceptions ([])
    no_equates ([]) (statement_and (an_init 70 (a_variable (codes "p") (a_named_type 62 (codes "pair") (constant_and (a_type (a_simple_type 60
    simple.Int)) (constant_and (a_type (a_simple_type 61 simple.String)) no_constants)))) (a_call 69 (an_operation 66 (a_named_type 65 (codes "pair")
    (constant_and (a_type (a_simple_type 63 simple.Int)) (constant_and (a_type (a_simple_type 64 simple.String)) no_constants))) (codes "make"))
    (expression_and (a_literal 67 (integer (codes "1"))) (expression_and (a_literal 68 (string (34 ∷ 120 ∷ 34 ∷ []))) no_expressions))))
    (statement_and (an_init 80 (a_variable (codes "q") (a_named_type 73 (codes "pair") (constant_and (a_type (a_simple_type 71 simple.String))
    (constant_and (a_type (a_simple_type 72 simple.Int)) no_constants)))) (a_call 79 (an_operation 77 (a_named_type 76 (codes "pair") (constant_and
    (a_type (a_simple_type 74 simple.Int)) (constant_and (a_type (a_simple_type 75 simple.String)) no_constants))) (codes "swap")) (expression_and
    (a_name 78 (codes "p")) no_expressions))) (statement_and (a_call_statement 93 (a_call 92 (an_operation 82 (a_named_type 81 (codes "stream")
    no_constants) (codes "putl")) (expression_and (a_call 85 (an_operation 84 (a_named_type 83 (codes "stream") no_constants) (codes
    "primary_output")) no_expressions) (expression_and (a_call 91 (an_operation 89 (a_named_type 88 (codes "pair") (constant_and (a_type
    (a_simple_type 86 simple.String)) (constant_and (a_type (a_simple_type 87 simple.Int)) no_constants))) (codes "left")) (expression_and (a_name 90
    (codes "q")) no_expressions)) no_expressions)))) (statement_and (a_call_statement 109 (a_call 108 (an_operation 95 (a_named_type 94 (codes
    "stream") no_constants) (codes "putl")) (expression_and (a_call 98 (an_operation 97 (a_named_type 96 (codes "stream") no_constants) (codes
    "primary_output")) no_expressions) (expression_and (a_call 107 (an_operation 100 (a_simple_type 99 simple.Int) (codes "unparse")) (expression_and
    (a_call 106 (an_operation 104 (a_named_type 103 (codes "pair") (constant_and (a_type (a_simple_type 101 simple.String)) (constant_and (a_type
    (a_simple_type 102 simple.Int)) no_constants))) (codes "right")) (expression_and (a_name 105 (codes "q")) no_expressions)) no_expressions))
    no_expressions)))) no_statements)))))) ∷ [])

abbrev a_parameterised_cluster_declared : List Declared
a_parameterised_cluster_declared =
    (d (codes "s") 0 0 58 (Some 0) ∷ d (codes "t") 0 0 58 (Some 0) ∷ d (codes "rep") 6 0 58 (Some 0) ∷ d (codes "a") 8 9 20 (Some 0) ∷ d (codes "b")
    10 11 20 (Some 0) ∷ d (codes "make") 20 0 58 (Some 0) ∷ d (codes "p") 22 23 28 (Some 0) ∷ d (codes "left") 28 0 58 (Some 0) ∷ d (codes "p") 30 31
    36 (Some 0) ∷ d (codes "right") 36 0 58 (Some 0) ∷ d (codes "p") 40 41 57 (Some 0) ∷ d (codes "swap") 57 0 58 (Some 0) ∷ d (codes "pair") 58 0
    4294967295 None ∷ d (codes "p") 70 71 110 (Some 0) ∷ d (codes "q") 80 81 110 (Some 0) ∷ d (codes "start_up") 110 0 4294967295 None ∷ [])

a_parameterised_cluster : Runs a_parameterised_cluster_declared a_parameterised_cluster_modules (codes "") 10000 returned_normally (120 ∷ 10 ∷ 49 ∷ 10 ∷ []) 10 290
unfolding executing computing digits
a_parameterised_cluster = refl

-- its headings stand, whatever the actuals
a_parameterised_cluster_headings : HeadingsStand (resolved (file a_parameterised_cluster_declared a_parameterised_cluster_modules ∷ []))
unfolding executing
a_parameterised_cluster_headings =
    let own : term.Actuals = term.actual_type (term.parameter 1) (term.actual_type (term.parameter 2) term.no_actuals) in (
      (
        record {
          declared = (refl, (refl, tt));
          formals = (tt, (tt, tt));
          results = ((λ given. record { actuals = actuals_substituted given own; type = refl; inside = refl }), tt);
          signals = tt;
        },
        (
          record { declared = (refl, tt); formals = ((λ given. record { actuals = actuals_substituted given own; type = refl; inside = refl }), tt); results = (tt, tt); signals = tt },
          (
            record { declared = (refl, tt); formals = ((λ given. record { actuals = actuals_substituted given own; type = refl; inside = refl }), tt); results = (tt, tt); signals = tt },
            (record { declared = (refl, tt); formals = (tt, tt); results = (tt, tt); signals = tt }, tt),
          ),
        ),
      ),
      (record { declared = tt; formals = tt; results = tt; signals = tt }, tt),
    )
