-- Programs that compute: operations of arrays. Each is the tree of the CLU above it.
use Rattle.std.specs.Fmt.{digits}
use Rattle.std.specs.Prelude.{refl, List, [], ◌∷◌, codes, Some, None}
use Rattle.clu_names.specs.declared.scopes.Declared.{Declared}
use Rattle.clu_syntax.specs.declared.words.Operator.TheVariants as op
use Rattle.clu_syntax.specs.declared.words.Sign.TheVariants as sign
use Rattle.clu_syntax.specs.declared.words.SimpleType.TheVariants as simple
use Rattle.clu_syntax.specs.declared.words.ListType.TheVariants as list
use Rattle.clu_syntax.specs.declared.words.RoutineKind.TheVariants as kind
use Rattle.clu_syntax.specs.Syntax.{integer, string, an_infix, a_prefix, a_literal, a_name, an_index, a_call, elements, elements_from, an_operation, no_expressions, expression_and, an_expression, a_type, no_constants, constant_and, a_simple_type, a_list_type, a_named_type, no_types, no_exceptions, an_equate, no_equates, equate_and, objects, an_init, an_assign, a_call_statement, a_for, an_except, no_statements, statement_and, a_body, no_whens, when_and, no_others, Module, a_routine}
use Rattle.clu_layout.specs.Computing.{computing}
use Rattle.clu_meaning.specs.Run.{returned_normally}
use Rattle.clu_meaning.specs.Executing.{executing}
use Rattle.clu_meaning.proofs.Running.{d, typed, a_variable, routine, Runs}

-- % array-sizes
-- pa = proc (a: array[int])
--   s: string := int$unparse(array[int]$low(a)) || ":"
--   for x: int in array[int]$elements(a) do s := s || " " || int$unparse(x) end
--   stream$putl(stream$primary_output(), s)
-- end pa
-- start_up = proc ()
-- ai = array[int]
-- a: ai := ai$[5: 1, 2, 3] stream$putl(stream$primary_output(), int$unparse(ai$size(a))) stream$putl(stream$primary_output(), int$unparse(ai$low(a))) stream$putl(stream$primary_output(), int$unparse(ai$high(a)))
--   b: ai := ai$create(5) stream$putl(stream$primary_output(), int$unparse(ai$size(b))) stream$putl(stream$primary_output(), int$unparse(ai$low(b))) stream$putl(stream$primary_output(), int$unparse(ai$high(b)))
-- end start_up
abbrev array_sizes_modules : List Module
array_sizes_modules =
    ((a_routine 41 no_equates (routine 40 (codes "pa") (codes "pa") kind.Procedure [] (typed 2 ((codes "a") ∷ []) (a_list_type 1 list.Array
    (a_simple_type 0 simple.Int)) ∷ []) no_types no_exceptions ([]) no_equates ([]) (statement_and (an_init 14 (a_variable (codes "s") (a_simple_type
    3 simple.String)) (an_infix 13 op.Concatenate (a_call 11 (an_operation 5 (a_simple_type 4 simple.Int) (codes "unparse")) (expression_and (a_call
    10 (an_operation 8 (a_list_type 7 list.Array (a_simple_type 6 simple.Int)) (codes "low")) (expression_and (a_name 9 (codes "a")) no_expressions))
    no_expressions)) (a_literal 12 (string (34 ∷ 58 ∷ 34 ∷ []))))) (statement_and (a_for 31 (typed 16 ((codes "x") ∷ []) (a_simple_type 15 simple.Int)
    ∷ []) (a_call 21 (an_operation 19 (a_list_type 18 list.Array (a_simple_type 17 simple.Int)) (codes "elements")) (expression_and (a_name 20 (codes
    "a")) no_expressions)) (a_body no_equates (statement_and (an_assign 30 ((codes "s") ∷ []) (expression_and (an_infix 29 op.Concatenate (an_infix 24
    op.Concatenate (a_name 22 (codes "s")) (a_literal 23 (string (34 ∷ 32 ∷ 34 ∷ [])))) (a_call 28 (an_operation 26 (a_simple_type 25 simple.Int)
    (codes "unparse")) (expression_and (a_name 27 (codes "x")) no_expressions))) no_expressions)) no_statements))) (statement_and (a_call_statement 39
    (a_call 38 (an_operation 33 (a_named_type 32 (codes "stream") no_constants) (codes "putl")) (expression_and (a_call 36 (an_operation 35
    (a_named_type 34 (codes "stream") no_constants) (codes "primary_output")) no_expressions) (expression_and (a_name 37 (codes "s"))
    no_expressions)))) no_statements))))) ∷ (a_routine 144 no_equates (routine 143 (codes "start_up") (codes "start_up") kind.Procedure [] ([])
    no_types no_exceptions ([]) (equate_and (an_equate 44 (Some (codes "ai")) (a_type (a_list_type 43 list.Array (a_simple_type 42 simple.Int))))
    no_equates) ([]) (statement_and (an_init 52 (a_variable (codes "a") (a_named_type 45 (codes "ai") no_constants)) (elements_from 51 (a_named_type
    46 (codes "ai") no_constants) (a_literal 47 (integer (codes "5"))) (expression_and (a_literal 48 (integer (codes "1"))) (expression_and (a_literal
    49 (integer (codes "2"))) (expression_and (a_literal 50 (integer (codes "3"))) no_expressions))))) (statement_and (a_call_statement 66 (a_call 65
    (an_operation 54 (a_named_type 53 (codes "stream") no_constants) (codes "putl")) (expression_and (a_call 57 (an_operation 56 (a_named_type 55
    (codes "stream") no_constants) (codes "primary_output")) no_expressions) (expression_and (a_call 64 (an_operation 59 (a_simple_type 58 simple.Int)
    (codes "unparse")) (expression_and (a_call 63 (an_operation 61 (a_named_type 60 (codes "ai") no_constants) (codes "size")) (expression_and (a_name
    62 (codes "a")) no_expressions)) no_expressions)) no_expressions)))) (statement_and (a_call_statement 80 (a_call 79 (an_operation 68 (a_named_type
    67 (codes "stream") no_constants) (codes "putl")) (expression_and (a_call 71 (an_operation 70 (a_named_type 69 (codes "stream") no_constants)
    (codes "primary_output")) no_expressions) (expression_and (a_call 78 (an_operation 73 (a_simple_type 72 simple.Int) (codes "unparse"))
    (expression_and (a_call 77 (an_operation 75 (a_named_type 74 (codes "ai") no_constants) (codes "low")) (expression_and (a_name 76 (codes "a"))
    no_expressions)) no_expressions)) no_expressions)))) (statement_and (a_call_statement 94 (a_call 93 (an_operation 82 (a_named_type 81 (codes
    "stream") no_constants) (codes "putl")) (expression_and (a_call 85 (an_operation 84 (a_named_type 83 (codes "stream") no_constants) (codes
    "primary_output")) no_expressions) (expression_and (a_call 92 (an_operation 87 (a_simple_type 86 simple.Int) (codes "unparse")) (expression_and
    (a_call 91 (an_operation 89 (a_named_type 88 (codes "ai") no_constants) (codes "high")) (expression_and (a_name 90 (codes "a")) no_expressions))
    no_expressions)) no_expressions)))) (statement_and (an_init 100 (a_variable (codes "b") (a_named_type 95 (codes "ai") no_constants)) (a_call 99
    (an_operation 97 (a_named_type 96 (codes "ai") no_constants) (codes "create")) (expression_and (a_literal 98 (integer (codes "5")))
    no_expressions))) (statement_and (a_call_statement 114 (a_call 113 (an_operation 102 (a_named_type 101 (codes "stream") no_constants) (codes
    "putl")) (expression_and (a_call 105 (an_operation 104 (a_named_type 103 (codes "stream") no_constants) (codes "primary_output")) no_expressions)
    (expression_and (a_call 112 (an_operation 107 (a_simple_type 106 simple.Int) (codes "unparse")) (expression_and (a_call 111 (an_operation 109
    (a_named_type 108 (codes "ai") no_constants) (codes "size")) (expression_and (a_name 110 (codes "b")) no_expressions)) no_expressions))
    no_expressions)))) (statement_and (a_call_statement 128 (a_call 127 (an_operation 116 (a_named_type 115 (codes "stream") no_constants) (codes
    "putl")) (expression_and (a_call 119 (an_operation 118 (a_named_type 117 (codes "stream") no_constants) (codes "primary_output")) no_expressions)
    (expression_and (a_call 126 (an_operation 121 (a_simple_type 120 simple.Int) (codes "unparse")) (expression_and (a_call 125 (an_operation 123
    (a_named_type 122 (codes "ai") no_constants) (codes "low")) (expression_and (a_name 124 (codes "b")) no_expressions)) no_expressions))
    no_expressions)))) (statement_and (a_call_statement 142 (a_call 141 (an_operation 130 (a_named_type 129 (codes "stream") no_constants) (codes
    "putl")) (expression_and (a_call 133 (an_operation 132 (a_named_type 131 (codes "stream") no_constants) (codes "primary_output")) no_expressions)
    (expression_and (a_call 140 (an_operation 135 (a_simple_type 134 simple.Int) (codes "unparse")) (expression_and (a_call 139 (an_operation 137
    (a_named_type 136 (codes "ai") no_constants) (codes "high")) (expression_and (a_name 138 (codes "b")) no_expressions)) no_expressions))
    no_expressions)))) no_statements)))))))))) ∷ [])

abbrev array_sizes_declared : List Declared
array_sizes_declared =
    (d (codes "a") 2 3 40 (Some 0) ∷ d (codes "s") 14 15 40 (Some 0) ∷ d (codes "x") 16 22 30 (Some 0) ∷ d (codes "pa") 40 0 4294967295 None ∷ d
    (codes "ai") 44 42 143 (Some 0) ∷ d (codes "a") 52 53 143 (Some 0) ∷ d (codes "b") 100 101 143 (Some 0) ∷ d (codes "start_up") 143 0 4294967295
    None ∷ [])

array_sizes : Runs array_sizes_declared array_sizes_modules (codes "") 10000 returned_normally (51 ∷ 10 ∷ 53 ∷ 10 ∷ 55 ∷ 10 ∷ 48 ∷ 10 ∷ 53 ∷ 10 ∷ 52 ∷ 10 ∷ []) 39 286
unfolding executing computing digits
array_sizes = refl

-- % array-set_low
-- pa = proc (a: array[int])
--   s: string := int$unparse(array[int]$low(a)) || ":"
--   for x: int in array[int]$elements(a) do s := s || " " || int$unparse(x) end
--   stream$putl(stream$primary_output(), s)
-- end pa
-- start_up = proc ()
-- ai = array[int]
-- a: ai := ai$[1, 2] ai$set_low(a, -5) pa(a) stream$putl(stream$primary_output(), int$unparse(a[-5])) x: int := a[1] except when bounds: stream$putl(stream$primary_output(), "b") end
-- end start_up
abbrev array_set_low_modules : List Module
array_set_low_modules =
    ((a_routine 41 no_equates (routine 40 (codes "pa") (codes "pa") kind.Procedure [] (typed 2 ((codes "a") ∷ []) (a_list_type 1 list.Array
    (a_simple_type 0 simple.Int)) ∷ []) no_types no_exceptions ([]) no_equates ([]) (statement_and (an_init 14 (a_variable (codes "s") (a_simple_type
    3 simple.String)) (an_infix 13 op.Concatenate (a_call 11 (an_operation 5 (a_simple_type 4 simple.Int) (codes "unparse")) (expression_and (a_call
    10 (an_operation 8 (a_list_type 7 list.Array (a_simple_type 6 simple.Int)) (codes "low")) (expression_and (a_name 9 (codes "a")) no_expressions))
    no_expressions)) (a_literal 12 (string (34 ∷ 58 ∷ 34 ∷ []))))) (statement_and (a_for 31 (typed 16 ((codes "x") ∷ []) (a_simple_type 15 simple.Int)
    ∷ []) (a_call 21 (an_operation 19 (a_list_type 18 list.Array (a_simple_type 17 simple.Int)) (codes "elements")) (expression_and (a_name 20 (codes
    "a")) no_expressions)) (a_body no_equates (statement_and (an_assign 30 ((codes "s") ∷ []) (expression_and (an_infix 29 op.Concatenate (an_infix 24
    op.Concatenate (a_name 22 (codes "s")) (a_literal 23 (string (34 ∷ 32 ∷ 34 ∷ [])))) (a_call 28 (an_operation 26 (a_simple_type 25 simple.Int)
    (codes "unparse")) (expression_and (a_name 27 (codes "x")) no_expressions))) no_expressions)) no_statements))) (statement_and (a_call_statement 39
    (a_call 38 (an_operation 33 (a_named_type 32 (codes "stream") no_constants) (codes "putl")) (expression_and (a_call 36 (an_operation 35
    (a_named_type 34 (codes "stream") no_constants) (codes "primary_output")) no_expressions) (expression_and (a_name 37 (codes "s"))
    no_expressions)))) no_statements))))) ∷ (a_routine 92 no_equates (routine 91 (codes "start_up") (codes "start_up") kind.Procedure [] ([]) no_types
    no_exceptions ([]) (equate_and (an_equate 44 (Some (codes "ai")) (a_type (a_list_type 43 list.Array (a_simple_type 42 simple.Int)))) no_equates)
    ([]) (statement_and (an_init 50 (a_variable (codes "a") (a_named_type 45 (codes "ai") no_constants)) (elements 49 (a_named_type 46 (codes "ai")
    no_constants) (expression_and (a_literal 47 (integer (codes "1"))) (expression_and (a_literal 48 (integer (codes "2"))) no_expressions))))
    (statement_and (a_call_statement 57 (a_call 56 (an_operation 52 (a_named_type 51 (codes "ai") no_constants) (codes "set_low")) (expression_and
    (a_name 53 (codes "a")) (expression_and (a_prefix 55 sign.Minus (a_literal 54 (integer (codes "5")))) no_expressions)))) (statement_and
    (a_call_statement 61 (a_call 60 (a_name 58 (codes "pa")) (expression_and (a_name 59 (codes "a")) no_expressions))) (statement_and
    (a_call_statement 75 (a_call 74 (an_operation 63 (a_named_type 62 (codes "stream") no_constants) (codes "putl")) (expression_and (a_call 66
    (an_operation 65 (a_named_type 64 (codes "stream") no_constants) (codes "primary_output")) no_expressions) (expression_and (a_call 73
    (an_operation 68 (a_simple_type 67 simple.Int) (codes "unparse")) (expression_and (an_index 72 (a_name 69 (codes "a")) (constant_and
    (an_expression (a_prefix 71 sign.Minus (a_literal 70 (integer (codes "5"))))) no_constants)) no_expressions)) no_expressions)))) (statement_and
    (an_except 90 (an_init 80 (a_variable (codes "x") (a_simple_type 76 simple.Int)) (an_index 79 (a_name 77 (codes "a")) (constant_and (an_expression
    (a_literal 78 (integer (codes "1")))) no_constants))) (when_and 89 ((codes "bounds") ∷ []) (objects []) (a_body no_equates (statement_and
    (a_call_statement 88 (a_call 87 (an_operation 82 (a_named_type 81 (codes "stream") no_constants) (codes "putl")) (expression_and (a_call 85
    (an_operation 84 (a_named_type 83 (codes "stream") no_constants) (codes "primary_output")) no_expressions) (expression_and (a_literal 86 (string
    (34 ∷ 98 ∷ 34 ∷ []))) no_expressions)))) no_statements)) no_whens) no_others) no_statements))))))) ∷ [])

abbrev array_set_low_declared : List Declared
array_set_low_declared =
    (d (codes "a") 2 3 40 (Some 0) ∷ d (codes "s") 14 15 40 (Some 0) ∷ d (codes "x") 16 22 30 (Some 0) ∷ d (codes "pa") 40 0 4294967295 None ∷ d
    (codes "ai") 44 42 91 (Some 0) ∷ d (codes "a") 50 51 91 (Some 0) ∷ d (codes "x") 80 81 91 (Some 0) ∷ d (codes "start_up") 91 0 4294967295 None ∷
    [])

array_set_low : Runs array_set_low_declared array_set_low_modules (codes "") 10000 returned_normally (45 ∷ 53 ∷ 58 ∷ 32 ∷ 49 ∷ 32 ∷ 50 ∷ 10 ∷ 49 ∷ 10 ∷ 98 ∷ 10 ∷ []) 34 650
unfolding executing computing digits
array_set_low = refl

-- % array-ends
-- pa = proc (a: array[int])
--   s: string := int$unparse(array[int]$low(a)) || ":"
--   for x: int in array[int]$elements(a) do s := s || " " || int$unparse(x) end
--   stream$putl(stream$primary_output(), s)
-- end pa
-- start_up = proc ()
-- ai = array[int]
-- a: ai := ai$[4: 7, 8] stream$putl(stream$primary_output(), int$unparse(ai$bottom(a))) stream$putl(stream$primary_output(), int$unparse(ai$top(a)))
--   x: int := ai$bottom(ai$new()) except when bounds: stream$putl(stream$primary_output(), "b") end
--   x := ai$top(ai$new()) except when bounds: stream$putl(stream$primary_output(), "t") end
-- end start_up
abbrev array_ends_modules : List Module
array_ends_modules =
    ((a_routine 41 no_equates (routine 40 (codes "pa") (codes "pa") kind.Procedure [] (typed 2 ((codes "a") ∷ []) (a_list_type 1 list.Array
    (a_simple_type 0 simple.Int)) ∷ []) no_types no_exceptions ([]) no_equates ([]) (statement_and (an_init 14 (a_variable (codes "s") (a_simple_type
    3 simple.String)) (an_infix 13 op.Concatenate (a_call 11 (an_operation 5 (a_simple_type 4 simple.Int) (codes "unparse")) (expression_and (a_call
    10 (an_operation 8 (a_list_type 7 list.Array (a_simple_type 6 simple.Int)) (codes "low")) (expression_and (a_name 9 (codes "a")) no_expressions))
    no_expressions)) (a_literal 12 (string (34 ∷ 58 ∷ 34 ∷ []))))) (statement_and (a_for 31 (typed 16 ((codes "x") ∷ []) (a_simple_type 15 simple.Int)
    ∷ []) (a_call 21 (an_operation 19 (a_list_type 18 list.Array (a_simple_type 17 simple.Int)) (codes "elements")) (expression_and (a_name 20 (codes
    "a")) no_expressions)) (a_body no_equates (statement_and (an_assign 30 ((codes "s") ∷ []) (expression_and (an_infix 29 op.Concatenate (an_infix 24
    op.Concatenate (a_name 22 (codes "s")) (a_literal 23 (string (34 ∷ 32 ∷ 34 ∷ [])))) (a_call 28 (an_operation 26 (a_simple_type 25 simple.Int)
    (codes "unparse")) (expression_and (a_name 27 (codes "x")) no_expressions))) no_expressions)) no_statements))) (statement_and (a_call_statement 39
    (a_call 38 (an_operation 33 (a_named_type 32 (codes "stream") no_constants) (codes "putl")) (expression_and (a_call 36 (an_operation 35
    (a_named_type 34 (codes "stream") no_constants) (codes "primary_output")) no_expressions) (expression_and (a_name 37 (codes "s"))
    no_expressions)))) no_statements))))) ∷ (a_routine 116 no_equates (routine 115 (codes "start_up") (codes "start_up") kind.Procedure [] ([])
    no_types no_exceptions ([]) (equate_and (an_equate 44 (Some (codes "ai")) (a_type (a_list_type 43 list.Array (a_simple_type 42 simple.Int))))
    no_equates) ([]) (statement_and (an_init 51 (a_variable (codes "a") (a_named_type 45 (codes "ai") no_constants)) (elements_from 50 (a_named_type
    46 (codes "ai") no_constants) (a_literal 47 (integer (codes "4"))) (expression_and (a_literal 48 (integer (codes "7"))) (expression_and (a_literal
    49 (integer (codes "8"))) no_expressions)))) (statement_and (a_call_statement 65 (a_call 64 (an_operation 53 (a_named_type 52 (codes "stream")
    no_constants) (codes "putl")) (expression_and (a_call 56 (an_operation 55 (a_named_type 54 (codes "stream") no_constants) (codes
    "primary_output")) no_expressions) (expression_and (a_call 63 (an_operation 58 (a_simple_type 57 simple.Int) (codes "unparse")) (expression_and
    (a_call 62 (an_operation 60 (a_named_type 59 (codes "ai") no_constants) (codes "bottom")) (expression_and (a_name 61 (codes "a")) no_expressions))
    no_expressions)) no_expressions)))) (statement_and (a_call_statement 79 (a_call 78 (an_operation 67 (a_named_type 66 (codes "stream")
    no_constants) (codes "putl")) (expression_and (a_call 70 (an_operation 69 (a_named_type 68 (codes "stream") no_constants) (codes
    "primary_output")) no_expressions) (expression_and (a_call 77 (an_operation 72 (a_simple_type 71 simple.Int) (codes "unparse")) (expression_and
    (a_call 76 (an_operation 74 (a_named_type 73 (codes "ai") no_constants) (codes "top")) (expression_and (a_name 75 (codes "a")) no_expressions))
    no_expressions)) no_expressions)))) (statement_and (an_except 97 (an_init 87 (a_variable (codes "x") (a_simple_type 80 simple.Int)) (a_call 86
    (an_operation 82 (a_named_type 81 (codes "ai") no_constants) (codes "bottom")) (expression_and (a_call 85 (an_operation 84 (a_named_type 83 (codes
    "ai") no_constants) (codes "new")) no_expressions) no_expressions))) (when_and 96 ((codes "bounds") ∷ []) (objects []) (a_body no_equates
    (statement_and (a_call_statement 95 (a_call 94 (an_operation 89 (a_named_type 88 (codes "stream") no_constants) (codes "putl")) (expression_and
    (a_call 92 (an_operation 91 (a_named_type 90 (codes "stream") no_constants) (codes "primary_output")) no_expressions) (expression_and (a_literal
    93 (string (34 ∷ 98 ∷ 34 ∷ []))) no_expressions)))) no_statements)) no_whens) no_others) (statement_and (an_except 114 (an_assign 104 ((codes "x")
    ∷ []) (expression_and (a_call 103 (an_operation 99 (a_named_type 98 (codes "ai") no_constants) (codes "top")) (expression_and (a_call 102
    (an_operation 101 (a_named_type 100 (codes "ai") no_constants) (codes "new")) no_expressions) no_expressions)) no_expressions)) (when_and 113
    ((codes "bounds") ∷ []) (objects []) (a_body no_equates (statement_and (a_call_statement 112 (a_call 111 (an_operation 106 (a_named_type 105
    (codes "stream") no_constants) (codes "putl")) (expression_and (a_call 109 (an_operation 108 (a_named_type 107 (codes "stream") no_constants)
    (codes "primary_output")) no_expressions) (expression_and (a_literal 110 (string (34 ∷ 116 ∷ 34 ∷ []))) no_expressions)))) no_statements))
    no_whens) no_others) no_statements))))))) ∷ [])

abbrev array_ends_declared : List Declared
array_ends_declared =
    (d (codes "a") 2 3 40 (Some 0) ∷ d (codes "s") 14 15 40 (Some 0) ∷ d (codes "x") 16 22 30 (Some 0) ∷ d (codes "pa") 40 0 4294967295 None ∷ d
    (codes "ai") 44 42 115 (Some 0) ∷ d (codes "a") 51 52 115 (Some 0) ∷ d (codes "x") 87 88 115 (Some 0) ∷ d (codes "start_up") 115 0 4294967295 None
    ∷ [])

array_ends : Runs array_ends_declared array_ends_modules (codes "") 10000 returned_normally (55 ∷ 10 ∷ 56 ∷ 10 ∷ 98 ∷ 10 ∷ 116 ∷ 10 ∷ []) 28 230
unfolding executing computing digits
array_ends = refl

-- % array-trim
-- pa = proc (a: array[int])
--   s: string := int$unparse(array[int]$low(a)) || ":"
--   for x: int in array[int]$elements(a) do s := s || " " || int$unparse(x) end
--   stream$putl(stream$primary_output(), s)
-- end pa
-- start_up = proc ()
-- ai = array[int]
-- a: ai := ai$[2: 10, 20, 30, 40] ai$trim(a, 3, 2) pa(a) ai$trim(a, 4, 100) pa(a)
--   ai$trim(a, 5, 3) pa(a) b: ai := ai$[1, 2] ai$trim(b, 1, 0) pa(b)
--   b := ai$[1, 2]
--   ai$trim(b, 0, 1) except when bounds: stream$putl(stream$primary_output(), "b0") end
--   ai$trim(b, 4, 1) except when bounds: stream$putl(stream$primary_output(), "b4") end
--   ai$trim(b, 1, -1) except when negative_size: stream$putl(stream$primary_output(), "n") end
--   ai$trim(b, 9, -1) except when negative_size: stream$putl(stream$primary_output(), "n9") when bounds: stream$putl(stream$primary_output(), "b9") end
--   pa(b)
-- end start_up
abbrev array_trim_modules : List Module
array_trim_modules =
    ((a_routine 41 no_equates (routine 40 (codes "pa") (codes "pa") kind.Procedure [] (typed 2 ((codes "a") ∷ []) (a_list_type 1 list.Array
    (a_simple_type 0 simple.Int)) ∷ []) no_types no_exceptions ([]) no_equates ([]) (statement_and (an_init 14 (a_variable (codes "s") (a_simple_type
    3 simple.String)) (an_infix 13 op.Concatenate (a_call 11 (an_operation 5 (a_simple_type 4 simple.Int) (codes "unparse")) (expression_and (a_call
    10 (an_operation 8 (a_list_type 7 list.Array (a_simple_type 6 simple.Int)) (codes "low")) (expression_and (a_name 9 (codes "a")) no_expressions))
    no_expressions)) (a_literal 12 (string (34 ∷ 58 ∷ 34 ∷ []))))) (statement_and (a_for 31 (typed 16 ((codes "x") ∷ []) (a_simple_type 15 simple.Int)
    ∷ []) (a_call 21 (an_operation 19 (a_list_type 18 list.Array (a_simple_type 17 simple.Int)) (codes "elements")) (expression_and (a_name 20 (codes
    "a")) no_expressions)) (a_body no_equates (statement_and (an_assign 30 ((codes "s") ∷ []) (expression_and (an_infix 29 op.Concatenate (an_infix 24
    op.Concatenate (a_name 22 (codes "s")) (a_literal 23 (string (34 ∷ 32 ∷ 34 ∷ [])))) (a_call 28 (an_operation 26 (a_simple_type 25 simple.Int)
    (codes "unparse")) (expression_and (a_name 27 (codes "x")) no_expressions))) no_expressions)) no_statements))) (statement_and (a_call_statement 39
    (a_call 38 (an_operation 33 (a_named_type 32 (codes "stream") no_constants) (codes "putl")) (expression_and (a_call 36 (an_operation 35
    (a_named_type 34 (codes "stream") no_constants) (codes "primary_output")) no_expressions) (expression_and (a_name 37 (codes "s"))
    no_expressions)))) no_statements))))) ∷ (a_routine 193 no_equates (routine 192 (codes "start_up") (codes "start_up") kind.Procedure [] ([])
    no_types no_exceptions ([]) (equate_and (an_equate 44 (Some (codes "ai")) (a_type (a_list_type 43 list.Array (a_simple_type 42 simple.Int))))
    no_equates) ([]) (statement_and (an_init 53 (a_variable (codes "a") (a_named_type 45 (codes "ai") no_constants)) (elements_from 52 (a_named_type
    46 (codes "ai") no_constants) (a_literal 47 (integer (codes "2"))) (expression_and (a_literal 48 (integer (codes "10"))) (expression_and
    (a_literal 49 (integer (codes "20"))) (expression_and (a_literal 50 (integer (codes "30"))) (expression_and (a_literal 51 (integer (codes "40")))
    no_expressions)))))) (statement_and (a_call_statement 60 (a_call 59 (an_operation 55 (a_named_type 54 (codes "ai") no_constants) (codes "trim"))
    (expression_and (a_name 56 (codes "a")) (expression_and (a_literal 57 (integer (codes "3"))) (expression_and (a_literal 58 (integer (codes "2")))
    no_expressions))))) (statement_and (a_call_statement 64 (a_call 63 (a_name 61 (codes "pa")) (expression_and (a_name 62 (codes "a"))
    no_expressions))) (statement_and (a_call_statement 71 (a_call 70 (an_operation 66 (a_named_type 65 (codes "ai") no_constants) (codes "trim"))
    (expression_and (a_name 67 (codes "a")) (expression_and (a_literal 68 (integer (codes "4"))) (expression_and (a_literal 69 (integer (codes
    "100"))) no_expressions))))) (statement_and (a_call_statement 75 (a_call 74 (a_name 72 (codes "pa")) (expression_and (a_name 73 (codes "a"))
    no_expressions))) (statement_and (a_call_statement 82 (a_call 81 (an_operation 77 (a_named_type 76 (codes "ai") no_constants) (codes "trim"))
    (expression_and (a_name 78 (codes "a")) (expression_and (a_literal 79 (integer (codes "5"))) (expression_and (a_literal 80 (integer (codes "3")))
    no_expressions))))) (statement_and (a_call_statement 86 (a_call 85 (a_name 83 (codes "pa")) (expression_and (a_name 84 (codes "a"))
    no_expressions))) (statement_and (an_init 92 (a_variable (codes "b") (a_named_type 87 (codes "ai") no_constants)) (elements 91 (a_named_type 88
    (codes "ai") no_constants) (expression_and (a_literal 89 (integer (codes "1"))) (expression_and (a_literal 90 (integer (codes "2")))
    no_expressions)))) (statement_and (a_call_statement 99 (a_call 98 (an_operation 94 (a_named_type 93 (codes "ai") no_constants) (codes "trim"))
    (expression_and (a_name 95 (codes "b")) (expression_and (a_literal 96 (integer (codes "1"))) (expression_and (a_literal 97 (integer (codes "0")))
    no_expressions))))) (statement_and (a_call_statement 103 (a_call 102 (a_name 100 (codes "pa")) (expression_and (a_name 101 (codes "b"))
    no_expressions))) (statement_and (an_assign 108 ((codes "b") ∷ []) (expression_and (elements 107 (a_named_type 104 (codes "ai") no_constants)
    (expression_and (a_literal 105 (integer (codes "1"))) (expression_and (a_literal 106 (integer (codes "2"))) no_expressions))) no_expressions))
    (statement_and (an_except 125 (a_call_statement 115 (a_call 114 (an_operation 110 (a_named_type 109 (codes "ai") no_constants) (codes "trim"))
    (expression_and (a_name 111 (codes "b")) (expression_and (a_literal 112 (integer (codes "0"))) (expression_and (a_literal 113 (integer (codes
    "1"))) no_expressions))))) (when_and 124 ((codes "bounds") ∷ []) (objects []) (a_body no_equates (statement_and (a_call_statement 123 (a_call 122
    (an_operation 117 (a_named_type 116 (codes "stream") no_constants) (codes "putl")) (expression_and (a_call 120 (an_operation 119 (a_named_type 118
    (codes "stream") no_constants) (codes "primary_output")) no_expressions) (expression_and (a_literal 121 (string (34 ∷ 98 ∷ 48 ∷ 34 ∷ [])))
    no_expressions)))) no_statements)) no_whens) no_others) (statement_and (an_except 142 (a_call_statement 132 (a_call 131 (an_operation 127
    (a_named_type 126 (codes "ai") no_constants) (codes "trim")) (expression_and (a_name 128 (codes "b")) (expression_and (a_literal 129 (integer
    (codes "4"))) (expression_and (a_literal 130 (integer (codes "1"))) no_expressions))))) (when_and 141 ((codes "bounds") ∷ []) (objects []) (a_body
    no_equates (statement_and (a_call_statement 140 (a_call 139 (an_operation 134 (a_named_type 133 (codes "stream") no_constants) (codes "putl"))
    (expression_and (a_call 137 (an_operation 136 (a_named_type 135 (codes "stream") no_constants) (codes "primary_output")) no_expressions)
    (expression_and (a_literal 138 (string (34 ∷ 98 ∷ 52 ∷ 34 ∷ []))) no_expressions)))) no_statements)) no_whens) no_others) (statement_and
    (an_except 160 (a_call_statement 150 (a_call 149 (an_operation 144 (a_named_type 143 (codes "ai") no_constants) (codes "trim")) (expression_and
    (a_name 145 (codes "b")) (expression_and (a_literal 146 (integer (codes "1"))) (expression_and (a_prefix 148 sign.Minus (a_literal 147 (integer
    (codes "1")))) no_expressions))))) (when_and 159 ((codes "negative_size") ∷ []) (objects []) (a_body no_equates (statement_and (a_call_statement
    158 (a_call 157 (an_operation 152 (a_named_type 151 (codes "stream") no_constants) (codes "putl")) (expression_and (a_call 155 (an_operation 154
    (a_named_type 153 (codes "stream") no_constants) (codes "primary_output")) no_expressions) (expression_and (a_literal 156 (string (34 ∷ 110 ∷ 34 ∷
    []))) no_expressions)))) no_statements)) no_whens) no_others) (statement_and (an_except 187 (a_call_statement 168 (a_call 167 (an_operation 162
    (a_named_type 161 (codes "ai") no_constants) (codes "trim")) (expression_and (a_name 163 (codes "b")) (expression_and (a_literal 164 (integer
    (codes "9"))) (expression_and (a_prefix 166 sign.Minus (a_literal 165 (integer (codes "1")))) no_expressions))))) (when_and 177 ((codes
    "negative_size") ∷ []) (objects []) (a_body no_equates (statement_and (a_call_statement 176 (a_call 175 (an_operation 170 (a_named_type 169 (codes
    "stream") no_constants) (codes "putl")) (expression_and (a_call 173 (an_operation 172 (a_named_type 171 (codes "stream") no_constants) (codes
    "primary_output")) no_expressions) (expression_and (a_literal 174 (string (34 ∷ 110 ∷ 57 ∷ 34 ∷ []))) no_expressions)))) no_statements)) (when_and
    186 ((codes "bounds") ∷ []) (objects []) (a_body no_equates (statement_and (a_call_statement 185 (a_call 184 (an_operation 179 (a_named_type 178
    (codes "stream") no_constants) (codes "putl")) (expression_and (a_call 182 (an_operation 181 (a_named_type 180 (codes "stream") no_constants)
    (codes "primary_output")) no_expressions) (expression_and (a_literal 183 (string (34 ∷ 98 ∷ 57 ∷ 34 ∷ []))) no_expressions)))) no_statements))
    no_whens)) no_others) (statement_and (a_call_statement 191 (a_call 190 (a_name 188 (codes "pa")) (expression_and (a_name 189 (codes "b"))
    no_expressions))) no_statements)))))))))))))))))) ∷ [])

abbrev array_trim_declared : List Declared
array_trim_declared =
    (d (codes "a") 2 3 40 (Some 0) ∷ d (codes "s") 14 15 40 (Some 0) ∷ d (codes "x") 16 22 30 (Some 0) ∷ d (codes "pa") 40 0 4294967295 None ∷ d
    (codes "ai") 44 42 192 (Some 0) ∷ d (codes "a") 53 54 192 (Some 0) ∷ d (codes "b") 92 93 192 (Some 0) ∷ d (codes "start_up") 192 0 4294967295 None
    ∷ [])

array_trim : Runs array_trim_declared array_trim_modules (codes "") 10000 returned_normally (51 ∷ 58 ∷ 32 ∷ 50 ∷ 48 ∷ 32 ∷ 51 ∷ 48 ∷ 10 ∷ 52 ∷ 58 ∷ 32 ∷ 51 ∷ 48 ∷ 10 ∷ 53 ∷ 58 ∷ 10 ∷ 49 ∷ 58 ∷ 10 ∷ 98 ∷ 48 ∷ 10 ∷ 98 ∷ 52 ∷ 10 ∷ 110 ∷ 10 ∷ 110 ∷ 57 ∷ 10 ∷ 49 ∷ 58 ∷ 32 ∷ 49 ∷ 32 ∷ 50 ∷ 10 ∷ []) 96 852
unfolding executing computing digits
array_trim = refl
