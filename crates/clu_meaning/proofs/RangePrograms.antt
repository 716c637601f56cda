-- Programs that compute: arrays whose bounds would leave the ints. Each is the tree of the CLU above it.
use Rattle.std.specs.Fmt.{digits}
use Rattle.std.specs.Prelude.{refl, List, [], ◌∷◌, codes, Some, None}
use Rattle.clu_names.specs.declared.scopes.Declared.{Declared}
use Rattle.clu_syntax.specs.declared.words.Operator.TheVariants as op
use Rattle.clu_syntax.specs.declared.words.Sign.TheVariants as sign
use Rattle.clu_syntax.specs.declared.words.SimpleType.TheVariants as simple
use Rattle.clu_syntax.specs.declared.words.ListType.TheVariants as list
use Rattle.clu_syntax.specs.declared.words.RoutineKind.TheVariants as kind
use Rattle.clu_syntax.specs.Syntax.{integer, string, an_infix, a_prefix, a_paren, a_literal, a_name, an_index, a_call, elements, an_operation, no_expressions, expression_and, an_expression, a_type, no_constants, constant_and, a_simple_type, a_list_type, a_named_type, no_types, no_exceptions, an_equate, no_equates, equate_and, objects, an_init, an_assign, a_set_index, a_call_statement, a_for, an_except, no_statements, statement_and, a_body, no_whens, when_and, no_others, Module, a_routine}
use Rattle.clu_layout.specs.Computing.{computing}
use Rattle.clu_meaning.specs.Run.{returned_normally, failure_with}
use Rattle.clu_meaning.specs.Executing.{executing}
use Rattle.clu_meaning.proofs.Running.{d, typed, a_variable, routine, Runs}

-- % array-range-fill
-- pa = proc (a: array[int])
--   s: string := int$unparse(array[int]$low(a)) || ":"
--   for x: int in array[int]$elements(a) do s := s || " " || int$unparse(x) end
--   stream$putl(stream$primary_output(), s)
-- end pa
-- start_up = proc ()
-- ai = array[int]
-- a: ai := ai$fill(9223372036854775807, 2, 0) except when failure (s: string): stream$putl(stream$primary_output(), s) end
-- a := ai$fill(9223372036854775807, 1, 0) stream$putl(stream$primary_output(), int$unparse(ai$high(a))) a := ai$fill((-9223372036854775807 - 1), 1, 0) except when failure (s: string): stream$putl(stream$primary_output(), s) end
-- a := ai$fill((-9223372036854775807 - 1), -1, 0) except when negative_size: stream$putl(stream$primary_output(), "n") end a := ai$fill((-9223372036854775807 - 1), 0, 0) except when failure (s: string): stream$putl(stream$primary_output(), s) end
--
-- end start_up
abbrev array_range_fill_modules : List Module
array_range_fill_modules =
    ((a_routine 41 no_equates (routine 40 (codes "pa") (codes "pa") kind.Procedure [] (typed 2 ((codes "a") ∷ []) (a_list_type 1 list.Array
    (a_simple_type 0 simple.Int)) ∷ []) no_types no_exceptions ([]) no_equates ([]) (statement_and (an_init 14 (a_variable (codes "s") (a_simple_type
    3 simple.String)) (an_infix 13 op.Concatenate (a_call 11 (an_operation 5 (a_simple_type 4 simple.Int) (codes "unparse")) (expression_and (a_call
    10 (an_operation 8 (a_list_type 7 list.Array (a_simple_type 6 simple.Int)) (codes "low")) (expression_and (a_name 9 (codes "a")) no_expressions))
    no_expressions)) (a_literal 12 (string (34 ∷ 58 ∷ 34 ∷ []))))) (statement_and (a_for 31 (typed 16 ((codes "x") ∷ []) (a_simple_type 15 simple.Int)
    ∷ []) (a_call 21 (an_operation 19 (a_list_type 18 list.Array (a_simple_type 17 simple.Int)) (codes "elements")) (expression_and (a_name 20 (codes
    "a")) no_expressions)) (a_body no_equates (statement_and (an_assign 30 ((codes "s") ∷ []) (expression_and (an_infix 29 op.Concatenate (an_infix 24
    op.Concatenate (a_name 22 (codes "s")) (a_literal 23 (string (34 ∷ 32 ∷ 34 ∷ [])))) (a_call 28 (an_operation 26 (a_simple_type 25 simple.Int)
    (codes "unparse")) (expression_and (a_name 27 (codes "x")) no_expressions))) no_expressions)) no_statements))) (statement_and (a_call_statement 39
    (a_call 38 (an_operation 33 (a_named_type 32 (codes "stream") no_constants) (codes "putl")) (expression_and (a_call 36 (an_operation 35
    (a_named_type 34 (codes "stream") no_constants) (codes "primary_output")) no_expressions) (expression_and (a_name 37 (codes "s"))
    no_expressions)))) no_statements))))) ∷ (a_routine 155 no_equates (routine 154 (codes "start_up") (codes "start_up") kind.Procedure [] ([])
    no_types no_exceptions ([]) (equate_and (an_equate 44 (Some (codes "ai")) (a_type (a_list_type 43 list.Array (a_simple_type 42 simple.Int))))
    no_equates) ([]) (statement_and (an_except 64 (an_init 52 (a_variable (codes "a") (a_named_type 45 (codes "ai") no_constants)) (a_call 51
    (an_operation 47 (a_named_type 46 (codes "ai") no_constants) (codes "fill")) (expression_and (a_literal 48 (integer (codes
    "9223372036854775807"))) (expression_and (a_literal 49 (integer (codes "2"))) (expression_and (a_literal 50 (integer (codes "0")))
    no_expressions))))) (when_and 63 ((codes "failure") ∷ []) (objects (typed 54 ((codes "s") ∷ []) (a_simple_type 53 simple.String) ∷ [])) (a_body
    no_equates (statement_and (a_call_statement 62 (a_call 61 (an_operation 56 (a_named_type 55 (codes "stream") no_constants) (codes "putl"))
    (expression_and (a_call 59 (an_operation 58 (a_named_type 57 (codes "stream") no_constants) (codes "primary_output")) no_expressions)
    (expression_and (a_name 60 (codes "s")) no_expressions)))) no_statements)) no_whens) no_others) (statement_and (an_assign 71 ((codes "a") ∷ [])
    (expression_and (a_call 70 (an_operation 66 (a_named_type 65 (codes "ai") no_constants) (codes "fill")) (expression_and (a_literal 67 (integer
    (codes "9223372036854775807"))) (expression_and (a_literal 68 (integer (codes "1"))) (expression_and (a_literal 69 (integer (codes "0")))
    no_expressions)))) no_expressions)) (statement_and (a_call_statement 85 (a_call 84 (an_operation 73 (a_named_type 72 (codes "stream")
    no_constants) (codes "putl")) (expression_and (a_call 76 (an_operation 75 (a_named_type 74 (codes "stream") no_constants) (codes
    "primary_output")) no_expressions) (expression_and (a_call 83 (an_operation 78 (a_simple_type 77 simple.Int) (codes "unparse")) (expression_and
    (a_call 82 (an_operation 80 (a_named_type 79 (codes "ai") no_constants) (codes "high")) (expression_and (a_name 81 (codes "a")) no_expressions))
    no_expressions)) no_expressions)))) (statement_and (an_except 108 (an_assign 96 ((codes "a") ∷ []) (expression_and (a_call 95 (an_operation 87
    (a_named_type 86 (codes "ai") no_constants) (codes "fill")) (expression_and (a_paren 92 (an_infix 91 op.Subtract (a_prefix 89 sign.Minus
    (a_literal 88 (integer (codes "9223372036854775807")))) (a_literal 90 (integer (codes "1"))))) (expression_and (a_literal 93 (integer (codes
    "1"))) (expression_and (a_literal 94 (integer (codes "0"))) no_expressions)))) no_expressions)) (when_and 107 ((codes "failure") ∷ []) (objects
    (typed 98 ((codes "s") ∷ []) (a_simple_type 97 simple.String) ∷ [])) (a_body no_equates (statement_and (a_call_statement 106 (a_call 105
    (an_operation 100 (a_named_type 99 (codes "stream") no_constants) (codes "putl")) (expression_and (a_call 103 (an_operation 102 (a_named_type 101
    (codes "stream") no_constants) (codes "primary_output")) no_expressions) (expression_and (a_name 104 (codes "s")) no_expressions))))
    no_statements)) no_whens) no_others) (statement_and (an_except 130 (an_assign 120 ((codes "a") ∷ []) (expression_and (a_call 119 (an_operation 110
    (a_named_type 109 (codes "ai") no_constants) (codes "fill")) (expression_and (a_paren 115 (an_infix 114 op.Subtract (a_prefix 112 sign.Minus
    (a_literal 111 (integer (codes "9223372036854775807")))) (a_literal 113 (integer (codes "1"))))) (expression_and (a_prefix 117 sign.Minus
    (a_literal 116 (integer (codes "1")))) (expression_and (a_literal 118 (integer (codes "0"))) no_expressions)))) no_expressions)) (when_and 129
    ((codes "negative_size") ∷ []) (objects []) (a_body no_equates (statement_and (a_call_statement 128 (a_call 127 (an_operation 122 (a_named_type
    121 (codes "stream") no_constants) (codes "putl")) (expression_and (a_call 125 (an_operation 124 (a_named_type 123 (codes "stream") no_constants)
    (codes "primary_output")) no_expressions) (expression_and (a_literal 126 (string (34 ∷ 110 ∷ 34 ∷ []))) no_expressions)))) no_statements))
    no_whens) no_others) (statement_and (an_except 153 (an_assign 141 ((codes "a") ∷ []) (expression_and (a_call 140 (an_operation 132 (a_named_type
    131 (codes "ai") no_constants) (codes "fill")) (expression_and (a_paren 137 (an_infix 136 op.Subtract (a_prefix 134 sign.Minus (a_literal 133
    (integer (codes "9223372036854775807")))) (a_literal 135 (integer (codes "1"))))) (expression_and (a_literal 138 (integer (codes "0")))
    (expression_and (a_literal 139 (integer (codes "0"))) no_expressions)))) no_expressions)) (when_and 152 ((codes "failure") ∷ []) (objects (typed
    143 ((codes "s") ∷ []) (a_simple_type 142 simple.String) ∷ [])) (a_body no_equates (statement_and (a_call_statement 151 (a_call 150 (an_operation
    145 (a_named_type 144 (codes "stream") no_constants) (codes "putl")) (expression_and (a_call 148 (an_operation 147 (a_named_type 146 (codes
    "stream") no_constants) (codes "primary_output")) no_expressions) (expression_and (a_name 149 (codes "s")) no_expressions)))) no_statements))
    no_whens) no_others) no_statements)))))))) ∷ [])

abbrev array_range_fill_declared : List Declared
array_range_fill_declared =
    (d (codes "a") 2 3 40 (Some 0) ∷ d (codes "s") 14 15 40 (Some 0) ∷ d (codes "x") 16 22 30 (Some 0) ∷ d (codes "pa") 40 0 4294967295 None ∷ d
    (codes "ai") 44 42 154 (Some 0) ∷ d (codes "a") 52 53 154 (Some 0) ∷ d (codes "s") 54 55 62 (Some 0) ∷ d (codes "s") 98 99 106 (Some 0) ∷ d (codes
    "s") 143 144 151 (Some 0) ∷ d (codes "start_up") 154 0 4294967295 None ∷ [])

array_range_fill : Runs array_range_fill_declared array_range_fill_modules (codes "") 10000 returned_normally (98 ∷ 111 ∷ 117 ∷ 110 ∷ 100 ∷ 115 ∷ 32 ∷ 111 ∷ 117 ∷ 116 ∷ 32 ∷ 111 ∷ 102 ∷ 32 ∷ 114 ∷ 97 ∷ 110 ∷ 103 ∷ 101 ∷ 10 ∷ 57 ∷ 50 ∷ 50 ∷ 51 ∷ 51 ∷ 55 ∷ 50 ∷ 48 ∷ 51 ∷ 54 ∷ 56 ∷ 53 ∷ 52 ∷ 55 ∷ 55 ∷ 53 ∷ 56 ∷ 48 ∷ 55 ∷ 10 ∷ 98 ∷ 111 ∷ 117 ∷ 110 ∷ 100 ∷ 115 ∷ 32 ∷ 111 ∷ 117 ∷ 116 ∷ 32 ∷ 111 ∷ 102 ∷ 32 ∷ 114 ∷ 97 ∷ 110 ∷ 103 ∷ 101 ∷ 10 ∷ 110 ∷ 10 ∷ 98 ∷ 111 ∷ 117 ∷ 110 ∷ 100 ∷ 115 ∷ 32 ∷ 111 ∷ 117 ∷ 116 ∷ 32 ∷ 111 ∷ 102 ∷ 32 ∷ 114 ∷ 97 ∷ 110 ∷ 103 ∷ 101 ∷ 10 ∷ []) 11 308
unfolding executing computing digits
array_range_fill = refl

-- % array-range-addh
-- pa = proc (a: array[int])
--   s: string := int$unparse(array[int]$low(a)) || ":"
--   for x: int in array[int]$elements(a) do s := s || " " || int$unparse(x) end
--   stream$putl(stream$primary_output(), s)
-- end pa
-- start_up = proc ()
-- ai = array[int]
-- a: ai := ai$create(9223372036854775807) ai$addh(a, 1) stream$putl(stream$primary_output(), int$unparse(ai$high(a))) ai$addh(a, 2) except when failure (s: string): stream$putl(stream$primary_output(), s) end
-- stream$putl(stream$primary_output(), int$unparse(ai$size(a)))
-- end start_up
abbrev array_range_addh_modules : List Module
array_range_addh_modules =
    ((a_routine 41 no_equates (routine 40 (codes "pa") (codes "pa") kind.Procedure [] (typed 2 ((codes "a") ∷ []) (a_list_type 1 list.Array
    (a_simple_type 0 simple.Int)) ∷ []) no_types no_exceptions ([]) no_equates ([]) (statement_and (an_init 14 (a_variable (codes "s") (a_simple_type
    3 simple.String)) (an_infix 13 op.Concatenate (a_call 11 (an_operation 5 (a_simple_type 4 simple.Int) (codes "unparse")) (expression_and (a_call
    10 (an_operation 8 (a_list_type 7 list.Array (a_simple_type 6 simple.Int)) (codes "low")) (expression_and (a_name 9 (codes "a")) no_expressions))
    no_expressions)) (a_literal 12 (string (34 ∷ 58 ∷ 34 ∷ []))))) (statement_and (a_for 31 (typed 16 ((codes "x") ∷ []) (a_simple_type 15 simple.Int)
    ∷ []) (a_call 21 (an_operation 19 (a_list_type 18 list.Array (a_simple_type 17 simple.Int)) (codes "elements")) (expression_and (a_name 20 (codes
    "a")) no_expressions)) (a_body no_equates (statement_and (an_assign 30 ((codes "s") ∷ []) (expression_and (an_infix 29 op.Concatenate (an_infix 24
    op.Concatenate (a_name 22 (codes "s")) (a_literal 23 (string (34 ∷ 32 ∷ 34 ∷ [])))) (a_call 28 (an_operation 26 (a_simple_type 25 simple.Int)
    (codes "unparse")) (expression_and (a_name 27 (codes "x")) no_expressions))) no_expressions)) no_statements))) (statement_and (a_call_statement 39
    (a_call 38 (an_operation 33 (a_named_type 32 (codes "stream") no_constants) (codes "putl")) (expression_and (a_call 36 (an_operation 35
    (a_named_type 34 (codes "stream") no_constants) (codes "primary_output")) no_expressions) (expression_and (a_name 37 (codes "s"))
    no_expressions)))) no_statements))))) ∷ (a_routine 104 no_equates (routine 103 (codes "start_up") (codes "start_up") kind.Procedure [] ([])
    no_types no_exceptions ([]) (equate_and (an_equate 44 (Some (codes "ai")) (a_type (a_list_type 43 list.Array (a_simple_type 42 simple.Int))))
    no_equates) ([]) (statement_and (an_init 50 (a_variable (codes "a") (a_named_type 45 (codes "ai") no_constants)) (a_call 49 (an_operation 47
    (a_named_type 46 (codes "ai") no_constants) (codes "create")) (expression_and (a_literal 48 (integer (codes "9223372036854775807")))
    no_expressions))) (statement_and (a_call_statement 56 (a_call 55 (an_operation 52 (a_named_type 51 (codes "ai") no_constants) (codes "addh"))
    (expression_and (a_name 53 (codes "a")) (expression_and (a_literal 54 (integer (codes "1"))) no_expressions)))) (statement_and (a_call_statement
    70 (a_call 69 (an_operation 58 (a_named_type 57 (codes "stream") no_constants) (codes "putl")) (expression_and (a_call 61 (an_operation 60
    (a_named_type 59 (codes "stream") no_constants) (codes "primary_output")) no_expressions) (expression_and (a_call 68 (an_operation 63
    (a_simple_type 62 simple.Int) (codes "unparse")) (expression_and (a_call 67 (an_operation 65 (a_named_type 64 (codes "ai") no_constants) (codes
    "high")) (expression_and (a_name 66 (codes "a")) no_expressions)) no_expressions)) no_expressions)))) (statement_and (an_except 88
    (a_call_statement 76 (a_call 75 (an_operation 72 (a_named_type 71 (codes "ai") no_constants) (codes "addh")) (expression_and (a_name 73 (codes
    "a")) (expression_and (a_literal 74 (integer (codes "2"))) no_expressions)))) (when_and 87 ((codes "failure") ∷ []) (objects (typed 78 ((codes
    "s") ∷ []) (a_simple_type 77 simple.String) ∷ [])) (a_body no_equates (statement_and (a_call_statement 86 (a_call 85 (an_operation 80
    (a_named_type 79 (codes "stream") no_constants) (codes "putl")) (expression_and (a_call 83 (an_operation 82 (a_named_type 81 (codes "stream")
    no_constants) (codes "primary_output")) no_expressions) (expression_and (a_name 84 (codes "s")) no_expressions)))) no_statements)) no_whens)
    no_others) (statement_and (a_call_statement 102 (a_call 101 (an_operation 90 (a_named_type 89 (codes "stream") no_constants) (codes "putl"))
    (expression_and (a_call 93 (an_operation 92 (a_named_type 91 (codes "stream") no_constants) (codes "primary_output")) no_expressions)
    (expression_and (a_call 100 (an_operation 95 (a_simple_type 94 simple.Int) (codes "unparse")) (expression_and (a_call 99 (an_operation 97
    (a_named_type 96 (codes "ai") no_constants) (codes "size")) (expression_and (a_name 98 (codes "a")) no_expressions)) no_expressions))
    no_expressions)))) no_statements))))))) ∷ [])

abbrev array_range_addh_declared : List Declared
array_range_addh_declared =
    (d (codes "a") 2 3 40 (Some 0) ∷ d (codes "s") 14 15 40 (Some 0) ∷ d (codes "x") 16 22 30 (Some 0) ∷ d (codes "pa") 40 0 4294967295 None ∷ d
    (codes "ai") 44 42 103 (Some 0) ∷ d (codes "a") 50 51 103 (Some 0) ∷ d (codes "s") 78 79 86 (Some 0) ∷ d (codes "start_up") 103 0 4294967295 None
    ∷ [])

array_range_addh : Runs array_range_addh_declared array_range_addh_modules (codes "") 10000 returned_normally (57 ∷ 50 ∷ 50 ∷ 51 ∷ 51 ∷ 55 ∷ 50 ∷ 48 ∷ 51 ∷ 54 ∷ 56 ∷ 53 ∷ 52 ∷ 55 ∷ 55 ∷ 53 ∷ 56 ∷ 48 ∷ 55 ∷ 10 ∷ 98 ∷ 111 ∷ 117 ∷ 110 ∷ 100 ∷ 115 ∷ 32 ∷ 111 ∷ 117 ∷ 116 ∷ 32 ∷ 111 ∷ 102 ∷ 32 ∷ 114 ∷ 97 ∷ 110 ∷ 103 ∷ 101 ∷ 10 ∷ 49 ∷ 10 ∷ []) 18 206
unfolding executing computing digits
array_range_addh = refl

-- % array-range-reml
-- pa = proc (a: array[int])
--   s: string := int$unparse(array[int]$low(a)) || ":"
--   for x: int in array[int]$elements(a) do s := s || " " || int$unparse(x) end
--   stream$putl(stream$primary_output(), s)
-- end pa
-- start_up = proc ()
-- ai = array[int]
-- a: ai := ai$create(9223372036854775807) x: int := ai$reml(a) except when bounds: stream$putl(stream$primary_output(), "bounds") end
--   ai$addh(a, 5) x := ai$reml(a) except when failure (s: string): stream$putl(stream$primary_output(), s) end
-- stream$putl(stream$primary_output(), int$unparse(ai$size(a))) stream$putl(stream$primary_output(), int$unparse(ai$remh(a)))
-- end start_up
abbrev array_range_reml_modules : List Module
array_range_reml_modules =
    ((a_routine 41 no_equates (routine 40 (codes "pa") (codes "pa") kind.Procedure [] (typed 2 ((codes "a") ∷ []) (a_list_type 1 list.Array
    (a_simple_type 0 simple.Int)) ∷ []) no_types no_exceptions ([]) no_equates ([]) (statement_and (an_init 14 (a_variable (codes "s") (a_simple_type
    3 simple.String)) (an_infix 13 op.Concatenate (a_call 11 (an_operation 5 (a_simple_type 4 simple.Int) (codes "unparse")) (expression_and (a_call
    10 (an_operation 8 (a_list_type 7 list.Array (a_simple_type 6 simple.Int)) (codes "low")) (expression_and (a_name 9 (codes "a")) no_expressions))
    no_expressions)) (a_literal 12 (string (34 ∷ 58 ∷ 34 ∷ []))))) (statement_and (a_for 31 (typed 16 ((codes "x") ∷ []) (a_simple_type 15 simple.Int)
    ∷ []) (a_call 21 (an_operation 19 (a_list_type 18 list.Array (a_simple_type 17 simple.Int)) (codes "elements")) (expression_and (a_name 20 (codes
    "a")) no_expressions)) (a_body no_equates (statement_and (an_assign 30 ((codes "s") ∷ []) (expression_and (an_infix 29 op.Concatenate (an_infix 24
    op.Concatenate (a_name 22 (codes "s")) (a_literal 23 (string (34 ∷ 32 ∷ 34 ∷ [])))) (a_call 28 (an_operation 26 (a_simple_type 25 simple.Int)
    (codes "unparse")) (expression_and (a_name 27 (codes "x")) no_expressions))) no_expressions)) no_statements))) (statement_and (a_call_statement 39
    (a_call 38 (an_operation 33 (a_named_type 32 (codes "stream") no_constants) (codes "putl")) (expression_and (a_call 36 (an_operation 35
    (a_named_type 34 (codes "stream") no_constants) (codes "primary_output")) no_expressions) (expression_and (a_name 37 (codes "s"))
    no_expressions)))) no_statements))))) ∷ (a_routine 119 no_equates (routine 118 (codes "start_up") (codes "start_up") kind.Procedure [] ([])
    no_types no_exceptions ([]) (equate_and (an_equate 44 (Some (codes "ai")) (a_type (a_list_type 43 list.Array (a_simple_type 42 simple.Int))))
    no_equates) ([]) (statement_and (an_init 50 (a_variable (codes "a") (a_named_type 45 (codes "ai") no_constants)) (a_call 49 (an_operation 47
    (a_named_type 46 (codes "ai") no_constants) (codes "create")) (expression_and (a_literal 48 (integer (codes "9223372036854775807")))
    no_expressions))) (statement_and (an_except 66 (an_init 56 (a_variable (codes "x") (a_simple_type 51 simple.Int)) (a_call 55 (an_operation 53
    (a_named_type 52 (codes "ai") no_constants) (codes "reml")) (expression_and (a_name 54 (codes "a")) no_expressions))) (when_and 65 ((codes
    "bounds") ∷ []) (objects []) (a_body no_equates (statement_and (a_call_statement 64 (a_call 63 (an_operation 58 (a_named_type 57 (codes "stream")
    no_constants) (codes "putl")) (expression_and (a_call 61 (an_operation 60 (a_named_type 59 (codes "stream") no_constants) (codes
    "primary_output")) no_expressions) (expression_and (a_literal 62 (string (34 ∷ 98 ∷ 111 ∷ 117 ∷ 110 ∷ 100 ∷ 115 ∷ 34 ∷ []))) no_expressions))))
    no_statements)) no_whens) no_others) (statement_and (a_call_statement 72 (a_call 71 (an_operation 68 (a_named_type 67 (codes "ai") no_constants)
    (codes "addh")) (expression_and (a_name 69 (codes "a")) (expression_and (a_literal 70 (integer (codes "5"))) no_expressions)))) (statement_and
    (an_except 89 (an_assign 77 ((codes "x") ∷ []) (expression_and (a_call 76 (an_operation 74 (a_named_type 73 (codes "ai") no_constants) (codes
    "reml")) (expression_and (a_name 75 (codes "a")) no_expressions)) no_expressions)) (when_and 88 ((codes "failure") ∷ []) (objects (typed 79
    ((codes "s") ∷ []) (a_simple_type 78 simple.String) ∷ [])) (a_body no_equates (statement_and (a_call_statement 87 (a_call 86 (an_operation 81
    (a_named_type 80 (codes "stream") no_constants) (codes "putl")) (expression_and (a_call 84 (an_operation 83 (a_named_type 82 (codes "stream")
    no_constants) (codes "primary_output")) no_expressions) (expression_and (a_name 85 (codes "s")) no_expressions)))) no_statements)) no_whens)
    no_others) (statement_and (a_call_statement 103 (a_call 102 (an_operation 91 (a_named_type 90 (codes "stream") no_constants) (codes "putl"))
    (expression_and (a_call 94 (an_operation 93 (a_named_type 92 (codes "stream") no_constants) (codes "primary_output")) no_expressions)
    (expression_and (a_call 101 (an_operation 96 (a_simple_type 95 simple.Int) (codes "unparse")) (expression_and (a_call 100 (an_operation 98
    (a_named_type 97 (codes "ai") no_constants) (codes "size")) (expression_and (a_name 99 (codes "a")) no_expressions)) no_expressions))
    no_expressions)))) (statement_and (a_call_statement 117 (a_call 116 (an_operation 105 (a_named_type 104 (codes "stream") no_constants) (codes
    "putl")) (expression_and (a_call 108 (an_operation 107 (a_named_type 106 (codes "stream") no_constants) (codes "primary_output")) no_expressions)
    (expression_and (a_call 115 (an_operation 110 (a_simple_type 109 simple.Int) (codes "unparse")) (expression_and (a_call 114 (an_operation 112
    (a_named_type 111 (codes "ai") no_constants) (codes "remh")) (expression_and (a_name 113 (codes "a")) no_expressions)) no_expressions))
    no_expressions)))) no_statements)))))))) ∷ [])

abbrev array_range_reml_declared : List Declared
array_range_reml_declared =
    (d (codes "a") 2 3 40 (Some 0) ∷ d (codes "s") 14 15 40 (Some 0) ∷ d (codes "x") 16 22 30 (Some 0) ∷ d (codes "pa") 40 0 4294967295 None ∷ d
    (codes "ai") 44 42 118 (Some 0) ∷ d (codes "a") 50 51 118 (Some 0) ∷ d (codes "x") 56 57 118 (Some 0) ∷ d (codes "s") 79 80 87 (Some 0) ∷ d (codes
    "start_up") 118 0 4294967295 None ∷ [])

array_range_reml : Runs array_range_reml_declared array_range_reml_modules (codes "") 10000 returned_normally (98 ∷ 111 ∷ 117 ∷ 110 ∷ 100 ∷ 115 ∷ 10 ∷ 98 ∷ 111 ∷ 117 ∷ 110 ∷ 100 ∷ 115 ∷ 32 ∷ 111 ∷ 117 ∷ 116 ∷ 32 ∷ 111 ∷ 102 ∷ 32 ∷ 114 ∷ 97 ∷ 110 ∷ 103 ∷ 101 ∷ 10 ∷ 49 ∷ 10 ∷ 53 ∷ 10 ∷ []) 18 236
unfolding executing computing digits
array_range_reml = refl

-- % array-range-unhandled
-- pa = proc (a: array[int])
--   s: string := int$unparse(array[int]$low(a)) || ":"
--   for x: int in array[int]$elements(a) do s := s || " " || int$unparse(x) end
--   stream$putl(stream$primary_output(), s)
-- end pa
-- start_up = proc ()
-- ai = array[int]
-- a: ai := ai$create((-9223372036854775807 - 1))
-- end start_up
abbrev array_range_unhandled_modules : List Module
array_range_unhandled_modules =
    ((a_routine 41 no_equates (routine 40 (codes "pa") (codes "pa") kind.Procedure [] (typed 2 ((codes "a") ∷ []) (a_list_type 1 list.Array
    (a_simple_type 0 simple.Int)) ∷ []) no_types no_exceptions ([]) no_equates ([]) (statement_and (an_init 14 (a_variable (codes "s") (a_simple_type
    3 simple.String)) (an_infix 13 op.Concatenate (a_call 11 (an_operation 5 (a_simple_type 4 simple.Int) (codes "unparse")) (expression_and (a_call
    10 (an_operation 8 (a_list_type 7 list.Array (a_simple_type 6 simple.Int)) (codes "low")) (expression_and (a_name 9 (codes "a")) no_expressions))
    no_expressions)) (a_literal 12 (string (34 ∷ 58 ∷ 34 ∷ []))))) (statement_and (a_for 31 (typed 16 ((codes "x") ∷ []) (a_simple_type 15 simple.Int)
    ∷ []) (a_call 21 (an_operation 19 (a_list_type 18 list.Array (a_simple_type 17 simple.Int)) (codes "elements")) (expression_and (a_name 20 (codes
    "a")) no_expressions)) (a_body no_equates (statement_and (an_assign 30 ((codes "s") ∷ []) (expression_and (an_infix 29 op.Concatenate (an_infix 24
    op.Concatenate (a_name 22 (codes "s")) (a_literal 23 (string (34 ∷ 32 ∷ 34 ∷ [])))) (a_call 28 (an_operation 26 (a_simple_type 25 simple.Int)
    (codes "unparse")) (expression_and (a_name 27 (codes "x")) no_expressions))) no_expressions)) no_statements))) (statement_and (a_call_statement 39
    (a_call 38 (an_operation 33 (a_named_type 32 (codes "stream") no_constants) (codes "putl")) (expression_and (a_call 36 (an_operation 35
    (a_named_type 34 (codes "stream") no_constants) (codes "primary_output")) no_expressions) (expression_and (a_name 37 (codes "s"))
    no_expressions)))) no_statements))))) ∷ (a_routine 56 no_equates (routine 55 (codes "start_up") (codes "start_up") kind.Procedure [] ([]) no_types
    no_exceptions ([]) (equate_and (an_equate 44 (Some (codes "ai")) (a_type (a_list_type 43 list.Array (a_simple_type 42 simple.Int)))) no_equates)
    ([]) (statement_and (an_init 54 (a_variable (codes "a") (a_named_type 45 (codes "ai") no_constants)) (a_call 53 (an_operation 47 (a_named_type 46
    (codes "ai") no_constants) (codes "create")) (expression_and (a_paren 52 (an_infix 51 op.Subtract (a_prefix 49 sign.Minus (a_literal 48 (integer
    (codes "9223372036854775807")))) (a_literal 50 (integer (codes "1"))))) no_expressions))) no_statements))) ∷ [])

abbrev array_range_unhandled_declared : List Declared
array_range_unhandled_declared =
    (d (codes "a") 2 3 40 (Some 0) ∷ d (codes "s") 14 15 40 (Some 0) ∷ d (codes "x") 16 22 30 (Some 0) ∷ d (codes "pa") 40 0 4294967295 None ∷ d
    (codes "ai") 44 42 55 (Some 0) ∷ d (codes "a") 54 55 55 (Some 0) ∷ d (codes "start_up") 55 0 4294967295 None ∷ [])

array_range_unhandled : Runs array_range_unhandled_declared array_range_unhandled_modules (codes "") 10000 (failure_with (codes "bounds out of range")) (codes "") 0 110
unfolding executing computing digits
array_range_unhandled = refl

-- % arrays of arrays
-- start_up = proc ()
-- m = array[array[int]] a: m := m$[array[int]$[1, 2], array[int]$[3]] a[2][1] := 9 stream$putl(stream$primary_output(), int$unparse(a[2][1] + a[1][2]))
-- b: m := m$copy1(a) c: m := m$copy(a) b[1][1] := 7 stream$putl(stream$primary_output(), int$unparse(a[1][1])) c[1][1] := 8 stream$putl(stream$primary_output(), int$unparse(a[1][1]))
-- d: m := m$fill(1, 2, array[int]$[0]) d[1][1] := 5 stream$putl(stream$primary_output(), int$unparse(d[2][1]))
-- end start_up
abbrev arrays_of_arrays_modules : List Module
arrays_of_arrays_modules =
    ((a_routine 131 no_equates (routine 130 (codes "start_up") (codes "start_up") kind.Procedure [] ([]) no_types no_exceptions ([]) (equate_and
    (an_equate 3 (Some (codes "m")) (a_type (a_list_type 2 list.Array (a_list_type 1 list.Array (a_simple_type 0 simple.Int))))) no_equates) ([])
    (statement_and (an_init 16 (a_variable (codes "a") (a_named_type 4 (codes "m") no_constants)) (elements 15 (a_named_type 5 (codes "m")
    no_constants) (expression_and (elements 10 (a_list_type 7 list.Array (a_simple_type 6 simple.Int)) (expression_and (a_literal 8 (integer (codes
    "1"))) (expression_and (a_literal 9 (integer (codes "2"))) no_expressions))) (expression_and (elements 14 (a_list_type 12 list.Array
    (a_simple_type 11 simple.Int)) (expression_and (a_literal 13 (integer (codes "3"))) no_expressions)) no_expressions)))) (statement_and
    (a_set_index 22 (an_index 19 (a_name 17 (codes "a")) (constant_and (an_expression (a_literal 18 (integer (codes "2")))) no_constants)) (a_literal
    20 (integer (codes "1"))) (a_literal 21 (integer (codes "9")))) (statement_and (a_call_statement 43 (a_call 42 (an_operation 24 (a_named_type 23
    (codes "stream") no_constants) (codes "putl")) (expression_and (a_call 27 (an_operation 26 (a_named_type 25 (codes "stream") no_constants) (codes
    "primary_output")) no_expressions) (expression_and (a_call 41 (an_operation 29 (a_simple_type 28 simple.Int) (codes "unparse")) (expression_and
    (an_infix 40 op.Add (an_index 34 (an_index 32 (a_name 30 (codes "a")) (constant_and (an_expression (a_literal 31 (integer (codes "2"))))
    no_constants)) (constant_and (an_expression (a_literal 33 (integer (codes "1")))) no_constants)) (an_index 39 (an_index 37 (a_name 35 (codes "a"))
    (constant_and (an_expression (a_literal 36 (integer (codes "1")))) no_constants)) (constant_and (an_expression (a_literal 38 (integer (codes
    "2")))) no_constants))) no_expressions)) no_expressions)))) (statement_and (an_init 49 (a_variable (codes "b") (a_named_type 44 (codes "m")
    no_constants)) (a_call 48 (an_operation 46 (a_named_type 45 (codes "m") no_constants) (codes "copy1")) (expression_and (a_name 47 (codes "a"))
    no_expressions))) (statement_and (an_init 55 (a_variable (codes "c") (a_named_type 50 (codes "m") no_constants)) (a_call 54 (an_operation 52
    (a_named_type 51 (codes "m") no_constants) (codes "copy")) (expression_and (a_name 53 (codes "a")) no_expressions))) (statement_and (a_set_index
    61 (an_index 58 (a_name 56 (codes "b")) (constant_and (an_expression (a_literal 57 (integer (codes "1")))) no_constants)) (a_literal 59 (integer
    (codes "1"))) (a_literal 60 (integer (codes "7")))) (statement_and (a_call_statement 76 (a_call 75 (an_operation 63 (a_named_type 62 (codes
    "stream") no_constants) (codes "putl")) (expression_and (a_call 66 (an_operation 65 (a_named_type 64 (codes "stream") no_constants) (codes
    "primary_output")) no_expressions) (expression_and (a_call 74 (an_operation 68 (a_simple_type 67 simple.Int) (codes "unparse")) (expression_and
    (an_index 73 (an_index 71 (a_name 69 (codes "a")) (constant_and (an_expression (a_literal 70 (integer (codes "1")))) no_constants)) (constant_and
    (an_expression (a_literal 72 (integer (codes "1")))) no_constants)) no_expressions)) no_expressions)))) (statement_and (a_set_index 82 (an_index
    79 (a_name 77 (codes "c")) (constant_and (an_expression (a_literal 78 (integer (codes "1")))) no_constants)) (a_literal 80 (integer (codes "1")))
    (a_literal 81 (integer (codes "8")))) (statement_and (a_call_statement 97 (a_call 96 (an_operation 84 (a_named_type 83 (codes "stream")
    no_constants) (codes "putl")) (expression_and (a_call 87 (an_operation 86 (a_named_type 85 (codes "stream") no_constants) (codes
    "primary_output")) no_expressions) (expression_and (a_call 95 (an_operation 89 (a_simple_type 88 simple.Int) (codes "unparse")) (expression_and
    (an_index 94 (an_index 92 (a_name 90 (codes "a")) (constant_and (an_expression (a_literal 91 (integer (codes "1")))) no_constants)) (constant_and
    (an_expression (a_literal 93 (integer (codes "1")))) no_constants)) no_expressions)) no_expressions)))) (statement_and (an_init 108 (a_variable
    (codes "d") (a_named_type 98 (codes "m") no_constants)) (a_call 107 (an_operation 100 (a_named_type 99 (codes "m") no_constants) (codes "fill"))
    (expression_and (a_literal 101 (integer (codes "1"))) (expression_and (a_literal 102 (integer (codes "2"))) (expression_and (elements 106
    (a_list_type 104 list.Array (a_simple_type 103 simple.Int)) (expression_and (a_literal 105 (integer (codes "0"))) no_expressions))
    no_expressions))))) (statement_and (a_set_index 114 (an_index 111 (a_name 109 (codes "d")) (constant_and (an_expression (a_literal 110 (integer
    (codes "1")))) no_constants)) (a_literal 112 (integer (codes "1"))) (a_literal 113 (integer (codes "5")))) (statement_and (a_call_statement 129
    (a_call 128 (an_operation 116 (a_named_type 115 (codes "stream") no_constants) (codes "putl")) (expression_and (a_call 119 (an_operation 118
    (a_named_type 117 (codes "stream") no_constants) (codes "primary_output")) no_expressions) (expression_and (a_call 127 (an_operation 121
    (a_simple_type 120 simple.Int) (codes "unparse")) (expression_and (an_index 126 (an_index 124 (a_name 122 (codes "d")) (constant_and
    (an_expression (a_literal 123 (integer (codes "2")))) no_constants)) (constant_and (an_expression (a_literal 125 (integer (codes "1"))))
    no_constants)) no_expressions)) no_expressions)))) no_statements)))))))))))))) ∷ [])

abbrev arrays_of_arrays_declared : List Declared
arrays_of_arrays_declared =
    (d (codes "m") 3 0 130 (Some 0) ∷ d (codes "a") 16 17 130 (Some 0) ∷ d (codes "b") 49 50 130 (Some 0) ∷ d (codes "c") 55 56 130 (Some 0) ∷ d
    (codes "d") 108 109 130 (Some 0) ∷ d (codes "start_up") 130 0 4294967295 None ∷ [])

arrays_of_arrays : Runs arrays_of_arrays_declared arrays_of_arrays_modules (codes "") 10000 returned_normally (49 ∷ 49 ∷ 10 ∷ 55 ∷ 10 ∷ 55 ∷ 10 ∷ 53 ∷ 10 ∷ []) 92 1272
unfolding executing computing digits
arrays_of_arrays = refl
