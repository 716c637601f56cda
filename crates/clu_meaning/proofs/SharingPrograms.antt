-- Programs that compute: arrays that are shared, compared and gone over. Each is the tree of the CLU above it.
use Rattle.std.specs.Fmt.{digits}
use Rattle.std.specs.Prelude.{refl, List, [], ◌∷◌, codes, Some, None}
use Rattle.clu_names.specs.declared.scopes.Declared.{Declared}
use Rattle.clu_syntax.specs.declared.words.Operator.TheVariants as op
use Rattle.clu_syntax.specs.declared.words.SimpleType.TheVariants as simple
use Rattle.clu_syntax.specs.declared.words.ListType.TheVariants as list
use Rattle.clu_syntax.specs.declared.words.RoutineKind.TheVariants as kind
use Rattle.clu_syntax.specs.Syntax.{integer, string, an_infix, a_literal, a_name, an_index, a_call, elements, elements_from, an_operation, no_expressions, expression_and, an_expression, a_type, no_constants, constant_and, a_simple_type, a_list_type, a_named_type, no_types, no_exceptions, an_equate, no_equates, equate_and, objects, an_init, an_assign, a_set_index, a_call_statement, a_for, an_if, an_except, no_statements, statement_and, a_body, no_clauses, clause_and, nothing_else, no_whens, when_and, no_others, Module, a_routine}
use Rattle.clu_layout.specs.Computing.{computing}
use Rattle.clu_meaning.specs.Run.{returned_normally}
use Rattle.clu_meaning.specs.Executing.{executing}
use Rattle.clu_meaning.proofs.Running.{d, typed, a_variable, routine, Runs}

-- % array-sharing
-- pa = proc (a: array[int])
--   s: string := int$unparse(array[int]$low(a)) || ":"
--   for x: int in array[int]$elements(a) do s := s || " " || int$unparse(x) end
--   stream$putl(stream$primary_output(), s)
-- end pa
-- start_up = proc ()
-- ai = array[int]
-- a: ai := ai$[1] b: ai := a b[1] := 5 pa(a) if a = b then stream$putl(stream$primary_output(), "same") end
-- end start_up
abbrev array_sharing_modules : List Module
array_sharing_modules =
    ((a_routine 41 no_equates (routine 40 (codes "pa") (codes "pa") kind.Procedure [] (typed 2 ((codes "a") ∷ []) (a_list_type 1 list.Array
    (a_simple_type 0 simple.Int)) ∷ []) no_types no_exceptions ([]) no_equates ([]) (statement_and (an_init 14 (a_variable (codes "s") (a_simple_type
    3 simple.String)) (an_infix 13 op.Concatenate (a_call 11 (an_operation 5 (a_simple_type 4 simple.Int) (codes "unparse")) (expression_and (a_call
    10 (an_operation 8 (a_list_type 7 list.Array (a_simple_type 6 simple.Int)) (codes "low")) (expression_and (a_name 9 (codes "a")) no_expressions))
    no_expressions)) (a_literal 12 (string (34 ∷ 58 ∷ 34 ∷ []))))) (statement_and (a_for 31 (typed 16 ((codes "x") ∷ []) (a_simple_type 15 simple.Int)
    ∷ []) (a_call 21 (an_operation 19 (a_list_type 18 list.Array (a_simple_type 17 simple.Int)) (codes "elements")) (expression_and (a_name 20 (codes
    "a")) no_expressions)) (a_body no_equates (statement_and (an_assign 30 ((codes "s") ∷ []) (expression_and (an_infix 29 op.Concatenate (an_infix 24
    op.Concatenate (a_name 22 (codes "s")) (a_literal 23 (string (34 ∷ 32 ∷ 34 ∷ [])))) (a_call 28 (an_operation 26 (a_simple_type 25 simple.Int)
    (codes "unparse")) (expression_and (a_name 27 (codes "x")) no_expressions))) no_expressions)) no_statements))) (statement_and (a_call_statement 39
    (a_call 38 (an_operation 33 (a_named_type 32 (codes "stream") no_constants) (codes "putl")) (expression_and (a_call 36 (an_operation 35
    (a_named_type 34 (codes "stream") no_constants) (codes "primary_output")) no_expressions) (expression_and (a_name 37 (codes "s"))
    no_expressions)))) no_statements))))) ∷ (a_routine 74 no_equates (routine 73 (codes "start_up") (codes "start_up") kind.Procedure [] ([]) no_types
    no_exceptions ([]) (equate_and (an_equate 44 (Some (codes "ai")) (a_type (a_list_type 43 list.Array (a_simple_type 42 simple.Int)))) no_equates)
    ([]) (statement_and (an_init 49 (a_variable (codes "a") (a_named_type 45 (codes "ai") no_constants)) (elements 48 (a_named_type 46 (codes "ai")
    no_constants) (expression_and (a_literal 47 (integer (codes "1"))) no_expressions))) (statement_and (an_init 52 (a_variable (codes "b")
    (a_named_type 50 (codes "ai") no_constants)) (a_name 51 (codes "a"))) (statement_and (a_set_index 56 (a_name 53 (codes "b")) (a_literal 54
    (integer (codes "1"))) (a_literal 55 (integer (codes "5")))) (statement_and (a_call_statement 60 (a_call 59 (a_name 57 (codes "pa"))
    (expression_and (a_name 58 (codes "a")) no_expressions))) (statement_and (an_if 72 (clause_and (an_infix 63 op.Equal (a_name 61 (codes "a"))
    (a_name 62 (codes "b"))) (a_body no_equates (statement_and (a_call_statement 71 (a_call 70 (an_operation 65 (a_named_type 64 (codes "stream")
    no_constants) (codes "putl")) (expression_and (a_call 68 (an_operation 67 (a_named_type 66 (codes "stream") no_constants) (codes
    "primary_output")) no_expressions) (expression_and (a_literal 69 (string (34 ∷ 115 ∷ 97 ∷ 109 ∷ 101 ∷ 34 ∷ []))) no_expressions))))
    no_statements)) no_clauses) nothing_else) no_statements))))))) ∷ [])

abbrev array_sharing_declared : List Declared
array_sharing_declared =
    (d (codes "a") 2 3 40 (Some 0) ∷ d (codes "s") 14 15 40 (Some 0) ∷ d (codes "x") 16 22 30 (Some 0) ∷ d (codes "pa") 40 0 4294967295 None ∷ d
    (codes "ai") 44 42 73 (Some 0) ∷ d (codes "a") 49 50 73 (Some 0) ∷ d (codes "b") 52 53 73 (Some 0) ∷ d (codes "start_up") 73 0 4294967295 None ∷
    [])

array_sharing : Runs array_sharing_declared array_sharing_modules (codes "") 10000 returned_normally (49 ∷ 58 ∷ 32 ∷ 53 ∷ 10 ∷ 115 ∷ 97 ∷ 109 ∷ 101 ∷ 10 ∷ []) 21 614
unfolding executing computing digits
array_sharing = refl

-- % array-similar-deep
-- pa = proc (a: array[int])
--   s: string := int$unparse(array[int]$low(a)) || ":"
--   for x: int in array[int]$elements(a) do s := s || " " || int$unparse(x) end
--   stream$putl(stream$primary_output(), s)
-- end pa
-- start_up = proc ()
-- ai = array[int]
-- aa = array[ai] x: aa := aa$[ai$[1], ai$[2]] y: aa := aa$[ai$[1], ai$[2]]
--   if aa$similar(x, y) then stream$putl(stream$primary_output(), "deep") end
--   if aa$similar1(x, y) then stream$putl(stream$primary_output(), "no") end
--   if aa$similar1(x, aa$copy1(x)) then stream$putl(stream$primary_output(), "shallow") end
--   z: aa := aa$copy(x) z[1][1] := 7 pa(x[1]) pa(z[1]) pa(aa$copy1(x)[1])
-- end start_up
abbrev array_similar_deep_modules : List Module
array_similar_deep_modules =
    ((a_routine 41 no_equates (routine 40 (codes "pa") (codes "pa") kind.Procedure [] (typed 2 ((codes "a") ∷ []) (a_list_type 1 list.Array
    (a_simple_type 0 simple.Int)) ∷ []) no_types no_exceptions ([]) no_equates ([]) (statement_and (an_init 14 (a_variable (codes "s") (a_simple_type
    3 simple.String)) (an_infix 13 op.Concatenate (a_call 11 (an_operation 5 (a_simple_type 4 simple.Int) (codes "unparse")) (expression_and (a_call
    10 (an_operation 8 (a_list_type 7 list.Array (a_simple_type 6 simple.Int)) (codes "low")) (expression_and (a_name 9 (codes "a")) no_expressions))
    no_expressions)) (a_literal 12 (string (34 ∷ 58 ∷ 34 ∷ []))))) (statement_and (a_for 31 (typed 16 ((codes "x") ∷ []) (a_simple_type 15 simple.Int)
    ∷ []) (a_call 21 (an_operation 19 (a_list_type 18 list.Array (a_simple_type 17 simple.Int)) (codes "elements")) (expression_and (a_name 20 (codes
    "a")) no_expressions)) (a_body no_equates (statement_and (an_assign 30 ((codes "s") ∷ []) (expression_and (an_infix 29 op.Concatenate (an_infix 24
    op.Concatenate (a_name 22 (codes "s")) (a_literal 23 (string (34 ∷ 32 ∷ 34 ∷ [])))) (a_call 28 (an_operation 26 (a_simple_type 25 simple.Int)
    (codes "unparse")) (expression_and (a_name 27 (codes "x")) no_expressions))) no_expressions)) no_statements))) (statement_and (a_call_statement 39
    (a_call 38 (an_operation 33 (a_named_type 32 (codes "stream") no_constants) (codes "putl")) (expression_and (a_call 36 (an_operation 35
    (a_named_type 34 (codes "stream") no_constants) (codes "primary_output")) no_expressions) (expression_and (a_name 37 (codes "s"))
    no_expressions)))) no_statements))))) ∷ (a_routine 147 no_equates (routine 146 (codes "start_up") (codes "start_up") kind.Procedure [] ([])
    no_types no_exceptions ([]) (equate_and (an_equate 44 (Some (codes "ai")) (a_type (a_list_type 43 list.Array (a_simple_type 42 simple.Int))))
    (equate_and (an_equate 47 (Some (codes "aa")) (a_type (a_list_type 46 list.Array (a_named_type 45 (codes "ai") no_constants)))) no_equates)) ([])
    (statement_and (an_init 57 (a_variable (codes "x") (a_named_type 48 (codes "aa") no_constants)) (elements 56 (a_named_type 49 (codes "aa")
    no_constants) (expression_and (elements 52 (a_named_type 50 (codes "ai") no_constants) (expression_and (a_literal 51 (integer (codes "1")))
    no_expressions)) (expression_and (elements 55 (a_named_type 53 (codes "ai") no_constants) (expression_and (a_literal 54 (integer (codes "2")))
    no_expressions)) no_expressions)))) (statement_and (an_init 67 (a_variable (codes "y") (a_named_type 58 (codes "aa") no_constants)) (elements 66
    (a_named_type 59 (codes "aa") no_constants) (expression_and (elements 62 (a_named_type 60 (codes "ai") no_constants) (expression_and (a_literal 61
    (integer (codes "1"))) no_expressions)) (expression_and (elements 65 (a_named_type 63 (codes "ai") no_constants) (expression_and (a_literal 64
    (integer (codes "2"))) no_expressions)) no_expressions)))) (statement_and (an_if 81 (clause_and (a_call 72 (an_operation 69 (a_named_type 68
    (codes "aa") no_constants) (codes "similar")) (expression_and (a_name 70 (codes "x")) (expression_and (a_name 71 (codes "y")) no_expressions)))
    (a_body no_equates (statement_and (a_call_statement 80 (a_call 79 (an_operation 74 (a_named_type 73 (codes "stream") no_constants) (codes "putl"))
    (expression_and (a_call 77 (an_operation 76 (a_named_type 75 (codes "stream") no_constants) (codes "primary_output")) no_expressions)
    (expression_and (a_literal 78 (string (34 ∷ 100 ∷ 101 ∷ 101 ∷ 112 ∷ 34 ∷ []))) no_expressions)))) no_statements)) no_clauses) nothing_else)
    (statement_and (an_if 95 (clause_and (a_call 86 (an_operation 83 (a_named_type 82 (codes "aa") no_constants) (codes "similar1")) (expression_and
    (a_name 84 (codes "x")) (expression_and (a_name 85 (codes "y")) no_expressions))) (a_body no_equates (statement_and (a_call_statement 94 (a_call
    93 (an_operation 88 (a_named_type 87 (codes "stream") no_constants) (codes "putl")) (expression_and (a_call 91 (an_operation 90 (a_named_type 89
    (codes "stream") no_constants) (codes "primary_output")) no_expressions) (expression_and (a_literal 92 (string (34 ∷ 110 ∷ 111 ∷ 34 ∷ [])))
    no_expressions)))) no_statements)) no_clauses) nothing_else) (statement_and (an_if 112 (clause_and (a_call 103 (an_operation 97 (a_named_type 96
    (codes "aa") no_constants) (codes "similar1")) (expression_and (a_name 98 (codes "x")) (expression_and (a_call 102 (an_operation 100 (a_named_type
    99 (codes "aa") no_constants) (codes "copy1")) (expression_and (a_name 101 (codes "x")) no_expressions)) no_expressions))) (a_body no_equates
    (statement_and (a_call_statement 111 (a_call 110 (an_operation 105 (a_named_type 104 (codes "stream") no_constants) (codes "putl"))
    (expression_and (a_call 108 (an_operation 107 (a_named_type 106 (codes "stream") no_constants) (codes "primary_output")) no_expressions)
    (expression_and (a_literal 109 (string (34 ∷ 115 ∷ 104 ∷ 97 ∷ 108 ∷ 108 ∷ 111 ∷ 119 ∷ 34 ∷ []))) no_expressions)))) no_statements)) no_clauses)
    nothing_else) (statement_and (an_init 118 (a_variable (codes "z") (a_named_type 113 (codes "aa") no_constants)) (a_call 117 (an_operation 115
    (a_named_type 114 (codes "aa") no_constants) (codes "copy")) (expression_and (a_name 116 (codes "x")) no_expressions))) (statement_and
    (a_set_index 124 (an_index 121 (a_name 119 (codes "z")) (constant_and (an_expression (a_literal 120 (integer (codes "1")))) no_constants))
    (a_literal 122 (integer (codes "1"))) (a_literal 123 (integer (codes "7")))) (statement_and (a_call_statement 130 (a_call 129 (a_name 125 (codes
    "pa")) (expression_and (an_index 128 (a_name 126 (codes "x")) (constant_and (an_expression (a_literal 127 (integer (codes "1")))) no_constants))
    no_expressions))) (statement_and (a_call_statement 136 (a_call 135 (a_name 131 (codes "pa")) (expression_and (an_index 134 (a_name 132 (codes
    "z")) (constant_and (an_expression (a_literal 133 (integer (codes "1")))) no_constants)) no_expressions))) (statement_and (a_call_statement 145
    (a_call 144 (a_name 137 (codes "pa")) (expression_and (an_index 143 (a_call 141 (an_operation 139 (a_named_type 138 (codes "aa") no_constants)
    (codes "copy1")) (expression_and (a_name 140 (codes "x")) no_expressions)) (constant_and (an_expression (a_literal 142 (integer (codes "1"))))
    no_constants)) no_expressions))) no_statements)))))))))))) ∷ [])

abbrev array_similar_deep_declared : List Declared
array_similar_deep_declared =
    (d (codes "a") 2 3 40 (Some 0) ∷ d (codes "s") 14 15 40 (Some 0) ∷ d (codes "x") 16 22 30 (Some 0) ∷ d (codes "pa") 40 0 4294967295 None ∷ d
    (codes "ai") 44 42 146 (Some 0) ∷ d (codes "aa") 47 42 146 (Some 0) ∷ d (codes "x") 57 58 146 (Some 0) ∷ d (codes "y") 67 68 146 (Some 0) ∷ d
    (codes "z") 118 119 146 (Some 0) ∷ d (codes "start_up") 146 0 4294967295 None ∷ [])

array_similar_deep : Runs array_similar_deep_declared array_similar_deep_modules (codes "") 10000 returned_normally (100 ∷ 101 ∷ 101 ∷ 112 ∷ 10 ∷ 115 ∷ 104 ∷ 97 ∷ 108 ∷ 108 ∷ 111 ∷ 119 ∷ 10 ∷ 49 ∷ 58 ∷ 32 ∷ 49 ∷ 10 ∷ 49 ∷ 58 ∷ 32 ∷ 55 ∷ 10 ∷ 49 ∷ 58 ∷ 32 ∷ 49 ∷ 10 ∷ []) 132 1220
unfolding executing computing digits
array_similar_deep = refl

-- % array-indexes
-- pa = proc (a: array[int])
--   s: string := int$unparse(array[int]$low(a)) || ":"
--   for x: int in array[int]$elements(a) do s := s || " " || int$unparse(x) end
--   stream$putl(stream$primary_output(), s)
-- end pa
-- start_up = proc ()
-- ai = array[int]
-- for i: int in ai$indexes(ai$[3: 9, 9]) do stream$putl(stream$primary_output(), int$unparse(i)) end
--   for i: int in ai$indexes(ai$new()) do stream$putl(stream$primary_output(), "no") end
-- end start_up
abbrev array_indexes_modules : List Module
array_indexes_modules =
    ((a_routine 41 no_equates (routine 40 (codes "pa") (codes "pa") kind.Procedure [] (typed 2 ((codes "a") ∷ []) (a_list_type 1 list.Array
    (a_simple_type 0 simple.Int)) ∷ []) no_types no_exceptions ([]) no_equates ([]) (statement_and (an_init 14 (a_variable (codes "s") (a_simple_type
    3 simple.String)) (an_infix 13 op.Concatenate (a_call 11 (an_operation 5 (a_simple_type 4 simple.Int) (codes "unparse")) (expression_and (a_call
    10 (an_operation 8 (a_list_type 7 list.Array (a_simple_type 6 simple.Int)) (codes "low")) (expression_and (a_name 9 (codes "a")) no_expressions))
    no_expressions)) (a_literal 12 (string (34 ∷ 58 ∷ 34 ∷ []))))) (statement_and (a_for 31 (typed 16 ((codes "x") ∷ []) (a_simple_type 15 simple.Int)
    ∷ []) (a_call 21 (an_operation 19 (a_list_type 18 list.Array (a_simple_type 17 simple.Int)) (codes "elements")) (expression_and (a_name 20 (codes
    "a")) no_expressions)) (a_body no_equates (statement_and (an_assign 30 ((codes "s") ∷ []) (expression_and (an_infix 29 op.Concatenate (an_infix 24
    op.Concatenate (a_name 22 (codes "s")) (a_literal 23 (string (34 ∷ 32 ∷ 34 ∷ [])))) (a_call 28 (an_operation 26 (a_simple_type 25 simple.Int)
    (codes "unparse")) (expression_and (a_name 27 (codes "x")) no_expressions))) no_expressions)) no_statements))) (statement_and (a_call_statement 39
    (a_call 38 (an_operation 33 (a_named_type 32 (codes "stream") no_constants) (codes "putl")) (expression_and (a_call 36 (an_operation 35
    (a_named_type 34 (codes "stream") no_constants) (codes "primary_output")) no_expressions) (expression_and (a_name 37 (codes "s"))
    no_expressions)))) no_statements))))) ∷ (a_routine 85 no_equates (routine 84 (codes "start_up") (codes "start_up") kind.Procedure [] ([]) no_types
    no_exceptions ([]) (equate_and (an_equate 44 (Some (codes "ai")) (a_type (a_list_type 43 list.Array (a_simple_type 42 simple.Int)))) no_equates)
    ([]) (statement_and (a_for 66 (typed 46 ((codes "i") ∷ []) (a_simple_type 45 simple.Int) ∷ []) (a_call 54 (an_operation 48 (a_named_type 47 (codes
    "ai") no_constants) (codes "indexes")) (expression_and (elements_from 53 (a_named_type 49 (codes "ai") no_constants) (a_literal 50 (integer (codes
    "3"))) (expression_and (a_literal 51 (integer (codes "9"))) (expression_and (a_literal 52 (integer (codes "9"))) no_expressions)))
    no_expressions)) (a_body no_equates (statement_and (a_call_statement 65 (a_call 64 (an_operation 56 (a_named_type 55 (codes "stream")
    no_constants) (codes "putl")) (expression_and (a_call 59 (an_operation 58 (a_named_type 57 (codes "stream") no_constants) (codes
    "primary_output")) no_expressions) (expression_and (a_call 63 (an_operation 61 (a_simple_type 60 simple.Int) (codes "unparse")) (expression_and
    (a_name 62 (codes "i")) no_expressions)) no_expressions)))) no_statements))) (statement_and (a_for 83 (typed 68 ((codes "i") ∷ []) (a_simple_type
    67 simple.Int) ∷ []) (a_call 74 (an_operation 70 (a_named_type 69 (codes "ai") no_constants) (codes "indexes")) (expression_and (a_call 73
    (an_operation 72 (a_named_type 71 (codes "ai") no_constants) (codes "new")) no_expressions) no_expressions)) (a_body no_equates (statement_and
    (a_call_statement 82 (a_call 81 (an_operation 76 (a_named_type 75 (codes "stream") no_constants) (codes "putl")) (expression_and (a_call 79
    (an_operation 78 (a_named_type 77 (codes "stream") no_constants) (codes "primary_output")) no_expressions) (expression_and (a_literal 80 (string
    (34 ∷ 110 ∷ 111 ∷ 34 ∷ []))) no_expressions)))) no_statements))) no_statements)))) ∷ [])

abbrev array_indexes_declared : List Declared
array_indexes_declared =
    (d (codes "a") 2 3 40 (Some 0) ∷ d (codes "s") 14 15 40 (Some 0) ∷ d (codes "x") 16 22 30 (Some 0) ∷ d (codes "pa") 40 0 4294967295 None ∷ d
    (codes "ai") 44 42 84 (Some 0) ∷ d (codes "i") 46 55 65 (Some 0) ∷ d (codes "i") 68 75 82 (Some 0) ∷ d (codes "start_up") 84 0 4294967295 None ∷
    [])

array_indexes : Runs array_indexes_declared array_indexes_modules (codes "") 10000 returned_normally (51 ∷ 10 ∷ 52 ∷ 10 ∷ []) 22 432
unfolding executing computing digits
array_indexes = refl

-- % array-elements-shrink
-- pa = proc (a: array[int])
--   s: string := int$unparse(array[int]$low(a)) || ":"
--   for x: int in array[int]$elements(a) do s := s || " " || int$unparse(x) end
--   stream$putl(stream$primary_output(), s)
-- end pa
-- start_up = proc ()
-- ai = array[int]
-- a: ai := ai$[1, 2, 3, 4]
--   for x: int in ai$elements(a) do stream$putl(stream$primary_output(), int$unparse(x)) x := ai$remh(a) end pa(a)
--   a := ai$[1, 2, 3, 4]
--   for x: int in ai$elements(a) do stream$putl(stream$primary_output(), int$unparse(x)) x := ai$reml(a) x := ai$reml(a) end pa(a)
-- end start_up
abbrev array_elements_shrink_modules : List Module
array_elements_shrink_modules =
    ((a_routine 41 no_equates (routine 40 (codes "pa") (codes "pa") kind.Procedure [] (typed 2 ((codes "a") ∷ []) (a_list_type 1 list.Array
    (a_simple_type 0 simple.Int)) ∷ []) no_types no_exceptions ([]) no_equates ([]) (statement_and (an_init 14 (a_variable (codes "s") (a_simple_type
    3 simple.String)) (an_infix 13 op.Concatenate (a_call 11 (an_operation 5 (a_simple_type 4 simple.Int) (codes "unparse")) (expression_and (a_call
    10 (an_operation 8 (a_list_type 7 list.Array (a_simple_type 6 simple.Int)) (codes "low")) (expression_and (a_name 9 (codes "a")) no_expressions))
    no_expressions)) (a_literal 12 (string (34 ∷ 58 ∷ 34 ∷ []))))) (statement_and (a_for 31 (typed 16 ((codes "x") ∷ []) (a_simple_type 15 simple.Int)
    ∷ []) (a_call 21 (an_operation 19 (a_list_type 18 list.Array (a_simple_type 17 simple.Int)) (codes "elements")) (expression_and (a_name 20 (codes
    "a")) no_expressions)) (a_body no_equates (statement_and (an_assign 30 ((codes "s") ∷ []) (expression_and (an_infix 29 op.Concatenate (an_infix 24
    op.Concatenate (a_name 22 (codes "s")) (a_literal 23 (string (34 ∷ 32 ∷ 34 ∷ [])))) (a_call 28 (an_operation 26 (a_simple_type 25 simple.Int)
    (codes "unparse")) (expression_and (a_name 27 (codes "x")) no_expressions))) no_expressions)) no_statements))) (statement_and (a_call_statement 39
    (a_call 38 (an_operation 33 (a_named_type 32 (codes "stream") no_constants) (codes "putl")) (expression_and (a_call 36 (an_operation 35
    (a_named_type 34 (codes "stream") no_constants) (codes "primary_output")) no_expressions) (expression_and (a_name 37 (codes "s"))
    no_expressions)))) no_statements))))) ∷ (a_routine 120 no_equates (routine 119 (codes "start_up") (codes "start_up") kind.Procedure [] ([])
    no_types no_exceptions ([]) (equate_and (an_equate 44 (Some (codes "ai")) (a_type (a_list_type 43 list.Array (a_simple_type 42 simple.Int))))
    no_equates) ([]) (statement_and (an_init 52 (a_variable (codes "a") (a_named_type 45 (codes "ai") no_constants)) (elements 51 (a_named_type 46
    (codes "ai") no_constants) (expression_and (a_literal 47 (integer (codes "1"))) (expression_and (a_literal 48 (integer (codes "2")))
    (expression_and (a_literal 49 (integer (codes "3"))) (expression_and (a_literal 50 (integer (codes "4"))) no_expressions)))))) (statement_and
    (a_for 75 (typed 54 ((codes "x") ∷ []) (a_simple_type 53 simple.Int) ∷ []) (a_call 58 (an_operation 56 (a_named_type 55 (codes "ai") no_constants)
    (codes "elements")) (expression_and (a_name 57 (codes "a")) no_expressions)) (a_body no_equates (statement_and (a_call_statement 69 (a_call 68
    (an_operation 60 (a_named_type 59 (codes "stream") no_constants) (codes "putl")) (expression_and (a_call 63 (an_operation 62 (a_named_type 61
    (codes "stream") no_constants) (codes "primary_output")) no_expressions) (expression_and (a_call 67 (an_operation 65 (a_simple_type 64 simple.Int)
    (codes "unparse")) (expression_and (a_name 66 (codes "x")) no_expressions)) no_expressions)))) (statement_and (an_assign 74 ((codes "x") ∷ [])
    (expression_and (a_call 73 (an_operation 71 (a_named_type 70 (codes "ai") no_constants) (codes "remh")) (expression_and (a_name 72 (codes "a"))
    no_expressions)) no_expressions)) no_statements)))) (statement_and (a_call_statement 79 (a_call 78 (a_name 76 (codes "pa")) (expression_and
    (a_name 77 (codes "a")) no_expressions))) (statement_and (an_assign 86 ((codes "a") ∷ []) (expression_and (elements 85 (a_named_type 80 (codes
    "ai") no_constants) (expression_and (a_literal 81 (integer (codes "1"))) (expression_and (a_literal 82 (integer (codes "2"))) (expression_and
    (a_literal 83 (integer (codes "3"))) (expression_and (a_literal 84 (integer (codes "4"))) no_expressions))))) no_expressions)) (statement_and
    (a_for 114 (typed 88 ((codes "x") ∷ []) (a_simple_type 87 simple.Int) ∷ []) (a_call 92 (an_operation 90 (a_named_type 89 (codes "ai")
    no_constants) (codes "elements")) (expression_and (a_name 91 (codes "a")) no_expressions)) (a_body no_equates (statement_and (a_call_statement 103
    (a_call 102 (an_operation 94 (a_named_type 93 (codes "stream") no_constants) (codes "putl")) (expression_and (a_call 97 (an_operation 96
    (a_named_type 95 (codes "stream") no_constants) (codes "primary_output")) no_expressions) (expression_and (a_call 101 (an_operation 99
    (a_simple_type 98 simple.Int) (codes "unparse")) (expression_and (a_name 100 (codes "x")) no_expressions)) no_expressions)))) (statement_and
    (an_assign 108 ((codes "x") ∷ []) (expression_and (a_call 107 (an_operation 105 (a_named_type 104 (codes "ai") no_constants) (codes "reml"))
    (expression_and (a_name 106 (codes "a")) no_expressions)) no_expressions)) (statement_and (an_assign 113 ((codes "x") ∷ []) (expression_and
    (a_call 112 (an_operation 110 (a_named_type 109 (codes "ai") no_constants) (codes "reml")) (expression_and (a_name 111 (codes "a"))
    no_expressions)) no_expressions)) no_statements))))) (statement_and (a_call_statement 118 (a_call 117 (a_name 115 (codes "pa")) (expression_and
    (a_name 116 (codes "a")) no_expressions))) no_statements)))))))) ∷ [])

abbrev array_elements_shrink_declared : List Declared
array_elements_shrink_declared =
    (d (codes "a") 2 3 40 (Some 0) ∷ d (codes "s") 14 15 40 (Some 0) ∷ d (codes "x") 16 22 30 (Some 0) ∷ d (codes "pa") 40 0 4294967295 None ∷ d
    (codes "ai") 44 42 119 (Some 0) ∷ d (codes "a") 52 53 119 (Some 0) ∷ d (codes "x") 54 59 74 (Some 0) ∷ d (codes "x") 88 93 113 (Some 0) ∷ d (codes
    "start_up") 119 0 4294967295 None ∷ [])

array_elements_shrink : Runs array_elements_shrink_declared array_elements_shrink_modules (codes "") 10000 returned_normally (49 ∷ 10 ∷ 50 ∷ 10 ∷ 49 ∷ 58 ∷ 32 ∷ 49 ∷ 32 ∷ 50 ∷ 10 ∷ 49 ∷ 10 ∷ 51 ∷ 58 ∷ 32 ∷ 51 ∷ 32 ∷ 52 ∷ 10 ∷ []) 76 706
unfolding executing computing digits
array_elements_shrink = refl

-- % array-indexes-fixed
-- pa = proc (a: array[int])
--   s: string := int$unparse(array[int]$low(a)) || ":"
--   for x: int in array[int]$elements(a) do s := s || " " || int$unparse(x) end
--   stream$putl(stream$primary_output(), s)
-- end pa
-- start_up = proc ()
-- ai = array[int]
-- a: ai := ai$[1, 2] for i: int in ai$indexes(a) do stream$putl(stream$primary_output(), int$unparse(i)) x: int := ai$remh(a)
--     except when bounds: stream$putl(stream$primary_output(), "b") end end ai$addh(a, 5)
-- end start_up
abbrev array_indexes_fixed_modules : List Module
array_indexes_fixed_modules =
    ((a_routine 41 no_equates (routine 40 (codes "pa") (codes "pa") kind.Procedure [] (typed 2 ((codes "a") ∷ []) (a_list_type 1 list.Array
    (a_simple_type 0 simple.Int)) ∷ []) no_types no_exceptions ([]) no_equates ([]) (statement_and (an_init 14 (a_variable (codes "s") (a_simple_type
    3 simple.String)) (an_infix 13 op.Concatenate (a_call 11 (an_operation 5 (a_simple_type 4 simple.Int) (codes "unparse")) (expression_and (a_call
    10 (an_operation 8 (a_list_type 7 list.Array (a_simple_type 6 simple.Int)) (codes "low")) (expression_and (a_name 9 (codes "a")) no_expressions))
    no_expressions)) (a_literal 12 (string (34 ∷ 58 ∷ 34 ∷ []))))) (statement_and (a_for 31 (typed 16 ((codes "x") ∷ []) (a_simple_type 15 simple.Int)
    ∷ []) (a_call 21 (an_operation 19 (a_list_type 18 list.Array (a_simple_type 17 simple.Int)) (codes "elements")) (expression_and (a_name 20 (codes
    "a")) no_expressions)) (a_body no_equates (statement_and (an_assign 30 ((codes "s") ∷ []) (expression_and (an_infix 29 op.Concatenate (an_infix 24
    op.Concatenate (a_name 22 (codes "s")) (a_literal 23 (string (34 ∷ 32 ∷ 34 ∷ [])))) (a_call 28 (an_operation 26 (a_simple_type 25 simple.Int)
    (codes "unparse")) (expression_and (a_name 27 (codes "x")) no_expressions))) no_expressions)) no_statements))) (statement_and (a_call_statement 39
    (a_call 38 (an_operation 33 (a_named_type 32 (codes "stream") no_constants) (codes "putl")) (expression_and (a_call 36 (an_operation 35
    (a_named_type 34 (codes "stream") no_constants) (codes "primary_output")) no_expressions) (expression_and (a_name 37 (codes "s"))
    no_expressions)))) no_statements))))) ∷ (a_routine 92 no_equates (routine 91 (codes "start_up") (codes "start_up") kind.Procedure [] ([]) no_types
    no_exceptions ([]) (equate_and (an_equate 44 (Some (codes "ai")) (a_type (a_list_type 43 list.Array (a_simple_type 42 simple.Int)))) no_equates)
    ([]) (statement_and (an_init 50 (a_variable (codes "a") (a_named_type 45 (codes "ai") no_constants)) (elements 49 (a_named_type 46 (codes "ai")
    no_constants) (expression_and (a_literal 47 (integer (codes "1"))) (expression_and (a_literal 48 (integer (codes "2"))) no_expressions))))
    (statement_and (a_for 84 (typed 52 ((codes "i") ∷ []) (a_simple_type 51 simple.Int) ∷ []) (a_call 56 (an_operation 54 (a_named_type 53 (codes
    "ai") no_constants) (codes "indexes")) (expression_and (a_name 55 (codes "a")) no_expressions)) (a_body no_equates (statement_and
    (a_call_statement 67 (a_call 66 (an_operation 58 (a_named_type 57 (codes "stream") no_constants) (codes "putl")) (expression_and (a_call 61
    (an_operation 60 (a_named_type 59 (codes "stream") no_constants) (codes "primary_output")) no_expressions) (expression_and (a_call 65
    (an_operation 63 (a_simple_type 62 simple.Int) (codes "unparse")) (expression_and (a_name 64 (codes "i")) no_expressions)) no_expressions))))
    (statement_and (an_except 83 (an_init 73 (a_variable (codes "x") (a_simple_type 68 simple.Int)) (a_call 72 (an_operation 70 (a_named_type 69
    (codes "ai") no_constants) (codes "remh")) (expression_and (a_name 71 (codes "a")) no_expressions))) (when_and 82 ((codes "bounds") ∷ []) (objects
    []) (a_body no_equates (statement_and (a_call_statement 81 (a_call 80 (an_operation 75 (a_named_type 74 (codes "stream") no_constants) (codes
    "putl")) (expression_and (a_call 78 (an_operation 77 (a_named_type 76 (codes "stream") no_constants) (codes "primary_output")) no_expressions)
    (expression_and (a_literal 79 (string (34 ∷ 98 ∷ 34 ∷ []))) no_expressions)))) no_statements)) no_whens) no_others) no_statements))))
    (statement_and (a_call_statement 90 (a_call 89 (an_operation 86 (a_named_type 85 (codes "ai") no_constants) (codes "addh")) (expression_and
    (a_name 87 (codes "a")) (expression_and (a_literal 88 (integer (codes "5"))) no_expressions)))) no_statements))))) ∷ [])

abbrev array_indexes_fixed_declared : List Declared
array_indexes_fixed_declared =
    (d (codes "a") 2 3 40 (Some 0) ∷ d (codes "s") 14 15 40 (Some 0) ∷ d (codes "x") 16 22 30 (Some 0) ∷ d (codes "pa") 40 0 4294967295 None ∷ d
    (codes "ai") 44 42 91 (Some 0) ∷ d (codes "a") 50 51 91 (Some 0) ∷ d (codes "i") 52 57 83 (Some 0) ∷ d (codes "x") 73 74 83 (Some 0) ∷ d (codes
    "start_up") 91 0 4294967295 None ∷ [])

array_indexes_fixed : Runs array_indexes_fixed_declared array_indexes_fixed_modules (codes "") 10000 returned_normally (49 ∷ 10 ∷ 50 ∷ 10 ∷ []) 16 446
unfolding executing computing digits
array_indexes_fixed = refl
