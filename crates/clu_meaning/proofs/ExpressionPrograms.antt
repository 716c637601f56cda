-- Programs that compute: operators, their order, and constants. Each is the tree of the CLU above it.
use Rattle.std.specs.Fmt.{digits}
use Rattle.std.specs.Prelude.{refl, List, [], ◌∷◌, codes, Some, None}
use Rattle.clu_names.specs.declared.scopes.Declared.{Declared}
use Rattle.clu_syntax.specs.declared.words.Operator.TheVariants as op
use Rattle.clu_syntax.specs.declared.words.Sign.TheVariants as sign
use Rattle.clu_syntax.specs.declared.words.SimpleType.TheVariants as simple
use Rattle.clu_syntax.specs.declared.words.ListType.TheVariants as list
use Rattle.clu_syntax.specs.declared.words.FieldsType.TheVariants as fields_word
use Rattle.clu_syntax.specs.declared.words.RoutineKind.TheVariants as kind
use Rattle.clu_syntax.specs.Syntax.{true_literal, false_literal, integer, character, string, an_infix, a_prefix, a_paren, a_literal, a_name, an_index, a_get, a_call, fields, elements, an_operation, no_expressions, expression_and, no_components, component_and, an_expression, a_type, no_constants, constant_and, a_simple_type, a_list_type, a_fields_type, a_named_type, no_types, type_and, no_selectors, selector_and, no_exceptions, an_equate, no_equates, equate_and, objects, an_init, an_assign, a_set_index, a_call_statement, an_if, a_return, a_begin, an_except, no_statements, statement_and, a_body, no_clauses, clause_and, nothing_else, otherwise, no_whens, when_and, no_others, Module, a_routine}
use Rattle.clu_layout.specs.Computing.{computing}
use Rattle.clu_meaning.specs.Run.{returned_normally}
use Rattle.clu_meaning.specs.Executing.{executing}
use Rattle.clu_meaning.proofs.Running.{d, typed, a_variable, routine, Runs}

-- % precedence
-- start_up = proc ()
-- stream$putl(stream$primary_output(), int$unparse(2 + 3 * 4)) stream$putl(stream$primary_output(), int$unparse(2 * 3 + 4)) stream$putl(stream$primary_output(), int$unparse(-2 ** 2)) stream$putl(stream$primary_output(), int$unparse(2 ** 3 ** 2)) stream$putl(stream$primary_output(), int$unparse(10 - 4 - 3))
-- stream$putl(stream$primary_output(), int$unparse(100 / 5 / 2)) stream$putl(stream$primary_output(), int$unparse(7 // 4 * 2)) stream$putl(stream$primary_output(), "a" || int$unparse(1 + 2) || "b")
-- if 1 + 1 = 2 & 3 < 4 then stream$putl(stream$primary_output(), "and") end
-- if false & false | true then stream$putl(stream$primary_output(), "or") end
-- if true | false & false then stream$putl(stream$primary_output(), "or2") end
-- if ~false & false | true then stream$putl(stream$primary_output(), "not") end
-- end start_up
abbrev precedence_modules : List Module
precedence_modules =
    ((a_routine 183 no_equates (routine 182 (codes "start_up") (codes "start_up") kind.Procedure [] ([]) no_types no_exceptions ([]) no_equates ([])
    (statement_and (a_call_statement 14 (a_call 13 (an_operation 1 (a_named_type 0 (codes "stream") no_constants) (codes "putl")) (expression_and
    (a_call 4 (an_operation 3 (a_named_type 2 (codes "stream") no_constants) (codes "primary_output")) no_expressions) (expression_and (a_call 12
    (an_operation 6 (a_simple_type 5 simple.Int) (codes "unparse")) (expression_and (an_infix 11 op.Add (a_literal 7 (integer (codes "2"))) (an_infix
    10 op.Multiply (a_literal 8 (integer (codes "3"))) (a_literal 9 (integer (codes "4"))))) no_expressions)) no_expressions)))) (statement_and
    (a_call_statement 29 (a_call 28 (an_operation 16 (a_named_type 15 (codes "stream") no_constants) (codes "putl")) (expression_and (a_call 19
    (an_operation 18 (a_named_type 17 (codes "stream") no_constants) (codes "primary_output")) no_expressions) (expression_and (a_call 27
    (an_operation 21 (a_simple_type 20 simple.Int) (codes "unparse")) (expression_and (an_infix 26 op.Add (an_infix 24 op.Multiply (a_literal 22
    (integer (codes "2"))) (a_literal 23 (integer (codes "3")))) (a_literal 25 (integer (codes "4")))) no_expressions)) no_expressions))))
    (statement_and (a_call_statement 43 (a_call 42 (an_operation 31 (a_named_type 30 (codes "stream") no_constants) (codes "putl")) (expression_and
    (a_call 34 (an_operation 33 (a_named_type 32 (codes "stream") no_constants) (codes "primary_output")) no_expressions) (expression_and (a_call 41
    (an_operation 36 (a_simple_type 35 simple.Int) (codes "unparse")) (expression_and (an_infix 40 op.Power (a_prefix 38 sign.Minus (a_literal 37
    (integer (codes "2")))) (a_literal 39 (integer (codes "2")))) no_expressions)) no_expressions)))) (statement_and (a_call_statement 58 (a_call 57
    (an_operation 45 (a_named_type 44 (codes "stream") no_constants) (codes "putl")) (expression_and (a_call 48 (an_operation 47 (a_named_type 46
    (codes "stream") no_constants) (codes "primary_output")) no_expressions) (expression_and (a_call 56 (an_operation 50 (a_simple_type 49 simple.Int)
    (codes "unparse")) (expression_and (an_infix 55 op.Power (a_literal 51 (integer (codes "2"))) (an_infix 54 op.Power (a_literal 52 (integer (codes
    "3"))) (a_literal 53 (integer (codes "2"))))) no_expressions)) no_expressions)))) (statement_and (a_call_statement 73 (a_call 72 (an_operation 60
    (a_named_type 59 (codes "stream") no_constants) (codes "putl")) (expression_and (a_call 63 (an_operation 62 (a_named_type 61 (codes "stream")
    no_constants) (codes "primary_output")) no_expressions) (expression_and (a_call 71 (an_operation 65 (a_simple_type 64 simple.Int) (codes
    "unparse")) (expression_and (an_infix 70 op.Subtract (an_infix 68 op.Subtract (a_literal 66 (integer (codes "10"))) (a_literal 67 (integer (codes
    "4")))) (a_literal 69 (integer (codes "3")))) no_expressions)) no_expressions)))) (statement_and (a_call_statement 88 (a_call 87 (an_operation 75
    (a_named_type 74 (codes "stream") no_constants) (codes "putl")) (expression_and (a_call 78 (an_operation 77 (a_named_type 76 (codes "stream")
    no_constants) (codes "primary_output")) no_expressions) (expression_and (a_call 86 (an_operation 80 (a_simple_type 79 simple.Int) (codes
    "unparse")) (expression_and (an_infix 85 op.Divide (an_infix 83 op.Divide (a_literal 81 (integer (codes "100"))) (a_literal 82 (integer (codes
    "5")))) (a_literal 84 (integer (codes "2")))) no_expressions)) no_expressions)))) (statement_and (a_call_statement 103 (a_call 102 (an_operation
    90 (a_named_type 89 (codes "stream") no_constants) (codes "putl")) (expression_and (a_call 93 (an_operation 92 (a_named_type 91 (codes "stream")
    no_constants) (codes "primary_output")) no_expressions) (expression_and (a_call 101 (an_operation 95 (a_simple_type 94 simple.Int) (codes
    "unparse")) (expression_and (an_infix 100 op.Multiply (an_infix 98 op.Remainder (a_literal 96 (integer (codes "7"))) (a_literal 97 (integer (codes
    "4")))) (a_literal 99 (integer (codes "2")))) no_expressions)) no_expressions)))) (statement_and (a_call_statement 120 (a_call 119 (an_operation
    105 (a_named_type 104 (codes "stream") no_constants) (codes "putl")) (expression_and (a_call 108 (an_operation 107 (a_named_type 106 (codes
    "stream") no_constants) (codes "primary_output")) no_expressions) (expression_and (an_infix 118 op.Concatenate (an_infix 116 op.Concatenate
    (a_literal 109 (string (34 ∷ 97 ∷ 34 ∷ []))) (a_call 115 (an_operation 111 (a_simple_type 110 simple.Int) (codes "unparse")) (expression_and
    (an_infix 114 op.Add (a_literal 112 (integer (codes "1"))) (a_literal 113 (integer (codes "2")))) no_expressions))) (a_literal 117 (string (34 ∷
    98 ∷ 34 ∷ [])))) no_expressions)))) (statement_and (an_if 138 (clause_and (an_infix 129 op.And (an_infix 125 op.Equal (an_infix 123 op.Add
    (a_literal 121 (integer (codes "1"))) (a_literal 122 (integer (codes "1")))) (a_literal 124 (integer (codes "2")))) (an_infix 128 op.Less
    (a_literal 126 (integer (codes "3"))) (a_literal 127 (integer (codes "4"))))) (a_body no_equates (statement_and (a_call_statement 137 (a_call 136
    (an_operation 131 (a_named_type 130 (codes "stream") no_constants) (codes "putl")) (expression_and (a_call 134 (an_operation 133 (a_named_type 132
    (codes "stream") no_constants) (codes "primary_output")) no_expressions) (expression_and (a_literal 135 (string (34 ∷ 97 ∷ 110 ∷ 100 ∷ 34 ∷ [])))
    no_expressions)))) no_statements)) no_clauses) nothing_else) (statement_and (an_if 152 (clause_and (an_infix 143 op.Or (an_infix 141 op.And
    (a_literal 139 false_literal) (a_literal 140 false_literal)) (a_literal 142 true_literal)) (a_body no_equates (statement_and (a_call_statement 151
    (a_call 150 (an_operation 145 (a_named_type 144 (codes "stream") no_constants) (codes "putl")) (expression_and (a_call 148 (an_operation 147
    (a_named_type 146 (codes "stream") no_constants) (codes "primary_output")) no_expressions) (expression_and (a_literal 149 (string (34 ∷ 111 ∷ 114
    ∷ 34 ∷ []))) no_expressions)))) no_statements)) no_clauses) nothing_else) (statement_and (an_if 166 (clause_and (an_infix 157 op.Or (a_literal 153
    true_literal) (an_infix 156 op.And (a_literal 154 false_literal) (a_literal 155 false_literal))) (a_body no_equates (statement_and
    (a_call_statement 165 (a_call 164 (an_operation 159 (a_named_type 158 (codes "stream") no_constants) (codes "putl")) (expression_and (a_call 162
    (an_operation 161 (a_named_type 160 (codes "stream") no_constants) (codes "primary_output")) no_expressions) (expression_and (a_literal 163
    (string (34 ∷ 111 ∷ 114 ∷ 50 ∷ 34 ∷ []))) no_expressions)))) no_statements)) no_clauses) nothing_else) (statement_and (an_if 181 (clause_and
    (an_infix 172 op.Or (an_infix 170 op.And (a_prefix 168 sign.Not (a_literal 167 false_literal)) (a_literal 169 false_literal)) (a_literal 171
    true_literal)) (a_body no_equates (statement_and (a_call_statement 180 (a_call 179 (an_operation 174 (a_named_type 173 (codes "stream")
    no_constants) (codes "putl")) (expression_and (a_call 177 (an_operation 176 (a_named_type 175 (codes "stream") no_constants) (codes
    "primary_output")) no_expressions) (expression_and (a_literal 178 (string (34 ∷ 110 ∷ 111 ∷ 116 ∷ 34 ∷ []))) no_expressions)))) no_statements))
    no_clauses) nothing_else) no_statements)))))))))))))) ∷ [])

abbrev precedence_declared : List Declared
precedence_declared =
    (d (codes "start_up") 182 0 4294967295 None ∷ [])

precedence : Runs precedence_declared precedence_modules (codes "") 10000 returned_normally (49 ∷ 52 ∷ 10 ∷ 49 ∷ 48 ∷ 10 ∷ 52 ∷ 10 ∷ 53 ∷ 49 ∷ 50 ∷ 10 ∷ 51 ∷ 10 ∷ 49 ∷ 48 ∷ 10 ∷ 54 ∷ 10 ∷ 97 ∷ 51 ∷ 98 ∷ 10 ∷ 97 ∷ 110 ∷ 100 ∷ 10 ∷ 111 ∷ 114 ∷ 10 ∷ 111 ∷ 114 ∷ 50 ∷ 10 ∷ 110 ∷ 111 ∷ 116 ∷ 10 ∷ []) 36 448
unfolding executing computing digits
precedence = refl

-- % negated comparisons
-- start_up = proc ()
-- if 1 ~= 2 then stream$putl(stream$primary_output(), "a") end if 1 ~< 1 then stream$putl(stream$primary_output(), "b") end if 1 ~<= 2 then stream$putl(stream$primary_output(), "c") end
-- if 2 ~>= 3 then stream$putl(stream$primary_output(), "d") end if 2 ~> 2 then stream$putl(stream$primary_output(), "e") end if "a" ~= "a" then stream$putl(stream$primary_output(), "f") end
-- end start_up
abbrev negated_comparisons_modules : List Module
negated_comparisons_modules =
    ((a_routine 73 no_equates (routine 72 (codes "start_up") (codes "start_up") kind.Procedure [] ([]) no_types no_exceptions ([]) no_equates ([])
    (statement_and (an_if 11 (clause_and (an_infix 2 op.NotEqual (a_literal 0 (integer (codes "1"))) (a_literal 1 (integer (codes "2")))) (a_body
    no_equates (statement_and (a_call_statement 10 (a_call 9 (an_operation 4 (a_named_type 3 (codes "stream") no_constants) (codes "putl"))
    (expression_and (a_call 7 (an_operation 6 (a_named_type 5 (codes "stream") no_constants) (codes "primary_output")) no_expressions) (expression_and
    (a_literal 8 (string (34 ∷ 97 ∷ 34 ∷ []))) no_expressions)))) no_statements)) no_clauses) nothing_else) (statement_and (an_if 23 (clause_and
    (an_infix 14 op.NotLess (a_literal 12 (integer (codes "1"))) (a_literal 13 (integer (codes "1")))) (a_body no_equates (statement_and
    (a_call_statement 22 (a_call 21 (an_operation 16 (a_named_type 15 (codes "stream") no_constants) (codes "putl")) (expression_and (a_call 19
    (an_operation 18 (a_named_type 17 (codes "stream") no_constants) (codes "primary_output")) no_expressions) (expression_and (a_literal 20 (string
    (34 ∷ 98 ∷ 34 ∷ []))) no_expressions)))) no_statements)) no_clauses) nothing_else) (statement_and (an_if 35 (clause_and (an_infix 26 op.NotAtMost
    (a_literal 24 (integer (codes "1"))) (a_literal 25 (integer (codes "2")))) (a_body no_equates (statement_and (a_call_statement 34 (a_call 33
    (an_operation 28 (a_named_type 27 (codes "stream") no_constants) (codes "putl")) (expression_and (a_call 31 (an_operation 30 (a_named_type 29
    (codes "stream") no_constants) (codes "primary_output")) no_expressions) (expression_and (a_literal 32 (string (34 ∷ 99 ∷ 34 ∷ [])))
    no_expressions)))) no_statements)) no_clauses) nothing_else) (statement_and (an_if 47 (clause_and (an_infix 38 op.NotAtLeast (a_literal 36
    (integer (codes "2"))) (a_literal 37 (integer (codes "3")))) (a_body no_equates (statement_and (a_call_statement 46 (a_call 45 (an_operation 40
    (a_named_type 39 (codes "stream") no_constants) (codes "putl")) (expression_and (a_call 43 (an_operation 42 (a_named_type 41 (codes "stream")
    no_constants) (codes "primary_output")) no_expressions) (expression_and (a_literal 44 (string (34 ∷ 100 ∷ 34 ∷ []))) no_expressions))))
    no_statements)) no_clauses) nothing_else) (statement_and (an_if 59 (clause_and (an_infix 50 op.NotGreater (a_literal 48 (integer (codes "2")))
    (a_literal 49 (integer (codes "2")))) (a_body no_equates (statement_and (a_call_statement 58 (a_call 57 (an_operation 52 (a_named_type 51 (codes
    "stream") no_constants) (codes "putl")) (expression_and (a_call 55 (an_operation 54 (a_named_type 53 (codes "stream") no_constants) (codes
    "primary_output")) no_expressions) (expression_and (a_literal 56 (string (34 ∷ 101 ∷ 34 ∷ []))) no_expressions)))) no_statements)) no_clauses)
    nothing_else) (statement_and (an_if 71 (clause_and (an_infix 62 op.NotEqual (a_literal 60 (string (34 ∷ 97 ∷ 34 ∷ []))) (a_literal 61 (string (34
    ∷ 97 ∷ 34 ∷ [])))) (a_body no_equates (statement_and (a_call_statement 70 (a_call 69 (an_operation 64 (a_named_type 63 (codes "stream")
    no_constants) (codes "putl")) (expression_and (a_call 67 (an_operation 66 (a_named_type 65 (codes "stream") no_constants) (codes
    "primary_output")) no_expressions) (expression_and (a_literal 68 (string (34 ∷ 102 ∷ 34 ∷ []))) no_expressions)))) no_statements)) no_clauses)
    nothing_else) no_statements)))))))) ∷ [])

abbrev negated_comparisons_declared : List Declared
negated_comparisons_declared =
    (d (codes "start_up") 72 0 4294967295 None ∷ [])

negated_comparisons : Runs negated_comparisons_declared negated_comparisons_modules (codes "") 10000 returned_normally (97 ∷ 10 ∷ 98 ∷ 10 ∷ 100 ∷ 10 ∷ 101 ∷ 10 ∷ []) 0 228
unfolding executing computing digits
negated_comparisons = refl

-- % euclid
-- start_up = proc ()
-- stream$putl(stream$primary_output(), int$unparse(7 / 2)) stream$putl(stream$primary_output(), int$unparse(-7 / 2)) stream$putl(stream$primary_output(), int$unparse(7 / -2)) stream$putl(stream$primary_output(), int$unparse(-7 / -2))
-- stream$putl(stream$primary_output(), int$unparse(7 // 2)) stream$putl(stream$primary_output(), int$unparse(-7 // 2)) stream$putl(stream$primary_output(), int$unparse(7 // -2)) stream$putl(stream$primary_output(), int$unparse(-7 // -2))
-- end start_up
abbrev euclid_modules : List Module
euclid_modules =
    ((a_routine 113 no_equates (routine 112 (codes "start_up") (codes "start_up") kind.Procedure [] ([]) no_types no_exceptions ([]) no_equates ([])
    (statement_and (a_call_statement 12 (a_call 11 (an_operation 1 (a_named_type 0 (codes "stream") no_constants) (codes "putl")) (expression_and
    (a_call 4 (an_operation 3 (a_named_type 2 (codes "stream") no_constants) (codes "primary_output")) no_expressions) (expression_and (a_call 10
    (an_operation 6 (a_simple_type 5 simple.Int) (codes "unparse")) (expression_and (an_infix 9 op.Divide (a_literal 7 (integer (codes "7")))
    (a_literal 8 (integer (codes "2")))) no_expressions)) no_expressions)))) (statement_and (a_call_statement 26 (a_call 25 (an_operation 14
    (a_named_type 13 (codes "stream") no_constants) (codes "putl")) (expression_and (a_call 17 (an_operation 16 (a_named_type 15 (codes "stream")
    no_constants) (codes "primary_output")) no_expressions) (expression_and (a_call 24 (an_operation 19 (a_simple_type 18 simple.Int) (codes
    "unparse")) (expression_and (an_infix 23 op.Divide (a_prefix 21 sign.Minus (a_literal 20 (integer (codes "7")))) (a_literal 22 (integer (codes
    "2")))) no_expressions)) no_expressions)))) (statement_and (a_call_statement 40 (a_call 39 (an_operation 28 (a_named_type 27 (codes "stream")
    no_constants) (codes "putl")) (expression_and (a_call 31 (an_operation 30 (a_named_type 29 (codes "stream") no_constants) (codes
    "primary_output")) no_expressions) (expression_and (a_call 38 (an_operation 33 (a_simple_type 32 simple.Int) (codes "unparse")) (expression_and
    (an_infix 37 op.Divide (a_literal 34 (integer (codes "7"))) (a_prefix 36 sign.Minus (a_literal 35 (integer (codes "2"))))) no_expressions))
    no_expressions)))) (statement_and (a_call_statement 55 (a_call 54 (an_operation 42 (a_named_type 41 (codes "stream") no_constants) (codes "putl"))
    (expression_and (a_call 45 (an_operation 44 (a_named_type 43 (codes "stream") no_constants) (codes "primary_output")) no_expressions)
    (expression_and (a_call 53 (an_operation 47 (a_simple_type 46 simple.Int) (codes "unparse")) (expression_and (an_infix 52 op.Divide (a_prefix 49
    sign.Minus (a_literal 48 (integer (codes "7")))) (a_prefix 51 sign.Minus (a_literal 50 (integer (codes "2"))))) no_expressions))
    no_expressions)))) (statement_and (a_call_statement 68 (a_call 67 (an_operation 57 (a_named_type 56 (codes "stream") no_constants) (codes "putl"))
    (expression_and (a_call 60 (an_operation 59 (a_named_type 58 (codes "stream") no_constants) (codes "primary_output")) no_expressions)
    (expression_and (a_call 66 (an_operation 62 (a_simple_type 61 simple.Int) (codes "unparse")) (expression_and (an_infix 65 op.Remainder (a_literal
    63 (integer (codes "7"))) (a_literal 64 (integer (codes "2")))) no_expressions)) no_expressions)))) (statement_and (a_call_statement 82 (a_call 81
    (an_operation 70 (a_named_type 69 (codes "stream") no_constants) (codes "putl")) (expression_and (a_call 73 (an_operation 72 (a_named_type 71
    (codes "stream") no_constants) (codes "primary_output")) no_expressions) (expression_and (a_call 80 (an_operation 75 (a_simple_type 74 simple.Int)
    (codes "unparse")) (expression_and (an_infix 79 op.Remainder (a_prefix 77 sign.Minus (a_literal 76 (integer (codes "7")))) (a_literal 78 (integer
    (codes "2")))) no_expressions)) no_expressions)))) (statement_and (a_call_statement 96 (a_call 95 (an_operation 84 (a_named_type 83 (codes
    "stream") no_constants) (codes "putl")) (expression_and (a_call 87 (an_operation 86 (a_named_type 85 (codes "stream") no_constants) (codes
    "primary_output")) no_expressions) (expression_and (a_call 94 (an_operation 89 (a_simple_type 88 simple.Int) (codes "unparse")) (expression_and
    (an_infix 93 op.Remainder (a_literal 90 (integer (codes "7"))) (a_prefix 92 sign.Minus (a_literal 91 (integer (codes "2"))))) no_expressions))
    no_expressions)))) (statement_and (a_call_statement 111 (a_call 110 (an_operation 98 (a_named_type 97 (codes "stream") no_constants) (codes
    "putl")) (expression_and (a_call 101 (an_operation 100 (a_named_type 99 (codes "stream") no_constants) (codes "primary_output")) no_expressions)
    (expression_and (a_call 109 (an_operation 103 (a_simple_type 102 simple.Int) (codes "unparse")) (expression_and (an_infix 108 op.Remainder
    (a_prefix 105 sign.Minus (a_literal 104 (integer (codes "7")))) (a_prefix 107 sign.Minus (a_literal 106 (integer (codes "2"))))) no_expressions))
    no_expressions)))) no_statements)))))))))) ∷ [])

abbrev euclid_declared : List Declared
euclid_declared =
    (d (codes "start_up") 112 0 4294967295 None ∷ [])

euclid : Runs euclid_declared euclid_modules (codes "") 10000 returned_normally (51 ∷ 10 ∷ 45 ∷ 52 ∷ 10 ∷ 45 ∷ 51 ∷ 10 ∷ 52 ∷ 10 ∷ 49 ∷ 10 ∷ 49 ∷ 10 ∷ 49 ∷ 10 ∷ 49 ∷ 10 ∷ []) 32 308
unfolding executing computing digits
euclid = refl

-- % bounds of int
-- start_up = proc ()
-- stream$putl(stream$primary_output(), int$unparse(9223372036854775807)) stream$putl(stream$primary_output(), int$unparse((-9223372036854775807 - 1))) stream$putl(stream$primary_output(), int$unparse((-9223372036854775807 - 1) + 9223372036854775807)) x: int := 9223372036854775807 x := x + 1
-- except when overflow: stream$putl(stream$primary_output(), "over") end stream$putl(stream$primary_output(), int$unparse(x))
-- end start_up
abbrev bounds_of_int_modules : List Module
bounds_of_int_modules =
    ((a_routine 72 no_equates (routine 71 (codes "start_up") (codes "start_up") kind.Procedure [] ([]) no_types no_exceptions ([]) no_equates ([])
    (statement_and (a_call_statement 10 (a_call 9 (an_operation 1 (a_named_type 0 (codes "stream") no_constants) (codes "putl")) (expression_and
    (a_call 4 (an_operation 3 (a_named_type 2 (codes "stream") no_constants) (codes "primary_output")) no_expressions) (expression_and (a_call 8
    (an_operation 6 (a_simple_type 5 simple.Int) (codes "unparse")) (expression_and (a_literal 7 (integer (codes "9223372036854775807")))
    no_expressions)) no_expressions)))) (statement_and (a_call_statement 25 (a_call 24 (an_operation 12 (a_named_type 11 (codes "stream")
    no_constants) (codes "putl")) (expression_and (a_call 15 (an_operation 14 (a_named_type 13 (codes "stream") no_constants) (codes
    "primary_output")) no_expressions) (expression_and (a_call 23 (an_operation 17 (a_simple_type 16 simple.Int) (codes "unparse")) (expression_and
    (a_paren 22 (an_infix 21 op.Subtract (a_prefix 19 sign.Minus (a_literal 18 (integer (codes "9223372036854775807")))) (a_literal 20 (integer (codes
    "1"))))) no_expressions)) no_expressions)))) (statement_and (a_call_statement 42 (a_call 41 (an_operation 27 (a_named_type 26 (codes "stream")
    no_constants) (codes "putl")) (expression_and (a_call 30 (an_operation 29 (a_named_type 28 (codes "stream") no_constants) (codes
    "primary_output")) no_expressions) (expression_and (a_call 40 (an_operation 32 (a_simple_type 31 simple.Int) (codes "unparse")) (expression_and
    (an_infix 39 op.Add (a_paren 37 (an_infix 36 op.Subtract (a_prefix 34 sign.Minus (a_literal 33 (integer (codes "9223372036854775807"))))
    (a_literal 35 (integer (codes "1"))))) (a_literal 38 (integer (codes "9223372036854775807")))) no_expressions)) no_expressions)))) (statement_and
    (an_init 45 (a_variable (codes "x") (a_simple_type 43 simple.Int)) (a_literal 44 (integer (codes "9223372036854775807")))) (statement_and
    (an_except 59 (an_assign 49 ((codes "x") ∷ []) (expression_and (an_infix 48 op.Add (a_name 46 (codes "x")) (a_literal 47 (integer (codes "1"))))
    no_expressions)) (when_and 58 ((codes "overflow") ∷ []) (objects []) (a_body no_equates (statement_and (a_call_statement 57 (a_call 56
    (an_operation 51 (a_named_type 50 (codes "stream") no_constants) (codes "putl")) (expression_and (a_call 54 (an_operation 53 (a_named_type 52
    (codes "stream") no_constants) (codes "primary_output")) no_expressions) (expression_and (a_literal 55 (string (34 ∷ 111 ∷ 118 ∷ 101 ∷ 114 ∷ 34 ∷
    []))) no_expressions)))) no_statements)) no_whens) no_others) (statement_and (a_call_statement 70 (a_call 69 (an_operation 61 (a_named_type 60
    (codes "stream") no_constants) (codes "putl")) (expression_and (a_call 64 (an_operation 63 (a_named_type 62 (codes "stream") no_constants) (codes
    "primary_output")) no_expressions) (expression_and (a_call 68 (an_operation 66 (a_simple_type 65 simple.Int) (codes "unparse")) (expression_and
    (a_name 67 (codes "x")) no_expressions)) no_expressions)))) no_statements)))))))) ∷ [])

abbrev bounds_of_int_declared : List Declared
bounds_of_int_declared =
    (d (codes "x") 45 46 71 (Some 0) ∷ d (codes "start_up") 71 0 4294967295 None ∷ [])

bounds_of_int : Runs bounds_of_int_declared bounds_of_int_modules (codes "") 10000 returned_normally (57 ∷ 50 ∷ 50 ∷ 51 ∷ 51 ∷ 55 ∷ 50 ∷ 48 ∷ 51 ∷ 54 ∷ 56 ∷ 53 ∷ 52 ∷ 55 ∷ 55 ∷ 53 ∷ 56 ∷ 48 ∷ 55 ∷ 10 ∷ 45 ∷ 57 ∷ 50 ∷ 50 ∷ 51 ∷ 51 ∷ 55 ∷ 50 ∷ 48 ∷ 51 ∷ 54 ∷ 56 ∷ 53 ∷ 52 ∷ 55 ∷ 55 ∷ 53 ∷ 56 ∷ 48 ∷ 56 ∷ 10 ∷ 45 ∷ 49 ∷ 10 ∷ 111 ∷ 118 ∷ 101 ∷ 114 ∷ 10 ∷ 57 ∷ 50 ∷ 50 ∷ 51 ∷ 51 ∷ 55 ∷ 50 ∷ 48 ∷ 51 ∷ 54 ∷ 56 ∷ 53 ∷ 52 ∷ 55 ∷ 55 ∷ 53 ∷ 56 ∷ 48 ∷ 55 ∷ 10 ∷ []) 16 226
unfolding executing computing digits
bounds_of_int = refl

-- % cand and cor
-- p = proc (s: string, b: bool) returns (bool) stream$puts(stream$primary_output(), s) return (b) end p
-- start_up = proc ()
-- if p("a", false) cand p("b", true) then stream$putl(stream$primary_output(), "!") end
-- if p("c", true) cor p("d", true) then stream$putl(stream$primary_output(), "!") end
-- if p("e", false) & p("f", true) then stream$putl(stream$primary_output(), "!") end
-- if p("g", true) | p("h", true) then stream$putl(stream$primary_output(), "!") end
-- if p("i", true) cand p("j", false) cor p("k", true) then stream$putl(stream$primary_output(), "!") end
-- end start_up
abbrev cand_and_cor_modules : List Module
cand_and_cor_modules =
    ((a_routine 17 no_equates (routine 16 (codes "p") (codes "p") kind.Procedure [] (typed 1 ((codes "s") ∷ []) (a_simple_type 0 simple.String) ∷
    typed 3 ((codes "b") ∷ []) (a_simple_type 2 simple.Bool) ∷ []) (type_and (a_simple_type 4 simple.Bool) no_types) no_exceptions ([]) no_equates
    ([]) (statement_and (a_call_statement 13 (a_call 12 (an_operation 7 (a_named_type 6 (codes "stream") no_constants) (codes "puts")) (expression_and
    (a_call 10 (an_operation 9 (a_named_type 8 (codes "stream") no_constants) (codes "primary_output")) no_expressions) (expression_and (a_name 11
    (codes "s")) no_expressions)))) (statement_and (a_return 15 (expression_and (a_name 14 (codes "b")) no_expressions)) no_statements)))) ∷
    (a_routine 114 no_equates (routine 113 (codes "start_up") (codes "start_up") kind.Procedure [] ([]) no_types no_exceptions ([]) no_equates ([])
    (statement_and (an_if 35 (clause_and (an_infix 26 op.Cand (a_call 21 (a_name 18 (codes "p")) (expression_and (a_literal 19 (string (34 ∷ 97 ∷ 34 ∷
    []))) (expression_and (a_literal 20 false_literal) no_expressions))) (a_call 25 (a_name 22 (codes "p")) (expression_and (a_literal 23 (string (34
    ∷ 98 ∷ 34 ∷ []))) (expression_and (a_literal 24 true_literal) no_expressions)))) (a_body no_equates (statement_and (a_call_statement 34 (a_call 33
    (an_operation 28 (a_named_type 27 (codes "stream") no_constants) (codes "putl")) (expression_and (a_call 31 (an_operation 30 (a_named_type 29
    (codes "stream") no_constants) (codes "primary_output")) no_expressions) (expression_and (a_literal 32 (string (34 ∷ 33 ∷ 34 ∷ [])))
    no_expressions)))) no_statements)) no_clauses) nothing_else) (statement_and (an_if 53 (clause_and (an_infix 44 op.Cor (a_call 39 (a_name 36 (codes
    "p")) (expression_and (a_literal 37 (string (34 ∷ 99 ∷ 34 ∷ []))) (expression_and (a_literal 38 true_literal) no_expressions))) (a_call 43 (a_name
    40 (codes "p")) (expression_and (a_literal 41 (string (34 ∷ 100 ∷ 34 ∷ []))) (expression_and (a_literal 42 true_literal) no_expressions))))
    (a_body no_equates (statement_and (a_call_statement 52 (a_call 51 (an_operation 46 (a_named_type 45 (codes "stream") no_constants) (codes "putl"))
    (expression_and (a_call 49 (an_operation 48 (a_named_type 47 (codes "stream") no_constants) (codes "primary_output")) no_expressions)
    (expression_and (a_literal 50 (string (34 ∷ 33 ∷ 34 ∷ []))) no_expressions)))) no_statements)) no_clauses) nothing_else) (statement_and (an_if 71
    (clause_and (an_infix 62 op.And (a_call 57 (a_name 54 (codes "p")) (expression_and (a_literal 55 (string (34 ∷ 101 ∷ 34 ∷ []))) (expression_and
    (a_literal 56 false_literal) no_expressions))) (a_call 61 (a_name 58 (codes "p")) (expression_and (a_literal 59 (string (34 ∷ 102 ∷ 34 ∷ [])))
    (expression_and (a_literal 60 true_literal) no_expressions)))) (a_body no_equates (statement_and (a_call_statement 70 (a_call 69 (an_operation 64
    (a_named_type 63 (codes "stream") no_constants) (codes "putl")) (expression_and (a_call 67 (an_operation 66 (a_named_type 65 (codes "stream")
    no_constants) (codes "primary_output")) no_expressions) (expression_and (a_literal 68 (string (34 ∷ 33 ∷ 34 ∷ []))) no_expressions))))
    no_statements)) no_clauses) nothing_else) (statement_and (an_if 89 (clause_and (an_infix 80 op.Or (a_call 75 (a_name 72 (codes "p"))
    (expression_and (a_literal 73 (string (34 ∷ 103 ∷ 34 ∷ []))) (expression_and (a_literal 74 true_literal) no_expressions))) (a_call 79 (a_name 76
    (codes "p")) (expression_and (a_literal 77 (string (34 ∷ 104 ∷ 34 ∷ []))) (expression_and (a_literal 78 true_literal) no_expressions)))) (a_body
    no_equates (statement_and (a_call_statement 88 (a_call 87 (an_operation 82 (a_named_type 81 (codes "stream") no_constants) (codes "putl"))
    (expression_and (a_call 85 (an_operation 84 (a_named_type 83 (codes "stream") no_constants) (codes "primary_output")) no_expressions)
    (expression_and (a_literal 86 (string (34 ∷ 33 ∷ 34 ∷ []))) no_expressions)))) no_statements)) no_clauses) nothing_else) (statement_and (an_if 112
    (clause_and (an_infix 103 op.Cor (an_infix 98 op.Cand (a_call 93 (a_name 90 (codes "p")) (expression_and (a_literal 91 (string (34 ∷ 105 ∷ 34 ∷
    []))) (expression_and (a_literal 92 true_literal) no_expressions))) (a_call 97 (a_name 94 (codes "p")) (expression_and (a_literal 95 (string (34 ∷
    106 ∷ 34 ∷ []))) (expression_and (a_literal 96 false_literal) no_expressions)))) (a_call 102 (a_name 99 (codes "p")) (expression_and (a_literal
    100 (string (34 ∷ 107 ∷ 34 ∷ []))) (expression_and (a_literal 101 true_literal) no_expressions)))) (a_body no_equates (statement_and
    (a_call_statement 111 (a_call 110 (an_operation 105 (a_named_type 104 (codes "stream") no_constants) (codes "putl")) (expression_and (a_call 108
    (an_operation 107 (a_named_type 106 (codes "stream") no_constants) (codes "primary_output")) no_expressions) (expression_and (a_literal 109
    (string (34 ∷ 33 ∷ 34 ∷ []))) no_expressions)))) no_statements)) no_clauses) nothing_else) no_statements))))))) ∷ [])

abbrev cand_and_cor_declared : List Declared
cand_and_cor_declared =
    (d (codes "s") 1 2 16 (Some 0) ∷ d (codes "b") 3 4 16 (Some 0) ∷ d (codes "p") 16 0 4294967295 None ∷ d (codes "start_up") 113 0 4294967295 None ∷
    [])

cand_and_cor : Runs cand_and_cor_declared cand_and_cor_modules (codes "") 10000 returned_normally (97 ∷ 99 ∷ 33 ∷ 10 ∷ 101 ∷ 102 ∷ 103 ∷ 104 ∷ 33 ∷ 10 ∷ 105 ∷ 106 ∷ 107 ∷ 33 ∷ 10 ∷ []) 0 326
unfolding executing computing digits
cand_and_cor = refl

-- % order of arguments
-- p = proc (n: int) returns (int) stream$puts(stream$primary_output(), int$unparse(n)) return (n) end p
-- q = proc (a, b, c: int) returns (int) return (a + b * c) end q
-- start_up = proc () stream$putl(stream$primary_output(), int$unparse(q(p(1), p(2), p(3))))
-- a: array[int] := array[int]$[p(4), p(5)] stream$putl(stream$primary_output(), "")
-- r: struct[x, y, z: int] := struct[x, y, z: int]${z: p(6), y: p(7), x: p(8)} stream$putl(stream$primary_output(), "")
-- a[p(1)] := p(9) stream$putl(stream$primary_output(), "") stream$putl(stream$primary_output(), int$unparse(p(1) + p(2) * p(3) ** p(2)))
-- end start_up
abbrev order_of_arguments_modules : List Module
order_of_arguments_modules =
    ((a_routine 18 no_equates (routine 17 (codes "p") (codes "p") kind.Procedure [] (typed 1 ((codes "n") ∷ []) (a_simple_type 0 simple.Int) ∷ [])
    (type_and (a_simple_type 2 simple.Int) no_types) no_exceptions ([]) no_equates ([]) (statement_and (a_call_statement 14 (a_call 13 (an_operation 5
    (a_named_type 4 (codes "stream") no_constants) (codes "puts")) (expression_and (a_call 8 (an_operation 7 (a_named_type 6 (codes "stream")
    no_constants) (codes "primary_output")) no_expressions) (expression_and (a_call 12 (an_operation 10 (a_simple_type 9 simple.Int) (codes
    "unparse")) (expression_and (a_name 11 (codes "n")) no_expressions)) no_expressions)))) (statement_and (a_return 16 (expression_and (a_name 15
    (codes "n")) no_expressions)) no_statements)))) ∷ (a_routine 30 no_equates (routine 29 (codes "q") (codes "q") kind.Procedure [] (typed 20 ((codes
    "a") ∷ (codes "b") ∷ (codes "c") ∷ []) (a_simple_type 19 simple.Int) ∷ []) (type_and (a_simple_type 21 simple.Int) no_types) no_exceptions ([])
    no_equates ([]) (statement_and (a_return 28 (expression_and (an_infix 27 op.Add (a_name 23 (codes "a")) (an_infix 26 op.Multiply (a_name 24 (codes
    "b")) (a_name 25 (codes "c")))) no_expressions)) no_statements))) ∷ (a_routine 142 no_equates (routine 141 (codes "start_up") (codes "start_up")
    kind.Procedure [] ([]) no_types no_exceptions ([]) no_equates ([]) (statement_and (a_call_statement 51 (a_call 50 (an_operation 32 (a_named_type
    31 (codes "stream") no_constants) (codes "putl")) (expression_and (a_call 35 (an_operation 34 (a_named_type 33 (codes "stream") no_constants)
    (codes "primary_output")) no_expressions) (expression_and (a_call 49 (an_operation 37 (a_simple_type 36 simple.Int) (codes "unparse"))
    (expression_and (a_call 48 (a_name 38 (codes "q")) (expression_and (a_call 41 (a_name 39 (codes "p")) (expression_and (a_literal 40 (integer
    (codes "1"))) no_expressions)) (expression_and (a_call 44 (a_name 42 (codes "p")) (expression_and (a_literal 43 (integer (codes "2")))
    no_expressions)) (expression_and (a_call 47 (a_name 45 (codes "p")) (expression_and (a_literal 46 (integer (codes "3"))) no_expressions))
    no_expressions)))) no_expressions)) no_expressions)))) (statement_and (an_init 63 (a_variable (codes "a") (a_list_type 53 list.Array
    (a_simple_type 52 simple.Int))) (elements 62 (a_list_type 55 list.Array (a_simple_type 54 simple.Int)) (expression_and (a_call 58 (a_name 56
    (codes "p")) (expression_and (a_literal 57 (integer (codes "4"))) no_expressions)) (expression_and (a_call 61 (a_name 59 (codes "p"))
    (expression_and (a_literal 60 (integer (codes "5"))) no_expressions)) no_expressions)))) (statement_and (a_call_statement 71 (a_call 70
    (an_operation 65 (a_named_type 64 (codes "stream") no_constants) (codes "putl")) (expression_and (a_call 68 (an_operation 67 (a_named_type 66
    (codes "stream") no_constants) (codes "primary_output")) no_expressions) (expression_and (a_literal 69 (string (34 ∷ 34 ∷ []))) no_expressions))))
    (statement_and (an_init 91 (a_variable (codes "r") (a_fields_type 74 fields_word.Struct (selector_and 73 ((codes "x") ∷ (codes "y") ∷ (codes "z")
    ∷ []) (a_simple_type 72 simple.Int) no_selectors))) (fields 90 (a_fields_type 77 fields_word.Struct (selector_and 76 ((codes "x") ∷ (codes "y") ∷
    (codes "z") ∷ []) (a_simple_type 75 simple.Int) no_selectors)) (component_and 81 ((codes "z") ∷ []) (a_call 80 (a_name 78 (codes "p"))
    (expression_and (a_literal 79 (integer (codes "6"))) no_expressions)) (component_and 85 ((codes "y") ∷ []) (a_call 84 (a_name 82 (codes "p"))
    (expression_and (a_literal 83 (integer (codes "7"))) no_expressions)) (component_and 89 ((codes "x") ∷ []) (a_call 88 (a_name 86 (codes "p"))
    (expression_and (a_literal 87 (integer (codes "8"))) no_expressions)) no_components))))) (statement_and (a_call_statement 99 (a_call 98
    (an_operation 93 (a_named_type 92 (codes "stream") no_constants) (codes "putl")) (expression_and (a_call 96 (an_operation 95 (a_named_type 94
    (codes "stream") no_constants) (codes "primary_output")) no_expressions) (expression_and (a_literal 97 (string (34 ∷ 34 ∷ []))) no_expressions))))
    (statement_and (a_set_index 107 (a_name 100 (codes "a")) (a_call 103 (a_name 101 (codes "p")) (expression_and (a_literal 102 (integer (codes
    "1"))) no_expressions)) (a_call 106 (a_name 104 (codes "p")) (expression_and (a_literal 105 (integer (codes "9"))) no_expressions)))
    (statement_and (a_call_statement 115 (a_call 114 (an_operation 109 (a_named_type 108 (codes "stream") no_constants) (codes "putl"))
    (expression_and (a_call 112 (an_operation 111 (a_named_type 110 (codes "stream") no_constants) (codes "primary_output")) no_expressions)
    (expression_and (a_literal 113 (string (34 ∷ 34 ∷ []))) no_expressions)))) (statement_and (a_call_statement 140 (a_call 139 (an_operation 117
    (a_named_type 116 (codes "stream") no_constants) (codes "putl")) (expression_and (a_call 120 (an_operation 119 (a_named_type 118 (codes "stream")
    no_constants) (codes "primary_output")) no_expressions) (expression_and (a_call 138 (an_operation 122 (a_simple_type 121 simple.Int) (codes
    "unparse")) (expression_and (an_infix 137 op.Add (a_call 125 (a_name 123 (codes "p")) (expression_and (a_literal 124 (integer (codes "1")))
    no_expressions)) (an_infix 136 op.Multiply (a_call 128 (a_name 126 (codes "p")) (expression_and (a_literal 127 (integer (codes "2")))
    no_expressions)) (an_infix 135 op.Power (a_call 131 (a_name 129 (codes "p")) (expression_and (a_literal 130 (integer (codes "3")))
    no_expressions)) (a_call 134 (a_name 132 (codes "p")) (expression_and (a_literal 133 (integer (codes "2"))) no_expressions))))) no_expressions))
    no_expressions)))) no_statements)))))))))) ∷ [])

abbrev order_of_arguments_declared : List Declared
order_of_arguments_declared =
    (d (codes "n") 1 2 17 (Some 0) ∷ d (codes "p") 17 0 4294967295 None ∷ d (codes "a") 20 21 29 (Some 0) ∷ d (codes "b") 20 21 29 (Some 0) ∷ d (codes
    "c") 20 21 29 (Some 0) ∷ d (codes "q") 29 0 4294967295 None ∷ d (codes "a") 63 64 141 (Some 0) ∷ d (codes "r") 91 92 141 (Some 0) ∷ d (codes
    "start_up") 141 0 4294967295 None ∷ [])

order_of_arguments : Runs order_of_arguments_declared order_of_arguments_modules (codes "") 10000 returned_normally (49 ∷ 50 ∷ 51 ∷ 55 ∷ 10 ∷ 52 ∷ 53 ∷ 10 ∷ 54 ∷ 55 ∷ 56 ∷ 10 ∷ 49 ∷ 57 ∷ 10 ∷ 49 ∷ 50 ∷ 51 ∷ 50 ∷ 49 ∷ 57 ∷ 10 ∷ []) 76 366
unfolding executing computing digits
order_of_arguments = refl

-- % a part is evaluated once
-- p = proc () returns (array[int]) stream$putl(stream$primary_output(), "p") return (array[int]$new()) end p
-- start_up = proc () r: record[a, b: array[int]] := record[a, b: array[int]]${a, b: p()}
-- array[int]$addh(r.a, 7) stream$putl(stream$primary_output(), int$unparse(r.b[1])) if r.a = r.b then stream$putl(stream$primary_output(), "same") end end start_up
abbrev a_part_is_evaluated_once_modules : List Module
a_part_is_evaluated_once_modules =
    ((a_routine 17 no_equates (routine 16 (codes "p") (codes "p") kind.Procedure [] ([]) (type_and (a_list_type 1 list.Array (a_simple_type 0
    simple.Int)) no_types) no_exceptions ([]) no_equates ([]) (statement_and (a_call_statement 10 (a_call 9 (an_operation 4 (a_named_type 3 (codes
    "stream") no_constants) (codes "putl")) (expression_and (a_call 7 (an_operation 6 (a_named_type 5 (codes "stream") no_constants) (codes
    "primary_output")) no_expressions) (expression_and (a_literal 8 (string (34 ∷ 112 ∷ 34 ∷ []))) no_expressions)))) (statement_and (a_return 15
    (expression_and (a_call 14 (an_operation 13 (a_list_type 12 list.Array (a_simple_type 11 simple.Int)) (codes "new")) no_expressions)
    no_expressions)) no_statements)))) ∷ (a_routine 68 no_equates (routine 67 (codes "start_up") (codes "start_up") kind.Procedure [] ([]) no_types
    no_exceptions ([]) no_equates ([]) (statement_and (an_init 30 (a_variable (codes "r") (a_fields_type 21 fields_word.Record (selector_and 20
    ((codes "a") ∷ (codes "b") ∷ []) (a_list_type 19 list.Array (a_simple_type 18 simple.Int)) no_selectors))) (fields 29 (a_fields_type 25
    fields_word.Record (selector_and 24 ((codes "a") ∷ (codes "b") ∷ []) (a_list_type 23 list.Array (a_simple_type 22 simple.Int)) no_selectors))
    (component_and 28 ((codes "a") ∷ (codes "b") ∷ []) (a_call 27 (a_name 26 (codes "p")) no_expressions) no_components))) (statement_and
    (a_call_statement 38 (a_call 37 (an_operation 33 (a_list_type 32 list.Array (a_simple_type 31 simple.Int)) (codes "addh")) (expression_and (a_get
    35 (a_name 34 (codes "r")) (codes "a")) (expression_and (a_literal 36 (integer (codes "7"))) no_expressions)))) (statement_and (a_call_statement
    52 (a_call 51 (an_operation 40 (a_named_type 39 (codes "stream") no_constants) (codes "putl")) (expression_and (a_call 43 (an_operation 42
    (a_named_type 41 (codes "stream") no_constants) (codes "primary_output")) no_expressions) (expression_and (a_call 50 (an_operation 45
    (a_simple_type 44 simple.Int) (codes "unparse")) (expression_and (an_index 49 (a_get 47 (a_name 46 (codes "r")) (codes "b")) (constant_and
    (an_expression (a_literal 48 (integer (codes "1")))) no_constants)) no_expressions)) no_expressions)))) (statement_and (an_if 66 (clause_and
    (an_infix 57 op.Equal (a_get 54 (a_name 53 (codes "r")) (codes "a")) (a_get 56 (a_name 55 (codes "r")) (codes "b"))) (a_body no_equates
    (statement_and (a_call_statement 65 (a_call 64 (an_operation 59 (a_named_type 58 (codes "stream") no_constants) (codes "putl")) (expression_and
    (a_call 62 (an_operation 61 (a_named_type 60 (codes "stream") no_constants) (codes "primary_output")) no_expressions) (expression_and (a_literal
    63 (string (34 ∷ 115 ∷ 97 ∷ 109 ∷ 101 ∷ 34 ∷ []))) no_expressions)))) no_statements)) no_clauses) nothing_else) no_statements)))))) ∷ [])

abbrev a_part_is_evaluated_once_declared : List Declared
a_part_is_evaluated_once_declared =
    (d (codes "p") 16 0 4294967295 None ∷ d (codes "r") 30 31 67 (Some 0) ∷ d (codes "start_up") 67 0 4294967295 None ∷ [])

a_part_is_evaluated_once : Runs a_part_is_evaluated_once_declared a_part_is_evaluated_once_modules (codes "") 10000 returned_normally (112 ∷ 10 ∷ 55 ∷ 10 ∷ 115 ∷ 97 ∷ 109 ∷ 101 ∷ 10 ∷ []) 17 240
unfolding executing computing digits
a_part_is_evaluated_once = refl

-- % equates
-- start_up = proc ()
-- n = 2 * 3 + 1 s = "a" || "b" t = array[int] u = struct[x: t, y: int] b = n > 6
-- stream$putl(stream$primary_output(), int$unparse(n)) stream$putl(stream$primary_output(), s) x: u := u${x: t$[n], y: n ** 2} stream$putl(stream$primary_output(), int$unparse(x.x[1] + x.y)) if b then stream$putl(stream$primary_output(), "b") end
-- end start_up
abbrev equates_modules : List Module
equates_modules =
    ((a_routine 82 no_equates (routine 81 (codes "start_up") (codes "start_up") kind.Procedure [] ([]) no_types no_exceptions ([]) (equate_and
    (an_equate 5 (Some (codes "n")) (an_expression (an_infix 4 op.Add (an_infix 2 op.Multiply (a_literal 0 (integer (codes "2"))) (a_literal 1
    (integer (codes "3")))) (a_literal 3 (integer (codes "1")))))) (equate_and (an_equate 9 (Some (codes "s")) (an_expression (an_infix 8
    op.Concatenate (a_literal 6 (string (34 ∷ 97 ∷ 34 ∷ []))) (a_literal 7 (string (34 ∷ 98 ∷ 34 ∷ [])))))) (equate_and (an_equate 12 (Some (codes
    "t")) (a_type (a_list_type 11 list.Array (a_simple_type 10 simple.Int)))) (equate_and (an_equate 18 (Some (codes "u")) (a_type (a_fields_type 17
    fields_word.Struct (selector_and 14 ((codes "x") ∷ []) (a_named_type 13 (codes "t") no_constants) (selector_and 16 ((codes "y") ∷ [])
    (a_simple_type 15 simple.Int) no_selectors))))) (equate_and (an_equate 22 (Some (codes "b")) (an_expression (an_infix 21 op.Greater (a_name 19
    (codes "n")) (a_literal 20 (integer (codes "6")))))) no_equates))))) ([]) (statement_and (a_call_statement 33 (a_call 32 (an_operation 24
    (a_named_type 23 (codes "stream") no_constants) (codes "putl")) (expression_and (a_call 27 (an_operation 26 (a_named_type 25 (codes "stream")
    no_constants) (codes "primary_output")) no_expressions) (expression_and (a_call 31 (an_operation 29 (a_simple_type 28 simple.Int) (codes
    "unparse")) (expression_and (a_name 30 (codes "n")) no_expressions)) no_expressions)))) (statement_and (a_call_statement 41 (a_call 40
    (an_operation 35 (a_named_type 34 (codes "stream") no_constants) (codes "putl")) (expression_and (a_call 38 (an_operation 37 (a_named_type 36
    (codes "stream") no_constants) (codes "primary_output")) no_expressions) (expression_and (a_name 39 (codes "s")) no_expressions)))) (statement_and
    (an_init 53 (a_variable (codes "x") (a_named_type 42 (codes "u") no_constants)) (fields 52 (a_named_type 43 (codes "u") no_constants)
    (component_and 47 ((codes "x") ∷ []) (elements 46 (a_named_type 44 (codes "t") no_constants) (expression_and (a_name 45 (codes "n"))
    no_expressions)) (component_and 51 ((codes "y") ∷ []) (an_infix 50 op.Power (a_name 48 (codes "n")) (a_literal 49 (integer (codes "2"))))
    no_components)))) (statement_and (a_call_statement 70 (a_call 69 (an_operation 55 (a_named_type 54 (codes "stream") no_constants) (codes "putl"))
    (expression_and (a_call 58 (an_operation 57 (a_named_type 56 (codes "stream") no_constants) (codes "primary_output")) no_expressions)
    (expression_and (a_call 68 (an_operation 60 (a_simple_type 59 simple.Int) (codes "unparse")) (expression_and (an_infix 67 op.Add (an_index 64
    (a_get 62 (a_name 61 (codes "x")) (codes "x")) (constant_and (an_expression (a_literal 63 (integer (codes "1")))) no_constants)) (a_get 66 (a_name
    65 (codes "x")) (codes "y"))) no_expressions)) no_expressions)))) (statement_and (an_if 80 (clause_and (a_name 71 (codes "b")) (a_body no_equates
    (statement_and (a_call_statement 79 (a_call 78 (an_operation 73 (a_named_type 72 (codes "stream") no_constants) (codes "putl")) (expression_and
    (a_call 76 (an_operation 75 (a_named_type 74 (codes "stream") no_constants) (codes "primary_output")) no_expressions) (expression_and (a_literal
    77 (string (34 ∷ 98 ∷ 34 ∷ []))) no_expressions)))) no_statements)) no_clauses) nothing_else) no_statements))))))) ∷ [])

abbrev equates_declared : List Declared
equates_declared =
    (d (codes "n") 5 0 81 (Some 0) ∷ d (codes "s") 9 0 81 (Some 0) ∷ d (codes "t") 12 0 81 (Some 0) ∷ d (codes "u") 18 0 81 (Some 0) ∷ d (codes "b")
    22 0 81 (Some 0) ∷ d (codes "x") 53 54 81 (Some 0) ∷ d (codes "start_up") 81 0 4294967295 None ∷ [])

equates : Runs equates_declared equates_modules (codes "") 10000 returned_normally (55 ∷ 10 ∷ 97 ∷ 98 ∷ 10 ∷ 53 ∷ 54 ∷ 10 ∷ 98 ∷ 10 ∷ []) 18 246
unfolding executing computing digits
equates = refl

-- % equates of bodies
-- start_up = proc ()
-- if true then k = 1 stream$putl(stream$primary_output(), int$unparse(k)) else k = "x" stream$putl(stream$primary_output(), k) end begin k = 'c' stream$putl(stream$primary_output(), string$c2s(k)) end
-- end start_up
abbrev equates_of_bodies_modules : List Module
equates_of_bodies_modules =
    ((a_routine 40 no_equates (routine 39 (codes "start_up") (codes "start_up") kind.Procedure [] ([]) no_types no_exceptions ([]) no_equates ([])
    (statement_and (an_if 24 (clause_and (a_literal 0 true_literal) (a_body (equate_and (an_equate 2 (Some (codes "k")) (an_expression (a_literal 1
    (integer (codes "1"))))) no_equates) (statement_and (a_call_statement 13 (a_call 12 (an_operation 4 (a_named_type 3 (codes "stream") no_constants)
    (codes "putl")) (expression_and (a_call 7 (an_operation 6 (a_named_type 5 (codes "stream") no_constants) (codes "primary_output")) no_expressions)
    (expression_and (a_call 11 (an_operation 9 (a_simple_type 8 simple.Int) (codes "unparse")) (expression_and (a_name 10 (codes "k"))
    no_expressions)) no_expressions)))) no_statements)) no_clauses) (otherwise (a_body (equate_and (an_equate 15 (Some (codes "k")) (an_expression
    (a_literal 14 (string (34 ∷ 120 ∷ 34 ∷ []))))) no_equates) (statement_and (a_call_statement 23 (a_call 22 (an_operation 17 (a_named_type 16 (codes
    "stream") no_constants) (codes "putl")) (expression_and (a_call 20 (an_operation 19 (a_named_type 18 (codes "stream") no_constants) (codes
    "primary_output")) no_expressions) (expression_and (a_name 21 (codes "k")) no_expressions)))) no_statements)))) (statement_and (a_begin 38 (a_body
    (equate_and (an_equate 26 (Some (codes "k")) (an_expression (a_literal 25 (character (codes "'c'"))))) no_equates) (statement_and
    (a_call_statement 37 (a_call 36 (an_operation 28 (a_named_type 27 (codes "stream") no_constants) (codes "putl")) (expression_and (a_call 31
    (an_operation 30 (a_named_type 29 (codes "stream") no_constants) (codes "primary_output")) no_expressions) (expression_and (a_call 35
    (an_operation 33 (a_simple_type 32 simple.String) (codes "c2s")) (expression_and (a_name 34 (codes "k")) no_expressions)) no_expressions))))
    no_statements))) no_statements)))) ∷ [])

abbrev equates_of_bodies_declared : List Declared
equates_of_bodies_declared =
    (d (codes "k") 2 1 13 (Some 0) ∷ d (codes "k") 15 14 23 (Some 0) ∷ d (codes "k") 26 25 37 (Some 0) ∷ d (codes "start_up") 39 0 4294967295 None ∷
    [])

equates_of_bodies : Runs equates_of_bodies_declared equates_of_bodies_modules (codes "") 10000 returned_normally (49 ∷ 10 ∷ 99 ∷ 10 ∷ []) 6 162
unfolding executing computing digits
equates_of_bodies = refl
