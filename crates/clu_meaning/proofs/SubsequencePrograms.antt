-- Programs that compute: parts and comparisons of sequences. Each is the tree of the CLU above it.
use Rattle.std.specs.Fmt.{digits}
use Rattle.std.specs.Prelude.{refl, List, [], ◌∷◌, codes, Some, None}
use Rattle.clu_names.specs.declared.scopes.Declared.{Declared}
use Rattle.clu_syntax.specs.declared.words.Operator.TheVariants as op
use Rattle.clu_syntax.specs.declared.words.Sign.TheVariants as sign
use Rattle.clu_syntax.specs.declared.words.SimpleType.TheVariants as simple
use Rattle.clu_syntax.specs.declared.words.ListType.TheVariants as list
use Rattle.clu_syntax.specs.declared.words.RoutineKind.TheVariants as kind
use Rattle.clu_syntax.specs.Syntax.{integer, string, an_infix, a_prefix, a_literal, a_name, an_index, a_call, elements, an_operation, no_expressions, expression_and, an_expression, a_type, no_constants, constant_and, a_simple_type, a_list_type, a_named_type, no_types, no_exceptions, an_equate, no_equates, equate_and, objects, an_init, an_assign, a_call_statement, a_for, an_if, an_except, no_statements, statement_and, a_body, no_clauses, clause_and, nothing_else, otherwise, no_whens, when_and, no_others, Module, a_routine}
use Rattle.clu_layout.specs.Computing.{computing}
use Rattle.clu_meaning.specs.Run.{returned_normally}
use Rattle.clu_meaning.specs.Executing.{executing}
use Rattle.clu_meaning.proofs.Running.{d, typed, a_variable, routine, Runs}

-- % sequence-subseq
-- ps = proc (a: sequence[int])
--   s: string := ""
--   for x: int in sequence[int]$elements(a) do s := s || " " || int$unparse(x) end
--   stream$putl(stream$primary_output(), s)
-- end ps
-- tf = proc (b: bool) if b then stream$putl(stream$primary_output(), "T") else stream$putl(stream$primary_output(), "F") end end tf
-- start_up = proc ()
-- si = sequence[int]
-- s: si := si$[1, 2, 3, 4] ps(si$subseq(s, 2, 2)) ps(si$subseq(s, 3, 9)) ps(si$subseq(s, 5, 1))
--   s := si$subseq(s, 6, 0) except when bounds: stream$putl(stream$primary_output(), "b6") end
--   s := si$subseq(s, 0, 0) except when bounds: stream$putl(stream$primary_output(), "b0") end
--   s := si$subseq(s, 0, -1) except when bounds: stream$putl(stream$primary_output(), "b") when negative_size: stream$putl(stream$primary_output(), "n") end
-- end start_up
abbrev sequence_subseq_modules : List Module
sequence_subseq_modules =
    ((a_routine 32 no_equates (routine 31 (codes "ps") (codes "ps") kind.Procedure [] (typed 2 ((codes "a") ∷ []) (a_list_type 1 list.Sequence
    (a_simple_type 0 simple.Int)) ∷ []) no_types no_exceptions ([]) no_equates ([]) (statement_and (an_init 5 (a_variable (codes "s") (a_simple_type 3
    simple.String)) (a_literal 4 (string (34 ∷ 34 ∷ [])))) (statement_and (a_for 22 (typed 7 ((codes "x") ∷ []) (a_simple_type 6 simple.Int) ∷ [])
    (a_call 12 (an_operation 10 (a_list_type 9 list.Sequence (a_simple_type 8 simple.Int)) (codes "elements")) (expression_and (a_name 11 (codes "a"))
    no_expressions)) (a_body no_equates (statement_and (an_assign 21 ((codes "s") ∷ []) (expression_and (an_infix 20 op.Concatenate (an_infix 15
    op.Concatenate (a_name 13 (codes "s")) (a_literal 14 (string (34 ∷ 32 ∷ 34 ∷ [])))) (a_call 19 (an_operation 17 (a_simple_type 16 simple.Int)
    (codes "unparse")) (expression_and (a_name 18 (codes "x")) no_expressions))) no_expressions)) no_statements))) (statement_and (a_call_statement 30
    (a_call 29 (an_operation 24 (a_named_type 23 (codes "stream") no_constants) (codes "putl")) (expression_and (a_call 27 (an_operation 26
    (a_named_type 25 (codes "stream") no_constants) (codes "primary_output")) no_expressions) (expression_and (a_name 28 (codes "s"))
    no_expressions)))) no_statements))))) ∷ (a_routine 54 no_equates (routine 53 (codes "tf") (codes "tf") kind.Procedure [] (typed 34 ((codes "b") ∷
    []) (a_simple_type 33 simple.Bool) ∷ []) no_types no_exceptions ([]) no_equates ([]) (statement_and (an_if 52 (clause_and (a_name 35 (codes "b"))
    (a_body no_equates (statement_and (a_call_statement 43 (a_call 42 (an_operation 37 (a_named_type 36 (codes "stream") no_constants) (codes "putl"))
    (expression_and (a_call 40 (an_operation 39 (a_named_type 38 (codes "stream") no_constants) (codes "primary_output")) no_expressions)
    (expression_and (a_literal 41 (string (34 ∷ 84 ∷ 34 ∷ []))) no_expressions)))) no_statements)) no_clauses) (otherwise (a_body no_equates
    (statement_and (a_call_statement 51 (a_call 50 (an_operation 45 (a_named_type 44 (codes "stream") no_constants) (codes "putl")) (expression_and
    (a_call 48 (an_operation 47 (a_named_type 46 (codes "stream") no_constants) (codes "primary_output")) no_expressions) (expression_and (a_literal
    49 (string (34 ∷ 70 ∷ 34 ∷ []))) no_expressions)))) no_statements)))) no_statements))) ∷ (a_routine 155 no_equates (routine 154 (codes "start_up")
    (codes "start_up") kind.Procedure [] ([]) no_types no_exceptions ([]) (equate_and (an_equate 57 (Some (codes "si")) (a_type (a_list_type 56
    list.Sequence (a_simple_type 55 simple.Int)))) no_equates) ([]) (statement_and (an_init 65 (a_variable (codes "s") (a_named_type 58 (codes "si")
    no_constants)) (elements 64 (a_named_type 59 (codes "si") no_constants) (expression_and (a_literal 60 (integer (codes "1"))) (expression_and
    (a_literal 61 (integer (codes "2"))) (expression_and (a_literal 62 (integer (codes "3"))) (expression_and (a_literal 63 (integer (codes "4")))
    no_expressions)))))) (statement_and (a_call_statement 74 (a_call 73 (a_name 66 (codes "ps")) (expression_and (a_call 72 (an_operation 68
    (a_named_type 67 (codes "si") no_constants) (codes "subseq")) (expression_and (a_name 69 (codes "s")) (expression_and (a_literal 70 (integer
    (codes "2"))) (expression_and (a_literal 71 (integer (codes "2"))) no_expressions)))) no_expressions))) (statement_and (a_call_statement 83
    (a_call 82 (a_name 75 (codes "ps")) (expression_and (a_call 81 (an_operation 77 (a_named_type 76 (codes "si") no_constants) (codes "subseq"))
    (expression_and (a_name 78 (codes "s")) (expression_and (a_literal 79 (integer (codes "3"))) (expression_and (a_literal 80 (integer (codes "9")))
    no_expressions)))) no_expressions))) (statement_and (a_call_statement 92 (a_call 91 (a_name 84 (codes "ps")) (expression_and (a_call 90
    (an_operation 86 (a_named_type 85 (codes "si") no_constants) (codes "subseq")) (expression_and (a_name 87 (codes "s")) (expression_and (a_literal
    88 (integer (codes "5"))) (expression_and (a_literal 89 (integer (codes "1"))) no_expressions)))) no_expressions))) (statement_and (an_except 109
    (an_assign 99 ((codes "s") ∷ []) (expression_and (a_call 98 (an_operation 94 (a_named_type 93 (codes "si") no_constants) (codes "subseq"))
    (expression_and (a_name 95 (codes "s")) (expression_and (a_literal 96 (integer (codes "6"))) (expression_and (a_literal 97 (integer (codes "0")))
    no_expressions)))) no_expressions)) (when_and 108 ((codes "bounds") ∷ []) (objects []) (a_body no_equates (statement_and (a_call_statement 107
    (a_call 106 (an_operation 101 (a_named_type 100 (codes "stream") no_constants) (codes "putl")) (expression_and (a_call 104 (an_operation 103
    (a_named_type 102 (codes "stream") no_constants) (codes "primary_output")) no_expressions) (expression_and (a_literal 105 (string (34 ∷ 98 ∷ 54 ∷
    34 ∷ []))) no_expressions)))) no_statements)) no_whens) no_others) (statement_and (an_except 126 (an_assign 116 ((codes "s") ∷ []) (expression_and
    (a_call 115 (an_operation 111 (a_named_type 110 (codes "si") no_constants) (codes "subseq")) (expression_and (a_name 112 (codes "s"))
    (expression_and (a_literal 113 (integer (codes "0"))) (expression_and (a_literal 114 (integer (codes "0"))) no_expressions)))) no_expressions))
    (when_and 125 ((codes "bounds") ∷ []) (objects []) (a_body no_equates (statement_and (a_call_statement 124 (a_call 123 (an_operation 118
    (a_named_type 117 (codes "stream") no_constants) (codes "putl")) (expression_and (a_call 121 (an_operation 120 (a_named_type 119 (codes "stream")
    no_constants) (codes "primary_output")) no_expressions) (expression_and (a_literal 122 (string (34 ∷ 98 ∷ 48 ∷ 34 ∷ []))) no_expressions))))
    no_statements)) no_whens) no_others) (statement_and (an_except 153 (an_assign 134 ((codes "s") ∷ []) (expression_and (a_call 133 (an_operation 128
    (a_named_type 127 (codes "si") no_constants) (codes "subseq")) (expression_and (a_name 129 (codes "s")) (expression_and (a_literal 130 (integer
    (codes "0"))) (expression_and (a_prefix 132 sign.Minus (a_literal 131 (integer (codes "1")))) no_expressions)))) no_expressions)) (when_and 143
    ((codes "bounds") ∷ []) (objects []) (a_body no_equates (statement_and (a_call_statement 142 (a_call 141 (an_operation 136 (a_named_type 135
    (codes "stream") no_constants) (codes "putl")) (expression_and (a_call 139 (an_operation 138 (a_named_type 137 (codes "stream") no_constants)
    (codes "primary_output")) no_expressions) (expression_and (a_literal 140 (string (34 ∷ 98 ∷ 34 ∷ []))) no_expressions)))) no_statements))
    (when_and 152 ((codes "negative_size") ∷ []) (objects []) (a_body no_equates (statement_and (a_call_statement 151 (a_call 150 (an_operation 145
    (a_named_type 144 (codes "stream") no_constants) (codes "putl")) (expression_and (a_call 148 (an_operation 147 (a_named_type 146 (codes "stream")
    no_constants) (codes "primary_output")) no_expressions) (expression_and (a_literal 149 (string (34 ∷ 110 ∷ 34 ∷ []))) no_expressions))))
    no_statements)) no_whens)) no_others) no_statements))))))))) ∷ [])

abbrev sequence_subseq_declared : List Declared
sequence_subseq_declared =
    (d (codes "a") 2 3 31 (Some 0) ∷ d (codes "s") 5 6 31 (Some 0) ∷ d (codes "x") 7 13 21 (Some 0) ∷ d (codes "ps") 31 0 4294967295 None ∷ d (codes
    "b") 34 35 53 (Some 0) ∷ d (codes "tf") 53 0 4294967295 None ∷ d (codes "si") 57 55 154 (Some 0) ∷ d (codes "s") 65 66 154 (Some 0) ∷ d (codes
    "start_up") 154 0 4294967295 None ∷ [])

sequence_subseq : Runs sequence_subseq_declared sequence_subseq_modules (codes "") 10000 returned_normally (32 ∷ 50 ∷ 32 ∷ 51 ∷ 10 ∷ 32 ∷ 51 ∷ 32 ∷ 52 ∷ 10 ∷ 10 ∷ 98 ∷ 54 ∷ 10 ∷ 98 ∷ 48 ∷ 10 ∷ 110 ∷ 10 ∷ []) 44 690
unfolding executing computing digits
sequence_subseq = refl

-- % sequence-equal
-- ps = proc (a: sequence[int])
--   s: string := ""
--   for x: int in sequence[int]$elements(a) do s := s || " " || int$unparse(x) end
--   stream$putl(stream$primary_output(), s)
-- end ps
-- tf = proc (b: bool) if b then stream$putl(stream$primary_output(), "T") else stream$putl(stream$primary_output(), "F") end end tf
-- start_up = proc ()
-- si = sequence[int]
-- sa = sequence[array[int]] s: si := si$[1, 2] tf(s = si$[1, 2]) tf(s = si$[2, 1]) tf(s = si$[1]) tf(si$similar(s, s))
--   tf(si$[] = si$[]) tf(s ~= si$[1, 2]) tf(si$copy(s) = s)
--   a: array[int] := array[int]$[1]
--   tf(sa$[a] = sa$[a]) tf(sa$[a] = sa$[array[int]$[1]]) tf(sa$similar(sa$[a], sa$[array[int]$[1]]))
--   c: sa := sa$copy(sa$[a]) tf(c[1] = a) tf(sa$similar(c, sa$[a]))
-- end start_up
abbrev sequence_equal_modules : List Module
sequence_equal_modules =
    ((a_routine 32 no_equates (routine 31 (codes "ps") (codes "ps") kind.Procedure [] (typed 2 ((codes "a") ∷ []) (a_list_type 1 list.Sequence
    (a_simple_type 0 simple.Int)) ∷ []) no_types no_exceptions ([]) no_equates ([]) (statement_and (an_init 5 (a_variable (codes "s") (a_simple_type 3
    simple.String)) (a_literal 4 (string (34 ∷ 34 ∷ [])))) (statement_and (a_for 22 (typed 7 ((codes "x") ∷ []) (a_simple_type 6 simple.Int) ∷ [])
    (a_call 12 (an_operation 10 (a_list_type 9 list.Sequence (a_simple_type 8 simple.Int)) (codes "elements")) (expression_and (a_name 11 (codes "a"))
    no_expressions)) (a_body no_equates (statement_and (an_assign 21 ((codes "s") ∷ []) (expression_and (an_infix 20 op.Concatenate (an_infix 15
    op.Concatenate (a_name 13 (codes "s")) (a_literal 14 (string (34 ∷ 32 ∷ 34 ∷ [])))) (a_call 19 (an_operation 17 (a_simple_type 16 simple.Int)
    (codes "unparse")) (expression_and (a_name 18 (codes "x")) no_expressions))) no_expressions)) no_statements))) (statement_and (a_call_statement 30
    (a_call 29 (an_operation 24 (a_named_type 23 (codes "stream") no_constants) (codes "putl")) (expression_and (a_call 27 (an_operation 26
    (a_named_type 25 (codes "stream") no_constants) (codes "primary_output")) no_expressions) (expression_and (a_name 28 (codes "s"))
    no_expressions)))) no_statements))))) ∷ (a_routine 54 no_equates (routine 53 (codes "tf") (codes "tf") kind.Procedure [] (typed 34 ((codes "b") ∷
    []) (a_simple_type 33 simple.Bool) ∷ []) no_types no_exceptions ([]) no_equates ([]) (statement_and (an_if 52 (clause_and (a_name 35 (codes "b"))
    (a_body no_equates (statement_and (a_call_statement 43 (a_call 42 (an_operation 37 (a_named_type 36 (codes "stream") no_constants) (codes "putl"))
    (expression_and (a_call 40 (an_operation 39 (a_named_type 38 (codes "stream") no_constants) (codes "primary_output")) no_expressions)
    (expression_and (a_literal 41 (string (34 ∷ 84 ∷ 34 ∷ []))) no_expressions)))) no_statements)) no_clauses) (otherwise (a_body no_equates
    (statement_and (a_call_statement 51 (a_call 50 (an_operation 45 (a_named_type 44 (codes "stream") no_constants) (codes "putl")) (expression_and
    (a_call 48 (an_operation 47 (a_named_type 46 (codes "stream") no_constants) (codes "primary_output")) no_expressions) (expression_and (a_literal
    49 (string (34 ∷ 70 ∷ 34 ∷ []))) no_expressions)))) no_statements)))) no_statements))) ∷ (a_routine 200 no_equates (routine 199 (codes "start_up")
    (codes "start_up") kind.Procedure [] ([]) no_types no_exceptions ([]) (equate_and (an_equate 57 (Some (codes "si")) (a_type (a_list_type 56
    list.Sequence (a_simple_type 55 simple.Int)))) (equate_and (an_equate 61 (Some (codes "sa")) (a_type (a_list_type 60 list.Sequence (a_list_type 59
    list.Array (a_simple_type 58 simple.Int))))) no_equates)) ([]) (statement_and (an_init 67 (a_variable (codes "s") (a_named_type 62 (codes "si")
    no_constants)) (elements 66 (a_named_type 63 (codes "si") no_constants) (expression_and (a_literal 64 (integer (codes "1"))) (expression_and
    (a_literal 65 (integer (codes "2"))) no_expressions)))) (statement_and (a_call_statement 76 (a_call 75 (a_name 68 (codes "tf")) (expression_and
    (an_infix 74 op.Equal (a_name 69 (codes "s")) (elements 73 (a_named_type 70 (codes "si") no_constants) (expression_and (a_literal 71 (integer
    (codes "1"))) (expression_and (a_literal 72 (integer (codes "2"))) no_expressions)))) no_expressions))) (statement_and (a_call_statement 85
    (a_call 84 (a_name 77 (codes "tf")) (expression_and (an_infix 83 op.Equal (a_name 78 (codes "s")) (elements 82 (a_named_type 79 (codes "si")
    no_constants) (expression_and (a_literal 80 (integer (codes "2"))) (expression_and (a_literal 81 (integer (codes "1"))) no_expressions))))
    no_expressions))) (statement_and (a_call_statement 93 (a_call 92 (a_name 86 (codes "tf")) (expression_and (an_infix 91 op.Equal (a_name 87 (codes
    "s")) (elements 90 (a_named_type 88 (codes "si") no_constants) (expression_and (a_literal 89 (integer (codes "1"))) no_expressions)))
    no_expressions))) (statement_and (a_call_statement 101 (a_call 100 (a_name 94 (codes "tf")) (expression_and (a_call 99 (an_operation 96
    (a_named_type 95 (codes "si") no_constants) (codes "similar")) (expression_and (a_name 97 (codes "s")) (expression_and (a_name 98 (codes "s"))
    no_expressions))) no_expressions))) (statement_and (a_call_statement 109 (a_call 108 (a_name 102 (codes "tf")) (expression_and (an_infix 107
    op.Equal (elements 104 (a_named_type 103 (codes "si") no_constants) no_expressions) (elements 106 (a_named_type 105 (codes "si") no_constants)
    no_expressions)) no_expressions))) (statement_and (a_call_statement 118 (a_call 117 (a_name 110 (codes "tf")) (expression_and (an_infix 116
    op.NotEqual (a_name 111 (codes "s")) (elements 115 (a_named_type 112 (codes "si") no_constants) (expression_and (a_literal 113 (integer (codes
    "1"))) (expression_and (a_literal 114 (integer (codes "2"))) no_expressions)))) no_expressions))) (statement_and (a_call_statement 127 (a_call 126
    (a_name 119 (codes "tf")) (expression_and (an_infix 125 op.Equal (a_call 123 (an_operation 121 (a_named_type 120 (codes "si") no_constants) (codes
    "copy")) (expression_and (a_name 122 (codes "s")) no_expressions)) (a_name 124 (codes "s"))) no_expressions))) (statement_and (an_init 134
    (a_variable (codes "a") (a_list_type 129 list.Array (a_simple_type 128 simple.Int))) (elements 133 (a_list_type 131 list.Array (a_simple_type 130
    simple.Int)) (expression_and (a_literal 132 (integer (codes "1"))) no_expressions))) (statement_and (a_call_statement 144 (a_call 143 (a_name 135
    (codes "tf")) (expression_and (an_infix 142 op.Equal (elements 138 (a_named_type 136 (codes "sa") no_constants) (expression_and (a_name 137 (codes
    "a")) no_expressions)) (elements 141 (a_named_type 139 (codes "sa") no_constants) (expression_and (a_name 140 (codes "a")) no_expressions)))
    no_expressions))) (statement_and (a_call_statement 157 (a_call 156 (a_name 145 (codes "tf")) (expression_and (an_infix 155 op.Equal (elements 148
    (a_named_type 146 (codes "sa") no_constants) (expression_and (a_name 147 (codes "a")) no_expressions)) (elements 154 (a_named_type 149 (codes
    "sa") no_constants) (expression_and (elements 153 (a_list_type 151 list.Array (a_simple_type 150 simple.Int)) (expression_and (a_literal 152
    (integer (codes "1"))) no_expressions)) no_expressions))) no_expressions))) (statement_and (a_call_statement 172 (a_call 171 (a_name 158 (codes
    "tf")) (expression_and (a_call 170 (an_operation 160 (a_named_type 159 (codes "sa") no_constants) (codes "similar")) (expression_and (elements 163
    (a_named_type 161 (codes "sa") no_constants) (expression_and (a_name 162 (codes "a")) no_expressions)) (expression_and (elements 169 (a_named_type
    164 (codes "sa") no_constants) (expression_and (elements 168 (a_list_type 166 list.Array (a_simple_type 165 simple.Int)) (expression_and
    (a_literal 167 (integer (codes "1"))) no_expressions)) no_expressions)) no_expressions))) no_expressions))) (statement_and (an_init 180
    (a_variable (codes "c") (a_named_type 173 (codes "sa") no_constants)) (a_call 179 (an_operation 175 (a_named_type 174 (codes "sa") no_constants)
    (codes "copy")) (expression_and (elements 178 (a_named_type 176 (codes "sa") no_constants) (expression_and (a_name 177 (codes "a"))
    no_expressions)) no_expressions))) (statement_and (a_call_statement 188 (a_call 187 (a_name 181 (codes "tf")) (expression_and (an_infix 186
    op.Equal (an_index 184 (a_name 182 (codes "c")) (constant_and (an_expression (a_literal 183 (integer (codes "1")))) no_constants)) (a_name 185
    (codes "a"))) no_expressions))) (statement_and (a_call_statement 198 (a_call 197 (a_name 189 (codes "tf")) (expression_and (a_call 196
    (an_operation 191 (a_named_type 190 (codes "sa") no_constants) (codes "similar")) (expression_and (a_name 192 (codes "c")) (expression_and
    (elements 195 (a_named_type 193 (codes "sa") no_constants) (expression_and (a_name 194 (codes "a")) no_expressions)) no_expressions)))
    no_expressions))) no_statements))))))))))))))))) ∷ [])

abbrev sequence_equal_declared : List Declared
sequence_equal_declared =
    (d (codes "a") 2 3 31 (Some 0) ∷ d (codes "s") 5 6 31 (Some 0) ∷ d (codes "x") 7 13 21 (Some 0) ∷ d (codes "ps") 31 0 4294967295 None ∷ d (codes
    "b") 34 35 53 (Some 0) ∷ d (codes "tf") 53 0 4294967295 None ∷ d (codes "si") 57 55 199 (Some 0) ∷ d (codes "sa") 61 55 199 (Some 0) ∷ d (codes
    "s") 67 68 199 (Some 0) ∷ d (codes "a") 134 135 199 (Some 0) ∷ d (codes "c") 180 181 199 (Some 0) ∷ d (codes "start_up") 199 0 4294967295 None ∷
    [])

sequence_equal : Runs sequence_equal_declared sequence_equal_modules (codes "") 10000 returned_normally (84 ∷ 10 ∷ 70 ∷ 10 ∷ 70 ∷ 10 ∷ 84 ∷ 10 ∷ 84 ∷ 10 ∷ 70 ∷ 10 ∷ 84 ∷ 10 ∷ 84 ∷ 10 ∷ 70 ∷ 10 ∷ 84 ∷ 10 ∷ 70 ∷ 10 ∷ 84 ∷ 10 ∷ []) 88 1256
unfolding executing computing digits
sequence_equal = refl

-- % sequences
-- start_up = proc ()
-- q = sequence[int] x: q := q$[1, 2] y: q := q$addh(x, 3) || q$[4] stream$putl(stream$primary_output(), int$unparse(q$size(x))) stream$putl(stream$primary_output(), int$unparse(q$size(y)))
-- for i: int in q$elements(q$subseq(y, 2, 9)) do stream$puts(stream$primary_output(), int$unparse(i)) end stream$putl(stream$primary_output(), "") if x = q$[1, 2] then stream$putl(stream$primary_output(), "equal") end
-- z: int := x[3] except when bounds: stream$putl(stream$primary_output(), "bounds") end
-- end start_up
abbrev sequences_modules : List Module
sequences_modules =
    ((a_routine 110 no_equates (routine 109 (codes "start_up") (codes "start_up") kind.Procedure [] ([]) no_types no_exceptions ([]) (equate_and
    (an_equate 2 (Some (codes "q")) (a_type (a_list_type 1 list.Sequence (a_simple_type 0 simple.Int)))) no_equates) ([]) (statement_and (an_init 8
    (a_variable (codes "x") (a_named_type 3 (codes "q") no_constants)) (elements 7 (a_named_type 4 (codes "q") no_constants) (expression_and
    (a_literal 5 (integer (codes "1"))) (expression_and (a_literal 6 (integer (codes "2"))) no_expressions)))) (statement_and (an_init 19 (a_variable
    (codes "y") (a_named_type 9 (codes "q") no_constants)) (an_infix 18 op.Concatenate (a_call 14 (an_operation 11 (a_named_type 10 (codes "q")
    no_constants) (codes "addh")) (expression_and (a_name 12 (codes "x")) (expression_and (a_literal 13 (integer (codes "3"))) no_expressions)))
    (elements 17 (a_named_type 15 (codes "q") no_constants) (expression_and (a_literal 16 (integer (codes "4"))) no_expressions)))) (statement_and
    (a_call_statement 33 (a_call 32 (an_operation 21 (a_named_type 20 (codes "stream") no_constants) (codes "putl")) (expression_and (a_call 24
    (an_operation 23 (a_named_type 22 (codes "stream") no_constants) (codes "primary_output")) no_expressions) (expression_and (a_call 31
    (an_operation 26 (a_simple_type 25 simple.Int) (codes "unparse")) (expression_and (a_call 30 (an_operation 28 (a_named_type 27 (codes "q")
    no_constants) (codes "size")) (expression_and (a_name 29 (codes "x")) no_expressions)) no_expressions)) no_expressions)))) (statement_and
    (a_call_statement 47 (a_call 46 (an_operation 35 (a_named_type 34 (codes "stream") no_constants) (codes "putl")) (expression_and (a_call 38
    (an_operation 37 (a_named_type 36 (codes "stream") no_constants) (codes "primary_output")) no_expressions) (expression_and (a_call 45
    (an_operation 40 (a_simple_type 39 simple.Int) (codes "unparse")) (expression_and (a_call 44 (an_operation 42 (a_named_type 41 (codes "q")
    no_constants) (codes "size")) (expression_and (a_name 43 (codes "y")) no_expressions)) no_expressions)) no_expressions)))) (statement_and (a_for
    70 (typed 49 ((codes "i") ∷ []) (a_simple_type 48 simple.Int) ∷ []) (a_call 58 (an_operation 51 (a_named_type 50 (codes "q") no_constants) (codes
    "elements")) (expression_and (a_call 57 (an_operation 53 (a_named_type 52 (codes "q") no_constants) (codes "subseq")) (expression_and (a_name 54
    (codes "y")) (expression_and (a_literal 55 (integer (codes "2"))) (expression_and (a_literal 56 (integer (codes "9"))) no_expressions))))
    no_expressions)) (a_body no_equates (statement_and (a_call_statement 69 (a_call 68 (an_operation 60 (a_named_type 59 (codes "stream")
    no_constants) (codes "puts")) (expression_and (a_call 63 (an_operation 62 (a_named_type 61 (codes "stream") no_constants) (codes
    "primary_output")) no_expressions) (expression_and (a_call 67 (an_operation 65 (a_simple_type 64 simple.Int) (codes "unparse")) (expression_and
    (a_name 66 (codes "i")) no_expressions)) no_expressions)))) no_statements))) (statement_and (a_call_statement 78 (a_call 77 (an_operation 72
    (a_named_type 71 (codes "stream") no_constants) (codes "putl")) (expression_and (a_call 75 (an_operation 74 (a_named_type 73 (codes "stream")
    no_constants) (codes "primary_output")) no_expressions) (expression_and (a_literal 76 (string (34 ∷ 34 ∷ []))) no_expressions)))) (statement_and
    (an_if 93 (clause_and (an_infix 84 op.Equal (a_name 79 (codes "x")) (elements 83 (a_named_type 80 (codes "q") no_constants) (expression_and
    (a_literal 81 (integer (codes "1"))) (expression_and (a_literal 82 (integer (codes "2"))) no_expressions)))) (a_body no_equates (statement_and
    (a_call_statement 92 (a_call 91 (an_operation 86 (a_named_type 85 (codes "stream") no_constants) (codes "putl")) (expression_and (a_call 89
    (an_operation 88 (a_named_type 87 (codes "stream") no_constants) (codes "primary_output")) no_expressions) (expression_and (a_literal 90 (string
    (34 ∷ 101 ∷ 113 ∷ 117 ∷ 97 ∷ 108 ∷ 34 ∷ []))) no_expressions)))) no_statements)) no_clauses) nothing_else) (statement_and (an_except 108 (an_init
    98 (a_variable (codes "z") (a_simple_type 94 simple.Int)) (an_index 97 (a_name 95 (codes "x")) (constant_and (an_expression (a_literal 96 (integer
    (codes "3")))) no_constants))) (when_and 107 ((codes "bounds") ∷ []) (objects []) (a_body no_equates (statement_and (a_call_statement 106 (a_call
    105 (an_operation 100 (a_named_type 99 (codes "stream") no_constants) (codes "putl")) (expression_and (a_call 103 (an_operation 102 (a_named_type
    101 (codes "stream") no_constants) (codes "primary_output")) no_expressions) (expression_and (a_literal 104 (string (34 ∷ 98 ∷ 111 ∷ 117 ∷ 110 ∷
    100 ∷ 115 ∷ 34 ∷ []))) no_expressions)))) no_statements)) no_whens) no_others) no_statements)))))))))) ∷ [])

abbrev sequences_declared : List Declared
sequences_declared =
    (d (codes "q") 2 0 109 (Some 0) ∷ d (codes "x") 8 9 109 (Some 0) ∷ d (codes "y") 19 20 109 (Some 0) ∷ d (codes "i") 49 59 69 (Some 0) ∷ d (codes
    "z") 98 99 109 (Some 0) ∷ d (codes "start_up") 109 0 4294967295 None ∷ [])

sequences : Runs sequences_declared sequences_modules (codes "") 10000 returned_normally (50 ∷ 10 ∷ 52 ∷ 10 ∷ 50 ∷ 51 ∷ 52 ∷ 10 ∷ 101 ∷ 113 ∷ 117 ∷ 97 ∷ 108 ∷ 10 ∷ 98 ∷ 111 ∷ 117 ∷ 110 ∷ 100 ∷ 115 ∷ 10 ∷ []) 41 664
unfolding executing computing digits
sequences = refl
