-- Programs that compute: oneofs, variants and tagcase statements. Each is the tree of the CLU above it.
use Rattle.std.specs.Fmt.{digits}
use Rattle.std.specs.Prelude.{refl, List, [], ◌∷◌, codes, Some, None}
use Rattle.clu_names.specs.declared.scopes.Declared.{Declared}
use Rattle.clu_syntax.specs.declared.words.Operator.TheVariants as op
use Rattle.clu_syntax.specs.declared.words.SimpleType.TheVariants as simple
use Rattle.clu_syntax.specs.declared.words.ListType.TheVariants as list
use Rattle.clu_syntax.specs.declared.words.FieldsType.TheVariants as fields_word
use Rattle.clu_syntax.specs.declared.words.RoutineKind.TheVariants as kind
use Rattle.clu_syntax.specs.Syntax.{nil, integer, string, an_infix, a_literal, a_name, a_call, elements, an_operation, a_force, no_expressions, expression_and, a_type, no_constants, a_simple_type, a_list_type, a_fields_type, a_named_type, no_types, no_selectors, selector_and, no_exceptions, an_equate, no_equates, equate_and, objects, an_init, a_call_statement, a_for, an_if, a_tagcase, an_except, no_statements, statement_and, a_body, no_clauses, clause_and, nothing_else, otherwise, no_tag_arms, tag_arm_and, no_whens, when_and, no_others, Module, a_routine}
use Rattle.clu_layout.specs.Computing.{computing}
use Rattle.clu_meaning.specs.Run.{returned_normally}
use Rattle.clu_meaning.specs.Executing.{executing}
use Rattle.clu_meaning.proofs.Running.{d, typed, a_variable, routine, Runs}

-- % oneof
-- tf = proc (b: bool) if b then stream$putl(stream$primary_output(), "T") else stream$putl(stream$primary_output(), "F") end end tf
-- start_up = proc ()
-- on = oneof[a: int, b: string, n: null] x: on := on$make_a(3) tf(on$is_a(x)) tf(on$is_b(x))
--   stream$putl(stream$primary_output(), int$unparse(on$value_a(x))) s: string := on$value_b(x) except when wrong_tag: stream$putl(stream$primary_output(), "wt") end
--   tf(x = on$make_a(3)) tf(x = on$make_a(4)) tf(x = on$make_b("3")) tf(on$similar(x, on$make_a(3)))
--   tf(on$copy(x) = x) tf(on$make_n(nil) = on$make_n(nil)) tf(x ~= x)
-- end start_up
abbrev oneof_modules : List Module
oneof_modules =
    ((a_routine 21 no_equates (routine 20 (codes "tf") (codes "tf") kind.Procedure [] (typed 1 ((codes "b") ∷ []) (a_simple_type 0 simple.Bool) ∷ [])
    no_types no_exceptions ([]) no_equates ([]) (statement_and (an_if 19 (clause_and (a_name 2 (codes "b")) (a_body no_equates (statement_and
    (a_call_statement 10 (a_call 9 (an_operation 4 (a_named_type 3 (codes "stream") no_constants) (codes "putl")) (expression_and (a_call 7
    (an_operation 6 (a_named_type 5 (codes "stream") no_constants) (codes "primary_output")) no_expressions) (expression_and (a_literal 8 (string (34
    ∷ 84 ∷ 34 ∷ []))) no_expressions)))) no_statements)) no_clauses) (otherwise (a_body no_equates (statement_and (a_call_statement 18 (a_call 17
    (an_operation 12 (a_named_type 11 (codes "stream") no_constants) (codes "putl")) (expression_and (a_call 15 (an_operation 14 (a_named_type 13
    (codes "stream") no_constants) (codes "primary_output")) no_expressions) (expression_and (a_literal 16 (string (34 ∷ 70 ∷ 34 ∷ [])))
    no_expressions)))) no_statements)))) no_statements))) ∷ (a_routine 146 no_equates (routine 145 (codes "start_up") (codes "start_up")
    kind.Procedure [] ([]) no_types no_exceptions ([]) (equate_and (an_equate 29 (Some (codes "on")) (a_type (a_fields_type 28 fields_word.Oneof
    (selector_and 23 ((codes "a") ∷ []) (a_simple_type 22 simple.Int) (selector_and 25 ((codes "b") ∷ []) (a_simple_type 24 simple.String)
    (selector_and 27 ((codes "n") ∷ []) (a_simple_type 26 simple.Null) no_selectors)))))) no_equates) ([]) (statement_and (an_init 35 (a_variable
    (codes "x") (a_named_type 30 (codes "on") no_constants)) (a_call 34 (an_operation 32 (a_named_type 31 (codes "on") no_constants) (codes "make_a"))
    (expression_and (a_literal 33 (integer (codes "3"))) no_expressions))) (statement_and (a_call_statement 42 (a_call 41 (a_name 36 (codes "tf"))
    (expression_and (a_call 40 (an_operation 38 (a_named_type 37 (codes "on") no_constants) (codes "is_a")) (expression_and (a_name 39 (codes "x"))
    no_expressions)) no_expressions))) (statement_and (a_call_statement 49 (a_call 48 (a_name 43 (codes "tf")) (expression_and (a_call 47
    (an_operation 45 (a_named_type 44 (codes "on") no_constants) (codes "is_b")) (expression_and (a_name 46 (codes "x")) no_expressions))
    no_expressions))) (statement_and (a_call_statement 63 (a_call 62 (an_operation 51 (a_named_type 50 (codes "stream") no_constants) (codes "putl"))
    (expression_and (a_call 54 (an_operation 53 (a_named_type 52 (codes "stream") no_constants) (codes "primary_output")) no_expressions)
    (expression_and (a_call 61 (an_operation 56 (a_simple_type 55 simple.Int) (codes "unparse")) (expression_and (a_call 60 (an_operation 58
    (a_named_type 57 (codes "on") no_constants) (codes "value_a")) (expression_and (a_name 59 (codes "x")) no_expressions)) no_expressions))
    no_expressions)))) (statement_and (an_except 79 (an_init 69 (a_variable (codes "s") (a_simple_type 64 simple.String)) (a_call 68 (an_operation 66
    (a_named_type 65 (codes "on") no_constants) (codes "value_b")) (expression_and (a_name 67 (codes "x")) no_expressions))) (when_and 78 ((codes
    "wrong_tag") ∷ []) (objects []) (a_body no_equates (statement_and (a_call_statement 77 (a_call 76 (an_operation 71 (a_named_type 70 (codes
    "stream") no_constants) (codes "putl")) (expression_and (a_call 74 (an_operation 73 (a_named_type 72 (codes "stream") no_constants) (codes
    "primary_output")) no_expressions) (expression_and (a_literal 75 (string (34 ∷ 119 ∷ 116 ∷ 34 ∷ []))) no_expressions)))) no_statements)) no_whens)
    no_others) (statement_and (a_call_statement 88 (a_call 87 (a_name 80 (codes "tf")) (expression_and (an_infix 86 op.Equal (a_name 81 (codes "x"))
    (a_call 85 (an_operation 83 (a_named_type 82 (codes "on") no_constants) (codes "make_a")) (expression_and (a_literal 84 (integer (codes "3")))
    no_expressions))) no_expressions))) (statement_and (a_call_statement 97 (a_call 96 (a_name 89 (codes "tf")) (expression_and (an_infix 95 op.Equal
    (a_name 90 (codes "x")) (a_call 94 (an_operation 92 (a_named_type 91 (codes "on") no_constants) (codes "make_a")) (expression_and (a_literal 93
    (integer (codes "4"))) no_expressions))) no_expressions))) (statement_and (a_call_statement 106 (a_call 105 (a_name 98 (codes "tf"))
    (expression_and (an_infix 104 op.Equal (a_name 99 (codes "x")) (a_call 103 (an_operation 101 (a_named_type 100 (codes "on") no_constants) (codes
    "make_b")) (expression_and (a_literal 102 (string (34 ∷ 51 ∷ 34 ∷ []))) no_expressions))) no_expressions))) (statement_and (a_call_statement 117
    (a_call 116 (a_name 107 (codes "tf")) (expression_and (a_call 115 (an_operation 109 (a_named_type 108 (codes "on") no_constants) (codes
    "similar")) (expression_and (a_name 110 (codes "x")) (expression_and (a_call 114 (an_operation 112 (a_named_type 111 (codes "on") no_constants)
    (codes "make_a")) (expression_and (a_literal 113 (integer (codes "3"))) no_expressions)) no_expressions))) no_expressions))) (statement_and
    (a_call_statement 126 (a_call 125 (a_name 118 (codes "tf")) (expression_and (an_infix 124 op.Equal (a_call 122 (an_operation 120 (a_named_type 119
    (codes "on") no_constants) (codes "copy")) (expression_and (a_name 121 (codes "x")) no_expressions)) (a_name 123 (codes "x"))) no_expressions)))
    (statement_and (a_call_statement 138 (a_call 137 (a_name 127 (codes "tf")) (expression_and (an_infix 136 op.Equal (a_call 131 (an_operation 129
    (a_named_type 128 (codes "on") no_constants) (codes "make_n")) (expression_and (a_literal 130 nil) no_expressions)) (a_call 135 (an_operation 133
    (a_named_type 132 (codes "on") no_constants) (codes "make_n")) (expression_and (a_literal 134 nil) no_expressions))) no_expressions)))
    (statement_and (a_call_statement 144 (a_call 143 (a_name 139 (codes "tf")) (expression_and (an_infix 142 op.NotEqual (a_name 140 (codes "x"))
    (a_name 141 (codes "x"))) no_expressions))) no_statements)))))))))))))) ∷ [])

abbrev oneof_declared : List Declared
oneof_declared =
    (d (codes "b") 1 2 20 (Some 0) ∷ d (codes "tf") 20 0 4294967295 None ∷ d (codes "on") 29 22 145 (Some 0) ∷ d (codes "x") 35 36 145 (Some 0) ∷ d
    (codes "s") 69 70 145 (Some 0) ∷ d (codes "start_up") 145 0 4294967295 None ∷ [])

oneof : Runs oneof_declared oneof_modules (codes "") 10000 returned_normally (84 ∷ 10 ∷ 70 ∷ 10 ∷ 51 ∷ 10 ∷ 119 ∷ 116 ∷ 10 ∷ 84 ∷ 10 ∷ 70 ∷ 10 ∷ 70 ∷ 10 ∷ 84 ∷ 10 ∷ 84 ∷ 10 ∷ 84 ∷ 10 ∷ 70 ∷ 10 ∷ []) 20 410
unfolding executing computing digits
oneof = refl

-- % variant
-- tf = proc (b: bool) if b then stream$putl(stream$primary_output(), "T") else stream$putl(stream$primary_output(), "F") end end tf
-- start_up = proc ()
-- vr = variant[a: int, b: string] x: vr := vr$make_a(3) y: vr := x vr$change_b(y, "q")
--   tf(vr$is_b(x)) stream$putl(stream$primary_output(), vr$value_b(x)) n: int := vr$value_a(x) except when wrong_tag: stream$putl(stream$primary_output(), "wt") end
--   tf(x = y) tf(x = vr$make_b("q")) tf(vr$similar(x, vr$make_b("q"))) tf(vr$similar1(x, vr$make_b("q")))
--   tf(vr$similar(x, vr$make_a(1))) z: vr := vr$copy1(x) vr$change_a(z, 1) tf(vr$is_b(x))
--   w: vr := vr$copy(x) tf(w = x) tf(vr$similar(w, x)) vr$change_b(w, "z") tf(vr$similar(w, x))
-- end start_up
abbrev variant_modules : List Module
variant_modules =
    ((a_routine 21 no_equates (routine 20 (codes "tf") (codes "tf") kind.Procedure [] (typed 1 ((codes "b") ∷ []) (a_simple_type 0 simple.Bool) ∷ [])
    no_types no_exceptions ([]) no_equates ([]) (statement_and (an_if 19 (clause_and (a_name 2 (codes "b")) (a_body no_equates (statement_and
    (a_call_statement 10 (a_call 9 (an_operation 4 (a_named_type 3 (codes "stream") no_constants) (codes "putl")) (expression_and (a_call 7
    (an_operation 6 (a_named_type 5 (codes "stream") no_constants) (codes "primary_output")) no_expressions) (expression_and (a_literal 8 (string (34
    ∷ 84 ∷ 34 ∷ []))) no_expressions)))) no_statements)) no_clauses) (otherwise (a_body no_equates (statement_and (a_call_statement 18 (a_call 17
    (an_operation 12 (a_named_type 11 (codes "stream") no_constants) (codes "putl")) (expression_and (a_call 15 (an_operation 14 (a_named_type 13
    (codes "stream") no_constants) (codes "primary_output")) no_expressions) (expression_and (a_literal 16 (string (34 ∷ 70 ∷ 34 ∷ [])))
    no_expressions)))) no_statements)))) no_statements))) ∷ (a_routine 179 no_equates (routine 178 (codes "start_up") (codes "start_up")
    kind.Procedure [] ([]) no_types no_exceptions ([]) (equate_and (an_equate 27 (Some (codes "vr")) (a_type (a_fields_type 26 fields_word.Variant
    (selector_and 23 ((codes "a") ∷ []) (a_simple_type 22 simple.Int) (selector_and 25 ((codes "b") ∷ []) (a_simple_type 24 simple.String)
    no_selectors))))) no_equates) ([]) (statement_and (an_init 33 (a_variable (codes "x") (a_named_type 28 (codes "vr") no_constants)) (a_call 32
    (an_operation 30 (a_named_type 29 (codes "vr") no_constants) (codes "make_a")) (expression_and (a_literal 31 (integer (codes "3")))
    no_expressions))) (statement_and (an_init 36 (a_variable (codes "y") (a_named_type 34 (codes "vr") no_constants)) (a_name 35 (codes "x")))
    (statement_and (a_call_statement 42 (a_call 41 (an_operation 38 (a_named_type 37 (codes "vr") no_constants) (codes "change_b")) (expression_and
    (a_name 39 (codes "y")) (expression_and (a_literal 40 (string (34 ∷ 113 ∷ 34 ∷ []))) no_expressions)))) (statement_and (a_call_statement 49
    (a_call 48 (a_name 43 (codes "tf")) (expression_and (a_call 47 (an_operation 45 (a_named_type 44 (codes "vr") no_constants) (codes "is_b"))
    (expression_and (a_name 46 (codes "x")) no_expressions)) no_expressions))) (statement_and (a_call_statement 60 (a_call 59 (an_operation 51
    (a_named_type 50 (codes "stream") no_constants) (codes "putl")) (expression_and (a_call 54 (an_operation 53 (a_named_type 52 (codes "stream")
    no_constants) (codes "primary_output")) no_expressions) (expression_and (a_call 58 (an_operation 56 (a_named_type 55 (codes "vr") no_constants)
    (codes "value_b")) (expression_and (a_name 57 (codes "x")) no_expressions)) no_expressions)))) (statement_and (an_except 76 (an_init 66
    (a_variable (codes "n") (a_simple_type 61 simple.Int)) (a_call 65 (an_operation 63 (a_named_type 62 (codes "vr") no_constants) (codes "value_a"))
    (expression_and (a_name 64 (codes "x")) no_expressions))) (when_and 75 ((codes "wrong_tag") ∷ []) (objects []) (a_body no_equates (statement_and
    (a_call_statement 74 (a_call 73 (an_operation 68 (a_named_type 67 (codes "stream") no_constants) (codes "putl")) (expression_and (a_call 71
    (an_operation 70 (a_named_type 69 (codes "stream") no_constants) (codes "primary_output")) no_expressions) (expression_and (a_literal 72 (string
    (34 ∷ 119 ∷ 116 ∷ 34 ∷ []))) no_expressions)))) no_statements)) no_whens) no_others) (statement_and (a_call_statement 82 (a_call 81 (a_name 77
    (codes "tf")) (expression_and (an_infix 80 op.Equal (a_name 78 (codes "x")) (a_name 79 (codes "y"))) no_expressions))) (statement_and
    (a_call_statement 91 (a_call 90 (a_name 83 (codes "tf")) (expression_and (an_infix 89 op.Equal (a_name 84 (codes "x")) (a_call 88 (an_operation 86
    (a_named_type 85 (codes "vr") no_constants) (codes "make_b")) (expression_and (a_literal 87 (string (34 ∷ 113 ∷ 34 ∷ []))) no_expressions)))
    no_expressions))) (statement_and (a_call_statement 102 (a_call 101 (a_name 92 (codes "tf")) (expression_and (a_call 100 (an_operation 94
    (a_named_type 93 (codes "vr") no_constants) (codes "similar")) (expression_and (a_name 95 (codes "x")) (expression_and (a_call 99 (an_operation 97
    (a_named_type 96 (codes "vr") no_constants) (codes "make_b")) (expression_and (a_literal 98 (string (34 ∷ 113 ∷ 34 ∷ []))) no_expressions))
    no_expressions))) no_expressions))) (statement_and (a_call_statement 113 (a_call 112 (a_name 103 (codes "tf")) (expression_and (a_call 111
    (an_operation 105 (a_named_type 104 (codes "vr") no_constants) (codes "similar1")) (expression_and (a_name 106 (codes "x")) (expression_and
    (a_call 110 (an_operation 108 (a_named_type 107 (codes "vr") no_constants) (codes "make_b")) (expression_and (a_literal 109 (string (34 ∷ 113 ∷ 34
    ∷ []))) no_expressions)) no_expressions))) no_expressions))) (statement_and (a_call_statement 124 (a_call 123 (a_name 114 (codes "tf"))
    (expression_and (a_call 122 (an_operation 116 (a_named_type 115 (codes "vr") no_constants) (codes "similar")) (expression_and (a_name 117 (codes
    "x")) (expression_and (a_call 121 (an_operation 119 (a_named_type 118 (codes "vr") no_constants) (codes "make_a")) (expression_and (a_literal 120
    (integer (codes "1"))) no_expressions)) no_expressions))) no_expressions))) (statement_and (an_init 130 (a_variable (codes "z") (a_named_type 125
    (codes "vr") no_constants)) (a_call 129 (an_operation 127 (a_named_type 126 (codes "vr") no_constants) (codes "copy1")) (expression_and (a_name
    128 (codes "x")) no_expressions))) (statement_and (a_call_statement 136 (a_call 135 (an_operation 132 (a_named_type 131 (codes "vr") no_constants)
    (codes "change_a")) (expression_and (a_name 133 (codes "z")) (expression_and (a_literal 134 (integer (codes "1"))) no_expressions))))
    (statement_and (a_call_statement 143 (a_call 142 (a_name 137 (codes "tf")) (expression_and (a_call 141 (an_operation 139 (a_named_type 138 (codes
    "vr") no_constants) (codes "is_b")) (expression_and (a_name 140 (codes "x")) no_expressions)) no_expressions))) (statement_and (an_init 149
    (a_variable (codes "w") (a_named_type 144 (codes "vr") no_constants)) (a_call 148 (an_operation 146 (a_named_type 145 (codes "vr") no_constants)
    (codes "copy")) (expression_and (a_name 147 (codes "x")) no_expressions))) (statement_and (a_call_statement 155 (a_call 154 (a_name 150 (codes
    "tf")) (expression_and (an_infix 153 op.Equal (a_name 151 (codes "w")) (a_name 152 (codes "x"))) no_expressions))) (statement_and
    (a_call_statement 163 (a_call 162 (a_name 156 (codes "tf")) (expression_and (a_call 161 (an_operation 158 (a_named_type 157 (codes "vr")
    no_constants) (codes "similar")) (expression_and (a_name 159 (codes "w")) (expression_and (a_name 160 (codes "x")) no_expressions)))
    no_expressions))) (statement_and (a_call_statement 169 (a_call 168 (an_operation 165 (a_named_type 164 (codes "vr") no_constants) (codes
    "change_b")) (expression_and (a_name 166 (codes "w")) (expression_and (a_literal 167 (string (34 ∷ 122 ∷ 34 ∷ []))) no_expressions))))
    (statement_and (a_call_statement 177 (a_call 176 (a_name 170 (codes "tf")) (expression_and (a_call 175 (an_operation 172 (a_named_type 171 (codes
    "vr") no_constants) (codes "similar")) (expression_and (a_name 173 (codes "w")) (expression_and (a_name 174 (codes "x")) no_expressions)))
    no_expressions))) no_statements))))))))))))))))))))) ∷ [])

abbrev variant_declared : List Declared
variant_declared =
    (d (codes "b") 1 2 20 (Some 0) ∷ d (codes "tf") 20 0 4294967295 None ∷ d (codes "vr") 27 22 178 (Some 0) ∷ d (codes "x") 33 34 178 (Some 0) ∷ d
    (codes "y") 36 37 178 (Some 0) ∷ d (codes "n") 66 67 178 (Some 0) ∷ d (codes "z") 130 131 178 (Some 0) ∷ d (codes "w") 149 150 178 (Some 0) ∷ d
    (codes "start_up") 178 0 4294967295 None ∷ [])

variant : Runs variant_declared variant_modules (codes "") 10000 returned_normally (84 ∷ 10 ∷ 113 ∷ 10 ∷ 119 ∷ 116 ∷ 10 ∷ 84 ∷ 10 ∷ 70 ∷ 10 ∷ 84 ∷ 10 ∷ 84 ∷ 10 ∷ 70 ∷ 10 ∷ 84 ∷ 10 ∷ 70 ∷ 10 ∷ 84 ∷ 10 ∷ 70 ∷ 10 ∷ []) 21 460
unfolding executing computing digits
variant = refl

-- % tagcase
-- start_up = proc ()
-- on = oneof[a, b: int, c: string, d: null]
--   l: array[on] := array[on]$[on$make_a(1), on$make_b(2), on$make_c("x"), on$make_d(nil)]
--   for x: on in array[on]$elements(l) do
--     tagcase x
--       tag a, b (n: int): stream$putl(stream$primary_output(), "ab" || int$unparse(n))
--       tag c (s: string): stream$putl(stream$primary_output(), "c" || s)
--       others: stream$putl(stream$primary_output(), "oth")
--     end
--     tagcase x tag a: stream$putl(stream$primary_output(), "A") tag b, c: stream$putl(stream$primary_output(), "BC") tag d (n: null): if n = nil then stream$putl(stream$primary_output(), "nil") end end
--   end
-- end start_up
abbrev tagcase_modules : List Module
tagcase_modules =
    ((a_routine 110 no_equates (routine 109 (codes "start_up") (codes "start_up") kind.Procedure [] ([]) no_types no_exceptions ([]) (equate_and
    (an_equate 7 (Some (codes "on")) (a_type (a_fields_type 6 fields_word.Oneof (selector_and 1 ((codes "a") ∷ (codes "b") ∷ []) (a_simple_type 0
    simple.Int) (selector_and 3 ((codes "c") ∷ []) (a_simple_type 2 simple.String) (selector_and 5 ((codes "d") ∷ []) (a_simple_type 4 simple.Null)
    no_selectors)))))) no_equates) ([]) (statement_and (an_init 29 (a_variable (codes "l") (a_list_type 9 list.Array (a_named_type 8 (codes "on")
    no_constants))) (elements 28 (a_list_type 11 list.Array (a_named_type 10 (codes "on") no_constants)) (expression_and (a_call 15 (an_operation 13
    (a_named_type 12 (codes "on") no_constants) (codes "make_a")) (expression_and (a_literal 14 (integer (codes "1"))) no_expressions))
    (expression_and (a_call 19 (an_operation 17 (a_named_type 16 (codes "on") no_constants) (codes "make_b")) (expression_and (a_literal 18 (integer
    (codes "2"))) no_expressions)) (expression_and (a_call 23 (an_operation 21 (a_named_type 20 (codes "on") no_constants) (codes "make_c"))
    (expression_and (a_literal 22 (string (34 ∷ 120 ∷ 34 ∷ []))) no_expressions)) (expression_and (a_call 27 (an_operation 25 (a_named_type 24 (codes
    "on") no_constants) (codes "make_d")) (expression_and (a_literal 26 nil) no_expressions)) no_expressions)))))) (statement_and (a_for 108 (typed 31
    ((codes "x") ∷ []) (a_named_type 30 (codes "on") no_constants) ∷ []) (a_call 36 (an_operation 34 (a_list_type 33 list.Array (a_named_type 32
    (codes "on") no_constants)) (codes "elements")) (expression_and (a_name 35 (codes "l")) no_expressions)) (a_body no_equates (statement_and
    (a_tagcase 73 (a_name 37 (codes "x")) (tag_arm_and 52 ((codes "a") ∷ (codes "b") ∷ []) (Some (a_variable (codes "n") (a_simple_type 38
    simple.Int))) (a_body no_equates (statement_and (a_call_statement 51 (a_call 50 (an_operation 40 (a_named_type 39 (codes "stream") no_constants)
    (codes "putl")) (expression_and (a_call 43 (an_operation 42 (a_named_type 41 (codes "stream") no_constants) (codes "primary_output"))
    no_expressions) (expression_and (an_infix 49 op.Concatenate (a_literal 44 (string (34 ∷ 97 ∷ 98 ∷ 34 ∷ []))) (a_call 48 (an_operation 46
    (a_simple_type 45 simple.Int) (codes "unparse")) (expression_and (a_name 47 (codes "n")) no_expressions))) no_expressions)))) no_statements))
    (tag_arm_and 64 ((codes "c") ∷ []) (Some (a_variable (codes "s") (a_simple_type 53 simple.String))) (a_body no_equates (statement_and
    (a_call_statement 63 (a_call 62 (an_operation 55 (a_named_type 54 (codes "stream") no_constants) (codes "putl")) (expression_and (a_call 58
    (an_operation 57 (a_named_type 56 (codes "stream") no_constants) (codes "primary_output")) no_expressions) (expression_and (an_infix 61
    op.Concatenate (a_literal 59 (string (34 ∷ 99 ∷ 34 ∷ []))) (a_name 60 (codes "s"))) no_expressions)))) no_statements)) no_tag_arms)) (otherwise
    (a_body no_equates (statement_and (a_call_statement 72 (a_call 71 (an_operation 66 (a_named_type 65 (codes "stream") no_constants) (codes "putl"))
    (expression_and (a_call 69 (an_operation 68 (a_named_type 67 (codes "stream") no_constants) (codes "primary_output")) no_expressions)
    (expression_and (a_literal 70 (string (34 ∷ 111 ∷ 116 ∷ 104 ∷ 34 ∷ []))) no_expressions)))) no_statements)))) (statement_and (a_tagcase 107
    (a_name 74 (codes "x")) (tag_arm_and 83 ((codes "a") ∷ []) None (a_body no_equates (statement_and (a_call_statement 82 (a_call 81 (an_operation 76
    (a_named_type 75 (codes "stream") no_constants) (codes "putl")) (expression_and (a_call 79 (an_operation 78 (a_named_type 77 (codes "stream")
    no_constants) (codes "primary_output")) no_expressions) (expression_and (a_literal 80 (string (34 ∷ 65 ∷ 34 ∷ []))) no_expressions))))
    no_statements)) (tag_arm_and 92 ((codes "b") ∷ (codes "c") ∷ []) None (a_body no_equates (statement_and (a_call_statement 91 (a_call 90
    (an_operation 85 (a_named_type 84 (codes "stream") no_constants) (codes "putl")) (expression_and (a_call 88 (an_operation 87 (a_named_type 86
    (codes "stream") no_constants) (codes "primary_output")) no_expressions) (expression_and (a_literal 89 (string (34 ∷ 66 ∷ 67 ∷ 34 ∷ [])))
    no_expressions)))) no_statements)) (tag_arm_and 106 ((codes "d") ∷ []) (Some (a_variable (codes "n") (a_simple_type 93 simple.Null))) (a_body
    no_equates (statement_and (an_if 105 (clause_and (an_infix 96 op.Equal (a_name 94 (codes "n")) (a_literal 95 nil)) (a_body no_equates
    (statement_and (a_call_statement 104 (a_call 103 (an_operation 98 (a_named_type 97 (codes "stream") no_constants) (codes "putl")) (expression_and
    (a_call 101 (an_operation 100 (a_named_type 99 (codes "stream") no_constants) (codes "primary_output")) no_expressions) (expression_and (a_literal
    102 (string (34 ∷ 110 ∷ 105 ∷ 108 ∷ 34 ∷ []))) no_expressions)))) no_statements)) no_clauses) nothing_else) no_statements)) no_tag_arms)))
    nothing_else) no_statements)))) no_statements)))) ∷ [])

abbrev tagcase_declared : List Declared
tagcase_declared =
    (d (codes "on") 7 0 109 (Some 0) ∷ d (codes "l") 29 30 109 (Some 0) ∷ d (codes "x") 31 37 107 (Some 0) ∷ d (codes "n") 52 39 51 (Some 0) ∷ d
    (codes "s") 64 54 63 (Some 0) ∷ d (codes "n") 106 94 105 (Some 0) ∷ d (codes "start_up") 109 0 4294967295 None ∷ [])

tagcase : Runs tagcase_declared tagcase_modules (codes "") 10000 returned_normally (97 ∷ 98 ∷ 49 ∷ 10 ∷ 65 ∷ 10 ∷ 97 ∷ 98 ∷ 50 ∷ 10 ∷ 66 ∷ 67 ∷ 10 ∷ 99 ∷ 120 ∷ 10 ∷ 66 ∷ 67 ∷ 10 ∷ 111 ∷ 116 ∷ 104 ∷ 10 ∷ 110 ∷ 105 ∷ 108 ∷ 10 ∷ []) 32 682
unfolding executing computing digits
tagcase = refl

-- % oneofs
-- start_up = proc ()
-- o = oneof[a: int, b: int] x: o := o$make_a(1) y: o := o$make_b(1) if x ~= y then stream$putl(stream$primary_output(), "other") end
-- if x = o$make_a(1) then stream$putl(stream$primary_output(), "equal") end if o$is_a(x) then stream$putl(stream$primary_output(), int$unparse(o$value_a(x))) end
-- stream$putl(stream$primary_output(), int$unparse(o$value_b(x))) except when wrong_tag: stream$putl(stream$primary_output(), "tag") end
-- end start_up
abbrev oneofs_modules : List Module
oneofs_modules =
    ((a_routine 89 no_equates (routine 88 (codes "start_up") (codes "start_up") kind.Procedure [] ([]) no_types no_exceptions ([]) (equate_and
    (an_equate 5 (Some (codes "o")) (a_type (a_fields_type 4 fields_word.Oneof (selector_and 1 ((codes "a") ∷ []) (a_simple_type 0 simple.Int)
    (selector_and 3 ((codes "b") ∷ []) (a_simple_type 2 simple.Int) no_selectors))))) no_equates) ([]) (statement_and (an_init 11 (a_variable (codes
    "x") (a_named_type 6 (codes "o") no_constants)) (a_call 10 (an_operation 8 (a_named_type 7 (codes "o") no_constants) (codes "make_a"))
    (expression_and (a_literal 9 (integer (codes "1"))) no_expressions))) (statement_and (an_init 17 (a_variable (codes "y") (a_named_type 12 (codes
    "o") no_constants)) (a_call 16 (an_operation 14 (a_named_type 13 (codes "o") no_constants) (codes "make_b")) (expression_and (a_literal 15
    (integer (codes "1"))) no_expressions))) (statement_and (an_if 29 (clause_and (an_infix 20 op.NotEqual (a_name 18 (codes "x")) (a_name 19 (codes
    "y"))) (a_body no_equates (statement_and (a_call_statement 28 (a_call 27 (an_operation 22 (a_named_type 21 (codes "stream") no_constants) (codes
    "putl")) (expression_and (a_call 25 (an_operation 24 (a_named_type 23 (codes "stream") no_constants) (codes "primary_output")) no_expressions)
    (expression_and (a_literal 26 (string (34 ∷ 111 ∷ 116 ∷ 104 ∷ 101 ∷ 114 ∷ 34 ∷ []))) no_expressions)))) no_statements)) no_clauses) nothing_else)
    (statement_and (an_if 44 (clause_and (an_infix 35 op.Equal (a_name 30 (codes "x")) (a_call 34 (an_operation 32 (a_named_type 31 (codes "o")
    no_constants) (codes "make_a")) (expression_and (a_literal 33 (integer (codes "1"))) no_expressions))) (a_body no_equates (statement_and
    (a_call_statement 43 (a_call 42 (an_operation 37 (a_named_type 36 (codes "stream") no_constants) (codes "putl")) (expression_and (a_call 40
    (an_operation 39 (a_named_type 38 (codes "stream") no_constants) (codes "primary_output")) no_expressions) (expression_and (a_literal 41 (string
    (34 ∷ 101 ∷ 113 ∷ 117 ∷ 97 ∷ 108 ∷ 34 ∷ []))) no_expressions)))) no_statements)) no_clauses) nothing_else) (statement_and (an_if 63 (clause_and
    (a_call 48 (an_operation 46 (a_named_type 45 (codes "o") no_constants) (codes "is_a")) (expression_and (a_name 47 (codes "x")) no_expressions))
    (a_body no_equates (statement_and (a_call_statement 62 (a_call 61 (an_operation 50 (a_named_type 49 (codes "stream") no_constants) (codes "putl"))
    (expression_and (a_call 53 (an_operation 52 (a_named_type 51 (codes "stream") no_constants) (codes "primary_output")) no_expressions)
    (expression_and (a_call 60 (an_operation 55 (a_simple_type 54 simple.Int) (codes "unparse")) (expression_and (a_call 59 (an_operation 57
    (a_named_type 56 (codes "o") no_constants) (codes "value_a")) (expression_and (a_name 58 (codes "x")) no_expressions)) no_expressions))
    no_expressions)))) no_statements)) no_clauses) nothing_else) (statement_and (an_except 87 (a_call_statement 77 (a_call 76 (an_operation 65
    (a_named_type 64 (codes "stream") no_constants) (codes "putl")) (expression_and (a_call 68 (an_operation 67 (a_named_type 66 (codes "stream")
    no_constants) (codes "primary_output")) no_expressions) (expression_and (a_call 75 (an_operation 70 (a_simple_type 69 simple.Int) (codes
    "unparse")) (expression_and (a_call 74 (an_operation 72 (a_named_type 71 (codes "o") no_constants) (codes "value_b")) (expression_and (a_name 73
    (codes "x")) no_expressions)) no_expressions)) no_expressions)))) (when_and 86 ((codes "wrong_tag") ∷ []) (objects []) (a_body no_equates
    (statement_and (a_call_statement 85 (a_call 84 (an_operation 79 (a_named_type 78 (codes "stream") no_constants) (codes "putl")) (expression_and
    (a_call 82 (an_operation 81 (a_named_type 80 (codes "stream") no_constants) (codes "primary_output")) no_expressions) (expression_and (a_literal
    83 (string (34 ∷ 116 ∷ 97 ∷ 103 ∷ 34 ∷ []))) no_expressions)))) no_statements)) no_whens) no_others) no_statements)))))))) ∷ [])

abbrev oneofs_declared : List Declared
oneofs_declared =
    (d (codes "o") 5 0 88 (Some 0) ∷ d (codes "x") 11 12 88 (Some 0) ∷ d (codes "y") 17 18 88 (Some 0) ∷ d (codes "start_up") 88 0 4294967295 None ∷
    [])

oneofs : Runs oneofs_declared oneofs_modules (codes "") 10000 returned_normally (111 ∷ 116 ∷ 104 ∷ 101 ∷ 114 ∷ 10 ∷ 101 ∷ 113 ∷ 117 ∷ 97 ∷ 108 ∷ 10 ∷ 49 ∷ 10 ∷ 116 ∷ 97 ∷ 103 ∷ 10 ∷ []) 10 324
unfolding executing computing digits
oneofs = refl

-- % tagcase takes the tag once
-- start_up = proc ()
-- v = variant[a, b: int]
-- x: v := v$make_a(1) tagcase x tag a (n: int): v$change_b(x, 7) stream$putl(stream$primary_output(), int$unparse(n)) tag b (n: int): stream$putl(stream$primary_output(), "!") end
-- tagcase x tag a: stream$putl(stream$primary_output(), "!") tag b (n: any): stream$putl(stream$primary_output(), int$unparse(force[int](n))) end
-- end start_up
abbrev tagcase_takes_the_tag_once_modules : List Module
tagcase_takes_the_tag_once_modules =
    ((a_routine 69 no_equates (routine 68 (codes "start_up") (codes "start_up") kind.Procedure [] ([]) no_types no_exceptions ([]) (equate_and
    (an_equate 3 (Some (codes "v")) (a_type (a_fields_type 2 fields_word.Variant (selector_and 1 ((codes "a") ∷ (codes "b") ∷ []) (a_simple_type 0
    simple.Int) no_selectors)))) no_equates) ([]) (statement_and (an_init 9 (a_variable (codes "x") (a_named_type 4 (codes "v") no_constants)) (a_call
    8 (an_operation 6 (a_named_type 5 (codes "v") no_constants) (codes "make_a")) (expression_and (a_literal 7 (integer (codes "1")))
    no_expressions))) (statement_and (a_tagcase 40 (a_name 10 (codes "x")) (tag_arm_and 29 ((codes "a") ∷ []) (Some (a_variable (codes "n")
    (a_simple_type 11 simple.Int))) (a_body no_equates (statement_and (a_call_statement 17 (a_call 16 (an_operation 13 (a_named_type 12 (codes "v")
    no_constants) (codes "change_b")) (expression_and (a_name 14 (codes "x")) (expression_and (a_literal 15 (integer (codes "7"))) no_expressions))))
    (statement_and (a_call_statement 28 (a_call 27 (an_operation 19 (a_named_type 18 (codes "stream") no_constants) (codes "putl")) (expression_and
    (a_call 22 (an_operation 21 (a_named_type 20 (codes "stream") no_constants) (codes "primary_output")) no_expressions) (expression_and (a_call 26
    (an_operation 24 (a_simple_type 23 simple.Int) (codes "unparse")) (expression_and (a_name 25 (codes "n")) no_expressions)) no_expressions))))
    no_statements))) (tag_arm_and 39 ((codes "b") ∷ []) (Some (a_variable (codes "n") (a_simple_type 30 simple.Int))) (a_body no_equates
    (statement_and (a_call_statement 38 (a_call 37 (an_operation 32 (a_named_type 31 (codes "stream") no_constants) (codes "putl")) (expression_and
    (a_call 35 (an_operation 34 (a_named_type 33 (codes "stream") no_constants) (codes "primary_output")) no_expressions) (expression_and (a_literal
    36 (string (34 ∷ 33 ∷ 34 ∷ []))) no_expressions)))) no_statements)) no_tag_arms)) nothing_else) (statement_and (a_tagcase 67 (a_name 41 (codes
    "x")) (tag_arm_and 50 ((codes "a") ∷ []) None (a_body no_equates (statement_and (a_call_statement 49 (a_call 48 (an_operation 43 (a_named_type 42
    (codes "stream") no_constants) (codes "putl")) (expression_and (a_call 46 (an_operation 45 (a_named_type 44 (codes "stream") no_constants) (codes
    "primary_output")) no_expressions) (expression_and (a_literal 47 (string (34 ∷ 33 ∷ 34 ∷ []))) no_expressions)))) no_statements)) (tag_arm_and 66
    ((codes "b") ∷ []) (Some (a_variable (codes "n") (a_simple_type 51 simple.Any))) (a_body no_equates (statement_and (a_call_statement 65 (a_call 64
    (an_operation 53 (a_named_type 52 (codes "stream") no_constants) (codes "putl")) (expression_and (a_call 56 (an_operation 55 (a_named_type 54
    (codes "stream") no_constants) (codes "primary_output")) no_expressions) (expression_and (a_call 63 (an_operation 58 (a_simple_type 57 simple.Int)
    (codes "unparse")) (expression_and (a_call 62 (a_force 60 (a_simple_type 59 simple.Int)) (expression_and (a_name 61 (codes "n")) no_expressions))
    no_expressions)) no_expressions)))) no_statements)) no_tag_arms)) nothing_else) no_statements))))) ∷ [])

abbrev tagcase_takes_the_tag_once_declared : List Declared
tagcase_takes_the_tag_once_declared =
    (d (codes "v") 3 0 68 (Some 0) ∷ d (codes "x") 9 10 68 (Some 0) ∷ d (codes "n") 29 12 28 (Some 0) ∷ d (codes "n") 39 31 38 (Some 0) ∷ d (codes
    "n") 66 52 65 (Some 0) ∷ d (codes "start_up") 68 0 4294967295 None ∷ [])

tagcase_takes_the_tag_once : Runs tagcase_takes_the_tag_once_declared tagcase_takes_the_tag_once_modules (codes "") 10000 returned_normally (49 ∷ 10 ∷ 55 ∷ 10 ∷ []) 15 228
unfolding executing computing digits
tagcase_takes_the_tag_once = refl
