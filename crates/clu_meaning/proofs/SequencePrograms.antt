-- Programs that compute: operations of sequences. Each is the tree of the CLU above it.
use Rattle.std.specs.Fmt.{digits}
use Rattle.std.specs.Prelude.{refl, List, [], ◌∷◌, codes, Some, None}
use Rattle.clu_names.specs.declared.scopes.Declared.{Declared}
use Rattle.clu_syntax.specs.declared.words.Operator.TheVariants as op
use Rattle.clu_syntax.specs.declared.words.Sign.TheVariants as sign
use Rattle.clu_syntax.specs.declared.words.SimpleType.TheVariants as simple
use Rattle.clu_syntax.specs.declared.words.ListType.TheVariants as list
use Rattle.clu_syntax.specs.declared.words.RoutineKind.TheVariants as kind
use Rattle.clu_syntax.specs.Syntax.{integer, string, an_infix, a_prefix, a_literal, a_name, an_index, a_call, elements, an_operation, no_expressions, expression_and, an_expression, a_type, no_constants, constant_and, a_simple_type, a_list_type, a_named_type, no_types, no_exceptions, an_equate, no_equates, equate_and, objects, an_init, an_assign, a_call_statement, a_for, an_if, an_except, no_statements, statement_and, a_body, no_clauses, clause_and, otherwise, no_whens, when_and, no_others, Module, a_routine}
use Rattle.clu_layout.specs.Computing.{computing}
use Rattle.clu_meaning.specs.Run.{returned_normally}
use Rattle.clu_meaning.specs.Executing.{executing}
use Rattle.clu_meaning.proofs.Running.{d, typed, a_variable, routine, Runs}

-- % sequence-make
-- ps = proc (a: sequence[int])
--   s: string := ""
--   for x: int in sequence[int]$elements(a) do s := s || " " || int$unparse(x) end
--   stream$putl(stream$primary_output(), s)
-- end ps
-- tf = proc (b: bool) if b then stream$putl(stream$primary_output(), "T") else stream$putl(stream$primary_output(), "F") end end tf
-- start_up = proc ()
-- si = sequence[int]
-- ps(si$new()) ps(si$e2s(4)) ps(si$fill(3, 7)) ps(si$fill(0, 7)) ps(si$[1, 2]) ps(si$[])
--   x: si := si$fill(-1, 0) except when negative_size: stream$putl(stream$primary_output(), "n") end
-- end start_up
abbrev sequence_make_modules : List Module
sequence_make_modules =
    ((a_routine 32 no_equates (routine 31 (codes "ps") (codes "ps") kind.Procedure [] (typed 2 ((codes "a") ∷ []) (a_list_type 1 list.Sequence
    (a_simple_type 0 simple.Int)) ∷ []) no_types no_exceptions ([]) no_equates ([]) (statement_and (an_init 5 (a_variable (codes "s") (a_simple_type 3
    simple.String)) (a_literal 4 (string (34 ∷ 34 ∷ [])))) (statement_and (a_for 22 (typed 7 ((codes "x") ∷ []) (a_simple_type 6 simple.Int) ∷ [])
    (a_call 12 (an_operation 10 (a_list_type 9 list.Sequence (a_simple_type 8 simple.Int)) (codes "elements")) (expression_and (a_name 11 (codes "a"))
    no_expressions)) (a_body no_equates (statement_and (an_assign 21 ((codes "s") ∷ []) (expression_and (an_infix 20 op.Concatenate (an_infix 15
    op.Concatenate (a_name 13 (codes "s")) (a_literal 14 (string (34 ∷ 32 ∷ 34 ∷ [])))) (a_call 19 (an_operation 17 (a_simple_type 16 simple.Int)
    (codes "unparse")) (expression_and (a_name 18 (codes "x")) no_expressions))) no_expressions)) no_statements))) (statement_and (a_call_statement 30
    (a_call 29 (an_operation 24 (a_named_type 23 (codes "stream") no_constants) (codes "putl")) (expression_and (a_call 27 (an_operation 26
    (a_named_type 25 (codes "stream") no_constants) (codes "primary_output")) no_expressions) (expression_and (a_name 28 (codes "s"))
    no_expressions)))) no_statements))))) ∷ (a_routine 54 no_equates (routine 53 (codes "tf") (codes "tf") kind.Procedure [] (typed 34 ((codes "b") ∷
    []) (a_simple_type 33 simple.Bool) ∷ []) no_types no_exceptions ([]) no_equates ([]) (statement_and (an_if 52 (clause_and (a_name 35 (codes "b"))
    (a_body no_equates (statement_and (a_call_statement 43 (a_call 42 (an_operation 37 (a_named_type 36 (codes "stream") no_constants) (codes "putl"))
    (expression_and (a_call 40 (an_operation 39 (a_named_type 38 (codes "stream") no_constants) (codes "primary_output")) no_expressions)
    (expression_and (a_literal 41 (string (34 ∷ 84 ∷ 34 ∷ []))) no_expressions)))) no_statements)) no_clauses) (otherwise (a_body no_equates
    (statement_and (a_call_statement 51 (a_call 50 (an_operation 45 (a_named_type 44 (codes "stream") no_constants) (codes "putl")) (expression_and
    (a_call 48 (an_operation 47 (a_named_type 46 (codes "stream") no_constants) (codes "primary_output")) no_expressions) (expression_and (a_literal
    49 (string (34 ∷ 70 ∷ 34 ∷ []))) no_expressions)))) no_statements)))) no_statements))) ∷ (a_routine 118 no_equates (routine 117 (codes "start_up")
    (codes "start_up") kind.Procedure [] ([]) no_types no_exceptions ([]) (equate_and (an_equate 57 (Some (codes "si")) (a_type (a_list_type 56
    list.Sequence (a_simple_type 55 simple.Int)))) no_equates) ([]) (statement_and (a_call_statement 63 (a_call 62 (a_name 58 (codes "ps"))
    (expression_and (a_call 61 (an_operation 60 (a_named_type 59 (codes "si") no_constants) (codes "new")) no_expressions) no_expressions)))
    (statement_and (a_call_statement 70 (a_call 69 (a_name 64 (codes "ps")) (expression_and (a_call 68 (an_operation 66 (a_named_type 65 (codes "si")
    no_constants) (codes "e2s")) (expression_and (a_literal 67 (integer (codes "4"))) no_expressions)) no_expressions))) (statement_and
    (a_call_statement 78 (a_call 77 (a_name 71 (codes "ps")) (expression_and (a_call 76 (an_operation 73 (a_named_type 72 (codes "si") no_constants)
    (codes "fill")) (expression_and (a_literal 74 (integer (codes "3"))) (expression_and (a_literal 75 (integer (codes "7"))) no_expressions)))
    no_expressions))) (statement_and (a_call_statement 86 (a_call 85 (a_name 79 (codes "ps")) (expression_and (a_call 84 (an_operation 81
    (a_named_type 80 (codes "si") no_constants) (codes "fill")) (expression_and (a_literal 82 (integer (codes "0"))) (expression_and (a_literal 83
    (integer (codes "7"))) no_expressions))) no_expressions))) (statement_and (a_call_statement 93 (a_call 92 (a_name 87 (codes "ps")) (expression_and
    (elements 91 (a_named_type 88 (codes "si") no_constants) (expression_and (a_literal 89 (integer (codes "1"))) (expression_and (a_literal 90
    (integer (codes "2"))) no_expressions))) no_expressions))) (statement_and (a_call_statement 98 (a_call 97 (a_name 94 (codes "ps")) (expression_and
    (elements 96 (a_named_type 95 (codes "si") no_constants) no_expressions) no_expressions))) (statement_and (an_except 116 (an_init 106 (a_variable
    (codes "x") (a_named_type 99 (codes "si") no_constants)) (a_call 105 (an_operation 101 (a_named_type 100 (codes "si") no_constants) (codes
    "fill")) (expression_and (a_prefix 103 sign.Minus (a_literal 102 (integer (codes "1")))) (expression_and (a_literal 104 (integer (codes "0")))
    no_expressions)))) (when_and 115 ((codes "negative_size") ∷ []) (objects []) (a_body no_equates (statement_and (a_call_statement 114 (a_call 113
    (an_operation 108 (a_named_type 107 (codes "stream") no_constants) (codes "putl")) (expression_and (a_call 111 (an_operation 110 (a_named_type 109
    (codes "stream") no_constants) (codes "primary_output")) no_expressions) (expression_and (a_literal 112 (string (34 ∷ 110 ∷ 34 ∷ [])))
    no_expressions)))) no_statements)) no_whens) no_others) no_statements))))))))) ∷ [])

abbrev sequence_make_declared : List Declared
sequence_make_declared =
    (d (codes "a") 2 3 31 (Some 0) ∷ d (codes "s") 5 6 31 (Some 0) ∷ d (codes "x") 7 13 21 (Some 0) ∷ d (codes "ps") 31 0 4294967295 None ∷ d (codes
    "b") 34 35 53 (Some 0) ∷ d (codes "tf") 53 0 4294967295 None ∷ d (codes "si") 57 55 117 (Some 0) ∷ d (codes "x") 106 107 117 (Some 0) ∷ d (codes
    "start_up") 117 0 4294967295 None ∷ [])

sequence_make : Runs sequence_make_declared sequence_make_modules (codes "") 10000 returned_normally (10 ∷ 32 ∷ 52 ∷ 10 ∷ 32 ∷ 55 ∷ 32 ∷ 55 ∷ 32 ∷ 55 ∷ 10 ∷ 10 ∷ 32 ∷ 49 ∷ 32 ∷ 50 ∷ 10 ∷ 10 ∷ 110 ∷ 10 ∷ []) 60 616
unfolding executing computing digits
sequence_make = refl

-- % sequence-fetch
-- ps = proc (a: sequence[int])
--   s: string := ""
--   for x: int in sequence[int]$elements(a) do s := s || " " || int$unparse(x) end
--   stream$putl(stream$primary_output(), s)
-- end ps
-- tf = proc (b: bool) if b then stream$putl(stream$primary_output(), "T") else stream$putl(stream$primary_output(), "F") end end tf
-- start_up = proc ()
-- si = sequence[int]
-- s: si := si$[5, 6] stream$putl(stream$primary_output(), int$unparse(s[1] + si$fetch(s, 2)))
--   x: int := s[0] except when bounds: stream$putl(stream$primary_output(), "b0") end
--   x := s[3] except when bounds: stream$putl(stream$primary_output(), "b3") end
--   stream$putl(stream$primary_output(), int$unparse(si$bottom(s))) stream$putl(stream$primary_output(), int$unparse(si$top(s)))
--   x := si$bottom(si$new()) except when bounds: stream$putl(stream$primary_output(), "bb") end
--   x := si$top(si$new()) except when bounds: stream$putl(stream$primary_output(), "bt") end
-- end start_up
abbrev sequence_fetch_modules : List Module
sequence_fetch_modules =
    ((a_routine 32 no_equates (routine 31 (codes "ps") (codes "ps") kind.Procedure [] (typed 2 ((codes "a") ∷ []) (a_list_type 1 list.Sequence
    (a_simple_type 0 simple.Int)) ∷ []) no_types no_exceptions ([]) no_equates ([]) (statement_and (an_init 5 (a_variable (codes "s") (a_simple_type 3
    simple.String)) (a_literal 4 (string (34 ∷ 34 ∷ [])))) (statement_and (a_for 22 (typed 7 ((codes "x") ∷ []) (a_simple_type 6 simple.Int) ∷ [])
    (a_call 12 (an_operation 10 (a_list_type 9 list.Sequence (a_simple_type 8 simple.Int)) (codes "elements")) (expression_and (a_name 11 (codes "a"))
    no_expressions)) (a_body no_equates (statement_and (an_assign 21 ((codes "s") ∷ []) (expression_and (an_infix 20 op.Concatenate (an_infix 15
    op.Concatenate (a_name 13 (codes "s")) (a_literal 14 (string (34 ∷ 32 ∷ 34 ∷ [])))) (a_call 19 (an_operation 17 (a_simple_type 16 simple.Int)
    (codes "unparse")) (expression_and (a_name 18 (codes "x")) no_expressions))) no_expressions)) no_statements))) (statement_and (a_call_statement 30
    (a_call 29 (an_operation 24 (a_named_type 23 (codes "stream") no_constants) (codes "putl")) (expression_and (a_call 27 (an_operation 26
    (a_named_type 25 (codes "stream") no_constants) (codes "primary_output")) no_expressions) (expression_and (a_name 28 (codes "s"))
    no_expressions)))) no_statements))))) ∷ (a_routine 54 no_equates (routine 53 (codes "tf") (codes "tf") kind.Procedure [] (typed 34 ((codes "b") ∷
    []) (a_simple_type 33 simple.Bool) ∷ []) no_types no_exceptions ([]) no_equates ([]) (statement_and (an_if 52 (clause_and (a_name 35 (codes "b"))
    (a_body no_equates (statement_and (a_call_statement 43 (a_call 42 (an_operation 37 (a_named_type 36 (codes "stream") no_constants) (codes "putl"))
    (expression_and (a_call 40 (an_operation 39 (a_named_type 38 (codes "stream") no_constants) (codes "primary_output")) no_expressions)
    (expression_and (a_literal 41 (string (34 ∷ 84 ∷ 34 ∷ []))) no_expressions)))) no_statements)) no_clauses) (otherwise (a_body no_equates
    (statement_and (a_call_statement 51 (a_call 50 (an_operation 45 (a_named_type 44 (codes "stream") no_constants) (codes "putl")) (expression_and
    (a_call 48 (an_operation 47 (a_named_type 46 (codes "stream") no_constants) (codes "primary_output")) no_expressions) (expression_and (a_literal
    49 (string (34 ∷ 70 ∷ 34 ∷ []))) no_expressions)))) no_statements)))) no_statements))) ∷ (a_routine 175 no_equates (routine 174 (codes "start_up")
    (codes "start_up") kind.Procedure [] ([]) no_types no_exceptions ([]) (equate_and (an_equate 57 (Some (codes "si")) (a_type (a_list_type 56
    list.Sequence (a_simple_type 55 simple.Int)))) no_equates) ([]) (statement_and (an_init 63 (a_variable (codes "s") (a_named_type 58 (codes "si")
    no_constants)) (elements 62 (a_named_type 59 (codes "si") no_constants) (expression_and (a_literal 60 (integer (codes "5"))) (expression_and
    (a_literal 61 (integer (codes "6"))) no_expressions)))) (statement_and (a_call_statement 82 (a_call 81 (an_operation 65 (a_named_type 64 (codes
    "stream") no_constants) (codes "putl")) (expression_and (a_call 68 (an_operation 67 (a_named_type 66 (codes "stream") no_constants) (codes
    "primary_output")) no_expressions) (expression_and (a_call 80 (an_operation 70 (a_simple_type 69 simple.Int) (codes "unparse")) (expression_and
    (an_infix 79 op.Add (an_index 73 (a_name 71 (codes "s")) (constant_and (an_expression (a_literal 72 (integer (codes "1")))) no_constants)) (a_call
    78 (an_operation 75 (a_named_type 74 (codes "si") no_constants) (codes "fetch")) (expression_and (a_name 76 (codes "s")) (expression_and
    (a_literal 77 (integer (codes "2"))) no_expressions)))) no_expressions)) no_expressions)))) (statement_and (an_except 97 (an_init 87 (a_variable
    (codes "x") (a_simple_type 83 simple.Int)) (an_index 86 (a_name 84 (codes "s")) (constant_and (an_expression (a_literal 85 (integer (codes "0"))))
    no_constants))) (when_and 96 ((codes "bounds") ∷ []) (objects []) (a_body no_equates (statement_and (a_call_statement 95 (a_call 94 (an_operation
    89 (a_named_type 88 (codes "stream") no_constants) (codes "putl")) (expression_and (a_call 92 (an_operation 91 (a_named_type 90 (codes "stream")
    no_constants) (codes "primary_output")) no_expressions) (expression_and (a_literal 93 (string (34 ∷ 98 ∷ 48 ∷ 34 ∷ []))) no_expressions))))
    no_statements)) no_whens) no_others) (statement_and (an_except 111 (an_assign 101 ((codes "x") ∷ []) (expression_and (an_index 100 (a_name 98
    (codes "s")) (constant_and (an_expression (a_literal 99 (integer (codes "3")))) no_constants)) no_expressions)) (when_and 110 ((codes "bounds") ∷
    []) (objects []) (a_body no_equates (statement_and (a_call_statement 109 (a_call 108 (an_operation 103 (a_named_type 102 (codes "stream")
    no_constants) (codes "putl")) (expression_and (a_call 106 (an_operation 105 (a_named_type 104 (codes "stream") no_constants) (codes
    "primary_output")) no_expressions) (expression_and (a_literal 107 (string (34 ∷ 98 ∷ 51 ∷ 34 ∷ []))) no_expressions)))) no_statements)) no_whens)
    no_others) (statement_and (a_call_statement 125 (a_call 124 (an_operation 113 (a_named_type 112 (codes "stream") no_constants) (codes "putl"))
    (expression_and (a_call 116 (an_operation 115 (a_named_type 114 (codes "stream") no_constants) (codes "primary_output")) no_expressions)
    (expression_and (a_call 123 (an_operation 118 (a_simple_type 117 simple.Int) (codes "unparse")) (expression_and (a_call 122 (an_operation 120
    (a_named_type 119 (codes "si") no_constants) (codes "bottom")) (expression_and (a_name 121 (codes "s")) no_expressions)) no_expressions))
    no_expressions)))) (statement_and (a_call_statement 139 (a_call 138 (an_operation 127 (a_named_type 126 (codes "stream") no_constants) (codes
    "putl")) (expression_and (a_call 130 (an_operation 129 (a_named_type 128 (codes "stream") no_constants) (codes "primary_output")) no_expressions)
    (expression_and (a_call 137 (an_operation 132 (a_simple_type 131 simple.Int) (codes "unparse")) (expression_and (a_call 136 (an_operation 134
    (a_named_type 133 (codes "si") no_constants) (codes "top")) (expression_and (a_name 135 (codes "s")) no_expressions)) no_expressions))
    no_expressions)))) (statement_and (an_except 156 (an_assign 146 ((codes "x") ∷ []) (expression_and (a_call 145 (an_operation 141 (a_named_type 140
    (codes "si") no_constants) (codes "bottom")) (expression_and (a_call 144 (an_operation 143 (a_named_type 142 (codes "si") no_constants) (codes
    "new")) no_expressions) no_expressions)) no_expressions)) (when_and 155 ((codes "bounds") ∷ []) (objects []) (a_body no_equates (statement_and
    (a_call_statement 154 (a_call 153 (an_operation 148 (a_named_type 147 (codes "stream") no_constants) (codes "putl")) (expression_and (a_call 151
    (an_operation 150 (a_named_type 149 (codes "stream") no_constants) (codes "primary_output")) no_expressions) (expression_and (a_literal 152
    (string (34 ∷ 98 ∷ 98 ∷ 34 ∷ []))) no_expressions)))) no_statements)) no_whens) no_others) (statement_and (an_except 173 (an_assign 163 ((codes
    "x") ∷ []) (expression_and (a_call 162 (an_operation 158 (a_named_type 157 (codes "si") no_constants) (codes "top")) (expression_and (a_call 161
    (an_operation 160 (a_named_type 159 (codes "si") no_constants) (codes "new")) no_expressions) no_expressions)) no_expressions)) (when_and 172
    ((codes "bounds") ∷ []) (objects []) (a_body no_equates (statement_and (a_call_statement 171 (a_call 170 (an_operation 165 (a_named_type 164
    (codes "stream") no_constants) (codes "putl")) (expression_and (a_call 168 (an_operation 167 (a_named_type 166 (codes "stream") no_constants)
    (codes "primary_output")) no_expressions) (expression_and (a_literal 169 (string (34 ∷ 98 ∷ 116 ∷ 34 ∷ []))) no_expressions)))) no_statements))
    no_whens) no_others) no_statements)))))))))) ∷ [])

abbrev sequence_fetch_declared : List Declared
sequence_fetch_declared =
    (d (codes "a") 2 3 31 (Some 0) ∷ d (codes "s") 5 6 31 (Some 0) ∷ d (codes "x") 7 13 21 (Some 0) ∷ d (codes "ps") 31 0 4294967295 None ∷ d (codes
    "b") 34 35 53 (Some 0) ∷ d (codes "tf") 53 0 4294967295 None ∷ d (codes "si") 57 55 174 (Some 0) ∷ d (codes "s") 63 64 174 (Some 0) ∷ d (codes
    "x") 87 88 174 (Some 0) ∷ d (codes "start_up") 174 0 4294967295 None ∷ [])

sequence_fetch : Runs sequence_fetch_declared sequence_fetch_modules (codes "") 10000 returned_normally (49 ∷ 49 ∷ 10 ∷ 98 ∷ 48 ∷ 10 ∷ 98 ∷ 51 ∷ 10 ∷ 53 ∷ 10 ∷ 54 ∷ 10 ∷ 98 ∷ 98 ∷ 10 ∷ 98 ∷ 116 ∷ 10 ∷ []) 17 322
unfolding executing computing digits
sequence_fetch = refl

-- % sequence-add-rem
-- ps = proc (a: sequence[int])
--   s: string := ""
--   for x: int in sequence[int]$elements(a) do s := s || " " || int$unparse(x) end
--   stream$putl(stream$primary_output(), s)
-- end ps
-- tf = proc (b: bool) if b then stream$putl(stream$primary_output(), "T") else stream$putl(stream$primary_output(), "F") end end tf
-- start_up = proc ()
-- si = sequence[int]
-- s: si := si$addl(si$addh(si$new(), 1), 0) ps(s) ps(si$remh(s)) ps(si$reml(s)) ps(s)
--   s := si$remh(si$new()) except when bounds: stream$putl(stream$primary_output(), "bh") end
--   s := si$reml(si$new()) except when bounds: stream$putl(stream$primary_output(), "bl") end
-- end start_up
abbrev sequence_add_rem_modules : List Module
sequence_add_rem_modules =
    ((a_routine 32 no_equates (routine 31 (codes "ps") (codes "ps") kind.Procedure [] (typed 2 ((codes "a") ∷ []) (a_list_type 1 list.Sequence
    (a_simple_type 0 simple.Int)) ∷ []) no_types no_exceptions ([]) no_equates ([]) (statement_and (an_init 5 (a_variable (codes "s") (a_simple_type 3
    simple.String)) (a_literal 4 (string (34 ∷ 34 ∷ [])))) (statement_and (a_for 22 (typed 7 ((codes "x") ∷ []) (a_simple_type 6 simple.Int) ∷ [])
    (a_call 12 (an_operation 10 (a_list_type 9 list.Sequence (a_simple_type 8 simple.Int)) (codes "elements")) (expression_and (a_name 11 (codes "a"))
    no_expressions)) (a_body no_equates (statement_and (an_assign 21 ((codes "s") ∷ []) (expression_and (an_infix 20 op.Concatenate (an_infix 15
    op.Concatenate (a_name 13 (codes "s")) (a_literal 14 (string (34 ∷ 32 ∷ 34 ∷ [])))) (a_call 19 (an_operation 17 (a_simple_type 16 simple.Int)
    (codes "unparse")) (expression_and (a_name 18 (codes "x")) no_expressions))) no_expressions)) no_statements))) (statement_and (a_call_statement 30
    (a_call 29 (an_operation 24 (a_named_type 23 (codes "stream") no_constants) (codes "putl")) (expression_and (a_call 27 (an_operation 26
    (a_named_type 25 (codes "stream") no_constants) (codes "primary_output")) no_expressions) (expression_and (a_name 28 (codes "s"))
    no_expressions)))) no_statements))))) ∷ (a_routine 54 no_equates (routine 53 (codes "tf") (codes "tf") kind.Procedure [] (typed 34 ((codes "b") ∷
    []) (a_simple_type 33 simple.Bool) ∷ []) no_types no_exceptions ([]) no_equates ([]) (statement_and (an_if 52 (clause_and (a_name 35 (codes "b"))
    (a_body no_equates (statement_and (a_call_statement 43 (a_call 42 (an_operation 37 (a_named_type 36 (codes "stream") no_constants) (codes "putl"))
    (expression_and (a_call 40 (an_operation 39 (a_named_type 38 (codes "stream") no_constants) (codes "primary_output")) no_expressions)
    (expression_and (a_literal 41 (string (34 ∷ 84 ∷ 34 ∷ []))) no_expressions)))) no_statements)) no_clauses) (otherwise (a_body no_equates
    (statement_and (a_call_statement 51 (a_call 50 (an_operation 45 (a_named_type 44 (codes "stream") no_constants) (codes "putl")) (expression_and
    (a_call 48 (an_operation 47 (a_named_type 46 (codes "stream") no_constants) (codes "primary_output")) no_expressions) (expression_and (a_literal
    49 (string (34 ∷ 70 ∷ 34 ∷ []))) no_expressions)))) no_statements)))) no_statements))) ∷ (a_routine 128 no_equates (routine 127 (codes "start_up")
    (codes "start_up") kind.Procedure [] ([]) no_types no_exceptions ([]) (equate_and (an_equate 57 (Some (codes "si")) (a_type (a_list_type 56
    list.Sequence (a_simple_type 55 simple.Int)))) no_equates) ([]) (statement_and (an_init 70 (a_variable (codes "s") (a_named_type 58 (codes "si")
    no_constants)) (a_call 69 (an_operation 60 (a_named_type 59 (codes "si") no_constants) (codes "addl")) (expression_and (a_call 67 (an_operation 62
    (a_named_type 61 (codes "si") no_constants) (codes "addh")) (expression_and (a_call 65 (an_operation 64 (a_named_type 63 (codes "si")
    no_constants) (codes "new")) no_expressions) (expression_and (a_literal 66 (integer (codes "1"))) no_expressions))) (expression_and (a_literal 68
    (integer (codes "0"))) no_expressions)))) (statement_and (a_call_statement 74 (a_call 73 (a_name 71 (codes "ps")) (expression_and (a_name 72
    (codes "s")) no_expressions))) (statement_and (a_call_statement 81 (a_call 80 (a_name 75 (codes "ps")) (expression_and (a_call 79 (an_operation 77
    (a_named_type 76 (codes "si") no_constants) (codes "remh")) (expression_and (a_name 78 (codes "s")) no_expressions)) no_expressions)))
    (statement_and (a_call_statement 88 (a_call 87 (a_name 82 (codes "ps")) (expression_and (a_call 86 (an_operation 84 (a_named_type 83 (codes "si")
    no_constants) (codes "reml")) (expression_and (a_name 85 (codes "s")) no_expressions)) no_expressions))) (statement_and (a_call_statement 92
    (a_call 91 (a_name 89 (codes "ps")) (expression_and (a_name 90 (codes "s")) no_expressions))) (statement_and (an_except 109 (an_assign 99 ((codes
    "s") ∷ []) (expression_and (a_call 98 (an_operation 94 (a_named_type 93 (codes "si") no_constants) (codes "remh")) (expression_and (a_call 97
    (an_operation 96 (a_named_type 95 (codes "si") no_constants) (codes "new")) no_expressions) no_expressions)) no_expressions)) (when_and 108
    ((codes "bounds") ∷ []) (objects []) (a_body no_equates (statement_and (a_call_statement 107 (a_call 106 (an_operation 101 (a_named_type 100
    (codes "stream") no_constants) (codes "putl")) (expression_and (a_call 104 (an_operation 103 (a_named_type 102 (codes "stream") no_constants)
    (codes "primary_output")) no_expressions) (expression_and (a_literal 105 (string (34 ∷ 98 ∷ 104 ∷ 34 ∷ []))) no_expressions)))) no_statements))
    no_whens) no_others) (statement_and (an_except 126 (an_assign 116 ((codes "s") ∷ []) (expression_and (a_call 115 (an_operation 111 (a_named_type
    110 (codes "si") no_constants) (codes "reml")) (expression_and (a_call 114 (an_operation 113 (a_named_type 112 (codes "si") no_constants) (codes
    "new")) no_expressions) no_expressions)) no_expressions)) (when_and 125 ((codes "bounds") ∷ []) (objects []) (a_body no_equates (statement_and
    (a_call_statement 124 (a_call 123 (an_operation 118 (a_named_type 117 (codes "stream") no_constants) (codes "putl")) (expression_and (a_call 121
    (an_operation 120 (a_named_type 119 (codes "stream") no_constants) (codes "primary_output")) no_expressions) (expression_and (a_literal 122
    (string (34 ∷ 98 ∷ 108 ∷ 34 ∷ []))) no_expressions)))) no_statements)) no_whens) no_others) no_statements))))))))) ∷ [])

abbrev sequence_add_rem_declared : List Declared
sequence_add_rem_declared =
    (d (codes "a") 2 3 31 (Some 0) ∷ d (codes "s") 5 6 31 (Some 0) ∷ d (codes "x") 7 13 21 (Some 0) ∷ d (codes "ps") 31 0 4294967295 None ∷ d (codes
    "b") 34 35 53 (Some 0) ∷ d (codes "tf") 53 0 4294967295 None ∷ d (codes "si") 57 55 127 (Some 0) ∷ d (codes "s") 70 71 127 (Some 0) ∷ d (codes
    "start_up") 127 0 4294967295 None ∷ [])

sequence_add_rem : Runs sequence_add_rem_declared sequence_add_rem_modules (codes "") 10000 returned_normally (32 ∷ 48 ∷ 32 ∷ 49 ∷ 10 ∷ 32 ∷ 48 ∷ 10 ∷ 32 ∷ 49 ∷ 10 ∷ 32 ∷ 48 ∷ 32 ∷ 49 ∷ 10 ∷ 98 ∷ 104 ∷ 10 ∷ 98 ∷ 108 ∷ 10 ∷ []) 60 636
unfolding executing computing digits
sequence_add_rem = refl
