-- Programs that compute: operations of streams. Each is the tree of the CLU above it.
use Rattle.std.specs.Fmt.{digits}
use Rattle.std.specs.Prelude.{refl, List, [], ◌∷◌, codes, Some, None}
use Rattle.clu_names.specs.declared.scopes.Declared.{Declared}
use Rattle.clu_syntax.specs.declared.words.Operator.TheVariants as op
use Rattle.clu_syntax.specs.declared.words.Sign.TheVariants as sign
use Rattle.clu_syntax.specs.declared.words.SimpleType.TheVariants as simple
use Rattle.clu_syntax.specs.declared.words.RoutineKind.TheVariants as kind
use Rattle.clu_syntax.specs.Syntax.{true_literal, character, string, an_infix, a_prefix, a_literal, a_name, a_call, an_operation, no_expressions, expression_and, no_constants, a_simple_type, a_named_type, no_types, no_exceptions, no_equates, objects, an_init, a_call_statement, a_while, an_except, no_statements, statement_and, a_body, no_whens, when_and, no_others, Module, a_routine}
use Rattle.clu_layout.specs.Computing.{computing}
use Rattle.clu_meaning.specs.Run.{returned_normally, failure_with}
use Rattle.clu_meaning.specs.Executing.{executing}
use Rattle.clu_meaning.proofs.Running.{d, typed, a_variable, routine, Runs}

-- % stream-getc
-- start_up = proc ()
-- s: stream := stream$primary_input()
--   while true do stream$puts(stream$primary_output(), int$unparse(char$c2i(stream$getc(s))) || " ") end except when end_of_file: stream$putl(stream$primary_output(), "eof") end
--   c: char := stream$getc(s) except when end_of_file: stream$putl(stream$primary_output(), "eof2") end
-- end start_up
abbrev stream_getc_modules : List Module
stream_getc_modules =
    ((a_routine 53 no_equates (routine 52 (codes "start_up") (codes "start_up") kind.Procedure [] ([]) no_types no_exceptions ([]) no_equates ([])
    (statement_and (an_init 4 (a_variable (codes "s") (a_named_type 0 (codes "stream") no_constants)) (a_call 3 (an_operation 2 (a_named_type 1 (codes
    "stream") no_constants) (codes "primary_input")) no_expressions)) (statement_and (an_except 35 (a_while 25 (a_literal 5 true_literal) (a_body
    no_equates (statement_and (a_call_statement 24 (a_call 23 (an_operation 7 (a_named_type 6 (codes "stream") no_constants) (codes "puts"))
    (expression_and (a_call 10 (an_operation 9 (a_named_type 8 (codes "stream") no_constants) (codes "primary_output")) no_expressions)
    (expression_and (an_infix 22 op.Concatenate (a_call 20 (an_operation 12 (a_simple_type 11 simple.Int) (codes "unparse")) (expression_and (a_call
    19 (an_operation 14 (a_simple_type 13 simple.Char) (codes "c2i")) (expression_and (a_call 18 (an_operation 16 (a_named_type 15 (codes "stream")
    no_constants) (codes "getc")) (expression_and (a_name 17 (codes "s")) no_expressions)) no_expressions)) no_expressions)) (a_literal 21 (string (34
    ∷ 32 ∷ 34 ∷ [])))) no_expressions)))) no_statements))) (when_and 34 ((codes "end_of_file") ∷ []) (objects []) (a_body no_equates (statement_and
    (a_call_statement 33 (a_call 32 (an_operation 27 (a_named_type 26 (codes "stream") no_constants) (codes "putl")) (expression_and (a_call 30
    (an_operation 29 (a_named_type 28 (codes "stream") no_constants) (codes "primary_output")) no_expressions) (expression_and (a_literal 31 (string
    (34 ∷ 101 ∷ 111 ∷ 102 ∷ 34 ∷ []))) no_expressions)))) no_statements)) no_whens) no_others) (statement_and (an_except 51 (an_init 41 (a_variable
    (codes "c") (a_simple_type 36 simple.Char)) (a_call 40 (an_operation 38 (a_named_type 37 (codes "stream") no_constants) (codes "getc"))
    (expression_and (a_name 39 (codes "s")) no_expressions))) (when_and 50 ((codes "end_of_file") ∷ []) (objects []) (a_body no_equates (statement_and
    (a_call_statement 49 (a_call 48 (an_operation 43 (a_named_type 42 (codes "stream") no_constants) (codes "putl")) (expression_and (a_call 46
    (an_operation 45 (a_named_type 44 (codes "stream") no_constants) (codes "primary_output")) no_expressions) (expression_and (a_literal 47 (string
    (34 ∷ 101 ∷ 111 ∷ 102 ∷ 50 ∷ 34 ∷ []))) no_expressions)))) no_statements)) no_whens) no_others) no_statements))))) ∷ [])

abbrev stream_getc_declared : List Declared
stream_getc_declared =
    (d (codes "s") 4 5 52 (Some 0) ∷ d (codes "c") 41 42 52 (Some 0) ∷ d (codes "start_up") 52 0 4294967295 None ∷ [])

stream_getc : Runs stream_getc_declared stream_getc_modules (97 ∷ 10 ∷ 0 ∷ 255 ∷ []) 10000 returned_normally (57 ∷ 55 ∷ 32 ∷ 49 ∷ 48 ∷ 32 ∷ 48 ∷ 32 ∷ 50 ∷ 53 ∷ 53 ∷ 32 ∷ 101 ∷ 111 ∷ 102 ∷ 10 ∷ 101 ∷ 111 ∷ 102 ∷ 50 ∷ 10 ∷ []) 24 188
unfolding executing computing digits
stream_getc = refl

-- % stream-getl2
-- start_up = proc ()
-- s: stream := stream$primary_input()
--   while ~stream$empty(s) do stream$puts(stream$primary_output(), "<" || stream$getl(s) || ">") end
-- end start_up
abbrev stream_getl2_modules : List Module
stream_getl2_modules =
    ((a_routine 27 no_equates (routine 26 (codes "start_up") (codes "start_up") kind.Procedure [] ([]) no_types no_exceptions ([]) no_equates ([])
    (statement_and (an_init 4 (a_variable (codes "s") (a_named_type 0 (codes "stream") no_constants)) (a_call 3 (an_operation 2 (a_named_type 1 (codes
    "stream") no_constants) (codes "primary_input")) no_expressions)) (statement_and (a_while 25 (a_prefix 9 sign.Not (a_call 8 (an_operation 6
    (a_named_type 5 (codes "stream") no_constants) (codes "empty")) (expression_and (a_name 7 (codes "s")) no_expressions))) (a_body no_equates
    (statement_and (a_call_statement 24 (a_call 23 (an_operation 11 (a_named_type 10 (codes "stream") no_constants) (codes "puts")) (expression_and
    (a_call 14 (an_operation 13 (a_named_type 12 (codes "stream") no_constants) (codes "primary_output")) no_expressions) (expression_and (an_infix 22
    op.Concatenate (an_infix 20 op.Concatenate (a_literal 15 (string (34 ∷ 60 ∷ 34 ∷ []))) (a_call 19 (an_operation 17 (a_named_type 16 (codes
    "stream") no_constants) (codes "getl")) (expression_and (a_name 18 (codes "s")) no_expressions))) (a_literal 21 (string (34 ∷ 62 ∷ 34 ∷ []))))
    no_expressions)))) no_statements))) no_statements)))) ∷ [])

abbrev stream_getl2_declared : List Declared
stream_getl2_declared =
    (d (codes "s") 4 5 26 (Some 0) ∷ d (codes "start_up") 26 0 4294967295 None ∷ [])

stream_getl2 : Runs stream_getl2_declared stream_getl2_modules (97 ∷ 98 ∷ 10 ∷ 10 ∷ []) 10000 returned_normally (codes "<ab><>") 11 136
unfolding executing computing digits
stream_getl2 = refl

-- % stream-wrong-way
-- start_up = proc ()
-- i: stream := stream$primary_input() o: stream := stream$primary_output()
--   c: char := stream$getc(o) except when not_possible (s: string): stream$putl(stream$primary_output(), s) when end_of_file: stream$putl(stream$primary_output(), "no") end
--   l: string := stream$getl(o) except when not_possible (s: string): stream$putl(stream$primary_output(), s) end
--   b: bool := stream$empty(o) except when not_possible (s: string): stream$putl(stream$primary_output(), s) end
--   stream$putc(i, 'a') except when not_possible (s: string): stream$putl(stream$primary_output(), s) end
--   stream$puts(i, "a") except when not_possible (s: string): stream$putl(stream$primary_output(), s) end
--   stream$putl(i, "a") except when not_possible (s: string): stream$putl(stream$primary_output(), s) end
--   stream$putc(i, 'a')
-- end start_up
abbrev stream_wrong_way_modules : List Module
stream_wrong_way_modules =
    ((a_routine 134 no_equates (routine 133 (codes "start_up") (codes "start_up") kind.Procedure [] ([]) no_types no_exceptions ([]) no_equates ([])
    (statement_and (an_init 4 (a_variable (codes "i") (a_named_type 0 (codes "stream") no_constants)) (a_call 3 (an_operation 2 (a_named_type 1 (codes
    "stream") no_constants) (codes "primary_input")) no_expressions)) (statement_and (an_init 9 (a_variable (codes "o") (a_named_type 5 (codes
    "stream") no_constants)) (a_call 8 (an_operation 7 (a_named_type 6 (codes "stream") no_constants) (codes "primary_output")) no_expressions))
    (statement_and (an_except 36 (an_init 15 (a_variable (codes "c") (a_simple_type 10 simple.Char)) (a_call 14 (an_operation 12 (a_named_type 11
    (codes "stream") no_constants) (codes "getc")) (expression_and (a_name 13 (codes "o")) no_expressions))) (when_and 26 ((codes "not_possible") ∷
    []) (objects (typed 17 ((codes "s") ∷ []) (a_simple_type 16 simple.String) ∷ [])) (a_body no_equates (statement_and (a_call_statement 25 (a_call
    24 (an_operation 19 (a_named_type 18 (codes "stream") no_constants) (codes "putl")) (expression_and (a_call 22 (an_operation 21 (a_named_type 20
    (codes "stream") no_constants) (codes "primary_output")) no_expressions) (expression_and (a_name 23 (codes "s")) no_expressions))))
    no_statements)) (when_and 35 ((codes "end_of_file") ∷ []) (objects []) (a_body no_equates (statement_and (a_call_statement 34 (a_call 33
    (an_operation 28 (a_named_type 27 (codes "stream") no_constants) (codes "putl")) (expression_and (a_call 31 (an_operation 30 (a_named_type 29
    (codes "stream") no_constants) (codes "primary_output")) no_expressions) (expression_and (a_literal 32 (string (34 ∷ 110 ∷ 111 ∷ 34 ∷ [])))
    no_expressions)))) no_statements)) no_whens)) no_others) (statement_and (an_except 54 (an_init 42 (a_variable (codes "l") (a_simple_type 37
    simple.String)) (a_call 41 (an_operation 39 (a_named_type 38 (codes "stream") no_constants) (codes "getl")) (expression_and (a_name 40 (codes
    "o")) no_expressions))) (when_and 53 ((codes "not_possible") ∷ []) (objects (typed 44 ((codes "s") ∷ []) (a_simple_type 43 simple.String) ∷ []))
    (a_body no_equates (statement_and (a_call_statement 52 (a_call 51 (an_operation 46 (a_named_type 45 (codes "stream") no_constants) (codes "putl"))
    (expression_and (a_call 49 (an_operation 48 (a_named_type 47 (codes "stream") no_constants) (codes "primary_output")) no_expressions)
    (expression_and (a_name 50 (codes "s")) no_expressions)))) no_statements)) no_whens) no_others) (statement_and (an_except 72 (an_init 60
    (a_variable (codes "b") (a_simple_type 55 simple.Bool)) (a_call 59 (an_operation 57 (a_named_type 56 (codes "stream") no_constants) (codes
    "empty")) (expression_and (a_name 58 (codes "o")) no_expressions))) (when_and 71 ((codes "not_possible") ∷ []) (objects (typed 62 ((codes "s") ∷
    []) (a_simple_type 61 simple.String) ∷ [])) (a_body no_equates (statement_and (a_call_statement 70 (a_call 69 (an_operation 64 (a_named_type 63
    (codes "stream") no_constants) (codes "putl")) (expression_and (a_call 67 (an_operation 66 (a_named_type 65 (codes "stream") no_constants) (codes
    "primary_output")) no_expressions) (expression_and (a_name 68 (codes "s")) no_expressions)))) no_statements)) no_whens) no_others) (statement_and
    (an_except 90 (a_call_statement 78 (a_call 77 (an_operation 74 (a_named_type 73 (codes "stream") no_constants) (codes "putc")) (expression_and
    (a_name 75 (codes "i")) (expression_and (a_literal 76 (character (codes "'a'"))) no_expressions)))) (when_and 89 ((codes "not_possible") ∷ [])
    (objects (typed 80 ((codes "s") ∷ []) (a_simple_type 79 simple.String) ∷ [])) (a_body no_equates (statement_and (a_call_statement 88 (a_call 87
    (an_operation 82 (a_named_type 81 (codes "stream") no_constants) (codes "putl")) (expression_and (a_call 85 (an_operation 84 (a_named_type 83
    (codes "stream") no_constants) (codes "primary_output")) no_expressions) (expression_and (a_name 86 (codes "s")) no_expressions))))
    no_statements)) no_whens) no_others) (statement_and (an_except 108 (a_call_statement 96 (a_call 95 (an_operation 92 (a_named_type 91 (codes
    "stream") no_constants) (codes "puts")) (expression_and (a_name 93 (codes "i")) (expression_and (a_literal 94 (string (34 ∷ 97 ∷ 34 ∷ [])))
    no_expressions)))) (when_and 107 ((codes "not_possible") ∷ []) (objects (typed 98 ((codes "s") ∷ []) (a_simple_type 97 simple.String) ∷ []))
    (a_body no_equates (statement_and (a_call_statement 106 (a_call 105 (an_operation 100 (a_named_type 99 (codes "stream") no_constants) (codes
    "putl")) (expression_and (a_call 103 (an_operation 102 (a_named_type 101 (codes "stream") no_constants) (codes "primary_output")) no_expressions)
    (expression_and (a_name 104 (codes "s")) no_expressions)))) no_statements)) no_whens) no_others) (statement_and (an_except 126 (a_call_statement
    114 (a_call 113 (an_operation 110 (a_named_type 109 (codes "stream") no_constants) (codes "putl")) (expression_and (a_name 111 (codes "i"))
    (expression_and (a_literal 112 (string (34 ∷ 97 ∷ 34 ∷ []))) no_expressions)))) (when_and 125 ((codes "not_possible") ∷ []) (objects (typed 116
    ((codes "s") ∷ []) (a_simple_type 115 simple.String) ∷ [])) (a_body no_equates (statement_and (a_call_statement 124 (a_call 123 (an_operation 118
    (a_named_type 117 (codes "stream") no_constants) (codes "putl")) (expression_and (a_call 121 (an_operation 120 (a_named_type 119 (codes "stream")
    no_constants) (codes "primary_output")) no_expressions) (expression_and (a_name 122 (codes "s")) no_expressions)))) no_statements)) no_whens)
    no_others) (statement_and (a_call_statement 132 (a_call 131 (an_operation 128 (a_named_type 127 (codes "stream") no_constants) (codes "putc"))
    (expression_and (a_name 129 (codes "i")) (expression_and (a_literal 130 (character (codes "'a'"))) no_expressions)))) no_statements))))))))))) ∷
    [])

abbrev stream_wrong_way_declared : List Declared
stream_wrong_way_declared =
    (d (codes "i") 4 5 133 (Some 0) ∷ d (codes "o") 9 10 133 (Some 0) ∷ d (codes "c") 15 16 133 (Some 0) ∷ d (codes "s") 17 18 25 (Some 0) ∷ d (codes
    "l") 42 43 133 (Some 0) ∷ d (codes "s") 44 45 52 (Some 0) ∷ d (codes "b") 60 61 133 (Some 0) ∷ d (codes "s") 62 63 70 (Some 0) ∷ d (codes "s") 80
    81 88 (Some 0) ∷ d (codes "s") 98 99 106 (Some 0) ∷ d (codes "s") 116 117 124 (Some 0) ∷ d (codes "start_up") 133 0 4294967295 None ∷ [])

stream_wrong_way : Runs stream_wrong_way_declared stream_wrong_way_modules (codes "") 10000 (failure_with (codes "unhandled exception: not_possible")) (99 ∷ 97 ∷ 110 ∷ 110 ∷ 111 ∷ 116 ∷ 32 ∷ 114 ∷ 101 ∷ 97 ∷ 100 ∷ 10 ∷ 99 ∷ 97 ∷ 110 ∷ 110 ∷ 111 ∷ 116 ∷ 32 ∷ 114 ∷ 101 ∷ 97 ∷ 100 ∷ 10 ∷ 99 ∷ 97 ∷ 110 ∷ 110 ∷ 111 ∷ 116 ∷ 32 ∷ 114 ∷ 101 ∷ 97 ∷ 100 ∷ 10 ∷ 99 ∷ 97 ∷ 110 ∷ 110 ∷ 111 ∷ 116 ∷ 32 ∷ 119 ∷ 114 ∷ 105 ∷ 116 ∷ 101 ∷ 10 ∷ 99 ∷ 97 ∷ 110 ∷ 110 ∷ 111 ∷ 116 ∷ 32 ∷ 119 ∷ 114 ∷ 105 ∷ 116 ∷ 101 ∷ 10 ∷ 99 ∷ 97 ∷ 110 ∷ 110 ∷ 111 ∷ 116 ∷ 32 ∷ 119 ∷ 114 ∷ 105 ∷ 116 ∷ 101 ∷ 10 ∷ []) 6 350
unfolding executing computing digits
stream_wrong_way = refl

-- % stream-left
-- start_up = proc ()
-- c: char := stream$getc(stream$primary_input())
-- end start_up
abbrev stream_left_modules : List Module
stream_left_modules =
    ((a_routine 9 no_equates (routine 8 (codes "start_up") (codes "start_up") kind.Procedure [] ([]) no_types no_exceptions ([]) no_equates ([])
    (statement_and (an_init 7 (a_variable (codes "c") (a_simple_type 0 simple.Char)) (a_call 6 (an_operation 2 (a_named_type 1 (codes "stream")
    no_constants) (codes "getc")) (expression_and (a_call 5 (an_operation 4 (a_named_type 3 (codes "stream") no_constants) (codes "primary_input"))
    no_expressions) no_expressions))) no_statements))) ∷ [])

abbrev stream_left_declared : List Declared
stream_left_declared =
    (d (codes "c") 7 8 8 (Some 0) ∷ d (codes "start_up") 8 0 4294967295 None ∷ [])

stream_left : Runs stream_left_declared stream_left_modules (codes "abc") 10000 returned_normally (codes "") 0 100
unfolding executing computing digits
stream_left = refl

-- % the wrong way
-- start_up = proc ()
-- stream$puts(stream$primary_input(), "x") except when not_possible (s: string): stream$putl(stream$primary_output(), s) end
-- c: char := stream$getc(stream$primary_output()) except when not_possible (s: string): stream$putl(stream$primary_output(), s) when end_of_file: stream$putl(stream$primary_output(), "!") end
-- l: string := stream$getl(stream$primary_input())
-- end start_up
abbrev the_wrong_way_modules : List Module
the_wrong_way_modules =
    ((a_routine 58 no_equates (routine 57 (codes "start_up") (codes "start_up") kind.Procedure [] ([]) no_types no_exceptions ([]) no_equates ([])
    (statement_and (an_except 19 (a_call_statement 7 (a_call 6 (an_operation 1 (a_named_type 0 (codes "stream") no_constants) (codes "puts"))
    (expression_and (a_call 4 (an_operation 3 (a_named_type 2 (codes "stream") no_constants) (codes "primary_input")) no_expressions) (expression_and
    (a_literal 5 (string (34 ∷ 120 ∷ 34 ∷ []))) no_expressions)))) (when_and 18 ((codes "not_possible") ∷ []) (objects (typed 9 ((codes "s") ∷ [])
    (a_simple_type 8 simple.String) ∷ [])) (a_body no_equates (statement_and (a_call_statement 17 (a_call 16 (an_operation 11 (a_named_type 10 (codes
    "stream") no_constants) (codes "putl")) (expression_and (a_call 14 (an_operation 13 (a_named_type 12 (codes "stream") no_constants) (codes
    "primary_output")) no_expressions) (expression_and (a_name 15 (codes "s")) no_expressions)))) no_statements)) no_whens) no_others) (statement_and
    (an_except 48 (an_init 27 (a_variable (codes "c") (a_simple_type 20 simple.Char)) (a_call 26 (an_operation 22 (a_named_type 21 (codes "stream")
    no_constants) (codes "getc")) (expression_and (a_call 25 (an_operation 24 (a_named_type 23 (codes "stream") no_constants) (codes
    "primary_output")) no_expressions) no_expressions))) (when_and 38 ((codes "not_possible") ∷ []) (objects (typed 29 ((codes "s") ∷ [])
    (a_simple_type 28 simple.String) ∷ [])) (a_body no_equates (statement_and (a_call_statement 37 (a_call 36 (an_operation 31 (a_named_type 30 (codes
    "stream") no_constants) (codes "putl")) (expression_and (a_call 34 (an_operation 33 (a_named_type 32 (codes "stream") no_constants) (codes
    "primary_output")) no_expressions) (expression_and (a_name 35 (codes "s")) no_expressions)))) no_statements)) (when_and 47 ((codes "end_of_file")
    ∷ []) (objects []) (a_body no_equates (statement_and (a_call_statement 46 (a_call 45 (an_operation 40 (a_named_type 39 (codes "stream")
    no_constants) (codes "putl")) (expression_and (a_call 43 (an_operation 42 (a_named_type 41 (codes "stream") no_constants) (codes
    "primary_output")) no_expressions) (expression_and (a_literal 44 (string (34 ∷ 33 ∷ 34 ∷ []))) no_expressions)))) no_statements)) no_whens))
    no_others) (statement_and (an_init 56 (a_variable (codes "l") (a_simple_type 49 simple.String)) (a_call 55 (an_operation 51 (a_named_type 50
    (codes "stream") no_constants) (codes "getl")) (expression_and (a_call 54 (an_operation 53 (a_named_type 52 (codes "stream") no_constants) (codes
    "primary_input")) no_expressions) no_expressions))) no_statements))))) ∷ [])

abbrev the_wrong_way_declared : List Declared
the_wrong_way_declared =
    (d (codes "s") 9 10 17 (Some 0) ∷ d (codes "c") 27 28 57 (Some 0) ∷ d (codes "s") 29 30 37 (Some 0) ∷ d (codes "l") 56 57 57 (Some 0) ∷ d (codes
    "start_up") 57 0 4294967295 None ∷ [])

the_wrong_way : Runs the_wrong_way_declared the_wrong_way_modules (codes "") 10000 (failure_with (codes "unhandled exception: end_of_file")) (99 ∷ 97 ∷ 110 ∷ 110 ∷ 111 ∷ 116 ∷ 32 ∷ 119 ∷ 114 ∷ 105 ∷ 116 ∷ 101 ∷ 10 ∷ 99 ∷ 97 ∷ 110 ∷ 110 ∷ 111 ∷ 116 ∷ 32 ∷ 114 ∷ 101 ∷ 97 ∷ 100 ∷ 10 ∷ []) 5 198
unfolding executing computing digits
the_wrong_way = refl
