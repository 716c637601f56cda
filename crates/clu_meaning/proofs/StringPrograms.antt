-- Programs that compute: operations of string. Each is the tree of the CLU above it.
use Rattle.std.specs.Fmt.{digits}
use Rattle.std.specs.Prelude.{refl, List, [], ◌∷◌, codes, Some, None}
use Rattle.clu_names.specs.declared.scopes.Declared.{Declared}
use Rattle.clu_syntax.specs.declared.words.Operator.TheVariants as op
use Rattle.clu_syntax.specs.declared.words.Sign.TheVariants as sign
use Rattle.clu_syntax.specs.declared.words.SimpleType.TheVariants as simple
use Rattle.clu_syntax.specs.declared.words.ListType.TheVariants as list
use Rattle.clu_syntax.specs.declared.words.RoutineKind.TheVariants as kind
use Rattle.clu_syntax.specs.Syntax.{integer, character, string, an_infix, a_prefix, a_literal, a_name, an_index, a_call, an_operation, no_expressions, expression_and, an_expression, no_constants, constant_and, a_simple_type, a_list_type, a_named_type, no_types, no_exceptions, no_equates, objects, an_init, an_assign, a_set_index, a_call_statement, an_if, an_except, no_statements, statement_and, a_body, no_clauses, clause_and, nothing_else, no_whens, when_and, no_others, Module, a_routine}
use Rattle.clu_layout.specs.Computing.{computing}
use Rattle.clu_meaning.specs.Run.{returned_normally}
use Rattle.clu_meaning.specs.Executing.{executing}
use Rattle.clu_meaning.proofs.Running.{d, a_variable, routine, Runs}

-- % strings
-- start_up = proc ()
-- s: string := "hello" stream$putl(stream$primary_output(), string$rest(s, 3)) stream$putl(stream$primary_output(), string$substr(s, 2, 3)) stream$putl(stream$primary_output(), int$unparse(string$size(s)))
-- stream$putl(stream$primary_output(), string$c2s(s[1])) stream$putl(stream$primary_output(), int$unparse(string$indexs("l", s))) stream$putl(stream$primary_output(), int$unparse(string$indexc('z', s))) stream$putl(stream$primary_output(), string$append(s, '!'))
-- if "abc" < "abd" & "ab" < "abc" & "" < "a" then stream$putl(stream$primary_output(), "less") end
-- c: char := s[6] except when bounds: stream$putl(stream$primary_output(), "bounds") end
-- end start_up
abbrev strings_modules : List Module
strings_modules =
    ((a_routine 133 no_equates (routine 132 (codes "start_up") (codes "start_up") kind.Procedure [] ([]) no_types no_exceptions ([]) no_equates ([])
    (statement_and (an_init 2 (a_variable (codes "s") (a_simple_type 0 simple.String)) (a_literal 1 (string (34 ∷ 104 ∷ 101 ∷ 108 ∷ 108 ∷ 111 ∷ 34 ∷
    [])))) (statement_and (a_call_statement 14 (a_call 13 (an_operation 4 (a_named_type 3 (codes "stream") no_constants) (codes "putl"))
    (expression_and (a_call 7 (an_operation 6 (a_named_type 5 (codes "stream") no_constants) (codes "primary_output")) no_expressions) (expression_and
    (a_call 12 (an_operation 9 (a_simple_type 8 simple.String) (codes "rest")) (expression_and (a_name 10 (codes "s")) (expression_and (a_literal 11
    (integer (codes "3"))) no_expressions))) no_expressions)))) (statement_and (a_call_statement 27 (a_call 26 (an_operation 16 (a_named_type 15
    (codes "stream") no_constants) (codes "putl")) (expression_and (a_call 19 (an_operation 18 (a_named_type 17 (codes "stream") no_constants) (codes
    "primary_output")) no_expressions) (expression_and (a_call 25 (an_operation 21 (a_simple_type 20 simple.String) (codes "substr")) (expression_and
    (a_name 22 (codes "s")) (expression_and (a_literal 23 (integer (codes "2"))) (expression_and (a_literal 24 (integer (codes "3")))
    no_expressions)))) no_expressions)))) (statement_and (a_call_statement 41 (a_call 40 (an_operation 29 (a_named_type 28 (codes "stream")
    no_constants) (codes "putl")) (expression_and (a_call 32 (an_operation 31 (a_named_type 30 (codes "stream") no_constants) (codes
    "primary_output")) no_expressions) (expression_and (a_call 39 (an_operation 34 (a_simple_type 33 simple.Int) (codes "unparse")) (expression_and
    (a_call 38 (an_operation 36 (a_simple_type 35 simple.String) (codes "size")) (expression_and (a_name 37 (codes "s")) no_expressions))
    no_expressions)) no_expressions)))) (statement_and (a_call_statement 54 (a_call 53 (an_operation 43 (a_named_type 42 (codes "stream")
    no_constants) (codes "putl")) (expression_and (a_call 46 (an_operation 45 (a_named_type 44 (codes "stream") no_constants) (codes
    "primary_output")) no_expressions) (expression_and (a_call 52 (an_operation 48 (a_simple_type 47 simple.String) (codes "c2s")) (expression_and
    (an_index 51 (a_name 49 (codes "s")) (constant_and (an_expression (a_literal 50 (integer (codes "1")))) no_constants)) no_expressions))
    no_expressions)))) (statement_and (a_call_statement 69 (a_call 68 (an_operation 56 (a_named_type 55 (codes "stream") no_constants) (codes "putl"))
    (expression_and (a_call 59 (an_operation 58 (a_named_type 57 (codes "stream") no_constants) (codes "primary_output")) no_expressions)
    (expression_and (a_call 67 (an_operation 61 (a_simple_type 60 simple.Int) (codes "unparse")) (expression_and (a_call 66 (an_operation 63
    (a_simple_type 62 simple.String) (codes "indexs")) (expression_and (a_literal 64 (string (34 ∷ 108 ∷ 34 ∷ []))) (expression_and (a_name 65 (codes
    "s")) no_expressions))) no_expressions)) no_expressions)))) (statement_and (a_call_statement 84 (a_call 83 (an_operation 71 (a_named_type 70
    (codes "stream") no_constants) (codes "putl")) (expression_and (a_call 74 (an_operation 73 (a_named_type 72 (codes "stream") no_constants) (codes
    "primary_output")) no_expressions) (expression_and (a_call 82 (an_operation 76 (a_simple_type 75 simple.Int) (codes "unparse")) (expression_and
    (a_call 81 (an_operation 78 (a_simple_type 77 simple.String) (codes "indexc")) (expression_and (a_literal 79 (character (codes "'z'")))
    (expression_and (a_name 80 (codes "s")) no_expressions))) no_expressions)) no_expressions)))) (statement_and (a_call_statement 96 (a_call 95
    (an_operation 86 (a_named_type 85 (codes "stream") no_constants) (codes "putl")) (expression_and (a_call 89 (an_operation 88 (a_named_type 87
    (codes "stream") no_constants) (codes "primary_output")) no_expressions) (expression_and (a_call 94 (an_operation 91 (a_simple_type 90
    simple.String) (codes "append")) (expression_and (a_name 92 (codes "s")) (expression_and (a_literal 93 (character (codes "'!'")))
    no_expressions))) no_expressions)))) (statement_and (an_if 116 (clause_and (an_infix 107 op.And (an_infix 103 op.And (an_infix 99 op.Less
    (a_literal 97 (string (34 ∷ 97 ∷ 98 ∷ 99 ∷ 34 ∷ []))) (a_literal 98 (string (34 ∷ 97 ∷ 98 ∷ 100 ∷ 34 ∷ [])))) (an_infix 102 op.Less (a_literal 100
    (string (34 ∷ 97 ∷ 98 ∷ 34 ∷ []))) (a_literal 101 (string (34 ∷ 97 ∷ 98 ∷ 99 ∷ 34 ∷ []))))) (an_infix 106 op.Less (a_literal 104 (string (34 ∷ 34
    ∷ []))) (a_literal 105 (string (34 ∷ 97 ∷ 34 ∷ []))))) (a_body no_equates (statement_and (a_call_statement 115 (a_call 114 (an_operation 109
    (a_named_type 108 (codes "stream") no_constants) (codes "putl")) (expression_and (a_call 112 (an_operation 111 (a_named_type 110 (codes "stream")
    no_constants) (codes "primary_output")) no_expressions) (expression_and (a_literal 113 (string (34 ∷ 108 ∷ 101 ∷ 115 ∷ 115 ∷ 34 ∷ [])))
    no_expressions)))) no_statements)) no_clauses) nothing_else) (statement_and (an_except 131 (an_init 121 (a_variable (codes "c") (a_simple_type 117
    simple.Char)) (an_index 120 (a_name 118 (codes "s")) (constant_and (an_expression (a_literal 119 (integer (codes "6")))) no_constants))) (when_and
    130 ((codes "bounds") ∷ []) (objects []) (a_body no_equates (statement_and (a_call_statement 129 (a_call 128 (an_operation 123 (a_named_type 122
    (codes "stream") no_constants) (codes "putl")) (expression_and (a_call 126 (an_operation 125 (a_named_type 124 (codes "stream") no_constants)
    (codes "primary_output")) no_expressions) (expression_and (a_literal 127 (string (34 ∷ 98 ∷ 111 ∷ 117 ∷ 110 ∷ 100 ∷ 115 ∷ 34 ∷ [])))
    no_expressions)))) no_statements)) no_whens) no_others) no_statements)))))))))))) ∷ [])

abbrev strings_declared : List Declared
strings_declared =
    (d (codes "s") 2 3 132 (Some 0) ∷ d (codes "c") 121 122 132 (Some 0) ∷ d (codes "start_up") 132 0 4294967295 None ∷ [])

strings : Runs strings_declared strings_modules (codes "") 10000 returned_normally (108 ∷ 108 ∷ 111 ∷ 10 ∷ 101 ∷ 108 ∷ 108 ∷ 10 ∷ 53 ∷ 10 ∷ 104 ∷ 10 ∷ 51 ∷ 10 ∷ 48 ∷ 10 ∷ 104 ∷ 101 ∷ 108 ∷ 108 ∷ 111 ∷ 33 ∷ 10 ∷ 108 ∷ 101 ∷ 115 ∷ 115 ∷ 10 ∷ 98 ∷ 111 ∷ 117 ∷ 110 ∷ 100 ∷ 115 ∷ 10 ∷ []) 20 348
unfolding executing computing digits
strings = refl

-- % string-substr
-- start_up = proc ()
-- s: string := "abcdef" stream$putl(stream$primary_output(), string$substr(s, 1, 6)) stream$putl(stream$primary_output(), string$substr(s, 5, 100))
--   stream$puts(stream$primary_output(), "<" || string$substr(s, 7, 1) || ">") stream$puts(stream$primary_output(), "<" || string$substr(s, 3, 0) || ">")
--   stream$putl(stream$primary_output(), string$substr(s, 2, 9223372036854775807))
--   s := string$substr(s, 8, 0) except when bounds: stream$putl(stream$primary_output(), "b8") end
--   s := string$substr(s, 0, 1) except when bounds: stream$putl(stream$primary_output(), "b0") end
--   s := string$substr(s, 1, -1) except when negative_size: stream$putl(stream$primary_output(), "n") end
--   s := string$substr(s, 0, -1) except when negative_size: stream$putl(stream$primary_output(), "n0") when bounds: stream$putl(stream$primary_output(), "bb") end
-- end start_up
abbrev string_substr_modules : List Module
string_substr_modules =
    ((a_routine 156 no_equates (routine 155 (codes "start_up") (codes "start_up") kind.Procedure [] ([]) no_types no_exceptions ([]) no_equates ([])
    (statement_and (an_init 2 (a_variable (codes "s") (a_simple_type 0 simple.String)) (a_literal 1 (string (34 ∷ 97 ∷ 98 ∷ 99 ∷ 100 ∷ 101 ∷ 102 ∷ 34
    ∷ [])))) (statement_and (a_call_statement 15 (a_call 14 (an_operation 4 (a_named_type 3 (codes "stream") no_constants) (codes "putl"))
    (expression_and (a_call 7 (an_operation 6 (a_named_type 5 (codes "stream") no_constants) (codes "primary_output")) no_expressions) (expression_and
    (a_call 13 (an_operation 9 (a_simple_type 8 simple.String) (codes "substr")) (expression_and (a_name 10 (codes "s")) (expression_and (a_literal 11
    (integer (codes "1"))) (expression_and (a_literal 12 (integer (codes "6"))) no_expressions)))) no_expressions)))) (statement_and (a_call_statement
    28 (a_call 27 (an_operation 17 (a_named_type 16 (codes "stream") no_constants) (codes "putl")) (expression_and (a_call 20 (an_operation 19
    (a_named_type 18 (codes "stream") no_constants) (codes "primary_output")) no_expressions) (expression_and (a_call 26 (an_operation 22
    (a_simple_type 21 simple.String) (codes "substr")) (expression_and (a_name 23 (codes "s")) (expression_and (a_literal 24 (integer (codes "5")))
    (expression_and (a_literal 25 (integer (codes "100"))) no_expressions)))) no_expressions)))) (statement_and (a_call_statement 45 (a_call 44
    (an_operation 30 (a_named_type 29 (codes "stream") no_constants) (codes "puts")) (expression_and (a_call 33 (an_operation 32 (a_named_type 31
    (codes "stream") no_constants) (codes "primary_output")) no_expressions) (expression_and (an_infix 43 op.Concatenate (an_infix 41 op.Concatenate
    (a_literal 34 (string (34 ∷ 60 ∷ 34 ∷ []))) (a_call 40 (an_operation 36 (a_simple_type 35 simple.String) (codes "substr")) (expression_and (a_name
    37 (codes "s")) (expression_and (a_literal 38 (integer (codes "7"))) (expression_and (a_literal 39 (integer (codes "1"))) no_expressions)))))
    (a_literal 42 (string (34 ∷ 62 ∷ 34 ∷ [])))) no_expressions)))) (statement_and (a_call_statement 62 (a_call 61 (an_operation 47 (a_named_type 46
    (codes "stream") no_constants) (codes "puts")) (expression_and (a_call 50 (an_operation 49 (a_named_type 48 (codes "stream") no_constants) (codes
    "primary_output")) no_expressions) (expression_and (an_infix 60 op.Concatenate (an_infix 58 op.Concatenate (a_literal 51 (string (34 ∷ 60 ∷ 34 ∷
    []))) (a_call 57 (an_operation 53 (a_simple_type 52 simple.String) (codes "substr")) (expression_and (a_name 54 (codes "s")) (expression_and
    (a_literal 55 (integer (codes "3"))) (expression_and (a_literal 56 (integer (codes "0"))) no_expressions))))) (a_literal 59 (string (34 ∷ 62 ∷ 34
    ∷ [])))) no_expressions)))) (statement_and (a_call_statement 75 (a_call 74 (an_operation 64 (a_named_type 63 (codes "stream") no_constants) (codes
    "putl")) (expression_and (a_call 67 (an_operation 66 (a_named_type 65 (codes "stream") no_constants) (codes "primary_output")) no_expressions)
    (expression_and (a_call 73 (an_operation 69 (a_simple_type 68 simple.String) (codes "substr")) (expression_and (a_name 70 (codes "s"))
    (expression_and (a_literal 71 (integer (codes "2"))) (expression_and (a_literal 72 (integer (codes "9223372036854775807"))) no_expressions))))
    no_expressions)))) (statement_and (an_except 92 (an_assign 82 ((codes "s") ∷ []) (expression_and (a_call 81 (an_operation 77 (a_simple_type 76
    simple.String) (codes "substr")) (expression_and (a_name 78 (codes "s")) (expression_and (a_literal 79 (integer (codes "8"))) (expression_and
    (a_literal 80 (integer (codes "0"))) no_expressions)))) no_expressions)) (when_and 91 ((codes "bounds") ∷ []) (objects []) (a_body no_equates
    (statement_and (a_call_statement 90 (a_call 89 (an_operation 84 (a_named_type 83 (codes "stream") no_constants) (codes "putl")) (expression_and
    (a_call 87 (an_operation 86 (a_named_type 85 (codes "stream") no_constants) (codes "primary_output")) no_expressions) (expression_and (a_literal
    88 (string (34 ∷ 98 ∷ 56 ∷ 34 ∷ []))) no_expressions)))) no_statements)) no_whens) no_others) (statement_and (an_except 109 (an_assign 99 ((codes
    "s") ∷ []) (expression_and (a_call 98 (an_operation 94 (a_simple_type 93 simple.String) (codes "substr")) (expression_and (a_name 95 (codes "s"))
    (expression_and (a_literal 96 (integer (codes "0"))) (expression_and (a_literal 97 (integer (codes "1"))) no_expressions)))) no_expressions))
    (when_and 108 ((codes "bounds") ∷ []) (objects []) (a_body no_equates (statement_and (a_call_statement 107 (a_call 106 (an_operation 101
    (a_named_type 100 (codes "stream") no_constants) (codes "putl")) (expression_and (a_call 104 (an_operation 103 (a_named_type 102 (codes "stream")
    no_constants) (codes "primary_output")) no_expressions) (expression_and (a_literal 105 (string (34 ∷ 98 ∷ 48 ∷ 34 ∷ []))) no_expressions))))
    no_statements)) no_whens) no_others) (statement_and (an_except 127 (an_assign 117 ((codes "s") ∷ []) (expression_and (a_call 116 (an_operation 111
    (a_simple_type 110 simple.String) (codes "substr")) (expression_and (a_name 112 (codes "s")) (expression_and (a_literal 113 (integer (codes "1")))
    (expression_and (a_prefix 115 sign.Minus (a_literal 114 (integer (codes "1")))) no_expressions)))) no_expressions)) (when_and 126 ((codes
    "negative_size") ∷ []) (objects []) (a_body no_equates (statement_and (a_call_statement 125 (a_call 124 (an_operation 119 (a_named_type 118 (codes
    "stream") no_constants) (codes "putl")) (expression_and (a_call 122 (an_operation 121 (a_named_type 120 (codes "stream") no_constants) (codes
    "primary_output")) no_expressions) (expression_and (a_literal 123 (string (34 ∷ 110 ∷ 34 ∷ []))) no_expressions)))) no_statements)) no_whens)
    no_others) (statement_and (an_except 154 (an_assign 135 ((codes "s") ∷ []) (expression_and (a_call 134 (an_operation 129 (a_simple_type 128
    simple.String) (codes "substr")) (expression_and (a_name 130 (codes "s")) (expression_and (a_literal 131 (integer (codes "0"))) (expression_and
    (a_prefix 133 sign.Minus (a_literal 132 (integer (codes "1")))) no_expressions)))) no_expressions)) (when_and 144 ((codes "negative_size") ∷ [])
    (objects []) (a_body no_equates (statement_and (a_call_statement 143 (a_call 142 (an_operation 137 (a_named_type 136 (codes "stream")
    no_constants) (codes "putl")) (expression_and (a_call 140 (an_operation 139 (a_named_type 138 (codes "stream") no_constants) (codes
    "primary_output")) no_expressions) (expression_and (a_literal 141 (string (34 ∷ 110 ∷ 48 ∷ 34 ∷ []))) no_expressions)))) no_statements)) (when_and
    153 ((codes "bounds") ∷ []) (objects []) (a_body no_equates (statement_and (a_call_statement 152 (a_call 151 (an_operation 146 (a_named_type 145
    (codes "stream") no_constants) (codes "putl")) (expression_and (a_call 149 (an_operation 148 (a_named_type 147 (codes "stream") no_constants)
    (codes "primary_output")) no_expressions) (expression_and (a_literal 150 (string (34 ∷ 98 ∷ 98 ∷ 34 ∷ []))) no_expressions)))) no_statements))
    no_whens)) no_others) no_statements)))))))))))) ∷ [])

abbrev string_substr_declared : List Declared
string_substr_declared =
    (d (codes "s") 2 3 155 (Some 0) ∷ d (codes "start_up") 155 0 4294967295 None ∷ [])

string_substr : Runs string_substr_declared string_substr_modules (codes "") 10000 returned_normally (97 ∷ 98 ∷ 99 ∷ 100 ∷ 101 ∷ 102 ∷ 10 ∷ 101 ∷ 102 ∷ 10 ∷ 60 ∷ 62 ∷ 60 ∷ 62 ∷ 98 ∷ 99 ∷ 100 ∷ 101 ∷ 102 ∷ 10 ∷ 98 ∷ 56 ∷ 10 ∷ 98 ∷ 48 ∷ 10 ∷ 110 ∷ 10 ∷ 110 ∷ 48 ∷ 10 ∷ []) 16 394
unfolding executing computing digits
string_substr = refl

-- % string-ac
-- start_up = proc ()
-- a: array[char] := string$s2ac("abc") stream$putl(stream$primary_output(), int$unparse(array[char]$low(a)))
--   stream$putl(stream$primary_output(), int$unparse(array[char]$size(a))) a[2] := 'X' stream$putl(stream$primary_output(), string$ac2s(a)) array[char]$set_low(a, 7)
--   array[char]$addl(a, '-') stream$putl(stream$primary_output(), string$ac2s(a)) stream$puts(stream$primary_output(), "<" || string$ac2s(array[char]$new()) || ">")
--   stream$putl(stream$primary_output(), int$unparse(array[char]$size(string$s2ac(""))))
-- end start_up
abbrev string_ac_modules : List Module
string_ac_modules =
    ((a_routine 114 no_equates (routine 113 (codes "start_up") (codes "start_up") kind.Procedure [] ([]) no_types no_exceptions ([]) no_equates ([])
    (statement_and (an_init 6 (a_variable (codes "a") (a_list_type 1 list.Array (a_simple_type 0 simple.Char))) (a_call 5 (an_operation 3
    (a_simple_type 2 simple.String) (codes "s2ac")) (expression_and (a_literal 4 (string (34 ∷ 97 ∷ 98 ∷ 99 ∷ 34 ∷ []))) no_expressions)))
    (statement_and (a_call_statement 21 (a_call 20 (an_operation 8 (a_named_type 7 (codes "stream") no_constants) (codes "putl")) (expression_and
    (a_call 11 (an_operation 10 (a_named_type 9 (codes "stream") no_constants) (codes "primary_output")) no_expressions) (expression_and (a_call 19
    (an_operation 13 (a_simple_type 12 simple.Int) (codes "unparse")) (expression_and (a_call 18 (an_operation 16 (a_list_type 15 list.Array
    (a_simple_type 14 simple.Char)) (codes "low")) (expression_and (a_name 17 (codes "a")) no_expressions)) no_expressions)) no_expressions))))
    (statement_and (a_call_statement 36 (a_call 35 (an_operation 23 (a_named_type 22 (codes "stream") no_constants) (codes "putl")) (expression_and
    (a_call 26 (an_operation 25 (a_named_type 24 (codes "stream") no_constants) (codes "primary_output")) no_expressions) (expression_and (a_call 34
    (an_operation 28 (a_simple_type 27 simple.Int) (codes "unparse")) (expression_and (a_call 33 (an_operation 31 (a_list_type 30 list.Array
    (a_simple_type 29 simple.Char)) (codes "size")) (expression_and (a_name 32 (codes "a")) no_expressions)) no_expressions)) no_expressions))))
    (statement_and (a_set_index 40 (a_name 37 (codes "a")) (a_literal 38 (integer (codes "2"))) (a_literal 39 (character (codes "'X'"))))
    (statement_and (a_call_statement 51 (a_call 50 (an_operation 42 (a_named_type 41 (codes "stream") no_constants) (codes "putl")) (expression_and
    (a_call 45 (an_operation 44 (a_named_type 43 (codes "stream") no_constants) (codes "primary_output")) no_expressions) (expression_and (a_call 49
    (an_operation 47 (a_simple_type 46 simple.String) (codes "ac2s")) (expression_and (a_name 48 (codes "a")) no_expressions)) no_expressions))))
    (statement_and (a_call_statement 58 (a_call 57 (an_operation 54 (a_list_type 53 list.Array (a_simple_type 52 simple.Char)) (codes "set_low"))
    (expression_and (a_name 55 (codes "a")) (expression_and (a_literal 56 (integer (codes "7"))) no_expressions)))) (statement_and (a_call_statement
    65 (a_call 64 (an_operation 61 (a_list_type 60 list.Array (a_simple_type 59 simple.Char)) (codes "addl")) (expression_and (a_name 62 (codes "a"))
    (expression_and (a_literal 63 (character (codes "'-'"))) no_expressions)))) (statement_and (a_call_statement 76 (a_call 75 (an_operation 67
    (a_named_type 66 (codes "stream") no_constants) (codes "putl")) (expression_and (a_call 70 (an_operation 69 (a_named_type 68 (codes "stream")
    no_constants) (codes "primary_output")) no_expressions) (expression_and (a_call 74 (an_operation 72 (a_simple_type 71 simple.String) (codes
    "ac2s")) (expression_and (a_name 73 (codes "a")) no_expressions)) no_expressions)))) (statement_and (a_call_statement 94 (a_call 93 (an_operation
    78 (a_named_type 77 (codes "stream") no_constants) (codes "puts")) (expression_and (a_call 81 (an_operation 80 (a_named_type 79 (codes "stream")
    no_constants) (codes "primary_output")) no_expressions) (expression_and (an_infix 92 op.Concatenate (an_infix 90 op.Concatenate (a_literal 82
    (string (34 ∷ 60 ∷ 34 ∷ []))) (a_call 89 (an_operation 84 (a_simple_type 83 simple.String) (codes "ac2s")) (expression_and (a_call 88
    (an_operation 87 (a_list_type 86 list.Array (a_simple_type 85 simple.Char)) (codes "new")) no_expressions) no_expressions))) (a_literal 91 (string
    (34 ∷ 62 ∷ 34 ∷ [])))) no_expressions)))) (statement_and (a_call_statement 112 (a_call 111 (an_operation 96 (a_named_type 95 (codes "stream")
    no_constants) (codes "putl")) (expression_and (a_call 99 (an_operation 98 (a_named_type 97 (codes "stream") no_constants) (codes
    "primary_output")) no_expressions) (expression_and (a_call 110 (an_operation 101 (a_simple_type 100 simple.Int) (codes "unparse")) (expression_and
    (a_call 109 (an_operation 104 (a_list_type 103 list.Array (a_simple_type 102 simple.Char)) (codes "size")) (expression_and (a_call 108
    (an_operation 106 (a_simple_type 105 simple.String) (codes "s2ac")) (expression_and (a_literal 107 (string (34 ∷ 34 ∷ []))) no_expressions))
    no_expressions)) no_expressions)) no_expressions)))) no_statements)))))))))))) ∷ [])

abbrev string_ac_declared : List Declared
string_ac_declared =
    (d (codes "a") 6 7 113 (Some 0) ∷ d (codes "start_up") 113 0 4294967295 None ∷ [])

string_ac : Runs string_ac_declared string_ac_modules (codes "") 10000 returned_normally (49 ∷ 10 ∷ 51 ∷ 10 ∷ 97 ∷ 88 ∷ 99 ∷ 10 ∷ 45 ∷ 97 ∷ 88 ∷ 99 ∷ 10 ∷ 60 ∷ 62 ∷ 48 ∷ 10 ∷ []) 48 310
unfolding executing computing digits
string_ac = refl

-- % string-c2s
-- start_up = proc ()
-- stream$putl(stream$primary_output(), string$c2s('q')) stream$putl(stream$primary_output(), int$unparse(string$size(string$c2s('\000'))))
-- end start_up
abbrev string_c2s_modules : List Module
string_c2s_modules =
    ((a_routine 29 no_equates (routine 28 (codes "start_up") (codes "start_up") kind.Procedure [] ([]) no_types no_exceptions ([]) no_equates ([])
    (statement_and (a_call_statement 10 (a_call 9 (an_operation 1 (a_named_type 0 (codes "stream") no_constants) (codes "putl")) (expression_and
    (a_call 4 (an_operation 3 (a_named_type 2 (codes "stream") no_constants) (codes "primary_output")) no_expressions) (expression_and (a_call 8
    (an_operation 6 (a_simple_type 5 simple.String) (codes "c2s")) (expression_and (a_literal 7 (character (codes "'q'"))) no_expressions))
    no_expressions)))) (statement_and (a_call_statement 27 (a_call 26 (an_operation 12 (a_named_type 11 (codes "stream") no_constants) (codes "putl"))
    (expression_and (a_call 15 (an_operation 14 (a_named_type 13 (codes "stream") no_constants) (codes "primary_output")) no_expressions)
    (expression_and (a_call 25 (an_operation 17 (a_simple_type 16 simple.Int) (codes "unparse")) (expression_and (a_call 24 (an_operation 19
    (a_simple_type 18 simple.String) (codes "size")) (expression_and (a_call 23 (an_operation 21 (a_simple_type 20 simple.String) (codes "c2s"))
    (expression_and (a_literal 22 (character (39 ∷ 92 ∷ 48 ∷ 48 ∷ 48 ∷ 39 ∷ []))) no_expressions)) no_expressions)) no_expressions))
    no_expressions)))) no_statements)))) ∷ [])

abbrev string_c2s_declared : List Declared
string_c2s_declared =
    (d (codes "start_up") 28 0 4294967295 None ∷ [])

string_c2s : Runs string_c2s_declared string_c2s_modules (codes "") 10000 returned_normally (113 ∷ 10 ∷ 49 ∷ 10 ∷ []) 8 140
unfolding executing computing digits
string_c2s = refl
