-- Programs that compute: a word counter. Each is the tree of the CLU above it.
use Rattle.std.specs.Fmt.{digits}
use Rattle.std.specs.Prelude.{refl, List, [], ◌∷◌, codes, Some, None}
use Rattle.clu_names.specs.declared.scopes.Declared.{Declared}
use Rattle.clu_syntax.specs.declared.words.Operator.TheVariants as op
use Rattle.clu_syntax.specs.declared.words.Sign.TheVariants as sign
use Rattle.clu_syntax.specs.declared.words.SimpleType.TheVariants as simple
use Rattle.clu_syntax.specs.declared.words.ListType.TheVariants as list
use Rattle.clu_syntax.specs.declared.words.FieldsType.TheVariants as fields_word
use Rattle.clu_syntax.specs.declared.words.RoutineKind.TheVariants as kind
use Rattle.clu_syntax.specs.Syntax.{true_literal, integer, character, string, an_infix, a_prefix, a_literal, a_name, a_get, a_call, fields, an_operation, no_expressions, expression_and, no_components, component_and, a_type, no_constants, constant_and, a_simple_type, a_list_type, a_fields_type, a_routine_type, a_named_type, no_types, type_and, no_selectors, selector_and, no_exceptions, an_equate, no_equates, equate_and, objects, an_init, an_assign, a_set_field, a_call_statement, a_while, a_for, an_if, a_return, a_yield, an_except, no_statements, statement_and, a_body, no_clauses, clause_and, nothing_else, otherwise, no_whens, when_and, no_others, has_operations, Module, a_routine, a_cluster}
use Rattle.clu_layout.specs.Computing.{computing}
use Rattle.clu_meaning.specs.Run.{returned_normally, failure_with}
use Rattle.clu_meaning.specs.Executing.{executing}
use Rattle.clu_meaning.proofs.Running.{d, typed, a_variable, parameter, routine, cluster, Ends}

-- counts = cluster [t: type] is create, add, all
--   where t has equal: proctype (t, t) returns (bool)
--   item = record [key: t, n: int]
--   rep = array[item]
--   create = proc () returns (cvt) return (rep$new()) end create
--   add = proc (c: cvt, k: t)
--     for i: item in rep$elements(c) do
--       if i.key = k then i.n := i.n + 1 return end
--     end
--     rep$addh(c, item${key: k, n: 1})
--   end add
--   all = iter (c: cvt) yields (t, int)
--     for i: item in rep$elements(c) do yield (i.key, i.n) end
--   end all
-- end counts
-- words = iter (s: stream) yields (string)
--   w: string := ""
--   while true do
--     c: char := stream$getc(s)
--     if c = ' ' | c = '\n' then
--       if w ~= "" then yield (w) end
--       w := ""
--     else w := string$append(w, c) end
--   end except when end_of_file: if w ~= "" then yield (w) end end
-- end words
-- start_up = proc ()
--   c: counts[string] := counts[string]$create()
--   for w: string in words(stream$primary_input()) do counts[string]$add(c, w) end
--   for w: string, n: int in counts[string]$all(c) do stream$putl(stream$primary_output(), w || " " || int$unparse(n)) end
-- end start_up
abbrev counter_modules : List Module
counter_modules =
    ((a_cluster 79 no_equates (cluster 78 (codes "counts") (codes "counts") (parameter 0 ((codes "t") ∷ []) None ∷ []) ((codes "create") ∷ (codes
    "add") ∷ (codes "all") ∷ []) ((has_operations 7 (codes "t") (typed 6 ((codes "equal") ∷ []) (a_routine_type 5 kind.Procedure (type_and
    (a_named_type 1 (codes "t") no_constants) (type_and (a_named_type 2 (codes "t") no_constants) no_types)) (type_and (a_simple_type 3 simple.Bool)
    no_types) no_exceptions) ∷ [])) ∷ []) (equate_and (an_equate 14 (Some (codes "item")) (a_type (a_fields_type 13 fields_word.Record (selector_and
    10 ((codes "key") ∷ []) (a_named_type 9 (codes "t") no_constants) (selector_and 12 ((codes "n") ∷ []) (a_simple_type 11 simple.Int)
    no_selectors))))) (equate_and (an_equate 17 None (a_type (a_list_type 16 list.Array (a_named_type 15 (codes "item") no_constants)))) no_equates))
    ([]) ((routine 24 (codes "create") (codes "create") kind.Procedure [] ([]) (type_and (a_simple_type 18 simple.Cvt) no_types) no_exceptions ([])
    no_equates ([]) (statement_and (a_return 23 (expression_and (a_call 22 (an_operation 21 (a_simple_type 20 simple.Rep) (codes "new"))
    no_expressions) no_expressions)) no_statements)) ∷ (routine 59 (codes "add") (codes "add") kind.Procedure [] (typed 26 ((codes "c") ∷ [])
    (a_simple_type 25 simple.Cvt) ∷ typed 28 ((codes "k") ∷ []) (a_named_type 27 (codes "t") no_constants) ∷ []) no_types no_exceptions ([])
    no_equates ([]) (statement_and (a_for 47 (typed 30 ((codes "i") ∷ []) (a_named_type 29 (codes "item") no_constants) ∷ []) (a_call 34 (an_operation
    32 (a_simple_type 31 simple.Rep) (codes "elements")) (expression_and (a_name 33 (codes "c")) no_expressions)) (a_body no_equates (statement_and
    (an_if 46 (clause_and (an_infix 38 op.Equal (a_get 36 (a_name 35 (codes "i")) (codes "key")) (a_name 37 (codes "k"))) (a_body no_equates
    (statement_and (a_set_field 44 (a_name 39 (codes "i")) (codes "n") (an_infix 43 op.Add (a_get 41 (a_name 40 (codes "i")) (codes "n")) (a_literal
    42 (integer (codes "1"))))) (statement_and (a_return 45 no_expressions) no_statements))) no_clauses) nothing_else) no_statements))) (statement_and
    (a_call_statement 58 (a_call 57 (an_operation 49 (a_simple_type 48 simple.Rep) (codes "addh")) (expression_and (a_name 50 (codes "c"))
    (expression_and (fields 56 (a_named_type 51 (codes "item") no_constants) (component_and 53 ((codes "key") ∷ []) (a_name 52 (codes "k"))
    (component_and 55 ((codes "n") ∷ []) (a_literal 54 (integer (codes "1"))) no_components))) no_expressions)))) no_statements))) ∷ (routine 77
    (codes "all") (codes "all") kind.Iterator [] (typed 61 ((codes "c") ∷ []) (a_simple_type 60 simple.Cvt) ∷ []) (type_and (a_named_type 62 (codes
    "t") no_constants) (type_and (a_simple_type 63 simple.Int) no_types)) no_exceptions ([]) no_equates ([]) (statement_and (a_for 76 (typed 66
    ((codes "i") ∷ []) (a_named_type 65 (codes "item") no_constants) ∷ []) (a_call 70 (an_operation 68 (a_simple_type 67 simple.Rep) (codes
    "elements")) (expression_and (a_name 69 (codes "c")) no_expressions)) (a_body no_equates (statement_and (a_yield 75 (expression_and (a_get 72
    (a_name 71 (codes "i")) (codes "key")) (expression_and (a_get 74 (a_name 73 (codes "i")) (codes "n")) no_expressions))) no_statements)))
    no_statements)) ∷ []))) ∷ (a_routine 126 no_equates (routine 125 (codes "words") (codes "words") kind.Iterator [] (typed 81 ((codes "s") ∷ [])
    (a_named_type 80 (codes "stream") no_constants) ∷ []) (type_and (a_simple_type 82 simple.String) no_types) no_exceptions ([]) no_equates ([])
    (statement_and (an_init 86 (a_variable (codes "w") (a_simple_type 84 simple.String)) (a_literal 85 (string (34 ∷ 34 ∷ [])))) (statement_and
    (an_except 124 (a_while 116 (a_literal 87 true_literal) (a_body no_equates (statement_and (an_init 93 (a_variable (codes "c") (a_simple_type 88
    simple.Char)) (a_call 92 (an_operation 90 (a_named_type 89 (codes "stream") no_constants) (codes "getc")) (expression_and (a_name 91 (codes "s"))
    no_expressions))) (statement_and (an_if 115 (clause_and (an_infix 100 op.Or (an_infix 96 op.Equal (a_name 94 (codes "c")) (a_literal 95 (character
    (codes "' '")))) (an_infix 99 op.Equal (a_name 97 (codes "c")) (a_literal 98 (character (39 ∷ 92 ∷ 110 ∷ 39 ∷ []))))) (a_body no_equates
    (statement_and (an_if 106 (clause_and (an_infix 103 op.NotEqual (a_name 101 (codes "w")) (a_literal 102 (string (34 ∷ 34 ∷ [])))) (a_body
    no_equates (statement_and (a_yield 105 (expression_and (a_name 104 (codes "w")) no_expressions)) no_statements)) no_clauses) nothing_else)
    (statement_and (an_assign 108 ((codes "w") ∷ []) (expression_and (a_literal 107 (string (34 ∷ 34 ∷ []))) no_expressions)) no_statements)))
    no_clauses) (otherwise (a_body no_equates (statement_and (an_assign 114 ((codes "w") ∷ []) (expression_and (a_call 113 (an_operation 110
    (a_simple_type 109 simple.String) (codes "append")) (expression_and (a_name 111 (codes "w")) (expression_and (a_name 112 (codes "c"))
    no_expressions))) no_expressions)) no_statements)))) no_statements)))) (when_and 123 ((codes "end_of_file") ∷ []) (objects []) (a_body no_equates
    (statement_and (an_if 122 (clause_and (an_infix 119 op.NotEqual (a_name 117 (codes "w")) (a_literal 118 (string (34 ∷ 34 ∷ [])))) (a_body
    no_equates (statement_and (a_yield 121 (expression_and (a_name 120 (codes "w")) no_expressions)) no_statements)) no_clauses) nothing_else)
    no_statements)) no_whens) no_others) no_statements)))) ∷ (a_routine 175 no_equates (routine 174 (codes "start_up") (codes "start_up")
    kind.Procedure [] ([]) no_types no_exceptions ([]) no_equates ([]) (statement_and (an_init 133 (a_variable (codes "c") (a_named_type 128 (codes
    "counts") (constant_and (a_type (a_simple_type 127 simple.String)) no_constants))) (a_call 132 (an_operation 131 (a_named_type 130 (codes
    "counts") (constant_and (a_type (a_simple_type 129 simple.String)) no_constants)) (codes "create")) no_expressions)) (statement_and (a_for 148
    (typed 135 ((codes "w") ∷ []) (a_simple_type 134 simple.String) ∷ []) (a_call 140 (a_name 136 (codes "words")) (expression_and (a_call 139
    (an_operation 138 (a_named_type 137 (codes "stream") no_constants) (codes "primary_input")) no_expressions) no_expressions)) (a_body no_equates
    (statement_and (a_call_statement 147 (a_call 146 (an_operation 143 (a_named_type 142 (codes "counts") (constant_and (a_type (a_simple_type 141
    simple.String)) no_constants)) (codes "add")) (expression_and (a_name 144 (codes "c")) (expression_and (a_name 145 (codes "w")) no_expressions))))
    no_statements))) (statement_and (a_for 173 (typed 150 ((codes "w") ∷ []) (a_simple_type 149 simple.String) ∷ typed 152 ((codes "n") ∷ [])
    (a_simple_type 151 simple.Int) ∷ []) (a_call 157 (an_operation 155 (a_named_type 154 (codes "counts") (constant_and (a_type (a_simple_type 153
    simple.String)) no_constants)) (codes "all")) (expression_and (a_name 156 (codes "c")) no_expressions)) (a_body no_equates (statement_and
    (a_call_statement 172 (a_call 171 (an_operation 159 (a_named_type 158 (codes "stream") no_constants) (codes "putl")) (expression_and (a_call 162
    (an_operation 161 (a_named_type 160 (codes "stream") no_constants) (codes "primary_output")) no_expressions) (expression_and (an_infix 170
    op.Concatenate (an_infix 165 op.Concatenate (a_name 163 (codes "w")) (a_literal 164 (string (34 ∷ 32 ∷ 34 ∷ [])))) (a_call 169 (an_operation 167
    (a_simple_type 166 simple.Int) (codes "unparse")) (expression_and (a_name 168 (codes "n")) no_expressions))) no_expressions)))) no_statements)))
    no_statements))))) ∷ [])

abbrev counter_declared : List Declared
counter_declared =
    (d (codes "t") 0 0 78 (Some 0) ∷ d (codes "item") 14 0 78 (Some 0) ∷ d (codes "rep") 17 0 78 (Some 0) ∷ d (codes "create") 24 0 78 (Some 0) ∷ d
    (codes "c") 26 27 59 (Some 0) ∷ d (codes "k") 28 29 59 (Some 0) ∷ d (codes "i") 30 35 46 (Some 0) ∷ d (codes "add") 59 0 78 (Some 0) ∷ d (codes
    "c") 61 62 77 (Some 0) ∷ d (codes "i") 66 71 75 (Some 0) ∷ d (codes "all") 77 0 78 (Some 0) ∷ d (codes "counts") 78 0 4294967295 None ∷ d (codes
    "s") 81 82 125 (Some 0) ∷ d (codes "w") 86 87 125 (Some 0) ∷ d (codes "c") 93 94 115 (Some 0) ∷ d (codes "words") 125 0 4294967295 None ∷ d (codes
    "c") 133 134 174 (Some 0) ∷ d (codes "w") 135 141 147 (Some 0) ∷ d (codes "w") 150 158 172 (Some 0) ∷ d (codes "n") 152 158 172 (Some 0) ∷ d
    (codes "start_up") 174 0 4294967295 None ∷ [])

counter : Ends counter_declared counter_modules (116 ∷ 104 ∷ 101 ∷ 32 ∷ 99 ∷ 97 ∷ 116 ∷ 10 ∷ 116 ∷ 104 ∷ 101 ∷ 32 ∷ 100 ∷ 111 ∷ 103 ∷ 10 ∷ 99 ∷ 97 ∷ 116 ∷ 32 ∷ 116 ∷ 104 ∷ 101 ∷ 10 ∷ []) 10000 returned_normally (116 ∷ 104 ∷ 101 ∷ 32 ∷ 51 ∷ 10 ∷ 99 ∷ 97 ∷ 116 ∷ 32 ∷ 50 ∷ 10 ∷ 100 ∷ 111 ∷ 103 ∷ 32 ∷ 49 ∷ 10 ∷ [])
unfolding executing computing digits
counter = refl

-- start_up = proc () stream$putl(stream$primary_output(), int$unparse(-7 / 2)) stream$putl(stream$primary_output(), int$unparse(-7 // 2)) end start_up
abbrev divide_modules : List Module
divide_modules =
    ((a_routine 29 no_equates (routine 28 (codes "start_up") (codes "start_up") kind.Procedure [] ([]) no_types no_exceptions ([]) no_equates ([])
    (statement_and (a_call_statement 13 (a_call 12 (an_operation 1 (a_named_type 0 (codes "stream") no_constants) (codes "putl")) (expression_and
    (a_call 4 (an_operation 3 (a_named_type 2 (codes "stream") no_constants) (codes "primary_output")) no_expressions) (expression_and (a_call 11
    (an_operation 6 (a_simple_type 5 simple.Int) (codes "unparse")) (expression_and (an_infix 10 op.Divide (a_prefix 8 sign.Minus (a_literal 7
    (integer (codes "7")))) (a_literal 9 (integer (codes "2")))) no_expressions)) no_expressions)))) (statement_and (a_call_statement 27 (a_call 26
    (an_operation 15 (a_named_type 14 (codes "stream") no_constants) (codes "putl")) (expression_and (a_call 18 (an_operation 17 (a_named_type 16
    (codes "stream") no_constants) (codes "primary_output")) no_expressions) (expression_and (a_call 25 (an_operation 20 (a_simple_type 19 simple.Int)
    (codes "unparse")) (expression_and (an_infix 24 op.Remainder (a_prefix 22 sign.Minus (a_literal 21 (integer (codes "7")))) (a_literal 23 (integer
    (codes "2")))) no_expressions)) no_expressions)))) no_statements)))) ∷ [])

abbrev divide_declared : List Declared
divide_declared =
    (d (codes "start_up") 28 0 4294967295 None ∷ [])

divide : Ends divide_declared divide_modules (codes "") 10000 returned_normally (45 ∷ 52 ∷ 10 ∷ 49 ∷ 10 ∷ [])
unfolding executing computing digits
divide = refl

-- start_up = proc () x: int := 9223372036854775807 + 1 end start_up
abbrev overflow_modules : List Module
overflow_modules =
    ((a_routine 6 no_equates (routine 5 (codes "start_up") (codes "start_up") kind.Procedure [] ([]) no_types no_exceptions ([]) no_equates ([])
    (statement_and (an_init 4 (a_variable (codes "x") (a_simple_type 0 simple.Int)) (an_infix 3 op.Add (a_literal 1 (integer (codes
    "9223372036854775807"))) (a_literal 2 (integer (codes "1"))))) no_statements))) ∷ [])

abbrev overflow_declared : List Declared
overflow_declared =
    (d (codes "x") 4 5 5 (Some 0) ∷ d (codes "start_up") 5 0 4294967295 None ∷ [])

overflow : Ends overflow_declared overflow_modules (codes "") 10000 (failure_with (codes "unhandled exception: overflow")) (codes "")
unfolding executing computing digits
overflow = refl
