-- Programs that compute: operations by their names. Each is the tree of the CLU above it.
use Rattle.std.specs.Fmt.{digits}
use Rattle.std.specs.Prelude.{refl, List, [], ◌∷◌, codes, Some, None}
use Rattle.clu_names.specs.declared.scopes.Declared.{Declared}
use Rattle.clu_syntax.specs.declared.words.Operator.TheVariants as op
use Rattle.clu_syntax.specs.declared.words.Sign.TheVariants as sign
use Rattle.clu_syntax.specs.declared.words.SimpleType.TheVariants as simple
use Rattle.clu_syntax.specs.declared.words.ListType.TheVariants as list
use Rattle.clu_syntax.specs.declared.words.FieldsType.TheVariants as fields_word
use Rattle.clu_syntax.specs.declared.words.RoutineKind.TheVariants as kind
use Rattle.clu_syntax.specs.Syntax.{nil, true_literal, false_literal, integer, character, string, an_infix, a_prefix, a_literal, a_name, a_call, fields, elements, an_operation, no_expressions, expression_and, no_components, component_and, a_type, no_constants, a_simple_type, a_list_type, a_fields_type, a_routine_type, a_named_type, no_types, type_and, no_selectors, selector_and, no_exceptions, exception_and, an_equate, no_equates, equate_and, an_init, a_call_statement, a_for, an_if, no_statements, statement_and, a_body, no_clauses, clause_and, nothing_else, Module, a_routine}
use Rattle.clu_layout.specs.Computing.{computing}
use Rattle.clu_meaning.specs.Run.{returned_normally}
use Rattle.clu_meaning.specs.Executing.{executing}
use Rattle.clu_meaning.proofs.Running.{d, typed, a_variable, routine, Ends}

-- % plain operations by name
-- start_up = proc ()
--   if null$equal(nil, nil) & null$similar(nil, null$copy(nil)) then stream$puts(stream$primary_output(), "n") end
--   if bool$equal(true, true) & bool$similar(false, bool$copy(false)) & bool$not(bool$and(true, bool$or(false, false))) then stream$puts(stream$primary_output(), "b") end
--   if int$equal(int$sub(5, 2), int$power(3, 1)) & int$similar(int$minus(int$copy(-1)), int$mod(5, 2)) then stream$puts(stream$primary_output(), "i") end
--   if char$equal('a', char$copy('a')) then stream$puts(stream$primary_output(), "c") end
--   if string$empty("") & string$equal(string$concat("a", "b"), "ab") & string$similar("a", string$copy("a")) then stream$puts(stream$primary_output(), "s") end
--   if stream$equal(stream$primary_output(), stream$primary_output()) then stream$puts(stream$primary_output(), "o") end
-- end start_up
abbrev plain_operations_by_name_modules : List Module
plain_operations_by_name_modules =
    ((a_routine 166 no_equates (routine 165 (codes "start_up") (codes "start_up") kind.Procedure [] ([]) no_types no_exceptions ([]) no_equates ([])
    (statement_and (an_if 22 (clause_and (an_infix 13 op.And (a_call 4 (an_operation 1 (a_simple_type 0 simple.Null) (codes "equal")) (expression_and
    (a_literal 2 nil) (expression_and (a_literal 3 nil) no_expressions))) (a_call 12 (an_operation 6 (a_simple_type 5 simple.Null) (codes "similar"))
    (expression_and (a_literal 7 nil) (expression_and (a_call 11 (an_operation 9 (a_simple_type 8 simple.Null) (codes "copy")) (expression_and
    (a_literal 10 nil) no_expressions)) no_expressions)))) (a_body no_equates (statement_and (a_call_statement 21 (a_call 20 (an_operation 15
    (a_named_type 14 (codes "stream") no_constants) (codes "puts")) (expression_and (a_call 18 (an_operation 17 (a_named_type 16 (codes "stream")
    no_constants) (codes "primary_output")) no_expressions) (expression_and (a_literal 19 (string (34 ∷ 110 ∷ 34 ∷ []))) no_expressions))))
    no_statements)) no_clauses) nothing_else) (statement_and (an_if 58 (clause_and (an_infix 49 op.And (an_infix 36 op.And (a_call 27 (an_operation 24
    (a_simple_type 23 simple.Bool) (codes "equal")) (expression_and (a_literal 25 true_literal) (expression_and (a_literal 26 true_literal)
    no_expressions))) (a_call 35 (an_operation 29 (a_simple_type 28 simple.Bool) (codes "similar")) (expression_and (a_literal 30 false_literal)
    (expression_and (a_call 34 (an_operation 32 (a_simple_type 31 simple.Bool) (codes "copy")) (expression_and (a_literal 33 false_literal)
    no_expressions)) no_expressions)))) (a_call 48 (an_operation 38 (a_simple_type 37 simple.Bool) (codes "not")) (expression_and (a_call 47
    (an_operation 40 (a_simple_type 39 simple.Bool) (codes "and")) (expression_and (a_literal 41 true_literal) (expression_and (a_call 46
    (an_operation 43 (a_simple_type 42 simple.Bool) (codes "or")) (expression_and (a_literal 44 false_literal) (expression_and (a_literal 45
    false_literal) no_expressions))) no_expressions))) no_expressions))) (a_body no_equates (statement_and (a_call_statement 57 (a_call 56
    (an_operation 51 (a_named_type 50 (codes "stream") no_constants) (codes "puts")) (expression_and (a_call 54 (an_operation 53 (a_named_type 52
    (codes "stream") no_constants) (codes "primary_output")) no_expressions) (expression_and (a_literal 55 (string (34 ∷ 98 ∷ 34 ∷ [])))
    no_expressions)))) no_statements)) no_clauses) nothing_else) (statement_and (an_if 97 (clause_and (an_infix 88 op.And (a_call 71 (an_operation 60
    (a_simple_type 59 simple.Int) (codes "equal")) (expression_and (a_call 65 (an_operation 62 (a_simple_type 61 simple.Int) (codes "sub"))
    (expression_and (a_literal 63 (integer (codes "5"))) (expression_and (a_literal 64 (integer (codes "2"))) no_expressions))) (expression_and
    (a_call 70 (an_operation 67 (a_simple_type 66 simple.Int) (codes "power")) (expression_and (a_literal 68 (integer (codes "3"))) (expression_and
    (a_literal 69 (integer (codes "1"))) no_expressions))) no_expressions))) (a_call 87 (an_operation 73 (a_simple_type 72 simple.Int) (codes
    "similar")) (expression_and (a_call 81 (an_operation 75 (a_simple_type 74 simple.Int) (codes "minus")) (expression_and (a_call 80 (an_operation 77
    (a_simple_type 76 simple.Int) (codes "copy")) (expression_and (a_prefix 79 sign.Minus (a_literal 78 (integer (codes "1")))) no_expressions))
    no_expressions)) (expression_and (a_call 86 (an_operation 83 (a_simple_type 82 simple.Int) (codes "mod")) (expression_and (a_literal 84 (integer
    (codes "5"))) (expression_and (a_literal 85 (integer (codes "2"))) no_expressions))) no_expressions)))) (a_body no_equates (statement_and
    (a_call_statement 96 (a_call 95 (an_operation 90 (a_named_type 89 (codes "stream") no_constants) (codes "puts")) (expression_and (a_call 93
    (an_operation 92 (a_named_type 91 (codes "stream") no_constants) (codes "primary_output")) no_expressions) (expression_and (a_literal 94 (string
    (34 ∷ 105 ∷ 34 ∷ []))) no_expressions)))) no_statements)) no_clauses) nothing_else) (statement_and (an_if 114 (clause_and (a_call 105
    (an_operation 99 (a_simple_type 98 simple.Char) (codes "equal")) (expression_and (a_literal 100 (character (codes "'a'"))) (expression_and (a_call
    104 (an_operation 102 (a_simple_type 101 simple.Char) (codes "copy")) (expression_and (a_literal 103 (character (codes "'a'"))) no_expressions))
    no_expressions))) (a_body no_equates (statement_and (a_call_statement 113 (a_call 112 (an_operation 107 (a_named_type 106 (codes "stream")
    no_constants) (codes "puts")) (expression_and (a_call 110 (an_operation 109 (a_named_type 108 (codes "stream") no_constants) (codes
    "primary_output")) no_expressions) (expression_and (a_literal 111 (string (34 ∷ 99 ∷ 34 ∷ []))) no_expressions)))) no_statements)) no_clauses)
    nothing_else) (statement_and (an_if 146 (clause_and (an_infix 137 op.And (an_infix 128 op.And (a_call 118 (an_operation 116 (a_simple_type 115
    simple.String) (codes "empty")) (expression_and (a_literal 117 (string (34 ∷ 34 ∷ []))) no_expressions)) (a_call 127 (an_operation 120
    (a_simple_type 119 simple.String) (codes "equal")) (expression_and (a_call 125 (an_operation 122 (a_simple_type 121 simple.String) (codes
    "concat")) (expression_and (a_literal 123 (string (34 ∷ 97 ∷ 34 ∷ []))) (expression_and (a_literal 124 (string (34 ∷ 98 ∷ 34 ∷ [])))
    no_expressions))) (expression_and (a_literal 126 (string (34 ∷ 97 ∷ 98 ∷ 34 ∷ []))) no_expressions)))) (a_call 136 (an_operation 130
    (a_simple_type 129 simple.String) (codes "similar")) (expression_and (a_literal 131 (string (34 ∷ 97 ∷ 34 ∷ []))) (expression_and (a_call 135
    (an_operation 133 (a_simple_type 132 simple.String) (codes "copy")) (expression_and (a_literal 134 (string (34 ∷ 97 ∷ 34 ∷ []))) no_expressions))
    no_expressions)))) (a_body no_equates (statement_and (a_call_statement 145 (a_call 144 (an_operation 139 (a_named_type 138 (codes "stream")
    no_constants) (codes "puts")) (expression_and (a_call 142 (an_operation 141 (a_named_type 140 (codes "stream") no_constants) (codes
    "primary_output")) no_expressions) (expression_and (a_literal 143 (string (34 ∷ 115 ∷ 34 ∷ []))) no_expressions)))) no_statements)) no_clauses)
    nothing_else) (statement_and (an_if 164 (clause_and (a_call 155 (an_operation 148 (a_named_type 147 (codes "stream") no_constants) (codes
    "equal")) (expression_and (a_call 151 (an_operation 150 (a_named_type 149 (codes "stream") no_constants) (codes "primary_output")) no_expressions)
    (expression_and (a_call 154 (an_operation 153 (a_named_type 152 (codes "stream") no_constants) (codes "primary_output")) no_expressions)
    no_expressions))) (a_body no_equates (statement_and (a_call_statement 163 (a_call 162 (an_operation 157 (a_named_type 156 (codes "stream")
    no_constants) (codes "puts")) (expression_and (a_call 160 (an_operation 159 (a_named_type 158 (codes "stream") no_constants) (codes
    "primary_output")) no_expressions) (expression_and (a_literal 161 (string (34 ∷ 111 ∷ 34 ∷ []))) no_expressions)))) no_statements)) no_clauses)
    nothing_else) no_statements)))))))) ∷ [])

abbrev plain_operations_by_name_declared : List Declared
plain_operations_by_name_declared =
    (d (codes "start_up") 165 0 4294967295 None ∷ [])

plain_operations_by_name : Ends plain_operations_by_name_declared plain_operations_by_name_modules (codes "") 10000 returned_normally (codes "nbicso")
unfolding executing computing digits
plain_operations_by_name = refl

-- % operations of arrays and sequences by name
-- start_up = proc ()
--   a: array[int] := array[int]$[1]
--   array[int]$store(a, 1, 2)
--   if ~array[int]$empty(a) & array[int]$fetch(a, 1) = 2 & array[int]$equal(a, a) & ~array[int]$equal(a, array[int]$copy1(a)) then stream$puts(stream$primary_output(), "a") end
--   q: sequence[int] := sequence[int]$concat(sequence[int]$new(), sequence[int]$[7])
--   if ~sequence[int]$empty(q) & sequence[int]$equal(q, sequence[int]$[7]) then stream$puts(stream$primary_output(), "q") end
--   for i: int in sequence[int]$indexes(q) do stream$puts(stream$primary_output(), int$unparse(i)) end
-- end start_up
abbrev operations_of_elements_by_name_modules : List Module
operations_of_elements_by_name_modules =
    ((a_routine 118 no_equates (routine 117 (codes "start_up") (codes "start_up") kind.Procedure [] ([]) no_types no_exceptions ([]) no_equates ([])
    (statement_and (an_init 6 (a_variable (codes "a") (a_list_type 1 list.Array (a_simple_type 0 simple.Int))) (elements 5 (a_list_type 3 list.Array
    (a_simple_type 2 simple.Int)) (expression_and (a_literal 4 (integer (codes "1"))) no_expressions))) (statement_and (a_call_statement 14 (a_call 13
    (an_operation 9 (a_list_type 8 list.Array (a_simple_type 7 simple.Int)) (codes "store")) (expression_and (a_name 10 (codes "a")) (expression_and
    (a_literal 11 (integer (codes "1"))) (expression_and (a_literal 12 (integer (codes "2"))) no_expressions))))) (statement_and (an_if 57 (clause_and
    (an_infix 48 op.And (an_infix 36 op.And (an_infix 29 op.And (a_prefix 20 sign.Not (a_call 19 (an_operation 17 (a_list_type 16 list.Array
    (a_simple_type 15 simple.Int)) (codes "empty")) (expression_and (a_name 18 (codes "a")) no_expressions))) (an_infix 28 op.Equal (a_call 26
    (an_operation 23 (a_list_type 22 list.Array (a_simple_type 21 simple.Int)) (codes "fetch")) (expression_and (a_name 24 (codes "a"))
    (expression_and (a_literal 25 (integer (codes "1"))) no_expressions))) (a_literal 27 (integer (codes "2"))))) (a_call 35 (an_operation 32
    (a_list_type 31 list.Array (a_simple_type 30 simple.Int)) (codes "equal")) (expression_and (a_name 33 (codes "a")) (expression_and (a_name 34
    (codes "a")) no_expressions)))) (a_prefix 47 sign.Not (a_call 46 (an_operation 39 (a_list_type 38 list.Array (a_simple_type 37 simple.Int)) (codes
    "equal")) (expression_and (a_name 40 (codes "a")) (expression_and (a_call 45 (an_operation 43 (a_list_type 42 list.Array (a_simple_type 41
    simple.Int)) (codes "copy1")) (expression_and (a_name 44 (codes "a")) no_expressions)) no_expressions))))) (a_body no_equates (statement_and
    (a_call_statement 56 (a_call 55 (an_operation 50 (a_named_type 49 (codes "stream") no_constants) (codes "puts")) (expression_and (a_call 53
    (an_operation 52 (a_named_type 51 (codes "stream") no_constants) (codes "primary_output")) no_expressions) (expression_and (a_literal 54 (string
    (34 ∷ 97 ∷ 34 ∷ []))) no_expressions)))) no_statements)) no_clauses) nothing_else) (statement_and (an_init 72 (a_variable (codes "q") (a_list_type
    59 list.Sequence (a_simple_type 58 simple.Int))) (a_call 71 (an_operation 62 (a_list_type 61 list.Sequence (a_simple_type 60 simple.Int)) (codes
    "concat")) (expression_and (a_call 66 (an_operation 65 (a_list_type 64 list.Sequence (a_simple_type 63 simple.Int)) (codes "new")) no_expressions)
    (expression_and (elements 70 (a_list_type 68 list.Sequence (a_simple_type 67 simple.Int)) (expression_and (a_literal 69 (integer (codes "7")))
    no_expressions)) no_expressions)))) (statement_and (an_if 97 (clause_and (an_infix 88 op.And (a_prefix 78 sign.Not (a_call 77 (an_operation 75
    (a_list_type 74 list.Sequence (a_simple_type 73 simple.Int)) (codes "empty")) (expression_and (a_name 76 (codes "q")) no_expressions))) (a_call 87
    (an_operation 81 (a_list_type 80 list.Sequence (a_simple_type 79 simple.Int)) (codes "equal")) (expression_and (a_name 82 (codes "q"))
    (expression_and (elements 86 (a_list_type 84 list.Sequence (a_simple_type 83 simple.Int)) (expression_and (a_literal 85 (integer (codes "7")))
    no_expressions)) no_expressions)))) (a_body no_equates (statement_and (a_call_statement 96 (a_call 95 (an_operation 90 (a_named_type 89 (codes
    "stream") no_constants) (codes "puts")) (expression_and (a_call 93 (an_operation 92 (a_named_type 91 (codes "stream") no_constants) (codes
    "primary_output")) no_expressions) (expression_and (a_literal 94 (string (34 ∷ 113 ∷ 34 ∷ []))) no_expressions)))) no_statements)) no_clauses)
    nothing_else) (statement_and (a_for 116 (typed 99 ((codes "i") ∷ []) (a_simple_type 98 simple.Int) ∷ []) (a_call 104 (an_operation 102
    (a_list_type 101 list.Sequence (a_simple_type 100 simple.Int)) (codes "indexes")) (expression_and (a_name 103 (codes "q")) no_expressions))
    (a_body no_equates (statement_and (a_call_statement 115 (a_call 114 (an_operation 106 (a_named_type 105 (codes "stream") no_constants) (codes
    "puts")) (expression_and (a_call 109 (an_operation 108 (a_named_type 107 (codes "stream") no_constants) (codes "primary_output")) no_expressions)
    (expression_and (a_call 113 (an_operation 111 (a_simple_type 110 simple.Int) (codes "unparse")) (expression_and (a_name 112 (codes "i"))
    no_expressions)) no_expressions)))) no_statements))) no_statements)))))))) ∷ [])

abbrev operations_of_elements_by_name_declared : List Declared
operations_of_elements_by_name_declared =
    (d (codes "a") 6 7 117 (Some 0) ∷ d (codes "q") 72 73 117 (Some 0) ∷ d (codes "i") 99 105 115 (Some 0) ∷ d (codes "start_up") 117 0 4294967295
    None ∷ [])

operations_of_elements_by_name : Ends operations_of_elements_by_name_declared operations_of_elements_by_name_modules (codes "") 10000 returned_normally (codes "aq1")
unfolding executing computing digits
operations_of_elements_by_name = refl

-- % operations of components, tags and routines by name
-- start_up = proc ()
--   st = struct[a: int]
--   rc = record[a: int]
--   on = oneof[a: int]
--   vr = variant[a: int]
--   pt = proctype (int, int) returns (int) signals (overflow)
--   it = itertype (int, int) yields (int)
--   if st$equal(st${a: 1}, st$replace_a(st${a: 2}, 1)) & st$get_a(st${a: 1}) = 1 then stream$puts(stream$primary_output(), "s") end
--   r: rc := rc${a: 1}
--   rc$set_a(r, 2)
--   if rc$equal(r, r) & rc$similar1(r, rc$copy1(r)) & rc$get_a(r) = 2 then stream$puts(stream$primary_output(), "r") end
--   if on$equal(on$make_a(1), on$make_a(1)) & on$is_a(on$make_a(1)) then stream$puts(stream$primary_output(), "o") end
--   v: vr := vr$make_a(1)
--   vr$change_a(v, 3)
--   if vr$equal(v, v) & vr$similar1(v, vr$copy1(v)) & vr$value_a(v) = 3 then stream$puts(stream$primary_output(), "v") end
--   f: pt := int$add
--   if pt$equal(f, f) & pt$similar(f, pt$copy(f)) then stream$puts(stream$primary_output(), "p") end
--   g: it := int$from_to
--   if it$equal(g, g) & it$similar(g, it$copy(g)) then stream$puts(stream$primary_output(), "i") end
-- end start_up
abbrev operations_of_components_by_name_modules : List Module
operations_of_components_by_name_modules =
    ((a_routine 231 no_equates (routine 230 (codes "start_up") (codes "start_up") kind.Procedure [] ([]) no_types no_exceptions ([]) (equate_and
    (an_equate 3 (Some (codes "st")) (a_type (a_fields_type 2 fields_word.Struct (selector_and 1 ((codes "a") ∷ []) (a_simple_type 0 simple.Int)
    no_selectors)))) (equate_and (an_equate 7 (Some (codes "rc")) (a_type (a_fields_type 6 fields_word.Record (selector_and 5 ((codes "a") ∷ [])
    (a_simple_type 4 simple.Int) no_selectors)))) (equate_and (an_equate 11 (Some (codes "on")) (a_type (a_fields_type 10 fields_word.Oneof
    (selector_and 9 ((codes "a") ∷ []) (a_simple_type 8 simple.Int) no_selectors)))) (equate_and (an_equate 15 (Some (codes "vr")) (a_type
    (a_fields_type 14 fields_word.Variant (selector_and 13 ((codes "a") ∷ []) (a_simple_type 12 simple.Int) no_selectors)))) (equate_and (an_equate 23
    (Some (codes "pt")) (a_type (a_routine_type 22 kind.Procedure (type_and (a_simple_type 16 simple.Int) (type_and (a_simple_type 17 simple.Int)
    no_types)) (type_and (a_simple_type 18 simple.Int) no_types) (exception_and 20 (codes "overflow") no_types no_exceptions)))) (equate_and
    (an_equate 29 (Some (codes "it")) (a_type (a_routine_type 28 kind.Iterator (type_and (a_simple_type 24 simple.Int) (type_and (a_simple_type 25
    simple.Int) no_types)) (type_and (a_simple_type 26 simple.Int) no_types) no_exceptions))) no_equates)))))) ([]) (statement_and (an_if 63
    (clause_and (an_infix 54 op.And (a_call 44 (an_operation 31 (a_named_type 30 (codes "st") no_constants) (codes "equal")) (expression_and (fields
    35 (a_named_type 32 (codes "st") no_constants) (component_and 34 ((codes "a") ∷ []) (a_literal 33 (integer (codes "1"))) no_components))
    (expression_and (a_call 43 (an_operation 37 (a_named_type 36 (codes "st") no_constants) (codes "replace_a")) (expression_and (fields 41
    (a_named_type 38 (codes "st") no_constants) (component_and 40 ((codes "a") ∷ []) (a_literal 39 (integer (codes "2"))) no_components))
    (expression_and (a_literal 42 (integer (codes "1"))) no_expressions))) no_expressions))) (an_infix 53 op.Equal (a_call 51 (an_operation 46
    (a_named_type 45 (codes "st") no_constants) (codes "get_a")) (expression_and (fields 50 (a_named_type 47 (codes "st") no_constants) (component_and
    49 ((codes "a") ∷ []) (a_literal 48 (integer (codes "1"))) no_components)) no_expressions)) (a_literal 52 (integer (codes "1"))))) (a_body
    no_equates (statement_and (a_call_statement 62 (a_call 61 (an_operation 56 (a_named_type 55 (codes "stream") no_constants) (codes "puts"))
    (expression_and (a_call 59 (an_operation 58 (a_named_type 57 (codes "stream") no_constants) (codes "primary_output")) no_expressions)
    (expression_and (a_literal 60 (string (34 ∷ 115 ∷ 34 ∷ []))) no_expressions)))) no_statements)) no_clauses) nothing_else) (statement_and (an_init
    69 (a_variable (codes "r") (a_named_type 64 (codes "rc") no_constants)) (fields 68 (a_named_type 65 (codes "rc") no_constants) (component_and 67
    ((codes "a") ∷ []) (a_literal 66 (integer (codes "1"))) no_components))) (statement_and (a_call_statement 75 (a_call 74 (an_operation 71
    (a_named_type 70 (codes "rc") no_constants) (codes "set_a")) (expression_and (a_name 72 (codes "r")) (expression_and (a_literal 73 (integer (codes
    "2"))) no_expressions)))) (statement_and (an_if 105 (clause_and (an_infix 96 op.And (an_infix 89 op.And (a_call 80 (an_operation 77 (a_named_type
    76 (codes "rc") no_constants) (codes "equal")) (expression_and (a_name 78 (codes "r")) (expression_and (a_name 79 (codes "r")) no_expressions)))
    (a_call 88 (an_operation 82 (a_named_type 81 (codes "rc") no_constants) (codes "similar1")) (expression_and (a_name 83 (codes "r"))
    (expression_and (a_call 87 (an_operation 85 (a_named_type 84 (codes "rc") no_constants) (codes "copy1")) (expression_and (a_name 86 (codes "r"))
    no_expressions)) no_expressions)))) (an_infix 95 op.Equal (a_call 93 (an_operation 91 (a_named_type 90 (codes "rc") no_constants) (codes "get_a"))
    (expression_and (a_name 92 (codes "r")) no_expressions)) (a_literal 94 (integer (codes "2"))))) (a_body no_equates (statement_and
    (a_call_statement 104 (a_call 103 (an_operation 98 (a_named_type 97 (codes "stream") no_constants) (codes "puts")) (expression_and (a_call 101
    (an_operation 100 (a_named_type 99 (codes "stream") no_constants) (codes "primary_output")) no_expressions) (expression_and (a_literal 102 (string
    (34 ∷ 114 ∷ 34 ∷ []))) no_expressions)))) no_statements)) no_clauses) nothing_else) (statement_and (an_if 133 (clause_and (an_infix 124 op.And
    (a_call 116 (an_operation 107 (a_named_type 106 (codes "on") no_constants) (codes "equal")) (expression_and (a_call 111 (an_operation 109
    (a_named_type 108 (codes "on") no_constants) (codes "make_a")) (expression_and (a_literal 110 (integer (codes "1"))) no_expressions))
    (expression_and (a_call 115 (an_operation 113 (a_named_type 112 (codes "on") no_constants) (codes "make_a")) (expression_and (a_literal 114
    (integer (codes "1"))) no_expressions)) no_expressions))) (a_call 123 (an_operation 118 (a_named_type 117 (codes "on") no_constants) (codes
    "is_a")) (expression_and (a_call 122 (an_operation 120 (a_named_type 119 (codes "on") no_constants) (codes "make_a")) (expression_and (a_literal
    121 (integer (codes "1"))) no_expressions)) no_expressions))) (a_body no_equates (statement_and (a_call_statement 132 (a_call 131 (an_operation
    126 (a_named_type 125 (codes "stream") no_constants) (codes "puts")) (expression_and (a_call 129 (an_operation 128 (a_named_type 127 (codes
    "stream") no_constants) (codes "primary_output")) no_expressions) (expression_and (a_literal 130 (string (34 ∷ 111 ∷ 34 ∷ []))) no_expressions))))
    no_statements)) no_clauses) nothing_else) (statement_and (an_init 139 (a_variable (codes "v") (a_named_type 134 (codes "vr") no_constants))
    (a_call 138 (an_operation 136 (a_named_type 135 (codes "vr") no_constants) (codes "make_a")) (expression_and (a_literal 137 (integer (codes "1")))
    no_expressions))) (statement_and (a_call_statement 145 (a_call 144 (an_operation 141 (a_named_type 140 (codes "vr") no_constants) (codes
    "change_a")) (expression_and (a_name 142 (codes "v")) (expression_and (a_literal 143 (integer (codes "3"))) no_expressions)))) (statement_and
    (an_if 175 (clause_and (an_infix 166 op.And (an_infix 159 op.And (a_call 150 (an_operation 147 (a_named_type 146 (codes "vr") no_constants) (codes
    "equal")) (expression_and (a_name 148 (codes "v")) (expression_and (a_name 149 (codes "v")) no_expressions))) (a_call 158 (an_operation 152
    (a_named_type 151 (codes "vr") no_constants) (codes "similar1")) (expression_and (a_name 153 (codes "v")) (expression_and (a_call 157
    (an_operation 155 (a_named_type 154 (codes "vr") no_constants) (codes "copy1")) (expression_and (a_name 156 (codes "v")) no_expressions))
    no_expressions)))) (an_infix 165 op.Equal (a_call 163 (an_operation 161 (a_named_type 160 (codes "vr") no_constants) (codes "value_a"))
    (expression_and (a_name 162 (codes "v")) no_expressions)) (a_literal 164 (integer (codes "3"))))) (a_body no_equates (statement_and
    (a_call_statement 174 (a_call 173 (an_operation 168 (a_named_type 167 (codes "stream") no_constants) (codes "puts")) (expression_and (a_call 171
    (an_operation 170 (a_named_type 169 (codes "stream") no_constants) (codes "primary_output")) no_expressions) (expression_and (a_literal 172
    (string (34 ∷ 118 ∷ 34 ∷ []))) no_expressions)))) no_statements)) no_clauses) nothing_else) (statement_and (an_init 179 (a_variable (codes "f")
    (a_named_type 176 (codes "pt") no_constants)) (an_operation 178 (a_simple_type 177 simple.Int) (codes "add"))) (statement_and (an_if 202
    (clause_and (an_infix 193 op.And (a_call 184 (an_operation 181 (a_named_type 180 (codes "pt") no_constants) (codes "equal")) (expression_and
    (a_name 182 (codes "f")) (expression_and (a_name 183 (codes "f")) no_expressions))) (a_call 192 (an_operation 186 (a_named_type 185 (codes "pt")
    no_constants) (codes "similar")) (expression_and (a_name 187 (codes "f")) (expression_and (a_call 191 (an_operation 189 (a_named_type 188 (codes
    "pt") no_constants) (codes "copy")) (expression_and (a_name 190 (codes "f")) no_expressions)) no_expressions)))) (a_body no_equates (statement_and
    (a_call_statement 201 (a_call 200 (an_operation 195 (a_named_type 194 (codes "stream") no_constants) (codes "puts")) (expression_and (a_call 198
    (an_operation 197 (a_named_type 196 (codes "stream") no_constants) (codes "primary_output")) no_expressions) (expression_and (a_literal 199
    (string (34 ∷ 112 ∷ 34 ∷ []))) no_expressions)))) no_statements)) no_clauses) nothing_else) (statement_and (an_init 206 (a_variable (codes "g")
    (a_named_type 203 (codes "it") no_constants)) (an_operation 205 (a_simple_type 204 simple.Int) (codes "from_to"))) (statement_and (an_if 229
    (clause_and (an_infix 220 op.And (a_call 211 (an_operation 208 (a_named_type 207 (codes "it") no_constants) (codes "equal")) (expression_and
    (a_name 209 (codes "g")) (expression_and (a_name 210 (codes "g")) no_expressions))) (a_call 219 (an_operation 213 (a_named_type 212 (codes "it")
    no_constants) (codes "similar")) (expression_and (a_name 214 (codes "g")) (expression_and (a_call 218 (an_operation 216 (a_named_type 215 (codes
    "it") no_constants) (codes "copy")) (expression_and (a_name 217 (codes "g")) no_expressions)) no_expressions)))) (a_body no_equates (statement_and
    (a_call_statement 228 (a_call 227 (an_operation 222 (a_named_type 221 (codes "stream") no_constants) (codes "puts")) (expression_and (a_call 225
    (an_operation 224 (a_named_type 223 (codes "stream") no_constants) (codes "primary_output")) no_expressions) (expression_and (a_literal 226
    (string (34 ∷ 105 ∷ 34 ∷ []))) no_expressions)))) no_statements)) no_clauses) nothing_else) no_statements)))))))))))))) ∷ [])

abbrev operations_of_components_by_name_declared : List Declared
operations_of_components_by_name_declared =
    (d (codes "st") 3 0 230 (Some 0) ∷ d (codes "rc") 7 0 230 (Some 0) ∷ d (codes "on") 11 0 230 (Some 0) ∷ d (codes "vr") 15 0 230 (Some 0) ∷ d
    (codes "pt") 23 0 230 (Some 0) ∷ d (codes "it") 29 0 230 (Some 0) ∷ d (codes "r") 69 70 230 (Some 0) ∷ d (codes "v") 139 140 230 (Some 0) ∷ d
    (codes "f") 179 180 230 (Some 0) ∷ d (codes "g") 206 207 230 (Some 0) ∷ d (codes "start_up") 230 0 4294967295 None ∷ [])

operations_of_components_by_name : Ends operations_of_components_by_name_declared operations_of_components_by_name_modules (codes "") 10000 returned_normally (codes "srovpi")
unfolding executing computing digits
operations_of_components_by_name = refl
