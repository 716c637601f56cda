-- Programs that compute: structs and records. Each is the tree of the CLU above it.
use Rattle.std.specs.Fmt.{digits}
use Rattle.std.specs.Prelude.{refl, List, [], ◌∷◌, codes, Some, None}
use Rattle.clu_names.specs.declared.scopes.Declared.{Declared}
use Rattle.clu_syntax.specs.declared.words.Operator.TheVariants as op
use Rattle.clu_syntax.specs.declared.words.SimpleType.TheVariants as simple
use Rattle.clu_syntax.specs.declared.words.ListType.TheVariants as list
use Rattle.clu_syntax.specs.declared.words.FieldsType.TheVariants as fields_word
use Rattle.clu_syntax.specs.declared.words.RoutineKind.TheVariants as kind
use Rattle.clu_syntax.specs.Syntax.{integer, string, an_infix, a_literal, a_name, an_index, a_get, a_call, fields, elements, an_operation, no_expressions, expression_and, no_components, component_and, an_expression, a_type, no_constants, constant_and, a_simple_type, a_list_type, a_fields_type, a_named_type, no_types, no_selectors, selector_and, no_exceptions, an_equate, no_equates, equate_and, an_init, a_set_field, a_set_index, a_call_statement, an_if, no_statements, statement_and, a_body, no_clauses, clause_and, nothing_else, otherwise, Module, a_routine}
use Rattle.clu_layout.specs.Computing.{computing}
use Rattle.clu_meaning.specs.Run.{returned_normally}
use Rattle.clu_meaning.specs.Executing.{executing}
use Rattle.clu_meaning.proofs.Running.{d, typed, a_variable, routine, Runs}

-- % struct
-- tf = proc (b: bool) if b then stream$putl(stream$primary_output(), "T") else stream$putl(stream$primary_output(), "F") end end tf
-- start_up = proc ()
-- pt = struct[x, y: int] p: pt := pt${y: 2, x: 1} stream$putl(stream$primary_output(), int$unparse(p.x)) stream$putl(stream$primary_output(), int$unparse(pt$get_y(p)))
--   q: pt := pt$replace_x(p, 9) stream$putl(stream$primary_output(), int$unparse(p.x)) stream$putl(stream$primary_output(), int$unparse(q.x)) stream$putl(stream$primary_output(), int$unparse(q.y))
--   tf(p = q) tf(p = pt$replace_x(q, 1)) tf(pt$similar(p, p)) tf(pt$copy(p) = p) tf(p ~= q)
-- end start_up
abbrev struct_modules : List Module
struct_modules =
    ((a_routine 21 no_equates (routine 20 (codes "tf") (codes "tf") kind.Procedure [] (typed 1 ((codes "b") ∷ []) (a_simple_type 0 simple.Bool) ∷ [])
    no_types no_exceptions ([]) no_equates ([]) (statement_and (an_if 19 (clause_and (a_name 2 (codes "b")) (a_body no_equates (statement_and
    (a_call_statement 10 (a_call 9 (an_operation 4 (a_named_type 3 (codes "stream") no_constants) (codes "putl")) (expression_and (a_call 7
    (an_operation 6 (a_named_type 5 (codes "stream") no_constants) (codes "primary_output")) no_expressions) (expression_and (a_literal 8 (string (34
    ∷ 84 ∷ 34 ∷ []))) no_expressions)))) no_statements)) no_clauses) (otherwise (a_body no_equates (statement_and (a_call_statement 18 (a_call 17
    (an_operation 12 (a_named_type 11 (codes "stream") no_constants) (codes "putl")) (expression_and (a_call 15 (an_operation 14 (a_named_type 13
    (codes "stream") no_constants) (codes "primary_output")) no_expressions) (expression_and (a_literal 16 (string (34 ∷ 70 ∷ 34 ∷ [])))
    no_expressions)))) no_statements)))) no_statements))) ∷ (a_routine 143 no_equates (routine 142 (codes "start_up") (codes "start_up")
    kind.Procedure [] ([]) no_types no_exceptions ([]) (equate_and (an_equate 25 (Some (codes "pt")) (a_type (a_fields_type 24 fields_word.Struct
    (selector_and 23 ((codes "x") ∷ (codes "y") ∷ []) (a_simple_type 22 simple.Int) no_selectors)))) no_equates) ([]) (statement_and (an_init 33
    (a_variable (codes "p") (a_named_type 26 (codes "pt") no_constants)) (fields 32 (a_named_type 27 (codes "pt") no_constants) (component_and 29
    ((codes "y") ∷ []) (a_literal 28 (integer (codes "2"))) (component_and 31 ((codes "x") ∷ []) (a_literal 30 (integer (codes "1")))
    no_components)))) (statement_and (a_call_statement 45 (a_call 44 (an_operation 35 (a_named_type 34 (codes "stream") no_constants) (codes "putl"))
    (expression_and (a_call 38 (an_operation 37 (a_named_type 36 (codes "stream") no_constants) (codes "primary_output")) no_expressions)
    (expression_and (a_call 43 (an_operation 40 (a_simple_type 39 simple.Int) (codes "unparse")) (expression_and (a_get 42 (a_name 41 (codes "p"))
    (codes "x")) no_expressions)) no_expressions)))) (statement_and (a_call_statement 59 (a_call 58 (an_operation 47 (a_named_type 46 (codes "stream")
    no_constants) (codes "putl")) (expression_and (a_call 50 (an_operation 49 (a_named_type 48 (codes "stream") no_constants) (codes
    "primary_output")) no_expressions) (expression_and (a_call 57 (an_operation 52 (a_simple_type 51 simple.Int) (codes "unparse")) (expression_and
    (a_call 56 (an_operation 54 (a_named_type 53 (codes "pt") no_constants) (codes "get_y")) (expression_and (a_name 55 (codes "p")) no_expressions))
    no_expressions)) no_expressions)))) (statement_and (an_init 66 (a_variable (codes "q") (a_named_type 60 (codes "pt") no_constants)) (a_call 65
    (an_operation 62 (a_named_type 61 (codes "pt") no_constants) (codes "replace_x")) (expression_and (a_name 63 (codes "p")) (expression_and
    (a_literal 64 (integer (codes "9"))) no_expressions)))) (statement_and (a_call_statement 78 (a_call 77 (an_operation 68 (a_named_type 67 (codes
    "stream") no_constants) (codes "putl")) (expression_and (a_call 71 (an_operation 70 (a_named_type 69 (codes "stream") no_constants) (codes
    "primary_output")) no_expressions) (expression_and (a_call 76 (an_operation 73 (a_simple_type 72 simple.Int) (codes "unparse")) (expression_and
    (a_get 75 (a_name 74 (codes "p")) (codes "x")) no_expressions)) no_expressions)))) (statement_and (a_call_statement 90 (a_call 89 (an_operation 80
    (a_named_type 79 (codes "stream") no_constants) (codes "putl")) (expression_and (a_call 83 (an_operation 82 (a_named_type 81 (codes "stream")
    no_constants) (codes "primary_output")) no_expressions) (expression_and (a_call 88 (an_operation 85 (a_simple_type 84 simple.Int) (codes
    "unparse")) (expression_and (a_get 87 (a_name 86 (codes "q")) (codes "x")) no_expressions)) no_expressions)))) (statement_and (a_call_statement
    102 (a_call 101 (an_operation 92 (a_named_type 91 (codes "stream") no_constants) (codes "putl")) (expression_and (a_call 95 (an_operation 94
    (a_named_type 93 (codes "stream") no_constants) (codes "primary_output")) no_expressions) (expression_and (a_call 100 (an_operation 97
    (a_simple_type 96 simple.Int) (codes "unparse")) (expression_and (a_get 99 (a_name 98 (codes "q")) (codes "y")) no_expressions))
    no_expressions)))) (statement_and (a_call_statement 108 (a_call 107 (a_name 103 (codes "tf")) (expression_and (an_infix 106 op.Equal (a_name 104
    (codes "p")) (a_name 105 (codes "q"))) no_expressions))) (statement_and (a_call_statement 118 (a_call 117 (a_name 109 (codes "tf"))
    (expression_and (an_infix 116 op.Equal (a_name 110 (codes "p")) (a_call 115 (an_operation 112 (a_named_type 111 (codes "pt") no_constants) (codes
    "replace_x")) (expression_and (a_name 113 (codes "q")) (expression_and (a_literal 114 (integer (codes "1"))) no_expressions)))) no_expressions)))
    (statement_and (a_call_statement 126 (a_call 125 (a_name 119 (codes "tf")) (expression_and (a_call 124 (an_operation 121 (a_named_type 120 (codes
    "pt") no_constants) (codes "similar")) (expression_and (a_name 122 (codes "p")) (expression_and (a_name 123 (codes "p")) no_expressions)))
    no_expressions))) (statement_and (a_call_statement 135 (a_call 134 (a_name 127 (codes "tf")) (expression_and (an_infix 133 op.Equal (a_call 131
    (an_operation 129 (a_named_type 128 (codes "pt") no_constants) (codes "copy")) (expression_and (a_name 130 (codes "p")) no_expressions)) (a_name
    132 (codes "p"))) no_expressions))) (statement_and (a_call_statement 141 (a_call 140 (a_name 136 (codes "tf")) (expression_and (an_infix 139
    op.NotEqual (a_name 137 (codes "p")) (a_name 138 (codes "q"))) no_expressions))) no_statements)))))))))))))) ∷ [])

abbrev struct_declared : List Declared
struct_declared =
    (d (codes "b") 1 2 20 (Some 0) ∷ d (codes "tf") 20 0 4294967295 None ∷ d (codes "pt") 25 22 142 (Some 0) ∷ d (codes "p") 33 34 142 (Some 0) ∷ d
    (codes "q") 66 67 142 (Some 0) ∷ d (codes "start_up") 142 0 4294967295 None ∷ [])

struct : Runs struct_declared struct_modules (codes "") 10000 returned_normally (49 ∷ 10 ∷ 50 ∷ 10 ∷ 49 ∷ 10 ∷ 57 ∷ 10 ∷ 50 ∷ 10 ∷ 70 ∷ 10 ∷ 84 ∷ 10 ∷ 84 ∷ 10 ∷ 84 ∷ 10 ∷ 84 ∷ 10 ∷ []) 32 390
unfolding executing computing digits
struct = refl

-- % struct-order
-- start_up = proc ()
-- st = struct[b: int, a: int, c: int] s: st := st${c: 3, a, b: 1}
--   stream$putl(stream$primary_output(), int$unparse(s.a)) stream$putl(stream$primary_output(), int$unparse(s.b)) stream$putl(stream$primary_output(), int$unparse(s.c))
-- end start_up
abbrev struct_order_modules : List Module
struct_order_modules =
    ((a_routine 53 no_equates (routine 52 (codes "start_up") (codes "start_up") kind.Procedure [] ([]) no_types no_exceptions ([]) (equate_and
    (an_equate 7 (Some (codes "st")) (a_type (a_fields_type 6 fields_word.Struct (selector_and 1 ((codes "b") ∷ []) (a_simple_type 0 simple.Int)
    (selector_and 3 ((codes "a") ∷ []) (a_simple_type 2 simple.Int) (selector_and 5 ((codes "c") ∷ []) (a_simple_type 4 simple.Int) no_selectors))))))
    no_equates) ([]) (statement_and (an_init 15 (a_variable (codes "s") (a_named_type 8 (codes "st") no_constants)) (fields 14 (a_named_type 9 (codes
    "st") no_constants) (component_and 11 ((codes "c") ∷ []) (a_literal 10 (integer (codes "3"))) (component_and 13 ((codes "a") ∷ (codes "b") ∷ [])
    (a_literal 12 (integer (codes "1"))) no_components)))) (statement_and (a_call_statement 27 (a_call 26 (an_operation 17 (a_named_type 16 (codes
    "stream") no_constants) (codes "putl")) (expression_and (a_call 20 (an_operation 19 (a_named_type 18 (codes "stream") no_constants) (codes
    "primary_output")) no_expressions) (expression_and (a_call 25 (an_operation 22 (a_simple_type 21 simple.Int) (codes "unparse")) (expression_and
    (a_get 24 (a_name 23 (codes "s")) (codes "a")) no_expressions)) no_expressions)))) (statement_and (a_call_statement 39 (a_call 38 (an_operation 29
    (a_named_type 28 (codes "stream") no_constants) (codes "putl")) (expression_and (a_call 32 (an_operation 31 (a_named_type 30 (codes "stream")
    no_constants) (codes "primary_output")) no_expressions) (expression_and (a_call 37 (an_operation 34 (a_simple_type 33 simple.Int) (codes
    "unparse")) (expression_and (a_get 36 (a_name 35 (codes "s")) (codes "b")) no_expressions)) no_expressions)))) (statement_and (a_call_statement 51
    (a_call 50 (an_operation 41 (a_named_type 40 (codes "stream") no_constants) (codes "putl")) (expression_and (a_call 44 (an_operation 43
    (a_named_type 42 (codes "stream") no_constants) (codes "primary_output")) no_expressions) (expression_and (a_call 49 (an_operation 46
    (a_simple_type 45 simple.Int) (codes "unparse")) (expression_and (a_get 48 (a_name 47 (codes "s")) (codes "c")) no_expressions))
    no_expressions)))) no_statements)))))) ∷ [])

abbrev struct_order_declared : List Declared
struct_order_declared =
    (d (codes "st") 7 0 52 (Some 0) ∷ d (codes "s") 15 16 52 (Some 0) ∷ d (codes "start_up") 52 0 4294967295 None ∷ [])

struct_order : Runs struct_order_declared struct_order_modules (codes "") 10000 returned_normally (49 ∷ 10 ∷ 49 ∷ 10 ∷ 51 ∷ 10 ∷ []) 16 190
unfolding executing computing digits
struct_order = refl

-- % record-deep
-- tf = proc (b: bool) if b then stream$putl(stream$primary_output(), "T") else stream$putl(stream$primary_output(), "F") end end tf
-- start_up = proc ()
-- ai = array[int] rc = record[a: ai] r: rc := rc${a: ai$[1]} s: rc := rc$copy(r)
--   tf(rc$similar(r, s)) tf(rc$similar1(r, s)) tf(rc$similar1(r, rc$copy1(r))) s.a[1] := 2
--   stream$putl(stream$primary_output(), int$unparse(r.a[1])) rc$copy1(r).a[1] := 3 stream$putl(stream$primary_output(), int$unparse(r.a[1]))
-- end start_up
abbrev record_deep_modules : List Module
record_deep_modules =
    ((a_routine 21 no_equates (routine 20 (codes "tf") (codes "tf") kind.Procedure [] (typed 1 ((codes "b") ∷ []) (a_simple_type 0 simple.Bool) ∷ [])
    no_types no_exceptions ([]) no_equates ([]) (statement_and (an_if 19 (clause_and (a_name 2 (codes "b")) (a_body no_equates (statement_and
    (a_call_statement 10 (a_call 9 (an_operation 4 (a_named_type 3 (codes "stream") no_constants) (codes "putl")) (expression_and (a_call 7
    (an_operation 6 (a_named_type 5 (codes "stream") no_constants) (codes "primary_output")) no_expressions) (expression_and (a_literal 8 (string (34
    ∷ 84 ∷ 34 ∷ []))) no_expressions)))) no_statements)) no_clauses) (otherwise (a_body no_equates (statement_and (a_call_statement 18 (a_call 17
    (an_operation 12 (a_named_type 11 (codes "stream") no_constants) (codes "putl")) (expression_and (a_call 15 (an_operation 14 (a_named_type 13
    (codes "stream") no_constants) (codes "primary_output")) no_expressions) (expression_and (a_literal 16 (string (34 ∷ 70 ∷ 34 ∷ [])))
    no_expressions)))) no_statements)))) no_statements))) ∷ (a_routine 112 no_equates (routine 111 (codes "start_up") (codes "start_up")
    kind.Procedure [] ([]) no_types no_exceptions ([]) (equate_and (an_equate 24 (Some (codes "ai")) (a_type (a_list_type 23 list.Array (a_simple_type
    22 simple.Int)))) (equate_and (an_equate 28 (Some (codes "rc")) (a_type (a_fields_type 27 fields_word.Record (selector_and 26 ((codes "a") ∷ [])
    (a_named_type 25 (codes "ai") no_constants) no_selectors)))) no_equates)) ([]) (statement_and (an_init 36 (a_variable (codes "r") (a_named_type 29
    (codes "rc") no_constants)) (fields 35 (a_named_type 30 (codes "rc") no_constants) (component_and 34 ((codes "a") ∷ []) (elements 33 (a_named_type
    31 (codes "ai") no_constants) (expression_and (a_literal 32 (integer (codes "1"))) no_expressions)) no_components))) (statement_and (an_init 42
    (a_variable (codes "s") (a_named_type 37 (codes "rc") no_constants)) (a_call 41 (an_operation 39 (a_named_type 38 (codes "rc") no_constants)
    (codes "copy")) (expression_and (a_name 40 (codes "r")) no_expressions))) (statement_and (a_call_statement 50 (a_call 49 (a_name 43 (codes "tf"))
    (expression_and (a_call 48 (an_operation 45 (a_named_type 44 (codes "rc") no_constants) (codes "similar")) (expression_and (a_name 46 (codes "r"))
    (expression_and (a_name 47 (codes "s")) no_expressions))) no_expressions))) (statement_and (a_call_statement 58 (a_call 57 (a_name 51 (codes
    "tf")) (expression_and (a_call 56 (an_operation 53 (a_named_type 52 (codes "rc") no_constants) (codes "similar1")) (expression_and (a_name 54
    (codes "r")) (expression_and (a_name 55 (codes "s")) no_expressions))) no_expressions))) (statement_and (a_call_statement 69 (a_call 68 (a_name 59
    (codes "tf")) (expression_and (a_call 67 (an_operation 61 (a_named_type 60 (codes "rc") no_constants) (codes "similar1")) (expression_and (a_name
    62 (codes "r")) (expression_and (a_call 66 (an_operation 64 (a_named_type 63 (codes "rc") no_constants) (codes "copy1")) (expression_and (a_name
    65 (codes "r")) no_expressions)) no_expressions))) no_expressions))) (statement_and (a_set_index 74 (a_get 71 (a_name 70 (codes "s")) (codes "a"))
    (a_literal 72 (integer (codes "1"))) (a_literal 73 (integer (codes "2")))) (statement_and (a_call_statement 88 (a_call 87 (an_operation 76
    (a_named_type 75 (codes "stream") no_constants) (codes "putl")) (expression_and (a_call 79 (an_operation 78 (a_named_type 77 (codes "stream")
    no_constants) (codes "primary_output")) no_expressions) (expression_and (a_call 86 (an_operation 81 (a_simple_type 80 simple.Int) (codes
    "unparse")) (expression_and (an_index 85 (a_get 83 (a_name 82 (codes "r")) (codes "a")) (constant_and (an_expression (a_literal 84 (integer (codes
    "1")))) no_constants)) no_expressions)) no_expressions)))) (statement_and (a_set_index 96 (a_get 93 (a_call 92 (an_operation 90 (a_named_type 89
    (codes "rc") no_constants) (codes "copy1")) (expression_and (a_name 91 (codes "r")) no_expressions)) (codes "a")) (a_literal 94 (integer (codes
    "1"))) (a_literal 95 (integer (codes "3")))) (statement_and (a_call_statement 110 (a_call 109 (an_operation 98 (a_named_type 97 (codes "stream")
    no_constants) (codes "putl")) (expression_and (a_call 101 (an_operation 100 (a_named_type 99 (codes "stream") no_constants) (codes
    "primary_output")) no_expressions) (expression_and (a_call 108 (an_operation 103 (a_simple_type 102 simple.Int) (codes "unparse")) (expression_and
    (an_index 107 (a_get 105 (a_name 104 (codes "r")) (codes "a")) (constant_and (an_expression (a_literal 106 (integer (codes "1")))) no_constants))
    no_expressions)) no_expressions)))) no_statements))))))))))) ∷ [])

abbrev record_deep_declared : List Declared
record_deep_declared =
    (d (codes "b") 1 2 20 (Some 0) ∷ d (codes "tf") 20 0 4294967295 None ∷ d (codes "ai") 24 22 111 (Some 0) ∷ d (codes "rc") 28 22 111 (Some 0) ∷ d
    (codes "r") 36 37 111 (Some 0) ∷ d (codes "s") 42 43 111 (Some 0) ∷ d (codes "start_up") 111 0 4294967295 None ∷ [])

record_deep : Runs record_deep_declared record_deep_modules (codes "") 10000 returned_normally (84 ∷ 10 ∷ 70 ∷ 10 ∷ 84 ∷ 10 ∷ 49 ∷ 10 ∷ 51 ∷ 10 ∷ []) 33 774
unfolding executing computing digits
record_deep = refl

-- % records
-- start_up = proc ()
-- r = record[a: int, b: string] x: r := r${b: "s", a: 1} y: r := x y.a := 5 stream$putl(stream$primary_output(), int$unparse(x.a)) z: r := r$copy(x) z.b := "t"
-- stream$putl(stream$primary_output(), x.b) if x = y then stream$putl(stream$primary_output(), "same") end if x ~= z then stream$putl(stream$primary_output(), "other") end z.b := "s" if r$similar(x, z) then stream$putl(stream$primary_output(), "alike") end
-- end start_up
abbrev records_modules : List Module
records_modules =
    ((a_routine 92 no_equates (routine 91 (codes "start_up") (codes "start_up") kind.Procedure [] ([]) no_types no_exceptions ([]) (equate_and
    (an_equate 5 (Some (codes "r")) (a_type (a_fields_type 4 fields_word.Record (selector_and 1 ((codes "a") ∷ []) (a_simple_type 0 simple.Int)
    (selector_and 3 ((codes "b") ∷ []) (a_simple_type 2 simple.String) no_selectors))))) no_equates) ([]) (statement_and (an_init 13 (a_variable
    (codes "x") (a_named_type 6 (codes "r") no_constants)) (fields 12 (a_named_type 7 (codes "r") no_constants) (component_and 9 ((codes "b") ∷ [])
    (a_literal 8 (string (34 ∷ 115 ∷ 34 ∷ []))) (component_and 11 ((codes "a") ∷ []) (a_literal 10 (integer (codes "1"))) no_components))))
    (statement_and (an_init 16 (a_variable (codes "y") (a_named_type 14 (codes "r") no_constants)) (a_name 15 (codes "x"))) (statement_and
    (a_set_field 19 (a_name 17 (codes "y")) (codes "a") (a_literal 18 (integer (codes "5")))) (statement_and (a_call_statement 31 (a_call 30
    (an_operation 21 (a_named_type 20 (codes "stream") no_constants) (codes "putl")) (expression_and (a_call 24 (an_operation 23 (a_named_type 22
    (codes "stream") no_constants) (codes "primary_output")) no_expressions) (expression_and (a_call 29 (an_operation 26 (a_simple_type 25 simple.Int)
    (codes "unparse")) (expression_and (a_get 28 (a_name 27 (codes "x")) (codes "a")) no_expressions)) no_expressions)))) (statement_and (an_init 37
    (a_variable (codes "z") (a_named_type 32 (codes "r") no_constants)) (a_call 36 (an_operation 34 (a_named_type 33 (codes "r") no_constants) (codes
    "copy")) (expression_and (a_name 35 (codes "x")) no_expressions))) (statement_and (a_set_field 40 (a_name 38 (codes "z")) (codes "b") (a_literal
    39 (string (34 ∷ 116 ∷ 34 ∷ [])))) (statement_and (a_call_statement 49 (a_call 48 (an_operation 42 (a_named_type 41 (codes "stream") no_constants)
    (codes "putl")) (expression_and (a_call 45 (an_operation 44 (a_named_type 43 (codes "stream") no_constants) (codes "primary_output"))
    no_expressions) (expression_and (a_get 47 (a_name 46 (codes "x")) (codes "b")) no_expressions)))) (statement_and (an_if 61 (clause_and (an_infix
    52 op.Equal (a_name 50 (codes "x")) (a_name 51 (codes "y"))) (a_body no_equates (statement_and (a_call_statement 60 (a_call 59 (an_operation 54
    (a_named_type 53 (codes "stream") no_constants) (codes "putl")) (expression_and (a_call 57 (an_operation 56 (a_named_type 55 (codes "stream")
    no_constants) (codes "primary_output")) no_expressions) (expression_and (a_literal 58 (string (34 ∷ 115 ∷ 97 ∷ 109 ∷ 101 ∷ 34 ∷ [])))
    no_expressions)))) no_statements)) no_clauses) nothing_else) (statement_and (an_if 73 (clause_and (an_infix 64 op.NotEqual (a_name 62 (codes "x"))
    (a_name 63 (codes "z"))) (a_body no_equates (statement_and (a_call_statement 72 (a_call 71 (an_operation 66 (a_named_type 65 (codes "stream")
    no_constants) (codes "putl")) (expression_and (a_call 69 (an_operation 68 (a_named_type 67 (codes "stream") no_constants) (codes
    "primary_output")) no_expressions) (expression_and (a_literal 70 (string (34 ∷ 111 ∷ 116 ∷ 104 ∷ 101 ∷ 114 ∷ 34 ∷ []))) no_expressions))))
    no_statements)) no_clauses) nothing_else) (statement_and (a_set_field 76 (a_name 74 (codes "z")) (codes "b") (a_literal 75 (string (34 ∷ 115 ∷ 34
    ∷ [])))) (statement_and (an_if 90 (clause_and (a_call 81 (an_operation 78 (a_named_type 77 (codes "r") no_constants) (codes "similar"))
    (expression_and (a_name 79 (codes "x")) (expression_and (a_name 80 (codes "z")) no_expressions))) (a_body no_equates (statement_and
    (a_call_statement 89 (a_call 88 (an_operation 83 (a_named_type 82 (codes "stream") no_constants) (codes "putl")) (expression_and (a_call 86
    (an_operation 85 (a_named_type 84 (codes "stream") no_constants) (codes "primary_output")) no_expressions) (expression_and (a_literal 87 (string
    (34 ∷ 97 ∷ 108 ∷ 105 ∷ 107 ∷ 101 ∷ 34 ∷ []))) no_expressions)))) no_statements)) no_clauses) nothing_else) no_statements))))))))))))) ∷ [])

abbrev records_declared : List Declared
records_declared =
    (d (codes "r") 5 0 91 (Some 0) ∷ d (codes "x") 13 14 91 (Some 0) ∷ d (codes "y") 16 17 91 (Some 0) ∷ d (codes "z") 37 38 91 (Some 0) ∷ d (codes
    "start_up") 91 0 4294967295 None ∷ [])

records : Runs records_declared records_modules (codes "") 10000 returned_normally (53 ∷ 10 ∷ 115 ∷ 10 ∷ 115 ∷ 97 ∷ 109 ∷ 101 ∷ 10 ∷ 111 ∷ 116 ∷ 104 ∷ 101 ∷ 114 ∷ 10 ∷ 97 ∷ 108 ∷ 105 ∷ 107 ∷ 101 ∷ 10 ∷ []) 10 330
unfolding executing computing digits
records = refl
