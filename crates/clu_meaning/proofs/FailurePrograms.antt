-- Programs that compute: unhandled exceptions. Each is the tree of the CLU above it.
use Rattle.std.specs.Fmt.{digits}
use Rattle.std.specs.Prelude.{refl, List, [], ◌∷◌, codes, Some, None}
use Rattle.clu_names.specs.declared.scopes.Declared.{Declared}
use Rattle.clu_syntax.specs.declared.words.Operator.TheVariants as op
use Rattle.clu_syntax.specs.declared.words.Sign.TheVariants as sign
use Rattle.clu_syntax.specs.declared.words.SimpleType.TheVariants as simple
use Rattle.clu_syntax.specs.declared.words.FieldsType.TheVariants as fields_word
use Rattle.clu_syntax.specs.declared.words.RoutineKind.TheVariants as kind
use Rattle.clu_syntax.specs.Syntax.{integer, string, an_infix, a_prefix, a_paren, a_literal, a_name, a_call, fields, an_operation, no_expressions, expression_and, no_components, component_and, a_type, no_constants, a_simple_type, a_fields_type, a_named_type, no_types, type_and, no_selectors, selector_and, no_exceptions, exception_and, an_equate, no_equates, equate_and, objects, an_init, a_call_statement, a_for, an_if, a_return, a_yield, a_signal, a_resignal, an_except, no_statements, statement_and, a_body, no_clauses, clause_and, nothing_else, no_whens, when_and, others, Module, a_routine}
use Rattle.clu_layout.specs.Computing.{computing}
use Rattle.clu_meaning.specs.Run.{returned_normally, failure_with}
use Rattle.clu_meaning.specs.Executing.{executing}
use Rattle.clu_meaning.proofs.Running.{d, typed, a_variable, routine, Runs}

-- % a worked example
-- start_up = proc ()
--
-- end start_up
abbrev example_6_modules : List Module
example_6_modules =
    ((a_routine 1 no_equates (routine 0 (codes "start_up") (codes "start_up") kind.Procedure [] ([]) no_types no_exceptions ([]) no_equates ([])
    no_statements)) ∷ [])

abbrev example_6_declared : List Declared
example_6_declared =
    (d (codes "start_up") 0 0 4294967295 None ∷ [])

example_6 : Runs example_6_declared example_6_modules (codes "") 10000 returned_normally (codes "") 0 84
unfolding executing computing digits
example_6 = refl

-- % a worked example
-- start_up = proc ()
-- x: int := 9223372036854775807 + 1
-- end start_up
abbrev example_7_modules : List Module
example_7_modules =
    ((a_routine 6 no_equates (routine 5 (codes "start_up") (codes "start_up") kind.Procedure [] ([]) no_types no_exceptions ([]) no_equates ([])
    (statement_and (an_init 4 (a_variable (codes "x") (a_simple_type 0 simple.Int)) (an_infix 3 op.Add (a_literal 1 (integer (codes
    "9223372036854775807"))) (a_literal 2 (integer (codes "1"))))) no_statements))) ∷ [])

abbrev example_7_declared : List Declared
example_7_declared =
    (d (codes "x") 4 5 5 (Some 0) ∷ d (codes "start_up") 5 0 4294967295 None ∷ [])

example_7 : Runs example_7_declared example_7_modules (codes "") 10000 (failure_with (codes "unhandled exception: overflow")) (codes "") 5 94
unfolding executing computing digits
example_7 = refl

-- % a worked example
-- START_UP = proc () % note
-- stream$puts(stream$primary_output(), "a\tb\101"); end start_up
abbrev example_8_modules : List Module
example_8_modules =
    ((a_routine 9 no_equates (routine 8 (codes "start_up") (codes "start_up") kind.Procedure [] ([]) no_types no_exceptions ([]) no_equates ([])
    (statement_and (a_call_statement 7 (a_call 6 (an_operation 1 (a_named_type 0 (codes "stream") no_constants) (codes "puts")) (expression_and
    (a_call 4 (an_operation 3 (a_named_type 2 (codes "stream") no_constants) (codes "primary_output")) no_expressions) (expression_and (a_literal 5
    (string (34 ∷ 97 ∷ 92 ∷ 116 ∷ 98 ∷ 92 ∷ 49 ∷ 48 ∷ 49 ∷ 34 ∷ []))) no_expressions)))) no_statements))) ∷ [])

abbrev example_8_declared : List Declared
example_8_declared =
    (d (codes "start_up") 8 0 4294967295 None ∷ [])

example_8 : Runs example_8_declared example_8_modules (codes "") 10000 returned_normally (97 ∷ 9 ∷ 98 ∷ 65 ∷ []) 0 100
unfolding executing computing digits
example_8 = refl

-- % a worked example
-- p = proc () returns (int) end p
-- start_up = proc () x: int := p() end start_up
abbrev example_9_modules : List Module
example_9_modules =
    ((a_routine 3 no_equates (routine 2 (codes "p") (codes "p") kind.Procedure [] ([]) (type_and (a_simple_type 0 simple.Int) no_types) no_exceptions
    ([]) no_equates ([]) no_statements)) ∷ (a_routine 9 no_equates (routine 8 (codes "start_up") (codes "start_up") kind.Procedure [] ([]) no_types
    no_exceptions ([]) no_equates ([]) (statement_and (an_init 7 (a_variable (codes "x") (a_simple_type 4 simple.Int)) (a_call 6 (a_name 5 (codes
    "p")) no_expressions)) no_statements))) ∷ [])

abbrev example_9_declared : List Declared
example_9_declared =
    (d (codes "p") 2 0 4294967295 None ∷ d (codes "x") 7 8 8 (Some 0) ∷ d (codes "start_up") 8 0 4294967295 None ∷ [])

example_9 : Runs example_9_declared example_9_modules (codes "") 10000 (failure_with (codes "no return values")) (codes "") 0 116
unfolding executing computing digits
example_9 = refl

-- % a worked example
-- start_up = proc ()
-- stream$putl(stream$primary_output(), int$unparse((-9223372036854775807 - 1) / -1))
-- end start_up
abbrev example_10_modules : List Module
example_10_modules =
    ((a_routine 19 no_equates (routine 18 (codes "start_up") (codes "start_up") kind.Procedure [] ([]) no_types no_exceptions ([]) no_equates ([])
    (statement_and (a_call_statement 17 (a_call 16 (an_operation 1 (a_named_type 0 (codes "stream") no_constants) (codes "putl")) (expression_and
    (a_call 4 (an_operation 3 (a_named_type 2 (codes "stream") no_constants) (codes "primary_output")) no_expressions) (expression_and (a_call 15
    (an_operation 6 (a_simple_type 5 simple.Int) (codes "unparse")) (expression_and (an_infix 14 op.Divide (a_paren 11 (an_infix 10 op.Subtract
    (a_prefix 8 sign.Minus (a_literal 7 (integer (codes "9223372036854775807")))) (a_literal 9 (integer (codes "1"))))) (a_prefix 13 sign.Minus
    (a_literal 12 (integer (codes "1"))))) no_expressions)) no_expressions)))) no_statements))) ∷ [])

abbrev example_10_declared : List Declared
example_10_declared =
    (d (codes "start_up") 18 0 4294967295 None ∷ [])

example_10 : Runs example_10_declared example_10_modules (codes "") 10000 (failure_with (codes "unhandled exception: overflow")) (codes "") 5 120
unfolding executing computing digits
example_10 = refl

-- % a worked example
-- start_up = proc ()
-- pt = struct[x, y: int]
--   if pt${x: 1, y: 2} = pt${y: 2, x: 1} then stream$putl(stream$primary_output(), "same") end
-- end start_up
abbrev example_11_modules : List Module
example_11_modules =
    ((a_routine 27 no_equates (routine 26 (codes "start_up") (codes "start_up") kind.Procedure [] ([]) no_types no_exceptions ([]) (equate_and
    (an_equate 3 (Some (codes "pt")) (a_type (a_fields_type 2 fields_word.Struct (selector_and 1 ((codes "x") ∷ (codes "y") ∷ []) (a_simple_type 0
    simple.Int) no_selectors)))) no_equates) ([]) (statement_and (an_if 25 (clause_and (an_infix 16 op.Equal (fields 9 (a_named_type 4 (codes "pt")
    no_constants) (component_and 6 ((codes "x") ∷ []) (a_literal 5 (integer (codes "1"))) (component_and 8 ((codes "y") ∷ []) (a_literal 7 (integer
    (codes "2"))) no_components))) (fields 15 (a_named_type 10 (codes "pt") no_constants) (component_and 12 ((codes "y") ∷ []) (a_literal 11 (integer
    (codes "2"))) (component_and 14 ((codes "x") ∷ []) (a_literal 13 (integer (codes "1"))) no_components)))) (a_body no_equates (statement_and
    (a_call_statement 24 (a_call 23 (an_operation 18 (a_named_type 17 (codes "stream") no_constants) (codes "putl")) (expression_and (a_call 21
    (an_operation 20 (a_named_type 19 (codes "stream") no_constants) (codes "primary_output")) no_expressions) (expression_and (a_literal 22 (string
    (34 ∷ 115 ∷ 97 ∷ 109 ∷ 101 ∷ 34 ∷ []))) no_expressions)))) no_statements)) no_clauses) nothing_else) no_statements))) ∷ [])

abbrev example_11_declared : List Declared
example_11_declared =
    (d (codes "pt") 3 0 26 (Some 0) ∷ d (codes "start_up") 26 0 4294967295 None ∷ [])

example_11 : Runs example_11_declared example_11_modules (codes "") 10000 returned_normally (115 ∷ 97 ∷ 109 ∷ 101 ∷ 10 ∷ []) 6 202
unfolding executing computing digits
example_11 = refl

-- % a worked example
-- p = proc () signals (e(int)) signal e(7) end p
-- q = proc () signals (e(int)) p() resignal e end q
-- start_up = proc () q() except when e (n: int): stream$putl(stream$primary_output(), int$unparse(n)) others: stream$putl(stream$primary_output(), "other") end end start_up
abbrev example_12_modules : List Module
example_12_modules =
    ((a_routine 6 no_equates (routine 5 (codes "p") (codes "p") kind.Procedure [] ([]) no_types (exception_and 1 (codes "e") (type_and (a_simple_type
    0 simple.Int) no_types) no_exceptions) ([]) no_equates ([]) (statement_and (a_signal 4 (codes "e") (expression_and (a_literal 3 (integer (codes
    "7"))) no_expressions)) no_statements))) ∷ (a_routine 15 no_equates (routine 14 (codes "q") (codes "q") kind.Procedure [] ([]) no_types
    (exception_and 8 (codes "e") (type_and (a_simple_type 7 simple.Int) no_types) no_exceptions) ([]) no_equates ([]) (statement_and (a_resignal 13
    (a_call_statement 12 (a_call 11 (a_name 10 (codes "p")) no_expressions)) ((codes "e") ∷ [])) no_statements))) ∷ (a_routine 44 no_equates (routine
    43 (codes "start_up") (codes "start_up") kind.Procedure [] ([]) no_types no_exceptions ([]) no_equates ([]) (statement_and (an_except 42
    (a_call_statement 18 (a_call 17 (a_name 16 (codes "q")) no_expressions)) (when_and 32 ((codes "e") ∷ []) (objects (typed 20 ((codes "n") ∷ [])
    (a_simple_type 19 simple.Int) ∷ [])) (a_body no_equates (statement_and (a_call_statement 31 (a_call 30 (an_operation 22 (a_named_type 21 (codes
    "stream") no_constants) (codes "putl")) (expression_and (a_call 25 (an_operation 24 (a_named_type 23 (codes "stream") no_constants) (codes
    "primary_output")) no_expressions) (expression_and (a_call 29 (an_operation 27 (a_simple_type 26 simple.Int) (codes "unparse")) (expression_and
    (a_name 28 (codes "n")) no_expressions)) no_expressions)))) no_statements)) no_whens) (others 41 None (a_body no_equates (statement_and
    (a_call_statement 40 (a_call 39 (an_operation 34 (a_named_type 33 (codes "stream") no_constants) (codes "putl")) (expression_and (a_call 37
    (an_operation 36 (a_named_type 35 (codes "stream") no_constants) (codes "primary_output")) no_expressions) (expression_and (a_literal 38 (string
    (34 ∷ 111 ∷ 116 ∷ 104 ∷ 101 ∷ 114 ∷ 34 ∷ []))) no_expressions)))) no_statements)))) no_statements))) ∷ [])

abbrev example_12_declared : List Declared
example_12_declared =
    (d (codes "p") 5 0 4294967295 None ∷ d (codes "q") 14 0 4294967295 None ∷ d (codes "n") 20 21 31 (Some 0) ∷ d (codes "start_up") 43 0 4294967295
    None ∷ [])

example_12 : Runs example_12_declared example_12_modules (codes "") 10000 returned_normally (55 ∷ 10 ∷ []) 4 202
unfolding executing computing digits
example_12 = refl

-- % a worked example
-- start_up = proc ()
-- x: int := 1 / 0 except others (s: string): stream$putl(stream$primary_output(), s) end
-- end start_up
abbrev example_13_modules : List Module
example_13_modules =
    ((a_routine 17 no_equates (routine 16 (codes "start_up") (codes "start_up") kind.Procedure [] ([]) no_types no_exceptions ([]) no_equates ([])
    (statement_and (an_except 15 (an_init 4 (a_variable (codes "x") (a_simple_type 0 simple.Int)) (an_infix 3 op.Divide (a_literal 1 (integer (codes
    "1"))) (a_literal 2 (integer (codes "0"))))) no_whens (others 14 (Some (a_variable (codes "s") (a_simple_type 5 simple.String))) (a_body
    no_equates (statement_and (a_call_statement 13 (a_call 12 (an_operation 7 (a_named_type 6 (codes "stream") no_constants) (codes "putl"))
    (expression_and (a_call 10 (an_operation 9 (a_named_type 8 (codes "stream") no_constants) (codes "primary_output")) no_expressions)
    (expression_and (a_name 11 (codes "s")) no_expressions)))) no_statements)))) no_statements))) ∷ [])

abbrev example_13_declared : List Declared
example_13_declared =
    (d (codes "x") 4 5 16 (Some 0) ∷ d (codes "s") 14 6 13 (Some 0) ∷ d (codes "start_up") 16 0 4294967295 None ∷ [])

example_13 : Runs example_13_declared example_13_modules (codes "") 10000 returned_normally (122 ∷ 101 ∷ 114 ∷ 111 ∷ 95 ∷ 100 ∷ 105 ∷ 118 ∷ 105 ∷ 100 ∷ 101 ∷ 10 ∷ []) 0 116
unfolding executing computing digits
example_13 = refl

-- % a worked example
-- q = proc (x: int) returns (int) return (x / 0) end q
-- it = iter () yields (int) yield (1) end it
-- start_up = proc () for i: int in it() do x: int := q(i) end end start_up
abbrev example_14_modules : List Module
example_14_modules =
    ((a_routine 9 no_equates (routine 8 (codes "q") (codes "q") kind.Procedure [] (typed 1 ((codes "x") ∷ []) (a_simple_type 0 simple.Int) ∷ [])
    (type_and (a_simple_type 2 simple.Int) no_types) no_exceptions ([]) no_equates ([]) (statement_and (a_return 7 (expression_and (an_infix 6
    op.Divide (a_name 4 (codes "x")) (a_literal 5 (integer (codes "0")))) no_expressions)) no_statements))) ∷ (a_routine 15 no_equates (routine 14
    (codes "it") (codes "it") kind.Iterator [] ([]) (type_and (a_simple_type 10 simple.Int) no_types) no_exceptions ([]) no_equates ([])
    (statement_and (a_yield 13 (expression_and (a_literal 12 (integer (codes "1"))) no_expressions)) no_statements))) ∷ (a_routine 27 no_equates
    (routine 26 (codes "start_up") (codes "start_up") kind.Procedure [] ([]) no_types no_exceptions ([]) no_equates ([]) (statement_and (a_for 25
    (typed 17 ((codes "i") ∷ []) (a_simple_type 16 simple.Int) ∷ []) (a_call 19 (a_name 18 (codes "it")) no_expressions) (a_body no_equates
    (statement_and (an_init 24 (a_variable (codes "x") (a_simple_type 20 simple.Int)) (a_call 23 (a_name 21 (codes "q")) (expression_and (a_name 22
    (codes "i")) no_expressions))) no_statements))) no_statements))) ∷ [])

abbrev example_14_declared : List Declared
example_14_declared =
    (d (codes "x") 1 2 8 (Some 0) ∷ d (codes "q") 8 0 4294967295 None ∷ d (codes "it") 14 0 4294967295 None ∷ d (codes "i") 17 20 24 (Some 0) ∷ d
    (codes "x") 24 25 24 (Some 0) ∷ d (codes "start_up") 26 0 4294967295 None ∷ [])

example_14 : Runs example_14_declared example_14_modules (codes "") 10000 (failure_with (codes "unhandled exception: zero_divide")) (codes "") 5 184
unfolding executing computing digits
example_14 = refl
