-- Programs that compute: resignal, exit, break and continue with exceptions. Each is the tree of the CLU above it.
use Rattle.std.specs.Fmt.{digits}
use Rattle.std.specs.Prelude.{refl, List, [], ◌∷◌, codes, Some, None}
use Rattle.clu_names.specs.declared.scopes.Declared.{Declared}
use Rattle.clu_syntax.specs.declared.words.Operator.TheVariants as op
use Rattle.clu_syntax.specs.declared.words.Sign.TheVariants as sign
use Rattle.clu_syntax.specs.declared.words.SimpleType.TheVariants as simple
use Rattle.clu_syntax.specs.declared.words.RoutineKind.TheVariants as kind
use Rattle.clu_syntax.specs.Syntax.{true_literal, integer, string, an_infix, a_prefix, a_literal, a_name, a_call, an_operation, a_force, no_expressions, expression_and, no_constants, a_simple_type, a_named_type, no_types, type_and, no_exceptions, exception_and, no_equates, objects, an_init, a_call_statement, a_for, an_if, a_signal, an_exit, a_break, a_continue, a_begin, a_resignal, an_except, no_statements, statement_and, a_body, no_clauses, clause_and, nothing_else, no_whens, when_and, no_others, others, Module, a_routine}
use Rattle.clu_layout.specs.Computing.{computing}
use Rattle.clu_meaning.specs.Run.{returned_normally}
use Rattle.clu_meaning.specs.Executing.{executing}
use Rattle.clu_meaning.proofs.Running.{d, typed, a_variable, routine, Runs, Works}

-- % resignal
-- p = proc (n: int) signals (e, f(int), g(string, int)) if n = 0 then signal e elseif n = 1 then signal f(7)
-- elseif n = 2 then signal g("s", 8) end stream$putl(stream$primary_output(), "none") end p
-- q = proc (n: int) signals (e, f(int)) p(n) resignal e, f stream$putl(stream$primary_output(), "after") end q
-- start_up = proc () for i: int in int$from_to(0, 3) do
-- q(i) except when e: stream$putl(stream$primary_output(), "e") when f (n: int): stream$putl(stream$primary_output(), int$unparse(n)) when failure (s: string): stream$putl(stream$primary_output(), s) end end end start_up
abbrev resignal_modules : List Module
resignal_modules =
    ((a_routine 34 no_equates (routine 33 (codes "p") (codes "p") kind.Procedure [] (typed 1 ((codes "n") ∷ []) (a_simple_type 0 simple.Int) ∷ [])
    no_types (exception_and 2 (codes "e") no_types (exception_and 4 (codes "f") (type_and (a_simple_type 3 simple.Int) no_types) (exception_and 7
    (codes "g") (type_and (a_simple_type 5 simple.String) (type_and (a_simple_type 6 simple.Int) no_types)) no_exceptions))) ([]) no_equates ([])
    (statement_and (an_if 24 (clause_and (an_infix 11 op.Equal (a_name 9 (codes "n")) (a_literal 10 (integer (codes "0")))) (a_body no_equates
    (statement_and (a_signal 12 (codes "e") no_expressions) no_statements)) (clause_and (an_infix 15 op.Equal (a_name 13 (codes "n")) (a_literal 14
    (integer (codes "1")))) (a_body no_equates (statement_and (a_signal 17 (codes "f") (expression_and (a_literal 16 (integer (codes "7")))
    no_expressions)) no_statements)) (clause_and (an_infix 20 op.Equal (a_name 18 (codes "n")) (a_literal 19 (integer (codes "2")))) (a_body
    no_equates (statement_and (a_signal 23 (codes "g") (expression_and (a_literal 21 (string (34 ∷ 115 ∷ 34 ∷ []))) (expression_and (a_literal 22
    (integer (codes "8"))) no_expressions))) no_statements)) no_clauses))) nothing_else) (statement_and (a_call_statement 32 (a_call 31 (an_operation
    26 (a_named_type 25 (codes "stream") no_constants) (codes "putl")) (expression_and (a_call 29 (an_operation 28 (a_named_type 27 (codes "stream")
    no_constants) (codes "primary_output")) no_expressions) (expression_and (a_literal 30 (string (34 ∷ 110 ∷ 111 ∷ 110 ∷ 101 ∷ 34 ∷ [])))
    no_expressions)))) no_statements)))) ∷ (a_routine 55 no_equates (routine 54 (codes "q") (codes "q") kind.Procedure [] (typed 36 ((codes "n") ∷ [])
    (a_simple_type 35 simple.Int) ∷ []) no_types (exception_and 37 (codes "e") no_types (exception_and 39 (codes "f") (type_and (a_simple_type 38
    simple.Int) no_types) no_exceptions)) ([]) no_equates ([]) (statement_and (a_resignal 45 (a_call_statement 44 (a_call 43 (a_name 41 (codes "p"))
    (expression_and (a_name 42 (codes "n")) no_expressions))) ((codes "e") ∷ (codes "f") ∷ [])) (statement_and (a_call_statement 53 (a_call 52
    (an_operation 47 (a_named_type 46 (codes "stream") no_constants) (codes "putl")) (expression_and (a_call 50 (an_operation 49 (a_named_type 48
    (codes "stream") no_constants) (codes "primary_output")) no_expressions) (expression_and (a_literal 51 (string (34 ∷ 97 ∷ 102 ∷ 116 ∷ 101 ∷ 114 ∷
    34 ∷ []))) no_expressions)))) no_statements)))) ∷ (a_routine 104 no_equates (routine 103 (codes "start_up") (codes "start_up") kind.Procedure []
    ([]) no_types no_exceptions ([]) no_equates ([]) (statement_and (a_for 102 (typed 57 ((codes "i") ∷ []) (a_simple_type 56 simple.Int) ∷ [])
    (a_call 62 (an_operation 59 (a_simple_type 58 simple.Int) (codes "from_to")) (expression_and (a_literal 60 (integer (codes "0"))) (expression_and
    (a_literal 61 (integer (codes "3"))) no_expressions))) (a_body no_equates (statement_and (an_except 101 (a_call_statement 66 (a_call 65 (a_name 63
    (codes "q")) (expression_and (a_name 64 (codes "i")) no_expressions))) (when_and 75 ((codes "e") ∷ []) (objects []) (a_body no_equates
    (statement_and (a_call_statement 74 (a_call 73 (an_operation 68 (a_named_type 67 (codes "stream") no_constants) (codes "putl")) (expression_and
    (a_call 71 (an_operation 70 (a_named_type 69 (codes "stream") no_constants) (codes "primary_output")) no_expressions) (expression_and (a_literal
    72 (string (34 ∷ 101 ∷ 34 ∷ []))) no_expressions)))) no_statements)) (when_and 89 ((codes "f") ∷ []) (objects (typed 77 ((codes "n") ∷ [])
    (a_simple_type 76 simple.Int) ∷ [])) (a_body no_equates (statement_and (a_call_statement 88 (a_call 87 (an_operation 79 (a_named_type 78 (codes
    "stream") no_constants) (codes "putl")) (expression_and (a_call 82 (an_operation 81 (a_named_type 80 (codes "stream") no_constants) (codes
    "primary_output")) no_expressions) (expression_and (a_call 86 (an_operation 84 (a_simple_type 83 simple.Int) (codes "unparse")) (expression_and
    (a_name 85 (codes "n")) no_expressions)) no_expressions)))) no_statements)) (when_and 100 ((codes "failure") ∷ []) (objects (typed 91 ((codes "s")
    ∷ []) (a_simple_type 90 simple.String) ∷ [])) (a_body no_equates (statement_and (a_call_statement 99 (a_call 98 (an_operation 93 (a_named_type 92
    (codes "stream") no_constants) (codes "putl")) (expression_and (a_call 96 (an_operation 95 (a_named_type 94 (codes "stream") no_constants) (codes
    "primary_output")) no_expressions) (expression_and (a_name 97 (codes "s")) no_expressions)))) no_statements)) no_whens))) no_others)
    no_statements))) no_statements))) ∷ [])

abbrev resignal_declared : List Declared
resignal_declared =
    (d (codes "n") 1 2 33 (Some 0) ∷ d (codes "p") 33 0 4294967295 None ∷ d (codes "n") 36 37 54 (Some 0) ∷ d (codes "q") 54 0 4294967295 None ∷ d
    (codes "i") 57 63 101 (Some 0) ∷ d (codes "n") 77 78 88 (Some 0) ∷ d (codes "s") 91 92 99 (Some 0) ∷ d (codes "start_up") 103 0 4294967295 None ∷
    [])

resignal : Runs resignal_declared resignal_modules (codes "") 10000 returned_normally (101 ∷ 10 ∷ 55 ∷ 10 ∷ 117 ∷ 110 ∷ 104 ∷ 97 ∷ 110 ∷ 100 ∷ 108 ∷ 101 ∷ 100 ∷ 32 ∷ 101 ∷ 120 ∷ 99 ∷ 101 ∷ 112 ∷ 116 ∷ 105 ∷ 111 ∷ 110 ∷ 58 ∷ 32 ∷ 103 ∷ 10 ∷ 110 ∷ 111 ∷ 110 ∷ 101 ∷ 10 ∷ 97 ∷ 102 ∷ 116 ∷ 101 ∷ 114 ∷ 10 ∷ []) 8 506
unfolding executing computing digits
resignal = refl

-- % resignal of failure
-- p = proc () x: int := 1 / 0 resignal failure end p
-- q = proc () p() resignal failure end q
-- start_up = proc () q() except when failure (s: string): stream$putl(stream$primary_output(), s) end end start_up
abbrev resignal_of_failure_modules : List Module
resignal_of_failure_modules =
    ((a_routine 7 no_equates (routine 6 (codes "p") (codes "p") kind.Procedure [] ([]) no_types no_exceptions ([]) no_equates ([]) (statement_and
    (a_resignal 5 (an_init 4 (a_variable (codes "x") (a_simple_type 0 simple.Int)) (an_infix 3 op.Divide (a_literal 1 (integer (codes "1")))
    (a_literal 2 (integer (codes "0"))))) ((codes "failure") ∷ [])) no_statements))) ∷ (a_routine 13 no_equates (routine 12 (codes "q") (codes "q")
    kind.Procedure [] ([]) no_types no_exceptions ([]) no_equates ([]) (statement_and (a_resignal 11 (a_call_statement 10 (a_call 9 (a_name 8 (codes
    "p")) no_expressions)) ((codes "failure") ∷ [])) no_statements))) ∷ (a_routine 30 no_equates (routine 29 (codes "start_up") (codes "start_up")
    kind.Procedure [] ([]) no_types no_exceptions ([]) no_equates ([]) (statement_and (an_except 28 (a_call_statement 16 (a_call 15 (a_name 14 (codes
    "q")) no_expressions)) (when_and 27 ((codes "failure") ∷ []) (objects (typed 18 ((codes "s") ∷ []) (a_simple_type 17 simple.String) ∷ [])) (a_body
    no_equates (statement_and (a_call_statement 26 (a_call 25 (an_operation 20 (a_named_type 19 (codes "stream") no_constants) (codes "putl"))
    (expression_and (a_call 23 (an_operation 22 (a_named_type 21 (codes "stream") no_constants) (codes "primary_output")) no_expressions)
    (expression_and (a_name 24 (codes "s")) no_expressions)))) no_statements)) no_whens) no_others) no_statements))) ∷ [])

abbrev resignal_of_failure_declared : List Declared
resignal_of_failure_declared =
    (d (codes "x") 4 5 6 (Some 0) ∷ d (codes "p") 6 0 4294967295 None ∷ d (codes "q") 12 0 4294967295 None ∷ d (codes "s") 18 19 26 (Some 0) ∷ d
    (codes "start_up") 29 0 4294967295 None ∷ [])

resignal_of_failure : Runs resignal_of_failure_declared resignal_of_failure_modules (codes "") 10000 returned_normally (117 ∷ 110 ∷ 104 ∷ 97 ∷ 110 ∷ 100 ∷ 108 ∷ 101 ∷ 100 ∷ 32 ∷ 101 ∷ 120 ∷ 99 ∷ 101 ∷ 112 ∷ 116 ∷ 105 ∷ 111 ∷ 110 ∷ 58 ∷ 32 ∷ 122 ∷ 101 ∷ 114 ∷ 111 ∷ 95 ∷ 100 ∷ 105 ∷ 118 ∷ 105 ∷ 100 ∷ 101 ∷ 10 ∷ []) 5 174
unfolding executing computing digits
resignal_of_failure = refl

-- % exit goes past others and resignal
-- start_up = proc () signals (e) begin begin exit e except others: stream$putl(stream$primary_output(), "!") end resignal e end end
-- except when e: stream$putl(stream$primary_output(), "arm") end end start_up
abbrev exit_goes_past_others_and_resignal_modules : List Module
exit_goes_past_others_and_resignal_modules =
    ((a_routine 27 no_equates (routine 26 (codes "start_up") (codes "start_up") kind.Procedure [] ([]) no_types (exception_and 0 (codes "e") no_types
    no_exceptions) ([]) no_equates ([]) (statement_and (an_except 25 (a_begin 15 (a_body no_equates (statement_and (a_begin 14 (a_body no_equates
    (statement_and (a_resignal 13 (an_except 12 (an_exit 2 (codes "e") no_expressions) no_whens (others 11 None (a_body no_equates (statement_and
    (a_call_statement 10 (a_call 9 (an_operation 4 (a_named_type 3 (codes "stream") no_constants) (codes "putl")) (expression_and (a_call 7
    (an_operation 6 (a_named_type 5 (codes "stream") no_constants) (codes "primary_output")) no_expressions) (expression_and (a_literal 8 (string (34
    ∷ 33 ∷ 34 ∷ []))) no_expressions)))) no_statements)))) ((codes "e") ∷ [])) no_statements))) no_statements))) (when_and 24 ((codes "e") ∷ [])
    (objects []) (a_body no_equates (statement_and (a_call_statement 23 (a_call 22 (an_operation 17 (a_named_type 16 (codes "stream") no_constants)
    (codes "putl")) (expression_and (a_call 20 (an_operation 19 (a_named_type 18 (codes "stream") no_constants) (codes "primary_output"))
    no_expressions) (expression_and (a_literal 21 (string (34 ∷ 97 ∷ 114 ∷ 109 ∷ 34 ∷ []))) no_expressions)))) no_statements)) no_whens) no_others)
    no_statements))) ∷ [])

abbrev exit_goes_past_others_and_resignal_declared : List Declared
exit_goes_past_others_and_resignal_declared =
    (d (codes "start_up") 26 0 4294967295 None ∷ [])

exit_goes_past_others_and_resignal : Runs exit_goes_past_others_and_resignal_declared exit_goes_past_others_and_resignal_modules (codes "") 10000 returned_normally (97 ∷ 114 ∷ 109 ∷ 10 ∷ []) 0 136
unfolding executing computing digits
exit_goes_past_others_and_resignal = refl

-- % a raise goes to an arm that exit uses
-- start_up = proc ()
-- begin if true then x: int := 1 / 0 end exit zero_divide end
-- except when zero_divide: stream$putl(stream$primary_output(), "one") end
-- end start_up
abbrev a_raise_goes_to_an_arm_that_exit_uses_modules : List Module
a_raise_goes_to_an_arm_that_exit_uses_modules =
    ((a_routine 20 no_equates (routine 19 (codes "start_up") (codes "start_up") kind.Procedure [] ([]) no_types no_exceptions ([]) no_equates ([])
    (statement_and (an_except 18 (a_begin 8 (a_body no_equates (statement_and (an_if 6 (clause_and (a_literal 0 true_literal) (a_body no_equates
    (statement_and (an_init 5 (a_variable (codes "x") (a_simple_type 1 simple.Int)) (an_infix 4 op.Divide (a_literal 2 (integer (codes "1")))
    (a_literal 3 (integer (codes "0"))))) no_statements)) no_clauses) nothing_else) (statement_and (an_exit 7 (codes "zero_divide") no_expressions)
    no_statements)))) (when_and 17 ((codes "zero_divide") ∷ []) (objects []) (a_body no_equates (statement_and (a_call_statement 16 (a_call 15
    (an_operation 10 (a_named_type 9 (codes "stream") no_constants) (codes "putl")) (expression_and (a_call 13 (an_operation 12 (a_named_type 11
    (codes "stream") no_constants) (codes "primary_output")) no_expressions) (expression_and (a_literal 14 (string (34 ∷ 111 ∷ 110 ∷ 101 ∷ 34 ∷ [])))
    no_expressions)))) no_statements)) no_whens) no_others) no_statements))) ∷ [])

abbrev a_raise_goes_to_an_arm_that_exit_uses_declared : List Declared
a_raise_goes_to_an_arm_that_exit_uses_declared =
    (d (codes "x") 5 6 5 (Some 0) ∷ d (codes "start_up") 19 0 4294967295 None ∷ [])

a_raise_goes_to_an_arm_that_exit_uses : Runs a_raise_goes_to_an_arm_that_exit_uses_declared a_raise_goes_to_an_arm_that_exit_uses_modules (codes "") 10000 returned_normally (111 ∷ 110 ∷ 101 ∷ 10 ∷ []) 0 122
unfolding executing computing digits
a_raise_goes_to_an_arm_that_exit_uses = refl

-- % break and continue in arms
-- start_up = proc ()
-- for i: int in int$from_to(-2, 5) do stream$putl(stream$primary_output(), int$unparse(6 / i)) except when zero_divide: stream$putl(stream$primary_output(), "skip") continue end
-- if i = 2 then x: int := 9223372036854775807 * i end except when overflow: stream$putl(stream$primary_output(), "stop") break end end
-- end start_up
abbrev break_and_continue_in_arms_modules : List Module
break_and_continue_in_arms_modules =
    ((a_routine 54 no_equates (routine 53 (codes "start_up") (codes "start_up") kind.Procedure [] ([]) no_types no_exceptions ([]) no_equates ([])
    (statement_and (a_for 52 (typed 1 ((codes "i") ∷ []) (a_simple_type 0 simple.Int) ∷ []) (a_call 7 (an_operation 3 (a_simple_type 2 simple.Int)
    (codes "from_to")) (expression_and (a_prefix 5 sign.Minus (a_literal 4 (integer (codes "2")))) (expression_and (a_literal 6 (integer (codes "5")))
    no_expressions))) (a_body no_equates (statement_and (an_except 31 (a_call_statement 20 (a_call 19 (an_operation 9 (a_named_type 8 (codes "stream")
    no_constants) (codes "putl")) (expression_and (a_call 12 (an_operation 11 (a_named_type 10 (codes "stream") no_constants) (codes
    "primary_output")) no_expressions) (expression_and (a_call 18 (an_operation 14 (a_simple_type 13 simple.Int) (codes "unparse")) (expression_and
    (an_infix 17 op.Divide (a_literal 15 (integer (codes "6"))) (a_name 16 (codes "i"))) no_expressions)) no_expressions)))) (when_and 30 ((codes
    "zero_divide") ∷ []) (objects []) (a_body no_equates (statement_and (a_call_statement 28 (a_call 27 (an_operation 22 (a_named_type 21 (codes
    "stream") no_constants) (codes "putl")) (expression_and (a_call 25 (an_operation 24 (a_named_type 23 (codes "stream") no_constants) (codes
    "primary_output")) no_expressions) (expression_and (a_literal 26 (string (34 ∷ 115 ∷ 107 ∷ 105 ∷ 112 ∷ 34 ∷ []))) no_expressions))))
    (statement_and (a_continue 29) no_statements))) no_whens) no_others) (statement_and (an_except 51 (an_if 40 (clause_and (an_infix 34 op.Equal
    (a_name 32 (codes "i")) (a_literal 33 (integer (codes "2")))) (a_body no_equates (statement_and (an_init 39 (a_variable (codes "x") (a_simple_type
    35 simple.Int)) (an_infix 38 op.Multiply (a_literal 36 (integer (codes "9223372036854775807"))) (a_name 37 (codes "i")))) no_statements))
    no_clauses) nothing_else) (when_and 50 ((codes "overflow") ∷ []) (objects []) (a_body no_equates (statement_and (a_call_statement 48 (a_call 47
    (an_operation 42 (a_named_type 41 (codes "stream") no_constants) (codes "putl")) (expression_and (a_call 45 (an_operation 44 (a_named_type 43
    (codes "stream") no_constants) (codes "primary_output")) no_expressions) (expression_and (a_literal 46 (string (34 ∷ 115 ∷ 116 ∷ 111 ∷ 112 ∷ 34 ∷
    []))) no_expressions)))) (statement_and (a_break 49) no_statements))) no_whens) no_others) no_statements)))) no_statements))) ∷ [])

abbrev break_and_continue_in_arms_declared : List Declared
break_and_continue_in_arms_declared =
    (d (codes "i") 1 8 51 (Some 0) ∷ d (codes "x") 39 40 39 (Some 0) ∷ d (codes "start_up") 53 0 4294967295 None ∷ [])

break_and_continue_in_arms : Runs break_and_continue_in_arms_declared break_and_continue_in_arms_modules (codes "") 10000 returned_normally (45 ∷ 51 ∷ 10 ∷ 45 ∷ 54 ∷ 10 ∷ 115 ∷ 107 ∷ 105 ∷ 112 ∷ 10 ∷ 54 ∷ 10 ∷ 51 ∷ 10 ∷ 115 ∷ 116 ∷ 111 ∷ 112 ∷ 10 ∷ []) 16 372
unfolding executing computing digits
break_and_continue_in_arms = refl

-- % a resignal of an object of type any
-- p = proc (n: int) signals (e(any)) signal e(n) end p
-- q = proc () signals (e(any)) p(7) resignal e end q
-- start_up = proc ()
--   q() except when e (x: any): stream$puts(stream$primary_output(), int$unparse(force[int](x))) end
-- end start_up
abbrev a_resignal_of_an_object_of_type_any_modules : List Module
a_resignal_of_an_object_of_type_any_modules =
    ((a_routine 8 no_equates (routine 7 (codes "p") (codes "p") kind.Procedure [] (typed 1 ((codes "n") ∷ []) (a_simple_type 0 simple.Int) ∷ [])
    no_types (exception_and 3 (codes "e") (type_and (a_simple_type 2 simple.Any) no_types) no_exceptions) ([]) no_equates ([]) (statement_and
    (a_signal 6 (codes "e") (expression_and (a_name 5 (codes "n")) no_expressions)) no_statements))) ∷ (a_routine 18 no_equates (routine 17 (codes
    "q") (codes "q") kind.Procedure [] ([]) no_types (exception_and 10 (codes "e") (type_and (a_simple_type 9 simple.Any) no_types) no_exceptions)
    ([]) no_equates ([]) (statement_and (a_resignal 16 (a_call_statement 15 (a_call 14 (a_name 12 (codes "p")) (expression_and (a_literal 13 (integer
    (codes "7"))) no_expressions))) ((codes "e") ∷ [])) no_statements))) ∷ (a_routine 41 no_equates (routine 40 (codes "start_up") (codes "start_up")
    kind.Procedure [] ([]) no_types no_exceptions ([]) no_equates ([]) (statement_and (an_except 39 (a_call_statement 21 (a_call 20 (a_name 19 (codes
    "q")) no_expressions)) (when_and 38 ((codes "e") ∷ []) (objects (typed 23 ((codes "x") ∷ []) (a_simple_type 22 simple.Any) ∷ [])) (a_body
    no_equates (statement_and (a_call_statement 37 (a_call 36 (an_operation 25 (a_named_type 24 (codes "stream") no_constants) (codes "puts"))
    (expression_and (a_call 28 (an_operation 27 (a_named_type 26 (codes "stream") no_constants) (codes "primary_output")) no_expressions)
    (expression_and (a_call 35 (an_operation 30 (a_simple_type 29 simple.Int) (codes "unparse")) (expression_and (a_call 34 (a_force 32 (a_simple_type
    31 simple.Int)) (expression_and (a_name 33 (codes "x")) no_expressions)) no_expressions)) no_expressions)))) no_statements)) no_whens) no_others)
    no_statements))) ∷ [])

abbrev a_resignal_of_an_object_of_type_any_declared : List Declared
a_resignal_of_an_object_of_type_any_declared =
    (d (codes "n") 1 2 7 (Some 0) ∷ d (codes "p") 7 0 4294967295 None ∷ d (codes "q") 17 0 4294967295 None ∷ d (codes "x") 23 24 37 (Some 0) ∷ d
    (codes "start_up") 40 0 4294967295 None ∷ [])

a_resignal_of_an_object_of_type_any : Runs a_resignal_of_an_object_of_type_any_declared a_resignal_of_an_object_of_type_any_modules (codes "") 10000 returned_normally (codes "7") 12 196
unfolding executing computing digits
a_resignal_of_an_object_of_type_any = refl

a_resignal_of_an_object_of_type_any_work : Works a_resignal_of_an_object_of_type_any_declared a_resignal_of_an_object_of_type_any_modules (codes "") 10000 188
unfolding executing computing digits
a_resignal_of_an_object_of_type_any_work = refl
