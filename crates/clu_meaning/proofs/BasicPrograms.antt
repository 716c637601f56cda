-- Programs that compute: small programs, and the texts of failures. Each is the tree of the CLU above it.
use Rattle.std.specs.Fmt.{digits}
use Rattle.std.specs.Prelude.{refl, List, [], ◌∷◌, codes, Some, None}
use Rattle.clu_names.specs.declared.scopes.Declared.{Declared}
use Rattle.clu_syntax.specs.declared.words.Operator.TheVariants as op
use Rattle.clu_syntax.specs.declared.words.SimpleType.TheVariants as simple
use Rattle.clu_syntax.specs.declared.words.RoutineKind.TheVariants as kind
use Rattle.clu_syntax.specs.Syntax.{true_literal, false_literal, integer, character, string, an_infix, a_literal, a_name, a_call, an_operation, no_expressions, expression_and, no_constants, a_simple_type, a_named_type, no_types, type_and, no_exceptions, exception_and, no_equates, an_init, an_assign, a_call_statement, a_while, an_if, a_signal, a_begin, no_statements, statement_and, a_body, no_clauses, clause_and, otherwise, Module, a_routine}
use Rattle.clu_layout.specs.Computing.{computing}
use Rattle.clu_meaning.specs.Run.{returned_normally, failure_with}
use Rattle.clu_meaning.specs.Executing.{executing}
use Rattle.clu_meaning.proofs.Running.{d, a_variable, routine, Runs}

-- % nothing
-- start_up = proc ()
--
-- end start_up
abbrev nothing_modules : List Module
nothing_modules =
    ((a_routine 1 no_equates (routine 0 (codes "start_up") (codes "start_up") kind.Procedure [] ([]) no_types no_exceptions ([]) no_equates ([])
    no_statements)) ∷ [])

abbrev nothing_declared : List Declared
nothing_declared =
    (d (codes "start_up") 0 0 4294967295 None ∷ [])

nothing : Runs nothing_declared nothing_modules (codes "") 10000 returned_normally (codes "") 0 84
unfolding executing computing digits
nothing = refl

-- % empty bodies
-- start_up = proc ()
-- begin end if true then else end while false do end
-- end start_up
abbrev empty_bodies_modules : List Module
empty_bodies_modules =
    ((a_routine 6 no_equates (routine 5 (codes "start_up") (codes "start_up") kind.Procedure [] ([]) no_types no_exceptions ([]) no_equates ([])
    (statement_and (a_begin 0 (a_body no_equates no_statements)) (statement_and (an_if 2 (clause_and (a_literal 1 true_literal) (a_body no_equates
    no_statements) no_clauses) (otherwise (a_body no_equates no_statements))) (statement_and (a_while 4 (a_literal 3 false_literal) (a_body no_equates
    no_statements)) no_statements))))) ∷ [])

abbrev empty_bodies_declared : List Declared
empty_bodies_declared =
    (d (codes "start_up") 5 0 4294967295 None ∷ [])

empty_bodies : Runs empty_bodies_declared empty_bodies_modules (codes "") 10000 returned_normally (codes "") 0 94
unfolding executing computing digits
empty_bodies = refl

-- % one line
-- start_up = proc ()
-- stream$putl(stream$primary_output(), "hi")
-- end start_up
abbrev one_line_modules : List Module
one_line_modules =
    ((a_routine 9 no_equates (routine 8 (codes "start_up") (codes "start_up") kind.Procedure [] ([]) no_types no_exceptions ([]) no_equates ([])
    (statement_and (a_call_statement 7 (a_call 6 (an_operation 1 (a_named_type 0 (codes "stream") no_constants) (codes "putl")) (expression_and
    (a_call 4 (an_operation 3 (a_named_type 2 (codes "stream") no_constants) (codes "primary_output")) no_expressions) (expression_and (a_literal 5
    (string (34 ∷ 104 ∷ 105 ∷ 34 ∷ []))) no_expressions)))) no_statements))) ∷ [])

abbrev one_line_declared : List Declared
one_line_declared =
    (d (codes "start_up") 8 0 4294967295 None ∷ [])

one_line : Runs one_line_declared one_line_modules (codes "") 10000 returned_normally (104 ∷ 105 ∷ 10 ∷ []) 0 100
unfolding executing computing digits
one_line = refl

-- % puts and putl
-- start_up = proc ()
-- stream$puts(stream$primary_output(), "a") stream$puts(stream$primary_output(), "b") stream$putl(stream$primary_output(), "c") stream$puts(stream$primary_output(), "")
-- end start_up
abbrev puts_and_putl_modules : List Module
puts_and_putl_modules =
    ((a_routine 33 no_equates (routine 32 (codes "start_up") (codes "start_up") kind.Procedure [] ([]) no_types no_exceptions ([]) no_equates ([])
    (statement_and (a_call_statement 7 (a_call 6 (an_operation 1 (a_named_type 0 (codes "stream") no_constants) (codes "puts")) (expression_and
    (a_call 4 (an_operation 3 (a_named_type 2 (codes "stream") no_constants) (codes "primary_output")) no_expressions) (expression_and (a_literal 5
    (string (34 ∷ 97 ∷ 34 ∷ []))) no_expressions)))) (statement_and (a_call_statement 15 (a_call 14 (an_operation 9 (a_named_type 8 (codes "stream")
    no_constants) (codes "puts")) (expression_and (a_call 12 (an_operation 11 (a_named_type 10 (codes "stream") no_constants) (codes
    "primary_output")) no_expressions) (expression_and (a_literal 13 (string (34 ∷ 98 ∷ 34 ∷ []))) no_expressions)))) (statement_and (a_call_statement
    23 (a_call 22 (an_operation 17 (a_named_type 16 (codes "stream") no_constants) (codes "putl")) (expression_and (a_call 20 (an_operation 19
    (a_named_type 18 (codes "stream") no_constants) (codes "primary_output")) no_expressions) (expression_and (a_literal 21 (string (34 ∷ 99 ∷ 34 ∷
    []))) no_expressions)))) (statement_and (a_call_statement 31 (a_call 30 (an_operation 25 (a_named_type 24 (codes "stream") no_constants) (codes
    "puts")) (expression_and (a_call 28 (an_operation 27 (a_named_type 26 (codes "stream") no_constants) (codes "primary_output")) no_expressions)
    (expression_and (a_literal 29 (string (34 ∷ 34 ∷ []))) no_expressions)))) no_statements)))))) ∷ [])

abbrev puts_and_putl_declared : List Declared
puts_and_putl_declared =
    (d (codes "start_up") 32 0 4294967295 None ∷ [])

puts_and_putl : Runs puts_and_putl_declared puts_and_putl_modules (codes "") 10000 returned_normally (97 ∷ 98 ∷ 99 ∷ 10 ∷ []) 0 148
unfolding executing computing digits
puts_and_putl = refl

-- % putc
-- start_up = proc ()
-- stream$putc(stream$primary_output(), 'x') stream$putc(stream$primary_output(), '\n')
-- end start_up
abbrev putc_modules : List Module
putc_modules =
    ((a_routine 17 no_equates (routine 16 (codes "start_up") (codes "start_up") kind.Procedure [] ([]) no_types no_exceptions ([]) no_equates ([])
    (statement_and (a_call_statement 7 (a_call 6 (an_operation 1 (a_named_type 0 (codes "stream") no_constants) (codes "putc")) (expression_and
    (a_call 4 (an_operation 3 (a_named_type 2 (codes "stream") no_constants) (codes "primary_output")) no_expressions) (expression_and (a_literal 5
    (character (codes "'x'"))) no_expressions)))) (statement_and (a_call_statement 15 (a_call 14 (an_operation 9 (a_named_type 8 (codes "stream")
    no_constants) (codes "putc")) (expression_and (a_call 12 (an_operation 11 (a_named_type 10 (codes "stream") no_constants) (codes
    "primary_output")) no_expressions) (expression_and (a_literal 13 (character (39 ∷ 92 ∷ 110 ∷ 39 ∷ []))) no_expressions)))) no_statements)))) ∷ [])

abbrev putc_declared : List Declared
putc_declared =
    (d (codes "start_up") 16 0 4294967295 None ∷ [])

putc : Runs putc_declared putc_modules (codes "") 10000 returned_normally (120 ∷ 10 ∷ []) 0 116
unfolding executing computing digits
putc = refl

-- % escapes
-- start_up = proc ()
-- stream$puts(stream$primary_output(), "\n\t\p\b\r\v\\\'\"\101\000\377\N")
-- end start_up
abbrev escapes_modules : List Module
escapes_modules =
    ((a_routine 9 no_equates (routine 8 (codes "start_up") (codes "start_up") kind.Procedure [] ([]) no_types no_exceptions ([]) no_equates ([])
    (statement_and (a_call_statement 7 (a_call 6 (an_operation 1 (a_named_type 0 (codes "stream") no_constants) (codes "puts")) (expression_and
    (a_call 4 (an_operation 3 (a_named_type 2 (codes "stream") no_constants) (codes "primary_output")) no_expressions) (expression_and (a_literal 5
    (string (34 ∷ 92 ∷ 110 ∷ 92 ∷ 116 ∷ 92 ∷ 112 ∷ 92 ∷ 98 ∷ 92 ∷ 114 ∷ 92 ∷ 118 ∷ 92 ∷ 92 ∷ 92 ∷ 39 ∷ 92 ∷ 34 ∷ 92 ∷ 49 ∷ 48 ∷ 49 ∷ 92 ∷ 48 ∷ 48 ∷ 48
    ∷ 92 ∷ 51 ∷ 55 ∷ 55 ∷ 92 ∷ 78 ∷ 34 ∷ []))) no_expressions)))) no_statements))) ∷ [])

abbrev escapes_declared : List Declared
escapes_declared =
    (d (codes "start_up") 8 0 4294967295 None ∷ [])

escapes : Runs escapes_declared escapes_modules (codes "") 10000 returned_normally (10 ∷ 9 ∷ 12 ∷ 8 ∷ 13 ∷ 11 ∷ 92 ∷ 39 ∷ 34 ∷ 65 ∷ 0 ∷ 255 ∷ 10 ∷ []) 0 100
unfolding executing computing digits
escapes = refl

-- % upper case
-- START_UP = PROC () X: INT := 3 stream$putl(stream$primary_output(), int$unparse(x)) END START_UP
abbrev upper_case_modules : List Module
upper_case_modules =
    ((a_routine 15 no_equates (routine 14 (codes "start_up") (codes "start_up") kind.Procedure [] ([]) no_types no_exceptions ([]) no_equates ([])
    (statement_and (an_init 2 (a_variable (codes "x") (a_simple_type 0 simple.Int)) (a_literal 1 (integer (codes "3")))) (statement_and
    (a_call_statement 13 (a_call 12 (an_operation 4 (a_named_type 3 (codes "stream") no_constants) (codes "putl")) (expression_and (a_call 7
    (an_operation 6 (a_named_type 5 (codes "stream") no_constants) (codes "primary_output")) no_expressions) (expression_and (a_call 11 (an_operation
    9 (a_simple_type 8 simple.Int) (codes "unparse")) (expression_and (a_name 10 (codes "x")) no_expressions)) no_expressions)))) no_statements)))) ∷
    [])

abbrev upper_case_declared : List Declared
upper_case_declared =
    (d (codes "x") 2 3 14 (Some 0) ∷ d (codes "start_up") 14 0 4294967295 None ∷ [])

upper_case : Runs upper_case_declared upper_case_modules (codes "") 10000 returned_normally (51 ∷ 10 ∷ []) 4 112
unfolding executing computing digits
upper_case = refl

-- % comments
-- start_up = proc ()
-- stream$putl(stream$primary_output(), "a") % stream$putl(stream$primary_output(), "b")
-- %
--   stream$putl(stream$primary_output(), "c%d") %%
-- end start_up
abbrev comments_modules : List Module
comments_modules =
    ((a_routine 17 no_equates (routine 16 (codes "start_up") (codes "start_up") kind.Procedure [] ([]) no_types no_exceptions ([]) no_equates ([])
    (statement_and (a_call_statement 7 (a_call 6 (an_operation 1 (a_named_type 0 (codes "stream") no_constants) (codes "putl")) (expression_and
    (a_call 4 (an_operation 3 (a_named_type 2 (codes "stream") no_constants) (codes "primary_output")) no_expressions) (expression_and (a_literal 5
    (string (34 ∷ 97 ∷ 34 ∷ []))) no_expressions)))) (statement_and (a_call_statement 15 (a_call 14 (an_operation 9 (a_named_type 8 (codes "stream")
    no_constants) (codes "putl")) (expression_and (a_call 12 (an_operation 11 (a_named_type 10 (codes "stream") no_constants) (codes
    "primary_output")) no_expressions) (expression_and (a_literal 13 (string (34 ∷ 99 ∷ 37 ∷ 100 ∷ 34 ∷ []))) no_expressions)))) no_statements)))) ∷
    [])

abbrev comments_declared : List Declared
comments_declared =
    (d (codes "start_up") 16 0 4294967295 None ∷ [])

comments : Runs comments_declared comments_modules (codes "") 10000 returned_normally (97 ∷ 10 ∷ 99 ∷ 37 ∷ 100 ∷ 10 ∷ []) 0 116
unfolding executing computing digits
comments = refl

-- % semicolons
-- start_up = proc ()
-- x: int := 1; x := x + 1; stream$putl(stream$primary_output(), int$unparse(x));
-- end start_up
abbrev semicolons_modules : List Module
semicolons_modules =
    ((a_routine 19 no_equates (routine 18 (codes "start_up") (codes "start_up") kind.Procedure [] ([]) no_types no_exceptions ([]) no_equates ([])
    (statement_and (an_init 2 (a_variable (codes "x") (a_simple_type 0 simple.Int)) (a_literal 1 (integer (codes "1")))) (statement_and (an_assign 6
    ((codes "x") ∷ []) (expression_and (an_infix 5 op.Add (a_name 3 (codes "x")) (a_literal 4 (integer (codes "1")))) no_expressions)) (statement_and
    (a_call_statement 17 (a_call 16 (an_operation 8 (a_named_type 7 (codes "stream") no_constants) (codes "putl")) (expression_and (a_call 11
    (an_operation 10 (a_named_type 9 (codes "stream") no_constants) (codes "primary_output")) no_expressions) (expression_and (a_call 15 (an_operation
    13 (a_simple_type 12 simple.Int) (codes "unparse")) (expression_and (a_name 14 (codes "x")) no_expressions)) no_expressions)))) no_statements)))))
    ∷ [])

abbrev semicolons_declared : List Declared
semicolons_declared =
    (d (codes "x") 2 3 18 (Some 0) ∷ d (codes "start_up") 18 0 4294967295 None ∷ [])

semicolons : Runs semicolons_declared semicolons_modules (codes "") 10000 returned_normally (50 ∷ 10 ∷ []) 4 120
unfolding executing computing digits
semicolons = refl

-- % a failure
-- start_up = proc ()
-- stream$putl(stream$primary_output(), "a") signal failure("the end") stream$putl(stream$primary_output(), "b")
-- end start_up
abbrev a_failure_modules : List Module
a_failure_modules =
    ((a_routine 19 no_equates (routine 18 (codes "start_up") (codes "start_up") kind.Procedure [] ([]) no_types no_exceptions ([]) no_equates ([])
    (statement_and (a_call_statement 7 (a_call 6 (an_operation 1 (a_named_type 0 (codes "stream") no_constants) (codes "putl")) (expression_and
    (a_call 4 (an_operation 3 (a_named_type 2 (codes "stream") no_constants) (codes "primary_output")) no_expressions) (expression_and (a_literal 5
    (string (34 ∷ 97 ∷ 34 ∷ []))) no_expressions)))) (statement_and (a_signal 9 (codes "failure") (expression_and (a_literal 8 (string (34 ∷ 116 ∷ 104
    ∷ 101 ∷ 32 ∷ 101 ∷ 110 ∷ 100 ∷ 34 ∷ []))) no_expressions)) (statement_and (a_call_statement 17 (a_call 16 (an_operation 11 (a_named_type 10 (codes
    "stream") no_constants) (codes "putl")) (expression_and (a_call 14 (an_operation 13 (a_named_type 12 (codes "stream") no_constants) (codes
    "primary_output")) no_expressions) (expression_and (a_literal 15 (string (34 ∷ 98 ∷ 34 ∷ []))) no_expressions)))) no_statements))))) ∷ [])

abbrev a_failure_declared : List Declared
a_failure_declared =
    (d (codes "start_up") 18 0 4294967295 None ∷ [])

a_failure : Runs a_failure_declared a_failure_modules (codes "") 10000 (failure_with (codes "the end")) (97 ∷ 10 ∷ []) 0 120
unfolding executing computing digits
a_failure = refl

-- % an unhandled exception
-- start_up = proc ()
-- stream$putl(stream$primary_output(), "a") x: int := 1 / 0
-- end start_up
abbrev an_unhandled_exception_modules : List Module
an_unhandled_exception_modules =
    ((a_routine 14 no_equates (routine 13 (codes "start_up") (codes "start_up") kind.Procedure [] ([]) no_types no_exceptions ([]) no_equates ([])
    (statement_and (a_call_statement 7 (a_call 6 (an_operation 1 (a_named_type 0 (codes "stream") no_constants) (codes "putl")) (expression_and
    (a_call 4 (an_operation 3 (a_named_type 2 (codes "stream") no_constants) (codes "primary_output")) no_expressions) (expression_and (a_literal 5
    (string (34 ∷ 97 ∷ 34 ∷ []))) no_expressions)))) (statement_and (an_init 12 (a_variable (codes "x") (a_simple_type 8 simple.Int)) (an_infix 11
    op.Divide (a_literal 9 (integer (codes "1"))) (a_literal 10 (integer (codes "0"))))) no_statements)))) ∷ [])

abbrev an_unhandled_exception_declared : List Declared
an_unhandled_exception_declared =
    (d (codes "x") 12 13 13 (Some 0) ∷ d (codes "start_up") 13 0 4294967295 None ∷ [])

an_unhandled_exception : Runs an_unhandled_exception_declared an_unhandled_exception_modules (codes "") 10000 (failure_with (codes "unhandled exception: zero_divide")) (97 ∷ 10 ∷ []) 5 110
unfolding executing computing digits
an_unhandled_exception = refl

-- % a signal of start_up
-- start_up = proc () signals (stop(int)) stream$putl(stream$primary_output(), "a") signal stop(3) end start_up
abbrev a_signal_of_start_up_modules : List Module
a_signal_of_start_up_modules =
    ((a_routine 14 no_equates (routine 13 (codes "start_up") (codes "start_up") kind.Procedure [] ([]) no_types (exception_and 1 (codes "stop")
    (type_and (a_simple_type 0 simple.Int) no_types) no_exceptions) ([]) no_equates ([]) (statement_and (a_call_statement 10 (a_call 9 (an_operation 4
    (a_named_type 3 (codes "stream") no_constants) (codes "putl")) (expression_and (a_call 7 (an_operation 6 (a_named_type 5 (codes "stream")
    no_constants) (codes "primary_output")) no_expressions) (expression_and (a_literal 8 (string (34 ∷ 97 ∷ 34 ∷ []))) no_expressions))))
    (statement_and (a_signal 12 (codes "stop") (expression_and (a_literal 11 (integer (codes "3"))) no_expressions)) no_statements)))) ∷ [])

abbrev a_signal_of_start_up_declared : List Declared
a_signal_of_start_up_declared =
    (d (codes "start_up") 13 0 4294967295 None ∷ [])

a_signal_of_start_up : Runs a_signal_of_start_up_declared a_signal_of_start_up_modules (codes "") 10000 (failure_with (codes "unhandled exception: stop")) (97 ∷ 10 ∷ []) 0 110
unfolding executing computing digits
a_signal_of_start_up = refl
