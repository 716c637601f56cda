-- Programs that compute: except statements. Each is the tree of the CLU above it.
use Rattle.std.specs.Fmt.{digits}
use Rattle.std.specs.Prelude.{refl, List, [], ◌∷◌, codes, Some, None}
use Rattle.clu_names.specs.declared.scopes.Declared.{Declared}
use Rattle.clu_syntax.specs.declared.words.Operator.TheVariants as op
use Rattle.clu_syntax.specs.declared.words.SimpleType.TheVariants as simple
use Rattle.clu_syntax.specs.declared.words.RoutineKind.TheVariants as kind
use Rattle.clu_syntax.specs.Syntax.{integer, string, an_infix, a_literal, a_name, an_index, a_call, an_operation, no_expressions, expression_and, an_expression, no_constants, constant_and, a_simple_type, a_named_type, no_types, type_and, no_exceptions, exception_and, no_equates, objects, any_objects, an_init, a_call_statement, a_for, an_if, a_signal, a_begin, an_except, no_statements, statement_and, a_body, no_clauses, clause_and, nothing_else, otherwise, no_whens, when_and, no_others, others, Module, a_routine}
use Rattle.clu_layout.specs.Computing.{computing}
use Rattle.clu_meaning.specs.Run.{returned_normally, failure_with}
use Rattle.clu_meaning.specs.Executing.{executing}
use Rattle.clu_meaning.proofs.Running.{d, typed, a_variable, routine, Runs}

-- % an arm of several names
-- start_up = proc ()
-- for i: int in int$from_to(0, 3) do
-- if i = 0 then x: int := 1 / i elseif i = 1 then x: int := 9223372036854775807 + i elseif i = 2 then c: char := "a"[i] else stream$putl(stream$primary_output(), "end") end
-- except when zero_divide, overflow: stream$putl(stream$primary_output(), "number") when bounds: stream$putl(stream$primary_output(), "bounds") end end
-- end start_up
abbrev an_arm_of_several_names_modules : List Module
an_arm_of_several_names_modules =
    ((a_routine 61 no_equates (routine 60 (codes "start_up") (codes "start_up") kind.Procedure [] ([]) no_types no_exceptions ([]) no_equates ([])
    (statement_and (a_for 59 (typed 1 ((codes "i") ∷ []) (a_simple_type 0 simple.Int) ∷ []) (a_call 6 (an_operation 3 (a_simple_type 2 simple.Int)
    (codes "from_to")) (expression_and (a_literal 4 (integer (codes "0"))) (expression_and (a_literal 5 (integer (codes "3"))) no_expressions)))
    (a_body no_equates (statement_and (an_except 58 (an_if 39 (clause_and (an_infix 9 op.Equal (a_name 7 (codes "i")) (a_literal 8 (integer (codes
    "0")))) (a_body no_equates (statement_and (an_init 14 (a_variable (codes "x") (a_simple_type 10 simple.Int)) (an_infix 13 op.Divide (a_literal 11
    (integer (codes "1"))) (a_name 12 (codes "i")))) no_statements)) (clause_and (an_infix 17 op.Equal (a_name 15 (codes "i")) (a_literal 16 (integer
    (codes "1")))) (a_body no_equates (statement_and (an_init 22 (a_variable (codes "x") (a_simple_type 18 simple.Int)) (an_infix 21 op.Add (a_literal
    19 (integer (codes "9223372036854775807"))) (a_name 20 (codes "i")))) no_statements)) (clause_and (an_infix 25 op.Equal (a_name 23 (codes "i"))
    (a_literal 24 (integer (codes "2")))) (a_body no_equates (statement_and (an_init 30 (a_variable (codes "c") (a_simple_type 26 simple.Char))
    (an_index 29 (a_literal 27 (string (34 ∷ 97 ∷ 34 ∷ []))) (constant_and (an_expression (a_name 28 (codes "i"))) no_constants))) no_statements))
    no_clauses))) (otherwise (a_body no_equates (statement_and (a_call_statement 38 (a_call 37 (an_operation 32 (a_named_type 31 (codes "stream")
    no_constants) (codes "putl")) (expression_and (a_call 35 (an_operation 34 (a_named_type 33 (codes "stream") no_constants) (codes
    "primary_output")) no_expressions) (expression_and (a_literal 36 (string (34 ∷ 101 ∷ 110 ∷ 100 ∷ 34 ∷ []))) no_expressions)))) no_statements))))
    (when_and 48 ((codes "zero_divide") ∷ (codes "overflow") ∷ []) (objects []) (a_body no_equates (statement_and (a_call_statement 47 (a_call 46
    (an_operation 41 (a_named_type 40 (codes "stream") no_constants) (codes "putl")) (expression_and (a_call 44 (an_operation 43 (a_named_type 42
    (codes "stream") no_constants) (codes "primary_output")) no_expressions) (expression_and (a_literal 45 (string (34 ∷ 110 ∷ 117 ∷ 109 ∷ 98 ∷ 101 ∷
    114 ∷ 34 ∷ []))) no_expressions)))) no_statements)) (when_and 57 ((codes "bounds") ∷ []) (objects []) (a_body no_equates (statement_and
    (a_call_statement 56 (a_call 55 (an_operation 50 (a_named_type 49 (codes "stream") no_constants) (codes "putl")) (expression_and (a_call 53
    (an_operation 52 (a_named_type 51 (codes "stream") no_constants) (codes "primary_output")) no_expressions) (expression_and (a_literal 54 (string
    (34 ∷ 98 ∷ 111 ∷ 117 ∷ 110 ∷ 100 ∷ 115 ∷ 34 ∷ []))) no_expressions)))) no_statements)) no_whens)) no_others) no_statements))) no_statements))) ∷
    [])

abbrev an_arm_of_several_names_declared : List Declared
an_arm_of_several_names_declared =
    (d (codes "i") 1 7 58 (Some 0) ∷ d (codes "x") 14 15 14 (Some 0) ∷ d (codes "x") 22 23 22 (Some 0) ∷ d (codes "c") 30 31 30 (Some 0) ∷ d (codes
    "start_up") 60 0 4294967295 None ∷ [])

an_arm_of_several_names : Runs an_arm_of_several_names_declared an_arm_of_several_names_modules (codes "") 10000 returned_normally (110 ∷ 117 ∷ 109 ∷ 98 ∷ 101 ∷ 114 ∷ 10 ∷ 110 ∷ 117 ∷ 109 ∷ 98 ∷ 101 ∷ 114 ∷ 10 ∷ 98 ∷ 111 ∷ 117 ∷ 110 ∷ 100 ∷ 115 ∷ 10 ∷ 101 ∷ 110 ∷ 100 ∷ 10 ∷ []) 0 388
unfolding executing computing digits
an_arm_of_several_names = refl

-- % dropped objects
-- p = proc (n: int) signals (e, f(int), g(string, int)) if n = 0 then signal e elseif n = 1 then signal f(7)
-- elseif n = 2 then signal g("s", 8) end stream$putl(stream$primary_output(), "none") end p
-- start_up = proc () for i: int in int$from_to(0, 3) do
-- p(i) except when e, f, g (*): stream$putl(stream$primary_output(), "x") end end end start_up
abbrev dropped_objects_modules : List Module
dropped_objects_modules =
    ((a_routine 34 no_equates (routine 33 (codes "p") (codes "p") kind.Procedure [] (typed 1 ((codes "n") ∷ []) (a_simple_type 0 simple.Int) ∷ [])
    no_types (exception_and 2 (codes "e") no_types (exception_and 4 (codes "f") (type_and (a_simple_type 3 simple.Int) no_types) (exception_and 7
    (codes "g") (type_and (a_simple_type 5 simple.String) (type_and (a_simple_type 6 simple.Int) no_types)) no_exceptions))) ([]) no_equates ([])
    (statement_and (an_if 24 (clause_and (an_infix 11 op.Equal (a_name 9 (codes "n")) (a_literal 10 (integer (codes "0")))) (a_body no_equates
    (statement_and (a_signal 12 (codes "e") no_expressions) no_statements)) (clause_and (an_infix 15 op.Equal (a_name 13 (codes "n")) (a_literal 14
    (integer (codes "1")))) (a_body no_equates (statement_and (a_signal 17 (codes "f") (expression_and (a_literal 16 (integer (codes "7")))
    no_expressions)) no_statements)) (clause_and (an_infix 20 op.Equal (a_name 18 (codes "n")) (a_literal 19 (integer (codes "2")))) (a_body
    no_equates (statement_and (a_signal 23 (codes "g") (expression_and (a_literal 21 (string (34 ∷ 115 ∷ 34 ∷ []))) (expression_and (a_literal 22
    (integer (codes "8"))) no_expressions))) no_statements)) no_clauses))) nothing_else) (statement_and (a_call_statement 32 (a_call 31 (an_operation
    26 (a_named_type 25 (codes "stream") no_constants) (codes "putl")) (expression_and (a_call 29 (an_operation 28 (a_named_type 27 (codes "stream")
    no_constants) (codes "primary_output")) no_expressions) (expression_and (a_literal 30 (string (34 ∷ 110 ∷ 111 ∷ 110 ∷ 101 ∷ 34 ∷ [])))
    no_expressions)))) no_statements)))) ∷ (a_routine 58 no_equates (routine 57 (codes "start_up") (codes "start_up") kind.Procedure [] ([]) no_types
    no_exceptions ([]) no_equates ([]) (statement_and (a_for 56 (typed 36 ((codes "i") ∷ []) (a_simple_type 35 simple.Int) ∷ []) (a_call 41
    (an_operation 38 (a_simple_type 37 simple.Int) (codes "from_to")) (expression_and (a_literal 39 (integer (codes "0"))) (expression_and (a_literal
    40 (integer (codes "3"))) no_expressions))) (a_body no_equates (statement_and (an_except 55 (a_call_statement 45 (a_call 44 (a_name 42 (codes
    "p")) (expression_and (a_name 43 (codes "i")) no_expressions))) (when_and 54 ((codes "e") ∷ (codes "f") ∷ (codes "g") ∷ []) any_objects (a_body
    no_equates (statement_and (a_call_statement 53 (a_call 52 (an_operation 47 (a_named_type 46 (codes "stream") no_constants) (codes "putl"))
    (expression_and (a_call 50 (an_operation 49 (a_named_type 48 (codes "stream") no_constants) (codes "primary_output")) no_expressions)
    (expression_and (a_literal 51 (string (34 ∷ 120 ∷ 34 ∷ []))) no_expressions)))) no_statements)) no_whens) no_others) no_statements)))
    no_statements))) ∷ [])

abbrev dropped_objects_declared : List Declared
dropped_objects_declared =
    (d (codes "n") 1 2 33 (Some 0) ∷ d (codes "p") 33 0 4294967295 None ∷ d (codes "i") 36 42 55 (Some 0) ∷ d (codes "start_up") 57 0 4294967295 None
    ∷ [])

dropped_objects : Runs dropped_objects_declared dropped_objects_modules (codes "") 10000 returned_normally (120 ∷ 10 ∷ 120 ∷ 10 ∷ 120 ∷ 10 ∷ 110 ∷ 111 ∷ 110 ∷ 101 ∷ 10 ∷ []) 0 400
unfolding executing computing digits
dropped_objects = refl

-- % others without a name
-- p = proc (n: int) signals (e, f(int), g(string, int)) if n = 0 then signal e elseif n = 1 then signal f(7)
-- elseif n = 2 then signal g("s", 8) end stream$putl(stream$primary_output(), "none") end p
-- start_up = proc () p(2) except others: stream$putl(stream$primary_output(), "any") end stream$putl(stream$primary_output(), "on") end start_up
abbrev others_without_a_name_modules : List Module
others_without_a_name_modules =
    ((a_routine 34 no_equates (routine 33 (codes "p") (codes "p") kind.Procedure [] (typed 1 ((codes "n") ∷ []) (a_simple_type 0 simple.Int) ∷ [])
    no_types (exception_and 2 (codes "e") no_types (exception_and 4 (codes "f") (type_and (a_simple_type 3 simple.Int) no_types) (exception_and 7
    (codes "g") (type_and (a_simple_type 5 simple.String) (type_and (a_simple_type 6 simple.Int) no_types)) no_exceptions))) ([]) no_equates ([])
    (statement_and (an_if 24 (clause_and (an_infix 11 op.Equal (a_name 9 (codes "n")) (a_literal 10 (integer (codes "0")))) (a_body no_equates
    (statement_and (a_signal 12 (codes "e") no_expressions) no_statements)) (clause_and (an_infix 15 op.Equal (a_name 13 (codes "n")) (a_literal 14
    (integer (codes "1")))) (a_body no_equates (statement_and (a_signal 17 (codes "f") (expression_and (a_literal 16 (integer (codes "7")))
    no_expressions)) no_statements)) (clause_and (an_infix 20 op.Equal (a_name 18 (codes "n")) (a_literal 19 (integer (codes "2")))) (a_body
    no_equates (statement_and (a_signal 23 (codes "g") (expression_and (a_literal 21 (string (34 ∷ 115 ∷ 34 ∷ []))) (expression_and (a_literal 22
    (integer (codes "8"))) no_expressions))) no_statements)) no_clauses))) nothing_else) (statement_and (a_call_statement 32 (a_call 31 (an_operation
    26 (a_named_type 25 (codes "stream") no_constants) (codes "putl")) (expression_and (a_call 29 (an_operation 28 (a_named_type 27 (codes "stream")
    no_constants) (codes "primary_output")) no_expressions) (expression_and (a_literal 30 (string (34 ∷ 110 ∷ 111 ∷ 110 ∷ 101 ∷ 34 ∷ [])))
    no_expressions)))) no_statements)))) ∷ (a_routine 58 no_equates (routine 57 (codes "start_up") (codes "start_up") kind.Procedure [] ([]) no_types
    no_exceptions ([]) no_equates ([]) (statement_and (an_except 48 (a_call_statement 38 (a_call 37 (a_name 35 (codes "p")) (expression_and (a_literal
    36 (integer (codes "2"))) no_expressions))) no_whens (others 47 None (a_body no_equates (statement_and (a_call_statement 46 (a_call 45
    (an_operation 40 (a_named_type 39 (codes "stream") no_constants) (codes "putl")) (expression_and (a_call 43 (an_operation 42 (a_named_type 41
    (codes "stream") no_constants) (codes "primary_output")) no_expressions) (expression_and (a_literal 44 (string (34 ∷ 97 ∷ 110 ∷ 121 ∷ 34 ∷ [])))
    no_expressions)))) no_statements)))) (statement_and (a_call_statement 56 (a_call 55 (an_operation 50 (a_named_type 49 (codes "stream")
    no_constants) (codes "putl")) (expression_and (a_call 53 (an_operation 52 (a_named_type 51 (codes "stream") no_constants) (codes
    "primary_output")) no_expressions) (expression_and (a_literal 54 (string (34 ∷ 111 ∷ 110 ∷ 34 ∷ []))) no_expressions)))) no_statements)))) ∷ [])

abbrev others_without_a_name_declared : List Declared
others_without_a_name_declared =
    (d (codes "n") 1 2 33 (Some 0) ∷ d (codes "p") 33 0 4294967295 None ∷ d (codes "start_up") 57 0 4294967295 None ∷ [])

others_without_a_name : Runs others_without_a_name_declared others_without_a_name_modules (codes "") 10000 returned_normally (97 ∷ 110 ∷ 121 ∷ 10 ∷ 111 ∷ 110 ∷ 10 ∷ []) 0 214
unfolding executing computing digits
others_without_a_name = refl

-- % an inner others comes first
-- p = proc (n: int) signals (e, f(int), g(string, int)) if n = 0 then signal e elseif n = 1 then signal f(7)
-- elseif n = 2 then signal g("s", 8) end stream$putl(stream$primary_output(), "none") end p
-- start_up = proc () begin p(0) except others: stream$putl(stream$primary_output(), "inner") end end
-- except when e: stream$putl(stream$primary_output(), "outer") end end start_up
abbrev an_inner_others_comes_first_modules : List Module
an_inner_others_comes_first_modules =
    ((a_routine 34 no_equates (routine 33 (codes "p") (codes "p") kind.Procedure [] (typed 1 ((codes "n") ∷ []) (a_simple_type 0 simple.Int) ∷ [])
    no_types (exception_and 2 (codes "e") no_types (exception_and 4 (codes "f") (type_and (a_simple_type 3 simple.Int) no_types) (exception_and 7
    (codes "g") (type_and (a_simple_type 5 simple.String) (type_and (a_simple_type 6 simple.Int) no_types)) no_exceptions))) ([]) no_equates ([])
    (statement_and (an_if 24 (clause_and (an_infix 11 op.Equal (a_name 9 (codes "n")) (a_literal 10 (integer (codes "0")))) (a_body no_equates
    (statement_and (a_signal 12 (codes "e") no_expressions) no_statements)) (clause_and (an_infix 15 op.Equal (a_name 13 (codes "n")) (a_literal 14
    (integer (codes "1")))) (a_body no_equates (statement_and (a_signal 17 (codes "f") (expression_and (a_literal 16 (integer (codes "7")))
    no_expressions)) no_statements)) (clause_and (an_infix 20 op.Equal (a_name 18 (codes "n")) (a_literal 19 (integer (codes "2")))) (a_body
    no_equates (statement_and (a_signal 23 (codes "g") (expression_and (a_literal 21 (string (34 ∷ 115 ∷ 34 ∷ []))) (expression_and (a_literal 22
    (integer (codes "8"))) no_expressions))) no_statements)) no_clauses))) nothing_else) (statement_and (a_call_statement 32 (a_call 31 (an_operation
    26 (a_named_type 25 (codes "stream") no_constants) (codes "putl")) (expression_and (a_call 29 (an_operation 28 (a_named_type 27 (codes "stream")
    no_constants) (codes "primary_output")) no_expressions) (expression_and (a_literal 30 (string (34 ∷ 110 ∷ 111 ∷ 110 ∷ 101 ∷ 34 ∷ [])))
    no_expressions)))) no_statements)))) ∷ (a_routine 61 no_equates (routine 60 (codes "start_up") (codes "start_up") kind.Procedure [] ([]) no_types
    no_exceptions ([]) no_equates ([]) (statement_and (an_except 59 (a_begin 49 (a_body no_equates (statement_and (an_except 48 (a_call_statement 38
    (a_call 37 (a_name 35 (codes "p")) (expression_and (a_literal 36 (integer (codes "0"))) no_expressions))) no_whens (others 47 None (a_body
    no_equates (statement_and (a_call_statement 46 (a_call 45 (an_operation 40 (a_named_type 39 (codes "stream") no_constants) (codes "putl"))
    (expression_and (a_call 43 (an_operation 42 (a_named_type 41 (codes "stream") no_constants) (codes "primary_output")) no_expressions)
    (expression_and (a_literal 44 (string (34 ∷ 105 ∷ 110 ∷ 110 ∷ 101 ∷ 114 ∷ 34 ∷ []))) no_expressions)))) no_statements)))) no_statements)))
    (when_and 58 ((codes "e") ∷ []) (objects []) (a_body no_equates (statement_and (a_call_statement 57 (a_call 56 (an_operation 51 (a_named_type 50
    (codes "stream") no_constants) (codes "putl")) (expression_and (a_call 54 (an_operation 53 (a_named_type 52 (codes "stream") no_constants) (codes
    "primary_output")) no_expressions) (expression_and (a_literal 55 (string (34 ∷ 111 ∷ 117 ∷ 116 ∷ 101 ∷ 114 ∷ 34 ∷ []))) no_expressions))))
    no_statements)) no_whens) no_others) no_statements))) ∷ [])

abbrev an_inner_others_comes_first_declared : List Declared
an_inner_others_comes_first_declared =
    (d (codes "n") 1 2 33 (Some 0) ∷ d (codes "p") 33 0 4294967295 None ∷ d (codes "start_up") 60 0 4294967295 None ∷ [])

an_inner_others_comes_first : Runs an_inner_others_comes_first_declared an_inner_others_comes_first_modules (codes "") 10000 returned_normally (105 ∷ 110 ∷ 110 ∷ 101 ∷ 114 ∷ 10 ∷ []) 0 220
unfolding executing computing digits
an_inner_others_comes_first = refl

-- % arms do not take from each other
-- p = proc (n: int) signals (e, f(int), g(string, int)) if n = 0 then signal e elseif n = 1 then signal f(7)
-- elseif n = 2 then signal g("s", 8) end stream$putl(stream$primary_output(), "none") end p
-- start_up = proc () begin p(0) except when e: p(1) when f (n: int): stream$putl(stream$primary_output(), "!") end end
-- except when f (n: int): stream$putl(stream$primary_output(), int$unparse(n)) end end start_up
abbrev arms_do_not_take_from_each_other_modules : List Module
arms_do_not_take_from_each_other_modules =
    ((a_routine 34 no_equates (routine 33 (codes "p") (codes "p") kind.Procedure [] (typed 1 ((codes "n") ∷ []) (a_simple_type 0 simple.Int) ∷ [])
    no_types (exception_and 2 (codes "e") no_types (exception_and 4 (codes "f") (type_and (a_simple_type 3 simple.Int) no_types) (exception_and 7
    (codes "g") (type_and (a_simple_type 5 simple.String) (type_and (a_simple_type 6 simple.Int) no_types)) no_exceptions))) ([]) no_equates ([])
    (statement_and (an_if 24 (clause_and (an_infix 11 op.Equal (a_name 9 (codes "n")) (a_literal 10 (integer (codes "0")))) (a_body no_equates
    (statement_and (a_signal 12 (codes "e") no_expressions) no_statements)) (clause_and (an_infix 15 op.Equal (a_name 13 (codes "n")) (a_literal 14
    (integer (codes "1")))) (a_body no_equates (statement_and (a_signal 17 (codes "f") (expression_and (a_literal 16 (integer (codes "7")))
    no_expressions)) no_statements)) (clause_and (an_infix 20 op.Equal (a_name 18 (codes "n")) (a_literal 19 (integer (codes "2")))) (a_body
    no_equates (statement_and (a_signal 23 (codes "g") (expression_and (a_literal 21 (string (34 ∷ 115 ∷ 34 ∷ []))) (expression_and (a_literal 22
    (integer (codes "8"))) no_expressions))) no_statements)) no_clauses))) nothing_else) (statement_and (a_call_statement 32 (a_call 31 (an_operation
    26 (a_named_type 25 (codes "stream") no_constants) (codes "putl")) (expression_and (a_call 29 (an_operation 28 (a_named_type 27 (codes "stream")
    no_constants) (codes "primary_output")) no_expressions) (expression_and (a_literal 30 (string (34 ∷ 110 ∷ 111 ∷ 110 ∷ 101 ∷ 34 ∷ [])))
    no_expressions)))) no_statements)))) ∷ (a_routine 73 no_equates (routine 72 (codes "start_up") (codes "start_up") kind.Procedure [] ([]) no_types
    no_exceptions ([]) no_equates ([]) (statement_and (an_except 71 (a_begin 56 (a_body no_equates (statement_and (an_except 55 (a_call_statement 38
    (a_call 37 (a_name 35 (codes "p")) (expression_and (a_literal 36 (integer (codes "0"))) no_expressions))) (when_and 43 ((codes "e") ∷ []) (objects
    []) (a_body no_equates (statement_and (a_call_statement 42 (a_call 41 (a_name 39 (codes "p")) (expression_and (a_literal 40 (integer (codes "1")))
    no_expressions))) no_statements)) (when_and 54 ((codes "f") ∷ []) (objects (typed 45 ((codes "n") ∷ []) (a_simple_type 44 simple.Int) ∷ []))
    (a_body no_equates (statement_and (a_call_statement 53 (a_call 52 (an_operation 47 (a_named_type 46 (codes "stream") no_constants) (codes "putl"))
    (expression_and (a_call 50 (an_operation 49 (a_named_type 48 (codes "stream") no_constants) (codes "primary_output")) no_expressions)
    (expression_and (a_literal 51 (string (34 ∷ 33 ∷ 34 ∷ []))) no_expressions)))) no_statements)) no_whens)) no_others) no_statements))) (when_and 70
    ((codes "f") ∷ []) (objects (typed 58 ((codes "n") ∷ []) (a_simple_type 57 simple.Int) ∷ [])) (a_body no_equates (statement_and (a_call_statement
    69 (a_call 68 (an_operation 60 (a_named_type 59 (codes "stream") no_constants) (codes "putl")) (expression_and (a_call 63 (an_operation 62
    (a_named_type 61 (codes "stream") no_constants) (codes "primary_output")) no_expressions) (expression_and (a_call 67 (an_operation 65
    (a_simple_type 64 simple.Int) (codes "unparse")) (expression_and (a_name 66 (codes "n")) no_expressions)) no_expressions)))) no_statements))
    no_whens) no_others) no_statements))) ∷ [])

abbrev arms_do_not_take_from_each_other_declared : List Declared
arms_do_not_take_from_each_other_declared =
    (d (codes "n") 1 2 33 (Some 0) ∷ d (codes "p") 33 0 4294967295 None ∷ d (codes "n") 45 46 53 (Some 0) ∷ d (codes "n") 58 59 69 (Some 0) ∷ d (codes
    "start_up") 72 0 4294967295 None ∷ [])

arms_do_not_take_from_each_other : Runs arms_do_not_take_from_each_other_declared arms_do_not_take_from_each_other_modules (codes "") 10000 returned_normally (55 ∷ 10 ∷ []) 4 244
unfolding executing computing digits
arms_do_not_take_from_each_other = refl

-- % an own signal is not taken inside
-- p = proc () signals (e) signal e except when e: stream$putl(stream$primary_output(), "!") end end p
-- start_up = proc () p() except when e: stream$putl(stream$primary_output(), "caller") end end start_up
abbrev an_own_signal_is_not_taken_inside_modules : List Module
an_own_signal_is_not_taken_inside_modules =
    ((a_routine 14 no_equates (routine 13 (codes "p") (codes "p") kind.Procedure [] ([]) no_types (exception_and 0 (codes "e") no_types no_exceptions)
    ([]) no_equates ([]) (statement_and (an_except 12 (a_signal 2 (codes "e") no_expressions) (when_and 11 ((codes "e") ∷ []) (objects []) (a_body
    no_equates (statement_and (a_call_statement 10 (a_call 9 (an_operation 4 (a_named_type 3 (codes "stream") no_constants) (codes "putl"))
    (expression_and (a_call 7 (an_operation 6 (a_named_type 5 (codes "stream") no_constants) (codes "primary_output")) no_expressions) (expression_and
    (a_literal 8 (string (34 ∷ 33 ∷ 34 ∷ []))) no_expressions)))) no_statements)) no_whens) no_others) no_statements))) ∷ (a_routine 29 no_equates
    (routine 28 (codes "start_up") (codes "start_up") kind.Procedure [] ([]) no_types no_exceptions ([]) no_equates ([]) (statement_and (an_except 27
    (a_call_statement 17 (a_call 16 (a_name 15 (codes "p")) no_expressions)) (when_and 26 ((codes "e") ∷ []) (objects []) (a_body no_equates
    (statement_and (a_call_statement 25 (a_call 24 (an_operation 19 (a_named_type 18 (codes "stream") no_constants) (codes "putl")) (expression_and
    (a_call 22 (an_operation 21 (a_named_type 20 (codes "stream") no_constants) (codes "primary_output")) no_expressions) (expression_and (a_literal
    23 (string (34 ∷ 99 ∷ 97 ∷ 108 ∷ 108 ∷ 101 ∷ 114 ∷ 34 ∷ []))) no_expressions)))) no_statements)) no_whens) no_others) no_statements))) ∷ [])

abbrev an_own_signal_is_not_taken_inside_declared : List Declared
an_own_signal_is_not_taken_inside_declared =
    (d (codes "p") 13 0 4294967295 None ∷ d (codes "start_up") 28 0 4294967295 None ∷ [])

an_own_signal_is_not_taken_inside : Runs an_own_signal_is_not_taken_inside_declared an_own_signal_is_not_taken_inside_modules (codes "") 10000 returned_normally (99 ∷ 97 ∷ 108 ∷ 108 ∷ 101 ∷ 114 ∷ 10 ∷ []) 0 156
unfolding executing computing digits
an_own_signal_is_not_taken_inside = refl

-- % failure keeps its string
-- p = proc () signal failure("deep") end p q = proc () p() end q r = proc () q() end r
-- start_up = proc () r() except when failure (s: string): stream$putl(stream$primary_output(), s) end r() end start_up
abbrev failure_keeps_its_string_modules : List Module
failure_keeps_its_string_modules =
    ((a_routine 3 no_equates (routine 2 (codes "p") (codes "p") kind.Procedure [] ([]) no_types no_exceptions ([]) no_equates ([]) (statement_and
    (a_signal 1 (codes "failure") (expression_and (a_literal 0 (string (34 ∷ 100 ∷ 101 ∷ 101 ∷ 112 ∷ 34 ∷ []))) no_expressions)) no_statements))) ∷
    (a_routine 8 no_equates (routine 7 (codes "q") (codes "q") kind.Procedure [] ([]) no_types no_exceptions ([]) no_equates ([]) (statement_and
    (a_call_statement 6 (a_call 5 (a_name 4 (codes "p")) no_expressions)) no_statements))) ∷ (a_routine 13 no_equates (routine 12 (codes "r") (codes
    "r") kind.Procedure [] ([]) no_types no_exceptions ([]) no_equates ([]) (statement_and (a_call_statement 11 (a_call 10 (a_name 9 (codes "q"))
    no_expressions)) no_statements))) ∷ (a_routine 33 no_equates (routine 32 (codes "start_up") (codes "start_up") kind.Procedure [] ([]) no_types
    no_exceptions ([]) no_equates ([]) (statement_and (an_except 28 (a_call_statement 16 (a_call 15 (a_name 14 (codes "r")) no_expressions)) (when_and
    27 ((codes "failure") ∷ []) (objects (typed 18 ((codes "s") ∷ []) (a_simple_type 17 simple.String) ∷ [])) (a_body no_equates (statement_and
    (a_call_statement 26 (a_call 25 (an_operation 20 (a_named_type 19 (codes "stream") no_constants) (codes "putl")) (expression_and (a_call 23
    (an_operation 22 (a_named_type 21 (codes "stream") no_constants) (codes "primary_output")) no_expressions) (expression_and (a_name 24 (codes "s"))
    no_expressions)))) no_statements)) no_whens) no_others) (statement_and (a_call_statement 31 (a_call 30 (a_name 29 (codes "r")) no_expressions))
    no_statements)))) ∷ [])

abbrev failure_keeps_its_string_declared : List Declared
failure_keeps_its_string_declared =
    (d (codes "p") 2 0 4294967295 None ∷ d (codes "q") 7 0 4294967295 None ∷ d (codes "r") 12 0 4294967295 None ∷ d (codes "s") 18 19 26 (Some 0) ∷ d
    (codes "start_up") 32 0 4294967295 None ∷ [])

failure_keeps_its_string : Runs failure_keeps_its_string_declared failure_keeps_its_string_modules (codes "") 10000 (failure_with (codes "deep")) (100 ∷ 101 ∷ 101 ∷ 112 ∷ 10 ∷ []) 0 196
unfolding executing computing digits
failure_keeps_its_string = refl
