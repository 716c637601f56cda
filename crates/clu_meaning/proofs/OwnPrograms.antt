-- Programs that compute: own variables. Each is the tree of the CLU above it.
use Rattle.std.specs.Fmt.{digits}
use Rattle.std.specs.Prelude.{refl, List, [], ◌∷◌, codes, Some, None}
use Rattle.clu_names.specs.declared.scopes.Declared.{Declared}
use Rattle.clu_syntax.specs.declared.words.Operator.TheVariants as op
use Rattle.clu_syntax.specs.declared.words.SimpleType.TheVariants as simple
use Rattle.clu_syntax.specs.declared.words.RoutineKind.TheVariants as kind
use Rattle.clu_syntax.specs.Syntax.{integer, string, an_infix, a_literal, a_name, an_index, a_call, an_operation, no_expressions, expression_and, an_expression, a_type, no_constants, constant_and, a_simple_type, a_named_type, no_types, type_and, no_exceptions, an_equate, no_equates, equate_and, objects, an_assign, a_call_statement, a_return, an_except, no_statements, statement_and, a_body, no_whens, when_and, no_others, own_init, own_call_init, Module, a_routine, a_cluster}
use Rattle.clu_layout.specs.Computing.{computing}
use Rattle.clu_meaning.specs.Run.{returned_normally}
use Rattle.clu_meaning.specs.Executing.{executing}
use Rattle.clu_meaning.proofs.Running.{d, typed, a_variable, parameter, routine, cluster, Runs, Works}

-- % own variables are set up at the first call
-- init = proc (s: string) returns (string) stream$putl(stream$primary_output(), "init " || s) return (s) end init
-- p = proc () own a: string := init("a") own b: string := init(a || "b") stream$putl(stream$primary_output(), b) end p
-- start_up = proc () stream$putl(stream$primary_output(), "start") p() p() end start_up
abbrev own_variables_are_set_up_at_the_first_call_modules : List Module
own_variables_are_set_up_at_the_first_call_modules =
    ((a_routine 17 no_equates (routine 16 (codes "init") (codes "init") kind.Procedure [] (typed 1 ((codes "s") ∷ []) (a_simple_type 0 simple.String)
    ∷ []) (type_and (a_simple_type 2 simple.String) no_types) no_exceptions ([]) no_equates ([]) (statement_and (a_call_statement 13 (a_call 12
    (an_operation 5 (a_named_type 4 (codes "stream") no_constants) (codes "putl")) (expression_and (a_call 8 (an_operation 7 (a_named_type 6 (codes
    "stream") no_constants) (codes "primary_output")) no_expressions) (expression_and (an_infix 11 op.Concatenate (a_literal 9 (string (34 ∷ 105 ∷ 110
    ∷ 105 ∷ 116 ∷ 32 ∷ 34 ∷ []))) (a_name 10 (codes "s"))) no_expressions)))) (statement_and (a_return 15 (expression_and (a_name 14 (codes "s"))
    no_expressions)) no_statements)))) ∷ (a_routine 39 no_equates (routine 38 (codes "p") (codes "p") kind.Procedure [] ([]) no_types no_exceptions
    ([]) no_equates ((own_init 22 (a_variable (codes "a") (a_simple_type 18 simple.String)) (a_call 21 (a_name 19 (codes "init")) (expression_and
    (a_literal 20 (string (34 ∷ 97 ∷ 34 ∷ []))) no_expressions))) ∷ (own_init 29 (a_variable (codes "b") (a_simple_type 23 simple.String)) (a_call 28
    (a_name 24 (codes "init")) (expression_and (an_infix 27 op.Concatenate (a_name 25 (codes "a")) (a_literal 26 (string (34 ∷ 98 ∷ 34 ∷ []))))
    no_expressions))) ∷ []) (statement_and (a_call_statement 37 (a_call 36 (an_operation 31 (a_named_type 30 (codes "stream") no_constants) (codes
    "putl")) (expression_and (a_call 34 (an_operation 33 (a_named_type 32 (codes "stream") no_constants) (codes "primary_output")) no_expressions)
    (expression_and (a_name 35 (codes "b")) no_expressions)))) no_statements))) ∷ (a_routine 55 no_equates (routine 54 (codes "start_up") (codes
    "start_up") kind.Procedure [] ([]) no_types no_exceptions ([]) no_equates ([]) (statement_and (a_call_statement 47 (a_call 46 (an_operation 41
    (a_named_type 40 (codes "stream") no_constants) (codes "putl")) (expression_and (a_call 44 (an_operation 43 (a_named_type 42 (codes "stream")
    no_constants) (codes "primary_output")) no_expressions) (expression_and (a_literal 45 (string (34 ∷ 115 ∷ 116 ∷ 97 ∷ 114 ∷ 116 ∷ 34 ∷ [])))
    no_expressions)))) (statement_and (a_call_statement 50 (a_call 49 (a_name 48 (codes "p")) no_expressions)) (statement_and (a_call_statement 53
    (a_call 52 (a_name 51 (codes "p")) no_expressions)) no_statements))))) ∷ [])

abbrev own_variables_are_set_up_at_the_first_call_declared : List Declared
own_variables_are_set_up_at_the_first_call_declared =
    (d (codes "s") 1 2 16 (Some 0) ∷ d (codes "init") 16 0 4294967295 None ∷ d (codes "a") 22 23 38 (Some 0) ∷ d (codes "b") 29 30 38 (Some 0) ∷ d
    (codes "p") 38 0 4294967295 None ∷ d (codes "start_up") 54 0 4294967295 None ∷ [])

own_variables_are_set_up_at_the_first_call : Runs own_variables_are_set_up_at_the_first_call_declared own_variables_are_set_up_at_the_first_call_modules (codes "") 10000 returned_normally (115 ∷ 116 ∷ 97 ∷ 114 ∷ 116 ∷ 10 ∷ 105 ∷ 110 ∷ 105 ∷ 116 ∷ 32 ∷ 97 ∷ 10 ∷ 105 ∷ 110 ∷ 105 ∷ 116 ∷ 32 ∷ 97 ∷ 98 ∷ 10 ∷ 97 ∷ 98 ∷ 10 ∷ 97 ∷ 98 ∷ 10 ∷ []) 6 224
unfolding executing computing digits
own_variables_are_set_up_at_the_first_call = refl

-- % own variables by a call
-- two = proc () returns (int, string) return (1, "x") end two
-- p = proc () own n: int, s: string := two() n := n + 1 s := s || int$unparse(n) stream$putl(stream$primary_output(), s) end p start_up = proc () p() p() end start_up
abbrev own_variables_by_a_call_modules : List Module
own_variables_by_a_call_modules =
    ((a_routine 7 no_equates (routine 6 (codes "two") (codes "two") kind.Procedure [] ([]) (type_and (a_simple_type 0 simple.Int) (type_and
    (a_simple_type 1 simple.String) no_types)) no_exceptions ([]) no_equates ([]) (statement_and (a_return 5 (expression_and (a_literal 3 (integer
    (codes "1"))) (expression_and (a_literal 4 (string (34 ∷ 120 ∷ 34 ∷ []))) no_expressions))) no_statements))) ∷ (a_routine 35 no_equates (routine
    34 (codes "p") (codes "p") kind.Procedure [] ([]) no_types no_exceptions ([]) no_equates ((own_call_init 14 (typed 9 ((codes "n") ∷ [])
    (a_simple_type 8 simple.Int) ∷ typed 11 ((codes "s") ∷ []) (a_simple_type 10 simple.String) ∷ []) (a_call 13 (a_name 12 (codes "two"))
    no_expressions)) ∷ []) (statement_and (an_assign 18 ((codes "n") ∷ []) (expression_and (an_infix 17 op.Add (a_name 15 (codes "n")) (a_literal 16
    (integer (codes "1")))) no_expressions)) (statement_and (an_assign 25 ((codes "s") ∷ []) (expression_and (an_infix 24 op.Concatenate (a_name 19
    (codes "s")) (a_call 23 (an_operation 21 (a_simple_type 20 simple.Int) (codes "unparse")) (expression_and (a_name 22 (codes "n"))
    no_expressions))) no_expressions)) (statement_and (a_call_statement 33 (a_call 32 (an_operation 27 (a_named_type 26 (codes "stream") no_constants)
    (codes "putl")) (expression_and (a_call 30 (an_operation 29 (a_named_type 28 (codes "stream") no_constants) (codes "primary_output"))
    no_expressions) (expression_and (a_name 31 (codes "s")) no_expressions)))) no_statements))))) ∷ (a_routine 43 no_equates (routine 42 (codes
    "start_up") (codes "start_up") kind.Procedure [] ([]) no_types no_exceptions ([]) no_equates ([]) (statement_and (a_call_statement 38 (a_call 37
    (a_name 36 (codes "p")) no_expressions)) (statement_and (a_call_statement 41 (a_call 40 (a_name 39 (codes "p")) no_expressions)) no_statements))))
    ∷ [])

abbrev own_variables_by_a_call_declared : List Declared
own_variables_by_a_call_declared =
    (d (codes "two") 6 0 4294967295 None ∷ d (codes "n") 9 15 34 (Some 0) ∷ d (codes "s") 11 15 34 (Some 0) ∷ d (codes "p") 34 0 4294967295 None ∷ d
    (codes "start_up") 42 0 4294967295 None ∷ [])

own_variables_by_a_call : Runs own_variables_by_a_call_declared own_variables_by_a_call_modules (codes "") 10000 returned_normally (120 ∷ 50 ∷ 10 ∷ 120 ∷ 50 ∷ 51 ∷ 10 ∷ []) 12 200
unfolding executing computing digits
own_variables_by_a_call = refl

-- % an exception of an initialiser
-- p = proc () own n: int := 1 / 0 stream$putl(stream$primary_output(), "p") stream$putl(stream$primary_output(), int$unparse(n)) end p
-- start_up = proc () p() except when failure (s: string): stream$putl(stream$primary_output(), s) end p() except when failure (s: string): stream$putl(stream$primary_output(), s) end end start_up
abbrev an_exception_of_an_initialiser_modules : List Module
an_exception_of_an_initialiser_modules =
    ((a_routine 25 no_equates (routine 24 (codes "p") (codes "p") kind.Procedure [] ([]) no_types no_exceptions ([]) no_equates ((own_init 4
    (a_variable (codes "n") (a_simple_type 0 simple.Int)) (an_infix 3 op.Divide (a_literal 1 (integer (codes "1"))) (a_literal 2 (integer (codes
    "0"))))) ∷ []) (statement_and (a_call_statement 12 (a_call 11 (an_operation 6 (a_named_type 5 (codes "stream") no_constants) (codes "putl"))
    (expression_and (a_call 9 (an_operation 8 (a_named_type 7 (codes "stream") no_constants) (codes "primary_output")) no_expressions) (expression_and
    (a_literal 10 (string (34 ∷ 112 ∷ 34 ∷ []))) no_expressions)))) (statement_and (a_call_statement 23 (a_call 22 (an_operation 14 (a_named_type 13
    (codes "stream") no_constants) (codes "putl")) (expression_and (a_call 17 (an_operation 16 (a_named_type 15 (codes "stream") no_constants) (codes
    "primary_output")) no_expressions) (expression_and (a_call 21 (an_operation 19 (a_simple_type 18 simple.Int) (codes "unparse")) (expression_and
    (a_name 20 (codes "n")) no_expressions)) no_expressions)))) no_statements)))) ∷ (a_routine 57 no_equates (routine 56 (codes "start_up") (codes
    "start_up") kind.Procedure [] ([]) no_types no_exceptions ([]) no_equates ([]) (statement_and (an_except 40 (a_call_statement 28 (a_call 27
    (a_name 26 (codes "p")) no_expressions)) (when_and 39 ((codes "failure") ∷ []) (objects (typed 30 ((codes "s") ∷ []) (a_simple_type 29
    simple.String) ∷ [])) (a_body no_equates (statement_and (a_call_statement 38 (a_call 37 (an_operation 32 (a_named_type 31 (codes "stream")
    no_constants) (codes "putl")) (expression_and (a_call 35 (an_operation 34 (a_named_type 33 (codes "stream") no_constants) (codes
    "primary_output")) no_expressions) (expression_and (a_name 36 (codes "s")) no_expressions)))) no_statements)) no_whens) no_others) (statement_and
    (an_except 55 (a_call_statement 43 (a_call 42 (a_name 41 (codes "p")) no_expressions)) (when_and 54 ((codes "failure") ∷ []) (objects (typed 45
    ((codes "s") ∷ []) (a_simple_type 44 simple.String) ∷ [])) (a_body no_equates (statement_and (a_call_statement 53 (a_call 52 (an_operation 47
    (a_named_type 46 (codes "stream") no_constants) (codes "putl")) (expression_and (a_call 50 (an_operation 49 (a_named_type 48 (codes "stream")
    no_constants) (codes "primary_output")) no_expressions) (expression_and (a_name 51 (codes "s")) no_expressions)))) no_statements)) no_whens)
    no_others) no_statements)))) ∷ [])

abbrev an_exception_of_an_initialiser_declared : List Declared
an_exception_of_an_initialiser_declared =
    (d (codes "n") 4 5 24 (Some 0) ∷ d (codes "p") 24 0 4294967295 None ∷ d (codes "s") 30 31 38 (Some 0) ∷ d (codes "s") 45 46 53 (Some 0) ∷ d (codes
    "start_up") 56 0 4294967295 None ∷ [])

an_exception_of_an_initialiser : Runs an_exception_of_an_initialiser_declared an_exception_of_an_initialiser_modules (codes "") 10000 returned_normally (117 ∷ 110 ∷ 104 ∷ 97 ∷ 110 ∷ 100 ∷ 108 ∷ 101 ∷ 100 ∷ 32 ∷ 101 ∷ 120 ∷ 99 ∷ 101 ∷ 112 ∷ 116 ∷ 105 ∷ 111 ∷ 110 ∷ 58 ∷ 32 ∷ 122 ∷ 101 ∷ 114 ∷ 111 ∷ 95 ∷ 100 ∷ 105 ∷ 118 ∷ 105 ∷ 100 ∷ 101 ∷ 10 ∷ 112 ∷ 10 ∷ 117 ∷ 110 ∷ 105 ∷ 110 ∷ 105 ∷ 116 ∷ 105 ∷ 97 ∷ 108 ∷ 105 ∷ 122 ∷ 101 ∷ 100 ∷ 32 ∷ 118 ∷ 97 ∷ 114 ∷ 105 ∷ 97 ∷ 98 ∷ 108 ∷ 101 ∷ 10 ∷ []) 5 212
unfolding executing computing digits
an_exception_of_an_initialiser = refl

-- % own variables of a cluster come first
-- say_it = proc (s: string) returns (int) stream$putl(stream$primary_output(), s) return (1) end say_it
-- c = cluster is a, b rep = null own x: int := say_it("cluster")
-- a = proc () own y: int := say_it("a") stream$putl(stream$primary_output(), int$unparse(x)) x := x + 1 end a
-- b = proc () stream$putl(stream$primary_output(), int$unparse(x)) end b end c
-- start_up = proc () c$b() c$a() c$a() c$b() end start_up
abbrev own_variables_of_a_cluster_come_first_modules : List Module
own_variables_of_a_cluster_come_first_modules =
    ((a_routine 15 no_equates (routine 14 (codes "say_it") (codes "say_it") kind.Procedure [] (typed 1 ((codes "s") ∷ []) (a_simple_type 0
    simple.String) ∷ []) (type_and (a_simple_type 2 simple.Int) no_types) no_exceptions ([]) no_equates ([]) (statement_and (a_call_statement 11
    (a_call 10 (an_operation 5 (a_named_type 4 (codes "stream") no_constants) (codes "putl")) (expression_and (a_call 8 (an_operation 7 (a_named_type
    6 (codes "stream") no_constants) (codes "primary_output")) no_expressions) (expression_and (a_name 9 (codes "s")) no_expressions))))
    (statement_and (a_return 13 (expression_and (a_literal 12 (integer (codes "1"))) no_expressions)) no_statements)))) ∷ (a_cluster 57 no_equates
    (cluster 56 (codes "c") (codes "c") [] ((codes "a") ∷ (codes "b") ∷ []) ([]) (equate_and (an_equate 17 None (a_type (a_simple_type 16
    simple.Null))) no_equates) ((own_init 22 (a_variable (codes "x") (a_simple_type 18 simple.Int)) (a_call 21 (a_name 19 (codes "say_it"))
    (expression_and (a_literal 20 (string (34 ∷ 99 ∷ 108 ∷ 117 ∷ 115 ∷ 116 ∷ 101 ∷ 114 ∷ 34 ∷ []))) no_expressions))) ∷ []) ((routine 43 (codes "a")
    (codes "a") kind.Procedure [] ([]) no_types no_exceptions ([]) no_equates ((own_init 27 (a_variable (codes "y") (a_simple_type 23 simple.Int))
    (a_call 26 (a_name 24 (codes "say_it")) (expression_and (a_literal 25 (string (34 ∷ 97 ∷ 34 ∷ []))) no_expressions))) ∷ []) (statement_and
    (a_call_statement 38 (a_call 37 (an_operation 29 (a_named_type 28 (codes "stream") no_constants) (codes "putl")) (expression_and (a_call 32
    (an_operation 31 (a_named_type 30 (codes "stream") no_constants) (codes "primary_output")) no_expressions) (expression_and (a_call 36
    (an_operation 34 (a_simple_type 33 simple.Int) (codes "unparse")) (expression_and (a_name 35 (codes "x")) no_expressions)) no_expressions))))
    (statement_and (an_assign 42 ((codes "x") ∷ []) (expression_and (an_infix 41 op.Add (a_name 39 (codes "x")) (a_literal 40 (integer (codes "1"))))
    no_expressions)) no_statements))) ∷ (routine 55 (codes "b") (codes "b") kind.Procedure [] ([]) no_types no_exceptions ([]) no_equates ([])
    (statement_and (a_call_statement 54 (a_call 53 (an_operation 45 (a_named_type 44 (codes "stream") no_constants) (codes "putl")) (expression_and
    (a_call 48 (an_operation 47 (a_named_type 46 (codes "stream") no_constants) (codes "primary_output")) no_expressions) (expression_and (a_call 52
    (an_operation 50 (a_simple_type 49 simple.Int) (codes "unparse")) (expression_and (a_name 51 (codes "x")) no_expressions)) no_expressions))))
    no_statements)) ∷ []))) ∷ (a_routine 75 no_equates (routine 74 (codes "start_up") (codes "start_up") kind.Procedure [] ([]) no_types no_exceptions
    ([]) no_equates ([]) (statement_and (a_call_statement 61 (a_call 60 (an_operation 59 (a_named_type 58 (codes "c") no_constants) (codes "b"))
    no_expressions)) (statement_and (a_call_statement 65 (a_call 64 (an_operation 63 (a_named_type 62 (codes "c") no_constants) (codes "a"))
    no_expressions)) (statement_and (a_call_statement 69 (a_call 68 (an_operation 67 (a_named_type 66 (codes "c") no_constants) (codes "a"))
    no_expressions)) (statement_and (a_call_statement 73 (a_call 72 (an_operation 71 (a_named_type 70 (codes "c") no_constants) (codes "b"))
    no_expressions)) no_statements)))))) ∷ [])

abbrev own_variables_of_a_cluster_come_first_declared : List Declared
own_variables_of_a_cluster_come_first_declared =
    (d (codes "s") 1 2 14 (Some 0) ∷ d (codes "say_it") 14 0 4294967295 None ∷ d (codes "rep") 17 16 56 (Some 0) ∷ d (codes "x") 22 23 56 (Some 0) ∷ d
    (codes "y") 27 28 43 (Some 0) ∷ d (codes "a") 43 16 56 (Some 0) ∷ d (codes "b") 55 16 56 (Some 0) ∷ d (codes "c") 56 0 4294967295 None ∷ d (codes
    "start_up") 74 0 4294967295 None ∷ [])

own_variables_of_a_cluster_come_first : Runs own_variables_of_a_cluster_come_first_declared own_variables_of_a_cluster_come_first_modules (codes "") 10000 returned_normally (99 ∷ 108 ∷ 117 ∷ 115 ∷ 116 ∷ 101 ∷ 114 ∷ 10 ∷ 49 ∷ 10 ∷ 97 ∷ 10 ∷ 49 ∷ 10 ∷ 50 ∷ 10 ∷ 51 ∷ 10 ∷ []) 16 232
unfolding executing computing digits
own_variables_of_a_cluster_come_first = refl

-- % own variables by constants
-- p = proc [k: int] () returns (int) own n: int := k n := n + 1 return (n) end p
-- start_up = proc () stream$putl(stream$primary_output(), int$unparse(p[1]())) stream$putl(stream$primary_output(), int$unparse(p[5]())) stream$putl(stream$primary_output(), int$unparse(p[2 - 1]())) end start_up
abbrev own_variables_by_constants_modules : List Module
own_variables_by_constants_modules =
    ((a_routine 14 no_equates (routine 13 (codes "p") (codes "p") kind.Procedure (parameter 1 ((codes "k") ∷ []) (Some (a_simple_type 0 simple.Int)) ∷
    []) ([]) (type_and (a_simple_type 2 simple.Int) no_types) no_exceptions ([]) no_equates ((own_init 6 (a_variable (codes "n") (a_simple_type 4
    simple.Int)) (a_name 5 (codes "k"))) ∷ []) (statement_and (an_assign 10 ((codes "n") ∷ []) (expression_and (an_infix 9 op.Add (a_name 7 (codes
    "n")) (a_literal 8 (integer (codes "1")))) no_expressions)) (statement_and (a_return 12 (expression_and (a_name 11 (codes "n")) no_expressions))
    no_statements)))) ∷ (a_routine 60 no_equates (routine 59 (codes "start_up") (codes "start_up") kind.Procedure [] ([]) no_types no_exceptions ([])
    no_equates ([]) (statement_and (a_call_statement 28 (a_call 27 (an_operation 16 (a_named_type 15 (codes "stream") no_constants) (codes "putl"))
    (expression_and (a_call 19 (an_operation 18 (a_named_type 17 (codes "stream") no_constants) (codes "primary_output")) no_expressions)
    (expression_and (a_call 26 (an_operation 21 (a_simple_type 20 simple.Int) (codes "unparse")) (expression_and (a_call 25 (an_index 24 (a_name 22
    (codes "p")) (constant_and (an_expression (a_literal 23 (integer (codes "1")))) no_constants)) no_expressions) no_expressions)) no_expressions))))
    (statement_and (a_call_statement 42 (a_call 41 (an_operation 30 (a_named_type 29 (codes "stream") no_constants) (codes "putl")) (expression_and
    (a_call 33 (an_operation 32 (a_named_type 31 (codes "stream") no_constants) (codes "primary_output")) no_expressions) (expression_and (a_call 40
    (an_operation 35 (a_simple_type 34 simple.Int) (codes "unparse")) (expression_and (a_call 39 (an_index 38 (a_name 36 (codes "p")) (constant_and
    (an_expression (a_literal 37 (integer (codes "5")))) no_constants)) no_expressions) no_expressions)) no_expressions)))) (statement_and
    (a_call_statement 58 (a_call 57 (an_operation 44 (a_named_type 43 (codes "stream") no_constants) (codes "putl")) (expression_and (a_call 47
    (an_operation 46 (a_named_type 45 (codes "stream") no_constants) (codes "primary_output")) no_expressions) (expression_and (a_call 56
    (an_operation 49 (a_simple_type 48 simple.Int) (codes "unparse")) (expression_and (a_call 55 (an_index 54 (a_name 50 (codes "p")) (constant_and
    (an_expression (an_infix 53 op.Subtract (a_literal 51 (integer (codes "2"))) (a_literal 52 (integer (codes "1"))))) no_constants)) no_expressions)
    no_expressions)) no_expressions)))) no_statements))))) ∷ [])

abbrev own_variables_by_constants_declared : List Declared
own_variables_by_constants_declared =
    (d (codes "k") 1 0 13 (Some 0) ∷ d (codes "n") 6 7 13 (Some 0) ∷ d (codes "p") 13 0 4294967295 None ∷ d (codes "start_up") 59 0 4294967295 None ∷
    [])

own_variables_by_constants : Runs own_variables_by_constants_declared own_variables_by_constants_modules (codes "") 10000 returned_normally (50 ∷ 10 ∷ 54 ∷ 10 ∷ 51 ∷ 10 ∷ []) 12 218
unfolding executing computing digits
own_variables_by_constants = refl

-- % own variables of two clusters
-- a = cluster is next rep = null own n: int := 0 next = proc () returns (int) n := n + 1 return (n) end next end a
-- b = cluster is next rep = null own n: int := 10 next = proc () returns (int) n := n + 1 return (n) end next end b
-- start_up = proc () stream$puts(stream$primary_output(), int$unparse(a$next())) stream$puts(stream$primary_output(), int$unparse(b$next())) stream$puts(stream$primary_output(), int$unparse(a$next())) end start_up
abbrev own_variables_of_two_clusters_modules : List Module
own_variables_of_two_clusters_modules =
    ((a_cluster 15 no_equates (cluster 14 (codes "a") (codes "a") [] ((codes "next") ∷ []) ([]) (equate_and (an_equate 1 None (a_type (a_simple_type 0
    simple.Null))) no_equates) ((own_init 4 (a_variable (codes "n") (a_simple_type 2 simple.Int)) (a_literal 3 (integer (codes "0")))) ∷ []) ((routine
    13 (codes "next") (codes "next") kind.Procedure [] ([]) (type_and (a_simple_type 5 simple.Int) no_types) no_exceptions ([]) no_equates ([])
    (statement_and (an_assign 10 ((codes "n") ∷ []) (expression_and (an_infix 9 op.Add (a_name 7 (codes "n")) (a_literal 8 (integer (codes "1"))))
    no_expressions)) (statement_and (a_return 12 (expression_and (a_name 11 (codes "n")) no_expressions)) no_statements))) ∷ []))) ∷ (a_cluster 31
    no_equates (cluster 30 (codes "b") (codes "b") [] ((codes "next") ∷ []) ([]) (equate_and (an_equate 17 None (a_type (a_simple_type 16
    simple.Null))) no_equates) ((own_init 20 (a_variable (codes "n") (a_simple_type 18 simple.Int)) (a_literal 19 (integer (codes "10")))) ∷ [])
    ((routine 29 (codes "next") (codes "next") kind.Procedure [] ([]) (type_and (a_simple_type 21 simple.Int) no_types) no_exceptions ([]) no_equates
    ([]) (statement_and (an_assign 26 ((codes "n") ∷ []) (expression_and (an_infix 25 op.Add (a_name 23 (codes "n")) (a_literal 24 (integer (codes
    "1")))) no_expressions)) (statement_and (a_return 28 (expression_and (a_name 27 (codes "n")) no_expressions)) no_statements))) ∷ []))) ∷
    (a_routine 72 no_equates (routine 71 (codes "start_up") (codes "start_up") kind.Procedure [] ([]) no_types no_exceptions ([]) no_equates ([])
    (statement_and (a_call_statement 44 (a_call 43 (an_operation 33 (a_named_type 32 (codes "stream") no_constants) (codes "puts")) (expression_and
    (a_call 36 (an_operation 35 (a_named_type 34 (codes "stream") no_constants) (codes "primary_output")) no_expressions) (expression_and (a_call 42
    (an_operation 38 (a_simple_type 37 simple.Int) (codes "unparse")) (expression_and (a_call 41 (an_operation 40 (a_named_type 39 (codes "a")
    no_constants) (codes "next")) no_expressions) no_expressions)) no_expressions)))) (statement_and (a_call_statement 57 (a_call 56 (an_operation 46
    (a_named_type 45 (codes "stream") no_constants) (codes "puts")) (expression_and (a_call 49 (an_operation 48 (a_named_type 47 (codes "stream")
    no_constants) (codes "primary_output")) no_expressions) (expression_and (a_call 55 (an_operation 51 (a_simple_type 50 simple.Int) (codes
    "unparse")) (expression_and (a_call 54 (an_operation 53 (a_named_type 52 (codes "b") no_constants) (codes "next")) no_expressions)
    no_expressions)) no_expressions)))) (statement_and (a_call_statement 70 (a_call 69 (an_operation 59 (a_named_type 58 (codes "stream")
    no_constants) (codes "puts")) (expression_and (a_call 62 (an_operation 61 (a_named_type 60 (codes "stream") no_constants) (codes
    "primary_output")) no_expressions) (expression_and (a_call 68 (an_operation 64 (a_simple_type 63 simple.Int) (codes "unparse")) (expression_and
    (a_call 67 (an_operation 66 (a_named_type 65 (codes "a") no_constants) (codes "next")) no_expressions) no_expressions)) no_expressions))))
    no_statements))))) ∷ [])

abbrev own_variables_of_two_clusters_declared : List Declared
own_variables_of_two_clusters_declared =
    (d (codes "rep") 1 0 14 (Some 0) ∷ d (codes "n") 4 5 14 (Some 0) ∷ d (codes "next") 13 0 14 (Some 0) ∷ d (codes "a") 14 0 4294967295 None ∷ d
    (codes "rep") 17 16 30 (Some 0) ∷ d (codes "n") 20 21 30 (Some 0) ∷ d (codes "next") 29 16 30 (Some 0) ∷ d (codes "b") 30 0 4294967295 None ∷ d
    (codes "start_up") 71 0 4294967295 None ∷ [])

own_variables_of_two_clusters : Runs own_variables_of_two_clusters_declared own_variables_of_two_clusters_modules (codes "") 10000 returned_normally (codes "1112") 12 220
unfolding executing computing digits
own_variables_of_two_clusters = refl

own_variables_of_two_clusters_work : Works own_variables_of_two_clusters_declared own_variables_of_two_clusters_modules (codes "") 10000 333
unfolding executing computing digits
own_variables_of_two_clusters_work = refl
