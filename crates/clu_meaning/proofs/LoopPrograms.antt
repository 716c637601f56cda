-- Programs that compute: loops over iterators that break, return and raise. Each is the tree of the CLU above it.
use Rattle.std.specs.Fmt.{digits}
use Rattle.std.specs.Prelude.{refl, List, [], ◌∷◌, codes, Some, None}
use Rattle.clu_names.specs.declared.scopes.Declared.{Declared}
use Rattle.clu_syntax.specs.declared.words.Operator.TheVariants as op
use Rattle.clu_syntax.specs.declared.words.Sign.TheVariants as sign
use Rattle.clu_syntax.specs.declared.words.SimpleType.TheVariants as simple
use Rattle.clu_syntax.specs.declared.words.RoutineKind.TheVariants as kind
use Rattle.clu_syntax.specs.Syntax.{true_literal, integer, string, an_infix, a_prefix, a_literal, a_name, a_call, an_operation, a_force, no_expressions, expression_and, no_constants, a_simple_type, a_named_type, no_types, type_and, no_exceptions, exception_and, no_equates, objects, a_declare, an_init, an_assign, a_call_statement, a_while, a_for, a_for_of_names, an_if, a_return, a_yield, a_signal, a_break, a_continue, an_except, no_statements, statement_and, a_body, no_clauses, clause_and, nothing_else, otherwise, no_whens, when_and, no_others, Module, a_routine}
use Rattle.clu_layout.specs.Computing.{computing}
use Rattle.clu_meaning.specs.Run.{still_running, returned_normally}
use Rattle.clu_meaning.specs.Executing.{executing}
use Rattle.clu_meaning.proofs.Running.{d, typed, a_variable, routine, Runs, Ends, Works}

-- % from_to
-- start_up = proc ()
-- for i: int in int$from_to(3, 5) do stream$puts(stream$primary_output(), int$unparse(i)) end for i: int in int$from_to(3, 2) do stream$puts(stream$primary_output(), "!") end
-- for i: int in int$from_to_by(1, 9, 4) do stream$puts(stream$primary_output(), int$unparse(i)) end for i: int in int$from_to_by(3, 1, -1) do stream$puts(stream$primary_output(), int$unparse(i)) end
-- for i: int in int$from_to_by(2, 5, 0) do stream$puts(stream$primary_output(), int$unparse(i)) break end
-- for i: int in int$from_to(9223372036854775807 - 1, 9223372036854775807) do stream$puts(stream$primary_output(), "m") end stream$putl(stream$primary_output(), "")
-- end start_up
abbrev from_to_modules : List Module
from_to_modules =
    ((a_routine 124 no_equates (routine 123 (codes "start_up") (codes "start_up") kind.Procedure [] ([]) no_types no_exceptions ([]) no_equates ([])
    (statement_and (a_for 18 (typed 1 ((codes "i") ∷ []) (a_simple_type 0 simple.Int) ∷ []) (a_call 6 (an_operation 3 (a_simple_type 2 simple.Int)
    (codes "from_to")) (expression_and (a_literal 4 (integer (codes "3"))) (expression_and (a_literal 5 (integer (codes "5"))) no_expressions)))
    (a_body no_equates (statement_and (a_call_statement 17 (a_call 16 (an_operation 8 (a_named_type 7 (codes "stream") no_constants) (codes "puts"))
    (expression_and (a_call 11 (an_operation 10 (a_named_type 9 (codes "stream") no_constants) (codes "primary_output")) no_expressions)
    (expression_and (a_call 15 (an_operation 13 (a_simple_type 12 simple.Int) (codes "unparse")) (expression_and (a_name 14 (codes "i"))
    no_expressions)) no_expressions)))) no_statements))) (statement_and (a_for 34 (typed 20 ((codes "i") ∷ []) (a_simple_type 19 simple.Int) ∷ [])
    (a_call 25 (an_operation 22 (a_simple_type 21 simple.Int) (codes "from_to")) (expression_and (a_literal 23 (integer (codes "3"))) (expression_and
    (a_literal 24 (integer (codes "2"))) no_expressions))) (a_body no_equates (statement_and (a_call_statement 33 (a_call 32 (an_operation 27
    (a_named_type 26 (codes "stream") no_constants) (codes "puts")) (expression_and (a_call 30 (an_operation 29 (a_named_type 28 (codes "stream")
    no_constants) (codes "primary_output")) no_expressions) (expression_and (a_literal 31 (string (34 ∷ 33 ∷ 34 ∷ []))) no_expressions))))
    no_statements))) (statement_and (a_for 54 (typed 36 ((codes "i") ∷ []) (a_simple_type 35 simple.Int) ∷ []) (a_call 42 (an_operation 38
    (a_simple_type 37 simple.Int) (codes "from_to_by")) (expression_and (a_literal 39 (integer (codes "1"))) (expression_and (a_literal 40 (integer
    (codes "9"))) (expression_and (a_literal 41 (integer (codes "4"))) no_expressions)))) (a_body no_equates (statement_and (a_call_statement 53
    (a_call 52 (an_operation 44 (a_named_type 43 (codes "stream") no_constants) (codes "puts")) (expression_and (a_call 47 (an_operation 46
    (a_named_type 45 (codes "stream") no_constants) (codes "primary_output")) no_expressions) (expression_and (a_call 51 (an_operation 49
    (a_simple_type 48 simple.Int) (codes "unparse")) (expression_and (a_name 50 (codes "i")) no_expressions)) no_expressions)))) no_statements)))
    (statement_and (a_for 75 (typed 56 ((codes "i") ∷ []) (a_simple_type 55 simple.Int) ∷ []) (a_call 63 (an_operation 58 (a_simple_type 57
    simple.Int) (codes "from_to_by")) (expression_and (a_literal 59 (integer (codes "3"))) (expression_and (a_literal 60 (integer (codes "1")))
    (expression_and (a_prefix 62 sign.Minus (a_literal 61 (integer (codes "1")))) no_expressions)))) (a_body no_equates (statement_and
    (a_call_statement 74 (a_call 73 (an_operation 65 (a_named_type 64 (codes "stream") no_constants) (codes "puts")) (expression_and (a_call 68
    (an_operation 67 (a_named_type 66 (codes "stream") no_constants) (codes "primary_output")) no_expressions) (expression_and (a_call 72
    (an_operation 70 (a_simple_type 69 simple.Int) (codes "unparse")) (expression_and (a_name 71 (codes "i")) no_expressions)) no_expressions))))
    no_statements))) (statement_and (a_for 96 (typed 77 ((codes "i") ∷ []) (a_simple_type 76 simple.Int) ∷ []) (a_call 83 (an_operation 79
    (a_simple_type 78 simple.Int) (codes "from_to_by")) (expression_and (a_literal 80 (integer (codes "2"))) (expression_and (a_literal 81 (integer
    (codes "5"))) (expression_and (a_literal 82 (integer (codes "0"))) no_expressions)))) (a_body no_equates (statement_and (a_call_statement 94
    (a_call 93 (an_operation 85 (a_named_type 84 (codes "stream") no_constants) (codes "puts")) (expression_and (a_call 88 (an_operation 87
    (a_named_type 86 (codes "stream") no_constants) (codes "primary_output")) no_expressions) (expression_and (a_call 92 (an_operation 90
    (a_simple_type 89 simple.Int) (codes "unparse")) (expression_and (a_name 91 (codes "i")) no_expressions)) no_expressions)))) (statement_and
    (a_break 95) no_statements)))) (statement_and (a_for 114 (typed 98 ((codes "i") ∷ []) (a_simple_type 97 simple.Int) ∷ []) (a_call 105
    (an_operation 100 (a_simple_type 99 simple.Int) (codes "from_to")) (expression_and (an_infix 103 op.Subtract (a_literal 101 (integer (codes
    "9223372036854775807"))) (a_literal 102 (integer (codes "1")))) (expression_and (a_literal 104 (integer (codes "9223372036854775807")))
    no_expressions))) (a_body no_equates (statement_and (a_call_statement 113 (a_call 112 (an_operation 107 (a_named_type 106 (codes "stream")
    no_constants) (codes "puts")) (expression_and (a_call 110 (an_operation 109 (a_named_type 108 (codes "stream") no_constants) (codes
    "primary_output")) no_expressions) (expression_and (a_literal 111 (string (34 ∷ 109 ∷ 34 ∷ []))) no_expressions)))) no_statements)))
    (statement_and (a_call_statement 122 (a_call 121 (an_operation 116 (a_named_type 115 (codes "stream") no_constants) (codes "putl"))
    (expression_and (a_call 119 (an_operation 118 (a_named_type 117 (codes "stream") no_constants) (codes "primary_output")) no_expressions)
    (expression_and (a_literal 120 (string (34 ∷ 34 ∷ []))) no_expressions)))) no_statements))))))))) ∷ [])

abbrev from_to_declared : List Declared
from_to_declared =
    (d (codes "i") 1 7 17 (Some 0) ∷ d (codes "i") 20 26 33 (Some 0) ∷ d (codes "i") 36 43 53 (Some 0) ∷ d (codes "i") 56 64 74 (Some 0) ∷ d (codes
    "i") 77 84 95 (Some 0) ∷ d (codes "i") 98 106 113 (Some 0) ∷ d (codes "start_up") 123 0 4294967295 None ∷ [])

from_to : Runs from_to_declared from_to_modules (codes "") 10000 returned_normally (51 ∷ 52 ∷ 53 ∷ 49 ∷ 53 ∷ 57 ∷ 51 ∷ 50 ∷ 49 ∷ 50 ∷ 109 ∷ 109 ∷ 10 ∷ []) 40 512
unfolding executing computing digits
from_to = refl

-- % nested loops
-- start_up = proc ()
-- for i: int in int$from_to(1, 3) do for j: int in int$from_to(i, 3) do
-- if j = 2 then continue end if i = 3 then break end stream$puts(stream$primary_output(), int$unparse(i * 10 + j)) stream$puts(stream$primary_output(), " ") end end stream$putl(stream$primary_output(), "")
-- end start_up
abbrev nested_loops_modules : List Module
nested_loops_modules =
    ((a_routine 58 no_equates (routine 57 (codes "start_up") (codes "start_up") kind.Procedure [] ([]) no_types no_exceptions ([]) no_equates ([])
    (statement_and (a_for 48 (typed 1 ((codes "i") ∷ []) (a_simple_type 0 simple.Int) ∷ []) (a_call 6 (an_operation 3 (a_simple_type 2 simple.Int)
    (codes "from_to")) (expression_and (a_literal 4 (integer (codes "1"))) (expression_and (a_literal 5 (integer (codes "3"))) no_expressions)))
    (a_body no_equates (statement_and (a_for 47 (typed 8 ((codes "j") ∷ []) (a_simple_type 7 simple.Int) ∷ []) (a_call 13 (an_operation 10
    (a_simple_type 9 simple.Int) (codes "from_to")) (expression_and (a_name 11 (codes "i")) (expression_and (a_literal 12 (integer (codes "3")))
    no_expressions))) (a_body no_equates (statement_and (an_if 18 (clause_and (an_infix 16 op.Equal (a_name 14 (codes "j")) (a_literal 15 (integer
    (codes "2")))) (a_body no_equates (statement_and (a_continue 17) no_statements)) no_clauses) nothing_else) (statement_and (an_if 23 (clause_and
    (an_infix 21 op.Equal (a_name 19 (codes "i")) (a_literal 20 (integer (codes "3")))) (a_body no_equates (statement_and (a_break 22) no_statements))
    no_clauses) nothing_else) (statement_and (a_call_statement 38 (a_call 37 (an_operation 25 (a_named_type 24 (codes "stream") no_constants) (codes
    "puts")) (expression_and (a_call 28 (an_operation 27 (a_named_type 26 (codes "stream") no_constants) (codes "primary_output")) no_expressions)
    (expression_and (a_call 36 (an_operation 30 (a_simple_type 29 simple.Int) (codes "unparse")) (expression_and (an_infix 35 op.Add (an_infix 33
    op.Multiply (a_name 31 (codes "i")) (a_literal 32 (integer (codes "10")))) (a_name 34 (codes "j"))) no_expressions)) no_expressions))))
    (statement_and (a_call_statement 46 (a_call 45 (an_operation 40 (a_named_type 39 (codes "stream") no_constants) (codes "puts")) (expression_and
    (a_call 43 (an_operation 42 (a_named_type 41 (codes "stream") no_constants) (codes "primary_output")) no_expressions) (expression_and (a_literal
    44 (string (34 ∷ 32 ∷ 34 ∷ []))) no_expressions)))) no_statements)))))) no_statements))) (statement_and (a_call_statement 56 (a_call 55
    (an_operation 50 (a_named_type 49 (codes "stream") no_constants) (codes "putl")) (expression_and (a_call 53 (an_operation 52 (a_named_type 51
    (codes "stream") no_constants) (codes "primary_output")) no_expressions) (expression_and (a_literal 54 (string (34 ∷ 34 ∷ []))) no_expressions))))
    no_statements)))) ∷ [])

abbrev nested_loops_declared : List Declared
nested_loops_declared =
    (d (codes "i") 1 7 47 (Some 0) ∷ d (codes "j") 8 14 46 (Some 0) ∷ d (codes "start_up") 57 0 4294967295 None ∷ [])

nested_loops : Runs nested_loops_declared nested_loops_modules (codes "") 10000 returned_normally (49 ∷ 49 ∷ 32 ∷ 49 ∷ 51 ∷ 32 ∷ 50 ∷ 51 ∷ 32 ∷ 10 ∷ []) 12 562
unfolding executing computing digits
nested_loops = refl

-- % break ends the iterator
-- it = iter () yields (int) yield (1) stream$putl(stream$primary_output(), "a") yield (2) stream$putl(stream$primary_output(), "b") yield (3) stream$putl(stream$primary_output(), "c") end it
-- start_up = proc () for x: int in it() do stream$putl(stream$primary_output(), int$unparse(x)) if x = 2 then break end end stream$putl(stream$primary_output(), "on") end start_up
abbrev break_ends_the_iterator_modules : List Module
break_ends_the_iterator_modules =
    ((a_routine 33 no_equates (routine 32 (codes "it") (codes "it") kind.Iterator [] ([]) (type_and (a_simple_type 0 simple.Int) no_types)
    no_exceptions ([]) no_equates ([]) (statement_and (a_yield 3 (expression_and (a_literal 2 (integer (codes "1"))) no_expressions)) (statement_and
    (a_call_statement 11 (a_call 10 (an_operation 5 (a_named_type 4 (codes "stream") no_constants) (codes "putl")) (expression_and (a_call 8
    (an_operation 7 (a_named_type 6 (codes "stream") no_constants) (codes "primary_output")) no_expressions) (expression_and (a_literal 9 (string (34
    ∷ 97 ∷ 34 ∷ []))) no_expressions)))) (statement_and (a_yield 13 (expression_and (a_literal 12 (integer (codes "2"))) no_expressions))
    (statement_and (a_call_statement 21 (a_call 20 (an_operation 15 (a_named_type 14 (codes "stream") no_constants) (codes "putl")) (expression_and
    (a_call 18 (an_operation 17 (a_named_type 16 (codes "stream") no_constants) (codes "primary_output")) no_expressions) (expression_and (a_literal
    19 (string (34 ∷ 98 ∷ 34 ∷ []))) no_expressions)))) (statement_and (a_yield 23 (expression_and (a_literal 22 (integer (codes "3")))
    no_expressions)) (statement_and (a_call_statement 31 (a_call 30 (an_operation 25 (a_named_type 24 (codes "stream") no_constants) (codes "putl"))
    (expression_and (a_call 28 (an_operation 27 (a_named_type 26 (codes "stream") no_constants) (codes "primary_output")) no_expressions)
    (expression_and (a_literal 29 (string (34 ∷ 99 ∷ 34 ∷ []))) no_expressions)))) no_statements)))))))) ∷ (a_routine 64 no_equates (routine 63 (codes
    "start_up") (codes "start_up") kind.Procedure [] ([]) no_types no_exceptions ([]) no_equates ([]) (statement_and (a_for 54 (typed 35 ((codes "x")
    ∷ []) (a_simple_type 34 simple.Int) ∷ []) (a_call 37 (a_name 36 (codes "it")) no_expressions) (a_body no_equates (statement_and (a_call_statement
    48 (a_call 47 (an_operation 39 (a_named_type 38 (codes "stream") no_constants) (codes "putl")) (expression_and (a_call 42 (an_operation 41
    (a_named_type 40 (codes "stream") no_constants) (codes "primary_output")) no_expressions) (expression_and (a_call 46 (an_operation 44
    (a_simple_type 43 simple.Int) (codes "unparse")) (expression_and (a_name 45 (codes "x")) no_expressions)) no_expressions)))) (statement_and (an_if
    53 (clause_and (an_infix 51 op.Equal (a_name 49 (codes "x")) (a_literal 50 (integer (codes "2")))) (a_body no_equates (statement_and (a_break 52)
    no_statements)) no_clauses) nothing_else) no_statements)))) (statement_and (a_call_statement 62 (a_call 61 (an_operation 56 (a_named_type 55
    (codes "stream") no_constants) (codes "putl")) (expression_and (a_call 59 (an_operation 58 (a_named_type 57 (codes "stream") no_constants) (codes
    "primary_output")) no_expressions) (expression_and (a_literal 60 (string (34 ∷ 111 ∷ 110 ∷ 34 ∷ []))) no_expressions)))) no_statements)))) ∷ [])

abbrev break_ends_the_iterator_declared : List Declared
break_ends_the_iterator_declared =
    (d (codes "it") 32 0 4294967295 None ∷ d (codes "x") 35 38 53 (Some 0) ∷ d (codes "start_up") 63 0 4294967295 None ∷ [])

break_ends_the_iterator : Runs break_ends_the_iterator_declared break_ends_the_iterator_modules (codes "") 10000 returned_normally (49 ∷ 10 ∷ 97 ∷ 10 ∷ 50 ∷ 10 ∷ 111 ∷ 110 ∷ 10 ∷ []) 8 242
unfolding executing computing digits
break_ends_the_iterator = refl

-- % return in an iterator
-- it = iter (n: int) yields (int) yield (1) if n = 1 then return end yield (2) end it
-- start_up = proc () for i: int in int$from_to(1, 2) do for x: int in it(i) do stream$putl(stream$primary_output(), int$unparse(x)) end stream$putl(stream$primary_output(), "-") end end start_up
abbrev return_in_an_iterator_modules : List Module
return_in_an_iterator_modules =
    ((a_routine 14 no_equates (routine 13 (codes "it") (codes "it") kind.Iterator [] (typed 1 ((codes "n") ∷ []) (a_simple_type 0 simple.Int) ∷ [])
    (type_and (a_simple_type 2 simple.Int) no_types) no_exceptions ([]) no_equates ([]) (statement_and (a_yield 5 (expression_and (a_literal 4
    (integer (codes "1"))) no_expressions)) (statement_and (an_if 10 (clause_and (an_infix 8 op.Equal (a_name 6 (codes "n")) (a_literal 7 (integer
    (codes "1")))) (a_body no_equates (statement_and (a_return 9 no_expressions) no_statements)) no_clauses) nothing_else) (statement_and (a_yield 12
    (expression_and (a_literal 11 (integer (codes "2"))) no_expressions)) no_statements))))) ∷ (a_routine 49 no_equates (routine 48 (codes "start_up")
    (codes "start_up") kind.Procedure [] ([]) no_types no_exceptions ([]) no_equates ([]) (statement_and (a_for 47 (typed 16 ((codes "i") ∷ [])
    (a_simple_type 15 simple.Int) ∷ []) (a_call 21 (an_operation 18 (a_simple_type 17 simple.Int) (codes "from_to")) (expression_and (a_literal 19
    (integer (codes "1"))) (expression_and (a_literal 20 (integer (codes "2"))) no_expressions))) (a_body no_equates (statement_and (a_for 38 (typed
    23 ((codes "x") ∷ []) (a_simple_type 22 simple.Int) ∷ []) (a_call 26 (a_name 24 (codes "it")) (expression_and (a_name 25 (codes "i"))
    no_expressions)) (a_body no_equates (statement_and (a_call_statement 37 (a_call 36 (an_operation 28 (a_named_type 27 (codes "stream")
    no_constants) (codes "putl")) (expression_and (a_call 31 (an_operation 30 (a_named_type 29 (codes "stream") no_constants) (codes
    "primary_output")) no_expressions) (expression_and (a_call 35 (an_operation 33 (a_simple_type 32 simple.Int) (codes "unparse")) (expression_and
    (a_name 34 (codes "x")) no_expressions)) no_expressions)))) no_statements))) (statement_and (a_call_statement 46 (a_call 45 (an_operation 40
    (a_named_type 39 (codes "stream") no_constants) (codes "putl")) (expression_and (a_call 43 (an_operation 42 (a_named_type 41 (codes "stream")
    no_constants) (codes "primary_output")) no_expressions) (expression_and (a_literal 44 (string (34 ∷ 45 ∷ 34 ∷ []))) no_expressions))))
    no_statements)))) no_statements))) ∷ [])

abbrev return_in_an_iterator_declared : List Declared
return_in_an_iterator_declared =
    (d (codes "n") 1 2 13 (Some 0) ∷ d (codes "it") 13 0 4294967295 None ∷ d (codes "i") 16 22 46 (Some 0) ∷ d (codes "x") 23 27 37 (Some 0) ∷ d
    (codes "start_up") 48 0 4294967295 None ∷ [])

return_in_an_iterator : Runs return_in_an_iterator_declared return_in_an_iterator_modules (codes "") 10000 returned_normally (49 ∷ 10 ∷ 45 ∷ 10 ∷ 49 ∷ 10 ∷ 50 ∷ 10 ∷ 45 ∷ 10 ∷ []) 12 394
unfolding executing computing digits
return_in_an_iterator = refl

-- % several objects
-- it = iter () yields (int, string) yield (1, "one") yield (2, "two") end it
-- start_up = proc () n: int s: string for n, s in it() do stream$putl(stream$primary_output(), s) end stream$putl(stream$primary_output(), int$unparse(n) || s)
-- for a: int, b: any in it() do stream$putl(stream$primary_output(), force[string](b)) end end start_up
abbrev several_objects_modules : List Module
several_objects_modules =
    ((a_routine 10 no_equates (routine 9 (codes "it") (codes "it") kind.Iterator [] ([]) (type_and (a_simple_type 0 simple.Int) (type_and
    (a_simple_type 1 simple.String) no_types)) no_exceptions ([]) no_equates ([]) (statement_and (a_yield 5 (expression_and (a_literal 3 (integer
    (codes "1"))) (expression_and (a_literal 4 (string (34 ∷ 111 ∷ 110 ∷ 101 ∷ 34 ∷ []))) no_expressions))) (statement_and (a_yield 8 (expression_and
    (a_literal 6 (integer (codes "2"))) (expression_and (a_literal 7 (string (34 ∷ 116 ∷ 119 ∷ 111 ∷ 34 ∷ []))) no_expressions))) no_statements)))) ∷
    (a_routine 60 no_equates (routine 59 (codes "start_up") (codes "start_up") kind.Procedure [] ([]) no_types no_exceptions ([]) no_equates ([])
    (statement_and (a_declare 13 (typed 12 ((codes "n") ∷ []) (a_simple_type 11 simple.Int))) (statement_and (a_declare 16 (typed 15 ((codes "s") ∷
    []) (a_simple_type 14 simple.String))) (statement_and (a_for_of_names 27 ((codes "n") ∷ (codes "s") ∷ []) (a_call 18 (a_name 17 (codes "it"))
    no_expressions) (a_body no_equates (statement_and (a_call_statement 26 (a_call 25 (an_operation 20 (a_named_type 19 (codes "stream") no_constants)
    (codes "putl")) (expression_and (a_call 23 (an_operation 22 (a_named_type 21 (codes "stream") no_constants) (codes "primary_output"))
    no_expressions) (expression_and (a_name 24 (codes "s")) no_expressions)))) no_statements))) (statement_and (a_call_statement 40 (a_call 39
    (an_operation 29 (a_named_type 28 (codes "stream") no_constants) (codes "putl")) (expression_and (a_call 32 (an_operation 31 (a_named_type 30
    (codes "stream") no_constants) (codes "primary_output")) no_expressions) (expression_and (an_infix 38 op.Concatenate (a_call 36 (an_operation 34
    (a_simple_type 33 simple.Int) (codes "unparse")) (expression_and (a_name 35 (codes "n")) no_expressions)) (a_name 37 (codes "s")))
    no_expressions)))) (statement_and (a_for 58 (typed 42 ((codes "a") ∷ []) (a_simple_type 41 simple.Int) ∷ typed 44 ((codes "b") ∷ [])
    (a_simple_type 43 simple.Any) ∷ []) (a_call 46 (a_name 45 (codes "it")) no_expressions) (a_body no_equates (statement_and (a_call_statement 57
    (a_call 56 (an_operation 48 (a_named_type 47 (codes "stream") no_constants) (codes "putl")) (expression_and (a_call 51 (an_operation 50
    (a_named_type 49 (codes "stream") no_constants) (codes "primary_output")) no_expressions) (expression_and (a_call 55 (a_force 53 (a_simple_type 52
    simple.String)) (expression_and (a_name 54 (codes "b")) no_expressions)) no_expressions)))) no_statements))) no_statements))))))) ∷ [])

abbrev several_objects_declared : List Declared
several_objects_declared =
    (d (codes "it") 9 0 4294967295 None ∷ d (codes "n") 12 14 59 (Some 0) ∷ d (codes "s") 15 17 59 (Some 0) ∷ d (codes "a") 42 47 57 (Some 0) ∷ d
    (codes "b") 44 47 57 (Some 0) ∷ d (codes "start_up") 59 0 4294967295 None ∷ [])

several_objects : Runs several_objects_declared several_objects_modules (codes "") 10000 returned_normally (111 ∷ 110 ∷ 101 ∷ 10 ∷ 116 ∷ 119 ∷ 111 ∷ 10 ∷ 50 ∷ 116 ∷ 119 ∷ 111 ∷ 10 ∷ 111 ∷ 110 ∷ 101 ∷ 10 ∷ 116 ∷ 119 ∷ 111 ∷ 10 ∷ []) 14 236
unfolding executing computing digits
several_objects = refl

-- % an iterator over an iterator
-- base = iter (n: int) yields (int) for i: int in int$from_to(1, n) do yield (i) end end base
-- odd = iter (n: int) yields (int) for i: int in base(n) do if i // 2 = 1 then yield (i) end end end odd
-- start_up = proc () for i: int in odd(7) do if i = 5 then break end stream$putl(stream$primary_output(), int$unparse(i)) end end start_up
abbrev an_iterator_over_an_iterator_modules : List Module
an_iterator_over_an_iterator_modules =
    ((a_routine 15 no_equates (routine 14 (codes "base") (codes "base") kind.Iterator [] (typed 1 ((codes "n") ∷ []) (a_simple_type 0 simple.Int) ∷
    []) (type_and (a_simple_type 2 simple.Int) no_types) no_exceptions ([]) no_equates ([]) (statement_and (a_for 13 (typed 5 ((codes "i") ∷ [])
    (a_simple_type 4 simple.Int) ∷ []) (a_call 10 (an_operation 7 (a_simple_type 6 simple.Int) (codes "from_to")) (expression_and (a_literal 8
    (integer (codes "1"))) (expression_and (a_name 9 (codes "n")) no_expressions))) (a_body no_equates (statement_and (a_yield 12 (expression_and
    (a_name 11 (codes "i")) no_expressions)) no_statements))) no_statements))) ∷ (a_routine 35 no_equates (routine 34 (codes "odd") (codes "odd")
    kind.Iterator [] (typed 17 ((codes "n") ∷ []) (a_simple_type 16 simple.Int) ∷ []) (type_and (a_simple_type 18 simple.Int) no_types) no_exceptions
    ([]) no_equates ([]) (statement_and (a_for 33 (typed 21 ((codes "i") ∷ []) (a_simple_type 20 simple.Int) ∷ []) (a_call 24 (a_name 22 (codes
    "base")) (expression_and (a_name 23 (codes "n")) no_expressions)) (a_body no_equates (statement_and (an_if 32 (clause_and (an_infix 29 op.Equal
    (an_infix 27 op.Remainder (a_name 25 (codes "i")) (a_literal 26 (integer (codes "2")))) (a_literal 28 (integer (codes "1")))) (a_body no_equates
    (statement_and (a_yield 31 (expression_and (a_name 30 (codes "i")) no_expressions)) no_statements)) no_clauses) nothing_else) no_statements)))
    no_statements))) ∷ (a_routine 59 no_equates (routine 58 (codes "start_up") (codes "start_up") kind.Procedure [] ([]) no_types no_exceptions ([])
    no_equates ([]) (statement_and (a_for 57 (typed 37 ((codes "i") ∷ []) (a_simple_type 36 simple.Int) ∷ []) (a_call 40 (a_name 38 (codes "odd"))
    (expression_and (a_literal 39 (integer (codes "7"))) no_expressions)) (a_body no_equates (statement_and (an_if 45 (clause_and (an_infix 43
    op.Equal (a_name 41 (codes "i")) (a_literal 42 (integer (codes "5")))) (a_body no_equates (statement_and (a_break 44) no_statements)) no_clauses)
    nothing_else) (statement_and (a_call_statement 56 (a_call 55 (an_operation 47 (a_named_type 46 (codes "stream") no_constants) (codes "putl"))
    (expression_and (a_call 50 (an_operation 49 (a_named_type 48 (codes "stream") no_constants) (codes "primary_output")) no_expressions)
    (expression_and (a_call 54 (an_operation 52 (a_simple_type 51 simple.Int) (codes "unparse")) (expression_and (a_name 53 (codes "i"))
    no_expressions)) no_expressions)))) no_statements)))) no_statements))) ∷ [])

abbrev an_iterator_over_an_iterator_declared : List Declared
an_iterator_over_an_iterator_declared =
    (d (codes "n") 1 2 14 (Some 0) ∷ d (codes "i") 5 11 12 (Some 0) ∷ d (codes "base") 14 0 4294967295 None ∷ d (codes "n") 17 18 34 (Some 0) ∷ d
    (codes "i") 21 25 32 (Some 0) ∷ d (codes "odd") 34 0 4294967295 None ∷ d (codes "i") 37 41 56 (Some 0) ∷ d (codes "start_up") 58 0 4294967295 None
    ∷ [])

an_iterator_over_an_iterator : Runs an_iterator_over_an_iterator_declared an_iterator_over_an_iterator_modules (codes "") 10000 returned_normally (49 ∷ 10 ∷ 51 ∷ 10 ∷ []) 8 446
unfolding executing computing digits
an_iterator_over_an_iterator = refl

-- % an iterator signals
-- it = iter (n: int) yields (int) signals (e(int)) yield (1) if n = 0 then signal e(5) end yield (2) end it
-- start_up = proc () for i: int in int$from_to(0, 1) do for x: int in it(i) do stream$putl(stream$primary_output(), int$unparse(x)) end
-- except when e (k: int): stream$putl(stream$primary_output(), int$unparse(k)) end end end start_up
abbrev an_iterator_signals_modules : List Module
an_iterator_signals_modules =
    ((a_routine 18 no_equates (routine 17 (codes "it") (codes "it") kind.Iterator [] (typed 1 ((codes "n") ∷ []) (a_simple_type 0 simple.Int) ∷ [])
    (type_and (a_simple_type 2 simple.Int) no_types) (exception_and 5 (codes "e") (type_and (a_simple_type 4 simple.Int) no_types) no_exceptions) ([])
    no_equates ([]) (statement_and (a_yield 8 (expression_and (a_literal 7 (integer (codes "1"))) no_expressions)) (statement_and (an_if 14
    (clause_and (an_infix 11 op.Equal (a_name 9 (codes "n")) (a_literal 10 (integer (codes "0")))) (a_body no_equates (statement_and (a_signal 13
    (codes "e") (expression_and (a_literal 12 (integer (codes "5"))) no_expressions)) no_statements)) no_clauses) nothing_else) (statement_and
    (a_yield 16 (expression_and (a_literal 15 (integer (codes "2"))) no_expressions)) no_statements))))) ∷ (a_routine 60 no_equates (routine 59 (codes
    "start_up") (codes "start_up") kind.Procedure [] ([]) no_types no_exceptions ([]) no_equates ([]) (statement_and (a_for 58 (typed 20 ((codes "i")
    ∷ []) (a_simple_type 19 simple.Int) ∷ []) (a_call 25 (an_operation 22 (a_simple_type 21 simple.Int) (codes "from_to")) (expression_and (a_literal
    23 (integer (codes "0"))) (expression_and (a_literal 24 (integer (codes "1"))) no_expressions))) (a_body no_equates (statement_and (an_except 57
    (a_for 42 (typed 27 ((codes "x") ∷ []) (a_simple_type 26 simple.Int) ∷ []) (a_call 30 (a_name 28 (codes "it")) (expression_and (a_name 29 (codes
    "i")) no_expressions)) (a_body no_equates (statement_and (a_call_statement 41 (a_call 40 (an_operation 32 (a_named_type 31 (codes "stream")
    no_constants) (codes "putl")) (expression_and (a_call 35 (an_operation 34 (a_named_type 33 (codes "stream") no_constants) (codes
    "primary_output")) no_expressions) (expression_and (a_call 39 (an_operation 37 (a_simple_type 36 simple.Int) (codes "unparse")) (expression_and
    (a_name 38 (codes "x")) no_expressions)) no_expressions)))) no_statements))) (when_and 56 ((codes "e") ∷ []) (objects (typed 44 ((codes "k") ∷ [])
    (a_simple_type 43 simple.Int) ∷ [])) (a_body no_equates (statement_and (a_call_statement 55 (a_call 54 (an_operation 46 (a_named_type 45 (codes
    "stream") no_constants) (codes "putl")) (expression_and (a_call 49 (an_operation 48 (a_named_type 47 (codes "stream") no_constants) (codes
    "primary_output")) no_expressions) (expression_and (a_call 53 (an_operation 51 (a_simple_type 50 simple.Int) (codes "unparse")) (expression_and
    (a_name 52 (codes "k")) no_expressions)) no_expressions)))) no_statements)) no_whens) no_others) no_statements))) no_statements))) ∷ [])

abbrev an_iterator_signals_declared : List Declared
an_iterator_signals_declared =
    (d (codes "n") 1 2 17 (Some 0) ∷ d (codes "it") 17 0 4294967295 None ∷ d (codes "i") 20 26 57 (Some 0) ∷ d (codes "x") 27 31 41 (Some 0) ∷ d
    (codes "k") 44 45 55 (Some 0) ∷ d (codes "start_up") 59 0 4294967295 None ∷ [])

an_iterator_signals : Runs an_iterator_signals_declared an_iterator_signals_modules (codes "") 10000 returned_normally (49 ∷ 10 ∷ 53 ∷ 10 ∷ 49 ∷ 10 ∷ 50 ∷ 10 ∷ []) 16 416
unfolding executing computing digits
an_iterator_signals = refl

-- % break and continue in a while
-- start_up = proc ()
--   i: int := 0
--   while true do
--     i := i + 1
--     if i = 2 then continue end
--     if i = 4 then break end
--     stream$puts(stream$primary_output(), int$unparse(i))
--   end
--   stream$puts(stream$primary_output(), "!")
-- end start_up
abbrev break_and_continue_in_a_while_modules : List Module
break_and_continue_in_a_while_modules =
    ((a_routine 39 no_equates (routine 38 (codes "start_up") (codes "start_up") kind.Procedure [] ([]) no_types no_exceptions ([]) no_equates ([])
    (statement_and (an_init 2 (a_variable (codes "i") (a_simple_type 0 simple.Int)) (a_literal 1 (integer (codes "0")))) (statement_and (a_while 29
    (a_literal 3 true_literal) (a_body no_equates (statement_and (an_assign 7 ((codes "i") ∷ []) (expression_and (an_infix 6 op.Add (a_name 4 (codes
    "i")) (a_literal 5 (integer (codes "1")))) no_expressions)) (statement_and (an_if 12 (clause_and (an_infix 10 op.Equal (a_name 8 (codes "i"))
    (a_literal 9 (integer (codes "2")))) (a_body no_equates (statement_and (a_continue 11) no_statements)) no_clauses) nothing_else) (statement_and
    (an_if 17 (clause_and (an_infix 15 op.Equal (a_name 13 (codes "i")) (a_literal 14 (integer (codes "4")))) (a_body no_equates (statement_and
    (a_break 16) no_statements)) no_clauses) nothing_else) (statement_and (a_call_statement 28 (a_call 27 (an_operation 19 (a_named_type 18 (codes
    "stream") no_constants) (codes "puts")) (expression_and (a_call 22 (an_operation 21 (a_named_type 20 (codes "stream") no_constants) (codes
    "primary_output")) no_expressions) (expression_and (a_call 26 (an_operation 24 (a_simple_type 23 simple.Int) (codes "unparse")) (expression_and
    (a_name 25 (codes "i")) no_expressions)) no_expressions)))) no_statements)))))) (statement_and (a_call_statement 37 (a_call 36 (an_operation 31
    (a_named_type 30 (codes "stream") no_constants) (codes "puts")) (expression_and (a_call 34 (an_operation 33 (a_named_type 32 (codes "stream")
    no_constants) (codes "primary_output")) no_expressions) (expression_and (a_literal 35 (string (34 ∷ 33 ∷ 34 ∷ []))) no_expressions))))
    no_statements))))) ∷ [])

abbrev break_and_continue_in_a_while_declared : List Declared
break_and_continue_in_a_while_declared =
    (d (codes "i") 2 3 38 (Some 0) ∷ d (codes "start_up") 38 0 4294967295 None ∷ [])

break_and_continue_in_a_while : Runs break_and_continue_in_a_while_declared break_and_continue_in_a_while_modules (codes "") 10000 returned_normally (codes "13!") 8 160
unfolding executing computing digits
break_and_continue_in_a_while = refl

break_and_continue_in_a_while_in_5_turns : Ends break_and_continue_in_a_while_declared break_and_continue_in_a_while_modules (codes "") 5 returned_normally (codes "13!")
unfolding executing computing digits
break_and_continue_in_a_while_in_5_turns = refl

break_and_continue_in_a_while_in_4_turns : Ends break_and_continue_in_a_while_declared break_and_continue_in_a_while_modules (codes "") 4 still_running (codes "13")
unfolding executing computing digits
break_and_continue_in_a_while_in_4_turns = refl

break_and_continue_in_a_while_work : Works break_and_continue_in_a_while_declared break_and_continue_in_a_while_modules (codes "") 10000 207
unfolding executing computing digits
break_and_continue_in_a_while_work = refl

-- % two variables without objects in a loop
-- start_up = proc ()
--   for i: int in int$from_to(1, 3) do
--     x, y: int
--     if i = 1 then x, y := 3, 4 elseif i = 2 then x := 5 else y := 6 end
--     stream$puts(stream$primary_output(), int$unparse(x + y)) except when failure (s: string): stream$puts(stream$primary_output(), "-") end
--   end
-- end start_up
abbrev variables_without_objects_in_a_loop_modules : List Module
variables_without_objects_in_a_loop_modules =
    ((a_routine 51 no_equates (routine 50 (codes "start_up") (codes "start_up") kind.Procedure [] ([]) no_types no_exceptions ([]) no_equates ([])
    (statement_and (a_for 49 (typed 1 ((codes "i") ∷ []) (a_simple_type 0 simple.Int) ∷ []) (a_call 6 (an_operation 3 (a_simple_type 2 simple.Int)
    (codes "from_to")) (expression_and (a_literal 4 (integer (codes "1"))) (expression_and (a_literal 5 (integer (codes "3"))) no_expressions)))
    (a_body no_equates (statement_and (a_declare 9 (typed 8 ((codes "x") ∷ (codes "y") ∷ []) (a_simple_type 7 simple.Int))) (statement_and (an_if 23
    (clause_and (an_infix 12 op.Equal (a_name 10 (codes "i")) (a_literal 11 (integer (codes "1")))) (a_body no_equates (statement_and (an_assign 15
    ((codes "x") ∷ (codes "y") ∷ []) (expression_and (a_literal 13 (integer (codes "3"))) (expression_and (a_literal 14 (integer (codes "4")))
    no_expressions))) no_statements)) (clause_and (an_infix 18 op.Equal (a_name 16 (codes "i")) (a_literal 17 (integer (codes "2")))) (a_body
    no_equates (statement_and (an_assign 20 ((codes "x") ∷ []) (expression_and (a_literal 19 (integer (codes "5"))) no_expressions)) no_statements))
    no_clauses)) (otherwise (a_body no_equates (statement_and (an_assign 22 ((codes "y") ∷ []) (expression_and (a_literal 21 (integer (codes "6")))
    no_expressions)) no_statements)))) (statement_and (an_except 48 (a_call_statement 36 (a_call 35 (an_operation 25 (a_named_type 24 (codes "stream")
    no_constants) (codes "puts")) (expression_and (a_call 28 (an_operation 27 (a_named_type 26 (codes "stream") no_constants) (codes
    "primary_output")) no_expressions) (expression_and (a_call 34 (an_operation 30 (a_simple_type 29 simple.Int) (codes "unparse")) (expression_and
    (an_infix 33 op.Add (a_name 31 (codes "x")) (a_name 32 (codes "y"))) no_expressions)) no_expressions)))) (when_and 47 ((codes "failure") ∷ [])
    (objects (typed 38 ((codes "s") ∷ []) (a_simple_type 37 simple.String) ∷ [])) (a_body no_equates (statement_and (a_call_statement 46 (a_call 45
    (an_operation 40 (a_named_type 39 (codes "stream") no_constants) (codes "puts")) (expression_and (a_call 43 (an_operation 42 (a_named_type 41
    (codes "stream") no_constants) (codes "primary_output")) no_expressions) (expression_and (a_literal 44 (string (34 ∷ 45 ∷ 34 ∷ [])))
    no_expressions)))) no_statements)) no_whens) no_others) no_statements))))) no_statements))) ∷ [])

abbrev variables_without_objects_in_a_loop_declared : List Declared
variables_without_objects_in_a_loop_declared =
    (d (codes "i") 1 7 48 (Some 0) ∷ d (codes "x") 8 10 48 (Some 0) ∷ d (codes "y") 8 10 48 (Some 0) ∷ d (codes "s") 38 39 46 (Some 0) ∷ d (codes
    "start_up") 50 0 4294967295 None ∷ [])

variables_without_objects_in_a_loop : Runs variables_without_objects_in_a_loop_declared variables_without_objects_in_a_loop_modules (codes "") 10000 returned_normally (codes "7--") 4 370
unfolding executing computing digits
variables_without_objects_in_a_loop = refl
