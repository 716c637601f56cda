-- Programs that compute: a program of two files. Each is the tree of the CLU above it.
use Rattle.std.specs.Fmt.{digits}
use Rattle.std.specs.Prelude.{refl, List, [], ◌∷◌, codes, Some, None}
use Rattle.clu_names.specs.declared.scopes.Declared.{Declared}
use Rattle.clu_syntax.specs.declared.words.Operator.TheVariants as op
use Rattle.clu_syntax.specs.declared.words.SimpleType.TheVariants as simple
use Rattle.clu_syntax.specs.declared.words.RoutineKind.TheVariants as kind
use Rattle.clu_syntax.specs.Syntax.{integer, an_infix, a_literal, a_name, a_call, an_operation, no_expressions, expression_and, an_expression, no_constants, a_simple_type, a_named_type, no_types, type_and, no_exceptions, an_equate, no_equates, equate_and, an_assign, a_call_statement, a_return, no_statements, statement_and, own_init, Module, a_routine}
use Rattle.clu_layout.specs.Computing.{computing}
use Rattle.clu_meaning.specs.Run.{returned_normally}
use Rattle.clu_meaning.specs.Executing.{executing}
use Rattle.clu_meaning.proofs.Running.{d, a_variable, routine, file, RunsFiles}

-- % one file
-- step = 3
-- next = proc () returns (int)
--   own k: int := 0
--   k := k + step
--   return (k)
-- end next
abbrev one_file_modules : List Module
one_file_modules =
    ((a_routine 14 (equate_and (an_equate 1 (Some (codes "step")) (an_expression (a_literal 0 (integer (codes "3"))))) no_equates) (routine 13 (codes
    "next") (codes "next") kind.Procedure [] ([]) (type_and (a_simple_type 2 simple.Int) no_types) no_exceptions ([]) no_equates ((own_init 6
    (a_variable (codes "k") (a_simple_type 4 simple.Int)) (a_literal 5 (integer (codes "0")))) ∷ []) (statement_and (an_assign 10 ((codes "k") ∷ [])
    (expression_and (an_infix 9 op.Add (a_name 7 (codes "k")) (a_name 8 (codes "step"))) no_expressions)) (statement_and (a_return 12 (expression_and
    (a_name 11 (codes "k")) no_expressions)) no_statements)))) ∷ [])

abbrev one_file_declared : List Declared
one_file_declared =
    (d (codes "step") 1 0 14 (Some 0) ∷ d (codes "k") 6 7 13 (Some 0) ∷ d (codes "next") 13 0 4294967295 None ∷ [])

-- % another one
-- step = 10
-- start_up = proc ()
--   own k: int := step
--   stream$puts(stream$primary_output(), int$unparse(next() + next() + k))
-- end start_up
abbrev another_file_modules : List Module
another_file_modules =
    ((a_routine 23 (equate_and (an_equate 1 (Some (codes "step")) (an_expression (a_literal 0 (integer (codes "10"))))) no_equates) (routine 22 (codes
    "start_up") (codes "start_up") kind.Procedure [] ([]) no_types no_exceptions ([]) no_equates ((own_init 4 (a_variable (codes "k") (a_simple_type 2
    simple.Int)) (a_name 3 (codes "step"))) ∷ []) (statement_and (a_call_statement 21 (a_call 20 (an_operation 6 (a_named_type 5 (codes "stream")
    no_constants) (codes "puts")) (expression_and (a_call 9 (an_operation 8 (a_named_type 7 (codes "stream") no_constants) (codes "primary_output"))
    no_expressions) (expression_and (a_call 19 (an_operation 11 (a_simple_type 10 simple.Int) (codes "unparse")) (expression_and (an_infix 18 op.Add
    (an_infix 16 op.Add (a_call 13 (a_name 12 (codes "next")) no_expressions) (a_call 15 (a_name 14 (codes "next")) no_expressions)) (a_name 17 (codes
    "k"))) no_expressions)) no_expressions)))) no_statements))) ∷ [])

abbrev another_file_declared : List Declared
another_file_declared =
    (d (codes "step") 1 0 23 (Some 0) ∷ d (codes "k") 4 5 22 (Some 0) ∷ d (codes "start_up") 22 0 4294967295 None ∷ [])

two_files : RunsFiles (file one_file_declared one_file_modules ∷ file another_file_declared another_file_modules ∷ []) (codes "") 10000 returned_normally (codes "19") 4 166
unfolding executing computing digits
two_files = refl
