-- Programs that compute: operations of bool and int. Each is the tree of the CLU above it.
use Rattle.std.specs.Fmt.{digits}
use Rattle.std.specs.Prelude.{refl, List, [], ◌∷◌, codes, Some, None}
use Rattle.clu_names.specs.declared.scopes.Declared.{Declared}
use Rattle.clu_syntax.specs.declared.words.Operator.TheVariants as op
use Rattle.clu_syntax.specs.declared.words.Sign.TheVariants as sign
use Rattle.clu_syntax.specs.declared.words.SimpleType.TheVariants as simple
use Rattle.clu_syntax.specs.declared.words.RoutineKind.TheVariants as kind
use Rattle.clu_syntax.specs.Syntax.{true_literal, false_literal, integer, string, an_infix, a_prefix, a_paren, a_literal, a_name, a_call, an_operation, no_expressions, expression_and, no_constants, a_simple_type, a_named_type, no_types, type_and, no_exceptions, no_equates, objects, an_init, a_call_statement, an_if, a_return, an_except, no_statements, statement_and, a_body, no_clauses, clause_and, nothing_else, otherwise, no_whens, when_and, no_others, Module, a_routine}
use Rattle.clu_layout.specs.Computing.{computing}
use Rattle.clu_meaning.specs.Run.{returned_normally}
use Rattle.clu_meaning.specs.Executing.{executing}
use Rattle.clu_meaning.proofs.Running.{d, typed, a_variable, routine, Runs}

-- % bool-and-or-not
-- tf = proc (b: bool) if b then stream$putl(stream$primary_output(), "T") else stream$putl(stream$primary_output(), "F") end end tf
-- start_up = proc ()
-- tf(true & false) tf(true & true) tf(false | true) tf(false | false)
--   tf(~true) tf(bool$and(true, true)) tf(bool$or(false, false)) tf(bool$not(false))
-- end start_up
abbrev bool_and_or_not_modules : List Module
bool_and_or_not_modules =
    ((a_routine 21 no_equates (routine 20 (codes "tf") (codes "tf") kind.Procedure [] (typed 1 ((codes "b") ∷ []) (a_simple_type 0 simple.Bool) ∷ [])
    no_types no_exceptions ([]) no_equates ([]) (statement_and (an_if 19 (clause_and (a_name 2 (codes "b")) (a_body no_equates (statement_and
    (a_call_statement 10 (a_call 9 (an_operation 4 (a_named_type 3 (codes "stream") no_constants) (codes "putl")) (expression_and (a_call 7
    (an_operation 6 (a_named_type 5 (codes "stream") no_constants) (codes "primary_output")) no_expressions) (expression_and (a_literal 8 (string (34
    ∷ 84 ∷ 34 ∷ []))) no_expressions)))) no_statements)) no_clauses) (otherwise (a_body no_equates (statement_and (a_call_statement 18 (a_call 17
    (an_operation 12 (a_named_type 11 (codes "stream") no_constants) (codes "putl")) (expression_and (a_call 15 (an_operation 14 (a_named_type 13
    (codes "stream") no_constants) (codes "primary_output")) no_expressions) (expression_and (a_literal 16 (string (34 ∷ 70 ∷ 34 ∷ [])))
    no_expressions)))) no_statements)))) no_statements))) ∷ (a_routine 75 no_equates (routine 74 (codes "start_up") (codes "start_up") kind.Procedure
    [] ([]) no_types no_exceptions ([]) no_equates ([]) (statement_and (a_call_statement 27 (a_call 26 (a_name 22 (codes "tf")) (expression_and
    (an_infix 25 op.And (a_literal 23 true_literal) (a_literal 24 false_literal)) no_expressions))) (statement_and (a_call_statement 33 (a_call 32
    (a_name 28 (codes "tf")) (expression_and (an_infix 31 op.And (a_literal 29 true_literal) (a_literal 30 true_literal)) no_expressions)))
    (statement_and (a_call_statement 39 (a_call 38 (a_name 34 (codes "tf")) (expression_and (an_infix 37 op.Or (a_literal 35 false_literal) (a_literal
    36 true_literal)) no_expressions))) (statement_and (a_call_statement 45 (a_call 44 (a_name 40 (codes "tf")) (expression_and (an_infix 43 op.Or
    (a_literal 41 false_literal) (a_literal 42 false_literal)) no_expressions))) (statement_and (a_call_statement 50 (a_call 49 (a_name 46 (codes
    "tf")) (expression_and (a_prefix 48 sign.Not (a_literal 47 true_literal)) no_expressions))) (statement_and (a_call_statement 58 (a_call 57 (a_name
    51 (codes "tf")) (expression_and (a_call 56 (an_operation 53 (a_simple_type 52 simple.Bool) (codes "and")) (expression_and (a_literal 54
    true_literal) (expression_and (a_literal 55 true_literal) no_expressions))) no_expressions))) (statement_and (a_call_statement 66 (a_call 65
    (a_name 59 (codes "tf")) (expression_and (a_call 64 (an_operation 61 (a_simple_type 60 simple.Bool) (codes "or")) (expression_and (a_literal 62
    false_literal) (expression_and (a_literal 63 false_literal) no_expressions))) no_expressions))) (statement_and (a_call_statement 73 (a_call 72
    (a_name 67 (codes "tf")) (expression_and (a_call 71 (an_operation 69 (a_simple_type 68 simple.Bool) (codes "not")) (expression_and (a_literal 70
    false_literal) no_expressions)) no_expressions))) no_statements)))))))))) ∷ [])

abbrev bool_and_or_not_declared : List Declared
bool_and_or_not_declared =
    (d (codes "b") 1 2 20 (Some 0) ∷ d (codes "tf") 20 0 4294967295 None ∷ d (codes "start_up") 74 0 4294967295 None ∷ [])

bool_and_or_not : Runs bool_and_or_not_declared bool_and_or_not_modules (codes "") 10000 returned_normally (70 ∷ 10 ∷ 84 ∷ 10 ∷ 84 ∷ 10 ∷ 70 ∷ 10 ∷ 70 ∷ 10 ∷ 84 ∷ 10 ∷ 70 ∷ 10 ∷ 84 ∷ 10 ∷ []) 0 248
unfolding executing computing digits
bool_and_or_not = refl

-- % bool-strict
-- b = proc (s: string, v: bool) returns (bool) stream$putl(stream$primary_output(), s) return (v) end b
-- start_up = proc ()
--   if b("1", false) & b("2", true) then end
--   if b("3", true) | b("4", true) then end
--   if b("5", false) cand b("6", true) then end
--   if b("7", true) cor b("8", true) then end
--   if b("9", true) cand b("10", false) cor b("11", true) then stream$putl(stream$primary_output(), "yes") end
-- end start_up
abbrev bool_strict_modules : List Module
bool_strict_modules =
    ((a_routine 17 no_equates (routine 16 (codes "b") (codes "b") kind.Procedure [] (typed 1 ((codes "s") ∷ []) (a_simple_type 0 simple.String) ∷
    typed 3 ((codes "v") ∷ []) (a_simple_type 2 simple.Bool) ∷ []) (type_and (a_simple_type 4 simple.Bool) no_types) no_exceptions ([]) no_equates
    ([]) (statement_and (a_call_statement 13 (a_call 12 (an_operation 7 (a_named_type 6 (codes "stream") no_constants) (codes "putl")) (expression_and
    (a_call 10 (an_operation 9 (a_named_type 8 (codes "stream") no_constants) (codes "primary_output")) no_expressions) (expression_and (a_name 11
    (codes "s")) no_expressions)))) (statement_and (a_return 15 (expression_and (a_name 14 (codes "v")) no_expressions)) no_statements)))) ∷
    (a_routine 82 no_equates (routine 81 (codes "start_up") (codes "start_up") kind.Procedure [] ([]) no_types no_exceptions ([]) no_equates ([])
    (statement_and (an_if 27 (clause_and (an_infix 26 op.And (a_call 21 (a_name 18 (codes "b")) (expression_and (a_literal 19 (string (34 ∷ 49 ∷ 34 ∷
    []))) (expression_and (a_literal 20 false_literal) no_expressions))) (a_call 25 (a_name 22 (codes "b")) (expression_and (a_literal 23 (string (34
    ∷ 50 ∷ 34 ∷ []))) (expression_and (a_literal 24 true_literal) no_expressions)))) (a_body no_equates no_statements) no_clauses) nothing_else)
    (statement_and (an_if 37 (clause_and (an_infix 36 op.Or (a_call 31 (a_name 28 (codes "b")) (expression_and (a_literal 29 (string (34 ∷ 51 ∷ 34 ∷
    []))) (expression_and (a_literal 30 true_literal) no_expressions))) (a_call 35 (a_name 32 (codes "b")) (expression_and (a_literal 33 (string (34 ∷
    52 ∷ 34 ∷ []))) (expression_and (a_literal 34 true_literal) no_expressions)))) (a_body no_equates no_statements) no_clauses) nothing_else)
    (statement_and (an_if 47 (clause_and (an_infix 46 op.Cand (a_call 41 (a_name 38 (codes "b")) (expression_and (a_literal 39 (string (34 ∷ 53 ∷ 34 ∷
    []))) (expression_and (a_literal 40 false_literal) no_expressions))) (a_call 45 (a_name 42 (codes "b")) (expression_and (a_literal 43 (string (34
    ∷ 54 ∷ 34 ∷ []))) (expression_and (a_literal 44 true_literal) no_expressions)))) (a_body no_equates no_statements) no_clauses) nothing_else)
    (statement_and (an_if 57 (clause_and (an_infix 56 op.Cor (a_call 51 (a_name 48 (codes "b")) (expression_and (a_literal 49 (string (34 ∷ 55 ∷ 34 ∷
    []))) (expression_and (a_literal 50 true_literal) no_expressions))) (a_call 55 (a_name 52 (codes "b")) (expression_and (a_literal 53 (string (34 ∷
    56 ∷ 34 ∷ []))) (expression_and (a_literal 54 true_literal) no_expressions)))) (a_body no_equates no_statements) no_clauses) nothing_else)
    (statement_and (an_if 80 (clause_and (an_infix 71 op.Cor (an_infix 66 op.Cand (a_call 61 (a_name 58 (codes "b")) (expression_and (a_literal 59
    (string (34 ∷ 57 ∷ 34 ∷ []))) (expression_and (a_literal 60 true_literal) no_expressions))) (a_call 65 (a_name 62 (codes "b")) (expression_and
    (a_literal 63 (string (34 ∷ 49 ∷ 48 ∷ 34 ∷ []))) (expression_and (a_literal 64 false_literal) no_expressions)))) (a_call 70 (a_name 67 (codes
    "b")) (expression_and (a_literal 68 (string (34 ∷ 49 ∷ 49 ∷ 34 ∷ []))) (expression_and (a_literal 69 true_literal) no_expressions)))) (a_body
    no_equates (statement_and (a_call_statement 79 (a_call 78 (an_operation 73 (a_named_type 72 (codes "stream") no_constants) (codes "putl"))
    (expression_and (a_call 76 (an_operation 75 (a_named_type 74 (codes "stream") no_constants) (codes "primary_output")) no_expressions)
    (expression_and (a_literal 77 (string (34 ∷ 121 ∷ 101 ∷ 115 ∷ 34 ∷ []))) no_expressions)))) no_statements)) no_clauses) nothing_else)
    no_statements))))))) ∷ [])

abbrev bool_strict_declared : List Declared
bool_strict_declared =
    (d (codes "s") 1 2 16 (Some 0) ∷ d (codes "v") 3 4 16 (Some 0) ∷ d (codes "b") 16 0 4294967295 None ∷ d (codes "start_up") 81 0 4294967295 None ∷
    [])

bool_strict : Runs bool_strict_declared bool_strict_modules (codes "") 10000 returned_normally (49 ∷ 10 ∷ 50 ∷ 10 ∷ 51 ∷ 10 ∷ 52 ∷ 10 ∷ 53 ∷ 10 ∷ 55 ∷ 10 ∷ 57 ∷ 10 ∷ 49 ∷ 48 ∷ 10 ∷ 49 ∷ 49 ∷ 10 ∷ 121 ∷ 101 ∷ 115 ∷ 10 ∷ []) 0 262
unfolding executing computing digits
bool_strict = refl

-- % int-overflow-add2
-- start_up = proc ()
-- x: int := (-9223372036854775807 - 1) + -1 except when overflow: stream$putl(stream$primary_output(), "overflow") end
--
-- end start_up
abbrev int_overflow_add2_modules : List Module
int_overflow_add2_modules =
    ((a_routine 21 no_equates (routine 20 (codes "start_up") (codes "start_up") kind.Procedure [] ([]) no_types no_exceptions ([]) no_equates ([])
    (statement_and (an_except 19 (an_init 9 (a_variable (codes "x") (a_simple_type 0 simple.Int)) (an_infix 8 op.Add (a_paren 5 (an_infix 4
    op.Subtract (a_prefix 2 sign.Minus (a_literal 1 (integer (codes "9223372036854775807")))) (a_literal 3 (integer (codes "1"))))) (a_prefix 7
    sign.Minus (a_literal 6 (integer (codes "1")))))) (when_and 18 ((codes "overflow") ∷ []) (objects []) (a_body no_equates (statement_and
    (a_call_statement 17 (a_call 16 (an_operation 11 (a_named_type 10 (codes "stream") no_constants) (codes "putl")) (expression_and (a_call 14
    (an_operation 13 (a_named_type 12 (codes "stream") no_constants) (codes "primary_output")) no_expressions) (expression_and (a_literal 15 (string
    (34 ∷ 111 ∷ 118 ∷ 101 ∷ 114 ∷ 102 ∷ 108 ∷ 111 ∷ 119 ∷ 34 ∷ []))) no_expressions)))) no_statements)) no_whens) no_others) no_statements))) ∷ [])

abbrev int_overflow_add2_declared : List Declared
int_overflow_add2_declared =
    (d (codes "x") 9 10 20 (Some 0) ∷ d (codes "start_up") 20 0 4294967295 None ∷ [])

int_overflow_add2 : Runs int_overflow_add2_declared int_overflow_add2_modules (codes "") 10000 returned_normally (111 ∷ 118 ∷ 101 ∷ 114 ∷ 102 ∷ 108 ∷ 111 ∷ 119 ∷ 10 ∷ []) 0 124
unfolding executing computing digits
int_overflow_add2 = refl

-- % int-overflow-sub2
-- start_up = proc ()
-- x: int := 9223372036854775807 - -1 except when overflow: stream$putl(stream$primary_output(), "overflow") end
--
-- end start_up
abbrev int_overflow_sub2_modules : List Module
int_overflow_sub2_modules =
    ((a_routine 17 no_equates (routine 16 (codes "start_up") (codes "start_up") kind.Procedure [] ([]) no_types no_exceptions ([]) no_equates ([])
    (statement_and (an_except 15 (an_init 5 (a_variable (codes "x") (a_simple_type 0 simple.Int)) (an_infix 4 op.Subtract (a_literal 1 (integer (codes
    "9223372036854775807"))) (a_prefix 3 sign.Minus (a_literal 2 (integer (codes "1")))))) (when_and 14 ((codes "overflow") ∷ []) (objects []) (a_body
    no_equates (statement_and (a_call_statement 13 (a_call 12 (an_operation 7 (a_named_type 6 (codes "stream") no_constants) (codes "putl"))
    (expression_and (a_call 10 (an_operation 9 (a_named_type 8 (codes "stream") no_constants) (codes "primary_output")) no_expressions)
    (expression_and (a_literal 11 (string (34 ∷ 111 ∷ 118 ∷ 101 ∷ 114 ∷ 102 ∷ 108 ∷ 111 ∷ 119 ∷ 34 ∷ []))) no_expressions)))) no_statements))
    no_whens) no_others) no_statements))) ∷ [])

abbrev int_overflow_sub2_declared : List Declared
int_overflow_sub2_declared =
    (d (codes "x") 5 6 16 (Some 0) ∷ d (codes "start_up") 16 0 4294967295 None ∷ [])

int_overflow_sub2 : Runs int_overflow_sub2_declared int_overflow_sub2_modules (codes "") 10000 returned_normally (111 ∷ 118 ∷ 101 ∷ 114 ∷ 102 ∷ 108 ∷ 111 ∷ 119 ∷ 10 ∷ []) 0 116
unfolding executing computing digits
int_overflow_sub2 = refl

-- % int-overflow-mul2
-- start_up = proc ()
-- x: int := (-9223372036854775807 - 1) * -1 except when overflow: stream$putl(stream$primary_output(), "overflow") end
--
-- end start_up
abbrev int_overflow_mul2_modules : List Module
int_overflow_mul2_modules =
    ((a_routine 21 no_equates (routine 20 (codes "start_up") (codes "start_up") kind.Procedure [] ([]) no_types no_exceptions ([]) no_equates ([])
    (statement_and (an_except 19 (an_init 9 (a_variable (codes "x") (a_simple_type 0 simple.Int)) (an_infix 8 op.Multiply (a_paren 5 (an_infix 4
    op.Subtract (a_prefix 2 sign.Minus (a_literal 1 (integer (codes "9223372036854775807")))) (a_literal 3 (integer (codes "1"))))) (a_prefix 7
    sign.Minus (a_literal 6 (integer (codes "1")))))) (when_and 18 ((codes "overflow") ∷ []) (objects []) (a_body no_equates (statement_and
    (a_call_statement 17 (a_call 16 (an_operation 11 (a_named_type 10 (codes "stream") no_constants) (codes "putl")) (expression_and (a_call 14
    (an_operation 13 (a_named_type 12 (codes "stream") no_constants) (codes "primary_output")) no_expressions) (expression_and (a_literal 15 (string
    (34 ∷ 111 ∷ 118 ∷ 101 ∷ 114 ∷ 102 ∷ 108 ∷ 111 ∷ 119 ∷ 34 ∷ []))) no_expressions)))) no_statements)) no_whens) no_others) no_statements))) ∷ [])

abbrev int_overflow_mul2_declared : List Declared
int_overflow_mul2_declared =
    (d (codes "x") 9 10 20 (Some 0) ∷ d (codes "start_up") 20 0 4294967295 None ∷ [])

int_overflow_mul2 : Runs int_overflow_mul2_declared int_overflow_mul2_modules (codes "") 10000 returned_normally (111 ∷ 118 ∷ 101 ∷ 114 ∷ 102 ∷ 108 ∷ 111 ∷ 119 ∷ 10 ∷ []) 0 124
unfolding executing computing digits
int_overflow_mul2 = refl

-- % int-overflow-div
-- start_up = proc ()
-- x: int := (-9223372036854775807 - 1) / -1 except when overflow: stream$putl(stream$primary_output(), "overflow") end
--
-- end start_up
abbrev int_overflow_div_modules : List Module
int_overflow_div_modules =
    ((a_routine 21 no_equates (routine 20 (codes "start_up") (codes "start_up") kind.Procedure [] ([]) no_types no_exceptions ([]) no_equates ([])
    (statement_and (an_except 19 (an_init 9 (a_variable (codes "x") (a_simple_type 0 simple.Int)) (an_infix 8 op.Divide (a_paren 5 (an_infix 4
    op.Subtract (a_prefix 2 sign.Minus (a_literal 1 (integer (codes "9223372036854775807")))) (a_literal 3 (integer (codes "1"))))) (a_prefix 7
    sign.Minus (a_literal 6 (integer (codes "1")))))) (when_and 18 ((codes "overflow") ∷ []) (objects []) (a_body no_equates (statement_and
    (a_call_statement 17 (a_call 16 (an_operation 11 (a_named_type 10 (codes "stream") no_constants) (codes "putl")) (expression_and (a_call 14
    (an_operation 13 (a_named_type 12 (codes "stream") no_constants) (codes "primary_output")) no_expressions) (expression_and (a_literal 15 (string
    (34 ∷ 111 ∷ 118 ∷ 101 ∷ 114 ∷ 102 ∷ 108 ∷ 111 ∷ 119 ∷ 34 ∷ []))) no_expressions)))) no_statements)) no_whens) no_others) no_statements))) ∷ [])

abbrev int_overflow_div_declared : List Declared
int_overflow_div_declared =
    (d (codes "x") 9 10 20 (Some 0) ∷ d (codes "start_up") 20 0 4294967295 None ∷ [])

int_overflow_div : Runs int_overflow_div_declared int_overflow_div_modules (codes "") 10000 returned_normally (111 ∷ 118 ∷ 101 ∷ 114 ∷ 102 ∷ 108 ∷ 111 ∷ 119 ∷ 10 ∷ []) 0 124
unfolding executing computing digits
int_overflow_div = refl

-- % int-overflow-pow2
-- start_up = proc ()
-- x: int := 10 ** 19 except when overflow: stream$putl(stream$primary_output(), "overflow") end
--
-- end start_up
abbrev int_overflow_pow2_modules : List Module
int_overflow_pow2_modules =
    ((a_routine 16 no_equates (routine 15 (codes "start_up") (codes "start_up") kind.Procedure [] ([]) no_types no_exceptions ([]) no_equates ([])
    (statement_and (an_except 14 (an_init 4 (a_variable (codes "x") (a_simple_type 0 simple.Int)) (an_infix 3 op.Power (a_literal 1 (integer (codes
    "10"))) (a_literal 2 (integer (codes "19"))))) (when_and 13 ((codes "overflow") ∷ []) (objects []) (a_body no_equates (statement_and
    (a_call_statement 12 (a_call 11 (an_operation 6 (a_named_type 5 (codes "stream") no_constants) (codes "putl")) (expression_and (a_call 9
    (an_operation 8 (a_named_type 7 (codes "stream") no_constants) (codes "primary_output")) no_expressions) (expression_and (a_literal 10 (string (34
    ∷ 111 ∷ 118 ∷ 101 ∷ 114 ∷ 102 ∷ 108 ∷ 111 ∷ 119 ∷ 34 ∷ []))) no_expressions)))) no_statements)) no_whens) no_others) no_statements))) ∷ [])

abbrev int_overflow_pow2_declared : List Declared
int_overflow_pow2_declared =
    (d (codes "x") 4 5 15 (Some 0) ∷ d (codes "start_up") 15 0 4294967295 None ∷ [])

int_overflow_pow2 : Runs int_overflow_pow2_declared int_overflow_pow2_modules (codes "") 10000 returned_normally (111 ∷ 118 ∷ 101 ∷ 114 ∷ 102 ∷ 108 ∷ 111 ∷ 119 ∷ 10 ∷ []) 0 114
unfolding executing computing digits
int_overflow_pow2 = refl

-- % int-overflow-pow4
-- start_up = proc ()
-- x: int := (-3) ** 41 except when overflow: stream$putl(stream$primary_output(), "overflow") end
--
-- end start_up
abbrev int_overflow_pow4_modules : List Module
int_overflow_pow4_modules =
    ((a_routine 18 no_equates (routine 17 (codes "start_up") (codes "start_up") kind.Procedure [] ([]) no_types no_exceptions ([]) no_equates ([])
    (statement_and (an_except 16 (an_init 6 (a_variable (codes "x") (a_simple_type 0 simple.Int)) (an_infix 5 op.Power (a_paren 3 (a_prefix 2
    sign.Minus (a_literal 1 (integer (codes "3"))))) (a_literal 4 (integer (codes "41"))))) (when_and 15 ((codes "overflow") ∷ []) (objects [])
    (a_body no_equates (statement_and (a_call_statement 14 (a_call 13 (an_operation 8 (a_named_type 7 (codes "stream") no_constants) (codes "putl"))
    (expression_and (a_call 11 (an_operation 10 (a_named_type 9 (codes "stream") no_constants) (codes "primary_output")) no_expressions)
    (expression_and (a_literal 12 (string (34 ∷ 111 ∷ 118 ∷ 101 ∷ 114 ∷ 102 ∷ 108 ∷ 111 ∷ 119 ∷ 34 ∷ []))) no_expressions)))) no_statements))
    no_whens) no_others) no_statements))) ∷ [])

abbrev int_overflow_pow4_declared : List Declared
int_overflow_pow4_declared =
    (d (codes "x") 6 7 17 (Some 0) ∷ d (codes "start_up") 17 0 4294967295 None ∷ [])

int_overflow_pow4 : Runs int_overflow_pow4_declared int_overflow_pow4_modules (codes "") 10000 returned_normally (111 ∷ 118 ∷ 101 ∷ 114 ∷ 102 ∷ 108 ∷ 111 ∷ 119 ∷ 10 ∷ []) 0 118
unfolding executing computing digits
int_overflow_pow4 = refl
