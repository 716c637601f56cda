-- Programs that compute: what no case applies to. Each is the tree of the CLU above it.
use Rattle.std.specs.Fmt.{digits}
use Rattle.std.specs.Prelude.{refl, List, [], ◌∷◌, codes, Some, None}
use Rattle.clu_names.specs.declared.scopes.Declared.{Declared}
use Rattle.clu_syntax.specs.declared.words.Operator.TheVariants as op
use Rattle.clu_syntax.specs.declared.words.SimpleType.TheVariants as simple
use Rattle.clu_syntax.specs.declared.words.FieldsType.TheVariants as fields_word
use Rattle.clu_syntax.specs.declared.words.RoutineKind.TheVariants as kind
use Rattle.clu_syntax.specs.Syntax.{true_literal, integer, string, an_infix, a_literal, a_name, a_call, fields, an_operation, a_down, no_expressions, expression_and, no_components, component_and, a_type, no_constants, constant_and, a_simple_type, a_fields_type, a_named_type, no_types, type_and, no_selectors, selector_and, no_exceptions, exception_and, an_equate, no_equates, equate_and, objects, an_init, a_call_init, a_call_statement, a_while, a_for, an_if, a_tagcase, a_return, a_yield, a_signal, an_exit, a_break, a_continue, an_except, no_statements, statement_and, a_body, no_clauses, clause_and, nothing_else, no_tag_arms, tag_arm_and, no_whens, when_and, no_others, Module, a_routine, a_cluster}
use Rattle.clu_layout.specs.Computing.{computing}
use Rattle.clu_meaning.specs.Run.{went_wrong}
use Rattle.clu_meaning.specs.Executing.{executing}
use Rattle.clu_meaning.proofs.Running.{d, typed, a_variable, parameter, routine, cluster, Ends}

-- start_up = proc () stream$puts(stream$primary_output(), "a") x: int := "b" end start_up
abbrev a_binding_that_is_not_included_modules : List Module
a_binding_that_is_not_included_modules =
    ((a_routine 12 no_equates (routine 11 (codes "start_up") (codes "start_up") kind.Procedure [] ([]) no_types no_exceptions ([]) no_equates ([])
    (statement_and (a_call_statement 7 (a_call 6 (an_operation 1 (a_named_type 0 (codes "stream") no_constants) (codes "puts")) (expression_and
    (a_call 4 (an_operation 3 (a_named_type 2 (codes "stream") no_constants) (codes "primary_output")) no_expressions) (expression_and (a_literal 5
    (string (34 ∷ 97 ∷ 34 ∷ []))) no_expressions)))) (statement_and (an_init 10 (a_variable (codes "x") (a_simple_type 8 simple.Int)) (a_literal 9
    (string (34 ∷ 98 ∷ 34 ∷ [])))) no_statements)))) ∷ [])

abbrev a_binding_that_is_not_included_declared : List Declared
a_binding_that_is_not_included_declared =
    (d (codes "x") 10 11 11 (Some 0) ∷ d (codes "start_up") 11 0 4294967295 None ∷ [])

a_binding_that_is_not_included : Ends a_binding_that_is_not_included_declared a_binding_that_is_not_included_modules (codes "") 10000 went_wrong (codes "a")
unfolding executing computing digits
a_binding_that_is_not_included = refl

-- p = proc (x: int) end p
-- start_up = proc () stream$puts(stream$primary_output(), "a") p("b") end start_up
abbrev an_argument_that_is_not_included_modules : List Module
an_argument_that_is_not_included_modules =
    ((a_routine 3 no_equates (routine 2 (codes "p") (codes "p") kind.Procedure [] (typed 1 ((codes "x") ∷ []) (a_simple_type 0 simple.Int) ∷ [])
    no_types no_exceptions ([]) no_equates ([]) no_statements)) ∷ (a_routine 17 no_equates (routine 16 (codes "start_up") (codes "start_up")
    kind.Procedure [] ([]) no_types no_exceptions ([]) no_equates ([]) (statement_and (a_call_statement 11 (a_call 10 (an_operation 5 (a_named_type 4
    (codes "stream") no_constants) (codes "puts")) (expression_and (a_call 8 (an_operation 7 (a_named_type 6 (codes "stream") no_constants) (codes
    "primary_output")) no_expressions) (expression_and (a_literal 9 (string (34 ∷ 97 ∷ 34 ∷ []))) no_expressions)))) (statement_and (a_call_statement
    15 (a_call 14 (a_name 12 (codes "p")) (expression_and (a_literal 13 (string (34 ∷ 98 ∷ 34 ∷ []))) no_expressions))) no_statements)))) ∷ [])

abbrev an_argument_that_is_not_included_declared : List Declared
an_argument_that_is_not_included_declared =
    (d (codes "x") 1 2 2 (Some 0) ∷ d (codes "p") 2 0 4294967295 None ∷ d (codes "start_up") 16 0 4294967295 None ∷ [])

an_argument_that_is_not_included : Ends an_argument_that_is_not_included_declared an_argument_that_is_not_included_modules (codes "") 10000 went_wrong (codes "a")
unfolding executing computing digits
an_argument_that_is_not_included = refl

-- p = proc (x: int) end p
-- start_up = proc () stream$puts(stream$primary_output(), "a") p(1, 2) end start_up
abbrev another_number_of_objects_modules : List Module
another_number_of_objects_modules =
    ((a_routine 3 no_equates (routine 2 (codes "p") (codes "p") kind.Procedure [] (typed 1 ((codes "x") ∷ []) (a_simple_type 0 simple.Int) ∷ [])
    no_types no_exceptions ([]) no_equates ([]) no_statements)) ∷ (a_routine 18 no_equates (routine 17 (codes "start_up") (codes "start_up")
    kind.Procedure [] ([]) no_types no_exceptions ([]) no_equates ([]) (statement_and (a_call_statement 11 (a_call 10 (an_operation 5 (a_named_type 4
    (codes "stream") no_constants) (codes "puts")) (expression_and (a_call 8 (an_operation 7 (a_named_type 6 (codes "stream") no_constants) (codes
    "primary_output")) no_expressions) (expression_and (a_literal 9 (string (34 ∷ 97 ∷ 34 ∷ []))) no_expressions)))) (statement_and (a_call_statement
    16 (a_call 15 (a_name 12 (codes "p")) (expression_and (a_literal 13 (integer (codes "1"))) (expression_and (a_literal 14 (integer (codes "2")))
    no_expressions)))) no_statements)))) ∷ [])

abbrev another_number_of_objects_declared : List Declared
another_number_of_objects_declared =
    (d (codes "x") 1 2 2 (Some 0) ∷ d (codes "p") 2 0 4294967295 None ∷ d (codes "start_up") 17 0 4294967295 None ∷ [])

another_number_of_objects : Ends another_number_of_objects_declared another_number_of_objects_modules (codes "") 10000 went_wrong (codes "a")
unfolding executing computing digits
another_number_of_objects = refl

-- p = proc () returns (int) return (1) end p
-- start_up = proc () stream$puts(stream$primary_output(), "a") x, y: int := p() end start_up
abbrev another_number_of_results_modules : List Module
another_number_of_results_modules =
    ((a_routine 5 no_equates (routine 4 (codes "p") (codes "p") kind.Procedure [] ([]) (type_and (a_simple_type 0 simple.Int) no_types) no_exceptions
    ([]) no_equates ([]) (statement_and (a_return 3 (expression_and (a_literal 2 (integer (codes "1"))) no_expressions)) no_statements))) ∷ (a_routine
    20 no_equates (routine 19 (codes "start_up") (codes "start_up") kind.Procedure [] ([]) no_types no_exceptions ([]) no_equates ([]) (statement_and
    (a_call_statement 13 (a_call 12 (an_operation 7 (a_named_type 6 (codes "stream") no_constants) (codes "puts")) (expression_and (a_call 10
    (an_operation 9 (a_named_type 8 (codes "stream") no_constants) (codes "primary_output")) no_expressions) (expression_and (a_literal 11 (string (34
    ∷ 97 ∷ 34 ∷ []))) no_expressions)))) (statement_and (a_call_init 18 (typed 15 ((codes "x") ∷ (codes "y") ∷ []) (a_simple_type 14 simple.Int) ∷ [])
    (a_call 17 (a_name 16 (codes "p")) no_expressions)) no_statements)))) ∷ [])

abbrev another_number_of_results_declared : List Declared
another_number_of_results_declared =
    (d (codes "p") 4 0 4294967295 None ∷ d (codes "x") 15 19 19 (Some 0) ∷ d (codes "y") 15 19 19 (Some 0) ∷ d (codes "start_up") 19 0 4294967295 None
    ∷ [])

another_number_of_results : Ends another_number_of_results_declared another_number_of_results_modules (codes "") 10000 went_wrong (codes "a")
unfolding executing computing digits
another_number_of_results = refl

-- start_up = proc () stream$puts(stream$primary_output(), "a") if 1 then end end start_up
abbrev a_condition_that_is_not_bool_modules : List Module
a_condition_that_is_not_bool_modules =
    ((a_routine 11 no_equates (routine 10 (codes "start_up") (codes "start_up") kind.Procedure [] ([]) no_types no_exceptions ([]) no_equates ([])
    (statement_and (a_call_statement 7 (a_call 6 (an_operation 1 (a_named_type 0 (codes "stream") no_constants) (codes "puts")) (expression_and
    (a_call 4 (an_operation 3 (a_named_type 2 (codes "stream") no_constants) (codes "primary_output")) no_expressions) (expression_and (a_literal 5
    (string (34 ∷ 97 ∷ 34 ∷ []))) no_expressions)))) (statement_and (an_if 9 (clause_and (a_literal 8 (integer (codes "1"))) (a_body no_equates
    no_statements) no_clauses) nothing_else) no_statements)))) ∷ [])

abbrev a_condition_that_is_not_bool_declared : List Declared
a_condition_that_is_not_bool_declared =
    (d (codes "start_up") 10 0 4294967295 None ∷ [])

a_condition_that_is_not_bool : Ends a_condition_that_is_not_bool_declared a_condition_that_is_not_bool_modules (codes "") 10000 went_wrong (codes "a")
unfolding executing computing digits
a_condition_that_is_not_bool = refl

-- start_up = proc () stream$puts(stream$primary_output(), "a") x: bool := "b" + "c" end start_up
abbrev an_operation_that_is_not_there_modules : List Module
an_operation_that_is_not_there_modules =
    ((a_routine 14 no_equates (routine 13 (codes "start_up") (codes "start_up") kind.Procedure [] ([]) no_types no_exceptions ([]) no_equates ([])
    (statement_and (a_call_statement 7 (a_call 6 (an_operation 1 (a_named_type 0 (codes "stream") no_constants) (codes "puts")) (expression_and
    (a_call 4 (an_operation 3 (a_named_type 2 (codes "stream") no_constants) (codes "primary_output")) no_expressions) (expression_and (a_literal 5
    (string (34 ∷ 97 ∷ 34 ∷ []))) no_expressions)))) (statement_and (an_init 12 (a_variable (codes "x") (a_simple_type 8 simple.Bool)) (an_infix 11
    op.Add (a_literal 9 (string (34 ∷ 98 ∷ 34 ∷ []))) (a_literal 10 (string (34 ∷ 99 ∷ 34 ∷ []))))) no_statements)))) ∷ [])

abbrev an_operation_that_is_not_there_declared : List Declared
an_operation_that_is_not_there_declared =
    (d (codes "x") 12 13 13 (Some 0) ∷ d (codes "start_up") 13 0 4294967295 None ∷ [])

an_operation_that_is_not_there : Ends an_operation_that_is_not_there_declared an_operation_that_is_not_there_modules (codes "") 10000 went_wrong (codes "a")
unfolding executing computing digits
an_operation_that_is_not_there = refl

-- c = cluster is make
--   rep = int
--   make = proc () returns (cvt) return (1) end make
--   get = proc (x: cvt) returns (int) return (x) end get
-- end c
-- start_up = proc () stream$puts(stream$primary_output(), "a") stream$puts(stream$primary_output(), int$unparse(c$get(c$make()))) end start_up
abbrev an_operation_that_is_not_exported_modules : List Module
an_operation_that_is_not_exported_modules =
    ((a_cluster 15 no_equates (cluster 14 (codes "c") (codes "c") [] ((codes "make") ∷ []) ([]) (equate_and (an_equate 1 None (a_type (a_simple_type 0
    simple.Int))) no_equates) ([]) ((routine 6 (codes "make") (codes "make") kind.Procedure [] ([]) (type_and (a_simple_type 2 simple.Cvt) no_types)
    no_exceptions ([]) no_equates ([]) (statement_and (a_return 5 (expression_and (a_literal 4 (integer (codes "1"))) no_expressions)) no_statements))
    ∷ (routine 13 (codes "get") (codes "get") kind.Procedure [] (typed 8 ((codes "x") ∷ []) (a_simple_type 7 simple.Cvt) ∷ []) (type_and
    (a_simple_type 9 simple.Int) no_types) no_exceptions ([]) no_equates ([]) (statement_and (a_return 12 (expression_and (a_name 11 (codes "x"))
    no_expressions)) no_statements)) ∷ []))) ∷ (a_routine 41 no_equates (routine 40 (codes "start_up") (codes "start_up") kind.Procedure [] ([])
    no_types no_exceptions ([]) no_equates ([]) (statement_and (a_call_statement 23 (a_call 22 (an_operation 17 (a_named_type 16 (codes "stream")
    no_constants) (codes "puts")) (expression_and (a_call 20 (an_operation 19 (a_named_type 18 (codes "stream") no_constants) (codes
    "primary_output")) no_expressions) (expression_and (a_literal 21 (string (34 ∷ 97 ∷ 34 ∷ []))) no_expressions)))) (statement_and (a_call_statement
    39 (a_call 38 (an_operation 25 (a_named_type 24 (codes "stream") no_constants) (codes "puts")) (expression_and (a_call 28 (an_operation 27
    (a_named_type 26 (codes "stream") no_constants) (codes "primary_output")) no_expressions) (expression_and (a_call 37 (an_operation 30
    (a_simple_type 29 simple.Int) (codes "unparse")) (expression_and (a_call 36 (an_operation 32 (a_named_type 31 (codes "c") no_constants) (codes
    "get")) (expression_and (a_call 35 (an_operation 34 (a_named_type 33 (codes "c") no_constants) (codes "make")) no_expressions) no_expressions))
    no_expressions)) no_expressions)))) no_statements)))) ∷ [])

abbrev an_operation_that_is_not_exported_declared : List Declared
an_operation_that_is_not_exported_declared =
    (d (codes "rep") 1 0 14 (Some 0) ∷ d (codes "make") 6 0 14 (Some 0) ∷ d (codes "x") 8 9 13 (Some 0) ∷ d (codes "get") 13 0 14 (Some 0) ∷ d (codes
    "c") 14 0 4294967295 None ∷ d (codes "start_up") 40 0 4294967295 None ∷ [])

an_operation_that_is_not_exported : Ends an_operation_that_is_not_exported_declared an_operation_that_is_not_exported_modules (codes "") 10000 went_wrong (codes "a")
unfolding executing computing digits
an_operation_that_is_not_exported = refl

-- c = cluster is make
--   rep = int
--   make = proc () returns (cvt) return (1) end make
--   add = proc (x, y: cvt) returns (int) return (x) end add
-- end c
-- start_up = proc () stream$puts(stream$primary_output(), "a") stream$puts(stream$primary_output(), int$unparse(c$make() + c$make())) end start_up
abbrev sugar_that_is_not_exported_modules : List Module
sugar_that_is_not_exported_modules =
    ((a_cluster 15 no_equates (cluster 14 (codes "c") (codes "c") [] ((codes "make") ∷ []) ([]) (equate_and (an_equate 1 None (a_type (a_simple_type 0
    simple.Int))) no_equates) ([]) ((routine 6 (codes "make") (codes "make") kind.Procedure [] ([]) (type_and (a_simple_type 2 simple.Cvt) no_types)
    no_exceptions ([]) no_equates ([]) (statement_and (a_return 5 (expression_and (a_literal 4 (integer (codes "1"))) no_expressions)) no_statements))
    ∷ (routine 13 (codes "add") (codes "add") kind.Procedure [] (typed 8 ((codes "x") ∷ (codes "y") ∷ []) (a_simple_type 7 simple.Cvt) ∷ []) (type_and
    (a_simple_type 9 simple.Int) no_types) no_exceptions ([]) no_equates ([]) (statement_and (a_return 12 (expression_and (a_name 11 (codes "x"))
    no_expressions)) no_statements)) ∷ []))) ∷ (a_routine 42 no_equates (routine 41 (codes "start_up") (codes "start_up") kind.Procedure [] ([])
    no_types no_exceptions ([]) no_equates ([]) (statement_and (a_call_statement 23 (a_call 22 (an_operation 17 (a_named_type 16 (codes "stream")
    no_constants) (codes "puts")) (expression_and (a_call 20 (an_operation 19 (a_named_type 18 (codes "stream") no_constants) (codes
    "primary_output")) no_expressions) (expression_and (a_literal 21 (string (34 ∷ 97 ∷ 34 ∷ []))) no_expressions)))) (statement_and (a_call_statement
    40 (a_call 39 (an_operation 25 (a_named_type 24 (codes "stream") no_constants) (codes "puts")) (expression_and (a_call 28 (an_operation 27
    (a_named_type 26 (codes "stream") no_constants) (codes "primary_output")) no_expressions) (expression_and (a_call 38 (an_operation 30
    (a_simple_type 29 simple.Int) (codes "unparse")) (expression_and (an_infix 37 op.Add (a_call 33 (an_operation 32 (a_named_type 31 (codes "c")
    no_constants) (codes "make")) no_expressions) (a_call 36 (an_operation 35 (a_named_type 34 (codes "c") no_constants) (codes "make"))
    no_expressions)) no_expressions)) no_expressions)))) no_statements)))) ∷ [])

abbrev sugar_that_is_not_exported_declared : List Declared
sugar_that_is_not_exported_declared =
    (d (codes "rep") 1 0 14 (Some 0) ∷ d (codes "make") 6 0 14 (Some 0) ∷ d (codes "x") 8 9 13 (Some 0) ∷ d (codes "y") 8 9 13 (Some 0) ∷ d (codes
    "add") 13 0 14 (Some 0) ∷ d (codes "c") 14 0 4294967295 None ∷ d (codes "start_up") 41 0 4294967295 None ∷ [])

sugar_that_is_not_exported : Ends sugar_that_is_not_exported_declared sugar_that_is_not_exported_modules (codes "") 10000 went_wrong (codes "a")
unfolding executing computing digits
sugar_that_is_not_exported = refl

-- c = cluster is make
--   rep = int
--   make = proc () returns (cvt) return (1) end make
-- end c
-- d = cluster is get
--   rep = int
--   get = proc (x: c) returns (int) return (down(x)) end get
-- end d
-- start_up = proc () stream$puts(stream$primary_output(), "a") stream$puts(stream$primary_output(), int$unparse(d$get(c$make()))) end start_up
abbrev an_opening_by_another_cluster_modules : List Module
an_opening_by_another_cluster_modules =
    ((a_cluster 8 no_equates (cluster 7 (codes "c") (codes "c") [] ((codes "make") ∷ []) ([]) (equate_and (an_equate 1 None (a_type (a_simple_type 0
    simple.Int))) no_equates) ([]) ((routine 6 (codes "make") (codes "make") kind.Procedure [] ([]) (type_and (a_simple_type 2 simple.Cvt) no_types)
    no_exceptions ([]) no_equates ([]) (statement_and (a_return 5 (expression_and (a_literal 4 (integer (codes "1"))) no_expressions)) no_statements))
    ∷ []))) ∷ (a_cluster 20 no_equates (cluster 19 (codes "d") (codes "d") [] ((codes "get") ∷ []) ([]) (equate_and (an_equate 10 None (a_type
    (a_simple_type 9 simple.Int))) no_equates) ([]) ((routine 18 (codes "get") (codes "get") kind.Procedure [] (typed 12 ((codes "x") ∷ [])
    (a_named_type 11 (codes "c") no_constants) ∷ []) (type_and (a_simple_type 13 simple.Int) no_types) no_exceptions ([]) no_equates ([])
    (statement_and (a_return 17 (expression_and (a_down 16 (a_name 15 (codes "x"))) no_expressions)) no_statements)) ∷ []))) ∷ (a_routine 46
    no_equates (routine 45 (codes "start_up") (codes "start_up") kind.Procedure [] ([]) no_types no_exceptions ([]) no_equates ([]) (statement_and
    (a_call_statement 28 (a_call 27 (an_operation 22 (a_named_type 21 (codes "stream") no_constants) (codes "puts")) (expression_and (a_call 25
    (an_operation 24 (a_named_type 23 (codes "stream") no_constants) (codes "primary_output")) no_expressions) (expression_and (a_literal 26 (string
    (34 ∷ 97 ∷ 34 ∷ []))) no_expressions)))) (statement_and (a_call_statement 44 (a_call 43 (an_operation 30 (a_named_type 29 (codes "stream")
    no_constants) (codes "puts")) (expression_and (a_call 33 (an_operation 32 (a_named_type 31 (codes "stream") no_constants) (codes
    "primary_output")) no_expressions) (expression_and (a_call 42 (an_operation 35 (a_simple_type 34 simple.Int) (codes "unparse")) (expression_and
    (a_call 41 (an_operation 37 (a_named_type 36 (codes "d") no_constants) (codes "get")) (expression_and (a_call 40 (an_operation 39 (a_named_type 38
    (codes "c") no_constants) (codes "make")) no_expressions) no_expressions)) no_expressions)) no_expressions)))) no_statements)))) ∷ [])

abbrev an_opening_by_another_cluster_declared : List Declared
an_opening_by_another_cluster_declared =
    (d (codes "rep") 1 0 7 (Some 0) ∷ d (codes "make") 6 0 7 (Some 0) ∷ d (codes "c") 7 0 4294967295 None ∷ d (codes "rep") 10 9 19 (Some 0) ∷ d
    (codes "x") 12 13 18 (Some 0) ∷ d (codes "get") 18 9 19 (Some 0) ∷ d (codes "d") 19 0 4294967295 None ∷ d (codes "start_up") 45 0 4294967295 None
    ∷ [])

an_opening_by_another_cluster : Ends an_opening_by_another_cluster_declared an_opening_by_another_cluster_modules (codes "") 10000 went_wrong (codes "a")
unfolding executing computing digits
an_opening_by_another_cluster = refl

-- c = cluster [t: type] is make, get
--   rep = int
--   make = proc () returns (cvt) return (1) end make
--   get = proc (x: c[int]) returns (int) return (down(x)) end get
-- end c
-- start_up = proc () stream$puts(stream$primary_output(), "a") stream$puts(stream$primary_output(), int$unparse(c[bool]$get(c[int]$make()))) end start_up
abbrev an_opening_by_another_instance_modules : List Module
an_opening_by_another_instance_modules =
    ((a_cluster 18 no_equates (cluster 17 (codes "c") (codes "c") (parameter 0 ((codes "t") ∷ []) None ∷ []) ((codes "make") ∷ (codes "get") ∷ [])
    ([]) (equate_and (an_equate 2 None (a_type (a_simple_type 1 simple.Int))) no_equates) ([]) ((routine 7 (codes "make") (codes "make")
    kind.Procedure [] ([]) (type_and (a_simple_type 3 simple.Cvt) no_types) no_exceptions ([]) no_equates ([]) (statement_and (a_return 6
    (expression_and (a_literal 5 (integer (codes "1"))) no_expressions)) no_statements)) ∷ (routine 16 (codes "get") (codes "get") kind.Procedure []
    (typed 10 ((codes "x") ∷ []) (a_named_type 9 (codes "c") (constant_and (a_type (a_simple_type 8 simple.Int)) no_constants)) ∷ []) (type_and
    (a_simple_type 11 simple.Int) no_types) no_exceptions ([]) no_equates ([]) (statement_and (a_return 15 (expression_and (a_down 14 (a_name 13
    (codes "x"))) no_expressions)) no_statements)) ∷ []))) ∷ (a_routine 46 no_equates (routine 45 (codes "start_up") (codes "start_up") kind.Procedure
    [] ([]) no_types no_exceptions ([]) no_equates ([]) (statement_and (a_call_statement 26 (a_call 25 (an_operation 20 (a_named_type 19 (codes
    "stream") no_constants) (codes "puts")) (expression_and (a_call 23 (an_operation 22 (a_named_type 21 (codes "stream") no_constants) (codes
    "primary_output")) no_expressions) (expression_and (a_literal 24 (string (34 ∷ 97 ∷ 34 ∷ []))) no_expressions)))) (statement_and (a_call_statement
    44 (a_call 43 (an_operation 28 (a_named_type 27 (codes "stream") no_constants) (codes "puts")) (expression_and (a_call 31 (an_operation 30
    (a_named_type 29 (codes "stream") no_constants) (codes "primary_output")) no_expressions) (expression_and (a_call 42 (an_operation 33
    (a_simple_type 32 simple.Int) (codes "unparse")) (expression_and (a_call 41 (an_operation 36 (a_named_type 35 (codes "c") (constant_and (a_type
    (a_simple_type 34 simple.Bool)) no_constants)) (codes "get")) (expression_and (a_call 40 (an_operation 39 (a_named_type 38 (codes "c")
    (constant_and (a_type (a_simple_type 37 simple.Int)) no_constants)) (codes "make")) no_expressions) no_expressions)) no_expressions))
    no_expressions)))) no_statements)))) ∷ [])

abbrev an_opening_by_another_instance_declared : List Declared
an_opening_by_another_instance_declared =
    (d (codes "t") 0 0 17 (Some 0) ∷ d (codes "rep") 2 0 17 (Some 0) ∷ d (codes "make") 7 0 17 (Some 0) ∷ d (codes "x") 10 11 16 (Some 0) ∷ d (codes
    "get") 16 0 17 (Some 0) ∷ d (codes "c") 17 0 4294967295 None ∷ d (codes "start_up") 45 0 4294967295 None ∷ [])

an_opening_by_another_instance : Ends an_opening_by_another_instance_declared an_opening_by_another_instance_modules (codes "") 10000 went_wrong (codes "a")
unfolding executing computing digits
an_opening_by_another_instance = refl

-- p = proc () signals (e) signal f end p
-- start_up = proc () stream$puts(stream$primary_output(), "a") p() end start_up
abbrev a_signal_that_the_heading_lacks_modules : List Module
a_signal_that_the_heading_lacks_modules =
    ((a_routine 4 no_equates (routine 3 (codes "p") (codes "p") kind.Procedure [] ([]) no_types (exception_and 0 (codes "e") no_types no_exceptions)
    ([]) no_equates ([]) (statement_and (a_signal 2 (codes "f") no_expressions) no_statements))) ∷ (a_routine 17 no_equates (routine 16 (codes
    "start_up") (codes "start_up") kind.Procedure [] ([]) no_types no_exceptions ([]) no_equates ([]) (statement_and (a_call_statement 12 (a_call 11
    (an_operation 6 (a_named_type 5 (codes "stream") no_constants) (codes "puts")) (expression_and (a_call 9 (an_operation 8 (a_named_type 7 (codes
    "stream") no_constants) (codes "primary_output")) no_expressions) (expression_and (a_literal 10 (string (34 ∷ 97 ∷ 34 ∷ []))) no_expressions))))
    (statement_and (a_call_statement 15 (a_call 14 (a_name 13 (codes "p")) no_expressions)) no_statements)))) ∷ [])

abbrev a_signal_that_the_heading_lacks_declared : List Declared
a_signal_that_the_heading_lacks_declared =
    (d (codes "p") 3 0 4294967295 None ∷ d (codes "start_up") 16 0 4294967295 None ∷ [])

a_signal_that_the_heading_lacks : Ends a_signal_that_the_heading_lacks_declared a_signal_that_the_heading_lacks_modules (codes "") 10000 went_wrong (codes "a")
unfolding executing computing digits
a_signal_that_the_heading_lacks = refl

-- start_up = proc () stream$puts(stream$primary_output(), "a") break end start_up
abbrev a_break_outside_of_loops_modules : List Module
a_break_outside_of_loops_modules =
    ((a_routine 10 no_equates (routine 9 (codes "start_up") (codes "start_up") kind.Procedure [] ([]) no_types no_exceptions ([]) no_equates ([])
    (statement_and (a_call_statement 7 (a_call 6 (an_operation 1 (a_named_type 0 (codes "stream") no_constants) (codes "puts")) (expression_and
    (a_call 4 (an_operation 3 (a_named_type 2 (codes "stream") no_constants) (codes "primary_output")) no_expressions) (expression_and (a_literal 5
    (string (34 ∷ 97 ∷ 34 ∷ []))) no_expressions)))) (statement_and (a_break 8) no_statements)))) ∷ [])

abbrev a_break_outside_of_loops_declared : List Declared
a_break_outside_of_loops_declared =
    (d (codes "start_up") 9 0 4294967295 None ∷ [])

a_break_outside_of_loops : Ends a_break_outside_of_loops_declared a_break_outside_of_loops_modules (codes "") 10000 went_wrong (codes "a")
unfolding executing computing digits
a_break_outside_of_loops = refl

-- p = proc () continue end p
-- start_up = proc () while true do stream$puts(stream$primary_output(), "a") p() end end start_up
abbrev a_continue_of_a_callers_loop_modules : List Module
a_continue_of_a_callers_loop_modules =
    ((a_routine 2 no_equates (routine 1 (codes "p") (codes "p") kind.Procedure [] ([]) no_types no_exceptions ([]) no_equates ([]) (statement_and
    (a_continue 0) no_statements))) ∷ (a_routine 17 no_equates (routine 16 (codes "start_up") (codes "start_up") kind.Procedure [] ([]) no_types
    no_exceptions ([]) no_equates ([]) (statement_and (a_while 15 (a_literal 3 true_literal) (a_body no_equates (statement_and (a_call_statement 11
    (a_call 10 (an_operation 5 (a_named_type 4 (codes "stream") no_constants) (codes "puts")) (expression_and (a_call 8 (an_operation 7 (a_named_type
    6 (codes "stream") no_constants) (codes "primary_output")) no_expressions) (expression_and (a_literal 9 (string (34 ∷ 97 ∷ 34 ∷ [])))
    no_expressions)))) (statement_and (a_call_statement 14 (a_call 13 (a_name 12 (codes "p")) no_expressions)) no_statements)))) no_statements))) ∷
    [])

abbrev a_continue_of_a_callers_loop_declared : List Declared
a_continue_of_a_callers_loop_declared =
    (d (codes "p") 1 0 4294967295 None ∷ d (codes "start_up") 16 0 4294967295 None ∷ [])

a_continue_of_a_callers_loop : Ends a_continue_of_a_callers_loop_declared a_continue_of_a_callers_loop_modules (codes "") 10000 went_wrong (codes "a")
unfolding executing computing digits
a_continue_of_a_callers_loop = refl

-- start_up = proc () stream$puts(stream$primary_output(), "a") yield (1) end start_up
abbrev a_yield_outside_of_iterators_modules : List Module
a_yield_outside_of_iterators_modules =
    ((a_routine 11 no_equates (routine 10 (codes "start_up") (codes "start_up") kind.Procedure [] ([]) no_types no_exceptions ([]) no_equates ([])
    (statement_and (a_call_statement 7 (a_call 6 (an_operation 1 (a_named_type 0 (codes "stream") no_constants) (codes "puts")) (expression_and
    (a_call 4 (an_operation 3 (a_named_type 2 (codes "stream") no_constants) (codes "primary_output")) no_expressions) (expression_and (a_literal 5
    (string (34 ∷ 97 ∷ 34 ∷ []))) no_expressions)))) (statement_and (a_yield 9 (expression_and (a_literal 8 (integer (codes "1"))) no_expressions))
    no_statements)))) ∷ [])

abbrev a_yield_outside_of_iterators_declared : List Declared
a_yield_outside_of_iterators_declared =
    (d (codes "start_up") 10 0 4294967295 None ∷ [])

a_yield_outside_of_iterators : Ends a_yield_outside_of_iterators_declared a_yield_outside_of_iterators_modules (codes "") 10000 went_wrong (codes "a")
unfolding executing computing digits
a_yield_outside_of_iterators = refl

-- start_up = proc () stream$puts(stream$primary_output(), "a") exit e except when f: end end start_up
abbrev an_exit_without_an_arm_modules : List Module
an_exit_without_an_arm_modules =
    ((a_routine 12 no_equates (routine 11 (codes "start_up") (codes "start_up") kind.Procedure [] ([]) no_types no_exceptions ([]) no_equates ([])
    (statement_and (a_call_statement 7 (a_call 6 (an_operation 1 (a_named_type 0 (codes "stream") no_constants) (codes "puts")) (expression_and
    (a_call 4 (an_operation 3 (a_named_type 2 (codes "stream") no_constants) (codes "primary_output")) no_expressions) (expression_and (a_literal 5
    (string (34 ∷ 97 ∷ 34 ∷ []))) no_expressions)))) (statement_and (an_except 10 (an_exit 8 (codes "e") no_expressions) (when_and 9 ((codes "f") ∷
    []) (objects []) (a_body no_equates no_statements) no_whens) no_others) no_statements)))) ∷ [])

abbrev an_exit_without_an_arm_declared : List Declared
an_exit_without_an_arm_declared =
    (d (codes "start_up") 11 0 4294967295 None ∷ [])

an_exit_without_an_arm : Ends an_exit_without_an_arm_declared an_exit_without_an_arm_modules (codes "") 10000 went_wrong (codes "a")
unfolding executing computing digits
an_exit_without_an_arm = refl

-- p = proc () end p
-- start_up = proc () stream$puts(stream$primary_output(), "a") for x: int in p() do end end start_up
abbrev a_loop_over_a_procedure_modules : List Module
a_loop_over_a_procedure_modules =
    ((a_routine 1 no_equates (routine 0 (codes "p") (codes "p") kind.Procedure [] ([]) no_types no_exceptions ([]) no_equates ([]) no_statements)) ∷
    (a_routine 16 no_equates (routine 15 (codes "start_up") (codes "start_up") kind.Procedure [] ([]) no_types no_exceptions ([]) no_equates ([])
    (statement_and (a_call_statement 9 (a_call 8 (an_operation 3 (a_named_type 2 (codes "stream") no_constants) (codes "puts")) (expression_and
    (a_call 6 (an_operation 5 (a_named_type 4 (codes "stream") no_constants) (codes "primary_output")) no_expressions) (expression_and (a_literal 7
    (string (34 ∷ 97 ∷ 34 ∷ []))) no_expressions)))) (statement_and (a_for 14 (typed 11 ((codes "x") ∷ []) (a_simple_type 10 simple.Int) ∷ []) (a_call
    13 (a_name 12 (codes "p")) no_expressions) (a_body no_equates no_statements)) no_statements)))) ∷ [])

abbrev a_loop_over_a_procedure_declared : List Declared
a_loop_over_a_procedure_declared =
    (d (codes "p") 0 0 4294967295 None ∷ d (codes "x") 11 14 13 (Some 0) ∷ d (codes "start_up") 15 0 4294967295 None ∷ [])

a_loop_over_a_procedure : Ends a_loop_over_a_procedure_declared a_loop_over_a_procedure_modules (codes "") 10000 went_wrong (codes "a")
unfolding executing computing digits
a_loop_over_a_procedure = refl

-- it = iter () yields (int) yield (1) end it
-- start_up = proc () stream$puts(stream$primary_output(), "a") it() end start_up
abbrev an_iterator_that_is_called_modules : List Module
an_iterator_that_is_called_modules =
    ((a_routine 5 no_equates (routine 4 (codes "it") (codes "it") kind.Iterator [] ([]) (type_and (a_simple_type 0 simple.Int) no_types) no_exceptions
    ([]) no_equates ([]) (statement_and (a_yield 3 (expression_and (a_literal 2 (integer (codes "1"))) no_expressions)) no_statements))) ∷ (a_routine
    18 no_equates (routine 17 (codes "start_up") (codes "start_up") kind.Procedure [] ([]) no_types no_exceptions ([]) no_equates ([]) (statement_and
    (a_call_statement 13 (a_call 12 (an_operation 7 (a_named_type 6 (codes "stream") no_constants) (codes "puts")) (expression_and (a_call 10
    (an_operation 9 (a_named_type 8 (codes "stream") no_constants) (codes "primary_output")) no_expressions) (expression_and (a_literal 11 (string (34
    ∷ 97 ∷ 34 ∷ []))) no_expressions)))) (statement_and (a_call_statement 16 (a_call 15 (a_name 14 (codes "it")) no_expressions)) no_statements)))) ∷
    [])

abbrev an_iterator_that_is_called_declared : List Declared
an_iterator_that_is_called_declared =
    (d (codes "it") 4 0 4294967295 None ∷ d (codes "start_up") 17 0 4294967295 None ∷ [])

an_iterator_that_is_called : Ends an_iterator_that_is_called_declared an_iterator_that_is_called_modules (codes "") 10000 went_wrong (codes "a")
unfolding executing computing digits
an_iterator_that_is_called = refl

-- t = oneof[a, b: int]
-- start_up = proc () stream$puts(stream$primary_output(), "a") tagcase t$make_b(1) tag a: end end start_up
abbrev a_tag_without_an_arm_modules : List Module
a_tag_without_an_arm_modules =
    ((a_routine 19 (equate_and (an_equate 3 (Some (codes "t")) (a_type (a_fields_type 2 fields_word.Oneof (selector_and 1 ((codes "a") ∷ (codes "b") ∷
    []) (a_simple_type 0 simple.Int) no_selectors)))) no_equates) (routine 18 (codes "start_up") (codes "start_up") kind.Procedure [] ([]) no_types
    no_exceptions ([]) no_equates ([]) (statement_and (a_call_statement 11 (a_call 10 (an_operation 5 (a_named_type 4 (codes "stream") no_constants)
    (codes "puts")) (expression_and (a_call 8 (an_operation 7 (a_named_type 6 (codes "stream") no_constants) (codes "primary_output")) no_expressions)
    (expression_and (a_literal 9 (string (34 ∷ 97 ∷ 34 ∷ []))) no_expressions)))) (statement_and (a_tagcase 17 (a_call 15 (an_operation 13
    (a_named_type 12 (codes "t") no_constants) (codes "make_b")) (expression_and (a_literal 14 (integer (codes "1"))) no_expressions)) (tag_arm_and 16
    ((codes "a") ∷ []) None (a_body no_equates no_statements) no_tag_arms) nothing_else) no_statements)))) ∷ [])

abbrev a_tag_without_an_arm_declared : List Declared
a_tag_without_an_arm_declared =
    (d (codes "t") 3 0 19 (Some 0) ∷ d (codes "start_up") 18 0 4294967295 None ∷ [])

a_tag_without_an_arm : Ends a_tag_without_an_arm_declared a_tag_without_an_arm_modules (codes "") 10000 went_wrong (codes "a")
unfolding executing computing digits
a_tag_without_an_arm = refl

-- start_up = proc () r = record[a, b: int] stream$puts(stream$primary_output(), "a") x: r := r${a: 1} end start_up
abbrev a_constructor_without_a_selector_modules : List Module
a_constructor_without_a_selector_modules =
    ((a_routine 19 no_equates (routine 18 (codes "start_up") (codes "start_up") kind.Procedure [] ([]) no_types no_exceptions ([]) (equate_and
    (an_equate 3 (Some (codes "r")) (a_type (a_fields_type 2 fields_word.Record (selector_and 1 ((codes "a") ∷ (codes "b") ∷ []) (a_simple_type 0
    simple.Int) no_selectors)))) no_equates) ([]) (statement_and (a_call_statement 11 (a_call 10 (an_operation 5 (a_named_type 4 (codes "stream")
    no_constants) (codes "puts")) (expression_and (a_call 8 (an_operation 7 (a_named_type 6 (codes "stream") no_constants) (codes "primary_output"))
    no_expressions) (expression_and (a_literal 9 (string (34 ∷ 97 ∷ 34 ∷ []))) no_expressions)))) (statement_and (an_init 17 (a_variable (codes "x")
    (a_named_type 12 (codes "r") no_constants)) (fields 16 (a_named_type 13 (codes "r") no_constants) (component_and 15 ((codes "a") ∷ []) (a_literal
    14 (integer (codes "1"))) no_components))) no_statements)))) ∷ [])

abbrev a_constructor_without_a_selector_declared : List Declared
a_constructor_without_a_selector_declared =
    (d (codes "r") 3 0 18 (Some 0) ∷ d (codes "x") 17 18 18 (Some 0) ∷ d (codes "start_up") 18 0 4294967295 None ∷ [])

a_constructor_without_a_selector : Ends a_constructor_without_a_selector_declared a_constructor_without_a_selector_modules (codes "") 10000 went_wrong (codes "a")
unfolding executing computing digits
a_constructor_without_a_selector = refl

-- start_up = proc (n: int) end start_up
abbrev a_start_with_arguments_modules : List Module
a_start_with_arguments_modules =
    ((a_routine 3 no_equates (routine 2 (codes "start_up") (codes "start_up") kind.Procedure [] (typed 1 ((codes "n") ∷ []) (a_simple_type 0
    simple.Int) ∷ []) no_types no_exceptions ([]) no_equates ([]) no_statements)) ∷ [])

abbrev a_start_with_arguments_declared : List Declared
a_start_with_arguments_declared =
    (d (codes "n") 1 2 2 (Some 0) ∷ d (codes "start_up") 2 0 4294967295 None ∷ [])

a_start_with_arguments : Ends a_start_with_arguments_declared a_start_with_arguments_modules (codes "") 10000 went_wrong (codes "")
unfolding executing computing digits
a_start_with_arguments = refl
