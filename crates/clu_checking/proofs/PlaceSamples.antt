-- Files that are checked: where each rule is refused, and what is asked before it. Each is the tree of the CLU above it.
use Rattle.std.specs.Prelude.{refl, List, [], ◌∷◌, codes, Some, None}
use Rattle.clu_base.specs.declared.rules.Rule.TheVariants as rule
use Rattle.clu_tree.specs.declared.node.Node.{Node}
use Rattle.clu_tree.specs.declared.node.NodeKind.TheVariants as kind
use Rattle.clu_checking.proofs.Checking.{n, IsRefused, IsFine, checking}

-- start_up = proc ()
-- s: string := "a\777b"
-- end start_up
abbrev octal_code_in_a_string_nodes : List Node
octal_code_in_a_string_nodes =
    (n kind.Simple 2 4 7 7 [] [] (codes "string") (Some 7) ∷ n kind.Literal 2 14 9 9 [] [] (34 ∷ 97 ∷ 92 ∷ 55 ∷ 55 ∷
    55 ∷ 98 ∷ 34 ∷ []) (Some 9) ∷ n kind.Init 2 1 5 9 (0 ∷ 1 ∷ []) ((codes "s") ∷ []) [] None ∷ n kind.Routine 1 1 0
    11 (2 ∷ []) ((codes "start_up") ∷ (codes "start_up") ∷ []) (codes "proc") (Some 2) ∷ n kind.Module 1 1 0 11 (3 ∷
    []) [] [] None ∷ n kind.File 1 1 0 11 (4 ∷ []) [] [] None ∷ [])

octal_code_in_a_string : IsRefused octal_code_in_a_string_nodes rule.LiteralRange 2 14
unfolding checking
octal_code_in_a_string = refl

-- p = proc () signals (ddddddddddddddddddddddddddddddddddddddddddddddddddddddddddddddddddddddddddddddddddddddddddddddddddddddddddddddddddddddddddddddddddddddddddddddddddddddddddddddddddddddddddddddddddddddddddddddddddddddddd) end p
abbrev name_of_an_exception_that_is_too_long_nodes : List Node
name_of_an_exception_that_is_too_long_nodes =
    (n kind.Exc 1 22 7 7 [] ((codes
    "ddddddddddddddddddddddddddddddddddddddddddddddddddddddddddddddddddddddddddddddddddddddddddddddddddddddddddddddddddddddddddddddddddddddddddddddddddddddddddddddddddddddddddddddddddddddddddddddddddddddddd")
    ∷ []) [] None ∷ n kind.Signals 1 13 5 8 (0 ∷ []) [] [] None ∷ n kind.Routine 1 1 0 10 (1 ∷ []) ((codes "p") ∷
    (codes "p") ∷ []) (codes "proc") (Some 2) ∷ n kind.Module 1 1 0 10 (2 ∷ []) [] [] None ∷ n kind.File 1 1 0 10 (3 ∷
    []) [] [] None ∷ [])

name_of_an_exception_that_is_too_long : IsRefused name_of_an_exception_that_is_too_long_nodes rule.LiteralRange 1 22
unfolding checking
name_of_an_exception_that_is_too_long = refl

-- c = cluster is f rep = null rep = null f = proc () end g end d
abbrev end_of_a_routine_before_its_cluster_nodes : List Node
end_of_a_routine_before_its_cluster_nodes =
    (n kind.Simple 1 24 7 7 [] [] (codes "null") (Some 7) ∷ n kind.Equate 1 18 5 7 (0 ∷ []) [] (codes "rep") (Some 5)
    ∷ n kind.Simple 1 35 10 10 [] [] (codes "null") (Some 10) ∷ n kind.Equate 1 29 8 10 (2 ∷ []) [] (codes "rep")
    (Some 8) ∷ n kind.Routine 1 40 11 17 [] ((codes "f") ∷ (codes "g") ∷ []) (codes "proc") (Some 13) ∷ n kind.Cluster
    1 1 0 19 (1 ∷ 3 ∷ 4 ∷ []) ((codes "c") ∷ (codes "f") ∷ (codes "d") ∷ []) [] None ∷ n kind.Module 1 1 0 19 (5 ∷ [])
    [] [] None ∷ n kind.File 1 1 0 19 (6 ∷ []) [] [] None ∷ [])

end_of_a_routine_before_its_cluster : IsRefused end_of_a_routine_before_its_cluster_nodes rule.EndName 1 40
unfolding checking
end_of_a_routine_before_its_cluster = refl

-- p = proc () end r q = proc () break end q
abbrev end_name_before_the_next_body_nodes : List Node
end_name_before_the_next_body_nodes =
    (n kind.Routine 1 1 0 6 [] ((codes "p") ∷ (codes "r") ∷ []) (codes "proc") (Some 2) ∷ n kind.Module 1 1 0 6 (0 ∷
    []) [] [] None ∷ n kind.Break 1 31 12 12 [] [] [] None ∷ n kind.Routine 1 19 7 14 (2 ∷ []) ((codes "q") ∷ (codes
    "q") ∷ []) (codes "proc") (Some 9) ∷ n kind.Module 1 19 7 14 (3 ∷ []) [] [] None ∷ n kind.File 1 1 0 14 (1 ∷ 4 ∷
    []) [] [] None ∷ [])

end_name_before_the_next_body : IsRefused end_name_before_the_next_body_nodes rule.EndName 1 1
unfolding checking
end_name_before_the_next_body = refl

-- p = proc () returns (int) yield (1) return (1) end p
abbrev yield_in_a_procedure_with_results_nodes : List Node
yield_in_a_procedure_with_results_nodes =
    (n kind.Simple 1 22 7 7 [] [] (codes "int") (Some 7) ∷ n kind.Results 1 13 5 8 (0 ∷ []) [] (codes "returns") (Some
    5) ∷ n kind.Literal 1 34 11 11 [] [] (codes "1") (Some 11) ∷ n kind.Yield 1 27 9 12 (2 ∷ []) [] [] None ∷ n
    kind.Literal 1 45 15 15 [] [] (codes "1") (Some 15) ∷ n kind.Return 1 37 13 16 (4 ∷ []) [] [] None ∷ n
    kind.Routine 1 1 0 18 (1 ∷ 3 ∷ 5 ∷ []) ((codes "p") ∷ (codes "p") ∷ []) (codes "proc") (Some 2) ∷ n kind.Module 1
    1 0 18 (6 ∷ []) [] [] None ∷ n kind.File 1 1 0 18 (7 ∷ []) [] [] None ∷ [])

yield_in_a_procedure_with_results : IsRefused yield_in_a_procedure_with_results_nodes rule.NotInIterator 1 27
unfolding checking
yield_in_a_procedure_with_results = refl

-- it = iter () yields (int) return (1) end it
abbrev values_of_a_return_in_an_iterator_nodes : List Node
values_of_a_return_in_an_iterator_nodes =
    (n kind.Simple 1 22 7 7 [] [] (codes "int") (Some 7) ∷ n kind.Results 1 14 5 8 (0 ∷ []) [] (codes "yields") (Some
    5) ∷ n kind.Literal 1 35 11 11 [] [] (codes "1") (Some 11) ∷ n kind.Return 1 27 9 12 (2 ∷ []) [] [] None ∷ n
    kind.Routine 1 1 0 14 (1 ∷ 3 ∷ []) ((codes "it") ∷ (codes "it") ∷ []) (codes "iter") (Some 2) ∷ n kind.Module 1 1
    0 14 (4 ∷ []) [] [] None ∷ n kind.File 1 1 0 14 (5 ∷ []) [] [] None ∷ [])

values_of_a_return_in_an_iterator : IsRefused values_of_a_return_in_an_iterator_nodes rule.ReturnValues 1 27
unfolding checking
values_of_a_return_in_an_iterator = refl

-- it = iter () yield (1) end it
abbrev values_of_a_yield_without_types_nodes : List Node
values_of_a_yield_without_types_nodes =
    (n kind.Literal 1 21 7 7 [] [] (codes "1") (Some 7) ∷ n kind.Yield 1 14 5 8 (0 ∷ []) [] [] None ∷ n kind.Routine 1
    1 0 10 (1 ∷ []) ((codes "it") ∷ (codes "it") ∷ []) (codes "iter") (Some 2) ∷ n kind.Module 1 1 0 10 (2 ∷ []) [] []
    None ∷ n kind.File 1 1 0 10 (3 ∷ []) [] [] None ∷ [])

values_of_a_yield_without_types : IsRefused values_of_a_yield_without_types_nodes rule.ReturnValues 1 14
unfolding checking
values_of_a_yield_without_types = refl

-- c = cluster is f rep = int f = proc (x: c) returns (cvt) return (x) end f end c
abbrev abstract_object_returned_as_cvt_nodes : List Node
abstract_object_returned_as_cvt_nodes =
    (n kind.Simple 1 24 7 7 [] [] (codes "int") (Some 7) ∷ n kind.Equate 1 18 5 7 (0 ∷ []) [] (codes "rep") (Some 5) ∷
    n kind.NameT 1 41 14 14 [] ((codes "c") ∷ []) [] None ∷ n kind.Decl 1 38 12 14 (2 ∷ []) ((codes "x") ∷ []) [] None
    ∷ n kind.Simple 1 53 18 18 [] [] (codes "cvt") (Some 18) ∷ n kind.Results 1 44 16 19 (4 ∷ []) [] (codes "returns")
    (Some 16) ∷ n kind.Name 1 66 22 22 [] ((codes "x") ∷ []) [] None ∷ n kind.Return 1 58 20 23 (6 ∷ []) [] [] None ∷
    n kind.Routine 1 28 8 25 (3 ∷ 5 ∷ 7 ∷ []) ((codes "f") ∷ (codes "f") ∷ []) (codes "proc") (Some 10) ∷ n
    kind.Cluster 1 1 0 27 (1 ∷ 8 ∷ []) ((codes "c") ∷ (codes "f") ∷ (codes "c") ∷ []) [] None ∷ n kind.Module 1 1 0 27
    (9 ∷ []) [] [] None ∷ n kind.File 1 1 0 27 (10 ∷ []) [] [] None ∷ [])

abstract_object_returned_as_cvt : IsRefused abstract_object_returned_as_cvt_nodes rule.ReturnValues 1 58
unfolding checking
abstract_object_returned_as_cvt = refl

-- start_up = proc ()
-- x: int := 1 / 0 except when zero_divide: when failure (n: int): when zero_divide: end
-- end start_up
abbrev arm_of_failure_before_a_name_twice_nodes : List Node
arm_of_failure_before_a_name_twice_nodes =
    (n kind.Simple 2 4 7 7 [] [] (codes "int") (Some 7) ∷ n kind.Literal 2 11 9 9 [] [] (codes "1") (Some 9) ∷ n
    kind.Literal 2 15 11 11 [] [] (codes "0") (Some 11) ∷ n kind.Infix 2 13 9 11 (1 ∷ 2 ∷ []) [] (codes "/") (Some 10)
    ∷ n kind.Init 2 1 5 11 (0 ∷ 3 ∷ []) ((codes "x") ∷ []) [] None ∷ n kind.When 2 24 13 15 [] ((codes "zero_divide")
    ∷ []) [] None ∷ n kind.Simple 2 59 21 21 [] [] (codes "int") (Some 21) ∷ n kind.Decl 2 56 19 21 (6 ∷ []) ((codes
    "n") ∷ []) [] None ∷ n kind.When 2 42 16 23 (7 ∷ []) ((codes "failure") ∷ []) [] None ∷ n kind.When 2 65 24 26 []
    ((codes "zero_divide") ∷ []) [] None ∷ n kind.Except 2 17 5 27 (4 ∷ 5 ∷ 8 ∷ 9 ∷ []) [] [] None ∷ n kind.Routine 1
    1 0 29 (10 ∷ []) ((codes "start_up") ∷ (codes "start_up") ∷ []) (codes "proc") (Some 2) ∷ n kind.Module 1 1 0 29
    (11 ∷ []) [] [] None ∷ n kind.File 1 1 0 29 (12 ∷ []) [] [] None ∷ [])

arm_of_failure_before_a_name_twice : IsRefused arm_of_failure_before_a_name_twice_nodes rule.ArmTypes 2 42
unfolding checking
arm_of_failure_before_a_name_twice = refl

-- start_up = proc ()
-- begin end except when a: when b: when b: end
-- end start_up
abbrev name_in_the_third_arm_nodes : List Node
name_in_the_third_arm_nodes =
    (n kind.Begin 2 1 5 6 [] [] [] None ∷ n kind.When 2 18 8 10 [] ((codes "a") ∷ []) [] None ∷ n kind.When 2 26 11 13
    [] ((codes "b") ∷ []) [] None ∷ n kind.When 2 34 14 16 [] ((codes "b") ∷ []) [] None ∷ n kind.Except 2 11 5 17 (0
    ∷ 1 ∷ 2 ∷ 3 ∷ []) [] [] None ∷ n kind.Routine 1 1 0 19 (4 ∷ []) ((codes "start_up") ∷ (codes "start_up") ∷ [])
    (codes "proc") (Some 2) ∷ n kind.Module 1 1 0 19 (5 ∷ []) [] [] None ∷ n kind.File 1 1 0 19 (6 ∷ []) [] [] None ∷
    [])

name_in_the_third_arm : IsRefused name_in_the_third_arm_nodes rule.ArmTwice 2 34
unfolding checking
name_in_the_third_arm = refl

-- it = iter () yields (int) signal e end it
abbrev signal_in_an_iterator_nodes : List Node
signal_in_an_iterator_nodes =
    (n kind.Simple 1 22 7 7 [] [] (codes "int") (Some 7) ∷ n kind.Results 1 14 5 8 (0 ∷ []) [] (codes "yields") (Some
    5) ∷ n kind.Signal 1 27 9 10 [] ((codes "e") ∷ []) [] None ∷ n kind.Routine 1 1 0 12 (1 ∷ 2 ∷ []) ((codes "it") ∷
    (codes "it") ∷ []) (codes "iter") (Some 2) ∷ n kind.Module 1 1 0 12 (3 ∷ []) [] [] None ∷ n kind.File 1 1 0 12 (4
    ∷ []) [] [] None ∷ [])

signal_in_an_iterator : IsRefused signal_in_an_iterator_nodes rule.SignalNotListed 1 27
unfolding checking
signal_in_an_iterator = refl

-- start_up = proc ()
-- r: struct[a: int] := struct[a: int]${a: 1, a: 2}
-- end start_up
abbrev component_twice_nodes : List Node
component_twice_nodes =
    (n kind.Simple 2 14 11 11 [] [] (codes "int") (Some 11) ∷ n kind.FieldT 2 11 9 11 (0 ∷ []) ((codes "a") ∷ []) []
    None ∷ n kind.FieldsT 2 4 7 12 (1 ∷ []) [] (codes "struct") (Some 7) ∷ n kind.Simple 2 32 18 18 [] [] (codes
    "int") (Some 18) ∷ n kind.FieldT 2 29 16 18 (3 ∷ []) ((codes "a") ∷ []) [] None ∷ n kind.FieldsT 2 22 14 19 (4 ∷
    []) [] (codes "struct") (Some 14) ∷ n kind.Literal 2 41 24 24 [] [] (codes "1") (Some 24) ∷ n kind.FieldE 2 38 22
    24 (6 ∷ []) ((codes "a") ∷ []) [] None ∷ n kind.Literal 2 47 28 28 [] [] (codes "2") (Some 28) ∷ n kind.FieldE 2
    44 26 28 (8 ∷ []) ((codes "a") ∷ []) [] None ∷ n kind.Fields 2 22 14 29 (5 ∷ 7 ∷ 9 ∷ []) [] [] None ∷ n kind.Init
    2 1 5 29 (2 ∷ 10 ∷ []) ((codes "r") ∷ []) [] None ∷ n kind.Routine 1 1 0 31 (11 ∷ []) ((codes "start_up") ∷ (codes
    "start_up") ∷ []) (codes "proc") (Some 2) ∷ n kind.Module 1 1 0 31 (12 ∷ []) [] [] None ∷ n kind.File 1 1 0 31 (13
    ∷ []) [] [] None ∷ [])

component_twice : IsRefused component_twice_nodes rule.Selectors 2 44
unfolding checking
component_twice = refl

-- start_up = proc ()
-- r: sequence[int] := sequence[int]$[1: 2]
-- end start_up
abbrev low_bound_of_a_sequence_nodes : List Node
low_bound_of_a_sequence_nodes =
    (n kind.Simple 2 13 9 9 [] [] (codes "int") (Some 9) ∷ n kind.ListT 2 4 7 10 (0 ∷ []) [] (codes "sequence") (Some
    7) ∷ n kind.Simple 2 30 14 14 [] [] (codes "int") (Some 14) ∷ n kind.ListT 2 21 12 15 (2 ∷ []) [] (codes
    "sequence") (Some 12) ∷ n kind.Literal 2 36 18 18 [] [] (codes "1") (Some 18) ∷ n kind.Literal 2 39 20 20 [] []
    (codes "2") (Some 20) ∷ n kind.Elems 2 21 12 21 (3 ∷ 4 ∷ 5 ∷ []) [] (codes ":") (Some 19) ∷ n kind.Init 2 1 5 21
    (1 ∷ 6 ∷ []) ((codes "r") ∷ []) [] None ∷ n kind.Routine 1 1 0 23 (7 ∷ []) ((codes "start_up") ∷ (codes
    "start_up") ∷ []) (codes "proc") (Some 2) ∷ n kind.Module 1 1 0 23 (8 ∷ []) [] [] None ∷ n kind.File 1 1 0 23 (9 ∷
    []) [] [] None ∷ [])

low_bound_of_a_sequence : IsRefused low_bound_of_a_sequence_nodes rule.Selectors 2 21
unfolding checking
low_bound_of_a_sequence = refl

-- c = cluster is f rep = array[int] f = proc () end f end c p = proc () x: c := c$[1] end p
abbrev elements_of_an_abstract_type_nodes : List Node
elements_of_an_abstract_type_nodes =
    (n kind.Simple 1 30 9 9 [] [] (codes "int") (Some 9) ∷ n kind.ListT 1 24 7 10 (0 ∷ []) [] (codes "array") (Some 7)
    ∷ n kind.Equate 1 18 5 10 (1 ∷ []) [] (codes "rep") (Some 5) ∷ n kind.Routine 1 35 11 17 [] ((codes "f") ∷ (codes
    "f") ∷ []) (codes "proc") (Some 13) ∷ n kind.Cluster 1 1 0 19 (2 ∷ 3 ∷ []) ((codes "c") ∷ (codes "f") ∷ (codes
    "c") ∷ []) [] None ∷ n kind.Module 1 1 0 19 (4 ∷ []) [] [] None ∷ n kind.NameT 1 74 27 27 [] ((codes "c") ∷ []) []
    None ∷ n kind.NameT 1 79 29 29 [] ((codes "c") ∷ []) [] None ∷ n kind.Literal 1 82 32 32 [] [] (codes "1") (Some
    32) ∷ n kind.Elems 1 79 29 33 (7 ∷ 8 ∷ []) [] [] None ∷ n kind.Init 1 71 25 33 (6 ∷ 9 ∷ []) ((codes "x") ∷ []) []
    None ∷ n kind.Routine 1 59 20 35 (10 ∷ []) ((codes "p") ∷ (codes "p") ∷ []) (codes "proc") (Some 22) ∷ n
    kind.Module 1 59 20 35 (11 ∷ []) [] [] None ∷ n kind.File 1 1 0 35 (5 ∷ 12 ∷ []) [] [] None ∷ [])

elements_of_an_abstract_type : IsRefused elements_of_an_abstract_type_nodes rule.Selectors 1 79
unfolding checking
elements_of_an_abstract_type = refl

-- ts = {t | t has equal: proctype (t, t) returns (bool)}
-- c = cluster [t: type] is f where t in ts rep = null
-- f = proc () end f end c
-- p = proc (x: c[any]) end p
abbrev type_set_asked_of_a_cluster_nodes : List Node
type_set_asked_of_a_cluster_nodes =
    (n kind.NameT 1 34 11 11 [] ((codes "t") ∷ []) [] None ∷ n kind.NameT 1 37 13 13 [] ((codes "t") ∷ []) [] None ∷ n
    kind.Simple 1 49 17 17 [] [] (codes "bool") (Some 17) ∷ n kind.Results 1 40 15 18 (2 ∷ []) [] (codes "returns")
    (Some 15) ∷ n kind.RoutineT 1 24 9 18 (0 ∷ 1 ∷ 3 ∷ []) [] (codes "proctype") (Some 9) ∷ n kind.Oper 1 17 7 18 (4 ∷
    []) ((codes "equal") ∷ []) [] None ∷ n kind.TypeSet 1 6 2 19 (5 ∷ []) ((codes "t") ∷ (codes "t") ∷ []) [] None ∷ n
    kind.Equate 1 1 0 19 (6 ∷ []) ((codes "ts") ∷ []) [] None ∷ n kind.Parm 2 14 24 26 [] ((codes "t") ∷ []) (codes
    "type") (Some 26) ∷ n kind.Restrict 2 34 31 33 [] ((codes "t") ∷ (codes "ts") ∷ []) (codes "in") (Some 32) ∷ n
    kind.Where 2 28 30 33 (9 ∷ []) [] [] None ∷ n kind.Simple 2 48 36 36 [] [] (codes "null") (Some 36) ∷ n
    kind.Equate 2 42 34 36 (11 ∷ []) [] (codes "rep") (Some 34) ∷ n kind.Routine 3 1 37 43 [] ((codes "f") ∷ (codes
    "f") ∷ []) (codes "proc") (Some 39) ∷ n kind.Cluster 2 1 20 45 (8 ∷ 10 ∷ 12 ∷ 13 ∷ []) ((codes "c") ∷ (codes "f")
    ∷ (codes "c") ∷ []) [] None ∷ n kind.Module 1 1 0 45 (7 ∷ 14 ∷ []) [] [] None ∷ n kind.Simple 4 16 54 54 [] []
    (codes "any") (Some 54) ∷ n kind.NameT 4 14 52 55 (16 ∷ []) ((codes "c") ∷ []) [] None ∷ n kind.Decl 4 11 50 55
    (17 ∷ []) ((codes "x") ∷ []) [] None ∷ n kind.Routine 4 1 46 58 (18 ∷ []) ((codes "p") ∷ (codes "p") ∷ []) (codes
    "proc") (Some 48) ∷ n kind.Module 4 1 46 58 (19 ∷ []) [] [] None ∷ n kind.File 1 1 0 58 (15 ∷ 20 ∷ []) [] [] None
    ∷ [])

type_set_asked_of_a_cluster : IsRefused type_set_asked_of_a_cluster_nodes rule.NotInTypeSet 4 14
unfolding checking
type_set_asked_of_a_cluster = refl

-- ts = {t | t has equal: proctype (t, t) returns (bool)}
-- p = proc [t: type] (x: t) where t in ts end p
-- q = proc [t: type] (x: t) p[t](x) end q
abbrev type_set_asked_of_a_parameter_nodes : List Node
type_set_asked_of_a_parameter_nodes =
    (n kind.NameT 1 34 11 11 [] ((codes "t") ∷ []) [] None ∷ n kind.NameT 1 37 13 13 [] ((codes "t") ∷ []) [] None ∷ n
    kind.Simple 1 49 17 17 [] [] (codes "bool") (Some 17) ∷ n kind.Results 1 40 15 18 (2 ∷ []) [] (codes "returns")
    (Some 15) ∷ n kind.RoutineT 1 24 9 18 (0 ∷ 1 ∷ 3 ∷ []) [] (codes "proctype") (Some 9) ∷ n kind.Oper 1 17 7 18 (4 ∷
    []) ((codes "equal") ∷ []) [] None ∷ n kind.TypeSet 1 6 2 19 (5 ∷ []) ((codes "t") ∷ (codes "t") ∷ []) [] None ∷ n
    kind.Equate 1 1 0 19 (6 ∷ []) ((codes "ts") ∷ []) [] None ∷ n kind.Parm 2 11 24 26 [] ((codes "t") ∷ []) (codes
    "type") (Some 26) ∷ n kind.NameT 2 24 31 31 [] ((codes "t") ∷ []) [] None ∷ n kind.Decl 2 21 29 31 (9 ∷ [])
    ((codes "x") ∷ []) [] None ∷ n kind.Restrict 2 33 34 36 [] ((codes "t") ∷ (codes "ts") ∷ []) (codes "in") (Some
    35) ∷ n kind.Where 2 27 33 36 (11 ∷ []) [] [] None ∷ n kind.Routine 2 1 20 38 (8 ∷ 10 ∷ 12 ∷ []) ((codes "p") ∷
    (codes "p") ∷ []) (codes "proc") (Some 22) ∷ n kind.Module 1 1 0 38 (7 ∷ 13 ∷ []) [] [] None ∷ n kind.Parm 3 11 43
    45 [] ((codes "t") ∷ []) (codes "type") (Some 45) ∷ n kind.NameT 3 24 50 50 [] ((codes "t") ∷ []) [] None ∷ n
    kind.Decl 3 21 48 50 (16 ∷ []) ((codes "x") ∷ []) [] None ∷ n kind.Name 3 27 52 52 [] ((codes "p") ∷ []) [] None ∷
    n kind.Name 3 29 54 54 [] ((codes "t") ∷ []) [] None ∷ n kind.Index 3 28 52 55 (18 ∷ 19 ∷ []) [] [] None ∷ n
    kind.Name 3 32 57 57 [] ((codes "x") ∷ []) [] None ∷ n kind.Call 3 31 52 58 (20 ∷ 21 ∷ []) [] [] None ∷ n
    kind.CallS 3 27 52 58 (22 ∷ []) [] [] None ∷ n kind.Routine 3 1 39 60 (15 ∷ 17 ∷ 23 ∷ []) ((codes "q") ∷ (codes
    "q") ∷ []) (codes "proc") (Some 41) ∷ n kind.Module 3 1 39 60 (24 ∷ []) [] [] None ∷ n kind.File 1 1 0 60 (14 ∷ 25
    ∷ []) [] [] None ∷ [])

type_set_asked_of_a_parameter : IsRefused type_set_asked_of_a_parameter_nodes rule.NotInTypeSet 3 28
unfolding checking
type_set_asked_of_a_parameter = refl

-- start_up = proc ()
-- x: int := int$from_to(1, 2)
-- end start_up
abbrev iterator_as_an_expression_nodes : List Node
iterator_as_an_expression_nodes =
    (n kind.Simple 2 4 7 7 [] [] (codes "int") (Some 7) ∷ n kind.Simple 2 11 9 9 [] [] (codes "int") (Some 9) ∷ n
    kind.OperOf 2 11 9 11 (1 ∷ []) ((codes "from_to") ∷ []) [] None ∷ n kind.Literal 2 23 13 13 [] [] (codes "1")
    (Some 13) ∷ n kind.Literal 2 26 15 15 [] [] (codes "2") (Some 15) ∷ n kind.Call 2 22 9 16 (2 ∷ 3 ∷ 4 ∷ []) [] []
    None ∷ n kind.Init 2 1 5 16 (0 ∷ 5 ∷ []) ((codes "x") ∷ []) [] None ∷ n kind.Routine 1 1 0 18 (6 ∷ []) ((codes
    "start_up") ∷ (codes "start_up") ∷ []) (codes "proc") (Some 2) ∷ n kind.Module 1 1 0 18 (7 ∷ []) [] [] None ∷ n
    kind.File 1 1 0 18 (8 ∷ []) [] [] None ∷ [])

iterator_as_an_expression : IsRefused iterator_as_an_expression_nodes rule.IteratorUse 2 22
unfolding checking
iterator_as_an_expression = refl

-- it = iter () yield end it p = proc () it() end p
abbrev iterator_as_a_statement_nodes : List Node
iterator_as_a_statement_nodes =
    (n kind.Yield 1 14 5 5 [] [] [] None ∷ n kind.Routine 1 1 0 7 (0 ∷ []) ((codes "it") ∷ (codes "it") ∷ []) (codes
    "iter") (Some 2) ∷ n kind.Module 1 1 0 7 (1 ∷ []) [] [] None ∷ n kind.Name 1 39 13 13 [] ((codes "it") ∷ []) []
    None ∷ n kind.Call 1 41 13 15 (3 ∷ []) [] [] None ∷ n kind.CallS 1 39 13 15 (4 ∷ []) [] [] None ∷ n kind.Routine 1
    27 8 17 (5 ∷ []) ((codes "p") ∷ (codes "p") ∷ []) (codes "proc") (Some 10) ∷ n kind.Module 1 27 8 17 (6 ∷ []) []
    [] None ∷ n kind.File 1 1 0 17 (2 ∷ 7 ∷ []) [] [] None ∷ [])

iterator_as_a_statement : IsRefused iterator_as_a_statement_nodes rule.IteratorUse 1 41
unfolding checking
iterator_as_a_statement = refl

-- start_up = proc ()
-- x: int
-- if 1 then x := 1 elseif 2 then end
-- end start_up
abbrev conditions_after_their_bodies_nodes : List Node
conditions_after_their_bodies_nodes =
    (n kind.Simple 2 4 7 7 [] [] (codes "int") (Some 7) ∷ n kind.Decl 2 1 5 7 (0 ∷ []) ((codes "x") ∷ []) [] None ∷ n
    kind.Declare 2 1 5 7 (1 ∷ []) [] [] None ∷ n kind.Literal 3 4 9 9 [] [] (codes "1") (Some 9) ∷ n kind.Literal 3 16
    13 13 [] [] (codes "1") (Some 13) ∷ n kind.Assign 3 11 11 13 (4 ∷ []) ((codes "x") ∷ []) [] None ∷ n kind.Literal
    3 25 15 15 [] [] (codes "2") (Some 15) ∷ n kind.If 3 1 8 17 (3 ∷ 5 ∷ 6 ∷ []) [] [] None ∷ n kind.Routine 1 1 0 19
    (2 ∷ 7 ∷ []) ((codes "start_up") ∷ (codes "start_up") ∷ []) (codes "proc") (Some 2) ∷ n kind.Module 1 1 0 19 (8 ∷
    []) [] [] None ∷ n kind.File 1 1 0 19 (9 ∷ []) [] [] None ∷ [])

conditions_after_their_bodies : IsRefused conditions_after_their_bodies_nodes rule.NotBool 3 1
unfolding checking
conditions_after_their_bodies = refl

-- start_up = proc ()
-- x: int := array[int]$[1][1, 2]
-- end start_up
abbrev two_indexes_nodes : List Node
two_indexes_nodes =
    (n kind.Simple 2 4 7 7 [] [] (codes "int") (Some 7) ∷ n kind.Simple 2 17 11 11 [] [] (codes "int") (Some 11) ∷ n
    kind.ListT 2 11 9 12 (1 ∷ []) [] (codes "array") (Some 9) ∷ n kind.Literal 2 23 15 15 [] [] (codes "1") (Some 15)
    ∷ n kind.Elems 2 11 9 16 (2 ∷ 3 ∷ []) [] [] None ∷ n kind.Literal 2 26 18 18 [] [] (codes "1") (Some 18) ∷ n
    kind.Literal 2 29 20 20 [] [] (codes "2") (Some 20) ∷ n kind.Index 2 25 9 21 (4 ∷ 5 ∷ 6 ∷ []) [] [] None ∷ n
    kind.Init 2 1 5 21 (0 ∷ 7 ∷ []) ((codes "x") ∷ []) [] None ∷ n kind.Routine 1 1 0 23 (8 ∷ []) ((codes "start_up")
    ∷ (codes "start_up") ∷ []) (codes "proc") (Some 2) ∷ n kind.Module 1 1 0 23 (9 ∷ []) [] [] None ∷ n kind.File 1 1
    0 23 (10 ∷ []) [] [] None ∷ [])

two_indexes : IsRefused two_indexes_nodes rule.ArgumentCount 2 25
unfolding checking
two_indexes = refl

-- start_up = proc ()
-- x: int := int$add("a")
-- end start_up
abbrev number_of_arguments_before_their_types_nodes : List Node
number_of_arguments_before_their_types_nodes =
    (n kind.Simple 2 4 7 7 [] [] (codes "int") (Some 7) ∷ n kind.Simple 2 11 9 9 [] [] (codes "int") (Some 9) ∷ n
    kind.OperOf 2 11 9 11 (1 ∷ []) ((codes "add") ∷ []) [] None ∷ n kind.Literal 2 19 13 13 [] [] (34 ∷ 97 ∷ 34 ∷ [])
    (Some 13) ∷ n kind.Call 2 18 9 14 (2 ∷ 3 ∷ []) [] [] None ∷ n kind.Init 2 1 5 14 (0 ∷ 4 ∷ []) ((codes "x") ∷ [])
    [] None ∷ n kind.Routine 1 1 0 16 (5 ∷ []) ((codes "start_up") ∷ (codes "start_up") ∷ []) (codes "proc") (Some 2)
    ∷ n kind.Module 1 1 0 16 (6 ∷ []) [] [] None ∷ n kind.File 1 1 0 16 (7 ∷ []) [] [] None ∷ [])

number_of_arguments_before_their_types : IsRefused number_of_arguments_before_their_types_nodes rule.ArgumentCount 2 18
unfolding checking
number_of_arguments_before_their_types = refl

-- c = cluster is f rep = null f = proc (x: cvt) f(x) end f end c
abbrev representation_given_to_a_routine_of_the_cluster_nodes : List Node
representation_given_to_a_routine_of_the_cluster_nodes =
    (n kind.Simple 1 24 7 7 [] [] (codes "null") (Some 7) ∷ n kind.Equate 1 18 5 7 (0 ∷ []) [] (codes "rep") (Some 5)
    ∷ n kind.Simple 1 42 14 14 [] [] (codes "cvt") (Some 14) ∷ n kind.Decl 1 39 12 14 (2 ∷ []) ((codes "x") ∷ []) []
    None ∷ n kind.Name 1 47 16 16 [] ((codes "f") ∷ []) [] None ∷ n kind.Name 1 49 18 18 [] ((codes "x") ∷ []) [] None
    ∷ n kind.Call 1 48 16 19 (4 ∷ 5 ∷ []) [] [] None ∷ n kind.CallS 1 47 16 19 (6 ∷ []) [] [] None ∷ n kind.Routine 1
    29 8 21 (3 ∷ 7 ∷ []) ((codes "f") ∷ (codes "f") ∷ []) (codes "proc") (Some 10) ∷ n kind.Cluster 1 1 0 23 (1 ∷ 8 ∷
    []) ((codes "c") ∷ (codes "f") ∷ (codes "c") ∷ []) [] None ∷ n kind.Module 1 1 0 23 (9 ∷ []) [] [] None ∷ n
    kind.File 1 1 0 23 (10 ∷ []) [] [] None ∷ [])

representation_given_to_a_routine_of_the_cluster : IsRefused representation_given_to_a_routine_of_the_cluster_nodes rule.ArgumentType 1 48
unfolding checking
representation_given_to_a_routine_of_the_cluster = refl

-- start_up = proc ()
-- x: bool := 1 cand (2 = "a")
-- end start_up
abbrev operand_of_cand_before_cand_nodes : List Node
operand_of_cand_before_cand_nodes =
    (n kind.Simple 2 4 7 7 [] [] (codes "bool") (Some 7) ∷ n kind.Literal 2 12 9 9 [] [] (codes "1") (Some 9) ∷ n
    kind.Literal 2 20 12 12 [] [] (codes "2") (Some 12) ∷ n kind.Literal 2 24 14 14 [] [] (34 ∷ 97 ∷ 34 ∷ []) (Some
    14) ∷ n kind.Infix 2 22 12 14 (2 ∷ 3 ∷ []) [] (codes "=") (Some 13) ∷ n kind.Paren 2 19 11 15 (4 ∷ []) [] [] None
    ∷ n kind.Infix 2 14 9 15 (1 ∷ 5 ∷ []) [] (codes "cand") (Some 10) ∷ n kind.Init 2 1 5 15 (0 ∷ 6 ∷ []) ((codes "x")
    ∷ []) [] None ∷ n kind.Routine 1 1 0 17 (7 ∷ []) ((codes "start_up") ∷ (codes "start_up") ∷ []) (codes "proc")
    (Some 2) ∷ n kind.Module 1 1 0 17 (8 ∷ []) [] [] None ∷ n kind.File 1 1 0 17 (9 ∷ []) [] [] None ∷ [])

operand_of_cand_before_cand : IsRefused operand_of_cand_before_cand_nodes rule.ArgumentType 2 22
unfolding checking
operand_of_cand_before_cand = refl

-- start_up = proc ()
-- o: oneof[a: int, b: string]
-- tagcase o tag a, b (v: int): end
-- end start_up
abbrev one_variable_for_two_tags_nodes : List Node
one_variable_for_two_tags_nodes =
    (n kind.Simple 2 13 11 11 [] [] (codes "int") (Some 11) ∷ n kind.FieldT 2 10 9 11 (0 ∷ []) ((codes "a") ∷ []) []
    None ∷ n kind.Simple 2 21 15 15 [] [] (codes "string") (Some 15) ∷ n kind.FieldT 2 18 13 15 (2 ∷ []) ((codes "b")
    ∷ []) [] None ∷ n kind.FieldsT 2 4 7 16 (1 ∷ 3 ∷ []) [] (codes "oneof") (Some 7) ∷ n kind.Decl 2 1 5 16 (4 ∷ [])
    ((codes "o") ∷ []) [] None ∷ n kind.Declare 2 1 5 16 (5 ∷ []) [] [] None ∷ n kind.Name 3 9 18 18 [] ((codes "o") ∷
    []) [] None ∷ n kind.Simple 3 24 26 26 [] [] (codes "int") (Some 26) ∷ n kind.TagArm 3 11 19 28 (8 ∷ []) ((codes
    "a") ∷ (codes "b") ∷ (codes "v") ∷ []) [] None ∷ n kind.Tagcase 3 1 17 29 (7 ∷ 9 ∷ []) [] [] None ∷ n kind.Routine
    1 1 0 31 (6 ∷ 10 ∷ []) ((codes "start_up") ∷ (codes "start_up") ∷ []) (codes "proc") (Some 2) ∷ n kind.Module 1 1
    0 31 (11 ∷ []) [] [] None ∷ n kind.File 1 1 0 31 (12 ∷ []) [] [] None ∷ [])

one_variable_for_two_tags : IsRefused one_variable_for_two_tags_nodes rule.AssignType 3 11
unfolding checking
one_variable_for_two_tags = refl

-- start_up = proc ()
-- tagcase oneof[a, b: int]$make_a(1) tag a: tag c: end
-- end start_up
abbrev foreign_tag_before_a_missing_one_nodes : List Node
foreign_tag_before_a_missing_one_nodes =
    (n kind.Simple 2 21 12 12 [] [] (codes "int") (Some 12) ∷ n kind.FieldT 2 15 8 12 (0 ∷ []) ((codes "a") ∷ (codes
    "b") ∷ []) [] None ∷ n kind.FieldsT 2 9 6 13 (1 ∷ []) [] (codes "oneof") (Some 6) ∷ n kind.OperOf 2 9 6 15 (2 ∷
    []) ((codes "make_a") ∷ []) [] None ∷ n kind.Literal 2 33 17 17 [] [] (codes "1") (Some 17) ∷ n kind.Call 2 32 6
    18 (3 ∷ 4 ∷ []) [] [] None ∷ n kind.TagArm 2 36 19 21 [] ((codes "a") ∷ []) [] None ∷ n kind.TagArm 2 43 22 24 []
    ((codes "c") ∷ []) [] None ∷ n kind.Tagcase 2 1 5 25 (5 ∷ 6 ∷ 7 ∷ []) [] [] None ∷ n kind.Routine 1 1 0 27 (8 ∷
    []) ((codes "start_up") ∷ (codes "start_up") ∷ []) (codes "proc") (Some 2) ∷ n kind.Module 1 1 0 27 (9 ∷ []) [] []
    None ∷ n kind.File 1 1 0 27 (10 ∷ []) [] [] None ∷ [])

foreign_tag_before_a_missing_one : IsRefused foreign_tag_before_a_missing_one_nodes rule.TagMissingOrTwice 2 43
unfolding checking
foreign_tag_before_a_missing_one = refl

-- p = proc () signals (e(int), f(string), g(int), h) end p
-- q = proc () signals (e(int)) begin p() resignal e end except when e: when f: end end q
abbrev arm_of_what_a_resignal_leaves_nodes : List Node
arm_of_what_a_resignal_leaves_nodes =
    (n kind.Simple 1 24 9 9 [] [] (codes "int") (Some 9) ∷ n kind.Exc 1 22 7 10 (0 ∷ []) ((codes "e") ∷ []) [] None ∷
    n kind.Simple 1 32 14 14 [] [] (codes "string") (Some 14) ∷ n kind.Exc 1 30 12 15 (2 ∷ []) ((codes "f") ∷ []) []
    None ∷ n kind.Simple 1 43 19 19 [] [] (codes "int") (Some 19) ∷ n kind.Exc 1 41 17 20 (4 ∷ []) ((codes "g") ∷ [])
    [] None ∷ n kind.Exc 1 49 22 22 [] ((codes "h") ∷ []) [] None ∷ n kind.Signals 1 13 5 23 (1 ∷ 3 ∷ 5 ∷ 6 ∷ []) []
    [] None ∷ n kind.Routine 1 1 0 25 (7 ∷ []) ((codes "p") ∷ (codes "p") ∷ []) (codes "proc") (Some 2) ∷ n
    kind.Module 1 1 0 25 (8 ∷ []) [] [] None ∷ n kind.Simple 2 24 35 35 [] [] (codes "int") (Some 35) ∷ n kind.Exc 2
    22 33 36 (10 ∷ []) ((codes "e") ∷ []) [] None ∷ n kind.Signals 2 13 31 37 (11 ∷ []) [] [] None ∷ n kind.Name 2 36
    39 39 [] ((codes "p") ∷ []) [] None ∷ n kind.Call 2 37 39 41 (13 ∷ []) [] [] None ∷ n kind.CallS 2 36 39 41 (14 ∷
    []) [] [] None ∷ n kind.Resignal 2 40 39 43 (15 ∷ []) ((codes "e") ∷ []) [] None ∷ n kind.Begin 2 30 38 44 (16 ∷
    []) [] [] None ∷ n kind.When 2 62 46 48 [] ((codes "e") ∷ []) [] None ∷ n kind.When 2 70 49 51 [] ((codes "f") ∷
    []) [] None ∷ n kind.Except 2 55 38 52 (17 ∷ 18 ∷ 19 ∷ []) [] [] None ∷ n kind.Routine 2 1 26 54 (12 ∷ 20 ∷ [])
    ((codes "q") ∷ (codes "q") ∷ []) (codes "proc") (Some 28) ∷ n kind.Module 2 1 26 54 (21 ∷ []) [] [] None ∷ n
    kind.File 1 1 0 54 (9 ∷ 22 ∷ []) [] [] None ∷ [])

arm_of_what_a_resignal_leaves : IsRefused arm_of_what_a_resignal_leaves_nodes rule.ArmTypes 2 70
unfolding checking
arm_of_what_a_resignal_leaves = refl

-- start_up = proc ()
-- begin begin exit e end except when e (n: int): end end except when e: end
-- end start_up
abbrev exit_to_the_innermost_arm_nodes : List Node
exit_to_the_innermost_arm_nodes =
    (n kind.Exit 2 13 7 8 [] ((codes "e") ∷ []) [] None ∷ n kind.Begin 2 7 6 9 (0 ∷ []) [] [] None ∷ n kind.Simple 2
    42 16 16 [] [] (codes "int") (Some 16) ∷ n kind.Decl 2 39 14 16 (2 ∷ []) ((codes "n") ∷ []) [] None ∷ n kind.When
    2 31 11 18 (3 ∷ []) ((codes "e") ∷ []) [] None ∷ n kind.Except 2 24 6 19 (1 ∷ 4 ∷ []) [] [] None ∷ n kind.Begin 2
    1 5 20 (5 ∷ []) [] [] None ∷ n kind.When 2 63 22 24 [] ((codes "e") ∷ []) [] None ∷ n kind.Except 2 56 5 25 (6 ∷ 7
    ∷ []) [] [] None ∷ n kind.Routine 1 1 0 27 (8 ∷ []) ((codes "start_up") ∷ (codes "start_up") ∷ []) (codes "proc")
    (Some 2) ∷ n kind.Module 1 1 0 27 (9 ∷ []) [] [] None ∷ n kind.File 1 1 0 27 (10 ∷ []) [] [] None ∷ [])

exit_to_the_innermost_arm : IsRefused exit_to_the_innermost_arm_nodes rule.SignalTypes 2 13
unfolding checking
exit_to_the_innermost_arm = refl

-- start_up = proc ()
-- begin end except when f: when e: exit f end
-- end start_up
abbrev exit_to_an_earlier_arm_nodes : List Node
exit_to_an_earlier_arm_nodes =
    (n kind.Begin 2 1 5 6 [] [] [] None ∷ n kind.When 2 18 8 10 [] ((codes "f") ∷ []) [] None ∷ n kind.Exit 2 34 14 15
    [] ((codes "f") ∷ []) [] None ∷ n kind.When 2 26 11 15 (2 ∷ []) ((codes "e") ∷ []) [] None ∷ n kind.Except 2 11 5
    16 (0 ∷ 1 ∷ 3 ∷ []) [] [] None ∷ n kind.Routine 1 1 0 18 (4 ∷ []) ((codes "start_up") ∷ (codes "start_up") ∷ [])
    (codes "proc") (Some 2) ∷ n kind.Module 1 1 0 18 (5 ∷ []) [] [] None ∷ n kind.File 1 1 0 18 (6 ∷ []) [] [] None ∷
    [])

exit_to_an_earlier_arm : IsRefused exit_to_an_earlier_arm_nodes rule.ExitNoArm 2 34
unfolding checking
exit_to_an_earlier_arm = refl

-- start_up = proc ()
-- while true do end except when e: break end
-- end start_up
abbrev break_in_an_arm_behind_a_loop_nodes : List Node
break_in_an_arm_behind_a_loop_nodes =
    (n kind.Literal 2 7 6 6 [] [] (codes "true") (Some 6) ∷ n kind.While 2 1 5 8 (0 ∷ []) [] [] None ∷ n kind.Break 2
    34 13 13 [] [] [] None ∷ n kind.When 2 26 10 13 (2 ∷ []) ((codes "e") ∷ []) [] None ∷ n kind.Except 2 19 5 14 (1 ∷
    3 ∷ []) [] [] None ∷ n kind.Routine 1 1 0 16 (4 ∷ []) ((codes "start_up") ∷ (codes "start_up") ∷ []) (codes
    "proc") (Some 2) ∷ n kind.Module 1 1 0 16 (5 ∷ []) [] [] None ∷ n kind.File 1 1 0 16 (6 ∷ []) [] [] None ∷ [])

break_in_an_arm_behind_a_loop : IsRefused break_in_an_arm_behind_a_loop_nodes rule.NotInLoop 2 34
unfolding checking
break_in_an_arm_behind_a_loop = refl

-- c = cluster is f rep = int f = proc (x: c) y: c := up(x) end f end c
abbrev up_of_an_abstract_object_nodes : List Node
up_of_an_abstract_object_nodes =
    (n kind.Simple 1 24 7 7 [] [] (codes "int") (Some 7) ∷ n kind.Equate 1 18 5 7 (0 ∷ []) [] (codes "rep") (Some 5) ∷
    n kind.NameT 1 41 14 14 [] ((codes "c") ∷ []) [] None ∷ n kind.Decl 1 38 12 14 (2 ∷ []) ((codes "x") ∷ []) [] None
    ∷ n kind.NameT 1 47 18 18 [] ((codes "c") ∷ []) [] None ∷ n kind.Name 1 55 22 22 [] ((codes "x") ∷ []) [] None ∷ n
    kind.Up 1 52 20 23 (5 ∷ []) [] [] None ∷ n kind.Init 1 44 16 23 (4 ∷ 6 ∷ []) ((codes "y") ∷ []) [] None ∷ n
    kind.Routine 1 28 8 25 (3 ∷ 7 ∷ []) ((codes "f") ∷ (codes "f") ∷ []) (codes "proc") (Some 10) ∷ n kind.Cluster 1 1
    0 27 (1 ∷ 8 ∷ []) ((codes "c") ∷ (codes "f") ∷ (codes "c") ∷ []) [] None ∷ n kind.Module 1 1 0 27 (9 ∷ []) [] []
    None ∷ n kind.File 1 1 0 27 (10 ∷ []) [] [] None ∷ [])

up_of_an_abstract_object : IsRefused up_of_an_abstract_object_nodes rule.UpDown 1 52
unfolding checking
up_of_an_abstract_object = refl

-- p = proc () break end q
-- c = cluster is g rep = null rep = null f = proc () zork() end f end d
abbrev export_before_all_else_nodes : List Node
export_before_all_else_nodes =
    (n kind.Break 1 13 5 5 [] [] [] None ∷ n kind.Routine 1 1 0 7 (0 ∷ []) ((codes "p") ∷ (codes "q") ∷ []) (codes
    "proc") (Some 2) ∷ n kind.Module 1 1 0 7 (1 ∷ []) [] [] None ∷ n kind.Simple 2 24 15 15 [] [] (codes "null") (Some
    15) ∷ n kind.Equate 2 18 13 15 (3 ∷ []) [] (codes "rep") (Some 13) ∷ n kind.Simple 2 35 18 18 [] [] (codes "null")
    (Some 18) ∷ n kind.Equate 2 29 16 18 (5 ∷ []) [] (codes "rep") (Some 16) ∷ n kind.Name 2 52 24 24 [] ((codes
    "zork") ∷ []) [] None ∷ n kind.Call 2 56 24 26 (7 ∷ []) [] [] None ∷ n kind.CallS 2 52 24 26 (8 ∷ []) [] [] None ∷
    n kind.Routine 2 40 19 28 (9 ∷ []) ((codes "f") ∷ (codes "f") ∷ []) (codes "proc") (Some 21) ∷ n kind.Cluster 2 1
    8 30 (4 ∷ 6 ∷ 10 ∷ []) ((codes "c") ∷ (codes "g") ∷ (codes "d") ∷ []) [] None ∷ n kind.Module 2 1 8 30 (11 ∷ [])
    [] [] None ∷ n kind.File 1 1 0 30 (2 ∷ 12 ∷ []) [] [] None ∷ [])

export_before_all_else : IsRefused export_before_all_else_nodes rule.ExportMissing 2 1
unfolding checking
export_before_all_else = refl

-- start_up = proc ()
-- x: int := int$zork(y)
-- end start_up
abbrev operation_before_its_arguments_nodes : List Node
operation_before_its_arguments_nodes =
    (n kind.Simple 2 4 7 7 [] [] (codes "int") (Some 7) ∷ n kind.Simple 2 11 9 9 [] [] (codes "int") (Some 9) ∷ n
    kind.OperOf 2 11 9 11 (1 ∷ []) ((codes "zork") ∷ []) [] None ∷ n kind.Name 2 20 13 13 [] ((codes "y") ∷ []) []
    None ∷ n kind.Call 2 19 9 14 (2 ∷ 3 ∷ []) [] [] None ∷ n kind.Init 2 1 5 14 (0 ∷ 4 ∷ []) ((codes "x") ∷ []) []
    None ∷ n kind.Routine 1 1 0 16 (5 ∷ []) ((codes "start_up") ∷ (codes "start_up") ∷ []) (codes "proc") (Some 2) ∷ n
    kind.Module 1 1 0 16 (6 ∷ []) [] [] None ∷ n kind.File 1 1 0 16 (7 ∷ []) [] [] None ∷ [])

operation_before_its_arguments : IsRefused operation_before_its_arguments_nodes rule.NoOperation 2 11
unfolding checking
operation_before_its_arguments = refl

-- c = cluster is equal rep = null
-- equal = proc (x, y: cvt) returns (bool) signals (e) return (true) end equal end c
-- p = proc (x, y: array[c]) b: bool := array[c]$similar1(x, y) end p
abbrev operation_with_more_signals_nodes : List Node
operation_with_more_signals_nodes =
    (n kind.Simple 1 28 7 7 [] [] (codes "null") (Some 7) ∷ n kind.Equate 1 22 5 7 (0 ∷ []) [] (codes "rep") (Some 5)
    ∷ n kind.Simple 2 21 16 16 [] [] (codes "cvt") (Some 16) ∷ n kind.Decl 2 15 12 16 (2 ∷ []) ((codes "x") ∷ (codes
    "y") ∷ []) [] None ∷ n kind.Simple 2 35 20 20 [] [] (codes "bool") (Some 20) ∷ n kind.Results 2 26 18 21 (4 ∷ [])
    [] (codes "returns") (Some 18) ∷ n kind.Exc 2 50 24 24 [] ((codes "e") ∷ []) [] None ∷ n kind.Signals 2 41 22 25
    (6 ∷ []) [] [] None ∷ n kind.Literal 2 61 28 28 [] [] (codes "true") (Some 28) ∷ n kind.Return 2 53 26 29 (8 ∷ [])
    [] [] None ∷ n kind.Routine 2 1 8 31 (3 ∷ 5 ∷ 7 ∷ 9 ∷ []) ((codes "equal") ∷ (codes "equal") ∷ []) (codes "proc")
    (Some 10) ∷ n kind.Cluster 1 1 0 33 (1 ∷ 10 ∷ []) ((codes "c") ∷ (codes "equal") ∷ (codes "c") ∷ []) [] None ∷ n
    kind.Module 1 1 0 33 (11 ∷ []) [] [] None ∷ n kind.NameT 3 23 44 44 [] ((codes "c") ∷ []) [] None ∷ n kind.ListT 3
    17 42 45 (13 ∷ []) [] (codes "array") (Some 42) ∷ n kind.Decl 3 11 38 45 (14 ∷ []) ((codes "x") ∷ (codes "y") ∷
    []) [] None ∷ n kind.Simple 3 30 49 49 [] [] (codes "bool") (Some 49) ∷ n kind.NameT 3 44 53 53 [] ((codes "c") ∷
    []) [] None ∷ n kind.ListT 3 38 51 54 (17 ∷ []) [] (codes "array") (Some 51) ∷ n kind.OperOf 3 38 51 56 (18 ∷ [])
    ((codes "similar1") ∷ []) [] None ∷ n kind.Name 3 56 58 58 [] ((codes "x") ∷ []) [] None ∷ n kind.Name 3 59 60 60
    [] ((codes "y") ∷ []) [] None ∷ n kind.Call 3 55 51 61 (19 ∷ 20 ∷ 21 ∷ []) [] [] None ∷ n kind.Init 3 27 47 61 (16
    ∷ 22 ∷ []) ((codes "b") ∷ []) [] None ∷ n kind.Routine 3 1 34 63 (15 ∷ 23 ∷ []) ((codes "p") ∷ (codes "p") ∷ [])
    (codes "proc") (Some 36) ∷ n kind.Module 3 1 34 63 (24 ∷ []) [] [] None ∷ n kind.File 1 1 0 63 (12 ∷ 25 ∷ []) []
    [] None ∷ [])

operation_with_more_signals : IsRefused operation_with_more_signals_nodes rule.WhereNotMet 3 38
unfolding checking
operation_with_more_signals = refl

-- start_up = proc ()
-- x = "abc"[1]
-- end start_up
abbrev index_of_a_literal_as_a_constant_nodes : List Node
index_of_a_literal_as_a_constant_nodes =
    (n kind.Literal 2 5 7 7 [] [] (34 ∷ 97 ∷ 98 ∷ 99 ∷ 34 ∷ []) (Some 7) ∷ n kind.Literal 2 11 9 9 [] [] (codes "1")
    (Some 9) ∷ n kind.Index 2 10 7 10 (0 ∷ 1 ∷ []) [] [] None ∷ n kind.Equate 2 1 5 10 (2 ∷ []) ((codes "x") ∷ []) []
    None ∷ n kind.Routine 1 1 0 12 (3 ∷ []) ((codes "start_up") ∷ (codes "start_up") ∷ []) (codes "proc") (Some 2) ∷ n
    kind.Module 1 1 0 12 (4 ∷ []) [] [] None ∷ n kind.File 1 1 0 12 (5 ∷ []) [] [] None ∷ [])

index_of_a_literal_as_a_constant : IsRefused index_of_a_literal_as_a_constant_nodes rule.NotConstant 2 10
unfolding checking
index_of_a_literal_as_a_constant = refl

-- start_up = proc ()
-- x = 2 ** 62
-- y = (-2) ** 63
-- z = 0 ** 0
-- end start_up
abbrev powers_that_are_constants_nodes : List Node
powers_that_are_constants_nodes =
    (n kind.Literal 2 5 7 7 [] [] (codes "2") (Some 7) ∷ n kind.Literal 2 10 9 9 [] [] (codes "62") (Some 9) ∷ n
    kind.Infix 2 7 7 9 (0 ∷ 1 ∷ []) [] (codes "**") (Some 8) ∷ n kind.Equate 2 1 5 9 (2 ∷ []) ((codes "x") ∷ []) []
    None ∷ n kind.Literal 3 7 14 14 [] [] (codes "2") (Some 14) ∷ n kind.Prefix 3 6 13 14 (4 ∷ []) [] (codes "-")
    (Some 13) ∷ n kind.Paren 3 5 12 15 (5 ∷ []) [] [] None ∷ n kind.Literal 3 13 17 17 [] [] (codes "63") (Some 17) ∷
    n kind.Infix 3 10 12 17 (6 ∷ 7 ∷ []) [] (codes "**") (Some 16) ∷ n kind.Equate 3 1 10 17 (8 ∷ []) ((codes "y") ∷
    []) [] None ∷ n kind.Literal 4 5 20 20 [] [] (codes "0") (Some 20) ∷ n kind.Literal 4 10 22 22 [] [] (codes "0")
    (Some 22) ∷ n kind.Infix 4 7 20 22 (10 ∷ 11 ∷ []) [] (codes "**") (Some 21) ∷ n kind.Equate 4 1 18 22 (12 ∷ [])
    ((codes "z") ∷ []) [] None ∷ n kind.Routine 1 1 0 24 (3 ∷ 9 ∷ 13 ∷ []) ((codes "start_up") ∷ (codes "start_up") ∷
    []) (codes "proc") (Some 2) ∷ n kind.Module 1 1 0 24 (14 ∷ []) [] [] None ∷ n kind.File 1 1 0 24 (15 ∷ []) [] []
    None ∷ [])

powers_that_are_constants : IsFine powers_that_are_constants_nodes
unfolding checking
powers_that_are_constants = refl

-- c = cluster [t: type] is f rep = null
-- f = proc () where t in {u | u has lt: proctype (u, u) returns (bool)} end f end c
-- p = proc () c[char]$f() end p
abbrev type_set_of_a_routine_of_a_cluster_nodes : List Node
type_set_of_a_routine_of_a_cluster_nodes =
    (n kind.Parm 1 14 4 6 [] ((codes "t") ∷ []) (codes "type") (Some 6) ∷ n kind.Simple 1 34 12 12 [] [] (codes
    "null") (Some 12) ∷ n kind.Equate 1 28 10 12 (1 ∷ []) [] (codes "rep") (Some 10) ∷ n kind.NameT 2 49 30 30 []
    ((codes "u") ∷ []) [] None ∷ n kind.NameT 2 52 32 32 [] ((codes "u") ∷ []) [] None ∷ n kind.Simple 2 64 36 36 []
    [] (codes "bool") (Some 36) ∷ n kind.Results 2 55 34 37 (5 ∷ []) [] (codes "returns") (Some 34) ∷ n kind.RoutineT
    2 39 28 37 (3 ∷ 4 ∷ 6 ∷ []) [] (codes "proctype") (Some 28) ∷ n kind.Oper 2 35 26 37 (7 ∷ []) ((codes "lt") ∷ [])
    [] None ∷ n kind.TypeSet 2 24 21 38 (8 ∷ []) ((codes "u") ∷ (codes "u") ∷ []) [] None ∷ n kind.Restrict 2 19 19 38
    (9 ∷ []) ((codes "t") ∷ []) (codes "in") (Some 20) ∷ n kind.Where 2 13 18 38 (10 ∷ []) [] [] None ∷ n kind.Routine
    2 1 13 40 (11 ∷ []) ((codes "f") ∷ (codes "f") ∷ []) (codes "proc") (Some 15) ∷ n kind.Cluster 1 1 0 42 (0 ∷ 2 ∷
    12 ∷ []) ((codes "c") ∷ (codes "f") ∷ (codes "c") ∷ []) [] None ∷ n kind.Module 1 1 0 42 (13 ∷ []) [] [] None ∷ n
    kind.Simple 3 15 50 50 [] [] (codes "char") (Some 50) ∷ n kind.NameT 3 13 48 51 (15 ∷ []) ((codes "c") ∷ []) []
    None ∷ n kind.OperOf 3 13 48 53 (16 ∷ []) ((codes "f") ∷ []) [] None ∷ n kind.Call 3 22 48 55 (17 ∷ []) [] [] None
    ∷ n kind.CallS 3 13 48 55 (18 ∷ []) [] [] None ∷ n kind.Routine 3 1 43 57 (19 ∷ []) ((codes "p") ∷ (codes "p") ∷
    []) (codes "proc") (Some 45) ∷ n kind.Module 3 1 43 57 (20 ∷ []) [] [] None ∷ n kind.File 1 1 0 57 (14 ∷ 21 ∷ [])
    [] [] None ∷ [])

type_set_of_a_routine_of_a_cluster : IsFine type_set_of_a_routine_of_a_cluster_nodes
unfolding checking
type_set_of_a_routine_of_a_cluster = refl

-- c = cluster [k: int] is m rep = int own n: int
--   m = proc (x: c[(n + 1)]) end m end c
abbrev own_variable_in_a_heading_nodes : List Node
own_variable_in_a_heading_nodes =
    (n kind.Simple 1 17 6 6 [] [] (codes "int") (Some 6) ∷ n kind.Parm 1 14 4 6 (0 ∷ []) ((codes "k") ∷ []) [] None ∷
    n kind.Simple 1 33 12 12 [] [] (codes "int") (Some 12) ∷ n kind.Equate 1 27 10 12 (2 ∷ []) [] (codes "rep") (Some
    10) ∷ n kind.Simple 1 44 16 16 [] [] (codes "int") (Some 16) ∷ n kind.Decl 1 41 14 16 (4 ∷ []) ((codes "n") ∷ [])
    [] None ∷ n kind.Own 1 37 13 16 (5 ∷ []) [] [] None ∷ n kind.Name 2 19 26 26 [] ((codes "n") ∷ []) [] None ∷ n
    kind.Literal 2 23 28 28 [] [] (codes "1") (Some 28) ∷ n kind.Infix 2 21 26 28 (7 ∷ 8 ∷ []) [] (codes "+") (Some
    27) ∷ n kind.Paren 2 18 25 29 (9 ∷ []) [] [] None ∷ n kind.NameT 2 16 23 30 (10 ∷ []) ((codes "c") ∷ []) [] None ∷
    n kind.Decl 2 13 21 30 (11 ∷ []) ((codes "x") ∷ []) [] None ∷ n kind.Routine 2 3 17 33 (12 ∷ []) ((codes "m") ∷
    (codes "m") ∷ []) (codes "proc") (Some 19) ∷ n kind.Cluster 1 1 0 35 (1 ∷ 3 ∷ 6 ∷ 13 ∷ []) ((codes "c") ∷ (codes
    "m") ∷ (codes "c") ∷ []) [] None ∷ n kind.Module 1 1 0 35 (14 ∷ []) [] [] None ∷ n kind.File 1 1 0 35 (15 ∷ []) []
    [] None ∷ [])

own_variable_in_a_heading : IsRefused own_variable_in_a_heading_nodes rule.NotConstant 2 18
unfolding checking
own_variable_in_a_heading = refl

-- t = 1 p = proc () s = {t | t has f: proctype (t)} end p
abbrev equate_before_the_variable_of_a_set_nodes : List Node
equate_before_the_variable_of_a_set_nodes =
    (n kind.Literal 1 5 2 2 [] [] (codes "1") (Some 2) ∷ n kind.Equate 1 1 0 2 (0 ∷ []) ((codes "t") ∷ []) [] None ∷ n
    kind.NameT 1 47 19 19 [] ((codes "t") ∷ []) [] None ∷ n kind.RoutineT 1 37 17 20 (2 ∷ []) [] (codes "proctype")
    (Some 17) ∷ n kind.Oper 1 34 15 20 (3 ∷ []) ((codes "f") ∷ []) [] None ∷ n kind.TypeSet 1 23 10 21 (4 ∷ [])
    ((codes "t") ∷ (codes "t") ∷ []) [] None ∷ n kind.Equate 1 19 8 21 (5 ∷ []) ((codes "s") ∷ []) [] None ∷ n
    kind.Routine 1 7 3 23 (6 ∷ []) ((codes "p") ∷ (codes "p") ∷ []) (codes "proc") (Some 5) ∷ n kind.Module 1 1 0 23
    (1 ∷ 7 ∷ []) [] [] None ∷ n kind.File 1 1 0 23 (8 ∷ []) [] [] None ∷ [])

equate_before_the_variable_of_a_set : IsRefused equate_before_the_variable_of_a_set_nodes rule.NotType 1 47
unfolding checking
equate_before_the_variable_of_a_set = refl

-- p = proc [t: type] (x: c[t]) where t has f: proctype (), f: proctype (int) end p
-- c = cluster [t: type] is m where t has f: proctype () rep = int m = proc () end m end c
abbrev first_of_two_demands_nodes : List Node
first_of_two_demands_nodes =
    (n kind.Parm 1 11 4 6 [] ((codes "t") ∷ []) (codes "type") (Some 6) ∷ n kind.Name 1 26 13 13 [] ((codes "t") ∷ [])
    [] None ∷ n kind.NameT 1 24 11 14 (1 ∷ []) ((codes "c") ∷ []) [] None ∷ n kind.Decl 1 21 9 14 (2 ∷ []) ((codes
    "x") ∷ []) [] None ∷ n kind.RoutineT 1 45 21 23 [] [] (codes "proctype") (Some 21) ∷ n kind.Oper 1 42 19 23 (4 ∷
    []) ((codes "f") ∷ []) [] None ∷ n kind.Simple 1 71 29 29 [] [] (codes "int") (Some 29) ∷ n kind.RoutineT 1 61 27
    30 (6 ∷ []) [] (codes "proctype") (Some 27) ∷ n kind.Oper 1 58 25 30 (7 ∷ []) ((codes "f") ∷ []) [] None ∷ n
    kind.Restrict 1 36 17 30 (5 ∷ 8 ∷ []) ((codes "t") ∷ []) (codes "has") (Some 18) ∷ n kind.Where 1 30 16 30 (9 ∷
    []) [] [] None ∷ n kind.Routine 1 1 0 32 (0 ∷ 3 ∷ 10 ∷ []) ((codes "p") ∷ (codes "p") ∷ []) (codes "proc") (Some
    2) ∷ n kind.Module 1 1 0 32 (11 ∷ []) [] [] None ∷ n kind.Parm 2 14 37 39 [] ((codes "t") ∷ []) (codes "type")
    (Some 39) ∷ n kind.RoutineT 2 43 48 50 [] [] (codes "proctype") (Some 48) ∷ n kind.Oper 2 40 46 50 (14 ∷ [])
    ((codes "f") ∷ []) [] None ∷ n kind.Restrict 2 34 44 50 (15 ∷ []) ((codes "t") ∷ []) (codes "has") (Some 45) ∷ n
    kind.Where 2 28 43 50 (16 ∷ []) [] [] None ∷ n kind.Simple 2 61 53 53 [] [] (codes "int") (Some 53) ∷ n
    kind.Equate 2 55 51 53 (18 ∷ []) [] (codes "rep") (Some 51) ∷ n kind.Routine 2 65 54 60 [] ((codes "m") ∷ (codes
    "m") ∷ []) (codes "proc") (Some 56) ∷ n kind.Cluster 2 1 33 62 (13 ∷ 17 ∷ 19 ∷ 20 ∷ []) ((codes "c") ∷ (codes "m")
    ∷ (codes "c") ∷ []) [] None ∷ n kind.Module 2 1 33 62 (21 ∷ []) [] [] None ∷ n kind.File 1 1 0 62 (12 ∷ 22 ∷ [])
    [] [] None ∷ [])

first_of_two_demands : IsRefused first_of_two_demands_nodes rule.DefinedTwice 1 58
unfolding checking
first_of_two_demands = refl

-- p = proc () a = {u | u has f: k k = a} end p
abbrev circle_through_a_set_nodes : List Node
circle_through_a_set_nodes =
    (n kind.NameT 1 31 14 14 [] ((codes "k") ∷ []) [] None ∷ n kind.Oper 1 28 12 14 (0 ∷ []) ((codes "f") ∷ []) []
    None ∷ n kind.Name 1 37 17 17 [] ((codes "a") ∷ []) [] None ∷ n kind.Equate 1 33 15 17 (2 ∷ []) ((codes "k") ∷ [])
    [] None ∷ n kind.TypeSet 1 17 7 18 (1 ∷ 3 ∷ []) ((codes "u") ∷ (codes "u") ∷ []) [] None ∷ n kind.Equate 1 13 5 18
    (4 ∷ []) ((codes "a") ∷ []) [] None ∷ n kind.Routine 1 1 0 20 (5 ∷ []) ((codes "p") ∷ (codes "p") ∷ []) (codes
    "proc") (Some 2) ∷ n kind.Module 1 1 0 20 (6 ∷ []) [] [] None ∷ n kind.File 1 1 0 20 (7 ∷ []) [] [] None ∷ [])

circle_through_a_set : IsRefused circle_through_a_set_nodes rule.CircularEquate 1 31
unfolding checking
circle_through_a_set = refl
