-- Files that are checked: types where constants and objects are wanted. Each is the tree of the CLU above it.
use Rattle.std.specs.Prelude.{refl, List, [], ◌∷◌, codes, Some, None}
use Rattle.clu_base.specs.declared.rules.Rule.TheVariants as rule
use Rattle.clu_tree.specs.declared.node.Node.{Node}
use Rattle.clu_tree.specs.declared.node.NodeKind.TheVariants as kind
use Rattle.clu_checking.proofs.Checking.{n, IsRefused, checking}

-- s = {t | t has f: int} p = proc (x: c[s]) end p
-- c = cluster [t: type] is m rep = int m = proc () end m end c
abbrev set_as_an_actual_nodes : List Node
set_as_an_actual_nodes =
    (n kind.Simple 1 19 9 9 [] [] (codes "int") (Some 9) ∷ n kind.Oper 1 16 7 9 (0 ∷ []) ((codes "f") ∷ []) [] None ∷
    n kind.TypeSet 1 5 2 10 (1 ∷ []) ((codes "t") ∷ (codes "t") ∷ []) [] None ∷ n kind.Equate 1 1 0 10 (2 ∷ [])
    ((codes "s") ∷ []) [] None ∷ n kind.Name 1 39 19 19 [] ((codes "s") ∷ []) [] None ∷ n kind.NameT 1 37 17 20 (4 ∷
    []) ((codes "c") ∷ []) [] None ∷ n kind.Decl 1 34 15 20 (5 ∷ []) ((codes "x") ∷ []) [] None ∷ n kind.Routine 1 24
    11 23 (6 ∷ []) ((codes "p") ∷ (codes "p") ∷ []) (codes "proc") (Some 13) ∷ n kind.Module 1 1 0 23 (3 ∷ 7 ∷ []) []
    [] None ∷ n kind.Parm 2 14 28 30 [] ((codes "t") ∷ []) (codes "type") (Some 30) ∷ n kind.Simple 2 34 36 36 [] []
    (codes "int") (Some 36) ∷ n kind.Equate 2 28 34 36 (10 ∷ []) [] (codes "rep") (Some 34) ∷ n kind.Routine 2 38 37
    43 [] ((codes "m") ∷ (codes "m") ∷ []) (codes "proc") (Some 39) ∷ n kind.Cluster 2 1 24 45 (9 ∷ 11 ∷ 12 ∷ [])
    ((codes "c") ∷ (codes "m") ∷ (codes "c") ∷ []) [] None ∷ n kind.Module 2 1 24 45 (13 ∷ []) [] [] None ∷ n
    kind.File 1 1 0 45 (8 ∷ 14 ∷ []) [] [] None ∷ [])

set_as_an_actual : IsRefused set_as_an_actual_nodes rule.ParameterKind 1 37
unfolding checking
set_as_an_actual = refl

-- p = proc () q["a"]() end p q = proc [n: int] () end q
abbrev constant_of_another_kind_nodes : List Node
constant_of_another_kind_nodes =
    (n kind.Name 1 13 5 5 [] ((codes "q") ∷ []) [] None ∷ n kind.Literal 1 15 7 7 [] [] (34 ∷ 97 ∷ 34 ∷ []) (Some 7) ∷
    n kind.Index 1 14 5 8 (0 ∷ 1 ∷ []) [] [] None ∷ n kind.Call 1 19 5 10 (2 ∷ []) [] [] None ∷ n kind.CallS 1 13 5 10
    (3 ∷ []) [] [] None ∷ n kind.Routine 1 1 0 12 (4 ∷ []) ((codes "p") ∷ (codes "p") ∷ []) (codes "proc") (Some 2) ∷
    n kind.Module 1 1 0 12 (5 ∷ []) [] [] None ∷ n kind.Simple 1 41 19 19 [] [] (codes "int") (Some 19) ∷ n kind.Parm
    1 38 17 19 (7 ∷ []) ((codes "n") ∷ []) [] None ∷ n kind.Routine 1 28 13 24 (8 ∷ []) ((codes "q") ∷ (codes "q") ∷
    []) (codes "proc") (Some 15) ∷ n kind.Module 1 28 13 24 (9 ∷ []) [] [] None ∷ n kind.File 1 1 0 24 (6 ∷ 10 ∷ [])
    [] [] None ∷ [])

constant_of_another_kind : IsRefused constant_of_another_kind_nodes rule.ParameterKind 1 14
unfolding checking
constant_of_another_kind = refl

-- p = proc () q[1]() end p q = proc [t: type] () end q
abbrev constant_for_a_type_nodes : List Node
constant_for_a_type_nodes =
    (n kind.Name 1 13 5 5 [] ((codes "q") ∷ []) [] None ∷ n kind.Literal 1 15 7 7 [] [] (codes "1") (Some 7) ∷ n
    kind.Index 1 14 5 8 (0 ∷ 1 ∷ []) [] [] None ∷ n kind.Call 1 17 5 10 (2 ∷ []) [] [] None ∷ n kind.CallS 1 13 5 10
    (3 ∷ []) [] [] None ∷ n kind.Routine 1 1 0 12 (4 ∷ []) ((codes "p") ∷ (codes "p") ∷ []) (codes "proc") (Some 2) ∷
    n kind.Module 1 1 0 12 (5 ∷ []) [] [] None ∷ n kind.Parm 1 36 17 19 [] ((codes "t") ∷ []) (codes "type") (Some 19)
    ∷ n kind.Routine 1 26 13 24 (7 ∷ []) ((codes "q") ∷ (codes "q") ∷ []) (codes "proc") (Some 15) ∷ n kind.Module 1
    26 13 24 (8 ∷ []) [] [] None ∷ n kind.File 1 1 0 24 (6 ∷ 9 ∷ []) [] [] None ∷ [])

constant_for_a_type : IsRefused constant_for_a_type_nodes rule.ParameterKind 1 14
unfolding checking
constant_for_a_type = refl

-- p = proc () q[int]() end p q = proc [n: int] () end q
abbrev type_for_a_constant_nodes : List Node
type_for_a_constant_nodes =
    (n kind.Name 1 13 5 5 [] ((codes "q") ∷ []) [] None ∷ n kind.Simple 1 15 7 7 [] [] (codes "int") (Some 7) ∷ n
    kind.Index 1 14 5 8 (0 ∷ 1 ∷ []) [] [] None ∷ n kind.Call 1 19 5 10 (2 ∷ []) [] [] None ∷ n kind.CallS 1 13 5 10
    (3 ∷ []) [] [] None ∷ n kind.Routine 1 1 0 12 (4 ∷ []) ((codes "p") ∷ (codes "p") ∷ []) (codes "proc") (Some 2) ∷
    n kind.Module 1 1 0 12 (5 ∷ []) [] [] None ∷ n kind.Simple 1 41 19 19 [] [] (codes "int") (Some 19) ∷ n kind.Parm
    1 38 17 19 (7 ∷ []) ((codes "n") ∷ []) [] None ∷ n kind.Routine 1 28 13 24 (8 ∷ []) ((codes "q") ∷ (codes "q") ∷
    []) (codes "proc") (Some 15) ∷ n kind.Module 1 28 13 24 (9 ∷ []) [] [] None ∷ n kind.File 1 1 0 24 (6 ∷ 10 ∷ [])
    [] [] None ∷ [])

type_for_a_constant : IsRefused type_for_a_constant_nodes rule.ParameterKind 1 14
unfolding checking
type_for_a_constant = refl

-- p = proc (x: int) q[x]() end p q = proc [n: int] () end q
abbrev variable_for_a_constant_nodes : List Node
variable_for_a_constant_nodes =
    (n kind.Simple 1 14 6 6 [] [] (codes "int") (Some 6) ∷ n kind.Decl 1 11 4 6 (0 ∷ []) ((codes "x") ∷ []) [] None ∷
    n kind.Name 1 19 8 8 [] ((codes "q") ∷ []) [] None ∷ n kind.Name 1 21 10 10 [] ((codes "x") ∷ []) [] None ∷ n
    kind.Index 1 20 8 11 (2 ∷ 3 ∷ []) [] [] None ∷ n kind.Call 1 23 8 13 (4 ∷ []) [] [] None ∷ n kind.CallS 1 19 8 13
    (5 ∷ []) [] [] None ∷ n kind.Routine 1 1 0 15 (1 ∷ 6 ∷ []) ((codes "p") ∷ (codes "p") ∷ []) (codes "proc") (Some
    2) ∷ n kind.Module 1 1 0 15 (7 ∷ []) [] [] None ∷ n kind.Simple 1 45 22 22 [] [] (codes "int") (Some 22) ∷ n
    kind.Parm 1 42 20 22 (9 ∷ []) ((codes "n") ∷ []) [] None ∷ n kind.Routine 1 32 16 27 (10 ∷ []) ((codes "q") ∷
    (codes "q") ∷ []) (codes "proc") (Some 18) ∷ n kind.Module 1 32 16 27 (11 ∷ []) [] [] None ∷ n kind.File 1 1 0 27
    (8 ∷ 12 ∷ []) [] [] None ∷ [])

variable_for_a_constant : IsRefused variable_for_a_constant_nodes rule.NotConstant 1 21
unfolding checking
variable_for_a_constant = refl

-- p = proc (x: int) q[x]() end p q = proc [t: type] () end q
abbrev variable_for_a_type_nodes : List Node
variable_for_a_type_nodes =
    (n kind.Simple 1 14 6 6 [] [] (codes "int") (Some 6) ∷ n kind.Decl 1 11 4 6 (0 ∷ []) ((codes "x") ∷ []) [] None ∷
    n kind.Name 1 19 8 8 [] ((codes "q") ∷ []) [] None ∷ n kind.Name 1 21 10 10 [] ((codes "x") ∷ []) [] None ∷ n
    kind.Index 1 20 8 11 (2 ∷ 3 ∷ []) [] [] None ∷ n kind.Call 1 23 8 13 (4 ∷ []) [] [] None ∷ n kind.CallS 1 19 8 13
    (5 ∷ []) [] [] None ∷ n kind.Routine 1 1 0 15 (1 ∷ 6 ∷ []) ((codes "p") ∷ (codes "p") ∷ []) (codes "proc") (Some
    2) ∷ n kind.Module 1 1 0 15 (7 ∷ []) [] [] None ∷ n kind.Parm 1 42 20 22 [] ((codes "t") ∷ []) (codes "type")
    (Some 22) ∷ n kind.Routine 1 32 16 27 (9 ∷ []) ((codes "q") ∷ (codes "q") ∷ []) (codes "proc") (Some 18) ∷ n
    kind.Module 1 32 16 27 (10 ∷ []) [] [] None ∷ n kind.File 1 1 0 27 (8 ∷ 11 ∷ []) [] [] None ∷ [])

variable_for_a_type : IsRefused variable_for_a_type_nodes rule.NotType 1 21
unfolding checking
variable_for_a_type = refl

-- t = int p = proc () x: any := t end p
abbrev type_as_an_object_nodes : List Node
type_as_an_object_nodes =
    (n kind.Simple 1 5 2 2 [] [] (codes "int") (Some 2) ∷ n kind.Equate 1 1 0 2 (0 ∷ []) ((codes "t") ∷ []) [] None ∷
    n kind.Simple 1 24 10 10 [] [] (codes "any") (Some 10) ∷ n kind.Name 1 31 12 12 [] ((codes "t") ∷ []) [] None ∷ n
    kind.Init 1 21 8 12 (2 ∷ 3 ∷ []) ((codes "x") ∷ []) [] None ∷ n kind.Routine 1 9 3 14 (4 ∷ []) ((codes "p") ∷
    (codes "p") ∷ []) (codes "proc") (Some 5) ∷ n kind.Module 1 1 0 14 (1 ∷ 5 ∷ []) [] [] None ∷ n kind.File 1 1 0 14
    (6 ∷ []) [] [] None ∷ [])

type_as_an_object : IsRefused type_as_an_object_nodes rule.ResultCount 1 31
unfolding checking
type_as_an_object = refl

-- p = proc () x: any := c end p
-- c = cluster is m rep = int m = proc () end m end c
abbrev cluster_as_an_object_nodes : List Node
cluster_as_an_object_nodes =
    (n kind.Simple 1 16 7 7 [] [] (codes "any") (Some 7) ∷ n kind.Name 1 23 9 9 [] ((codes "c") ∷ []) [] None ∷ n
    kind.Init 1 13 5 9 (0 ∷ 1 ∷ []) ((codes "x") ∷ []) [] None ∷ n kind.Routine 1 1 0 11 (2 ∷ []) ((codes "p") ∷
    (codes "p") ∷ []) (codes "proc") (Some 2) ∷ n kind.Module 1 1 0 11 (3 ∷ []) [] [] None ∷ n kind.Simple 2 24 19 19
    [] [] (codes "int") (Some 19) ∷ n kind.Equate 2 18 17 19 (5 ∷ []) [] (codes "rep") (Some 17) ∷ n kind.Routine 2 28
    20 26 [] ((codes "m") ∷ (codes "m") ∷ []) (codes "proc") (Some 22) ∷ n kind.Cluster 2 1 12 28 (6 ∷ 7 ∷ []) ((codes
    "c") ∷ (codes "m") ∷ (codes "c") ∷ []) [] None ∷ n kind.Module 2 1 12 28 (8 ∷ []) [] [] None ∷ n kind.File 1 1 0
    28 (4 ∷ 9 ∷ []) [] [] None ∷ [])

cluster_as_an_object : IsRefused cluster_as_an_object_nodes rule.ResultCount 1 23
unfolding checking
cluster_as_an_object = refl

-- p = proc [n: any] () end p
abbrev parameter_of_type_any_nodes : List Node
parameter_of_type_any_nodes =
    (n kind.Simple 1 14 6 6 [] [] (codes "any") (Some 6) ∷ n kind.Parm 1 11 4 6 (0 ∷ []) ((codes "n") ∷ []) [] None ∷
    n kind.Routine 1 1 0 11 (1 ∷ []) ((codes "p") ∷ (codes "p") ∷ []) (codes "proc") (Some 2) ∷ n kind.Module 1 1 0 11
    (2 ∷ []) [] [] None ∷ n kind.File 1 1 0 11 (3 ∷ []) [] [] None ∷ [])

parameter_of_type_any : IsRefused parameter_of_type_any_nodes rule.ParameterKind 1 11
unfolding checking
parameter_of_type_any = refl

-- p = proc () q() end p q = proc [n: int] () end q
abbrev module_without_its_actuals_nodes : List Node
module_without_its_actuals_nodes =
    (n kind.Name 1 13 5 5 [] ((codes "q") ∷ []) [] None ∷ n kind.Call 1 14 5 7 (0 ∷ []) [] [] None ∷ n kind.CallS 1 13
    5 7 (1 ∷ []) [] [] None ∷ n kind.Routine 1 1 0 9 (2 ∷ []) ((codes "p") ∷ (codes "p") ∷ []) (codes "proc") (Some 2)
    ∷ n kind.Module 1 1 0 9 (3 ∷ []) [] [] None ∷ n kind.Simple 1 36 16 16 [] [] (codes "int") (Some 16) ∷ n kind.Parm
    1 33 14 16 (5 ∷ []) ((codes "n") ∷ []) [] None ∷ n kind.Routine 1 23 10 21 (6 ∷ []) ((codes "q") ∷ (codes "q") ∷
    []) (codes "proc") (Some 12) ∷ n kind.Module 1 23 10 21 (7 ∷ []) [] [] None ∷ n kind.File 1 1 0 21 (4 ∷ 8 ∷ []) []
    [] None ∷ [])

module_without_its_actuals : IsRefused module_without_its_actuals_nodes rule.ParameterKind 1 13
unfolding checking
module_without_its_actuals = refl

-- t = int x = t[int] p = proc () end p
abbrev type_with_brackets_as_a_constant_nodes : List Node
type_with_brackets_as_a_constant_nodes =
    (n kind.Simple 1 5 2 2 [] [] (codes "int") (Some 2) ∷ n kind.Equate 1 1 0 2 (0 ∷ []) ((codes "t") ∷ []) [] None ∷
    n kind.Name 1 13 5 5 [] ((codes "t") ∷ []) [] None ∷ n kind.Simple 1 15 7 7 [] [] (codes "int") (Some 7) ∷ n
    kind.Index 1 14 5 8 (2 ∷ 3 ∷ []) [] [] None ∷ n kind.Equate 1 9 3 8 (4 ∷ []) ((codes "x") ∷ []) [] None ∷ n
    kind.Routine 1 20 9 15 [] ((codes "p") ∷ (codes "p") ∷ []) (codes "proc") (Some 11) ∷ n kind.Module 1 1 0 15 (1 ∷
    5 ∷ 6 ∷ []) [] [] None ∷ n kind.File 1 1 0 15 (7 ∷ []) [] [] None ∷ [])

type_with_brackets_as_a_constant : IsRefused type_with_brackets_as_a_constant_nodes rule.ParameterKind 1 14
unfolding checking
type_with_brackets_as_a_constant = refl

-- s = {u | u has f: proctype (u)} x = s[int] p = proc () end p
abbrev set_with_brackets_as_a_constant_nodes : List Node
set_with_brackets_as_a_constant_nodes =
    (n kind.NameT 1 29 11 11 [] ((codes "u") ∷ []) [] None ∷ n kind.RoutineT 1 19 9 12 (0 ∷ []) [] (codes "proctype")
    (Some 9) ∷ n kind.Oper 1 16 7 12 (1 ∷ []) ((codes "f") ∷ []) [] None ∷ n kind.TypeSet 1 5 2 13 (2 ∷ []) ((codes
    "u") ∷ (codes "u") ∷ []) [] None ∷ n kind.Equate 1 1 0 13 (3 ∷ []) ((codes "s") ∷ []) [] None ∷ n kind.Name 1 37
    16 16 [] ((codes "s") ∷ []) [] None ∷ n kind.Simple 1 39 18 18 [] [] (codes "int") (Some 18) ∷ n kind.Index 1 38
    16 19 (5 ∷ 6 ∷ []) [] [] None ∷ n kind.Equate 1 33 14 19 (7 ∷ []) ((codes "x") ∷ []) [] None ∷ n kind.Routine 1 44
    20 26 [] ((codes "p") ∷ (codes "p") ∷ []) (codes "proc") (Some 22) ∷ n kind.Module 1 1 0 26 (4 ∷ 8 ∷ 9 ∷ []) [] []
    None ∷ n kind.File 1 1 0 26 (10 ∷ []) [] [] None ∷ [])

set_with_brackets_as_a_constant : IsRefused set_with_brackets_as_a_constant_nodes rule.ParameterKind 1 38
unfolding checking
set_with_brackets_as_a_constant = refl

-- s = {u | u has f: proctype (u)} p = proc (x: c[s[int]]) end p c = cluster [t: type] is m rep = int m = proc () end m end c
abbrev set_with_brackets_as_an_actual_nodes : List Node
set_with_brackets_as_an_actual_nodes =
    (n kind.NameT 1 29 11 11 [] ((codes "u") ∷ []) [] None ∷ n kind.RoutineT 1 19 9 12 (0 ∷ []) [] (codes "proctype")
    (Some 9) ∷ n kind.Oper 1 16 7 12 (1 ∷ []) ((codes "f") ∷ []) [] None ∷ n kind.TypeSet 1 5 2 13 (2 ∷ []) ((codes
    "u") ∷ (codes "u") ∷ []) [] None ∷ n kind.Equate 1 1 0 13 (3 ∷ []) ((codes "s") ∷ []) [] None ∷ n kind.Name 1 48
    22 22 [] ((codes "s") ∷ []) [] None ∷ n kind.Simple 1 50 24 24 [] [] (codes "int") (Some 24) ∷ n kind.Index 1 49
    22 25 (5 ∷ 6 ∷ []) [] [] None ∷ n kind.NameT 1 46 20 26 (7 ∷ []) ((codes "c") ∷ []) [] None ∷ n kind.Decl 1 43 18
    26 (8 ∷ []) ((codes "x") ∷ []) [] None ∷ n kind.Routine 1 33 14 29 (9 ∷ []) ((codes "p") ∷ (codes "p") ∷ [])
    (codes "proc") (Some 16) ∷ n kind.Module 1 1 0 29 (4 ∷ 10 ∷ []) [] [] None ∷ n kind.Parm 1 76 34 36 [] ((codes
    "t") ∷ []) (codes "type") (Some 36) ∷ n kind.Simple 1 96 42 42 [] [] (codes "int") (Some 42) ∷ n kind.Equate 1 90
    40 42 (13 ∷ []) [] (codes "rep") (Some 40) ∷ n kind.Routine 1 100 43 49 [] ((codes "m") ∷ (codes "m") ∷ []) (codes
    "proc") (Some 45) ∷ n kind.Cluster 1 63 30 51 (12 ∷ 14 ∷ 15 ∷ []) ((codes "c") ∷ (codes "m") ∷ (codes "c") ∷ [])
    [] None ∷ n kind.Module 1 63 30 51 (16 ∷ []) [] [] None ∷ n kind.File 1 1 0 51 (11 ∷ 17 ∷ []) [] [] None ∷ [])

set_with_brackets_as_an_actual : IsRefused set_with_brackets_as_an_actual_nodes rule.ParameterKind 1 49
unfolding checking
set_with_brackets_as_an_actual = refl
