-- Files that are checked: scopes and what stands twice. Each is the tree of the CLU above it.
use Rattle.std.specs.Prelude.{refl, List, [], ◌∷◌, codes, Some, None}
use Rattle.clu_base.specs.declared.rules.Rule.TheVariants as rule
use Rattle.clu_tree.specs.declared.node.Node.{Node}
use Rattle.clu_tree.specs.declared.node.NodeKind.TheVariants as kind
use Rattle.clu_checking.proofs.Checking.{n, IsRefused, IsFine, checking}

-- p = proc () p: int := 1 q: int := p end p q = proc () end q
abbrev a_module_may_be_hidden_nodes : List Node
a_module_may_be_hidden_nodes =
    (n kind.Simple 1 16 7 7 [] [] (codes "int") (Some 7) ∷ n kind.Literal 1 23 9 9 [] [] (codes "1") (Some 9) ∷ n
    kind.Init 1 13 5 9 (0 ∷ 1 ∷ []) ((codes "p") ∷ []) [] None ∷ n kind.Simple 1 28 12 12 [] [] (codes "int") (Some
    12) ∷ n kind.Name 1 35 14 14 [] ((codes "p") ∷ []) [] None ∷ n kind.Init 1 25 10 14 (3 ∷ 4 ∷ []) ((codes "q") ∷
    []) [] None ∷ n kind.Routine 1 1 0 16 (2 ∷ 5 ∷ []) ((codes "p") ∷ (codes "p") ∷ []) (codes "proc") (Some 2) ∷ n
    kind.Module 1 1 0 16 (6 ∷ []) [] [] None ∷ n kind.Routine 1 43 17 23 [] ((codes "q") ∷ (codes "q") ∷ []) (codes
    "proc") (Some 19) ∷ n kind.Module 1 43 17 23 (8 ∷ []) [] [] None ∷ n kind.File 1 1 0 23 (7 ∷ 9 ∷ []) [] [] None ∷
    [])

a_module_may_be_hidden : IsFine a_module_may_be_hidden_nodes
unfolding checking
a_module_may_be_hidden = refl

-- p = proc (x: int) x = 1 end p
abbrev argument_and_equate_nodes : List Node
argument_and_equate_nodes =
    (n kind.Simple 1 14 6 6 [] [] (codes "int") (Some 6) ∷ n kind.Decl 1 11 4 6 (0 ∷ []) ((codes "x") ∷ []) [] None ∷
    n kind.Literal 1 23 10 10 [] [] (codes "1") (Some 10) ∷ n kind.Equate 1 19 8 10 (2 ∷ []) ((codes "x") ∷ []) []
    None ∷ n kind.Routine 1 1 0 12 (1 ∷ 3 ∷ []) ((codes "p") ∷ (codes "p") ∷ []) (codes "proc") (Some 2) ∷ n
    kind.Module 1 1 0 12 (4 ∷ []) [] [] None ∷ n kind.File 1 1 0 12 (5 ∷ []) [] [] None ∷ [])

argument_and_equate : IsRefused argument_and_equate_nodes rule.DefinedTwice 1 19
unfolding checking
argument_and_equate = refl

-- c = cluster is m rep = int m = proc () n: int end m n = proc () end n end c
abbrev local_as_routine_of_its_cluster_nodes : List Node
local_as_routine_of_its_cluster_nodes =
    (n kind.Simple 1 24 7 7 [] [] (codes "int") (Some 7) ∷ n kind.Equate 1 18 5 7 (0 ∷ []) [] (codes "rep") (Some 5) ∷
    n kind.Simple 1 43 15 15 [] [] (codes "int") (Some 15) ∷ n kind.Decl 1 40 13 15 (2 ∷ []) ((codes "n") ∷ []) []
    None ∷ n kind.Declare 1 40 13 15 (3 ∷ []) [] [] None ∷ n kind.Routine 1 28 8 17 (4 ∷ []) ((codes "m") ∷ (codes
    "m") ∷ []) (codes "proc") (Some 10) ∷ n kind.Routine 1 53 18 24 [] ((codes "n") ∷ (codes "n") ∷ []) (codes "proc")
    (Some 20) ∷ n kind.Cluster 1 1 0 26 (1 ∷ 5 ∷ 6 ∷ []) ((codes "c") ∷ (codes "m") ∷ (codes "c") ∷ []) [] None ∷ n
    kind.Module 1 1 0 26 (7 ∷ []) [] [] None ∷ n kind.File 1 1 0 26 (8 ∷ []) [] [] None ∷ [])

local_as_routine_of_its_cluster : IsRefused local_as_routine_of_its_cluster_nodes rule.DefinedTwice 1 40
unfolding checking
local_as_routine_of_its_cluster = refl

-- c = cluster is m rep = int own n: int m = proc () n: int end m end c
abbrev local_as_own_of_its_cluster_nodes : List Node
local_as_own_of_its_cluster_nodes =
    (n kind.Simple 1 24 7 7 [] [] (codes "int") (Some 7) ∷ n kind.Equate 1 18 5 7 (0 ∷ []) [] (codes "rep") (Some 5) ∷
    n kind.Simple 1 35 11 11 [] [] (codes "int") (Some 11) ∷ n kind.Decl 1 32 9 11 (2 ∷ []) ((codes "n") ∷ []) [] None
    ∷ n kind.Own 1 28 8 11 (3 ∷ []) [] [] None ∷ n kind.Simple 1 54 19 19 [] [] (codes "int") (Some 19) ∷ n kind.Decl
    1 51 17 19 (5 ∷ []) ((codes "n") ∷ []) [] None ∷ n kind.Declare 1 51 17 19 (6 ∷ []) [] [] None ∷ n kind.Routine 1
    39 12 21 (7 ∷ []) ((codes "m") ∷ (codes "m") ∷ []) (codes "proc") (Some 14) ∷ n kind.Cluster 1 1 0 23 (1 ∷ 4 ∷ 8 ∷
    []) ((codes "c") ∷ (codes "m") ∷ (codes "c") ∷ []) [] None ∷ n kind.Module 1 1 0 23 (9 ∷ []) [] [] None ∷ n
    kind.File 1 1 0 23 (10 ∷ []) [] [] None ∷ [])

local_as_own_of_its_cluster : IsRefused local_as_own_of_its_cluster_nodes rule.DefinedTwice 1 51
unfolding checking
local_as_own_of_its_cluster = refl

-- c = cluster [m: type] is m rep = int m = proc () end m end c
abbrev routine_as_parameter_of_its_cluster_nodes : List Node
routine_as_parameter_of_its_cluster_nodes =
    (n kind.Parm 1 14 4 6 [] ((codes "m") ∷ []) (codes "type") (Some 6) ∷ n kind.Simple 1 34 12 12 [] [] (codes "int")
    (Some 12) ∷ n kind.Equate 1 28 10 12 (1 ∷ []) [] (codes "rep") (Some 10) ∷ n kind.Routine 1 38 13 19 [] ((codes
    "m") ∷ (codes "m") ∷ []) (codes "proc") (Some 15) ∷ n kind.Cluster 1 1 0 21 (0 ∷ 2 ∷ 3 ∷ []) ((codes "c") ∷ (codes
    "m") ∷ (codes "c") ∷ []) [] None ∷ n kind.Module 1 1 0 21 (4 ∷ []) [] [] None ∷ n kind.File 1 1 0 21 (5 ∷ []) []
    [] None ∷ [])

routine_as_parameter_of_its_cluster : IsRefused routine_as_parameter_of_its_cluster_nodes rule.DefinedTwice 1 38
unfolding checking
routine_as_parameter_of_its_cluster = refl

-- p = proc () x: int := int$add(1, 2) except when overflow: x := 1 end x := 2 end p
abbrev variable_of_a_guarded_statement_nodes : List Node
variable_of_a_guarded_statement_nodes =
    (n kind.Simple 1 16 7 7 [] [] (codes "int") (Some 7) ∷ n kind.Simple 1 23 9 9 [] [] (codes "int") (Some 9) ∷ n
    kind.OperOf 1 23 9 11 (1 ∷ []) ((codes "add") ∷ []) [] None ∷ n kind.Literal 1 31 13 13 [] [] (codes "1") (Some
    13) ∷ n kind.Literal 1 34 15 15 [] [] (codes "2") (Some 15) ∷ n kind.Call 1 30 9 16 (2 ∷ 3 ∷ 4 ∷ []) [] [] None ∷
    n kind.Init 1 13 5 16 (0 ∷ 5 ∷ []) ((codes "x") ∷ []) [] None ∷ n kind.Literal 1 64 23 23 [] [] (codes "1") (Some
    23) ∷ n kind.Assign 1 59 21 23 (7 ∷ []) ((codes "x") ∷ []) [] None ∷ n kind.When 1 44 18 23 (8 ∷ []) ((codes
    "overflow") ∷ []) [] None ∷ n kind.Except 1 37 5 24 (6 ∷ 9 ∷ []) [] [] None ∷ n kind.Literal 1 75 27 27 [] []
    (codes "2") (Some 27) ∷ n kind.Assign 1 70 25 27 (11 ∷ []) ((codes "x") ∷ []) [] None ∷ n kind.Routine 1 1 0 29
    (10 ∷ 12 ∷ []) ((codes "p") ∷ (codes "p") ∷ []) (codes "proc") (Some 2) ∷ n kind.Module 1 1 0 29 (13 ∷ []) [] []
    None ∷ n kind.File 1 1 0 29 (14 ∷ []) [] [] None ∷ [])

variable_of_a_guarded_statement : IsFine variable_of_a_guarded_statement_nodes
unfolding checking
variable_of_a_guarded_statement = refl

-- p = proc () begin x: int end x: string end p
abbrev inner_body_before_the_outer_nodes : List Node
inner_body_before_the_outer_nodes =
    (n kind.Simple 1 22 8 8 [] [] (codes "int") (Some 8) ∷ n kind.Decl 1 19 6 8 (0 ∷ []) ((codes "x") ∷ []) [] None ∷
    n kind.Declare 1 19 6 8 (1 ∷ []) [] [] None ∷ n kind.Begin 1 13 5 9 (2 ∷ []) [] [] None ∷ n kind.Simple 1 33 12 12
    [] [] (codes "string") (Some 12) ∷ n kind.Decl 1 30 10 12 (4 ∷ []) ((codes "x") ∷ []) [] None ∷ n kind.Declare 1
    30 10 12 (5 ∷ []) [] [] None ∷ n kind.Routine 1 1 0 14 (3 ∷ 6 ∷ []) ((codes "p") ∷ (codes "p") ∷ []) (codes
    "proc") (Some 2) ∷ n kind.Module 1 1 0 14 (7 ∷ []) [] [] None ∷ n kind.File 1 1 0 14 (8 ∷ []) [] [] None ∷ [])

inner_body_before_the_outer : IsFine inner_body_before_the_outer_nodes
unfolding checking
inner_body_before_the_outer = refl

-- p = proc (x: int) q() except others (x: string): end end p q = proc () end q
abbrev variable_of_an_arm_twice_nodes : List Node
variable_of_an_arm_twice_nodes =
    (n kind.Simple 1 14 6 6 [] [] (codes "int") (Some 6) ∷ n kind.Decl 1 11 4 6 (0 ∷ []) ((codes "x") ∷ []) [] None ∷
    n kind.Name 1 19 8 8 [] ((codes "q") ∷ []) [] None ∷ n kind.Call 1 20 8 10 (2 ∷ []) [] [] None ∷ n kind.CallS 1 19
    8 10 (3 ∷ []) [] [] None ∷ n kind.Simple 1 41 16 16 [] [] (codes "string") (Some 16) ∷ n kind.Others 1 30 12 18 (5
    ∷ []) ((codes "x") ∷ []) [] None ∷ n kind.Except 1 23 8 19 (4 ∷ 6 ∷ []) [] [] None ∷ n kind.Routine 1 1 0 21 (1 ∷
    7 ∷ []) ((codes "p") ∷ (codes "p") ∷ []) (codes "proc") (Some 2) ∷ n kind.Module 1 1 0 21 (8 ∷ []) [] [] None ∷ n
    kind.Routine 1 60 22 28 [] ((codes "q") ∷ (codes "q") ∷ []) (codes "proc") (Some 24) ∷ n kind.Module 1 60 22 28
    (10 ∷ []) [] [] None ∷ n kind.File 1 1 0 28 (9 ∷ 11 ∷ []) [] [] None ∷ [])

variable_of_an_arm_twice : IsRefused variable_of_an_arm_twice_nodes rule.DefinedTwice 1 30
unfolding checking
variable_of_an_arm_twice = refl

-- p = proc (o: oneof[a: int]) tagcase o tag a (x: int): x: int end end p
abbrev tags_variable_and_its_body_nodes : List Node
tags_variable_and_its_body_nodes =
    (n kind.Simple 1 23 10 10 [] [] (codes "int") (Some 10) ∷ n kind.FieldT 1 20 8 10 (0 ∷ []) ((codes "a") ∷ []) []
    None ∷ n kind.FieldsT 1 14 6 11 (1 ∷ []) [] (codes "oneof") (Some 6) ∷ n kind.Decl 1 11 4 11 (2 ∷ []) ((codes "o")
    ∷ []) [] None ∷ n kind.Name 1 37 14 14 [] ((codes "o") ∷ []) [] None ∷ n kind.Simple 1 49 20 20 [] [] (codes
    "int") (Some 20) ∷ n kind.Simple 1 58 25 25 [] [] (codes "int") (Some 25) ∷ n kind.Decl 1 55 23 25 (6 ∷ [])
    ((codes "x") ∷ []) [] None ∷ n kind.Declare 1 55 23 25 (7 ∷ []) [] [] None ∷ n kind.TagArm 1 39 15 25 (5 ∷ 8 ∷ [])
    ((codes "a") ∷ (codes "x") ∷ []) [] None ∷ n kind.Tagcase 1 29 13 26 (4 ∷ 9 ∷ []) [] [] None ∷ n kind.Routine 1 1
    0 28 (3 ∷ 10 ∷ []) ((codes "p") ∷ (codes "p") ∷ []) (codes "proc") (Some 2) ∷ n kind.Module 1 1 0 28 (11 ∷ []) []
    [] None ∷ n kind.File 1 1 0 28 (12 ∷ []) [] [] None ∷ [])

tags_variable_and_its_body : IsRefused tags_variable_and_its_body_nodes rule.DefinedTwice 1 55
unfolding checking
tags_variable_and_its_body = refl

-- p = proc (stream: int) x: int := stream end p
abbrev stream_as_a_local_nodes : List Node
stream_as_a_local_nodes =
    (n kind.Simple 1 19 6 6 [] [] (codes "int") (Some 6) ∷ n kind.Decl 1 11 4 6 (0 ∷ []) ((codes "stream") ∷ []) []
    None ∷ n kind.Simple 1 27 10 10 [] [] (codes "int") (Some 10) ∷ n kind.Name 1 34 12 12 [] ((codes "stream") ∷ [])
    [] None ∷ n kind.Init 1 24 8 12 (2 ∷ 3 ∷ []) ((codes "x") ∷ []) [] None ∷ n kind.Routine 1 1 0 14 (1 ∷ 4 ∷ [])
    ((codes "p") ∷ (codes "p") ∷ []) (codes "proc") (Some 2) ∷ n kind.Module 1 1 0 14 (5 ∷ []) [] [] None ∷ n
    kind.File 1 1 0 14 (6 ∷ []) [] [] None ∷ [])

stream_as_a_local : IsFine stream_as_a_local_nodes
unfolding checking
stream_as_a_local = refl

-- p = proc () s = {t | u has f: int} end p
abbrev set_of_an_unknown_name_nodes : List Node
set_of_an_unknown_name_nodes =
    (n kind.Simple 1 31 14 14 [] [] (codes "int") (Some 14) ∷ n kind.Oper 1 28 12 14 (0 ∷ []) ((codes "f") ∷ []) []
    None ∷ n kind.TypeSet 1 17 7 15 (1 ∷ []) ((codes "t") ∷ (codes "u") ∷ []) [] None ∷ n kind.Equate 1 13 5 15 (2 ∷
    []) ((codes "s") ∷ []) [] None ∷ n kind.Routine 1 1 0 17 (3 ∷ []) ((codes "p") ∷ (codes "p") ∷ []) (codes "proc")
    (Some 2) ∷ n kind.Module 1 1 0 17 (4 ∷ []) [] [] None ∷ n kind.File 1 1 0 17 (5 ∷ []) [] [] None ∷ [])

set_of_an_unknown_name : IsRefused set_of_an_unknown_name_nodes rule.UnknownName 1 17
unfolding checking
set_of_an_unknown_name = refl

-- u = int p = proc () s = {t | u has f: int} end p
abbrev set_of_another_name_nodes : List Node
set_of_another_name_nodes =
    (n kind.Simple 1 5 2 2 [] [] (codes "int") (Some 2) ∷ n kind.Equate 1 1 0 2 (0 ∷ []) ((codes "u") ∷ []) [] None ∷
    n kind.Simple 1 39 17 17 [] [] (codes "int") (Some 17) ∷ n kind.Oper 1 36 15 17 (2 ∷ []) ((codes "f") ∷ []) []
    None ∷ n kind.TypeSet 1 25 10 18 (3 ∷ []) ((codes "t") ∷ (codes "u") ∷ []) [] None ∷ n kind.Equate 1 21 8 18 (4 ∷
    []) ((codes "s") ∷ []) [] None ∷ n kind.Routine 1 9 3 20 (5 ∷ []) ((codes "p") ∷ (codes "p") ∷ []) (codes "proc")
    (Some 5) ∷ n kind.Module 1 1 0 20 (1 ∷ 6 ∷ []) [] [] None ∷ n kind.File 1 1 0 20 (7 ∷ []) [] [] None ∷ [])

set_of_another_name : IsRefused set_of_another_name_nodes rule.NotType 1 25
unfolding checking
set_of_another_name = refl

-- p = proc (t: int) s = {t | t has f: int} end p
abbrev set_variable_defined_already_nodes : List Node
set_variable_defined_already_nodes =
    (n kind.Simple 1 14 6 6 [] [] (codes "int") (Some 6) ∷ n kind.Decl 1 11 4 6 (0 ∷ []) ((codes "t") ∷ []) [] None ∷
    n kind.Simple 1 37 17 17 [] [] (codes "int") (Some 17) ∷ n kind.Oper 1 34 15 17 (2 ∷ []) ((codes "f") ∷ []) []
    None ∷ n kind.TypeSet 1 23 10 18 (3 ∷ []) ((codes "t") ∷ (codes "t") ∷ []) [] None ∷ n kind.Equate 1 19 8 18 (4 ∷
    []) ((codes "s") ∷ []) [] None ∷ n kind.Routine 1 1 0 20 (1 ∷ 5 ∷ []) ((codes "p") ∷ (codes "p") ∷ []) (codes
    "proc") (Some 2) ∷ n kind.Module 1 1 0 20 (6 ∷ []) [] [] None ∷ n kind.File 1 1 0 20 (7 ∷ []) [] [] None ∷ [])

set_variable_defined_already : IsRefused set_variable_defined_already_nodes rule.DefinedTwice 1 23
unfolding checking
set_variable_defined_already = refl

-- p = proc () s = {s | s has f: int} end p
abbrev set_of_its_own_name_nodes : List Node
set_of_its_own_name_nodes =
    (n kind.Simple 1 31 14 14 [] [] (codes "int") (Some 14) ∷ n kind.Oper 1 28 12 14 (0 ∷ []) ((codes "f") ∷ []) []
    None ∷ n kind.TypeSet 1 17 7 15 (1 ∷ []) ((codes "s") ∷ (codes "s") ∷ []) [] None ∷ n kind.Equate 1 13 5 15 (2 ∷
    []) ((codes "s") ∷ []) [] None ∷ n kind.Routine 1 1 0 17 (3 ∷ []) ((codes "p") ∷ (codes "p") ∷ []) (codes "proc")
    (Some 2) ∷ n kind.Module 1 1 0 17 (4 ∷ []) [] [] None ∷ n kind.File 1 1 0 17 (5 ∷ []) [] [] None ∷ [])

set_of_its_own_name : IsRefused set_of_its_own_name_nodes rule.DefinedTwice 1 17
unfolding checking
set_of_its_own_name = refl

-- p = proc [t: type] () where t has f: proctype (t), f: proctype () end p
abbrev demands_that_disagree_nodes : List Node
demands_that_disagree_nodes =
    (n kind.Parm 1 11 4 6 [] ((codes "t") ∷ []) (codes "type") (Some 6) ∷ n kind.NameT 1 48 17 17 [] ((codes "t") ∷
    []) [] None ∷ n kind.RoutineT 1 38 15 18 (1 ∷ []) [] (codes "proctype") (Some 15) ∷ n kind.Oper 1 35 13 18 (2 ∷
    []) ((codes "f") ∷ []) [] None ∷ n kind.RoutineT 1 55 22 24 [] [] (codes "proctype") (Some 22) ∷ n kind.Oper 1 52
    20 24 (4 ∷ []) ((codes "f") ∷ []) [] None ∷ n kind.Restrict 1 29 11 24 (3 ∷ 5 ∷ []) ((codes "t") ∷ []) (codes
    "has") (Some 12) ∷ n kind.Where 1 23 10 24 (6 ∷ []) [] [] None ∷ n kind.Routine 1 1 0 26 (0 ∷ 7 ∷ []) ((codes "p")
    ∷ (codes "p") ∷ []) (codes "proc") (Some 2) ∷ n kind.Module 1 1 0 26 (8 ∷ []) [] [] None ∷ n kind.File 1 1 0 26 (9
    ∷ []) [] [] None ∷ [])

demands_that_disagree : IsRefused demands_that_disagree_nodes rule.DefinedTwice 1 52
unfolding checking
demands_that_disagree = refl

-- p = proc [t: type] () where t has f: proctype (t), t has f: proctype (t) end p
abbrev demands_that_agree_nodes : List Node
demands_that_agree_nodes =
    (n kind.Parm 1 11 4 6 [] ((codes "t") ∷ []) (codes "type") (Some 6) ∷ n kind.NameT 1 48 17 17 [] ((codes "t") ∷
    []) [] None ∷ n kind.RoutineT 1 38 15 18 (1 ∷ []) [] (codes "proctype") (Some 15) ∷ n kind.Oper 1 35 13 18 (2 ∷
    []) ((codes "f") ∷ []) [] None ∷ n kind.Restrict 1 29 11 18 (3 ∷ []) ((codes "t") ∷ []) (codes "has") (Some 12) ∷
    n kind.NameT 1 71 26 26 [] ((codes "t") ∷ []) [] None ∷ n kind.RoutineT 1 61 24 27 (5 ∷ []) [] (codes "proctype")
    (Some 24) ∷ n kind.Oper 1 58 22 27 (6 ∷ []) ((codes "f") ∷ []) [] None ∷ n kind.Restrict 1 52 20 27 (7 ∷ [])
    ((codes "t") ∷ []) (codes "has") (Some 21) ∷ n kind.Where 1 23 10 27 (4 ∷ 8 ∷ []) [] [] None ∷ n kind.Routine 1 1
    0 29 (0 ∷ 9 ∷ []) ((codes "p") ∷ (codes "p") ∷ []) (codes "proc") (Some 2) ∷ n kind.Module 1 1 0 29 (10 ∷ []) []
    [] None ∷ n kind.File 1 1 0 29 (11 ∷ []) [] [] None ∷ [])

demands_that_agree : IsFine demands_that_agree_nodes
unfolding checking
demands_that_agree = refl

-- s = {u | u has f: proctype ()} p = proc [t: type] () where t has f: proctype (t), t in s end p
abbrev demand_of_a_set_that_disagrees_nodes : List Node
demand_of_a_set_that_disagrees_nodes =
    (n kind.RoutineT 1 19 9 11 [] [] (codes "proctype") (Some 9) ∷ n kind.Oper 1 16 7 11 (0 ∷ []) ((codes "f") ∷ [])
    [] None ∷ n kind.TypeSet 1 5 2 12 (1 ∷ []) ((codes "u") ∷ (codes "u") ∷ []) [] None ∷ n kind.Equate 1 1 0 12 (2 ∷
    []) ((codes "s") ∷ []) [] None ∷ n kind.Parm 1 42 17 19 [] ((codes "t") ∷ []) (codes "type") (Some 19) ∷ n
    kind.NameT 1 79 30 30 [] ((codes "t") ∷ []) [] None ∷ n kind.RoutineT 1 69 28 31 (5 ∷ []) [] (codes "proctype")
    (Some 28) ∷ n kind.Oper 1 66 26 31 (6 ∷ []) ((codes "f") ∷ []) [] None ∷ n kind.Restrict 1 60 24 31 (7 ∷ [])
    ((codes "t") ∷ []) (codes "has") (Some 25) ∷ n kind.Restrict 1 83 33 35 [] ((codes "t") ∷ (codes "s") ∷ []) (codes
    "in") (Some 34) ∷ n kind.Where 1 54 23 35 (8 ∷ 9 ∷ []) [] [] None ∷ n kind.Routine 1 32 13 37 (4 ∷ 10 ∷ [])
    ((codes "p") ∷ (codes "p") ∷ []) (codes "proc") (Some 15) ∷ n kind.Module 1 1 0 37 (3 ∷ 11 ∷ []) [] [] None ∷ n
    kind.File 1 1 0 37 (12 ∷ []) [] [] None ∷ [])

demand_of_a_set_that_disagrees : IsRefused demand_of_a_set_that_disagrees_nodes rule.DefinedTwice 1 83
unfolding checking
demand_of_a_set_that_disagrees = refl

-- s = {u | u has f: proctype (u)} p = proc [t: type] () where t has f: proctype (t), t in s end p
abbrev demand_of_a_set_that_agrees_nodes : List Node
demand_of_a_set_that_agrees_nodes =
    (n kind.NameT 1 29 11 11 [] ((codes "u") ∷ []) [] None ∷ n kind.RoutineT 1 19 9 12 (0 ∷ []) [] (codes "proctype")
    (Some 9) ∷ n kind.Oper 1 16 7 12 (1 ∷ []) ((codes "f") ∷ []) [] None ∷ n kind.TypeSet 1 5 2 13 (2 ∷ []) ((codes
    "u") ∷ (codes "u") ∷ []) [] None ∷ n kind.Equate 1 1 0 13 (3 ∷ []) ((codes "s") ∷ []) [] None ∷ n kind.Parm 1 43
    18 20 [] ((codes "t") ∷ []) (codes "type") (Some 20) ∷ n kind.NameT 1 80 31 31 [] ((codes "t") ∷ []) [] None ∷ n
    kind.RoutineT 1 70 29 32 (6 ∷ []) [] (codes "proctype") (Some 29) ∷ n kind.Oper 1 67 27 32 (7 ∷ []) ((codes "f") ∷
    []) [] None ∷ n kind.Restrict 1 61 25 32 (8 ∷ []) ((codes "t") ∷ []) (codes "has") (Some 26) ∷ n kind.Restrict 1
    84 34 36 [] ((codes "t") ∷ (codes "s") ∷ []) (codes "in") (Some 35) ∷ n kind.Where 1 55 24 36 (9 ∷ 10 ∷ []) [] []
    None ∷ n kind.Routine 1 33 14 38 (5 ∷ 11 ∷ []) ((codes "p") ∷ (codes "p") ∷ []) (codes "proc") (Some 16) ∷ n
    kind.Module 1 1 0 38 (4 ∷ 12 ∷ []) [] [] None ∷ n kind.File 1 1 0 38 (13 ∷ []) [] [] None ∷ [])

demand_of_a_set_that_agrees : IsFine demand_of_a_set_that_agrees_nodes
unfolding checking
demand_of_a_set_that_agrees = refl

-- t = int p = proc () where t has f: proctype () end p
abbrev restrict_of_an_equated_type_nodes : List Node
restrict_of_an_equated_type_nodes =
    (n kind.Simple 1 5 2 2 [] [] (codes "int") (Some 2) ∷ n kind.Equate 1 1 0 2 (0 ∷ []) ((codes "t") ∷ []) [] None ∷
    n kind.RoutineT 1 36 13 15 [] [] (codes "proctype") (Some 13) ∷ n kind.Oper 1 33 11 15 (2 ∷ []) ((codes "f") ∷ [])
    [] None ∷ n kind.Restrict 1 27 9 15 (3 ∷ []) ((codes "t") ∷ []) (codes "has") (Some 10) ∷ n kind.Where 1 21 8 15
    (4 ∷ []) [] [] None ∷ n kind.Routine 1 9 3 17 (5 ∷ []) ((codes "p") ∷ (codes "p") ∷ []) (codes "proc") (Some 5) ∷
    n kind.Module 1 1 0 17 (1 ∷ 6 ∷ []) [] [] None ∷ n kind.File 1 1 0 17 (7 ∷ []) [] [] None ∷ [])

restrict_of_an_equated_type : IsRefused restrict_of_an_equated_type_nodes rule.NotType 1 27
unfolding checking
restrict_of_an_equated_type = refl

-- p = proc () where t has f: proctype () end p
abbrev restrict_of_an_unknown_name_nodes : List Node
restrict_of_an_unknown_name_nodes =
    (n kind.RoutineT 1 28 10 12 [] [] (codes "proctype") (Some 10) ∷ n kind.Oper 1 25 8 12 (0 ∷ []) ((codes "f") ∷ [])
    [] None ∷ n kind.Restrict 1 19 6 12 (1 ∷ []) ((codes "t") ∷ []) (codes "has") (Some 7) ∷ n kind.Where 1 13 5 12 (2
    ∷ []) [] [] None ∷ n kind.Routine 1 1 0 14 (3 ∷ []) ((codes "p") ∷ (codes "p") ∷ []) (codes "proc") (Some 2) ∷ n
    kind.Module 1 1 0 14 (4 ∷ []) [] [] None ∷ n kind.File 1 1 0 14 (5 ∷ []) [] [] None ∷ [])

restrict_of_an_unknown_name : IsRefused restrict_of_an_unknown_name_nodes rule.UnknownName 1 19
unfolding checking
restrict_of_an_unknown_name = refl

-- p = proc [n: int] () where n has f: proctype () end p
abbrev restrict_of_a_constant_parameter_nodes : List Node
restrict_of_a_constant_parameter_nodes =
    (n kind.Simple 1 14 6 6 [] [] (codes "int") (Some 6) ∷ n kind.Parm 1 11 4 6 (0 ∷ []) ((codes "n") ∷ []) [] None ∷
    n kind.RoutineT 1 37 15 17 [] [] (codes "proctype") (Some 15) ∷ n kind.Oper 1 34 13 17 (2 ∷ []) ((codes "f") ∷ [])
    [] None ∷ n kind.Restrict 1 28 11 17 (3 ∷ []) ((codes "n") ∷ []) (codes "has") (Some 12) ∷ n kind.Where 1 22 10 17
    (4 ∷ []) [] [] None ∷ n kind.Routine 1 1 0 19 (1 ∷ 5 ∷ []) ((codes "p") ∷ (codes "p") ∷ []) (codes "proc") (Some
    2) ∷ n kind.Module 1 1 0 19 (6 ∷ []) [] [] None ∷ n kind.File 1 1 0 19 (7 ∷ []) [] [] None ∷ [])

restrict_of_a_constant_parameter : IsRefused restrict_of_a_constant_parameter_nodes rule.NotType 1 28
unfolding checking
restrict_of_a_constant_parameter = refl

-- s = int p = proc [t: type] () where t in s end p
abbrev restrict_in_no_set_nodes : List Node
restrict_in_no_set_nodes =
    (n kind.Simple 1 5 2 2 [] [] (codes "int") (Some 2) ∷ n kind.Equate 1 1 0 2 (0 ∷ []) ((codes "s") ∷ []) [] None ∷
    n kind.Parm 1 19 7 9 [] ((codes "t") ∷ []) (codes "type") (Some 9) ∷ n kind.Restrict 1 37 14 16 [] ((codes "t") ∷
    (codes "s") ∷ []) (codes "in") (Some 15) ∷ n kind.Where 1 31 13 16 (3 ∷ []) [] [] None ∷ n kind.Routine 1 9 3 18
    (2 ∷ 4 ∷ []) ((codes "p") ∷ (codes "p") ∷ []) (codes "proc") (Some 5) ∷ n kind.Module 1 1 0 18 (1 ∷ 5 ∷ []) [] []
    None ∷ n kind.File 1 1 0 18 (6 ∷ []) [] [] None ∷ [])

restrict_in_no_set : IsRefused restrict_in_no_set_nodes rule.NotType 1 37
unfolding checking
restrict_in_no_set = refl

-- s = {u | u has f: proctype (u)} r = s p = proc [t: type] () where t in r end p
abbrev a_set_by_another_name_nodes : List Node
a_set_by_another_name_nodes =
    (n kind.NameT 1 29 11 11 [] ((codes "u") ∷ []) [] None ∷ n kind.RoutineT 1 19 9 12 (0 ∷ []) [] (codes "proctype")
    (Some 9) ∷ n kind.Oper 1 16 7 12 (1 ∷ []) ((codes "f") ∷ []) [] None ∷ n kind.TypeSet 1 5 2 13 (2 ∷ []) ((codes
    "u") ∷ (codes "u") ∷ []) [] None ∷ n kind.Equate 1 1 0 13 (3 ∷ []) ((codes "s") ∷ []) [] None ∷ n kind.Name 1 37
    16 16 [] ((codes "s") ∷ []) [] None ∷ n kind.Equate 1 33 14 16 (5 ∷ []) ((codes "r") ∷ []) [] None ∷ n kind.Parm 1
    49 21 23 [] ((codes "t") ∷ []) (codes "type") (Some 23) ∷ n kind.Restrict 1 67 28 30 [] ((codes "t") ∷ (codes "r")
    ∷ []) (codes "in") (Some 29) ∷ n kind.Where 1 61 27 30 (8 ∷ []) [] [] None ∷ n kind.Routine 1 39 17 32 (7 ∷ 9 ∷
    []) ((codes "p") ∷ (codes "p") ∷ []) (codes "proc") (Some 19) ∷ n kind.Module 1 1 0 32 (4 ∷ 6 ∷ 10 ∷ []) [] []
    None ∷ n kind.File 1 1 0 32 (11 ∷ []) [] [] None ∷ [])

a_set_by_another_name : IsFine a_set_by_another_name_nodes
unfolding checking
a_set_by_another_name = refl

-- c = cluster is m m = proc (x: cvt) x := x end m end c
abbrev cvt_without_rep_nodes : List Node
cvt_without_rep_nodes =
    (n kind.Simple 1 31 11 11 [] [] (codes "cvt") (Some 11) ∷ n kind.Decl 1 28 9 11 (0 ∷ []) ((codes "x") ∷ []) []
    None ∷ n kind.Name 1 41 15 15 [] ((codes "x") ∷ []) [] None ∷ n kind.Assign 1 36 13 15 (2 ∷ []) ((codes "x") ∷ [])
    [] None ∷ n kind.Routine 1 18 5 17 (1 ∷ 3 ∷ []) ((codes "m") ∷ (codes "m") ∷ []) (codes "proc") (Some 7) ∷ n
    kind.Cluster 1 1 0 19 (4 ∷ []) ((codes "c") ∷ (codes "m") ∷ (codes "c") ∷ []) [] None ∷ n kind.Module 1 1 0 19 (5
    ∷ []) [] [] None ∷ n kind.File 1 1 0 19 (6 ∷ []) [] [] None ∷ [])

cvt_without_rep : IsRefused cvt_without_rep_nodes rule.CvtPlace 1 1
unfolding checking
cvt_without_rep = refl

-- c = cluster is m rep = int rep = int m = proc () end m end c
abbrev cluster_with_two_reps_nodes : List Node
cluster_with_two_reps_nodes =
    (n kind.Simple 1 24 7 7 [] [] (codes "int") (Some 7) ∷ n kind.Equate 1 18 5 7 (0 ∷ []) [] (codes "rep") (Some 5) ∷
    n kind.Simple 1 34 10 10 [] [] (codes "int") (Some 10) ∷ n kind.Equate 1 28 8 10 (2 ∷ []) [] (codes "rep") (Some
    8) ∷ n kind.Routine 1 38 11 17 [] ((codes "m") ∷ (codes "m") ∷ []) (codes "proc") (Some 13) ∷ n kind.Cluster 1 1 0
    19 (1 ∷ 3 ∷ 4 ∷ []) ((codes "c") ∷ (codes "m") ∷ (codes "c") ∷ []) [] None ∷ n kind.Module 1 1 0 19 (5 ∷ []) [] []
    None ∷ n kind.File 1 1 0 19 (6 ∷ []) [] [] None ∷ [])

cluster_with_two_reps : IsRefused cluster_with_two_reps_nodes rule.CvtPlace 1 1
unfolding checking
cluster_with_two_reps = refl

-- p = proc () for i: int in int$from_to(1, i) do end end p
abbrev loop_variable_in_its_call_nodes : List Node
loop_variable_in_its_call_nodes =
    (n kind.Simple 1 20 8 8 [] [] (codes "int") (Some 8) ∷ n kind.Decl 1 17 6 8 (0 ∷ []) ((codes "i") ∷ []) [] None ∷
    n kind.Simple 1 27 10 10 [] [] (codes "int") (Some 10) ∷ n kind.OperOf 1 27 10 12 (2 ∷ []) ((codes "from_to") ∷
    []) [] None ∷ n kind.Literal 1 39 14 14 [] [] (codes "1") (Some 14) ∷ n kind.Name 1 42 16 16 [] ((codes "i") ∷ [])
    [] None ∷ n kind.Call 1 38 10 17 (3 ∷ 4 ∷ 5 ∷ []) [] [] None ∷ n kind.For 1 13 5 19 (1 ∷ 6 ∷ []) [] [] None ∷ n
    kind.Routine 1 1 0 21 (7 ∷ []) ((codes "p") ∷ (codes "p") ∷ []) (codes "proc") (Some 2) ∷ n kind.Module 1 1 0 21
    (8 ∷ []) [] [] None ∷ n kind.File 1 1 0 21 (9 ∷ []) [] [] None ∷ [])

loop_variable_in_its_call : IsRefused loop_variable_in_its_call_nodes rule.UnknownName 1 42
unfolding checking
loop_variable_in_its_call = refl

-- p = proc () for i: int, i: int in q() do end end p q = iter () yields (int, int) end q
abbrev loop_variables_twice_nodes : List Node
loop_variables_twice_nodes =
    (n kind.Simple 1 20 8 8 [] [] (codes "int") (Some 8) ∷ n kind.Decl 1 17 6 8 (0 ∷ []) ((codes "i") ∷ []) [] None ∷
    n kind.Simple 1 28 12 12 [] [] (codes "int") (Some 12) ∷ n kind.Decl 1 25 10 12 (2 ∷ []) ((codes "i") ∷ []) []
    None ∷ n kind.Name 1 35 14 14 [] ((codes "q") ∷ []) [] None ∷ n kind.Call 1 36 14 16 (4 ∷ []) [] [] None ∷ n
    kind.For 1 13 5 18 (1 ∷ 3 ∷ 5 ∷ []) [] [] None ∷ n kind.Routine 1 1 0 20 (6 ∷ []) ((codes "p") ∷ (codes "p") ∷ [])
    (codes "proc") (Some 2) ∷ n kind.Module 1 1 0 20 (7 ∷ []) [] [] None ∷ n kind.Simple 1 72 28 28 [] [] (codes
    "int") (Some 28) ∷ n kind.Simple 1 77 30 30 [] [] (codes "int") (Some 30) ∷ n kind.Results 1 64 26 31 (9 ∷ 10 ∷
    []) [] (codes "yields") (Some 26) ∷ n kind.Routine 1 52 21 33 (11 ∷ []) ((codes "q") ∷ (codes "q") ∷ []) (codes
    "iter") (Some 23) ∷ n kind.Module 1 52 21 33 (12 ∷ []) [] [] None ∷ n kind.File 1 1 0 33 (8 ∷ 13 ∷ []) [] [] None
    ∷ [])

loop_variables_twice : IsRefused loop_variables_twice_nodes rule.DefinedTwice 1 25
unfolding checking
loop_variables_twice = refl

-- p = proc () a = {u | u has f: proctype (u)} u = a end p
abbrev equate_after_the_variable_of_a_set_nodes : List Node
equate_after_the_variable_of_a_set_nodes =
    (n kind.NameT 1 41 16 16 [] ((codes "u") ∷ []) [] None ∷ n kind.RoutineT 1 31 14 17 (0 ∷ []) [] (codes "proctype")
    (Some 14) ∷ n kind.Oper 1 28 12 17 (1 ∷ []) ((codes "f") ∷ []) [] None ∷ n kind.TypeSet 1 17 7 18 (2 ∷ []) ((codes
    "u") ∷ (codes "u") ∷ []) [] None ∷ n kind.Equate 1 13 5 18 (3 ∷ []) ((codes "a") ∷ []) [] None ∷ n kind.Name 1 49
    21 21 [] ((codes "a") ∷ []) [] None ∷ n kind.Equate 1 45 19 21 (5 ∷ []) ((codes "u") ∷ []) [] None ∷ n
    kind.Routine 1 1 0 23 (4 ∷ 6 ∷ []) ((codes "p") ∷ (codes "p") ∷ []) (codes "proc") (Some 2) ∷ n kind.Module 1 1 0
    23 (7 ∷ []) [] [] None ∷ n kind.File 1 1 0 23 (8 ∷ []) [] [] None ∷ [])

equate_after_the_variable_of_a_set : IsRefused equate_after_the_variable_of_a_set_nodes rule.CircularEquate 1 41
unfolding checking
equate_after_the_variable_of_a_set = refl

-- c = cluster is f rep = int f = proc (x: oneof[a: int]) tagcase x tag a (g: int): y: int := g end end f g = proc () end g end c
abbrev routine_after_the_variable_of_an_arm_nodes : List Node
routine_after_the_variable_of_an_arm_nodes =
    (n kind.Simple 1 24 7 7 [] [] (codes "int") (Some 7) ∷ n kind.Equate 1 18 5 7 (0 ∷ []) [] (codes "rep") (Some 5) ∷
    n kind.Simple 1 50 18 18 [] [] (codes "int") (Some 18) ∷ n kind.FieldT 1 47 16 18 (2 ∷ []) ((codes "a") ∷ []) []
    None ∷ n kind.FieldsT 1 41 14 19 (3 ∷ []) [] (codes "oneof") (Some 14) ∷ n kind.Decl 1 38 12 19 (4 ∷ []) ((codes
    "x") ∷ []) [] None ∷ n kind.Name 1 64 22 22 [] ((codes "x") ∷ []) [] None ∷ n kind.Simple 1 76 28 28 [] [] (codes
    "int") (Some 28) ∷ n kind.Simple 1 85 33 33 [] [] (codes "int") (Some 33) ∷ n kind.Name 1 92 35 35 [] ((codes "g")
    ∷ []) [] None ∷ n kind.Init 1 82 31 35 (8 ∷ 9 ∷ []) ((codes "y") ∷ []) [] None ∷ n kind.TagArm 1 66 23 35 (7 ∷ 10
    ∷ []) ((codes "a") ∷ (codes "g") ∷ []) [] None ∷ n kind.Tagcase 1 56 21 36 (6 ∷ 11 ∷ []) [] [] None ∷ n
    kind.Routine 1 28 8 38 (5 ∷ 12 ∷ []) ((codes "f") ∷ (codes "f") ∷ []) (codes "proc") (Some 10) ∷ n kind.Routine 1
    104 39 45 [] ((codes "g") ∷ (codes "g") ∷ []) (codes "proc") (Some 41) ∷ n kind.Cluster 1 1 0 47 (1 ∷ 13 ∷ 14 ∷
    []) ((codes "c") ∷ (codes "f") ∷ (codes "c") ∷ []) [] None ∷ n kind.Module 1 1 0 47 (15 ∷ []) [] [] None ∷ n
    kind.File 1 1 0 47 (16 ∷ []) [] [] None ∷ [])

routine_after_the_variable_of_an_arm : IsRefused routine_after_the_variable_of_an_arm_nodes rule.AssignType 1 82
unfolding checking
routine_after_the_variable_of_an_arm = refl

-- p = proc [n: int] () where n has f: proctype (), f: int end p
abbrev demands_of_a_constant_parameter_nodes : List Node
demands_of_a_constant_parameter_nodes =
    (n kind.Simple 1 14 6 6 [] [] (codes "int") (Some 6) ∷ n kind.Parm 1 11 4 6 (0 ∷ []) ((codes "n") ∷ []) [] None ∷
    n kind.RoutineT 1 37 15 17 [] [] (codes "proctype") (Some 15) ∷ n kind.Oper 1 34 13 17 (2 ∷ []) ((codes "f") ∷ [])
    [] None ∷ n kind.Simple 1 53 21 21 [] [] (codes "int") (Some 21) ∷ n kind.Oper 1 50 19 21 (4 ∷ []) ((codes "f") ∷
    []) [] None ∷ n kind.Restrict 1 28 11 21 (3 ∷ 5 ∷ []) ((codes "n") ∷ []) (codes "has") (Some 12) ∷ n kind.Where 1
    22 10 21 (6 ∷ []) [] [] None ∷ n kind.Routine 1 1 0 23 (1 ∷ 7 ∷ []) ((codes "p") ∷ (codes "p") ∷ []) (codes
    "proc") (Some 2) ∷ n kind.Module 1 1 0 23 (8 ∷ []) [] [] None ∷ n kind.File 1 1 0 23 (9 ∷ []) [] [] None ∷ [])

demands_of_a_constant_parameter : IsRefused demands_of_a_constant_parameter_nodes rule.NotType 1 28
unfolding checking
demands_of_a_constant_parameter = refl
