-- Files that are checked: corners of several rules. Each is the tree of the CLU above it.
use Rattle.std.specs.Prelude.{refl, List, [], ◌∷◌, codes, Some, None}
use Rattle.clu_base.specs.declared.rules.Rule.TheVariants as rule
use Rattle.clu_tree.specs.declared.node.Node.{Node}
use Rattle.clu_tree.specs.declared.node.NodeKind.TheVariants as kind
use Rattle.clu_checking.proofs.Checking.{n, IsRefused, IsFine, checking}

-- c = cluster is m rep = int m = proc () end m end c
-- p = proc (c: c) end p
-- start_up = proc () end start_up
abbrev corner_1_nodes : List Node
corner_1_nodes =
    (n kind.Simple 1 24 7 7 [] [] (codes "int") (Some 7) ∷ n kind.Equate 1 18 5 7 (0 ∷ []) [] (codes "rep") (Some 5) ∷
    n kind.Routine 1 28 8 14 [] ((codes "m") ∷ (codes "m") ∷ []) (codes "proc") (Some 10) ∷ n kind.Cluster 1 1 0 16 (1
    ∷ 2 ∷ []) ((codes "c") ∷ (codes "m") ∷ (codes "c") ∷ []) [] None ∷ n kind.Module 1 1 0 16 (3 ∷ []) [] [] None ∷ n
    kind.NameT 2 14 23 23 [] ((codes "c") ∷ []) [] None ∷ n kind.Decl 2 11 21 23 (5 ∷ []) ((codes "c") ∷ []) [] None ∷
    n kind.Routine 2 1 17 26 (6 ∷ []) ((codes "p") ∷ (codes "p") ∷ []) (codes "proc") (Some 19) ∷ n kind.Module 2 1 17
    26 (7 ∷ []) [] [] None ∷ n kind.Routine 3 1 27 33 [] ((codes "start_up") ∷ (codes "start_up") ∷ []) (codes "proc")
    (Some 29) ∷ n kind.Module 3 1 27 33 (9 ∷ []) [] [] None ∷ n kind.File 1 1 0 33 (4 ∷ 8 ∷ 10 ∷ []) [] [] None ∷ [])

corner_1 : IsFine corner_1_nodes
unfolding checking
corner_1 = refl

-- c = cluster is m
--   rep = int
--   m = proc (c, d: c, e: int) end m
-- end c
-- start_up = proc () end start_up
abbrev corner_2_nodes : List Node
corner_2_nodes =
    (n kind.Simple 2 9 7 7 [] [] (codes "int") (Some 7) ∷ n kind.Equate 2 3 5 7 (0 ∷ []) [] (codes "rep") (Some 5) ∷ n
    kind.NameT 3 19 16 16 [] ((codes "c") ∷ []) [] None ∷ n kind.Decl 3 13 12 16 (2 ∷ []) ((codes "c") ∷ (codes "d") ∷
    []) [] None ∷ n kind.Simple 3 25 20 20 [] [] (codes "int") (Some 20) ∷ n kind.Decl 3 22 18 20 (4 ∷ []) ((codes
    "e") ∷ []) [] None ∷ n kind.Routine 3 3 8 23 (3 ∷ 5 ∷ []) ((codes "m") ∷ (codes "m") ∷ []) (codes "proc") (Some
    10) ∷ n kind.Cluster 1 1 0 25 (1 ∷ 6 ∷ []) ((codes "c") ∷ (codes "m") ∷ (codes "c") ∷ []) [] None ∷ n kind.Module
    1 1 0 25 (7 ∷ []) [] [] None ∷ n kind.Routine 5 1 26 32 [] ((codes "start_up") ∷ (codes "start_up") ∷ []) (codes
    "proc") (Some 28) ∷ n kind.Module 5 1 26 32 (9 ∷ []) [] [] None ∷ n kind.File 1 1 0 32 (8 ∷ 10 ∷ []) [] [] None ∷
    [])

corner_2 : IsFine corner_2_nodes
unfolding checking
corner_2 = refl

-- c = cluster is m rep = int m = proc () end m end c
-- p = proc (c: proctype (c) returns (c)) end p
-- start_up = proc () end start_up
abbrev corner_3_nodes : List Node
corner_3_nodes =
    (n kind.Simple 1 24 7 7 [] [] (codes "int") (Some 7) ∷ n kind.Equate 1 18 5 7 (0 ∷ []) [] (codes "rep") (Some 5) ∷
    n kind.Routine 1 28 8 14 [] ((codes "m") ∷ (codes "m") ∷ []) (codes "proc") (Some 10) ∷ n kind.Cluster 1 1 0 16 (1
    ∷ 2 ∷ []) ((codes "c") ∷ (codes "m") ∷ (codes "c") ∷ []) [] None ∷ n kind.Module 1 1 0 16 (3 ∷ []) [] [] None ∷ n
    kind.NameT 2 24 25 25 [] ((codes "c") ∷ []) [] None ∷ n kind.NameT 2 36 29 29 [] ((codes "c") ∷ []) [] None ∷ n
    kind.Results 2 27 27 30 (6 ∷ []) [] (codes "returns") (Some 27) ∷ n kind.RoutineT 2 14 23 30 (5 ∷ 7 ∷ []) []
    (codes "proctype") (Some 23) ∷ n kind.Decl 2 11 21 30 (8 ∷ []) ((codes "c") ∷ []) [] None ∷ n kind.Routine 2 1 17
    33 (9 ∷ []) ((codes "p") ∷ (codes "p") ∷ []) (codes "proc") (Some 19) ∷ n kind.Module 2 1 17 33 (10 ∷ []) [] []
    None ∷ n kind.Routine 3 1 34 40 [] ((codes "start_up") ∷ (codes "start_up") ∷ []) (codes "proc") (Some 36) ∷ n
    kind.Module 3 1 34 40 (12 ∷ []) [] [] None ∷ n kind.File 1 1 0 40 (4 ∷ 11 ∷ 13 ∷ []) [] [] None ∷ [])

corner_3 : IsFine corner_3_nodes
unfolding checking
corner_3 = refl

-- p = proc (x: x) x = int end p
abbrev corner_4_nodes : List Node
corner_4_nodes =
    (n kind.NameT 1 14 6 6 [] ((codes "x") ∷ []) [] None ∷ n kind.Decl 1 11 4 6 (0 ∷ []) ((codes "x") ∷ []) [] None ∷
    n kind.Simple 1 21 10 10 [] [] (codes "int") (Some 10) ∷ n kind.Equate 1 17 8 10 (2 ∷ []) ((codes "x") ∷ []) []
    None ∷ n kind.Routine 1 1 0 12 (1 ∷ 3 ∷ []) ((codes "p") ∷ (codes "p") ∷ []) (codes "proc") (Some 2) ∷ n
    kind.Module 1 1 0 12 (4 ∷ []) [] [] None ∷ n kind.File 1 1 0 12 (5 ∷ []) [] [] None ∷ [])

corner_4 : IsRefused corner_4_nodes rule.DefinedTwice 1 17
unfolding checking
corner_4 = refl

-- t = int
-- start_up = proc () x: int := t[1] end start_up
abbrev corner_5_nodes : List Node
corner_5_nodes =
    (n kind.Simple 1 5 2 2 [] [] (codes "int") (Some 2) ∷ n kind.Equate 1 1 0 2 (0 ∷ []) ((codes "t") ∷ []) [] None ∷
    n kind.Simple 2 23 10 10 [] [] (codes "int") (Some 10) ∷ n kind.Name 2 30 12 12 [] ((codes "t") ∷ []) [] None ∷ n
    kind.Literal 2 32 14 14 [] [] (codes "1") (Some 14) ∷ n kind.Index 2 31 12 15 (3 ∷ 4 ∷ []) [] [] None ∷ n
    kind.Init 2 20 8 15 (2 ∷ 5 ∷ []) ((codes "x") ∷ []) [] None ∷ n kind.Routine 2 1 3 17 (6 ∷ []) ((codes "start_up")
    ∷ (codes "start_up") ∷ []) (codes "proc") (Some 5) ∷ n kind.Module 1 1 0 17 (1 ∷ 7 ∷ []) [] [] None ∷ n kind.File
    1 1 0 17 (8 ∷ []) [] [] None ∷ [])

corner_5 : IsRefused corner_5_nodes rule.ResultCount 2 30
unfolding checking
corner_5 = refl

-- start_up = proc () stream := 1 end start_up
abbrev corner_6_nodes : List Node
corner_6_nodes =
    (n kind.Literal 1 30 7 7 [] [] (codes "1") (Some 7) ∷ n kind.Assign 1 20 5 7 (0 ∷ []) ((codes "stream") ∷ []) []
    None ∷ n kind.Routine 1 1 0 9 (1 ∷ []) ((codes "start_up") ∷ (codes "start_up") ∷ []) (codes "proc") (Some 2) ∷ n
    kind.Module 1 1 0 9 (2 ∷ []) [] [] None ∷ n kind.File 1 1 0 9 (3 ∷ []) [] [] None ∷ [])

corner_6 : IsRefused corner_6_nodes rule.AssignType 1 20
unfolding checking
corner_6 = refl

-- c = cluster [t: type] is m rep = int m = proc () end m end c
-- p = proc (m1: int) returns (c[(m1 + 1)]) end p
abbrev corner_7_nodes : List Node
corner_7_nodes =
    (n kind.Parm 1 14 4 6 [] ((codes "t") ∷ []) (codes "type") (Some 6) ∷ n kind.Simple 1 34 12 12 [] [] (codes "int")
    (Some 12) ∷ n kind.Equate 1 28 10 12 (1 ∷ []) [] (codes "rep") (Some 10) ∷ n kind.Routine 1 38 13 19 [] ((codes
    "m") ∷ (codes "m") ∷ []) (codes "proc") (Some 15) ∷ n kind.Cluster 1 1 0 21 (0 ∷ 2 ∷ 3 ∷ []) ((codes "c") ∷ (codes
    "m") ∷ (codes "c") ∷ []) [] None ∷ n kind.Module 1 1 0 21 (4 ∷ []) [] [] None ∷ n kind.Simple 2 15 28 28 [] []
    (codes "int") (Some 28) ∷ n kind.Decl 2 11 26 28 (6 ∷ []) ((codes "m1") ∷ []) [] None ∷ n kind.Name 2 32 35 35 []
    ((codes "m1") ∷ []) [] None ∷ n kind.Literal 2 37 37 37 [] [] (codes "1") (Some 37) ∷ n kind.Infix 2 35 35 37 (8 ∷
    9 ∷ []) [] (codes "+") (Some 36) ∷ n kind.Paren 2 31 34 38 (10 ∷ []) [] [] None ∷ n kind.NameT 2 29 32 39 (11 ∷
    []) ((codes "c") ∷ []) [] None ∷ n kind.Results 2 20 30 40 (12 ∷ []) [] (codes "returns") (Some 30) ∷ n
    kind.Routine 2 1 22 42 (7 ∷ 13 ∷ []) ((codes "p") ∷ (codes "p") ∷ []) (codes "proc") (Some 24) ∷ n kind.Module 2 1
    22 42 (14 ∷ []) [] [] None ∷ n kind.File 1 1 0 42 (5 ∷ 15 ∷ []) [] [] None ∷ [])

corner_7 : IsRefused corner_7_nodes rule.NotType 2 31
unfolding checking
corner_7 = refl

-- c = cluster [k: type] is m
--   rep = record[a: int]
--   m = proc (l: c[k]) returns (c[down(l).a]) end m
-- end c
abbrev corner_8_nodes : List Node
corner_8_nodes =
    (n kind.Parm 1 14 4 6 [] ((codes "k") ∷ []) (codes "type") (Some 6) ∷ n kind.Simple 2 19 16 16 [] [] (codes "int")
    (Some 16) ∷ n kind.FieldT 2 16 14 16 (1 ∷ []) ((codes "a") ∷ []) [] None ∷ n kind.FieldsT 2 9 12 17 (2 ∷ []) []
    (codes "record") (Some 12) ∷ n kind.Equate 2 3 10 17 (3 ∷ []) [] (codes "rep") (Some 10) ∷ n kind.Name 3 18 26 26
    [] ((codes "k") ∷ []) [] None ∷ n kind.NameT 3 16 24 27 (5 ∷ []) ((codes "c") ∷ []) [] None ∷ n kind.Decl 3 13 22
    27 (6 ∷ []) ((codes "l") ∷ []) [] None ∷ n kind.Name 3 38 35 35 [] ((codes "l") ∷ []) [] None ∷ n kind.Down 3 33
    33 36 (8 ∷ []) [] [] None ∷ n kind.Get 3 40 33 38 (9 ∷ []) ((codes "a") ∷ []) [] None ∷ n kind.NameT 3 31 31 39
    (10 ∷ []) ((codes "c") ∷ []) [] None ∷ n kind.Results 3 22 29 40 (11 ∷ []) [] (codes "returns") (Some 29) ∷ n
    kind.Routine 3 3 18 42 (7 ∷ 12 ∷ []) ((codes "m") ∷ (codes "m") ∷ []) (codes "proc") (Some 20) ∷ n kind.Cluster 1
    1 0 44 (0 ∷ 4 ∷ 13 ∷ []) ((codes "c") ∷ (codes "m") ∷ (codes "c") ∷ []) [] None ∷ n kind.Module 1 1 0 44 (14 ∷ [])
    [] [] None ∷ n kind.File 1 1 0 44 (15 ∷ []) [] [] None ∷ [])

corner_8 : IsRefused corner_8_nodes rule.NotType 3 40
unfolding checking
corner_8 = refl

-- c = cluster is m
--   m = proc () x: rep end m
-- end c
abbrev corner_9_nodes : List Node
corner_9_nodes =
    (n kind.Simple 2 18 12 12 [] [] (codes "rep") (Some 12) ∷ n kind.Decl 2 15 10 12 (0 ∷ []) ((codes "x") ∷ []) []
    None ∷ n kind.Declare 2 15 10 12 (1 ∷ []) [] [] None ∷ n kind.Routine 2 3 5 14 (2 ∷ []) ((codes "m") ∷ (codes "m")
    ∷ []) (codes "proc") (Some 7) ∷ n kind.Cluster 1 1 0 16 (3 ∷ []) ((codes "c") ∷ (codes "m") ∷ (codes "c") ∷ []) []
    None ∷ n kind.Module 1 1 0 16 (4 ∷ []) [] [] None ∷ n kind.File 1 1 0 16 (5 ∷ []) [] [] None ∷ [])

corner_9 : IsRefused corner_9_nodes rule.NotType 2 18
unfolding checking
corner_9 = refl

-- q = proc () end q
-- p = proc (x: q) end p
-- q = cluster is m rep = int m = proc () end m end q
abbrev corner_10_nodes : List Node
corner_10_nodes =
    (n kind.Routine 1 1 0 6 [] ((codes "q") ∷ (codes "q") ∷ []) (codes "proc") (Some 2) ∷ n kind.Module 1 1 0 6 (0 ∷
    []) [] [] None ∷ n kind.NameT 2 14 13 13 [] ((codes "q") ∷ []) [] None ∷ n kind.Decl 2 11 11 13 (2 ∷ []) ((codes
    "x") ∷ []) [] None ∷ n kind.Routine 2 1 7 16 (3 ∷ []) ((codes "p") ∷ (codes "p") ∷ []) (codes "proc") (Some 9) ∷ n
    kind.Module 2 1 7 16 (4 ∷ []) [] [] None ∷ n kind.Simple 3 24 24 24 [] [] (codes "int") (Some 24) ∷ n kind.Equate
    3 18 22 24 (6 ∷ []) [] (codes "rep") (Some 22) ∷ n kind.Routine 3 28 25 31 [] ((codes "m") ∷ (codes "m") ∷ [])
    (codes "proc") (Some 27) ∷ n kind.Cluster 3 1 17 33 (7 ∷ 8 ∷ []) ((codes "q") ∷ (codes "m") ∷ (codes "q") ∷ []) []
    None ∷ n kind.Module 3 1 17 33 (9 ∷ []) [] [] None ∷ n kind.File 1 1 0 33 (1 ∷ 5 ∷ 10 ∷ []) [] [] None ∷ [])

corner_10 : IsRefused corner_10_nodes rule.NotType 2 14
unfolding checking
corner_10 = refl

-- c = cluster is m
--   m = proc (x: cvt) x := 1 end m
-- end c
abbrev corner_11_nodes : List Node
corner_11_nodes =
    (n kind.Simple 2 16 11 11 [] [] (codes "cvt") (Some 11) ∷ n kind.Decl 2 13 9 11 (0 ∷ []) ((codes "x") ∷ []) []
    None ∷ n kind.Literal 2 26 15 15 [] [] (codes "1") (Some 15) ∷ n kind.Assign 2 21 13 15 (2 ∷ []) ((codes "x") ∷
    []) [] None ∷ n kind.Routine 2 3 5 17 (1 ∷ 3 ∷ []) ((codes "m") ∷ (codes "m") ∷ []) (codes "proc") (Some 7) ∷ n
    kind.Cluster 1 1 0 19 (4 ∷ []) ((codes "c") ∷ (codes "m") ∷ (codes "c") ∷ []) [] None ∷ n kind.Module 1 1 0 19 (5
    ∷ []) [] [] None ∷ n kind.File 1 1 0 19 (6 ∷ []) [] [] None ∷ [])

corner_11 : IsRefused corner_11_nodes rule.AssignType 2 21
unfolding checking
corner_11 = refl

-- p = proc () x: char := "xyz"[any] end p
abbrev corner_12_nodes : List Node
corner_12_nodes =
    (n kind.Simple 1 16 7 7 [] [] (codes "char") (Some 7) ∷ n kind.Literal 1 24 9 9 [] [] (34 ∷ 120 ∷ 121 ∷ 122 ∷ 34 ∷
    []) (Some 9) ∷ n kind.Simple 1 30 11 11 [] [] (codes "any") (Some 11) ∷ n kind.Index 1 29 9 12 (1 ∷ 2 ∷ []) [] []
    None ∷ n kind.Init 1 13 5 12 (0 ∷ 3 ∷ []) ((codes "x") ∷ []) [] None ∷ n kind.Routine 1 1 0 14 (4 ∷ []) ((codes
    "p") ∷ (codes "p") ∷ []) (codes "proc") (Some 2) ∷ n kind.Module 1 1 0 14 (5 ∷ []) [] [] None ∷ n kind.File 1 1 0
    14 (6 ∷ []) [] [] None ∷ [])

corner_12 : IsRefused corner_12_nodes rule.ResultCount 1 30
unfolding checking
corner_12 = refl

-- start_up = proc () t1 = stream[int] end start_up
abbrev corner_13_nodes : List Node
corner_13_nodes =
    (n kind.Name 1 25 7 7 [] ((codes "stream") ∷ []) [] None ∷ n kind.Simple 1 32 9 9 [] [] (codes "int") (Some 9) ∷ n
    kind.Index 1 31 7 10 (0 ∷ 1 ∷ []) [] [] None ∷ n kind.Equate 1 20 5 10 (2 ∷ []) ((codes "t1") ∷ []) [] None ∷ n
    kind.Routine 1 1 0 12 (3 ∷ []) ((codes "start_up") ∷ (codes "start_up") ∷ []) (codes "proc") (Some 2) ∷ n
    kind.Module 1 1 0 12 (4 ∷ []) [] [] None ∷ n kind.File 1 1 0 12 (5 ∷ []) [] [] None ∷ [])

corner_13 : IsRefused corner_13_nodes rule.ParameterKind 1 31
unfolding checking
corner_13 = refl

-- start_up = proc () a = 1 begin a = a end end start_up
abbrev corner_14_nodes : List Node
corner_14_nodes =
    (n kind.Literal 1 24 7 7 [] [] (codes "1") (Some 7) ∷ n kind.Equate 1 20 5 7 (0 ∷ []) ((codes "a") ∷ []) [] None ∷
    n kind.Name 1 36 11 11 [] ((codes "a") ∷ []) [] None ∷ n kind.Equate 1 32 9 11 (2 ∷ []) ((codes "a") ∷ []) [] None
    ∷ n kind.Begin 1 26 8 12 (3 ∷ []) [] [] None ∷ n kind.Routine 1 1 0 14 (1 ∷ 4 ∷ []) ((codes "start_up") ∷ (codes
    "start_up") ∷ []) (codes "proc") (Some 2) ∷ n kind.Module 1 1 0 14 (5 ∷ []) [] [] None ∷ n kind.File 1 1 0 14 (6 ∷
    []) [] [] None ∷ [])

corner_14 : IsRefused corner_14_nodes rule.DefinedTwice 1 32
unfolding checking
corner_14 = refl

-- c = cluster [x: int] is n rep = int n = proc () end n end c
-- p = proc [b: c[b]] () end p
abbrev corner_15_nodes : List Node
corner_15_nodes =
    (n kind.Simple 1 17 6 6 [] [] (codes "int") (Some 6) ∷ n kind.Parm 1 14 4 6 (0 ∷ []) ((codes "x") ∷ []) [] None ∷
    n kind.Simple 1 33 12 12 [] [] (codes "int") (Some 12) ∷ n kind.Equate 1 27 10 12 (2 ∷ []) [] (codes "rep") (Some
    10) ∷ n kind.Routine 1 37 13 19 [] ((codes "n") ∷ (codes "n") ∷ []) (codes "proc") (Some 15) ∷ n kind.Cluster 1 1
    0 21 (1 ∷ 3 ∷ 4 ∷ []) ((codes "c") ∷ (codes "n") ∷ (codes "c") ∷ []) [] None ∷ n kind.Module 1 1 0 21 (5 ∷ []) []
    [] None ∷ n kind.Name 2 16 30 30 [] ((codes "b") ∷ []) [] None ∷ n kind.NameT 2 14 28 31 (7 ∷ []) ((codes "c") ∷
    []) [] None ∷ n kind.Parm 2 11 26 31 (8 ∷ []) ((codes "b") ∷ []) [] None ∷ n kind.Routine 2 1 22 36 (9 ∷ [])
    ((codes "p") ∷ (codes "p") ∷ []) (codes "proc") (Some 24) ∷ n kind.Module 2 1 22 36 (10 ∷ []) [] [] None ∷ n
    kind.File 1 1 0 36 (6 ∷ 11 ∷ []) [] [] None ∷ [])

corner_15 : IsRefused corner_15_nodes rule.ParameterKind 2 14
unfolding checking
corner_15 = refl

-- p = proc (x: c[b]) a = {u | u has f: b k = {b | b has g: proctype ()}} b = a end p
-- start_up = proc () end start_up
abbrev corner_16_nodes : List Node
corner_16_nodes =
    (n kind.Name 1 16 8 8 [] ((codes "b") ∷ []) [] None ∷ n kind.NameT 1 14 6 9 (0 ∷ []) ((codes "c") ∷ []) [] None ∷
    n kind.Decl 1 11 4 9 (1 ∷ []) ((codes "x") ∷ []) [] None ∷ n kind.NameT 1 38 20 20 [] ((codes "b") ∷ []) [] None ∷
    n kind.Oper 1 35 18 20 (3 ∷ []) ((codes "f") ∷ []) [] None ∷ n kind.RoutineT 1 58 30 32 [] [] (codes "proctype")
    (Some 30) ∷ n kind.Oper 1 55 28 32 (5 ∷ []) ((codes "g") ∷ []) [] None ∷ n kind.TypeSet 1 44 23 33 (6 ∷ [])
    ((codes "b") ∷ (codes "b") ∷ []) [] None ∷ n kind.Equate 1 40 21 33 (7 ∷ []) ((codes "k") ∷ []) [] None ∷ n
    kind.TypeSet 1 24 13 34 (4 ∷ 8 ∷ []) ((codes "u") ∷ (codes "u") ∷ []) [] None ∷ n kind.Equate 1 20 11 34 (9 ∷ [])
    ((codes "a") ∷ []) [] None ∷ n kind.Name 1 76 37 37 [] ((codes "a") ∷ []) [] None ∷ n kind.Equate 1 72 35 37 (11 ∷
    []) ((codes "b") ∷ []) [] None ∷ n kind.Routine 1 1 0 39 (2 ∷ 10 ∷ 12 ∷ []) ((codes "p") ∷ (codes "p") ∷ [])
    (codes "proc") (Some 2) ∷ n kind.Module 1 1 0 39 (13 ∷ []) [] [] None ∷ n kind.Routine 2 1 40 46 [] ((codes
    "start_up") ∷ (codes "start_up") ∷ []) (codes "proc") (Some 42) ∷ n kind.Module 2 1 40 46 (15 ∷ []) [] [] None ∷ n
    kind.File 1 1 0 46 (14 ∷ 16 ∷ []) [] [] None ∷ [])

corner_16 : IsRefused corner_16_nodes rule.CircularEquate 1 16
unfolding checking
corner_16 = refl

-- p = proc () v: int q() except others (v: string): w: int := v end end p q = proc () end q
abbrev corner_17_nodes : List Node
corner_17_nodes =
    (n kind.Simple 1 16 7 7 [] [] (codes "int") (Some 7) ∷ n kind.Decl 1 13 5 7 (0 ∷ []) ((codes "v") ∷ []) [] None ∷
    n kind.Declare 1 13 5 7 (1 ∷ []) [] [] None ∷ n kind.Name 1 20 8 8 [] ((codes "q") ∷ []) [] None ∷ n kind.Call 1
    21 8 10 (3 ∷ []) [] [] None ∷ n kind.CallS 1 20 8 10 (4 ∷ []) [] [] None ∷ n kind.Simple 1 42 16 16 [] [] (codes
    "string") (Some 16) ∷ n kind.Simple 1 54 21 21 [] [] (codes "int") (Some 21) ∷ n kind.Name 1 61 23 23 [] ((codes
    "v") ∷ []) [] None ∷ n kind.Init 1 51 19 23 (7 ∷ 8 ∷ []) ((codes "w") ∷ []) [] None ∷ n kind.Others 1 31 12 23 (6
    ∷ 9 ∷ []) ((codes "v") ∷ []) [] None ∷ n kind.Except 1 24 8 24 (5 ∷ 10 ∷ []) [] [] None ∷ n kind.Routine 1 1 0 26
    (2 ∷ 11 ∷ []) ((codes "p") ∷ (codes "p") ∷ []) (codes "proc") (Some 2) ∷ n kind.Module 1 1 0 26 (12 ∷ []) [] []
    None ∷ n kind.Routine 1 73 27 33 [] ((codes "q") ∷ (codes "q") ∷ []) (codes "proc") (Some 29) ∷ n kind.Module 1 73
    27 33 (14 ∷ []) [] [] None ∷ n kind.File 1 1 0 33 (13 ∷ 15 ∷ []) [] [] None ∷ [])

corner_17 : IsRefused corner_17_nodes rule.DefinedTwice 1 31
unfolding checking
corner_17 = refl

-- d = proc [t: type, t: proctype (t)] () end d
abbrev corner_18_nodes : List Node
corner_18_nodes =
    (n kind.Parm 1 11 4 6 [] ((codes "t") ∷ []) (codes "type") (Some 6) ∷ n kind.NameT 1 33 12 12 [] ((codes "t") ∷
    []) [] None ∷ n kind.RoutineT 1 23 10 13 (1 ∷ []) [] (codes "proctype") (Some 10) ∷ n kind.Parm 1 20 8 13 (2 ∷ [])
    ((codes "t") ∷ []) [] None ∷ n kind.Routine 1 1 0 18 (0 ∷ 3 ∷ []) ((codes "d") ∷ (codes "d") ∷ []) (codes "proc")
    (Some 2) ∷ n kind.Module 1 1 0 18 (4 ∷ []) [] [] None ∷ n kind.File 1 1 0 18 (5 ∷ []) [] [] None ∷ [])

corner_18 : IsRefused corner_18_nodes rule.DefinedTwice 1 20
unfolding checking
corner_18 = refl

-- p = proc () b = {u | u has t: int b = b} end p
abbrev corner_19_nodes : List Node
corner_19_nodes =
    (n kind.Simple 1 31 14 14 [] [] (codes "int") (Some 14) ∷ n kind.Oper 1 28 12 14 (0 ∷ []) ((codes "t") ∷ []) []
    None ∷ n kind.Name 1 39 17 17 [] ((codes "b") ∷ []) [] None ∷ n kind.Equate 1 35 15 17 (2 ∷ []) ((codes "b") ∷ [])
    [] None ∷ n kind.TypeSet 1 17 7 18 (1 ∷ 3 ∷ []) ((codes "u") ∷ (codes "u") ∷ []) [] None ∷ n kind.Equate 1 13 5 18
    (4 ∷ []) ((codes "b") ∷ []) [] None ∷ n kind.Routine 1 1 0 20 (5 ∷ []) ((codes "p") ∷ (codes "p") ∷ []) (codes
    "proc") (Some 2) ∷ n kind.Module 1 1 0 20 (6 ∷ []) [] [] None ∷ n kind.File 1 1 0 20 (7 ∷ []) [] [] None ∷ [])

corner_19 : IsRefused corner_19_nodes rule.CircularEquate 1 39
unfolding checking
corner_19 = refl

-- p = proc () end p e = (a) a = cluster is d rep = int d = proc () end d end a a = proc () end a
abbrev corner_20_nodes : List Node
corner_20_nodes =
    (n kind.Routine 1 1 0 6 [] ((codes "p") ∷ (codes "p") ∷ []) (codes "proc") (Some 2) ∷ n kind.Module 1 1 0 6 (0 ∷
    []) [] [] None ∷ n kind.Name 1 24 10 10 [] ((codes "a") ∷ []) [] None ∷ n kind.Paren 1 23 9 11 (2 ∷ []) [] [] None
    ∷ n kind.Equate 1 19 7 11 (3 ∷ []) ((codes "e") ∷ []) [] None ∷ n kind.Simple 1 50 19 19 [] [] (codes "int") (Some
    19) ∷ n kind.Equate 1 44 17 19 (5 ∷ []) [] (codes "rep") (Some 17) ∷ n kind.Routine 1 54 20 26 [] ((codes "d") ∷
    (codes "d") ∷ []) (codes "proc") (Some 22) ∷ n kind.Cluster 1 27 12 28 (6 ∷ 7 ∷ []) ((codes "a") ∷ (codes "d") ∷
    (codes "a") ∷ []) [] None ∷ n kind.Module 1 19 7 28 (4 ∷ 8 ∷ []) [] [] None ∷ n kind.Routine 1 78 29 35 [] ((codes
    "a") ∷ (codes "a") ∷ []) (codes "proc") (Some 31) ∷ n kind.Module 1 78 29 35 (10 ∷ []) [] [] None ∷ n kind.File 1
    1 0 35 (1 ∷ 9 ∷ 11 ∷ []) [] [] None ∷ [])

corner_20 : IsRefused corner_20_nodes rule.ResultCount 1 24
unfolding checking
corner_20 = refl

-- p = proc () x: char := "x"[cvt] end p
abbrev corner_21_nodes : List Node
corner_21_nodes =
    (n kind.Simple 1 16 7 7 [] [] (codes "char") (Some 7) ∷ n kind.Literal 1 24 9 9 [] [] (34 ∷ 120 ∷ 34 ∷ []) (Some
    9) ∷ n kind.Simple 1 28 11 11 [] [] (codes "cvt") (Some 11) ∷ n kind.Index 1 27 9 12 (1 ∷ 2 ∷ []) [] [] None ∷ n
    kind.Init 1 13 5 12 (0 ∷ 3 ∷ []) ((codes "x") ∷ []) [] None ∷ n kind.Routine 1 1 0 14 (4 ∷ []) ((codes "p") ∷
    (codes "p") ∷ []) (codes "proc") (Some 2) ∷ n kind.Module 1 1 0 14 (5 ∷ []) [] [] None ∷ n kind.File 1 1 0 14 (6 ∷
    []) [] [] None ∷ [])

corner_21 : IsRefused corner_21_nodes rule.ResultCount 1 28
unfolding checking
corner_21 = refl

-- p = proc () s = {t | stream has f: int} end p
abbrev corner_22_nodes : List Node
corner_22_nodes =
    (n kind.Simple 1 36 14 14 [] [] (codes "int") (Some 14) ∷ n kind.Oper 1 33 12 14 (0 ∷ []) ((codes "f") ∷ []) []
    None ∷ n kind.TypeSet 1 17 7 15 (1 ∷ []) ((codes "t") ∷ (codes "stream") ∷ []) [] None ∷ n kind.Equate 1 13 5 15
    (2 ∷ []) ((codes "s") ∷ []) [] None ∷ n kind.Routine 1 1 0 17 (3 ∷ []) ((codes "p") ∷ (codes "p") ∷ []) (codes
    "proc") (Some 2) ∷ n kind.Module 1 1 0 17 (4 ∷ []) [] [] None ∷ n kind.File 1 1 0 17 (5 ∷ []) [] [] None ∷ [])

corner_22 : IsRefused corner_22_nodes rule.NotType 1 17
unfolding checking
corner_22 = refl
