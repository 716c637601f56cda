-- Files that are checked: operations, constants and what is asked of types. Each is the tree of the CLU above it.
use Rattle.std.specs.Prelude.{refl, List, [], ◌∷◌, codes, Some, None}
use Rattle.clu_base.specs.declared.rules.Rule.TheVariants as rule
use Rattle.clu_tree.specs.declared.node.Node.{Node}
use Rattle.clu_tree.specs.declared.node.NodeKind.TheVariants as kind
use Rattle.clu_checking.proofs.Checking.{n, IsRefused, IsFine, checking}

-- c = cluster is m
-- rep = int
-- m = proc (a: array[c]) b: bool := array[c]$similar(a, a) end m
-- similar = proc (a, b: c) returns (bool) return (true) end similar
-- end c
abbrev exported_operations_alone_nodes : List Node
exported_operations_alone_nodes =
    (n kind.Simple 2 7 7 7 [] [] (codes "int") (Some 7) ∷ n kind.Equate 2 1 5 7 (0 ∷ []) [] (codes "rep") (Some 5) ∷ n
    kind.NameT 3 20 16 16 [] ((codes "c") ∷ []) [] None ∷ n kind.ListT 3 14 14 17 (2 ∷ []) [] (codes "array") (Some
    14) ∷ n kind.Decl 3 11 12 17 (3 ∷ []) ((codes "a") ∷ []) [] None ∷ n kind.Simple 3 27 21 21 [] [] (codes "bool")
    (Some 21) ∷ n kind.NameT 3 41 25 25 [] ((codes "c") ∷ []) [] None ∷ n kind.ListT 3 35 23 26 (6 ∷ []) [] (codes
    "array") (Some 23) ∷ n kind.OperOf 3 35 23 28 (7 ∷ []) ((codes "similar") ∷ []) [] None ∷ n kind.Name 3 52 30 30
    [] ((codes "a") ∷ []) [] None ∷ n kind.Name 3 55 32 32 [] ((codes "a") ∷ []) [] None ∷ n kind.Call 3 51 23 33 (8 ∷
    9 ∷ 10 ∷ []) [] [] None ∷ n kind.Init 3 24 19 33 (5 ∷ 11 ∷ []) ((codes "b") ∷ []) [] None ∷ n kind.Routine 3 1 8
    35 (4 ∷ 12 ∷ []) ((codes "m") ∷ (codes "m") ∷ []) (codes "proc") (Some 10) ∷ n kind.NameT 4 23 44 44 [] ((codes
    "c") ∷ []) [] None ∷ n kind.Decl 4 17 40 44 (14 ∷ []) ((codes "a") ∷ (codes "b") ∷ []) [] None ∷ n kind.Simple 4
    35 48 48 [] [] (codes "bool") (Some 48) ∷ n kind.Results 4 26 46 49 (16 ∷ []) [] (codes "returns") (Some 46) ∷ n
    kind.Literal 4 49 52 52 [] [] (codes "true") (Some 52) ∷ n kind.Return 4 41 50 53 (18 ∷ []) [] [] None ∷ n
    kind.Routine 4 1 36 55 (15 ∷ 17 ∷ 19 ∷ []) ((codes "similar") ∷ (codes "similar") ∷ []) (codes "proc") (Some 38) ∷
    n kind.Cluster 1 1 0 57 (1 ∷ 13 ∷ 20 ∷ []) ((codes "c") ∷ (codes "m") ∷ (codes "c") ∷ []) [] None ∷ n kind.Module
    1 1 0 57 (21 ∷ []) [] [] None ∷ n kind.File 1 1 0 57 (22 ∷ []) [] [] None ∷ [])

exported_operations_alone : IsRefused exported_operations_alone_nodes rule.WhereNotMet 3 35
unfolding checking
exported_operations_alone = refl

-- c = cluster is m
-- rep = int
-- m = proc (a: c) b: bool := a = a end m
-- equal = proc (a, b: c) returns (bool) return (true) end equal
-- end c
abbrev all_routines_for_sugar_nodes : List Node
all_routines_for_sugar_nodes =
    (n kind.Simple 2 7 7 7 [] [] (codes "int") (Some 7) ∷ n kind.Equate 2 1 5 7 (0 ∷ []) [] (codes "rep") (Some 5) ∷ n
    kind.NameT 3 14 14 14 [] ((codes "c") ∷ []) [] None ∷ n kind.Decl 3 11 12 14 (2 ∷ []) ((codes "a") ∷ []) [] None ∷
    n kind.Simple 3 20 18 18 [] [] (codes "bool") (Some 18) ∷ n kind.Name 3 28 20 20 [] ((codes "a") ∷ []) [] None ∷ n
    kind.Name 3 32 22 22 [] ((codes "a") ∷ []) [] None ∷ n kind.Infix 3 30 20 22 (5 ∷ 6 ∷ []) [] (codes "=") (Some 21)
    ∷ n kind.Init 3 17 16 22 (4 ∷ 7 ∷ []) ((codes "b") ∷ []) [] None ∷ n kind.Routine 3 1 8 24 (3 ∷ 8 ∷ []) ((codes
    "m") ∷ (codes "m") ∷ []) (codes "proc") (Some 10) ∷ n kind.NameT 4 21 33 33 [] ((codes "c") ∷ []) [] None ∷ n
    kind.Decl 4 15 29 33 (10 ∷ []) ((codes "a") ∷ (codes "b") ∷ []) [] None ∷ n kind.Simple 4 33 37 37 [] [] (codes
    "bool") (Some 37) ∷ n kind.Results 4 24 35 38 (12 ∷ []) [] (codes "returns") (Some 35) ∷ n kind.Literal 4 47 41 41
    [] [] (codes "true") (Some 41) ∷ n kind.Return 4 39 39 42 (14 ∷ []) [] [] None ∷ n kind.Routine 4 1 25 44 (11 ∷ 13
    ∷ 15 ∷ []) ((codes "equal") ∷ (codes "equal") ∷ []) (codes "proc") (Some 27) ∷ n kind.Cluster 1 1 0 46 (1 ∷ 9 ∷ 16
    ∷ []) ((codes "c") ∷ (codes "m") ∷ (codes "c") ∷ []) [] None ∷ n kind.Module 1 1 0 46 (17 ∷ []) [] [] None ∷ n
    kind.File 1 1 0 46 (18 ∷ []) [] [] None ∷ [])

all_routines_for_sugar : IsFine all_routines_for_sugar_nodes
unfolding checking
all_routines_for_sugar = refl

-- p = proc () c$n() end p
-- c = cluster is m rep = int m = proc () end m n = proc () end n end c
abbrev hidden_routine_outside_nodes : List Node
hidden_routine_outside_nodes =
    (n kind.NameT 1 13 5 5 [] ((codes "c") ∷ []) [] None ∷ n kind.OperOf 1 13 5 7 (0 ∷ []) ((codes "n") ∷ []) [] None
    ∷ n kind.Call 1 16 5 9 (1 ∷ []) [] [] None ∷ n kind.CallS 1 13 5 9 (2 ∷ []) [] [] None ∷ n kind.Routine 1 1 0 11
    (3 ∷ []) ((codes "p") ∷ (codes "p") ∷ []) (codes "proc") (Some 2) ∷ n kind.Module 1 1 0 11 (4 ∷ []) [] [] None ∷ n
    kind.Simple 2 24 19 19 [] [] (codes "int") (Some 19) ∷ n kind.Equate 2 18 17 19 (6 ∷ []) [] (codes "rep") (Some
    17) ∷ n kind.Routine 2 28 20 26 [] ((codes "m") ∷ (codes "m") ∷ []) (codes "proc") (Some 22) ∷ n kind.Routine 2 46
    27 33 [] ((codes "n") ∷ (codes "n") ∷ []) (codes "proc") (Some 29) ∷ n kind.Cluster 2 1 12 35 (7 ∷ 8 ∷ 9 ∷ [])
    ((codes "c") ∷ (codes "m") ∷ (codes "c") ∷ []) [] None ∷ n kind.Module 2 1 12 35 (10 ∷ []) [] [] None ∷ n
    kind.File 1 1 0 35 (5 ∷ 11 ∷ []) [] [] None ∷ [])

hidden_routine_outside : IsRefused hidden_routine_outside_nodes rule.NoOperation 1 13
unfolding checking
hidden_routine_outside = refl

-- c = cluster is m rep = int m = proc () c$n() n() end m n = proc () end n end c
abbrev hidden_routine_inside_nodes : List Node
hidden_routine_inside_nodes =
    (n kind.Simple 1 24 7 7 [] [] (codes "int") (Some 7) ∷ n kind.Equate 1 18 5 7 (0 ∷ []) [] (codes "rep") (Some 5) ∷
    n kind.NameT 1 40 13 13 [] ((codes "c") ∷ []) [] None ∷ n kind.OperOf 1 40 13 15 (2 ∷ []) ((codes "n") ∷ []) []
    None ∷ n kind.Call 1 43 13 17 (3 ∷ []) [] [] None ∷ n kind.CallS 1 40 13 17 (4 ∷ []) [] [] None ∷ n kind.Name 1 46
    18 18 [] ((codes "n") ∷ []) [] None ∷ n kind.Call 1 47 18 20 (6 ∷ []) [] [] None ∷ n kind.CallS 1 46 18 20 (7 ∷
    []) [] [] None ∷ n kind.Routine 1 28 8 22 (5 ∷ 8 ∷ []) ((codes "m") ∷ (codes "m") ∷ []) (codes "proc") (Some 10) ∷
    n kind.Routine 1 56 23 29 [] ((codes "n") ∷ (codes "n") ∷ []) (codes "proc") (Some 25) ∷ n kind.Cluster 1 1 0 31
    (1 ∷ 9 ∷ 10 ∷ []) ((codes "c") ∷ (codes "m") ∷ (codes "c") ∷ []) [] None ∷ n kind.Module 1 1 0 31 (11 ∷ []) [] []
    None ∷ n kind.File 1 1 0 31 (12 ∷ []) [] [] None ∷ [])

hidden_routine_inside : IsFine hidden_routine_inside_nodes
unfolding checking
hidden_routine_inside = refl

-- c = cluster [t: type] is m, n rep = int m = proc () n() end m
-- n = proc () where t has f: proctype (t) end n end c
abbrev where_clause_of_a_routine_nodes : List Node
where_clause_of_a_routine_nodes =
    (n kind.Parm 1 14 4 6 [] ((codes "t") ∷ []) (codes "type") (Some 6) ∷ n kind.Simple 1 37 14 14 [] [] (codes "int")
    (Some 14) ∷ n kind.Equate 1 31 12 14 (1 ∷ []) [] (codes "rep") (Some 12) ∷ n kind.Name 1 53 20 20 [] ((codes "n")
    ∷ []) [] None ∷ n kind.Call 1 54 20 22 (3 ∷ []) [] [] None ∷ n kind.CallS 1 53 20 22 (4 ∷ []) [] [] None ∷ n
    kind.Routine 1 41 15 24 (5 ∷ []) ((codes "m") ∷ (codes "m") ∷ []) (codes "proc") (Some 17) ∷ n kind.NameT 2 38 37
    37 [] ((codes "t") ∷ []) [] None ∷ n kind.RoutineT 2 28 35 38 (7 ∷ []) [] (codes "proctype") (Some 35) ∷ n
    kind.Oper 2 25 33 38 (8 ∷ []) ((codes "f") ∷ []) [] None ∷ n kind.Restrict 2 19 31 38 (9 ∷ []) ((codes "t") ∷ [])
    (codes "has") (Some 32) ∷ n kind.Where 2 13 30 38 (10 ∷ []) [] [] None ∷ n kind.Routine 2 1 25 40 (11 ∷ [])
    ((codes "n") ∷ (codes "n") ∷ []) (codes "proc") (Some 27) ∷ n kind.Cluster 1 1 0 42 (0 ∷ 2 ∷ 6 ∷ 12 ∷ []) ((codes
    "c") ∷ (codes "m") ∷ (codes "n") ∷ (codes "c") ∷ []) [] None ∷ n kind.Module 1 1 0 42 (13 ∷ []) [] [] None ∷ n
    kind.File 1 1 0 42 (14 ∷ []) [] [] None ∷ [])

where_clause_of_a_routine : IsRefused where_clause_of_a_routine_nodes rule.WhereNotMet 1 53
unfolding checking
where_clause_of_a_routine = refl

-- c = cluster [t: type] is m, n rep = int m = proc () where t has f: proctype (t) n() end m
-- n = proc () where t has f: proctype (t) end n end c
abbrev where_clause_of_a_routine_is_met_nodes : List Node
where_clause_of_a_routine_is_met_nodes =
    (n kind.Parm 1 14 4 6 [] ((codes "t") ∷ []) (codes "type") (Some 6) ∷ n kind.Simple 1 37 14 14 [] [] (codes "int")
    (Some 14) ∷ n kind.Equate 1 31 12 14 (1 ∷ []) [] (codes "rep") (Some 12) ∷ n kind.NameT 1 78 27 27 [] ((codes "t")
    ∷ []) [] None ∷ n kind.RoutineT 1 68 25 28 (3 ∷ []) [] (codes "proctype") (Some 25) ∷ n kind.Oper 1 65 23 28 (4 ∷
    []) ((codes "f") ∷ []) [] None ∷ n kind.Restrict 1 59 21 28 (5 ∷ []) ((codes "t") ∷ []) (codes "has") (Some 22) ∷
    n kind.Where 1 53 20 28 (6 ∷ []) [] [] None ∷ n kind.Name 1 81 29 29 [] ((codes "n") ∷ []) [] None ∷ n kind.Call 1
    82 29 31 (8 ∷ []) [] [] None ∷ n kind.CallS 1 81 29 31 (9 ∷ []) [] [] None ∷ n kind.Routine 1 41 15 33 (7 ∷ 10 ∷
    []) ((codes "m") ∷ (codes "m") ∷ []) (codes "proc") (Some 17) ∷ n kind.NameT 2 38 46 46 [] ((codes "t") ∷ []) []
    None ∷ n kind.RoutineT 2 28 44 47 (12 ∷ []) [] (codes "proctype") (Some 44) ∷ n kind.Oper 2 25 42 47 (13 ∷ [])
    ((codes "f") ∷ []) [] None ∷ n kind.Restrict 2 19 40 47 (14 ∷ []) ((codes "t") ∷ []) (codes "has") (Some 41) ∷ n
    kind.Where 2 13 39 47 (15 ∷ []) [] [] None ∷ n kind.Routine 2 1 34 49 (16 ∷ []) ((codes "n") ∷ (codes "n") ∷ [])
    (codes "proc") (Some 36) ∷ n kind.Cluster 1 1 0 51 (0 ∷ 2 ∷ 11 ∷ 17 ∷ []) ((codes "c") ∷ (codes "m") ∷ (codes "n")
    ∷ (codes "c") ∷ []) [] None ∷ n kind.Module 1 1 0 51 (18 ∷ []) [] [] None ∷ n kind.File 1 1 0 51 (19 ∷ []) [] []
    None ∷ [])

where_clause_of_a_routine_is_met : IsFine where_clause_of_a_routine_is_met_nodes
unfolding checking
where_clause_of_a_routine_is_met = refl

-- c = cluster [t: type] is m where t has f: proctype (t) rep = int m = proc (x: t) t$f(x) end m end c
abbrev where_clause_of_the_cluster_nodes : List Node
where_clause_of_the_cluster_nodes =
    (n kind.Parm 1 14 4 6 [] ((codes "t") ∷ []) (codes "type") (Some 6) ∷ n kind.NameT 1 53 17 17 [] ((codes "t") ∷
    []) [] None ∷ n kind.RoutineT 1 43 15 18 (1 ∷ []) [] (codes "proctype") (Some 15) ∷ n kind.Oper 1 40 13 18 (2 ∷
    []) ((codes "f") ∷ []) [] None ∷ n kind.Restrict 1 34 11 18 (3 ∷ []) ((codes "t") ∷ []) (codes "has") (Some 12) ∷
    n kind.Where 1 28 10 18 (4 ∷ []) [] [] None ∷ n kind.Simple 1 62 21 21 [] [] (codes "int") (Some 21) ∷ n
    kind.Equate 1 56 19 21 (6 ∷ []) [] (codes "rep") (Some 19) ∷ n kind.NameT 1 79 28 28 [] ((codes "t") ∷ []) [] None
    ∷ n kind.Decl 1 76 26 28 (8 ∷ []) ((codes "x") ∷ []) [] None ∷ n kind.NameT 1 82 30 30 [] ((codes "t") ∷ []) []
    None ∷ n kind.OperOf 1 82 30 32 (10 ∷ []) ((codes "f") ∷ []) [] None ∷ n kind.Name 1 86 34 34 [] ((codes "x") ∷
    []) [] None ∷ n kind.Call 1 85 30 35 (11 ∷ 12 ∷ []) [] [] None ∷ n kind.CallS 1 82 30 35 (13 ∷ []) [] [] None ∷ n
    kind.Routine 1 66 22 37 (9 ∷ 14 ∷ []) ((codes "m") ∷ (codes "m") ∷ []) (codes "proc") (Some 24) ∷ n kind.Cluster 1
    1 0 39 (0 ∷ 5 ∷ 7 ∷ 15 ∷ []) ((codes "c") ∷ (codes "m") ∷ (codes "c") ∷ []) [] None ∷ n kind.Module 1 1 0 39 (16 ∷
    []) [] [] None ∷ n kind.File 1 1 0 39 (17 ∷ []) [] [] None ∷ [])

where_clause_of_the_cluster : IsFine where_clause_of_the_cluster_nodes
unfolding checking
where_clause_of_the_cluster = refl

-- s = {u | u has g: proctype ()} p = proc [t: type] () where t in s, t has f: proctype () end p
-- q = proc () p[int]() end q
abbrev has_before_in_nodes : List Node
has_before_in_nodes =
    (n kind.RoutineT 1 19 9 11 [] [] (codes "proctype") (Some 9) ∷ n kind.Oper 1 16 7 11 (0 ∷ []) ((codes "g") ∷ [])
    [] None ∷ n kind.TypeSet 1 5 2 12 (1 ∷ []) ((codes "u") ∷ (codes "u") ∷ []) [] None ∷ n kind.Equate 1 1 0 12 (2 ∷
    []) ((codes "s") ∷ []) [] None ∷ n kind.Parm 1 42 17 19 [] ((codes "t") ∷ []) (codes "type") (Some 19) ∷ n
    kind.Restrict 1 60 24 26 [] ((codes "t") ∷ (codes "s") ∷ []) (codes "in") (Some 25) ∷ n kind.RoutineT 1 77 32 34
    [] [] (codes "proctype") (Some 32) ∷ n kind.Oper 1 74 30 34 (6 ∷ []) ((codes "f") ∷ []) [] None ∷ n kind.Restrict
    1 68 28 34 (7 ∷ []) ((codes "t") ∷ []) (codes "has") (Some 29) ∷ n kind.Where 1 54 23 34 (5 ∷ 8 ∷ []) [] [] None ∷
    n kind.Routine 1 32 13 36 (4 ∷ 9 ∷ []) ((codes "p") ∷ (codes "p") ∷ []) (codes "proc") (Some 15) ∷ n kind.Module 1
    1 0 36 (3 ∷ 10 ∷ []) [] [] None ∷ n kind.Name 2 13 42 42 [] ((codes "p") ∷ []) [] None ∷ n kind.Simple 2 15 44 44
    [] [] (codes "int") (Some 44) ∷ n kind.Index 2 14 42 45 (12 ∷ 13 ∷ []) [] [] None ∷ n kind.Call 2 19 42 47 (14 ∷
    []) [] [] None ∷ n kind.CallS 2 13 42 47 (15 ∷ []) [] [] None ∷ n kind.Routine 2 1 37 49 (16 ∷ []) ((codes "q") ∷
    (codes "q") ∷ []) (codes "proc") (Some 39) ∷ n kind.Module 2 1 37 49 (17 ∷ []) [] [] None ∷ n kind.File 1 1 0 49
    (11 ∷ 18 ∷ []) [] [] None ∷ [])

has_before_in : IsRefused has_before_in_nodes rule.WhereNotMet 2 14
unfolding checking
has_before_in = refl

-- c = cluster is m rep = any m = proc () returns (c) return (up(1)) end m end c
abbrev up_of_another_type_nodes : List Node
up_of_another_type_nodes =
    (n kind.Simple 1 24 7 7 [] [] (codes "any") (Some 7) ∷ n kind.Equate 1 18 5 7 (0 ∷ []) [] (codes "rep") (Some 5) ∷
    n kind.NameT 1 49 15 15 [] ((codes "c") ∷ []) [] None ∷ n kind.Results 1 40 13 16 (2 ∷ []) [] (codes "returns")
    (Some 13) ∷ n kind.Literal 1 63 21 21 [] [] (codes "1") (Some 21) ∷ n kind.Up 1 60 19 22 (4 ∷ []) [] [] None ∷ n
    kind.Return 1 52 17 23 (5 ∷ []) [] [] None ∷ n kind.Routine 1 28 8 25 (3 ∷ 6 ∷ []) ((codes "m") ∷ (codes "m") ∷
    []) (codes "proc") (Some 10) ∷ n kind.Cluster 1 1 0 27 (1 ∷ 7 ∷ []) ((codes "c") ∷ (codes "m") ∷ (codes "c") ∷ [])
    [] None ∷ n kind.Module 1 1 0 27 (8 ∷ []) [] [] None ∷ n kind.File 1 1 0 27 (9 ∷ []) [] [] None ∷ [])

up_of_another_type : IsRefused up_of_another_type_nodes rule.UpDown 1 60
unfolding checking
up_of_another_type = refl

-- c = cluster [t: type] is m rep = int m = proc (x: c[int]) y: int := down(x) end m end c
abbrev down_of_another_instance_nodes : List Node
down_of_another_instance_nodes =
    (n kind.Parm 1 14 4 6 [] ((codes "t") ∷ []) (codes "type") (Some 6) ∷ n kind.Simple 1 34 12 12 [] [] (codes "int")
    (Some 12) ∷ n kind.Equate 1 28 10 12 (1 ∷ []) [] (codes "rep") (Some 10) ∷ n kind.Simple 1 53 21 21 [] [] (codes
    "int") (Some 21) ∷ n kind.NameT 1 51 19 22 (3 ∷ []) ((codes "c") ∷ []) [] None ∷ n kind.Decl 1 48 17 22 (4 ∷ [])
    ((codes "x") ∷ []) [] None ∷ n kind.Simple 1 62 26 26 [] [] (codes "int") (Some 26) ∷ n kind.Name 1 74 30 30 []
    ((codes "x") ∷ []) [] None ∷ n kind.Down 1 69 28 31 (7 ∷ []) [] [] None ∷ n kind.Init 1 59 24 31 (6 ∷ 8 ∷ [])
    ((codes "y") ∷ []) [] None ∷ n kind.Routine 1 38 13 33 (5 ∷ 9 ∷ []) ((codes "m") ∷ (codes "m") ∷ []) (codes
    "proc") (Some 15) ∷ n kind.Cluster 1 1 0 35 (0 ∷ 2 ∷ 10 ∷ []) ((codes "c") ∷ (codes "m") ∷ (codes "c") ∷ []) []
    None ∷ n kind.Module 1 1 0 35 (11 ∷ []) [] [] None ∷ n kind.File 1 1 0 35 (12 ∷ []) [] [] None ∷ [])

down_of_another_instance : IsRefused down_of_another_instance_nodes rule.UpDown 1 69
unfolding checking
down_of_another_instance = refl

-- p = proc [n: int] () x = (n) y: int := x end p
abbrev constant_parameter_alone_nodes : List Node
constant_parameter_alone_nodes =
    (n kind.Simple 1 14 6 6 [] [] (codes "int") (Some 6) ∷ n kind.Parm 1 11 4 6 (0 ∷ []) ((codes "n") ∷ []) [] None ∷
    n kind.Name 1 27 13 13 [] ((codes "n") ∷ []) [] None ∷ n kind.Paren 1 26 12 14 (2 ∷ []) [] [] None ∷ n kind.Equate
    1 22 10 14 (3 ∷ []) ((codes "x") ∷ []) [] None ∷ n kind.Simple 1 33 17 17 [] [] (codes "int") (Some 17) ∷ n
    kind.Name 1 40 19 19 [] ((codes "x") ∷ []) [] None ∷ n kind.Init 1 30 15 19 (5 ∷ 6 ∷ []) ((codes "y") ∷ []) []
    None ∷ n kind.Routine 1 1 0 21 (1 ∷ 4 ∷ 7 ∷ []) ((codes "p") ∷ (codes "p") ∷ []) (codes "proc") (Some 2) ∷ n
    kind.Module 1 1 0 21 (8 ∷ []) [] [] None ∷ n kind.File 1 1 0 21 (9 ∷ []) [] [] None ∷ [])

constant_parameter_alone : IsFine constant_parameter_alone_nodes
unfolding checking
constant_parameter_alone = refl

-- p = proc [n: int] () x = n + 1 end p
abbrev constant_parameter_in_an_operator_nodes : List Node
constant_parameter_in_an_operator_nodes =
    (n kind.Simple 1 14 6 6 [] [] (codes "int") (Some 6) ∷ n kind.Parm 1 11 4 6 (0 ∷ []) ((codes "n") ∷ []) [] None ∷
    n kind.Name 1 26 12 12 [] ((codes "n") ∷ []) [] None ∷ n kind.Literal 1 30 14 14 [] [] (codes "1") (Some 14) ∷ n
    kind.Infix 1 28 12 14 (2 ∷ 3 ∷ []) [] (codes "+") (Some 13) ∷ n kind.Equate 1 22 10 14 (4 ∷ []) ((codes "x") ∷ [])
    [] None ∷ n kind.Routine 1 1 0 16 (1 ∷ 5 ∷ []) ((codes "p") ∷ (codes "p") ∷ []) (codes "proc") (Some 2) ∷ n
    kind.Module 1 1 0 16 (6 ∷ []) [] [] None ∷ n kind.File 1 1 0 16 (7 ∷ []) [] [] None ∷ [])

constant_parameter_in_an_operator : IsRefused constant_parameter_in_an_operator_nodes rule.NotConstant 1 28
unfolding checking
constant_parameter_in_an_operator = refl

-- p = proc () f = p end p
abbrev routine_as_a_constant_nodes : List Node
routine_as_a_constant_nodes =
    (n kind.Name 1 17 7 7 [] ((codes "p") ∷ []) [] None ∷ n kind.Equate 1 13 5 7 (0 ∷ []) ((codes "f") ∷ []) [] None ∷
    n kind.Routine 1 1 0 9 (1 ∷ []) ((codes "p") ∷ (codes "p") ∷ []) (codes "proc") (Some 2) ∷ n kind.Module 1 1 0 9
    (2 ∷ []) [] [] None ∷ n kind.File 1 1 0 9 (3 ∷ []) [] [] None ∷ [])

routine_as_a_constant : IsRefused routine_as_a_constant_nodes rule.NotConstant 1 17
unfolding checking
routine_as_a_constant = refl

-- p = proc () f = int$add end p
abbrev operation_as_a_constant_nodes : List Node
operation_as_a_constant_nodes =
    (n kind.Simple 1 17 7 7 [] [] (codes "int") (Some 7) ∷ n kind.OperOf 1 17 7 9 (0 ∷ []) ((codes "add") ∷ []) []
    None ∷ n kind.Equate 1 13 5 9 (1 ∷ []) ((codes "f") ∷ []) [] None ∷ n kind.Routine 1 1 0 11 (2 ∷ []) ((codes "p")
    ∷ (codes "p") ∷ []) (codes "proc") (Some 2) ∷ n kind.Module 1 1 0 11 (3 ∷ []) [] [] None ∷ n kind.File 1 1 0 11 (4
    ∷ []) [] [] None ∷ [])

operation_as_a_constant : IsRefused operation_as_a_constant_nodes rule.NotConstant 1 17
unfolding checking
operation_as_a_constant = refl

-- p = proc (r: struct[x: int]) r.x := 1 end p
abbrev set_of_a_struct_nodes : List Node
set_of_a_struct_nodes =
    (n kind.Simple 1 24 10 10 [] [] (codes "int") (Some 10) ∷ n kind.FieldT 1 21 8 10 (0 ∷ []) ((codes "x") ∷ []) []
    None ∷ n kind.FieldsT 1 14 6 11 (1 ∷ []) [] (codes "struct") (Some 6) ∷ n kind.Decl 1 11 4 11 (2 ∷ []) ((codes
    "r") ∷ []) [] None ∷ n kind.Name 1 30 13 13 [] ((codes "r") ∷ []) [] None ∷ n kind.Literal 1 37 17 17 [] [] (codes
    "1") (Some 17) ∷ n kind.SetField 1 30 13 17 (4 ∷ 5 ∷ []) ((codes "x") ∷ []) [] None ∷ n kind.Routine 1 1 0 19 (3 ∷
    6 ∷ []) ((codes "p") ∷ (codes "p") ∷ []) (codes "proc") (Some 2) ∷ n kind.Module 1 1 0 19 (7 ∷ []) [] [] None ∷ n
    kind.File 1 1 0 19 (8 ∷ []) [] [] None ∷ [])

set_of_a_struct : IsRefused set_of_a_struct_nodes rule.NoOperation 1 30
unfolding checking
set_of_a_struct = refl

-- p = proc (s: sequence[int]) s[1] := 1 end p
abbrev store_of_a_sequence_nodes : List Node
store_of_a_sequence_nodes =
    (n kind.Simple 1 23 8 8 [] [] (codes "int") (Some 8) ∷ n kind.ListT 1 14 6 9 (0 ∷ []) [] (codes "sequence") (Some
    6) ∷ n kind.Decl 1 11 4 9 (1 ∷ []) ((codes "s") ∷ []) [] None ∷ n kind.Name 1 29 11 11 [] ((codes "s") ∷ []) []
    None ∷ n kind.Literal 1 31 13 13 [] [] (codes "1") (Some 13) ∷ n kind.Literal 1 37 16 16 [] [] (codes "1") (Some
    16) ∷ n kind.SetIndex 1 29 11 16 (3 ∷ 4 ∷ 5 ∷ []) [] [] None ∷ n kind.Routine 1 1 0 18 (2 ∷ 6 ∷ []) ((codes "p") ∷
    (codes "p") ∷ []) (codes "proc") (Some 2) ∷ n kind.Module 1 1 0 18 (7 ∷ []) [] [] None ∷ n kind.File 1 1 0 18 (8 ∷
    []) [] [] None ∷ [])

store_of_a_sequence : IsRefused store_of_a_sequence_nodes rule.NoOperation 1 29
unfolding checking
store_of_a_sequence = refl

-- p = proc (x: any) b: bool := x = x end p
abbrev equal_of_any_nodes : List Node
equal_of_any_nodes =
    (n kind.Simple 1 14 6 6 [] [] (codes "any") (Some 6) ∷ n kind.Decl 1 11 4 6 (0 ∷ []) ((codes "x") ∷ []) [] None ∷
    n kind.Simple 1 22 10 10 [] [] (codes "bool") (Some 10) ∷ n kind.Name 1 30 12 12 [] ((codes "x") ∷ []) [] None ∷ n
    kind.Name 1 34 14 14 [] ((codes "x") ∷ []) [] None ∷ n kind.Infix 1 32 12 14 (3 ∷ 4 ∷ []) [] (codes "=") (Some 13)
    ∷ n kind.Init 1 19 8 14 (2 ∷ 5 ∷ []) ((codes "b") ∷ []) [] None ∷ n kind.Routine 1 1 0 16 (1 ∷ 6 ∷ []) ((codes
    "p") ∷ (codes "p") ∷ []) (codes "proc") (Some 2) ∷ n kind.Module 1 1 0 16 (7 ∷ []) [] [] None ∷ n kind.File 1 1 0
    16 (8 ∷ []) [] [] None ∷ [])

equal_of_any : IsRefused equal_of_any_nodes rule.NoOperation 1 32
unfolding checking
equal_of_any = refl

-- p = proc () x = 1.5 end p
abbrev real_alone_nodes : List Node
real_alone_nodes =
    (n kind.Literal 1 17 7 7 [] [] (codes "1.5") (Some 7) ∷ n kind.Equate 1 13 5 7 (0 ∷ []) ((codes "x") ∷ []) [] None
    ∷ n kind.Routine 1 1 0 9 (1 ∷ []) ((codes "p") ∷ (codes "p") ∷ []) (codes "proc") (Some 2) ∷ n kind.Module 1 1 0 9
    (2 ∷ []) [] [] None ∷ n kind.File 1 1 0 9 (3 ∷ []) [] [] None ∷ [])

real_alone : IsRefused real_alone_nodes rule.Real 1 17
unfolding checking
real_alone = refl

-- p = proc (x: c[real]) end p
-- c = cluster [t: type] is m rep = int m = proc () end m end c
abbrev real_type_as_an_actual_nodes : List Node
real_type_as_an_actual_nodes =
    (n kind.Simple 1 16 8 8 [] [] (codes "real") (Some 8) ∷ n kind.NameT 1 14 6 9 (0 ∷ []) ((codes "c") ∷ []) [] None
    ∷ n kind.Decl 1 11 4 9 (1 ∷ []) ((codes "x") ∷ []) [] None ∷ n kind.Routine 1 1 0 12 (2 ∷ []) ((codes "p") ∷
    (codes "p") ∷ []) (codes "proc") (Some 2) ∷ n kind.Module 1 1 0 12 (3 ∷ []) [] [] None ∷ n kind.Parm 2 14 17 19 []
    ((codes "t") ∷ []) (codes "type") (Some 19) ∷ n kind.Simple 2 34 25 25 [] [] (codes "int") (Some 25) ∷ n
    kind.Equate 2 28 23 25 (6 ∷ []) [] (codes "rep") (Some 23) ∷ n kind.Routine 2 38 26 32 [] ((codes "m") ∷ (codes
    "m") ∷ []) (codes "proc") (Some 28) ∷ n kind.Cluster 2 1 13 34 (5 ∷ 7 ∷ 8 ∷ []) ((codes "c") ∷ (codes "m") ∷
    (codes "c") ∷ []) [] None ∷ n kind.Module 2 1 13 34 (9 ∷ []) [] [] None ∷ n kind.File 1 1 0 34 (4 ∷ 10 ∷ []) [] []
    None ∷ [])

real_type_as_an_actual : IsRefused real_type_as_an_actual_nodes rule.Real 1 16
unfolding checking
real_type_as_an_actual = refl

-- p = proc () a = b b = b x: int := a end p
abbrev name_of_a_circle_nodes : List Node
name_of_a_circle_nodes =
    (n kind.Name 1 17 7 7 [] ((codes "b") ∷ []) [] None ∷ n kind.Equate 1 13 5 7 (0 ∷ []) ((codes "a") ∷ []) [] None ∷
    n kind.Name 1 23 10 10 [] ((codes "b") ∷ []) [] None ∷ n kind.Equate 1 19 8 10 (2 ∷ []) ((codes "b") ∷ []) [] None
    ∷ n kind.Simple 1 28 13 13 [] [] (codes "int") (Some 13) ∷ n kind.Name 1 35 15 15 [] ((codes "a") ∷ []) [] None ∷
    n kind.Init 1 25 11 15 (4 ∷ 5 ∷ []) ((codes "x") ∷ []) [] None ∷ n kind.Routine 1 1 0 17 (1 ∷ 3 ∷ 6 ∷ []) ((codes
    "p") ∷ (codes "p") ∷ []) (codes "proc") (Some 2) ∷ n kind.Module 1 1 0 17 (7 ∷ []) [] [] None ∷ n kind.File 1 1 0
    17 (8 ∷ []) [] [] None ∷ [])

name_of_a_circle : IsRefused name_of_a_circle_nodes rule.CircularEquate 1 17
unfolding checking
name_of_a_circle = refl

-- p = proc (x: a) a = b b = b end p
abbrev name_outside_a_circle_nodes : List Node
name_outside_a_circle_nodes =
    (n kind.NameT 1 14 6 6 [] ((codes "a") ∷ []) [] None ∷ n kind.Decl 1 11 4 6 (0 ∷ []) ((codes "x") ∷ []) [] None ∷
    n kind.Name 1 21 10 10 [] ((codes "b") ∷ []) [] None ∷ n kind.Equate 1 17 8 10 (2 ∷ []) ((codes "a") ∷ []) [] None
    ∷ n kind.Name 1 27 13 13 [] ((codes "b") ∷ []) [] None ∷ n kind.Equate 1 23 11 13 (4 ∷ []) ((codes "b") ∷ []) []
    None ∷ n kind.Routine 1 1 0 15 (1 ∷ 3 ∷ 5 ∷ []) ((codes "p") ∷ (codes "p") ∷ []) (codes "proc") (Some 2) ∷ n
    kind.Module 1 1 0 15 (6 ∷ []) [] [] None ∷ n kind.File 1 1 0 15 (7 ∷ []) [] [] None ∷ [])

name_outside_a_circle : IsRefused name_outside_a_circle_nodes rule.CircularEquate 1 14
unfolding checking
name_outside_a_circle = refl

-- p = proc (x: c[n]) n = 1 + "a" end p
-- c = cluster [n: int] is m rep = int m = proc () end m end c
abbrev bad_constant_in_a_heading_nodes : List Node
bad_constant_in_a_heading_nodes =
    (n kind.Name 1 16 8 8 [] ((codes "n") ∷ []) [] None ∷ n kind.NameT 1 14 6 9 (0 ∷ []) ((codes "c") ∷ []) [] None ∷
    n kind.Decl 1 11 4 9 (1 ∷ []) ((codes "x") ∷ []) [] None ∷ n kind.Literal 1 24 13 13 [] [] (codes "1") (Some 13) ∷
    n kind.Literal 1 28 15 15 [] [] (34 ∷ 97 ∷ 34 ∷ []) (Some 15) ∷ n kind.Infix 1 26 13 15 (3 ∷ 4 ∷ []) [] (codes
    "+") (Some 14) ∷ n kind.Equate 1 20 11 15 (5 ∷ []) ((codes "n") ∷ []) [] None ∷ n kind.Routine 1 1 0 17 (2 ∷ 6 ∷
    []) ((codes "p") ∷ (codes "p") ∷ []) (codes "proc") (Some 2) ∷ n kind.Module 1 1 0 17 (7 ∷ []) [] [] None ∷ n
    kind.Simple 2 17 24 24 [] [] (codes "int") (Some 24) ∷ n kind.Parm 2 14 22 24 (9 ∷ []) ((codes "n") ∷ []) [] None
    ∷ n kind.Simple 2 33 30 30 [] [] (codes "int") (Some 30) ∷ n kind.Equate 2 27 28 30 (11 ∷ []) [] (codes "rep")
    (Some 28) ∷ n kind.Routine 2 37 31 37 [] ((codes "m") ∷ (codes "m") ∷ []) (codes "proc") (Some 33) ∷ n
    kind.Cluster 2 1 18 39 (10 ∷ 12 ∷ 13 ∷ []) ((codes "c") ∷ (codes "m") ∷ (codes "c") ∷ []) [] None ∷ n kind.Module
    2 1 18 39 (14 ∷ []) [] [] None ∷ n kind.File 1 1 0 39 (8 ∷ 15 ∷ []) [] [] None ∷ [])

bad_constant_in_a_heading : IsRefused bad_constant_in_a_heading_nodes rule.NotConstant 1 16
unfolding checking
bad_constant_in_a_heading = refl

-- p = proc (x: c[n]) n = 1 + "a" end p
-- c = cluster [t: type] is m rep = int m = proc () end m end c
abbrev bad_type_in_a_heading_nodes : List Node
bad_type_in_a_heading_nodes =
    (n kind.Name 1 16 8 8 [] ((codes "n") ∷ []) [] None ∷ n kind.NameT 1 14 6 9 (0 ∷ []) ((codes "c") ∷ []) [] None ∷
    n kind.Decl 1 11 4 9 (1 ∷ []) ((codes "x") ∷ []) [] None ∷ n kind.Literal 1 24 13 13 [] [] (codes "1") (Some 13) ∷
    n kind.Literal 1 28 15 15 [] [] (34 ∷ 97 ∷ 34 ∷ []) (Some 15) ∷ n kind.Infix 1 26 13 15 (3 ∷ 4 ∷ []) [] (codes
    "+") (Some 14) ∷ n kind.Equate 1 20 11 15 (5 ∷ []) ((codes "n") ∷ []) [] None ∷ n kind.Routine 1 1 0 17 (2 ∷ 6 ∷
    []) ((codes "p") ∷ (codes "p") ∷ []) (codes "proc") (Some 2) ∷ n kind.Module 1 1 0 17 (7 ∷ []) [] [] None ∷ n
    kind.Parm 2 14 22 24 [] ((codes "t") ∷ []) (codes "type") (Some 24) ∷ n kind.Simple 2 34 30 30 [] [] (codes "int")
    (Some 30) ∷ n kind.Equate 2 28 28 30 (10 ∷ []) [] (codes "rep") (Some 28) ∷ n kind.Routine 2 38 31 37 [] ((codes
    "m") ∷ (codes "m") ∷ []) (codes "proc") (Some 33) ∷ n kind.Cluster 2 1 18 39 (9 ∷ 11 ∷ 12 ∷ []) ((codes "c") ∷
    (codes "m") ∷ (codes "c") ∷ []) [] None ∷ n kind.Module 2 1 18 39 (13 ∷ []) [] [] None ∷ n kind.File 1 1 0 39 (8 ∷
    14 ∷ []) [] [] None ∷ [])

bad_type_in_a_heading : IsRefused bad_type_in_a_heading_nodes rule.NotType 1 16
unfolding checking
bad_type_in_a_heading = refl

-- a = zork p = proc () x: any := a end p
abbrev name_of_a_bad_equate_nodes : List Node
name_of_a_bad_equate_nodes =
    (n kind.Name 1 5 2 2 [] ((codes "zork") ∷ []) [] None ∷ n kind.Equate 1 1 0 2 (0 ∷ []) ((codes "a") ∷ []) [] None
    ∷ n kind.Simple 1 25 10 10 [] [] (codes "any") (Some 10) ∷ n kind.Name 1 32 12 12 [] ((codes "a") ∷ []) [] None ∷
    n kind.Init 1 22 8 12 (2 ∷ 3 ∷ []) ((codes "x") ∷ []) [] None ∷ n kind.Routine 1 10 3 14 (4 ∷ []) ((codes "p") ∷
    (codes "p") ∷ []) (codes "proc") (Some 5) ∷ n kind.Module 1 1 0 14 (1 ∷ 5 ∷ []) [] [] None ∷ n kind.File 1 1 0 14
    (6 ∷ []) [] [] None ∷ [])

name_of_a_bad_equate : IsRefused name_of_a_bad_equate_nodes rule.UnknownName 1 5
unfolding checking
name_of_a_bad_equate = refl

-- p = proc (f: proctype () signals (e)) end p q = proc () p(q) end q
abbrev inclusion_of_signals_nodes : List Node
inclusion_of_signals_nodes =
    (n kind.Exc 1 35 11 11 [] ((codes "e") ∷ []) [] None ∷ n kind.Signals 1 26 9 12 (0 ∷ []) [] [] None ∷ n
    kind.RoutineT 1 14 6 12 (1 ∷ []) [] (codes "proctype") (Some 6) ∷ n kind.Decl 1 11 4 12 (2 ∷ []) ((codes "f") ∷
    []) [] None ∷ n kind.Routine 1 1 0 15 (3 ∷ []) ((codes "p") ∷ (codes "p") ∷ []) (codes "proc") (Some 2) ∷ n
    kind.Module 1 1 0 15 (4 ∷ []) [] [] None ∷ n kind.Name 1 57 21 21 [] ((codes "p") ∷ []) [] None ∷ n kind.Name 1 59
    23 23 [] ((codes "q") ∷ []) [] None ∷ n kind.Call 1 58 21 24 (6 ∷ 7 ∷ []) [] [] None ∷ n kind.CallS 1 57 21 24 (8
    ∷ []) [] [] None ∷ n kind.Routine 1 45 16 26 (9 ∷ []) ((codes "q") ∷ (codes "q") ∷ []) (codes "proc") (Some 18) ∷
    n kind.Module 1 45 16 26 (10 ∷ []) [] [] None ∷ n kind.File 1 1 0 26 (5 ∷ 11 ∷ []) [] [] None ∷ [])

inclusion_of_signals : IsFine inclusion_of_signals_nodes
unfolding checking
inclusion_of_signals = refl

-- p = proc (a: array[any]) end p q = proc (a: array[int]) p(a) end q
abbrev no_inclusion_of_elements_nodes : List Node
no_inclusion_of_elements_nodes =
    (n kind.Simple 1 20 8 8 [] [] (codes "any") (Some 8) ∷ n kind.ListT 1 14 6 9 (0 ∷ []) [] (codes "array") (Some 6)
    ∷ n kind.Decl 1 11 4 9 (1 ∷ []) ((codes "a") ∷ []) [] None ∷ n kind.Routine 1 1 0 12 (2 ∷ []) ((codes "p") ∷
    (codes "p") ∷ []) (codes "proc") (Some 2) ∷ n kind.Module 1 1 0 12 (3 ∷ []) [] [] None ∷ n kind.Simple 1 51 21 21
    [] [] (codes "int") (Some 21) ∷ n kind.ListT 1 45 19 22 (5 ∷ []) [] (codes "array") (Some 19) ∷ n kind.Decl 1 42
    17 22 (6 ∷ []) ((codes "a") ∷ []) [] None ∷ n kind.Name 1 57 24 24 [] ((codes "p") ∷ []) [] None ∷ n kind.Name 1
    59 26 26 [] ((codes "a") ∷ []) [] None ∷ n kind.Call 1 58 24 27 (8 ∷ 9 ∷ []) [] [] None ∷ n kind.CallS 1 57 24 27
    (10 ∷ []) [] [] None ∷ n kind.Routine 1 32 13 29 (7 ∷ 11 ∷ []) ((codes "q") ∷ (codes "q") ∷ []) (codes "proc")
    (Some 15) ∷ n kind.Module 1 32 13 29 (12 ∷ []) [] [] None ∷ n kind.File 1 1 0 29 (4 ∷ 13 ∷ []) [] [] None ∷ [])

no_inclusion_of_elements : IsRefused no_inclusion_of_elements_nodes rule.ArgumentType 1 58
unfolding checking
no_inclusion_of_elements = refl

-- p = proc () b: bool := 1 ~= 2 end p
abbrev negated_comparison_nodes : List Node
negated_comparison_nodes =
    (n kind.Simple 1 16 7 7 [] [] (codes "bool") (Some 7) ∷ n kind.Literal 1 24 9 9 [] [] (codes "1") (Some 9) ∷ n
    kind.Literal 1 29 11 11 [] [] (codes "2") (Some 11) ∷ n kind.Infix 1 26 9 11 (1 ∷ 2 ∷ []) [] (codes "~=") (Some
    10) ∷ n kind.Init 1 13 5 11 (0 ∷ 3 ∷ []) ((codes "b") ∷ []) [] None ∷ n kind.Routine 1 1 0 13 (4 ∷ []) ((codes
    "p") ∷ (codes "p") ∷ []) (codes "proc") (Some 2) ∷ n kind.Module 1 1 0 13 (5 ∷ []) [] [] None ∷ n kind.File 1 1 0
    13 (6 ∷ []) [] [] None ∷ [])

negated_comparison : IsFine negated_comparison_nodes
unfolding checking
negated_comparison = refl

-- p = proc (a: array[array[any]]) b: array[array[any]] := array[array[any]]$copy(a) end p
abbrev needs_of_the_parts_nodes : List Node
needs_of_the_parts_nodes =
    (n kind.Simple 1 26 10 10 [] [] (codes "any") (Some 10) ∷ n kind.ListT 1 20 8 11 (0 ∷ []) [] (codes "array") (Some
    8) ∷ n kind.ListT 1 14 6 12 (1 ∷ []) [] (codes "array") (Some 6) ∷ n kind.Decl 1 11 4 12 (2 ∷ []) ((codes "a") ∷
    []) [] None ∷ n kind.Simple 1 48 20 20 [] [] (codes "any") (Some 20) ∷ n kind.ListT 1 42 18 21 (4 ∷ []) [] (codes
    "array") (Some 18) ∷ n kind.ListT 1 36 16 22 (5 ∷ []) [] (codes "array") (Some 16) ∷ n kind.Simple 1 69 28 28 []
    [] (codes "any") (Some 28) ∷ n kind.ListT 1 63 26 29 (7 ∷ []) [] (codes "array") (Some 26) ∷ n kind.ListT 1 57 24
    30 (8 ∷ []) [] (codes "array") (Some 24) ∷ n kind.OperOf 1 57 24 32 (9 ∷ []) ((codes "copy") ∷ []) [] None ∷ n
    kind.Name 1 80 34 34 [] ((codes "a") ∷ []) [] None ∷ n kind.Call 1 79 24 35 (10 ∷ 11 ∷ []) [] [] None ∷ n
    kind.Init 1 33 14 35 (6 ∷ 12 ∷ []) ((codes "b") ∷ []) [] None ∷ n kind.Routine 1 1 0 37 (3 ∷ 13 ∷ []) ((codes "p")
    ∷ (codes "p") ∷ []) (codes "proc") (Some 2) ∷ n kind.Module 1 1 0 37 (14 ∷ []) [] [] None ∷ n kind.File 1 1 0 37
    (15 ∷ []) [] [] None ∷ [])

needs_of_the_parts : IsRefused needs_of_the_parts_nodes rule.WhereNotMet 1 57
unfolding checking
needs_of_the_parts = refl
