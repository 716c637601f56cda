-- Files that are checked: what is asked of types, up and down, iterators. Each is the tree of the CLU above it.
use Rattle.std.specs.Prelude.{refl, List, [], ◌∷◌, codes, Some, None}
use Rattle.clu_base.specs.declared.rules.Rule.TheVariants as rule
use Rattle.clu_tree.specs.declared.node.Node.{Node}
use Rattle.clu_tree.specs.declared.node.NodeKind.TheVariants as kind
use Rattle.clu_checking.proofs.Checking.{n, IsRefused, IsFine, checking}

-- start_up = proc () p[any]() end start_up
-- p = proc [t: type] () where t has equal: proctype (t, t) returns (bool) end p
abbrev where_not_met_refused_nodes : List Node
where_not_met_refused_nodes =
    (n kind.Name 1 20 5 5 [] ((codes "p") ∷ []) [] None ∷ n kind.Simple 1 22 7 7 [] [] (codes "any") (Some 7) ∷ n
    kind.Index 1 21 5 8 (0 ∷ 1 ∷ []) [] [] None ∷ n kind.Call 1 26 5 10 (2 ∷ []) [] [] None ∷ n kind.CallS 1 20 5 10
    (3 ∷ []) [] [] None ∷ n kind.Routine 1 1 0 12 (4 ∷ []) ((codes "start_up") ∷ (codes "start_up") ∷ []) (codes
    "proc") (Some 2) ∷ n kind.Module 1 1 0 12 (5 ∷ []) [] [] None ∷ n kind.Parm 2 11 17 19 [] ((codes "t") ∷ [])
    (codes "type") (Some 19) ∷ n kind.NameT 2 52 30 30 [] ((codes "t") ∷ []) [] None ∷ n kind.NameT 2 55 32 32 []
    ((codes "t") ∷ []) [] None ∷ n kind.Simple 2 67 36 36 [] [] (codes "bool") (Some 36) ∷ n kind.Results 2 58 34 37
    (10 ∷ []) [] (codes "returns") (Some 34) ∷ n kind.RoutineT 2 42 28 37 (8 ∷ 9 ∷ 11 ∷ []) [] (codes "proctype")
    (Some 28) ∷ n kind.Oper 2 35 26 37 (12 ∷ []) ((codes "equal") ∷ []) [] None ∷ n kind.Restrict 2 29 24 37 (13 ∷ [])
    ((codes "t") ∷ []) (codes "has") (Some 25) ∷ n kind.Where 2 23 23 37 (14 ∷ []) [] [] None ∷ n kind.Routine 2 1 13
    39 (7 ∷ 15 ∷ []) ((codes "p") ∷ (codes "p") ∷ []) (codes "proc") (Some 15) ∷ n kind.Module 2 1 13 39 (16 ∷ []) []
    [] None ∷ n kind.File 1 1 0 39 (6 ∷ 17 ∷ []) [] [] None ∷ [])

where_not_met_refused : IsRefused where_not_met_refused_nodes rule.WhereNotMet 1 21
unfolding checking
where_not_met_refused = refl

-- start_up = proc () p[array[any]]() end start_up
-- p = proc [t: type] () where t has equal: proctype (t, t) returns (bool) end p
abbrev where_not_met_accepted_nodes : List Node
where_not_met_accepted_nodes =
    (n kind.Name 1 20 5 5 [] ((codes "p") ∷ []) [] None ∷ n kind.Simple 1 28 9 9 [] [] (codes "any") (Some 9) ∷ n
    kind.ListT 1 22 7 10 (1 ∷ []) [] (codes "array") (Some 7) ∷ n kind.Index 1 21 5 11 (0 ∷ 2 ∷ []) [] [] None ∷ n
    kind.Call 1 33 5 13 (3 ∷ []) [] [] None ∷ n kind.CallS 1 20 5 13 (4 ∷ []) [] [] None ∷ n kind.Routine 1 1 0 15 (5
    ∷ []) ((codes "start_up") ∷ (codes "start_up") ∷ []) (codes "proc") (Some 2) ∷ n kind.Module 1 1 0 15 (6 ∷ []) []
    [] None ∷ n kind.Parm 2 11 20 22 [] ((codes "t") ∷ []) (codes "type") (Some 22) ∷ n kind.NameT 2 52 33 33 []
    ((codes "t") ∷ []) [] None ∷ n kind.NameT 2 55 35 35 [] ((codes "t") ∷ []) [] None ∷ n kind.Simple 2 67 39 39 []
    [] (codes "bool") (Some 39) ∷ n kind.Results 2 58 37 40 (11 ∷ []) [] (codes "returns") (Some 37) ∷ n kind.RoutineT
    2 42 31 40 (9 ∷ 10 ∷ 12 ∷ []) [] (codes "proctype") (Some 31) ∷ n kind.Oper 2 35 29 40 (13 ∷ []) ((codes "equal")
    ∷ []) [] None ∷ n kind.Restrict 2 29 27 40 (14 ∷ []) ((codes "t") ∷ []) (codes "has") (Some 28) ∷ n kind.Where 2
    23 26 40 (15 ∷ []) [] [] None ∷ n kind.Routine 2 1 16 42 (8 ∷ 16 ∷ []) ((codes "p") ∷ (codes "p") ∷ []) (codes
    "proc") (Some 18) ∷ n kind.Module 2 1 16 42 (17 ∷ []) [] [] None ∷ n kind.File 1 1 0 42 (7 ∷ 18 ∷ []) [] [] None ∷
    [])

where_not_met_accepted : IsFine where_not_met_accepted_nodes
unfolding checking
where_not_met_accepted = refl

-- printable = {t | t has unparse: proctype (t) returns (string)}
-- show = proc [t: type] (x: t) returns (string) where t in printable
--   return (t$unparse(x))
-- end show
-- start_up = proc ()
--   s: string := show[bool](true)
-- end start_up
abbrev not_in_type_set_refused_nodes : List Node
not_in_type_set_refused_nodes =
    (n kind.NameT 1 43 11 11 [] ((codes "t") ∷ []) [] None ∷ n kind.Simple 1 55 15 15 [] [] (codes "string") (Some 15)
    ∷ n kind.Results 1 46 13 16 (1 ∷ []) [] (codes "returns") (Some 13) ∷ n kind.RoutineT 1 33 9 16 (0 ∷ 2 ∷ []) []
    (codes "proctype") (Some 9) ∷ n kind.Oper 1 24 7 16 (3 ∷ []) ((codes "unparse") ∷ []) [] None ∷ n kind.TypeSet 1
    13 2 17 (4 ∷ []) ((codes "t") ∷ (codes "t") ∷ []) [] None ∷ n kind.Equate 1 1 0 17 (5 ∷ []) ((codes "printable") ∷
    []) [] None ∷ n kind.Parm 2 14 22 24 [] ((codes "t") ∷ []) (codes "type") (Some 24) ∷ n kind.NameT 2 27 29 29 []
    ((codes "t") ∷ []) [] None ∷ n kind.Decl 2 24 27 29 (8 ∷ []) ((codes "x") ∷ []) [] None ∷ n kind.Simple 2 39 33 33
    [] [] (codes "string") (Some 33) ∷ n kind.Results 2 30 31 34 (10 ∷ []) [] (codes "returns") (Some 31) ∷ n
    kind.Restrict 2 53 36 38 [] ((codes "t") ∷ (codes "printable") ∷ []) (codes "in") (Some 37) ∷ n kind.Where 2 47 35
    38 (12 ∷ []) [] [] None ∷ n kind.NameT 3 11 41 41 [] ((codes "t") ∷ []) [] None ∷ n kind.OperOf 3 11 41 43 (14 ∷
    []) ((codes "unparse") ∷ []) [] None ∷ n kind.Name 3 21 45 45 [] ((codes "x") ∷ []) [] None ∷ n kind.Call 3 20 41
    46 (15 ∷ 16 ∷ []) [] [] None ∷ n kind.Return 3 3 39 47 (17 ∷ []) [] [] None ∷ n kind.Routine 2 1 18 49 (7 ∷ 9 ∷ 11
    ∷ 13 ∷ 18 ∷ []) ((codes "show") ∷ (codes "show") ∷ []) (codes "proc") (Some 20) ∷ n kind.Module 1 1 0 49 (6 ∷ 19 ∷
    []) [] [] None ∷ n kind.Simple 6 6 57 57 [] [] (codes "string") (Some 57) ∷ n kind.Name 6 16 59 59 [] ((codes
    "show") ∷ []) [] None ∷ n kind.Simple 6 21 61 61 [] [] (codes "bool") (Some 61) ∷ n kind.Index 6 20 59 62 (22 ∷ 23
    ∷ []) [] [] None ∷ n kind.Literal 6 27 64 64 [] [] (codes "true") (Some 64) ∷ n kind.Call 6 26 59 65 (24 ∷ 25 ∷
    []) [] [] None ∷ n kind.Init 6 3 55 65 (21 ∷ 26 ∷ []) ((codes "s") ∷ []) [] None ∷ n kind.Routine 5 1 50 67 (27 ∷
    []) ((codes "start_up") ∷ (codes "start_up") ∷ []) (codes "proc") (Some 52) ∷ n kind.Module 5 1 50 67 (28 ∷ []) []
    [] None ∷ n kind.File 1 1 0 67 (20 ∷ 29 ∷ []) [] [] None ∷ [])

not_in_type_set_refused : IsRefused not_in_type_set_refused_nodes rule.NotInTypeSet 6 20
unfolding checking
not_in_type_set_refused = refl

-- printable = {t | t has unparse: proctype (t) returns (string)}
-- show = proc [t: type] (x: t) returns (string) where t in printable
--   return (t$unparse(x))
-- end show
-- start_up = proc ()
--   s: string := show[int](1)
-- end start_up
abbrev not_in_type_set_accepted_nodes : List Node
not_in_type_set_accepted_nodes =
    (n kind.NameT 1 43 11 11 [] ((codes "t") ∷ []) [] None ∷ n kind.Simple 1 55 15 15 [] [] (codes "string") (Some 15)
    ∷ n kind.Results 1 46 13 16 (1 ∷ []) [] (codes "returns") (Some 13) ∷ n kind.RoutineT 1 33 9 16 (0 ∷ 2 ∷ []) []
    (codes "proctype") (Some 9) ∷ n kind.Oper 1 24 7 16 (3 ∷ []) ((codes "unparse") ∷ []) [] None ∷ n kind.TypeSet 1
    13 2 17 (4 ∷ []) ((codes "t") ∷ (codes "t") ∷ []) [] None ∷ n kind.Equate 1 1 0 17 (5 ∷ []) ((codes "printable") ∷
    []) [] None ∷ n kind.Parm 2 14 22 24 [] ((codes "t") ∷ []) (codes "type") (Some 24) ∷ n kind.NameT 2 27 29 29 []
    ((codes "t") ∷ []) [] None ∷ n kind.Decl 2 24 27 29 (8 ∷ []) ((codes "x") ∷ []) [] None ∷ n kind.Simple 2 39 33 33
    [] [] (codes "string") (Some 33) ∷ n kind.Results 2 30 31 34 (10 ∷ []) [] (codes "returns") (Some 31) ∷ n
    kind.Restrict 2 53 36 38 [] ((codes "t") ∷ (codes "printable") ∷ []) (codes "in") (Some 37) ∷ n kind.Where 2 47 35
    38 (12 ∷ []) [] [] None ∷ n kind.NameT 3 11 41 41 [] ((codes "t") ∷ []) [] None ∷ n kind.OperOf 3 11 41 43 (14 ∷
    []) ((codes "unparse") ∷ []) [] None ∷ n kind.Name 3 21 45 45 [] ((codes "x") ∷ []) [] None ∷ n kind.Call 3 20 41
    46 (15 ∷ 16 ∷ []) [] [] None ∷ n kind.Return 3 3 39 47 (17 ∷ []) [] [] None ∷ n kind.Routine 2 1 18 49 (7 ∷ 9 ∷ 11
    ∷ 13 ∷ 18 ∷ []) ((codes "show") ∷ (codes "show") ∷ []) (codes "proc") (Some 20) ∷ n kind.Module 1 1 0 49 (6 ∷ 19 ∷
    []) [] [] None ∷ n kind.Simple 6 6 57 57 [] [] (codes "string") (Some 57) ∷ n kind.Name 6 16 59 59 [] ((codes
    "show") ∷ []) [] None ∷ n kind.Simple 6 21 61 61 [] [] (codes "int") (Some 61) ∷ n kind.Index 6 20 59 62 (22 ∷ 23
    ∷ []) [] [] None ∷ n kind.Literal 6 26 64 64 [] [] (codes "1") (Some 64) ∷ n kind.Call 6 25 59 65 (24 ∷ 25 ∷ [])
    [] [] None ∷ n kind.Init 6 3 55 65 (21 ∷ 26 ∷ []) ((codes "s") ∷ []) [] None ∷ n kind.Routine 5 1 50 67 (27 ∷ [])
    ((codes "start_up") ∷ (codes "start_up") ∷ []) (codes "proc") (Some 52) ∷ n kind.Module 5 1 50 67 (28 ∷ []) [] []
    None ∷ n kind.File 1 1 0 67 (20 ∷ 29 ∷ []) [] [] None ∷ [])

not_in_type_set_accepted : IsFine not_in_type_set_accepted_nodes
unfolding checking
not_in_type_set_accepted = refl

-- start_up = proc ()
--   a: array[int] := down(box$make())
-- end start_up
-- box = cluster is make
--   rep = array[int]
--   make = proc () returns (cvt) return (rep$new()) end make
-- end box
abbrev up_down_refused_nodes : List Node
up_down_refused_nodes =
    (n kind.Simple 2 12 9 9 [] [] (codes "int") (Some 9) ∷ n kind.ListT 2 6 7 10 (0 ∷ []) [] (codes "array") (Some 7)
    ∷ n kind.NameT 2 25 14 14 [] ((codes "box") ∷ []) [] None ∷ n kind.OperOf 2 25 14 16 (2 ∷ []) ((codes "make") ∷
    []) [] None ∷ n kind.Call 2 33 14 18 (3 ∷ []) [] [] None ∷ n kind.Down 2 20 12 19 (4 ∷ []) [] [] None ∷ n
    kind.Init 2 3 5 19 (1 ∷ 5 ∷ []) ((codes "a") ∷ []) [] None ∷ n kind.Routine 1 1 0 21 (6 ∷ []) ((codes "start_up")
    ∷ (codes "start_up") ∷ []) (codes "proc") (Some 2) ∷ n kind.Module 1 1 0 21 (7 ∷ []) [] [] None ∷ n kind.Simple 5
    15 31 31 [] [] (codes "int") (Some 31) ∷ n kind.ListT 5 9 29 32 (9 ∷ []) [] (codes "array") (Some 29) ∷ n
    kind.Equate 5 3 27 32 (10 ∷ []) [] (codes "rep") (Some 27) ∷ n kind.Simple 6 27 40 40 [] [] (codes "cvt") (Some
    40) ∷ n kind.Results 6 18 38 41 (12 ∷ []) [] (codes "returns") (Some 38) ∷ n kind.Simple 6 40 44 44 [] [] (codes
    "rep") (Some 44) ∷ n kind.OperOf 6 40 44 46 (14 ∷ []) ((codes "new") ∷ []) [] None ∷ n kind.Call 6 47 44 48 (15 ∷
    []) [] [] None ∷ n kind.Return 6 32 42 49 (16 ∷ []) [] [] None ∷ n kind.Routine 6 3 33 51 (13 ∷ 17 ∷ []) ((codes
    "make") ∷ (codes "make") ∷ []) (codes "proc") (Some 35) ∷ n kind.Cluster 4 1 22 53 (11 ∷ 18 ∷ []) ((codes "box") ∷
    (codes "make") ∷ (codes "box") ∷ []) [] None ∷ n kind.Module 4 1 22 53 (19 ∷ []) [] [] None ∷ n kind.File 1 1 0 53
    (8 ∷ 20 ∷ []) [] [] None ∷ [])

up_down_refused : IsRefused up_down_refused_nodes rule.UpDown 2 20
unfolding checking
up_down_refused = refl

-- start_up = proc ()
--   n: int := box$size(box$make())
-- end start_up
-- box = cluster is make, size
--   rep = array[int]
--   make = proc () returns (box) return (up(rep$new())) end make
--   size = proc (b: box) returns (int) return (rep$size(down(b))) end size
-- end box
abbrev up_down_accepted_nodes : List Node
up_down_accepted_nodes =
    (n kind.Simple 2 6 7 7 [] [] (codes "int") (Some 7) ∷ n kind.NameT 2 13 9 9 [] ((codes "box") ∷ []) [] None ∷ n
    kind.OperOf 2 13 9 11 (1 ∷ []) ((codes "size") ∷ []) [] None ∷ n kind.NameT 2 22 13 13 [] ((codes "box") ∷ []) []
    None ∷ n kind.OperOf 2 22 13 15 (3 ∷ []) ((codes "make") ∷ []) [] None ∷ n kind.Call 2 30 13 17 (4 ∷ []) [] []
    None ∷ n kind.Call 2 21 9 18 (2 ∷ 5 ∷ []) [] [] None ∷ n kind.Init 2 3 5 18 (0 ∷ 6 ∷ []) ((codes "n") ∷ []) []
    None ∷ n kind.Routine 1 1 0 20 (7 ∷ []) ((codes "start_up") ∷ (codes "start_up") ∷ []) (codes "proc") (Some 2) ∷ n
    kind.Module 1 1 0 20 (8 ∷ []) [] [] None ∷ n kind.Simple 5 15 32 32 [] [] (codes "int") (Some 32) ∷ n kind.ListT 5
    9 30 33 (10 ∷ []) [] (codes "array") (Some 30) ∷ n kind.Equate 5 3 28 33 (11 ∷ []) [] (codes "rep") (Some 28) ∷ n
    kind.NameT 6 27 41 41 [] ((codes "box") ∷ []) [] None ∷ n kind.Results 6 18 39 42 (13 ∷ []) [] (codes "returns")
    (Some 39) ∷ n kind.Simple 6 43 47 47 [] [] (codes "rep") (Some 47) ∷ n kind.OperOf 6 43 47 49 (15 ∷ []) ((codes
    "new") ∷ []) [] None ∷ n kind.Call 6 50 47 51 (16 ∷ []) [] [] None ∷ n kind.Up 6 40 45 52 (17 ∷ []) [] [] None ∷ n
    kind.Return 6 32 43 53 (18 ∷ []) [] [] None ∷ n kind.Routine 6 3 34 55 (14 ∷ 19 ∷ []) ((codes "make") ∷ (codes
    "make") ∷ []) (codes "proc") (Some 36) ∷ n kind.NameT 7 19 62 62 [] ((codes "box") ∷ []) [] None ∷ n kind.Decl 7
    16 60 62 (21 ∷ []) ((codes "b") ∷ []) [] None ∷ n kind.Simple 7 33 66 66 [] [] (codes "int") (Some 66) ∷ n
    kind.Results 7 24 64 67 (23 ∷ []) [] (codes "returns") (Some 64) ∷ n kind.Simple 7 46 70 70 [] [] (codes "rep")
    (Some 70) ∷ n kind.OperOf 7 46 70 72 (25 ∷ []) ((codes "size") ∷ []) [] None ∷ n kind.Name 7 60 76 76 [] ((codes
    "b") ∷ []) [] None ∷ n kind.Down 7 55 74 77 (27 ∷ []) [] [] None ∷ n kind.Call 7 54 70 78 (26 ∷ 28 ∷ []) [] []
    None ∷ n kind.Return 7 38 68 79 (29 ∷ []) [] [] None ∷ n kind.Routine 7 3 56 81 (22 ∷ 24 ∷ 30 ∷ []) ((codes
    "size") ∷ (codes "size") ∷ []) (codes "proc") (Some 58) ∷ n kind.Cluster 4 1 21 83 (12 ∷ 20 ∷ 31 ∷ []) ((codes
    "box") ∷ (codes "make") ∷ (codes "size") ∷ (codes "box") ∷ []) [] None ∷ n kind.Module 4 1 21 83 (32 ∷ []) [] []
    None ∷ n kind.File 1 1 0 83 (9 ∷ 33 ∷ []) [] [] None ∷ [])

up_down_accepted : IsFine up_down_accepted_nodes
unfolding checking
up_down_accepted = refl

-- start_up = proc ()
--   for i: int in int$add(1, 2) do end
-- end start_up
abbrev iterator_use_refused_nodes : List Node
iterator_use_refused_nodes =
    (n kind.Simple 2 10 8 8 [] [] (codes "int") (Some 8) ∷ n kind.Decl 2 7 6 8 (0 ∷ []) ((codes "i") ∷ []) [] None ∷ n
    kind.Simple 2 17 10 10 [] [] (codes "int") (Some 10) ∷ n kind.OperOf 2 17 10 12 (2 ∷ []) ((codes "add") ∷ []) []
    None ∷ n kind.Literal 2 25 14 14 [] [] (codes "1") (Some 14) ∷ n kind.Literal 2 28 16 16 [] [] (codes "2") (Some
    16) ∷ n kind.Call 2 24 10 17 (3 ∷ 4 ∷ 5 ∷ []) [] [] None ∷ n kind.For 2 3 5 19 (1 ∷ 6 ∷ []) [] [] None ∷ n
    kind.Routine 1 1 0 21 (7 ∷ []) ((codes "start_up") ∷ (codes "start_up") ∷ []) (codes "proc") (Some 2) ∷ n
    kind.Module 1 1 0 21 (8 ∷ []) [] [] None ∷ n kind.File 1 1 0 21 (9 ∷ []) [] [] None ∷ [])

iterator_use_refused : IsRefused iterator_use_refused_nodes rule.IteratorUse 2 3
unfolding checking
iterator_use_refused = refl

-- start_up = proc ()
--   for i: int in int$from_to(1, 2) do end
-- end start_up
abbrev iterator_use_accepted_nodes : List Node
iterator_use_accepted_nodes =
    (n kind.Simple 2 10 8 8 [] [] (codes "int") (Some 8) ∷ n kind.Decl 2 7 6 8 (0 ∷ []) ((codes "i") ∷ []) [] None ∷ n
    kind.Simple 2 17 10 10 [] [] (codes "int") (Some 10) ∷ n kind.OperOf 2 17 10 12 (2 ∷ []) ((codes "from_to") ∷ [])
    [] None ∷ n kind.Literal 2 29 14 14 [] [] (codes "1") (Some 14) ∷ n kind.Literal 2 32 16 16 [] [] (codes "2")
    (Some 16) ∷ n kind.Call 2 28 10 17 (3 ∷ 4 ∷ 5 ∷ []) [] [] None ∷ n kind.For 2 3 5 19 (1 ∷ 6 ∷ []) [] [] None ∷ n
    kind.Routine 1 1 0 21 (7 ∷ []) ((codes "start_up") ∷ (codes "start_up") ∷ []) (codes "proc") (Some 2) ∷ n
    kind.Module 1 1 0 21 (8 ∷ []) [] [] None ∷ n kind.File 1 1 0 21 (9 ∷ []) [] [] None ∷ [])

iterator_use_accepted : IsFine iterator_use_accepted_nodes
unfolding checking
iterator_use_accepted = refl

-- c = cluster is m m = proc (x: c) y: int := down(x) end m end c
abbrev down_without_rep_nodes : List Node
down_without_rep_nodes =
    (n kind.NameT 1 31 11 11 [] ((codes "c") ∷ []) [] None ∷ n kind.Decl 1 28 9 11 (0 ∷ []) ((codes "x") ∷ []) [] None
    ∷ n kind.Simple 1 37 15 15 [] [] (codes "int") (Some 15) ∷ n kind.Name 1 49 19 19 [] ((codes "x") ∷ []) [] None ∷
    n kind.Down 1 44 17 20 (3 ∷ []) [] [] None ∷ n kind.Init 1 34 13 20 (2 ∷ 4 ∷ []) ((codes "y") ∷ []) [] None ∷ n
    kind.Routine 1 18 5 22 (1 ∷ 5 ∷ []) ((codes "m") ∷ (codes "m") ∷ []) (codes "proc") (Some 7) ∷ n kind.Cluster 1 1
    0 24 (6 ∷ []) ((codes "c") ∷ (codes "m") ∷ (codes "c") ∷ []) [] None ∷ n kind.Module 1 1 0 24 (7 ∷ []) [] [] None
    ∷ n kind.File 1 1 0 24 (8 ∷ []) [] [] None ∷ [])

down_without_rep : IsRefused down_without_rep_nodes rule.UpDown 1 44
unfolding checking
down_without_rep = refl

-- c = cluster is m m = proc () y: c := up(1) end m end c
abbrev up_without_rep_nodes : List Node
up_without_rep_nodes =
    (n kind.NameT 1 33 12 12 [] ((codes "c") ∷ []) [] None ∷ n kind.Literal 1 41 16 16 [] [] (codes "1") (Some 16) ∷ n
    kind.Up 1 38 14 17 (1 ∷ []) [] [] None ∷ n kind.Init 1 30 10 17 (0 ∷ 2 ∷ []) ((codes "y") ∷ []) [] None ∷ n
    kind.Routine 1 18 5 19 (3 ∷ []) ((codes "m") ∷ (codes "m") ∷ []) (codes "proc") (Some 7) ∷ n kind.Cluster 1 1 0 21
    (4 ∷ []) ((codes "c") ∷ (codes "m") ∷ (codes "c") ∷ []) [] None ∷ n kind.Module 1 1 0 21 (5 ∷ []) [] [] None ∷ n
    kind.File 1 1 0 21 (6 ∷ []) [] [] None ∷ [])

up_without_rep : IsRefused up_without_rep_nodes rule.UpDown 1 38
unfolding checking
up_without_rep = refl

-- c = cluster [t: type] is m where t has f: proctype (t) rep = int
--   m = proc () where t has f: proctype (t, t) q[t]() end m end c
-- q = proc [t: type] () where t has f: proctype (t) end q
abbrev demand_of_the_cluster_met_nodes : List Node
demand_of_the_cluster_met_nodes =
    (n kind.Parm 1 14 4 6 [] ((codes "t") ∷ []) (codes "type") (Some 6) ∷ n kind.NameT 1 53 17 17 [] ((codes "t") ∷
    []) [] None ∷ n kind.RoutineT 1 43 15 18 (1 ∷ []) [] (codes "proctype") (Some 15) ∷ n kind.Oper 1 40 13 18 (2 ∷
    []) ((codes "f") ∷ []) [] None ∷ n kind.Restrict 1 34 11 18 (3 ∷ []) ((codes "t") ∷ []) (codes "has") (Some 12) ∷
    n kind.Where 1 28 10 18 (4 ∷ []) [] [] None ∷ n kind.Simple 1 62 21 21 [] [] (codes "int") (Some 21) ∷ n
    kind.Equate 1 56 19 21 (6 ∷ []) [] (codes "rep") (Some 19) ∷ n kind.NameT 2 40 34 34 [] ((codes "t") ∷ []) [] None
    ∷ n kind.NameT 2 43 36 36 [] ((codes "t") ∷ []) [] None ∷ n kind.RoutineT 2 30 32 37 (8 ∷ 9 ∷ []) [] (codes
    "proctype") (Some 32) ∷ n kind.Oper 2 27 30 37 (10 ∷ []) ((codes "f") ∷ []) [] None ∷ n kind.Restrict 2 21 28 37
    (11 ∷ []) ((codes "t") ∷ []) (codes "has") (Some 29) ∷ n kind.Where 2 15 27 37 (12 ∷ []) [] [] None ∷ n kind.Name
    2 46 38 38 [] ((codes "q") ∷ []) [] None ∷ n kind.Name 2 48 40 40 [] ((codes "t") ∷ []) [] None ∷ n kind.Index 2
    47 38 41 (14 ∷ 15 ∷ []) [] [] None ∷ n kind.Call 2 50 38 43 (16 ∷ []) [] [] None ∷ n kind.CallS 2 46 38 43 (17 ∷
    []) [] [] None ∷ n kind.Routine 2 3 22 45 (13 ∷ 18 ∷ []) ((codes "m") ∷ (codes "m") ∷ []) (codes "proc") (Some 24)
    ∷ n kind.Cluster 1 1 0 47 (0 ∷ 5 ∷ 7 ∷ 19 ∷ []) ((codes "c") ∷ (codes "m") ∷ (codes "c") ∷ []) [] None ∷ n
    kind.Module 1 1 0 47 (20 ∷ []) [] [] None ∷ n kind.Parm 3 11 52 54 [] ((codes "t") ∷ []) (codes "type") (Some 54)
    ∷ n kind.NameT 3 48 65 65 [] ((codes "t") ∷ []) [] None ∷ n kind.RoutineT 3 38 63 66 (23 ∷ []) [] (codes
    "proctype") (Some 63) ∷ n kind.Oper 3 35 61 66 (24 ∷ []) ((codes "f") ∷ []) [] None ∷ n kind.Restrict 3 29 59 66
    (25 ∷ []) ((codes "t") ∷ []) (codes "has") (Some 60) ∷ n kind.Where 3 23 58 66 (26 ∷ []) [] [] None ∷ n
    kind.Routine 3 1 48 68 (22 ∷ 27 ∷ []) ((codes "q") ∷ (codes "q") ∷ []) (codes "proc") (Some 50) ∷ n kind.Module 3
    1 48 68 (28 ∷ []) [] [] None ∷ n kind.File 1 1 0 68 (21 ∷ 29 ∷ []) [] [] None ∷ [])

demand_of_the_cluster_met : IsFine demand_of_the_cluster_met_nodes
unfolding checking
demand_of_the_cluster_met = refl

-- c = cluster [t: type] is m where t has f: proctype (t) rep = int
--   m = proc () where t has f: proctype (t, t) q[t]() end m end c
-- q = proc [t: type] () where t has f: proctype () end q
abbrev demand_met_by_neither_nodes : List Node
demand_met_by_neither_nodes =
    (n kind.Parm 1 14 4 6 [] ((codes "t") ∷ []) (codes "type") (Some 6) ∷ n kind.NameT 1 53 17 17 [] ((codes "t") ∷
    []) [] None ∷ n kind.RoutineT 1 43 15 18 (1 ∷ []) [] (codes "proctype") (Some 15) ∷ n kind.Oper 1 40 13 18 (2 ∷
    []) ((codes "f") ∷ []) [] None ∷ n kind.Restrict 1 34 11 18 (3 ∷ []) ((codes "t") ∷ []) (codes "has") (Some 12) ∷
    n kind.Where 1 28 10 18 (4 ∷ []) [] [] None ∷ n kind.Simple 1 62 21 21 [] [] (codes "int") (Some 21) ∷ n
    kind.Equate 1 56 19 21 (6 ∷ []) [] (codes "rep") (Some 19) ∷ n kind.NameT 2 40 34 34 [] ((codes "t") ∷ []) [] None
    ∷ n kind.NameT 2 43 36 36 [] ((codes "t") ∷ []) [] None ∷ n kind.RoutineT 2 30 32 37 (8 ∷ 9 ∷ []) [] (codes
    "proctype") (Some 32) ∷ n kind.Oper 2 27 30 37 (10 ∷ []) ((codes "f") ∷ []) [] None ∷ n kind.Restrict 2 21 28 37
    (11 ∷ []) ((codes "t") ∷ []) (codes "has") (Some 29) ∷ n kind.Where 2 15 27 37 (12 ∷ []) [] [] None ∷ n kind.Name
    2 46 38 38 [] ((codes "q") ∷ []) [] None ∷ n kind.Name 2 48 40 40 [] ((codes "t") ∷ []) [] None ∷ n kind.Index 2
    47 38 41 (14 ∷ 15 ∷ []) [] [] None ∷ n kind.Call 2 50 38 43 (16 ∷ []) [] [] None ∷ n kind.CallS 2 46 38 43 (17 ∷
    []) [] [] None ∷ n kind.Routine 2 3 22 45 (13 ∷ 18 ∷ []) ((codes "m") ∷ (codes "m") ∷ []) (codes "proc") (Some 24)
    ∷ n kind.Cluster 1 1 0 47 (0 ∷ 5 ∷ 7 ∷ 19 ∷ []) ((codes "c") ∷ (codes "m") ∷ (codes "c") ∷ []) [] None ∷ n
    kind.Module 1 1 0 47 (20 ∷ []) [] [] None ∷ n kind.Parm 3 11 52 54 [] ((codes "t") ∷ []) (codes "type") (Some 54)
    ∷ n kind.RoutineT 3 38 63 65 [] [] (codes "proctype") (Some 63) ∷ n kind.Oper 3 35 61 65 (23 ∷ []) ((codes "f") ∷
    []) [] None ∷ n kind.Restrict 3 29 59 65 (24 ∷ []) ((codes "t") ∷ []) (codes "has") (Some 60) ∷ n kind.Where 3 23
    58 65 (25 ∷ []) [] [] None ∷ n kind.Routine 3 1 48 67 (22 ∷ 26 ∷ []) ((codes "q") ∷ (codes "q") ∷ []) (codes
    "proc") (Some 50) ∷ n kind.Module 3 1 48 67 (27 ∷ []) [] [] None ∷ n kind.File 1 1 0 67 (21 ∷ 28 ∷ []) [] [] None
    ∷ [])

demand_met_by_neither : IsRefused demand_met_by_neither_nodes rule.WhereNotMet 2 47
unfolding checking
demand_met_by_neither = refl

-- c = cluster [t: type] is m where t has f: proctype (t) rep = int
--   m = proc () where t has f: proctype (t, t) q[t]() end m end c
-- q = proc [t: type] () where t has f: proctype (t, t) end q
abbrev demand_of_the_routine_met_nodes : List Node
demand_of_the_routine_met_nodes =
    (n kind.Parm 1 14 4 6 [] ((codes "t") ∷ []) (codes "type") (Some 6) ∷ n kind.NameT 1 53 17 17 [] ((codes "t") ∷
    []) [] None ∷ n kind.RoutineT 1 43 15 18 (1 ∷ []) [] (codes "proctype") (Some 15) ∷ n kind.Oper 1 40 13 18 (2 ∷
    []) ((codes "f") ∷ []) [] None ∷ n kind.Restrict 1 34 11 18 (3 ∷ []) ((codes "t") ∷ []) (codes "has") (Some 12) ∷
    n kind.Where 1 28 10 18 (4 ∷ []) [] [] None ∷ n kind.Simple 1 62 21 21 [] [] (codes "int") (Some 21) ∷ n
    kind.Equate 1 56 19 21 (6 ∷ []) [] (codes "rep") (Some 19) ∷ n kind.NameT 2 40 34 34 [] ((codes "t") ∷ []) [] None
    ∷ n kind.NameT 2 43 36 36 [] ((codes "t") ∷ []) [] None ∷ n kind.RoutineT 2 30 32 37 (8 ∷ 9 ∷ []) [] (codes
    "proctype") (Some 32) ∷ n kind.Oper 2 27 30 37 (10 ∷ []) ((codes "f") ∷ []) [] None ∷ n kind.Restrict 2 21 28 37
    (11 ∷ []) ((codes "t") ∷ []) (codes "has") (Some 29) ∷ n kind.Where 2 15 27 37 (12 ∷ []) [] [] None ∷ n kind.Name
    2 46 38 38 [] ((codes "q") ∷ []) [] None ∷ n kind.Name 2 48 40 40 [] ((codes "t") ∷ []) [] None ∷ n kind.Index 2
    47 38 41 (14 ∷ 15 ∷ []) [] [] None ∷ n kind.Call 2 50 38 43 (16 ∷ []) [] [] None ∷ n kind.CallS 2 46 38 43 (17 ∷
    []) [] [] None ∷ n kind.Routine 2 3 22 45 (13 ∷ 18 ∷ []) ((codes "m") ∷ (codes "m") ∷ []) (codes "proc") (Some 24)
    ∷ n kind.Cluster 1 1 0 47 (0 ∷ 5 ∷ 7 ∷ 19 ∷ []) ((codes "c") ∷ (codes "m") ∷ (codes "c") ∷ []) [] None ∷ n
    kind.Module 1 1 0 47 (20 ∷ []) [] [] None ∷ n kind.Parm 3 11 52 54 [] ((codes "t") ∷ []) (codes "type") (Some 54)
    ∷ n kind.NameT 3 48 65 65 [] ((codes "t") ∷ []) [] None ∷ n kind.NameT 3 51 67 67 [] ((codes "t") ∷ []) [] None ∷
    n kind.RoutineT 3 38 63 68 (23 ∷ 24 ∷ []) [] (codes "proctype") (Some 63) ∷ n kind.Oper 3 35 61 68 (25 ∷ [])
    ((codes "f") ∷ []) [] None ∷ n kind.Restrict 3 29 59 68 (26 ∷ []) ((codes "t") ∷ []) (codes "has") (Some 60) ∷ n
    kind.Where 3 23 58 68 (27 ∷ []) [] [] None ∷ n kind.Routine 3 1 48 70 (22 ∷ 28 ∷ []) ((codes "q") ∷ (codes "q") ∷
    []) (codes "proc") (Some 50) ∷ n kind.Module 3 1 48 70 (29 ∷ []) [] [] None ∷ n kind.File 1 1 0 70 (21 ∷ 30 ∷ [])
    [] [] None ∷ [])

demand_of_the_routine_met : IsFine demand_of_the_routine_met_nodes
unfolding checking
demand_of_the_routine_met = refl
