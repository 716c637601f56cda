-- What is named or invoked at the nodes of a file. It is the tree of the CLU above it.
use Rattle.std.specs.Prelude.{◌≡◌, refl, List, [], ◌∷◌, flat_map, codes, Option, Some, None}
use Rattle.clu_types.specs.CluType.{int_type, array_of, cluster_of, parameter, no_actuals, actual_type}
use Rattle.clu_tree.specs.declared.node.Node.{Node}
use Rattle.clu_tree.specs.declared.node.NodeKind.TheVariants as kind
use Rattle.clu_checking.specs.Files.{File, numbers}
use Rattle.clu_checking.specs.Invoked.{Invoked, of_builtin, of_cluster, of_module, of_parameter, stored, invoked_at}
use Rattle.clu_checking.specs.Refusals.{checked_file}
use Rattle.clu_checking.proofs.Checking.{n, surroundings, IsFine, checking}

abbrev as_list : Option Invoked → List Invoked
as_list (Some i) = i ∷ []
as_list None = []

-- p = proc [t: type] (x: t, i: int, a: array[int], f: proctype (int)) where t has g: proctype (t)
--   b: bool := i ~= -a[1]
--   t$g(x)
--   f(i)
--   q(i)
--   a[2] := c[int]$m(i)
--   r[int]()
-- end p
-- q = proc (i: int) end q
-- r = proc [u: type] () end r
-- c = cluster [u: type] is m rep = int
--   m = proc (i: int) returns (int) return (n(i)) end m
--   n = proc (i: int) returns (int) return (i) end n
-- end c
abbrev invoking_nodes : List Node
invoking_nodes =
    (n kind.Parm 1 11 4 6 [] ((codes "t") ∷ []) (codes "type") (Some 6) ∷ n kind.NameT 1 24 11 11 [] ((codes "t") ∷
    []) [] None ∷ n kind.Decl 1 21 9 11 (1 ∷ []) ((codes "x") ∷ []) [] None ∷ n kind.Simple 1 30 15 15 [] [] (codes
    "int") (Some 15) ∷ n kind.Decl 1 27 13 15 (3 ∷ []) ((codes "i") ∷ []) [] None ∷ n kind.Simple 1 44 21 21 [] []
    (codes "int") (Some 21) ∷ n kind.ListT 1 38 19 22 (5 ∷ []) [] (codes "array") (Some 19) ∷ n kind.Decl 1 35 17 22
    (6 ∷ []) ((codes "a") ∷ []) [] None ∷ n kind.Simple 1 63 28 28 [] [] (codes "int") (Some 28) ∷ n kind.RoutineT 1
    53 26 29 (8 ∷ []) [] (codes "proctype") (Some 26) ∷ n kind.Decl 1 50 24 29 (9 ∷ []) ((codes "f") ∷ []) [] None ∷ n
    kind.NameT 1 94 38 38 [] ((codes "t") ∷ []) [] None ∷ n kind.RoutineT 1 84 36 39 (11 ∷ []) [] (codes "proctype")
    (Some 36) ∷ n kind.Oper 1 81 34 39 (12 ∷ []) ((codes "g") ∷ []) [] None ∷ n kind.Restrict 1 75 32 39 (13 ∷ [])
    ((codes "t") ∷ []) (codes "has") (Some 33) ∷ n kind.Where 1 69 31 39 (14 ∷ []) [] [] None ∷ n kind.Simple 2 6 42
    42 [] [] (codes "bool") (Some 42) ∷ n kind.Name 2 14 44 44 [] ((codes "i") ∷ []) [] None ∷ n kind.Name 2 20 47 47
    [] ((codes "a") ∷ []) [] None ∷ n kind.Literal 2 22 49 49 [] [] (codes "1") (Some 49) ∷ n kind.Index 2 21 47 50
    (18 ∷ 19 ∷ []) [] [] None ∷ n kind.Prefix 2 19 46 50 (20 ∷ []) [] (codes "-") (Some 46) ∷ n kind.Infix 2 16 44 50
    (17 ∷ 21 ∷ []) [] (codes "~=") (Some 45) ∷ n kind.Init 2 3 40 50 (16 ∷ 22 ∷ []) ((codes "b") ∷ []) [] None ∷ n
    kind.NameT 3 3 51 51 [] ((codes "t") ∷ []) [] None ∷ n kind.OperOf 3 3 51 53 (24 ∷ []) ((codes "g") ∷ []) [] None
    ∷ n kind.Name 3 7 55 55 [] ((codes "x") ∷ []) [] None ∷ n kind.Call 3 6 51 56 (25 ∷ 26 ∷ []) [] [] None ∷ n
    kind.CallS 3 3 51 56 (27 ∷ []) [] [] None ∷ n kind.Name 4 3 57 57 [] ((codes "f") ∷ []) [] None ∷ n kind.Name 4 5
    59 59 [] ((codes "i") ∷ []) [] None ∷ n kind.Call 4 4 57 60 (29 ∷ 30 ∷ []) [] [] None ∷ n kind.CallS 4 3 57 60 (31
    ∷ []) [] [] None ∷ n kind.Name 5 3 61 61 [] ((codes "q") ∷ []) [] None ∷ n kind.Name 5 5 63 63 [] ((codes "i") ∷
    []) [] None ∷ n kind.Call 5 4 61 64 (33 ∷ 34 ∷ []) [] [] None ∷ n kind.CallS 5 3 61 64 (35 ∷ []) [] [] None ∷ n
    kind.Name 6 3 65 65 [] ((codes "a") ∷ []) [] None ∷ n kind.Literal 6 5 67 67 [] [] (codes "2") (Some 67) ∷ n
    kind.Simple 6 13 72 72 [] [] (codes "int") (Some 72) ∷ n kind.NameT 6 11 70 73 (39 ∷ []) ((codes "c") ∷ []) []
    None ∷ n kind.OperOf 6 11 70 75 (40 ∷ []) ((codes "m") ∷ []) [] None ∷ n kind.Name 6 20 77 77 [] ((codes "i") ∷
    []) [] None ∷ n kind.Call 6 19 70 78 (41 ∷ 42 ∷ []) [] [] None ∷ n kind.SetIndex 6 3 65 78 (37 ∷ 38 ∷ 43 ∷ []) []
    [] None ∷ n kind.Name 7 3 79 79 [] ((codes "r") ∷ []) [] None ∷ n kind.Simple 7 5 81 81 [] [] (codes "int") (Some
    81) ∷ n kind.Index 7 4 79 82 (45 ∷ 46 ∷ []) [] [] None ∷ n kind.Call 7 9 79 84 (47 ∷ []) [] [] None ∷ n kind.CallS
    7 3 79 84 (48 ∷ []) [] [] None ∷ n kind.Routine 1 1 0 86 (0 ∷ 2 ∷ 4 ∷ 7 ∷ 10 ∷ 15 ∷ 23 ∷ 28 ∷ 32 ∷ 36 ∷ 44 ∷ 49 ∷
    []) ((codes "p") ∷ (codes "p") ∷ []) (codes "proc") (Some 2) ∷ n kind.Module 1 1 0 86 (50 ∷ []) [] [] None ∷ n
    kind.Simple 9 14 93 93 [] [] (codes "int") (Some 93) ∷ n kind.Decl 9 11 91 93 (52 ∷ []) ((codes "i") ∷ []) [] None
    ∷ n kind.Routine 9 1 87 96 (53 ∷ []) ((codes "q") ∷ (codes "q") ∷ []) (codes "proc") (Some 89) ∷ n kind.Module 9 1
    87 96 (54 ∷ []) [] [] None ∷ n kind.Parm 10 11 101 103 [] ((codes "u") ∷ []) (codes "type") (Some 103) ∷ n
    kind.Routine 10 1 97 108 (56 ∷ []) ((codes "r") ∷ (codes "r") ∷ []) (codes "proc") (Some 99) ∷ n kind.Module 10 1
    97 108 (57 ∷ []) [] [] None ∷ n kind.Parm 11 14 113 115 [] ((codes "u") ∷ []) (codes "type") (Some 115) ∷ n
    kind.Simple 11 34 121 121 [] [] (codes "int") (Some 121) ∷ n kind.Equate 11 28 119 121 (60 ∷ []) [] (codes "rep")
    (Some 119) ∷ n kind.Simple 12 16 128 128 [] [] (codes "int") (Some 128) ∷ n kind.Decl 12 13 126 128 (62 ∷ [])
    ((codes "i") ∷ []) [] None ∷ n kind.Simple 12 30 132 132 [] [] (codes "int") (Some 132) ∷ n kind.Results 12 21 130
    133 (64 ∷ []) [] (codes "returns") (Some 130) ∷ n kind.Name 12 43 136 136 [] ((codes "n") ∷ []) [] None ∷ n
    kind.Name 12 45 138 138 [] ((codes "i") ∷ []) [] None ∷ n kind.Call 12 44 136 139 (66 ∷ 67 ∷ []) [] [] None ∷ n
    kind.Return 12 35 134 140 (68 ∷ []) [] [] None ∷ n kind.Routine 12 3 122 142 (63 ∷ 65 ∷ 69 ∷ []) ((codes "m") ∷
    (codes "m") ∷ []) (codes "proc") (Some 124) ∷ n kind.Simple 13 16 149 149 [] [] (codes "int") (Some 149) ∷ n
    kind.Decl 13 13 147 149 (71 ∷ []) ((codes "i") ∷ []) [] None ∷ n kind.Simple 13 30 153 153 [] [] (codes "int")
    (Some 153) ∷ n kind.Results 13 21 151 154 (73 ∷ []) [] (codes "returns") (Some 151) ∷ n kind.Name 13 43 157 157 []
    ((codes "i") ∷ []) [] None ∷ n kind.Return 13 35 155 158 (75 ∷ []) [] [] None ∷ n kind.Routine 13 3 143 160 (72 ∷
    74 ∷ 76 ∷ []) ((codes "n") ∷ (codes "n") ∷ []) (codes "proc") (Some 145) ∷ n kind.Cluster 11 1 109 162 (59 ∷ 61 ∷
    70 ∷ 77 ∷ []) ((codes "c") ∷ (codes "m") ∷ (codes "c") ∷ []) [] None ∷ n kind.Module 11 1 109 162 (78 ∷ []) [] []
    None ∷ n kind.File 1 1 0 162 (51 ∷ 55 ∷ 58 ∷ 79 ∷ []) [] [] None ∷ [])

invoking_accepted : IsFine invoking_nodes
unfolding checking
invoking_accepted = refl

abbrev invoking_file : File
invoking_file = checked_file invoking_nodes (surroundings invoking_nodes) []

-- in post-order: operators and indexes; of an invocation what is named, and then that it is invoked
what_is_invoked : flat_map (λ n. as_list (invoked_at invoking_file n)) (numbers invoking_nodes) ≡
    of_builtin (array_of int_type) (codes "fetch") ∷ of_builtin int_type (codes "minus") ∷ of_builtin int_type (codes "equal") ∷
    of_parameter 1 (codes "g") ∷ of_parameter 1 (codes "g") ∷
    stored ∷
    of_module (codes "q") no_actuals ∷ of_module (codes "q") no_actuals ∷
    of_cluster (cluster_of (codes "c") (actual_type int_type no_actuals)) (codes "m") ∷
    of_cluster (cluster_of (codes "c") (actual_type int_type no_actuals)) (codes "m") ∷
    of_builtin (array_of int_type) (codes "store") ∷
    of_module (codes "r") (actual_type int_type no_actuals) ∷ of_module (codes "r") (actual_type int_type no_actuals) ∷
    of_cluster (cluster_of (codes "c") (actual_type (parameter 1) no_actuals)) (codes "n") ∷
    of_cluster (cluster_of (codes "c") (actual_type (parameter 1) no_actuals)) (codes "n") ∷ []
unfolding checking
what_is_invoked = refl
