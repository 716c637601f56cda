-- What modules show of themselves, and files under the specifications of a library. Each is the tree of the CLU above it.
use Rattle.std.specs.Prelude.{◌≡◌, refl, true, false, List, [], ◌∷◌, map, codes, Some, None}
use Rattle.clu_base.specs.declared.rules.Rule.TheVariants as rule
use Rattle.clu_types.specs.CluType.{bool_type, array_of, proc_of, iter_of, cluster_of, parameter, no_types, type_and, no_signals, signal_and, no_actuals, actual_type}
use Rattle.clu_types.specs.declared.spec.ParamKind.TheVariants as param
use Rattle.clu_tree.specs.declared.node.Node.{Node}
use Rattle.clu_tree.specs.declared.node.NodeKind.TheVariants as kind
use Rattle.clu_syntax.specs.Nodes.{file_of}
use Rattle.clu_checking.specs.Specifications.{of_routine, of_cluster, Specification, specification_kept}
use Rattle.clu_checking.specs.Headings.{own_specifications}
use Rattle.clu_checking.specs.Named.{modules_named}
use Rattle.clu_checking.specs.Refusals.{checked_file, heading_refusal, heading_refusal_of}
use Rattle.clu_checking.proofs.Checking.{n, surroundings, IsRefusedUnder, IsFineUnder, checking}

-- signals and demands ascend, and failure is left out

-- p = proc [t: type, k: int] (x, y: t) returns (array[c]) signals (b, a(t), failure(string))
--   where t has f, e: proctype (t)
-- end p
-- c = cluster is m rep = int m = proc () end m end c
abbrev routine_nodes : List Node
routine_nodes =
    (n kind.Parm 1 11 4 6 [] ((codes "t") ∷ []) (codes "type") (Some 6) ∷ n kind.Simple 1 23 10 10 [] [] (codes "int")
    (Some 10) ∷ n kind.Parm 1 20 8 10 (1 ∷ []) ((codes "k") ∷ []) [] None ∷ n kind.NameT 1 35 17 17 [] ((codes "t") ∷
    []) [] None ∷ n kind.Decl 1 29 13 17 (3 ∷ []) ((codes "x") ∷ (codes "y") ∷ []) [] None ∷ n kind.NameT 1 53 23 23
    [] ((codes "c") ∷ []) [] None ∷ n kind.ListT 1 47 21 24 (5 ∷ []) [] (codes "array") (Some 21) ∷ n kind.Results 1
    38 19 25 (6 ∷ []) [] (codes "returns") (Some 19) ∷ n kind.Exc 1 66 28 28 [] ((codes "b") ∷ []) [] None ∷ n
    kind.NameT 1 71 32 32 [] ((codes "t") ∷ []) [] None ∷ n kind.Exc 1 69 30 33 (9 ∷ []) ((codes "a") ∷ []) [] None ∷
    n kind.Simple 1 83 37 37 [] [] (codes "string") (Some 37) ∷ n kind.Exc 1 75 35 38 (11 ∷ []) ((codes "failure") ∷
    []) [] None ∷ n kind.Signals 1 57 26 39 (8 ∷ 10 ∷ 12 ∷ []) [] [] None ∷ n kind.NameT 2 31 49 49 [] ((codes "t") ∷
    []) [] None ∷ n kind.RoutineT 2 21 47 50 (14 ∷ []) [] (codes "proctype") (Some 47) ∷ n kind.Oper 2 15 43 50 (15 ∷
    []) ((codes "f") ∷ (codes "e") ∷ []) [] None ∷ n kind.Restrict 2 9 41 50 (16 ∷ []) ((codes "t") ∷ []) (codes
    "has") (Some 42) ∷ n kind.Where 2 3 40 50 (17 ∷ []) [] [] None ∷ n kind.Routine 1 1 0 52 (0 ∷ 2 ∷ 4 ∷ 7 ∷ 13 ∷ 18
    ∷ []) ((codes "p") ∷ (codes "p") ∷ []) (codes "proc") (Some 2) ∷ n kind.Module 1 1 0 52 (19 ∷ []) [] [] None ∷ n
    kind.Simple 4 24 60 60 [] [] (codes "int") (Some 60) ∷ n kind.Equate 4 18 58 60 (21 ∷ []) [] (codes "rep") (Some
    58) ∷ n kind.Routine 4 28 61 67 [] ((codes "m") ∷ (codes "m") ∷ []) (codes "proc") (Some 63) ∷ n kind.Cluster 4 1
    53 69 (22 ∷ 23 ∷ []) ((codes "c") ∷ (codes "m") ∷ (codes "c") ∷ []) [] None ∷ n kind.Module 4 1 53 69 (24 ∷ []) []
    [] None ∷ n kind.File 1 1 0 69 (20 ∷ 25 ∷ []) [] [] None ∷ [])

routine_specified : own_specifications (checked_file routine_nodes (surroundings routine_nodes) []) ≡
    record {
      name = codes "p";
      kinds = Some param.OfType ∷ Some param.Int ∷ [];
      form = of_routine (record {
        name = codes "p";
        type = Some (proc_of (type_and (parameter 1) (type_and (parameter 1) no_types)) (type_and (array_of (cluster_of (codes "c") no_actuals)) no_types)
            (signal_and (codes "a") (type_and (parameter 1) no_types) (signal_and (codes "b") no_types no_signals)));
        demands =
            record { node = 16; parameter = 1; operation = codes "e"; wanted = Some (proc_of (type_and (parameter 1) no_types) no_types no_signals); in_set = false } ∷
            record { node = 16; parameter = 1; operation = codes "f"; wanted = Some (proc_of (type_and (parameter 1) no_types) no_types no_signals); in_set = false } ∷ [];
      });
    } ∷
    record {
      name = codes "c";
      kinds = [];
      form = of_cluster [] (record { name = codes "m"; type = Some (proc_of no_types no_types no_signals); demands = [] } ∷ []);
    } ∷ []
unfolding checking
routine_specified = refl

-- s = {u | u has g: proctype (u)}
-- c = cluster [t: type] is m where t in s
--   rep = array[t]
--   n = proc () end n
--   m = iter (x: cvt, y: rep) yields (cvt) where t has h: proctype ()
--   end m
-- end c
abbrev cluster_nodes : List Node
cluster_nodes =
    (n kind.NameT 1 29 11 11 [] ((codes "u") ∷ []) [] None ∷ n kind.RoutineT 1 19 9 12 (0 ∷ []) [] (codes "proctype")
    (Some 9) ∷ n kind.Oper 1 16 7 12 (1 ∷ []) ((codes "g") ∷ []) [] None ∷ n kind.TypeSet 1 5 2 13 (2 ∷ []) ((codes
    "u") ∷ (codes "u") ∷ []) [] None ∷ n kind.Equate 1 1 0 13 (3 ∷ []) ((codes "s") ∷ []) [] None ∷ n kind.Parm 2 14
    18 20 [] ((codes "t") ∷ []) (codes "type") (Some 20) ∷ n kind.Restrict 2 34 25 27 [] ((codes "t") ∷ (codes "s") ∷
    []) (codes "in") (Some 26) ∷ n kind.Where 2 28 24 27 (6 ∷ []) [] [] None ∷ n kind.NameT 3 15 32 32 [] ((codes "t")
    ∷ []) [] None ∷ n kind.ListT 3 9 30 33 (8 ∷ []) [] (codes "array") (Some 30) ∷ n kind.Equate 3 3 28 33 (9 ∷ []) []
    (codes "rep") (Some 28) ∷ n kind.Routine 4 3 34 40 [] ((codes "n") ∷ (codes "n") ∷ []) (codes "proc") (Some 36) ∷
    n kind.Simple 5 16 47 47 [] [] (codes "cvt") (Some 47) ∷ n kind.Decl 5 13 45 47 (12 ∷ []) ((codes "x") ∷ []) []
    None ∷ n kind.Simple 5 24 51 51 [] [] (codes "rep") (Some 51) ∷ n kind.Decl 5 21 49 51 (14 ∷ []) ((codes "y") ∷
    []) [] None ∷ n kind.Simple 5 37 55 55 [] [] (codes "cvt") (Some 55) ∷ n kind.Results 5 29 53 56 (16 ∷ []) []
    (codes "yields") (Some 53) ∷ n kind.RoutineT 5 57 62 64 [] [] (codes "proctype") (Some 62) ∷ n kind.Oper 5 54 60
    64 (18 ∷ []) ((codes "h") ∷ []) [] None ∷ n kind.Restrict 5 48 58 64 (19 ∷ []) ((codes "t") ∷ []) (codes "has")
    (Some 59) ∷ n kind.Where 5 42 57 64 (20 ∷ []) [] [] None ∷ n kind.Routine 5 3 41 66 (13 ∷ 15 ∷ 17 ∷ 21 ∷ [])
    ((codes "m") ∷ (codes "m") ∷ []) (codes "iter") (Some 43) ∷ n kind.Cluster 2 1 14 68 (5 ∷ 7 ∷ 10 ∷ 11 ∷ 22 ∷ [])
    ((codes "c") ∷ (codes "m") ∷ (codes "c") ∷ []) [] None ∷ n kind.Module 1 1 0 68 (4 ∷ 23 ∷ []) [] [] None ∷ n
    kind.File 1 1 0 68 (24 ∷ []) [] [] None ∷ [])

cluster_specified : own_specifications (checked_file cluster_nodes (surroundings cluster_nodes) []) ≡
    record {
      name = codes "c";
      kinds = Some param.OfType ∷ [];
      form = of_cluster
          (record { node = 6; parameter = 1; operation = codes "g"; wanted = Some (proc_of (type_and (parameter 1) no_types) no_types no_signals); in_set = true } ∷ [])
          (record {
            name = codes "m";
            type = Some (iter_of (type_and (cluster_of (codes "c") (actual_type (parameter 1) no_actuals)) (type_and (array_of (parameter 1)) no_types))
                (type_and (cluster_of (codes "c") (actual_type (parameter 1) no_actuals)) no_types) no_signals);
            demands = record { node = 19; parameter = 1; operation = codes "h"; wanted = Some (proc_of no_types no_types no_signals); in_set = false } ∷ [];
          } ∷ []);
    } ∷ []
unfolding checking
cluster_specified = refl

-- ---- the other modules that a text names: not its own, none that it hides, and stream is none

-- t = array[b]
-- p = proc (c: int, s: stream) returns (d)
--   n: int := c + q(t$new())
--   p(n, s)
--   return (d$m())
-- end p
-- b = cluster is m rep = int m = proc () end m end b
-- c = proc () end c
-- d = cluster is m rep = int m = proc () returns (cvt) return (1) end m end d
-- q = proc (x: array[b]) returns (int) return (1) end q
abbrev naming_nodes : List Node
naming_nodes =
    (n kind.NameT 1 11 4 4 [] ((codes "b") ∷ []) [] None ∷ n kind.ListT 1 5 2 5 (0 ∷ []) [] (codes "array") (Some 2) ∷
    n kind.Equate 1 1 0 5 (1 ∷ []) ((codes "t") ∷ []) [] None ∷ n kind.Simple 2 14 12 12 [] [] (codes "int") (Some 12)
    ∷ n kind.Decl 2 11 10 12 (3 ∷ []) ((codes "c") ∷ []) [] None ∷ n kind.NameT 2 22 16 16 [] ((codes "stream") ∷ [])
    [] None ∷ n kind.Decl 2 19 14 16 (5 ∷ []) ((codes "s") ∷ []) [] None ∷ n kind.NameT 2 39 20 20 [] ((codes "d") ∷
    []) [] None ∷ n kind.Results 2 30 18 21 (7 ∷ []) [] (codes "returns") (Some 18) ∷ n kind.Simple 3 6 24 24 [] []
    (codes "int") (Some 24) ∷ n kind.Name 3 13 26 26 [] ((codes "c") ∷ []) [] None ∷ n kind.Name 3 17 28 28 [] ((codes
    "q") ∷ []) [] None ∷ n kind.NameT 3 19 30 30 [] ((codes "t") ∷ []) [] None ∷ n kind.OperOf 3 19 30 32 (12 ∷ [])
    ((codes "new") ∷ []) [] None ∷ n kind.Call 3 24 30 34 (13 ∷ []) [] [] None ∷ n kind.Call 3 18 28 35 (11 ∷ 14 ∷ [])
    [] [] None ∷ n kind.Infix 3 15 26 35 (10 ∷ 15 ∷ []) [] (codes "+") (Some 27) ∷ n kind.Init 3 3 22 35 (9 ∷ 16 ∷ [])
    ((codes "n") ∷ []) [] None ∷ n kind.Name 4 3 36 36 [] ((codes "p") ∷ []) [] None ∷ n kind.Name 4 5 38 38 []
    ((codes "n") ∷ []) [] None ∷ n kind.Name 4 8 40 40 [] ((codes "s") ∷ []) [] None ∷ n kind.Call 4 4 36 41 (18 ∷ 19
    ∷ 20 ∷ []) [] [] None ∷ n kind.CallS 4 3 36 41 (21 ∷ []) [] [] None ∷ n kind.NameT 5 11 44 44 [] ((codes "d") ∷
    []) [] None ∷ n kind.OperOf 5 11 44 46 (23 ∷ []) ((codes "m") ∷ []) [] None ∷ n kind.Call 5 14 44 48 (24 ∷ []) []
    [] None ∷ n kind.Return 5 3 42 49 (25 ∷ []) [] [] None ∷ n kind.Routine 2 1 6 51 (4 ∷ 6 ∷ 8 ∷ 17 ∷ 22 ∷ 26 ∷ [])
    ((codes "p") ∷ (codes "p") ∷ []) (codes "proc") (Some 8) ∷ n kind.Module 1 1 0 51 (2 ∷ 27 ∷ []) [] [] None ∷ n
    kind.Simple 7 24 59 59 [] [] (codes "int") (Some 59) ∷ n kind.Equate 7 18 57 59 (29 ∷ []) [] (codes "rep") (Some
    57) ∷ n kind.Routine 7 28 60 66 [] ((codes "m") ∷ (codes "m") ∷ []) (codes "proc") (Some 62) ∷ n kind.Cluster 7 1
    52 68 (30 ∷ 31 ∷ []) ((codes "b") ∷ (codes "m") ∷ (codes "b") ∷ []) [] None ∷ n kind.Module 7 1 52 68 (32 ∷ []) []
    [] None ∷ n kind.Routine 8 1 69 75 [] ((codes "c") ∷ (codes "c") ∷ []) (codes "proc") (Some 71) ∷ n kind.Module 8
    1 69 75 (34 ∷ []) [] [] None ∷ n kind.Simple 9 24 83 83 [] [] (codes "int") (Some 83) ∷ n kind.Equate 9 18 81 83
    (36 ∷ []) [] (codes "rep") (Some 81) ∷ n kind.Simple 9 49 91 91 [] [] (codes "cvt") (Some 91) ∷ n kind.Results 9
    40 89 92 (38 ∷ []) [] (codes "returns") (Some 89) ∷ n kind.Literal 9 62 95 95 [] [] (codes "1") (Some 95) ∷ n
    kind.Return 9 54 93 96 (40 ∷ []) [] [] None ∷ n kind.Routine 9 28 84 98 (39 ∷ 41 ∷ []) ((codes "m") ∷ (codes "m")
    ∷ []) (codes "proc") (Some 86) ∷ n kind.Cluster 9 1 76 100 (37 ∷ 42 ∷ []) ((codes "d") ∷ (codes "m") ∷ (codes "d")
    ∷ []) [] None ∷ n kind.Module 9 1 76 100 (43 ∷ []) [] [] None ∷ n kind.NameT 10 20 109 109 [] ((codes "b") ∷ [])
    [] None ∷ n kind.ListT 10 14 107 110 (45 ∷ []) [] (codes "array") (Some 107) ∷ n kind.Decl 10 11 105 110 (46 ∷ [])
    ((codes "x") ∷ []) [] None ∷ n kind.Simple 10 33 114 114 [] [] (codes "int") (Some 114) ∷ n kind.Results 10 24 112
    115 (48 ∷ []) [] (codes "returns") (Some 112) ∷ n kind.Literal 10 46 118 118 [] [] (codes "1") (Some 118) ∷ n
    kind.Return 10 38 116 119 (50 ∷ []) [] [] None ∷ n kind.Routine 10 1 101 121 (47 ∷ 49 ∷ 51 ∷ []) ((codes "q") ∷
    (codes "q") ∷ []) (codes "proc") (Some 103) ∷ n kind.Module 10 1 101 121 (52 ∷ []) [] [] None ∷ n kind.File 1 1 0
    121 (28 ∷ 33 ∷ 35 ∷ 44 ∷ 53 ∷ []) [] [] None ∷ [])

naming_accepted : IsFineUnder [] naming_nodes
unfolding checking
naming_accepted = refl

modules_are_named : map (modules_named (checked_file naming_nodes (surroundings naming_nodes) [])) (file_of naming_nodes) ≡
    (codes "b" ∷ codes "d" ∷ codes "q" ∷ []) ∷ [] ∷ [] ∷ [] ∷ (codes "b" ∷ []) ∷ []
unfolding checking
modules_are_named = refl

-- ---- under a library

-- p = proc [t: type] (x: t) returns (bool) where t has copy: proctype (t) returns (t)
abbrev kept : List Specification
kept =
    record {
      name = codes "p";
      kinds = Some param.OfType ∷ [];
      form = of_routine (record {
        name = codes "p";
        type = Some (proc_of (type_and (parameter 1) no_types) (type_and bool_type no_types) no_signals);
        demands = record { node = 0; parameter = 1; operation = codes "copy"; wanted = Some (proc_of (type_and (parameter 1) no_types) (type_and (parameter 1) no_types) no_signals); in_set = false } ∷ [];
      });
    } ∷ []

-- what a library keeps doesn't say that an `in` clause asks: so it is V18 there what would be V20 in one file

-- s = {u | u has copy: proctype (u) returns (u)}
-- p = proc [t: type] (x: t) returns (bool) where t in s return (true) end p
abbrev asking_nodes : List Node
asking_nodes =
    (n kind.NameT 1 32 11 11 [] ((codes "u") ∷ []) [] None ∷ n kind.NameT 1 44 15 15 [] ((codes "u") ∷ []) [] None ∷ n
    kind.Results 1 35 13 16 (1 ∷ []) [] (codes "returns") (Some 13) ∷ n kind.RoutineT 1 22 9 16 (0 ∷ 2 ∷ []) [] (codes
    "proctype") (Some 9) ∷ n kind.Oper 1 16 7 16 (3 ∷ []) ((codes "copy") ∷ []) [] None ∷ n kind.TypeSet 1 5 2 17 (4 ∷
    []) ((codes "u") ∷ (codes "u") ∷ []) [] None ∷ n kind.Equate 1 1 0 17 (5 ∷ []) ((codes "s") ∷ []) [] None ∷ n
    kind.Parm 2 11 22 24 [] ((codes "t") ∷ []) (codes "type") (Some 24) ∷ n kind.NameT 2 24 29 29 [] ((codes "t") ∷
    []) [] None ∷ n kind.Decl 2 21 27 29 (8 ∷ []) ((codes "x") ∷ []) [] None ∷ n kind.Simple 2 36 33 33 [] [] (codes
    "bool") (Some 33) ∷ n kind.Results 2 27 31 34 (10 ∷ []) [] (codes "returns") (Some 31) ∷ n kind.Restrict 2 48 36
    38 [] ((codes "t") ∷ (codes "s") ∷ []) (codes "in") (Some 37) ∷ n kind.Where 2 42 35 38 (12 ∷ []) [] [] None ∷ n
    kind.Literal 2 63 41 41 [] [] (codes "true") (Some 41) ∷ n kind.Return 2 55 39 42 (14 ∷ []) [] [] None ∷ n
    kind.Routine 2 1 18 44 (7 ∷ 9 ∷ 11 ∷ 13 ∷ 15 ∷ []) ((codes "p") ∷ (codes "p") ∷ []) (codes "proc") (Some 20) ∷ n
    kind.Module 1 1 0 44 (6 ∷ 16 ∷ []) [] [] None ∷ n kind.File 1 1 0 44 (17 ∷ []) [] [] None ∷ [])

asking_kept : map specification_kept (own_specifications (checked_file asking_nodes (surroundings asking_nodes) [])) ≡ kept
unfolding checking
asking_kept = refl

-- s = {u | u has copy: proctype (u) returns (u)}
-- p = proc [t: type] (x: t) returns (bool) where t in s return (true) end p
-- q = proc (x: any) b: bool := p[any](x) end q
abbrev asking_together_nodes : List Node
asking_together_nodes =
    (n kind.NameT 1 32 11 11 [] ((codes "u") ∷ []) [] None ∷ n kind.NameT 1 44 15 15 [] ((codes "u") ∷ []) [] None ∷ n
    kind.Results 1 35 13 16 (1 ∷ []) [] (codes "returns") (Some 13) ∷ n kind.RoutineT 1 22 9 16 (0 ∷ 2 ∷ []) [] (codes
    "proctype") (Some 9) ∷ n kind.Oper 1 16 7 16 (3 ∷ []) ((codes "copy") ∷ []) [] None ∷ n kind.TypeSet 1 5 2 17 (4 ∷
    []) ((codes "u") ∷ (codes "u") ∷ []) [] None ∷ n kind.Equate 1 1 0 17 (5 ∷ []) ((codes "s") ∷ []) [] None ∷ n
    kind.Parm 2 11 22 24 [] ((codes "t") ∷ []) (codes "type") (Some 24) ∷ n kind.NameT 2 24 29 29 [] ((codes "t") ∷
    []) [] None ∷ n kind.Decl 2 21 27 29 (8 ∷ []) ((codes "x") ∷ []) [] None ∷ n kind.Simple 2 36 33 33 [] [] (codes
    "bool") (Some 33) ∷ n kind.Results 2 27 31 34 (10 ∷ []) [] (codes "returns") (Some 31) ∷ n kind.Restrict 2 48 36
    38 [] ((codes "t") ∷ (codes "s") ∷ []) (codes "in") (Some 37) ∷ n kind.Where 2 42 35 38 (12 ∷ []) [] [] None ∷ n
    kind.Literal 2 63 41 41 [] [] (codes "true") (Some 41) ∷ n kind.Return 2 55 39 42 (14 ∷ []) [] [] None ∷ n
    kind.Routine 2 1 18 44 (7 ∷ 9 ∷ 11 ∷ 13 ∷ 15 ∷ []) ((codes "p") ∷ (codes "p") ∷ []) (codes "proc") (Some 20) ∷ n
    kind.Module 1 1 0 44 (6 ∷ 16 ∷ []) [] [] None ∷ n kind.Simple 3 14 51 51 [] [] (codes "any") (Some 51) ∷ n
    kind.Decl 3 11 49 51 (18 ∷ []) ((codes "x") ∷ []) [] None ∷ n kind.Simple 3 22 55 55 [] [] (codes "bool") (Some
    55) ∷ n kind.Name 3 30 57 57 [] ((codes "p") ∷ []) [] None ∷ n kind.Simple 3 32 59 59 [] [] (codes "any") (Some
    59) ∷ n kind.Index 3 31 57 60 (21 ∷ 22 ∷ []) [] [] None ∷ n kind.Name 3 37 62 62 [] ((codes "x") ∷ []) [] None ∷ n
    kind.Call 3 36 57 63 (23 ∷ 24 ∷ []) [] [] None ∷ n kind.Init 3 19 53 63 (20 ∷ 25 ∷ []) ((codes "b") ∷ []) [] None
    ∷ n kind.Routine 3 1 45 65 (19 ∷ 26 ∷ []) ((codes "q") ∷ (codes "q") ∷ []) (codes "proc") (Some 47) ∷ n
    kind.Module 3 1 45 65 (27 ∷ []) [] [] None ∷ n kind.File 1 1 0 65 (17 ∷ 28 ∷ []) [] [] None ∷ [])

asking_together : IsRefusedUnder [] asking_together_nodes rule.NotInTypeSet 3 31
unfolding checking
asking_together = refl

-- q = proc () b: bool := p[int](1) end q
abbrev library_nodes : List Node
library_nodes =
    (n kind.Simple 1 16 7 7 [] [] (codes "bool") (Some 7) ∷ n kind.Name 1 24 9 9 [] ((codes "p") ∷ []) [] None ∷ n
    kind.Simple 1 26 11 11 [] [] (codes "int") (Some 11) ∷ n kind.Index 1 25 9 12 (1 ∷ 2 ∷ []) [] [] None ∷ n
    kind.Literal 1 31 14 14 [] [] (codes "1") (Some 14) ∷ n kind.Call 1 30 9 15 (3 ∷ 4 ∷ []) [] [] None ∷ n kind.Init
    1 13 5 15 (0 ∷ 5 ∷ []) ((codes "b") ∷ []) [] None ∷ n kind.Routine 1 1 0 17 (6 ∷ []) ((codes "q") ∷ (codes "q") ∷
    []) (codes "proc") (Some 2) ∷ n kind.Module 1 1 0 17 (7 ∷ []) [] [] None ∷ n kind.File 1 1 0 17 (8 ∷ []) [] []
    None ∷ [])

library_accepted : IsFineUnder kept library_nodes
unfolding checking
library_accepted = refl

without_library : IsRefusedUnder [] library_nodes rule.UnknownName 1 24
unfolding checking
without_library = refl

-- q = proc (x: any) b: bool := p[any](x) end q
abbrev library_asks_nodes : List Node
library_asks_nodes =
    (n kind.Simple 1 14 6 6 [] [] (codes "any") (Some 6) ∷ n kind.Decl 1 11 4 6 (0 ∷ []) ((codes "x") ∷ []) [] None ∷
    n kind.Simple 1 22 10 10 [] [] (codes "bool") (Some 10) ∷ n kind.Name 1 30 12 12 [] ((codes "p") ∷ []) [] None ∷ n
    kind.Simple 1 32 14 14 [] [] (codes "any") (Some 14) ∷ n kind.Index 1 31 12 15 (3 ∷ 4 ∷ []) [] [] None ∷ n
    kind.Name 1 37 17 17 [] ((codes "x") ∷ []) [] None ∷ n kind.Call 1 36 12 18 (5 ∷ 6 ∷ []) [] [] None ∷ n kind.Init
    1 19 8 18 (2 ∷ 7 ∷ []) ((codes "b") ∷ []) [] None ∷ n kind.Routine 1 1 0 20 (1 ∷ 8 ∷ []) ((codes "q") ∷ (codes
    "q") ∷ []) (codes "proc") (Some 2) ∷ n kind.Module 1 1 0 20 (9 ∷ []) [] [] None ∷ n kind.File 1 1 0 20 (10 ∷ [])
    [] [] None ∷ [])

library_asks : IsRefusedUnder kept library_asks_nodes rule.WhereNotMet 1 31
unfolding checking
library_asks = refl

-- p = proc () end p
-- q = proc () b: bool := p[int](1) end q
abbrev hidden_nodes : List Node
hidden_nodes =
    (n kind.Routine 1 1 0 6 [] ((codes "p") ∷ (codes "p") ∷ []) (codes "proc") (Some 2) ∷ n kind.Module 1 1 0 6 (0 ∷
    []) [] [] None ∷ n kind.Simple 2 16 14 14 [] [] (codes "bool") (Some 14) ∷ n kind.Name 2 24 16 16 [] ((codes "p")
    ∷ []) [] None ∷ n kind.Simple 2 26 18 18 [] [] (codes "int") (Some 18) ∷ n kind.Index 2 25 16 19 (3 ∷ 4 ∷ []) []
    [] None ∷ n kind.Literal 2 31 21 21 [] [] (codes "1") (Some 21) ∷ n kind.Call 2 30 16 22 (5 ∷ 6 ∷ []) [] [] None ∷
    n kind.Init 2 13 12 22 (2 ∷ 7 ∷ []) ((codes "b") ∷ []) [] None ∷ n kind.Routine 2 1 7 24 (8 ∷ []) ((codes "q") ∷
    (codes "q") ∷ []) (codes "proc") (Some 9) ∷ n kind.Module 2 1 7 24 (9 ∷ []) [] [] None ∷ n kind.File 1 1 0 24 (1 ∷
    10 ∷ []) [] [] None ∷ [])

-- a module of the file hides one of the library
library_hidden : IsRefusedUnder kept hidden_nodes rule.ParameterKind 2 25
unfolding checking
library_hidden = refl

-- ---- the headings of a file, and of each module

-- p = proc (x: zork) end p
-- q = proc (y: int) end q
abbrev headings_nodes : List Node
headings_nodes =
    (n kind.NameT 1 14 6 6 [] ((codes "zork") ∷ []) [] None ∷ n kind.Decl 1 11 4 6 (0 ∷ []) ((codes "x") ∷ []) [] None
    ∷ n kind.Routine 1 1 0 9 (1 ∷ []) ((codes "p") ∷ (codes "p") ∷ []) (codes "proc") (Some 2) ∷ n kind.Module 1 1 0 9
    (2 ∷ []) [] [] None ∷ n kind.Simple 2 14 16 16 [] [] (codes "int") (Some 16) ∷ n kind.Decl 2 11 14 16 (4 ∷ [])
    ((codes "y") ∷ []) [] None ∷ n kind.Routine 2 1 10 19 (5 ∷ []) ((codes "q") ∷ (codes "q") ∷ []) (codes "proc")
    (Some 12) ∷ n kind.Module 2 1 10 19 (6 ∷ []) [] [] None ∷ n kind.File 1 1 0 19 (3 ∷ 7 ∷ []) [] [] None ∷ [])

headings_refused : heading_refusal (checked_file headings_nodes (surroundings headings_nodes) []) ≡ Some (record { rule = rule.UnknownName; place = record { line = 1; col = 14 } })
unfolding checking
headings_refused = refl

first_heading_refused : heading_refusal_of (checked_file headings_nodes (surroundings headings_nodes) []) 3 ≡ Some (record { rule = rule.UnknownName; place = record { line = 1; col = 14 } })
unfolding checking
first_heading_refused = refl

second_heading_accepted : heading_refusal_of (checked_file headings_nodes (surroundings headings_nodes) []) 7 ≡ None
unfolding checking
second_heading_accepted = refl
