-- Files that are checked: what is refused where it is declared asks nothing where it is used. Each is the tree of the CLU above it.
use Rattle.std.specs.Prelude.{refl, List, [], ◌∷◌, codes, Some, None}
use Rattle.clu_base.specs.declared.rules.Rule.TheVariants as rule
use Rattle.clu_tree.specs.declared.node.Node.{Node}
use Rattle.clu_tree.specs.declared.node.NodeKind.TheVariants as kind
use Rattle.clu_checking.proofs.Checking.{n, IsRefused, checking}

-- c = cluster [k: int] is m rep = int own n: zork m = proc (x: c[(n + 1)]) end m end c
abbrev own_variable_of_an_unknown_type_nodes : List Node
own_variable_of_an_unknown_type_nodes =
    (n kind.Simple 1 17 6 6 [] [] (codes "int") (Some 6) ∷ n kind.Parm 1 14 4 6 (0 ∷ []) ((codes "k") ∷ []) [] None ∷
    n kind.Simple 1 33 12 12 [] [] (codes "int") (Some 12) ∷ n kind.Equate 1 27 10 12 (2 ∷ []) [] (codes "rep") (Some
    10) ∷ n kind.NameT 1 44 16 16 [] ((codes "zork") ∷ []) [] None ∷ n kind.Decl 1 41 14 16 (4 ∷ []) ((codes "n") ∷
    []) [] None ∷ n kind.Own 1 37 13 16 (5 ∷ []) [] [] None ∷ n kind.Name 1 65 26 26 [] ((codes "n") ∷ []) [] None ∷ n
    kind.Literal 1 69 28 28 [] [] (codes "1") (Some 28) ∷ n kind.Infix 1 67 26 28 (7 ∷ 8 ∷ []) [] (codes "+") (Some
    27) ∷ n kind.Paren 1 64 25 29 (9 ∷ []) [] [] None ∷ n kind.NameT 1 62 23 30 (10 ∷ []) ((codes "c") ∷ []) [] None ∷
    n kind.Decl 1 59 21 30 (11 ∷ []) ((codes "x") ∷ []) [] None ∷ n kind.Routine 1 49 17 33 (12 ∷ []) ((codes "m") ∷
    (codes "m") ∷ []) (codes "proc") (Some 19) ∷ n kind.Cluster 1 1 0 35 (1 ∷ 3 ∷ 6 ∷ 13 ∷ []) ((codes "c") ∷ (codes
    "m") ∷ (codes "c") ∷ []) [] None ∷ n kind.Module 1 1 0 35 (14 ∷ []) [] [] None ∷ n kind.File 1 1 0 35 (15 ∷ []) []
    [] None ∷ [])

own_variable_of_an_unknown_type : IsRefused own_variable_of_an_unknown_type_nodes rule.NotConstant 1 64
unfolding checking
own_variable_of_an_unknown_type = refl

-- p = proc (x: c[(q(1))]) end p t = record[a, a: int] q = proc (y: t) end q c = cluster [k: int] is m rep = int m = proc () end m end c
abbrev heading_with_a_bad_equate_nodes : List Node
heading_with_a_bad_equate_nodes =
    (n kind.Name 1 17 9 9 [] ((codes "q") ∷ []) [] None ∷ n kind.Literal 1 19 11 11 [] [] (codes "1") (Some 11) ∷ n
    kind.Call 1 18 9 12 (0 ∷ 1 ∷ []) [] [] None ∷ n kind.Paren 1 16 8 13 (2 ∷ []) [] [] None ∷ n kind.NameT 1 14 6 14
    (3 ∷ []) ((codes "c") ∷ []) [] None ∷ n kind.Decl 1 11 4 14 (4 ∷ []) ((codes "x") ∷ []) [] None ∷ n kind.Routine 1
    1 0 17 (5 ∷ []) ((codes "p") ∷ (codes "p") ∷ []) (codes "proc") (Some 2) ∷ n kind.Module 1 1 0 17 (6 ∷ []) [] []
    None ∷ n kind.Simple 1 48 26 26 [] [] (codes "int") (Some 26) ∷ n kind.FieldT 1 42 22 26 (8 ∷ []) ((codes "a") ∷
    (codes "a") ∷ []) [] None ∷ n kind.FieldsT 1 35 20 27 (9 ∷ []) [] (codes "record") (Some 20) ∷ n kind.Equate 1 31
    18 27 (10 ∷ []) ((codes "t") ∷ []) [] None ∷ n kind.NameT 1 66 34 34 [] ((codes "t") ∷ []) [] None ∷ n kind.Decl 1
    63 32 34 (12 ∷ []) ((codes "y") ∷ []) [] None ∷ n kind.Routine 1 53 28 37 (13 ∷ []) ((codes "q") ∷ (codes "q") ∷
    []) (codes "proc") (Some 30) ∷ n kind.Module 1 31 18 37 (11 ∷ 14 ∷ []) [] [] None ∷ n kind.Simple 1 91 44 44 [] []
    (codes "int") (Some 44) ∷ n kind.Parm 1 88 42 44 (16 ∷ []) ((codes "k") ∷ []) [] None ∷ n kind.Simple 1 107 50 50
    [] [] (codes "int") (Some 50) ∷ n kind.Equate 1 101 48 50 (18 ∷ []) [] (codes "rep") (Some 48) ∷ n kind.Routine 1
    111 51 57 [] ((codes "m") ∷ (codes "m") ∷ []) (codes "proc") (Some 53) ∷ n kind.Cluster 1 75 38 59 (17 ∷ 19 ∷ 20 ∷
    []) ((codes "c") ∷ (codes "m") ∷ (codes "c") ∷ []) [] None ∷ n kind.Module 1 75 38 59 (21 ∷ []) [] [] None ∷ n
    kind.File 1 1 0 59 (7 ∷ 15 ∷ 22 ∷ []) [] [] None ∷ [])

heading_with_a_bad_equate : IsRefused heading_with_a_bad_equate_nodes rule.NotConstant 1 16
unfolding checking
heading_with_a_bad_equate = refl

-- c = cluster [k: int] is m rep = zork m = proc (x: cvt) returns (c[(x + 1)]) end m end c
abbrev formal_of_a_bad_rep_nodes : List Node
formal_of_a_bad_rep_nodes =
    (n kind.Simple 1 17 6 6 [] [] (codes "int") (Some 6) ∷ n kind.Parm 1 14 4 6 (0 ∷ []) ((codes "k") ∷ []) [] None ∷
    n kind.Name 1 33 12 12 [] ((codes "zork") ∷ []) [] None ∷ n kind.Equate 1 27 10 12 (2 ∷ []) [] (codes "rep") (Some
    10) ∷ n kind.Simple 1 51 19 19 [] [] (codes "cvt") (Some 19) ∷ n kind.Decl 1 48 17 19 (4 ∷ []) ((codes "x") ∷ [])
    [] None ∷ n kind.Name 1 68 26 26 [] ((codes "x") ∷ []) [] None ∷ n kind.Literal 1 72 28 28 [] [] (codes "1") (Some
    28) ∷ n kind.Infix 1 70 26 28 (6 ∷ 7 ∷ []) [] (codes "+") (Some 27) ∷ n kind.Paren 1 67 25 29 (8 ∷ []) [] [] None
    ∷ n kind.NameT 1 65 23 30 (9 ∷ []) ((codes "c") ∷ []) [] None ∷ n kind.Results 1 56 21 31 (10 ∷ []) [] (codes
    "returns") (Some 21) ∷ n kind.Routine 1 38 13 33 (5 ∷ 11 ∷ []) ((codes "m") ∷ (codes "m") ∷ []) (codes "proc")
    (Some 15) ∷ n kind.Cluster 1 1 0 35 (1 ∷ 3 ∷ 12 ∷ []) ((codes "c") ∷ (codes "m") ∷ (codes "c") ∷ []) [] None ∷ n
    kind.Module 1 1 0 35 (13 ∷ []) [] [] None ∷ n kind.File 1 1 0 35 (14 ∷ []) [] [] None ∷ [])

formal_of_a_bad_rep : IsRefused formal_of_a_bad_rep_nodes rule.NotConstant 1 67
unfolding checking
formal_of_a_bad_rep = refl

-- c = cluster [k: int] is m rep = bool m = proc (x: cvt) returns (c[(x + 1)]) end m end c
abbrev formal_of_a_good_rep_nodes : List Node
formal_of_a_good_rep_nodes =
    (n kind.Simple 1 17 6 6 [] [] (codes "int") (Some 6) ∷ n kind.Parm 1 14 4 6 (0 ∷ []) ((codes "k") ∷ []) [] None ∷
    n kind.Simple 1 33 12 12 [] [] (codes "bool") (Some 12) ∷ n kind.Equate 1 27 10 12 (2 ∷ []) [] (codes "rep") (Some
    10) ∷ n kind.Simple 1 51 19 19 [] [] (codes "cvt") (Some 19) ∷ n kind.Decl 1 48 17 19 (4 ∷ []) ((codes "x") ∷ [])
    [] None ∷ n kind.Name 1 68 26 26 [] ((codes "x") ∷ []) [] None ∷ n kind.Literal 1 72 28 28 [] [] (codes "1") (Some
    28) ∷ n kind.Infix 1 70 26 28 (6 ∷ 7 ∷ []) [] (codes "+") (Some 27) ∷ n kind.Paren 1 67 25 29 (8 ∷ []) [] [] None
    ∷ n kind.NameT 1 65 23 30 (9 ∷ []) ((codes "c") ∷ []) [] None ∷ n kind.Results 1 56 21 31 (10 ∷ []) [] (codes
    "returns") (Some 21) ∷ n kind.Routine 1 38 13 33 (5 ∷ 11 ∷ []) ((codes "m") ∷ (codes "m") ∷ []) (codes "proc")
    (Some 15) ∷ n kind.Cluster 1 1 0 35 (1 ∷ 3 ∷ 12 ∷ []) ((codes "c") ∷ (codes "m") ∷ (codes "c") ∷ []) [] None ∷ n
    kind.Module 1 1 0 35 (13 ∷ []) [] [] None ∷ n kind.File 1 1 0 35 (14 ∷ []) [] [] None ∷ [])

formal_of_a_good_rep : IsRefused formal_of_a_good_rep_nodes rule.NoOperation 1 70
unfolding checking
formal_of_a_good_rep = refl

-- c = cluster [k: int] is m rep = zork m = proc (l: c[k]) returns (c[down(l) + 1]) end m end c
abbrev down_of_a_bad_rep_nodes : List Node
down_of_a_bad_rep_nodes =
    (n kind.Simple 1 17 6 6 [] [] (codes "int") (Some 6) ∷ n kind.Parm 1 14 4 6 (0 ∷ []) ((codes "k") ∷ []) [] None ∷
    n kind.Name 1 33 12 12 [] ((codes "zork") ∷ []) [] None ∷ n kind.Equate 1 27 10 12 (2 ∷ []) [] (codes "rep") (Some
    10) ∷ n kind.Name 1 53 21 21 [] ((codes "k") ∷ []) [] None ∷ n kind.NameT 1 51 19 22 (4 ∷ []) ((codes "c") ∷ [])
    [] None ∷ n kind.Decl 1 48 17 22 (5 ∷ []) ((codes "l") ∷ []) [] None ∷ n kind.Name 1 73 30 30 [] ((codes "l") ∷
    []) [] None ∷ n kind.Down 1 68 28 31 (7 ∷ []) [] [] None ∷ n kind.Literal 1 78 33 33 [] [] (codes "1") (Some 33) ∷
    n kind.Infix 1 76 28 33 (8 ∷ 9 ∷ []) [] (codes "+") (Some 32) ∷ n kind.NameT 1 66 26 34 (10 ∷ []) ((codes "c") ∷
    []) [] None ∷ n kind.Results 1 57 24 35 (11 ∷ []) [] (codes "returns") (Some 24) ∷ n kind.Routine 1 38 13 37 (6 ∷
    12 ∷ []) ((codes "m") ∷ (codes "m") ∷ []) (codes "proc") (Some 15) ∷ n kind.Cluster 1 1 0 39 (1 ∷ 3 ∷ 13 ∷ [])
    ((codes "c") ∷ (codes "m") ∷ (codes "c") ∷ []) [] None ∷ n kind.Module 1 1 0 39 (14 ∷ []) [] [] None ∷ n kind.File
    1 1 0 39 (15 ∷ []) [] [] None ∷ [])

down_of_a_bad_rep : IsRefused down_of_a_bad_rep_nodes rule.NotConstant 1 76
unfolding checking
down_of_a_bad_rep = refl

-- c = cluster [k: int] is m rep = zork m = proc (l: c[k]) returns (c[(down(l) + 1)]) end m end c
abbrev down_of_a_bad_rep_in_parentheses_nodes : List Node
down_of_a_bad_rep_in_parentheses_nodes =
    (n kind.Simple 1 17 6 6 [] [] (codes "int") (Some 6) ∷ n kind.Parm 1 14 4 6 (0 ∷ []) ((codes "k") ∷ []) [] None ∷
    n kind.Name 1 33 12 12 [] ((codes "zork") ∷ []) [] None ∷ n kind.Equate 1 27 10 12 (2 ∷ []) [] (codes "rep") (Some
    10) ∷ n kind.Name 1 53 21 21 [] ((codes "k") ∷ []) [] None ∷ n kind.NameT 1 51 19 22 (4 ∷ []) ((codes "c") ∷ [])
    [] None ∷ n kind.Decl 1 48 17 22 (5 ∷ []) ((codes "l") ∷ []) [] None ∷ n kind.Name 1 74 31 31 [] ((codes "l") ∷
    []) [] None ∷ n kind.Down 1 69 29 32 (7 ∷ []) [] [] None ∷ n kind.Literal 1 79 34 34 [] [] (codes "1") (Some 34) ∷
    n kind.Infix 1 77 29 34 (8 ∷ 9 ∷ []) [] (codes "+") (Some 33) ∷ n kind.Paren 1 68 28 35 (10 ∷ []) [] [] None ∷ n
    kind.NameT 1 66 26 36 (11 ∷ []) ((codes "c") ∷ []) [] None ∷ n kind.Results 1 57 24 37 (12 ∷ []) [] (codes
    "returns") (Some 24) ∷ n kind.Routine 1 38 13 39 (6 ∷ 13 ∷ []) ((codes "m") ∷ (codes "m") ∷ []) (codes "proc")
    (Some 15) ∷ n kind.Cluster 1 1 0 41 (1 ∷ 3 ∷ 14 ∷ []) ((codes "c") ∷ (codes "m") ∷ (codes "c") ∷ []) [] None ∷ n
    kind.Module 1 1 0 41 (15 ∷ []) [] [] None ∷ n kind.File 1 1 0 41 (16 ∷ []) [] [] None ∷ [])

down_of_a_bad_rep_in_parentheses : IsRefused down_of_a_bad_rep_in_parentheses_nodes rule.NotConstant 1 68
unfolding checking
down_of_a_bad_rep_in_parentheses = refl

-- c = cluster [k: int] is m rep = bool m = proc (l: c[k]) returns (c[(down(l) + 1)]) end m end c
abbrev down_of_a_good_rep_nodes : List Node
down_of_a_good_rep_nodes =
    (n kind.Simple 1 17 6 6 [] [] (codes "int") (Some 6) ∷ n kind.Parm 1 14 4 6 (0 ∷ []) ((codes "k") ∷ []) [] None ∷
    n kind.Simple 1 33 12 12 [] [] (codes "bool") (Some 12) ∷ n kind.Equate 1 27 10 12 (2 ∷ []) [] (codes "rep") (Some
    10) ∷ n kind.Name 1 53 21 21 [] ((codes "k") ∷ []) [] None ∷ n kind.NameT 1 51 19 22 (4 ∷ []) ((codes "c") ∷ [])
    [] None ∷ n kind.Decl 1 48 17 22 (5 ∷ []) ((codes "l") ∷ []) [] None ∷ n kind.Name 1 74 31 31 [] ((codes "l") ∷
    []) [] None ∷ n kind.Down 1 69 29 32 (7 ∷ []) [] [] None ∷ n kind.Literal 1 79 34 34 [] [] (codes "1") (Some 34) ∷
    n kind.Infix 1 77 29 34 (8 ∷ 9 ∷ []) [] (codes "+") (Some 33) ∷ n kind.Paren 1 68 28 35 (10 ∷ []) [] [] None ∷ n
    kind.NameT 1 66 26 36 (11 ∷ []) ((codes "c") ∷ []) [] None ∷ n kind.Results 1 57 24 37 (12 ∷ []) [] (codes
    "returns") (Some 24) ∷ n kind.Routine 1 38 13 39 (6 ∷ 13 ∷ []) ((codes "m") ∷ (codes "m") ∷ []) (codes "proc")
    (Some 15) ∷ n kind.Cluster 1 1 0 41 (1 ∷ 3 ∷ 14 ∷ []) ((codes "c") ∷ (codes "m") ∷ (codes "c") ∷ []) [] None ∷ n
    kind.Module 1 1 0 41 (15 ∷ []) [] [] None ∷ n kind.File 1 1 0 41 (16 ∷ []) [] [] None ∷ [])

down_of_a_good_rep : IsRefused down_of_a_good_rep_nodes rule.NoOperation 1 77
unfolding checking
down_of_a_good_rep = refl

-- c = cluster [k: int] is m rep = zork m = proc (l: int) returns (c[down(l) + 1]) end m end c
abbrev down_of_another_type_before_a_bad_rep_nodes : List Node
down_of_another_type_before_a_bad_rep_nodes =
    (n kind.Simple 1 17 6 6 [] [] (codes "int") (Some 6) ∷ n kind.Parm 1 14 4 6 (0 ∷ []) ((codes "k") ∷ []) [] None ∷
    n kind.Name 1 33 12 12 [] ((codes "zork") ∷ []) [] None ∷ n kind.Equate 1 27 10 12 (2 ∷ []) [] (codes "rep") (Some
    10) ∷ n kind.Simple 1 51 19 19 [] [] (codes "int") (Some 19) ∷ n kind.Decl 1 48 17 19 (4 ∷ []) ((codes "l") ∷ [])
    [] None ∷ n kind.Name 1 72 27 27 [] ((codes "l") ∷ []) [] None ∷ n kind.Down 1 67 25 28 (6 ∷ []) [] [] None ∷ n
    kind.Literal 1 77 30 30 [] [] (codes "1") (Some 30) ∷ n kind.Infix 1 75 25 30 (7 ∷ 8 ∷ []) [] (codes "+") (Some
    29) ∷ n kind.NameT 1 65 23 31 (9 ∷ []) ((codes "c") ∷ []) [] None ∷ n kind.Results 1 56 21 32 (10 ∷ []) [] (codes
    "returns") (Some 21) ∷ n kind.Routine 1 38 13 34 (5 ∷ 11 ∷ []) ((codes "m") ∷ (codes "m") ∷ []) (codes "proc")
    (Some 15) ∷ n kind.Cluster 1 1 0 36 (1 ∷ 3 ∷ 12 ∷ []) ((codes "c") ∷ (codes "m") ∷ (codes "c") ∷ []) [] None ∷ n
    kind.Module 1 1 0 36 (13 ∷ []) [] [] None ∷ n kind.File 1 1 0 36 (14 ∷ []) [] [] None ∷ [])

down_of_another_type_before_a_bad_rep : IsRefused down_of_another_type_before_a_bad_rep_nodes rule.UpDown 1 67
unfolding checking
down_of_another_type_before_a_bad_rep = refl

-- p = proc (x: c[(q(1))]) end p q = proc (y: zork) end q c = cluster [k: int] is m rep = int m = proc () end m end c
abbrev routine_of_a_bad_heading_nodes : List Node
routine_of_a_bad_heading_nodes =
    (n kind.Name 1 17 9 9 [] ((codes "q") ∷ []) [] None ∷ n kind.Literal 1 19 11 11 [] [] (codes "1") (Some 11) ∷ n
    kind.Call 1 18 9 12 (0 ∷ 1 ∷ []) [] [] None ∷ n kind.Paren 1 16 8 13 (2 ∷ []) [] [] None ∷ n kind.NameT 1 14 6 14
    (3 ∷ []) ((codes "c") ∷ []) [] None ∷ n kind.Decl 1 11 4 14 (4 ∷ []) ((codes "x") ∷ []) [] None ∷ n kind.Routine 1
    1 0 17 (5 ∷ []) ((codes "p") ∷ (codes "p") ∷ []) (codes "proc") (Some 2) ∷ n kind.Module 1 1 0 17 (6 ∷ []) [] []
    None ∷ n kind.NameT 1 44 24 24 [] ((codes "zork") ∷ []) [] None ∷ n kind.Decl 1 41 22 24 (8 ∷ []) ((codes "y") ∷
    []) [] None ∷ n kind.Routine 1 31 18 27 (9 ∷ []) ((codes "q") ∷ (codes "q") ∷ []) (codes "proc") (Some 20) ∷ n
    kind.Module 1 31 18 27 (10 ∷ []) [] [] None ∷ n kind.Simple 1 72 34 34 [] [] (codes "int") (Some 34) ∷ n kind.Parm
    1 69 32 34 (12 ∷ []) ((codes "k") ∷ []) [] None ∷ n kind.Simple 1 88 40 40 [] [] (codes "int") (Some 40) ∷ n
    kind.Equate 1 82 38 40 (14 ∷ []) [] (codes "rep") (Some 38) ∷ n kind.Routine 1 92 41 47 [] ((codes "m") ∷ (codes
    "m") ∷ []) (codes "proc") (Some 43) ∷ n kind.Cluster 1 56 28 49 (13 ∷ 15 ∷ 16 ∷ []) ((codes "c") ∷ (codes "m") ∷
    (codes "c") ∷ []) [] None ∷ n kind.Module 1 56 28 49 (17 ∷ []) [] [] None ∷ n kind.File 1 1 0 49 (7 ∷ 11 ∷ 18 ∷
    []) [] [] None ∷ [])

routine_of_a_bad_heading : IsRefused routine_of_a_bad_heading_nodes rule.NotConstant 1 16
unfolding checking
routine_of_a_bad_heading = refl

-- p = proc (x: c[(q(1))]) end p q = proc (y: bool) end q c = cluster [k: int] is m rep = int m = proc () end m end c
abbrev routine_of_a_good_heading_nodes : List Node
routine_of_a_good_heading_nodes =
    (n kind.Name 1 17 9 9 [] ((codes "q") ∷ []) [] None ∷ n kind.Literal 1 19 11 11 [] [] (codes "1") (Some 11) ∷ n
    kind.Call 1 18 9 12 (0 ∷ 1 ∷ []) [] [] None ∷ n kind.Paren 1 16 8 13 (2 ∷ []) [] [] None ∷ n kind.NameT 1 14 6 14
    (3 ∷ []) ((codes "c") ∷ []) [] None ∷ n kind.Decl 1 11 4 14 (4 ∷ []) ((codes "x") ∷ []) [] None ∷ n kind.Routine 1
    1 0 17 (5 ∷ []) ((codes "p") ∷ (codes "p") ∷ []) (codes "proc") (Some 2) ∷ n kind.Module 1 1 0 17 (6 ∷ []) [] []
    None ∷ n kind.Simple 1 44 24 24 [] [] (codes "bool") (Some 24) ∷ n kind.Decl 1 41 22 24 (8 ∷ []) ((codes "y") ∷
    []) [] None ∷ n kind.Routine 1 31 18 27 (9 ∷ []) ((codes "q") ∷ (codes "q") ∷ []) (codes "proc") (Some 20) ∷ n
    kind.Module 1 31 18 27 (10 ∷ []) [] [] None ∷ n kind.Simple 1 72 34 34 [] [] (codes "int") (Some 34) ∷ n kind.Parm
    1 69 32 34 (12 ∷ []) ((codes "k") ∷ []) [] None ∷ n kind.Simple 1 88 40 40 [] [] (codes "int") (Some 40) ∷ n
    kind.Equate 1 82 38 40 (14 ∷ []) [] (codes "rep") (Some 38) ∷ n kind.Routine 1 92 41 47 [] ((codes "m") ∷ (codes
    "m") ∷ []) (codes "proc") (Some 43) ∷ n kind.Cluster 1 56 28 49 (13 ∷ 15 ∷ 16 ∷ []) ((codes "c") ∷ (codes "m") ∷
    (codes "c") ∷ []) [] None ∷ n kind.Module 1 56 28 49 (17 ∷ []) [] [] None ∷ n kind.File 1 1 0 49 (7 ∷ 11 ∷ 18 ∷
    []) [] [] None ∷ [])

routine_of_a_good_heading : IsRefused routine_of_a_good_heading_nodes rule.ArgumentType 1 18
unfolding checking
routine_of_a_good_heading = refl

-- p = proc (x: c[(q(1))]) end p q = proc (y: bool) signals (e(real)) end q c = cluster [k: int] is m rep = int m = proc () end m end c
abbrev signals_of_a_bad_heading_nodes : List Node
signals_of_a_bad_heading_nodes =
    (n kind.Name 1 17 9 9 [] ((codes "q") ∷ []) [] None ∷ n kind.Literal 1 19 11 11 [] [] (codes "1") (Some 11) ∷ n
    kind.Call 1 18 9 12 (0 ∷ 1 ∷ []) [] [] None ∷ n kind.Paren 1 16 8 13 (2 ∷ []) [] [] None ∷ n kind.NameT 1 14 6 14
    (3 ∷ []) ((codes "c") ∷ []) [] None ∷ n kind.Decl 1 11 4 14 (4 ∷ []) ((codes "x") ∷ []) [] None ∷ n kind.Routine 1
    1 0 17 (5 ∷ []) ((codes "p") ∷ (codes "p") ∷ []) (codes "proc") (Some 2) ∷ n kind.Module 1 1 0 17 (6 ∷ []) [] []
    None ∷ n kind.Simple 1 44 24 24 [] [] (codes "bool") (Some 24) ∷ n kind.Decl 1 41 22 24 (8 ∷ []) ((codes "y") ∷
    []) [] None ∷ n kind.Simple 1 61 30 30 [] [] (codes "real") (Some 30) ∷ n kind.Exc 1 59 28 31 (10 ∷ []) ((codes
    "e") ∷ []) [] None ∷ n kind.Signals 1 50 26 32 (11 ∷ []) [] [] None ∷ n kind.Routine 1 31 18 34 (9 ∷ 12 ∷ [])
    ((codes "q") ∷ (codes "q") ∷ []) (codes "proc") (Some 20) ∷ n kind.Module 1 31 18 34 (13 ∷ []) [] [] None ∷ n
    kind.Simple 1 90 41 41 [] [] (codes "int") (Some 41) ∷ n kind.Parm 1 87 39 41 (15 ∷ []) ((codes "k") ∷ []) [] None
    ∷ n kind.Simple 1 106 47 47 [] [] (codes "int") (Some 47) ∷ n kind.Equate 1 100 45 47 (17 ∷ []) [] (codes "rep")
    (Some 45) ∷ n kind.Routine 1 110 48 54 [] ((codes "m") ∷ (codes "m") ∷ []) (codes "proc") (Some 50) ∷ n
    kind.Cluster 1 74 35 56 (16 ∷ 18 ∷ 19 ∷ []) ((codes "c") ∷ (codes "m") ∷ (codes "c") ∷ []) [] None ∷ n kind.Module
    1 74 35 56 (20 ∷ []) [] [] None ∷ n kind.File 1 1 0 56 (7 ∷ 14 ∷ 21 ∷ []) [] [] None ∷ [])

signals_of_a_bad_heading : IsRefused signals_of_a_bad_heading_nodes rule.NotConstant 1 16
unfolding checking
signals_of_a_bad_heading = refl

-- c = cluster [k: int] is m rep = int m = proc (x: c[(g(1))]) end m g = proc (y: zork) end g end c
abbrev routine_of_the_cluster_with_a_bad_heading_nodes : List Node
routine_of_the_cluster_with_a_bad_heading_nodes =
    (n kind.Simple 1 17 6 6 [] [] (codes "int") (Some 6) ∷ n kind.Parm 1 14 4 6 (0 ∷ []) ((codes "k") ∷ []) [] None ∷
    n kind.Simple 1 33 12 12 [] [] (codes "int") (Some 12) ∷ n kind.Equate 1 27 10 12 (2 ∷ []) [] (codes "rep") (Some
    10) ∷ n kind.Name 1 53 22 22 [] ((codes "g") ∷ []) [] None ∷ n kind.Literal 1 55 24 24 [] [] (codes "1") (Some 24)
    ∷ n kind.Call 1 54 22 25 (4 ∷ 5 ∷ []) [] [] None ∷ n kind.Paren 1 52 21 26 (6 ∷ []) [] [] None ∷ n kind.NameT 1 50
    19 27 (7 ∷ []) ((codes "c") ∷ []) [] None ∷ n kind.Decl 1 47 17 27 (8 ∷ []) ((codes "x") ∷ []) [] None ∷ n
    kind.Routine 1 37 13 30 (9 ∷ []) ((codes "m") ∷ (codes "m") ∷ []) (codes "proc") (Some 15) ∷ n kind.NameT 1 80 37
    37 [] ((codes "zork") ∷ []) [] None ∷ n kind.Decl 1 77 35 37 (11 ∷ []) ((codes "y") ∷ []) [] None ∷ n kind.Routine
    1 67 31 40 (12 ∷ []) ((codes "g") ∷ (codes "g") ∷ []) (codes "proc") (Some 33) ∷ n kind.Cluster 1 1 0 42 (1 ∷ 3 ∷
    10 ∷ 13 ∷ []) ((codes "c") ∷ (codes "m") ∷ (codes "c") ∷ []) [] None ∷ n kind.Module 1 1 0 42 (14 ∷ []) [] [] None
    ∷ n kind.File 1 1 0 42 (15 ∷ []) [] [] None ∷ [])

routine_of_the_cluster_with_a_bad_heading : IsRefused routine_of_the_cluster_with_a_bad_heading_nodes rule.NotConstant 1 52
unfolding checking
routine_of_the_cluster_with_a_bad_heading = refl

-- p = proc (x: c[(d$g(1))]) end p d = cluster is g rep = int g = proc (y: array[cvt]) end g end d c = cluster [k: int] is m rep = int m = proc () end m end c
abbrev operation_with_a_bad_heading_nodes : List Node
operation_with_a_bad_heading_nodes =
    (n kind.NameT 1 17 9 9 [] ((codes "d") ∷ []) [] None ∷ n kind.OperOf 1 17 9 11 (0 ∷ []) ((codes "g") ∷ []) [] None
    ∷ n kind.Literal 1 21 13 13 [] [] (codes "1") (Some 13) ∷ n kind.Call 1 20 9 14 (1 ∷ 2 ∷ []) [] [] None ∷ n
    kind.Paren 1 16 8 15 (3 ∷ []) [] [] None ∷ n kind.NameT 1 14 6 16 (4 ∷ []) ((codes "c") ∷ []) [] None ∷ n
    kind.Decl 1 11 4 16 (5 ∷ []) ((codes "x") ∷ []) [] None ∷ n kind.Routine 1 1 0 19 (6 ∷ []) ((codes "p") ∷ (codes
    "p") ∷ []) (codes "proc") (Some 2) ∷ n kind.Module 1 1 0 19 (7 ∷ []) [] [] None ∷ n kind.Simple 1 56 27 27 [] []
    (codes "int") (Some 27) ∷ n kind.Equate 1 50 25 27 (9 ∷ []) [] (codes "rep") (Some 25) ∷ n kind.Simple 1 79 36 36
    [] [] (codes "cvt") (Some 36) ∷ n kind.ListT 1 73 34 37 (11 ∷ []) [] (codes "array") (Some 34) ∷ n kind.Decl 1 70
    32 37 (12 ∷ []) ((codes "y") ∷ []) [] None ∷ n kind.Routine 1 60 28 40 (13 ∷ []) ((codes "g") ∷ (codes "g") ∷ [])
    (codes "proc") (Some 30) ∷ n kind.Cluster 1 33 20 42 (10 ∷ 14 ∷ []) ((codes "d") ∷ (codes "g") ∷ (codes "d") ∷ [])
    [] None ∷ n kind.Module 1 33 20 42 (15 ∷ []) [] [] None ∷ n kind.Simple 1 113 49 49 [] [] (codes "int") (Some 49)
    ∷ n kind.Parm 1 110 47 49 (17 ∷ []) ((codes "k") ∷ []) [] None ∷ n kind.Simple 1 129 55 55 [] [] (codes "int")
    (Some 55) ∷ n kind.Equate 1 123 53 55 (19 ∷ []) [] (codes "rep") (Some 53) ∷ n kind.Routine 1 133 56 62 [] ((codes
    "m") ∷ (codes "m") ∷ []) (codes "proc") (Some 58) ∷ n kind.Cluster 1 97 43 64 (18 ∷ 20 ∷ 21 ∷ []) ((codes "c") ∷
    (codes "m") ∷ (codes "c") ∷ []) [] None ∷ n kind.Module 1 97 43 64 (22 ∷ []) [] [] None ∷ n kind.File 1 1 0 64 (8
    ∷ 16 ∷ 23 ∷ []) [] [] None ∷ [])

operation_with_a_bad_heading : IsRefused operation_with_a_bad_heading_nodes rule.NotConstant 1 16
unfolding checking
operation_with_a_bad_heading = refl

-- p = proc (x: c[int]) end p c = cluster [t: type] is m where t has copy: proctype (zork) rep = int m = proc () end m end c
abbrev module_with_a_bad_demand_nodes : List Node
module_with_a_bad_demand_nodes =
    (n kind.Simple 1 16 8 8 [] [] (codes "int") (Some 8) ∷ n kind.NameT 1 14 6 9 (0 ∷ []) ((codes "c") ∷ []) [] None ∷
    n kind.Decl 1 11 4 9 (1 ∷ []) ((codes "x") ∷ []) [] None ∷ n kind.Routine 1 1 0 12 (2 ∷ []) ((codes "p") ∷ (codes
    "p") ∷ []) (codes "proc") (Some 2) ∷ n kind.Module 1 1 0 12 (3 ∷ []) [] [] None ∷ n kind.Parm 1 41 17 19 []
    ((codes "t") ∷ []) (codes "type") (Some 19) ∷ n kind.NameT 1 83 30 30 [] ((codes "zork") ∷ []) [] None ∷ n
    kind.RoutineT 1 73 28 31 (6 ∷ []) [] (codes "proctype") (Some 28) ∷ n kind.Oper 1 67 26 31 (7 ∷ []) ((codes
    "copy") ∷ []) [] None ∷ n kind.Restrict 1 61 24 31 (8 ∷ []) ((codes "t") ∷ []) (codes "has") (Some 25) ∷ n
    kind.Where 1 55 23 31 (9 ∷ []) [] [] None ∷ n kind.Simple 1 95 34 34 [] [] (codes "int") (Some 34) ∷ n kind.Equate
    1 89 32 34 (11 ∷ []) [] (codes "rep") (Some 32) ∷ n kind.Routine 1 99 35 41 [] ((codes "m") ∷ (codes "m") ∷ [])
    (codes "proc") (Some 37) ∷ n kind.Cluster 1 28 13 43 (5 ∷ 10 ∷ 12 ∷ 13 ∷ []) ((codes "c") ∷ (codes "m") ∷ (codes
    "c") ∷ []) [] None ∷ n kind.Module 1 28 13 43 (14 ∷ []) [] [] None ∷ n kind.File 1 1 0 43 (4 ∷ 15 ∷ []) [] [] None
    ∷ [])

module_with_a_bad_demand : IsRefused module_with_a_bad_demand_nodes rule.UnknownName 1 83
unfolding checking
module_with_a_bad_demand = refl

-- p = proc (x: c[int]) end p c = cluster [t: type] is m where t has copy: proctype (bool) rep = int m = proc () end m end c
abbrev module_with_a_good_demand_nodes : List Node
module_with_a_good_demand_nodes =
    (n kind.Simple 1 16 8 8 [] [] (codes "int") (Some 8) ∷ n kind.NameT 1 14 6 9 (0 ∷ []) ((codes "c") ∷ []) [] None ∷
    n kind.Decl 1 11 4 9 (1 ∷ []) ((codes "x") ∷ []) [] None ∷ n kind.Routine 1 1 0 12 (2 ∷ []) ((codes "p") ∷ (codes
    "p") ∷ []) (codes "proc") (Some 2) ∷ n kind.Module 1 1 0 12 (3 ∷ []) [] [] None ∷ n kind.Parm 1 41 17 19 []
    ((codes "t") ∷ []) (codes "type") (Some 19) ∷ n kind.Simple 1 83 30 30 [] [] (codes "bool") (Some 30) ∷ n
    kind.RoutineT 1 73 28 31 (6 ∷ []) [] (codes "proctype") (Some 28) ∷ n kind.Oper 1 67 26 31 (7 ∷ []) ((codes
    "copy") ∷ []) [] None ∷ n kind.Restrict 1 61 24 31 (8 ∷ []) ((codes "t") ∷ []) (codes "has") (Some 25) ∷ n
    kind.Where 1 55 23 31 (9 ∷ []) [] [] None ∷ n kind.Simple 1 95 34 34 [] [] (codes "int") (Some 34) ∷ n kind.Equate
    1 89 32 34 (11 ∷ []) [] (codes "rep") (Some 32) ∷ n kind.Routine 1 99 35 41 [] ((codes "m") ∷ (codes "m") ∷ [])
    (codes "proc") (Some 37) ∷ n kind.Cluster 1 28 13 43 (5 ∷ 10 ∷ 12 ∷ 13 ∷ []) ((codes "c") ∷ (codes "m") ∷ (codes
    "c") ∷ []) [] None ∷ n kind.Module 1 28 13 43 (14 ∷ []) [] [] None ∷ n kind.File 1 1 0 43 (4 ∷ 15 ∷ []) [] [] None
    ∷ [])

module_with_a_good_demand : IsRefused module_with_a_good_demand_nodes rule.WhereNotMet 1 14
unfolding checking
module_with_a_good_demand = refl

-- p = proc (x: c[d]) end p d = cluster is copy rep = int copy = proc (x: zork) end copy end d c = cluster [t: type] is m where t has copy: proctype (t) returns (t) rep = int m = proc () end m end c
abbrev demand_met_by_a_bad_heading_nodes : List Node
demand_met_by_a_bad_heading_nodes =
    (n kind.Name 1 16 8 8 [] ((codes "d") ∷ []) [] None ∷ n kind.NameT 1 14 6 9 (0 ∷ []) ((codes "c") ∷ []) [] None ∷
    n kind.Decl 1 11 4 9 (1 ∷ []) ((codes "x") ∷ []) [] None ∷ n kind.Routine 1 1 0 12 (2 ∷ []) ((codes "p") ∷ (codes
    "p") ∷ []) (codes "proc") (Some 2) ∷ n kind.Module 1 1 0 12 (3 ∷ []) [] [] None ∷ n kind.Simple 1 52 20 20 [] []
    (codes "int") (Some 20) ∷ n kind.Equate 1 46 18 20 (5 ∷ []) [] (codes "rep") (Some 18) ∷ n kind.NameT 1 72 27 27
    [] ((codes "zork") ∷ []) [] None ∷ n kind.Decl 1 69 25 27 (7 ∷ []) ((codes "x") ∷ []) [] None ∷ n kind.Routine 1
    56 21 30 (8 ∷ []) ((codes "copy") ∷ (codes "copy") ∷ []) (codes "proc") (Some 23) ∷ n kind.Cluster 1 26 13 32 (6 ∷
    9 ∷ []) ((codes "d") ∷ (codes "copy") ∷ (codes "d") ∷ []) [] None ∷ n kind.Module 1 26 13 32 (10 ∷ []) [] [] None
    ∷ n kind.Parm 1 106 37 39 [] ((codes "t") ∷ []) (codes "type") (Some 39) ∷ n kind.NameT 1 148 50 50 [] ((codes
    "t") ∷ []) [] None ∷ n kind.NameT 1 160 54 54 [] ((codes "t") ∷ []) [] None ∷ n kind.Results 1 151 52 55 (14 ∷ [])
    [] (codes "returns") (Some 52) ∷ n kind.RoutineT 1 138 48 55 (13 ∷ 15 ∷ []) [] (codes "proctype") (Some 48) ∷ n
    kind.Oper 1 132 46 55 (16 ∷ []) ((codes "copy") ∷ []) [] None ∷ n kind.Restrict 1 126 44 55 (17 ∷ []) ((codes "t")
    ∷ []) (codes "has") (Some 45) ∷ n kind.Where 1 120 43 55 (18 ∷ []) [] [] None ∷ n kind.Simple 1 169 58 58 [] []
    (codes "int") (Some 58) ∷ n kind.Equate 1 163 56 58 (20 ∷ []) [] (codes "rep") (Some 56) ∷ n kind.Routine 1 173 59
    65 [] ((codes "m") ∷ (codes "m") ∷ []) (codes "proc") (Some 61) ∷ n kind.Cluster 1 93 33 67 (12 ∷ 19 ∷ 21 ∷ 22 ∷
    []) ((codes "c") ∷ (codes "m") ∷ (codes "c") ∷ []) [] None ∷ n kind.Module 1 93 33 67 (23 ∷ []) [] [] None ∷ n
    kind.File 1 1 0 67 (4 ∷ 11 ∷ 24 ∷ []) [] [] None ∷ [])

demand_met_by_a_bad_heading : IsRefused demand_met_by_a_bad_heading_nodes rule.UnknownName 1 72
unfolding checking
demand_met_by_a_bad_heading = refl

-- p = proc (x: c[d]) end p d = cluster is copy rep = int copy = proc (x: int) end copy end d c = cluster [t: type] is m where t has copy: proctype (t) returns (t) rep = int m = proc () end m end c
abbrev demand_met_by_no_such_heading_nodes : List Node
demand_met_by_no_such_heading_nodes =
    (n kind.Name 1 16 8 8 [] ((codes "d") ∷ []) [] None ∷ n kind.NameT 1 14 6 9 (0 ∷ []) ((codes "c") ∷ []) [] None ∷
    n kind.Decl 1 11 4 9 (1 ∷ []) ((codes "x") ∷ []) [] None ∷ n kind.Routine 1 1 0 12 (2 ∷ []) ((codes "p") ∷ (codes
    "p") ∷ []) (codes "proc") (Some 2) ∷ n kind.Module 1 1 0 12 (3 ∷ []) [] [] None ∷ n kind.Simple 1 52 20 20 [] []
    (codes "int") (Some 20) ∷ n kind.Equate 1 46 18 20 (5 ∷ []) [] (codes "rep") (Some 18) ∷ n kind.Simple 1 72 27 27
    [] [] (codes "int") (Some 27) ∷ n kind.Decl 1 69 25 27 (7 ∷ []) ((codes "x") ∷ []) [] None ∷ n kind.Routine 1 56
    21 30 (8 ∷ []) ((codes "copy") ∷ (codes "copy") ∷ []) (codes "proc") (Some 23) ∷ n kind.Cluster 1 26 13 32 (6 ∷ 9
    ∷ []) ((codes "d") ∷ (codes "copy") ∷ (codes "d") ∷ []) [] None ∷ n kind.Module 1 26 13 32 (10 ∷ []) [] [] None ∷
    n kind.Parm 1 105 37 39 [] ((codes "t") ∷ []) (codes "type") (Some 39) ∷ n kind.NameT 1 147 50 50 [] ((codes "t")
    ∷ []) [] None ∷ n kind.NameT 1 159 54 54 [] ((codes "t") ∷ []) [] None ∷ n kind.Results 1 150 52 55 (14 ∷ []) []
    (codes "returns") (Some 52) ∷ n kind.RoutineT 1 137 48 55 (13 ∷ 15 ∷ []) [] (codes "proctype") (Some 48) ∷ n
    kind.Oper 1 131 46 55 (16 ∷ []) ((codes "copy") ∷ []) [] None ∷ n kind.Restrict 1 125 44 55 (17 ∷ []) ((codes "t")
    ∷ []) (codes "has") (Some 45) ∷ n kind.Where 1 119 43 55 (18 ∷ []) [] [] None ∷ n kind.Simple 1 168 58 58 [] []
    (codes "int") (Some 58) ∷ n kind.Equate 1 162 56 58 (20 ∷ []) [] (codes "rep") (Some 56) ∷ n kind.Routine 1 172 59
    65 [] ((codes "m") ∷ (codes "m") ∷ []) (codes "proc") (Some 61) ∷ n kind.Cluster 1 92 33 67 (12 ∷ 19 ∷ 21 ∷ 22 ∷
    []) ((codes "c") ∷ (codes "m") ∷ (codes "c") ∷ []) [] None ∷ n kind.Module 1 92 33 67 (23 ∷ []) [] [] None ∷ n
    kind.File 1 1 0 67 (4 ∷ 11 ∷ 24 ∷ []) [] [] None ∷ [])

demand_met_by_no_such_heading : IsRefused demand_met_by_no_such_heading_nodes rule.WhereNotMet 1 14
unfolding checking
demand_met_by_no_such_heading = refl

-- p = proc [t: type] (x: c[t]) where t has copy: proctype (zork) end p c = cluster [t: type] is m where t has copy: proctype (t) returns (t) rep = int m = proc () end m end c
abbrev demand_met_by_a_bad_demand_nodes : List Node
demand_met_by_a_bad_demand_nodes =
    (n kind.Parm 1 11 4 6 [] ((codes "t") ∷ []) (codes "type") (Some 6) ∷ n kind.Name 1 26 13 13 [] ((codes "t") ∷ [])
    [] None ∷ n kind.NameT 1 24 11 14 (1 ∷ []) ((codes "c") ∷ []) [] None ∷ n kind.Decl 1 21 9 14 (2 ∷ []) ((codes
    "x") ∷ []) [] None ∷ n kind.NameT 1 58 23 23 [] ((codes "zork") ∷ []) [] None ∷ n kind.RoutineT 1 48 21 24 (4 ∷
    []) [] (codes "proctype") (Some 21) ∷ n kind.Oper 1 42 19 24 (5 ∷ []) ((codes "copy") ∷ []) [] None ∷ n
    kind.Restrict 1 36 17 24 (6 ∷ []) ((codes "t") ∷ []) (codes "has") (Some 18) ∷ n kind.Where 1 30 16 24 (7 ∷ []) []
    [] None ∷ n kind.Routine 1 1 0 26 (0 ∷ 3 ∷ 8 ∷ []) ((codes "p") ∷ (codes "p") ∷ []) (codes "proc") (Some 2) ∷ n
    kind.Module 1 1 0 26 (9 ∷ []) [] [] None ∷ n kind.Parm 1 83 31 33 [] ((codes "t") ∷ []) (codes "type") (Some 33) ∷
    n kind.NameT 1 125 44 44 [] ((codes "t") ∷ []) [] None ∷ n kind.NameT 1 137 48 48 [] ((codes "t") ∷ []) [] None ∷
    n kind.Results 1 128 46 49 (13 ∷ []) [] (codes "returns") (Some 46) ∷ n kind.RoutineT 1 115 42 49 (12 ∷ 14 ∷ [])
    [] (codes "proctype") (Some 42) ∷ n kind.Oper 1 109 40 49 (15 ∷ []) ((codes "copy") ∷ []) [] None ∷ n
    kind.Restrict 1 103 38 49 (16 ∷ []) ((codes "t") ∷ []) (codes "has") (Some 39) ∷ n kind.Where 1 97 37 49 (17 ∷ [])
    [] [] None ∷ n kind.Simple 1 146 52 52 [] [] (codes "int") (Some 52) ∷ n kind.Equate 1 140 50 52 (19 ∷ []) []
    (codes "rep") (Some 50) ∷ n kind.Routine 1 150 53 59 [] ((codes "m") ∷ (codes "m") ∷ []) (codes "proc") (Some 55)
    ∷ n kind.Cluster 1 70 27 61 (11 ∷ 18 ∷ 20 ∷ 21 ∷ []) ((codes "c") ∷ (codes "m") ∷ (codes "c") ∷ []) [] None ∷ n
    kind.Module 1 70 27 61 (22 ∷ []) [] [] None ∷ n kind.File 1 1 0 61 (10 ∷ 23 ∷ []) [] [] None ∷ [])

demand_met_by_a_bad_demand : IsRefused demand_met_by_a_bad_demand_nodes rule.UnknownName 1 58
unfolding checking
demand_met_by_a_bad_demand = refl

-- p = proc [t: type] (x: c[t]) where t has copy: proctype (int) end p c = cluster [t: type] is m where t has copy: proctype (t) returns (t) rep = int m = proc () end m end c
abbrev demand_met_by_no_such_demand_nodes : List Node
demand_met_by_no_such_demand_nodes =
    (n kind.Parm 1 11 4 6 [] ((codes "t") ∷ []) (codes "type") (Some 6) ∷ n kind.Name 1 26 13 13 [] ((codes "t") ∷ [])
    [] None ∷ n kind.NameT 1 24 11 14 (1 ∷ []) ((codes "c") ∷ []) [] None ∷ n kind.Decl 1 21 9 14 (2 ∷ []) ((codes
    "x") ∷ []) [] None ∷ n kind.Simple 1 58 23 23 [] [] (codes "int") (Some 23) ∷ n kind.RoutineT 1 48 21 24 (4 ∷ [])
    [] (codes "proctype") (Some 21) ∷ n kind.Oper 1 42 19 24 (5 ∷ []) ((codes "copy") ∷ []) [] None ∷ n kind.Restrict
    1 36 17 24 (6 ∷ []) ((codes "t") ∷ []) (codes "has") (Some 18) ∷ n kind.Where 1 30 16 24 (7 ∷ []) [] [] None ∷ n
    kind.Routine 1 1 0 26 (0 ∷ 3 ∷ 8 ∷ []) ((codes "p") ∷ (codes "p") ∷ []) (codes "proc") (Some 2) ∷ n kind.Module 1
    1 0 26 (9 ∷ []) [] [] None ∷ n kind.Parm 1 82 31 33 [] ((codes "t") ∷ []) (codes "type") (Some 33) ∷ n kind.NameT
    1 124 44 44 [] ((codes "t") ∷ []) [] None ∷ n kind.NameT 1 136 48 48 [] ((codes "t") ∷ []) [] None ∷ n
    kind.Results 1 127 46 49 (13 ∷ []) [] (codes "returns") (Some 46) ∷ n kind.RoutineT 1 114 42 49 (12 ∷ 14 ∷ []) []
    (codes "proctype") (Some 42) ∷ n kind.Oper 1 108 40 49 (15 ∷ []) ((codes "copy") ∷ []) [] None ∷ n kind.Restrict 1
    102 38 49 (16 ∷ []) ((codes "t") ∷ []) (codes "has") (Some 39) ∷ n kind.Where 1 96 37 49 (17 ∷ []) [] [] None ∷ n
    kind.Simple 1 145 52 52 [] [] (codes "int") (Some 52) ∷ n kind.Equate 1 139 50 52 (19 ∷ []) [] (codes "rep") (Some
    50) ∷ n kind.Routine 1 149 53 59 [] ((codes "m") ∷ (codes "m") ∷ []) (codes "proc") (Some 55) ∷ n kind.Cluster 1
    69 27 61 (11 ∷ 18 ∷ 20 ∷ 21 ∷ []) ((codes "c") ∷ (codes "m") ∷ (codes "c") ∷ []) [] None ∷ n kind.Module 1 69 27
    61 (22 ∷ []) [] [] None ∷ n kind.File 1 1 0 61 (10 ∷ 23 ∷ []) [] [] None ∷ [])

demand_met_by_no_such_demand : IsRefused demand_met_by_no_such_demand_nodes rule.WhereNotMet 1 24
unfolding checking
demand_met_by_no_such_demand = refl

-- p = proc [t: type] (x: c[(t$f(1))]) where t has f: proctype (zork) end p c = cluster [k: int] is m rep = int m = proc () end m end c
abbrev operation_of_a_bad_demand_nodes : List Node
operation_of_a_bad_demand_nodes =
    (n kind.Parm 1 11 4 6 [] ((codes "t") ∷ []) (codes "type") (Some 6) ∷ n kind.NameT 1 27 14 14 [] ((codes "t") ∷
    []) [] None ∷ n kind.OperOf 1 27 14 16 (1 ∷ []) ((codes "f") ∷ []) [] None ∷ n kind.Literal 1 31 18 18 [] []
    (codes "1") (Some 18) ∷ n kind.Call 1 30 14 19 (2 ∷ 3 ∷ []) [] [] None ∷ n kind.Paren 1 26 13 20 (4 ∷ []) [] []
    None ∷ n kind.NameT 1 24 11 21 (5 ∷ []) ((codes "c") ∷ []) [] None ∷ n kind.Decl 1 21 9 21 (6 ∷ []) ((codes "x") ∷
    []) [] None ∷ n kind.NameT 1 62 30 30 [] ((codes "zork") ∷ []) [] None ∷ n kind.RoutineT 1 52 28 31 (8 ∷ []) []
    (codes "proctype") (Some 28) ∷ n kind.Oper 1 49 26 31 (9 ∷ []) ((codes "f") ∷ []) [] None ∷ n kind.Restrict 1 43
    24 31 (10 ∷ []) ((codes "t") ∷ []) (codes "has") (Some 25) ∷ n kind.Where 1 37 23 31 (11 ∷ []) [] [] None ∷ n
    kind.Routine 1 1 0 33 (0 ∷ 7 ∷ 12 ∷ []) ((codes "p") ∷ (codes "p") ∷ []) (codes "proc") (Some 2) ∷ n kind.Module 1
    1 0 33 (13 ∷ []) [] [] None ∷ n kind.Simple 1 90 40 40 [] [] (codes "int") (Some 40) ∷ n kind.Parm 1 87 38 40 (15
    ∷ []) ((codes "k") ∷ []) [] None ∷ n kind.Simple 1 106 46 46 [] [] (codes "int") (Some 46) ∷ n kind.Equate 1 100
    44 46 (17 ∷ []) [] (codes "rep") (Some 44) ∷ n kind.Routine 1 110 47 53 [] ((codes "m") ∷ (codes "m") ∷ []) (codes
    "proc") (Some 49) ∷ n kind.Cluster 1 74 34 55 (16 ∷ 18 ∷ 19 ∷ []) ((codes "c") ∷ (codes "m") ∷ (codes "c") ∷ [])
    [] None ∷ n kind.Module 1 74 34 55 (20 ∷ []) [] [] None ∷ n kind.File 1 1 0 55 (14 ∷ 21 ∷ []) [] [] None ∷ [])

operation_of_a_bad_demand : IsRefused operation_of_a_bad_demand_nodes rule.NotConstant 1 26
unfolding checking
operation_of_a_bad_demand = refl

-- p = proc [t: type] () where t has f: proctype (), t in s s = {u | u has f: proctype (zork)} end p
abbrev restrict_in_a_bad_set_nodes : List Node
restrict_in_a_bad_set_nodes =
    (n kind.Parm 1 11 4 6 [] ((codes "t") ∷ []) (codes "type") (Some 6) ∷ n kind.RoutineT 1 38 15 17 [] [] (codes
    "proctype") (Some 15) ∷ n kind.Oper 1 35 13 17 (1 ∷ []) ((codes "f") ∷ []) [] None ∷ n kind.Restrict 1 29 11 17 (2
    ∷ []) ((codes "t") ∷ []) (codes "has") (Some 12) ∷ n kind.Restrict 1 51 19 21 [] ((codes "t") ∷ (codes "s") ∷ [])
    (codes "in") (Some 20) ∷ n kind.Where 1 23 10 21 (3 ∷ 4 ∷ []) [] [] None ∷ n kind.NameT 1 86 33 33 [] ((codes
    "zork") ∷ []) [] None ∷ n kind.RoutineT 1 76 31 34 (6 ∷ []) [] (codes "proctype") (Some 31) ∷ n kind.Oper 1 73 29
    34 (7 ∷ []) ((codes "f") ∷ []) [] None ∷ n kind.TypeSet 1 62 24 35 (8 ∷ []) ((codes "u") ∷ (codes "u") ∷ []) []
    None ∷ n kind.Equate 1 58 22 35 (9 ∷ []) ((codes "s") ∷ []) [] None ∷ n kind.Routine 1 1 0 37 (0 ∷ 5 ∷ 10 ∷ [])
    ((codes "p") ∷ (codes "p") ∷ []) (codes "proc") (Some 2) ∷ n kind.Module 1 1 0 37 (11 ∷ []) [] [] None ∷ n
    kind.File 1 1 0 37 (12 ∷ []) [] [] None ∷ [])

restrict_in_a_bad_set : IsRefused restrict_in_a_bad_set_nodes rule.NotType 1 51
unfolding checking
restrict_in_a_bad_set = refl

-- p = proc [t: type] () where t has f: proctype (), t in s s = {u | u has f: proctype (int)} end p
abbrev restrict_in_a_set_of_other_demands_nodes : List Node
restrict_in_a_set_of_other_demands_nodes =
    (n kind.Parm 1 11 4 6 [] ((codes "t") ∷ []) (codes "type") (Some 6) ∷ n kind.RoutineT 1 38 15 17 [] [] (codes
    "proctype") (Some 15) ∷ n kind.Oper 1 35 13 17 (1 ∷ []) ((codes "f") ∷ []) [] None ∷ n kind.Restrict 1 29 11 17 (2
    ∷ []) ((codes "t") ∷ []) (codes "has") (Some 12) ∷ n kind.Restrict 1 51 19 21 [] ((codes "t") ∷ (codes "s") ∷ [])
    (codes "in") (Some 20) ∷ n kind.Where 1 23 10 21 (3 ∷ 4 ∷ []) [] [] None ∷ n kind.Simple 1 86 33 33 [] [] (codes
    "int") (Some 33) ∷ n kind.RoutineT 1 76 31 34 (6 ∷ []) [] (codes "proctype") (Some 31) ∷ n kind.Oper 1 73 29 34 (7
    ∷ []) ((codes "f") ∷ []) [] None ∷ n kind.TypeSet 1 62 24 35 (8 ∷ []) ((codes "u") ∷ (codes "u") ∷ []) [] None ∷ n
    kind.Equate 1 58 22 35 (9 ∷ []) ((codes "s") ∷ []) [] None ∷ n kind.Routine 1 1 0 37 (0 ∷ 5 ∷ 10 ∷ []) ((codes
    "p") ∷ (codes "p") ∷ []) (codes "proc") (Some 2) ∷ n kind.Module 1 1 0 37 (11 ∷ []) [] [] None ∷ n kind.File 1 1 0
    37 (12 ∷ []) [] [] None ∷ [])

restrict_in_a_set_of_other_demands : IsRefused restrict_in_a_set_of_other_demands_nodes rule.DefinedTwice 1 51
unfolding checking
restrict_in_a_set_of_other_demands = refl

-- p = proc [t: type] () where t has f: proctype (), t in s s = {u | u has f: proctype (record[a, a: int])} end p
abbrev restrict_in_a_set_with_a_selector_twice_nodes : List Node
restrict_in_a_set_with_a_selector_twice_nodes =
    (n kind.Parm 1 11 4 6 [] ((codes "t") ∷ []) (codes "type") (Some 6) ∷ n kind.RoutineT 1 38 15 17 [] [] (codes
    "proctype") (Some 15) ∷ n kind.Oper 1 35 13 17 (1 ∷ []) ((codes "f") ∷ []) [] None ∷ n kind.Restrict 1 29 11 17 (2
    ∷ []) ((codes "t") ∷ []) (codes "has") (Some 12) ∷ n kind.Restrict 1 51 19 21 [] ((codes "t") ∷ (codes "s") ∷ [])
    (codes "in") (Some 20) ∷ n kind.Where 1 23 10 21 (3 ∷ 4 ∷ []) [] [] None ∷ n kind.Simple 1 99 39 39 [] [] (codes
    "int") (Some 39) ∷ n kind.FieldT 1 93 35 39 (6 ∷ []) ((codes "a") ∷ (codes "a") ∷ []) [] None ∷ n kind.FieldsT 1
    86 33 40 (7 ∷ []) [] (codes "record") (Some 33) ∷ n kind.RoutineT 1 76 31 41 (8 ∷ []) [] (codes "proctype") (Some
    31) ∷ n kind.Oper 1 73 29 41 (9 ∷ []) ((codes "f") ∷ []) [] None ∷ n kind.TypeSet 1 62 24 42 (10 ∷ []) ((codes
    "u") ∷ (codes "u") ∷ []) [] None ∷ n kind.Equate 1 58 22 42 (11 ∷ []) ((codes "s") ∷ []) [] None ∷ n kind.Routine
    1 1 0 44 (0 ∷ 5 ∷ 12 ∷ []) ((codes "p") ∷ (codes "p") ∷ []) (codes "proc") (Some 2) ∷ n kind.Module 1 1 0 44 (13 ∷
    []) [] [] None ∷ n kind.File 1 1 0 44 (14 ∷ []) [] [] None ∷ [])

restrict_in_a_set_with_a_selector_twice : IsRefused restrict_in_a_set_with_a_selector_twice_nodes rule.NotType 1 51
unfolding checking
restrict_in_a_set_with_a_selector_twice = refl

-- p = proc [t: type] () where t has f: proctype (), t in s s = {u | u has f: proctype (v)} v = array[s] end p
abbrev restrict_in_a_circular_set_nodes : List Node
restrict_in_a_circular_set_nodes =
    (n kind.Parm 1 11 4 6 [] ((codes "t") ∷ []) (codes "type") (Some 6) ∷ n kind.RoutineT 1 38 15 17 [] [] (codes
    "proctype") (Some 15) ∷ n kind.Oper 1 35 13 17 (1 ∷ []) ((codes "f") ∷ []) [] None ∷ n kind.Restrict 1 29 11 17 (2
    ∷ []) ((codes "t") ∷ []) (codes "has") (Some 12) ∷ n kind.Restrict 1 51 19 21 [] ((codes "t") ∷ (codes "s") ∷ [])
    (codes "in") (Some 20) ∷ n kind.Where 1 23 10 21 (3 ∷ 4 ∷ []) [] [] None ∷ n kind.NameT 1 86 33 33 [] ((codes "v")
    ∷ []) [] None ∷ n kind.RoutineT 1 76 31 34 (6 ∷ []) [] (codes "proctype") (Some 31) ∷ n kind.Oper 1 73 29 34 (7 ∷
    []) ((codes "f") ∷ []) [] None ∷ n kind.TypeSet 1 62 24 35 (8 ∷ []) ((codes "u") ∷ (codes "u") ∷ []) [] None ∷ n
    kind.Equate 1 58 22 35 (9 ∷ []) ((codes "s") ∷ []) [] None ∷ n kind.NameT 1 100 40 40 [] ((codes "s") ∷ []) []
    None ∷ n kind.ListT 1 94 38 41 (11 ∷ []) [] (codes "array") (Some 38) ∷ n kind.Equate 1 90 36 41 (12 ∷ []) ((codes
    "v") ∷ []) [] None ∷ n kind.Routine 1 1 0 43 (0 ∷ 5 ∷ 10 ∷ 13 ∷ []) ((codes "p") ∷ (codes "p") ∷ []) (codes
    "proc") (Some 2) ∷ n kind.Module 1 1 0 43 (14 ∷ []) [] [] None ∷ n kind.File 1 1 0 43 (15 ∷ []) [] [] None ∷ [])

restrict_in_a_circular_set : IsRefused restrict_in_a_circular_set_nodes rule.CircularEquate 1 51
unfolding checking
restrict_in_a_circular_set = refl

-- p = proc (x: c[1]) end p c = cluster [n: zork] is m rep = int m = proc () end m end c
abbrev parameter_of_an_unknown_type_nodes : List Node
parameter_of_an_unknown_type_nodes =
    (n kind.Literal 1 16 8 8 [] [] (codes "1") (Some 8) ∷ n kind.NameT 1 14 6 9 (0 ∷ []) ((codes "c") ∷ []) [] None ∷
    n kind.Decl 1 11 4 9 (1 ∷ []) ((codes "x") ∷ []) [] None ∷ n kind.Routine 1 1 0 12 (2 ∷ []) ((codes "p") ∷ (codes
    "p") ∷ []) (codes "proc") (Some 2) ∷ n kind.Module 1 1 0 12 (3 ∷ []) [] [] None ∷ n kind.NameT 1 42 19 19 []
    ((codes "zork") ∷ []) [] None ∷ n kind.Parm 1 39 17 19 (5 ∷ []) ((codes "n") ∷ []) [] None ∷ n kind.Simple 1 59 25
    25 [] [] (codes "int") (Some 25) ∷ n kind.Equate 1 53 23 25 (7 ∷ []) [] (codes "rep") (Some 23) ∷ n kind.Routine 1
    63 26 32 [] ((codes "m") ∷ (codes "m") ∷ []) (codes "proc") (Some 28) ∷ n kind.Cluster 1 26 13 34 (6 ∷ 8 ∷ 9 ∷ [])
    ((codes "c") ∷ (codes "m") ∷ (codes "c") ∷ []) [] None ∷ n kind.Module 1 26 13 34 (10 ∷ []) [] [] None ∷ n
    kind.File 1 1 0 34 (4 ∷ 11 ∷ []) [] [] None ∷ [])

parameter_of_an_unknown_type : IsRefused parameter_of_an_unknown_type_nodes rule.UnknownName 1 42
unfolding checking
parameter_of_an_unknown_type = refl

-- p = proc (x: c[1]) end p c = cluster [n: any] is m rep = int m = proc () end m end c
abbrev parameter_of_no_legal_type_nodes : List Node
parameter_of_no_legal_type_nodes =
    (n kind.Literal 1 16 8 8 [] [] (codes "1") (Some 8) ∷ n kind.NameT 1 14 6 9 (0 ∷ []) ((codes "c") ∷ []) [] None ∷
    n kind.Decl 1 11 4 9 (1 ∷ []) ((codes "x") ∷ []) [] None ∷ n kind.Routine 1 1 0 12 (2 ∷ []) ((codes "p") ∷ (codes
    "p") ∷ []) (codes "proc") (Some 2) ∷ n kind.Module 1 1 0 12 (3 ∷ []) [] [] None ∷ n kind.Simple 1 42 19 19 [] []
    (codes "any") (Some 19) ∷ n kind.Parm 1 39 17 19 (5 ∷ []) ((codes "n") ∷ []) [] None ∷ n kind.Simple 1 58 25 25 []
    [] (codes "int") (Some 25) ∷ n kind.Equate 1 52 23 25 (7 ∷ []) [] (codes "rep") (Some 23) ∷ n kind.Routine 1 62 26
    32 [] ((codes "m") ∷ (codes "m") ∷ []) (codes "proc") (Some 28) ∷ n kind.Cluster 1 26 13 34 (6 ∷ 8 ∷ 9 ∷ [])
    ((codes "c") ∷ (codes "m") ∷ (codes "c") ∷ []) [] None ∷ n kind.Module 1 26 13 34 (10 ∷ []) [] [] None ∷ n
    kind.File 1 1 0 34 (4 ∷ 11 ∷ []) [] [] None ∷ [])

parameter_of_no_legal_type : IsRefused parameter_of_no_legal_type_nodes rule.ParameterKind 1 39
unfolding checking
parameter_of_no_legal_type = refl

-- p = proc (x: c[1]) end p c = cluster [n: bool] is m rep = int m = proc () end m end c
abbrev parameter_of_another_type_nodes : List Node
parameter_of_another_type_nodes =
    (n kind.Literal 1 16 8 8 [] [] (codes "1") (Some 8) ∷ n kind.NameT 1 14 6 9 (0 ∷ []) ((codes "c") ∷ []) [] None ∷
    n kind.Decl 1 11 4 9 (1 ∷ []) ((codes "x") ∷ []) [] None ∷ n kind.Routine 1 1 0 12 (2 ∷ []) ((codes "p") ∷ (codes
    "p") ∷ []) (codes "proc") (Some 2) ∷ n kind.Module 1 1 0 12 (3 ∷ []) [] [] None ∷ n kind.Simple 1 42 19 19 [] []
    (codes "bool") (Some 19) ∷ n kind.Parm 1 39 17 19 (5 ∷ []) ((codes "n") ∷ []) [] None ∷ n kind.Simple 1 59 25 25
    [] [] (codes "int") (Some 25) ∷ n kind.Equate 1 53 23 25 (7 ∷ []) [] (codes "rep") (Some 23) ∷ n kind.Routine 1 63
    26 32 [] ((codes "m") ∷ (codes "m") ∷ []) (codes "proc") (Some 28) ∷ n kind.Cluster 1 26 13 34 (6 ∷ 8 ∷ 9 ∷ [])
    ((codes "c") ∷ (codes "m") ∷ (codes "c") ∷ []) [] None ∷ n kind.Module 1 26 13 34 (10 ∷ []) [] [] None ∷ n
    kind.File 1 1 0 34 (4 ∷ 11 ∷ []) [] [] None ∷ [])

parameter_of_another_type : IsRefused parameter_of_another_type_nodes rule.ParameterKind 1 14
unfolding checking
parameter_of_another_type = refl

-- p = proc () s = {u | u has f: proctype (c[(u$g(1))]), g: proctype (zork)} end p c = cluster [k: int] is m rep = int m = proc () end m end c
abbrev operation_of_a_set_with_a_bad_type_nodes : List Node
operation_of_a_set_with_a_bad_type_nodes =
    (n kind.NameT 1 44 19 19 [] ((codes "u") ∷ []) [] None ∷ n kind.OperOf 1 44 19 21 (0 ∷ []) ((codes "g") ∷ []) []
    None ∷ n kind.Literal 1 48 23 23 [] [] (codes "1") (Some 23) ∷ n kind.Call 1 47 19 24 (1 ∷ 2 ∷ []) [] [] None ∷ n
    kind.Paren 1 43 18 25 (3 ∷ []) [] [] None ∷ n kind.NameT 1 41 16 26 (4 ∷ []) ((codes "c") ∷ []) [] None ∷ n
    kind.RoutineT 1 31 14 27 (5 ∷ []) [] (codes "proctype") (Some 14) ∷ n kind.Oper 1 28 12 27 (6 ∷ []) ((codes "f") ∷
    []) [] None ∷ n kind.NameT 1 68 33 33 [] ((codes "zork") ∷ []) [] None ∷ n kind.RoutineT 1 58 31 34 (8 ∷ []) []
    (codes "proctype") (Some 31) ∷ n kind.Oper 1 55 29 34 (9 ∷ []) ((codes "g") ∷ []) [] None ∷ n kind.TypeSet 1 17 7
    35 (7 ∷ 10 ∷ []) ((codes "u") ∷ (codes "u") ∷ []) [] None ∷ n kind.Equate 1 13 5 35 (11 ∷ []) ((codes "s") ∷ [])
    [] None ∷ n kind.Routine 1 1 0 37 (12 ∷ []) ((codes "p") ∷ (codes "p") ∷ []) (codes "proc") (Some 2) ∷ n
    kind.Module 1 1 0 37 (13 ∷ []) [] [] None ∷ n kind.Simple 1 97 44 44 [] [] (codes "int") (Some 44) ∷ n kind.Parm 1
    94 42 44 (15 ∷ []) ((codes "k") ∷ []) [] None ∷ n kind.Simple 1 113 50 50 [] [] (codes "int") (Some 50) ∷ n
    kind.Equate 1 107 48 50 (17 ∷ []) [] (codes "rep") (Some 48) ∷ n kind.Routine 1 117 51 57 [] ((codes "m") ∷ (codes
    "m") ∷ []) (codes "proc") (Some 53) ∷ n kind.Cluster 1 81 38 59 (16 ∷ 18 ∷ 19 ∷ []) ((codes "c") ∷ (codes "m") ∷
    (codes "c") ∷ []) [] None ∷ n kind.Module 1 81 38 59 (20 ∷ []) [] [] None ∷ n kind.File 1 1 0 59 (14 ∷ 21 ∷ []) []
    [] None ∷ [])

operation_of_a_set_with_a_bad_type : IsRefused operation_of_a_set_with_a_bad_type_nodes rule.NotConstant 1 43
unfolding checking
operation_of_a_set_with_a_bad_type = refl

-- p = proc () s = {u | u has f: proctype (c[(u$g(1))]), g: proctype (bool)} end p c = cluster [k: int] is m rep = int m = proc () end m end c
abbrev operation_of_a_set_with_a_good_type_nodes : List Node
operation_of_a_set_with_a_good_type_nodes =
    (n kind.NameT 1 44 19 19 [] ((codes "u") ∷ []) [] None ∷ n kind.OperOf 1 44 19 21 (0 ∷ []) ((codes "g") ∷ []) []
    None ∷ n kind.Literal 1 48 23 23 [] [] (codes "1") (Some 23) ∷ n kind.Call 1 47 19 24 (1 ∷ 2 ∷ []) [] [] None ∷ n
    kind.Paren 1 43 18 25 (3 ∷ []) [] [] None ∷ n kind.NameT 1 41 16 26 (4 ∷ []) ((codes "c") ∷ []) [] None ∷ n
    kind.RoutineT 1 31 14 27 (5 ∷ []) [] (codes "proctype") (Some 14) ∷ n kind.Oper 1 28 12 27 (6 ∷ []) ((codes "f") ∷
    []) [] None ∷ n kind.Simple 1 68 33 33 [] [] (codes "bool") (Some 33) ∷ n kind.RoutineT 1 58 31 34 (8 ∷ []) []
    (codes "proctype") (Some 31) ∷ n kind.Oper 1 55 29 34 (9 ∷ []) ((codes "g") ∷ []) [] None ∷ n kind.TypeSet 1 17 7
    35 (7 ∷ 10 ∷ []) ((codes "u") ∷ (codes "u") ∷ []) [] None ∷ n kind.Equate 1 13 5 35 (11 ∷ []) ((codes "s") ∷ [])
    [] None ∷ n kind.Routine 1 1 0 37 (12 ∷ []) ((codes "p") ∷ (codes "p") ∷ []) (codes "proc") (Some 2) ∷ n
    kind.Module 1 1 0 37 (13 ∷ []) [] [] None ∷ n kind.Simple 1 97 44 44 [] [] (codes "int") (Some 44) ∷ n kind.Parm 1
    94 42 44 (15 ∷ []) ((codes "k") ∷ []) [] None ∷ n kind.Simple 1 113 50 50 [] [] (codes "int") (Some 50) ∷ n
    kind.Equate 1 107 48 50 (17 ∷ []) [] (codes "rep") (Some 48) ∷ n kind.Routine 1 117 51 57 [] ((codes "m") ∷ (codes
    "m") ∷ []) (codes "proc") (Some 53) ∷ n kind.Cluster 1 81 38 59 (16 ∷ 18 ∷ 19 ∷ []) ((codes "c") ∷ (codes "m") ∷
    (codes "c") ∷ []) [] None ∷ n kind.Module 1 81 38 59 (20 ∷ []) [] [] None ∷ n kind.File 1 1 0 59 (14 ∷ 21 ∷ []) []
    [] None ∷ [])

operation_of_a_set_with_a_good_type : IsRefused operation_of_a_set_with_a_good_type_nodes rule.ArgumentType 1 47
unfolding checking
operation_of_a_set_with_a_good_type = refl

-- a type whose demands aren't met is one all the same: else the first of these would be accepted

-- c = cluster [t: type] is m where t has f: proctype (c[int]) rep = int m = proc () end m end c
abbrev demand_that_an_instance_in_it_breaks_nodes : List Node
demand_that_an_instance_in_it_breaks_nodes =
    (n kind.Parm 1 14 4 6 [] ((codes "t") ∷ []) (codes "type") (Some 6) ∷ n kind.Simple 1 55 19 19 [] [] (codes "int")
    (Some 19) ∷ n kind.NameT 1 53 17 20 (1 ∷ []) ((codes "c") ∷ []) [] None ∷ n kind.RoutineT 1 43 15 21 (2 ∷ []) []
    (codes "proctype") (Some 15) ∷ n kind.Oper 1 40 13 21 (3 ∷ []) ((codes "f") ∷ []) [] None ∷ n kind.Restrict 1 34
    11 21 (4 ∷ []) ((codes "t") ∷ []) (codes "has") (Some 12) ∷ n kind.Where 1 28 10 21 (5 ∷ []) [] [] None ∷ n
    kind.Simple 1 67 24 24 [] [] (codes "int") (Some 24) ∷ n kind.Equate 1 61 22 24 (7 ∷ []) [] (codes "rep") (Some
    22) ∷ n kind.Routine 1 71 25 31 [] ((codes "m") ∷ (codes "m") ∷ []) (codes "proc") (Some 27) ∷ n kind.Cluster 1 1
    0 33 (0 ∷ 6 ∷ 8 ∷ 9 ∷ []) ((codes "c") ∷ (codes "m") ∷ (codes "c") ∷ []) [] None ∷ n kind.Module 1 1 0 33 (10 ∷
    []) [] [] None ∷ n kind.File 1 1 0 33 (11 ∷ []) [] [] None ∷ [])

demand_that_an_instance_in_it_breaks : IsRefused demand_that_an_instance_in_it_breaks_nodes rule.WhereNotMet 1 53
unfolding checking
demand_that_an_instance_in_it_breaks = refl

-- d = cluster [t: type] is m where t has copy: proctype (t) returns (t) rep = int m = proc () end m end d
-- c = cluster [k: int] is m rep = int own n: d[any] m = proc (x: c[(n + 1)]) end m end c
abbrev own_variable_of_a_demand_that_is_not_met_nodes : List Node
own_variable_of_a_demand_that_is_not_met_nodes =
    (n kind.Parm 1 14 4 6 [] ((codes "t") ∷ []) (codes "type") (Some 6) ∷ n kind.NameT 1 56 17 17 [] ((codes "t") ∷
    []) [] None ∷ n kind.NameT 1 68 21 21 [] ((codes "t") ∷ []) [] None ∷ n kind.Results 1 59 19 22 (2 ∷ []) [] (codes
    "returns") (Some 19) ∷ n kind.RoutineT 1 46 15 22 (1 ∷ 3 ∷ []) [] (codes "proctype") (Some 15) ∷ n kind.Oper 1 40
    13 22 (4 ∷ []) ((codes "copy") ∷ []) [] None ∷ n kind.Restrict 1 34 11 22 (5 ∷ []) ((codes "t") ∷ []) (codes
    "has") (Some 12) ∷ n kind.Where 1 28 10 22 (6 ∷ []) [] [] None ∷ n kind.Simple 1 77 25 25 [] [] (codes "int")
    (Some 25) ∷ n kind.Equate 1 71 23 25 (8 ∷ []) [] (codes "rep") (Some 23) ∷ n kind.Routine 1 81 26 32 [] ((codes
    "m") ∷ (codes "m") ∷ []) (codes "proc") (Some 28) ∷ n kind.Cluster 1 1 0 34 (0 ∷ 7 ∷ 9 ∷ 10 ∷ []) ((codes "d") ∷
    (codes "m") ∷ (codes "d") ∷ []) [] None ∷ n kind.Module 1 1 0 34 (11 ∷ []) [] [] None ∷ n kind.Simple 2 17 41 41
    [] [] (codes "int") (Some 41) ∷ n kind.Parm 2 14 39 41 (13 ∷ []) ((codes "k") ∷ []) [] None ∷ n kind.Simple 2 33
    47 47 [] [] (codes "int") (Some 47) ∷ n kind.Equate 2 27 45 47 (15 ∷ []) [] (codes "rep") (Some 45) ∷ n
    kind.Simple 2 46 53 53 [] [] (codes "any") (Some 53) ∷ n kind.NameT 2 44 51 54 (17 ∷ []) ((codes "d") ∷ []) []
    None ∷ n kind.Decl 2 41 49 54 (18 ∷ []) ((codes "n") ∷ []) [] None ∷ n kind.Own 2 37 48 54 (19 ∷ []) [] [] None ∷
    n kind.Name 2 67 64 64 [] ((codes "n") ∷ []) [] None ∷ n kind.Literal 2 71 66 66 [] [] (codes "1") (Some 66) ∷ n
    kind.Infix 2 69 64 66 (21 ∷ 22 ∷ []) [] (codes "+") (Some 65) ∷ n kind.Paren 2 66 63 67 (23 ∷ []) [] [] None ∷ n
    kind.NameT 2 64 61 68 (24 ∷ []) ((codes "c") ∷ []) [] None ∷ n kind.Decl 2 61 59 68 (25 ∷ []) ((codes "x") ∷ [])
    [] None ∷ n kind.Routine 2 51 55 71 (26 ∷ []) ((codes "m") ∷ (codes "m") ∷ []) (codes "proc") (Some 57) ∷ n
    kind.Cluster 2 1 35 73 (14 ∷ 16 ∷ 20 ∷ 27 ∷ []) ((codes "c") ∷ (codes "m") ∷ (codes "c") ∷ []) [] None ∷ n
    kind.Module 2 1 35 73 (28 ∷ []) [] [] None ∷ n kind.File 1 1 0 73 (12 ∷ 29 ∷ []) [] [] None ∷ [])

own_variable_of_a_demand_that_is_not_met : IsRefused own_variable_of_a_demand_that_is_not_met_nodes rule.NoOperation 2 69
unfolding checking
own_variable_of_a_demand_that_is_not_met = refl
