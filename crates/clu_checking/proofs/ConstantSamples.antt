-- Files that are checked: the rules on constants and types. Each is the tree of the CLU above it.
use Rattle.std.specs.Prelude.{refl, List, [], ◌∷◌, codes, Some, None}
use Rattle.clu_base.specs.declared.rules.Rule.TheVariants as rule
use Rattle.clu_tree.specs.declared.node.Node.{Node}
use Rattle.clu_tree.specs.declared.node.NodeKind.TheVariants as kind
use Rattle.clu_checking.proofs.Checking.{n, IsRefused, IsFine, checking}

-- start_up = proc ()
--   n = 9223372036854775807 + 1
-- end start_up
abbrev not_constant_refused_nodes : List Node
not_constant_refused_nodes =
    (n kind.Literal 2 7 7 7 [] [] (codes "9223372036854775807") (Some 7) ∷ n kind.Literal 2 29 9 9 [] [] (codes "1")
    (Some 9) ∷ n kind.Infix 2 27 7 9 (0 ∷ 1 ∷ []) [] (codes "+") (Some 8) ∷ n kind.Equate 2 3 5 9 (2 ∷ []) ((codes
    "n") ∷ []) [] None ∷ n kind.Routine 1 1 0 11 (3 ∷ []) ((codes "start_up") ∷ (codes "start_up") ∷ []) (codes
    "proc") (Some 2) ∷ n kind.Module 1 1 0 11 (4 ∷ []) [] [] None ∷ n kind.File 1 1 0 11 (5 ∷ []) [] [] None ∷ [])

not_constant_refused : IsRefused not_constant_refused_nodes rule.NotConstant 2 27
unfolding checking
not_constant_refused = refl

-- start_up = proc ()
--   n = 9223372036854775806 + 1
-- end start_up
abbrev not_constant_accepted_nodes : List Node
not_constant_accepted_nodes =
    (n kind.Literal 2 7 7 7 [] [] (codes "9223372036854775806") (Some 7) ∷ n kind.Literal 2 29 9 9 [] [] (codes "1")
    (Some 9) ∷ n kind.Infix 2 27 7 9 (0 ∷ 1 ∷ []) [] (codes "+") (Some 8) ∷ n kind.Equate 2 3 5 9 (2 ∷ []) ((codes
    "n") ∷ []) [] None ∷ n kind.Routine 1 1 0 11 (3 ∷ []) ((codes "start_up") ∷ (codes "start_up") ∷ []) (codes
    "proc") (Some 2) ∷ n kind.Module 1 1 0 11 (4 ∷ []) [] [] None ∷ n kind.File 1 1 0 11 (5 ∷ []) [] [] None ∷ [])

not_constant_accepted : IsFine not_constant_accepted_nodes
unfolding checking
not_constant_accepted = refl

-- start_up = proc ()
--   n = 1
--   x: n
-- end start_up
abbrev not_type_refused_nodes : List Node
not_type_refused_nodes =
    (n kind.Literal 2 7 7 7 [] [] (codes "1") (Some 7) ∷ n kind.Equate 2 3 5 7 (0 ∷ []) ((codes "n") ∷ []) [] None ∷ n
    kind.NameT 3 6 10 10 [] ((codes "n") ∷ []) [] None ∷ n kind.Decl 3 3 8 10 (2 ∷ []) ((codes "x") ∷ []) [] None ∷ n
    kind.Declare 3 3 8 10 (3 ∷ []) [] [] None ∷ n kind.Routine 1 1 0 12 (1 ∷ 4 ∷ []) ((codes "start_up") ∷ (codes
    "start_up") ∷ []) (codes "proc") (Some 2) ∷ n kind.Module 1 1 0 12 (5 ∷ []) [] [] None ∷ n kind.File 1 1 0 12 (6 ∷
    []) [] [] None ∷ [])

not_type_refused : IsRefused not_type_refused_nodes rule.NotType 3 6
unfolding checking
not_type_refused = refl

-- start_up = proc ()
--   n = int
--   x: n
-- end start_up
abbrev not_type_accepted_nodes : List Node
not_type_accepted_nodes =
    (n kind.Simple 2 7 7 7 [] [] (codes "int") (Some 7) ∷ n kind.Equate 2 3 5 7 (0 ∷ []) ((codes "n") ∷ []) [] None ∷
    n kind.NameT 3 6 10 10 [] ((codes "n") ∷ []) [] None ∷ n kind.Decl 3 3 8 10 (2 ∷ []) ((codes "x") ∷ []) [] None ∷
    n kind.Declare 3 3 8 10 (3 ∷ []) [] [] None ∷ n kind.Routine 1 1 0 12 (1 ∷ 4 ∷ []) ((codes "start_up") ∷ (codes
    "start_up") ∷ []) (codes "proc") (Some 2) ∷ n kind.Module 1 1 0 12 (5 ∷ []) [] [] None ∷ n kind.File 1 1 0 12 (6 ∷
    []) [] [] None ∷ [])

not_type_accepted : IsFine not_type_accepted_nodes
unfolding checking
not_type_accepted = refl

-- start_up = proc ()
--   x: any := 1.5
-- end start_up
abbrev real_refused_nodes : List Node
real_refused_nodes =
    (n kind.Simple 2 6 7 7 [] [] (codes "any") (Some 7) ∷ n kind.Literal 2 13 9 9 [] [] (codes "1.5") (Some 9) ∷ n
    kind.Init 2 3 5 9 (0 ∷ 1 ∷ []) ((codes "x") ∷ []) [] None ∷ n kind.Routine 1 1 0 11 (2 ∷ []) ((codes "start_up") ∷
    (codes "start_up") ∷ []) (codes "proc") (Some 2) ∷ n kind.Module 1 1 0 11 (3 ∷ []) [] [] None ∷ n kind.File 1 1 0
    11 (4 ∷ []) [] [] None ∷ [])

real_refused : IsRefused real_refused_nodes rule.Real 2 13
unfolding checking
real_refused = refl

-- start_up = proc ()
--   x: any := "1.5"
-- end start_up
abbrev real_accepted_nodes : List Node
real_accepted_nodes =
    (n kind.Simple 2 6 7 7 [] [] (codes "any") (Some 7) ∷ n kind.Literal 2 13 9 9 [] [] (34 ∷ 49 ∷ 46 ∷ 53 ∷ 34 ∷ [])
    (Some 9) ∷ n kind.Init 2 3 5 9 (0 ∷ 1 ∷ []) ((codes "x") ∷ []) [] None ∷ n kind.Routine 1 1 0 11 (2 ∷ []) ((codes
    "start_up") ∷ (codes "start_up") ∷ []) (codes "proc") (Some 2) ∷ n kind.Module 1 1 0 11 (3 ∷ []) [] [] None ∷ n
    kind.File 1 1 0 11 (4 ∷ []) [] [] None ∷ [])

real_accepted : IsFine real_accepted_nodes
unfolding checking
real_accepted = refl

-- start_up = proc () p["a"]() end start_up
-- p = proc [n: int] () end p
abbrev parameter_kind_refused_nodes : List Node
parameter_kind_refused_nodes =
    (n kind.Name 1 20 5 5 [] ((codes "p") ∷ []) [] None ∷ n kind.Literal 1 22 7 7 [] [] (34 ∷ 97 ∷ 34 ∷ []) (Some 7) ∷
    n kind.Index 1 21 5 8 (0 ∷ 1 ∷ []) [] [] None ∷ n kind.Call 1 26 5 10 (2 ∷ []) [] [] None ∷ n kind.CallS 1 20 5 10
    (3 ∷ []) [] [] None ∷ n kind.Routine 1 1 0 12 (4 ∷ []) ((codes "start_up") ∷ (codes "start_up") ∷ []) (codes
    "proc") (Some 2) ∷ n kind.Module 1 1 0 12 (5 ∷ []) [] [] None ∷ n kind.Simple 2 14 19 19 [] [] (codes "int") (Some
    19) ∷ n kind.Parm 2 11 17 19 (7 ∷ []) ((codes "n") ∷ []) [] None ∷ n kind.Routine 2 1 13 24 (8 ∷ []) ((codes "p")
    ∷ (codes "p") ∷ []) (codes "proc") (Some 15) ∷ n kind.Module 2 1 13 24 (9 ∷ []) [] [] None ∷ n kind.File 1 1 0 24
    (6 ∷ 10 ∷ []) [] [] None ∷ [])

parameter_kind_refused : IsRefused parameter_kind_refused_nodes rule.ParameterKind 1 21
unfolding checking
parameter_kind_refused = refl

-- start_up = proc () p[2 + 3]() end start_up
-- p = proc [n: int] () end p
abbrev parameter_kind_accepted_nodes : List Node
parameter_kind_accepted_nodes =
    (n kind.Name 1 20 5 5 [] ((codes "p") ∷ []) [] None ∷ n kind.Literal 1 22 7 7 [] [] (codes "2") (Some 7) ∷ n
    kind.Literal 1 26 9 9 [] [] (codes "3") (Some 9) ∷ n kind.Infix 1 24 7 9 (1 ∷ 2 ∷ []) [] (codes "+") (Some 8) ∷ n
    kind.Index 1 21 5 10 (0 ∷ 3 ∷ []) [] [] None ∷ n kind.Call 1 28 5 12 (4 ∷ []) [] [] None ∷ n kind.CallS 1 20 5 12
    (5 ∷ []) [] [] None ∷ n kind.Routine 1 1 0 14 (6 ∷ []) ((codes "start_up") ∷ (codes "start_up") ∷ []) (codes
    "proc") (Some 2) ∷ n kind.Module 1 1 0 14 (7 ∷ []) [] [] None ∷ n kind.Simple 2 14 21 21 [] [] (codes "int") (Some
    21) ∷ n kind.Parm 2 11 19 21 (9 ∷ []) ((codes "n") ∷ []) [] None ∷ n kind.Routine 2 1 15 26 (10 ∷ []) ((codes "p")
    ∷ (codes "p") ∷ []) (codes "proc") (Some 17) ∷ n kind.Module 2 1 15 26 (11 ∷ []) [] [] None ∷ n kind.File 1 1 0 26
    (8 ∷ 12 ∷ []) [] [] None ∷ [])

parameter_kind_accepted : IsFine parameter_kind_accepted_nodes
unfolding checking
parameter_kind_accepted = refl

-- c = cluster is f
--   rep = null
--   f = proc (x: array[cvt]) end f
-- end c
abbrev cvt_place_refused_nodes : List Node
cvt_place_refused_nodes =
    (n kind.Simple 2 9 7 7 [] [] (codes "null") (Some 7) ∷ n kind.Equate 2 3 5 7 (0 ∷ []) [] (codes "rep") (Some 5) ∷
    n kind.Simple 3 22 16 16 [] [] (codes "cvt") (Some 16) ∷ n kind.ListT 3 16 14 17 (2 ∷ []) [] (codes "array") (Some
    14) ∷ n kind.Decl 3 13 12 17 (3 ∷ []) ((codes "x") ∷ []) [] None ∷ n kind.Routine 3 3 8 20 (4 ∷ []) ((codes "f") ∷
    (codes "f") ∷ []) (codes "proc") (Some 10) ∷ n kind.Cluster 1 1 0 22 (1 ∷ 5 ∷ []) ((codes "c") ∷ (codes "f") ∷
    (codes "c") ∷ []) [] None ∷ n kind.Module 1 1 0 22 (6 ∷ []) [] [] None ∷ n kind.File 1 1 0 22 (7 ∷ []) [] [] None
    ∷ [])

cvt_place_refused : IsRefused cvt_place_refused_nodes rule.CvtPlace 3 22
unfolding checking
cvt_place_refused = refl

-- c = cluster is f
--   rep = null
--   f = proc (x: cvt, y: array[rep]) end f
-- end c
abbrev cvt_place_accepted_nodes : List Node
cvt_place_accepted_nodes =
    (n kind.Simple 2 9 7 7 [] [] (codes "null") (Some 7) ∷ n kind.Equate 2 3 5 7 (0 ∷ []) [] (codes "rep") (Some 5) ∷
    n kind.Simple 3 16 14 14 [] [] (codes "cvt") (Some 14) ∷ n kind.Decl 3 13 12 14 (2 ∷ []) ((codes "x") ∷ []) []
    None ∷ n kind.Simple 3 30 20 20 [] [] (codes "rep") (Some 20) ∷ n kind.ListT 3 24 18 21 (4 ∷ []) [] (codes
    "array") (Some 18) ∷ n kind.Decl 3 21 16 21 (5 ∷ []) ((codes "y") ∷ []) [] None ∷ n kind.Routine 3 3 8 24 (3 ∷ 6 ∷
    []) ((codes "f") ∷ (codes "f") ∷ []) (codes "proc") (Some 10) ∷ n kind.Cluster 1 1 0 26 (1 ∷ 7 ∷ []) ((codes "c")
    ∷ (codes "f") ∷ (codes "c") ∷ []) [] None ∷ n kind.Module 1 1 0 26 (8 ∷ []) [] [] None ∷ n kind.File 1 1 0 26 (9 ∷
    []) [] [] None ∷ [])

cvt_place_accepted : IsFine cvt_place_accepted_nodes
unfolding checking
cvt_place_accepted = refl

-- p = proc () s = "abc" x = s[1] || "d" end p
abbrev index_in_an_operator_nodes : List Node
index_in_an_operator_nodes =
    (n kind.Literal 1 17 7 7 [] [] (34 ∷ 97 ∷ 98 ∷ 99 ∷ 34 ∷ []) (Some 7) ∷ n kind.Equate 1 13 5 7 (0 ∷ []) ((codes
    "s") ∷ []) [] None ∷ n kind.Name 1 27 10 10 [] ((codes "s") ∷ []) [] None ∷ n kind.Literal 1 29 12 12 [] [] (codes
    "1") (Some 12) ∷ n kind.Index 1 28 10 13 (2 ∷ 3 ∷ []) [] [] None ∷ n kind.Literal 1 35 15 15 [] [] (34 ∷ 100 ∷ 34
    ∷ []) (Some 15) ∷ n kind.Infix 1 32 10 15 (4 ∷ 5 ∷ []) [] (codes "||") (Some 14) ∷ n kind.Equate 1 23 8 15 (6 ∷
    []) ((codes "x") ∷ []) [] None ∷ n kind.Routine 1 1 0 17 (1 ∷ 7 ∷ []) ((codes "p") ∷ (codes "p") ∷ []) (codes
    "proc") (Some 2) ∷ n kind.Module 1 1 0 17 (8 ∷ []) [] [] None ∷ n kind.File 1 1 0 17 (9 ∷ []) [] [] None ∷ [])

index_in_an_operator : IsRefused index_in_an_operator_nodes rule.NotConstant 1 32
unfolding checking
index_in_an_operator = refl

-- p = proc () s = "abc" x = (s[1]) end p
abbrev index_in_parentheses_nodes : List Node
index_in_parentheses_nodes =
    (n kind.Literal 1 17 7 7 [] [] (34 ∷ 97 ∷ 98 ∷ 99 ∷ 34 ∷ []) (Some 7) ∷ n kind.Equate 1 13 5 7 (0 ∷ []) ((codes
    "s") ∷ []) [] None ∷ n kind.Name 1 28 11 11 [] ((codes "s") ∷ []) [] None ∷ n kind.Literal 1 30 13 13 [] [] (codes
    "1") (Some 13) ∷ n kind.Index 1 29 11 14 (2 ∷ 3 ∷ []) [] [] None ∷ n kind.Paren 1 27 10 15 (4 ∷ []) [] [] None ∷ n
    kind.Equate 1 23 8 15 (5 ∷ []) ((codes "x") ∷ []) [] None ∷ n kind.Routine 1 1 0 17 (1 ∷ 6 ∷ []) ((codes "p") ∷
    (codes "p") ∷ []) (codes "proc") (Some 2) ∷ n kind.Module 1 1 0 17 (7 ∷ []) [] [] None ∷ n kind.File 1 1 0 17 (8 ∷
    []) [] [] None ∷ [])

index_in_parentheses : IsRefused index_in_parentheses_nodes rule.NotConstant 1 27
unfolding checking
index_in_parentheses = refl

-- p = proc [k: string] () x = (k[1]) end p
abbrev index_of_a_parameter_nodes : List Node
index_of_a_parameter_nodes =
    (n kind.Simple 1 14 6 6 [] [] (codes "string") (Some 6) ∷ n kind.Parm 1 11 4 6 (0 ∷ []) ((codes "k") ∷ []) [] None
    ∷ n kind.Name 1 30 13 13 [] ((codes "k") ∷ []) [] None ∷ n kind.Literal 1 32 15 15 [] [] (codes "1") (Some 15) ∷ n
    kind.Index 1 31 13 16 (2 ∷ 3 ∷ []) [] [] None ∷ n kind.Paren 1 29 12 17 (4 ∷ []) [] [] None ∷ n kind.Equate 1 25
    10 17 (5 ∷ []) ((codes "x") ∷ []) [] None ∷ n kind.Routine 1 1 0 19 (1 ∷ 6 ∷ []) ((codes "p") ∷ (codes "p") ∷ [])
    (codes "proc") (Some 2) ∷ n kind.Module 1 1 0 19 (7 ∷ []) [] [] None ∷ n kind.File 1 1 0 19 (8 ∷ []) [] [] None ∷
    [])

index_of_a_parameter : IsRefused index_of_a_parameter_nodes rule.NotConstant 1 29
unfolding checking
index_of_a_parameter = refl

-- p = proc () s = "abc" x: char := s[1] end p
abbrev index_of_a_constant_nodes : List Node
index_of_a_constant_nodes =
    (n kind.Literal 1 17 7 7 [] [] (34 ∷ 97 ∷ 98 ∷ 99 ∷ 34 ∷ []) (Some 7) ∷ n kind.Equate 1 13 5 7 (0 ∷ []) ((codes
    "s") ∷ []) [] None ∷ n kind.Simple 1 26 10 10 [] [] (codes "char") (Some 10) ∷ n kind.Name 1 34 12 12 [] ((codes
    "s") ∷ []) [] None ∷ n kind.Literal 1 36 14 14 [] [] (codes "1") (Some 14) ∷ n kind.Index 1 35 12 15 (3 ∷ 4 ∷ [])
    [] [] None ∷ n kind.Init 1 23 8 15 (2 ∷ 5 ∷ []) ((codes "x") ∷ []) [] None ∷ n kind.Routine 1 1 0 17 (1 ∷ 6 ∷ [])
    ((codes "p") ∷ (codes "p") ∷ []) (codes "proc") (Some 2) ∷ n kind.Module 1 1 0 17 (7 ∷ []) [] [] None ∷ n
    kind.File 1 1 0 17 (8 ∷ []) [] [] None ∷ [])

index_of_a_constant : IsFine index_of_a_constant_nodes
unfolding checking
index_of_a_constant = refl
