-- Files that are checked: the rules on names. Each is the tree of the CLU above it.
use Rattle.std.specs.Prelude.{refl, List, [], ◌∷◌, codes, Some, None}
use Rattle.clu_base.specs.declared.rules.Rule.TheVariants as rule
use Rattle.clu_tree.specs.declared.node.Node.{Node}
use Rattle.clu_tree.specs.declared.node.NodeKind.TheVariants as kind
use Rattle.clu_checking.proofs.Checking.{n, IsRefused, IsFine, checking}

-- start_up = proc ()
--   x: int := 9223372036854775808
-- end start_up
abbrev literal_range_refused_nodes : List Node
literal_range_refused_nodes =
    (n kind.Simple 2 6 7 7 [] [] (codes "int") (Some 7) ∷ n kind.Literal 2 13 9 9 [] [] (codes "9223372036854775808")
    (Some 9) ∷ n kind.Init 2 3 5 9 (0 ∷ 1 ∷ []) ((codes "x") ∷ []) [] None ∷ n kind.Routine 1 1 0 11 (2 ∷ []) ((codes
    "start_up") ∷ (codes "start_up") ∷ []) (codes "proc") (Some 2) ∷ n kind.Module 1 1 0 11 (3 ∷ []) [] [] None ∷ n
    kind.File 1 1 0 11 (4 ∷ []) [] [] None ∷ [])

literal_range_refused : IsRefused literal_range_refused_nodes rule.LiteralRange 2 13
unfolding checking
literal_range_refused = refl

-- start_up = proc ()
--   x: int := -9223372036854775807 - 1
-- end start_up
abbrev literal_range_accepted_nodes : List Node
literal_range_accepted_nodes =
    (n kind.Simple 2 6 7 7 [] [] (codes "int") (Some 7) ∷ n kind.Literal 2 14 10 10 [] [] (codes
    "9223372036854775807") (Some 10) ∷ n kind.Prefix 2 13 9 10 (1 ∷ []) [] (codes "-") (Some 9) ∷ n kind.Literal 2 36
    12 12 [] [] (codes "1") (Some 12) ∷ n kind.Infix 2 34 9 12 (2 ∷ 3 ∷ []) [] (codes "-") (Some 11) ∷ n kind.Init 2 3
    5 12 (0 ∷ 4 ∷ []) ((codes "x") ∷ []) [] None ∷ n kind.Routine 1 1 0 14 (5 ∷ []) ((codes "start_up") ∷ (codes
    "start_up") ∷ []) (codes "proc") (Some 2) ∷ n kind.Module 1 1 0 14 (6 ∷ []) [] [] None ∷ n kind.File 1 1 0 14 (7 ∷
    []) [] [] None ∷ [])

literal_range_accepted : IsFine literal_range_accepted_nodes
unfolding checking
literal_range_accepted = refl

-- start_up = proc ()
--   x: int := x + 1
-- end start_up
abbrev unknown_name_refused_nodes : List Node
unknown_name_refused_nodes =
    (n kind.Simple 2 6 7 7 [] [] (codes "int") (Some 7) ∷ n kind.Name 2 13 9 9 [] ((codes "x") ∷ []) [] None ∷ n
    kind.Literal 2 17 11 11 [] [] (codes "1") (Some 11) ∷ n kind.Infix 2 15 9 11 (1 ∷ 2 ∷ []) [] (codes "+") (Some 10)
    ∷ n kind.Init 2 3 5 11 (0 ∷ 3 ∷ []) ((codes "x") ∷ []) [] None ∷ n kind.Routine 1 1 0 13 (4 ∷ []) ((codes
    "start_up") ∷ (codes "start_up") ∷ []) (codes "proc") (Some 2) ∷ n kind.Module 1 1 0 13 (5 ∷ []) [] [] None ∷ n
    kind.File 1 1 0 13 (6 ∷ []) [] [] None ∷ [])

unknown_name_refused : IsRefused unknown_name_refused_nodes rule.UnknownName 2 13
unfolding checking
unknown_name_refused = refl

-- start_up = proc ()
--   y = z
--   z = 1
--   x: int := y + 1
-- end start_up
abbrev unknown_name_accepted_nodes : List Node
unknown_name_accepted_nodes =
    (n kind.Name 2 7 7 7 [] ((codes "z") ∷ []) [] None ∷ n kind.Equate 2 3 5 7 (0 ∷ []) ((codes "y") ∷ []) [] None ∷ n
    kind.Literal 3 7 10 10 [] [] (codes "1") (Some 10) ∷ n kind.Equate 3 3 8 10 (2 ∷ []) ((codes "z") ∷ []) [] None ∷
    n kind.Simple 4 6 13 13 [] [] (codes "int") (Some 13) ∷ n kind.Name 4 13 15 15 [] ((codes "y") ∷ []) [] None ∷ n
    kind.Literal 4 17 17 17 [] [] (codes "1") (Some 17) ∷ n kind.Infix 4 15 15 17 (5 ∷ 6 ∷ []) [] (codes "+") (Some
    16) ∷ n kind.Init 4 3 11 17 (4 ∷ 7 ∷ []) ((codes "x") ∷ []) [] None ∷ n kind.Routine 1 1 0 19 (1 ∷ 3 ∷ 8 ∷ [])
    ((codes "start_up") ∷ (codes "start_up") ∷ []) (codes "proc") (Some 2) ∷ n kind.Module 1 1 0 19 (9 ∷ []) [] []
    None ∷ n kind.File 1 1 0 19 (10 ∷ []) [] [] None ∷ [])

unknown_name_accepted : IsFine unknown_name_accepted_nodes
unfolding checking
unknown_name_accepted = refl

-- start_up = proc ()
--   x: int
--   begin x: string end
-- end start_up
abbrev defined_twice_refused_nodes : List Node
defined_twice_refused_nodes =
    (n kind.Simple 2 6 7 7 [] [] (codes "int") (Some 7) ∷ n kind.Decl 2 3 5 7 (0 ∷ []) ((codes "x") ∷ []) [] None ∷ n
    kind.Declare 2 3 5 7 (1 ∷ []) [] [] None ∷ n kind.Simple 3 12 11 11 [] [] (codes "string") (Some 11) ∷ n kind.Decl
    3 9 9 11 (3 ∷ []) ((codes "x") ∷ []) [] None ∷ n kind.Declare 3 9 9 11 (4 ∷ []) [] [] None ∷ n kind.Begin 3 3 8 12
    (5 ∷ []) [] [] None ∷ n kind.Routine 1 1 0 14 (2 ∷ 6 ∷ []) ((codes "start_up") ∷ (codes "start_up") ∷ []) (codes
    "proc") (Some 2) ∷ n kind.Module 1 1 0 14 (7 ∷ []) [] [] None ∷ n kind.File 1 1 0 14 (8 ∷ []) [] [] None ∷ [])

defined_twice_refused : IsRefused defined_twice_refused_nodes rule.DefinedTwice 3 9
unfolding checking
defined_twice_refused = refl

-- start_up = proc ()
--   begin x: string end
--   x: int
-- end start_up
abbrev defined_twice_accepted_nodes : List Node
defined_twice_accepted_nodes =
    (n kind.Simple 2 12 8 8 [] [] (codes "string") (Some 8) ∷ n kind.Decl 2 9 6 8 (0 ∷ []) ((codes "x") ∷ []) [] None
    ∷ n kind.Declare 2 9 6 8 (1 ∷ []) [] [] None ∷ n kind.Begin 2 3 5 9 (2 ∷ []) [] [] None ∷ n kind.Simple 3 6 12 12
    [] [] (codes "int") (Some 12) ∷ n kind.Decl 3 3 10 12 (4 ∷ []) ((codes "x") ∷ []) [] None ∷ n kind.Declare 3 3 10
    12 (5 ∷ []) [] [] None ∷ n kind.Routine 1 1 0 14 (3 ∷ 6 ∷ []) ((codes "start_up") ∷ (codes "start_up") ∷ [])
    (codes "proc") (Some 2) ∷ n kind.Module 1 1 0 14 (7 ∷ []) [] [] None ∷ n kind.File 1 1 0 14 (8 ∷ []) [] [] None ∷
    [])

defined_twice_accepted : IsFine defined_twice_accepted_nodes
unfolding checking
defined_twice_accepted = refl

-- start_up = proc ()
--   a = b
--   b = a + 1
-- end start_up
abbrev circular_equate_refused_nodes : List Node
circular_equate_refused_nodes =
    (n kind.Name 2 7 7 7 [] ((codes "b") ∷ []) [] None ∷ n kind.Equate 2 3 5 7 (0 ∷ []) ((codes "a") ∷ []) [] None ∷ n
    kind.Name 3 7 10 10 [] ((codes "a") ∷ []) [] None ∷ n kind.Literal 3 11 12 12 [] [] (codes "1") (Some 12) ∷ n
    kind.Infix 3 9 10 12 (2 ∷ 3 ∷ []) [] (codes "+") (Some 11) ∷ n kind.Equate 3 3 8 12 (4 ∷ []) ((codes "b") ∷ []) []
    None ∷ n kind.Routine 1 1 0 14 (1 ∷ 5 ∷ []) ((codes "start_up") ∷ (codes "start_up") ∷ []) (codes "proc") (Some 2)
    ∷ n kind.Module 1 1 0 14 (6 ∷ []) [] [] None ∷ n kind.File 1 1 0 14 (7 ∷ []) [] [] None ∷ [])

circular_equate_refused : IsRefused circular_equate_refused_nodes rule.CircularEquate 2 7
unfolding checking
circular_equate_refused = refl

-- start_up = proc ()
--   a = b
--   b = 1 + 1
-- end start_up
abbrev circular_equate_accepted_nodes : List Node
circular_equate_accepted_nodes =
    (n kind.Name 2 7 7 7 [] ((codes "b") ∷ []) [] None ∷ n kind.Equate 2 3 5 7 (0 ∷ []) ((codes "a") ∷ []) [] None ∷ n
    kind.Literal 3 7 10 10 [] [] (codes "1") (Some 10) ∷ n kind.Literal 3 11 12 12 [] [] (codes "1") (Some 12) ∷ n
    kind.Infix 3 9 10 12 (2 ∷ 3 ∷ []) [] (codes "+") (Some 11) ∷ n kind.Equate 3 3 8 12 (4 ∷ []) ((codes "b") ∷ []) []
    None ∷ n kind.Routine 1 1 0 14 (1 ∷ 5 ∷ []) ((codes "start_up") ∷ (codes "start_up") ∷ []) (codes "proc") (Some 2)
    ∷ n kind.Module 1 1 0 14 (6 ∷ []) [] [] None ∷ n kind.File 1 1 0 14 (7 ∷ []) [] [] None ∷ [])

circular_equate_accepted : IsFine circular_equate_accepted_nodes
unfolding checking
circular_equate_accepted = refl

-- p = proc (x: int)
--   own n: int := x
-- end p
abbrev own_place_refused_nodes : List Node
own_place_refused_nodes =
    (n kind.Simple 1 14 6 6 [] [] (codes "int") (Some 6) ∷ n kind.Decl 1 11 4 6 (0 ∷ []) ((codes "x") ∷ []) [] None ∷
    n kind.Simple 2 10 11 11 [] [] (codes "int") (Some 11) ∷ n kind.Name 2 17 13 13 [] ((codes "x") ∷ []) [] None ∷ n
    kind.Own 2 3 8 13 (2 ∷ 3 ∷ []) ((codes "n") ∷ []) [] None ∷ n kind.Routine 1 1 0 15 (1 ∷ 4 ∷ []) ((codes "p") ∷
    (codes "p") ∷ []) (codes "proc") (Some 2) ∷ n kind.Module 1 1 0 15 (5 ∷ []) [] [] None ∷ n kind.File 1 1 0 15 (6 ∷
    []) [] [] None ∷ [])

own_place_refused : IsRefused own_place_refused_nodes rule.OwnPlace 2 3
unfolding checking
own_place_refused = refl

-- p = proc [x: int] ()
--   own n: int := x
-- end p
abbrev own_place_accepted_nodes : List Node
own_place_accepted_nodes =
    (n kind.Simple 1 14 6 6 [] [] (codes "int") (Some 6) ∷ n kind.Parm 1 11 4 6 (0 ∷ []) ((codes "x") ∷ []) [] None ∷
    n kind.Simple 2 10 13 13 [] [] (codes "int") (Some 13) ∷ n kind.Name 2 17 15 15 [] ((codes "x") ∷ []) [] None ∷ n
    kind.Own 2 3 10 15 (2 ∷ 3 ∷ []) ((codes "n") ∷ []) [] None ∷ n kind.Routine 1 1 0 17 (1 ∷ 4 ∷ []) ((codes "p") ∷
    (codes "p") ∷ []) (codes "proc") (Some 2) ∷ n kind.Module 1 1 0 17 (5 ∷ []) [] [] None ∷ n kind.File 1 1 0 17 (6 ∷
    []) [] [] None ∷ [])

own_place_accepted : IsFine own_place_accepted_nodes
unfolding checking
own_place_accepted = refl
