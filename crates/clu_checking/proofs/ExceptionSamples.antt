-- Files that are checked: the rules on exceptions. Each is the tree of the CLU above it.
use Rattle.std.specs.Prelude.{refl, List, [], ◌∷◌, codes, Some, None}
use Rattle.clu_base.specs.declared.rules.Rule.TheVariants as rule
use Rattle.clu_tree.specs.declared.node.Node.{Node}
use Rattle.clu_tree.specs.declared.node.NodeKind.TheVariants as kind
use Rattle.clu_checking.proofs.Checking.{n, IsRefused, IsFine, checking}

-- start_up = proc ()
--   q()
--     except when e: end
-- end start_up
-- q = proc () signals (e(int)) signal e(1) end q
abbrev arm_types_refused_nodes : List Node
arm_types_refused_nodes =
    (n kind.Name 2 3 5 5 [] ((codes "q") ∷ []) [] None ∷ n kind.Call 2 4 5 7 (0 ∷ []) [] [] None ∷ n kind.CallS 2 3 5
    7 (1 ∷ []) [] [] None ∷ n kind.When 3 12 9 11 [] ((codes "e") ∷ []) [] None ∷ n kind.Except 3 5 5 12 (2 ∷ 3 ∷ [])
    [] [] None ∷ n kind.Routine 1 1 0 14 (4 ∷ []) ((codes "start_up") ∷ (codes "start_up") ∷ []) (codes "proc") (Some
    2) ∷ n kind.Module 1 1 0 14 (5 ∷ []) [] [] None ∷ n kind.Simple 5 24 24 24 [] [] (codes "int") (Some 24) ∷ n
    kind.Exc 5 22 22 25 (7 ∷ []) ((codes "e") ∷ []) [] None ∷ n kind.Signals 5 13 20 26 (8 ∷ []) [] [] None ∷ n
    kind.Literal 5 39 30 30 [] [] (codes "1") (Some 30) ∷ n kind.Signal 5 30 27 31 (10 ∷ []) ((codes "e") ∷ []) []
    None ∷ n kind.Routine 5 1 15 33 (9 ∷ 11 ∷ []) ((codes "q") ∷ (codes "q") ∷ []) (codes "proc") (Some 17) ∷ n
    kind.Module 5 1 15 33 (12 ∷ []) [] [] None ∷ n kind.File 1 1 0 33 (6 ∷ 13 ∷ []) [] [] None ∷ [])

arm_types_refused : IsRefused arm_types_refused_nodes rule.ArmTypes 3 12
unfolding checking
arm_types_refused = refl

-- start_up = proc ()
--   q()
--     except when e (n: int): end
--   q()
--     except when e (*): end
-- end start_up
-- q = proc () signals (e(int)) signal e(1) end q
abbrev arm_types_accepted_nodes : List Node
arm_types_accepted_nodes =
    (n kind.Name 2 3 5 5 [] ((codes "q") ∷ []) [] None ∷ n kind.Call 2 4 5 7 (0 ∷ []) [] [] None ∷ n kind.CallS 2 3 5
    7 (1 ∷ []) [] [] None ∷ n kind.Simple 3 23 14 14 [] [] (codes "int") (Some 14) ∷ n kind.Decl 3 20 12 14 (3 ∷ [])
    ((codes "n") ∷ []) [] None ∷ n kind.When 3 12 9 16 (4 ∷ []) ((codes "e") ∷ []) [] None ∷ n kind.Except 3 5 5 17 (2
    ∷ 5 ∷ []) [] [] None ∷ n kind.Name 4 3 18 18 [] ((codes "q") ∷ []) [] None ∷ n kind.Call 4 4 18 20 (7 ∷ []) [] []
    None ∷ n kind.CallS 4 3 18 20 (8 ∷ []) [] [] None ∷ n kind.When 5 12 22 27 [] ((codes "e") ∷ []) (codes "*") (Some
    25) ∷ n kind.Except 5 5 18 28 (9 ∷ 10 ∷ []) [] [] None ∷ n kind.Routine 1 1 0 30 (6 ∷ 11 ∷ []) ((codes "start_up")
    ∷ (codes "start_up") ∷ []) (codes "proc") (Some 2) ∷ n kind.Module 1 1 0 30 (12 ∷ []) [] [] None ∷ n kind.Simple 7
    24 40 40 [] [] (codes "int") (Some 40) ∷ n kind.Exc 7 22 38 41 (14 ∷ []) ((codes "e") ∷ []) [] None ∷ n
    kind.Signals 7 13 36 42 (15 ∷ []) [] [] None ∷ n kind.Literal 7 39 46 46 [] [] (codes "1") (Some 46) ∷ n
    kind.Signal 7 30 43 47 (17 ∷ []) ((codes "e") ∷ []) [] None ∷ n kind.Routine 7 1 31 49 (16 ∷ 18 ∷ []) ((codes "q")
    ∷ (codes "q") ∷ []) (codes "proc") (Some 33) ∷ n kind.Module 7 1 31 49 (19 ∷ []) [] [] None ∷ n kind.File 1 1 0 49
    (13 ∷ 20 ∷ []) [] [] None ∷ [])

arm_types_accepted : IsFine arm_types_accepted_nodes
unfolding checking
arm_types_accepted = refl

-- start_up = proc ()
--   begin exit e end
--     except when e: when f, e: end
-- end start_up
abbrev arm_twice_refused_nodes : List Node
arm_twice_refused_nodes =
    (n kind.Exit 2 9 6 7 [] ((codes "e") ∷ []) [] None ∷ n kind.Begin 2 3 5 8 (0 ∷ []) [] [] None ∷ n kind.When 3 12
    10 12 [] ((codes "e") ∷ []) [] None ∷ n kind.When 3 20 13 17 [] ((codes "f") ∷ (codes "e") ∷ []) [] None ∷ n
    kind.Except 3 5 5 18 (1 ∷ 2 ∷ 3 ∷ []) [] [] None ∷ n kind.Routine 1 1 0 20 (4 ∷ []) ((codes "start_up") ∷ (codes
    "start_up") ∷ []) (codes "proc") (Some 2) ∷ n kind.Module 1 1 0 20 (5 ∷ []) [] [] None ∷ n kind.File 1 1 0 20 (6 ∷
    []) [] [] None ∷ [])

arm_twice_refused : IsRefused arm_twice_refused_nodes rule.ArmTwice 3 20
unfolding checking
arm_twice_refused = refl

-- start_up = proc ()
--   begin exit e end
--     except when e: when f, g: end
-- end start_up
abbrev arm_twice_accepted_nodes : List Node
arm_twice_accepted_nodes =
    (n kind.Exit 2 9 6 7 [] ((codes "e") ∷ []) [] None ∷ n kind.Begin 2 3 5 8 (0 ∷ []) [] [] None ∷ n kind.When 3 12
    10 12 [] ((codes "e") ∷ []) [] None ∷ n kind.When 3 20 13 17 [] ((codes "f") ∷ (codes "g") ∷ []) [] None ∷ n
    kind.Except 3 5 5 18 (1 ∷ 2 ∷ 3 ∷ []) [] [] None ∷ n kind.Routine 1 1 0 20 (4 ∷ []) ((codes "start_up") ∷ (codes
    "start_up") ∷ []) (codes "proc") (Some 2) ∷ n kind.Module 1 1 0 20 (5 ∷ []) [] [] None ∷ n kind.File 1 1 0 20 (6 ∷
    []) [] [] None ∷ [])

arm_twice_accepted : IsFine arm_twice_accepted_nodes
unfolding checking
arm_twice_accepted = refl

-- start_up = proc ()
--   signal e
-- end start_up
abbrev signal_not_listed_refused_nodes : List Node
signal_not_listed_refused_nodes =
    (n kind.Signal 2 3 5 6 [] ((codes "e") ∷ []) [] None ∷ n kind.Routine 1 1 0 8 (0 ∷ []) ((codes "start_up") ∷
    (codes "start_up") ∷ []) (codes "proc") (Some 2) ∷ n kind.Module 1 1 0 8 (1 ∷ []) [] [] None ∷ n kind.File 1 1 0 8
    (2 ∷ []) [] [] None ∷ [])

signal_not_listed_refused : IsRefused signal_not_listed_refused_nodes rule.SignalNotListed 2 3
unfolding checking
signal_not_listed_refused = refl

-- start_up = proc () signals (e)
--   signal e
-- end start_up
abbrev signal_not_listed_accepted_nodes : List Node
signal_not_listed_accepted_nodes =
    (n kind.Exc 1 29 7 7 [] ((codes "e") ∷ []) [] None ∷ n kind.Signals 1 20 5 8 (0 ∷ []) [] [] None ∷ n kind.Signal 2
    3 9 10 [] ((codes "e") ∷ []) [] None ∷ n kind.Routine 1 1 0 12 (1 ∷ 2 ∷ []) ((codes "start_up") ∷ (codes
    "start_up") ∷ []) (codes "proc") (Some 2) ∷ n kind.Module 1 1 0 12 (3 ∷ []) [] [] None ∷ n kind.File 1 1 0 12 (4 ∷
    []) [] [] None ∷ [])

signal_not_listed_accepted : IsFine signal_not_listed_accepted_nodes
unfolding checking
signal_not_listed_accepted = refl

-- start_up = proc () signals (e(int))
--   signal e("a")
-- end start_up
abbrev signal_types_refused_nodes : List Node
signal_types_refused_nodes =
    (n kind.Simple 1 31 9 9 [] [] (codes "int") (Some 9) ∷ n kind.Exc 1 29 7 10 (0 ∷ []) ((codes "e") ∷ []) [] None ∷
    n kind.Signals 1 20 5 11 (1 ∷ []) [] [] None ∷ n kind.Literal 2 12 15 15 [] [] (34 ∷ 97 ∷ 34 ∷ []) (Some 15) ∷ n
    kind.Signal 2 3 12 16 (3 ∷ []) ((codes "e") ∷ []) [] None ∷ n kind.Routine 1 1 0 18 (2 ∷ 4 ∷ []) ((codes
    "start_up") ∷ (codes "start_up") ∷ []) (codes "proc") (Some 2) ∷ n kind.Module 1 1 0 18 (5 ∷ []) [] [] None ∷ n
    kind.File 1 1 0 18 (6 ∷ []) [] [] None ∷ [])

signal_types_refused : IsRefused signal_types_refused_nodes rule.SignalTypes 2 3
unfolding checking
signal_types_refused = refl

-- start_up = proc () signals (e(int))
--   signal e(1)
--   signal failure("a")
-- end start_up
abbrev signal_types_accepted_nodes : List Node
signal_types_accepted_nodes =
    (n kind.Simple 1 31 9 9 [] [] (codes "int") (Some 9) ∷ n kind.Exc 1 29 7 10 (0 ∷ []) ((codes "e") ∷ []) [] None ∷
    n kind.Signals 1 20 5 11 (1 ∷ []) [] [] None ∷ n kind.Literal 2 12 15 15 [] [] (codes "1") (Some 15) ∷ n
    kind.Signal 2 3 12 16 (3 ∷ []) ((codes "e") ∷ []) [] None ∷ n kind.Literal 3 18 20 20 [] [] (34 ∷ 97 ∷ 34 ∷ [])
    (Some 20) ∷ n kind.Signal 3 3 17 21 (5 ∷ []) ((codes "failure") ∷ []) [] None ∷ n kind.Routine 1 1 0 23 (2 ∷ 4 ∷ 6
    ∷ []) ((codes "start_up") ∷ (codes "start_up") ∷ []) (codes "proc") (Some 2) ∷ n kind.Module 1 1 0 23 (7 ∷ []) []
    [] None ∷ n kind.File 1 1 0 23 (8 ∷ []) [] [] None ∷ [])

signal_types_accepted : IsFine signal_types_accepted_nodes
unfolding checking
signal_types_accepted = refl

-- start_up = proc ()
--   begin exit e end
--     except others: end
-- end start_up
abbrev exit_no_arm_refused_nodes : List Node
exit_no_arm_refused_nodes =
    (n kind.Exit 2 9 6 7 [] ((codes "e") ∷ []) [] None ∷ n kind.Begin 2 3 5 8 (0 ∷ []) [] [] None ∷ n kind.Others 3 12
    10 11 [] [] [] None ∷ n kind.Except 3 5 5 12 (1 ∷ 2 ∷ []) [] [] None ∷ n kind.Routine 1 1 0 14 (3 ∷ []) ((codes
    "start_up") ∷ (codes "start_up") ∷ []) (codes "proc") (Some 2) ∷ n kind.Module 1 1 0 14 (4 ∷ []) [] [] None ∷ n
    kind.File 1 1 0 14 (5 ∷ []) [] [] None ∷ [])

exit_no_arm_refused : IsRefused exit_no_arm_refused_nodes rule.ExitNoArm 2 9
unfolding checking
exit_no_arm_refused = refl

-- start_up = proc ()
--   begin exit e end
--     except when e: end
-- end start_up
abbrev exit_no_arm_accepted_nodes : List Node
exit_no_arm_accepted_nodes =
    (n kind.Exit 2 9 6 7 [] ((codes "e") ∷ []) [] None ∷ n kind.Begin 2 3 5 8 (0 ∷ []) [] [] None ∷ n kind.When 3 12
    10 12 [] ((codes "e") ∷ []) [] None ∷ n kind.Except 3 5 5 13 (1 ∷ 2 ∷ []) [] [] None ∷ n kind.Routine 1 1 0 15 (3
    ∷ []) ((codes "start_up") ∷ (codes "start_up") ∷ []) (codes "proc") (Some 2) ∷ n kind.Module 1 1 0 15 (4 ∷ []) []
    [] None ∷ n kind.File 1 1 0 15 (5 ∷ []) [] [] None ∷ [])

exit_no_arm_accepted : IsFine exit_no_arm_accepted_nodes
unfolding checking
exit_no_arm_accepted = refl
