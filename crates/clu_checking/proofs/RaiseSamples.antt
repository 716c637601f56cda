-- Files that are checked: raises, arms and tags. Each is the tree of the CLU above it.
use Rattle.std.specs.Prelude.{◌≡◌, refl, List, [], ◌∷◌, codes, Some, None}
use Rattle.clu_base.specs.declared.rules.Rule.TheVariants as rule
use Rattle.clu_tree.specs.declared.node.Node.{Node}
use Rattle.clu_tree.specs.declared.node.NodeKind.TheVariants as kind
use Rattle.clu_types.specs.CluType.{no_types}
use Rattle.clu_checking.specs.Files.{File, item}
use Rattle.clu_checking.specs.Raising.{failure, by_routine}
use Rattle.clu_checking.specs.Refusals.{checked_file}
use Rattle.clu_checking.proofs.Checking.{n, surroundings, IsRefused, IsFine, checking}

-- p = proc () q() except when failure: end end p q = proc () end q
abbrev failure_of_an_invocation_nodes : List Node
failure_of_an_invocation_nodes =
    (n kind.Name 1 13 5 5 [] ((codes "q") ∷ []) [] None ∷ n kind.Call 1 14 5 7 (0 ∷ []) [] [] None ∷ n kind.CallS 1 13
    5 7 (1 ∷ []) [] [] None ∷ n kind.When 1 24 9 11 [] ((codes "failure") ∷ []) [] None ∷ n kind.Except 1 17 5 12 (2 ∷
    3 ∷ []) [] [] None ∷ n kind.Routine 1 1 0 14 (4 ∷ []) ((codes "p") ∷ (codes "p") ∷ []) (codes "proc") (Some 2) ∷ n
    kind.Module 1 1 0 14 (5 ∷ []) [] [] None ∷ n kind.Routine 1 48 15 21 [] ((codes "q") ∷ (codes "q") ∷ []) (codes
    "proc") (Some 17) ∷ n kind.Module 1 48 15 21 (7 ∷ []) [] [] None ∷ n kind.File 1 1 0 21 (6 ∷ 8 ∷ []) [] [] None ∷
    [])

failure_of_an_invocation : IsRefused failure_of_an_invocation_nodes rule.ArmTypes 1 24
unfolding checking
failure_of_an_invocation = refl

-- p = proc (x: int) begin y: int := x end except when failure: end end p
abbrev failure_of_a_variable_nodes : List Node
failure_of_a_variable_nodes =
    (n kind.Simple 1 14 6 6 [] [] (codes "int") (Some 6) ∷ n kind.Decl 1 11 4 6 (0 ∷ []) ((codes "x") ∷ []) [] None ∷
    n kind.Simple 1 28 11 11 [] [] (codes "int") (Some 11) ∷ n kind.Name 1 35 13 13 [] ((codes "x") ∷ []) [] None ∷ n
    kind.Init 1 25 9 13 (2 ∷ 3 ∷ []) ((codes "y") ∷ []) [] None ∷ n kind.Begin 1 19 8 14 (4 ∷ []) [] [] None ∷ n
    kind.When 1 48 16 18 [] ((codes "failure") ∷ []) [] None ∷ n kind.Except 1 41 8 19 (5 ∷ 6 ∷ []) [] [] None ∷ n
    kind.Routine 1 1 0 21 (1 ∷ 7 ∷ []) ((codes "p") ∷ (codes "p") ∷ []) (codes "proc") (Some 2) ∷ n kind.Module 1 1 0
    21 (8 ∷ []) [] [] None ∷ n kind.File 1 1 0 21 (9 ∷ []) [] [] None ∷ [])

failure_of_a_variable : IsRefused failure_of_a_variable_nodes rule.ArmTypes 1 48
unfolding checking
failure_of_a_variable = refl

-- p = proc () x: int begin x := 1 end except when failure: end end p
abbrev no_failure_of_an_assignment_nodes : List Node
no_failure_of_an_assignment_nodes =
    (n kind.Simple 1 16 7 7 [] [] (codes "int") (Some 7) ∷ n kind.Decl 1 13 5 7 (0 ∷ []) ((codes "x") ∷ []) [] None ∷
    n kind.Declare 1 13 5 7 (1 ∷ []) [] [] None ∷ n kind.Literal 1 31 11 11 [] [] (codes "1") (Some 11) ∷ n
    kind.Assign 1 26 9 11 (3 ∷ []) ((codes "x") ∷ []) [] None ∷ n kind.Begin 1 20 8 12 (4 ∷ []) [] [] None ∷ n
    kind.When 1 44 14 16 [] ((codes "failure") ∷ []) [] None ∷ n kind.Except 1 37 8 17 (5 ∷ 6 ∷ []) [] [] None ∷ n
    kind.Routine 1 1 0 19 (2 ∷ 7 ∷ []) ((codes "p") ∷ (codes "p") ∷ []) (codes "proc") (Some 2) ∷ n kind.Module 1 1 0
    19 (8 ∷ []) [] [] None ∷ n kind.File 1 1 0 19 (9 ∷ []) [] [] None ∷ [])

no_failure_of_an_assignment : IsFine no_failure_of_an_assignment_nodes
unfolding checking
no_failure_of_an_assignment = refl

-- p = proc () begin x: any := array[int]$[] end except when failure: end end p
abbrev failure_of_a_constructor_nodes : List Node
failure_of_a_constructor_nodes =
    (n kind.Simple 1 22 8 8 [] [] (codes "any") (Some 8) ∷ n kind.Simple 1 35 12 12 [] [] (codes "int") (Some 12) ∷ n
    kind.ListT 1 29 10 13 (1 ∷ []) [] (codes "array") (Some 10) ∷ n kind.Elems 1 29 10 16 (2 ∷ []) [] [] None ∷ n
    kind.Init 1 19 6 16 (0 ∷ 3 ∷ []) ((codes "x") ∷ []) [] None ∷ n kind.Begin 1 13 5 17 (4 ∷ []) [] [] None ∷ n
    kind.When 1 54 19 21 [] ((codes "failure") ∷ []) [] None ∷ n kind.Except 1 47 5 22 (5 ∷ 6 ∷ []) [] [] None ∷ n
    kind.Routine 1 1 0 24 (7 ∷ []) ((codes "p") ∷ (codes "p") ∷ []) (codes "proc") (Some 2) ∷ n kind.Module 1 1 0 24
    (8 ∷ []) [] [] None ∷ n kind.File 1 1 0 24 (9 ∷ []) [] [] None ∷ [])

failure_of_a_constructor : IsRefused failure_of_a_constructor_nodes rule.ArmTypes 1 54
unfolding checking
failure_of_a_constructor = refl

-- p = proc () begin x: any := record[a: int]${a: 1} end except when failure: end end p
abbrev no_failure_of_components_nodes : List Node
no_failure_of_components_nodes =
    (n kind.Simple 1 22 8 8 [] [] (codes "any") (Some 8) ∷ n kind.Simple 1 39 14 14 [] [] (codes "int") (Some 14) ∷ n
    kind.FieldT 1 36 12 14 (1 ∷ []) ((codes "a") ∷ []) [] None ∷ n kind.FieldsT 1 29 10 15 (2 ∷ []) [] (codes
    "record") (Some 10) ∷ n kind.Literal 1 48 20 20 [] [] (codes "1") (Some 20) ∷ n kind.FieldE 1 45 18 20 (4 ∷ [])
    ((codes "a") ∷ []) [] None ∷ n kind.Fields 1 29 10 21 (3 ∷ 5 ∷ []) [] [] None ∷ n kind.Init 1 19 6 21 (0 ∷ 6 ∷ [])
    ((codes "x") ∷ []) [] None ∷ n kind.Begin 1 13 5 22 (7 ∷ []) [] [] None ∷ n kind.When 1 62 24 26 [] ((codes
    "failure") ∷ []) [] None ∷ n kind.Except 1 55 5 27 (8 ∷ 9 ∷ []) [] [] None ∷ n kind.Routine 1 1 0 29 (10 ∷ [])
    ((codes "p") ∷ (codes "p") ∷ []) (codes "proc") (Some 2) ∷ n kind.Module 1 1 0 29 (11 ∷ []) [] [] None ∷ n
    kind.File 1 1 0 29 (12 ∷ []) [] [] None ∷ [])

no_failure_of_components : IsFine no_failure_of_components_nodes
unfolding checking
no_failure_of_components = refl

-- p = proc () q() except others: end except when failure: end end p q = proc () end q
abbrev others_takes_all_nodes : List Node
others_takes_all_nodes =
    (n kind.Name 1 13 5 5 [] ((codes "q") ∷ []) [] None ∷ n kind.Call 1 14 5 7 (0 ∷ []) [] [] None ∷ n kind.CallS 1 13
    5 7 (1 ∷ []) [] [] None ∷ n kind.Others 1 24 9 10 [] [] [] None ∷ n kind.Except 1 17 5 11 (2 ∷ 3 ∷ []) [] [] None
    ∷ n kind.When 1 43 13 15 [] ((codes "failure") ∷ []) [] None ∷ n kind.Except 1 36 5 16 (4 ∷ 5 ∷ []) [] [] None ∷ n
    kind.Routine 1 1 0 18 (6 ∷ []) ((codes "p") ∷ (codes "p") ∷ []) (codes "proc") (Some 2) ∷ n kind.Module 1 1 0 18
    (7 ∷ []) [] [] None ∷ n kind.Routine 1 67 19 25 [] ((codes "q") ∷ (codes "q") ∷ []) (codes "proc") (Some 21) ∷ n
    kind.Module 1 67 19 25 (9 ∷ []) [] [] None ∷ n kind.File 1 1 0 25 (8 ∷ 10 ∷ []) [] [] None ∷ [])

others_takes_all : IsFine others_takes_all_nodes
unfolding checking
others_takes_all = refl

-- p = proc () q() except others: q() end except when failure: end end p q = proc () end q
abbrev an_arm_adds_its_own_nodes : List Node
an_arm_adds_its_own_nodes =
    (n kind.Name 1 13 5 5 [] ((codes "q") ∷ []) [] None ∷ n kind.Call 1 14 5 7 (0 ∷ []) [] [] None ∷ n kind.CallS 1 13
    5 7 (1 ∷ []) [] [] None ∷ n kind.Name 1 32 11 11 [] ((codes "q") ∷ []) [] None ∷ n kind.Call 1 33 11 13 (3 ∷ [])
    [] [] None ∷ n kind.CallS 1 32 11 13 (4 ∷ []) [] [] None ∷ n kind.Others 1 24 9 13 (5 ∷ []) [] [] None ∷ n
    kind.Except 1 17 5 14 (2 ∷ 6 ∷ []) [] [] None ∷ n kind.When 1 47 16 18 [] ((codes "failure") ∷ []) [] None ∷ n
    kind.Except 1 40 5 19 (7 ∷ 8 ∷ []) [] [] None ∷ n kind.Routine 1 1 0 21 (9 ∷ []) ((codes "p") ∷ (codes "p") ∷ [])
    (codes "proc") (Some 2) ∷ n kind.Module 1 1 0 21 (10 ∷ []) [] [] None ∷ n kind.Routine 1 71 22 28 [] ((codes "q")
    ∷ (codes "q") ∷ []) (codes "proc") (Some 24) ∷ n kind.Module 1 71 22 28 (12 ∷ []) [] [] None ∷ n kind.File 1 1 0
    28 (11 ∷ 13 ∷ []) [] [] None ∷ [])

an_arm_adds_its_own : IsRefused an_arm_adds_its_own_nodes rule.ArmTypes 1 47
unfolding checking
an_arm_adds_its_own = refl

-- p = proc () begin exit e end except when e, e: end end p
abbrev a_name_twice_in_an_arm_nodes : List Node
a_name_twice_in_an_arm_nodes =
    (n kind.Exit 1 19 6 7 [] ((codes "e") ∷ []) [] None ∷ n kind.Begin 1 13 5 8 (0 ∷ []) [] [] None ∷ n kind.When 1 37
    10 14 [] ((codes "e") ∷ (codes "e") ∷ []) [] None ∷ n kind.Except 1 30 5 15 (1 ∷ 2 ∷ []) [] [] None ∷ n
    kind.Routine 1 1 0 17 (3 ∷ []) ((codes "p") ∷ (codes "p") ∷ []) (codes "proc") (Some 2) ∷ n kind.Module 1 1 0 17
    (4 ∷ []) [] [] None ∷ n kind.File 1 1 0 17 (5 ∷ []) [] [] None ∷ [])

a_name_twice_in_an_arm : IsFine a_name_twice_in_an_arm_nodes
unfolding checking
a_name_twice_in_an_arm = refl

-- c = cluster is m rep = int m = proc () signals (e(cvt)) m() resignal e end m end c
abbrev resignal_of_the_abstract_type_nodes : List Node
resignal_of_the_abstract_type_nodes =
    (n kind.Simple 1 24 7 7 [] [] (codes "int") (Some 7) ∷ n kind.Equate 1 18 5 7 (0 ∷ []) [] (codes "rep") (Some 5) ∷
    n kind.Simple 1 51 17 17 [] [] (codes "cvt") (Some 17) ∷ n kind.Exc 1 49 15 18 (2 ∷ []) ((codes "e") ∷ []) [] None
    ∷ n kind.Signals 1 40 13 19 (3 ∷ []) [] [] None ∷ n kind.Name 1 57 20 20 [] ((codes "m") ∷ []) [] None ∷ n
    kind.Call 1 58 20 22 (5 ∷ []) [] [] None ∷ n kind.CallS 1 57 20 22 (6 ∷ []) [] [] None ∷ n kind.Resignal 1 61 20
    24 (7 ∷ []) ((codes "e") ∷ []) [] None ∷ n kind.Routine 1 28 8 26 (4 ∷ 8 ∷ []) ((codes "m") ∷ (codes "m") ∷ [])
    (codes "proc") (Some 10) ∷ n kind.Cluster 1 1 0 28 (1 ∷ 9 ∷ []) ((codes "c") ∷ (codes "m") ∷ (codes "c") ∷ []) []
    None ∷ n kind.Module 1 1 0 28 (10 ∷ []) [] [] None ∷ n kind.File 1 1 0 28 (11 ∷ []) [] [] None ∷ [])

resignal_of_the_abstract_type : IsRefused resignal_of_the_abstract_type_nodes rule.SignalTypes 1 61
unfolding checking
resignal_of_the_abstract_type = refl

-- p = proc () signals (e(int)) begin q() resignal e end except when e: end end p q = proc () signals (e(int)) end q
abbrev resignal_takes_its_names_nodes : List Node
resignal_takes_its_names_nodes =
    (n kind.Simple 1 24 9 9 [] [] (codes "int") (Some 9) ∷ n kind.Exc 1 22 7 10 (0 ∷ []) ((codes "e") ∷ []) [] None ∷
    n kind.Signals 1 13 5 11 (1 ∷ []) [] [] None ∷ n kind.Name 1 36 13 13 [] ((codes "q") ∷ []) [] None ∷ n kind.Call
    1 37 13 15 (3 ∷ []) [] [] None ∷ n kind.CallS 1 36 13 15 (4 ∷ []) [] [] None ∷ n kind.Resignal 1 40 13 17 (5 ∷ [])
    ((codes "e") ∷ []) [] None ∷ n kind.Begin 1 30 12 18 (6 ∷ []) [] [] None ∷ n kind.When 1 62 20 22 [] ((codes "e")
    ∷ []) [] None ∷ n kind.Except 1 55 12 23 (7 ∷ 8 ∷ []) [] [] None ∷ n kind.Routine 1 1 0 25 (2 ∷ 9 ∷ []) ((codes
    "p") ∷ (codes "p") ∷ []) (codes "proc") (Some 2) ∷ n kind.Module 1 1 0 25 (10 ∷ []) [] [] None ∷ n kind.Simple 1
    103 35 35 [] [] (codes "int") (Some 35) ∷ n kind.Exc 1 101 33 36 (12 ∷ []) ((codes "e") ∷ []) [] None ∷ n
    kind.Signals 1 92 31 37 (13 ∷ []) [] [] None ∷ n kind.Routine 1 80 26 39 (14 ∷ []) ((codes "q") ∷ (codes "q") ∷
    []) (codes "proc") (Some 28) ∷ n kind.Module 1 80 26 39 (15 ∷ []) [] [] None ∷ n kind.File 1 1 0 39 (11 ∷ 16 ∷ [])
    [] [] None ∷ [])

resignal_takes_its_names : IsFine resignal_takes_its_names_nodes
unfolding checking
resignal_takes_its_names = refl

-- p = proc () begin begin exit e end except others: end end except when e: end end p
abbrev exit_passes_others_nodes : List Node
exit_passes_others_nodes =
    (n kind.Exit 1 25 7 8 [] ((codes "e") ∷ []) [] None ∷ n kind.Begin 1 19 6 9 (0 ∷ []) [] [] None ∷ n kind.Others 1
    43 11 12 [] [] [] None ∷ n kind.Except 1 36 6 13 (1 ∷ 2 ∷ []) [] [] None ∷ n kind.Begin 1 13 5 14 (3 ∷ []) [] []
    None ∷ n kind.When 1 66 16 18 [] ((codes "e") ∷ []) [] None ∷ n kind.Except 1 59 5 19 (4 ∷ 5 ∷ []) [] [] None ∷ n
    kind.Routine 1 1 0 21 (6 ∷ []) ((codes "p") ∷ (codes "p") ∷ []) (codes "proc") (Some 2) ∷ n kind.Module 1 1 0 21
    (7 ∷ []) [] [] None ∷ n kind.File 1 1 0 21 (8 ∷ []) [] [] None ∷ [])

exit_passes_others : IsFine exit_passes_others_nodes
unfolding checking
exit_passes_others = refl

-- p = proc () q() except when e: exit e end end p q = proc () end q
abbrev exit_from_an_arm_nodes : List Node
exit_from_an_arm_nodes =
    (n kind.Name 1 13 5 5 [] ((codes "q") ∷ []) [] None ∷ n kind.Call 1 14 5 7 (0 ∷ []) [] [] None ∷ n kind.CallS 1 13
    5 7 (1 ∷ []) [] [] None ∷ n kind.Exit 1 32 12 13 [] ((codes "e") ∷ []) [] None ∷ n kind.When 1 24 9 13 (3 ∷ [])
    ((codes "e") ∷ []) [] None ∷ n kind.Except 1 17 5 14 (2 ∷ 4 ∷ []) [] [] None ∷ n kind.Routine 1 1 0 16 (5 ∷ [])
    ((codes "p") ∷ (codes "p") ∷ []) (codes "proc") (Some 2) ∷ n kind.Module 1 1 0 16 (6 ∷ []) [] [] None ∷ n
    kind.Routine 1 49 17 23 [] ((codes "q") ∷ (codes "q") ∷ []) (codes "proc") (Some 19) ∷ n kind.Module 1 49 17 23 (8
    ∷ []) [] [] None ∷ n kind.File 1 1 0 23 (7 ∷ 9 ∷ []) [] [] None ∷ [])

exit_from_an_arm : IsRefused exit_from_an_arm_nodes rule.ExitNoArm 1 32
unfolding checking
exit_from_an_arm = refl

-- p = proc () begin exit e("a") end except when e (n: int): end end p
abbrev exit_with_other_types_nodes : List Node
exit_with_other_types_nodes =
    (n kind.Literal 1 26 9 9 [] [] (34 ∷ 97 ∷ 34 ∷ []) (Some 9) ∷ n kind.Exit 1 19 6 10 (0 ∷ []) ((codes "e") ∷ []) []
    None ∷ n kind.Begin 1 13 5 11 (1 ∷ []) [] [] None ∷ n kind.Simple 1 53 18 18 [] [] (codes "int") (Some 18) ∷ n
    kind.Decl 1 50 16 18 (3 ∷ []) ((codes "n") ∷ []) [] None ∷ n kind.When 1 42 13 20 (4 ∷ []) ((codes "e") ∷ []) []
    None ∷ n kind.Except 1 35 5 21 (2 ∷ 5 ∷ []) [] [] None ∷ n kind.Routine 1 1 0 23 (6 ∷ []) ((codes "p") ∷ (codes
    "p") ∷ []) (codes "proc") (Some 2) ∷ n kind.Module 1 1 0 23 (7 ∷ []) [] [] None ∷ n kind.File 1 1 0 23 (8 ∷ []) []
    [] None ∷ [])

exit_with_other_types : IsRefused exit_with_other_types_nodes rule.SignalTypes 1 19
unfolding checking
exit_with_other_types = refl

-- p = proc (f: proctype () signals (failure(int))) end p
abbrev failure_of_a_proctype_nodes : List Node
failure_of_a_proctype_nodes =
    (n kind.Simple 1 43 13 13 [] [] (codes "int") (Some 13) ∷ n kind.Exc 1 35 11 14 (0 ∷ []) ((codes "failure") ∷ [])
    [] None ∷ n kind.Signals 1 26 9 15 (1 ∷ []) [] [] None ∷ n kind.RoutineT 1 14 6 15 (2 ∷ []) [] (codes "proctype")
    (Some 6) ∷ n kind.Decl 1 11 4 15 (3 ∷ []) ((codes "f") ∷ []) [] None ∷ n kind.Routine 1 1 0 18 (4 ∷ []) ((codes
    "p") ∷ (codes "p") ∷ []) (codes "proc") (Some 2) ∷ n kind.Module 1 1 0 18 (5 ∷ []) [] [] None ∷ n kind.File 1 1 0
    18 (6 ∷ []) [] [] None ∷ [])

failure_of_a_proctype : IsRefused failure_of_a_proctype_nodes rule.SignalTypes 1 35
unfolding checking
failure_of_a_proctype = refl

-- p = proc () begin for i: int in it() do end end except when e: end end p it = iter () yields (int) signals (e(int)) end it
abbrev signals_of_a_loop_nodes : List Node
signals_of_a_loop_nodes =
    (n kind.Simple 1 26 9 9 [] [] (codes "int") (Some 9) ∷ n kind.Decl 1 23 7 9 (0 ∷ []) ((codes "i") ∷ []) [] None ∷
    n kind.Name 1 33 11 11 [] ((codes "it") ∷ []) [] None ∷ n kind.Call 1 35 11 13 (2 ∷ []) [] [] None ∷ n kind.For 1
    19 6 15 (1 ∷ 3 ∷ []) [] [] None ∷ n kind.Begin 1 13 5 16 (4 ∷ []) [] [] None ∷ n kind.When 1 56 18 20 [] ((codes
    "e") ∷ []) [] None ∷ n kind.Except 1 49 5 21 (5 ∷ 6 ∷ []) [] [] None ∷ n kind.Routine 1 1 0 23 (7 ∷ []) ((codes
    "p") ∷ (codes "p") ∷ []) (codes "proc") (Some 2) ∷ n kind.Module 1 1 0 23 (8 ∷ []) [] [] None ∷ n kind.Simple 1 95
    31 31 [] [] (codes "int") (Some 31) ∷ n kind.Results 1 87 29 32 (10 ∷ []) [] (codes "yields") (Some 29) ∷ n
    kind.Simple 1 111 37 37 [] [] (codes "int") (Some 37) ∷ n kind.Exc 1 109 35 38 (12 ∷ []) ((codes "e") ∷ []) []
    None ∷ n kind.Signals 1 100 33 39 (13 ∷ []) [] [] None ∷ n kind.Routine 1 74 24 41 (11 ∷ 14 ∷ []) ((codes "it") ∷
    (codes "it") ∷ []) (codes "iter") (Some 26) ∷ n kind.Module 1 74 24 41 (15 ∷ []) [] [] None ∷ n kind.File 1 1 0 41
    (9 ∷ 16 ∷ []) [] [] None ∷ [])

signals_of_a_loop : IsRefused signals_of_a_loop_nodes rule.ArmTypes 1 56
unfolding checking
signals_of_a_loop = refl

-- p = proc (x: int) tagcase x tag a: end end p
abbrev tags_of_no_oneof_nodes : List Node
tags_of_no_oneof_nodes =
    (n kind.Simple 1 14 6 6 [] [] (codes "int") (Some 6) ∷ n kind.Decl 1 11 4 6 (0 ∷ []) ((codes "x") ∷ []) [] None ∷
    n kind.Name 1 27 9 9 [] ((codes "x") ∷ []) [] None ∷ n kind.TagArm 1 29 10 12 [] ((codes "a") ∷ []) [] None ∷ n
    kind.Tagcase 1 19 8 13 (2 ∷ 3 ∷ []) [] [] None ∷ n kind.Routine 1 1 0 15 (1 ∷ 4 ∷ []) ((codes "p") ∷ (codes "p") ∷
    []) (codes "proc") (Some 2) ∷ n kind.Module 1 1 0 15 (5 ∷ []) [] [] None ∷ n kind.File 1 1 0 15 (6 ∷ []) [] []
    None ∷ [])

tags_of_no_oneof : IsRefused tags_of_no_oneof_nodes rule.NotTagged 1 19
unfolding checking
tags_of_no_oneof = refl

-- p = proc (o: oneof[a, b: int]) tagcase o tag a: tag b, a: end end p
abbrev tag_twice_nodes : List Node
tag_twice_nodes =
    (n kind.Simple 1 26 12 12 [] [] (codes "int") (Some 12) ∷ n kind.FieldT 1 20 8 12 (0 ∷ []) ((codes "a") ∷ (codes
    "b") ∷ []) [] None ∷ n kind.FieldsT 1 14 6 13 (1 ∷ []) [] (codes "oneof") (Some 6) ∷ n kind.Decl 1 11 4 13 (2 ∷
    []) ((codes "o") ∷ []) [] None ∷ n kind.Name 1 40 16 16 [] ((codes "o") ∷ []) [] None ∷ n kind.TagArm 1 42 17 19
    [] ((codes "a") ∷ []) [] None ∷ n kind.TagArm 1 49 20 24 [] ((codes "b") ∷ (codes "a") ∷ []) [] None ∷ n
    kind.Tagcase 1 32 15 25 (4 ∷ 5 ∷ 6 ∷ []) [] [] None ∷ n kind.Routine 1 1 0 27 (3 ∷ 7 ∷ []) ((codes "p") ∷ (codes
    "p") ∷ []) (codes "proc") (Some 2) ∷ n kind.Module 1 1 0 27 (8 ∷ []) [] [] None ∷ n kind.File 1 1 0 27 (9 ∷ []) []
    [] None ∷ [])

tag_twice : IsRefused tag_twice_nodes rule.TagMissingOrTwice 1 49
unfolding checking
tag_twice = refl

-- p = proc (o: oneof[a, b: int]) tagcase o tag a, b (s: string): end end p
abbrev tag_of_another_type_nodes : List Node
tag_of_another_type_nodes =
    (n kind.Simple 1 26 12 12 [] [] (codes "int") (Some 12) ∷ n kind.FieldT 1 20 8 12 (0 ∷ []) ((codes "a") ∷ (codes
    "b") ∷ []) [] None ∷ n kind.FieldsT 1 14 6 13 (1 ∷ []) [] (codes "oneof") (Some 6) ∷ n kind.Decl 1 11 4 13 (2 ∷
    []) ((codes "o") ∷ []) [] None ∷ n kind.Name 1 40 16 16 [] ((codes "o") ∷ []) [] None ∷ n kind.Simple 1 55 24 24
    [] [] (codes "string") (Some 24) ∷ n kind.TagArm 1 42 17 26 (5 ∷ []) ((codes "a") ∷ (codes "b") ∷ (codes "s") ∷
    []) [] None ∷ n kind.Tagcase 1 32 15 27 (4 ∷ 6 ∷ []) [] [] None ∷ n kind.Routine 1 1 0 29 (3 ∷ 7 ∷ []) ((codes
    "p") ∷ (codes "p") ∷ []) (codes "proc") (Some 2) ∷ n kind.Module 1 1 0 29 (8 ∷ []) [] [] None ∷ n kind.File 1 1 0
    29 (9 ∷ []) [] [] None ∷ [])

tag_of_another_type : IsRefused tag_of_another_type_nodes rule.AssignType 1 42
unfolding checking
tag_of_another_type = refl

-- c = cluster is m rep = string m = proc () signals (failure(cvt)) end m end c
abbrev failure_of_the_abstract_type_nodes : List Node
failure_of_the_abstract_type_nodes =
    (n kind.Simple 1 24 7 7 [] [] (codes "string") (Some 7) ∷ n kind.Equate 1 18 5 7 (0 ∷ []) [] (codes "rep") (Some
    5) ∷ n kind.Simple 1 60 17 17 [] [] (codes "cvt") (Some 17) ∷ n kind.Exc 1 52 15 18 (2 ∷ []) ((codes "failure") ∷
    []) [] None ∷ n kind.Signals 1 43 13 19 (3 ∷ []) [] [] None ∷ n kind.Routine 1 31 8 21 (4 ∷ []) ((codes "m") ∷
    (codes "m") ∷ []) (codes "proc") (Some 10) ∷ n kind.Cluster 1 1 0 23 (1 ∷ 5 ∷ []) ((codes "c") ∷ (codes "m") ∷
    (codes "c") ∷ []) [] None ∷ n kind.Module 1 1 0 23 (6 ∷ []) [] [] None ∷ n kind.File 1 1 0 23 (7 ∷ []) [] [] None
    ∷ [])

failure_of_the_abstract_type : IsRefused failure_of_the_abstract_type_nodes rule.SignalTypes 1 52
unfolding checking
failure_of_the_abstract_type = refl

-- c = cluster is m rep = string m = proc () signals (failure(rep)) end m end c
abbrev failure_of_a_string_by_name_nodes : List Node
failure_of_a_string_by_name_nodes =
    (n kind.Simple 1 24 7 7 [] [] (codes "string") (Some 7) ∷ n kind.Equate 1 18 5 7 (0 ∷ []) [] (codes "rep") (Some
    5) ∷ n kind.Simple 1 60 17 17 [] [] (codes "rep") (Some 17) ∷ n kind.Exc 1 52 15 18 (2 ∷ []) ((codes "failure") ∷
    []) [] None ∷ n kind.Signals 1 43 13 19 (3 ∷ []) [] [] None ∷ n kind.Routine 1 31 8 21 (4 ∷ []) ((codes "m") ∷
    (codes "m") ∷ []) (codes "proc") (Some 10) ∷ n kind.Cluster 1 1 0 23 (1 ∷ 5 ∷ []) ((codes "c") ∷ (codes "m") ∷
    (codes "c") ∷ []) [] None ∷ n kind.Module 1 1 0 23 (6 ∷ []) [] [] None ∷ n kind.File 1 1 0 23 (7 ∷ []) [] [] None
    ∷ [])

failure_of_a_string_by_name : IsFine failure_of_a_string_by_name_nodes
unfolding checking
failure_of_a_string_by_name = refl

-- p = proc () begin exit e(1) end except when e (n: zork): end end p
abbrev exit_to_a_bad_declaration_nodes : List Node
exit_to_a_bad_declaration_nodes =
    (n kind.Literal 1 26 9 9 [] [] (codes "1") (Some 9) ∷ n kind.Exit 1 19 6 10 (0 ∷ []) ((codes "e") ∷ []) [] None ∷
    n kind.Begin 1 13 5 11 (1 ∷ []) [] [] None ∷ n kind.NameT 1 51 18 18 [] ((codes "zork") ∷ []) [] None ∷ n
    kind.Decl 1 48 16 18 (3 ∷ []) ((codes "n") ∷ []) [] None ∷ n kind.When 1 40 13 20 (4 ∷ []) ((codes "e") ∷ []) []
    None ∷ n kind.Except 1 33 5 21 (2 ∷ 5 ∷ []) [] [] None ∷ n kind.Routine 1 1 0 23 (6 ∷ []) ((codes "p") ∷ (codes
    "p") ∷ []) (codes "proc") (Some 2) ∷ n kind.Module 1 1 0 23 (7 ∷ []) [] [] None ∷ n kind.File 1 1 0 23 (8 ∷ []) []
    [] None ∷ [])

exit_to_a_bad_declaration : IsRefused exit_to_a_bad_declaration_nodes rule.UnknownName 1 51
unfolding checking
exit_to_a_bad_declaration = refl

-- p = proc () begin exit e end except when e (n: zork): end end p
abbrev number_for_a_bad_declaration_nodes : List Node
number_for_a_bad_declaration_nodes =
    (n kind.Exit 1 19 6 7 [] ((codes "e") ∷ []) [] None ∷ n kind.Begin 1 13 5 8 (0 ∷ []) [] [] None ∷ n kind.NameT 1
    48 15 15 [] ((codes "zork") ∷ []) [] None ∷ n kind.Decl 1 45 13 15 (2 ∷ []) ((codes "n") ∷ []) [] None ∷ n
    kind.When 1 37 10 17 (3 ∷ []) ((codes "e") ∷ []) [] None ∷ n kind.Except 1 30 5 18 (1 ∷ 4 ∷ []) [] [] None ∷ n
    kind.Routine 1 1 0 20 (5 ∷ []) ((codes "p") ∷ (codes "p") ∷ []) (codes "proc") (Some 2) ∷ n kind.Module 1 1 0 20
    (6 ∷ []) [] [] None ∷ n kind.File 1 1 0 20 (7 ∷ []) [] [] None ∷ [])

number_for_a_bad_declaration : IsRefused number_for_a_bad_declaration_nodes rule.SignalTypes 1 19
unfolding checking
number_for_a_bad_declaration = refl

-- ---- the raises of a routine's body

-- p = proc (n: int) signals (e(int))
--   m: int := 1
--   begin q() resignal e end except when f (s: string): signal e(m) end
-- end p
-- q = proc () signals (e(int), f(string), g) end q
abbrev body_nodes : List Node
body_nodes =
    (n kind.Simple 1 14 6 6 [] [] (codes "int") (Some 6) ∷ n kind.Decl 1 11 4 6 (0 ∷ []) ((codes "n") ∷ []) [] None ∷
    n kind.Simple 1 30 12 12 [] [] (codes "int") (Some 12) ∷ n kind.Exc 1 28 10 13 (2 ∷ []) ((codes "e") ∷ []) [] None
    ∷ n kind.Signals 1 19 8 14 (3 ∷ []) [] [] None ∷ n kind.Simple 2 6 17 17 [] [] (codes "int") (Some 17) ∷ n
    kind.Literal 2 13 19 19 [] [] (codes "1") (Some 19) ∷ n kind.Init 2 3 15 19 (5 ∷ 6 ∷ []) ((codes "m") ∷ []) []
    None ∷ n kind.Name 3 9 21 21 [] ((codes "q") ∷ []) [] None ∷ n kind.Call 3 10 21 23 (8 ∷ []) [] [] None ∷ n
    kind.CallS 3 9 21 23 (9 ∷ []) [] [] None ∷ n kind.Resignal 3 13 21 25 (10 ∷ []) ((codes "e") ∷ []) [] None ∷ n
    kind.Begin 3 3 20 26 (11 ∷ []) [] [] None ∷ n kind.Simple 3 46 33 33 [] [] (codes "string") (Some 33) ∷ n
    kind.Decl 3 43 31 33 (13 ∷ []) ((codes "s") ∷ []) [] None ∷ n kind.Name 3 64 39 39 [] ((codes "m") ∷ []) [] None ∷
    n kind.Signal 3 55 36 40 (15 ∷ []) ((codes "e") ∷ []) [] None ∷ n kind.When 3 35 28 40 (14 ∷ 16 ∷ []) ((codes "f")
    ∷ []) [] None ∷ n kind.Except 3 28 20 41 (12 ∷ 17 ∷ []) [] [] None ∷ n kind.Routine 1 1 0 43 (1 ∷ 4 ∷ 7 ∷ 18 ∷ [])
    ((codes "p") ∷ (codes "p") ∷ []) (codes "proc") (Some 2) ∷ n kind.Module 1 1 0 43 (19 ∷ []) [] [] None ∷ n
    kind.Simple 5 24 53 53 [] [] (codes "int") (Some 53) ∷ n kind.Exc 5 22 51 54 (21 ∷ []) ((codes "e") ∷ []) [] None
    ∷ n kind.Simple 5 32 58 58 [] [] (codes "string") (Some 58) ∷ n kind.Exc 5 30 56 59 (23 ∷ []) ((codes "f") ∷ [])
    [] None ∷ n kind.Exc 5 41 61 61 [] ((codes "g") ∷ []) [] None ∷ n kind.Signals 5 13 49 62 (22 ∷ 24 ∷ 25 ∷ []) []
    [] None ∷ n kind.Routine 5 1 44 64 (26 ∷ []) ((codes "q") ∷ (codes "q") ∷ []) (codes "proc") (Some 46) ∷ n
    kind.Module 5 1 44 64 (27 ∷ []) [] [] None ∷ n kind.File 1 1 0 64 (20 ∷ 28 ∷ []) [] [] None ∷ [])

body_accepted : IsFine body_nodes
unfolding checking
body_accepted = refl

abbrev body_file : File
body_file = checked_file body_nodes (surroundings body_nodes) []

-- those of the invocation but for e and f, and the use of m in the arm
body_raises : by_routine body_file (item body_file 19).routine ≡ failure ∷ (codes "g", no_types) ∷ failure ∷ []
unfolding checking
body_raises = refl
