-- Files that are checked: which refusal comes first. Each is the tree of the CLU above it.
use Rattle.std.specs.Prelude.{◌≡◌, refl, List, [], ◌∷◌, codes, Some, None}
use Rattle.clu_base.specs.declared.rules.Rule.TheVariants as rule
use Rattle.clu_tree.specs.declared.node.Node.{Node}
use Rattle.clu_tree.specs.declared.node.NodeKind.TheVariants as kind
use Rattle.clu_checking.specs.Files.{File}
use Rattle.clu_checking.specs.Refusals.{checked_file, refusal_below}
use Rattle.clu_checking.proofs.Checking.{n, surroundings, IsRefused, checking}

-- c = cluster is m rep = 1 m = proc () end m end c
-- p = proc (x: q) end p
abbrev rep_is_of_the_second_walk_nodes : List Node
rep_is_of_the_second_walk_nodes =
    (n kind.Literal 1 24 7 7 [] [] (codes "1") (Some 7) ∷ n kind.Equate 1 18 5 7 (0 ∷ []) [] (codes "rep") (Some 5) ∷
    n kind.Routine 1 26 8 14 [] ((codes "m") ∷ (codes "m") ∷ []) (codes "proc") (Some 10) ∷ n kind.Cluster 1 1 0 16 (1
    ∷ 2 ∷ []) ((codes "c") ∷ (codes "m") ∷ (codes "c") ∷ []) [] None ∷ n kind.Module 1 1 0 16 (3 ∷ []) [] [] None ∷ n
    kind.NameT 2 14 23 23 [] ((codes "q") ∷ []) [] None ∷ n kind.Decl 2 11 21 23 (5 ∷ []) ((codes "x") ∷ []) [] None ∷
    n kind.Routine 2 1 17 26 (6 ∷ []) ((codes "p") ∷ (codes "p") ∷ []) (codes "proc") (Some 19) ∷ n kind.Module 2 1 17
    26 (7 ∷ []) [] [] None ∷ n kind.File 1 1 0 26 (4 ∷ 8 ∷ []) [] [] None ∷ [])

rep_is_of_the_second_walk : IsRefused rep_is_of_the_second_walk_nodes rule.UnknownName 2 14
unfolding checking
rep_is_of_the_second_walk = refl

-- c = cluster is m rep = 1 m = proc () break end m end c
abbrev rep_is_refused_after_the_headings_nodes : List Node
rep_is_refused_after_the_headings_nodes =
    (n kind.Literal 1 24 7 7 [] [] (codes "1") (Some 7) ∷ n kind.Equate 1 18 5 7 (0 ∷ []) [] (codes "rep") (Some 5) ∷
    n kind.Break 1 38 13 13 [] [] [] None ∷ n kind.Routine 1 26 8 15 (2 ∷ []) ((codes "m") ∷ (codes "m") ∷ []) (codes
    "proc") (Some 10) ∷ n kind.Cluster 1 1 0 17 (1 ∷ 3 ∷ []) ((codes "c") ∷ (codes "m") ∷ (codes "c") ∷ []) [] None ∷
    n kind.Module 1 1 0 17 (4 ∷ []) [] [] None ∷ n kind.File 1 1 0 17 (5 ∷ []) [] [] None ∷ [])

rep_is_refused_after_the_headings : IsRefused rep_is_refused_after_the_headings_nodes rule.NotType 1 24
unfolding checking
rep_is_refused_after_the_headings = refl

-- c = cluster is m rep = zork m = proc (x: rep) end m end c
abbrev bad_rep_in_a_heading_nodes : List Node
bad_rep_in_a_heading_nodes =
    (n kind.Name 1 24 7 7 [] ((codes "zork") ∷ []) [] None ∷ n kind.Equate 1 18 5 7 (0 ∷ []) [] (codes "rep") (Some 5)
    ∷ n kind.Simple 1 42 14 14 [] [] (codes "rep") (Some 14) ∷ n kind.Decl 1 39 12 14 (2 ∷ []) ((codes "x") ∷ []) []
    None ∷ n kind.Routine 1 29 8 17 (3 ∷ []) ((codes "m") ∷ (codes "m") ∷ []) (codes "proc") (Some 10) ∷ n
    kind.Cluster 1 1 0 19 (1 ∷ 4 ∷ []) ((codes "c") ∷ (codes "m") ∷ (codes "c") ∷ []) [] None ∷ n kind.Module 1 1 0 19
    (5 ∷ []) [] [] None ∷ n kind.File 1 1 0 19 (6 ∷ []) [] [] None ∷ [])

bad_rep_in_a_heading : IsRefused bad_rep_in_a_heading_nodes rule.NotType 1 42
unfolding checking
bad_rep_in_a_heading = refl

-- c = cluster is m rep = array[rep] m = proc (x: rep) end m end c
abbrev circular_rep_in_a_heading_nodes : List Node
circular_rep_in_a_heading_nodes =
    (n kind.Simple 1 30 9 9 [] [] (codes "rep") (Some 9) ∷ n kind.ListT 1 24 7 10 (0 ∷ []) [] (codes "array") (Some 7)
    ∷ n kind.Equate 1 18 5 10 (1 ∷ []) [] (codes "rep") (Some 5) ∷ n kind.Simple 1 48 17 17 [] [] (codes "rep") (Some
    17) ∷ n kind.Decl 1 45 15 17 (3 ∷ []) ((codes "x") ∷ []) [] None ∷ n kind.Routine 1 35 11 20 (4 ∷ []) ((codes "m")
    ∷ (codes "m") ∷ []) (codes "proc") (Some 13) ∷ n kind.Cluster 1 1 0 22 (2 ∷ 5 ∷ []) ((codes "c") ∷ (codes "m") ∷
    (codes "c") ∷ []) [] None ∷ n kind.Module 1 1 0 22 (6 ∷ []) [] [] None ∷ n kind.File 1 1 0 22 (7 ∷ []) [] [] None
    ∷ [])

circular_rep_in_a_heading : IsRefused circular_rep_in_a_heading_nodes rule.CircularEquate 1 48
unfolding checking
circular_rep_in_a_heading = refl

-- p = proc (x: t) t = zork end p
abbrev bad_equate_in_a_heading_nodes : List Node
bad_equate_in_a_heading_nodes =
    (n kind.NameT 1 14 6 6 [] ((codes "t") ∷ []) [] None ∷ n kind.Decl 1 11 4 6 (0 ∷ []) ((codes "x") ∷ []) [] None ∷
    n kind.Name 1 21 10 10 [] ((codes "zork") ∷ []) [] None ∷ n kind.Equate 1 17 8 10 (2 ∷ []) ((codes "t") ∷ []) []
    None ∷ n kind.Routine 1 1 0 12 (1 ∷ 3 ∷ []) ((codes "p") ∷ (codes "p") ∷ []) (codes "proc") (Some 2) ∷ n
    kind.Module 1 1 0 12 (4 ∷ []) [] [] None ∷ n kind.File 1 1 0 12 (5 ∷ []) [] [] None ∷ [])

bad_equate_in_a_heading : IsRefused bad_equate_in_a_heading_nodes rule.NotType 1 14
unfolding checking
bad_equate_in_a_heading = refl

-- p = proc () x = (1 + "a") + 2 end p
abbrev operands_come_first_nodes : List Node
operands_come_first_nodes =
    (n kind.Literal 1 18 8 8 [] [] (codes "1") (Some 8) ∷ n kind.Literal 1 22 10 10 [] [] (34 ∷ 97 ∷ 34 ∷ []) (Some
    10) ∷ n kind.Infix 1 20 8 10 (0 ∷ 1 ∷ []) [] (codes "+") (Some 9) ∷ n kind.Paren 1 17 7 11 (2 ∷ []) [] [] None ∷ n
    kind.Literal 1 29 13 13 [] [] (codes "2") (Some 13) ∷ n kind.Infix 1 27 7 13 (3 ∷ 4 ∷ []) [] (codes "+") (Some 12)
    ∷ n kind.Equate 1 13 5 13 (5 ∷ []) ((codes "x") ∷ []) [] None ∷ n kind.Routine 1 1 0 15 (6 ∷ []) ((codes "p") ∷
    (codes "p") ∷ []) (codes "proc") (Some 2) ∷ n kind.Module 1 1 0 15 (7 ∷ []) [] [] None ∷ n kind.File 1 1 0 15 (8 ∷
    []) [] [] None ∷ [])

operands_come_first : IsRefused operands_come_first_nodes rule.ArgumentType 1 20
unfolding checking
operands_come_first = refl

-- p = proc () x = 1 + "a" end p
abbrev a_constant_as_a_whole_nodes : List Node
a_constant_as_a_whole_nodes =
    (n kind.Literal 1 17 7 7 [] [] (codes "1") (Some 7) ∷ n kind.Literal 1 21 9 9 [] [] (34 ∷ 97 ∷ 34 ∷ []) (Some 9) ∷
    n kind.Infix 1 19 7 9 (0 ∷ 1 ∷ []) [] (codes "+") (Some 8) ∷ n kind.Equate 1 13 5 9 (2 ∷ []) ((codes "x") ∷ []) []
    None ∷ n kind.Routine 1 1 0 11 (3 ∷ []) ((codes "p") ∷ (codes "p") ∷ []) (codes "proc") (Some 2) ∷ n kind.Module 1
    1 0 11 (4 ∷ []) [] [] None ∷ n kind.File 1 1 0 11 (5 ∷ []) [] [] None ∷ [])

a_constant_as_a_whole : IsRefused a_constant_as_a_whole_nodes rule.NotConstant 1 19
unfolding checking
a_constant_as_a_whole = refl

-- p = proc (y: int) x = y + 1 end p
abbrev an_operator_over_a_variable_nodes : List Node
an_operator_over_a_variable_nodes =
    (n kind.Simple 1 14 6 6 [] [] (codes "int") (Some 6) ∷ n kind.Decl 1 11 4 6 (0 ∷ []) ((codes "y") ∷ []) [] None ∷
    n kind.Name 1 23 10 10 [] ((codes "y") ∷ []) [] None ∷ n kind.Literal 1 27 12 12 [] [] (codes "1") (Some 12) ∷ n
    kind.Infix 1 25 10 12 (2 ∷ 3 ∷ []) [] (codes "+") (Some 11) ∷ n kind.Equate 1 19 8 12 (4 ∷ []) ((codes "x") ∷ [])
    [] None ∷ n kind.Routine 1 1 0 14 (1 ∷ 5 ∷ []) ((codes "p") ∷ (codes "p") ∷ []) (codes "proc") (Some 2) ∷ n
    kind.Module 1 1 0 14 (6 ∷ []) [] [] None ∷ n kind.File 1 1 0 14 (7 ∷ []) [] [] None ∷ [])

an_operator_over_a_variable : IsRefused an_operator_over_a_variable_nodes rule.NotConstant 1 25
unfolding checking
an_operator_over_a_variable = refl

-- p = proc () x = (1 / 0) + 1 end p
abbrev an_operator_over_no_constant_nodes : List Node
an_operator_over_no_constant_nodes =
    (n kind.Literal 1 18 8 8 [] [] (codes "1") (Some 8) ∷ n kind.Literal 1 22 10 10 [] [] (codes "0") (Some 10) ∷ n
    kind.Infix 1 20 8 10 (0 ∷ 1 ∷ []) [] (codes "/") (Some 9) ∷ n kind.Paren 1 17 7 11 (2 ∷ []) [] [] None ∷ n
    kind.Literal 1 27 13 13 [] [] (codes "1") (Some 13) ∷ n kind.Infix 1 25 7 13 (3 ∷ 4 ∷ []) [] (codes "+") (Some 12)
    ∷ n kind.Equate 1 13 5 13 (5 ∷ []) ((codes "x") ∷ []) [] None ∷ n kind.Routine 1 1 0 15 (6 ∷ []) ((codes "p") ∷
    (codes "p") ∷ []) (codes "proc") (Some 2) ∷ n kind.Module 1 1 0 15 (7 ∷ []) [] [] None ∷ n kind.File 1 1 0 15 (8 ∷
    []) [] [] None ∷ [])

an_operator_over_no_constant : IsRefused an_operator_over_no_constant_nodes rule.NotConstant 1 25
unfolding checking
an_operator_over_no_constant = refl

-- p = proc () q(1, "x") end p q = proc (n: string) end q
abbrev count_before_types_nodes : List Node
count_before_types_nodes =
    (n kind.Name 1 13 5 5 [] ((codes "q") ∷ []) [] None ∷ n kind.Literal 1 15 7 7 [] [] (codes "1") (Some 7) ∷ n
    kind.Literal 1 18 9 9 [] [] (34 ∷ 120 ∷ 34 ∷ []) (Some 9) ∷ n kind.Call 1 14 5 10 (0 ∷ 1 ∷ 2 ∷ []) [] [] None ∷ n
    kind.CallS 1 13 5 10 (3 ∷ []) [] [] None ∷ n kind.Routine 1 1 0 12 (4 ∷ []) ((codes "p") ∷ (codes "p") ∷ [])
    (codes "proc") (Some 2) ∷ n kind.Module 1 1 0 12 (5 ∷ []) [] [] None ∷ n kind.Simple 1 42 19 19 [] [] (codes
    "string") (Some 19) ∷ n kind.Decl 1 39 17 19 (7 ∷ []) ((codes "n") ∷ []) [] None ∷ n kind.Routine 1 29 13 22 (8 ∷
    []) ((codes "q") ∷ (codes "q") ∷ []) (codes "proc") (Some 15) ∷ n kind.Module 1 29 13 22 (9 ∷ []) [] [] None ∷ n
    kind.File 1 1 0 22 (6 ∷ 10 ∷ []) [] [] None ∷ [])

count_before_types : IsRefused count_before_types_nodes rule.ArgumentCount 1 14
unfolding checking
count_before_types = refl

-- p = proc () for i, j: string in int$from_to(1, 2) do end end p
abbrev variables_of_a_loop_nodes : List Node
variables_of_a_loop_nodes =
    (n kind.Simple 1 23 10 10 [] [] (codes "string") (Some 10) ∷ n kind.Decl 1 17 6 10 (0 ∷ []) ((codes "i") ∷ (codes
    "j") ∷ []) [] None ∷ n kind.Simple 1 33 12 12 [] [] (codes "int") (Some 12) ∷ n kind.OperOf 1 33 12 14 (2 ∷ [])
    ((codes "from_to") ∷ []) [] None ∷ n kind.Literal 1 45 16 16 [] [] (codes "1") (Some 16) ∷ n kind.Literal 1 48 18
    18 [] [] (codes "2") (Some 18) ∷ n kind.Call 1 44 12 19 (3 ∷ 4 ∷ 5 ∷ []) [] [] None ∷ n kind.For 1 13 5 21 (1 ∷ 6
    ∷ []) [] [] None ∷ n kind.Routine 1 1 0 23 (7 ∷ []) ((codes "p") ∷ (codes "p") ∷ []) (codes "proc") (Some 2) ∷ n
    kind.Module 1 1 0 23 (8 ∷ []) [] [] None ∷ n kind.File 1 1 0 23 (9 ∷ []) [] [] None ∷ [])

variables_of_a_loop : IsRefused variables_of_a_loop_nodes rule.ResultCount 1 13
unfolding checking
variables_of_a_loop = refl

-- p = proc () for i: int in p() do end end p
abbrev loop_over_a_procedure_nodes : List Node
loop_over_a_procedure_nodes =
    (n kind.Simple 1 20 8 8 [] [] (codes "int") (Some 8) ∷ n kind.Decl 1 17 6 8 (0 ∷ []) ((codes "i") ∷ []) [] None ∷
    n kind.Name 1 27 10 10 [] ((codes "p") ∷ []) [] None ∷ n kind.Call 1 28 10 12 (2 ∷ []) [] [] None ∷ n kind.For 1
    13 5 14 (1 ∷ 3 ∷ []) [] [] None ∷ n kind.Routine 1 1 0 16 (4 ∷ []) ((codes "p") ∷ (codes "p") ∷ []) (codes "proc")
    (Some 2) ∷ n kind.Module 1 1 0 16 (5 ∷ []) [] [] None ∷ n kind.File 1 1 0 16 (6 ∷ []) [] [] None ∷ [])

loop_over_a_procedure : IsRefused loop_over_a_procedure_nodes rule.ResultCount 1 13
unfolding checking
loop_over_a_procedure = refl

-- p = proc () x: int := q() end p q = proc () returns (int, int) return (1, 2) end q
abbrev one_result_at_the_call_nodes : List Node
one_result_at_the_call_nodes =
    (n kind.Simple 1 16 7 7 [] [] (codes "int") (Some 7) ∷ n kind.Name 1 23 9 9 [] ((codes "q") ∷ []) [] None ∷ n
    kind.Call 1 24 9 11 (1 ∷ []) [] [] None ∷ n kind.Init 1 13 5 11 (0 ∷ 2 ∷ []) ((codes "x") ∷ []) [] None ∷ n
    kind.Routine 1 1 0 13 (3 ∷ []) ((codes "p") ∷ (codes "p") ∷ []) (codes "proc") (Some 2) ∷ n kind.Module 1 1 0 13
    (4 ∷ []) [] [] None ∷ n kind.Simple 1 54 21 21 [] [] (codes "int") (Some 21) ∷ n kind.Simple 1 59 23 23 [] []
    (codes "int") (Some 23) ∷ n kind.Results 1 45 19 24 (6 ∷ 7 ∷ []) [] (codes "returns") (Some 19) ∷ n kind.Literal 1
    72 27 27 [] [] (codes "1") (Some 27) ∷ n kind.Literal 1 75 29 29 [] [] (codes "2") (Some 29) ∷ n kind.Return 1 64
    25 30 (9 ∷ 10 ∷ []) [] [] None ∷ n kind.Routine 1 33 14 32 (8 ∷ 11 ∷ []) ((codes "q") ∷ (codes "q") ∷ []) (codes
    "proc") (Some 16) ∷ n kind.Module 1 33 14 32 (12 ∷ []) [] [] None ∷ n kind.File 1 1 0 32 (5 ∷ 13 ∷ []) [] [] None
    ∷ [])

one_result_at_the_call : IsRefused one_result_at_the_call_nodes rule.ResultCount 1 24
unfolding checking
one_result_at_the_call = refl

-- p = proc () x, y: int := q() end p q = proc () returns (int) return (1) end q
abbrev results_at_the_statement_nodes : List Node
results_at_the_statement_nodes =
    (n kind.Simple 1 19 9 9 [] [] (codes "int") (Some 9) ∷ n kind.Decl 1 13 5 9 (0 ∷ []) ((codes "x") ∷ (codes "y") ∷
    []) [] None ∷ n kind.Name 1 26 11 11 [] ((codes "q") ∷ []) [] None ∷ n kind.Call 1 27 11 13 (2 ∷ []) [] [] None ∷
    n kind.Init 1 13 5 13 (1 ∷ 3 ∷ []) [] [] None ∷ n kind.Routine 1 1 0 15 (4 ∷ []) ((codes "p") ∷ (codes "p") ∷ [])
    (codes "proc") (Some 2) ∷ n kind.Module 1 1 0 15 (5 ∷ []) [] [] None ∷ n kind.Simple 1 57 23 23 [] [] (codes
    "int") (Some 23) ∷ n kind.Results 1 48 21 24 (7 ∷ []) [] (codes "returns") (Some 21) ∷ n kind.Literal 1 70 27 27
    [] [] (codes "1") (Some 27) ∷ n kind.Return 1 62 25 28 (9 ∷ []) [] [] None ∷ n kind.Routine 1 36 16 30 (8 ∷ 10 ∷
    []) ((codes "q") ∷ (codes "q") ∷ []) (codes "proc") (Some 18) ∷ n kind.Module 1 36 16 30 (11 ∷ []) [] [] None ∷ n
    kind.File 1 1 0 30 (6 ∷ 12 ∷ []) [] [] None ∷ [])

results_at_the_statement : IsRefused results_at_the_statement_nodes rule.ResultCount 1 13
unfolding checking
results_at_the_statement = refl

-- p = proc () while 1 do x := 1 end end p
abbrev body_before_condition_nodes : List Node
body_before_condition_nodes =
    (n kind.Literal 1 19 6 6 [] [] (codes "1") (Some 6) ∷ n kind.Literal 1 29 10 10 [] [] (codes "1") (Some 10) ∷ n
    kind.Assign 1 24 8 10 (1 ∷ []) ((codes "x") ∷ []) [] None ∷ n kind.While 1 13 5 11 (0 ∷ 2 ∷ []) [] [] None ∷ n
    kind.Routine 1 1 0 13 (3 ∷ []) ((codes "p") ∷ (codes "p") ∷ []) (codes "proc") (Some 2) ∷ n kind.Module 1 1 0 13
    (4 ∷ []) [] [] None ∷ n kind.File 1 1 0 13 (5 ∷ []) [] [] None ∷ [])

body_before_condition : IsRefused body_before_condition_nodes rule.UnknownName 1 24
unfolding checking
body_before_condition = refl

-- p = proc () while 1 do end end p
abbrev condition_that_is_no_bool_nodes : List Node
condition_that_is_no_bool_nodes =
    (n kind.Literal 1 19 6 6 [] [] (codes "1") (Some 6) ∷ n kind.While 1 13 5 8 (0 ∷ []) [] [] None ∷ n kind.Routine 1
    1 0 10 (1 ∷ []) ((codes "p") ∷ (codes "p") ∷ []) (codes "proc") (Some 2) ∷ n kind.Module 1 1 0 10 (2 ∷ []) [] []
    None ∷ n kind.File 1 1 0 10 (3 ∷ []) [] [] None ∷ [])

condition_that_is_no_bool : IsRefused condition_that_is_no_bool_nodes rule.NotBool 1 13
unfolding checking
condition_that_is_no_bool = refl

-- p = proc () q() except when e (n: int): x: int := "a" end end p q = proc () signals (e) end q
abbrev arm_after_its_body_nodes : List Node
arm_after_its_body_nodes =
    (n kind.Name 1 13 5 5 [] ((codes "q") ∷ []) [] None ∷ n kind.Call 1 14 5 7 (0 ∷ []) [] [] None ∷ n kind.CallS 1 13
    5 7 (1 ∷ []) [] [] None ∷ n kind.Simple 1 35 14 14 [] [] (codes "int") (Some 14) ∷ n kind.Decl 1 32 12 14 (3 ∷ [])
    ((codes "n") ∷ []) [] None ∷ n kind.Simple 1 44 19 19 [] [] (codes "int") (Some 19) ∷ n kind.Literal 1 51 21 21 []
    [] (34 ∷ 97 ∷ 34 ∷ []) (Some 21) ∷ n kind.Init 1 41 17 21 (5 ∷ 6 ∷ []) ((codes "x") ∷ []) [] None ∷ n kind.When 1
    24 9 21 (4 ∷ 7 ∷ []) ((codes "e") ∷ []) [] None ∷ n kind.Except 1 17 5 22 (2 ∷ 8 ∷ []) [] [] None ∷ n kind.Routine
    1 1 0 24 (9 ∷ []) ((codes "p") ∷ (codes "p") ∷ []) (codes "proc") (Some 2) ∷ n kind.Module 1 1 0 24 (10 ∷ []) []
    [] None ∷ n kind.Exc 1 86 32 32 [] ((codes "e") ∷ []) [] None ∷ n kind.Signals 1 77 30 33 (12 ∷ []) [] [] None ∷ n
    kind.Routine 1 65 25 35 (13 ∷ []) ((codes "q") ∷ (codes "q") ∷ []) (codes "proc") (Some 27) ∷ n kind.Module 1 65
    25 35 (14 ∷ []) [] [] None ∷ n kind.File 1 1 0 35 (11 ∷ 15 ∷ []) [] [] None ∷ [])

arm_after_its_body : IsRefused arm_after_its_body_nodes rule.AssignType 1 41
unfolding checking
arm_after_its_body = refl

-- p = proc () continue end q
abbrev name_of_a_module_after_its_body_nodes : List Node
name_of_a_module_after_its_body_nodes =
    (n kind.Continue 1 13 5 5 [] [] [] None ∷ n kind.Routine 1 1 0 7 (0 ∷ []) ((codes "p") ∷ (codes "q") ∷ []) (codes
    "proc") (Some 2) ∷ n kind.Module 1 1 0 7 (1 ∷ []) [] [] None ∷ n kind.File 1 1 0 7 (2 ∷ []) [] [] None ∷ [])

name_of_a_module_after_its_body : IsRefused name_of_a_module_after_its_body_nodes rule.NotInLoop 1 13
unfolding checking
name_of_a_module_after_its_body = refl

-- p = proc () break end p
-- c = cluster is m, n rep = int m = proc () end m end c
abbrev exports_before_bodies_nodes : List Node
exports_before_bodies_nodes =
    (n kind.Break 1 13 5 5 [] [] [] None ∷ n kind.Routine 1 1 0 7 (0 ∷ []) ((codes "p") ∷ (codes "p") ∷ []) (codes
    "proc") (Some 2) ∷ n kind.Module 1 1 0 7 (1 ∷ []) [] [] None ∷ n kind.Simple 2 27 17 17 [] [] (codes "int") (Some
    17) ∷ n kind.Equate 2 21 15 17 (3 ∷ []) [] (codes "rep") (Some 15) ∷ n kind.Routine 2 31 18 24 [] ((codes "m") ∷
    (codes "m") ∷ []) (codes "proc") (Some 20) ∷ n kind.Cluster 2 1 8 26 (4 ∷ 5 ∷ []) ((codes "c") ∷ (codes "m") ∷
    (codes "n") ∷ (codes "c") ∷ []) [] None ∷ n kind.Module 2 1 8 26 (6 ∷ []) [] [] None ∷ n kind.File 1 1 0 26 (2 ∷ 7
    ∷ []) [] [] None ∷ [])

exports_before_bodies : IsRefused exports_before_bodies_nodes rule.ExportMissing 2 1
unfolding checking
exports_before_bodies = refl

-- p = proc () break end p
-- p = proc () end p
abbrev second_module_before_bodies_nodes : List Node
second_module_before_bodies_nodes =
    (n kind.Break 1 13 5 5 [] [] [] None ∷ n kind.Routine 1 1 0 7 (0 ∷ []) ((codes "p") ∷ (codes "p") ∷ []) (codes
    "proc") (Some 2) ∷ n kind.Module 1 1 0 7 (1 ∷ []) [] [] None ∷ n kind.Routine 2 1 8 14 [] ((codes "p") ∷ (codes
    "p") ∷ []) (codes "proc") (Some 10) ∷ n kind.Module 2 1 8 14 (3 ∷ []) [] [] None ∷ n kind.File 1 1 0 14 (2 ∷ 4 ∷
    []) [] [] None ∷ [])

second_module_before_bodies : IsRefused second_module_before_bodies_nodes rule.DefinedTwice 2 1
unfolding checking
second_module_before_bodies = refl

-- stream = proc () end stream
abbrev module_named_stream_nodes : List Node
module_named_stream_nodes =
    (n kind.Routine 1 1 0 6 [] ((codes "stream") ∷ (codes "stream") ∷ []) (codes "proc") (Some 2) ∷ n kind.Module 1 1
    0 6 (0 ∷ []) [] [] None ∷ n kind.File 1 1 0 6 (1 ∷ []) [] [] None ∷ [])

module_named_stream : IsRefused module_named_stream_nodes rule.DefinedTwice 1 1
unfolding checking
module_named_stream = refl

-- ---- the first refusal of one statement alone

-- p = proc () x: int := 1 + "a" y: int := 2 + zork end p
abbrev statements_nodes : List Node
statements_nodes =
    (n kind.Simple 1 16 7 7 [] [] (codes "int") (Some 7) ∷ n kind.Literal 1 23 9 9 [] [] (codes "1") (Some 9) ∷ n
    kind.Literal 1 27 11 11 [] [] (34 ∷ 97 ∷ 34 ∷ []) (Some 11) ∷ n kind.Infix 1 25 9 11 (1 ∷ 2 ∷ []) [] (codes "+")
    (Some 10) ∷ n kind.Init 1 13 5 11 (0 ∷ 3 ∷ []) ((codes "x") ∷ []) [] None ∷ n kind.Simple 1 34 14 14 [] [] (codes
    "int") (Some 14) ∷ n kind.Literal 1 41 16 16 [] [] (codes "2") (Some 16) ∷ n kind.Name 1 45 18 18 [] ((codes
    "zork") ∷ []) [] None ∷ n kind.Infix 1 43 16 18 (6 ∷ 7 ∷ []) [] (codes "+") (Some 17) ∷ n kind.Init 1 31 12 18 (5
    ∷ 8 ∷ []) ((codes "y") ∷ []) [] None ∷ n kind.Routine 1 1 0 20 (4 ∷ 9 ∷ []) ((codes "p") ∷ (codes "p") ∷ [])
    (codes "proc") (Some 2) ∷ n kind.Module 1 1 0 20 (10 ∷ []) [] [] None ∷ n kind.File 1 1 0 20 (11 ∷ []) [] [] None
    ∷ [])

abbrev statements_file : File
statements_file = checked_file statements_nodes (surroundings statements_nodes) []

first_statement_refused : refusal_below statements_file 4 ≡ Some (record { rule = rule.ArgumentType; place = record { line = 1; col = 25 } })
unfolding checking
first_statement_refused = refl

second_statement_refused : refusal_below statements_file 9 ≡ Some (record { rule = rule.UnknownName; place = record { line = 1; col = 45 } })
unfolding checking
second_statement_refused = refl
