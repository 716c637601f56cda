-- Files whose bindings are what their nodes say, each the tree of the CLU above it.
use Rattle.std.specs.Prelude.{◌≡◌, Bool, true, List, [], ◌∷◌, map, refl, codes, Some, None}
use Rattle.std.specs.List.{list_all}
use Rattle.clu_tree.specs.declared.node.Node.{Node}
use Rattle.clu_tree.specs.declared.node.NodeKind.TheVariants as kind
use Rattle.clu_syntax.specs.declared.round.Round.{Round}
use Rattle.clu_names.specs.Scopes.{declarations}
use Rattle.clu_meaning.specs.Scoping.{Meaning, bound_at}
use Rattle.clu_checking.specs.Files.{scope_in}
use Rattle.clu_checking.proofs.Checking.{n, surroundings, checking}
use Rattle.clu_declares.specs.Declares.{has, declared_by}

-- each declaration has a binding
abbrev are_there : List Node → List Round → Bool
are_there nodes rounds = list_all (λ d. has (scope_in nodes rounds).bindings d.node d.name) (declarations nodes rounds)

abbrev bound : List Node → List Round → List Meaning
bound nodes rounds = map (λ d. bound_at (scope_in nodes rounds).bindings d.node d.name) (declarations nodes rounds)

abbrev said : List Node → List Round → List Meaning
said nodes rounds = map (λ d. bound_at (declared_by nodes rounds d.node) d.node d.name) (declarations nodes rounds)

abbrev IsGood : List Node → Type 0
IsGood nodes = (are_there nodes (surroundings nodes) ≡ true) × (bound nodes (surroundings nodes) ≡ said nodes (surroundings nodes))

-- c = cluster [m: type] is m rep = int m = proc () end m end c
abbrev routine_as_parameter_of_its_cluster_nodes : List Node
routine_as_parameter_of_its_cluster_nodes =
    (n kind.Parm 1 14 4 6 [] ((codes "m") ∷ []) (codes "type") (Some 6) ∷ n kind.Simple 1 34 12 12 [] [] (codes "int")
    (Some 12) ∷ n kind.Equate 1 28 10 12 (1 ∷ []) [] (codes "rep") (Some 10) ∷ n kind.Routine 1 38 13 19 [] ((codes
    "m") ∷ (codes "m") ∷ []) (codes "proc") (Some 15) ∷ n kind.Cluster 1 1 0 21 (0 ∷ 2 ∷ 3 ∷ []) ((codes "c") ∷ (codes
    "m") ∷ (codes "c") ∷ []) [] None ∷ n kind.Module 1 1 0 21 (4 ∷ []) [] [] None ∷ n kind.File 1 1 0 21 (5 ∷ []) []
    [] None ∷ [])

routine_as_parameter_of_its_cluster : IsGood routine_as_parameter_of_its_cluster_nodes
unfolding checking
routine_as_parameter_of_its_cluster = (refl, refl)

-- p = proc () x: int := int$add(1, 2) except when overflow: x := 1 end x := 2 end p
abbrev variable_of_a_guarded_statement_nodes : List Node
variable_of_a_guarded_statement_nodes =
    (n kind.Simple 1 16 7 7 [] [] (codes "int") (Some 7) ∷ n kind.Simple 1 23 9 9 [] [] (codes "int") (Some 9) ∷ n
    kind.OperOf 1 23 9 11 (1 ∷ []) ((codes "add") ∷ []) [] None ∷ n kind.Literal 1 31 13 13 [] [] (codes "1") (Some
    13) ∷ n kind.Literal 1 34 15 15 [] [] (codes "2") (Some 15) ∷ n kind.Call 1 30 9 16 (2 ∷ 3 ∷ 4 ∷ []) [] [] None ∷
    n kind.Init 1 13 5 16 (0 ∷ 5 ∷ []) ((codes "x") ∷ []) [] None ∷ n kind.Literal 1 64 23 23 [] [] (codes "1") (Some
    23) ∷ n kind.Assign 1 59 21 23 (7 ∷ []) ((codes "x") ∷ []) [] None ∷ n kind.When 1 44 18 23 (8 ∷ []) ((codes
    "overflow") ∷ []) [] None ∷ n kind.Except 1 37 5 24 (6 ∷ 9 ∷ []) [] [] None ∷ n kind.Literal 1 75 27 27 [] []
    (codes "2") (Some 27) ∷ n kind.Assign 1 70 25 27 (11 ∷ []) ((codes "x") ∷ []) [] None ∷ n kind.Routine 1 1 0 29
    (10 ∷ 12 ∷ []) ((codes "p") ∷ (codes "p") ∷ []) (codes "proc") (Some 2) ∷ n kind.Module 1 1 0 29 (13 ∷ []) [] []
    None ∷ n kind.File 1 1 0 29 (14 ∷ []) [] [] None ∷ [])

variable_of_a_guarded_statement : IsGood variable_of_a_guarded_statement_nodes
unfolding checking
variable_of_a_guarded_statement = (refl, refl)

-- p = proc (x: int) q() except others (x: string): end end p q = proc () end q
abbrev variable_of_an_arm_twice_nodes : List Node
variable_of_an_arm_twice_nodes =
    (n kind.Simple 1 14 6 6 [] [] (codes "int") (Some 6) ∷ n kind.Decl 1 11 4 6 (0 ∷ []) ((codes "x") ∷ []) [] None ∷
    n kind.Name 1 19 8 8 [] ((codes "q") ∷ []) [] None ∷ n kind.Call 1 20 8 10 (2 ∷ []) [] [] None ∷ n kind.CallS 1 19
    8 10 (3 ∷ []) [] [] None ∷ n kind.Simple 1 41 16 16 [] [] (codes "string") (Some 16) ∷ n kind.Others 1 30 12 18 (5
    ∷ []) ((codes "x") ∷ []) [] None ∷ n kind.Except 1 23 8 19 (4 ∷ 6 ∷ []) [] [] None ∷ n kind.Routine 1 1 0 21 (1 ∷
    7 ∷ []) ((codes "p") ∷ (codes "p") ∷ []) (codes "proc") (Some 2) ∷ n kind.Module 1 1 0 21 (8 ∷ []) [] [] None ∷ n
    kind.Routine 1 60 22 28 [] ((codes "q") ∷ (codes "q") ∷ []) (codes "proc") (Some 24) ∷ n kind.Module 1 60 22 28
    (10 ∷ []) [] [] None ∷ n kind.File 1 1 0 28 (9 ∷ 11 ∷ []) [] [] None ∷ [])

pub variable_of_an_arm_twice : IsGood variable_of_an_arm_twice_nodes
unfolding checking
variable_of_an_arm_twice = (refl, refl)

-- c = cluster is m rep = int own n: int m = proc () n: int end m end c
abbrev local_as_own_of_its_cluster_nodes : List Node
local_as_own_of_its_cluster_nodes =
    (n kind.Simple 1 24 7 7 [] [] (codes "int") (Some 7) ∷ n kind.Equate 1 18 5 7 (0 ∷ []) [] (codes "rep") (Some 5) ∷
    n kind.Simple 1 35 11 11 [] [] (codes "int") (Some 11) ∷ n kind.Decl 1 32 9 11 (2 ∷ []) ((codes "n") ∷ []) [] None
    ∷ n kind.Own 1 28 8 11 (3 ∷ []) [] [] None ∷ n kind.Simple 1 54 19 19 [] [] (codes "int") (Some 19) ∷ n kind.Decl
    1 51 17 19 (5 ∷ []) ((codes "n") ∷ []) [] None ∷ n kind.Declare 1 51 17 19 (6 ∷ []) [] [] None ∷ n kind.Routine 1
    39 12 21 (7 ∷ []) ((codes "m") ∷ (codes "m") ∷ []) (codes "proc") (Some 14) ∷ n kind.Cluster 1 1 0 23 (1 ∷ 4 ∷ 8 ∷
    []) ((codes "c") ∷ (codes "m") ∷ (codes "c") ∷ []) [] None ∷ n kind.Module 1 1 0 23 (9 ∷ []) [] [] None ∷ n
    kind.File 1 1 0 23 (10 ∷ []) [] [] None ∷ [])

local_as_own_of_its_cluster : IsGood local_as_own_of_its_cluster_nodes
unfolding checking
local_as_own_of_its_cluster = (refl, refl)

-- p = proc (x: c[b]) a = {u | u has f: b k = {b | b has g: proctype ()}} b = a end p
-- start_up = proc () end start_up
abbrev corner_16_nodes : List Node
corner_16_nodes =
    (n kind.Name 1 16 8 8 [] ((codes "b") ∷ []) [] None ∷ n kind.NameT 1 14 6 9 (0 ∷ []) ((codes "c") ∷ []) [] None ∷
    n kind.Decl 1 11 4 9 (1 ∷ []) ((codes "x") ∷ []) [] None ∷ n kind.NameT 1 38 20 20 [] ((codes "b") ∷ []) [] None ∷
    n kind.Oper 1 35 18 20 (3 ∷ []) ((codes "f") ∷ []) [] None ∷ n kind.RoutineT 1 58 30 32 [] [] (codes "proctype")
    (Some 30) ∷ n kind.Oper 1 55 28 32 (5 ∷ []) ((codes "g") ∷ []) [] None ∷ n kind.TypeSet 1 44 23 33 (6 ∷ [])
    ((codes "b") ∷ (codes "b") ∷ []) [] None ∷ n kind.Equate 1 40 21 33 (7 ∷ []) ((codes "k") ∷ []) [] None ∷ n
    kind.TypeSet 1 24 13 34 (4 ∷ 8 ∷ []) ((codes "u") ∷ (codes "u") ∷ []) [] None ∷ n kind.Equate 1 20 11 34 (9 ∷ [])
    ((codes "a") ∷ []) [] None ∷ n kind.Name 1 76 37 37 [] ((codes "a") ∷ []) [] None ∷ n kind.Equate 1 72 35 37 (11 ∷
    []) ((codes "b") ∷ []) [] None ∷ n kind.Routine 1 1 0 39 (2 ∷ 10 ∷ 12 ∷ []) ((codes "p") ∷ (codes "p") ∷ [])
    (codes "proc") (Some 2) ∷ n kind.Module 1 1 0 39 (13 ∷ []) [] [] None ∷ n kind.Routine 2 1 40 46 [] ((codes
    "start_up") ∷ (codes "start_up") ∷ []) (codes "proc") (Some 42) ∷ n kind.Module 2 1 40 46 (15 ∷ []) [] [] None ∷ n
    kind.File 1 1 0 46 (14 ∷ 16 ∷ []) [] [] None ∷ [])

corner_16 : IsGood corner_16_nodes
unfolding checking
corner_16 = (refl, refl)

-- start_up = proc ()
-- o: oneof[a: int, b: string]
-- tagcase o tag a, b (v: int): end
-- end start_up
abbrev one_variable_for_two_tags_nodes : List Node
one_variable_for_two_tags_nodes =
    (n kind.Simple 2 13 11 11 [] [] (codes "int") (Some 11) ∷ n kind.FieldT 2 10 9 11 (0 ∷ []) ((codes "a") ∷ []) []
    None ∷ n kind.Simple 2 21 15 15 [] [] (codes "string") (Some 15) ∷ n kind.FieldT 2 18 13 15 (2 ∷ []) ((codes "b")
    ∷ []) [] None ∷ n kind.FieldsT 2 4 7 16 (1 ∷ 3 ∷ []) [] (codes "oneof") (Some 7) ∷ n kind.Decl 2 1 5 16 (4 ∷ [])
    ((codes "o") ∷ []) [] None ∷ n kind.Declare 2 1 5 16 (5 ∷ []) [] [] None ∷ n kind.Name 3 9 18 18 [] ((codes "o") ∷
    []) [] None ∷ n kind.Simple 3 24 26 26 [] [] (codes "int") (Some 26) ∷ n kind.TagArm 3 11 19 28 (8 ∷ []) ((codes
    "a") ∷ (codes "b") ∷ (codes "v") ∷ []) [] None ∷ n kind.Tagcase 3 1 17 29 (7 ∷ 9 ∷ []) [] [] None ∷ n kind.Routine
    1 1 0 31 (6 ∷ 10 ∷ []) ((codes "start_up") ∷ (codes "start_up") ∷ []) (codes "proc") (Some 2) ∷ n kind.Module 1 1
    0 31 (11 ∷ []) [] [] None ∷ n kind.File 1 1 0 31 (12 ∷ []) [] [] None ∷ [])

one_variable_for_two_tags : IsGood one_variable_for_two_tags_nodes
unfolding checking
one_variable_for_two_tags = (refl, refl)

-- printable = {t | t has unparse: proctype (t) returns (string)}
-- show = proc [t: type] (x: t) returns (string) where t in printable
--   return (t$unparse(x))
-- end show
-- start_up = proc ()
--   s: string := show[bool](true)
-- end start_up
abbrev not_in_type_set_refused_nodes : List Node
not_in_type_set_refused_nodes =
    (n kind.NameT 1 43 11 11 [] ((codes "t") ∷ []) [] None ∷ n kind.Simple 1 55 15 15 [] [] (codes "string") (Some 15)
    ∷ n kind.Results 1 46 13 16 (1 ∷ []) [] (codes "returns") (Some 13) ∷ n kind.RoutineT 1 33 9 16 (0 ∷ 2 ∷ []) []
    (codes "proctype") (Some 9) ∷ n kind.Oper 1 24 7 16 (3 ∷ []) ((codes "unparse") ∷ []) [] None ∷ n kind.TypeSet 1
    13 2 17 (4 ∷ []) ((codes "t") ∷ (codes "t") ∷ []) [] None ∷ n kind.Equate 1 1 0 17 (5 ∷ []) ((codes "printable") ∷
    []) [] None ∷ n kind.Parm 2 14 22 24 [] ((codes "t") ∷ []) (codes "type") (Some 24) ∷ n kind.NameT 2 27 29 29 []
    ((codes "t") ∷ []) [] None ∷ n kind.Decl 2 24 27 29 (8 ∷ []) ((codes "x") ∷ []) [] None ∷ n kind.Simple 2 39 33 33
    [] [] (codes "string") (Some 33) ∷ n kind.Results 2 30 31 34 (10 ∷ []) [] (codes "returns") (Some 31) ∷ n
    kind.Restrict 2 53 36 38 [] ((codes "t") ∷ (codes "printable") ∷ []) (codes "in") (Some 37) ∷ n kind.Where 2 47 35
    38 (12 ∷ []) [] [] None ∷ n kind.NameT 3 11 41 41 [] ((codes "t") ∷ []) [] None ∷ n kind.OperOf 3 11 41 43 (14 ∷
    []) ((codes "unparse") ∷ []) [] None ∷ n kind.Name 3 21 45 45 [] ((codes "x") ∷ []) [] None ∷ n kind.Call 3 20 41
    46 (15 ∷ 16 ∷ []) [] [] None ∷ n kind.Return 3 3 39 47 (17 ∷ []) [] [] None ∷ n kind.Routine 2 1 18 49 (7 ∷ 9 ∷ 11
    ∷ 13 ∷ 18 ∷ []) ((codes "show") ∷ (codes "show") ∷ []) (codes "proc") (Some 20) ∷ n kind.Module 1 1 0 49 (6 ∷ 19 ∷
    []) [] [] None ∷ n kind.Simple 6 6 57 57 [] [] (codes "string") (Some 57) ∷ n kind.Name 6 16 59 59 [] ((codes
    "show") ∷ []) [] None ∷ n kind.Simple 6 21 61 61 [] [] (codes "bool") (Some 61) ∷ n kind.Index 6 20 59 62 (22 ∷ 23
    ∷ []) [] [] None ∷ n kind.Literal 6 27 64 64 [] [] (codes "true") (Some 64) ∷ n kind.Call 6 26 59 65 (24 ∷ 25 ∷
    []) [] [] None ∷ n kind.Init 6 3 55 65 (21 ∷ 26 ∷ []) ((codes "s") ∷ []) [] None ∷ n kind.Routine 5 1 50 67 (27 ∷
    []) ((codes "start_up") ∷ (codes "start_up") ∷ []) (codes "proc") (Some 52) ∷ n kind.Module 5 1 50 67 (28 ∷ []) []
    [] None ∷ n kind.File 1 1 0 67 (20 ∷ 29 ∷ []) [] [] None ∷ [])

not_in_type_set_refused : IsGood not_in_type_set_refused_nodes
unfolding checking
not_in_type_set_refused = (refl, refl)

-- c = cluster [t: type] is f rep = null
-- f = proc () where t in {u | u has lt: proctype (u, u) returns (bool)} end f end c
-- p = proc () c[char]$f() end p
abbrev type_set_of_a_routine_of_a_cluster_nodes : List Node
type_set_of_a_routine_of_a_cluster_nodes =
    (n kind.Parm 1 14 4 6 [] ((codes "t") ∷ []) (codes "type") (Some 6) ∷ n kind.Simple 1 34 12 12 [] [] (codes
    "null") (Some 12) ∷ n kind.Equate 1 28 10 12 (1 ∷ []) [] (codes "rep") (Some 10) ∷ n kind.NameT 2 49 30 30 []
    ((codes "u") ∷ []) [] None ∷ n kind.NameT 2 52 32 32 [] ((codes "u") ∷ []) [] None ∷ n kind.Simple 2 64 36 36 []
    [] (codes "bool") (Some 36) ∷ n kind.Results 2 55 34 37 (5 ∷ []) [] (codes "returns") (Some 34) ∷ n kind.RoutineT
    2 39 28 37 (3 ∷ 4 ∷ 6 ∷ []) [] (codes "proctype") (Some 28) ∷ n kind.Oper 2 35 26 37 (7 ∷ []) ((codes "lt") ∷ [])
    [] None ∷ n kind.TypeSet 2 24 21 38 (8 ∷ []) ((codes "u") ∷ (codes "u") ∷ []) [] None ∷ n kind.Restrict 2 19 19 38
    (9 ∷ []) ((codes "t") ∷ []) (codes "in") (Some 20) ∷ n kind.Where 2 13 18 38 (10 ∷ []) [] [] None ∷ n kind.Routine
    2 1 13 40 (11 ∷ []) ((codes "f") ∷ (codes "f") ∷ []) (codes "proc") (Some 15) ∷ n kind.Cluster 1 1 0 42 (0 ∷ 2 ∷
    12 ∷ []) ((codes "c") ∷ (codes "f") ∷ (codes "c") ∷ []) [] None ∷ n kind.Module 1 1 0 42 (13 ∷ []) [] [] None ∷ n
    kind.Simple 3 15 50 50 [] [] (codes "char") (Some 50) ∷ n kind.NameT 3 13 48 51 (15 ∷ []) ((codes "c") ∷ []) []
    None ∷ n kind.OperOf 3 13 48 53 (16 ∷ []) ((codes "f") ∷ []) [] None ∷ n kind.Call 3 22 48 55 (17 ∷ []) [] [] None
    ∷ n kind.CallS 3 13 48 55 (18 ∷ []) [] [] None ∷ n kind.Routine 3 1 43 57 (19 ∷ []) ((codes "p") ∷ (codes "p") ∷
    []) (codes "proc") (Some 45) ∷ n kind.Module 3 1 43 57 (20 ∷ []) [] [] None ∷ n kind.File 1 1 0 57 (14 ∷ 21 ∷ [])
    [] [] None ∷ [])

type_set_of_a_routine_of_a_cluster : IsGood type_set_of_a_routine_of_a_cluster_nodes
unfolding checking
type_set_of_a_routine_of_a_cluster = (refl, refl)
