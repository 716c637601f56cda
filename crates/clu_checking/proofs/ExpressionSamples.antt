-- Files that are checked: the rules on expressions. Each is the tree of the CLU above it.
use Rattle.std.specs.Prelude.{refl, List, [], ◌∷◌, codes, Some, None}
use Rattle.clu_base.specs.declared.rules.Rule.TheVariants as rule
use Rattle.clu_tree.specs.declared.node.Node.{Node}
use Rattle.clu_tree.specs.declared.node.NodeKind.TheVariants as kind
use Rattle.clu_checking.proofs.Checking.{n, IsRefused, IsFine, checking}

-- start_up = proc ()
--   p: bool := nil < nil
-- end start_up
abbrev no_operation_refused_nodes : List Node
no_operation_refused_nodes =
    (n kind.Simple 2 6 7 7 [] [] (codes "bool") (Some 7) ∷ n kind.Literal 2 14 9 9 [] [] (codes "nil") (Some 9) ∷ n
    kind.Literal 2 20 11 11 [] [] (codes "nil") (Some 11) ∷ n kind.Infix 2 18 9 11 (1 ∷ 2 ∷ []) [] (codes "<") (Some
    10) ∷ n kind.Init 2 3 5 11 (0 ∷ 3 ∷ []) ((codes "p") ∷ []) [] None ∷ n kind.Routine 1 1 0 13 (4 ∷ []) ((codes
    "start_up") ∷ (codes "start_up") ∷ []) (codes "proc") (Some 2) ∷ n kind.Module 1 1 0 13 (5 ∷ []) [] [] None ∷ n
    kind.File 1 1 0 13 (6 ∷ []) [] [] None ∷ [])

no_operation_refused : IsRefused no_operation_refused_nodes rule.NoOperation 2 18
unfolding checking
no_operation_refused = refl

-- start_up = proc ()
--   p: bool := nil = nil
-- end start_up
abbrev no_operation_accepted_nodes : List Node
no_operation_accepted_nodes =
    (n kind.Simple 2 6 7 7 [] [] (codes "bool") (Some 7) ∷ n kind.Literal 2 14 9 9 [] [] (codes "nil") (Some 9) ∷ n
    kind.Literal 2 20 11 11 [] [] (codes "nil") (Some 11) ∷ n kind.Infix 2 18 9 11 (1 ∷ 2 ∷ []) [] (codes "=") (Some
    10) ∷ n kind.Init 2 3 5 11 (0 ∷ 3 ∷ []) ((codes "p") ∷ []) [] None ∷ n kind.Routine 1 1 0 13 (4 ∷ []) ((codes
    "start_up") ∷ (codes "start_up") ∷ []) (codes "proc") (Some 2) ∷ n kind.Module 1 1 0 13 (5 ∷ []) [] [] None ∷ n
    kind.File 1 1 0 13 (6 ∷ []) [] [] None ∷ [])

no_operation_accepted : IsFine no_operation_accepted_nodes
unfolding checking
no_operation_accepted = refl

-- start_up = proc () q() end start_up
-- q = proc (x: int) end q
abbrev argument_count_refused_nodes : List Node
argument_count_refused_nodes =
    (n kind.Name 1 20 5 5 [] ((codes "q") ∷ []) [] None ∷ n kind.Call 1 21 5 7 (0 ∷ []) [] [] None ∷ n kind.CallS 1 20
    5 7 (1 ∷ []) [] [] None ∷ n kind.Routine 1 1 0 9 (2 ∷ []) ((codes "start_up") ∷ (codes "start_up") ∷ []) (codes
    "proc") (Some 2) ∷ n kind.Module 1 1 0 9 (3 ∷ []) [] [] None ∷ n kind.Simple 2 14 16 16 [] [] (codes "int") (Some
    16) ∷ n kind.Decl 2 11 14 16 (5 ∷ []) ((codes "x") ∷ []) [] None ∷ n kind.Routine 2 1 10 19 (6 ∷ []) ((codes "q")
    ∷ (codes "q") ∷ []) (codes "proc") (Some 12) ∷ n kind.Module 2 1 10 19 (7 ∷ []) [] [] None ∷ n kind.File 1 1 0 19
    (4 ∷ 8 ∷ []) [] [] None ∷ [])

argument_count_refused : IsRefused argument_count_refused_nodes rule.ArgumentCount 1 21
unfolding checking
argument_count_refused = refl

-- start_up = proc () q(1) end start_up
-- q = proc (x: int) end q
abbrev argument_count_accepted_nodes : List Node
argument_count_accepted_nodes =
    (n kind.Name 1 20 5 5 [] ((codes "q") ∷ []) [] None ∷ n kind.Literal 1 22 7 7 [] [] (codes "1") (Some 7) ∷ n
    kind.Call 1 21 5 8 (0 ∷ 1 ∷ []) [] [] None ∷ n kind.CallS 1 20 5 8 (2 ∷ []) [] [] None ∷ n kind.Routine 1 1 0 10
    (3 ∷ []) ((codes "start_up") ∷ (codes "start_up") ∷ []) (codes "proc") (Some 2) ∷ n kind.Module 1 1 0 10 (4 ∷ [])
    [] [] None ∷ n kind.Simple 2 14 17 17 [] [] (codes "int") (Some 17) ∷ n kind.Decl 2 11 15 17 (6 ∷ []) ((codes "x")
    ∷ []) [] None ∷ n kind.Routine 2 1 11 20 (7 ∷ []) ((codes "q") ∷ (codes "q") ∷ []) (codes "proc") (Some 13) ∷ n
    kind.Module 2 1 11 20 (8 ∷ []) [] [] None ∷ n kind.File 1 1 0 20 (5 ∷ 9 ∷ []) [] [] None ∷ [])

argument_count_accepted : IsFine argument_count_accepted_nodes
unfolding checking
argument_count_accepted = refl

-- start_up = proc ()
--   x: int := 1 + "a"
-- end start_up
abbrev argument_type_refused_nodes : List Node
argument_type_refused_nodes =
    (n kind.Simple 2 6 7 7 [] [] (codes "int") (Some 7) ∷ n kind.Literal 2 13 9 9 [] [] (codes "1") (Some 9) ∷ n
    kind.Literal 2 17 11 11 [] [] (34 ∷ 97 ∷ 34 ∷ []) (Some 11) ∷ n kind.Infix 2 15 9 11 (1 ∷ 2 ∷ []) [] (codes "+")
    (Some 10) ∷ n kind.Init 2 3 5 11 (0 ∷ 3 ∷ []) ((codes "x") ∷ []) [] None ∷ n kind.Routine 1 1 0 13 (4 ∷ [])
    ((codes "start_up") ∷ (codes "start_up") ∷ []) (codes "proc") (Some 2) ∷ n kind.Module 1 1 0 13 (5 ∷ []) [] []
    None ∷ n kind.File 1 1 0 13 (6 ∷ []) [] [] None ∷ [])

argument_type_refused : IsRefused argument_type_refused_nodes rule.ArgumentType 2 15
unfolding checking
argument_type_refused = refl

-- start_up = proc ()
--   x: string := "1" || "a"
-- end start_up
abbrev argument_type_accepted_nodes : List Node
argument_type_accepted_nodes =
    (n kind.Simple 2 6 7 7 [] [] (codes "string") (Some 7) ∷ n kind.Literal 2 16 9 9 [] [] (34 ∷ 49 ∷ 34 ∷ []) (Some
    9) ∷ n kind.Literal 2 23 11 11 [] [] (34 ∷ 97 ∷ 34 ∷ []) (Some 11) ∷ n kind.Infix 2 20 9 11 (1 ∷ 2 ∷ []) [] (codes
    "||") (Some 10) ∷ n kind.Init 2 3 5 11 (0 ∷ 3 ∷ []) ((codes "x") ∷ []) [] None ∷ n kind.Routine 1 1 0 13 (4 ∷ [])
    ((codes "start_up") ∷ (codes "start_up") ∷ []) (codes "proc") (Some 2) ∷ n kind.Module 1 1 0 13 (5 ∷ []) [] []
    None ∷ n kind.File 1 1 0 13 (6 ∷ []) [] [] None ∷ [])

argument_type_accepted : IsFine argument_type_accepted_nodes
unfolding checking
argument_type_accepted = refl

-- start_up = proc ()
--   a, b: int := q()
-- end start_up
-- q = proc () returns (int) return (1) end q
abbrev result_count_refused_nodes : List Node
result_count_refused_nodes =
    (n kind.Simple 2 9 9 9 [] [] (codes "int") (Some 9) ∷ n kind.Decl 2 3 5 9 (0 ∷ []) ((codes "a") ∷ (codes "b") ∷
    []) [] None ∷ n kind.Name 2 16 11 11 [] ((codes "q") ∷ []) [] None ∷ n kind.Call 2 17 11 13 (2 ∷ []) [] [] None ∷
    n kind.Init 2 3 5 13 (1 ∷ 3 ∷ []) [] [] None ∷ n kind.Routine 1 1 0 15 (4 ∷ []) ((codes "start_up") ∷ (codes
    "start_up") ∷ []) (codes "proc") (Some 2) ∷ n kind.Module 1 1 0 15 (5 ∷ []) [] [] None ∷ n kind.Simple 4 22 23 23
    [] [] (codes "int") (Some 23) ∷ n kind.Results 4 13 21 24 (7 ∷ []) [] (codes "returns") (Some 21) ∷ n kind.Literal
    4 35 27 27 [] [] (codes "1") (Some 27) ∷ n kind.Return 4 27 25 28 (9 ∷ []) [] [] None ∷ n kind.Routine 4 1 16 30
    (8 ∷ 10 ∷ []) ((codes "q") ∷ (codes "q") ∷ []) (codes "proc") (Some 18) ∷ n kind.Module 4 1 16 30 (11 ∷ []) [] []
    None ∷ n kind.File 1 1 0 30 (6 ∷ 12 ∷ []) [] [] None ∷ [])

result_count_refused : IsRefused result_count_refused_nodes rule.ResultCount 2 3
unfolding checking
result_count_refused = refl

-- start_up = proc ()
--   a, b: int := q()
-- end start_up
-- q = proc () returns (int, int) return (1, 2) end q
abbrev result_count_accepted_nodes : List Node
result_count_accepted_nodes =
    (n kind.Simple 2 9 9 9 [] [] (codes "int") (Some 9) ∷ n kind.Decl 2 3 5 9 (0 ∷ []) ((codes "a") ∷ (codes "b") ∷
    []) [] None ∷ n kind.Name 2 16 11 11 [] ((codes "q") ∷ []) [] None ∷ n kind.Call 2 17 11 13 (2 ∷ []) [] [] None ∷
    n kind.Init 2 3 5 13 (1 ∷ 3 ∷ []) [] [] None ∷ n kind.Routine 1 1 0 15 (4 ∷ []) ((codes "start_up") ∷ (codes
    "start_up") ∷ []) (codes "proc") (Some 2) ∷ n kind.Module 1 1 0 15 (5 ∷ []) [] [] None ∷ n kind.Simple 4 22 23 23
    [] [] (codes "int") (Some 23) ∷ n kind.Simple 4 27 25 25 [] [] (codes "int") (Some 25) ∷ n kind.Results 4 13 21 26
    (7 ∷ 8 ∷ []) [] (codes "returns") (Some 21) ∷ n kind.Literal 4 40 29 29 [] [] (codes "1") (Some 29) ∷ n
    kind.Literal 4 43 31 31 [] [] (codes "2") (Some 31) ∷ n kind.Return 4 32 27 32 (10 ∷ 11 ∷ []) [] [] None ∷ n
    kind.Routine 4 1 16 34 (9 ∷ 12 ∷ []) ((codes "q") ∷ (codes "q") ∷ []) (codes "proc") (Some 18) ∷ n kind.Module 4 1
    16 34 (13 ∷ []) [] [] None ∷ n kind.File 1 1 0 34 (6 ∷ 14 ∷ []) [] [] None ∷ [])

result_count_accepted : IsFine result_count_accepted_nodes
unfolding checking
result_count_accepted = refl

-- start_up = proc ()
--   p: bool := true cand 1
-- end start_up
abbrev not_bool_refused_nodes : List Node
not_bool_refused_nodes =
    (n kind.Simple 2 6 7 7 [] [] (codes "bool") (Some 7) ∷ n kind.Literal 2 14 9 9 [] [] (codes "true") (Some 9) ∷ n
    kind.Literal 2 24 11 11 [] [] (codes "1") (Some 11) ∷ n kind.Infix 2 19 9 11 (1 ∷ 2 ∷ []) [] (codes "cand") (Some
    10) ∷ n kind.Init 2 3 5 11 (0 ∷ 3 ∷ []) ((codes "p") ∷ []) [] None ∷ n kind.Routine 1 1 0 13 (4 ∷ []) ((codes
    "start_up") ∷ (codes "start_up") ∷ []) (codes "proc") (Some 2) ∷ n kind.Module 1 1 0 13 (5 ∷ []) [] [] None ∷ n
    kind.File 1 1 0 13 (6 ∷ []) [] [] None ∷ [])

not_bool_refused : IsRefused not_bool_refused_nodes rule.NotBool 2 19
unfolding checking
not_bool_refused = refl

-- start_up = proc ()
--   p: bool := true cand 1 = 1
-- end start_up
abbrev not_bool_accepted_nodes : List Node
not_bool_accepted_nodes =
    (n kind.Simple 2 6 7 7 [] [] (codes "bool") (Some 7) ∷ n kind.Literal 2 14 9 9 [] [] (codes "true") (Some 9) ∷ n
    kind.Literal 2 24 11 11 [] [] (codes "1") (Some 11) ∷ n kind.Literal 2 28 13 13 [] [] (codes "1") (Some 13) ∷ n
    kind.Infix 2 26 11 13 (2 ∷ 3 ∷ []) [] (codes "=") (Some 12) ∷ n kind.Infix 2 19 9 13 (1 ∷ 4 ∷ []) [] (codes
    "cand") (Some 10) ∷ n kind.Init 2 3 5 13 (0 ∷ 5 ∷ []) ((codes "p") ∷ []) [] None ∷ n kind.Routine 1 1 0 15 (6 ∷
    []) ((codes "start_up") ∷ (codes "start_up") ∷ []) (codes "proc") (Some 2) ∷ n kind.Module 1 1 0 15 (7 ∷ []) [] []
    None ∷ n kind.File 1 1 0 15 (8 ∷ []) [] [] None ∷ [])

not_bool_accepted : IsFine not_bool_accepted_nodes
unfolding checking
not_bool_accepted = refl

-- start_up = proc ()
--   r: any := record[a, b: int]${a: 1}
-- end start_up
abbrev selectors_refused_nodes : List Node
selectors_refused_nodes =
    (n kind.Simple 2 6 7 7 [] [] (codes "any") (Some 7) ∷ n kind.Simple 2 26 15 15 [] [] (codes "int") (Some 15) ∷ n
    kind.FieldT 2 20 11 15 (1 ∷ []) ((codes "a") ∷ (codes "b") ∷ []) [] None ∷ n kind.FieldsT 2 13 9 16 (2 ∷ []) []
    (codes "record") (Some 9) ∷ n kind.Literal 2 35 21 21 [] [] (codes "1") (Some 21) ∷ n kind.FieldE 2 32 19 21 (4 ∷
    []) ((codes "a") ∷ []) [] None ∷ n kind.Fields 2 13 9 22 (3 ∷ 5 ∷ []) [] [] None ∷ n kind.Init 2 3 5 22 (0 ∷ 6 ∷
    []) ((codes "r") ∷ []) [] None ∷ n kind.Routine 1 1 0 24 (7 ∷ []) ((codes "start_up") ∷ (codes "start_up") ∷ [])
    (codes "proc") (Some 2) ∷ n kind.Module 1 1 0 24 (8 ∷ []) [] [] None ∷ n kind.File 1 1 0 24 (9 ∷ []) [] [] None ∷
    [])

selectors_refused : IsRefused selectors_refused_nodes rule.Selectors 2 13
unfolding checking
selectors_refused = refl

-- start_up = proc ()
--   r: any := record[a, b: int]${b: 1, a: 2}
-- end start_up
abbrev selectors_accepted_nodes : List Node
selectors_accepted_nodes =
    (n kind.Simple 2 6 7 7 [] [] (codes "any") (Some 7) ∷ n kind.Simple 2 26 15 15 [] [] (codes "int") (Some 15) ∷ n
    kind.FieldT 2 20 11 15 (1 ∷ []) ((codes "a") ∷ (codes "b") ∷ []) [] None ∷ n kind.FieldsT 2 13 9 16 (2 ∷ []) []
    (codes "record") (Some 9) ∷ n kind.Literal 2 35 21 21 [] [] (codes "1") (Some 21) ∷ n kind.FieldE 2 32 19 21 (4 ∷
    []) ((codes "b") ∷ []) [] None ∷ n kind.Literal 2 41 25 25 [] [] (codes "2") (Some 25) ∷ n kind.FieldE 2 38 23 25
    (6 ∷ []) ((codes "a") ∷ []) [] None ∷ n kind.Fields 2 13 9 26 (3 ∷ 5 ∷ 7 ∷ []) [] [] None ∷ n kind.Init 2 3 5 26
    (0 ∷ 8 ∷ []) ((codes "r") ∷ []) [] None ∷ n kind.Routine 1 1 0 28 (9 ∷ []) ((codes "start_up") ∷ (codes
    "start_up") ∷ []) (codes "proc") (Some 2) ∷ n kind.Module 1 1 0 28 (10 ∷ []) [] [] None ∷ n kind.File 1 1 0 28 (11
    ∷ []) [] [] None ∷ [])

selectors_accepted : IsFine selectors_accepted_nodes
unfolding checking
selectors_accepted = refl
