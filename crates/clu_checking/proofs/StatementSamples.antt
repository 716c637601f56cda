-- Files that are checked: the rules on statements. Each is the tree of the CLU above it.
use Rattle.std.specs.Prelude.{refl, List, [], ◌∷◌, codes, Some, None}
use Rattle.clu_base.specs.declared.rules.Rule.TheVariants as rule
use Rattle.clu_tree.specs.declared.node.Node.{Node}
use Rattle.clu_tree.specs.declared.node.NodeKind.TheVariants as kind
use Rattle.clu_checking.proofs.Checking.{n, IsRefused, IsFine, checking}

-- start_up = proc ()
--   x: any := 1
--   y: int := x
-- end start_up
abbrev assign_type_refused_nodes : List Node
assign_type_refused_nodes =
    (n kind.Simple 2 6 7 7 [] [] (codes "any") (Some 7) ∷ n kind.Literal 2 13 9 9 [] [] (codes "1") (Some 9) ∷ n
    kind.Init 2 3 5 9 (0 ∷ 1 ∷ []) ((codes "x") ∷ []) [] None ∷ n kind.Simple 3 6 12 12 [] [] (codes "int") (Some 12)
    ∷ n kind.Name 3 13 14 14 [] ((codes "x") ∷ []) [] None ∷ n kind.Init 3 3 10 14 (3 ∷ 4 ∷ []) ((codes "y") ∷ []) []
    None ∷ n kind.Routine 1 1 0 16 (2 ∷ 5 ∷ []) ((codes "start_up") ∷ (codes "start_up") ∷ []) (codes "proc") (Some 2)
    ∷ n kind.Module 1 1 0 16 (6 ∷ []) [] [] None ∷ n kind.File 1 1 0 16 (7 ∷ []) [] [] None ∷ [])

assign_type_refused : IsRefused assign_type_refused_nodes rule.AssignType 3 3
unfolding checking
assign_type_refused = refl

-- start_up = proc ()
--   x: int := 1
--   y: any := x
-- end start_up
abbrev assign_type_accepted_nodes : List Node
assign_type_accepted_nodes =
    (n kind.Simple 2 6 7 7 [] [] (codes "int") (Some 7) ∷ n kind.Literal 2 13 9 9 [] [] (codes "1") (Some 9) ∷ n
    kind.Init 2 3 5 9 (0 ∷ 1 ∷ []) ((codes "x") ∷ []) [] None ∷ n kind.Simple 3 6 12 12 [] [] (codes "any") (Some 12)
    ∷ n kind.Name 3 13 14 14 [] ((codes "x") ∷ []) [] None ∷ n kind.Init 3 3 10 14 (3 ∷ 4 ∷ []) ((codes "y") ∷ []) []
    None ∷ n kind.Routine 1 1 0 16 (2 ∷ 5 ∷ []) ((codes "start_up") ∷ (codes "start_up") ∷ []) (codes "proc") (Some 2)
    ∷ n kind.Module 1 1 0 16 (6 ∷ []) [] [] None ∷ n kind.File 1 1 0 16 (7 ∷ []) [] [] None ∷ [])

assign_type_accepted : IsFine assign_type_accepted_nodes
unfolding checking
assign_type_accepted = refl

-- start_up = proc () p(record[a: int]${a: 1}) end start_up
-- p = proc (x: record[a: int])
--   tagcase x tag a: end
-- end p
abbrev not_tagged_refused_nodes : List Node
not_tagged_refused_nodes =
    (n kind.Name 1 20 5 5 [] ((codes "p") ∷ []) [] None ∷ n kind.Simple 1 32 11 11 [] [] (codes "int") (Some 11) ∷ n
    kind.FieldT 1 29 9 11 (1 ∷ []) ((codes "a") ∷ []) [] None ∷ n kind.FieldsT 1 22 7 12 (2 ∷ []) [] (codes "record")
    (Some 7) ∷ n kind.Literal 1 41 17 17 [] [] (codes "1") (Some 17) ∷ n kind.FieldE 1 38 15 17 (4 ∷ []) ((codes "a")
    ∷ []) [] None ∷ n kind.Fields 1 22 7 18 (3 ∷ 5 ∷ []) [] [] None ∷ n kind.Call 1 21 5 19 (0 ∷ 6 ∷ []) [] [] None ∷
    n kind.CallS 1 20 5 19 (7 ∷ []) [] [] None ∷ n kind.Routine 1 1 0 21 (8 ∷ []) ((codes "start_up") ∷ (codes
    "start_up") ∷ []) (codes "proc") (Some 2) ∷ n kind.Module 1 1 0 21 (9 ∷ []) [] [] None ∷ n kind.Simple 2 24 32 32
    [] [] (codes "int") (Some 32) ∷ n kind.FieldT 2 21 30 32 (11 ∷ []) ((codes "a") ∷ []) [] None ∷ n kind.FieldsT 2
    14 28 33 (12 ∷ []) [] (codes "record") (Some 28) ∷ n kind.Decl 2 11 26 33 (13 ∷ []) ((codes "x") ∷ []) [] None ∷ n
    kind.Name 3 11 36 36 [] ((codes "x") ∷ []) [] None ∷ n kind.TagArm 3 13 37 39 [] ((codes "a") ∷ []) [] None ∷ n
    kind.Tagcase 3 3 35 40 (15 ∷ 16 ∷ []) [] [] None ∷ n kind.Routine 2 1 22 42 (14 ∷ 17 ∷ []) ((codes "p") ∷ (codes
    "p") ∷ []) (codes "proc") (Some 24) ∷ n kind.Module 2 1 22 42 (18 ∷ []) [] [] None ∷ n kind.File 1 1 0 42 (10 ∷ 19
    ∷ []) [] [] None ∷ [])

not_tagged_refused : IsRefused not_tagged_refused_nodes rule.NotTagged 3 3
unfolding checking
not_tagged_refused = refl

-- start_up = proc () p(oneof[a: int]$make_a(1)) end start_up
-- p = proc (x: oneof[a: int])
--   tagcase x tag a: end
-- end p
abbrev not_tagged_accepted_nodes : List Node
not_tagged_accepted_nodes =
    (n kind.Name 1 20 5 5 [] ((codes "p") ∷ []) [] None ∷ n kind.Simple 1 31 11 11 [] [] (codes "int") (Some 11) ∷ n
    kind.FieldT 1 28 9 11 (1 ∷ []) ((codes "a") ∷ []) [] None ∷ n kind.FieldsT 1 22 7 12 (2 ∷ []) [] (codes "oneof")
    (Some 7) ∷ n kind.OperOf 1 22 7 14 (3 ∷ []) ((codes "make_a") ∷ []) [] None ∷ n kind.Literal 1 43 16 16 [] []
    (codes "1") (Some 16) ∷ n kind.Call 1 42 7 17 (4 ∷ 5 ∷ []) [] [] None ∷ n kind.Call 1 21 5 18 (0 ∷ 6 ∷ []) [] []
    None ∷ n kind.CallS 1 20 5 18 (7 ∷ []) [] [] None ∷ n kind.Routine 1 1 0 20 (8 ∷ []) ((codes "start_up") ∷ (codes
    "start_up") ∷ []) (codes "proc") (Some 2) ∷ n kind.Module 1 1 0 20 (9 ∷ []) [] [] None ∷ n kind.Simple 2 23 31 31
    [] [] (codes "int") (Some 31) ∷ n kind.FieldT 2 20 29 31 (11 ∷ []) ((codes "a") ∷ []) [] None ∷ n kind.FieldsT 2
    14 27 32 (12 ∷ []) [] (codes "oneof") (Some 27) ∷ n kind.Decl 2 11 25 32 (13 ∷ []) ((codes "x") ∷ []) [] None ∷ n
    kind.Name 3 11 35 35 [] ((codes "x") ∷ []) [] None ∷ n kind.TagArm 3 13 36 38 [] ((codes "a") ∷ []) [] None ∷ n
    kind.Tagcase 3 3 34 39 (15 ∷ 16 ∷ []) [] [] None ∷ n kind.Routine 2 1 21 41 (14 ∷ 17 ∷ []) ((codes "p") ∷ (codes
    "p") ∷ []) (codes "proc") (Some 23) ∷ n kind.Module 2 1 21 41 (18 ∷ []) [] [] None ∷ n kind.File 1 1 0 41 (10 ∷ 19
    ∷ []) [] [] None ∷ [])

not_tagged_accepted : IsFine not_tagged_accepted_nodes
unfolding checking
not_tagged_accepted = refl

-- p = proc (x: oneof[a, b: int])
--   tagcase x
--     tag a:
--     tag b, c:
--   end
-- end p
abbrev tag_missing_or_twice_refused_nodes : List Node
tag_missing_or_twice_refused_nodes =
    (n kind.Simple 1 26 12 12 [] [] (codes "int") (Some 12) ∷ n kind.FieldT 1 20 8 12 (0 ∷ []) ((codes "a") ∷ (codes
    "b") ∷ []) [] None ∷ n kind.FieldsT 1 14 6 13 (1 ∷ []) [] (codes "oneof") (Some 6) ∷ n kind.Decl 1 11 4 13 (2 ∷
    []) ((codes "x") ∷ []) [] None ∷ n kind.Name 2 11 16 16 [] ((codes "x") ∷ []) [] None ∷ n kind.TagArm 3 5 17 19 []
    ((codes "a") ∷ []) [] None ∷ n kind.TagArm 4 5 20 24 [] ((codes "b") ∷ (codes "c") ∷ []) [] None ∷ n kind.Tagcase
    2 3 15 25 (4 ∷ 5 ∷ 6 ∷ []) [] [] None ∷ n kind.Routine 1 1 0 27 (3 ∷ 7 ∷ []) ((codes "p") ∷ (codes "p") ∷ [])
    (codes "proc") (Some 2) ∷ n kind.Module 1 1 0 27 (8 ∷ []) [] [] None ∷ n kind.File 1 1 0 27 (9 ∷ []) [] [] None ∷
    [])

tag_missing_or_twice_refused : IsRefused tag_missing_or_twice_refused_nodes rule.TagMissingOrTwice 4 5
unfolding checking
tag_missing_or_twice_refused = refl

-- p = proc (x: oneof[a, b: int])
--   tagcase x
--     tag a:
--     others:
--   end
-- end p
abbrev tag_missing_or_twice_accepted_nodes : List Node
tag_missing_or_twice_accepted_nodes =
    (n kind.Simple 1 26 12 12 [] [] (codes "int") (Some 12) ∷ n kind.FieldT 1 20 8 12 (0 ∷ []) ((codes "a") ∷ (codes
    "b") ∷ []) [] None ∷ n kind.FieldsT 1 14 6 13 (1 ∷ []) [] (codes "oneof") (Some 6) ∷ n kind.Decl 1 11 4 13 (2 ∷
    []) ((codes "x") ∷ []) [] None ∷ n kind.Name 2 11 16 16 [] ((codes "x") ∷ []) [] None ∷ n kind.TagArm 3 5 17 19 []
    ((codes "a") ∷ []) [] None ∷ n kind.Tagcase 2 3 15 22 (4 ∷ 5 ∷ []) [] (codes "others") (Some 20) ∷ n kind.Routine
    1 1 0 24 (3 ∷ 6 ∷ []) ((codes "p") ∷ (codes "p") ∷ []) (codes "proc") (Some 2) ∷ n kind.Module 1 1 0 24 (7 ∷ [])
    [] [] None ∷ n kind.File 1 1 0 24 (8 ∷ []) [] [] None ∷ [])

tag_missing_or_twice_accepted : IsFine tag_missing_or_twice_accepted_nodes
unfolding checking
tag_missing_or_twice_accepted = refl

-- start_up = proc ()
--   break
-- end start_up
abbrev not_in_loop_refused_nodes : List Node
not_in_loop_refused_nodes =
    (n kind.Break 2 3 5 5 [] [] [] None ∷ n kind.Routine 1 1 0 7 (0 ∷ []) ((codes "start_up") ∷ (codes "start_up") ∷
    []) (codes "proc") (Some 2) ∷ n kind.Module 1 1 0 7 (1 ∷ []) [] [] None ∷ n kind.File 1 1 0 7 (2 ∷ []) [] [] None
    ∷ [])

not_in_loop_refused : IsRefused not_in_loop_refused_nodes rule.NotInLoop 2 3
unfolding checking
not_in_loop_refused = refl

-- start_up = proc ()
--   while true do break end
-- end start_up
abbrev not_in_loop_accepted_nodes : List Node
not_in_loop_accepted_nodes =
    (n kind.Literal 2 9 6 6 [] [] (codes "true") (Some 6) ∷ n kind.Break 2 17 8 8 [] [] [] None ∷ n kind.While 2 3 5 9
    (0 ∷ 1 ∷ []) [] [] None ∷ n kind.Routine 1 1 0 11 (2 ∷ []) ((codes "start_up") ∷ (codes "start_up") ∷ []) (codes
    "proc") (Some 2) ∷ n kind.Module 1 1 0 11 (3 ∷ []) [] [] None ∷ n kind.File 1 1 0 11 (4 ∷ []) [] [] None ∷ [])

not_in_loop_accepted : IsFine not_in_loop_accepted_nodes
unfolding checking
not_in_loop_accepted = refl

-- p = proc ()
--   yield (1)
-- end p
abbrev not_in_iterator_refused_nodes : List Node
not_in_iterator_refused_nodes =
    (n kind.Literal 2 10 7 7 [] [] (codes "1") (Some 7) ∷ n kind.Yield 2 3 5 8 (0 ∷ []) [] [] None ∷ n kind.Routine 1
    1 0 10 (1 ∷ []) ((codes "p") ∷ (codes "p") ∷ []) (codes "proc") (Some 2) ∷ n kind.Module 1 1 0 10 (2 ∷ []) [] []
    None ∷ n kind.File 1 1 0 10 (3 ∷ []) [] [] None ∷ [])

not_in_iterator_refused : IsRefused not_in_iterator_refused_nodes rule.NotInIterator 2 3
unfolding checking
not_in_iterator_refused = refl

-- p = iter () yields (int)
--   yield (1)
-- end p
abbrev not_in_iterator_accepted_nodes : List Node
not_in_iterator_accepted_nodes =
    (n kind.Simple 1 21 7 7 [] [] (codes "int") (Some 7) ∷ n kind.Results 1 13 5 8 (0 ∷ []) [] (codes "yields") (Some
    5) ∷ n kind.Literal 2 10 11 11 [] [] (codes "1") (Some 11) ∷ n kind.Yield 2 3 9 12 (2 ∷ []) [] [] None ∷ n
    kind.Routine 1 1 0 14 (1 ∷ 3 ∷ []) ((codes "p") ∷ (codes "p") ∷ []) (codes "iter") (Some 2) ∷ n kind.Module 1 1 0
    14 (4 ∷ []) [] [] None ∷ n kind.File 1 1 0 14 (5 ∷ []) [] [] None ∷ [])

not_in_iterator_accepted : IsFine not_in_iterator_accepted_nodes
unfolding checking
not_in_iterator_accepted = refl

-- p = proc () returns (int)
--   return ("a")
-- end p
abbrev return_values_refused_nodes : List Node
return_values_refused_nodes =
    (n kind.Simple 1 22 7 7 [] [] (codes "int") (Some 7) ∷ n kind.Results 1 13 5 8 (0 ∷ []) [] (codes "returns") (Some
    5) ∷ n kind.Literal 2 11 11 11 [] [] (34 ∷ 97 ∷ 34 ∷ []) (Some 11) ∷ n kind.Return 2 3 9 12 (2 ∷ []) [] [] None ∷
    n kind.Routine 1 1 0 14 (1 ∷ 3 ∷ []) ((codes "p") ∷ (codes "p") ∷ []) (codes "proc") (Some 2) ∷ n kind.Module 1 1
    0 14 (4 ∷ []) [] [] None ∷ n kind.File 1 1 0 14 (5 ∷ []) [] [] None ∷ [])

return_values_refused : IsRefused return_values_refused_nodes rule.ReturnValues 2 3
unfolding checking
return_values_refused = refl

-- p = proc () returns (any)
--   return ("a")
-- end p
abbrev return_values_accepted_nodes : List Node
return_values_accepted_nodes =
    (n kind.Simple 1 22 7 7 [] [] (codes "any") (Some 7) ∷ n kind.Results 1 13 5 8 (0 ∷ []) [] (codes "returns") (Some
    5) ∷ n kind.Literal 2 11 11 11 [] [] (34 ∷ 97 ∷ 34 ∷ []) (Some 11) ∷ n kind.Return 2 3 9 12 (2 ∷ []) [] [] None ∷
    n kind.Routine 1 1 0 14 (1 ∷ 3 ∷ []) ((codes "p") ∷ (codes "p") ∷ []) (codes "proc") (Some 2) ∷ n kind.Module 1 1
    0 14 (4 ∷ []) [] [] None ∷ n kind.File 1 1 0 14 (5 ∷ []) [] [] None ∷ [])

return_values_accepted : IsFine return_values_accepted_nodes
unfolding checking
return_values_accepted = refl
