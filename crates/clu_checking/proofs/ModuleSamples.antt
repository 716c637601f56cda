-- Files that are checked: the rules on modules. Each is the tree of the CLU above it.
use Rattle.std.specs.Prelude.{refl, List, [], ◌∷◌, codes, Some, None}
use Rattle.clu_base.specs.declared.rules.Rule.TheVariants as rule
use Rattle.clu_tree.specs.declared.node.Node.{Node}
use Rattle.clu_tree.specs.declared.node.NodeKind.TheVariants as kind
use Rattle.clu_checking.proofs.Checking.{n, IsRefused, IsFine, checking}

-- start_up = proc () break end start_up
-- c = cluster is f, g
--   rep = null
--   f = proc () end f
-- end c
abbrev export_missing_refused_nodes : List Node
export_missing_refused_nodes =
    (n kind.Break 1 20 5 5 [] [] [] None ∷ n kind.Routine 1 1 0 7 (0 ∷ []) ((codes "start_up") ∷ (codes "start_up") ∷
    []) (codes "proc") (Some 2) ∷ n kind.Module 1 1 0 7 (1 ∷ []) [] [] None ∷ n kind.Simple 3 9 17 17 [] [] (codes
    "null") (Some 17) ∷ n kind.Equate 3 3 15 17 (3 ∷ []) [] (codes "rep") (Some 15) ∷ n kind.Routine 4 3 18 24 []
    ((codes "f") ∷ (codes "f") ∷ []) (codes "proc") (Some 20) ∷ n kind.Cluster 2 1 8 26 (4 ∷ 5 ∷ []) ((codes "c") ∷
    (codes "f") ∷ (codes "g") ∷ (codes "c") ∷ []) [] None ∷ n kind.Module 2 1 8 26 (6 ∷ []) [] [] None ∷ n kind.File 1
    1 0 26 (2 ∷ 7 ∷ []) [] [] None ∷ [])

export_missing_refused : IsRefused export_missing_refused_nodes rule.ExportMissing 2 1
unfolding checking
export_missing_refused = refl

-- c = cluster is f
--   rep = null
--   f = proc () g() end f
--   g = proc () end g
-- end c
abbrev export_missing_accepted_nodes : List Node
export_missing_accepted_nodes =
    (n kind.Simple 2 9 7 7 [] [] (codes "null") (Some 7) ∷ n kind.Equate 2 3 5 7 (0 ∷ []) [] (codes "rep") (Some 5) ∷
    n kind.Name 3 15 13 13 [] ((codes "g") ∷ []) [] None ∷ n kind.Call 3 16 13 15 (2 ∷ []) [] [] None ∷ n kind.CallS 3
    15 13 15 (3 ∷ []) [] [] None ∷ n kind.Routine 3 3 8 17 (4 ∷ []) ((codes "f") ∷ (codes "f") ∷ []) (codes "proc")
    (Some 10) ∷ n kind.Routine 4 3 18 24 [] ((codes "g") ∷ (codes "g") ∷ []) (codes "proc") (Some 20) ∷ n kind.Cluster
    1 1 0 26 (1 ∷ 5 ∷ 6 ∷ []) ((codes "c") ∷ (codes "f") ∷ (codes "c") ∷ []) [] None ∷ n kind.Module 1 1 0 26 (7 ∷ [])
    [] [] None ∷ n kind.File 1 1 0 26 (8 ∷ []) [] [] None ∷ [])

export_missing_accepted : IsFine export_missing_accepted_nodes
unfolding checking
export_missing_accepted = refl

-- start_up = proc ()
-- end go
abbrev end_name_refused_nodes : List Node
end_name_refused_nodes =
    (n kind.Routine 1 1 0 6 [] ((codes "start_up") ∷ (codes "go") ∷ []) (codes "proc") (Some 2) ∷ n kind.Module 1 1 0
    6 (0 ∷ []) [] [] None ∷ n kind.File 1 1 0 6 (1 ∷ []) [] [] None ∷ [])

end_name_refused : IsRefused end_name_refused_nodes rule.EndName 1 1
unfolding checking
end_name_refused = refl

-- Start_up = proc ()
-- end start_up
abbrev end_name_accepted_nodes : List Node
end_name_accepted_nodes =
    (n kind.Routine 1 1 0 6 [] ((codes "start_up") ∷ (codes "start_up") ∷ []) (codes "proc") (Some 2) ∷ n kind.Module
    1 1 0 6 (0 ∷ []) [] [] None ∷ n kind.File 1 1 0 6 (1 ∷ []) [] [] None ∷ [])

end_name_accepted : IsFine end_name_accepted_nodes
unfolding checking
end_name_accepted = refl
