-- The Restricts of the where clause of a Routine and of a Cluster.
use Rattle.std.proofs.Common.{◌≡◌, ◌∙◌, ℕ, if◌then◌else◌, List, [], Option, Some, refl, ap}
use Rattle.std.specs.Prelude.{slice_get}
use Rattle.clu_tree.specs.declared.node.Node.{Node}
use Rattle.clu_tree.specs.declared.node.NodeKind.{NodeKind}
use Rattle.clu_tree.specs.declared.node.NodeKind.TheVariants as kind
use Rattle.clu_tree.specs.Nodes.{IsTree}
use Rattle.clu_parser.specs.Shape.{HaveForms}
use Rattle.clu_syntax.specs.Splits.{is_of, leading, after_run, parts, after_one}
use Rattle.clu_syntax.specs.Items.{Item, restrictions_at}
use Rattle.clu_syntax.specs.Nodes.{before, item_at, routine_of, cluster_of}
use Rattle.clu_declares.proofs.Below.{item_there}
use Rattle.clu_settle.proofs.Shapes.{AreParts, AreBefore, children_before, before_dropped, before_after_one, parts_of_first, run_parts, all_before}
use Rattle.clu_head.specs.Asking.{restrictions_in, restricts_in, routine_restrictions, cluster_restrictions}
use Rattle.clu_head.specs.There.{is_there}

module _ (nodes : List Node) (tree : IsTree nodes) (shaped : HaveForms nodes) where
  parts_are : (n : ℕ) (rest : List ℕ) → AreBefore n rest → AreParts nodes (is_of kind.Restrict) n (restricts_in nodes rest)
  parts_are n rest l =
      run_parts nodes kind.Restrict n (parts nodes kind.Where rest)
      (all_before nodes (is_of kind.Restrict) n (parts nodes kind.Where rest) (parts_of_first nodes tree shaped kind.Where (is_of kind.Restrict) refl n rest l))

  module _ (n : ℕ) (node : Node) (at : slice_get nodes n ≡ Some node) where
    parms : AreBefore n (after_run nodes kind.Parm node.children)
    parms = before_dropped nodes n (leading nodes kind.Parm node.children) node.children (children_before nodes tree shaped n node at)

    restrictions_of : (k : NodeKind) → node.kind ≡ k → restrictions_in nodes (slice_get nodes n) ≡ (if is_of kind.Routine k then routine_restrictions nodes (Some node) else if is_of kind.Cluster k then cluster_restrictions nodes (Some node) else [])
    unfolding restrictions_in
    restrictions_of k is =
        ap (λ (o : Option Node). if is_there kind.Routine o then routine_restrictions nodes o else if is_there kind.Cluster o then cluster_restrictions nodes o else []) at
        ∙ ap (λ (j : NodeKind). if is_of kind.Routine j then routine_restrictions nodes (Some node) else if is_of kind.Cluster j then cluster_restrictions nodes (Some node) else []) is

    -- ---- of a routine

    abbrev behind_arguments : List ℕ
    behind_arguments = after_run nodes kind.Decl (after_run nodes kind.Parm node.children)

    abbrev pub routine_clause : List ℕ
    routine_clause = restricts_in nodes (after_one nodes kind.Signals (after_one nodes kind.Results behind_arguments))

    pub routine_parts : AreParts nodes (is_of kind.Restrict) n routine_clause
    routine_parts =
        let decls : AreBefore n behind_arguments = before_dropped nodes n (leading nodes kind.Decl (after_run nodes kind.Parm node.children)) (after_run nodes kind.Parm node.children) parms in
        parts_are n (after_one nodes kind.Signals (after_one nodes kind.Results behind_arguments)) (before_after_one nodes kind.Signals n (after_one nodes kind.Results behind_arguments) (before_after_one nodes kind.Results n behind_arguments decls))

    pub routine_restricts : node.kind ≡ kind.Routine → restrictions_in nodes (slice_get nodes n) ≡ routine_clause
    routine_restricts is = restrictions_of kind.Routine is

    pub routine_asks : node.kind ≡ kind.Routine → (item_at nodes n).routine.restrictions ≡ restrictions_at (before n (item_at nodes)) routine_clause
    routine_asks is = ap (λ (i : Item). i.routine.restrictions) (item_there nodes n node at) ∙ ap (λ (j : NodeKind). (routine_of (before n (item_at nodes)) nodes n node j).restrictions) is

    -- ---- of a cluster

    abbrev pub cluster_clause : List ℕ
    cluster_clause = restricts_in nodes (after_run nodes kind.Parm node.children)

    pub cluster_parts : AreParts nodes (is_of kind.Restrict) n cluster_clause
    cluster_parts = parts_are n (after_run nodes kind.Parm node.children) parms

    pub cluster_restricts : node.kind ≡ kind.Cluster → restrictions_in nodes (slice_get nodes n) ≡ cluster_clause
    cluster_restricts is = restrictions_of kind.Cluster is

    pub cluster_asks : node.kind ≡ kind.Cluster → (item_at nodes n).cluster.restrictions ≡ restrictions_at (before n (item_at nodes)) cluster_clause
    cluster_asks is = ap (λ (i : Item). i.cluster.restrictions) (item_there nodes n node at) ∙ ap (λ (j : NodeKind). (cluster_of (before n (item_at nodes)) nodes n node j).restrictions) is
