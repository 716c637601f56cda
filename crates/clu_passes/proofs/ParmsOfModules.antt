-- Each Parm of the tree of a text is a parameter of a module.
use Rattle.std.proofs.Common.{◌≡◌, ◌∙◌, ◌⊎◌, ℕ, ◌+◌, ◌-◌, ◌<◌, ◌≤◌, true, List, [], ◌∷◌, length, Option, Some, slice_get, refl, ap, ap₂, sym, subst, inl, inr, arith}
use Rattle.std.proofs.lemmas.Bool.{true≢false, cases_Bool, cases_lt}
use Rattle.std.proofs.lemmas.Option.{same_Some, slice_get_within}
use Rattle.clu_base.proofs.Bools.{second_true}
use Rattle.clu_tree.specs.declared.node.Node.{Node}
use Rattle.clu_tree.specs.declared.node.NodeKind.{NodeKind}
use Rattle.clu_tree.specs.declared.node.NodeKind.TheVariants as kind
use Rattle.clu_parser.specs.Order.{IsForest, none, tree}
use Rattle.clu_parser.specs.Trees.{Text, Built, IsBuilt}
use Rattle.clu_syntax.specs.declared.round.Round.{Round}
use Rattle.clu_syntax.specs.Enough.{least_children}
use Rattle.clu_syntax.specs.Kinds.{kind_at, kind_of}
use Rattle.clu_syntax.specs.Rounds.{AreRounds, round_at}
use Rattle.clu_syntax.specs.Splits.{is_of}
use Rattle.clu_syntax.proofs.Enough.{enough}
use Rattle.clu_names.specs.Scopes.{kind_at_parent}
use Rattle.clu_settle.specs.Parameters.{is_of_module, is_parameter, parent_round}
use Rattle.clu_declares.specs.Declares.{IsParsed}
use Rattle.clu_declares.proofs.Around.{IsAround}
use Rattle.clu_declares.proofs.Below.{same_kind}
use Rattle.clu_declares.proofs.Facts.{around_at}
use Rattle.clu_declares.proofs.Haves.{parent_of}
use Rattle.clu_declares.proofs.Modules.{around_parent}
use Rattle.clu_declares.proofs.Parents.{HasParent, IsIn, module_of_cluster, of_all, round_parm}
use Rattle.clu_passes.specs.Bound.{AreOfModules}
use Rattle.clu_passes.proofs.OuterRows.{built_plain}
use Rattle.clu_passes.proofs.PlainNodes.{ArePlain, IsBeforeModule, IsPlain}

-- ---- the last child of a node comes right before it

no_more : (nodes : List Node) (from to : ℕ) (roots : List ℕ) → IsForest nodes from roots to → roots ≡ [] → to ≡ from
no_more nodes from _ _ (none _) e = refl
no_more nodes from to _ (tree _ root _ n roots at inside behind) e = absurd (cc)

ends_with : (nodes : List Node) (from to : ℕ) (roots : List ℕ) → IsForest nodes from roots to → 1 ≤ length roots → IsIn (to - 1) roots
ends_with nodes from _ _ (none _) some = absurd (omega (arith, some))
ends_with nodes from to _ (tree _ root _ n [] at inside behind) some = let last : to ≡ root + 1 = no_more nodes (root + 1) to [] behind refl in inl (omega (arith, last))
ends_with nodes from to _ (tree _ root _ n (next ∷ roots) at inside behind) some = inr (ends_with nodes (root + 1) to (next ∷ roots) behind (omega arith))

last_inside : (nodes : List Node) (from to : ℕ) (roots : List ℕ) → IsForest nodes from roots to → (d : ℕ) (node : Node) → slice_get nodes d ≡ Some node → from ≤ d → d < to → 1 ≤ length node.children → IsIn (d - 1) node.children
last_inside nodes from _ _ (none _) d node at l m some = absurd (omega (arith, l, m))
last_inside nodes from to _ (tree _ root _ n roots there inside behind) d node at l m some = elim (cases_lt d root) [
  | inl less ↦ last_inside nodes from root n.children inside d node at l less some
  | inr more ↦ elim (cases_lt root d) [
    | inl after ↦ last_inside nodes (root + 1) to roots behind d node at (omega (arith, after)) m some
    | inr upto ↦
        (let same : root ≡ d = omega (arith, more, upto) in
        let its : n ≡ node = same_Some n node (sym there ∙ ap (slice_get nodes) same ∙ at) in
        let own : 1 ≤ length n.children = subst (λ (n : Node). 1 ≤ length n.children) (sym its) some in
        subst (λ (n : Node). IsIn (d - 1) n.children) its (subst (λ (k : ℕ). IsIn (k - 1) n.children) same (ends_with nodes from root n.children inside own)))
  ]
]

module _ (t : Text) (nodes : List Node) (rounds : List Round) (parsed : IsParsed t nodes) (are : AreRounds nodes rounds) where
  -- a routine before a Module stands in it
  before_module : (n : ℕ) → IsBeforeModule nodes n → kind_at_parent nodes (round_at rounds n).parent ≡ kind.Module
  before_module n (m, at, is) =
      let some : least_children m.kind ≤ length m.children = (enough nodes parsed.forms (n + 1) m at).children in
      let same : least_children m.kind ≡ least_children kind.Module = ap least_children is in
      let last : IsIn (n + 1 - 1) m.children = last_inside nodes 0 (length nodes) ((length nodes - 1) ∷ []) parsed.order (n + 1) m at (omega arith) (slice_get_within nodes (n + 1) m at) (omega (arith, some, same)) in
      let itself : n + 1 - 1 ≡ n = omega arith in
      let around : IsAround rounds (n + 1) m n = of_all (IsAround rounds (n + 1) m) n m.children (around_at t nodes rounds parsed are (n + 1) m at) (subst (λ (k : ℕ). IsIn k m.children) itself last) in
      ap (kind_at_parent nodes) around.parent ∙ ap kind_of at ∙ is

  module _ (plain : ArePlain nodes) (n : ℕ) (is : kind_at nodes n ≡ kind.Parm) where
    -- what stands round its routine or cluster is a module
    outer_module : (q : HasParent nodes n) → kind_at_parent nodes (round_at rounds q.parent).parent ≡ kind.Module
    outer_module q = elim (cases_Bool (is_of kind.Routine q.node.kind)) [
      | inl r ↦ of_routine (plain q.parent q.node q.at (same_kind kind.Routine q.node.kind r))
      | inr other ↦ of_cluster (same_kind kind.Cluster q.node.kind (second_true (is_of kind.Routine q.node.kind) (is_of kind.Cluster q.node.kind) (round_parm nodes parsed.tree q.parent q.node q.at (parsed.forms q.parent q.node q.at) n q.child is) other))
    ]
      where
        of_routine : IsPlain nodes q.parent q.node → kind_at_parent nodes (round_at rounds q.parent).parent ≡ kind.Module
        of_routine (inl none_there) =
            let m = none_there n q.child in
            let its : m.0.kind ≡ kind.Parm = sym (ap kind_of m.1) ∙ is in
            absurd (true≢false (sym (ap (is_of kind.Parm) its) ∙ m.2))
        of_routine (inr before) = before_module q.parent before

        of_cluster : q.node.kind ≡ kind.Cluster → kind_at_parent nodes (round_at rounds q.parent).parent ≡ kind.Module
        of_cluster cluster = by (parent_of t nodes rounds parsed are 0 [] q.parent kind.Cluster (ap kind_of q.at ∙ cluster) refl)
          where
            by : HasParent nodes q.parent → kind_at_parent nodes (round_at rounds q.parent).parent ≡ kind.Module
            by r =
                ap (kind_at_parent nodes) (around_parent t nodes rounds parsed are q.parent r).parent ∙ ap kind_of r.at
                ∙ same_kind kind.Module r.node.kind (module_of_cluster nodes parsed.tree r.parent r.node r.at (parsed.forms r.parent r.node r.at) q.parent r.child (ap kind_of q.at ∙ cluster))

    parm_of_module : is_parameter nodes rounds n ≡ true
    parm_of_module = by (parent_of t nodes rounds parsed are 0 [] n kind.Parm is refl)
      where
        by : HasParent nodes n → is_parameter nodes rounds n ≡ true
        by q = ap₂ is_of_module is (ap (λ (o : Option ℕ). kind_at_parent nodes (parent_round rounds o)) (around_parent t nodes rounds parsed are n q).parent ∙ outer_module q)

pub parms_of_modules : (t : Text) (nodes : List Node) (rounds : List Round) → IsParsed t nodes → AreRounds nodes rounds → (z : Built) → IsBuilt t z → z.nodes ≡ nodes → AreOfModules nodes rounds
parms_of_modules t nodes rounds parsed are z built same n is = parm_of_module t nodes rounds parsed are (subst ArePlain same (built_plain t z built)) n is
