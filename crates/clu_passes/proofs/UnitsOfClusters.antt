-- A node that stands in a cluster stands in the module of it, of which the cluster is the last child.
use Rattle.std.proofs.Common.{◌≡◌, ◌∙◌, ℕ, zero, suc, ◌+◌, ◌-◌, ◌<◌, ◌≤◌, Bool, true, false, List, [], ◌∷◌, ◌++◌, length, Option, Some, None, inl, inr, refl, sym, ap, subst, arith}
use Rattle.std.specs.Prelude.{slice_get}
use Rattle.std.proofs.lemmas.Bool.{cases_lt}
use Rattle.std.proofs.lemmas.List.{get_or_past}
use Rattle.std.proofs.lemmas.Option.{none-some, same_Some, slice_get_within}
use Rattle.clu_tree.specs.declared.node.Node.{Node}
use Rattle.clu_tree.specs.declared.node.NodeKind.{NodeKind}
use Rattle.clu_tree.specs.declared.node.NodeKind.TheVariants as kind
use Rattle.clu_parser.specs.Trees.{Text}
use Rattle.clu_syntax.specs.declared.round.Round.{Round}
use Rattle.clu_syntax.specs.Kinds.{kind_at, kind_of}
use Rattle.clu_syntax.specs.Rounds.{AreRounds, cluster_in, outside, round_at, unit_in}
use Rattle.clu_syntax.specs.Splits.{run}
use Rattle.clu_parts.proofs.Fitting.{children_before}
use Rattle.clu_declares.specs.Declares.{IsParsed}
use Rattle.clu_declares.proofs.Around.{IsAround}
use Rattle.clu_declares.proofs.Facts.{ModuleIs, around_at, top, top_alone}
use Rattle.clu_declares.proofs.Haves.{module_of}
use Rattle.clu_declares.proofs.Parents.{HasParent, IsIn, has_parent, in_either, of_all}
use Rattle.clu_passes.proofs.FileModules.{of_root, root}
use Rattle.clu_passes.proofs.HeadingsLost.{run_kind}

module _ (t : Text) (nodes : List Node) (rounds : List Round) (parsed : IsParsed t nodes) (are : AreRounds nodes rounds) where
  around_child : (n : ℕ) (node : Node) → slice_get nodes n ≡ Some node → (c : ℕ) → IsIn c node.children → IsAround rounds n node c
  around_child n node at c i = of_all (IsAround rounds n node) c node.children (around_at t nodes rounds parsed are n node at) i

  -- a Module stands in no cluster
  module_outside : (u : ℕ) (node : Node) → slice_get nodes u ≡ Some node → node.kind ≡ kind.Module → (round_at rounds u).cluster ≡ None
  module_outside u node at is =
      let outer : IsAround rounds (top t nodes rounds parsed are) (root t nodes rounds parsed are) u =
      around_child (top t nodes rounds parsed are) (root t nodes rounds parsed are) parsed.file.1 u (of_root t nodes rounds parsed are u node at is) in
      outer.cluster ∙ ap (λ (k : NodeKind). cluster_in k (top t nodes rounds parsed are) (round_at rounds (top t nodes rounds parsed are))) parsed.file.2
      ∙ ap (λ (r : Round). r.cluster) (are.roots_are (top t nodes rounds parsed are) (top_alone t nodes rounds parsed are))

  -- ---- the module round both is the same

  abbrev Stands : ℕ → Type 0
  Stands n = (c : ℕ) → (round_at rounds n).cluster ≡ Some c → (round_at rounds n).unit ≡ (round_at rounds c).unit

  outside_stands : (n : ℕ) → round_at rounds n ≡ outside → Stands n
  outside_stands n is c has = absurd (none-some c (sym (ap (λ (r : Round). r.cluster) is) ∙ has))

  by_kind : (n : ℕ) (node : Node) → slice_get nodes n ≡ Some node → Stands n → (k : NodeKind) → node.kind ≡ k → (c : ℕ) → cluster_in k n (round_at rounds n) ≡ Some c → unit_in k n (round_at rounds n) ≡ (round_at rounds c).unit
  by_kind n node at stands kind.Module is c has = absurd (none-some c (sym (module_outside n node at is) ∙ has))
  by_kind n node at stands kind.Cluster is c has = ap (λ (m : ℕ). (round_at rounds m).unit) (same_Some n c has)
  by_kind n node at stands kind.File is c has = stands c has
  by_kind n node at stands _ is c has = stands c has

  child_stands : (n : ℕ) (node : Node) → slice_get nodes n ≡ Some node → Stands n → (m : ℕ) → IsIn m node.children → Stands m
  child_stands n node at stands m i c has =
      let a : IsAround rounds n node m = around_child n node at m i in
      a.unit ∙ by_kind n node at stands node.kind refl c (sym a.cluster ∙ has)

  parent_stands : (m : ℕ) (q : HasParent nodes m) → ((n : ℕ) → m < n → Stands n) → Stands m
  parent_stands m q after =
      let less : m < q.parent = of_all (λ (c : ℕ). c < q.parent) m q.node.children (children_before nodes parsed.tree q.parent q.node q.at) q.child in
      child_stands q.parent q.node q.at (after q.parent less) m q.child

  last_stands : (m : ℕ) → length nodes - 1 ≤ m → Stands m
  last_stands m more = elim (cases_lt m (length nodes)) [
    | inl inside ↦ (let same : m ≡ length nodes - 1 = omega (arith, more, inside) in subst Stands (sym same) (outside_stands (length nodes - 1) (are.roots_are (length nodes - 1) (top_alone t nodes rounds parsed are))))
    | inr past ↦ (let size : length rounds ≡ length nodes = are.size in outside_stands m (get_or_past rounds m outside (omega (arith, size, past))))
  ]

  -- where at most k nodes come from it on
  from_end : (k m : ℕ) → length nodes ≤ m + k → Stands m
  from_end zero m l = last_stands m (omega (arith, l))
  from_end (suc k) m l = elim (cases_lt m (length nodes - 1)) [
    | inl less ↦ parent_stands m (has_parent nodes parsed.order m less) (λ n after. from_end k n (omega (arith, l, after)))
    | inr more ↦ last_stands m more
  ]

  -- ---- the module of a cluster

  pub record ModuleOf (c : ℕ) : Type 0 where
    pub unit : ℕ
    pub node : Node
    pub at : slice_get nodes unit ≡ Some node
    pub is : node.kind ≡ kind.Module
    pub child : IsIn c node.children
    pub among : IsIn unit (root t nodes rounds parsed are).children

  pub module_round : (c : ℕ) → kind_at nodes c ≡ kind.Cluster → ModuleOf c
  module_round c is =
      let q = module_of t nodes rounds parsed are 0 [] c is in
      record { unit = q.0.parent; node = q.0.node; at = q.0.at; is = q.1; child = q.0.child; among = of_root t nodes rounds parsed are q.0.parent q.0.node q.0.at q.1 }

  -- the cluster is what it defines
  pub last_cluster : (u : ℕ) (node : Node) (d : ModuleIs t nodes rounds parsed are u node) (c : ℕ) → kind_at nodes c ≡ kind.Cluster → IsIn c node.children → d.last ≡ c
  last_cluster u node d c is i = elim (in_either c (run nodes kind.Equate node.children) (d.last ∷ []) (subst (IsIn c) (sym d.is_last) i)) [
    | inl front ↦ (let never : kind.Equate ≡ kind.Cluster = sym (run_kind nodes kind.Equate c node.children front) ∙ is in absurd (cc))
    | inr behind ↦ elim behind [ inl e ↦ e | inr never ↦ absurd never ]
  ]

  pub unit_round : (n c : ℕ) → (round_at rounds n).cluster ≡ Some c → (m : ModuleOf c) → (round_at rounds n).unit ≡ Some m.unit
  unit_round n c has m =
      let a : IsAround rounds m.unit m.node c = around_child m.unit m.node m.at c m.child in
      from_end (length nodes) n (omega arith) c has ∙ a.unit ∙ ap (λ (k : NodeKind). unit_in k m.unit (round_at rounds m.unit)) m.is
