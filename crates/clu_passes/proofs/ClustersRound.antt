-- The cluster that surrounds a node is one, and so is the routine.
use Rattle.std.proofs.Common.{◌≡◌, ◌∙◌, ℕ, zero, suc, ◌+◌, ◌<◌, ◌≤◌, Bool, true, false, List, [], ◌∷◌, length, get_or, map, Option, Some, None, refl, sym, ap, subst, arith}
use Rattle.std.specs.Prelude.{Contains, slice_get}
use Rattle.std.proofs.lemmas.Bool.{true≢false}
use Rattle.std.proofs.lemmas.List.{get_or_past}
use Rattle.std.proofs.lemmas.Option.{none-some, same_Some}
use Rattle.clu_tree.specs.declared.node.Node.{Node}
use Rattle.clu_tree.specs.declared.node.NodeKind.{NodeKind}
use Rattle.clu_tree.specs.declared.node.NodeKind.TheVariants as kind
use Rattle.clu_tree.specs.Nodes.{IsTree}
use Rattle.clu_syntax.specs.declared.bodies.Part.{Part}
use Rattle.clu_syntax.specs.declared.round.Round.{Round}
use Rattle.clu_syntax.specs.Bodies.{first_part}
use Rattle.clu_syntax.specs.Kinds.{kind_of, kind_at}
use Rattle.clu_syntax.specs.Rounds.{AreRounds, outside, round_at, cluster_in, rounds_in, child_round, child_part}
use Rattle.clu_syntax.specs.Splits.{is_of}
use Rattle.clu_head.specs.There.{is_there}
use Rattle.clu_checking.specs.Files.{File}
use Rattle.clu_declares.proofs.Below.{same_kind}
use Rattle.clu_passes.specs.Demands.{AreOfKinds}
use Rattle.clu_passes.proofs.Surrounding as routines

module _ (nodes : List Node) (rounds : List Round) where
  abbrev is_cluster : ℕ → Bool
  is_cluster c = is_there kind.Cluster (slice_get nodes c)

  abbrev Stands : ℕ → Type 0
  Stands n = (c : ℕ) → (round_at rounds n).cluster ≡ Some c → is_cluster c ≡ true

  outside_stands : (n : ℕ) → round_at rounds n ≡ outside → Stands n
  outside_stands n is = λ c has. absurd (none-some c (sym (ap (λ (round : Round). round.cluster) is) ∙ has))

  -- ---- the children of a node

  module _ (n : ℕ) (node : Node) (at : slice_get nodes n ≡ Some node) (stands : Stands n) where
    of_kind : (k : NodeKind) → node.kind ≡ k → (c : ℕ) → cluster_in k n (round_at rounds n) ≡ Some c → is_cluster c ≡ true
    of_kind kind.Cluster is = λ c has. subst (λ (m : ℕ). is_cluster m ≡ true) (same_Some n c has) (ap (is_there kind.Cluster) at ∙ ap (is_of kind.Cluster) is)
    of_kind _ is = stands

    child_stands : (m : ℕ) (its : Option Node) (first : ℕ) (part : Part) → round_at rounds m ≡ child_round nodes n node its (round_at rounds n) first part → Stands m
    child_stands m None first part is = outside_stands m is
    child_stands m (Some child) first part is = λ c has. of_kind node.kind refl c (sym (ap (λ (round : Round). round.cluster) is) ∙ has)

    all_stand : (before : Part) (first : ℕ) (cs : List ℕ) → map (round_at rounds) cs ≡ rounds_in nodes n node (round_at rounds n) before first cs → (k : ℕ) → k < length cs → (d : ℕ) → Stands (get_or cs k d)
    unfolding rounds_in
    all_stand before first [] e k l d = absurd (omega (arith, l))
    all_stand before first (c ∷ cs) e zero l d =
        let part : Part = child_part nodes node (slice_get nodes c) before first (c ∷ cs) in
        let head : round_at rounds c ≡ child_round nodes n node (slice_get nodes c) (round_at rounds n) first part = cc in
        child_stands c (slice_get nodes c) first part head
    all_stand before first (c ∷ cs) e (suc k) l d =
        let part : Part = child_part nodes node (slice_get nodes c) before first (c ∷ cs) in
        let tail : map (round_at rounds) cs ≡ rounds_in nodes n node (round_at rounds n) part (c + 1) cs = cc in
        all_stand part (c + 1) cs tail k (omega (arith, l)) d

  -- ---- all nodes, from the last one down

  module _ (tree : IsTree nodes) (are : AreRounds nodes rounds) where
    by_parent : (m : ℕ) → ((n : ℕ) → m < n → Stands n) → (n : ℕ) (node : Node) → slice_get nodes n ≡ Some node → Contains node.children m → Stands m
    by_parent m after n node at has =
        let below : get_or node.children has.0 m < n = tree.below n node at has.0 m has.1 in
        let stands : Stands n = after n (omega (arith, below, has.2)) in
        subst Stands has.2 (all_stand n node at stands (first_part nodes node (round_at rounds n).first) (round_at rounds n).first node.children (are.children_are n node at) has.0 has.1 m)

    one_stands : (m : ℕ) → ((n : ℕ) → m < n → Stands n) → Stands m
    one_stands m after = λ c has. by c has (is_cluster c) refl
      where
        by : (c : ℕ) → (round_at rounds m).cluster ≡ Some c → (is : Bool) → is_cluster c ≡ is → is_cluster c ≡ true
        by c has true is = is
        by c has false is = outside_stands m (are.roots_are m (λ n node at child. true≢false (sym (by_parent m after n node at child c has) ∙ is))) c has

    -- where at most k nodes come from it on
    from_end : (k m : ℕ) → length nodes ≤ m + k → Stands m
    from_end zero m l = outside_stands m (get_or_past rounds m outside (omega (arith, are.size, l)))
    from_end (suc k) m l = one_stands m (λ n less. from_end k n (omega (arith, l, less)))

    pub stand : (m : ℕ) → Stands m
    stand m = from_end (length nodes) m (omega arith)

pub there_kind : (nodes : List Node) (k : NodeKind) (n : ℕ) → is_there k (slice_get nodes n) ≡ true → kind_at nodes n ≡ k
there_kind nodes k n is = by (slice_get nodes n) refl is
  where
    by : (o : Option Node) → slice_get nodes n ≡ o → is_there k o ≡ true → kind_at nodes n ≡ k
    by (Some node) at is = ap kind_of at ∙ same_kind k node.kind is
    by None at is = absurd (true≢false (sym is))

pub of_kinds : (f : File) → IsTree f.nodes → AreRounds f.nodes f.rounds → AreOfKinds f
of_kinds f tree are = record {
  routines = λ n c has. there_kind f.nodes kind.Routine c (routines.stand f.nodes f.rounds tree are n c has);
  clusters = λ n c has. there_kind f.nodes kind.Cluster c (stand f.nodes f.rounds tree are n c has);
}
