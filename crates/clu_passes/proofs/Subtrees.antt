-- The nodes from the first of a node up to it are those of its tree, so what each node passes to its children holds of them.
use Rattle.std.proofs.Common.{◌≡◌, ◌∙◌, ℕ, ◌+◌, ◌-◌, ◌<◌, ◌≤◌, Bool, true, List, [], ◌∷◌, length, map, Option, Some, inl, inr, sym, ap, subst, arith}
use Rattle.std.specs.Prelude.{slice_get}
use Rattle.std.specs.List.{AllByRecursion}
use Rattle.std.proofs.lemmas.Bool.{cases_lt}
use Rattle.std.proofs.lemmas.Option.{same_Some, slice_get_within}
use Rattle.clu_tree.specs.declared.node.Node.{Node}
use Rattle.clu_tree.specs.declared.node.NodeKind.{NodeKind}
use Rattle.clu_tree.specs.Nodes.{IsTree}
use Rattle.clu_parser.specs.Order.{IsForest, none, tree, IsPostOrder}
use Rattle.clu_syntax.specs.declared.bodies.Part.{Part}
use Rattle.clu_syntax.specs.declared.round.Round.{Round}
use Rattle.clu_syntax.specs.Kinds.{kind_at, kind_of}
use Rattle.clu_syntax.specs.Rounds.{AreRounds, round_at, rounds_in, child_round, child_part}
use Rattle.clu_syntax.specs.Bodies.{first_part}
use Rattle.clu_parts.proofs.Fitting.{AreBefore, children_before}
use Rattle.clu_declares.proofs.Around.{there}
use Rattle.clu_declares.proofs.Facts.{further}
use Rattle.clu_passes.proofs.RightSides.{no_parent}

-- each begins after the one before it
abbrev pub AreFirst : List Round → ℕ → List ℕ → Type 0
AreFirst rounds first [] = Unit {0}
AreFirst rounds first (c ∷ cs) = ((round_at rounds c).first ≡ first) × AreFirst rounds (c + 1) cs

module _ (nodes : List Node) (rounds : List Round) (n : ℕ) (node : Node) where
  firsts_in : (before : Part) (first : ℕ) (cs : List ℕ) → AreBefore (length nodes) cs → map (round_at rounds) cs ≡ rounds_in nodes n node (round_at rounds n) before first cs → AreFirst rounds first cs
  unfolding rounds_in
  firsts_in before first [] l e = tt
  firsts_in before first (c ∷ cs) l e =
      let part : Part = child_part nodes node (slice_get nodes c) before first (c ∷ cs) in
      let head : round_at rounds c ≡ child_round nodes n node (slice_get nodes c) (round_at rounds n) first part = cc in
      let tail : map (round_at rounds) cs ≡ rounds_in nodes n node (round_at rounds n) part (c + 1) cs = cc in
      let m = there nodes c l.0 in
      let its : round_at rounds c ≡ child_round nodes n node (Some m.0) (round_at rounds n) first part = head ∙ ap (λ (o : Option Node). child_round nodes n node o (round_at rounds n) first part) m.1 in
      (ap (λ (r : Round). r.first) its, firsts_in part (c + 1) cs l.1 tail)

module _ (nodes : List Node) (rounds : List Round) (is_tree : IsTree nodes) (are : AreRounds nodes rounds) where
  pub firsts_of : (n : ℕ) (node : Node) → slice_get nodes n ≡ Some node → AreFirst rounds (round_at rounds n).first node.children
  firsts_of n node at =
      let inside : n < length nodes = slice_get_within nodes n node at in
      firsts_in nodes rounds n node (first_part nodes node (round_at rounds n).first) (round_at rounds n).first node.children
      (further n (length nodes) node.children (omega (arith, inside)) (children_before nodes is_tree n node at)) (are.children_are n node at)

  of_forest : (from to : ℕ) (roots : List ℕ) → IsForest nodes from roots to → AreFirst rounds from roots → (n : ℕ) (node : Node) → slice_get nodes n ≡ Some node → from ≤ n → n < to → IsForest nodes (round_at rounds n).first node.children n
  of_forest from to _ (none _) firsts n node at l m = absurd (omega (arith, l, m))
  of_forest from to _ (tree _ root _ its roots here inside behind) firsts n node at l m = elim (cases_lt n root) [
    | inl less ↦ of_forest from root its.children inside (subst (λ (first : ℕ). AreFirst rounds first its.children) firsts.0 (firsts_of root its here)) n node at l less
    | inr upto ↦ elim (cases_lt root n) [
      | inl after ↦ of_forest (root + 1) to roots behind firsts.1 n node at (omega (arith, after)) m
      | inr back ↦
          let same : root ≡ n = omega (arith, upto, back) in
          let alike : its ≡ node = same_Some its node (sym here ∙ ap (slice_get nodes) same ∙ at) in
          let first : (round_at rounds n).first ≡ from = ap (λ (k : ℕ). (round_at rounds k).first) (sym same) ∙ firsts.0 in
          subst (λ (k : ℕ). IsForest nodes k node.children n) (sym first) (subst (λ (m : Node). IsForest nodes from m.children n) alike (subst (λ (k : ℕ). IsForest nodes from its.children k) same inside))
    ]
  ]

  -- the nodes below a node are the trees of its children
  pub is_subtree : IsPostOrder nodes → (n : ℕ) (node : Node) → slice_get nodes n ≡ Some node → IsForest nodes (round_at rounds n).first node.children n
  is_subtree order n node at =
      let inside : n < length nodes = slice_get_within nodes n node at in
      let alone : (round_at rounds (length nodes - 1)).first ≡ 0 = ap (λ (r : Round). r.first) (are.roots_are (length nodes - 1) (no_parent nodes is_tree (length nodes - 1) (omega arith))) in
      of_forest 0 (length nodes) ((length nodes - 1) ∷ []) order (alone, tt) n node at (omega arith) inside

-- of kinds that pass the test, as long as the children of each are of such kinds
module _ (nodes : List Node) (test : NodeKind → Bool) where
  abbrev pub Pass : List ℕ → Type 0
  Pass cs = AllByRecursion (λ (c : ℕ). test (kind_at nodes c) ≡ true) cs

  pub all_pass : ((i : ℕ) (its : Node) → slice_get nodes i ≡ Some its → test its.kind ≡ true → Pass its.children) → (from to : ℕ) (roots : List ℕ) → IsForest nodes from roots to → Pass roots → (n : ℕ) → from ≤ n → n < to → test (kind_at nodes n) ≡ true
  all_pass closed from to _ (none _) pass n l m = absurd (omega (arith, l, m))
  all_pass closed from to _ (tree _ root _ its roots here inside behind) pass n l m = elim (cases_lt n root) [
    | inl less ↦ all_pass closed from root its.children inside (closed root its here (sym (ap (λ (o : Option Node). test (kind_of o)) here) ∙ pass.0)) n l less
    | inr upto ↦ elim (cases_lt root n) [
      | inl after ↦ all_pass closed (root + 1) to roots behind pass.1 n (omega (arith, after)) m
      | inr back ↦ let same : root ≡ n = omega (arith, upto, back) in subst (λ (k : ℕ). test (kind_at nodes k) ≡ true) same pass.0
    ]
  ]
