-- What stands in a routine stands in its cluster; and a node round which a routine stands, in that.
use Rattle.std.proofs.Common.{◌≡◌, ◌∙◌, ℕ, zero, suc, ◌+◌, ◌-◌, ◌<◌, ◌≤◌, ◌⊎◌, ◌||◌, true, false, length, Option, Some, None, inl, inr, refl, sym, ap, subst, arith}
use Rattle.std.specs.Prelude.{slice_get}
use Rattle.std.proofs.lemmas.Bool.{true≢false, cases_lt}
use Rattle.std.proofs.lemmas.Option.{none-some, same_Some}
use Rattle.clu_tree.specs.declared.node.Node.{Node}
use Rattle.clu_tree.specs.declared.node.NodeKind.{NodeKind}
use Rattle.clu_tree.specs.declared.node.NodeKind.TheVariants as kind
use Rattle.clu_parser.specs.Shape.{forms}
use Rattle.clu_syntax.specs.declared.round.Round.{Round}
use Rattle.clu_syntax.specs.Kinds.{kind_of}
use Rattle.clu_syntax.specs.Rounds.{cluster_in, routine_in}
use Rattle.clu_syntax.specs.Splits.{is_of}
use Rattle.clu_checking.specs.Files.{File, kind_in, round}
use Rattle.clu_declares.proofs.Below.{same_kind}
use Rattle.clu_declares.proofs.Parents.{HasParent, has_parent, kind_of_child, no_form}
use Rattle.clu_passes.specs.Losing.{is_plain}
use Rattle.clu_passes.specs.Notes.{HaveParents}
use Rattle.clu_passes.specs.Trees.{IsFileOfTree}
use Rattle.clu_passes.proofs.CvtPlaces.{HasParentIn, parent_in}
use Rattle.clu_passes.proofs.OthersRounds.{IsRoundIn, root_outside, round_of}
use Rattle.clu_passes.proofs.RefusedBelow.{IsAlike, alike_to, begins_in}
use Rattle.clu_passes.proofs.Subtrees.{firsts_of, is_subtree}
use Rattle.clu_passes.proofs.ValuesKnown.{IsBelow, child_below}

-- ---- kinds

plain_below : (k : NodeKind) → (is_plain k || no_form (forms kind.Routine) k) ≡ true
unfolding no_form
plain_below kind.File = refl
plain_below _ = refl

routine_plain : (k : NodeKind) (p : ℕ) (r : Round) → is_plain k ≡ true → routine_in k p r ≡ r.routine
routine_plain kind.Routine p r e = absurd (true≢false (sym e))
routine_plain kind.File p r e = absurd (true≢false (sym e))
routine_plain _ p r e = refl

cluster_plain : (k : NodeKind) (p : ℕ) (r : Round) → is_plain k ≡ true → cluster_in k p r ≡ r.cluster
cluster_plain kind.Cluster p r e = absurd (true≢false (sym e))
cluster_plain kind.File p r e = absurd (true≢false (sym e))
cluster_plain _ p r e = refl

-- of a child the routine is its parent, or that of its parent
of_parent : (k : NodeKind) (p r : ℕ) (its : Round) → routine_in k p its ≡ Some r → ((is_of kind.Routine k ≡ true) × (p ≡ r)) ⊎ (its.routine ≡ Some r)
of_parent kind.Routine p r its e = inl (refl, same_Some p r e)
of_parent kind.File p r its e = inr e
of_parent _ p r its e = inr e

module _ (f : File) (of : IsFileOfTree f) (parents : HaveParents f) where
  -- ---- below a routine

  pub record IsInRoutine (r c : ℕ) : Type 0 where
    pub plain : is_plain (kind_in f c) ≡ true
    pub routine : (round f c).routine ≡ Some r
    pub cluster : (round f c).cluster ≡ (round f r).cluster

  module _ (r : ℕ) (node : Node) (at : slice_get f.nodes r ≡ Some node) (is : node.kind ≡ kind.Routine) where
    below_by : (d c : ℕ) → (round f r).first ≤ c → c < r → r ≤ c + d → IsInRoutine r c
    below_by zero c low less near = absurd (omega (arith, less, near))
    below_by (suc d) c low less near = by (parent_in f of r node at c low less) (below_by d)
      where
        by : HasParentIn f of (round f r).first r c → ((p : ℕ) → (round f r).first ≤ p → p < r → r ≤ p + d → IsInRoutine r p) → IsInRoutine r c
        by q goes =
            let p : ℕ = q.parent_is.parent in
            let x : IsRoundIn f of parents p q.parent_is.node c = round_of f of parents p q.parent_is.node q.parent_is.at c q.parent_is.child in
            let b : IsBelow f of p c = child_below f of p q.parent_is.node q.parent_is.at c q.parent_is.child in
            let under : c < p = b.less in
            let above : (round f r).first ≤ p = q.above in
            let below_it : p ≤ r = q.below_it in
            elim (cases_lt p r) [
              | inl inner ↦
                  let its : IsInRoutine r p = goes p above inner (omega (arith, near, under)) in
                  let its_plain : is_plain q.parent_is.node.kind ≡ true = ap is_plain (sym (ap kind_of q.parent_is.at)) ∙ its.plain in
                  let alike : IsAlike f of p q.parent_is.node q.parent_is.at its_plain c = alike_to f of p q.parent_is.node q.parent_is.at its_plain p c b.least b.less (omega arith) in
                  record {
                    plain = alike.its_kind;
                    routine = ap (λ (its : Round). its.routine) x.is ∙ routine_plain q.parent_is.node.kind p (round f p) its_plain ∙ its.routine;
                    cluster = ap (λ (its : Round). its.cluster) x.is ∙ cluster_plain q.parent_is.node.kind p (round f p) its_plain ∙ its.cluster;
                  }
              | inr outer ↦
                  let same : p ≡ r = omega (arith, outer, below_it) in
                  let routine : q.parent_is.node.kind ≡ kind.Routine = sym (ap kind_of q.parent_is.at) ∙ ap (kind_in f) same ∙ ap kind_of at ∙ is in
                  record {
                    plain =
                        kind_of_child f.nodes of.tree p q.parent_is.node q.parent_is.at (of.shaped p q.parent_is.node q.parent_is.at) c q.parent_is.child is_plain
                        (λ j. ap (λ (i : NodeKind). is_plain j || no_form (forms i) j) routine ∙ plain_below j);
                    routine = ap (λ (its : Round). its.routine) x.is ∙ ap (λ (i : NodeKind). routine_in i p (round f p)) routine ∙ ap (λ (m : ℕ). Some m) same;
                    cluster = ap (λ (its : Round). its.cluster) x.is ∙ ap (λ (i : NodeKind). cluster_in i p (round f p)) routine ∙ ap (λ (m : ℕ). (round f m).cluster) same;
                  }
            ]

    pub in_routine : (c : ℕ) → (round f r).first ≤ c → c < r → IsInRoutine r c
    in_routine c low less = below_by r c low less (omega arith)

    pub begins_inside : (c : ℕ) → (round f r).first ≤ c → c < r → (round f r).first ≤ (round f c).first
    begins_inside = begins_in f of (round f r).first r node.children (is_subtree f.nodes f.rounds of.tree of.surrounded of.ordered r node at) (firsts_of f.nodes f.rounds of.tree of.surrounded r node at)

  -- ---- round a node

  pub record HasRoutine (n r : ℕ) : Type 0 where
    pub node : Node
    pub at : slice_get f.nodes r ≡ Some node
    pub is : node.kind ≡ kind.Routine
    pub low : (round f r).first ≤ n
    pub less : n < r

  round_by : (d n r : ℕ) → length f.nodes ≤ n + d → (round f n).routine ≡ Some r → HasRoutine n r
  round_by zero n r near has = absurd (none-some r (sym (root_outside f of parents n (omega (arith, near))) ∙ has))
  round_by (suc d) n r near has = elim (cases_lt n (length f.nodes - 1)) [
    | inl less ↦ by (has_parent f.nodes of.ordered n less) (round_by d)
    | inr more ↦ absurd (none-some r (sym (root_outside f of parents n more) ∙ has))
  ]
    where
      by : HasParent f.nodes n → ((m r : ℕ) → length f.nodes ≤ m + d → (round f m).routine ≡ Some r → HasRoutine m r) → HasRoutine n r
      by q goes =
          let x : IsRoundIn f of parents q.parent q.node n = round_of f of parents q.parent q.node q.at n q.child in
          let b : IsBelow f of q.parent n = child_below f of q.parent q.node q.at n q.child in
          let under : n < q.parent = b.less in
          elim (of_parent q.node.kind q.parent r (round f q.parent) (sym (ap (λ (its : Round). its.routine) x.is) ∙ has)) [
            | inl here ↦
                let same : q.parent ≡ r = here.1 in
                let low : (round f q.parent).first ≤ n = b.least in
                record {
                  node = q.node;
                  at = ap (slice_get f.nodes) (sym same) ∙ q.at;
                  is = same_kind kind.Routine q.node.kind here.0;
                  low = subst (λ (m : ℕ). (round f m).first ≤ n) same low;
                  less = omega (arith, same, under);
                }
            | inr higher ↦
                let up : HasRoutine q.parent r = goes q.parent r (omega (arith, near, under)) higher in
                let low : (round f r).first ≤ (round f q.parent).first = begins_inside r up.node up.at up.is q.parent up.low up.less in
                let least : (round f q.parent).first ≤ n = b.least in
                let less : q.parent < r = up.less in
                record { node = up.node; at = up.at; is = up.is; low = omega (arith, low, least); less = omega (arith, under, less) }
          ]

  pub routine_round : (n r : ℕ) → (round f n).routine ≡ Some r → HasRoutine n r
  routine_round n r has = round_by (length f.nodes) n r (omega arith) has
