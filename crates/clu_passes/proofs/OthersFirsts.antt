-- What stands first in a Tagcase or an Except stands before its arms, and in no heading.
use Rattle.std.proofs.Common.{◌≡◌, ◌∙◌, ◌⊎◌, ℕ, ◌<◌, ◌≤◌, true, false, List, ◌∷◌, drop, get_or, Some, inl, inr, refl, sym, ap, subst, arith}
use Rattle.std.specs.Prelude.{slice_get}
use Rattle.std.proofs.lemmas.Bool.{true≢false}
use Rattle.std.proofs.lemmas.Option.{same_Some}
use Rattle.clu_tree.specs.declared.node.Node.{Node}
use Rattle.clu_tree.specs.declared.node.NodeKind.{NodeKind}
use Rattle.clu_tree.specs.declared.node.NodeKind.TheVariants as kind
use Rattle.clu_syntax.specs.Kinds.{kind_of}
use Rattle.clu_syntax.specs.Splits.{child}
use Rattle.clu_checking.specs.Files.{File, children, kind_in, node_children, parent, round}
use Rattle.clu_declares.proofs.Parents.{IsIn}
use Rattle.clu_passes.specs.Bound.{has_arms}
use Rattle.clu_passes.specs.Clear.{IsOutside}
use Rattle.clu_passes.specs.Losing.{is_plain}
use Rattle.clu_passes.specs.Notes.{HaveParents}
use Rattle.clu_passes.specs.Trees.{IsFileOfTree}
use Rattle.clu_passes.proofs.OfParents.{has_it}
use Rattle.clu_passes.proofs.OthersRounds.{HasParentNode, parent_node}
use Rattle.clu_passes.proofs.RefusedBelow.{IsAlike, alike_to}
use Rattle.clu_passes.proofs.ValuesKnown.{IsAfter, IsBelow, behind_first, child_below}

arms_plain : (k : NodeKind) → has_arms k ≡ true → is_plain k ≡ true
arms_plain kind.Tagcase e = refl
arms_plain kind.Except e = refl
arms_plain _ e = absurd (true≢false (sym e))

module _ (f : File) (of : IsFileOfTree f) (parents : HaveParents f) where
  pub record IsNodeSeen (n c : ℕ) : Type 0 where
    pub less : c < n
    pub outside : IsOutside f c
    pub bare : (m : ℕ) → (round f c).first ≤ m → m ≤ c → (round f m).heading ≡ false

  pub first_seen : (n p c : ℕ) (cs : List ℕ) → IsOutside f n → (round f n).heading ≡ false → parent f n ≡ Some p → has_arms (kind_in f p) ≡ true → children f p ≡ c ∷ cs → (c ≡ n) ⊎ IsNodeSeen n c
  first_seen n p c cs outside bare up arms begins = by (subst (IsIn n) its q.child)
    where
      q : HasParentNode f of parents n p
      q = parent_node f of parents n p up

      its : q.node.children ≡ c ∷ cs
      its = sym (ap (node_children f) q.at) ∙ begins

      plain : is_plain q.node.kind ≡ true
      plain = ap is_plain (sym (ap kind_of q.at)) ∙ arms_plain (kind_in f p) arms

      c_is : IsIn c q.node.children
      c_is = subst (IsIn c) (sym its) (inl refl)

      c_below : IsBelow f of p c
      c_below = child_below f of p q.node q.at c c_is

      n_below : IsBelow f of p n
      n_below = child_below f of p q.node q.at n q.child

      n_alike : IsAlike f of p q.node q.at plain n
      n_alike = alike_to f of p q.node q.at plain p n n_below.least n_below.less (omega arith)

      same_parent : parent f n ≡ parent f c
      same_parent = up ∙ sym (parents.above p c (has_it c (children f p) (subst (IsIn c) (sym begins) (inl refl))))

      by : IsIn n (c ∷ cs) → (c ≡ n) ⊎ IsNodeSeen n c
      by (inl same) = inl same
      by (inr behind) =
          let after : IsAfter f of (child 0 q.node) n = behind_first f of p q.node q.at n (subst (IsIn n) (sym (ap (drop 1) its)) behind) in
          let less : child 0 q.node < n = after.itself in
          let first : child 0 q.node ≡ c = ap (λ (xs : List ℕ). get_or xs 0 0) its in
          let low : (round f p).first ≤ (round f c).first = c_below.first in
          let high : c < p = c_below.less in
          inr (record {
            less = omega (arith, less, first);
            outside = record {
              beside = λ x above is. outside.beside x (same_parent ∙ above) is;
              above = λ x y above over is. outside.above x y (same_parent ∙ above) over is;
            };
            bare = λ m from upto.
                let alike : IsAlike f of p q.node q.at plain m = alike_to f of p q.node q.at plain p m (omega (arith, low, from)) (omega (arith, high, upto)) (omega arith) in
                alike.heading ∙ sym n_alike.heading ∙ bare;
          })
