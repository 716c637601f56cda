-- Before which nodes no type is refused, of those that stand in a node in which none is refused before them.
use Rattle.std.proofs.Common.{◌≡◌, ◌∙◌, ℕ, ◌<◌, ◌≤◌, ◌||◌, not, Bool, true, false, length, Option, Some, None, inl, inr, refl, sym, ap, subst, arith}
use Rattle.std.specs.Prelude.{slice_get}
use Rattle.std.proofs.lemmas.Bool.{true≢false, cases_lt}
use Rattle.std.proofs.lemmas.Option.{same_Some, slice_get_within}
use Rattle.clu_tree.specs.declared.node.Node.{Node}
use Rattle.clu_tree.specs.declared.node.NodeKind.{NodeKind}
use Rattle.clu_tree.specs.declared.node.NodeKind.TheVariants as kind
use Rattle.clu_parser.specs.Shape.{forms}
use Rattle.clu_syntax.specs.Kinds.{kind_at, kind_of}
use Rattle.clu_syntax.specs.Splits.{is_of}
use Rattle.clu_checking.specs.Files.{File, is_kind, kind_in, node_children, parent, round}
use Rattle.clu_declares.proofs.Parents.{IsIn, kind_of_child, no_form}
use Rattle.clu_passes.specs.Clear.{IsFrom, IsOutside}
use Rattle.clu_passes.specs.Notes.{HaveParents, has}
use Rattle.clu_passes.specs.Trees.{IsFileOfTree}
use Rattle.clu_passes.proofs.CvtPlaces.{HasParentIn, parent_in, parent_told}
use Rattle.clu_passes.proofs.OfParents.{is_in}
use Rattle.clu_passes.proofs.RefusedBelow.{begins_in}
use Rattle.clu_passes.proofs.StepsEnough.{equate_there}
use Rattle.clu_passes.proofs.Subtrees.{firsts_of, is_subtree}

pub no_equate_in : (k : NodeKind) → (not (is_of kind.Equate k) || no_form (forms kind.Index) k) ≡ true
unfolding no_form
no_equate_in kind.Equate = refl
no_equate_in kind.File = refl
no_equate_in _ = refl

pub no_declaration_in : (k : NodeKind) → (not (is_of kind.Decl k) || no_form (forms kind.Index) k) ≡ true
unfolding no_form
no_declaration_in kind.Decl = refl
no_declaration_in kind.File = refl
no_declaration_in _ = refl

not_true : (b : Bool) → not b ≡ true → b ≡ true → ⊥
not_true true e h = true≢false (sym e)
not_true false e h = true≢false (sym h)

module _ (f : File) (of : IsFileOfTree f) where
  module _ (top : ℕ) (node : Node) (at : slice_get f.nodes top ≡ Some node) where
    begins : (c : ℕ) → (round f top).first ≤ c → c < top → (round f top).first ≤ (round f c).first
    begins = begins_in f of (round f top).first top node.children (is_subtree f.nodes f.rounds of.tree of.surrounded of.ordered top node at) (firsts_of f.nodes f.rounds of.tree of.surrounded top node at)

    -- the node or one below it
    begins_upto : (c : ℕ) → (round f top).first ≤ c → c ≤ top → (round f top).first ≤ (round f c).first
    begins_upto c low high = elim (cases_lt c top) [
      | inl less ↦ begins c low less
      | inr more ↦ let same : c ≡ top = omega (arith, high, more) in subst (λ (x : ℕ). (round f top).first ≤ (round f x).first) (sym same) (omega arith)
    ]

    record IsParentIn (c p : ℕ) : Type 0 where
      least : (round f top).first ≤ p
      most : p ≤ top

    parent_there : (c p : ℕ) → (round f top).first ≤ c → c < top → parent f c ≡ Some p → IsParentIn c p
    parent_there c p low less up =
        let x : HasParentIn f of (round f top).first top c = parent_in f of top node at c low less in
        let same : x.parent_is.parent ≡ p = same_Some x.parent_is.parent p (sym (parent_told f of c x.parent_is) ∙ up) in
        let least : (round f top).first ≤ x.parent_is.parent = x.above in
        let most : x.parent_is.parent ≤ top = x.below_it in
        record { least = omega (arith, same, least); most = omega (arith, same, most) }

    -- of a node below one that stands in no brackets
    pub from_below : ((q : ℕ) → parent f top ≡ Some q → kind_in f q ≡ kind.Index → ⊥) → (n : ℕ) → (round f top).first ≤ n → n < top → IsFrom f (round f top).first n
    from_below outside n low less = record {
      own = begins n low less;
      brackets = λ p up is. let x : IsParentIn n p = parent_there n p low less up in begins_upto p x.least x.most;
      above = λ p q up over is. let x : IsParentIn n p = parent_there n p low less up in elim (cases_lt p top) [
        | inl inner ↦ (let y : IsParentIn p q = parent_there p q x.least inner over in begins_upto q y.least y.most)
        | inr outer ↦
            (let most : p ≤ top = x.most in
            let same : p ≡ top = omega (arith, outer, most) in
            absurd (outside q (sym (ap (parent f) same) ∙ over) is))
      ];
    }

    -- and of that one
    pub from_upto : IsOutside f top → (n : ℕ) → (round f top).first ≤ n → n ≤ top → IsFrom f (round f top).first n
    from_upto outside n low high = elim (cases_lt n top) [
      | inl less ↦ from_below outside.beside n low less
      | inr more ↦
          let same : top ≡ n = omega (arith, high, more) in
          record {
            own = subst (λ (x : ℕ). (round f top).first ≤ (round f x).first) same (omega arith);
            brackets = λ p up is. absurd (outside.beside p (ap (parent f) same ∙ up) is);
            above = λ p q up over is. absurd (outside.above p q (ap (parent f) same ∙ up) over is);
          }
    ]

  -- what may not stand in brackets does not
  pub outside_brackets : HaveParents f → (k : NodeKind) → ((j : NodeKind) → (not (is_of k j) || no_form (forms kind.Index) j) ≡ true) → (e : ℕ) → is_kind f k e ≡ true → (q : ℕ) → parent f e ≡ Some q → kind_in f q ≡ kind.Index → ⊥
  outside_brackets parents k never e hit q up is = by (slice_get f.nodes q) refl
    where
      by : (o : Option Node) → slice_get f.nodes q ≡ o → ⊥
      by None at = true≢false (sym (parents.below q e up) ∙ ap (λ (o : Option Node). has e (node_children f o)) at)
      by (Some node) at =
          let child : IsIn e node.children = is_in e node.children (sym (ap (λ (o : Option Node). has e (node_children f o)) at) ∙ parents.below q e up) in
          let same : node.kind ≡ kind.Index = sym (ap kind_of at) ∙ is in
          not_true (is_of k (kind_at f.nodes e))
          (kind_of_child f.nodes of.tree q node at (of.shaped q node at) e child (λ j. not (is_of k j)) (λ j. ap (λ (i : NodeKind). not (is_of k j) || no_form (forms i) j) same ∙ never j)) hit

  pub from_equate : HaveParents f → (e : ℕ) → is_kind f kind.Equate e ≡ true → (n : ℕ) → (round f e).first ≤ n → n < e → IsFrom f (round f e).first n
  from_equate parents e equate =
      let x = equate_there f of e equate in
      from_below e x.0 x.1 (outside_brackets parents kind.Equate no_equate_in e equate)

  pub equate_inside : (e : ℕ) → is_kind f kind.Equate e ≡ true → e < length f.nodes
  equate_inside e equate = let x = equate_there f of e equate in slice_get_within f.nodes e x.0 x.1
