-- An Equate stands in no brackets, nor does its parent.
use Rattle.std.proofs.Common.{◌≡◌, ◌∙◌, ℕ, ◌&&◌, ◌||◌, not, Bool, true, false, List, [], ◌∷◌, Option, Some, None, refl, sym, ap}
use Rattle.std.specs.Prelude.{slice_get}
use Rattle.std.proofs.lemmas.Bool.{true≢false}
use Rattle.clu_base.proofs.Bools.{implied}
use Rattle.clu_tree.specs.declared.node.Node.{Node}
use Rattle.clu_tree.specs.declared.node.NodeKind.{NodeKind}
use Rattle.clu_tree.specs.declared.node.NodeKind.TheVariants as kind
use Rattle.clu_parser.specs.Shape.{forms}
use Rattle.clu_syntax.specs.Kinds.{is_expression, is_type, kind_at, kind_of}
use Rattle.clu_syntax.specs.Splits.{is_of}
use Rattle.clu_checking.specs.Files.{File, is_kind, kind_in, node_children, parent}
use Rattle.clu_declares.proofs.Parents.{IsIn, kind_of_child, no_form}
use Rattle.clu_passes.specs.Clear.{IsOutside}
use Rattle.clu_passes.specs.Notes.{HaveParents, has}
use Rattle.clu_passes.specs.Trees.{IsFileOfTree}
use Rattle.clu_passes.proofs.ClearBelow.{no_equate_in, outside_brackets}
use Rattle.clu_passes.proofs.OfParents.{is_in}

-- what stands in an Index is an expression or type
only_constants : (k : NodeKind) → ((is_expression k || is_type k) || no_form (forms kind.Index) k) ≡ true
unfolding no_form
only_constants kind.File = refl
only_constants _ = refl

-- in which no Equate stands
no_equate_below : (k : NodeKind) → (not (is_expression k || is_type k) || no_form (forms k) kind.Equate) ≡ true
unfolding no_form
no_equate_below kind.File = refl
no_equate_below _ = refl

-- the same of any other kind of child
or_no_equate : (top : NodeKind) → no_form (forms top) kind.Equate ≡ true → (k : NodeKind) → (not (is_of kind.Equate k) || no_form (forms top) k) ≡ true
or_no_equate top e kind.Equate = e
or_no_equate top e kind.File = refl
or_no_equate top e _ = refl

not_both : (b : Bool) → not b ≡ true → b ≡ true → ⊥
not_both true e h = true≢false (sym e)
not_both false e h = true≢false (sym h)

module _ (f : File) (of : IsFileOfTree f) (parents : HaveParents f) where
  child_in : (c p : ℕ) → parent f c ≡ Some p → (node : Node) → slice_get f.nodes p ≡ Some node → IsIn c node.children
  child_in c p up node at = is_in c node.children (sym (ap (λ (o : Option Node). has c (node_children f o)) at) ∙ parents.below p c up)

  none_there : (c p : ℕ) → parent f c ≡ Some p → slice_get f.nodes p ≡ None → ⊥
  none_there c p up at = true≢false (sym (parents.below p c up) ∙ ap (λ (o : Option Node). has c (node_children f o)) at)

  -- a child of an Index
  constant_there : (p q : ℕ) → parent f p ≡ Some q → kind_in f q ≡ kind.Index → (is_expression (kind_in f p) || is_type (kind_in f p)) ≡ true
  constant_there p q up is = by (slice_get f.nodes q) refl
    where
      by : (o : Option Node) → slice_get f.nodes q ≡ o → (is_expression (kind_in f p) || is_type (kind_in f p)) ≡ true
      by None at = absurd (none_there p q up at)
      by (Some node) at =
          let same : node.kind ≡ kind.Index = sym (ap kind_of at) ∙ is in
          kind_of_child f.nodes of.tree q node at (of.shaped q node at) p (child_in p q up node at) (λ k. is_expression k || is_type k)
          (λ k. ap (λ (i : NodeKind). (is_expression k || is_type k) || no_form (forms i) k) same ∙ only_constants k)

  no_equate : (e p : ℕ) → parent f e ≡ Some p → kind_in f e ≡ kind.Equate → (is_expression (kind_in f p) || is_type (kind_in f p)) ≡ true → ⊥
  no_equate e p up equate const = by (slice_get f.nodes p) refl
    where
      by : (o : Option Node) → slice_get f.nodes p ≡ o → ⊥
      by None at = none_there e p up at
      by (Some node) at =
          let its : (is_expression node.kind || is_type node.kind) ≡ true = sym (ap (λ (o : Option Node). is_expression (kind_of o) || is_type (kind_of o)) at) ∙ const in
          not_both (is_of kind.Equate (kind_at f.nodes e))
          (kind_of_child f.nodes of.tree p node at (of.shaped p node at) e (child_in e p up node at) (λ k. not (is_of kind.Equate k))
          (or_no_equate node.kind (implied (is_expression node.kind || is_type node.kind) (no_form (forms node.kind) kind.Equate) (no_equate_below node.kind) its)))
          (ap (is_of kind.Equate) equate)

  pub equate_outside : (e : ℕ) → kind_in f e ≡ kind.Equate → IsOutside f e
  equate_outside e equate = record {
    beside = outside_brackets f of parents kind.Equate no_equate_in e (ap (is_of kind.Equate) equate);
    above = λ p q up over is. no_equate e p up equate (constant_there p q over is);
  }
