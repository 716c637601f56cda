-- What stands in a routine or an Oper stands in no brackets, and neither does its parent.
use Rattle.std.proofs.Common.{◌≡◌, ◌∙◌, ℕ, ◌||◌, not, Bool, true, false, List, Option, Some, refl, sym, ap, subst}
use Rattle.std.specs.Prelude.{slice_get}
use Rattle.std.proofs.lemmas.Bool.{true≢false}
use Rattle.std.proofs.lemmas.Option.{same_Some}
use Rattle.clu_tree.specs.declared.node.Node.{Node}
use Rattle.clu_tree.specs.declared.node.NodeKind.{NodeKind}
use Rattle.clu_tree.specs.declared.node.NodeKind.TheVariants as kind
use Rattle.clu_parser.specs.Shape.{forms}
use Rattle.clu_syntax.specs.Kinds.{kind_of}
use Rattle.clu_syntax.specs.Splits.{is_of}
use Rattle.clu_declares.proofs.Parents.{IsIn, no_form}
use Rattle.clu_checking.specs.Files.{File, kind_in, parent}
use Rattle.clu_passes.specs.Clear.{IsOutside}
use Rattle.clu_passes.specs.Notes.{HaveParents}
use Rattle.clu_passes.specs.Trees.{IsFileOfTree}
use Rattle.clu_passes.proofs.ClearBelow.{outside_brackets}
use Rattle.clu_passes.proofs.CvtPlaces.{parent_told}

abbrev NeverIn : NodeKind → Type 0
NeverIn k = (j : NodeKind) → (not (is_of k j) || no_form (forms kind.Index) j) ≡ true

no_routine_in : NeverIn kind.Routine
unfolding no_form
no_routine_in kind.Routine = refl
no_routine_in kind.File = refl
no_routine_in _ = refl

no_oper_in : NeverIn kind.Oper
unfolding no_form
no_oper_in kind.Oper = refl
no_oper_in kind.File = refl
no_oper_in _ = refl

module _ (f : File) (of : IsFileOfTree f) (parents : HaveParents f) (n : ℕ) (node : Node) (at : slice_get f.nodes n ≡ Some node) (c : ℕ) (child : IsIn c node.children) where
  up : parent f c ≡ Some n
  up = parent_told f of c (record { parent = n; node = node; at = at; child = child })

  outside_in : (k : NodeKind) → is_of k k ≡ true → is_of kind.Index k ≡ false → NeverIn k → node.kind ≡ k → IsOutside f c
  outside_in k self apart never is =
      let here : kind_in f n ≡ k = ap kind_of at ∙ is in
      record {
        beside = λ p over index.
            let same : n ≡ p = same_Some n p (sym up ∙ over) in
            true≢false (sym (ap (is_of kind.Index) index) ∙ ap (λ (m : ℕ). is_of kind.Index (kind_in f m)) (sym same) ∙ ap (is_of kind.Index) here ∙ apart);
        above = λ p q over higher index.
            let same : n ≡ p = same_Some n p (sym up ∙ over) in
            outside_brackets f of parents k never n (ap (is_of k) here ∙ self) q (ap (parent f) same ∙ higher) index;
      }

  pub outside_routine : node.kind ≡ kind.Routine → IsOutside f c
  outside_routine = outside_in kind.Routine refl refl no_routine_in

  pub outside_oper : node.kind ≡ kind.Oper → IsOutside f c
  outside_oper = outside_in kind.Oper refl refl no_oper_in
