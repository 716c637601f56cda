-- What stands on the right side of an equate is a constant or a type set.
use Rattle.std.proofs.Common.{◌≡◌, ◌∙◌, ℕ, Bool, true, false, ◌&&◌, ◌||◌, not, List, slice_get, Option, Some, None, refl, sym, ap}
use Rattle.std.proofs.lemmas.Bool.{true≢false, and_parts}
use Rattle.clu_tree.specs.declared.node.Node.{Node}
use Rattle.clu_tree.specs.declared.node.NodeKind.{NodeKind}
use Rattle.clu_tree.specs.declared.node.NodeKind.TheVariants as kind
use Rattle.clu_parser.specs.Shape.{forms}
use Rattle.clu_parser.specs.Trees.{Text}
use Rattle.clu_syntax.specs.Kinds.{is_expression, is_type, kind_at}
use Rattle.clu_syntax.specs.Rounds.{AreRounds}
use Rattle.clu_syntax.specs.Splits.{is_of}
use Rattle.clu_checking.specs.Files.{File, is_kind, is_kind_at, parent, node_children}
use Rattle.clu_checking.specs.ConstantRules.{is_right_side}
use Rattle.clu_settle.specs.Names.{is_constant}
use Rattle.clu_declares.specs.Declares.{IsParsed}
use Rattle.clu_declares.proofs.Below.{same_kind}
use Rattle.clu_declares.proofs.Facts.{There, there}
use Rattle.clu_declares.proofs.Parents.{no_form, kind_of_child}
use Rattle.clu_passes.specs.Notes.{has, HaveParents}
use Rattle.clu_passes.proofs.OfParents.{is_in, have_parents}

side : NodeKind → Bool
side k = is_of kind.TypeSet k || (is_expression k || is_type k)

below_equate : (k : NodeKind) → (side k || no_form (forms kind.Equate) k) ≡ true
unfolding side no_form
below_equate kind.File = refl
below_equate _ = refl

side_is : (k : NodeKind) → side k ≡ true → not (is_of kind.TypeSet k) ≡ true → (is_expression k || is_type k) ≡ true
unfolding side
side_is k h other = by (is_of kind.TypeSet k) h other
  where
    by : (b : Bool) → (b || (is_expression k || is_type k)) ≡ true → not b ≡ true → (is_expression k || is_type k) ≡ true
    by true h other = absurd (true≢false (sym other))
    by false h other = h

module _ (t : Text) (f : File) (parsed : IsParsed t f.nodes) (are : AreRounds f.nodes f.rounds) where
  below : (n p : ℕ) → parent f n ≡ Some p → is_kind f kind.Equate p ≡ true → side (kind_at f.nodes n) ≡ true
  below n p above equate =
      let its : There f.nodes p kind.Equate = there f.nodes p kind.Equate refl (same_kind kind.Equate (kind_at f.nodes p) equate) in
      let parents : HaveParents f = have_parents t f parsed are in
      let child : has n its.node.children ≡ true = sym (ap (λ (o : Option Node). has n (node_children f o)) its.at) ∙ parents.below p n above in
      kind_of_child f.nodes parsed.tree p its.node its.at (parsed.forms p its.node its.at) n (is_in n its.node.children child) side
      (λ k. ap (λ (j : NodeKind). side k || no_form (forms j) k) its.is ∙ below_equate k)

  in_equate : (n : ℕ) (o : Option ℕ) → parent f n ≡ o → is_kind_at f kind.Equate o ≡ true → side (kind_at f.nodes n) ≡ true
  in_equate n None above equate = absurd (true≢false (sym equate))
  in_equate n (Some p) above equate = below n p above equate

  pub right_sides : (n : ℕ) → is_right_side f n ≡ true → is_constant f.nodes n ≡ true
  right_sides n h =
      let parts = and_parts (is_kind_at f kind.Equate (parent f n)) (not (is_kind f kind.TypeSet n)) h in
      side_is (kind_at f.nodes n) (in_equate n (parent f n) refl parts.0) parts.1
