-- The name of each Name and NameT of an accepted file is known.
use Rattle.std.proofs.Common.{◌≡◌, ◌∙◌, ◌⊎◌, ℕ, not, false, true, [], ◌∷◌, Some, None, inl, inr, refl, sym, ap}
use Rattle.std.specs.Prelude.{slice_get}
use Rattle.std.specs.List.{list_any}
use Rattle.std.proofs.lemmas.Bool.{not-false, or_parts}
use Rattle.std.proofs.lemmas.Option.{slice_get_within}
use Rattle.clu_base.specs.declared.rules.Rule.TheVariants as rule
use Rattle.clu_tree.specs.declared.node.Node.{Node}
use Rattle.clu_tree.specs.declared.node.NodeKind.{NodeKind}
use Rattle.clu_tree.specs.declared.node.NodeKind.TheVariants as kind
use Rattle.clu_syntax.specs.Kinds.{kind_of}
use Rattle.clu_syntax.specs.Syntax.{Identifier}
use Rattle.clu_checking.specs.Files.{File, is_known, kind_in, node_names, round}
use Rattle.clu_checking.specs.NameRules.{names_used, v5}
use Rattle.clu_checking.specs.Refusals.{is_bad, refusal}
use Rattle.clu_checking.specs.Rules.{violates}
use Rattle.clu_passes.specs.Losing.{is_definition, walk_of}
use Rattle.clu_passes.proofs.AcceptedFine.{faultless}
use Rattle.clu_checked.proofs.AcceptedNodes.{asked_fine}

module _ (f : File) (accepted : refusal f ≡ None) (n : ℕ) (node : Node) (at : slice_get f.nodes n ≡ Some node) where
  by_kind : (k : NodeKind) → node.kind ≡ k → is_definition k ≡ false → (name : Identifier) → names_used f k n ≡ name ∷ [] → is_known f n name ≡ true
  by_kind k is apart name used =
      let here : kind_in f n ≡ k = ap kind_of at ∙ is in
      let fine : v5 f n ≡ false = asked_fine (violates f (is_bad f) n) 1 rule.UnknownName refl (kind_in f n) (round f n).heading (ap is_definition here ∙ apart) (faultless f accepted (walk_of f n) n (slice_get_within f.nodes n node at)) in
      not-false (is_known f n name)
      (or_parts (not (is_known f n name)) false (sym (ap (λ (j : NodeKind). list_any (λ (x : Identifier). not (is_known f n x)) (names_used f j n)) here ∙ ap (list_any (λ (x : Identifier). not (is_known f n x))) used) ∙ fine)).0

  pub name_known : (node.kind ≡ kind.Name) ⊎ (node.kind ≡ kind.NameT) → (name : Identifier) → node.names ≡ name ∷ [] → is_known f n name ≡ true
  name_known (inl is) name named = by_kind kind.Name is refl name (ap (node_names f) at ∙ named)
  name_known (inr is) name named = by_kind kind.NameT is refl name (ap (node_names f) at ∙ named)
