-- A Name and a NameT have one name.
use Rattle.std.proofs.Common.{◌≡◌, ◌∙◌, List, [], ◌∷◌, length, inl, inr, refl, ap, subst, arith}
use Rattle.std.specs.Prelude.{true}
use Rattle.clu_tree.specs.declared.node.Node.{Node}
use Rattle.clu_tree.specs.declared.node.NodeKind.{NodeKind}
use Rattle.clu_tree.specs.declared.node.NodeKind.TheVariants as kind
use Rattle.clu_parser.specs.Shape as shape
use Rattle.clu_parser.specs.Shape.{HasForm, IsFormOf, IsWord, Letter, Part, forms, name_is, names_in}
use Rattle.clu_parts.proofs.Counted.{is_unnamed, no_names}
use Rattle.clu_syntax.specs.Syntax.{Identifier}

-- a form that begins with a name, and holds no other
one_in : (ps : List Part) (w : List Letter) → IsWord (shape.name ∷ ps) w → is_unnamed 2 ps ≡ true → names_in w ≡ 1
one_in ps _ (name_is _ w d) none = let rest : names_in w ≡ 0 = no_names 2 ps w d none in omega (arith, rest)

alone : (names : List Identifier) → length names ≡ 1 → (x : Identifier) × (names ≡ x ∷ [])
alone [] e = absurd (omega (arith, e))
alone (x ∷ []) e = (x, refl)
alone (x ∷ y ∷ names) e = absurd (omega (arith, e))

module _ (nodes : List Node) (node : Node) (h : HasForm nodes node) where
  of_form : (ps : List Part) → is_unnamed 2 ps ≡ true → (k : NodeKind) → node.kind ≡ k → forms k ≡ (shape.name ∷ ps) ∷ [] → (x : Identifier) × (node.names ≡ x ∷ [])
  of_form ps none k is only =
      let form : h.form ≡ shape.name ∷ ps = elim (subst (λ (fs : List (List Part)). IsFormOf h.form fs) (ap forms is ∙ only) h.of_kind) [ inl e ↦ e | inr never ↦ absurd never ] in
      alone node.names (h.names_are ∙ one_in ps h.word (subst (λ (form : List Part). IsWord form h.word) form h.is_word) none)

  pub name_alone : node.kind ≡ kind.Name → (x : Identifier) × (node.names ≡ x ∷ [])
  name_alone is = of_form _ refl kind.Name is refl

  pub type_alone : node.kind ≡ kind.NameT → (x : Identifier) × (node.names ≡ x ∷ [])
  type_alone is = of_form _ refl kind.NameT is refl
