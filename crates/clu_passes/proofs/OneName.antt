-- A signal, an exit and an exception of a heading have one name.
use Rattle.std.proofs.Common.{◌≡◌, ◌∙◌, ℕ, List, [], ◌∷◌, length, inl, inr, refl, ap, subst, arith}
use Rattle.std.specs.Prelude.{slice_get, true}
use Rattle.clu_lexer.specs.declared.symbols.Symbol.{Symbol}
use Rattle.clu_tree.specs.declared.node.Node.{Node}
use Rattle.clu_tree.specs.declared.node.NodeKind.{NodeKind}
use Rattle.clu_tree.specs.declared.node.NodeKind.TheVariants as kind
use Rattle.clu_parser.specs.Shape as shape
use Rattle.clu_parser.specs.Shape.{Part, Letter, IsWord, token_is, name_is, IsFormOf, forms, names_in, HasForm, HaveForms}
use Rattle.clu_parts.proofs.Counted.{is_unnamed, no_names}
use Rattle.clu_syntax.specs.Kinds.{kind_at}
use Rattle.clu_syntax.specs.Syntax.{Identifier}
use Rattle.clu_settle.specs.Names.{names_of}
use Rattle.clu_declares.proofs.Facts.{There, there}

one_in : (ps : List Part) (w : List Letter) → IsWord (shape.name ∷ ps) w → is_unnamed 2 ps ≡ true → names_in w ≡ 1
one_in ps _ (name_is _ w d) none = let rest : names_in w ≡ 0 = no_names 2 ps w d none in omega (arith, rest)

behind_token : (x : Symbol) (ps : List Part) (w : List Letter) → IsWord (shape.token x ∷ shape.name ∷ ps) w → is_unnamed 2 ps ≡ true → names_in w ≡ 1
behind_token x ps _ (token_is _ _ w d) none = one_in ps w d none

alone : (names : List Identifier) → length names ≡ 1 → (x : Identifier) × (names ≡ x ∷ [])
alone [] e = absurd (omega (arith, e))
alone (x ∷ []) e = (x, refl)
alone (x ∷ y ∷ names) e = absurd (omega (arith, e))

pub record OneName (nodes : List Node) (n : ℕ) : Type 0 where
  pub its : Identifier
  pub is : names_of (slice_get nodes n) ≡ its ∷ []

module _ (nodes : List Node) (shaped : HaveForms nodes) where
  form_is : (k : NodeKind) (node : Node) → node.kind ≡ k → (h : HasForm nodes node) (form : List Part) → forms k ≡ form ∷ [] → h.form ≡ form
  form_is k node is h form only = elim (subst (λ (fs : List (List Part)). IsFormOf h.form fs) (ap forms is ∙ only) h.of_kind) [ inl e ↦ e | inr never ↦ absurd never ]

  of_form : (k : NodeKind) (n : ℕ) → There nodes n k → (form : List Part) → forms k ≡ form ∷ [] → ((w : List Letter) → IsWord form w → names_in w ≡ 1) → OneName nodes n
  of_form k n x form only one =
      let h : HasForm nodes x.node = shaped n x.node x.at in
      let word : IsWord form h.word = subst (λ (form : List Part). IsWord form h.word) (form_is k x.node x.is h form only) h.is_word in
      let a = alone x.node.names (h.names_are ∙ one h.word word) in
      record { its = a.0; is = ap names_of x.at ∙ a.1 }

  pub signal_name : (n : ℕ) → kind_at nodes n ≡ kind.Signal → OneName nodes n
  signal_name n is = of_form kind.Signal n (there nodes n kind.Signal refl is) _ refl (λ w d. behind_token _ _ w d refl)

  pub exit_name : (n : ℕ) → kind_at nodes n ≡ kind.Exit → OneName nodes n
  exit_name n is = of_form kind.Exit n (there nodes n kind.Exit refl is) _ refl (λ w d. behind_token _ _ w d refl)

  pub exception_name : (n : ℕ) → kind_at nodes n ≡ kind.Exc → OneName nodes n
  exception_name n is = of_form kind.Exc n (there nodes n kind.Exc refl is) _ refl (λ w d. one_in _ w d refl)
