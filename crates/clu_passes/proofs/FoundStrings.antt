-- The value of no string is lost: nothing stands below a literal, and it names no equate.
use Rattle.std.proofs.Common.{◌≡◌, ◌∙◌, ◌⊎◌, ℕ, zero, suc, ◌<◌, Bool, true, false, ◌||◌, List, [], ◌∷◌, ◌++◌, length, slice_get, get_or, Option, Some, inl, inr, refl, sym, ap, subst, arith}
use Rattle.std.specs.List.{list_any}
use Rattle.std.proofs.lemmas.Bool.{true≢false}
use Rattle.std.proofs.lemmas.Option.{slice_get_within}
use Rattle.clu_tree.specs.declared.node.Node.{Node}
use Rattle.clu_tree.specs.declared.node.NodeKind.{NodeKind}
use Rattle.clu_tree.specs.declared.node.NodeKind.TheVariants as kind
use Rattle.clu_tree.specs.Nodes.{IsTree}
use Rattle.clu_grammar.specs.Grammar.{literals}
use Rattle.clu_parser.specs.Shape as shape
use Rattle.clu_parser.specs.Shape.{Part, IsFormOf, forms, HasForm, HaveForms}
use Rattle.clu_syntax.specs.declared.round.Round.{Round}
use Rattle.clu_syntax.specs.Kinds.{kind_of, kind_at}
use Rattle.clu_syntax.specs.Splits.{children_of}
use Rattle.clu_syntax.specs.Syntax.{Literal, string}
use Rattle.clu_syntax.specs.Words.{literal_of}
use Rattle.clu_parts.proofs.Fitting.{Stand, slots_of, fitted, on_end}
use Rattle.clu_names.specs.declared.scopes.Declared.{Declared}
use Rattle.clu_names.specs.Denotes.{bound_at}
use Rattle.clu_checking.specs.Files.{File}
use Rattle.clu_settle.specs.declared.meanings.Meaning.{Meaning}
use Rattle.clu_settle.specs.declared.value.Value.{Value}
use Rattle.clu_settle.specs.declared.value.Value.TheVariants as value
use Rattle.clu_settle.specs.Graph.{if_used}
use Rattle.clu_settle.specs.Lists.{value_of}
use Rattle.clu_settle.specs.Lost.{is_source, is_lost_word, is_too_large, right_side, made_from, is_lost_in, IsLost}
use Rattle.clu_settle.specs.Meant as meant
use Rattle.clu_settle.specs.Names.{meaning_in}
use Rattle.clu_declares.proofs.Each.{meaning_there}
use Rattle.clu_passes.specs.Tables.{AreFoundStrings}
use Rattle.clu_passes.proofs.Strings.{value_same}

alone : (nodes : List Node) (n : ℕ) (cs : List ℕ) → Stand nodes n [] cs → cs ≡ []
alone nodes n cs s = on_end nodes n (λ (cs : List ℕ). cs ≡ []) refl cs s

-- a literal has no children
no_children : (nodes : List Node) → HaveForms nodes → IsTree nodes → (n : ℕ) (node : Node) → slice_get nodes n ≡ Some node → node.kind ≡ kind.Literal → node.children ≡ []
no_children nodes shaped tree n node at is =
    let f : HasForm nodes node = shaped n node at in
    let stands : Stand nodes n (slots_of f.form) node.children = fitted nodes tree n node at f in
    elim (subst (λ (k : NodeKind). IsFormOf f.form (forms k)) is f.of_kind) [
      | inl e ↦ alone nodes n node.children (subst (λ (form : List Part). Stand nodes n (slots_of form) node.children) e stands)
      | inr never ↦ absurd never
    ]

-- what a string is made from is not lost
found_in : (nodes : List Node) (meanings : List Meaning) (steps n : ℕ) → is_source (slice_get nodes n) ≡ false → made_from nodes meanings n ≡ [] → is_lost_in nodes meanings (suc steps) n ≡ false
unfolding is_lost_in
found_in nodes meanings steps n source made =
    ap (λ (b : Bool). b || list_any (is_lost_in nodes meanings steps) (made_from nodes meanings n)) source
    ∙ ap (list_any (is_lost_in nodes meanings steps)) made

found_with : (nodes : List Node) (meanings : List Meaning) (steps n : ℕ) → n < steps → is_source (slice_get nodes n) ≡ false → made_from nodes meanings n ≡ [] → is_lost_in nodes meanings steps n ≡ false
found_with nodes meanings zero n l source made = absurd (omega (arith, l))
found_with nodes meanings (suc steps) n l source made = found_in nodes meanings steps n source made

module _ (f : File) (shaped : HaveForms f.nodes) (tree : IsTree f.nodes) (values : List Value) where
  abbrev meanings : List Meaning
  meanings = meant.meanings_of f.nodes f.rounds f.scope.declarations

  pub found_strings : ((n : ℕ) → n < length f.nodes → value_of values n ≡ value.Lost → IsLost f.nodes meanings n) → AreFoundStrings f values
  found_strings lost n node text at is e missing =
      let inside : n < length f.nodes = slice_get_within f.nodes n node at in
      let source : is_source (slice_get f.nodes n) ≡ false = ap is_source at ∙ ap (λ (k : NodeKind). is_lost_word k node.value) is ∙ ap is_too_large e in
      let below : children_of (slice_get f.nodes n) ≡ [] = ap children_of at ∙ no_children f.nodes shaped tree n node at is in
      let means : meaning_in (slice_get meanings n) ≡ meant.first_of f.nodes f.scope.declarations (meant.declared_to f.nodes f.rounds f.scope.declarations (length f.scope.declarations)) [] =
      ap meaning_in (meaning_there f.nodes f.rounds f.scope.declarations n inside)
      ∙ ap (λ (k : NodeKind). meant.first_of f.nodes f.scope.declarations (meant.declared_to f.nodes f.rounds f.scope.declarations (length f.scope.declarations)) (if_used k (bound_at f.scope.declarations n (slice_get f.nodes n)))) (ap kind_of at ∙ is) in
      let made : made_from f.nodes meanings n ≡ [] = ap (λ (cs : List ℕ). cs ++ right_side (meaning_in (slice_get meanings n))) below ∙ ap right_side means in
      true≢false (sym (lost n inside (sym (value_same values n) ∙ missing) (length f.nodes)) ∙ found_with f.nodes meanings (length f.nodes) n inside source made)
