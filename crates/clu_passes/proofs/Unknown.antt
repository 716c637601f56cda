-- V5 by the tables of names and their meanings.
use Rattle.std.proofs.Common.{◌≡◌, ◌∙◌, ℕ, ◌<◌, Bool, true, false, ◌||◌, List, [], ◌∷◌, length, map, drop, Option, Some, None, refl, sym, ap}
use Rattle.std.specs.Prelude.{not, is_some, slice_get}
use Rattle.std.specs.List.{list_any}
use Rattle.clu_tree.specs.declared.node.Node.{Node}
use Rattle.clu_tree.specs.declared.node.NodeKind.{NodeKind}
use Rattle.clu_tree.specs.declared.node.NodeKind.TheVariants as kind
use Rattle.clu_syntax.specs.Kinds.{kind_of, kind_at}
use Rattle.clu_syntax.specs.Syntax.{Identifier}
use Rattle.clu_names.specs.declared.scopes.Declared.{Declared}
use Rattle.clu_names.specs.declared.binding.Names.{Names}
use Rattle.clu_names.specs.Denotes.{found, names_in, bound_at}
use Rattle.clu_names.specs.Scopes.{is_stream}
use Rattle.clu_meaning.specs.Scoping.{declaration_at}
use Rattle.clu_checking.specs.Files as checking
use Rattle.clu_checking.specs.Files.{File, is_kept, node_names}
use Rattle.clu_checking.specs.NameRules.{names_used, v5}
use Rattle.clu_bindings.specs.declared.meaning.Meaning.{Meaning}
use Rattle.clu_bindings.specs.Tables.{items_at}
use Rattle.clu_settle.specs.Names.{names_of}
use Rattle.clu_bindings.specs.Files.{bound_in}
use Rattle.clu_name_rules.specs.NameRules.{is_module, is_known, has_unknown, uses_unknown}
use Rattle.clu_passes.specs.Tables.{AreNames, MeansModule, AreMeant, AreMeanings}
use Rattle.clu_passes.proofs.Marked.{none_there}
use Rattle.clu_passes.proofs.Places.{found_inside}
use Rattle.clu_passes.proofs.Tables.{bound_is}

or_true : (a b : Bool) → (a || true) ≡ (b || true)
or_true true true = refl
or_true true false = refl
or_true false true = refl
or_true false false = refl

module _ (f : File) where
  abbrev ds : List Declared
  ds = f.scope.declarations

  abbrev denoted : ℕ → List Identifier → List (Option ℕ)
  denoted n names = map (λ name. found ds name n) names

  abbrev is_unknown : ℕ → Identifier → Bool
  is_unknown n name = not (checking.is_known f n name)

  -- ---- one name

  there_is : (xs : List Declared) (place : ℕ) → place < length xs → (its : Option Declared) → slice_get xs place ≡ its → is_some its ≡ true
  there_is xs place less None at = absurd (none_there xs place less at)
  there_is xs place less (Some d) at = refl

  unbound_same : (name : Identifier) (meant : Meaning) (b : Bool) → is_stream name ≡ b → (is_stream name ≡ false → is_module meant ≡ is_kept f name) → (is_kept f name || b) ≡ (is_module meant || b)
  unbound_same name meant true is means = or_true (is_kept f name) (is_module meant)
  unbound_same name meant false is means = ap (λ (b : Bool). b || false) (sym (means is))

  known_same : (n : ℕ) (name : Identifier) (meant : Meaning) → MeansModule f name (found ds name n) meant → checking.is_known f n name ≡ is_known name (found ds name n) meant
  known_same n name meant = by (found ds name n) refl
    where
      by : (o : Option ℕ) → found ds name n ≡ o → MeansModule f name o meant → (is_some (declaration_at f.scope o) || is_kept f name || is_stream name) ≡ (is_some o || is_module meant || is_stream name)
      by None is means = unbound_same name meant (is_stream name) refl means
      by (Some place) is means = ap (λ (b : Bool). b || is_kept f name || is_stream name) (there_is ds place (found_inside ds name n place is) (slice_get ds place) refl)

  -- ---- the names of a node

  unknown_same : (n : ℕ) (its : List Identifier) (meanings : List Meaning) → AreMeant f its (denoted n its) meanings → list_any (is_unknown n) its ≡ has_unknown its (denoted n its) meanings
  unknown_same n [] meanings means = refl
  unknown_same n (name ∷ rest) [] means = absurd means
  unknown_same n (name ∷ rest) (meant ∷ meanings) means =
      ap (λ (b : Bool). not b || list_any (is_unknown n) rest) (known_same n name meant means.0)
      ∙ ap (λ (b : Bool). not (is_known name (found ds name n) meant) || b) (unknown_same n rest meanings means.1)

  dropped_same : (n : ℕ) (its : List Identifier) (meanings : List Meaning) → AreMeant f its (denoted n its) meanings → list_any (is_unknown n) (drop 1 its) ≡ has_unknown (drop 1 its) (drop 1 (denoted n its)) (drop 1 meanings)
  dropped_same n [] meanings means = refl
  dropped_same n (name ∷ rest) [] means = absurd means
  dropped_same n (name ∷ rest) (meant ∷ meanings) means = unknown_same n rest meanings means.1

  by_kind : (n : ℕ) (node : Node) (meanings : List Meaning) → slice_get f.nodes n ≡ Some node → (k : NodeKind) → AreMeant f node.names (denoted n (names_in k node)) meanings → list_any (is_unknown n) (names_used f k n) ≡ uses_unknown k node.names (denoted n (names_in k node)) meanings
  by_kind n node meanings at kind.Name means = ap (λ (its : Option Node). list_any (is_unknown n) (node_names f its)) at ∙ unknown_same n node.names meanings means
  by_kind n node meanings at kind.NameT means = ap (λ (its : Option Node). list_any (is_unknown n) (node_names f its)) at ∙ unknown_same n node.names meanings means
  by_kind n node meanings at kind.Assign means = ap (λ (its : Option Node). list_any (is_unknown n) (node_names f its)) at ∙ unknown_same n node.names meanings means
  by_kind n node meanings at kind.For means = ap (λ (its : Option Node). list_any (is_unknown n) (node_names f its)) at ∙ unknown_same n node.names meanings means
  by_kind n node meanings at kind.Restrict means = ap (λ (its : Option Node). list_any (is_unknown n) (node_names f its)) at ∙ unknown_same n node.names meanings means
  by_kind n node meanings at kind.TypeSet means = ap (λ (its : Option Node). list_any (is_unknown n) (drop 1 (node_names f its))) at ∙ dropped_same n node.names meanings means
  by_kind n node meanings at _ means = refl

  module _ (names : Names) (are : AreNames f names) (meanings : List Meaning) (mean : AreMeanings f names meanings) where
    pub v5_is : (n : ℕ) → v5 f n ≡ uses_unknown (kind_at f.nodes n) (names_of (slice_get f.nodes n)) (bound_in names n) (items_at meanings names.starts.items n)
    v5_is n =
        by (slice_get f.nodes n) refl (mean n)
        ∙ ap (λ (bounds : List (Option ℕ)). uses_unknown (kind_at f.nodes n) (names_of (slice_get f.nodes n)) bounds (items_at meanings names.starts.items n)) (sym (bound_is f names are n))
      where
        by : (its : Option Node) → slice_get f.nodes n ≡ its → AreMeant f (names_of its) (bound_at ds n its) (items_at meanings names.starts.items n) →
            list_any (is_unknown n) (names_used f (kind_of its) n) ≡ uses_unknown (kind_of its) (names_of its) (bound_at ds n its) (items_at meanings names.starts.items n)
        by None at means = refl
        by (Some node) at means = by_kind n node (items_at meanings names.starts.items n) at node.kind means
