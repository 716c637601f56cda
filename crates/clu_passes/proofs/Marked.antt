-- V7 is what the bits of declarations say.
use Rattle.std.proofs.Common.{◌≡◌, ◌∙◌, ℕ, zero, suc, ◌<◌, Bool, true, false, ◌&&◌, ◌||◌, if◌then◌else◌, List, [], ◌∷◌, length, map, Option, Some, None, refl, sym, ap, subst, rules, arith}
use Rattle.std.specs.Prelude.{◌↔◌, slice_get}
use Rattle.std.specs.List.{list_any}
use Rattle.std.proofs.lemmas.Bool.{true≢false}
use Rattle.std.proofs.lemmas.Option.{none-some, slice_get_within}
use Rattle.clu_tree.specs.declared.node.Node.{Node}
use Rattle.clu_tree.specs.declared.node.NodeKind.{NodeKind}
use Rattle.clu_tree.specs.declared.node.NodeKind.TheVariants as kind
use Rattle.clu_tree.specs.contracts.node.NodeKind.{the_type}
use Rattle.clu_parser.specs.Shape.{HaveForms}
use Rattle.clu_syntax.specs.Kinds.{kind_of, kind_at}
use Rattle.clu_syntax.specs.Splits.{is_of}
use Rattle.clu_syntax.specs.Syntax.{Identifier}
use Rattle.clu_names.specs.declared.scopes.Declared.{Declared}
use Rattle.clu_names.specs.Scopes.{declarations}
use Rattle.clu_names.specs.Denotes.{found, names_in, bound_at}
use Rattle.clu_meaning.specs.Scoping.{declaration_at}
use Rattle.clu_checking.specs.Files.{File, is_kind, kind_in, node_names, names, declaring_node, equate_of, equate_named}
use Rattle.clu_checking.specs.Equates.{names_unfolded, leads_on, is_circular, is_circular_at}
use Rattle.clu_checking.specs.NameRules.{leads_to_circle, v7}
use Rattle.clu_settle.specs.Circular as by_place
use Rattle.clu_head.specs.Refused.{is_set}
use Rattle.clu_name_rules.specs.NameRules.{is_marked, leads_to_mark}
use Rattle.clu_passes.specs.Marks.{AreMarks, IsMarked}
use Rattle.clu_passes.proofs.ByNodes.{any_mapped, circular_same, names_same}
use Rattle.clu_passes.proofs.Places.{Declares, found_inside, equate_declares}
use denote.Enum.Bare.{same_true}

kind_is : (k : NodeKind) → is_of kind.Equate k ≡ true → k ≡ kind.Equate
kind_is k h = same_true the_type (search rules) k kind.Equate h

pub none_there : {X : Type 0} (xs : List X) (i : ℕ) → i < length xs → slice_get xs i ≡ None → ⊥
none_there [] i less at = absurd (omega (arith, less))
none_there (x ∷ xs) zero less at = none-some x (sym at)
none_there (x ∷ xs) (suc i) less at = none_there xs i (omega (arith, less)) at

some_other : (a b : Bool) → Some a ≡ Some b → a ≡ b
some_other a b e = cc

-- a bit that is set exactly if the test holds
set_is : (o : Option Bool) (b : Bool) → (o ≡ Some true) ↔ (b ≡ true) → is_set o ≡ b
set_is (Some true) true h = refl
set_is (Some true) false h = sym (h.0 refl)
set_is (Some false) true h = some_other false true (h.1 refl)
set_is (Some false) false h = refl
set_is None true h = absurd (none-some true (h.1 refl))
set_is None false h = refl

module _ (f : File) (shaped : HaveForms f.nodes) (marks : List Bool) (are : AreMarks f marks) where
  abbrev ds : List Declared
  ds = f.scope.declarations

  -- ---- an equate is circular if one of its declarations has its bit

  module _ (all : ds ≡ declarations f.nodes f.rounds) (e : ℕ) (is : is_kind f kind.Equate e ≡ true) where
    at_place : (k : ℕ) (d : Declared) → slice_get ds k ≡ Some d → d.node ≡ e → by_place.is_circular f.nodes f.rounds ds k ≡ is_circular f e
    at_place k d there declares =
        circular_same f shaped k d there
        ∙ ap (λ (n : ℕ). is_kind f kind.Equate n && is_circular f n) declares
        ∙ ap (λ (b : Bool). b && is_circular f e) is

    marked_by : (d : Declares ds e) → is_circular f e ≡ true → IsMarked ds marks e
    marked_by d h = record {
      place = d.place;
      its = d.its;
      there = d.there;
      declares = d.declares;
      marked = (are d.place (slice_get_within ds d.place d.its d.there)).1 (at_place d.place d.its d.there d.declares ∙ h);
    }

    marked_for : is_circular f e ≡ true → IsMarked ds marks e
    marked_for = there (slice_get f.nodes e) refl
      where
        declared : (node : Node) → slice_get f.nodes e ≡ Some node → Declares ds e
        declared node at =
            let its : node.kind ≡ kind.Equate = kind_is node.kind (ap (λ (o : Option Node). is_of kind.Equate (kind_of o)) (sym at) ∙ is) in
            subst (λ (xs : List Declared). Declares xs e) (sym all) (equate_declares f.nodes f.rounds e node at its)

        there : (o : Option Node) → slice_get f.nodes e ≡ o → is_circular f e ≡ true → IsMarked ds marks e
        there None at h = absurd (true≢false (sym is ∙ ap (λ (o : Option Node). is_of kind.Equate (kind_of o)) at))
        there (Some node) at h = marked_by (declared node at) h

    circular_for : IsMarked ds marks e → is_circular f e ≡ true
    circular_for m = sym (at_place m.place m.its m.there m.declares) ∙ (are m.place (slice_get_within ds m.place m.its m.there)).0 m.marked

    pub circular_is : (is_circular f e ≡ true) ↔ IsMarked ds marks e
    circular_is = (marked_for, circular_for)

  -- ---- a name leads to a circle if the declaration that it denotes has its bit

  leads_if : (d : Declared) (b : Bool) → is_kind f kind.Equate d.node ≡ b → (b && is_circular f d.node) ≡ leads_on f (is_circular f) (if b then Some d.node else None)
  leads_if d true is = refl
  leads_if d false is = refl

  place_is : (place : ℕ) → place < length ds → (its : Option Declared) → slice_get ds place ≡ its → is_set (slice_get marks place) ≡ leads_on f (is_circular f) (equate_of f (declaring_node f its))
  place_is place less None at = absurd (none_there ds place less at)
  place_is place less (Some d) at =
      set_is (slice_get marks place) (by_place.is_circular f.nodes f.rounds ds place) (are place less)
      ∙ circular_same f shaped place d at
      ∙ leads_if d (is_kind f kind.Equate d.node) refl

  name_is : (n : ℕ) (name : Identifier) → is_marked marks (found ds name n) ≡ is_circular_at f (equate_named f n name)
  name_is n name = by (found ds name n) refl
    where
      by : (o : Option ℕ) → found ds name n ≡ o → is_marked marks o ≡ leads_on f (is_circular f) (equate_of f (declaring_node f (declaration_at f.scope o)))
      by None is = refl
      by (Some place) is = place_is place (found_inside ds name n place is) (slice_get ds place) refl

  pub circle_is : (n : ℕ) (name : Identifier) → is_circular_at f (equate_named f n name) ≡ is_marked marks (found ds name n)
  circle_is n name = sym (name_is n name)

  names_are : (n : ℕ) (names : List Identifier) → list_any (λ name. is_circular_at f (equate_named f n name)) names ≡ list_any (is_marked marks) (map (λ name. found ds name n) names)
  names_are n [] = refl
  names_are n (name ∷ rest) =
      ap (λ (b : Bool). b || list_any (λ name. is_circular_at f (equate_named f n name)) rest) (circle_is n name)
      ∙ ap (λ (b : Bool). is_marked marks (found ds name n) || b) (names_are n rest)

  unfolded_are : (n : ℕ) (names : List Identifier) → list_any (is_circular_at f) (map (equate_named f n) names) ≡ list_any (is_marked marks) (map (λ name. found ds name n) names)
  unfolded_are n names = any_mapped (is_circular_at f) (equate_named f n) names ∙ names_are n names

  -- by kind
  v7_by : (n : ℕ) (node : Node) → slice_get f.nodes n ≡ Some node → (k : NodeKind) → node.kind ≡ k → kind_in f n ≡ k → leads_to_circle f k n ≡ leads_to_mark marks k (map (λ name. found ds name n) (names_in k node))
  v7_by n node at kind.Name is in_file =
      ap (λ (k : NodeKind). list_any (is_circular_at f) (map (equate_named f n) (names_unfolded f k n))) in_file
      ∙ unfolded_are n (names_unfolded f kind.Name n)
      ∙ ap (λ (os : List (Option ℕ)). list_any (is_marked marks) os) (sym (names_same f shaped n node at kind.Name is))
  v7_by n node at kind.NameT is in_file =
      ap (λ (k : NodeKind). list_any (is_circular_at f) (map (equate_named f n) (names_unfolded f k n))) in_file
      ∙ unfolded_are n (names_unfolded f kind.NameT n)
      ∙ ap (λ (os : List (Option ℕ)). list_any (is_marked marks) os) (sym (names_same f shaped n node at kind.NameT is))
  v7_by n node at kind.Simple is in_file =
      ap (λ (k : NodeKind). list_any (is_circular_at f) (map (equate_named f n) (names_unfolded f k n))) in_file
      ∙ unfolded_are n (names_unfolded f kind.Simple n)
      ∙ ap (λ (os : List (Option ℕ)). list_any (is_marked marks) os) (sym (names_same f shaped n node at kind.Simple is))
  v7_by n node at kind.Restrict is in_file =
      names_are n (names f n)
      ∙ ap (λ (its : Option Node). list_any (is_marked marks) (map (λ name. found ds name n) (node_names f its))) at
  v7_by n node at _ is in_file = ap (λ (k : NodeKind). list_any (is_circular_at f) (map (equate_named f n) (names_unfolded f k n))) in_file

  pub v7_is : (n : ℕ) → v7 f n ≡ leads_to_mark marks (kind_at f.nodes n) (bound_at ds n (slice_get f.nodes n))
  v7_is n = by (slice_get f.nodes n) refl
    where
      by : (its : Option Node) → slice_get f.nodes n ≡ its → leads_to_circle f (kind_in f n) n ≡ leads_to_mark marks (kind_of its) (bound_at ds n its)
      by None at =
          let is : kind_in f n ≡ kind.File = ap kind_of at in
          ap (λ (k : NodeKind). leads_to_circle f k n) is ∙ ap (λ (k : NodeKind). list_any (is_circular_at f) (map (equate_named f n) (names_unfolded f k n))) is
      by (Some node) at =
          let is : kind_in f n ≡ node.kind = ap kind_of at in
          ap (λ (k : NodeKind). leads_to_circle f k n) is ∙ v7_by n node at node.kind refl is
