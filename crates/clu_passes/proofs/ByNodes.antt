-- The equates that are circular by the places of their declarations are those that are so by their nodes.
use Rattle.std.proofs.Common.{◌≡◌, ◌∙◌, ℕ, zero, suc, ◌<◌, Bool, true, false, ◌&&◌, ◌||◌, if◌then◌else◌, List, [], ◌∷◌, length, map, codes, Option, Some, None, refl, sym, ap, arith}
use Rattle.std.specs.Prelude.{slice_get}
use Rattle.std.specs.Str.{bytes_eq}
use Rattle.std.specs.List.{list_any}
use Rattle.std.proofs.lemmas.Slice.Eq.{bytes_eq-Decides}
use Rattle.std.proofs.lemmas.Bool.{true≢false}
use Rattle.std.proofs.lemmas.Option.{slice_get_within}
use Rattle.clu_tree.specs.declared.node.Node.{Node}
use Rattle.clu_tree.specs.declared.node.NodeKind.{NodeKind}
use Rattle.clu_tree.specs.declared.node.NodeKind.TheVariants as kind
use Rattle.clu_parser.specs.Shape.{HaveForms}
use Rattle.clu_syntax.specs.declared.words.SimpleType.{SimpleType}
use Rattle.clu_syntax.specs.declared.words.SimpleType.TheVariants as simple
use Rattle.clu_syntax.specs.Words.{symbol_in, simple_type}
use Rattle.clu_syntax.specs.Kinds.{kind_of, kind_at}
use Rattle.clu_syntax.specs.Splits.{is_of}
use Rattle.clu_syntax.specs.Syntax.{Identifier, a_simple_type}
use Rattle.clu_syntax.specs.Nodes.{item_at, item_to, item_with, before, type_expression_of}
use Rattle.clu_names.specs.declared.scopes.Declared.{Declared}
use Rattle.clu_names.specs.Denotes.{found, rep_names, names_in, bound_at}
use Rattle.clu_meaning.specs.Scoping.{declaration_at}
use Rattle.clu_checking.specs.Files.{File, is_kind, node_names, below, declaring_node, equate_of, equate_named}
use Rattle.clu_checking.specs.Equates.{word_named, names_unfolded, equates_named, leads_on, leads_far, is_circular}
use Rattle.clu_settle.specs.Names.{is_rep}
use Rattle.clu_settle.specs.Graph as graph
use Rattle.clu_settle.specs.Graph.{is_equate_kind, is_equate_at, if_used, unfolded_at}
use Rattle.clu_settle.specs.Circular as circular
use Rattle.clu_settle.specs.Circular.{nodes_of, nodes_in, goes_on, goes_far}
use Rattle.clu_declares.proofs.RepWords.{rep_told}

-- ---- lists

any_same : {X : Type 0} (f g : X → Bool) → ((x : X) → f x ≡ g x) → (xs : List X) → list_any f xs ≡ list_any g xs
any_same f g same [] = refl
any_same f g same (x ∷ xs) = ap (λ (b : Bool). b || list_any f xs) (same x) ∙ ap (λ (b : Bool). g x || b) (any_same f g same xs)

pub any_mapped : {X Y : Type 0} (f : Y → Bool) (m : X → Y) (xs : List X) → list_any f (map m xs) ≡ list_any (λ x. f (m x)) xs
any_mapped f m [] = refl
any_mapped f m (x ∷ xs) = ap (λ (b : Bool). f (m x) || b) (any_mapped f m xs)

-- ---- kinds and words

pub equate_kind : (k : NodeKind) → is_equate_kind k ≡ is_of kind.Equate k
equate_kind kind.Equate = refl
equate_kind _ = refl

word_is : (f : File) (n : ℕ) (w : SimpleType) → (if is_rep w then codes "rep" ∷ [] else []) ≡ word_named f (a_simple_type n w)
word_is f n simple.Rep = refl
word_is f n _ = refl

module _ (f : File) (shaped : HaveForms f.nodes) where
  abbrev ds : List Declared
  ds = f.scope.declarations

  -- ---- the names of a node

  rep_same : (n : ℕ) (node : Node) → slice_get f.nodes n ≡ Some node → node.kind ≡ kind.Simple → rep_names node.value ≡ word_named f (a_simple_type n (simple_type (symbol_in node.value)))
  rep_same n node at is = by (bytes_eq node.value (codes "rep")) refl ∙ word_is f n (simple_type (symbol_in node.value))
    where
      told : bytes_eq node.value (codes "rep") ≡ is_rep (simple_type (symbol_in node.value))
      told = rep_told f.nodes node (shaped n node at) is

      by : (b : Bool) → bytes_eq node.value (codes "rep") ≡ b → (if b then node.value ∷ [] else []) ≡ (if is_rep (simple_type (symbol_in node.value)) then codes "rep" ∷ [] else [])
      by true e =
          let word : node.value ≡ codes "rep" = (bytes_eq-Decides node.value (codes "rep")).0 e in
          ap (λ (w : List ℕ). w ∷ []) word ∙ ap (λ (b : Bool). if b then codes "rep" ∷ [] else []) (sym e ∙ told)
      by false e = ap (λ (b : Bool). if b then codes "rep" ∷ [] else []) (sym e ∙ told)

  pub type_there : (n : ℕ) (node : Node) → slice_get f.nodes n ≡ Some node → node.kind ≡ kind.Simple → (item_at f.nodes n).type ≡ a_simple_type n (simple_type (symbol_in node.value))
  unfolding item_to
  type_there n node at is =
      ap (λ (its : Option Node). (item_with (before n (item_to f.nodes n)) f.nodes n its).type) at
      ∙ ap (λ (k : NodeKind). type_expression_of (before n (item_to f.nodes n)) f.nodes n node k) is

  abbrev denoted : ℕ → List Identifier → List (Option ℕ)
  denoted n names = map (λ name. found ds name n) names

  -- by kind, those by which equates are unfolded
  pub names_same : (n : ℕ) (node : Node) → slice_get f.nodes n ≡ Some node → (k : NodeKind) → node.kind ≡ k → if_used k (denoted n (names_in k node)) ≡ denoted n (names_unfolded f k n)
  names_same n node at kind.Name is = ap (λ (its : Option Node). denoted n (node_names f its)) (sym at)
  names_same n node at kind.NameT is = ap (λ (its : Option Node). denoted n (node_names f its)) (sym at)
  names_same n node at kind.Simple is = ap (denoted n) (rep_same n node at is ∙ ap (word_named f) (sym (type_there n node at is)))
  names_same n node at _ is = refl

  unfolded_same : (n : ℕ) → unfolded_at f.nodes ds n ≡ map (graph.equate_of f.nodes ds) (denoted n (names_unfolded f (kind_at f.nodes n) n))
  unfolded_same n = by (slice_get f.nodes n) refl
    where
      by : (its : Option Node) → slice_get f.nodes n ≡ its → map (graph.equate_of f.nodes ds) (if_used (kind_of its) (bound_at ds n its)) ≡ map (graph.equate_of f.nodes ds) (denoted n (names_unfolded f (kind_of its) n))
      by None at = refl
      by (Some node) at = ap (λ (bound : List (Option ℕ)). map (graph.equate_of f.nodes ds) bound) (names_same n node at node.kind refl)

  -- ---- where a name leads, if it does so from each equate by its place as by its node

  module _ (far near : ℕ → Bool) (same : (k : ℕ) (d : Declared) → slice_get ds k ≡ Some d → is_equate_at f.nodes d.node ≡ true → far k ≡ near d.node) where
    equate_same : (place : ℕ) (d : Declared) → slice_get ds place ≡ Some d → (b c : Bool) → is_equate_at f.nodes d.node ≡ b → b ≡ c → goes_on f.nodes f.rounds ds far (if b then Some place else None) ≡ leads_on f near (if c then Some d.node else None)
    equate_same place d there true true is e = same place d there is
    equate_same place d there true false is e = absurd (true≢false e)
    equate_same place d there false true is e = absurd (true≢false (sym e))
    equate_same place d there false false is e = refl

    place_same : (place : ℕ) (its : Option Declared) → slice_get ds place ≡ its → goes_on f.nodes f.rounds ds far (graph.equate_at f.nodes place its) ≡ leads_on f near (equate_of f (declaring_node f its))
    place_same place None there = refl
    place_same place (Some d) there = equate_same place d there (is_equate_at f.nodes d.node) (is_kind f kind.Equate d.node) refl (equate_kind (kind_at f.nodes d.node))

    found_same : (bound : Option ℕ) → goes_on f.nodes f.rounds ds far (graph.equate_of f.nodes ds bound) ≡ leads_on f near (equate_of f (declaring_node f (declaration_at f.scope bound)))
    found_same None = refl
    found_same (Some place) = place_same place (slice_get ds place) refl

    named_same : (n : ℕ) (names : List Identifier) → list_any (goes_on f.nodes f.rounds ds far) (map (graph.equate_of f.nodes ds) (denoted n names)) ≡ list_any (leads_on f near) (map (equate_named f n) names)
    named_same n [] = refl
    named_same n (name ∷ rest) =
        ap (λ (b : Bool). b || list_any (goes_on f.nodes f.rounds ds far) (map (graph.equate_of f.nodes ds) (denoted n rest))) (found_same (found ds name n))
        ∙ ap (λ (b : Bool). leads_on f near (equate_named f n name) || b) (named_same n rest)

    node_same : (n : ℕ) → list_any (goes_on f.nodes f.rounds ds far) (unfolded_at f.nodes ds n) ≡ list_any (leads_on f near) (equates_named f n)
    node_same n =
        ap (λ (os : List (Option ℕ)). list_any (goes_on f.nodes f.rounds ds far) os) (unfolded_same n)
        ∙ named_same n (names_unfolded f (kind_at f.nodes n) n)

  -- ---- for so many steps

  abbrev goes : ℕ → ℕ → Bool
  goes steps n = list_any (goes_on f.nodes f.rounds ds (goes_far f.nodes f.rounds ds steps)) (unfolded_at f.nodes ds n)

  abbrev leads : ℕ → ℕ → Bool
  leads steps n = list_any (leads_on f (leads_far f steps)) (equates_named f n)

  pub far_same : (steps k : ℕ) (d : Declared) → slice_get ds k ≡ Some d → is_equate_at f.nodes d.node ≡ true → goes_far f.nodes f.rounds ds steps k ≡ leads_far f steps d.node
  unfolding goes_far leads_far
  far_same zero k d there is = refl
  far_same (suc steps) k d there is =
      ap (λ (its : Option Declared). list_any (goes steps) (nodes_in f.nodes f.rounds ds its)) there
      ∙ ap (λ (b : Bool). list_any (goes steps) (if b then nodes_of f.nodes f.rounds ds d.node else [])) is
      ∙ any_same (goes steps) (leads steps) (node_same (goes_far f.nodes f.rounds ds steps) (leads_far f steps) (far_same steps)) (below f d.node)

  -- what is no equate goes nowhere
  no_step : (steps k : ℕ) (d : Declared) → slice_get ds k ≡ Some d → is_equate_at f.nodes d.node ≡ false → goes_far f.nodes f.rounds ds (suc steps) k ≡ false
  unfolding goes_far
  no_step steps k d there is =
      ap (λ (its : Option Declared). list_any (goes steps) (nodes_in f.nodes f.rounds ds its)) there
      ∙ ap (λ (b : Bool). list_any (goes steps) (if b then nodes_of f.nodes f.rounds ds d.node else [])) is

  none_far : (steps k : ℕ) (d : Declared) → k < steps → slice_get ds k ≡ Some d → is_equate_at f.nodes d.node ≡ false → goes_far f.nodes f.rounds ds steps k ≡ false
  none_far zero k d less there is = absurd (omega (arith, less))
  none_far (suc steps) k d less there is = no_step steps k d there is

  pub circular_same : (k : ℕ) (d : Declared) → slice_get ds k ≡ Some d → circular.is_circular f.nodes f.rounds ds k ≡ (is_kind f kind.Equate d.node && is_circular f d.node)
  circular_same k d there = by (is_equate_at f.nodes d.node) refl ∙ ap (λ (b : Bool). b && is_circular f d.node) (equate_kind (kind_at f.nodes d.node))
    where
      by : (b : Bool) → is_equate_at f.nodes d.node ≡ b → circular.is_circular f.nodes f.rounds ds k ≡ (b && is_circular f d.node)
      by true is = far_same (length ds) k d there is
      by false is = none_far (length ds) k d (slice_get_within ds k d there) there is
