-- What a node is made from by the definitions is what it is made from by the table of what names mean; so are the steps that one
-- can go on from it.
use Rattle.std.proofs.Common.{◌≡◌, ◌∙◌, ◌⊎◌, ℕ, zero, suc, ◌<◌, ◌≤◌, ◌==◌, ◌&&◌, ◌||◌, if◌then◌else◌, Bool, true, false, List, [], ◌∷◌, ◌++◌, length, map, nat_lt, Option, Some, None, inl, inr, refl, ap, ap₂, sym, subst, arith, lt-ltb}
use Rattle.std.specs.Prelude.{All, slice_get}
use Rattle.std.specs.List.{list_any}
use Rattle.std.proofs.lemmas.Bool.{cases_lt}
use Rattle.std.proofs.lemmas.Option.{none-some, same_Some, slice_get_within, slice_get_past}
use Rattle.std.proofs.lemmas.List.Elements.{All-head, All-tail}
use Rattle.clu_tree.specs.declared.node.Node.{Node}
use Rattle.clu_tree.specs.declared.node.NodeKind.{NodeKind}
use Rattle.clu_tree.specs.declared.node.NodeKind.TheVariants as kind
use Rattle.clu_syntax.specs.Kinds.{kind_at, kind_of}
use Rattle.clu_syntax.specs.Nodes.{item_at}
use Rattle.clu_syntax.specs.Splits.{is_of, children_of}
use Rattle.clu_syntax.specs.Syntax.{Identifier, TypeExpression}
use Rattle.clu_names.specs.declared.scopes.Declared.{Declared}
use Rattle.clu_names.specs.Denotes.{found, bound_at}
use Rattle.clu_meaning.specs.Scoping.{declaration_at}
use Rattle.clu_checking.specs.Files.{File, kind_in, node_children, children, children_at, declaring_node, equate_of}
use Rattle.clu_checking.specs.Equates.{names_unfolded, equates_at, first_equate, right_child, made_from, can_go_on}
use Rattle.clu_settle.specs.declared.meanings.Meaning.{Meaning}
use Rattle.clu_settle.specs.declared.meanings.Meaning.TheVariants as meaning
use Rattle.clu_settle.specs.Graph.{if_used}
use Rattle.clu_settle.specs.Names.{meaning_in}
use Rattle.clu_settle.specs.Meant as meant
use Rattle.clu_settle.specs.Lost as by_table
use Rattle.clu_settle.specs.Lost.{right_side, goes_on}
use Rattle.clu_settle.specs.Parameters.{counted_in, number_at}
use Rattle.clu_declares.proofs.Around.{there}
use Rattle.clu_declares.proofs.Each.{meaning_there, grown, grown_size, none_declared, more_declared}
use Rattle.clu_passes.specs.Trees.{IsFileOfTree}
use Rattle.clu_passes.proofs.ByNodes.{names_same}

all_got : (P : ℕ → Type 0) (xs : List ℕ) (k x : ℕ) → All P xs → slice_get xs k ≡ Some x → P x
all_got P [] k x all e = absurd (none-some x e)
all_got P (y ∷ ys) zero x all e = subst P (same_Some y x e) (All-head P y ys all)
all_got P (y ∷ ys) (suc k) x all e = all_got P ys k x (All-tail P y ys all) e

abbrev IsAmong : ℕ → List ℕ → Type 0
IsAmong d xs = (i : ℕ) × (slice_get xs i ≡ Some d)

in_either : (xs ys : List ℕ) (i d : ℕ) → slice_get (xs ++ ys) i ≡ Some d → IsAmong d xs ⊎ IsAmong d ys
in_either [] ys i d e = inr (i, e)
in_either (x ∷ xs) ys zero d e = inl (0, e)
in_either (x ∷ xs) ys (suc i) d e = elim (in_either xs ys i d e) [
  | inl h ↦ inl (suc h.0, h.1)
  | inr h ↦ inr h
]

any_alike : (p q : ℕ → Bool) (xs : List ℕ) → ((i d : ℕ) → slice_get xs i ≡ Some d → p d ≡ q d) → list_any p xs ≡ list_any q xs
any_alike p q [] same = refl
any_alike p q (x ∷ xs) same = ap₂ (λ (a b : Bool). a || b) (same 0 x refl) (any_alike p q xs (λ i d e. same (suc i) d e))

-- ---- right sides

parm_side : (b : Bool) (t : Option TypeExpression) (k : ℕ) → right_side (if b then meaning.Module else meant.parameter_as t k) ≡ []
parm_side true t k = refl
parm_side false None k = refl
parm_side false (Some t) k = refl

definition_side : (unit : Option ℕ) → right_side (meant.definition_in unit) ≡ []
definition_side (Some unit) = refl
definition_side None = refl

equated_side : (k : NodeKind) (c : ℕ) → right_side (meant.equated_by k c) ≡ (if is_of kind.TypeSet k then [] else c ∷ [])
equated_side kind.TypeSet c = refl
equated_side kind.File c = refl
equated_side _ c = refl

module _ (f : File) (of : IsFileOfTree f) where
  abbrev ds : List Declared
  ds = f.scope.declarations

  abbrev table : List Meaning
  table = meant.declared_to f.nodes f.rounds ds (length ds)

  abbrev pub meanings : List Meaning
  meanings = meant.meanings_of f.nodes f.rounds ds

  children_are : (n : ℕ) → children f n ≡ children_of (slice_get f.nodes n)
  children_are n = by (slice_get f.nodes n)
    where
      by : (its : Option Node) → node_children f its ≡ children_of its
      by (Some node) = refl
      by None = refl

  children_side : (cs : List ℕ) → right_side (meant.right_of f.nodes cs) ≡ right_child f cs
  children_side [] = refl
  children_side (c ∷ cs) = equated_side (kind_at f.nodes c) c

  declared_side : (k : NodeKind) (n : ℕ) (unit : Option ℕ) (count number : ℕ) → right_side (meant.declared_in f.nodes k n unit count number) ≡ (if is_of kind.Equate k then right_child f (children_of (slice_get f.nodes n)) else [])
  declared_side kind.Equate n unit count number = children_side (children_of (slice_get f.nodes n))
  declared_side kind.Parm n unit count number = parm_side (number == 0) (item_at f.nodes n).parameter.type number
  declared_side kind.TypeSet n unit count number = refl
  declared_side kind.Routine n unit count number = definition_side unit
  declared_side kind.Cluster n unit count number = definition_side unit
  declared_side kind.File n unit count number = refl
  declared_side _ n unit count number = refl

  abbrev side_of : Option Declared → List ℕ
  side_of its = right_child f (children_at f (equate_of f (declaring_node f its)))

  one_side : (p : ℕ) (its : Option Declared) → right_side (meant.declared_at f.nodes f.rounds ds p its) ≡ side_of its
  one_side p None = refl
  one_side p (Some d) =
      declared_side (kind_at f.nodes d.node) d.node d.unit (counted_in f.nodes f.rounds ds d.unit (length ds)) (number_at f.nodes f.rounds ds p (Some d))
      ∙ by (is_of kind.Equate (kind_at f.nodes d.node))
    where
      by : (b : Bool) → (if b then right_child f (children_of (slice_get f.nodes d.node)) else []) ≡ right_child f (children_at f (if b then Some d.node else None))
      by true = ap (right_child f) (sym (children_are d.node))
      by false = refl

  none_there : (p : ℕ) → length ds ≤ p → slice_get table p ≡ None
  none_there p l =
      let size : length table ≡ length ds = grown_size (meant.declared_to f.nodes f.rounds ds) (λ q. meant.declared_at f.nodes f.rounds ds q (slice_get ds q)) (none_declared f.nodes f.rounds ds) (more_declared f.nodes f.rounds ds) (length ds) in
      slice_get_past table p (omega (arith, l, size))

  bound_side : (bound : Option ℕ) → right_side (meant.bound_to_one table bound) ≡ side_of (declaration_at f.scope bound)
  bound_side None = refl
  bound_side (Some p) = elim (cases_lt p (length ds)) [
    | inl inside ↦
        ap (λ (o : Option Meaning). right_side (meaning_in o)) (grown (meant.declared_to f.nodes f.rounds ds) (λ q. meant.declared_at f.nodes f.rounds ds q (slice_get ds q)) (none_declared f.nodes f.rounds ds) (more_declared f.nodes f.rounds ds) (length ds) p inside)
        ∙ one_side p (slice_get ds p)
    | inr outside ↦
        ap (λ (o : Option Meaning). right_side (meaning_in o)) (none_there p outside)
        ∙ sym (ap side_of (slice_get_past ds p outside))
  ]

  names_side : (n : ℕ) (its : List Identifier) → right_side (meant.first_of f.nodes ds table (map (λ name. found ds name n) its)) ≡ right_child f (children_at f (first_equate f (equates_at f n its)))
  names_side n [] = refl
  names_side n (name ∷ others) = bound_side (found ds name n)

  meaning_here : (n : ℕ) → n < length f.nodes → meaning_in (slice_get meanings n) ≡ meant.first_of f.nodes ds table (map (λ name. found ds name n) (names_unfolded f (kind_in f n) n))
  meaning_here n inside =
      let m = there f.nodes n inside in
      ap meaning_in (meaning_there f.nodes f.rounds ds n inside)
      ∙ ap (λ (o : Option Node). meant.first_of f.nodes ds table (if_used (kind_of o) (bound_at ds n o))) m.1
      ∙ ap (meant.first_of f.nodes ds table) (names_same f of.shaped n m.0 m.1 m.0.kind refl)
      ∙ ap (λ (k : NodeKind). meant.first_of f.nodes ds table (map (λ name. found ds name n) (names_unfolded f k n))) (sym (ap kind_of m.1))

  made_same : (n : ℕ) → n < length f.nodes → made_from f n ≡ by_table.made_from f.nodes meanings n
  made_same n inside = ap₂ (λ (xs ys : List ℕ). xs ++ ys) (children_are n) (sym (ap right_side (meaning_here n inside) ∙ names_side n (names_unfolded f (kind_in f n) n)))

  -- ---- what a node is made from are nodes

  child_inside : (n i d : ℕ) → slice_get (children f n) i ≡ Some d → d < length f.nodes
  child_inside n i d e = by (slice_get f.nodes n) refl (sym (ap (λ (cs : List ℕ). slice_get cs i) (children_are n)) ∙ e)
    where
      by : (its : Option Node) → slice_get f.nodes n ≡ its → slice_get (children_of its) i ≡ Some d → d < length f.nodes
      by None at e = absurd (none-some d e)
      by (Some node) at e =
          let below : d < n = all_got (λ c. c < n) node.children i d (of.tree.below n node at) e in
          let inside : n < length f.nodes = slice_get_within f.nodes n node at in
          omega (arith, below, inside)

  right_inside : (o : Option ℕ) (i d : ℕ) → slice_get (right_child f (children_at f o)) i ≡ Some d → d < length f.nodes
  right_inside None i d e = absurd (none-some d e)
  right_inside (Some n) i d e = by (children f n) refl e
    where
      by : (cs : List ℕ) → children f n ≡ cs → slice_get (right_child f cs) i ≡ Some d → d < length f.nodes
      by [] are e = absurd (none-some d e)
      by (c ∷ cs) are e = one (is_of kind.TypeSet (kind_at f.nodes c)) i e
        where
          one : (b : Bool) (i : ℕ) → slice_get (if b then [] else c ∷ []) i ≡ Some d → d < length f.nodes
          one true i e = absurd (none-some d e)
          one false zero e = child_inside n 0 d (ap (λ (xs : List ℕ). slice_get xs 0) are ∙ e)
          one false (suc i) e = absurd (none-some d e)

  made_inside : (n i d : ℕ) → slice_get (made_from f n) i ≡ Some d → d < length f.nodes
  made_inside n i d e = elim (in_either (children f n) (right_child f (children_at f (first_equate f (equates_at f n (names_unfolded f (kind_in f n) n))))) i d e) [
    | inl h ↦ child_inside n h.0 d h.1
    | inr h ↦ right_inside (first_equate f (equates_at f n (names_unfolded f (kind_in f n) n))) h.0 d h.1
  ]

  pub goes_same : (steps n : ℕ) → n < length f.nodes → can_go_on f steps n ≡ goes_on f.nodes meanings steps n
  unfolding can_go_on goes_on
  goes_same zero n l = refl
  goes_same (suc steps) n l =
      any_alike (can_go_on f steps) (λ d. nat_lt d (length f.nodes) && goes_on f.nodes meanings steps d) (made_from f n) (λ i d e.
      let inside : d < length f.nodes = made_inside n i d e in
      goes_same steps d inside ∙ sym (ap (λ (b : Bool). b && goes_on f.nodes meanings steps d) (lt-ltb d (length f.nodes) inside)))
      ∙ ap (list_any (λ d. nat_lt d (length f.nodes) && goes_on f.nodes meanings steps d)) (made_same n l)
