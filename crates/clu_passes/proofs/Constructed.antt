-- V17 by tables: what a constructor is of, and its selectors by how many they are.
use Rattle.std.proofs.Common.{◌≡◌, ◌∙◌, ℕ, suc, ◌+◌, add-one, Bool, true, false, ◌&&◌, ◌||◌, if◌then◌else◌, List, [], ◌∷◌, ◌++◌, take, drop, flat_map, Option, Some, None, refl, sym, ap, ap₂, subst}
use Rattle.std.specs.Prelude.{slice_get, is_none, not, length}
use Rattle.std.specs.List.{AllByRecursion}
use Rattle.std.proofs.lemmas.Bool.{or_parts}
use Rattle.clu_tree.specs.declared.node.Node.{Node}
use Rattle.clu_tree.specs.declared.node.NodeKind.{NodeKind}
use Rattle.clu_tree.specs.declared.node.NodeKind.TheVariants as kind
use Rattle.clu_tree.specs.Nodes.{IsTree}
use Rattle.clu_parser.specs.Shape.{HaveForms}
use Rattle.clu_types.specs.CluType.{CluType}
use Rattle.clu_types.specs.declared.term.Term.{Term}
use Rattle.clu_types.specs.declared.term.Term.TheVariants as term
use Rattle.clu_types.specs.Arena.{type_of, types_of, PartsBelow}
use Rattle.clu_syntax.specs.Kinds.{kind_at, is_expression, is_type}
use Rattle.clu_syntax.specs.Slots.{any, slots}
use Rattle.clu_syntax.specs.Splits.{child, children_of, is_of, leading, run}
use Rattle.clu_syntax.specs.Syntax.{Identifier, TypeExpression}
use Rattle.clu_syntax.specs.Items.{Item, components_at}
use Rattle.clu_syntax.specs.Nodes.{before, item_at, item_with, component_of, elements_of, expression_of}
use Rattle.clu_parts.specs.Slots.{IsPart, AreParts}
use Rattle.clu_settle.specs.Names.{names_of}
use Rattle.clu_settle.proofs.Shapes.{any_fits, FirstPart, first_part}
use Rattle.clu_meaning.specs.Scoping.{Scope}
use Rattle.clu_meaning.specs.Settling.{type_settled}
use Rattle.clu_checking.specs.Specifications.{Specification}
use Rattle.clu_checking.specs.Files.{File, item, parent, names, node_children, children, children_at}
use Rattle.clu_checking.specs.NameRules.{stands_twice, stands_before, before_in, names_before}
use Rattle.clu_checking.specs.ExpressionRules as checking
use Rattle.clu_checking.specs.ExpressionRules.{selectors_of, v17, v17_at}
use Rattle.clu_checking.specs.Invocations as wanting
use Rattle.clu_checking.specs.Wanted as wants
use Rattle.clu_bindings.specs.Readers.{kind_in, children_in, wanted_in}
use Rattle.clu_bindings.specs.Wanted as bound
use Rattle.clu_declares.proofs.Below.{before_is, item_there, same_kind, and_false}
use Rattle.clu_declares.proofs.Facts.{There, there}
use Rattle.clu_declares.proofs.Parents.{of_all}
use Rattle.clu_name_rules.specs.declared.tables.Tables.{Tables}
use Rattle.clu_name_rules.specs.Components.{components_of, element_of, is_array, fields_of, fields_in}
use Rattle.clu_name_rules.specs.Constructors as of_tables
use Rattle.clu_name_rules.specs.Constructors.{has_low, has_low_at, term_of, term_at, has_no_elements}
use Rattle.clu_passes.specs.ConstantTables.{file_with, AreTables, IsKnown, IsWantedKnown}
use Rattle.clu_passes.specs.Constructed.{IsTyped, HasEachOnce}
use Rattle.clu_passes.specs.Counting.{names_of_fields}
use Rattle.clu_passes.specs.Notes.{has, HaveParents, DeclareModules, AreRepeated}
use Rattle.clu_passes.proofs.Actuals.{Known, type_known}
use Rattle.clu_passes.proofs.AtNodes.{names_are}
use Rattle.clu_passes.proofs.ByNotes.{items_told}
use Rattle.clu_passes.proofs.EachOnce.{some_before, IsFresh, stand_once}
use Rattle.clu_passes.proofs.FactNodes.{object_wanted}
use Rattle.clu_passes.proofs.FactTypes.{IsTerm, term_of_type}
use Rattle.clu_passes.proofs.OfParents.{is_in}
use Rattle.clu_passes.proofs.Selectors.{others_by_count}

-- ---- types by their terms

element_same : (types : List CluType) (its : Term) → is_none (checking.element_of (type_of types its)) ≡ is_none (element_of its)
element_same types (term.Array of) = refl
element_same types (term.Sequence of) = refl
element_same types _ = refl

array_same : (types : List CluType) (its : Term) → checking.is_array (type_of types its) ≡ is_array its
array_same types (term.Array of) = refl
array_same types _ = refl

-- ---- a run of all

pub whole_run : (nodes : List Node) (k : NodeKind) (n : ℕ) (cs : List ℕ) → AreParts nodes (is_of k) n cs → run nodes k cs ≡ cs
unfolding leading
whole_run nodes k n [] ps = refl
whole_run nodes k n (c ∷ cs) ps =
    let counted : leading nodes k (c ∷ cs) ≡ suc (leading nodes k cs) = ap (λ (b : Bool). if b then leading nodes k cs + 1 else 0) ps.0.1 ∙ add-one (leading nodes k cs) in
    ap (λ (m : ℕ). take m (c ∷ cs)) counted ∙ ap (λ (ds : List ℕ). c ∷ ds) (whole_run nodes k n cs ps.1)

no_component : (k : NodeKind) → (is_type k && is_of kind.FieldE k) ≡ false
no_component kind.File = refl
no_component _ = refl

member_of : (P : ℕ → Type 0) (c : ℕ) (cs : List ℕ) → AllByRecursion P cs → has c cs ≡ true → P c
member_of P c cs ps h = of_all P c cs ps (is_in c cs h)

module _ (t : Tables) (scope : Scope) (library : List Specification) (refused : List ℕ) where
  abbrev nodes : List Node
  nodes = t.file.syntax.now

  abbrev f : File
  f = file_with t.file scope library refused

  abbrev terms : List Term
  terms = t.types.now

  abbrev names_at : ℕ → List Identifier
  names_at c = names_of (slice_get nodes c)

  -- ---- the names of components

  component_is : (n c : ℕ) → IsPart nodes (is_of kind.FieldE) n c → (before n (item_at nodes) c).component.names ≡ names_at c
  component_is n c p =
      let x = there nodes c kind.FieldE refl (same_kind kind.FieldE (kind_at nodes c) p.1) in
      ap (λ (i : Item). i.component.names) (before_is nodes n c p.0)
      ∙ ap (λ (i : Item). i.component.names) (item_there nodes c x.node x.at)
      ∙ ap (λ (k : NodeKind). (component_of (before c (item_at nodes)) nodes c x.node k).names) x.is
      ∙ ap names_of (sym x.at)

  selectors_is : (n : ℕ) (cs : List ℕ) → AreParts nodes (is_of kind.FieldE) n cs → selectors_of (components_at (before n (item_at nodes)) cs) ≡ flat_map names_at cs
  selectors_is n [] ps = refl
  selectors_is n (c ∷ cs) ps = ap₂ (λ (a b : List Identifier). a ++ b) (component_is n c ps.0) (selectors_is n cs ps.1)

  -- ---- none of them stands twice, if V17 is violated at none

  abbrev picked : ℕ → List Identifier
  picked c = if is_of kind.FieldE (kind_at nodes c) then names f c else []

  names_picked : (cs : List ℕ) → names_before f kind.FieldE cs ≡ flat_map picked cs
  names_picked [] = refl
  names_picked (c ∷ cs) = by (is_of kind.FieldE (kind_at nodes c)) (names_picked cs)
    where
      by : (b : Bool) → names_before f kind.FieldE cs ≡ flat_map picked cs → (if b then names f c ++ names_before f kind.FieldE cs else names_before f kind.FieldE cs) ≡ ((if b then names f c else []) ++ flat_map picked cs)
      by true rest = ap (λ (xs : List Identifier). names f c ++ xs) rest
      by false rest = rest

  fresh_at : (n c : ℕ) → parent f c ≡ Some n → v17 f c ≡ false → IsFresh picked (children f n) c
  fresh_at n c above fine = by (is_of kind.FieldE (kind_at nodes c)) refl
    where
      by : (b : Bool) → is_of kind.FieldE (kind_at nodes c) ≡ b → IsFresh picked (children f n) c
      by true e =
          let its : (stands_twice (names f c) || stands_before f kind.FieldE c) ≡ false = ap (λ (k : NodeKind). v17_at f k c) (sym (same_kind kind.FieldE (kind_at nodes c) e)) ∙ fine in
          let both = or_parts (stands_twice (names f c)) (stands_before f kind.FieldE c) its in (
            ap (λ (b : Bool). stands_twice (if◌then◌else◌ {A = List Identifier} b (names f c) [])) e ∙ both.0,
            ap (λ (b : Bool). some_before (flat_map picked (before_in (children f n) c)) (if◌then◌else◌ {A = List Identifier} b (names f c) [])) e
                ∙ ap (λ (xs : List Identifier). some_before xs (names f c)) (sym (names_picked (before_in (children f n) c)))
                ∙ ap (λ (o : Option ℕ). some_before (names_before f kind.FieldE (before_in (children_at f o) c)) (names f c)) (sym above)
                ∙ both.1,
          )
      by false e = (
        ap (λ (b : Bool). stands_twice (if◌then◌else◌ {A = List Identifier} b (names f c) [])) e,
        ap (λ (b : Bool). some_before (flat_map picked (before_in (children f n) c)) (if◌then◌else◌ {A = List Identifier} b (names f c) [])) e,
      )

  picked_all : (n : ℕ) (cs : List ℕ) → AreParts nodes (is_of kind.FieldE) n cs → flat_map picked cs ≡ flat_map names_at cs
  picked_all n [] ps = refl
  picked_all n (c ∷ cs) ps =
      ap₂ (λ (a b : List Identifier). a ++ b) (ap (λ (b : Bool). if◌then◌else◌ {A = List Identifier} b (names f c) []) ps.0.1 ∙ sym (names_are f c)) (picked_all n cs ps.1)

  picked_none : (c : ℕ) → is_type (kind_at nodes c) ≡ true → picked c ≡ []
  picked_none c is = ap (λ (b : Bool). if◌then◌else◌ {A = List Identifier} b (names f c) []) (and_false (is_type (kind_at nodes c)) (is_of kind.FieldE (kind_at nodes c)) (no_component (kind_at nodes c)) is)

  once_of : HaveParents f → (n c : ℕ) (cs : List ℕ) → children f n ≡ c ∷ cs → is_type (kind_at nodes c) ≡ true → AreParts nodes (is_of kind.FieldE) n cs → AllByRecursion (λ d. v17 f d ≡ false) (children f n) → stands_twice (flat_map names_at cs) ≡ false
  once_of parents n c cs e is ps fine =
      ap stands_twice (sym (picked_all n cs ps))
      ∙ ap (λ (xs : List Identifier). stands_twice (xs ++ flat_map picked cs)) (sym (picked_none c is))
      ∙ ap (λ (ds : List ℕ). stands_twice (flat_map picked ds)) (sym e)
      ∙ stand_once picked (children f n) (parents.once n) (λ d h. fresh_at n d (parents.above n d h) (member_of (λ d. v17 f d ≡ false) d (children f n) fine h))

  -- ---- selectors, by the type

  others_same : (its : Term) (cs : List ℕ) → stands_twice (names_of_fields (fields_of its)) ≡ false → stands_twice (flat_map names_at cs) ≡ false →
      checking.has_other_selectors f (checking.components_of (type_of (types_of terms) its)) (flat_map names_at cs) ≡ of_tables.has_other_selectors nodes (components_of its) cs
  others_same (term.Record fs) cs once_in once_at = others_by_count (types_of terms) fs names_at cs once_in once_at f
  others_same (term.Struct fs) cs once_in once_at = others_by_count (types_of terms) fs names_at cs once_in once_at f
  others_same _ cs once_in once_at = refl

  elements_same : (items others : ℕ → Item) (n : ℕ) (u v : TypeExpression) (token : Option ℕ) (cs : List ℕ) (its : Term) → type_settled scope u ≡ type_of (types_of terms) its →
      checking.has_no_constructor f (elements_of items nodes n u token cs) ≡ has_no_elements (has_low (elements_of others nodes n v token cs)) its
  elements_same items others n u v None cs its e = ap (λ (T : CluType). is_none (checking.element_of T)) e ∙ element_same (types_of terms) its
  elements_same items others n u v (Some token) [] its e = ap (λ (T : CluType). is_none (checking.element_of T)) e ∙ element_same (types_of terms) its
  elements_same items others n u v (Some token) (c ∷ cs) its e = ap (λ (T : CluType). not (checking.is_array T)) e ∙ ap not (array_same (types_of terms) its)

  module _ (shaped : HaveForms nodes) (tree : IsTree nodes) (are : AreTables f t) where
    -- the type at a node, by its term
    pub record TermKnown (c : ℕ) : Type 0 where
      pub its : Term
      pub type : type_settled scope (item f c).type ≡ type_of (types_of terms) its
      pub known : term_at t c ≡ Some its
      pub parts : PartsBelow (length terms) its

    pub term_known : (c : ℕ) → is_type (kind_at nodes c) ≡ true → IsKnown t.file c → TermKnown c
    term_known c is known =
        let k : Known t scope library refused shaped tree are c = type_known t scope library refused shaped tree are c is known in
        let x : IsTerm terms k.id (type_settled scope (item f c).type) = term_of_type terms are.arena k.id (type_settled scope (item f c).type) k.less k.type in
        record { its = x.its; type = x.is; known = ap (term_of terms) k.value ∙ x.there; parts = x.parts }

    wanted_at : (n : ℕ) → IsWantedKnown t.file n → wanting.is_object_wanted (wants.wanted f n) ≡ bound.is_object_wanted (wanted_in t.file n)
    wanted_at n known = sym (ap wanting.is_object_wanted (are.wanted n known)) ∙ object_wanted (wanted_in t.file n)

    constructor_at : (k : NodeKind) (n : ℕ) (x : There nodes n k) → checking.has_no_constructor f (item f n).expression ≡ checking.has_no_constructor f (expression_of (before n (item_at nodes)) nodes n x.node k)
    constructor_at k n x =
        ap (λ (i : Item). checking.has_no_constructor f i.expression) (item_there nodes n x.node x.at)
        ∙ ap (λ (k : NodeKind). checking.has_no_constructor f (expression_of (before n (item_at nodes)) nodes n x.node k)) x.is

    fields_is : HaveParents f → (items : ℕ → Item) (n : ℕ) → kind_at nodes n ≡ kind.Fields → IsTyped t kind.Fields (children_in t.file n) → HasEachOnce t kind.Fields (children_in t.file n) → AllByRecursion (λ c. v17 f c ≡ false) (children f n) →
        checking.has_no_constructor f (item f n).expression ≡ of_tables.has_no_constructor t items kind.Fields n (children_in t.file n)
    fields_is parents items n is typed once fine =
        let x : There nodes n kind.Fields = there nodes n kind.Fields refl is in
        let first : FirstPart nodes tree shaped is_type (any (is_of kind.FieldE) ∷ []) n x.node = first_part nodes tree shaped is_type (any (is_of kind.FieldE) ∷ []) n x.node x.at (ap slots x.is) in
        let c : ℕ = child 0 x.node in
        let cs : List ℕ = drop 1 x.node.children in
        let ps : AreParts nodes (is_of kind.FieldE) n cs = any_fits nodes (is_of kind.FieldE) n cs first.before first.rest in
        let kids : children_in t.file n ≡ c ∷ cs = ap children_of x.at ∙ first.is in
        let of_file : children f n ≡ c ∷ cs = ap (node_children f) x.at ∙ first.is in
        let k : TermKnown c = term_known c first.first.1 (subst (IsTyped t kind.Fields) kids typed) in
        let once_in : stands_twice (names_of_fields (fields_of k.its)) ≡ false = ap (λ (o : Option Term). stands_twice (names_of_fields (fields_in o))) (sym k.known) ∙ subst (HasEachOnce t kind.Fields) kids once in
        constructor_at kind.Fields n x
        ∙ ap (λ (i : Item). checking.has_other_selectors f (checking.components_of (type_settled scope i.type)) (selectors_of (components_at (before n (item_at nodes)) (run nodes kind.FieldE cs)))) (before_is nodes n c first.first.0)
        ∙ ap₂ (λ (T : CluType) (ds : List ℕ). checking.has_other_selectors f (checking.components_of T) (selectors_of (components_at (before n (item_at nodes)) ds))) k.type (whole_run nodes kind.FieldE n cs ps)
        ∙ ap (checking.has_other_selectors f (checking.components_of (type_of (types_of terms) k.its))) (selectors_is n cs ps)
        ∙ others_same k.its cs once_in (once_of parents n c cs of_file first.first.1 ps fine)
        ∙ ap (λ (o : Option Term). of_tables.is_of_other_if t items kind.Fields n o cs) (sym k.known)
        ∙ ap (of_tables.has_no_constructor t items kind.Fields n) (sym kids)

    elements_is : (items : ℕ → Item) (n : ℕ) → kind_at nodes n ≡ kind.Elems → IsTyped t kind.Elems (children_in t.file n) →
        checking.has_no_constructor f (item f n).expression ≡ of_tables.has_no_constructor t items kind.Elems n (children_in t.file n)
    elements_is items n is typed =
        let x : There nodes n kind.Elems = there nodes n kind.Elems refl is in
        let first = first_part nodes tree shaped is_type (any is_expression ∷ []) n x.node x.at (ap slots x.is) in
        let c : ℕ = child 0 x.node in
        let cs : List ℕ = drop 1 x.node.children in
        let kids : children_in t.file n ≡ c ∷ cs = ap children_of x.at ∙ first.is in
        let k : TermKnown c = term_known c first.first.1 (subst (IsTyped t kind.Elems) kids typed) in
        let low : has_low_at items nodes n ≡ has_low (elements_of items nodes n (items c).type x.node.value_token cs) =
        ap (λ (its : Option Node). has_low (item_with items nodes n its).expression) x.at
        ∙ ap (λ (k : NodeKind). has_low (expression_of items nodes n x.node k)) x.is in
        constructor_at kind.Elems n x
        ∙ elements_same (before n (item_at nodes)) items n (before n (item_at nodes) c).type (items c).type x.node.value_token cs k.its (ap (λ (i : Item). type_settled scope i.type) (before_is nodes n c first.first.0) ∙ k.type)
        ∙ ap (λ (b : Bool). has_no_elements b k.its) (sym low)
        ∙ ap (λ (o : Option Term). of_tables.is_of_other_if t items kind.Elems n o cs) (sym k.known)
        ∙ ap (of_tables.has_no_constructor t items kind.Elems n) (sym kids)

    module _ (parents : HaveParents f) (modules : DeclareModules f) (repeated : AreRepeated f t.items.now.repeated.items) where
      by_kind : (items : ℕ → Item) (n : ℕ) → AllByRecursion (λ c. v17 f c ≡ false) (children f n) → IsWantedKnown t.file n → (k : NodeKind) → kind_at nodes n ≡ k → IsTyped t k (children_in t.file n) → HasEachOnce t k (children_in t.file n) → v17_at f k n ≡ of_tables.v17_at t items k n
      by_kind items n fine known kind.FieldT is typed once = sym (items_told f parents modules t.items.now.repeated.items repeated n kind.FieldT is refl)
      by_kind items n fine known kind.FieldE is typed once = sym (items_told f parents modules t.items.now.repeated.items repeated n kind.FieldE is refl)
      by_kind items n fine known kind.Fields is typed once = ap₂ (λ (a b : Bool). a && b) (wanted_at n known) (fields_is parents items n is typed once fine)
      by_kind items n fine known kind.Elems is typed once = ap₂ (λ (a b : Bool). a && b) (wanted_at n known) (elements_is items n is typed)
      by_kind items n fine known _ is typed once = refl

      pub v17_is : (items : ℕ → Item) (n : ℕ) → IsWantedKnown t.file n → IsTyped t (kind_in t.file n) (children_in t.file n) → HasEachOnce t (kind_in t.file n) (children_in t.file n) → AllByRecursion (λ c. v17 f c ≡ false) (children f n) → v17 f n ≡ of_tables.v17 t items n
      v17_is items n known typed once fine = by_kind items n fine known (kind_at nodes n) refl typed once
