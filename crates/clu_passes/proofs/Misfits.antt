-- V13 of constructors, by what is known of types.
use Rattle.std.proofs.Common.{◌≡◌, ◌∙◌, ◌<◌, ℕ, Bool, true, false, ◌&&◌, ◌||◌, if◌then◌else◌, List, [], ◌∷◌, length, drop, bytes_eq, Option, Some, None, refl, sym, ap, ap₂, subst}
use Rattle.std.specs.Prelude.{slice_get, not}
use Rattle.std.specs.List.{AllByRecursion, list_all}
use Rattle.std.specs.Option.{option_and_then, option_map}
use Rattle.std.proofs.Math.Bool.{and-false}
use Rattle.std.proofs.lemmas.Bool.{true≢false}
use Rattle.clu_tree.specs.declared.node.Node.{Node}
use Rattle.clu_tree.specs.declared.node.NodeKind.{NodeKind}
use Rattle.clu_tree.specs.declared.node.NodeKind.TheVariants as kind
use Rattle.clu_tree.specs.Nodes.{IsTree}
use Rattle.clu_parser.specs.Shape.{HaveForms}
use Rattle.clu_types.specs.CluType.{CluType, Fields, int_type}
use Rattle.clu_types.specs.declared.term.TypeId.{TypeId}
use Rattle.clu_types.specs.declared.term.Field.{Field}
use Rattle.clu_types.specs.declared.term.Term.{Term}
use Rattle.clu_types.specs.declared.term.Term.TheVariants as term
use Rattle.clu_types.specs.Arena.{type_at as type_in_arena, type_of, types_of, fields_at, FieldsBelow, PartsBelow}
use Rattle.clu_layout.specs.SameType.{same_type}
use Rattle.clu_syntax.specs.Kinds.{kind_at, is_expression, is_type}
use Rattle.clu_syntax.specs.Slots.{any, slots}
use Rattle.clu_syntax.specs.Splits.{child, children_of, is_of, run}
use Rattle.clu_syntax.specs.Syntax.{Identifier, TypeExpression}
use Rattle.clu_syntax.specs.Items.{Item, components_at, expressions_at}
use Rattle.clu_syntax.specs.Nodes.{before, item_at, item_with, component_of, elements_of, expression_of}
use Rattle.clu_parts.specs.Slots.{IsPart, AreParts}
use Rattle.clu_settle.specs.Names.{names_of}
use Rattle.clu_settle.proofs.Shapes.{any_fits, first_part}
use Rattle.clu_meaning.specs.Scoping.{Scope}
use Rattle.clu_meaning.specs.Settling.{type_settled}
use Rattle.clu_checking.specs.Specifications.{Specification}
use Rattle.clu_checking.specs.Files.{File, item}
use Rattle.clu_checking.specs.Operations.{may_fit}
use Rattle.clu_checking.specs.Typing as typing
use Rattle.clu_checking.specs.Invocations as wanting
use Rattle.clu_checking.specs.ExpressionRules as checking
use Rattle.clu_checking.specs.ExpressionRules.{is_other_than, v13}
use Rattle.clu_bindings.specs.Wanted as bound
use Rattle.clu_declares.proofs.Below.{before_is, item_there, same_kind}
use Rattle.clu_declares.proofs.Facts.{There, there}
use Rattle.clu_name_rules.specs.Components.{component_type, components_of, element_of}
use Rattle.clu_name_rules.specs.Constructors.{has_low, has_low_at}
use Rattle.clu_type_rules.specs.declared.known.Known.{Known}
use Rattle.clu_type_rules.specs.Included.{may_be}
use Rattle.clu_type_rules.specs.Known as known
use Rattle.clu_type_rules.specs.Known.{type_at, term_of, first_type, wanted_in}
use Rattle.clu_type_rules.specs.Constructors as of_tables
use Rattle.clu_type_rules.specs.Constructors.{is_int, is_other_than_int, component_fits, element_fits, some_component_misfits, some_element_misfits, has_misfit, is_misfit}
use Rattle.clu_passes.specs.ConstantTables.{AreTables, AreWantedKnown, IsKnown}
use Rattle.clu_passes.specs.Constructed.{IsTyped}
use Rattle.clu_passes.specs.FactTables.{typed, IsType, AreFacts}
use Rattle.clu_passes.proofs.Constructed.{TermKnown, term_known, whole_run}
use Rattle.clu_passes.proofs.FactNodes as so
use Rattle.clu_passes.proofs.FactTypes.{IsTerm, term_of_type, may_same}
use Rattle.clu_passes.proofs.Invoked.{types_are}
use Rattle.clu_passes.proofs.Selectors.{component_is}

-- ---- types by their terms

int_same : (types : List CluType) (its : Term) → same_type (type_of types its) int_type ≡ is_int its
int_same types term.Int = refl
int_same types _ = refl

components_same : (types : List CluType) (its : Term) → checking.components_of (type_of types its) ≡ option_map (fields_at types) (components_of its)
components_same types (term.Record fs) = refl
components_same types (term.Struct fs) = refl
components_same types _ = refl

elements_same : (types : List CluType) (its : Term) → checking.element_of (type_of types its) ≡ option_map (type_in_arena types) (element_of its)
elements_same types (term.Array of) = refl
elements_same types (term.Sequence of) = refl
elements_same types _ = refl

-- ---- parts are types of the arena

abbrev pub IsBelow : ℕ → Option TypeId → Type 0
IsBelow n (Some id) = id.0 < n
IsBelow n None = Unit {0}

abbrev pub AreFieldsBelow : ℕ → Option (List Field) → Type 0
AreFieldsBelow n (Some fs) = FieldsBelow n fs
AreFieldsBelow n None = Unit {0}

components_below : (n : ℕ) (its : Term) → PartsBelow n its → AreFieldsBelow n (components_of its)
components_below n (term.Record fs) parts = parts
components_below n (term.Struct fs) parts = parts
components_below n _ parts = tt

element_below : (n : ℕ) (its : Term) → PartsBelow n its → IsBelow n (element_of its)
element_below n (term.Array of) parts = parts
element_below n (term.Sequence of) parts = parts
element_below n _ parts = tt

pub component_below : (n : ℕ) (fs : List Field) (name : Identifier) → FieldsBelow n fs → IsBelow n (component_type fs name)
component_below n [] name below = tt
component_below n (field ∷ fs) name below = by (bytes_eq field.name name) (component_below n fs name below.1)
  where
    by : (b : Bool) → IsBelow n (component_type fs name) → IsBelow n (if b then Some field.of else component_type fs name)
    by true rest = below.0
    by false rest = rest

abbrev is_constructor : NodeKind → Bool
is_constructor kind.Fields = true
is_constructor kind.Elems = true
is_constructor _ = false

module _ (k : Known) (scope : Scope) (library : List Specification) (refused : List ℕ) where
  abbrev nodes : List Node
  nodes = k.tables.file.syntax.now

  abbrev f : File
  f = so.f k scope library refused

  abbrev terms : List Term
  terms = k.tables.types.now

  abbrev names_at : ℕ → List Identifier
  names_at c = names_of (slice_get nodes c)

  may_same_of : (given : Option TypeId) (t : Option CluType) → IsType terms given t → (wanted : Option TypeId) → IsBelow (length terms) wanted → checking.may_be t (option_map (type_in_arena (types_of terms)) wanted) ≡ may_be terms given wanted
  may_same_of given t is (Some id) below = may_same terms given t is id below
  may_same_of None t is None below = refl
  may_same_of (Some id) t is None below = refl

  -- ---- components

  names_fit : (given : Option TypeId) (t : Option CluType) → IsType terms given t → (fs : List Field) → FieldsBelow (length terms) fs → (names : List Identifier) →
      list_all (λ name. checking.may_be t (checking.component_type (fields_at (types_of terms) fs) name)) names ≡ list_all (λ name. may_be terms given (component_type fs name)) names
  names_fit given t is fs below [] = refl
  names_fit given t is fs below (name ∷ names) =
      ap₂ (λ (a b : Bool). a && b)
      (ap (checking.may_be t) (component_is (types_of terms) fs name) ∙ may_same_of given t is (component_type fs name) (component_below (length terms) fs name below))
      (names_fit given t is fs below names)

  module _ (shaped : HaveForms nodes) (tree : IsTree nodes) (are : AreTables f k.tables) (lost : ℕ → Bool) (facts : AreFacts f terms k.facts.now lost) where
    abbrev Here : List ℕ → Type 0
    Here cs = AllByRecursion (λ c. lost c ≡ false) cs

    below_is : (n : ℕ) → lost n ≡ false → Here (known.children k n)
    below_is n here = subst Here (so.children_same k scope library refused (slice_get nodes n)) (facts.below n here)

    -- a component, with its value
    record Component (n c : ℕ) : Type 0 where
      given : Option TypeId
      type : Option CluType
      is : IsType terms given type
      code : first_type k (known.children k c) ≡ given
      value : typing.type_of f (before n (item_at nodes) c).component.value ≡ type
      names : (before n (item_at nodes) c).component.names ≡ names_at c

    component : (n c : ℕ) → IsPart nodes (is_of kind.FieldE) n c → lost c ≡ false → Component n c
    component n c p here =
        let x : There nodes c kind.FieldE = there nodes c kind.FieldE refl (same_kind kind.FieldE (kind_at nodes c) p.1) in
        let first = first_part nodes tree shaped is_expression [] c x.node x.at (ap slots x.is) in
        let e : ℕ = child 0 x.node in
        let kids : known.children k c ≡ e ∷ drop 1 x.node.children = ap children_of x.at ∙ first.is in
        let all : Here (e ∷ drop 1 x.node.children) = subst Here kids (below_is c here) in
        record {
          given = type_at k e;
          type = typed f e;
          is = facts.types e all.0;
          code = ap (first_type k) kids;
          value =
              ap (λ (i : Item). typing.type_of f i.component.value) (before_is nodes n c p.0)
              ∙ ap (λ (i : Item). typing.type_of f i.component.value) (item_there nodes c x.node x.at)
              ∙ ap (λ (j : NodeKind). typing.type_of f (component_of (before c (item_at nodes)) nodes c x.node j).value) x.is
              ∙ ap (λ (i : Item). typing.type_of f i.expression) (before_is nodes c e first.first.0)
              ∙ sym (so.an_expression k scope library refused e first.first.1);
          names =
              ap (λ (i : Item). i.component.names) (before_is nodes n c p.0)
              ∙ ap (λ (i : Item). i.component.names) (item_there nodes c x.node x.at)
              ∙ ap (λ (j : NodeKind). (component_of (before c (item_at nodes)) nodes c x.node j).names) x.is
              ∙ ap names_of (sym x.at);
        }

    components_fit : (fs : List Field) → FieldsBelow (length terms) fs → (n : ℕ) (cs : List ℕ) → AreParts nodes (is_of kind.FieldE) n cs → Here cs →
        checking.all_components_fit f (fields_at (types_of terms) fs) (components_at (before n (item_at nodes)) cs) ≡ list_all (component_fits k fs) cs
    components_fit fs below n [] ps here = refl
    components_fit fs below n (c ∷ cs) ps here =
        let x : Component n c = component n c ps.0 here.0 in
        ap₂ (λ (a b : Bool). a && b)
        (ap₂ (λ (t : Option CluType) (names : List Identifier). list_all (λ name. checking.may_be t (checking.component_type (fields_at (types_of terms) fs) name)) names) x.value x.names
        ∙ names_fit x.given x.type x.is fs below (names_at c)
        ∙ ap (λ (given : Option TypeId). list_all (λ name. may_be terms given (component_type fs name)) (names_at c)) (sym x.code))
        (components_fit fs below n cs ps.1 here.1)

    components_misfit : (o : Option (List Field)) → AreFieldsBelow (length terms) o → (n : ℕ) (cs : List ℕ) → AreParts nodes (is_of kind.FieldE) n cs → Here cs →
        checking.some_component_misfits f (option_map (fields_at (types_of terms)) o) (components_at (before n (item_at nodes)) cs) ≡ some_component_misfits k o cs
    components_misfit None below n cs ps here = refl
    components_misfit (Some fs) below n cs ps here = ap not (components_fit fs below n cs ps here)

    -- ---- elements

    element_same : (n c : ℕ) → IsPart nodes is_expression n c → typing.type_of f (before n (item_at nodes) c).expression ≡ typed f c
    element_same n c p = ap (λ (i : Item). typing.type_of f i.expression) (before_is nodes n c p.0) ∙ sym (so.an_expression k scope library refused c p.1)

    elements_fit : (id : TypeId) → id.0 < length terms → (n : ℕ) (cs : List ℕ) → AreParts nodes is_expression n cs → Here cs →
        list_all (λ given. may_fit given (type_in_arena (types_of terms) id)) (wanting.types_of f (expressions_at (before n (item_at nodes)) cs)) ≡ list_all (element_fits k (Some id)) cs
    elements_fit id below n [] ps here = refl
    elements_fit id below n (c ∷ cs) ps here =
        ap₂ (λ (a b : Bool). a && b)
        (ap (λ (t : Option CluType). may_fit t (type_in_arena (types_of terms) id)) (element_same n c ps.0) ∙ may_same terms (type_at k c) (typed f c) (facts.types c here.0) id below)
        (elements_fit id below n cs ps.1 here.1)

    all_fit : (cs : List ℕ) → list_all (element_fits k None) cs ≡ true
    all_fit [] = refl
    all_fit (c ∷ cs) = by (type_at k c) (all_fit cs)
      where
        by : (o : Option TypeId) → list_all (element_fits k None) cs ≡ true → (may_be terms o None && list_all (element_fits k None) cs) ≡ true
        by None rest = rest
        by (Some id) rest = rest

    elements_misfit : (o : Option TypeId) → IsBelow (length terms) o → (n : ℕ) (cs : List ℕ) → AreParts nodes is_expression n cs → Here cs →
        checking.some_element_misfits f (option_map (type_in_arena (types_of terms)) o) (expressions_at (before n (item_at nodes)) cs) ≡ not (list_all (element_fits k o) cs)
    elements_misfit None below n cs ps here = sym (ap not (all_fit cs))
    elements_misfit (Some id) below n cs ps here = ap not (elements_fit id below n cs ps here)

    no_int : (given : Option TypeId) (t : Option CluType) → IsType terms given t → is_other_than int_type t ≡ is_other_than_int (term_of k given)
    no_int None None is = refl
    no_int None (Some t) is = absurd is
    no_int (Some id) None is = absurd is
    no_int (Some id) (Some t) is =
        let x : IsTerm terms id t = term_of_type terms are.arena id t is.0 is.1 in
        ap (λ (t : CluType). is_other_than int_type (Some t)) x.is ∙ ap not (int_same (types_of terms) x.its) ∙ ap is_other_than_int (sym x.there)

    -- the low bound stands first, if there is one
    elements_told : (others : ℕ → Item) (n : ℕ) (u v : TypeExpression) (token : Option ℕ) (cs : List ℕ) → AreParts nodes is_expression n cs → Here cs → (its : Term) → PartsBelow (length terms) its → type_settled scope u ≡ type_of (types_of terms) its →
        checking.has_misfit f (elements_of (before n (item_at nodes)) nodes n u token cs) ≡ some_element_misfits k (has_low (elements_of others nodes n v token cs)) (element_of its) cs
    elements_told others n u v None cs ps here its parts e =
        ap (λ (T : CluType). checking.some_element_misfits f (checking.element_of T) (expressions_at (before n (item_at nodes)) cs)) e
        ∙ ap (λ (o : Option CluType). checking.some_element_misfits f o (expressions_at (before n (item_at nodes)) cs)) (elements_same (types_of terms) its)
        ∙ elements_misfit (element_of its) (element_below (length terms) its parts) n cs ps here
    elements_told others n u v (Some token) [] ps here its parts e =
        ap (λ (T : CluType). checking.some_element_misfits f (checking.element_of T) (expressions_at (before n (item_at nodes)) [])) e
        ∙ ap (λ (o : Option CluType). checking.some_element_misfits f o (expressions_at (before n (item_at nodes)) [])) (elements_same (types_of terms) its)
        ∙ elements_misfit (element_of its) (element_below (length terms) its parts) n [] ps here
    elements_told others n u v (Some token) (c ∷ cs) ps here its parts e =
        ap₂ (λ (a b : Bool). a || b)
        (ap (is_other_than int_type) (element_same n c ps.0) ∙ no_int (type_at k c) (typed f c) (facts.types c here.0))
        (ap (λ (T : CluType). checking.some_element_misfits f (checking.element_of T) (expressions_at (before n (item_at nodes)) cs)) e
        ∙ ap (λ (o : Option CluType). checking.some_element_misfits f o (expressions_at (before n (item_at nodes)) cs)) (elements_same (types_of terms) its)
        ∙ elements_misfit (element_of its) (element_below (length terms) its parts) n cs ps.1 here.1)

    -- ---- the rule

    misfit_at : (j : NodeKind) (n : ℕ) (x : There nodes n j) → checking.has_misfit f (item f n).expression ≡ checking.has_misfit f (expression_of (before n (item_at nodes)) nodes n x.node j)
    misfit_at j n x =
        ap (λ (i : Item). checking.has_misfit f i.expression) (item_there nodes n x.node x.at)
        ∙ ap (λ (j : NodeKind). checking.has_misfit f (expression_of (before n (item_at nodes)) nodes n x.node j)) x.is

    type_there : (c : ℕ) → is_type (kind_at nodes c) ≡ true → IsKnown k.tables.file c → TermKnown k.tables scope library refused shaped tree are c
    type_there c is here = term_known k.tables scope library refused shaped tree are c is here

    in_fields : (others : ℕ → Item) (n : ℕ) → kind_at nodes n ≡ kind.Fields → lost n ≡ false → IsTyped k.tables kind.Fields (known.children k n) → checking.has_misfit f (item f n).expression ≡ has_misfit k others kind.Fields n (known.children k n)
    in_fields others n is here typed_first =
        let x : There nodes n kind.Fields = there nodes n kind.Fields refl is in
        let first = first_part nodes tree shaped is_type (any (is_of kind.FieldE) ∷ []) n x.node x.at (ap slots x.is) in
        let c : ℕ = child 0 x.node in
        let cs : List ℕ = drop 1 x.node.children in
        let ps : AreParts nodes (is_of kind.FieldE) n cs = any_fits nodes (is_of kind.FieldE) n cs first.before first.rest in
        let kids : known.children k n ≡ c ∷ cs = ap children_of x.at ∙ first.is in
        let all : Here (c ∷ cs) = subst Here kids (below_is n here) in
        let t = type_there c first.first.1 (subst (IsTyped k.tables kind.Fields) kids typed_first) in
        misfit_at kind.Fields n x
        ∙ ap (λ (i : Item). checking.some_component_misfits f (checking.components_of (type_settled scope i.type)) (components_at (before n (item_at nodes)) (run nodes kind.FieldE cs))) (before_is nodes n c first.first.0)
        ∙ ap₂ (λ (T : CluType) (ds : List ℕ). checking.some_component_misfits f (checking.components_of T) (components_at (before n (item_at nodes)) ds)) t.type (whole_run nodes kind.FieldE n cs ps)
        ∙ ap (λ (o : Option Fields). checking.some_component_misfits f o (components_at (before n (item_at nodes)) cs)) (components_same (types_of terms) t.its)
        ∙ components_misfit (components_of t.its) (components_below (length terms) t.its t.parts) n cs ps all.1
        ∙ ap (λ (o : Option Term). some_component_misfits k (option_and_then components_of o) cs) (sym t.known)
        ∙ ap (has_misfit k others kind.Fields n) (sym kids)

    in_elements : (others : ℕ → Item) (n : ℕ) → kind_at nodes n ≡ kind.Elems → lost n ≡ false → IsTyped k.tables kind.Elems (known.children k n) → checking.has_misfit f (item f n).expression ≡ has_misfit k others kind.Elems n (known.children k n)
    in_elements others n is here typed_first =
        let x : There nodes n kind.Elems = there nodes n kind.Elems refl is in
        let first = first_part nodes tree shaped is_type (any is_expression ∷ []) n x.node x.at (ap slots x.is) in
        let c : ℕ = child 0 x.node in
        let cs : List ℕ = drop 1 x.node.children in
        let ps : AreParts nodes is_expression n cs = any_fits nodes is_expression n cs first.before first.rest in
        let kids : known.children k n ≡ c ∷ cs = ap children_of x.at ∙ first.is in
        let all : Here (c ∷ cs) = subst Here kids (below_is n here) in
        let t = type_there c first.first.1 (subst (IsTyped k.tables kind.Elems) kids typed_first) in
        let low : has_low_at others nodes n ≡ has_low (elements_of others nodes n (others c).type x.node.value_token cs) =
        ap (λ (its : Option Node). has_low (item_with others nodes n its).expression) x.at
        ∙ ap (λ (j : NodeKind). has_low (expression_of others nodes n x.node j)) x.is in
        misfit_at kind.Elems n x
        ∙ elements_told others n (before n (item_at nodes) c).type (others c).type x.node.value_token cs ps all.1 t.its t.parts (ap (λ (i : Item). type_settled scope i.type) (before_is nodes n c first.first.0) ∙ t.type)
        ∙ ap (λ (b : Bool). some_element_misfits k b (element_of t.its) cs) (sym low)
        ∙ ap (λ (o : Option Term). some_element_misfits k (has_low_at others nodes n) (option_and_then element_of o) cs) (sym t.known)
        ∙ ap (has_misfit k others kind.Elems n) (sym kids)

    none_misfit : (others : ℕ → Item) (j : NodeKind) (n : ℕ) → is_constructor j ≡ false → (cs : List ℕ) → has_misfit k others j n cs ≡ false
    none_misfit others j n other [] = refl
    none_misfit others j n other (of ∷ parts) = by j other
      where
        by : (j : NodeKind) → is_constructor j ≡ false → of_tables.parts_misfit k others j n of parts ≡ false
        by kind.Fields other = absurd (true≢false other)
        by kind.Elems other = absurd (true≢false other)
        by _ other = refl

    quiet : (n : ℕ) (j : NodeKind) → is_constructor j ≡ false → checking.is_misfit f j n ≡ false
    quiet n kind.Fields other = absurd (true≢false other)
    quiet n kind.Elems other = absurd (true≢false other)
    quiet n _ other = refl

    by_kind : AreWantedKnown k.tables.file lost → (others : ℕ → Item) (n : ℕ) → lost n ≡ false → (j : NodeKind) → kind_at nodes n ≡ j → is_constructor j ≡ true → IsTyped k.tables j (known.children k n) →
        checking.is_misfit f j n ≡ (bound.is_object_wanted (wanted_in k n) && has_misfit k others j n (known.children k n))
    by_kind wanted others n here kind.Fields is such typed_first = ap₂ (λ (a b : Bool). a && b) (so.object_wanted_at k scope library refused are n (wanted n here)) (in_fields others n is here typed_first)
    by_kind wanted others n here kind.Elems is such typed_first = ap₂ (λ (a b : Bool). a && b) (so.object_wanted_at k scope library refused are n (wanted n here)) (in_elements others n is here typed_first)
    by_kind wanted others n here _ is such typed_first = absurd (true≢false (sym such))

    misfit_is : AreWantedKnown k.tables.file lost → (others : ℕ → Item) (n : ℕ) → lost n ≡ false → (j : NodeKind) → kind_at nodes n ≡ j → IsTyped k.tables j (known.children k n) → (such : Bool) → is_constructor j ≡ such →
        checking.is_misfit f j n ≡ (bound.is_object_wanted (wanted_in k n) && has_misfit k others j n (known.children k n))
    misfit_is wanted others n here j is typed_first true e = by_kind wanted others n here j is e typed_first
    misfit_is wanted others n here j is typed_first false e =
        quiet n j e
        ∙ sym (ap (λ (b : Bool). bound.is_object_wanted (wanted_in k n) && b) (none_misfit others j n e (known.children k n)) ∙ and-false (bound.is_object_wanted (wanted_in k n)))

    pub v13_is : AreWantedKnown k.tables.file lost → (others : ℕ → Item) (n : ℕ) → lost n ≡ false → IsTyped k.tables (known.kind_in k n) (known.children k n) → v13 f n ≡ of_tables.v13 k others n
    v13_is wanted others n here typed_first =
        ap₂ (λ (a b : Bool). a || b) (types_are f k are.arena lost facts n here) (misfit_is wanted others n here (kind_at nodes n) refl typed_first (is_constructor (kind_at nodes n)) refl)
