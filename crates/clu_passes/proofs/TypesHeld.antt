-- What is read of an expression that names a type first, or has brackets behind a name, by the tables of a file, where the values
-- that are read of it are known.
use Rattle.std.proofs.Common.{◌≡◌, ◌∙◌, ◌&&◌, ◌⊎◌, inl, inr, ℕ, Bool, true, false, List, [], ◌∷◌, drop, get_or, Option, Some, None, refl, sym, ap, subst}
use Rattle.std.proofs.lemmas.Bool.{true≢false}
use Rattle.clu_tree.specs.declared.node.Node.{Node}
use Rattle.clu_tree.specs.declared.node.NodeKind.{NodeKind}
use Rattle.clu_tree.specs.declared.node.NodeKind.TheVariants as kind
use Rattle.clu_parser.specs.Shape as shape
use Rattle.clu_parser.specs.Shape.{Part, is_child, IsFormOf, forms, HasForm}
use Rattle.clu_parser.specs.Trees.{Text}
use Rattle.clu_types.specs.declared.term.Term.{Term}
use Rattle.clu_syntax.specs.Items.{Item, constants_at}
use Rattle.clu_syntax.specs.Kinds.{is_expression, is_type, kind_at}
use Rattle.clu_syntax.specs.Nodes.{before, elements_of, expression_of, item_at}
use Rattle.clu_syntax.specs.Splits.{child, children_of}
use Rattle.clu_syntax.specs.Syntax.{Constants, Expression, TypeExpression, a_name, an_index, an_expression}
use Rattle.clu_parts.specs.Slots.{slots_of}
use Rattle.clu_parts.proofs.Fitting.{Slot, just, IsPart, Stand, on_head, fitted}
use Rattle.clu_meaning.specs.Scoping as means
use Rattle.clu_meaning.specs.Scoping.{Scope}
use Rattle.clu_meaning.specs.Settling.{settled, settled_type, actuals_settled, module_type, type_settled, value_of_constant, value_of_meaning, with_brackets}
use Rattle.clu_settle.specs.Lists.{type_id}
use Rattle.clu_settle.proofs.Parts.{constant_is, expression_is_constant, type_is_constant}
use Rattle.clu_declares.specs.Declares.{IsParsed}
use Rattle.clu_declares.proofs.Below.{before_is, item_there, same_kind}
use Rattle.clu_declares.proofs.Facts.{There, there}
use Rattle.clu_checking.specs.Specifications.{Specification}
use Rattle.clu_checking.specs.Files.{File, denotes_module, item, meaning}
use Rattle.clu_checking.specs.Settled.{value_settled}
use Rattle.clu_checking.specs.Typing.{takes_actuals}
use Rattle.clu_checking.specs.Wanted.{first_name_at}
use Rattle.clu_bindings.specs.declared.file.Headed.{Headed}
use Rattle.clu_bindings.specs.declared.meaning.Meaning.{Meaning}
use Rattle.clu_bindings.specs.declared.meaning.Meaning.TheVariants as meant
use Rattle.clu_bindings.specs.Readers.{children_in, meaning_in, value_in}
use Rattle.clu_name_rules.specs.declared.tables.Tables.{Tables}
use Rattle.clu_typing.specs.Nodes.{first_is_module, first_settled, first_takes_actuals, has_actuals, is_module, names_module, settled_first}
use Rattle.clu_passes.specs.ConstantTables.{AreTables, IsFirstKnown, IsKnown, Means, file_with}
use Rattle.clu_passes.specs.FactTables.{IsType}
use Rattle.clu_passes.specs.NamesKnown.{HasTypes, IsTypeKnown}
use Rattle.clu_passes.proofs.ConstantNodes.{AName, NoName, is_name, name_or_none}
use Rattle.clu_passes.proofs.NamesHeld.{settled_known}
use Rattle.clu_passes.proofs.RowsPassed.{stands}

any_type : (k : NodeKind) → is_child shape.any_type k ≡ is_type k
any_type kind.File = refl
any_type _ = refl

an_expression_child : (k : NodeKind) → is_child shape.expression k ≡ is_expression k
an_expression_child kind.File = refl
an_expression_child _ = refl

-- a module in the table is one of the definition
module_same : (f : File) (nodes : List Node) (a : Meaning) (m : means.Meaning) → Means nodes a m → is_module a ≡ denotes_module f m
module_same f nodes (meant.Equate c) m e = sym (ap (denotes_module f) e.1)
module_same f nodes meant.TypeSet m e = sym (ap (denotes_module f) e)
module_same f nodes (meant.TypeParameter k) m e = sym (ap (denotes_module f) e)
module_same f nodes (meant.ConstantParameter k) m e = sym (ap (denotes_module f) e)
module_same f nodes (meant.Local t) m e = sym (ap (denotes_module f) e)
module_same f nodes (meant.OwnOfRoutine t) m e = sym (ap (denotes_module f) e)
module_same f nodes (meant.OwnOfCluster t) m e = sym (ap (denotes_module f) e)
module_same f nodes meant.RoutineOfCluster m e = sym (ap (denotes_module f) e)
module_same f nodes (meant.Module id) m e = sym (ap (denotes_module f) e)

a_module : (f : File) (m : means.Meaning) → denotes_module f m ≡ true → m ≡ means.is_module
a_module f means.is_module e = refl
a_module f _ e = absurd (true≢false (sym e))

module _ (t : Text) (h : Headed) (its : Tables) (scope : Scope) (library : List Specification) (refused : List ℕ) (parsed : IsParsed t h.file.syntax.now) (are : AreTables (file_with h.file scope library refused) (record its { file = h.file })) (items : ℕ → Item) (n : ℕ) where
  abbrev f : File
  f = file_with h.file scope library refused

  abbrev nodes : List Node
  nodes = h.file.syntax.now

  abbrev terms : List Term
  terms = its.types.now

  abbrev tables : Tables
  tables = record its { file = h.file }

  abbrev parts : ℕ → Item
  parts = before n (item_at nodes)

  abbrev Has : Expression → Type 0
  Has e = HasTypes f h items terms n e

  -- ---- a type first

  abbrev IsFirst : List ℕ → Type 0
  IsFirst cs = IsType terms (settled_first h.file cs) (Some (type_settled scope (parts (get_or cs 0 0)).type))

  one_typed : (c : ℕ) → IsPart nodes (is_child shape.any_type) n c → IsKnown h.file c → IsType terms (type_id (value_in h.file c)) (Some (type_settled scope (parts c).type))
  one_typed c is known =
      let of_type : is_type (kind_at nodes c) ≡ true = sym (any_type (kind_at nodes c)) ∙ is.1 in
      subst (λ (i : Item). IsType terms (type_id (value_in h.file c)) (Some (type_settled scope i.type))) (sym (before_is nodes n c is.0))
      (settled_known h its scope library refused parsed.forms parsed.tree are items c (type_settled scope (item f c).type) known (type_is_constant nodes c of_type) (ap (value_of_constant scope (settled scope)) (constant_is nodes c true of_type)))

  first_typed : (ss : List Slot) (cs : List ℕ) → Stand nodes n (just (is_child shape.any_type) ∷ ss) cs → IsTypeKnown h.file cs → IsFirst cs
  first_typed ss cs s = on_head nodes n (λ (cs : List ℕ). IsTypeKnown h.file cs → IsFirst cs) (is_child shape.any_type) ss (λ c rest is s known. one_typed c is known) cs s

  module _ (k : NodeKind) (x : There nodes n k) where
    its_children : children_in h.file n ≡ x.node.children
    its_children = ap (λ (o : Option Node). children_of o) x.at

    its_expression : (item f n).expression ≡ expression_of parts nodes n x.node k
    its_expression = ap (λ (i : Item). i.expression) (item_there nodes n x.node x.at) ∙ ap (λ (k : NodeKind). expression_of parts nodes n x.node k) x.is

    as_it_is : Has (expression_of parts nodes n x.node k) → Has (item f n).expression
    as_it_is has = subst Has (sym its_expression) has

    its_form : HasForm nodes x.node
    its_form = parsed.forms n x.node x.at

    stand_in : (form : List Part) → its_form.form ≡ form → Stand nodes n (slots_of form) x.node.children
    stand_in form e = subst (λ (form : List Part). Stand nodes n (slots_of form) x.node.children) e (fitted nodes parsed.tree n x.node x.at its_form)

    form_of : IsFormOf its_form.form (forms k)
    form_of = subst (λ (k : NodeKind). IsFormOf its_form.form (forms k)) x.is its_form.of_kind

    first_settled_is : IsFirst x.node.children → IsType terms (first_settled h.file n) (Some (type_settled scope (parts (child 0 x.node)).type))
    first_settled_is is = subst (λ (cs : List ℕ). IsType terms (settled_first h.file cs) (Some (type_settled scope (parts (child 0 x.node)).type))) (sym its_children) is

  elements_held : (of : TypeExpression) (token : Option ℕ) (cs : List ℕ) → IsType terms (first_settled h.file n) (Some (type_settled scope of)) → Has (elements_of parts nodes n of token cs)
  elements_held of None cs is = is
  elements_held of (Some token) [] is = is
  elements_held of (Some token) (c ∷ cs) is = is

  known_of : (k : NodeKind) (x : There nodes n k) → IsTypeKnown h.file (children_in h.file n) → IsTypeKnown h.file x.node.children
  known_of k x known = subst (IsTypeKnown h.file) (its_children k x) known

  pub fields_held : kind_at nodes n ≡ kind.Fields → IsTypeKnown h.file (children_in h.file n) → Has (item f n).expression
  fields_held is known =
      let x = there nodes n kind.Fields refl is in
      as_it_is kind.Fields x (first_settled_is kind.Fields x (first_typed _ x.node.children (stands t nodes parsed n kind.Fields x _ refl) (known_of kind.Fields x known)))

  pub operation_held : kind_at nodes n ≡ kind.OperOf → IsTypeKnown h.file (children_in h.file n) → Has (item f n).expression
  operation_held is known =
      let x = there nodes n kind.OperOf refl is in
      as_it_is kind.OperOf x (first_settled_is kind.OperOf x (first_typed _ x.node.children (stands t nodes parsed n kind.OperOf x _ refl) (known_of kind.OperOf x known)))

  pub force_held : kind_at nodes n ≡ kind.Force → IsTypeKnown h.file (children_in h.file n) → Has (item f n).expression
  force_held is known =
      let x = there nodes n kind.Force refl is in
      as_it_is kind.Force x (first_settled_is kind.Force x (first_typed _ x.node.children (stands t nodes parsed n kind.Force x _ refl) (known_of kind.Force x known)))

  pub elements_types : kind_at nodes n ≡ kind.Elems → IsTypeKnown h.file (children_in h.file n) → Has (item f n).expression
  elements_types is known =
      let x = there nodes n kind.Elems refl is in
      as_it_is kind.Elems x
      (elements_held (parts (child 0 x.node)).type x.node.value_token (drop 1 x.node.children)
      (first_settled_is kind.Elems x
      (elim (form_of kind.Elems x) [
        | inl e ↦ first_typed _ x.node.children (stand_in kind.Elems x _ e) (known_of kind.Elems x known)
        | inr (inl e) ↦ first_typed _ x.node.children (stand_in kind.Elems x _ e) (known_of kind.Elems x known)
        | inr (inr never) ↦ absurd never
      ])))

  -- ---- brackets

  no_name : (e : Expression) (cs : Constants) → is_name e ≡ false → has_actuals h.file n ≡ false → Has (an_index n e cs)
  unfolding is_name
  no_name (a_name k name) cs other is = absurd (true≢false other)
  no_name _ cs other is = is

  -- what is known of the first child
  abbrev IsHeld : Constants → List ℕ → Type 0
  IsHeld given cs = IsFirstKnown h.file cs → children_in h.file n ≡ cs → (item f n).expression ≡ an_index n (parts (get_or cs 0 0)).expression given → Has (an_index n (parts (get_or cs 0 0)).expression given)

  module _ (index : kind_at nodes n ≡ kind.Index) (known : names_module h.file n ≡ true → IsKnown h.file n) where
    a_name_held : (c : ℕ) (cs : List ℕ) (given : Constants) → AName tables scope library refused c → IsFirstKnown h.file (c ∷ cs) → children_in h.file n ≡ c ∷ cs → (item f n).expression ≡ an_index n (a_name c (first_name_at f c)) given → Has (an_index n (a_name c (first_name_at f c)) given)
    a_name_held c cs given y first own e = (takes, modules, instance)
      where
        means_so : Means f.nodes (meaning_in h.file c) (meaning f c (first_name_at f c))
        means_so = (are.named c (same_kind kind.Name (kind_at nodes c) y.is)).means

        takes : has_actuals h.file n ≡ takes_actuals f c (first_name_at f c)
        takes = ap (first_takes_actuals h.file) own ∙ are.takers c first ∙ ap (λ (b : Bool). b && takes_actuals f c (first_name_at f c)) y.is

        modules : names_module h.file n ≡ denotes_module f (meaning f c (first_name_at f c))
        modules = ap (first_is_module h.file) own ∙ module_same f f.nodes (meaning_in h.file c) (meaning f c (first_name_at f c)) means_so

        comes_to : meaning f c (first_name_at f c) ≡ means.is_module → value_settled scope (item f n).constant ≡ settled_type (module_type (first_name_at f c) (actuals_settled scope given))
        comes_to is =
            ap (value_of_constant scope (settled scope)) (constant_is nodes n false (ap is_type index))
            ∙ ap (λ (e : Expression). value_of_constant scope (settled scope) (an_expression e)) e
            ∙ ap (λ (m : means.Meaning). with_brackets (value_of_meaning scope (settled scope) (first_name_at f c) (actuals_settled scope given) m)) is

        instance : names_module h.file n ≡ true → IsType terms (type_id (value_in h.file n)) (Some (module_type (first_name_at f c) (actuals_settled scope given)))
        instance named =
            settled_known h its scope library refused parsed.forms parsed.tree are items n (module_type (first_name_at f c) (actuals_settled scope given)) (known named) (expression_is_constant nodes n (ap is_expression index))
            (comes_to (a_module f (meaning f c (first_name_at f c)) (sym modules ∙ named)))

    no_name_held : (c : ℕ) (cs : List ℕ) (given : Constants) → NoName tables scope library refused c → IsFirstKnown h.file (c ∷ cs) → children_in h.file n ≡ c ∷ cs → Has (an_index n (item f c).expression given)
    no_name_held c cs given y first own =
        no_name (item f c).expression given y.expression (ap (first_takes_actuals h.file) own ∙ are.takers c first ∙ ap (λ (b : Bool). b && takes_actuals f c (first_name_at f c)) y.is)

    one_held : (c : ℕ) (cs : List ℕ) (given : Constants) → IsPart nodes (is_child shape.expression) n c → IsHeld given (c ∷ cs)
    one_held c cs given is first own e = by (name_or_none tables scope library refused c (sym (an_expression_child (kind_at nodes c)) ∙ is.1))
      where
        here : (parts c).expression ≡ (item f c).expression
        here = ap (λ (i : Item). i.expression) (before_is nodes n c is.0)

        by : AName tables scope library refused c ⊎ NoName tables scope library refused c → Has (an_index n (parts c).expression given)
        by (inl y) =
            subst (λ (e : Expression). Has (an_index n e given)) (sym (here ∙ y.expression))
            (a_name_held c cs given y first own (e ∙ ap (λ (e : Expression). an_index n e given) (here ∙ y.expression)))
        by (inr y) = subst (λ (e : Expression). Has (an_index n e given)) (sym here) (no_name_held c cs given y first own)

    held_at : (given : Constants) (ss : List Slot) (cs : List ℕ) → Stand nodes n (just (is_child shape.expression) ∷ ss) cs → IsHeld given cs
    held_at given ss cs s = on_head nodes n (λ (cs : List ℕ). IsHeld given cs) (is_child shape.expression) ss (λ c rest is s. one_held c rest given is) cs s

    pub index_held : IsFirstKnown h.file (children_in h.file n) → Has (item f n).expression
    index_held first =
        let x = there nodes n kind.Index refl index in
        as_it_is kind.Index x
        (held_at (constants_at parts (drop 1 x.node.children)) _ x.node.children (stands t nodes parsed n kind.Index x _ refl) (subst (IsFirstKnown h.file) (its_children kind.Index x) first) (its_children kind.Index x) (its_expression kind.Index x))
