-- A file that is read as the calls before the headings make it is known, as the pass over its nodes asks (`IsKnownFile`).
use Rattle.std.proofs.Common.{◌≡◌, ◌∙◌, ℕ, ◌<◌, ◌≤◌, Bool, true, false, List, [], ◌∷◌, length, drop, Option, Some, None, refl, sym, ap, subst, arith}
use Rattle.std.specs.Prelude.{slice_get}
use Rattle.std.specs.List.{AllByRecursion}
use Rattle.std.proofs.lemmas.Bool.{true≢false}
use Rattle.std.proofs.lemmas.Option.{slice_get_within}
use Rattle.clu_tree.specs.declared.node.Node.{Node}
use Rattle.clu_tree.specs.declared.node.NodeKind.{NodeKind}
use Rattle.clu_tree.specs.declared.node.NodeKind.TheVariants as kind
use Rattle.clu_parser.specs.Trees.{Text}
use Rattle.clu_types.specs.CluType.{CluType, no_actuals}
use Rattle.clu_types.specs.Arena.{Grows, types_of}
use Rattle.clu_types.specs.declared.term.Term.{Term}
use Rattle.clu_types.specs.declared.term.TypeId.{TypeId}
use Rattle.clu_types.proofs.Carrying.{grows_on, length_grows}
use Rattle.clu_syntax.specs.Items.{Item}
use Rattle.clu_syntax.specs.Kinds.{is_expression, is_type, kind_at}
use Rattle.clu_syntax.specs.Nodes.{before, expression_of, item_at}
use Rattle.clu_syntax.specs.Slots.{Slot, any, one, slots}
use Rattle.clu_syntax.specs.Splits.{child, children_of, is_of}
use Rattle.clu_syntax.specs.Syntax.{Expression, a_name, an_index, fields, elements, elements_from, an_operation, a_force, an_up, a_down}
use Rattle.clu_names.specs.Scopes.{declarations}
use Rattle.clu_meaning.specs.Scoping.{Scope}
use Rattle.clu_meaning.specs.Settling.{Value as Settled, actuals_settled, module_type, type_settled}
use Rattle.clu_settle.specs.declared.value.Value.{Value}
use Rattle.clu_settle.specs.declared.value.Value.TheVariants as value
use Rattle.clu_settle.specs.Lists.{type_id}
use Rattle.clu_settle.proofs.Shapes.{first_part}
use Rattle.clu_declares.proofs.Below.{item_there}
use Rattle.clu_declares.proofs.Facts.{There, there}
use Rattle.clu_checking.specs.Specifications.{Specification}
use Rattle.clu_checking.specs.Files.{File, children, item, kind_in, meaning, node_children, round, scope_in}
use Rattle.clu_checking.specs.Settled.{value_settled}
use Rattle.clu_checking.specs.Headings.{known_inside, own_type, parameter_type}
use Rattle.clu_checking.specs.Typing.{representation}
use Rattle.clu_checking.specs.Wanted as wants
use Rattle.clu_bindings.specs.declared.file.File.{File as Read}
use Rattle.clu_bindings.specs.declared.file.Headed.{Headed}
use Rattle.clu_bindings.specs.Inside as bound
use Rattle.clu_bindings.specs.Named as named
use Rattle.clu_bindings.specs.Readers.{children_in, meaning_in, value_in, wanted_in}
use Rattle.clu_name_rules.specs.declared.tables.Tables.{Tables}
use Rattle.clu_operations.specs.Finding.{IsBelowIf}
use Rattle.clu_operations.specs.Wished.{AreHeads}
use Rattle.clu_typing.specs.Nodes.{first_settled}
use Rattle.clu_typing.specs.Pass.{HaveTypes}
use Rattle.clu_passes.specs.Ascending.{SpecificationsAscend}
use Rattle.clu_passes.specs.ConstantTables.{AreTables, file_with, wanted_told}
use Rattle.clu_passes.specs.FactTables.{IsType}
use Rattle.clu_passes.specs.FoundTold.{TellHeads}
use Rattle.clu_passes.specs.KnownFiles.{IsFileRead}
use Rattle.clu_passes.specs.Lost.{lost}
use Rattle.clu_passes.specs.NamesKnown.{HasTypes, IsNameKnown, IsTypeKnown, IsValueKnown, variable_of}
use Rattle.clu_passes.specs.Notes.{HaveParents}
use Rattle.clu_passes.specs.PassNoted.{IsKnownFile}
use Rattle.clu_passes.specs.Trees.{IsFileOfTree}
use Rattle.clu_passes.proofs.ConstantNodes.{a_name_at, value_within}
use Rattle.clu_passes.proofs.CvtsKnown.{own_typed as of_cluster}
use Rattle.clu_passes.proofs.InsideKnown.{known_told, represented}
use Rattle.clu_passes.proofs.LostKnown as known
use Rattle.clu_passes.proofs.LostNodes.{lost_below}
use Rattle.clu_passes.proofs.NamesHeld as names_at
use Rattle.clu_passes.proofs.NodeTyped.{type_grown}
use Rattle.clu_passes.proofs.ParametersTyped.{below_if, parameter_grown, parameter_typed}
use Rattle.clu_passes.proofs.TablesMade.{tables_are}
use Rattle.clu_passes.proofs.TypesHeld as types_at
use Rattle.clu_passes.proofs.ValuesKnown as known_at

-- a number of a shorter arena
below_more : (old new : ℕ) → old ≤ new → (of : Option TypeId) → IsBelowIf old of → IsBelowIf new of
below_more old new le None below = tt
below_more old new le (Some id) below = omega (arith, le, below)

pub typed_below : (terms : List Term) (of : Option TypeId) (u : Option CluType) → IsType terms of u → IsBelowIf (length terms) of
typed_below terms None u is = tt
typed_below terms (Some id) (Some u) is = is.0
typed_below terms (Some id) None is = absurd is

module _ (t : Text) (h : Headed) (its : Tables) (library : List Specification) (refused : List ℕ) (is : IsFileRead t h its library refused) where
  abbrev tables : Tables
  tables = record its { file = h.file }

  abbrev r : Read
  r = h.file

  abbrev nodes : List Node
  nodes = h.file.syntax.now

  abbrev scope : Scope
  scope = scope_in h.file.syntax.now h.file.rounds.now

  abbrev f : File
  f = file_with h.file (scope_in h.file.syntax.now h.file.rounds.now) library refused

  abbrev terms : List Term
  terms = its.types.now

  abbrev of : IsFileOfTree f
  of = known_at.of_tree t tables library refused (is.whole refused).made (is.whole refused).lost

  abbrev parents : HaveParents f
  parents = known_at.parents t tables library refused (is.whole refused).made (is.whole refused).lost

  pub are : AreTables f tables
  are = tables_are t tables library refused (is.whole refused).made

  -- ---- own types

  pub own_typed : (n : ℕ) → IsType terms (bound.own_type r n) (own_type f n)
  own_typed = of_cluster t h its library refused (is.whole refused) is.owned

  -- ---- a type that stands first

  first_type : (n : ℕ) (ss : List Slot) (node : Node) → slice_get nodes n ≡ Some node → slots node.kind ≡ one is_type ∷ ss → lost f n ≡ false → IsTypeKnown r (children_in r n)
  first_type n ss node at shape fine =
      let first = first_part nodes (is.whole refused).made.file.parsed.tree (is.whole refused).made.file.parsed.forms is_type ss n node at shape in
      let below : AllByRecursion (λ (c : ℕ). lost f c ≡ false) (child 0 node ∷ drop 1 node.children) = subst (AllByRecursion (λ (c : ℕ). lost f c ≡ false)) (ap (node_children f) at ∙ first.is) (lost_below f of parents n fine) in
      subst (IsTypeKnown r) (sym (ap children_of at ∙ first.is)) (known.type_value t tables library refused (is.whole refused) (child 0 node) below.0 first.first.1)

  -- ---- by the kind of an expression

  module _ (items : ℕ → Item) (n : ℕ) (fine : lost f n ≡ false) where
    abbrev Has : Expression → Type 0
    Has e = HasTypes f h items terms n e

    its_expression : (k : NodeKind) (x : There nodes n k) → (item f n).expression ≡ expression_of (before n (item_at nodes)) nodes n x.node k
    its_expression k x = ap (λ (i : Item). i.expression) (item_there nodes n x.node x.at) ∙ ap (λ (k : NodeKind). expression_of (before n (item_at nodes)) nodes n x.node k) x.is

    as_it_is : (k : NodeKind) (x : There nodes n k) → Has (expression_of (before n (item_at nodes)) nodes n x.node k) → Has (item f n).expression
    as_it_is k x has = subst Has (sym (its_expression k x)) has

    by_name : kind_at nodes n ≡ kind.Name → Has (item f n).expression
    by_name at_name =
        let x = there nodes n kind.Name refl at_name in
        let less : n < length nodes = slice_get_within nodes n x.node x.at in
        subst Has (sym (a_name_at tables scope library refused n at_name))
        (names_at.name_known h its scope library refused (is.whole refused).made.file.parsed.forms (is.whole refused).made.file.parsed.tree are items n at_name
        (known.expression_value t tables library refused (is.whole refused) n fine (ap is_expression at_name))
        (known.name_known t tables library refused (is.whole refused) n fine (ap is_expression at_name))
        (λ k. parameter_typed tables scope library refused (is.whole refused).made.file.parsed.forms (is.whole refused).made.file.parsed.tree are n k)
        (λ c e. known_told t h its library refused is items n c less (is.variables n c less e))
        (own_typed n))

    by_kind : (k : NodeKind) → kind_at nodes n ≡ k → is_expression k ≡ true → Has (item f n).expression
    by_kind kind.Name at_kind expression = by_name at_kind
    by_kind kind.Index at_kind expression =
        let x = there nodes n kind.Index refl at_kind in
        types_at.index_held t h its scope library refused (is.whole refused).made.file.parsed are items n at_kind
        (λ names. known.expression_value t tables library refused (is.whole refused) n fine (ap is_expression at_kind))
        (known.index_known t tables library refused (is.whole refused) n fine (slice_get_within nodes n x.node x.at) at_kind)
    by_kind kind.Fields at_kind expression =
        let x = there nodes n kind.Fields refl at_kind in
        types_at.fields_held t h its scope library refused (is.whole refused).made.file.parsed are items n at_kind (first_type n (any (is_of kind.FieldE) ∷ []) x.node x.at (ap slots x.is) fine)
    by_kind kind.Elems at_kind expression =
        let x = there nodes n kind.Elems refl at_kind in
        types_at.elements_types t h its scope library refused (is.whole refused).made.file.parsed are items n at_kind (first_type n (any is_expression ∷ []) x.node x.at (ap slots x.is) fine)
    by_kind kind.OperOf at_kind expression =
        let x = there nodes n kind.OperOf refl at_kind in
        types_at.operation_held t h its scope library refused (is.whole refused).made.file.parsed are items n at_kind (first_type n [] x.node x.at (ap slots x.is) fine)
    by_kind kind.Force at_kind expression =
        let x = there nodes n kind.Force refl at_kind in
        types_at.force_held t h its scope library refused (is.whole refused).made.file.parsed are items n at_kind (first_type n [] x.node x.at (ap slots x.is) fine)
    by_kind kind.Up at_kind expression = as_it_is kind.Up (there nodes n kind.Up refl at_kind) (own_typed n)
    by_kind kind.Down at_kind expression =
        let x = there nodes n kind.Down refl at_kind in
        as_it_is kind.Down x (represented t h its library refused is n (slice_get_within nodes n x.node x.at))
    by_kind kind.Infix at_kind expression = as_it_is kind.Infix (there nodes n kind.Infix refl at_kind) tt
    by_kind kind.Prefix at_kind expression = as_it_is kind.Prefix (there nodes n kind.Prefix refl at_kind) tt
    by_kind kind.Paren at_kind expression = as_it_is kind.Paren (there nodes n kind.Paren refl at_kind) tt
    by_kind kind.Literal at_kind expression = as_it_is kind.Literal (there nodes n kind.Literal refl at_kind) tt
    by_kind kind.Get at_kind expression = as_it_is kind.Get (there nodes n kind.Get refl at_kind) tt
    by_kind kind.Call at_kind expression = as_it_is kind.Call (there nodes n kind.Call refl at_kind) tt
    by_kind kind.File at_kind expression = absurd (true≢false (sym expression))
    by_kind _ at_kind expression = absurd (true≢false (sym expression))

    pub names_there : is_expression (kind_in f n) ≡ true → Has (item f n).expression
    names_there expression = by_kind (kind_at nodes n) refl expression

  -- ---- whatever types come later

  module _ (items : ℕ → Item) (new : List Term) (grows : Grows terms new) (n : ℕ) where
    value_stays : (v : Value) (s : Settled) → IsValueKnown f h items terms v s → IsValueKnown f h items new v s
    value_stays value.Nothing s known = known
    value_stays value.Lost s known = absurd known
    value_stays (value.Type id) s known = known
    value_stays (value.Constant k) s known = known
    value_stays (value.Parameter k) s known = known

    grown : (of : Option TypeId) (u : Option CluType) → IsType terms of u → IsType new of u
    grown = type_grown terms new grows

    pub types_stay : (e : Expression) → HasTypes f h items terms n e → HasTypes f h items new n e
    types_stay (a_name m name) has = record {
      means = has.means;
      equate = λ c e. value_stays (value_in r c) (value_settled scope (item f c).constant) (has.equate c e);
      parameters = λ k. parameter_grown tables scope library refused (is.whole refused).made.file.parsed.forms (is.whole refused).made.file.parsed.tree are new grows n k (parameter_type f m k) (has.parameters k);
      variables = λ c e. grown (bound.known_inside h items n c) (known_inside f m (item f c).type) (has.variables c e);
      own = grown (bound.own_type r n) (own_type f m) has.own;
      instance = λ id e. grown (type_id (value_in r n)) (Some (module_type name no_actuals)) (has.instance id e);
    }
    types_stay (an_index m (a_name k name) cs) has = (has.0, has.1, λ named. grown (type_id (value_in r n)) (Some (module_type name (actuals_settled scope cs))) (has.2 named))
    types_stay (an_index m e cs) has = has
    types_stay (fields m u cs) has = grown (first_settled r n) (Some (type_settled scope u)) has
    types_stay (elements m u es) has = grown (first_settled r n) (Some (type_settled scope u)) has
    types_stay (elements_from m u e es) has = grown (first_settled r n) (Some (type_settled scope u)) has
    types_stay (an_operation m u name) has = grown (first_settled r n) (Some (type_settled scope u)) has
    types_stay (a_force m u) has = grown (first_settled r n) (Some (type_settled scope u)) has
    types_stay (an_up m e) has = grown (bound.own_type r n) (own_type f m) has
    types_stay (a_down m e) has = grown (bound.representation h n) (representation f m) has
    types_stay _ has = has

  -- ---- all of it

  module _ (first : List Term) (grows : Grows terms first) (heads : AreHeads h (length first)) where
    pub types_there : HaveTypes h (length first)
    types_there = record {
      heads = heads;
      values = λ n.
          below_more (length terms) (length first) (length_grows terms first grows) (type_id (value_in r n))
          (below_if (length terms) (length r.constants.now) (value_in r n) (value_within tables scope library refused (is.whole refused).made.file.parsed.forms (is.whole refused).made.file.parsed.tree are n));
      own = λ n. below_more (length terms) (length first) (length_grows terms first grows) (bound.own_type r n) (typed_below terms (bound.own_type r n) (own_type f n) (own_typed n));
    }

    pub file_known : ((new : List Term) → Grows first new → TellHeads h f (types_of new)) → SpecificationsAscend library → (items : ℕ → Item) → IsKnownFile t h f items first (lost f)
    file_known told ascending items = record {
      parsed = (is.whole refused).made.file.parsed;
      library = ascending;
      types = types_there;
      heads = told;
      below = λ n fine. lost_below f of parents n fine;
      names = λ n fine expression new later. types_stay items new (grows_on terms first new grows later) n (item f n).expression (names_there items n fine expression);
      wanted = λ n fine. are.wanted n (known.wanted_known t tables library refused (is.whole refused) n fine);
    }
