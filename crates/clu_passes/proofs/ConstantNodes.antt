-- What stands at a node, what is wanted there, and names of bad equates, by tables.
use Rattle.std.proofs.Common.{◌≡◌, ◌∙◌, ◌⊎◌, ℕ, zero, suc, ◌-◌, Bool, true, false, ◌&&◌, if◌then◌else◌, List, [], ◌∷◌, length, map, drop, Option, Some, None, inl, inr, refl, sym, ap, subst, arith}
use Rattle.std.specs.Prelude.{All, ◌==◌, get_or, not, slice_get}
use Rattle.std.proofs.Math.Bool.{and-false, and-true}
use Rattle.std.proofs.lemmas.Bool.{true≢false}
use Rattle.std.proofs.lemmas.Option.{none-some, same_Some}
use Rattle.std.proofs.lemmas.List.Elements.{All-head, All-tail}
use Rattle.clu_tree.specs.declared.node.Node.{Node}
use Rattle.clu_tree.specs.declared.node.NodeKind.{NodeKind}
use Rattle.clu_tree.specs.declared.node.NodeKind.TheVariants as kind
use Rattle.clu_tree.specs.Nodes.{IsTree}
use Rattle.clu_parser.specs.Shape.{HaveForms}
use Rattle.clu_types.specs.declared.spec.ParamKind.{ParamKind}
use Rattle.clu_types.specs.declared.spec.ParamKind.TheVariants as param
use Rattle.clu_types.specs.Arena.{types_of}
use Rattle.clu_syntax.specs.Enough.{least_names, HasEnough}
use Rattle.clu_syntax.specs.Kinds.{kind_of, kind_at, is_expression}
use Rattle.clu_syntax.specs.Roles.{has_no_name}
use Rattle.clu_syntax.specs.Splits.{child, children_of, first_name, is_of}
use Rattle.clu_syntax.specs.Syntax.{Identifier, Expression, a_name, TypeExpression}
use Rattle.clu_syntax.specs.Items.{Item}
use Rattle.clu_syntax.specs.Nodes.{before, item_with, item_at, elements_of, expression_of}
use Rattle.clu_syntax.proofs.Enough.{enough}
use Rattle.clu_names.specs.declared.scopes.Declared.{Declared}
use Rattle.clu_names.specs.Denotes.{found, names_in, bound_at}
use Rattle.clu_meaning.specs.Scoping.{Scope, declaration_at}
use Rattle.clu_checking.specs.Settled.{value_settled}
use Rattle.clu_checking.specs.Specifications.{Specification}
use Rattle.clu_checking.specs.Files as checking
use Rattle.clu_checking.specs.Files.{File, item, is_kind, node_names, node_children, children, children_at, parent, is_of_module, equate_of, equate_named}
use Rattle.clu_checking.specs.Equates as equates
use Rattle.clu_checking.specs.Equates.{leads_on, is_circular, bad_unless}
use Rattle.clu_checking.specs.Headings.{specification}
use Rattle.clu_checking.specs.Typing as typing
use Rattle.clu_checking.specs.Wanted as wants
use Rattle.clu_checking.specs.Wanted.{first_name_at, place_in, kinds_of, begins_instance, is_first_of, wanted_in_brackets}
use Rattle.clu_checking.specs.ConstantRules as rules_of
use Rattle.clu_settle.specs.declared.value.Value.{Value}
use Rattle.clu_settle.specs.declared.value.Value.TheVariants as value
use Rattle.clu_settle.specs.Values.{told, Agrees, TypeWithin, ConstantWithin, IsWithin}
use Rattle.clu_settle.specs.Names.{is_constant, names_of}
use Rattle.clu_settle.proofs.Parts.{item_there}
use Rattle.clu_head.specs.Refused.{is_set}
use Rattle.clu_bindings.specs.declared.file.File.{File as Read}
use Rattle.clu_bindings.specs.declared.wanted.Wanted.{Wanted as WantedThere}
use Rattle.clu_bindings.specs.declared.wanted.Wanted.TheVariants as wanted
use Rattle.clu_bindings.specs.Tables.{optional}
use Rattle.clu_bindings.specs.Files.{declaration_in, declaring_node, node_of}
use Rattle.clu_bindings.specs.Readers as read
use Rattle.clu_bindings.specs.Readers.{value_in, wanted_in}
use Rattle.clu_bindings.specs.Named as named
use Rattle.clu_name_rules.specs.declared.tables.Tables.{Tables}
use Rattle.clu_name_rules.specs.NameRules as table
use Rattle.clu_name_rules.specs.NameRules.{is_marked}
use Rattle.clu_name_rules.specs.ConstantRules as of_tables
use Rattle.clu_passes.specs.ConstantTables.{file_with, IsMeant, wanted_told, AreTables, AreBad, IsKnown, IsWantedKnown}
use Rattle.clu_passes.proofs.Marked.{circle_is}
use Rattle.clu_passes.proofs.OwnPlaces.{there_is}
use Rattle.clu_declares.proofs.Below.{same_kind}
use Rattle.clu_declares.proofs.Facts.{There, there}
use Rattle.clu_passes.proofs.Strings.{value_same}
use Rattle.clu_passes.proofs.Tables.{bound_is}

-- ---- nodes of a kind

-- what a node of a kind is, by what the nodes before it are
pub its_item : (nodes : List Node) (n : ℕ) (k : NodeKind) (x : There nodes n k) → item_at nodes n ≡ item_with (before n (item_at nodes)) nodes n (Some x.node)
its_item nodes n k x = item_there nodes n x.node x.at

-- ---- names are expressions of their own

unfoldable pub is_name : Expression → Bool
is_name (a_name n name) = true
is_name _ = false

no_elements : (items : ℕ → Item) (nodes : List Node) (n : ℕ) (t : TypeExpression) (token : Option ℕ) (cs : List ℕ) → is_name (elements_of items nodes n t token cs) ≡ false
unfolding is_name
no_elements items nodes n t None cs = refl
no_elements items nodes n t (Some token) [] = refl
no_elements items nodes n t (Some token) (c ∷ cs) = refl

pub no_name : (items : ℕ → Item) (nodes : List Node) (n : ℕ) (node : Node) (k : NodeKind) → is_expression k ≡ true → is_of kind.Name k ≡ false → is_name (expression_of items nodes n node k) ≡ false
unfolding is_name
no_name items nodes n node kind.Name e other = absurd (true≢false other)
no_name items nodes n node kind.Infix e other = refl
no_name items nodes n node kind.Prefix e other = refl
no_name items nodes n node kind.Paren e other = refl
no_name items nodes n node kind.Literal e other = refl
no_name items nodes n node kind.Index e other = refl
no_name items nodes n node kind.Get e other = refl
no_name items nodes n node kind.Call e other = refl
no_name items nodes n node kind.Fields e other = refl
no_name items nodes n node kind.Elems e other = no_elements items nodes n (items (child 0 node)).type node.value_token (drop 1 node.children)
no_name items nodes n node kind.OperOf e other = refl
no_name items nodes n node kind.Force e other = refl
no_name items nodes n node kind.Up e other = refl
no_name items nodes n node kind.Down e other = refl
no_name items nodes n node _ e other = absurd (true≢false (sym e))

-- ---- values

pub within_at : (P : Value → Type 0) (values : List Value) (n : ℕ) → All P values → P value.Lost → P (get_or values n value.Lost)
within_at P [] n all lost = lost
within_at P (v ∷ values) zero all lost = All-head P v values all
within_at P (v ∷ values) (suc n) all lost = within_at P values n (All-tail P v values all) lost

module _ (t : Tables) (scope : Scope) (library : List Specification) (refused : List ℕ) where
  abbrev pub nodes : List Node
  nodes = t.file.syntax.now

  abbrev pub f : File
  f = file_with t.file scope library refused

  abbrev pub r : Read
  r = t.file

  pub names_same : (its : Option Node) → node_names f its ≡ names_of its
  names_same None = refl
  names_same (Some node) = refl

  pub children_same : (its : Option Node) → node_children f its ≡ children_of its
  children_same None = refl
  children_same (Some node) = refl

  -- the expression at a node is a name with the first name of the node, or none
  pub record AName (c : ℕ) : Type 0 where
    pub is : is_kind f kind.Name c ≡ true
    pub expression : (item f c).expression ≡ a_name c (first_name_at f c)

  pub record NoName (c : ℕ) : Type 0 where
    pub is : is_kind f kind.Name c ≡ false
    pub expression : is_name (item f c).expression ≡ false

  pub a_name_at : (c : ℕ) → kind_at nodes c ≡ kind.Name → (item f c).expression ≡ a_name c (first_name_at f c)
  a_name_at c is =
      let x = there nodes c kind.Name refl is in
      ap (λ (i : Item). i.expression) (its_item nodes c kind.Name x)
      ∙ ap (expression_of (before c (item_at nodes)) nodes c x.node) x.is
      ∙ ap (λ (its : Option Node). a_name c (first_name (node_names f its))) (sym x.at)

  pub name_or_none : (c : ℕ) → is_expression (kind_at nodes c) ≡ true → AName c ⊎ NoName c
  name_or_none c e = by (is_of kind.Name (kind_at nodes c)) refl
    where
      none : is_of kind.Name (kind_at nodes c) ≡ false → NoName c
      none other = at (slice_get nodes c) refl
        where
          at : (its : Option Node) → slice_get nodes c ≡ its → NoName c
          at None is = absurd (let no : false ≡ true = sym (ap (λ (its : Option Node). is_expression (kind_of its)) is) ∙ e in true≢false (sym no))
          at (Some node) is = record {
            is = other;
            expression =
                ap (λ (i : Item). is_name i.expression) (item_there nodes c node is)
                ∙ no_name (before c (item_at nodes)) nodes c node node.kind (sym (ap (λ (its : Option Node). is_expression (kind_of its)) is) ∙ e) (sym (ap (λ (its : Option Node). is_of kind.Name (kind_of its)) is) ∙ other);
          }

      by : (b : Bool) → is_of kind.Name (kind_at nodes c) ≡ b → AName c ⊎ NoName c
      by true is = inl (record { is = is; expression = a_name_at c (same_kind kind.Name (kind_at nodes c) is) })
      by false is = inr (none is)

  module _ (shaped : HaveForms nodes) (tree : IsTree nodes) (are : AreTables f t) where
    abbrev pub ds : List Declared
    ds = scope.declarations

    -- ---- values

    pub value_agrees : (n : ℕ) → IsKnown r n → is_constant nodes n ≡ true → Agrees (told (types_of t.types.now) r.constants.now (value_in r n)) (value_settled scope (item f n).constant)
    value_agrees n known is = subst (λ (v : Value). Agrees (told (types_of t.types.now) r.constants.now v) (value_settled scope (item f n).constant)) (sym (value_same r.values.now n)) (are.values.each n is)

    pub value_within : (n : ℕ) → IsWithin (length t.types.now) (length r.constants.now) (value_in r n)
    value_within n = (within_at (TypeWithin (length t.types.now)) r.values.now n are.values.within.0 tt, within_at (ConstantWithin (length r.constants.now)) r.values.now n are.values.within.1 tt)

    -- ---- what is wanted

    constant_wanted : (w : WantedThere) → rules_of.is_constant_wanted (wanted_told w) ≡ of_tables.is_constant_wanted w
    constant_wanted wanted.Constant = refl
    constant_wanted wanted.Object = refl
    constant_wanted wanted.Objects = refl
    constant_wanted wanted.LoopCall = refl
    constant_wanted wanted.Type = refl
    constant_wanted wanted.NameWithActuals = refl
    constant_wanted wanted.Nothing = refl

    pub constant_wanted_at : (n : ℕ) → IsWantedKnown r n → rules_of.is_constant_wanted (wants.wanted f n) ≡ of_tables.is_constant_wanted (wanted_in r n)
    constant_wanted_at n known = sym (ap rules_of.is_constant_wanted (are.wanted n known)) ∙ constant_wanted (wanted_in r n)

    -- ---- where a type is wanted

    type_kind : (o : Option (Option ParamKind)) → wants.is_type_kind f o ≡ named.is_type_kind (optional o)
    type_kind None = refl
    type_kind (Some None) = refl
    type_kind (Some (Some param.OfType)) = refl
    type_kind (Some (Some _)) = refl

    type_kind_if : (b : Bool) (ks : List (Option ParamKind)) (place : ℕ) → (b && wants.is_type_kind f (slice_get ks place)) ≡ named.is_type_kind (optional (slice_get (if b then ks else []) place))
    type_kind_if true ks place = type_kind (slice_get ks place)
    type_kind_if false ks zero = refl
    type_kind_if false ks (suc place) = refl

    takes_same : (siblings : List ℕ) (m n place : ℕ) → IsMeant f r m (first_name_at f m) → place ≡ place_in f siblings n → wants.wants_type_as f siblings m (first_name_at f m) n ≡ named.takes_type r m place
    takes_same siblings m n place m_is at =
        ap (λ (k : ℕ). is_of_module f m (first_name_at f m) && wants.is_type_kind f (slice_get (kinds_of (specification f (first_name_at f m))) k)) (sym at)
        ∙ type_kind_if (is_of_module f m (first_name_at f m)) (kinds_of (specification f (first_name_at f m))) place
        ∙ ap (λ (ks : List (Option ParamKind)). named.is_type_kind (optional (slice_get ks place))) (sym (m_is.kinds are.legal))

    -- of the children of an Index, of which one is wanted as a constant
    behind_first : (c : ℕ) (cs : List ℕ) (n : ℕ) → rules_of.is_constant_wanted (wanted_in_brackets f (begins_instance f (c ∷ cs)) (is_first_of f (c ∷ cs) n)) ≡ true → (is_kind f kind.Name c ≡ true) × ((c == n) ≡ false)
    behind_first c cs n h = by (is_kind f kind.Name c) refl (typing.takes_actuals f c (first_name_at f c)) (c == n) refl h
      where
        by : (a : Bool) → is_kind f kind.Name c ≡ a → (b d : Bool) → (c == n) ≡ d → rules_of.is_constant_wanted (wanted_in_brackets f (a && b) d) ≡ true → (is_kind f kind.Name c ≡ true) × ((c == n) ≡ false)
        by true is true false e h = (is, e)
        by true is true true e h = absurd (true≢false (sym h))
        by true is false d e h = absurd (true≢false (sym h))
        by false is b d e h = absurd (true≢false (sym h))

    index_same : (p n : ℕ) (cs : List ℕ) → children f p ≡ cs → parent f n ≡ Some p → rules_of.is_constant_wanted (wanted_in_brackets f (begins_instance f cs) (is_first_of f cs n)) ≡ true → wants.wants_type_in f kind.Index p cs n ≡ named.takes_type_before r cs n
    index_same p n [] is round h = refl
    index_same p n (c ∷ cs) is round h =
        let first = behind_first c cs n h in
        let place : read.place_in r n ≡ (if c == n then 0 else suc (place_in f cs n)) = are.places n p round ∙ ap (λ (xs : List ℕ). place_in f xs n) is in
        let next : read.place_in r n ≡ suc (place_in f cs n) = place ∙ ap (λ (b : Bool). if b then 0 else suc (place_in f cs n)) first.1 in
        takes_same cs c n (read.place_in r n - 1) (are.named c (same_kind kind.Name (kind_at nodes c) first.0)) (omega (arith, next))

    wants_in : (n p : ℕ) → parent f n ≡ Some p → rules_of.is_constant_wanted (wants.wanted f n) ≡ true → (k : NodeKind) → kind_at nodes p ≡ k → wants.wants_type_in f k p (children f p) n ≡ named.wants_type_in r k p n
    wants_in n p round h kind.Equate is = ap has_no_name (names_same (slice_get nodes p))
    wants_in n p round h kind.NameT is = takes_same (children f p) p n (read.place_in r n) (are.named_types p is) (are.places n p round)
    wants_in n p round h kind.Index is =
        let inside : checking.is_kind_at f kind.Index (parent f n) ≡ true = ap (checking.is_kind_at f kind.Index) round ∙ ap (is_of kind.Index) is in
        let brackets : wants.wanted f n ≡ wanted_in_brackets f (begins_instance f (children f p)) (is_first_of f (children f p) n) =
        ap (λ (b : Bool). wants.wanted_by f b n) inside ∙ ap (λ (o : Option ℕ). wanted_in_brackets f (begins_instance f (children_at f o)) (is_first_of f (children_at f o) n)) round in
        index_same p n (children f p) refl round (sym (ap rules_of.is_constant_wanted brackets) ∙ h)
        ∙ ap (λ (cs : List ℕ). named.takes_type_before r cs n) (children_same (slice_get nodes p))
    wants_in n p round h _ is = refl

    pub wants_same : (n : ℕ) → rules_of.is_constant_wanted (wants.wanted f n) ≡ true → wants.wants_type f n ≡ named.wants_type r n
    wants_same n h = by (parent f n) refl
      where
        by : (o : Option ℕ) → parent f n ≡ o → wants.wants_type_at f o n ≡ named.wants_type_at r o n
        by None round = refl
        by (Some p) round = wants_in n p round h (kind_at nodes p) refl

    -- ---- names of bad equates

    declared_same : (o : Option Declared) → checking.declaring_node f o ≡ node_of o
    declared_same None = refl
    declared_same (Some d) = refl

    declaring_same : (o : Option ℕ) → checking.declaring_node f (declaration_at scope o) ≡ declaring_node r.names.now o
    declaring_same None = refl
    declaring_same (Some place) = declared_same (slice_get ds place) ∙ ap (λ (xs : List Declared). node_of (slice_get xs place)) (sym are.names.declared)

    equate_same : (o : Option ℕ) → equate_of f o ≡ table.equate_of nodes o
    equate_same None = refl
    equate_same (Some e) = ap (λ (b : Bool). if b then Some e else None) (there_is kind.Equate refl (slice_get nodes e))

    equate_kind : (o : Option ℕ) (e : ℕ) → equate_of f o ≡ Some e → is_kind f kind.Equate e ≡ true
    equate_kind None e at = absurd (none-some e at)
    equate_kind (Some d) e at = by (is_kind f kind.Equate d) refl at
      where
        by : (b : Bool) → is_kind f kind.Equate d ≡ b → (if b then Some d else None) ≡ Some e → is_kind f kind.Equate e ≡ true
        by true is at = ap (is_kind f kind.Equate) (sym (same_Some d e at)) ∙ is
        by false is at = absurd (none-some e at)

    module _ (bits : List Bool) (bad : ℕ → Bool) (are_bad : AreBad f bits bad) where
      bad_at : (e : Option ℕ) → ((x : ℕ) → e ≡ Some x → is_kind f kind.Equate x ≡ true) → (b : Bool) → leads_on f (is_circular f) e ≡ b → equates.is_bad_at f bad e ≡ (table.is_bad_at bits e && not b)
      bad_at None is b circle = refl
      bad_at (Some x) is true circle = ap (λ (c : Bool). bad_unless f bad c x) circle ∙ sym (and-false (is_set (slice_get bits x)))
      bad_at (Some x) is false circle = ap (λ (c : Bool). bad_unless f bad c x) circle ∙ sym (are_bad x (is x refl)) ∙ sym (and-true (is_set (slice_get bits x)))

      pub bad_name : (n : ℕ) (name : Identifier) → equates.is_bad_name f bad n name ≡ of_tables.is_bad t bits (found ds name n)
      bad_name n name =
          let circle : leads_on f (is_circular f) (equate_named f n name) ≡ is_marked t.circular.now (found ds name n) = circle_is f shaped t.circular.now are.marks n name in
          let same : equate_named f n name ≡ table.equate_of nodes (declaring_node r.names.now (found ds name n)) = ap (equate_of f) (declaring_same (found ds name n)) ∙ equate_same (declaring_node r.names.now (found ds name n)) in
          bad_at (equate_named f n name) (λ x at. equate_kind (checking.declared_by f n name) x at) (is_marked t.circular.now (found ds name n)) circle
          ∙ ap (λ (e : Option ℕ). table.is_bad_at bits e && not (is_marked t.circular.now (found ds name n))) same

      -- the first name of a node of one of these kinds
      first_same : (n : ℕ) (its : List Identifier) → (its ≡ [] → ⊥) → optional (slice_get (map (λ name. found ds name n) its) 0) ≡ found ds (first_name its) n
      first_same n [] some = absurd (some refl)
      first_same n (name ∷ rest) some = refl

      no_names : (node : Node) → HasEnough node → least_names node.kind ≡ 1 → node.names ≡ [] → ⊥
      no_names node its least none =
          let size : length node.names ≡ 0 = ap length none in
          let more = its.names in
          absurd (omega (arith, least, size, more))

      pub bad_first : (n : ℕ) (k : NodeKind) → least_names k ≡ 1 → ((node : Node) → names_in k node ≡ node.names) → is_of k kind.File ≡ false → kind_at nodes n ≡ k → equates.is_bad_name f bad n (first_name_at f n) ≡ of_tables.is_bad_first t bits n
      bad_first n k least used other is =
          let x = there nodes n k other is in
          let bound : declaration_in r.names.now n ≡ found ds (first_name x.node.names) n =
          ap (λ (xs : List (Option ℕ)). optional (slice_get xs 0)) (bound_is f r.names.now are.names n)
          ∙ ap (λ (its : Option Node). optional (slice_get (bound_at ds n its) 0)) x.at
          ∙ ap (λ (k : NodeKind). optional (slice_get (map (λ name. found ds name n) (names_in k x.node)) 0)) x.is
          ∙ ap (λ (its : List Identifier). optional (slice_get (map (λ name. found ds name n) its) 0)) (used x.node)
          ∙ first_same n x.node.names (no_names x.node (enough nodes shaped n x.node x.at) (ap least_names x.is ∙ least)) in
          ap (λ (its : Option Node). equates.is_bad_name f bad n (first_name (node_names f its))) x.at
          ∙ bad_name n (first_name x.node.names)
          ∙ ap (of_tables.is_bad t bits) (sym bound)
