-- What is settled to a string is not lost, since neither is what it is made from; so no text of what is lost is too long, but of a type.
use Rattle.std.proofs.Common.{◌≡◌, ◌∙◌, ℕ, zero, suc, ◌<◌, ◌≤◌, ◌||◌, Bool, true, false, List, [], ◌∷◌, ◌++◌, length, map, drop, get_or, Option, Some, None, refl, sym, ap, subst, arith}
use Rattle.std.specs.Prelude.{slice_get}
use Rattle.std.specs.List.{AllByRecursion, list_any}
use Rattle.std.proofs.lemmas.Bool.{true≢false}
use Rattle.std.proofs.lemmas.Option.{slice_get_within}
use Rattle.clu_tree.specs.declared.node.Node.{Node}
use Rattle.clu_tree.specs.declared.node.NodeKind.{NodeKind}
use Rattle.clu_tree.specs.declared.node.NodeKind.TheVariants as kind
use Rattle.clu_types.specs.CluType.{no_actuals}
use Rattle.clu_syntax.specs.Items.{Item, constants_at}
use Rattle.clu_syntax.specs.Kinds.{kind_at, kind_of, is_expression, is_type}
use Rattle.clu_syntax.specs.Nodes.{before, elements_of, expression_of, item_at}
use Rattle.clu_syntax.specs.Slots.{Slot, fit, one, slots}
use Rattle.clu_syntax.specs.Splits.{child, children_of, first_name}
use Rattle.clu_syntax.specs.Syntax.{Identifier, Constant, Constants, Expression, a_name, an_index, an_infix, a_paren, a_literal, TypeExpression}
use Rattle.clu_syntax.specs.Words.{infix_operator, sign, symbol_in, literal_of}
use Rattle.clu_syntax.proofs.Slots.{children_fit}
use Rattle.clu_names.specs.declared.scopes.Declared.{Declared}
use Rattle.clu_names.specs.Denotes.{bound_at}
use Rattle.clu_meaning.specs.Scoping as means
use Rattle.clu_meaning.specs.Scoping.{Scope, meaning_of}
use Rattle.clu_meaning.specs.Settling.{Value, settled_type, settled_constant, settled_parameter, unsettled, constant_in, with_brackets, value_of_meaning, value_of_name, value_of_expression, value_of_constant, actuals, unfolded_to, settled}
use Rattle.clu_checking.specs.Settled.{value_settled}
use Rattle.clu_checking.specs.Files.{File, item}
use Rattle.clu_checking.specs.ConstantRules.{is_long_constant}
use Rattle.clu_settle.specs.declared.meanings.Meaning.{Meaning}
use Rattle.clu_settle.specs.declared.meanings.Meaning.TheVariants as meaning
use Rattle.clu_settle.specs.Graph.{if_used}
use Rattle.clu_settle.specs.Lost.{IsLost, is_lost_in, is_lost_word, is_source, right_side}
use Rattle.clu_settle.specs.Meant as meant
use Rattle.clu_settle.specs.Names.{AreMeanings, Means, is_constant, is_other, may_name, may_stand, meaning_in, name_at, name_in}
use Rattle.clu_settle.proofs.Parts.{before_is, constant_is, item_there}
use Rattle.clu_settle.proofs.Shapes.{IsPart, first_part, one_fits, one_missing}
use Rattle.clu_declares.proofs.Each.{meaning_there}
use Rattle.clu_passes.specs.Trees.{IsFileOfTree}
use Rattle.clu_passes.proofs.LostRefused.{AreNotLost, NotLost, both, meanings, one_step}
use Rattle.clu_passes.proofs.RightSides.{no_more_fit}
use Rattle.clu_passes.proofs.StringOperators.{holds_string, in_holds, infix_joined, is_string_value, literal_holds, long_string, prefix_holds}

-- ---- children

no_kinds : {A : Type 0} (k : NodeKind) (ks : List NodeKind) → k ∷ ks ≡ [] → A
no_kinds k ks e = let size : suc (length ks) ≡ 0 = ap length e in absurd (omega (arith, size))

no_children : (nodes : List Node) (cs : List ℕ) → fit [] (map (kind_at nodes) cs) ≡ true → cs ≡ []
no_children nodes [] e = refl
no_children nodes (c ∷ cs) e = no_kinds (kind_at nodes c) (map (kind_at nodes) cs) (no_more_fit (kind_at nodes c ∷ map (kind_at nodes) cs) e)

-- ---- values that are no strings

brackets_hold : (v : Value) → is_string_value (with_brackets v) ≡ false
brackets_hold (settled_type t) = refl
brackets_hold (settled_constant c) = refl
brackets_hold (settled_parameter k) = refl
brackets_hold unsettled = refl

module _ (scope : Scope) (unfolded : Constant → Value) where
  index_holds : (n : ℕ) (e : Expression) (cs : Constants) → is_string_value (value_of_expression scope unfolded (an_index n e cs)) ≡ false
  index_holds n (a_name m name) cs = brackets_hold (value_of_name scope unfolded m name (actuals scope unfolded cs))
  index_holds n _ cs = refl

  elements_hold : (items : ℕ → Item) (nodes : List Node) (n : ℕ) (t : TypeExpression) (token : Option ℕ) (cs : List ℕ) → is_string_value (value_of_expression scope unfolded (elements_of items nodes n t token cs)) ≡ false
  elements_hold items nodes n t None cs = refl
  elements_hold items nodes n t (Some token) [] = refl
  elements_hold items nodes n t (Some token) (c ∷ cs) = refl

  other_holds : (name : Identifier) (x : means.Meaning) → is_other x ≡ true → is_string_value (value_of_meaning scope unfolded name no_actuals x) ≡ false
  other_holds name (means.is_equate c) e = absurd (true≢false (sym e))
  other_holds name means.is_type_set e = refl
  other_holds name _ e = refl

module _ (f : File) (of : IsFileOfTree f) (meant_so : AreMeanings f.nodes f.scope (meanings f of)) where
  abbrev nodes : List Node
  nodes = f.nodes

  abbrev ds : List Declared
  ds = f.scope.declarations

  abbrev table : List Meaning
  table = meant.declared_to f.nodes f.rounds ds (length ds)

  -- what a node is made from is not lost, and so it isn't
  made : (n : ℕ) (node : Node) → slice_get nodes n ≡ Some node → is_source (slice_get nodes n) ≡ false → AreNotLost f of node.children → AreNotLost f of (right_side (meaning_in (slice_get (meanings f of) n))) → NotLost f of n
  made n node at source below beside =
      let all : AreNotLost f of (node.children ++ right_side (meaning_in (slice_get (meanings f of) n))) = both f of node.children (right_side (meaning_in (slice_get (meanings f of) n))) below beside in (
        suc all.0,
        one_step nodes (meanings f of) all.0 n source
            (ap (λ (o : Option Node). list_any (is_lost_in nodes (meanings f of) all.0) (children_of o ++ right_side (meaning_in (slice_get (meanings f of) n)))) at ∙ all.1),
      )

  -- a node of this kind names no equate
  no_right : (n : ℕ) (node : Node) → slice_get nodes n ≡ Some node → ((bound : List (Option ℕ)) → if_used node.kind bound ≡ []) → right_side (meaning_in (slice_get (meanings f of) n)) ≡ []
  no_right n node at none =
      let inside : n < length nodes = slice_get_within nodes n node at in
      ap (λ (o : Option Meaning). right_side (meaning_in o)) (meaning_there f.nodes f.rounds ds n inside)
      ∙ ap (λ (k : NodeKind). right_side (meant.first_of nodes ds table (if_used k (bound_at ds n (slice_get nodes n))))) (ap kind_of at)
      ∙ ap (λ (bounds : List (Option ℕ)). right_side (meant.first_of nodes ds table bounds)) (none (bound_at ds n (slice_get nodes n)))

  none_lost : AreNotLost f of []
  none_lost = (0, refl)

  one_found : (c : ℕ) → NotLost f of c → AreNotLost f of (c ∷ [])
  one_found c found = (found.0, ap (λ (b : Bool). b || false) found.1)

  -- ---- where what equates stand for is so

  module _ (unfolded : Constant → Value) (known : (right : ℕ) → right < length f.nodes → is_constant f.nodes right ≡ true → is_string_value (unfolded (item_at f.nodes right).constant) ≡ true → NotLost f of right) where
    abbrev IsString : Expression → Type 0
    IsString e = is_string_value (value_of_expression f.scope unfolded e) ≡ true

    -- of the expressions before a number
    abbrev AreFound : ℕ → Type 0
    AreFound b = (n : ℕ) → n < b → (node : Node) → slice_get nodes n ≡ Some node → is_expression node.kind ≡ true → IsString (item_at nodes n).expression → NotLost f of n

    module _ (b n : ℕ) (had : AreFound b) (less : n ≤ b) (node : Node) (at : slice_get nodes n ≡ Some node) where
      abbrev items : ℕ → Item
      items = before n (item_at nodes)

      child_found : (c : ℕ) → IsPart nodes is_expression n c → holds_string (constant_in (value_of_expression f.scope unfolded (items c).expression)) ≡ true → NotLost f of c
      child_found c part h = by (slice_get nodes c) refl
        where
          before_n : c < n
          before_n = part.0

          by : (o : Option Node) → slice_get nodes c ≡ o → NotLost f of c
          by None here = absurd (true≢false (sym part.1 ∙ ap (λ (o : Option Node). is_expression (kind_of o)) here))
          by (Some its) here =
              had c (omega (arith, before_n, less)) its here (sym (ap (λ (o : Option Node). is_expression (kind_of o)) here) ∙ part.1)
              (sym (ap (λ (i : Item). is_string_value (value_of_expression f.scope unfolded i.expression)) (before_is nodes n c part.0))
              ∙ in_holds (value_of_expression f.scope unfolded (items c).expression) ∙ h)

      source_as : (k : NodeKind) → node.kind ≡ k → is_source (slice_get nodes n) ≡ is_lost_word k node.value
      source_as k is = ap is_source at ∙ ap (λ (k : NodeKind). is_lost_word k node.value) is

      unnamed : (k : NodeKind) → node.kind ≡ k → ((bound : List (Option ℕ)) → if_used k bound ≡ []) → AreNotLost f of (right_side (meaning_in (slice_get (meanings f of) n)))
      unnamed k is none =
          subst (AreNotLost f of) (sym (no_right n node at (λ bound. ap (λ (k : NodeKind). if_used k bound) is ∙ none bound))) none_lost

      childless : (k : NodeKind) → node.kind ≡ k → slots k ≡ [] → AreNotLost f of node.children
      childless k is none =
          subst (AreNotLost f of) (sym (no_children nodes node.children (sym (ap (λ (ss : List Slot). fit ss (map (kind_at nodes) node.children)) (ap slots is ∙ none)) ∙ children_fit nodes of.shaped n node at))) none_lost

      -- ---- names

      abbrev name : Identifier
      name = first_name node.names

      by_meaning : node.kind ≡ kind.Name → (m : Meaning) → meaning_in (slice_get (meanings f of) n) ≡ m → (x : means.Meaning) → Means nodes m x → is_string_value (value_of_meaning f.scope unfolded name no_actuals x) ≡ true → NotLost f of n
      by_meaning is (meaning.Equate right) e x told h =
          made n node at (source_as kind.Name is) (childless kind.Name is refl)
          (subst (λ (m : Meaning). AreNotLost f of (right_side m)) (sym e)
          (one_found right (known right told.0 told.1 (sym (ap (λ (x : means.Meaning). is_string_value (value_of_meaning f.scope unfolded name no_actuals x)) told.2) ∙ h))))
      by_meaning is (meaning.TypeParameter k) e x told h = absurd (true≢false (sym h ∙ ap (λ (x : means.Meaning). is_string_value (value_of_meaning f.scope unfolded name no_actuals x)) told))
      by_meaning is (meaning.ConstantParameter k) e x told h = absurd (true≢false (sym h ∙ ap (λ (x : means.Meaning). is_string_value (value_of_meaning f.scope unfolded name no_actuals x)) told))
      by_meaning is meaning.Module e x told h = absurd (true≢false (sym h ∙ ap (λ (x : means.Meaning). is_string_value (value_of_meaning f.scope unfolded name no_actuals x)) told))
      by_meaning is meaning.Other e x told h = absurd (true≢false (sym h ∙ other_holds f.scope unfolded name x told))

      name_found : node.kind ≡ kind.Name → IsString (a_name n name) → NotLost f of n
      name_found is h =
          let may : may_name (slice_get nodes n) ≡ true = ap may_name at ∙ ap (λ (k : NodeKind). may_stand k node.value) is in
          let called : name_at nodes n ≡ name = ap (λ (o : Option Node). name_in (kind_of o) o) at ∙ ap (λ (k : NodeKind). name_in k (Some node)) is in
          by_meaning is (meaning_in (slice_get (meanings f of) n)) refl (meaning_of f.scope n name)
          (subst (λ (name : Identifier). Means nodes (meaning_in (slice_get (meanings f of) n)) (meaning_of f.scope n name)) called (meant_so.each n may)) h

      -- ---- operators

      infix_found : node.kind ≡ kind.Infix → IsString (an_infix n (infix_operator (symbol_in node.value)) (items (child 0 node)).expression (items (child 1 node)).expression) → NotLost f of n
      infix_found is h =
          let first = first_part nodes of.tree of.shaped is_expression (one is_expression ∷ []) n node at (ap slots is) in
          let parts = infix_joined (infix_operator (symbol_in node.value)) (constant_in (value_of_expression f.scope unfolded (items (child 0 node)).expression)) (constant_in (value_of_expression f.scope unfolded (items (child 1 node)).expression)) h in
          rest_by first.first parts.0 parts.1 first.is (drop 1 node.children) refl first.rest first.before
        where
          rest_by : IsPart nodes is_expression n (child 0 node) → holds_string (constant_in (value_of_expression f.scope unfolded (items (child 0 node)).expression)) ≡ true →
              holds_string (constant_in (value_of_expression f.scope unfolded (items (child 1 node)).expression)) ≡ true → node.children ≡ child 0 node ∷ drop 1 node.children →
              (cs : List ℕ) → drop 1 node.children ≡ cs → fit (one is_expression ∷ []) (map (kind_at nodes) (drop 1 node.children)) ≡ true → AllByRecursion (λ (c : ℕ). c < n) (drop 1 node.children) → NotLost f of n
          rest_by first left right begun [] e fits lower = absurd (one_missing is_expression [] (subst (λ (cs : List ℕ). fit (one is_expression ∷ []) (map (kind_at nodes) cs) ≡ true) e fits))
          rest_by first left right begun (c ∷ cs) e fits lower =
              let its = one_fits is_expression [] (kind_at nodes c) (map (kind_at nodes) cs) (subst (λ (cs : List ℕ). fit (one is_expression ∷ []) (map (kind_at nodes) cs) ≡ true) e fits) in
              let behind : AllByRecursion (λ (c : ℕ). c < n) (c ∷ cs) = subst (AllByRecursion (λ (c : ℕ). c < n)) e lower in
              let alone : cs ≡ [] = no_children nodes cs its.1 in
              let whole : node.children ≡ child 0 node ∷ c ∷ [] = begun ∙ ap (λ (xs : List ℕ). child 0 node ∷ xs) e ∙ ap (λ (xs : List ℕ). child 0 node ∷ c ∷ xs) alone in
              let second : child 1 node ≡ c = ap (λ (xs : List ℕ). get_or xs 1 0) whole in
              made n node at (source_as kind.Infix is)
              (subst (AreNotLost f of) (sym whole)
              (both f of (child 0 node ∷ []) (c ∷ []) (one_found (child 0 node) (child_found (child 0 node) first left))
              (one_found c (child_found c (behind.0, its.0) (sym (ap (λ (c : ℕ). holds_string (constant_in (value_of_expression f.scope unfolded (items c).expression))) second) ∙ right)))))
              (unnamed kind.Infix is (λ bound. refl))

      paren_found : node.kind ≡ kind.Paren → IsString (a_paren n (items (child 0 node)).expression) → NotLost f of n
      paren_found is h =
          let first = first_part nodes of.tree of.shaped is_expression [] n node at (ap slots is) in
          let whole : node.children ≡ child 0 node ∷ [] = first.is ∙ ap (λ (xs : List ℕ). child 0 node ∷ xs) (no_children nodes (drop 1 node.children) first.rest) in
          made n node at (source_as kind.Paren is)
          (subst (AreNotLost f of) (sym whole) (one_found (child 0 node) (child_found (child 0 node) first.first (sym (in_holds (value_of_expression f.scope unfolded (items (child 0 node)).expression)) ∙ h))))
          (unnamed kind.Paren is (λ bound. refl))

      literal_found : node.kind ≡ kind.Literal → IsString (a_literal n (literal_of node.value)) → NotLost f of n
      literal_found is h =
          made n node at (source_as kind.Literal is ∙ literal_holds (literal_of node.value) h) (childless kind.Literal is refl) (unnamed kind.Literal is (λ bound. refl))

      found_by : (k : NodeKind) → node.kind ≡ k → is_expression k ≡ true → IsString (expression_of items nodes n node k) → NotLost f of n
      found_by kind.Infix is e h = infix_found is h
      found_by kind.Prefix is e h = absurd (true≢false (sym h ∙ prefix_holds (sign (symbol_in node.value)) (constant_in (value_of_expression f.scope unfolded (items (child 0 node)).expression))))
      found_by kind.Paren is e h = paren_found is h
      found_by kind.Literal is e h = literal_found is h
      found_by kind.Name is e h = name_found is h
      found_by kind.Index is e h = absurd (true≢false (sym h ∙ index_holds f.scope unfolded n (items (child 0 node)).expression (constants_at items (drop 1 node.children))))
      found_by kind.Get is e h = absurd (true≢false (sym h))
      found_by kind.Call is e h = absurd (true≢false (sym h))
      found_by kind.Fields is e h = absurd (true≢false (sym h))
      found_by kind.Elems is e h = absurd (true≢false (sym h ∙ elements_hold f.scope unfolded items nodes n (items (child 0 node)).type node.value_token (drop 1 node.children)))
      found_by kind.OperOf is e h = absurd (true≢false (sym h))
      found_by kind.Force is e h = absurd (true≢false (sym h))
      found_by kind.Up is e h = absurd (true≢false (sym h))
      found_by kind.Down is e h = absurd (true≢false (sym h))
      found_by _ is e h = absurd (true≢false (sym e))

      node_found : is_expression node.kind ≡ true → IsString (item_at nodes n).expression → NotLost f of n
      node_found e h =
          found_by node.kind refl e (sym (ap (λ (i : Item). is_string_value (value_of_expression f.scope unfolded i.expression)) (item_there nodes n node at)) ∙ h)

    all_found : (b : ℕ) → AreFound b
    all_found zero n less node at e h = absurd (omega (arith, less))
    all_found (suc b) n less node at e h = node_found b n (all_found b) (omega (arith, less)) node at e h

    constant_found : (n : ℕ) → n < length nodes → is_constant nodes n ≡ true → is_string_value (value_of_constant f.scope unfolded (item_at nodes n).constant) ≡ true → NotLost f of n
    constant_found n inside const h = by (is_type (kind_at nodes n)) refl
      where
        here : (o : Option Node) → slice_get nodes n ≡ o → is_expression (kind_at nodes n) ≡ true → is_type (kind_at nodes n) ≡ false → NotLost f of n
        here None at e apart = absurd (true≢false (sym e ∙ ap (λ (o : Option Node). is_expression (kind_of o)) at))
        here (Some node) at e apart =
            all_found (suc n) n (omega arith) node at (sym (ap (λ (o : Option Node). is_expression (kind_of o)) at) ∙ e)
            (sym (ap (λ (c : Constant). is_string_value (value_of_constant f.scope unfolded c)) (constant_is nodes n false apart)) ∙ h)

        by : (b : Bool) → is_type (kind_at nodes n) ≡ b → NotLost f of n
        by true is = absurd (true≢false (sym h ∙ ap (λ (c : Constant). is_string_value (value_of_constant f.scope unfolded c)) (constant_is nodes n true is)))
        by false is = here (slice_get nodes n) refl (sym (or_none (is_expression (kind_at nodes n))) ∙ sym (ap (λ (b : Bool). is_expression (kind_at nodes n) || b) is) ∙ const) is
          where
            or_none : (b : Bool) → (b || false) ≡ b
            or_none true = refl
            or_none false = refl

  -- ---- after any number of steps

  steps_found : (steps right : ℕ) → right < length nodes → is_constant nodes right ≡ true → is_string_value (unfolded_to f.scope steps (item_at nodes right).constant) ≡ true → NotLost f of right
  unfolding unfolded_to
  steps_found zero right inside const h = absurd (true≢false (sym h))
  steps_found (suc steps) right inside const h = constant_found (unfolded_to f.scope steps) (steps_found steps) right inside const h

  settled_found : (n : ℕ) → n < length nodes → is_constant nodes n ≡ true → is_string_value (value_settled f.scope (item f n).constant) ≡ true → NotLost f of n
  settled_found n inside const h = constant_found (settled f.scope) (steps_found (length ds)) n inside const h

  -- so the text of a constant that is lost is not too long
  pub lost_short : (n : ℕ) → n < length nodes → is_constant nodes n ≡ true → IsLost nodes (meanings f of) n → is_long_constant (value_settled f.scope (item f n).constant) ≡ false
  lost_short n inside const gone = by (value_settled f.scope (item f n).constant) refl
    where
      by_test : (v : Value) → value_settled f.scope (item f n).constant ≡ v → (b : Bool) → is_long_constant v ≡ b → (is_long_constant v ≡ true → is_string_value v ≡ true) → is_long_constant v ≡ false
      by_test v e true hit string =
          let found : NotLost f of n = settled_found n inside const (ap is_string_value e ∙ string hit) in
          absurd (true≢false (sym (gone found.0) ∙ found.1))
      by_test v e false miss string = miss

      by : (v : Value) → value_settled f.scope (item f n).constant ≡ v → is_long_constant v ≡ false
      by (settled_type t) e = refl
      by (settled_constant c) e = by_test (settled_constant c) e (is_long_constant (settled_constant c)) refl (long_string c)
      by (settled_parameter k) e = refl
      by unsettled e = refl
