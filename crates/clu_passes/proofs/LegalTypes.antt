-- A type whose value is lost has no kind as the type of a parameter, and one whose value is found leads neither to `cvt` nor to a
-- circle of equates.
use Rattle.std.proofs.Common.{◌≡◌, ◌∙◌, ◌⊎◌, ℕ, zero, suc, ◌<◌, ◌&&◌, ◌||◌, Bool, true, false, List, [], ◌∷◌, length, nat_lt, codes, Option, Some, None, inl, inr, refl, ap, sym, subst, arith, lt-ltb}
use Rattle.std.specs.Prelude.{slice_get}
use Rattle.std.specs.List.{list_any}
use Rattle.std.specs.Option.{option_and_then}
use Rattle.std.proofs.lemmas.Bool.{true≢false, or_parts}
use Rattle.std.proofs.lemmas.Option.{none-some, same_Some, slice_get_within}
use Rattle.clu_tree.specs.declared.node.Node.{Node}
use Rattle.clu_tree.specs.declared.node.NodeKind.{NodeKind}
use Rattle.clu_tree.specs.declared.node.NodeKind.TheVariants as kind
use Rattle.clu_types.specs.CluType.{Actuals, no_actuals}
use Rattle.clu_syntax.specs.declared.words.SimpleType.TheVariants as simple
use Rattle.clu_syntax.specs.Kinds.{is_expression, is_type, kind_at, kind_of}
use Rattle.clu_syntax.specs.Items.{Item}
use Rattle.clu_syntax.specs.Nodes.{before, item_at, expression_of, type_expression_of}
use Rattle.clu_syntax.specs.Slots.{slots, any}
use Rattle.clu_syntax.specs.Slots.{is_constant as is_constant_kind}
use Rattle.clu_syntax.specs.Splits.{child}
use Rattle.clu_syntax.specs.Syntax.{Identifier, Expression, a_name, an_infix, a_prefix, a_paren, a_literal, an_index, TypeExpression, a_simple_type, a_list_type, a_fields_type, a_routine_type, a_named_type, Constant, an_expression, a_type, Constants}
use Rattle.clu_meaning.specs.Scoping as means
use Rattle.clu_meaning.specs.Scoping.{Scope, meaning_of}
use Rattle.clu_meaning.specs.Constants.{denoted, prefixed}
use Rattle.clu_meaning.specs.Settling.{Value as Settled, type_in, constant_in, types_of, fields_of, signals_of, value_of_meaning, value_of_expression, value_of_constant, type_of, actuals, unfolded_to}
use Rattle.clu_checking.specs.Files.{File}
use Rattle.clu_checking.specs.Equates.{type_node, can_go_on, meets_circle, means_cvt, is_cvt_expression, is_cvt_constant, leads_to_cvt, is_cvt}
use Rattle.clu_checking.specs.Equates.{is_cvt_type as leads_by_type}
use Rattle.clu_checking.specs.Headings.{kind_of_type, kind_unless, is_no_parameter_type}
use Rattle.clu_settle.specs.declared.value.Value.{Value}
use Rattle.clu_settle.specs.declared.value.Value.TheVariants as value
use Rattle.clu_settle.specs.declared.meanings.Meaning.{Meaning}
use Rattle.clu_settle.specs.declared.meanings.Meaning.TheVariants as meaning
use Rattle.clu_settle.specs.Lists.{value_of}
use Rattle.clu_settle.specs.Lost.{made_from, IsMadeFrom, goes_on, AreRead}
use Rattle.clu_settle.specs.Names.{is_constant, is_rep, may_stand, may_name, name_in, name_at, meaning_in, Means, AreMeanings}
use Rattle.clu_settle.specs.Standing.{is_lost, right_named, right_named_at, is_cvt_type, is_plain_type, type_stands_for, expression_stands_for, stands_for}
use Rattle.clu_settle.specs.Steps.{expression_node}
use Rattle.clu_settle.proofs.Parts.{before_is, item_there, constant_is, no_type_kind, type_is_constant, expression_is_constant}
use Rattle.clu_settle.proofs.Reading.{paren_is, index_is, name_made, first_made, expression_there, constant_there}
use Rattle.clu_settle.proofs.Shapes.{first_part}
use Rattle.clu_declares.proofs.Around.{there}
use Rattle.clu_passes.specs.Legal.{AreLegalKnown}
use Rattle.clu_passes.specs.Trees.{IsFileOfTree}
use Rattle.clu_passes.proofs.LegalForms.{NoKind, list_kind, fields_kind, routine_type_kind, constant_kind, infix_kind, brackets_kind, is_equated, other_named, no_cvt, no_kind, lost_is, name_is, word_is, named_is, node_of_type}
use Rattle.clu_passes.proofs.MadeFrom.{meanings, goes_same}

-- ---- steps

none_at : (p : ℕ → Bool) (xs : List ℕ) (i d : ℕ) → list_any p xs ≡ false → slice_get xs i ≡ Some d → p d ≡ false
none_at p [] i d never e = absurd (none-some d e)
none_at p (x ∷ xs) zero d never e = ap p (sym (same_Some x d e)) ∙ (or_parts (p x) (list_any p xs) never).0
none_at p (x ∷ xs) (suc i) d never e = none_at p xs i d (or_parts (p x) (list_any p xs) never).1 e

none_more : (p q : ℕ → Bool) → ((d : ℕ) → p d ≡ false → q d ≡ false) → (xs : List ℕ) → list_any p xs ≡ false → list_any q xs ≡ false
none_more p q more [] never = refl
none_more p q more (x ∷ xs) never =
    ap (λ (b : Bool). b || list_any q xs) (more x (or_parts (p x) (list_any p xs) never).0)
    ∙ none_more p q more xs (or_parts (p x) (list_any p xs) never).1

guarded : (a b c : Bool) → (b ≡ false → c ≡ false) → (a && b) ≡ false → (a && c) ≡ false
guarded true b c more e = more e
guarded false b c more e = refl

module _ (nodes : List Node) (meanings : List Meaning) where
  goes_less : (s n : ℕ) → goes_on nodes meanings s n ≡ false → goes_on nodes meanings (suc s) n ≡ false
  unfolding goes_on
  goes_less zero n e = absurd (true≢false e)
  goes_less (suc s) n e =
      none_more (λ d. nat_lt d (length nodes) && goes_on nodes meanings s d) (λ d. nat_lt d (length nodes) && goes_on nodes meanings (suc s) d)
      (λ d. guarded (nat_lt d (length nodes)) (goes_on nodes meanings s d) (goes_on nodes meanings (suc s) d) (goes_less s d)) (made_from nodes meanings n) e

  goes_down : (s n d : ℕ) → IsMadeFrom nodes meanings n d → d < length nodes → goes_on nodes meanings s n ≡ false → goes_on nodes meanings s d ≡ false
  unfolding goes_on
  goes_down zero n d made l e = absurd (true≢false e)
  goes_down (suc s) n d made l e =
      let one : (nat_lt d (length nodes) && goes_on nodes meanings s d) ≡ false = none_at (λ d. nat_lt d (length nodes) && goes_on nodes meanings s d) (made_from nodes meanings n) made.0 d e made.1 in
      goes_less s d (sym (ap (λ (b : Bool). b && goes_on nodes meanings s d) (lt-ltb d (length nodes) l)) ∙ one)

module _ (f : File) (of : IsFileOfTree f) (values : List Value) (meant : AreMeanings f.nodes f.scope (meanings f of)) (read : AreRead f.nodes (meanings f of) values) where
  abbrev nodes : List Node
  nodes = f.nodes

  abbrev table : List Meaning
  table = meanings f of

  abbrev scope : Scope
  scope = f.scope

  abbrev IsStraight : ℕ → Type 0
  IsStraight n = goes_on nodes table (length nodes) n ≡ false

  -- ---- what is lost with what it stands for

  lost_on : (n d : ℕ) → is_constant nodes n ≡ true → stands_for table (item_at nodes n).constant ≡ Some d → value_of values d ≡ value.Lost → value_of values n ≡ value.Lost
  lost_on n d is stands lost = elim (read.same n d is stands) [
    | inl endless ↦ read.endless n (endless (length nodes))
    | inr same ↦ lost_is (value_of values n) (same ∙ ap is_lost lost)
  ]

  lost_before : (n d : ℕ) → is_constant nodes n ≡ true → stands_for table (item_at nodes n).constant ≡ Some d → IsStraight n → value_of values n ≡ value.Lost → value_of values d ≡ value.Lost
  lost_before n d is stands straight lost = elim (read.same n d is stands) [
    | inl endless ↦ absurd (true≢false (sym (endless (length nodes)) ∙ straight))
    | inr same ↦ lost_is (value_of values d) (sym same ∙ ap is_lost lost)
  ]

  -- ---- names

  -- the right side that is named, if this is an equate
  abbrev IsNamed : Option ℕ → means.Meaning → Type 0
  IsNamed o m = ((r : ℕ) × (r < length nodes) × (is_constant nodes r ≡ true) × (o ≡ Some r) × (m ≡ means.is_equate (item_at nodes r).constant)) ⊎ (is_equated m ≡ false)

  named_by : (x : Meaning) (m : means.Meaning) → Means nodes x m → IsNamed (right_named x) m
  named_by (meaning.Equate r) m h = inl (r, h.0, h.1, refl, h.2)
  named_by (meaning.TypeParameter k) m h = inr (ap is_equated h)
  named_by (meaning.ConstantParameter k) m h = inr (ap is_equated h)
  named_by meaning.Module m h = inr (ap is_equated h)
  named_by meaning.Other m h = inr (other_named m h)

  named_at : (n : ℕ) (node : Node) → slice_get nodes n ≡ Some node → (k : NodeKind) → node.kind ≡ k → may_stand k node.value ≡ true → (name : Identifier) → name_in k (Some node) ≡ name → IsNamed (right_named_at table n) (meaning_of scope n name)
  named_at n node at k is stands name named =
      let may : may_name (slice_get nodes n) ≡ true = ap may_name at ∙ ap (λ (k : NodeKind). may_stand k node.value) is ∙ stands in
      let same : name_at nodes n ≡ name = ap (λ (o : Option Node). name_in (kind_of o) o) at ∙ ap (λ (k : NodeKind). name_in k (Some node)) is ∙ named in
      subst (λ (name : Identifier). IsNamed (right_named_at table n) (meaning_of scope n name)) same
      (named_by (meaning_in (slice_get table n)) (meaning_of scope n (name_at nodes n)) (meant.each n may))

  -- what is known of the node n, which stands for what the name of the node d does, by what is known of right sides
  module _ (n d : ℕ) (is : is_constant nodes n ≡ true) (stands : stands_for table (item_at nodes n).constant ≡ right_named_at table d) (m : means.Meaning) (named : IsNamed (right_named_at table d) m) (leads : Constant → Bool) where
    cvt_named : ((r : ℕ) → r < length nodes → is_constant nodes r ≡ true → leads (item_at nodes r).constant ≡ true → value_of values r ≡ value.Lost) → means_cvt f leads m ≡ true → value_of values n ≡ value.Lost
    cvt_named before_it e = by named
      where
        by : IsNamed (right_named_at table d) m → value_of values n ≡ value.Lost
        by (inl h) = lost_on n h.0 is (stands ∙ h.3) (before_it h.0 h.1 h.2 (sym (ap (means_cvt f leads) h.4) ∙ e))
        by (inr other) = absurd (true≢false (sym e ∙ no_cvt f leads m other))

    kind_named : (unfolded : Constant → Settled) → ((r : ℕ) → r < length nodes → is_constant nodes r ≡ true → value_of values r ≡ value.Lost → IsStraight r → leads (item_at nodes r).constant ≡ false → NoKind (unfolded (item_at nodes r).constant))
        → (name : Identifier) (given : Actuals) → value_of values n ≡ value.Lost → IsStraight n → IsStraight d → means_cvt f leads m ≡ false → NoKind (value_of_meaning scope unfolded name given m)
    kind_named unfolded before_it name given lost straight below e = by named
      where
        by : IsNamed (right_named_at table d) m → NoKind (value_of_meaning scope unfolded name given m)
        by (inl h) =
            let made : IsMadeFrom nodes table d h.0 = name_made nodes table d h.0 h.3 in
            ap (λ (m : means.Meaning). kind_of_type (type_in (value_of_meaning scope unfolded name given m))) h.4
            ∙ before_it h.0 h.1 h.2 (lost_before n h.0 is (stands ∙ h.3) straight lost) (goes_down nodes table (length nodes) d h.0 made h.1 below) (sym (ap (means_cvt f leads) h.4) ∙ e)
        by (inr other) = no_kind scope unfolded name given m other

  -- ---- a node by its form

  module _ (n : ℕ) (node : Node) (at : slice_get nodes n ≡ Some node) where
    abbrev items : ℕ → Item
    items = before n (item_at nodes)

    inside : n < length nodes
    inside = slice_get_within nodes n node at

    its_type : (item_at nodes n).type ≡ type_expression_of items nodes n node node.kind
    its_type = ap (λ (i : Item). i.type) (item_there nodes n node at)

    its_expression : (item_at nodes n).expression ≡ expression_of items nodes n node node.kind
    its_expression = ap (λ (i : Item). i.expression) (item_there nodes n node at)

    -- a type
    module _ (type_here : is_type (kind_at nodes n) ≡ true) where
      of_kind : is_type node.kind ≡ true
      of_kind = ap is_type (sym (ap kind_of at)) ∙ type_here

      as_type : (item_at nodes n).constant ≡ a_type (item_at nodes n).type
      as_type = constant_is nodes n true type_here

      -- the word `rep`, and a type by its name
      record IsByName (t : TypeExpression) (m : ℕ) (name : Identifier) : Type 0 where
        pub same : m ≡ n
        pub stands : stands_for table (item_at nodes n).constant ≡ right_named_at table n
        pub named : IsNamed (right_named_at table n) (meaning_of scope m name)

      by_name : (t : TypeExpression) (m : ℕ) (name : Identifier) → t ≡ (item_at nodes n).type → m ≡ n → type_stands_for table t ≡ right_named_at table m → IsNamed (right_named_at table n) (meaning_of scope n name) → IsByName t m name
      by_name t m name is same stands named = record {
        same = same;
        stands = ap (stands_for table) as_type ∙ ap (type_stands_for table) (sym is) ∙ stands ∙ ap (right_named_at table) same;
        named = subst (λ (k : ℕ). IsNamed (right_named_at table n) (meaning_of scope k name)) (sym same) named;
      }

      rep_here : (m : ℕ) → a_simple_type m simple.Rep ≡ (item_at nodes n).type → IsByName (a_simple_type m simple.Rep) m (codes "rep")
      rep_here m is =
          let w = word_is items nodes n node node.kind m simple.Rep of_kind (is ∙ its_type) in
          by_name (a_simple_type m simple.Rep) m (codes "rep") is w.1 refl (named_at n node at kind.Simple w.0 (ap is_rep w.2) (codes "rep") refl)

      name_here : (m : ℕ) (name : Identifier) (cs : Constants) → a_named_type m name cs ≡ (item_at nodes n).type → IsByName (a_named_type m name cs) m name
      name_here m name cs is =
          let w = named_is items nodes n node node.kind m name cs (is ∙ its_type) in
          by_name (a_named_type m name cs) m name is w.1 refl (named_at n node at kind.NameT w.0 refl name w.2)

      module _ (leads : Constant → Bool) where
        cvt_type : ((r : ℕ) → r < length nodes → is_constant nodes r ≡ true → leads (item_at nodes r).constant ≡ true → value_of values r ≡ value.Lost)
            → (t : TypeExpression) → t ≡ (item_at nodes n).type → leads_by_type f leads t ≡ true → value_of values n ≡ value.Lost
        cvt_type before_it (a_simple_type m simple.Cvt) is e = read.cvt n type_here (ap is_cvt_type (sym is))
        cvt_type before_it (a_simple_type m simple.Rep) is e =
            let x = rep_here m is in
            cvt_named n n (type_is_constant nodes n type_here) x.stands (meaning_of scope m (codes "rep")) x.named leads before_it e
        cvt_type before_it (a_named_type m name cs) is e =
            let x = name_here m name cs is in
            cvt_named n n (type_is_constant nodes n type_here) x.stands (meaning_of scope m name) x.named leads before_it e
        cvt_type before_it _ is e = absurd (true≢false (sym e))

        -- a word that is a type by itself is not lost
        plain_found : {A : Type 0} → is_plain_type (item_at nodes n).type ≡ true → value_of values n ≡ value.Lost → IsStraight n → A
        plain_found plain lost straight = elim (read.word n type_here plain) [
          | inl endless ↦ absurd (true≢false (sym (endless (length nodes)) ∙ straight))
          | inr found ↦ absurd (true≢false (sym (ap is_lost lost) ∙ found))
        ]

        module _ (unfolded : Constant → Settled) (before_it : (r : ℕ) → r < length nodes → is_constant nodes r ≡ true → value_of values r ≡ value.Lost → IsStraight r → leads (item_at nodes r).constant ≡ false → NoKind (unfolded (item_at nodes r).constant))
            (lost : value_of values n ≡ value.Lost) (straight : IsStraight n) where
          kind_type : (t : TypeExpression) → t ≡ (item_at nodes n).type → leads_by_type f leads t ≡ false → kind_of_type (type_of scope unfolded t) ≡ None
          kind_type (a_simple_type m simple.Cvt) is e = absurd (true≢false e)
          kind_type (a_simple_type m simple.Rep) is e =
              let x = rep_here m is in
              kind_named n n (type_is_constant nodes n type_here) x.stands (meaning_of scope m (codes "rep")) x.named leads unfolded before_it (codes "rep") no_actuals lost straight straight e
          kind_type (a_simple_type m simple.Null) is e = plain_found (ap is_plain_type (sym is)) lost straight
          kind_type (a_simple_type m simple.Bool) is e = plain_found (ap is_plain_type (sym is)) lost straight
          kind_type (a_simple_type m simple.Int) is e = plain_found (ap is_plain_type (sym is)) lost straight
          kind_type (a_simple_type m simple.Real) is e = plain_found (ap is_plain_type (sym is)) lost straight
          kind_type (a_simple_type m simple.Char) is e = plain_found (ap is_plain_type (sym is)) lost straight
          kind_type (a_simple_type m simple.String) is e = plain_found (ap is_plain_type (sym is)) lost straight
          kind_type (a_simple_type m simple.Any) is e = plain_found (ap is_plain_type (sym is)) lost straight
          kind_type (a_list_type m w t) is e = list_kind w (type_of scope unfolded t)
          kind_type (a_fields_type m w ss) is e = fields_kind w (fields_of scope unfolded ss)
          kind_type (a_routine_type m w args results signals) is e = routine_type_kind w (types_of scope unfolded args) (types_of scope unfolded results) (signals_of scope unfolded signals)
          kind_type (a_named_type m name cs) is e =
              let x = name_here m name cs is in
              kind_named n n (type_is_constant nodes n type_here) x.stands (meaning_of scope m name) x.named leads unfolded before_it name (actuals scope unfolded cs) lost straight straight e

    -- an expression
    module _ (expression_here : is_expression (kind_at nodes n) ≡ true) where
      is_constant_here : is_constant nodes n ≡ true
      is_constant_here = expression_is_constant nodes n expression_here

      as_expression : (item_at nodes n).constant ≡ an_expression (item_at nodes n).expression
      as_expression = constant_is nodes n false (no_type_kind (kind_at nodes n) expression_here)

      abbrev Stands : Expression → Type 0
      Stands x = stands_for table (item_at nodes n).constant ≡ expression_stands_for table x

      stands_as : (x : Expression) → x ≡ (item_at nodes n).expression → Stands x
      stands_as x is = ap (stands_for table) as_expression ∙ ap (expression_stands_for table) (sym is)

      pub record IsNameHere (m : ℕ) (name : Identifier) : Type 0 where
        pub same : m ≡ n
        pub named : IsNamed (right_named_at table n) (meaning_of scope m name)

      pub name_there : (m : ℕ) (name : Identifier) → a_name m name ≡ (item_at nodes n).expression → IsNameHere m name
      name_there m name is =
          let w = name_is items nodes n node node.kind m name (ap is_expression (sym (ap kind_of at)) ∙ expression_here) (is ∙ its_expression) in
          record { same = w.1; named = subst (λ (k : ℕ). IsNamed (right_named_at table n) (meaning_of scope k name)) (sym w.1) (named_at n node at kind.Name w.0 refl name w.2) }

      -- what stands in parentheses, and the name before brackets
      record IsInside (x : Expression) : Type 0 where
        pub first : ℕ
        pub there_is : first < length nodes
        pub of_kind : is_expression (kind_at nodes first) ≡ true
        pub is : x ≡ (item_at nodes first).expression
        pub node_is : expression_node x ≡ first
        pub made : IsMadeFrom nodes table n first

      inside_first : (x : Expression) → child 0 node < n → is_expression (kind_at nodes (child 0 node)) ≡ true → x ≡ (items (child 0 node)).expression → IsMadeFrom nodes table n (child 0 node) → IsInside x
      inside_first x below kind_here is made =
          let l : n < length nodes = inside in
          let itself : x ≡ (item_at nodes (child 0 node)).expression = is ∙ ap (λ (i : Item). i.expression) (before_is nodes n (child 0 node) below) in
          record {
            first = child 0 node;
            there_is = omega (arith, below, l);
            of_kind = kind_here;
            is = itself;
            node_is = ap expression_node itself ∙ expression_there nodes (child 0 node) (omega (arith, below, l));
            made = made;
          }

      in_paren : (m : ℕ) (x : Expression) → a_paren m x ≡ (item_at nodes n).expression → IsInside x
      in_paren m x is =
          let form = paren_is items nodes n node node.kind m x (is ∙ its_expression) in
          let p = first_part nodes of.tree of.shaped is_expression [] n node at (ap slots form.0) in
          inside_first x p.first.0 p.first.1 form.1 (first_made nodes table n node at p.is)

      in_index : (m : ℕ) (x : Expression) (cs : Constants) → an_index m x cs ≡ (item_at nodes n).expression → IsInside x
      in_index m x cs is =
          let form = index_is items nodes n node node.kind m x cs (is ∙ its_expression) in
          let p = first_part nodes of.tree of.shaped is_expression (any is_constant_kind ∷ []) n node at (ap slots form.0) in
          inside_first x p.first.0 p.first.1 form.1 (first_made nodes table n node at p.is)

  -- ---- expressions

  module _ (leads : Constant → Bool) where
    cvt_expression : ((r : ℕ) → r < length nodes → is_constant nodes r ≡ true → leads (item_at nodes r).constant ≡ true → value_of values r ≡ value.Lost)
        → (x : Expression) (n : ℕ) → n < length nodes → is_expression (kind_at nodes n) ≡ true → x ≡ (item_at nodes n).expression → is_cvt_expression f leads x ≡ true → value_of values n ≡ value.Lost
    cvt_expression before_it (a_name m name) n l here is e =
        let it = there nodes n l in
        let x = name_there n it.0 it.1 here m name is in
        cvt_named n n (expression_is_constant nodes n here) (stands_as n it.0 it.1 here (a_name m name) is ∙ ap (right_named_at table) x.same) (meaning_of scope m name) x.named leads before_it e
    cvt_expression before_it (a_paren m x) n l here is e =
        let it = there nodes n l in
        let p = in_paren n it.0 it.1 here m x is in
        lost_on n p.first (expression_is_constant nodes n here) (stands_as n it.0 it.1 here (a_paren m x) is ∙ ap Some p.node_is)
        (cvt_expression before_it x p.first p.there_is p.of_kind p.is e)
    cvt_expression before_it (an_index m (a_name k name) cs) n l here is e =
        let it = there nodes n l in
        let p = in_index n it.0 it.1 here m (a_name k name) cs is in
        let other = there nodes p.first p.there_is in
        let x = name_there p.first other.0 other.1 p.of_kind k name p.is in
        cvt_named n p.first (expression_is_constant nodes n here) (stands_as n it.0 it.1 here (an_index m (a_name k name) cs) is ∙ ap (right_named_at table) x.same) (meaning_of scope k name) x.named leads before_it e
    cvt_expression before_it _ n l here is e = absurd (true≢false (sym e))

    module _ (unfolded : Constant → Settled) (before_it : (r : ℕ) → r < length nodes → is_constant nodes r ≡ true → value_of values r ≡ value.Lost → IsStraight r → leads (item_at nodes r).constant ≡ false → NoKind (unfolded (item_at nodes r).constant)) where
      kind_expression : (x : Expression) (n : ℕ) → n < length nodes → is_expression (kind_at nodes n) ≡ true → x ≡ (item_at nodes n).expression → value_of values n ≡ value.Lost → IsStraight n → is_cvt_expression f leads x ≡ false → NoKind (value_of_expression scope unfolded x)
      kind_expression (a_name m name) n l here is lost straight e =
          let it = there nodes n l in
          let x = name_there n it.0 it.1 here m name is in
          kind_named n n (expression_is_constant nodes n here) (stands_as n it.0 it.1 here (a_name m name) is ∙ ap (right_named_at table) x.same) (meaning_of scope m name) x.named leads unfolded before_it name no_actuals lost straight straight e
      kind_expression (a_paren m x) n l here is lost straight e =
          let it = there nodes n l in
          let p = in_paren n it.0 it.1 here m x is in
          kind_expression x p.first p.there_is p.of_kind p.is
          (lost_before n p.first (expression_is_constant nodes n here) (stands_as n it.0 it.1 here (a_paren m x) is ∙ ap Some p.node_is) straight lost)
          (goes_down nodes table (length nodes) n p.first p.made p.there_is straight) e
      kind_expression (an_index m (a_name k name) cs) n l here is lost straight e =
          let it = there nodes n l in
          let p = in_index n it.0 it.1 here m (a_name k name) cs is in
          let other = there nodes p.first p.there_is in
          let x = name_there p.first other.0 other.1 p.of_kind k name p.is in
          brackets_kind (value_of_meaning scope unfolded name (actuals scope unfolded cs) (meaning_of scope k name))
          (kind_named n p.first (expression_is_constant nodes n here) (stands_as n it.0 it.1 here (an_index m (a_name k name) cs) is ∙ ap (right_named_at table) x.same) (meaning_of scope k name) x.named leads unfolded before_it name (actuals scope unfolded cs) lost straight
          (goes_down nodes table (length nodes) n p.first p.made p.there_is straight) e)
      kind_expression (an_infix m op a b) n l here is lost straight e = infix_kind op (constant_in (value_of_expression scope unfolded a)) (constant_in (value_of_expression scope unfolded b))
      kind_expression (a_prefix m s x) n l here is lost straight e = constant_kind (option_and_then (prefixed s) (constant_in (value_of_expression scope unfolded x)))
      kind_expression (a_literal m literal) n l here is lost straight e = constant_kind (denoted literal)
      kind_expression _ n l here is lost straight e = refl

  -- ---- for each number of steps

  expression_if : (a b : Bool) → (a || b) ≡ true → b ≡ false → a ≡ true
  expression_if true b e no_type_here = refl
  expression_if false b e no_type_here = absurd (true≢false (sym e ∙ no_type_here))

  cvt_step : (leads : Constant → Bool) → ((r : ℕ) → r < length nodes → is_constant nodes r ≡ true → leads (item_at nodes r).constant ≡ true → value_of values r ≡ value.Lost)
      → (n : ℕ) → is_constant nodes n ≡ true → is_cvt_constant f leads (item_at nodes n).constant ≡ true → value_of values n ≡ value.Lost
  cvt_step leads before_it n is e = by (is_type (kind_at nodes n)) refl
    where
      l : n < length nodes
      l = constant_there nodes n is

      by : (b : Bool) → is_type (kind_at nodes n) ≡ b → value_of values n ≡ value.Lost
      by true type_here =
          let it = there nodes n l in
          cvt_type n it.0 it.1 type_here leads before_it (item_at nodes n).type refl (sym (ap (is_cvt_constant f leads) (constant_is nodes n true type_here)) ∙ e)
      by false no_type_here =
          cvt_expression leads before_it (item_at nodes n).expression n l (expression_if (is_expression (kind_at nodes n)) (is_type (kind_at nodes n)) is no_type_here) refl
          (sym (ap (is_cvt_constant f leads) (constant_is nodes n false no_type_here)) ∙ e)

  kind_step : (leads : Constant → Bool) (unfolded : Constant → Settled) → ((r : ℕ) → r < length nodes → is_constant nodes r ≡ true → value_of values r ≡ value.Lost → IsStraight r → leads (item_at nodes r).constant ≡ false → NoKind (unfolded (item_at nodes r).constant))
      → (n : ℕ) → is_constant nodes n ≡ true → value_of values n ≡ value.Lost → IsStraight n → is_cvt_constant f leads (item_at nodes n).constant ≡ false → NoKind (value_of_constant scope unfolded (item_at nodes n).constant)
  kind_step leads unfolded before_it n is lost straight e = by (is_type (kind_at nodes n)) refl
    where
      l : n < length nodes
      l = constant_there nodes n is

      by : (b : Bool) → is_type (kind_at nodes n) ≡ b → NoKind (value_of_constant scope unfolded (item_at nodes n).constant)
      by true type_here =
          let it = there nodes n l in
          subst (λ (k : Constant). NoKind (value_of_constant scope unfolded k)) (sym (constant_is nodes n true type_here))
          (kind_type n it.0 it.1 type_here leads unfolded before_it lost straight (item_at nodes n).type refl (sym (ap (is_cvt_constant f leads) (constant_is nodes n true type_here)) ∙ e))
      by false no_type_here =
          subst (λ (k : Constant). NoKind (value_of_constant scope unfolded k)) (sym (constant_is nodes n false no_type_here))
          (kind_expression leads unfolded before_it (item_at nodes n).expression n l (expression_if (is_expression (kind_at nodes n)) (is_type (kind_at nodes n)) is no_type_here) refl lost straight
          (sym (ap (is_cvt_constant f leads) (constant_is nodes n false no_type_here)) ∙ e))

  cvt_lost : (s n : ℕ) → is_constant nodes n ≡ true → leads_to_cvt f s (item_at nodes n).constant ≡ true → value_of values n ≡ value.Lost
  unfolding leads_to_cvt
  cvt_lost zero n is e = absurd (true≢false (sym e))
  cvt_lost (suc s) n is e = cvt_step (leads_to_cvt f s) (λ r l its leads. cvt_lost s r its leads) n is e

  kind_lost : (s n : ℕ) → is_constant nodes n ≡ true → value_of values n ≡ value.Lost → IsStraight n → leads_to_cvt f (suc s) (item_at nodes n).constant ≡ false → NoKind (value_of_constant scope (unfolded_to scope s) (item_at nodes n).constant)
  unfolding leads_to_cvt unfolded_to
  kind_lost zero n is lost straight e = kind_step (leads_to_cvt f zero) (unfolded_to scope zero) (λ r l its gone goes leads. refl) n is lost straight e
  kind_lost (suc s) n is lost straight e = kind_step (leads_to_cvt f (suc s)) (unfolded_to scope (suc s)) (λ r l its gone goes leads. kind_lost s r its gone goes leads) n is lost straight e

  -- ---- a type of a parameter

  neither : (a b : Bool) → (a ≡ true → ⊥) → (b ≡ true → ⊥) → (a || b) ≡ false
  neither true b g h = absurd (g refl)
  neither false true g h = absurd (h refl)
  neither false false g h = refl

  module _ (c : ℕ) (is : is_type (kind_at nodes c) ≡ true) where
    abbrev t : TypeExpression
    t = (item_at nodes c).type

    l : c < length nodes
    l = constant_there nodes c (type_is_constant nodes c is)

    node_is : type_node t ≡ c
    node_is =
        let it = there nodes c l in
        ap (λ (i : Item). type_node i.type) (item_there nodes c it.0 it.1) ∙ node_of_type (before c (item_at nodes)) nodes c it.0 it.0.kind

    circle_same : meets_circle f (type_node t) ≡ goes_on nodes table (length nodes) c
    circle_same = ap (can_go_on f (length nodes)) node_is ∙ goes_same f of (length nodes) c l

    cvt_same : leads_to_cvt f (suc (length scope.declarations)) (item_at nodes c).constant ≡ is_cvt f t
    unfolding leads_to_cvt
    cvt_same = ap (is_cvt_constant f (leads_to_cvt f (length scope.declarations))) (constant_is nodes c true is)

    no_kind_lost : value_of values c ≡ value.Lost → (b : Bool) → is_no_parameter_type f t ≡ b → kind_unless b (kind_of_type (type_of scope (unfolded_to scope (length scope.declarations)) t)) ≡ None
    no_kind_lost lost true e = refl
    no_kind_lost lost false e =
        let parts = or_parts (is_cvt f t) (meets_circle f (type_node t)) e in
        subst (λ (k : Constant). NoKind (value_of_constant scope (unfolded_to scope (length scope.declarations)) k)) (constant_is nodes c true is)
        (kind_lost (length scope.declarations) c (type_is_constant nodes c is) lost (sym circle_same ∙ parts.1) (cvt_same ∙ parts.0))

  pub legal_known : AreLegalKnown f values
  legal_known c is = record {
    lost = λ lost. no_kind_lost c is lost (is_no_parameter_type f (item_at nodes c).type) refl;
    found = λ known. neither (is_cvt f (item_at nodes c).type) (meets_circle f (type_node (item_at nodes c).type))
        (λ e. known (cvt_lost (suc (length scope.declarations)) c (type_is_constant nodes c is) (cvt_same c is ∙ e)))
        (λ e. known (read.endless c (sym (circle_same c is) ∙ e)));
  }
