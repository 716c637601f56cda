-- Why the value of a node is lost, for each form of a type or an expression.
use Rattle.std.proofs.Common.{◌≡◌, ◌∙◌, ℕ, ◌<◌, Bool, true, false, if◌then◌else◌, List, [], ◌∷◌, map, drop, get_or, Option, Some, None, refl, ap, sym, subst, inl, inr, ◌⊎◌, length, arith}
use Rattle.std.specs.Prelude.{slice_get}
use Rattle.std.proofs.lemmas.Bool.{true≢false}
use Rattle.std.proofs.lemmas.Option.{none-some, slice_get_within}
use Rattle.clu_base.specs.declared.constants.Const.{Const}
use Rattle.clu_tree.specs.declared.node.Node.{Node}
use Rattle.clu_tree.specs.declared.node.NodeKind.{NodeKind}
use Rattle.clu_tree.specs.declared.node.NodeKind.TheVariants as kind
use Rattle.clu_tree.specs.Nodes.{IsTree}
use Rattle.clu_parser.specs.Shape.{HaveForms}
use Rattle.clu_syntax.specs.declared.words.Operator.{Operator}
use Rattle.clu_syntax.specs.declared.words.Sign.{Sign}
use Rattle.clu_syntax.specs.declared.words.SimpleType.{SimpleType}
use Rattle.clu_syntax.specs.declared.words.ListType.{ListType}
use Rattle.clu_syntax.specs.declared.words.FieldsType.{FieldsType}
use Rattle.clu_syntax.specs.declared.words.RoutineKind.{RoutineKind}
use Rattle.clu_syntax.specs.Kinds.{is_expression, is_type, kind_of, kind_at}
use Rattle.clu_syntax.specs.Slots.{slots, one, any, fit}
use Rattle.clu_syntax.specs.Slots.{is_constant as is_constant_kind}
use Rattle.clu_syntax.specs.Splits.{child, children_of, leading, leading_types, run, parts, after_one, is_of}
use Rattle.clu_syntax.specs.Syntax.{Identifier, Literal, Expression, an_infix, a_prefix, a_paren, a_literal, an_index, TypeExpression, a_simple_type, a_list_type, a_fields_type, a_routine_type, a_named_type}
use Rattle.clu_syntax.specs.Items.{Item, types_at, selectors_at, exceptions_at, constants_at}
use Rattle.clu_syntax.specs.Nodes.{item_with, expression_of, type_expression_of}
use Rattle.clu_settle.specs.declared.value.Value.{Value}
use Rattle.clu_settle.specs.declared.value.Value.TheVariants as value
use Rattle.clu_settle.specs.declared.meanings.Meaning.{Meaning}
use Rattle.clu_settle.specs.declared.meanings.Meaning.TheVariants as meaning
use Rattle.clu_settle.specs.Lists.{type_id, value_of, ids_behind, first_value, selectors_at as selectors_known, selectors_behind, exceptions_at as exceptions_known, signals_behind}
use Rattle.clu_settle.specs.Names.{meaning_in}
use Rattle.clu_settle.specs.Lost.{is_too_large, is_cvt, is_lost_word, is_source, right_side, IsMadeFrom, Reaches, at_once, by_way_of, IsExplained, IsNameLost, AreTypes}
use Rattle.clu_settle.proofs.Shapes.{one_missing, IsPart, AreParts, AreBefore, first_part, all_parts, run_parts, types_leading, parts_of_first, children_before, all_before, before_dropped, before_after_one, same_kind}
use Rattle.clu_settle.proofs.Labels.{label, of_word, of_list, of_fields, of_routine, of_named, of_infix, of_prefix, of_paren, of_literal, of_index, arguments_in, behind_arguments, results_in, exceptions_in}
use Rattle.clu_settle.proofs.Members.{IsIn, in_front, in_behind, in_more, in_take, in_drop, part_at, typed_lost, NoType, ids_none, selectors_none, selector_none, signals_none, exception_none, actuals_none}

-- ---- members of parts

record Part (nodes : List Node) (cs : List ℕ) (d : ℕ) : Type 0 where
  of : ℕ
  is_in : IsIn of cs
  below : IsIn d (children_of (slice_get nodes of))

in_parts : (nodes : List Node) (k : NodeKind) (cs : List ℕ) (d : ℕ) → IsIn d (parts nodes k cs) → Part nodes cs d
in_parts nodes k [] d h = absurd (none-some d h.1)
in_parts nodes k (c ∷ cs) d h = by (is_of k (kind_at nodes c)) h
  where
    by : (b : Bool) → IsIn d (if b then children_of (slice_get nodes c) else []) → Part nodes (c ∷ cs) d
    by true h = record { of = c; is_in = (0, refl); below = h }
    by false h = absurd (none-some d h.1)

in_after_one : (nodes : List Node) (k : NodeKind) (cs : List ℕ) (d : ℕ) → IsIn d (after_one nodes k cs) → IsIn d cs
in_after_one nodes k [] d h = h
in_after_one nodes k (c ∷ cs) d h = by (is_of k (kind_at nodes c)) h
  where
    by : (b : Bool) → IsIn d (if b then cs else c ∷ cs) → IsIn d (c ∷ cs)
    by true h = in_more d c cs h
    by false h = h

module _ (nodes : List Node) (meanings : List Meaning) (values : List Value) where
  -- ---- what a node is made from

  below_made : (c d : ℕ) → IsIn d (children_of (slice_get nodes c)) → IsMadeFrom nodes meanings c d
  below_made c d h = in_front d (children_of (slice_get nodes c)) (right_side (meaning_in (slice_get meanings c))) h

  child_made : (c d : ℕ) (its : Node) → slice_get nodes c ≡ Some its → IsIn d its.children → IsMadeFrom nodes meanings c d
  child_made c d its at h = below_made c d (subst (IsIn d) (sym (ap children_of at)) h)

  right_made : (c r : ℕ) → meaning_in (slice_get meanings c) ≡ meaning.Equate r → IsMadeFrom nodes meanings c r
  right_made c r e = in_behind r (children_of (slice_get nodes c)) (right_side (meaning_in (slice_get meanings c))) (subst (λ (m : Meaning). IsIn r (right_side m)) (sym e) (0, refl))

  first_in : (node : Node) → node.children ≡ child 0 node ∷ drop 1 node.children → IsIn (child 0 node) node.children
  first_in node is = (0, ap (λ (cs : List ℕ). slice_get cs 0) is)

  -- the second child of a node
  second_in_list : (first : ℕ) (cs : List ℕ) (c : ℕ) (rest : List ℕ) → cs ≡ first ∷ c ∷ rest → IsIn c cs
  second_in_list first cs c rest e = (1, ap (λ (cs : List ℕ). slice_get cs 1) e)

  -- the name of the node c, of which n is made, has these actual parameters, of which n is made too
  name_by : (constants : List Const) (n c : ℕ) (given : List ℕ) (m : Meaning) → meaning_in (slice_get meanings c) ≡ m → ((r : ℕ) → IsMadeFrom nodes meanings c r → Reaches nodes meanings n r) → ((d : ℕ) → IsIn d given → IsMadeFrom nodes meanings n d) → IsNameLost values constants given m → IsExplained nodes meanings values n
  name_by constants n c given (meaning.Equate r) e onward inside h = inr (r, onward r (right_made c r e), h)
  name_by constants n c given meaning.Module e onward inside h = let l = actuals_none values constants [] given h in inr (l.node, at_once n l.node (inside l.node l.is_in), l.lost)
  name_by constants n c given (meaning.TypeParameter k) e onward inside h = absurd (true≢false h)
  name_by constants n c given (meaning.ConstantParameter k) e onward inside h = absurd (true≢false h)
  name_by constants n c given meaning.Other e onward inside h = absurd (true≢false h)

  none_in : (n d : ℕ) → IsIn d [] → IsMadeFrom nodes meanings n d
  none_in n d h = absurd (none-some d h.1)

  pub name_explained : (constants : List Const) (n : ℕ) → IsNameLost values constants [] (meaning_in (slice_get meanings n)) → IsExplained nodes meanings values n
  name_explained constants n h = name_by constants n n [] (meaning_in (slice_get meanings n)) refl (λ r made. at_once n r made) (none_in n) h

  module _ (tree : IsTree nodes) (shaped : HaveForms nodes) (n : ℕ) (node : Node) (at : slice_get nodes n ≡ Some node) where
    abbrev IsType : ((ℕ → Item) → TypeExpression) → Type 0
    IsType view = (items : ℕ → Item) → view items ≡ (item_with items nodes n (slice_get nodes n)).type

    abbrev IsExpression : ((ℕ → Item) → Expression) → Type 0
    IsExpression view = (items : ℕ → Item) → view items ≡ (item_with items nodes n (slice_get nodes n)).expression

    labelled_type : (view : (ℕ → Item) → TypeExpression) → IsType view → view label ≡ type_expression_of label nodes n node node.kind
    labelled_type view is = is label ∙ ap (λ (its : Option Node). (item_with label nodes n its).type) at

    labelled_expression : (view : (ℕ → Item) → Expression) → IsExpression view → view label ≡ expression_of label nodes n node node.kind
    labelled_expression view is = is label ∙ ap (λ (its : Option Node). (item_with label nodes n its).expression) at

    here : AreBefore n node.children
    here = children_before nodes tree shaped n node at

    lost_word : (k : NodeKind) → node.kind ≡ k → is_source (slice_get nodes n) ≡ is_lost_word k node.value
    lost_word k e = ap is_source at ∙ ap (λ (x : NodeKind). is_lost_word x node.value) e

    child_lost : (d : ℕ) → IsIn d node.children → value_of values d ≡ value.Lost → IsExplained nodes meanings values n
    child_lost d h lost = inr (d, at_once n d (child_made n d node at h), lost)

    -- the second child, where one must stand there
    second_in : node.children ≡ child 0 node ∷ drop 1 node.children → fit (one is_expression ∷ []) (map (kind_at nodes) (drop 1 node.children)) ≡ true → IsIn (child 1 node) node.children
    second_in is h = by (drop 1 node.children) refl h
      where
        by : (cs : List ℕ) → drop 1 node.children ≡ cs → fit (one is_expression ∷ []) (map (kind_at nodes) cs) ≡ true → IsIn (child 1 node) node.children
        by [] e h = absurd (one_missing is_expression [] h)
        by (c ∷ cs) e h =
            let all : node.children ≡ child 0 node ∷ c ∷ cs = is ∙ ap (λ (rest : List ℕ). child 0 node ∷ rest) e in
            let second : child 1 node ≡ c = ap (λ (rest : List ℕ). get_or rest 1 0) all in
            subst (λ (x : ℕ). IsIn x node.children) (sym second) (second_in_list (child 0 node) node.children c cs all)

    -- ---- expressions

    pub infix_explained : (p : Operator) (a b : ℕ) → IsExpression (λ items. an_infix n p (items a).expression (items b).expression) → (value_of values a ≡ value.Lost) ⊎ (value_of values b ≡ value.Lost) → IsExplained nodes meanings values n
    infix_explained p a b is h =
        let named = of_infix nodes n node node.kind p a b (labelled_expression (λ items. an_infix n p (items a).expression (items b).expression) is) in
        let f = first_part nodes tree shaped is_expression (one is_expression ∷ []) n node at (ap slots named.0) in
        elim h [
          | inl lost ↦ child_lost a (subst (λ (x : ℕ). IsIn x node.children) (sym named.1) (first_in node f.is)) lost
          | inr lost ↦ child_lost b (subst (λ (x : ℕ). IsIn x node.children) (sym named.2) (second_in f.is f.rest)) lost
        ]

    pub prefix_explained : (p : Sign) (a : ℕ) → IsExpression (λ items. a_prefix n p (items a).expression) → value_of values a ≡ value.Lost → IsExplained nodes meanings values n
    prefix_explained p a is lost =
        let named = of_prefix nodes n node node.kind p a (labelled_expression (λ items. a_prefix n p (items a).expression) is) in
        let f = first_part nodes tree shaped is_expression [] n node at (ap slots named.0) in
        child_lost a (subst (λ (x : ℕ). IsIn x node.children) (sym named.1) (first_in node f.is)) lost

    pub paren_explained : (a : ℕ) → IsExpression (λ items. a_paren n (items a).expression) → value_of values a ≡ value.Lost → IsExplained nodes meanings values n
    paren_explained a is lost =
        let named = of_paren nodes n node node.kind a (labelled_expression (λ items. a_paren n (items a).expression) is) in
        let f = first_part nodes tree shaped is_expression [] n node at (ap slots named.0) in
        child_lost a (subst (λ (x : ℕ). IsIn x node.children) (sym named.1) (first_in node f.is)) lost

    pub literal_explained : (l : Literal) → IsExpression (λ items. a_literal n l) → is_too_large l ≡ true → IsExplained nodes meanings values n
    literal_explained l is large =
        let named = of_literal nodes n node node.kind l (labelled_expression (λ items. a_literal n l) is) in
        inl (lost_word kind.Literal named.0 ∙ ap is_too_large (sym named.1) ∙ large)

    pub index_explained : (constants : List Const) (a : ℕ) (cs : List ℕ) → IsExpression (λ items. an_index n (items a).expression (constants_at items cs)) → (a < length nodes → IsNameLost values constants cs (meaning_in (slice_get meanings a))) → IsExplained nodes meanings values n
    index_explained constants a cs is h =
        let named = of_index nodes n node node.kind a cs (labelled_expression (λ items. an_index n (items a).expression (constants_at items cs)) is) in
        let f = first_part nodes tree shaped is_expression (any is_constant_kind ∷ []) n node at (ap slots named.0) in
        let first : IsMadeFrom nodes meanings n a = child_made n a node at (subst (λ (x : ℕ). IsIn x node.children) (sym named.1) (first_in node f.is)) in
        let below : a < n = (subst (IsPart nodes is_expression n) (sym named.1) f.first).0 in
        let there : n < length nodes = slice_get_within nodes n node at in
        let inside : a < length nodes = omega (arith, below, there) in
        name_by constants n a cs (meaning_in (slice_get meanings a)) refl
        (λ r made. by_way_of n a r first (at_once a r made))
        (λ d given. child_made n d node at (in_drop d 1 node.children (subst (IsIn d) named.2 given))) (h inside)

    -- ---- types

    pub word_explained : (constants : List Const) (w : SimpleType) → is_type (kind_at nodes n) ≡ true → IsType (λ items. a_simple_type n w) → (is_cvt w ≡ true) ⊎ IsNameLost values constants [] (meaning_in (slice_get meanings n)) → IsExplained nodes meanings values n
    word_explained constants w type_here is h =
        let kind_is : is_type node.kind ≡ true = ap is_type (sym (ap kind_of at)) ∙ type_here in
        let word = of_word nodes n node node.kind w kind_is (labelled_type (λ items. a_simple_type n w) is) in
        elim h [
          | inl cvt ↦ inl (lost_word kind.Simple word.0 ∙ ap is_cvt (sym word.1) ∙ cvt)
          | inr lost ↦ name_explained constants n lost
        ]

    pub named_explained : (constants : List Const) (name : Identifier) (cs : List ℕ) → IsType (λ items. a_named_type n name (constants_at items cs)) → IsNameLost values constants cs (meaning_in (slice_get meanings n)) → IsExplained nodes meanings values n
    named_explained constants name cs is h =
        let named = of_named nodes n node node.kind name cs (labelled_type (λ items. a_named_type n name (constants_at items cs)) is) in
        name_by constants n n cs (meaning_in (slice_get meanings n)) refl (λ r made. at_once n r made)
        (λ d given. child_made n d node at (subst (IsIn d) named.2 given)) h

    module _ (typed : AreTypes nodes values) where
      pub list_explained : (w : ListType) (of : ℕ) → IsType (λ items. a_list_type n w (items of).type) → type_id (value_of values of) ≡ None → IsExplained nodes meanings values n
      list_explained w of is none =
          let named = of_list nodes n node node.kind w of (labelled_type (λ items. a_list_type n w (items of).type) is) in
          let f = first_part nodes tree shaped is_type [] n node at (ap slots named.0) in
          let is_one : is_type (kind_at nodes of) ≡ true = subst (λ (x : ℕ). is_type (kind_at nodes x) ≡ true) (sym named.1) f.first.1 in
          child_lost of (subst (λ (x : ℕ). IsIn x node.children) (sym named.1) (first_in node f.is)) (typed_lost (value_of values of) (typed of is_one) none)

      -- a selector whose type isn't found
      selector_lost : (c : ℕ) → IsMadeFrom nodes meanings n c → is_of kind.FieldT (kind_at nodes c) ≡ true → selectors_known values (slice_get nodes c) ≡ None → IsExplained nodes meanings values n
      selector_lost c made is_one none = by (slice_get nodes c) refl (same_kind nodes kind.FieldT (kind_at nodes c) is_one) none
        where
          by : (its : Option Node) → slice_get nodes c ≡ its → kind_at nodes c ≡ kind.FieldT → selectors_known values its ≡ None → IsExplained nodes meanings values n
          by None at is none = absurd (let other : kind.File ≡ kind.FieldT = sym (ap kind_of at) ∙ is in cc)
          by (Some its) at is none =
              let of_kind : its.kind ≡ kind.FieldT = sym (ap kind_of at) ∙ is in
              let f = first_part nodes tree shaped is_type [] c its at (ap slots of_kind) in
              let type_none : type_id (value_of values (child 0 its)) ≡ None = sym (ap (λ (cs : List ℕ). type_id (first_value values cs)) f.is) ∙ selector_none values its none in
              inr (child 0 its, by_way_of n c (child 0 its) made (at_once c (child 0 its) (child_made c (child 0 its) its at (first_in its f.is))), typed_lost (value_of values (child 0 its)) (typed (child 0 its) f.first.1) type_none)

      pub fields_explained : (w : FieldsType) (cs : List ℕ) → IsType (λ items. a_fields_type n w (selectors_at items cs)) → selectors_behind values nodes [] cs ≡ None → IsExplained nodes meanings values n
      fields_explained w cs is none =
          let named = of_fields nodes n node node.kind w cs (labelled_type (λ items. a_fields_type n w (selectors_at items cs)) is) in
          let s = selectors_none values nodes [] cs none in
          let in_run : IsIn s.node (run nodes kind.FieldT node.children) = subst (IsIn s.node) named.1 s.is_in in
          selector_lost s.node (child_made n s.node node at (in_take s.node (leading nodes kind.FieldT node.children) node.children in_run))
          (part_at (IsPart nodes (is_of kind.FieldT) n) (run nodes kind.FieldT node.children) s.node (run_parts nodes kind.FieldT n node.children here) in_run).1 s.none

      behind_here : AreBefore n (behind_arguments nodes n node)
      behind_here = before_dropped nodes n (leading_types nodes node.children) node.children here

      -- types of which one isn't found
      type_lost : (cs : List ℕ) → AreParts nodes is_type n cs → (none : NoType values cs) → Reaches nodes meanings n none.node → IsExplained nodes meanings values n
      type_lost cs are none reaches =
          inr (none.node, reaches, typed_lost (value_of values none.node) (typed none.node (part_at (IsPart nodes is_type n) cs none.node are none.is_in).1) none.none)

      arguments_lost : NoType values (arguments_in nodes n node) → IsExplained nodes meanings values n
      arguments_lost none = type_lost (arguments_in nodes n node) (types_leading nodes n node.children here) none
          (at_once n none.node (child_made n none.node node at (in_take none.node (leading_types nodes node.children) node.children none.is_in)))

      in_behind_arguments : (c : ℕ) → IsIn c (behind_arguments nodes n node) → IsMadeFrom nodes meanings n c
      in_behind_arguments c h = child_made n c node at (in_drop c (leading_types nodes node.children) node.children h)

      results_lost : NoType values (results_in nodes n node) → IsExplained nodes meanings values n
      results_lost none =
          let part = in_parts nodes kind.Results (behind_arguments nodes n node) none.node none.is_in in
          type_lost (results_in nodes n node) (parts_of_first nodes tree shaped kind.Results is_type refl n (behind_arguments nodes n node) behind_here) none
          (by_way_of n part.of none.node (in_behind_arguments part.of part.is_in) (at_once part.of none.node (below_made part.of none.node part.below)))

      -- an exception of which a type isn't found
      exception_lost : (e : ℕ) → Reaches nodes meanings n e → ((d : ℕ) → IsMadeFrom nodes meanings e d → Reaches nodes meanings n d) → is_of kind.Exc (kind_at nodes e) ≡ true → exceptions_known values (slice_get nodes e) ≡ None → IsExplained nodes meanings values n
      exception_lost e reaches onward is_one none = by (slice_get nodes e) refl (same_kind nodes kind.Exc (kind_at nodes e) is_one) none
        where
          by : (its : Option Node) → slice_get nodes e ≡ its → kind_at nodes e ≡ kind.Exc → exceptions_known values its ≡ None → IsExplained nodes meanings values n
          by None at is none = absurd (let other : kind.File ≡ kind.Exc = sym (ap kind_of at) ∙ is in cc)
          by (Some its) at is none =
              let of_kind : its.kind ≡ kind.Exc = sym (ap kind_of at) ∙ is in
              let t = ids_none values [] its.children (exception_none values its none) in
              let is_one = part_at (IsPart nodes is_type e) its.children t.node (all_parts nodes tree shaped is_type e its at (ap slots of_kind)) t.is_in in
              inr (t.node, onward t.node (child_made e t.node its at t.is_in), typed_lost (value_of values t.node) (typed t.node is_one.1) t.none)

      abbrev signals_node : List ℕ
      signals_node = parts nodes kind.Signals (after_one nodes kind.Results (behind_arguments nodes n node))

      signals_are : AreBefore n signals_node
      signals_are = all_before nodes (is_of kind.Exc) n signals_node (parts_of_first nodes tree shaped kind.Signals (is_of kind.Exc) refl n (after_one nodes kind.Results (behind_arguments nodes n node)) (before_after_one nodes kind.Results n (behind_arguments nodes n node) behind_here))

      signals_lost : signals_behind values nodes [] (exceptions_in nodes n node) ≡ None → IsExplained nodes meanings values n
      signals_lost none =
          let s = signals_none values nodes [] (exceptions_in nodes n node) none in
          let part = in_parts nodes kind.Signals (after_one nodes kind.Results (behind_arguments nodes n node)) s.node (in_take s.node (leading nodes kind.Exc signals_node) signals_node s.is_in) in
          let first : IsMadeFrom nodes meanings n part.of = in_behind_arguments part.of (in_after_one nodes kind.Results (behind_arguments nodes n node) part.of part.is_in) in
          let second : IsMadeFrom nodes meanings part.of s.node = below_made part.of s.node part.below in
          exception_lost s.node (by_way_of n part.of s.node first (at_once part.of s.node second))
          (λ d made. by_way_of n part.of d first (by_way_of part.of s.node d second (at_once s.node d made)))
          (part_at (IsPart nodes (is_of kind.Exc) n) (exceptions_in nodes n node) s.node (run_parts nodes kind.Exc n signals_node signals_are) s.is_in).1 s.none

      pub routine_explained : (w : RoutineKind) (ps rs es : List ℕ) → IsType (λ items. a_routine_type n w (types_at items ps) (types_at items rs) (exceptions_at items es)) →
          (ids_behind values [] ps ≡ None) ⊎ ((ids_behind values [] rs ≡ None) ⊎ (signals_behind values nodes [] es ≡ None)) → IsExplained nodes meanings values n
      routine_explained w ps rs es is h =
          let named = of_routine nodes n node node.kind w ps rs es (labelled_type (λ items. a_routine_type n w (types_at items ps) (types_at items rs) (exceptions_at items es)) is) in
          elim h [
            | inl none ↦ arguments_lost (subst (NoType values) named.1 (ids_none values [] ps none))
            | inr rest ↦ elim rest [
              | inl none ↦ results_lost (subst (NoType values) named.2 (ids_none values [] rs none))
              | inr none ↦ signals_lost (subst (λ (ks : List ℕ). signals_behind values nodes [] ks ≡ None) named.3 none)
            ]
          ]
