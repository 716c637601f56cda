-- No component or tag of a type that a text names stands twice, if no type is refused at its node or below: V17 is violated where one does.
use Rattle.std.proofs.Common.{◌≡◌, ◌∙◌, ℕ, zero, suc, ◌+◌, ◌-◌, ◌<◌, ◌≤◌, ◌||◌, if◌then◌else◌, Bool, true, false, List, [], ◌∷◌, ◌++◌, length, drop, take, flat_map, codes, Option, Some, None, inl, inr, refl, sym, ap, ap₂, subst, arith}
use Rattle.std.specs.Prelude.{bytes_eq, slice_get}
use Rattle.std.specs.Option.{option_and_then}
use Rattle.std.proofs.lemmas.Bool.{or_parts, true≢false}
use Rattle.std.proofs.lemmas.Option.{slice_get_within}
use Rattle.clu_base.specs.declared.constants.Const.{Const}
use Rattle.clu_base.specs.declared.rules.Rule.TheVariants as rule
use Rattle.clu_tree.specs.declared.node.Node.{Node}
use Rattle.clu_tree.specs.declared.node.NodeKind.{NodeKind}
use Rattle.clu_tree.specs.declared.node.NodeKind.TheVariants as kind
use Rattle.clu_types.specs.CluType.{CluType, CluTypes, Signals, Actuals, no_actuals, actual_type, actual_const, actual_param, Fields, stream_type, cluster_of}
use Rattle.clu_syntax.specs.declared.words.FieldsType.{FieldsType}
use Rattle.clu_syntax.specs.declared.words.FieldsType.TheVariants as fields
use Rattle.clu_syntax.specs.declared.words.ListType.{ListType}
use Rattle.clu_syntax.specs.declared.words.ListType.TheVariants as list
use Rattle.clu_syntax.specs.declared.words.Operator.{Operator}
use Rattle.clu_syntax.specs.declared.words.RoutineKind.{RoutineKind}
use Rattle.clu_syntax.specs.declared.words.RoutineKind.TheVariants as routine
use Rattle.clu_syntax.specs.declared.words.SimpleType.{SimpleType}
use Rattle.clu_syntax.specs.declared.words.SimpleType.TheVariants as simple
use Rattle.clu_syntax.specs.Items.{Item, constants_at, exceptions_at, selectors_at, types_at}
use Rattle.clu_syntax.specs.Kinds.{kind_at, kind_of, is_expression, is_type}
use Rattle.clu_syntax.specs.Nodes.{before, elements_of, expression_of, item_at, routine_type_of, selector_of, type_expression_of}
use Rattle.clu_syntax.specs.Slots.{any, slots}
use Rattle.clu_syntax.specs.Slots.{is_constant as is_constant_kind}
use Rattle.clu_syntax.specs.Splits.{after_one, child, first_name, is_of, leading_types, parts, run}
use Rattle.clu_syntax.specs.Syntax.{Identifier, Constant, Constants, Expression, an_index, a_name, TypeExpression, a_simple_type}
use Rattle.clu_syntax.specs.Words as words
use Rattle.clu_syntax.specs.Words.{infix_operator, literal_of, sign, symbol_in}
use Rattle.clu_meaning.specs.Constants.{denoted, folded, prefixed, sugar}
use Rattle.clu_meaning.specs.Scoping as means
use Rattle.clu_meaning.specs.Scoping.{Scope, meaning_of}
use Rattle.clu_meaning.specs.Settling as settling
use Rattle.clu_meaning.specs.Settling.{Value, settled_type, settled_constant, settled_parameter, unsettled, actuals, constant_in, constant_value, fields_of, infix_value, module_type, routine_type, signals_of, type_in, type_of, types_of, unfolded_to, settled, type_settled, value_of_constant, value_of_expression, value_of_meaning, value_of_name, with_brackets}
use Rattle.clu_checking.specs.Files.{File, children, children_at, item, names, node_children, node_names, parent, round}
use Rattle.clu_checking.specs.ConstantRules.{is_of_heading, is_word, v31}
use Rattle.clu_checking.specs.Equates.{is_circular}
use Rattle.clu_checking.specs.ExpressionRules.{v17, v17_at}
use Rattle.clu_checking.specs.NameRules.{before_in, names_before, stands_before, stands_twice}
use Rattle.clu_checking.specs.Refusals.{is_no_type_at, rules_of_types}
use Rattle.clu_settle.specs.declared.meanings.Meaning.{Meaning}
use Rattle.clu_settle.specs.declared.meanings.Meaning.TheVariants as meaning
use Rattle.clu_settle.specs.Names.{AreMeanings, Means, is_constant, is_other, is_rep, may_name, may_stand, meaning_in, name_at, name_in}
use Rattle.clu_settle.proofs.Parts.{There as IsThere, before_is, constant_is, item_there, node_at}
use Rattle.clu_settle.proofs.Shapes.{AreParts, IsPart, all_parts, first_part}
use Rattle.clu_declares.proofs.Below.{same_kind}
use Rattle.clu_declares.proofs.Facts.{There, there}
use Rattle.clu_declares.proofs.Parents.{IsIn}
use Rattle.clu_passes.specs.Notes.{HaveParents, has}
use Rattle.clu_passes.specs.Trees.{IsFileOfTree}
use Rattle.clu_passes.proofs.BadEquates.{none_in}
use Rattle.clu_passes.proofs.ByNodes.{type_there}
use Rattle.clu_passes.proofs.ConstantNodes.{is_name, no_name}
use Rattle.clu_passes.proofs.Constructed.{whole_run}
use Rattle.clu_passes.proofs.CvtPlaces.{misplaced_at, no_part, parent_told}
use Rattle.clu_passes.proofs.EachOnce.{IsFresh, some_before, stand_once}
use Rattle.clu_passes.proofs.FieldsOnce.{names_in, names_in_type, selected, selected_once}
use Rattle.clu_passes.proofs.LostRefused.{HasEquate, has_equate, is_equate_node, meanings, refused_by, side_inside, types_bad}
use Rattle.clu_passes.proofs.OfParents.{is_in}
use Rattle.clu_passes.proofs.StepsEnough.{bad_unfolds}
use Rattle.clu_passes.proofs.Subtrees.{is_subtree}
use Rattle.clu_passes.proofs.ValuesKnown.{IsBelow, child_below}
use Rattle.clu_passes.proofs.WhyLost.{odd_refused}
use Rattle.clu_passes.proofs.Within.{forest_goes_on}

-- ---- values

abbrev pub IsOnce : CluType → Type 0
IsOnce t = stands_twice (names_in_type t) ≡ false

abbrev pub ValueOnce : Value → Type 0
ValueOnce (settled_type t) = IsOnce t
ValueOnce _ = Unit {0}

in_value : (v : Value) → ValueOnce v → IsOnce (type_in v)
in_value (settled_type t) once = once
in_value (settled_constant c) once = refl
in_value (settled_parameter k) once = refl
in_value unsettled once = refl

of_constant : (c : Option Const) → ValueOnce (constant_value c)
of_constant (Some c) = tt
of_constant None = tt

of_infix : (op : Operator) (a b : Option Const) → ValueOnce (infix_value op a b)
of_infix op (Some a) (Some b) = of_constant (folded (sugar op) a b)
of_infix op (Some a) None = tt
of_infix op None b = tt

of_brackets : (v : Value) → ValueOnce v → ValueOnce (with_brackets v)
of_brackets (settled_type t) once = once
of_brackets (settled_constant c) once = tt
of_brackets (settled_parameter k) once = tt
of_brackets unsettled once = tt

of_module : (name : Identifier) (given : Actuals) → IsOnce (module_type name given)
of_module name no_actuals = by (bytes_eq name (codes "stream"))
  where
    by : (b : Bool) → IsOnce (if b then stream_type else cluster_of name no_actuals)
    by true = refl
    by false = refl
of_module name (actual_type t given) = refl
of_module name (actual_const c given) = refl
of_module name (actual_param n given) = refl

of_list : (word : ListType) (t : CluType) → IsOnce (settling.list_type word t)
of_list list.Array t = refl
of_list list.Sequence t = refl

of_fields : (word : FieldsType) (fs : Fields) → stands_twice (names_in_type (settling.fields_type word fs)) ≡ stands_twice (names_in fs)
of_fields fields.Record fs = refl
of_fields fields.Struct fs = refl
of_fields fields.Oneof fs = refl
of_fields fields.Variant fs = refl

of_routine : (word : RoutineKind) (args results : CluTypes) (raised : Signals) → IsOnce (routine_type word args results raised)
of_routine routine.Procedure args results raised = refl
of_routine routine.Iterator args results raised = refl

module _ (scope : Scope) (unfolded : Constant → Value) where
  other_once : (name : Identifier) (given : Actuals) (x : means.Meaning) → is_other x ≡ true → ValueOnce (value_of_meaning scope unfolded name given x)
  other_once name given (means.is_equate c) e = absurd (true≢false (sym e))
  other_once name given (means.is_type_parameter k) e = refl
  other_once name given means.is_module e = absurd (true≢false (sym e))
  other_once name given _ e = tt

  -- brackets after what is no name
  no_name_index : (n : ℕ) (e : Expression) (cs : Constants) → is_name e ≡ false → value_of_expression scope unfolded (an_index n e cs) ≡ unsettled
  unfolding is_name
  no_name_index n (a_name m name) cs other = absurd (true≢false other)
  no_name_index n _ cs other = refl

  elements_once : (items : ℕ → Item) (nodes : List Node) (n : ℕ) (t : TypeExpression) (token : Option ℕ) (cs : List ℕ) → ValueOnce (value_of_expression scope unfolded (elements_of items nodes n t token cs))
  elements_once items nodes n t None cs = tt
  elements_once items nodes n t (Some token) [] = tt
  elements_once items nodes n t (Some token) (c ∷ cs) = tt

module _ (f : File) (of : IsFileOfTree f) (parents : HaveParents f) (meant_so : AreMeanings f.nodes f.scope (meanings f of)) where
  abbrev nodes : List Node
  nodes = f.nodes

  -- no type is refused at the node or below
  abbrev pub IsFine : ℕ → Type 0
  IsFine n = (m : ℕ) → (round f n).first ≤ m → m ≤ n → is_no_type_at f m ≡ false

  -- `cvt` doesn't stand there
  abbrev pub IsNoCvt : ℕ → Type 0
  IsNoCvt n = (node : Node) → slice_get nodes n ≡ Some node → node.kind ≡ kind.Simple → words.simple_type (symbol_in node.value) ≡ simple.Cvt → ⊥

  first_upto : (n : ℕ) (node : Node) → slice_get nodes n ≡ Some node → (round f n).first ≤ n
  first_upto n node at = forest_goes_on nodes (round f n).first n node.children (is_subtree nodes f.rounds of.tree of.surrounded of.ordered n node at)

  child_fine : (n : ℕ) (node : Node) → slice_get nodes n ≡ Some node → IsFine n → (c : ℕ) → IsIn c node.children → IsFine c
  child_fine n node at fine c i m low high =
      let b : IsBelow f of n c = child_below f of n node at c i in
      let first : (round f n).first ≤ (round f c).first = b.first in
      let less : c < n = b.less in
      fine m (omega (arith, low, first)) (omega (arith, high, less))

  itself : (n : ℕ) (node : Node) → slice_get nodes n ≡ Some node → IsFine n → is_no_type_at f n ≡ false
  itself n node at fine = fine n (first_upto n node at) (omega arith)

  -- ---- the right side of an equate that a node names at which no type is refused

  side_fine : (n right : ℕ) → n < length nodes → is_no_type_at f n ≡ false → meaning_in (slice_get (meanings f of) n) ≡ meaning.Equate right → IsFine right
  side_fine n right inside here e = by (is_circular f x.equate) refl
    where
      x : HasEquate f of n right
      x = has_equate f of n right inside e

      fine_side : is_circular f x.equate ≡ false → types_bad f of x.equate ≡ false → IsFine right
      fine_side circle fine m low high =
          let lies = side_inside f of x.equate right x.side_of in
          let least : (round f x.equate).first ≤ (round f right).first = lies.0 in
          let less : right < x.equate = lies.1 in
          none_in (is_no_type_at f) (round f x.equate).first (x.equate - (round f x.equate).first)
          (sym (bad_unfolds f of (rules_of_types f) x.equate (is_equate_node f of x.equate right x.side_of) circle) ∙ fine)
          m (omega (arith, least, low)) (omega (arith, low, high, less, least))

      bad_by : is_circular f x.equate ≡ false → (b : Bool) → types_bad f of x.equate ≡ b → IsFine right
      bad_by circle true bad = absurd (true≢false (sym (odd_refused f of n (record { right = right; its = x; why = inr (circle, bad) })) ∙ here))
      bad_by circle false fine = fine_side circle fine

      by : (b : Bool) → is_circular f x.equate ≡ b → IsFine right
      by true circle = absurd (true≢false (sym (odd_refused f of n (record { right = right; its = x; why = inl circle })) ∙ here))
      by false circle = bad_by circle (types_bad f of x.equate) refl

  none_placed : (n : ℕ) → is_no_type_at f n ≡ false → v31 f n ≡ false
  none_placed n fine = by (v31 f n) refl
    where
      by : (b : Bool) → v31 f n ≡ b → b ≡ false
      by true hit = absurd (true≢false (sym (refused_by f of n 8 rule.CvtPlace refl hit) ∙ fine))
      by false miss = refl

  -- which is no `cvt`, since that stands in headings alone
  side_plain : (n right : ℕ) → n < length nodes → meaning_in (slice_get (meanings f of) n) ≡ meaning.Equate right → IsFine right → IsNoCvt right
  side_plain n right inside e fine node at is cvt =
      misplaced_at f right heading (record {
        of_word = ap kind_of at ∙ is;
        word = ap (is_word simple.Cvt) (type_there f of.shaped right node at is) ∙ ap (λ (w : SimpleType). is_word simple.Cvt (a_simple_type right w)) cvt;
        placed = none_placed right (itself right node at fine);
      })
    where
      x : HasEquate f of n right
      x = has_equate f of n right inside e

      its_kind : kind_at nodes x.equate ≡ kind.Equate
      its_kind = ap kind_of x.side_of.at ∙ x.side_of.is

      heading : is_of_heading f (parent f right) ≡ false
      heading =
          ap (is_of_heading f) (parent_told f of right (record { parent = x.equate; node = x.side_of.its; at = x.side_of.at; child = subst (IsIn right) (sym x.side_of.children) (inl refl) }))
          ∙ no_part f x.equate (ap (is_of kind.Decl) its_kind) (ap (is_of kind.Results) its_kind) (ap (is_of kind.Exc) its_kind)

  -- ---- selectors of a FieldsT

  abbrev picked : ℕ → List Identifier
  picked c = if is_of kind.FieldT (kind_at nodes c) then names f c else []

  names_picked : (cs : List ℕ) → names_before f kind.FieldT cs ≡ flat_map picked cs
  names_picked [] = refl
  names_picked (c ∷ cs) = by (is_of kind.FieldT (kind_at nodes c)) (names_picked cs)
    where
      by : (b : Bool) → names_before f kind.FieldT cs ≡ flat_map picked cs → (if b then names f c ++ names_before f kind.FieldT cs else names_before f kind.FieldT cs) ≡ ((if b then names f c else []) ++ flat_map picked cs)
      by true rest = ap (λ (xs : List Identifier). names f c ++ xs) rest
      by false rest = rest

  fresh_at : (n c : ℕ) → parent f c ≡ Some n → v17 f c ≡ false → IsFresh picked (children f n) c
  fresh_at n c above fine = by (is_of kind.FieldT (kind_at nodes c)) refl
    where
      by : (b : Bool) → is_of kind.FieldT (kind_at nodes c) ≡ b → IsFresh picked (children f n) c
      by true e =
          let its : (stands_twice (names f c) || stands_before f kind.FieldT c) ≡ false = ap (λ (k : NodeKind). v17_at f k c) (sym (same_kind kind.FieldT (kind_at nodes c) e)) ∙ fine in
          let both = or_parts (stands_twice (names f c)) (stands_before f kind.FieldT c) its in (
            ap (λ (b : Bool). stands_twice (if◌then◌else◌ {A = List Identifier} b (names f c) [])) e ∙ both.0,
            ap (λ (b : Bool). some_before (flat_map picked (before_in (children f n) c)) (if◌then◌else◌ {A = List Identifier} b (names f c) [])) e
                ∙ ap (λ (xs : List Identifier). some_before xs (names f c)) (sym (names_picked (before_in (children f n) c)))
                ∙ ap (λ (o : Option ℕ). some_before (names_before f kind.FieldT (before_in (children_at f o) c)) (names f c)) (sym above)
                ∙ both.1,
          )
      by false e = (
        ap (λ (b : Bool). stands_twice (if◌then◌else◌ {A = List Identifier} b (names f c) [])) e,
        ap (λ (b : Bool). some_before (flat_map picked (before_in (children f n) c)) (if◌then◌else◌ {A = List Identifier} b (names f c) [])) e,
      )

  none_there : (c : ℕ) → is_no_type_at f c ≡ false → v17 f c ≡ false
  none_there c fine = by (v17 f c) refl
    where
      by : (b : Bool) → v17 f c ≡ b → v17 f c ≡ false
      by true hit = absurd (true≢false (sym (refused_by f of c 6 rule.Selectors refl hit) ∙ fine))
      by false miss = miss

  fields_picked : (n : ℕ) → ((c : ℕ) → has c (children f n) ≡ true → is_no_type_at f c ≡ false) → stands_twice (flat_map picked (children f n)) ≡ false
  fields_picked n fine = stand_once picked (children f n) (parents.once n) (λ c h. fresh_at n c (parents.above n c h) (none_there c (fine c h)))

  -- ---- where what equates stand for is so

  module _ (unfolded : Constant → Value) (known : (right : ℕ) → right < length f.nodes → is_constant f.nodes right ≡ true → IsFine right → IsNoCvt right → ValueOnce (unfolded (item_at f.nodes right).constant)) where
    selected_is : (n c : ℕ) → IsPart nodes (is_of kind.FieldT) n c → selected f.scope unfolded (before n (item_at nodes)) c ≡ picked c
    selected_is n c p =
        let x : There nodes c kind.FieldT = there nodes c kind.FieldT refl (same_kind kind.FieldT (kind_at nodes c) p.1) in
        ap (λ (i : Item). i.selector.names) (before_is nodes n c p.0)
        ∙ ap (λ (i : Item). i.selector.names) (item_there nodes c x.node x.at)
        ∙ ap (λ (k : NodeKind). (selector_of (before c (item_at nodes)) nodes c x.node k).names) x.is
        ∙ ap (node_names f) (sym x.at)
        ∙ sym (ap (λ (b : Bool). if◌then◌else◌ {A = List Identifier} b (names f c) []) p.1)

    all_selected : (n : ℕ) (cs : List ℕ) → AreParts nodes (is_of kind.FieldT) n cs → flat_map (selected f.scope unfolded (before n (item_at nodes))) cs ≡ flat_map picked cs
    all_selected n [] ps = refl
    all_selected n (c ∷ cs) ps = ap₂ (λ (a b : List Identifier). a ++ b) (selected_is n c ps.0) (all_selected n cs ps.1)

    -- ---- names

    by_meaning : (n : ℕ) → n < length nodes → is_no_type_at f n ≡ false → (name : Identifier) (given : Actuals) (m : Meaning) → meaning_in (slice_get (meanings f of) n) ≡ m → (x : means.Meaning) → Means nodes m x → ValueOnce (value_of_meaning f.scope unfolded name given x)
    by_meaning n inside here name given (meaning.Equate right) e x told =
        subst (λ (x : means.Meaning). ValueOnce (value_of_meaning f.scope unfolded name given x)) (sym told.2) (known right told.0 told.1 (side_fine n right inside here e) (side_plain n right inside e (side_fine n right inside here e)))
    by_meaning n inside here name given (meaning.TypeParameter k) e x told = subst (λ (x : means.Meaning). ValueOnce (value_of_meaning f.scope unfolded name given x)) (sym told) refl
    by_meaning n inside here name given (meaning.ConstantParameter k) e x told = subst (λ (x : means.Meaning). ValueOnce (value_of_meaning f.scope unfolded name given x)) (sym told) tt
    by_meaning n inside here name given meaning.Module e x told = subst (λ (x : means.Meaning). ValueOnce (value_of_meaning f.scope unfolded name given x)) (sym told) (of_module name given)
    by_meaning n inside here name given meaning.Other e x told = other_once f.scope unfolded name given x told

    -- of a node that may stand for something else
    named_once : (n : ℕ) (node : Node) → slice_get nodes n ≡ Some node → may_name (slice_get nodes n) ≡ true → is_no_type_at f n ≡ false → (name : Identifier) → name_at nodes n ≡ name → (given : Actuals) → ValueOnce (value_of_name f.scope unfolded n name given)
    named_once n node at may here name called given =
        by_meaning n (slice_get_within nodes n node at) here name given (meaning_in (slice_get (meanings f of) n)) refl (meaning_of f.scope n name)
        (subst (λ (name : Identifier). Means nodes (meaning_in (slice_get (meanings f of) n)) (meaning_of f.scope n name)) called (meant_so.each n may))

    module _ (n : ℕ) (node : Node) (at : slice_get nodes n ≡ Some node) (fine : IsFine n) where
      abbrev items : ℕ → Item
      items = before n (item_at nodes)

      may_here : (k : NodeKind) → node.kind ≡ k → may_name (slice_get nodes n) ≡ may_stand k node.value
      may_here k is = ap may_name at ∙ ap (λ (k : NodeKind). may_stand k node.value) is

      called_here : (k : NodeKind) → node.kind ≡ k → name_at nodes n ≡ name_in k (Some node)
      called_here k is = ap (λ (o : Option Node). name_in (kind_of o) o) at ∙ ap (λ (k : NodeKind). name_in k (Some node)) is

      here : is_no_type_at f n ≡ false
      here = itself n node at fine

      -- ---- types

      word_once : node.kind ≡ kind.Simple → (w : SimpleType) → words.simple_type (symbol_in node.value) ≡ w → (w ≡ simple.Cvt → ⊥) → IsOnce (settling.simple_type f.scope unfolded n w)
      word_once is simple.Rep e apart =
          in_value (value_of_name f.scope unfolded n (codes "rep") no_actuals)
          (named_once n node at (may_here kind.Simple is ∙ ap is_rep e) here (codes "rep") (called_here kind.Simple is) no_actuals)
      word_once is simple.Cvt e apart = absurd (apart refl)
      word_once is _ e apart = refl

      fields_once : node.kind ≡ kind.FieldsT → stands_twice (names_in (fields_of f.scope unfolded (selectors_at items (run nodes kind.FieldT node.children)))) ≡ false
      fields_once is =
          let ps : AreParts nodes (is_of kind.FieldT) n node.children = all_parts nodes of.tree of.shaped (is_of kind.FieldT) n node at (ap slots is) in
          let whole : run nodes kind.FieldT node.children ≡ node.children = whole_run nodes kind.FieldT n node.children ps in
          let its : children f n ≡ node.children = ap (node_children f) at in
          selected_once f.scope unfolded items (run nodes kind.FieldT node.children)
          (ap (λ (cs : List ℕ). stands_twice (flat_map (selected f.scope unfolded items) cs)) whole
          ∙ ap stands_twice (all_selected n node.children ps)
          ∙ ap (λ (cs : List ℕ). stands_twice (flat_map picked cs)) (sym its)
          ∙ fields_picked n (λ c h. child_itself c (subst (IsIn c) its (is_in c (children f n) h))))
        where
          child_itself : (c : ℕ) → IsIn c node.children → is_no_type_at f c ≡ false
          child_itself c i = let b : IsBelow f of n c = child_below f of n node at c i in let less : c < n = b.less in fine c b.least (omega (arith, less))

      routine_once : (args rest : List ℕ) → IsOnce (type_of f.scope unfolded (routine_type_of items nodes n node args rest))
      routine_once args rest =
          of_routine (words.routine_kind (symbol_in node.value)) (types_of f.scope unfolded (types_at items args)) (types_of f.scope unfolded (types_at items (parts nodes kind.Results rest)))
          (signals_of f.scope unfolded (exceptions_at items (run nodes kind.Exc (parts nodes kind.Signals (after_one nodes kind.Results rest)))))

      type_by : (k : NodeKind) → node.kind ≡ k → is_type k ≡ true → (k ≡ kind.Simple → words.simple_type (symbol_in node.value) ≡ simple.Cvt → ⊥) → IsOnce (type_of f.scope unfolded (type_expression_of items nodes n node k))
      type_by kind.Simple is e apart = word_once is (words.simple_type (symbol_in node.value)) refl (apart refl)
      type_by kind.ListT is e apart = of_list (words.list_type (symbol_in node.value)) (type_of f.scope unfolded (items (child 0 node)).type)
      type_by kind.FieldsT is e apart = of_fields (words.fields_type (symbol_in node.value)) (fields_of f.scope unfolded (selectors_at items (run nodes kind.FieldT node.children))) ∙ fields_once is
      type_by kind.RoutineT is e apart = routine_once (take (leading_types nodes node.children) node.children) (drop (leading_types nodes node.children) node.children)
      type_by kind.NameT is e apart =
          in_value (value_of_name f.scope unfolded n (first_name node.names) (actuals f.scope unfolded (constants_at items node.children)))
          (named_once n node at (may_here kind.NameT is) here (first_name node.names) (called_here kind.NameT is) (actuals f.scope unfolded (constants_at items node.children)))
      type_by _ is e apart = absurd (true≢false (sym e))

    -- ---- expressions before a number

    abbrev AreOnce : ℕ → Type 0
    AreOnce b = (n : ℕ) → n < b → (node : Node) → slice_get nodes n ≡ Some node → IsFine n → is_expression node.kind ≡ true → ValueOnce (value_of_expression f.scope unfolded (item_at nodes n).expression)

    module _ (b n : ℕ) (had : AreOnce b) (less : n ≤ b) (node : Node) (at : slice_get nodes n ≡ Some node) (fine : IsFine n) where
      abbrev parts_before : ℕ → Item
      parts_before = before n (item_at nodes)

      abbrev Once : Expression → Type 0
      Once e = ValueOnce (value_of_expression f.scope unfolded e)

      -- the expression that stands first
      first_once : (c : ℕ) → IsPart nodes is_expression n c → IsIn c node.children → Once (parts_before c).expression
      first_once c part i = by (slice_get nodes c) refl
        where
          before_n : c < n
          before_n = part.0

          by : (o : Option Node) → slice_get nodes c ≡ o → Once (parts_before c).expression
          by None here = absurd (true≢false (sym part.1 ∙ ap (λ (o : Option Node). is_expression (kind_of o)) here))
          by (Some its) here =
              subst (λ (i : Item). Once i.expression) (sym (before_is nodes n c part.0))
              (had c (omega (arith, before_n, less)) its here (child_fine n node at fine c i) (sym (ap (λ (o : Option Node). is_expression (kind_of o)) here) ∙ part.1))

      index_once : (c : ℕ) → IsPart nodes is_expression n c → IsIn c node.children → (cs : Constants) → Once (an_index n (parts_before c).expression cs)
      index_once c part i cs = by (slice_get nodes c) refl
        where
          of_kind : (its : Node) → slice_get nodes c ≡ Some its → (b : Bool) → is_of kind.Name its.kind ≡ b → Once (an_index n (expression_of (before c (item_at nodes)) nodes c its its.kind) cs)
          of_kind its here true hit =
              let is : its.kind ≡ kind.Name = same_kind kind.Name its.kind hit in
              subst (λ (k : NodeKind). Once (an_index n (expression_of (before c (item_at nodes)) nodes c its k) cs)) (sym is)
              (of_brackets (value_of_name f.scope unfolded c (first_name its.names) (actuals f.scope unfolded cs))
              (named_once c its here (ap may_name here ∙ ap (λ (k : NodeKind). may_stand k its.value) is) (itself c its here (child_fine n node at fine c i)) (first_name its.names)
              (ap (λ (o : Option Node). name_in (kind_of o) o) here ∙ ap (λ (k : NodeKind). name_in k (Some its)) is) (actuals f.scope unfolded cs)))
          of_kind its here false other =
              subst ValueOnce
              (sym (no_name_index f.scope unfolded n (expression_of (before c (item_at nodes)) nodes c its its.kind) cs (no_name (before c (item_at nodes)) nodes c its its.kind (sym (ap (λ (o : Option Node). is_expression (kind_of o)) here) ∙ part.1) other)))
              tt

          by : (o : Option Node) → slice_get nodes c ≡ o → Once (an_index n (parts_before c).expression cs)
          by None here = absurd (true≢false (sym part.1 ∙ ap (λ (o : Option Node). is_expression (kind_of o)) here))
          by (Some its) here =
              subst (λ (i : Item). Once (an_index n i.expression cs)) (sym (before_is nodes n c part.0 ∙ item_there nodes c its here))
              (of_kind its here (is_of kind.Name its.kind) refl)

      expression_by : (k : NodeKind) → node.kind ≡ k → is_expression k ≡ true → Once (expression_of parts_before nodes n node k)
      expression_by kind.Infix is e =
          of_infix (infix_operator (symbol_in node.value)) (constant_in (value_of_expression f.scope unfolded (parts_before (child 0 node)).expression)) (constant_in (value_of_expression f.scope unfolded (parts_before (child 1 node)).expression))
      expression_by kind.Prefix is e = of_constant (option_and_then (prefixed (sign (symbol_in node.value))) (constant_in (value_of_expression f.scope unfolded (parts_before (child 0 node)).expression)))
      expression_by kind.Paren is e =
          let first = first_part nodes of.tree of.shaped is_expression [] n node at (ap slots is) in
          first_once (child 0 node) first.first (subst (IsIn (child 0 node)) (sym first.is) (inl refl))
      expression_by kind.Literal is e = of_constant (denoted (literal_of node.value))
      expression_by kind.Name is e = named_once n node at (may_here n node at fine kind.Name is) (itself n node at fine) (first_name node.names) (called_here n node at fine kind.Name is) no_actuals
      expression_by kind.Index is e =
          let first = first_part nodes of.tree of.shaped is_expression (any is_constant_kind ∷ []) n node at (ap slots is) in
          index_once (child 0 node) first.first (subst (IsIn (child 0 node)) (sym first.is) (inl refl)) (constants_at parts_before (drop 1 node.children))
      expression_by kind.Get is e = tt
      expression_by kind.Call is e = tt
      expression_by kind.Fields is e = tt
      expression_by kind.Elems is e = elements_once f.scope unfolded parts_before nodes n (parts_before (child 0 node)).type node.value_token (drop 1 node.children)
      expression_by kind.OperOf is e = tt
      expression_by kind.Force is e = tt
      expression_by kind.Up is e = tt
      expression_by kind.Down is e = tt
      expression_by _ is e = absurd (true≢false (sym e))

      expression_once : is_expression node.kind ≡ true → Once (item_at nodes n).expression
      expression_once e = subst (λ (i : Item). Once i.expression) (sym (item_there nodes n node at)) (expression_by node.kind refl e)

    all_once : (b : ℕ) → AreOnce b
    all_once zero n less node at fine e = absurd (omega (arith, less))
    all_once (suc b) n less node at fine e = expression_once b n (all_once b) (omega (arith, less)) node at fine e

    -- ---- types and constants

    type_at_once : (n : ℕ) (node : Node) → slice_get nodes n ≡ Some node → is_type (kind_at nodes n) ≡ true → IsFine n → IsNoCvt n → IsOnce (type_of f.scope unfolded (item_at nodes n).type)
    type_at_once n node at typed fine apart =
        subst (λ (i : Item). IsOnce (type_of f.scope unfolded i.type)) (sym (item_there nodes n node at))
        (type_by n node at fine node.kind refl (sym (ap (λ (o : Option Node). is_type (kind_of o)) at) ∙ typed) (apart node at))

    constant_once : (n : ℕ) → n < length nodes → is_constant nodes n ≡ true → IsFine n → IsNoCvt n → ValueOnce (value_of_constant f.scope unfolded (item_at nodes n).constant)
    constant_once n inside const fine apart = here_by (node_at nodes n inside) (is_type (kind_at nodes n)) refl
      where
        or_none : (b : Bool) → (b || false) ≡ b
        or_none true = refl
        or_none false = refl

        here_by : IsThere nodes n → (b : Bool) → is_type (kind_at nodes n) ≡ b → ValueOnce (value_of_constant f.scope unfolded (item_at nodes n).constant)
        here_by x true is = subst (λ (c : Constant). ValueOnce (value_of_constant f.scope unfolded c)) (sym (constant_is nodes n true is)) (type_at_once n x.node x.at is fine apart)
        here_by x false is =
            let expression : is_expression (kind_at nodes n) ≡ true = sym (or_none (is_expression (kind_at nodes n))) ∙ sym (ap (λ (b : Bool). is_expression (kind_at nodes n) || b) is) ∙ const in
            subst (λ (c : Constant). ValueOnce (value_of_constant f.scope unfolded c)) (sym (constant_is nodes n false is))
            (all_once (suc n) n (omega arith) x.node x.at fine (sym (ap (λ (o : Option Node). is_expression (kind_of o)) x.at) ∙ expression))

  -- ---- after any number of steps

  steps_once : (steps right : ℕ) → right < length nodes → is_constant nodes right ≡ true → IsFine right → IsNoCvt right → ValueOnce (unfolded_to f.scope steps (item_at nodes right).constant)
  unfolding unfolded_to
  steps_once zero right inside const fine apart = tt
  steps_once (suc steps) right inside const fine apart = constant_once (unfolded_to f.scope steps) (steps_once steps) right inside const fine apart

  pub type_settled_once : (n : ℕ) (node : Node) → slice_get nodes n ≡ Some node → is_type (kind_at nodes n) ≡ true → IsFine n → IsNoCvt n → IsOnce (type_settled f.scope (item f n).type)
  type_settled_once n node at typed fine apart = type_at_once (settled f.scope) (steps_once (length f.scope.declarations)) n node at typed fine apart
