-- The value of a node by what is known of those from which it is made, for each form of a type or an expression.
use Rattle.std.proofs.Common.{◌≡◌, ◌∙◌, ℕ, true, false, List, [], ◌∷◌, drop, Option, Some, refl, ap, sym, subst}
use Rattle.std.specs.Prelude.{slice_get, codes}
use Rattle.std.specs.Option.{option_and_then}
use Rattle.clu_base.specs.declared.constants.Const.{Const}
use Rattle.clu_tree.specs.declared.node.Node.{Node}
use Rattle.clu_tree.specs.declared.node.NodeKind.{NodeKind}
use Rattle.clu_tree.specs.declared.node.NodeKind.TheVariants as kind
use Rattle.clu_tree.specs.Nodes.{IsTree}
use Rattle.clu_parser.specs.Shape.{HaveForms}
use Rattle.clu_types.specs.CluType.{CluType, CluTypes, Fields, Signals, Actuals, no_actuals}
use Rattle.clu_syntax.specs.declared.words.Operator.{Operator}
use Rattle.clu_syntax.specs.declared.words.Sign.{Sign}
use Rattle.clu_syntax.specs.declared.words.SimpleType.{SimpleType}
use Rattle.clu_syntax.specs.declared.words.SimpleType.TheVariants as simple
use Rattle.clu_syntax.specs.declared.words.ListType.{ListType}
use Rattle.clu_syntax.specs.declared.words.FieldsType.{FieldsType}
use Rattle.clu_syntax.specs.declared.words.RoutineKind.{RoutineKind}
use Rattle.clu_syntax.specs.Kinds.{is_expression, is_type, kind_of, kind_at}
use Rattle.clu_syntax.specs.Slots.{slots, one, any}
use Rattle.clu_syntax.specs.Slots.{is_constant as is_constant_kind}
use Rattle.clu_syntax.specs.Splits.{child, first_name, leading_types, parts, after_one, is_of}
use Rattle.clu_syntax.specs.Syntax.{Identifier, Literal, Constant, Constants, Expression, a_name, an_infix, a_prefix, a_paren, a_literal, an_index, TypeExpression, a_simple_type, a_list_type, a_fields_type, a_routine_type, a_named_type}
use Rattle.clu_syntax.specs.Items.{Item, types_at, selectors_at, exceptions_at, constants_at}
use Rattle.clu_syntax.specs.Nodes.{before, item_with, item_at, expression_of, type_expression_of}
use Rattle.clu_syntax.proofs.Items.{item_is}
use Rattle.clu_meaning.specs.Constants.{denoted, prefixed}
use Rattle.clu_meaning.specs.Scoping as means
use Rattle.clu_meaning.specs.Scoping.{Scope, meaning_of}
use Rattle.clu_meaning.specs.Settling.{Value as Settled, settled_type, constant_in, constant_value, infix_value, type_in, list_type, fields_type, routine_type, simple_type, with_brackets, value_of_meaning, value_of_name, value_of_constant, value_of_expression, type_of, types_of, fields_of, signals_of, actuals}
use Rattle.clu_settle.specs.declared.value.Value.{Value}
use Rattle.clu_settle.specs.declared.meanings.Meaning.{Meaning}
use Rattle.clu_settle.specs.declared.meanings.Meaning.TheVariants as meaning
use Rattle.clu_settle.specs.Values.{told, Agrees}
use Rattle.clu_settle.specs.Lists.{value_of}
use Rattle.clu_settle.specs.Names.{is_rep, may_stand, may_name, meaning_in, name_at, name_in, names_of, Means}
use Rattle.clu_settle.specs.Agreeing.{TypesAgree, SelectorsAgree, SignalsAgree, ActualsAgree, no_more_actuals, MeaningAgrees}
use Rattle.clu_settle.specs.Known.{AreKnown}
use Rattle.clu_settle.specs.Indexed.{indexed}
use Rattle.clu_settle.proofs.Shapes.{IsPart, AreParts, AreBefore, first_part, second_part, any_fits, all_parts, run_parts, types_leading, parts_of_first, children_before, all_before, before_dropped, before_after_one}
use Rattle.clu_settle.proofs.Parts.{before_is, no_type_kind, constant_is, type_part, expression_part, types_part, constants_part, selectors_part, exceptions_part}
use Rattle.clu_settle.proofs.Labels.{label, of_word, of_list, of_fields, of_routine, of_named, of_infix, of_prefix, of_paren, of_index, of_name, behind_arguments, exceptions_in}

indexed_so : (scope : Scope) (unfolded : Constant → Settled) (n : ℕ) (e : Expression) (cs : Constants) → value_of_expression scope unfolded (an_index n e cs) ≡ indexed scope unfolded e (actuals scope unfolded cs)
indexed_so scope unfolded n (a_name m name) cs = refl
indexed_so scope unfolded n _ cs = refl

module _ (nodes : List Node) (scope : Scope) (meanings : List Meaning) (types : List CluType) (constants : List Const) (values : List Value) (unfolded : Constant → Settled) (known : AreKnown nodes scope meanings types constants values unfolded) where
  -- what the name of a node means
  meaning_by : (n : ℕ) (name : Identifier) (x : Meaning) → Means nodes x (meaning_of scope n name) → MeaningAgrees types constants values unfolded x (meaning_of scope n name)
  meaning_by n name (meaning.Equate right) h = ((item_at nodes right).constant, h.2, known.rights n right name h)
  meaning_by n name (meaning.TypeParameter k) h = h
  meaning_by n name (meaning.ConstantParameter k) h = h
  meaning_by n name meaning.Module h = h
  meaning_by n name meaning.Other h = h

  pub meaning_agrees : (n : ℕ) (name : Identifier) → may_name (slice_get nodes n) ≡ true → name_at nodes n ≡ name → MeaningAgrees types constants values unfolded (meaning_in (slice_get meanings n)) (meaning_of scope n name)
  meaning_agrees n name may is =
      subst (λ (name : Identifier). MeaningAgrees types constants values unfolded (meaning_in (slice_get meanings n)) (meaning_of scope n name)) is
      (meaning_by n (name_at nodes n) (meaning_in (slice_get meanings n)) (known.meant.each n may))

  -- ---- a constant is the type or the expression there

  pub type_known : (n : ℕ) (o : Option Settled) → is_type (kind_at nodes n) ≡ true → Agrees o (settled_type (type_of scope unfolded (item_at nodes n).type)) → Agrees o (value_of_constant scope unfolded (item_at nodes n).constant)
  type_known n o is a = subst (λ (k : Constant). Agrees o (value_of_constant scope unfolded k)) (sym (constant_is nodes n true is)) a

  pub expression_known : (n : ℕ) (o : Option Settled) → is_expression (kind_at nodes n) ≡ true → Agrees o (value_of_expression scope unfolded (item_at nodes n).expression) → Agrees o (value_of_constant scope unfolded (item_at nodes n).constant)
  expression_known n o is a = subst (λ (k : Constant). Agrees o (value_of_constant scope unfolded k)) (sym (constant_is nodes n false (no_type_kind (kind_at nodes n) is))) a

  module _ (tree : IsTree nodes) (shaped : HaveForms nodes) (n : ℕ) (node : Node) (at : slice_get nodes n ≡ Some node) where
    abbrev items : ℕ → Item
    items = before n (item_at nodes)

    -- what a view tells of the node, for every reading of those before it
    abbrev pub IsType : ((ℕ → Item) → TypeExpression) → Type 0
    IsType view = (items : ℕ → Item) → view items ≡ (item_with items nodes n (slice_get nodes n)).type

    abbrev pub IsExpression : ((ℕ → Item) → Expression) → Type 0
    IsExpression view = (items : ℕ → Item) → view items ≡ (item_with items nodes n (slice_get nodes n)).expression

    its_type : (view : (ℕ → Item) → TypeExpression) → IsType view → view items ≡ (item_at nodes n).type
    its_type view is = is items ∙ ap (λ (i : Item). i.type) (sym (item_is nodes n))

    labelled_type : (view : (ℕ → Item) → TypeExpression) → IsType view → view label ≡ type_expression_of label nodes n node node.kind
    labelled_type view is = is label ∙ ap (λ (its : Option Node). (item_with label nodes n its).type) at

    its_expression : (view : (ℕ → Item) → Expression) → IsExpression view → view items ≡ (item_at nodes n).expression
    its_expression view is = is items ∙ ap (λ (i : Item). i.expression) (sym (item_is nodes n))

    labelled_expression : (view : (ℕ → Item) → Expression) → IsExpression view → view label ≡ expression_of label nodes n node node.kind
    labelled_expression view is = is label ∙ ap (λ (its : Option Node). (item_with label nodes n its).expression) at

    as_type : (o : Option Settled) (view : (ℕ → Item) → TypeExpression) → IsType view → Agrees o (settled_type (type_of scope unfolded (view items))) → Agrees o (settled_type (type_of scope unfolded (item_at nodes n).type))
    as_type o view is a = subst (λ (x : TypeExpression). Agrees o (settled_type (type_of scope unfolded x))) (its_type view is) a

    as_expression : (o : Option Settled) (view : (ℕ → Item) → Expression) → IsExpression view → Agrees o (value_of_expression scope unfolded (view items)) → Agrees o (value_of_expression scope unfolded (item_at nodes n).expression)
    as_expression o view is a = subst (λ (x : Expression). Agrees o (value_of_expression scope unfolded x)) (its_expression view is) a

    kind_here : (k : NodeKind) → node.kind ≡ k → kind_at nodes n ≡ k
    kind_here k e = ap kind_of at ∙ e

    may_here : (k : NodeKind) → node.kind ≡ k → may_name (slice_get nodes n) ≡ may_stand k node.value
    may_here k e = ap may_name at ∙ ap (λ (x : NodeKind). may_stand x node.value) e

    named_here : (k : NodeKind) → node.kind ≡ k → name_in k (slice_get nodes n) ≡ first_name node.names → name_at nodes n ≡ first_name node.names
    named_here k e is = ap (λ (x : NodeKind). name_in x (slice_get nodes n)) (kind_here k e) ∙ is

    names_here : first_name (names_of (slice_get nodes n)) ≡ first_name node.names
    names_here = ap (λ (its : Option Node). first_name (names_of its)) at

    here : AreBefore n node.children
    here = children_before nodes tree shaped n node at

    expression_at : (c : ℕ) → IsPart nodes is_expression n c → Agrees (told types constants (value_of values c)) (value_of_expression scope unfolded (items c).expression)
    expression_at c p = expression_part nodes scope meanings types constants values unfolded known n c p

    -- ---- types

    pub word_known : (w : SimpleType) (o : Option Settled) → is_type (kind_at nodes n) ≡ true → IsType (λ items. a_simple_type n w) →
        ((w ≡ simple.Rep → MeaningAgrees types constants values unfolded (meaning_in (slice_get meanings n)) (meaning_of scope n (codes "rep"))) → Agrees o (settled_type (simple_type scope unfolded n w))) →
        Agrees o (settled_type (type_of scope unfolded (item_at nodes n).type))
    word_known w o type_here is p =
        let kind_is : is_type node.kind ≡ true = ap is_type (sym (ap kind_of at)) ∙ type_here in
        let word = of_word nodes n node node.kind w kind_is (labelled_type (λ items. a_simple_type n w) is) in
        let called : name_at nodes n ≡ codes "rep" = ap (λ (x : NodeKind). name_in x (slice_get nodes n)) (kind_here kind.Simple word.0) in
        let may : w ≡ simple.Rep → may_name (slice_get nodes n) ≡ true = λ rep. may_here kind.Simple word.0 ∙ ap is_rep (sym word.1 ∙ rep) in
        as_type o (λ items. a_simple_type n w) is (p (λ rep. meaning_agrees n (codes "rep") (may rep) called))

    pub list_known : (w : ListType) (of : ℕ) (o : Option Settled) → IsType (λ items. a_list_type n w (items of).type) →
        ((u : CluType) → Agrees (told types constants (value_of values of)) (settled_type u) → Agrees o (settled_type (list_type w u))) →
        Agrees o (settled_type (type_of scope unfolded (item_at nodes n).type))
    list_known w of o is p =
        let named = of_list nodes n node node.kind w of (labelled_type (λ items. a_list_type n w (items of).type) is) in
        let f = first_part nodes tree shaped is_type [] n node at (ap slots named.0) in
        as_type o (λ items. a_list_type n w (items of).type) is
        (p (type_of scope unfolded (items of).type) (type_part nodes scope meanings types constants values unfolded known n of (subst (IsPart nodes is_type n) (sym named.1) f.first)))

    pub fields_known : (w : FieldsType) (cs : List ℕ) (o : Option Settled) → IsType (λ items. a_fields_type n w (selectors_at items cs)) →
        ((fs : Fields) → SelectorsAgree types constants values nodes cs fs → Agrees o (settled_type (fields_type w fs))) →
        Agrees o (settled_type (type_of scope unfolded (item_at nodes n).type))
    fields_known w cs o is p =
        let named = of_fields nodes n node node.kind w cs (labelled_type (λ items. a_fields_type n w (selectors_at items cs)) is) in
        as_type o (λ items. a_fields_type n w (selectors_at items cs)) is
        (p (fields_of scope unfolded (selectors_at items cs)) (selectors_part nodes scope meanings types constants values unfolded known tree shaped n cs
        (subst (AreParts nodes (is_of kind.FieldT) n) (sym named.1) (run_parts nodes kind.FieldT n node.children here))))

    behind_here : AreBefore n (behind_arguments nodes n node)
    behind_here = before_dropped nodes n (leading_types nodes node.children) node.children here

    pub routine_known : (w : RoutineKind) (ps rs es : List ℕ) (o : Option Settled) → IsType (λ items. a_routine_type n w (types_at items ps) (types_at items rs) (exceptions_at items es)) →
        ((args given : CluTypes) (ss : Signals) → TypesAgree types constants values ps args → TypesAgree types constants values rs given → SignalsAgree types constants values nodes es ss → Agrees o (settled_type (routine_type w args given ss))) →
        Agrees o (settled_type (type_of scope unfolded (item_at nodes n).type))
    routine_known w ps rs es o is p =
        let named = of_routine nodes n node node.kind w ps rs es (labelled_type (λ items. a_routine_type n w (types_at items ps) (types_at items rs) (exceptions_at items es)) is) in
        let args = subst (AreParts nodes is_type n) (sym named.1) (types_leading nodes n node.children here) in
        let given = subst (AreParts nodes is_type n) (sym named.2) (parts_of_first nodes tree shaped kind.Results is_type refl n (behind_arguments nodes n node) behind_here) in
        let raised = subst (AreParts nodes (is_of kind.Exc) n) (sym named.3) (parts_of_first_run es) in
        as_type o (λ items. a_routine_type n w (types_at items ps) (types_at items rs) (exceptions_at items es)) is
        (p (types_of scope unfolded (types_at items ps)) (types_of scope unfolded (types_at items rs)) (signals_of scope unfolded (exceptions_at items es))
        (types_part nodes scope meanings types constants values unfolded known n ps args)
        (types_part nodes scope meanings types constants values unfolded known n rs given)
        (exceptions_part nodes scope meanings types constants values unfolded known tree shaped n es raised))
      where
        parts_of_first_run : (es : List ℕ) → AreParts nodes (is_of kind.Exc) n (exceptions_in nodes n node)
        parts_of_first_run es = run_parts nodes kind.Exc n (parts nodes kind.Signals (after_one nodes kind.Results (behind_arguments nodes n node)))
            (all_before nodes (is_of kind.Exc) n (parts nodes kind.Signals (after_one nodes kind.Results (behind_arguments nodes n node))) (parts_of_first nodes tree shaped kind.Signals (is_of kind.Exc) refl n (after_one nodes kind.Results (behind_arguments nodes n node)) (before_after_one nodes kind.Results n (behind_arguments nodes n node) behind_here)))

    pub named_known : (name : Identifier) (cs : List ℕ) (o : Option Settled) → IsType (λ items. a_named_type n name (constants_at items cs)) →
        ((m : means.Meaning) (gs : Actuals) → MeaningAgrees types constants values unfolded (meaning_in (slice_get meanings n)) m → ActualsAgree types constants values cs gs → Agrees o (settled_type (type_in (value_of_meaning scope unfolded name gs m)))) →
        Agrees o (settled_type (type_of scope unfolded (item_at nodes n).type))
    named_known name cs o is p =
        let named = of_named nodes n node node.kind name cs (labelled_type (λ items. a_named_type n name (constants_at items cs)) is) in
        let may : may_name (slice_get nodes n) ≡ true = may_here kind.NameT named.0 in
        let called : name_at nodes n ≡ name = named_here kind.NameT named.0 names_here ∙ sym named.1 in
        as_type o (λ items. a_named_type n name (constants_at items cs)) is
        (p (meaning_of scope n name) (actuals scope unfolded (constants_at items cs)) (meaning_agrees n name may called)
        (constants_part nodes scope meanings types constants values unfolded known n cs (subst (AreParts nodes is_constant_kind n) (sym named.2) (all_parts nodes tree shaped is_constant_kind n node at (ap slots named.0)))))

    -- ---- expressions

    pub infix_known : (p : Operator) (a b : ℕ) (o : Option Settled) → IsExpression (λ items. an_infix n p (items a).expression (items b).expression) →
        ((s u : Settled) → Agrees (told types constants (value_of values a)) s → Agrees (told types constants (value_of values b)) u → Agrees o (infix_value p (constant_in s) (constant_in u))) →
        Agrees o (value_of_expression scope unfolded (item_at nodes n).expression)
    infix_known p a b o is h =
        let named = of_infix nodes n node node.kind p a b (labelled_expression (λ items. an_infix n p (items a).expression (items b).expression) is) in
        let f = first_part nodes tree shaped is_expression (one is_expression ∷ []) n node at (ap slots named.0) in
        let second = second_part nodes tree shaped is_expression [] n node (child 0 node) f.is f.rest f.before in
        as_expression o (λ items. an_infix n p (items a).expression (items b).expression) is
        (h (value_of_expression scope unfolded (items a).expression) (value_of_expression scope unfolded (items b).expression)
        (expression_at a (subst (IsPart nodes is_expression n) (sym named.1) f.first))
        (expression_at b (subst (IsPart nodes is_expression n) (sym named.2) second)))

    pub prefix_known : (p : Sign) (a : ℕ) (o : Option Settled) → IsExpression (λ items. a_prefix n p (items a).expression) →
        ((s : Settled) → Agrees (told types constants (value_of values a)) s → Agrees o (constant_value (option_and_then (prefixed p) (constant_in s)))) →
        Agrees o (value_of_expression scope unfolded (item_at nodes n).expression)
    prefix_known p a o is h =
        let named = of_prefix nodes n node node.kind p a (labelled_expression (λ items. a_prefix n p (items a).expression) is) in
        let f = first_part nodes tree shaped is_expression [] n node at (ap slots named.0) in
        as_expression o (λ items. a_prefix n p (items a).expression) is
        (h (value_of_expression scope unfolded (items a).expression) (expression_at a (subst (IsPart nodes is_expression n) (sym named.1) f.first)))

    pub paren_known : (a : ℕ) → IsExpression (λ items. a_paren n (items a).expression) →
        Agrees (told types constants (value_of values a)) (value_of_expression scope unfolded (item_at nodes n).expression)
    paren_known a is =
        let named = of_paren nodes n node node.kind a (labelled_expression (λ items. a_paren n (items a).expression) is) in
        let f = first_part nodes tree shaped is_expression [] n node at (ap slots named.0) in
        as_expression (told types constants (value_of values a)) (λ items. a_paren n (items a).expression) is
        (expression_at a (subst (IsPart nodes is_expression n) (sym named.1) f.first))

    pub literal_known : (literal : Literal) (o : Option Settled) → IsExpression (λ items. a_literal n literal) →
        Agrees o (constant_value (denoted literal)) → Agrees o (value_of_expression scope unfolded (item_at nodes n).expression)
    literal_known literal o is a = as_expression o (λ items. a_literal n literal) is a

    -- a name, with actual parameters
    name_value : (name : Identifier) → is_expression (kind_at nodes n) ≡ true → IsExpression (λ items. a_name n name) → (o : Option Settled) (cs : List ℕ) (gs : Actuals) → ActualsAgree types constants values cs gs →
        ((m : means.Meaning) (gs : Actuals) → MeaningAgrees types constants values unfolded (meaning_in (slice_get meanings n)) m → ActualsAgree types constants values cs gs → Agrees o (value_of_meaning scope unfolded name gs m)) →
        Agrees o (value_of_name scope unfolded n name gs)
    name_value name expression is o cs gs given p =
        let kind_is : is_expression node.kind ≡ true = ap is_expression (sym (ap kind_of at)) ∙ expression in
        let named = of_name nodes n node node.kind name kind_is (labelled_expression (λ items. a_name n name) is) in
        let may : may_name (slice_get nodes n) ≡ true = may_here kind.Name named.0 in
        let called : name_at nodes n ≡ name = named_here kind.Name named.0 names_here ∙ sym named.1 in
        p (meaning_of scope n name) gs (meaning_agrees n name may called) given

    pub name_known : (name : Identifier) (o : Option Settled) → is_expression (kind_at nodes n) ≡ true → IsExpression (λ items. a_name n name) →
        ((m : means.Meaning) (gs : Actuals) → MeaningAgrees types constants values unfolded (meaning_in (slice_get meanings n)) m → ActualsAgree types constants values [] gs → Agrees o (value_of_meaning scope unfolded name gs m)) →
        Agrees o (value_of_expression scope unfolded (item_at nodes n).expression)
    name_known name o expression is p = as_expression o (λ items. a_name n name) is (name_value name expression is o [] no_actuals no_more_actuals p)

    pub index_known : (a : ℕ) (cs : List ℕ) (o : Option Settled) → IsExpression (λ items. an_index n (items a).expression (constants_at items cs)) →
        ((gs : Actuals) → is_expression (kind_at nodes a) ≡ true → ActualsAgree types constants values cs gs → Agrees o (indexed scope unfolded (item_at nodes a).expression gs)) →
        Agrees o (value_of_expression scope unfolded (item_at nodes n).expression)
    index_known a cs o is p =
        let named = of_index nodes n node node.kind a cs (labelled_expression (λ items. an_index n (items a).expression (constants_at items cs)) is) in
        let f = first_part nodes tree shaped is_expression (any is_constant_kind ∷ []) n node at (ap slots named.0) in
        let first : IsPart nodes is_expression n a = subst (IsPart nodes is_expression n) (sym named.1) f.first in
        let given = constants_part nodes scope meanings types constants values unfolded known n cs (subst (AreParts nodes is_constant_kind n) (sym named.2) (any_fits nodes is_constant_kind n (drop 1 node.children) f.before f.rest)) in
        as_expression o (λ items. an_index n (items a).expression (constants_at items cs)) is
        (subst (Agrees o) (sym (indexed_so scope unfolded n (items a).expression (constants_at items cs)))
        (subst (λ (i : Item). Agrees o (indexed scope unfolded i.expression (actuals scope unfolded (constants_at items cs)))) (sym (before_is nodes n a first.0))
        (p (actuals scope unfolded (constants_at items cs)) first.1 given)))

    -- brackets behind a name, and behind anything else
    pub indexed_name : (name : Identifier) (cs : List ℕ) (gs : Actuals) (o all : Option Settled) → is_expression (kind_at nodes n) ≡ true → IsExpression (λ items. a_name n name) → ActualsAgree types constants values cs gs →
        ((m : means.Meaning) (gs : Actuals) → MeaningAgrees types constants values unfolded (meaning_in (slice_get meanings n)) m → ActualsAgree types constants values cs gs → Agrees o (value_of_meaning scope unfolded name gs m)) →
        ((s : Settled) → Agrees o s → Agrees all (with_brackets s)) →
        Agrees all (indexed scope unfolded (item_at nodes n).expression gs)
    indexed_name name cs gs o all expression is given p brackets =
        subst (λ (x : Expression). Agrees all (indexed scope unfolded x gs)) (its_expression (λ items. a_name n name) is)
        (brackets (value_of_name scope unfolded n name gs) (name_value name expression is o cs gs given p))
