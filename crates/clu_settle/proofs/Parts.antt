-- What is known of the parts of a node is so: types, selectors, exceptions and constants that stand before it.
use Rattle.std.proofs.Common.{◌≡◌, ◌∙◌, ℕ, zero, suc, ◌<◌, Bool, true, false, ◌||◌, if◌then◌else◌, List, [], ◌∷◌, length, Option, Some, None, refl, ap, sym, subst, arith}
use Rattle.std.specs.Prelude.{slice_get}
use Rattle.std.proofs.lemmas.Bool.{true≢false, lt-ltb}
use Rattle.clu_base.specs.declared.constants.Const.{Const}
use Rattle.clu_tree.specs.declared.node.Node.{Node}
use Rattle.clu_tree.specs.declared.node.NodeKind.{NodeKind}
use Rattle.clu_tree.specs.declared.node.NodeKind.TheVariants as kind
use Rattle.clu_tree.specs.Nodes.{IsTree}
use Rattle.clu_parser.specs.Shape.{HaveForms}
use Rattle.clu_types.specs.CluType.{CluType, CluTypes, Fields, Signals}
use Rattle.clu_syntax.specs.Kinds.{is_expression, is_type, kind_of, kind_at}
use Rattle.clu_syntax.specs.Slots.{slots}
use Rattle.clu_syntax.specs.Slots.{is_constant as is_constant_kind}
use Rattle.clu_syntax.specs.Splits.{child, first_name, is_of}
use Rattle.clu_syntax.specs.Syntax.{Constant, TypeExpression, TypeExpressions, Typed, Exception}
use Rattle.clu_syntax.specs.Items.{Item, no_item, types_at, selectors_at, exceptions_at, constants_at}
use Rattle.clu_syntax.specs.Nodes.{before, item_with, item_at, constant_of, selector_of, exception_of}
use Rattle.clu_syntax.proofs.Items.{item_is}
use Rattle.clu_meaning.specs.Scoping.{Scope}
use Rattle.clu_meaning.specs.Settling.{Value as Settled, settled_type, value_of_constant, value_of_expression, type_of, types_of, fields_of, signals_of, actuals, with_fields, listed_signal}
use Rattle.clu_settle.specs.declared.value.Value.{Value}
use Rattle.clu_settle.specs.declared.meanings.Meaning.{Meaning}
use Rattle.clu_settle.specs.Values.{told, Agrees}
use Rattle.clu_settle.specs.Lists.{value_of, first_value}
use Rattle.clu_settle.specs.Names.{is_constant}
use Rattle.clu_settle.specs.Agreeing.{TypesAgree, no_more_types, type_agrees, SelectorsAgree, no_more_selectors, selector_agrees, SignalsAgree, no_more_signals, signal_agrees, ActualsAgree, no_more_actuals, actual_agrees}
use Rattle.clu_settle.specs.Known.{AreKnown}
use Rattle.clu_settle.proofs.Shapes.{IsPart, AreParts, first_part, all_parts, same_kind}

-- ---- what a node is

pub before_is : (nodes : List Node) (n c : ℕ) → c < n → before n (item_at nodes) c ≡ item_at nodes c
before_is nodes n c l = ap (λ (b : Bool). if b then item_at nodes c else no_item) (lt-ltb c n l)

-- an expression is no type
pub no_type_kind : (k : NodeKind) → is_expression k ≡ true → is_type k ≡ false
no_type_kind kind.Simple e = absurd (true≢false (sym e))
no_type_kind kind.ListT e = absurd (true≢false (sym e))
no_type_kind kind.FieldsT e = absurd (true≢false (sym e))
no_type_kind kind.RoutineT e = absurd (true≢false (sym e))
no_type_kind kind.NameT e = absurd (true≢false (sym e))
no_type_kind _ e = refl

pub type_is_constant : (nodes : List Node) (n : ℕ) → is_type (kind_at nodes n) ≡ true → is_constant nodes n ≡ true
type_is_constant nodes n e = by (is_expression (kind_at nodes n))
  where
    by : (b : Bool) → (b || is_type (kind_at nodes n)) ≡ true
    by true = refl
    by false = e

pub expression_is_constant : (nodes : List Node) (n : ℕ) → is_expression (kind_at nodes n) ≡ true → is_constant nodes n ≡ true
expression_is_constant nodes n e = ap (λ (b : Bool). b || is_type (kind_at nodes n)) e

constant_by : (items : ℕ → Item) (nodes : List Node) (n : ℕ) (its : Option Node) (b : Bool) → is_type (kind_of its) ≡ b → (item_with items nodes n its).constant ≡ constant_of b (item_with items nodes n its).expression (item_with items nodes n its).type
constant_by items nodes n None b e = ap (λ (b : Bool). constant_of b no_item.expression no_item.type) e
constant_by items nodes n (Some node) b e = ap (λ (b : Bool). constant_of b (item_with items nodes n (Some node)).expression (item_with items nodes n (Some node)).type) e

-- the constant at a node is its type, or its expression
pub constant_is : (nodes : List Node) (n : ℕ) (b : Bool) → is_type (kind_at nodes n) ≡ b → (item_at nodes n).constant ≡ constant_of b (item_at nodes n).expression (item_at nodes n).type
constant_is nodes n b e = subst (λ (i : Item). i.constant ≡ constant_of b i.expression i.type) (sym (item_is nodes n)) (constant_by (before n (item_at nodes)) nodes n (slice_get nodes n) b e)

-- a node that is there
pub item_there : (nodes : List Node) (n : ℕ) (node : Node) → slice_get nodes n ≡ Some node → item_at nodes n ≡ item_with (before n (item_at nodes)) nodes n (Some node)
item_there nodes n node e = item_is nodes n ∙ ap (item_with (before n (item_at nodes)) nodes n) e

-- a node of the tree
pub record There (nodes : List Node) (n : ℕ) : Type 0 where
  pub node : Node
  pub at : slice_get nodes n ≡ Some node

pub node_at : (nodes : List Node) (n : ℕ) → n < length nodes → There nodes n
node_at [] n l = absurd (omega (arith, l))
node_at (x ∷ xs) zero l = record { node = x; at = refl }
node_at (x ∷ xs) (suc n) l = let further = node_at xs n (omega (arith, l)) in record { node = further.node; at = further.at }

-- ---- lists of parts

module _ (nodes : List Node) (scope : Scope) (meanings : List Meaning) (types : List CluType) (constants : List Const) (values : List Value) (unfolded : Constant → Settled) (known : AreKnown nodes scope meanings types constants values unfolded) where
  -- a part that is a type, an expression or one of these
  pub type_part : (n c : ℕ) → IsPart nodes is_type n c → Agrees (told types constants (value_of values c)) (settled_type (type_of scope unfolded (before n (item_at nodes) c).type))
  type_part n c p =
      subst (λ (i : Item). Agrees (told types constants (value_of values c)) (settled_type (type_of scope unfolded i.type))) (sym (before_is nodes n c p.0))
      (subst (λ (k : Constant). Agrees (told types constants (value_of values c)) (value_of_constant scope unfolded k)) (constant_is nodes c true p.1) (known.each c (type_is_constant nodes c p.1)))

  pub expression_part : (n c : ℕ) → IsPart nodes is_expression n c → Agrees (told types constants (value_of values c)) (value_of_expression scope unfolded (before n (item_at nodes) c).expression)
  expression_part n c p =
      subst (λ (i : Item). Agrees (told types constants (value_of values c)) (value_of_expression scope unfolded i.expression)) (sym (before_is nodes n c p.0))
      (subst (λ (k : Constant). Agrees (told types constants (value_of values c)) (value_of_constant scope unfolded k)) (constant_is nodes c false (no_type_kind (kind_at nodes c) p.1)) (known.each c (expression_is_constant nodes c p.1)))

  constant_part : (n c : ℕ) → IsPart nodes is_constant_kind n c → Agrees (told types constants (value_of values c)) (value_of_constant scope unfolded (before n (item_at nodes) c).constant)
  constant_part n c p =
      subst (λ (i : Item). Agrees (told types constants (value_of values c)) (value_of_constant scope unfolded i.constant)) (sym (before_is nodes n c p.0)) (known.each c p.1)

  pub types_part : (n : ℕ) (cs : List ℕ) → AreParts nodes is_type n cs → TypesAgree types constants values cs (types_of scope unfolded (types_at (before n (item_at nodes)) cs))
  types_part n [] ps = no_more_types
  types_part n (c ∷ cs) ps = type_agrees c (type_of scope unfolded (before n (item_at nodes) c).type) cs (types_of scope unfolded (types_at (before n (item_at nodes)) cs)) (type_part n c ps.0) (types_part n cs ps.1)

  pub constants_part : (n : ℕ) (cs : List ℕ) → AreParts nodes is_constant_kind n cs → ActualsAgree types constants values cs (actuals scope unfolded (constants_at (before n (item_at nodes)) cs))
  constants_part n [] ps = no_more_actuals
  constants_part n (c ∷ cs) ps = actual_agrees c (value_of_constant scope unfolded (before n (item_at nodes) c).constant) cs (actuals scope unfolded (constants_at (before n (item_at nodes)) cs)) (constant_part n c ps.0) (constants_part n cs ps.1)

  module _ (tree : IsTree nodes) (shaped : HaveForms nodes) where
    -- a selector with its type
    record SelectorPart (n c : ℕ) : Type 0 where
      pub node : Node
      pub there : slice_get nodes c ≡ Some node
      pub names : (before n (item_at nodes) c).selector.names ≡ node.names
      pub agrees : Agrees (told types constants (first_value values node.children)) (settled_type (type_of scope unfolded (before n (item_at nodes) c).selector.type))

    selector_part : (n c : ℕ) → IsPart nodes (is_of kind.FieldT) n c → SelectorPart n c
    selector_part n c p = by (slice_get nodes c) refl (same_kind nodes kind.FieldT (kind_at nodes c) p.1)
      where
        by : (its : Option Node) → slice_get nodes c ≡ its → kind_at nodes c ≡ kind.FieldT → SelectorPart n c
        by None at is = absurd (let none : kind.File ≡ kind.FieldT = sym (ap kind_of at) ∙ is in cc)
        by (Some node) at is =
            let of_kind : node.kind ≡ kind.FieldT = sym (ap kind_of at) ∙ is in
            let f = first_part nodes tree shaped is_type [] c node at (ap slots of_kind) in
            let its : before n (item_at nodes) c ≡ item_with (before c (item_at nodes)) nodes c (Some node) = before_is nodes n c p.0 ∙ item_there nodes c node at in
            let as_selector : (before n (item_at nodes) c).selector ≡ selector_of (before c (item_at nodes)) nodes c node kind.FieldT =
            ap (λ (i : Item). i.selector) its ∙ ap (selector_of (before c (item_at nodes)) nodes c node) of_kind in
            record {
              node = node;
              there = at;
              names = ap (λ (s : Typed). s.names) as_selector;
              agrees = subst (λ (cs : List ℕ). Agrees (told types constants (first_value values cs)) (settled_type (type_of scope unfolded (before n (item_at nodes) c).selector.type))) (sym f.is)
                  (subst (λ (t : TypeExpression). Agrees (told types constants (value_of values (child 0 node))) (settled_type (type_of scope unfolded t))) (sym (ap (λ (s : Typed). s.type) as_selector)) (type_part c (child 0 node) f.first));
            }

    pub selectors_part : (n : ℕ) (cs : List ℕ) → AreParts nodes (is_of kind.FieldT) n cs → SelectorsAgree types constants values nodes cs (fields_of scope unfolded (selectors_at (before n (item_at nodes)) cs))
    selectors_part n [] ps = no_more_selectors
    selectors_part n (c ∷ cs) ps =
        let s = selector_part n c ps.0 in
        let rest : Fields = fields_of scope unfolded (selectors_at (before n (item_at nodes)) cs) in
        let t : CluType = type_of scope unfolded (before n (item_at nodes) c).selector.type in
        subst (λ (names : List (List ℕ)). SelectorsAgree types constants values nodes (c ∷ cs) (with_fields names t rest)) (sym s.names)
        (selector_agrees c s.node t cs rest s.there s.agrees (selectors_part n cs ps.1))

    record ExceptionPart (n c : ℕ) : Type 0 where
      pub node : Node
      pub there : slice_get nodes c ≡ Some node
      pub name : (before n (item_at nodes) c).exception.name ≡ first_name node.names
      pub agrees : TypesAgree types constants values node.children (types_of scope unfolded (before n (item_at nodes) c).exception.types)

    exception_part : (n c : ℕ) → IsPart nodes (is_of kind.Exc) n c → ExceptionPart n c
    exception_part n c p = by (slice_get nodes c) refl (same_kind nodes kind.Exc (kind_at nodes c) p.1)
      where
        by : (its : Option Node) → slice_get nodes c ≡ its → kind_at nodes c ≡ kind.Exc → ExceptionPart n c
        by None at is = absurd (let none : kind.File ≡ kind.Exc = sym (ap kind_of at) ∙ is in cc)
        by (Some node) at is =
            let of_kind : node.kind ≡ kind.Exc = sym (ap kind_of at) ∙ is in
            let its : before n (item_at nodes) c ≡ item_with (before c (item_at nodes)) nodes c (Some node) = before_is nodes n c p.0 ∙ item_there nodes c node at in
            let as_exception : (before n (item_at nodes) c).exception ≡ exception_of (before c (item_at nodes)) nodes c node kind.Exc =
            ap (λ (i : Item). i.exception) its ∙ ap (exception_of (before c (item_at nodes)) nodes c node) of_kind in
            record {
              node = node;
              there = at;
              name = ap (λ (s : Exception). s.name) as_exception;
              agrees = subst (λ (ts : TypeExpressions). TypesAgree types constants values node.children (types_of scope unfolded ts)) (sym (ap (λ (s : Exception). s.types) as_exception))
                  (types_part c node.children (all_parts nodes tree shaped is_type c node at (ap slots of_kind)));
            }

    pub exceptions_part : (n : ℕ) (cs : List ℕ) → AreParts nodes (is_of kind.Exc) n cs → SignalsAgree types constants values nodes cs (signals_of scope unfolded (exceptions_at (before n (item_at nodes)) cs))
    exceptions_part n [] ps = no_more_signals
    exceptions_part n (c ∷ cs) ps =
        let s = exception_part n c ps.0 in
        let rest : Signals = signals_of scope unfolded (exceptions_at (before n (item_at nodes)) cs) in
        let ts : CluTypes = types_of scope unfolded (before n (item_at nodes) c).exception.types in
        subst (λ (name : List ℕ). SignalsAgree types constants values nodes (c ∷ cs) (listed_signal name ts rest)) (sym s.name)
        (signal_agrees c s.node ts cs rest s.there s.agrees (exceptions_part n cs ps.1))
