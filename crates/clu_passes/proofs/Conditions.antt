-- V16 by what is known of types: of the children of an If or While the conditions alone have a type.
use Rattle.std.proofs.Common.{◌≡◌, ◌∙◌, ◌<◌, ℕ, Bool, true, false, ◌&&◌, ◌||◌, if◌then◌else◌, List, [], ◌∷◌, take, drop, get_or, Option, Some, None, inl, inr, refl, sym, ap, ap₂, subst}
use Rattle.std.specs.Prelude.{slice_get}
use Rattle.std.specs.List.{AllByRecursion, list_any}
use Rattle.std.proofs.Math.Bool.{or-false}
use Rattle.std.proofs.lemmas.List.{take-append-drop}
use Rattle.std.proofs.lemmas.List.Folds.{list_any-append}
use Rattle.clu_tree.specs.declared.node.Node.{Node}
use Rattle.clu_tree.specs.declared.node.NodeKind.{NodeKind}
use Rattle.clu_tree.specs.declared.node.NodeKind.TheVariants as kind
use Rattle.clu_tree.specs.Nodes.{IsTree}
use Rattle.clu_parser.specs.Shape.{Part, is_child, expression, HaveForms, HasForm, IsShaped, IsFormOf, forms}
use Rattle.clu_parser.specs.Trees.{Text}
use Rattle.clu_types.specs.CluType.{bool_type}
use Rattle.clu_syntax.specs.declared.words.Operator.{Operator}
use Rattle.clu_syntax.specs.declared.words.Operator.TheVariants as operator
use Rattle.clu_syntax.specs.Kinds.{kind_at, is_expression}
use Rattle.clu_syntax.specs.Splits.{child, leading_before, children_of}
use Rattle.clu_syntax.specs.Syntax.{Expression, an_infix, Clauses, clause_and}
use Rattle.clu_syntax.specs.Words.{symbol_in, infix_operator}
use Rattle.clu_syntax.specs.Items.{Item}
use Rattle.clu_syntax.specs.Nodes.{before, item_at, item_with, expression_of, statement_of, split_clauses, clauses_of, body_of}
use Rattle.clu_parts.specs.Slots.{just, slots_of, body_slots, Stand, AreParts, AreBefore, IsElse, IfParts}
use Rattle.clu_parts.proofs.Fitting.{fitted, on_head, on_end, some_of, some_slot, children_before}
use Rattle.clu_parts.proofs.Ifs.{if_parts}
use Rattle.clu_meaning.specs.Constants.{sugar}
use Rattle.clu_meaning.specs.Scoping.{Scope}
use Rattle.clu_checking.specs.Specifications.{Specification}
use Rattle.clu_checking.specs.Files.{File, item, children}
use Rattle.clu_checking.specs.Typing as checking
use Rattle.clu_checking.specs.ExpressionRules as expressions
use Rattle.clu_checking.specs.ExpressionRules.{is_other_than, has_no_bool_operand}
use Rattle.clu_checking.specs.StatementRules.{some_other_condition, has_other_condition, v16_in, v16}
use Rattle.clu_bindings.specs.Wanted as bound
use Rattle.clu_declares.proofs.Below.{before_is, and_false, item_there}
use Rattle.clu_declares.proofs.Facts.{There, there, all_take}
use Rattle.clu_type_rules.specs.declared.known.Known.{Known}
use Rattle.clu_type_rules.specs.Known as known
use Rattle.clu_type_rules.specs.Known.{wanted_in}
use Rattle.clu_type_rules.specs.StatementRules.{joins_conditions, is_logical, some_no_condition, has_no_bool, has_no_condition}
use Rattle.clu_passes.specs.ConstantTables.{AreTables, AreWantedKnown}
use Rattle.clu_passes.specs.FactTables.{typed, AreFacts}
use Rattle.clu_passes.proofs.FactNodes as so

body_items : (k : NodeKind) → (some_of body_slots k && is_expression k) ≡ false
body_items kind.File = refl
body_items _ = refl

module _ (k : Known) (scope : Scope) (library : List Specification) (refused : List ℕ) where
  abbrev nodes : List Node
  nodes = k.tables.file.syntax.now

  abbrev f : File
  f = so.f k scope library refused

  -- the node has a type that is no condition's
  abbrev other : ℕ → Bool
  other c = is_other_than bool_type (typed f c)

  other_none : (c : ℕ) → is_expression (kind_at nodes c) ≡ false → other c ≡ false
  other_none c e = ap (is_other_than bool_type) (so.no_expression k scope library refused c e)

  other_some : (c : ℕ) → is_expression (kind_at nodes c) ≡ true → is_other_than bool_type (checking.type_of f (item f c).expression) ≡ other c
  other_some c e = ap (is_other_than bool_type) (sym (so.an_expression k scope library refused c e))

  -- no statement and no equate has a type
  no_others : (n : ℕ) (cs : List ℕ) → AreParts nodes (some_of body_slots) n cs → list_any other cs ≡ false
  no_others n [] ps = refl
  no_others n (c ∷ cs) ps =
      ap₂ (λ (a b : Bool). a || b)
      (other_none c (and_false (some_of body_slots (kind_at nodes c)) (is_expression (kind_at nodes c)) (body_items (kind_at nodes c)) ps.0.1))
      (no_others n cs ps.1)

  none_in_body : (n : ℕ) (cs : List ℕ) → Stand nodes n body_slots cs → list_any other cs ≡ false
  none_in_body n cs s = no_others n cs (some_slot nodes n body_slots cs s)

  module _ (n : ℕ) where
    abbrev items : ℕ → Item
    items = before n (item_at nodes)

    -- an expression before the node
    condition : (c : ℕ) → c < n → is_expression (kind_at nodes c) ≡ true → is_other_than bool_type (checking.type_of f (items c).expression) ≡ other c
    condition c l e = ap (λ (i : Item). is_other_than bool_type (checking.type_of f i.expression)) (before_is nodes n c l) ∙ other_some c e

    -- ---- the conditions of an If

    split_by : ℕ → List ℕ → Bool → List ℕ × Clauses
    split_by c cs b =
        if b then ([], clause_and (items c).expression (body_of items nodes (split_clauses items nodes cs).0) (split_clauses items nodes cs).1)
        else (c ∷ (split_clauses items nodes cs).0, (split_clauses items nodes cs).1)

    clauses_are : (cs : List ℕ) → AreBefore n cs → some_other_condition f (clauses_of items nodes cs) ≡ list_any other cs
    unfolding split_by
    clauses_are [] l = refl
    clauses_are (c ∷ cs) l = by (is_expression (kind_at nodes c)) refl (clauses_are cs l.1)
      where
        by : (b : Bool) → is_expression (kind_at nodes c) ≡ b → some_other_condition f (clauses_of items nodes cs) ≡ list_any other cs → some_other_condition f (clauses_of items nodes (c ∷ cs)) ≡ list_any other (c ∷ cs)
        by true e rest =
            ap (λ (b : Bool). some_other_condition f (split_by c cs b).1) e
            ∙ ap₂ (λ (a b : Bool). a || b) (condition c l.0 e) rest
        by false e rest =
            ap (λ (b : Bool). some_other_condition f (split_by c cs b).1) e
            ∙ rest ∙ ap (λ (b : Bool). b || list_any other cs) (sym (other_none c e))

    none_behind : (o : Option ℕ) (cs : List ℕ) → IsElse nodes n o cs → list_any other cs ≡ false
    none_behind None cs e = ap (list_any other) e
    none_behind (Some token) cs s = none_in_body n cs s

    if_is : (node : Node) → AreBefore n node.children → IfParts nodes n node → has_other_condition f (statement_of items nodes n node kind.If) ≡ list_any other node.children
    if_is node l p =
        let count : ℕ = leading_before nodes node node.children in
        clauses_are (take count node.children) (all_take (λ c. c < n) count node.children l)
        ∙ sym (or-false (list_any other (take count node.children)))
        ∙ ap (λ (b : Bool). list_any other (take count node.children) || b) (sym (none_behind node.value_token (drop count node.children) p.behind))
        ∙ sym (list_any-append other (take count node.children) (drop count node.children))
        ∙ ap (list_any other) (take-append-drop count node.children)

    -- ---- the condition of a While

    while_is : (cs : List ℕ) → Stand nodes n (just (is_child expression) ∷ body_slots) cs → is_other_than bool_type (checking.type_of f (items (get_or cs 0 0)).expression) ≡ list_any other cs
    while_is cs s =
        on_head nodes n (λ cs. is_other_than bool_type (checking.type_of f (items (get_or cs 0 0)).expression) ≡ list_any other cs) (is_child expression) body_slots
        (λ c rest is s. condition c is.0 is.1 ∙ sym (or-false (other c)) ∙ ap (λ (b : Bool). other c || b) (sym (none_in_body n rest s))) cs s

    -- ---- the operands of cand and cor

    operands : (op : Operator) (a b : Expression) (x y : Bool) → is_other_than bool_type (checking.type_of f a) ≡ x → is_other_than bool_type (checking.type_of f b) ≡ y → (m : ℕ) (c d : Expression) → has_no_bool_operand f (sugar op) a b ≡ (joins_conditions (an_infix m op c d) && (x || (y || false)))
    operands operator.Cand a b x y e g m c d = ap₂ (λ (p q : Bool). p || q) e (g ∙ sym (or-false y))
    operands operator.Cor a b x y e g m c d = ap₂ (λ (p q : Bool). p || q) e (g ∙ sym (or-false y))
    operands _ a b x y e g m c d = refl

    infix_is : (cs : List ℕ) → Stand nodes n (just (is_child expression) ∷ just (is_child expression) ∷ []) cs → (op : Operator) (c d : Expression) → has_no_bool_operand f (sugar op) (items (get_or cs 0 0)).expression (items (get_or cs 1 0)).expression ≡ (joins_conditions (an_infix n op c d) && list_any other cs)
    infix_is cs s op c d =
        on_head nodes n (λ cs. has_no_bool_operand f (sugar op) (items (get_or cs 0 0)).expression (items (get_or cs 1 0)).expression ≡ (joins_conditions (an_infix n op c d) && list_any other cs)) (is_child expression) (just (is_child expression) ∷ [])
        (λ x rest is s.
        on_head nodes n (λ rest. has_no_bool_operand f (sugar op) (items x).expression (items (get_or rest 0 0)).expression ≡ (joins_conditions (an_infix n op c d) && list_any other (x ∷ rest))) (is_child expression) []
        (λ y rest is_y s.
        on_end nodes n (λ rest. has_no_bool_operand f (sugar op) (items x).expression (items y).expression ≡ (joins_conditions (an_infix n op c d) && list_any other (x ∷ y ∷ rest)))
        (operands op (items x).expression (items y).expression (other x) (other y) (condition x is.0 is.1) (condition y is_y.0 is_y.1) n c d) rest s) rest s) cs s

  -- ---- the rule

  module _ (shaped : HaveForms nodes) (t : Text) (texts : IsShaped t nodes) (tree : IsTree nodes) (are : AreTables f k.tables) (lost : ℕ → Bool) (facts : AreFacts f k.tables.types.now k.facts.now lost) where
    -- of the children of a node all is known
    some_known : (n : ℕ) → lost n ≡ false → list_any other (known.children k n) ≡ some_no_condition k n
    some_known n here =
        so.some_other k scope library refused are lost facts (known.children k n)
        (subst (AllByRecursion (λ c. lost c ≡ false)) (so.children_same k scope library refused (slice_get nodes n)) (facts.below n here))

    its_children : (n : ℕ) (x : Node) → slice_get nodes n ≡ Some x → known.children k n ≡ x.children
    its_children n x at = ap children_of at

    stand_in : (its : NodeKind) (form : List Part) → forms its ≡ form ∷ [] → (n : ℕ) (x : There nodes n its) → Stand nodes n (slots_of form) x.node.children
    stand_in its form only n x =
        let h : HasForm nodes x.node = shaped n x.node x.at in
        elim (subst (λ (fs : List (List Part)). IsFormOf h.form fs) (ap forms x.is ∙ only) h.of_kind) [
          | inl e ↦ subst (λ (form : List Part). Stand nodes n (slots_of form) x.node.children) e (fitted nodes tree n x.node x.at h)
          | inr never ↦ absurd never
        ]

    statement_at : (its : NodeKind) (n : ℕ) (x : There nodes n its) → has_other_condition f (item f n).statement ≡ has_other_condition f (statement_of (before n (item_at nodes)) nodes n x.node its)
    statement_at its n x =
        ap (λ (i : Item). has_other_condition f i.statement) (item_there nodes n x.node x.at)
        ∙ ap (λ (its : NodeKind). has_other_condition f (statement_of (before n (item_at nodes)) nodes n x.node its)) x.is

    known_of : (its : NodeKind) (n : ℕ) (x : There nodes n its) → lost n ≡ false → list_any other x.node.children ≡ some_no_condition k n
    known_of its n x here = ap (list_any other) (sym (its_children n x.node x.at)) ∙ some_known n here

    in_infix : AreWantedKnown k.tables.file lost → (others : ℕ → Item) (n : ℕ) → kind_at nodes n ≡ kind.Infix → lost n ≡ false → expressions.has_no_bool f kind.Infix n ≡ has_no_bool k others n
    in_infix wanted others n is here =
        let x = there nodes n kind.Infix refl is in
        let op : Operator = infix_operator (symbol_in x.node.value) in
        let c : Expression = (others (child 0 x.node)).expression in
        let d : Expression = (others (child 1 x.node)).expression in
        let logical : joins_conditions (an_infix n op c d) ≡ is_logical nodes others n =
        ap (λ (its : NodeKind). joins_conditions (expression_of others nodes n x.node its)) (sym x.is)
        ∙ ap (λ (its : Option Node). joins_conditions (item_with others nodes n its).expression) (sym x.at) in
        let operand : expressions.is_no_condition f (item f n).expression ≡ (is_logical nodes others n && some_no_condition k n) =
        ap (λ (i : Item). expressions.is_no_condition f i.expression) (item_there nodes n x.node x.at)
        ∙ ap (λ (its : NodeKind). expressions.is_no_condition f (expression_of (before n (item_at nodes)) nodes n x.node its)) x.is
        ∙ infix_is n x.node.children (stand_in kind.Infix _ refl n x) op c d
        ∙ ap₂ (λ (a b : Bool). a && b) logical (known_of kind.Infix n x here) in
        ap (λ (b : Bool). b && expressions.is_no_condition f (item f n).expression) (so.object_wanted_at k scope library refused are n (wanted n here))
        ∙ ap (λ (b : Bool). bound.is_object_wanted (wanted_in k n) && b) operand

    by_kind : AreWantedKnown k.tables.file lost → (others : ℕ → Item) (n : ℕ) → lost n ≡ false → (its : NodeKind) → kind_at nodes n ≡ its → v16_in f its n ≡ has_no_condition k others its n
    by_kind wanted others n here kind.If is =
        let x = there nodes n kind.If refl is in
        statement_at kind.If n x
        ∙ if_is n x.node (children_before nodes tree n x.node x.at) (if_parts t nodes texts tree n x.node x.at (texts n x.node x.at) x.is)
        ∙ known_of kind.If n x here
    by_kind wanted others n here kind.While is =
        let x = there nodes n kind.While refl is in
        statement_at kind.While n x ∙ while_is n x.node.children (stand_in kind.While _ refl n x) ∙ known_of kind.While n x here
    by_kind wanted others n here kind.Infix is = in_infix wanted others n is here
    by_kind wanted others n here _ is = refl

    pub v16_is : AreWantedKnown k.tables.file lost → (others : ℕ → Item) (n : ℕ) → lost n ≡ false → v16 f n ≡ has_no_condition k others (known.kind_in k n) n
    v16_is wanted others n here = by_kind wanted others n here (kind_at nodes n) refl
