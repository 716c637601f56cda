-- What a node raises by the definitions, in lists of nodes: each part raises what its node does.
use Rattle.std.proofs.Common.{◌≡◌, ◌∙◌, ℕ, ◌<◌, ◌&&◌, ◌||◌, Bool, true, false, if◌then◌else◌, List, [], ◌∷◌, ◌++◌, take, drop, flat_map, Option, Some, None, slice_get, refl, ap, ap₂, sym, append_assoc, append-nil}
use Rattle.std.proofs.lemmas.Bool.{true≢false}
use Rattle.std.proofs.lemmas.List.{take-append-drop}
use Rattle.clu_tree.specs.declared.node.Node.{Node}
use Rattle.clu_tree.specs.declared.node.NodeKind.{NodeKind}
use Rattle.clu_tree.specs.declared.node.NodeKind.TheVariants as kind
use Rattle.clu_grammar.specs.Kinds.{is_type, is_statement}
use Rattle.clu_parser.specs.Shape as shape
use Rattle.clu_parser.specs.Shape.{parts_of}
use Rattle.clu_syntax.specs.Kinds.{kind_at, kind_of, is_expression}
use Rattle.clu_syntax.specs.Slots.{is_constant}
use Rattle.clu_syntax.specs.Splits.{is_of, run, after_run, leading, one_of}
use Rattle.clu_syntax.specs.Items.{Item, expressions_at, components_at, constants_at, statements_at, tag_arms_at, whens_at, others_at}
use Rattle.clu_syntax.specs.Nodes.{before, constant_of, item_at, body_of, otherwise_of}
use Rattle.clu_parts.specs.Slots.{body_slots, IsElse}
use Rattle.clu_parts.proofs.Fitting.{Slot, several, at_most_one, may_stand, IsPart, AreParts, Stand, first_of, run_is, on_option, on_end, all_several, some_of, some_slot}
use Rattle.clu_declares.proofs.Below.{and_false, before_is, item_there, same_kind}
use Rattle.clu_declares.proofs.Whole.{same_equates, same_statements}
use Rattle.clu_checking.specs.Files.{File, item}
use Rattle.clu_checking.specs.Raising.{Raise, by_expression, by_expressions, by_components, by_constant, by_constants, by_statement, by_statements, by_body, by_otherwise, by_tag_arms, by_whens, by_others}
use Rattle.clu_passes.specs.Raised.{part_raises, raises_as, raises_of}

-- which kinds raise something
abbrev pub raises_some : NodeKind → Bool
raises_some kind.FieldE = true
raises_some kind.TagArm = true
raises_some kind.When = true
raises_some kind.Others = true
raises_some k = is_expression k || is_statement k

pub no_expression : (k : NodeKind) → (is_statement k && is_expression k) ≡ false
no_expression kind.File = refl
no_expression _ = refl

module _ (f : File) where
  abbrev nodes : List Node
  nodes = f.nodes

  abbrev pub all_in : List ℕ → List Raise
  all_in cs = flat_map (raises_of f) cs

  -- ---- of one node

  pub kind_raises : (k : NodeKind) (n : ℕ) → kind_at nodes n ≡ k → raises_of f n ≡ raises_as f k n
  unfolding raises_of
  kind_raises k n e = ap (λ (k : NodeKind). raises_as f k n) e

  as_expression : (k : NodeKind) (n : ℕ) → is_expression k ≡ true → raises_as f k n ≡ by_expression f (item f n).expression
  unfolding raises_as
  as_expression k n e = ap (λ (b : Bool). if b then by_expression f (item f n).expression else (if is_statement k then by_statement f (item f n).statement else part_raises f k n)) e

  as_other : (k : NodeKind) (n : ℕ) → is_expression k ≡ false → raises_as f k n ≡ (if is_statement k then by_statement f (item f n).statement else part_raises f k n)
  unfolding raises_as
  as_other k n e = ap (λ (b : Bool). if b then by_expression f (item f n).expression else (if is_statement k then by_statement f (item f n).statement else part_raises f k n)) e

  pub expression_raises : (n : ℕ) → is_expression (kind_at nodes n) ≡ true → raises_of f n ≡ by_expression f (item f n).expression
  unfolding raises_of
  expression_raises n e = as_expression (kind_at nodes n) n e

  pub statement_raises : (n : ℕ) → is_statement (kind_at nodes n) ≡ true → raises_of f n ≡ by_statement f (item f n).statement
  unfolding raises_of
  statement_raises n e =
      as_other (kind_at nodes n) n (and_false (is_statement (kind_at nodes n)) (is_expression (kind_at nodes n)) (no_expression (kind_at nodes n)) e)
      ∙ ap (λ (b : Bool). if b then by_statement f (item f n).statement else part_raises f (kind_at nodes n) n) e

  none_as : (k : NodeKind) (n : ℕ) → raises_some k ≡ false → raises_as f k n ≡ []
  unfolding raises_as part_raises
  none_as kind.File n e = refl
  none_as kind.Module n e = refl
  none_as kind.Routine n e = refl
  none_as kind.Cluster n e = refl
  none_as kind.Parm n e = refl
  none_as kind.Results n e = refl
  none_as kind.Signals n e = refl
  none_as kind.Exc n e = refl
  none_as kind.Where n e = refl
  none_as kind.Restrict n e = refl
  none_as kind.Oper n e = refl
  none_as kind.TypeSet n e = refl
  none_as kind.Equate n e = refl
  none_as kind.Own n e = refl
  none_as kind.Decl n e = refl
  none_as kind.Simple n e = refl
  none_as kind.ListT n e = refl
  none_as kind.FieldsT n e = refl
  none_as kind.FieldT n e = refl
  none_as kind.RoutineT n e = refl
  none_as kind.NameT n e = refl
  none_as _ n e = absurd (true≢false e)

  pub none_raised : (n : ℕ) → raises_some (kind_at nodes n) ≡ false → raises_of f n ≡ []
  unfolding raises_of
  none_raised n e = none_as (kind_at nodes n) n e

  pub component_raises : (n : ℕ) → kind_at nodes n ≡ kind.FieldE → raises_of f n ≡ by_expression f (item f n).component.value
  unfolding raises_as part_raises
  component_raises n e = kind_raises kind.FieldE n e

  pub arm_raises : (n : ℕ) → kind_at nodes n ≡ kind.TagArm → raises_of f n ≡ by_body f (item f n).tag_arm.body
  unfolding raises_as part_raises
  arm_raises n e = kind_raises kind.TagArm n e

  pub when_raises : (n : ℕ) → kind_at nodes n ≡ kind.When → raises_of f n ≡ by_body f (item f n).when.body
  unfolding raises_as part_raises
  when_raises n e = kind_raises kind.When n e

  pub others_raise : (n : ℕ) → kind_at nodes n ≡ kind.Others → raises_of f n ≡ by_others f (item f n).others
  unfolding raises_as part_raises
  others_raise n e = kind_raises kind.Others n e

  -- ---- of several

  pub all_append : (xs ys : List ℕ) → all_in (xs ++ ys) ≡ all_in xs ++ all_in ys
  all_append [] ys = refl
  all_append (x ∷ xs) ys = ap (λ (rs : List Raise). raises_of f x ++ rs) (all_append xs ys) ∙ sym (append_assoc (raises_of f x) (all_in xs) (all_in ys))

  pub all_split : (m : ℕ) (cs : List ℕ) → all_in cs ≡ all_in (take m cs) ++ all_in (drop m cs)
  all_split m cs = ap all_in (sym (take-append-drop m cs)) ∙ all_append (take m cs) (drop m cs)

  pub skip_first : (c : ℕ) (cs : List ℕ) → raises_of f c ≡ [] → all_in (c ∷ cs) ≡ all_in cs
  skip_first c cs e = ap (λ (rs : List Raise). rs ++ all_in cs) e

  pub plain_part : (n c : ℕ) (p : NodeKind → Bool) → ((k : NodeKind) → (p k && raises_some k) ≡ false) → IsPart nodes p n c → raises_of f c ≡ []
  plain_part n c p pl is = none_raised c (and_false (p (kind_at nodes c)) (raises_some (kind_at nodes c)) (pl (kind_at nodes c)) is.1)

  pub plain_parts : (n : ℕ) (p : NodeKind → Bool) (cs : List ℕ) → ((k : NodeKind) → (p k && raises_some k) ≡ false) → AreParts nodes p n cs → all_in cs ≡ []
  plain_parts n p [] pl ps = refl
  plain_parts n p (c ∷ cs) pl ps = skip_first c cs (plain_part n c p pl ps.0) ∙ plain_parts n p cs pl ps.1

  pub plain_stand : (n : ℕ) (ss : List Slot) (cs : List ℕ) → ((k : NodeKind) → (some_of ss k && raises_some k) ≡ false) → Stand nodes n ss cs → all_in cs ≡ []
  plain_stand n ss cs pl s = plain_parts n (some_of ss) cs pl (some_slot nodes n ss cs s)

  plain_equates : (k : NodeKind) → (is_of kind.Equate k && raises_some k) ≡ false
  plain_equates kind.File = refl
  plain_equates _ = refl

  -- ---- lists of parts of the node n

  module _ (n : ℕ) where
    abbrev items : ℕ → Item
    items = before n (item_at nodes)

    pub expression_in : (c : ℕ) → c < n → is_expression (kind_at nodes c) ≡ true → by_expression f (items c).expression ≡ raises_of f c
    expression_in c l e = ap (λ (i : Item). by_expression f i.expression) (before_is nodes n c l) ∙ sym (expression_raises c e)

    pub statement_in : (c : ℕ) → c < n → is_statement (kind_at nodes c) ≡ true → by_statement f (items c).statement ≡ raises_of f c
    statement_in c l e = ap (λ (i : Item). by_statement f i.statement) (before_is nodes n c l) ∙ sym (statement_raises c e)

    pub expressions_in : (cs : List ℕ) → AreParts nodes is_expression n cs → by_expressions f (expressions_at items cs) ≡ all_in cs
    expressions_in [] ps = refl
    expressions_in (c ∷ cs) ps = ap₂ (λ (xs ys : List Raise). xs ++ ys) (expression_in c ps.0.0 ps.0.1) (expressions_in cs ps.1)

    pub components_in : (cs : List ℕ) → AreParts nodes (is_of kind.FieldE) n cs → by_components f (components_at items cs) ≡ all_in cs
    components_in [] ps = refl
    components_in (c ∷ cs) ps =
        ap₂ (λ (xs ys : List Raise). xs ++ ys)
        (ap (λ (i : Item). by_expression f i.component.value) (before_is nodes n c ps.0.0) ∙ sym (component_raises c (same_kind kind.FieldE (kind_at nodes c) ps.0.1)))
        (components_in cs ps.1)

    pub statements_in : (cs : List ℕ) → AreParts nodes is_statement n cs → by_statements f (statements_at items cs) ≡ all_in cs
    statements_in [] ps = refl
    statements_in (c ∷ cs) ps = ap₂ (λ (xs ys : List Raise). xs ++ ys) (statement_in c ps.0.0 ps.0.1) (statements_in cs ps.1)

    pub tag_arms_in : (cs : List ℕ) → AreParts nodes (is_of kind.TagArm) n cs → by_tag_arms f (tag_arms_at items cs) ≡ all_in cs
    tag_arms_in [] ps = refl
    tag_arms_in (c ∷ cs) ps =
        ap₂ (λ (xs ys : List Raise). xs ++ ys)
        (ap (λ (i : Item). by_body f i.tag_arm.body) (before_is nodes n c ps.0.0) ∙ sym (arm_raises c (same_kind kind.TagArm (kind_at nodes c) ps.0.1)))
        (tag_arms_in cs ps.1)

    pub whens_in : (cs : List ℕ) → AreParts nodes (is_of kind.When) n cs → by_whens f (whens_at items cs) ≡ all_in cs
    whens_in [] ps = refl
    whens_in (c ∷ cs) ps =
        ap₂ (λ (xs ys : List Raise). xs ++ ys)
        (ap (λ (i : Item). by_body f i.when.body) (before_is nodes n c ps.0.0) ∙ sym (when_raises c (same_kind kind.When (kind_at nodes c) ps.0.1)))
        (whens_in cs ps.1)

    -- an index, or a type, which raises nothing
    plain_types : (k : NodeKind) → (is_type k && raises_some k) ≡ false
    plain_types kind.File = refl
    plain_types _ = refl

    an_index : (k : NodeKind) → is_type k ≡ false → is_constant k ≡ true → is_expression k ≡ true
    an_index k e h = by (is_expression k) (is_type k) e h
      where
        by : (a b : Bool) → b ≡ false → (a || b) ≡ true → a ≡ true
        by true b e h = refl
        by false b e h = absurd (true≢false (sym h ∙ e))

    constant_item : (c : ℕ) (node : Node) → slice_get nodes c ≡ Some node → (item_at nodes c).constant ≡ constant_of (is_type node.kind) (item_at nodes c).expression (item_at nodes c).type
    constant_item c node at =
        ap (λ (i : Item). i.constant) (item_there nodes c node at)
        ∙ sym (ap (λ (i : Item). constant_of (is_type node.kind) i.expression i.type) (item_there nodes c node at))

    constant_raises : (c : ℕ) → is_constant (kind_at nodes c) ≡ true → by_constant f (item_at nodes c).constant ≡ raises_of f c
    constant_raises c is = by (slice_get nodes c) refl
      where
        of_kind : (node : Node) → slice_get nodes c ≡ Some node → (b : Bool) → is_type node.kind ≡ b → by_constant f (constant_of b (item_at nodes c).expression (item_at nodes c).type) ≡ raises_of f c
        of_kind node at true e = sym (none_raised c (and_false (is_type (kind_at nodes c)) (raises_some (kind_at nodes c)) (plain_types (kind_at nodes c)) (ap (λ (its : Option Node). is_type (kind_of its)) at ∙ e)))
        of_kind node at false e = sym (expression_raises c (an_index (kind_at nodes c) (ap (λ (its : Option Node). is_type (kind_of its)) at ∙ e) is))

        by : (its : Option Node) → slice_get nodes c ≡ its → by_constant f (item_at nodes c).constant ≡ raises_of f c
        by None at = absurd (true≢false (sym is ∙ ap (λ (its : Option Node). is_constant (kind_of its)) at))
        by (Some node) at = ap (by_constant f) (constant_item c node at) ∙ of_kind node at (is_type node.kind) refl

    pub constants_in : (cs : List ℕ) → AreParts nodes is_constant n cs → by_constants f (constants_at items cs) ≡ all_in cs
    constants_in [] ps = refl
    constants_in (c ∷ cs) ps =
        ap₂ (λ (xs ys : List Raise). xs ++ ys) (ap (λ (i : Item). by_constant f i.constant) (before_is nodes n c ps.0.0) ∙ constant_raises c ps.0.1) (constants_in cs ps.1)

    pub body_is : (cs : List ℕ) → Stand nodes n body_slots cs → by_body f (body_of items nodes cs) ≡ all_in cs
    body_is cs s =
        let r = run_is nodes n kind.Equate (may_stand 2 (parts_of shape.equates)) (several (may_stand 2 (parts_of shape.statements)) ∷ []) cs same_equates apart s in
        statements_in (after_run nodes kind.Equate cs) (all_several nodes n (may_stand 2 (parts_of shape.statements)) is_statement (after_run nodes kind.Equate cs) same_statements r.rest)
        ∙ sym (ap (λ (rs : List Raise). rs ++ all_in (after_run nodes kind.Equate cs)) (plain_parts n (is_of kind.Equate) (run nodes kind.Equate cs) plain_equates r.parts))
        ∙ sym (all_split (leading nodes kind.Equate cs) cs)
      where
        apart : (j : NodeKind) → (is_of kind.Equate j && first_of (several (may_stand 2 (parts_of shape.statements)) ∷ []) j) ≡ false
        apart kind.File = refl
        apart _ = refl

    pub else_is : (o : Option ℕ) (cs : List ℕ) → IsElse nodes n o cs → by_otherwise f (otherwise_of items nodes o cs) ≡ all_in cs
    else_is None cs e = sym (ap all_in e)
    else_is (Some token) cs s = body_is cs s

    -- an Others, or none
    pub others_part : (cs : List ℕ) → Stand nodes n (at_most_one (may_stand 2 (parts_of shape.others)) ∷ []) cs → by_others f (others_at items (one_of nodes kind.Others cs)) ≡ all_in cs
    others_part cs s =
        on_option nodes n (λ cs. by_others f (others_at items (one_of nodes kind.Others cs)) ≡ all_in cs) (may_stand 2 (parts_of shape.others)) []
        (λ cs s. on_end nodes n (λ cs. by_others f (others_at items (one_of nodes kind.Others cs)) ≡ all_in cs) refl cs s)
        (λ c rest is s. on_end nodes n (λ rest. by_others f (others_at items (one_of nodes kind.Others (c ∷ rest))) ≡ all_in (c ∷ rest)) (one c is) rest s) cs s
      where
        same_others : (j : NodeKind) → may_stand 2 (parts_of shape.others) j ≡ is_of kind.Others j
        same_others kind.File = refl
        same_others _ = refl

        one : (c : ℕ) → IsPart nodes (may_stand 2 (parts_of shape.others)) n c → by_others f (others_at items (one_of nodes kind.Others (c ∷ []))) ≡ all_in (c ∷ [])
        one c is =
            let its : is_of kind.Others (kind_at nodes c) ≡ true = sym (same_others (kind_at nodes c)) ∙ is.1 in
            ap (λ (b : Bool). by_others f (others_at items (if b then Some c else None))) its
            ∙ ap (λ (i : Item). by_others f i.others) (before_is nodes n c is.0)
            ∙ sym (others_raise c (same_kind kind.Others (kind_at nodes c) its))
            ∙ sym (append-nil (raises_of f c))
