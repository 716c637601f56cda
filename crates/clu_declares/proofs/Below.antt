-- All that is bound below a node, as the definitions of its parts bind it; lists of parts bind what their nodes bind, one after
-- the other.
use Rattle.std.proofs.Common.{◌≡◌, ◌∙◌, ℕ, zero, suc, ◌<◌, ◌&&◌, ◌||◌, Bool, true, false, if◌then◌else◌, List, [], ◌∷◌, ◌++◌, map, take, drop, Some, slice_get, refl, ap, sym, rules, append_assoc, append-nil, lt-ltb}
use Rattle.std.specs.List.{AllByRecursion}
use Rattle.std.proofs.lemmas.Bool.{or_parts, true≢false}
use Rattle.std.proofs.lemmas.List.{take-append-drop}
use Rattle.clu_tree.specs.declared.node.Node.{Node}
use Rattle.clu_tree.specs.declared.node.NodeKind.{NodeKind}
use Rattle.clu_tree.specs.declared.node.NodeKind.TheVariants as kind
use Rattle.clu_tree.specs.contracts.node.NodeKind.{the_type}
use Rattle.clu_grammar.specs.Kinds.{is_statement}
use Rattle.clu_syntax.specs.declared.round.Round.{Round}
use Rattle.clu_syntax.specs.Kinds.{kind_at}
use Rattle.clu_syntax.specs.Rounds.{round_at}
use Rattle.clu_syntax.specs.Splits.{is_of}
use Rattle.clu_syntax.specs.Syntax.{TypeExpression, Typed, Own}
use Rattle.clu_syntax.specs.Items.{Item, no_item, equates_at, declarations_at, owns_at, statements_at, tag_arms_at, whens_at}
use Rattle.clu_syntax.specs.Nodes.{before, item_with, item_of, item_at}
use Rattle.clu_syntax.proofs.Items.{item_is}
use Rattle.clu_parts.proofs.Fitting.{Slot, several, IsPart, AreParts, Stand, some_of, some_slot}
use Rattle.clu_meaning.specs.Scoping.{Meaning, is_local, Bindings, binding, equate_binding, of_equates, of_declarations, of_variable, of_taken, of_body, of_others, of_statement, of_statements, of_tag_arms, of_whens, of_own, of_owns}
use Rattle.clu_declares.specs.Declares.{own_variable, variable_in, outer_kind, declared_in}
use denote.Enum.Bare.{same_true}

-- what binds besides statements
abbrev pub is_other : NodeKind → Bool
is_other kind.Equate = true
is_other kind.Decl = true
is_other kind.Own = true
is_other kind.TagArm = true
is_other kind.When = true
is_other kind.Others = true
is_other _ = false

abbrev pub binds : NodeKind → Bool
binds k = is_statement k || is_other k

pub same_kind : (k other : NodeKind) → is_of k other ≡ true → other ≡ k
same_kind k other e = same_true the_type (search rules) other k e

pub and_false : (a b : Bool) → (a && b) ≡ false → a ≡ true → b ≡ false
and_false true b e h = e
and_false false b e h = absurd (true≢false (sym h))

pub before_is : (nodes : List Node) (n c : ℕ) → c < n → before n (item_at nodes) c ≡ item_at nodes c
before_is nodes n c l = ap (λ (b : Bool). if b then item_at nodes c else no_item) (lt-ltb c n l)

-- a node that is there
pub item_there : (nodes : List Node) (n : ℕ) (node : Node) → slice_get nodes n ≡ Some node → item_at nodes n ≡ item_of (before n (item_at nodes)) nodes n node
item_there nodes n node e = item_is nodes n ∙ ap (item_with (before n (item_at nodes)) nodes n) e

module _ (nodes : List Node) (rounds : List Round) where
  pub others_of : NodeKind → ℕ → Bindings
  others_of kind.Equate n = declared_in nodes rounds kind.Equate n
  others_of kind.Decl n = declared_in nodes rounds kind.Decl n
  others_of kind.Own n = of_own (own_variable (round_at rounds n).routine) (item_at nodes n).own
  others_of kind.TagArm n = of_variable n is_local (item_at nodes n).tag_arm.variable ++ of_body (item_at nodes n).tag_arm.body
  others_of kind.When n = of_taken (item_at nodes n).when.taken ++ of_body (item_at nodes n).when.body
  others_of kind.Others n = of_others (item_at nodes n).others
  others_of _ n = []

  pub all_of : NodeKind → ℕ → Bindings
  all_of k n = if is_statement k then of_statement (item_at nodes n).statement else others_of k n

  pub all_at : ℕ → Bindings
  all_at n = all_of (kind_at nodes n) n

  pub all_in : List ℕ → Bindings
  all_in [] = []
  all_in (c ∷ cs) = all_at c ++ all_in cs

  -- ---- of one node

  pub kind_all : (k : NodeKind) (n : ℕ) → kind_at nodes n ≡ k → all_at n ≡ all_of k n
  unfolding all_at
  kind_all k n e = ap (λ (k : NodeKind). all_of k n) e

  all_statement : (k : NodeKind) (n : ℕ) → is_statement k ≡ true → all_of k n ≡ of_statement (item_at nodes n).statement
  unfolding all_of
  all_statement k n e = ap (λ (b : Bool). if b then of_statement (item_at nodes n).statement else others_of k n) e

  pub statement_at : (n : ℕ) → is_statement (kind_at nodes n) ≡ true → all_at n ≡ of_statement (item_at nodes n).statement
  unfolding all_at
  statement_at n e = all_statement (kind_at nodes n) n e

  all_other : (k : NodeKind) (n : ℕ) → is_statement k ≡ false → all_of k n ≡ others_of k n
  unfolding all_of
  all_other k n e = ap (λ (b : Bool). if b then of_statement (item_at nodes n).statement else others_of k n) e

  others_none : (k : NodeKind) (n : ℕ) → is_other k ≡ false → others_of k n ≡ []
  unfolding others_of
  others_none kind.Equate n e = absurd (true≢false e)
  others_none kind.Decl n e = absurd (true≢false e)
  others_none kind.Own n e = absurd (true≢false e)
  others_none kind.TagArm n e = absurd (true≢false e)
  others_none kind.When n e = absurd (true≢false e)
  others_none kind.Others n e = absurd (true≢false e)
  others_none _ n e = refl

  pub none_at : (n : ℕ) → binds (kind_at nodes n) ≡ false → all_at n ≡ []
  unfolding all_at
  none_at n e =
      all_other (kind_at nodes n) n (or_parts (is_statement (kind_at nodes n)) (is_other (kind_at nodes n)) e).0
      ∙ others_none (kind_at nodes n) n (or_parts (is_statement (kind_at nodes n)) (is_other (kind_at nodes n)) e).1

  pub equate_all : (n : ℕ) → kind_at nodes n ≡ kind.Equate → all_at n ≡ equate_binding (item_at nodes n).equate ∷ []
  unfolding all_at all_of others_of
  equate_all n e = kind_all kind.Equate n e

  pub decl_all : (n : ℕ) → kind_at nodes n ≡ kind.Decl → all_at n ≡ of_declarations (variable_in (outer_kind nodes rounds n) (round_at rounds n)) ((item_at nodes n).declaration ∷ [])
  unfolding all_at all_of others_of
  decl_all n e = kind_all kind.Decl n e

  pub own_all : (n : ℕ) → kind_at nodes n ≡ kind.Own → all_at n ≡ of_own (own_variable (round_at rounds n).routine) (item_at nodes n).own
  unfolding all_at all_of others_of
  own_all n e = kind_all kind.Own n e

  pub arm_all : (n : ℕ) → kind_at nodes n ≡ kind.TagArm → all_at n ≡ of_variable n is_local (item_at nodes n).tag_arm.variable ++ of_body (item_at nodes n).tag_arm.body
  unfolding all_at all_of others_of
  arm_all n e = kind_all kind.TagArm n e

  pub when_all : (n : ℕ) → kind_at nodes n ≡ kind.When → all_at n ≡ of_taken (item_at nodes n).when.taken ++ of_body (item_at nodes n).when.body
  unfolding all_at all_of others_of
  when_all n e = kind_all kind.When n e

  pub others_all : (n : ℕ) → kind_at nodes n ≡ kind.Others → all_at n ≡ of_others (item_at nodes n).others
  unfolding all_at all_of others_of
  others_all n e = kind_all kind.Others n e

  -- ---- of several

  pub all_nil : all_in [] ≡ []
  unfolding all_in
  all_nil = refl

  pub all_more : (c : ℕ) (cs : List ℕ) → all_in (c ∷ cs) ≡ all_at c ++ all_in cs
  unfolding all_in
  all_more c cs = refl

  pub all_append : (xs ys : List ℕ) → all_in (xs ++ ys) ≡ all_in xs ++ all_in ys
  unfolding all_in
  all_append [] ys = refl
  all_append (x ∷ xs) ys = ap (λ (bs : Bindings). all_at x ++ bs) (all_append xs ys) ∙ sym (append_assoc (all_at x) (all_in xs) (all_in ys))

  pub all_split : (m : ℕ) (cs : List ℕ) → all_in cs ≡ all_in (take m cs) ++ all_in (drop m cs)
  all_split m cs = ap all_in (sym (take-append-drop m cs)) ∙ all_append (take m cs) (drop m cs)

  pub skip_first : (c : ℕ) (cs : List ℕ) → all_at c ≡ [] → all_in (c ∷ cs) ≡ all_in cs
  skip_first c cs e = all_more c cs ∙ ap (λ (bs : Bindings). bs ++ all_in cs) e

  pub plain_part : (n c : ℕ) (p : NodeKind → Bool) → ((k : NodeKind) → (p k && binds k) ≡ false) → IsPart nodes p n c → all_at c ≡ []
  plain_part n c p pl is = none_at c (and_false (p (kind_at nodes c)) (binds (kind_at nodes c)) (pl (kind_at nodes c)) is.1)

  pub plain_parts : (n : ℕ) (p : NodeKind → Bool) (cs : List ℕ) → ((k : NodeKind) → (p k && binds k) ≡ false) → AreParts nodes p n cs → all_in cs ≡ []
  plain_parts n p [] pl ps = all_nil
  plain_parts n p (c ∷ cs) pl ps = skip_first c cs (plain_part n c p pl ps.0) ∙ plain_parts n p cs pl ps.1

  pub plain_stand : (n : ℕ) (ss : List Slot) (cs : List ℕ) → ((k : NodeKind) → (some_of ss k && binds k) ≡ false) → Stand nodes n ss cs → all_in cs ≡ []
  plain_stand n ss cs pl s = plain_parts n (some_of ss) cs pl (some_slot nodes n ss cs s)

  -- ---- lists of parts of the node n

  module _ (n : ℕ) where
    abbrev items : ℕ → Item
    items = before n (item_at nodes)

    pub equates_in : (cs : List ℕ) → AreParts nodes (is_of kind.Equate) n cs → of_equates (equates_at items cs) ≡ all_in cs
    unfolding all_in
    equates_in [] ps = refl
    equates_in (c ∷ cs) ps =
        ap (λ (i : Item). equate_binding i.equate ∷ of_equates (equates_at items cs)) (before_is nodes n c ps.0.0)
        ∙ ap (λ (bs : Bindings). equate_binding (item_at nodes c).equate ∷ bs) (equates_in cs ps.1)
        ∙ sym (ap (λ (bs : Bindings). bs ++ all_in cs) (equate_all c (same_kind kind.Equate (kind_at nodes c) ps.0.1)))

    abbrev pub AreVariables : (TypeExpression → Meaning) → List ℕ → Type 0
    AreVariables v cs = AllByRecursion (λ (c : ℕ). variable_in (outer_kind nodes rounds c) (round_at rounds c) ≡ v) cs

    pub variables_taken : (v : TypeExpression → Meaning) (m : ℕ) (cs : List ℕ) → AreVariables v cs → AreVariables v (take m cs)
    variables_taken v zero cs vs = tt
    variables_taken v (suc m) [] vs = tt
    variables_taken v (suc m) (c ∷ cs) vs = (vs.0, variables_taken v m cs vs.1)

    abbrev of_one : (TypeExpression → Meaning) → Typed → Bindings
    of_one v d = map (binding d.node (v d.type)) d.names

    pub declarations_in : (v : TypeExpression → Meaning) (cs : List ℕ) → AreParts nodes (is_of kind.Decl) n cs → AreVariables v cs → of_declarations v (declarations_at items cs) ≡ all_in cs
    unfolding all_in
    declarations_in v [] ps vs = refl
    declarations_in v (c ∷ cs) ps vs =
        let its : all_at c ≡ of_one v (item_at nodes c).declaration =
        decl_all c (same_kind kind.Decl (kind_at nodes c) ps.0.1) ∙ append-nil (of_one (variable_in (outer_kind nodes rounds c) (round_at rounds c)) (item_at nodes c).declaration)
        ∙ ap (λ (v : TypeExpression → Meaning). of_one v (item_at nodes c).declaration) vs.0 in
        ap (λ (i : Item). of_one v i.declaration ++ of_declarations v (declarations_at items cs)) (before_is nodes n c ps.0.0)
        ∙ ap (λ (bs : Bindings). of_one v (item_at nodes c).declaration ++ bs) (declarations_in v cs ps.1 vs.1)
        ∙ sym (ap (λ (bs : Bindings). bs ++ all_in cs) its)

    abbrev pub AreOwns : (TypeExpression → Meaning) → List ℕ → Type 0
    AreOwns v cs = AllByRecursion (λ (c : ℕ). own_variable (round_at rounds c).routine ≡ v) cs

    pub owns_in : (v : TypeExpression → Meaning) (cs : List ℕ) → AreParts nodes (is_of kind.Own) n cs → AreOwns v cs → of_owns v (owns_at items cs) ≡ all_in cs
    unfolding all_in
    owns_in v [] ps vs = refl
    owns_in v (c ∷ cs) ps vs =
        let its : all_at c ≡ of_own v (item_at nodes c).own =
        own_all c (same_kind kind.Own (kind_at nodes c) ps.0.1) ∙ ap (λ (v : TypeExpression → Meaning). of_own v (item_at nodes c).own) vs.0 in
        ap (λ (i : Item). of_own v i.own ++ of_owns v (owns_at items cs)) (before_is nodes n c ps.0.0)
        ∙ ap (λ (bs : Bindings). of_own v (item_at nodes c).own ++ bs) (owns_in v cs ps.1 vs.1)
        ∙ sym (ap (λ (bs : Bindings). bs ++ all_in cs) its)

    pub statements_in : (cs : List ℕ) → AreParts nodes is_statement n cs → of_statements (statements_at items cs) ≡ all_in cs
    unfolding all_in
    statements_in [] ps = refl
    statements_in (c ∷ cs) ps =
        ap (λ (i : Item). of_statement i.statement ++ of_statements (statements_at items cs)) (before_is nodes n c ps.0.0)
        ∙ ap (λ (bs : Bindings). of_statement (item_at nodes c).statement ++ bs) (statements_in cs ps.1)
        ∙ sym (ap (λ (bs : Bindings). bs ++ all_in cs) (statement_at c ps.0.1))

    pub whens_in : (cs : List ℕ) → AreParts nodes (is_of kind.When) n cs → of_whens (whens_at items cs) ≡ all_in cs
    unfolding all_in
    whens_in [] ps = refl
    whens_in (c ∷ cs) ps =
        ap (λ (i : Item). of_taken i.when.taken ++ of_body i.when.body ++ of_whens (whens_at items cs)) (before_is nodes n c ps.0.0)
        ∙ ap (λ (bs : Bindings). of_taken (item_at nodes c).when.taken ++ of_body (item_at nodes c).when.body ++ bs) (whens_in cs ps.1)
        ∙ sym (ap (λ (bs : Bindings). bs ++ all_in cs) (when_all c (same_kind kind.When (kind_at nodes c) ps.0.1)))

    -- an arm is that of its own node
    abbrev pub AreArms : List ℕ → Type 0
    AreArms cs = AllByRecursion (λ (c : ℕ). (item_at nodes c).tag_arm.node ≡ c) cs

    pub tag_arms_in : (cs : List ℕ) → AreParts nodes (is_of kind.TagArm) n cs → AreArms cs → of_tag_arms (tag_arms_at items cs) ≡ all_in cs
    unfolding all_in
    tag_arms_in [] ps own = refl
    tag_arms_in (c ∷ cs) ps own =
        ap (λ (i : Item). of_variable i.tag_arm.node is_local i.tag_arm.variable ++ of_body i.tag_arm.body ++ of_tag_arms (tag_arms_at items cs)) (before_is nodes n c ps.0.0)
        ∙ ap (λ (m : ℕ). of_variable m is_local (item_at nodes c).tag_arm.variable ++ of_body (item_at nodes c).tag_arm.body ++ of_tag_arms (tag_arms_at items cs)) own.0
        ∙ ap (λ (bs : Bindings). of_variable c is_local (item_at nodes c).tag_arm.variable ++ of_body (item_at nodes c).tag_arm.body ++ bs) (tag_arms_in cs ps.1 own.1)
        ∙ sym (ap (λ (bs : Bindings). bs ++ all_in cs) (arm_all c (same_kind kind.TagArm (kind_at nodes c) ps.0.1)))
