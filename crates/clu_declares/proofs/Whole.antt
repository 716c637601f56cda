-- What is bound below a node is what it binds itself, and then what is bound below its children, in the order of the text: the
-- parts of each statement, arm and declaration leave out no child.
use Rattle.std.proofs.Common.{◌≡◌, ◌∙◌, ℕ, ◌&&◌, Bool, true, false, if◌then◌else◌, List, [], ◌∷◌, ◌++◌, take, drop, Option, Some, None, slice_get, refl, ap, ap₂, sym, subst, append_assoc, append-nil}
use Rattle.std.specs.List.{AllByRecursion}
use Rattle.std.proofs.lemmas.Bool.{true≢false}
use Rattle.clu_tree.specs.declared.node.Node.{Node}
use Rattle.clu_tree.specs.declared.node.NodeKind.{NodeKind}
use Rattle.clu_tree.specs.declared.node.NodeKind.TheVariants as kind
use Rattle.clu_grammar.specs.Kinds.{is_type, is_statement}
use Rattle.clu_parser.specs.Shape as shape
use Rattle.clu_parser.specs.Shape.{is_child, parts_of}
use Rattle.clu_syntax.specs.declared.round.Round.{Round}
use Rattle.clu_syntax.specs.Kinds.{kind_of, kind_at}
use Rattle.clu_syntax.specs.Splits.{is_of, run, after_run, leading, one_of, type_of, after_option}
use Rattle.clu_syntax.specs.Syntax.{Identifier, TypeExpression}
use Rattle.clu_syntax.specs.Items.{Item, declarations_at, tag_arms_at, whens_at, others_at}
use Rattle.clu_syntax.specs.Nodes.{before, item_at, statement_of, body_of, otherwise_of, for_of, init_of, owned, taken_of, tag_arm_of}
use Rattle.clu_parts.specs.Slots.{body_slots}
use Rattle.clu_parts.proofs.Fitting.{Slot, just, several, at_most_one, may_stand, IsPart, AreParts, Stand, first_of, first_is, run_is, no_run, on_head, on_option, on_end, all_several, several_from, some_of}
use Rattle.clu_meaning.specs.Scoping.{Meaning, is_local, Bindings, of_declarations, of_taken, of_body, of_others, of_otherwise, of_statement, of_tag_arms, of_whens, of_own}
use Rattle.clu_declares.specs.Declares.{of_initial, of_own_initial}
use Rattle.clu_declares.proofs.Below.{binds, same_kind, before_is, item_there, all_at, all_in, all_nil, all_more, all_split, skip_first, plain_part, plain_stand, statement_at, others_all, equates_in, declarations_in, AreVariables, variables_taken, statements_in, whens_in, tag_arms_in}

-- ---- slots

abbrev equate_here : NodeKind → Bool
equate_here = may_stand 2 (parts_of shape.equates)

abbrev statement_here : NodeKind → Bool
statement_here = may_stand 2 (parts_of shape.statements)

pub same_equates : (j : NodeKind) → equate_here j ≡ is_of kind.Equate j
same_equates kind.File = refl
same_equates _ = refl

pub same_statements : (j : NodeKind) → statement_here j ≡ is_statement j
same_statements kind.File = refl
same_statements _ = refl

body_apart : (j : NodeKind) → (is_of kind.Equate j && first_of (several statement_here ∷ []) j) ≡ false
body_apart kind.File = refl
body_apart _ = refl

plain_expression : (j : NodeKind) → (is_child shape.expression j && binds j) ≡ false
plain_expression kind.File = refl
plain_expression _ = refl

plain_call : (j : NodeKind) → (is_child (shape.one kind.Call) j && binds j) ≡ false
plain_call kind.File = refl
plain_call _ = refl

plain_type : (j : NodeKind) → (may_stand 2 (parts_of shape.variable) j && binds j) ≡ false
plain_type kind.File = refl
plain_type _ = refl

-- ---- of a node that is an arm

no_node : (k j : NodeKind) → is_of k j ≡ true → is_of k kind.File ≡ false → j ≡ kind.File → ⊥
no_node k j e f same = true≢false (sym e ∙ ap (is_of k) same ∙ f)

arm_node : (nodes : List Node) (c : ℕ) → is_of kind.TagArm (kind_at nodes c) ≡ true → (item_at nodes c).tag_arm.node ≡ c
arm_node nodes c is = by (slice_get nodes c) refl
  where
    by : (its : Option Node) → slice_get nodes c ≡ its → (item_at nodes c).tag_arm.node ≡ c
    by None at = absurd (no_node kind.TagArm (kind_at nodes c) is refl (ap kind_of at))
    by (Some node) at =
        let same : node.kind ≡ kind.TagArm = sym (ap kind_of at) ∙ same_kind kind.TagArm (kind_at nodes c) is in
        ap (λ (i : Item). i.tag_arm.node) (item_there nodes c node at) ∙ ap (λ (k : NodeKind). (tag_arm_of (before c (item_at nodes)) nodes c node k).node) same

are_arms : (nodes : List Node) (n : ℕ) (cs : List ℕ) → AreParts nodes (is_of kind.TagArm) n cs → AllByRecursion (λ (c : ℕ). (item_at nodes c).tag_arm.node ≡ c) cs
are_arms nodes n [] ps = tt
are_arms nodes n (c ∷ cs) ps = (arm_node nodes c ps.0.1, are_arms nodes n cs ps.1)

module _ (nodes : List Node) (rounds : List Round) (n : ℕ) where
  abbrev items : ℕ → Item
  items = before n (item_at nodes)

  abbrev all : List ℕ → Bindings
  all = all_in nodes rounds

  abbrev with_children : Node → List ℕ → Node
  with_children node cs = record node { children = cs }

  pub body_is : (cs : List ℕ) → Stand nodes n body_slots cs → of_body (body_of items nodes cs) ≡ all cs
  body_is cs s =
      let r = run_is nodes n kind.Equate equate_here (several statement_here ∷ []) cs same_equates body_apart s in
      ap₂ (λ (xs ys : Bindings). xs ++ ys) (equates_in nodes rounds n (run nodes kind.Equate cs) r.parts)
      (statements_in nodes rounds n (after_run nodes kind.Equate cs) (all_several nodes n statement_here is_statement (after_run nodes kind.Equate cs) same_statements r.rest))
      ∙ sym (all_split nodes rounds (leading nodes kind.Equate cs) cs)

  -- a body behind one part that binds nothing
  behind_plain : (p : NodeKind → Bool) (c : ℕ) (rest : List ℕ) → ((j : NodeKind) → (p j && binds j) ≡ false) → IsPart nodes p n c → Stand nodes n body_slots rest → of_body (body_of items nodes rest) ≡ all (c ∷ rest)
  behind_plain p c rest pl is s = body_is rest s ∙ sym (skip_first nodes rounds c rest (plain_part nodes rounds n c p pl is))

  -- ---- statements

  abbrev Whole : NodeKind → Node → List ℕ → Type 0
  Whole k node cs = of_statement (statement_of items nodes n (with_children node cs) k) ≡ all cs

  pub while_is : (node : Node) (cs : List ℕ) → Stand nodes n (just (is_child shape.expression) ∷ body_slots) cs → Whole kind.While node cs
  while_is node cs s = on_head nodes n (Whole kind.While node) (is_child shape.expression) body_slots (λ c rest is s. behind_plain (is_child shape.expression) c rest plain_expression is s) cs s

  pub begin_is : (node : Node) (cs : List ℕ) → Stand nodes n body_slots cs → Whole kind.Begin node cs
  begin_is node cs s = body_is cs s

  one_statement : (c : ℕ) → IsPart nodes (is_child shape.statement) n c → of_statement (items c).statement ≡ all_at nodes rounds c
  one_statement c is = ap (λ (i : Item). of_statement i.statement) (before_is nodes n c is.0) ∙ sym (statement_at nodes rounds c is.1)

  alone : (c : ℕ) → all (c ∷ []) ≡ all_at nodes rounds c
  alone c = all_more nodes rounds c [] ∙ ap (λ (bs : Bindings). all_at nodes rounds c ++ bs) (all_nil nodes rounds) ∙ append-nil (all_at nodes rounds c)

  pub resignal_is : (node : Node) (cs : List ℕ) → Stand nodes n (just (is_child shape.statement) ∷ []) cs → Whole kind.Resignal node cs
  resignal_is node cs s =
      on_head nodes n (Whole kind.Resignal node) (is_child shape.statement) []
      (λ c rest is s. on_end nodes n (λ rest. Whole kind.Resignal node (c ∷ rest)) (one_statement c is ∙ sym (alone c)) rest s) cs s

  -- an Others, or none
  others_part : (cs : List ℕ) → Stand nodes n (at_most_one (may_stand 2 (parts_of shape.others)) ∷ []) cs → of_others (others_at items (one_of nodes kind.Others cs)) ≡ all cs
  others_part cs s =
      on_option nodes n (λ cs. of_others (others_at items (one_of nodes kind.Others cs)) ≡ all cs) (may_stand 2 (parts_of shape.others)) []
      (λ cs s. on_end nodes n (λ cs. of_others (others_at items (one_of nodes kind.Others cs)) ≡ all cs) (sym (all_nil nodes rounds)) cs s)
      (λ c rest is s. on_end nodes n (λ rest. of_others (others_at items (one_of nodes kind.Others (c ∷ rest))) ≡ all (c ∷ rest)) (one c is) rest s) cs s
    where
      same_others : (j : NodeKind) → may_stand 2 (parts_of shape.others) j ≡ is_of kind.Others j
      same_others kind.File = refl
      same_others _ = refl

      one : (c : ℕ) → IsPart nodes (may_stand 2 (parts_of shape.others)) n c → of_others (others_at items (one_of nodes kind.Others (c ∷ []))) ≡ all (c ∷ [])
      one c is =
          let its : is_of kind.Others (kind_at nodes c) ≡ true = sym (same_others (kind_at nodes c)) ∙ is.1 in
          ap (λ (b : Bool). of_others (others_at items (if b then Some c else None))) its
          ∙ ap (λ (i : Item). of_others i.others) (before_is nodes n c is.0)
          ∙ sym (others_all nodes rounds c (same_kind kind.Others (kind_at nodes c) its)) ∙ sym (alone c)

  abbrev when_here : NodeKind → Bool
  when_here = may_stand 2 (parts_of shape.whens)

  abbrev others_here : List Slot
  others_here = at_most_one (may_stand 2 (parts_of shape.others)) ∷ []

  arms_part : (cs : List ℕ) → Stand nodes n (several when_here ∷ others_here) cs →
      of_whens (whens_at items (run nodes kind.When cs)) ++ of_others (others_at items (one_of nodes kind.Others (after_run nodes kind.When cs))) ≡ all cs
  arms_part cs s =
      let r = run_is nodes n kind.When when_here others_here cs same apart s in
      ap₂ (λ (xs ys : Bindings). xs ++ ys) (whens_in nodes rounds n (run nodes kind.When cs) r.parts) (others_part (after_run nodes kind.When cs) r.rest)
      ∙ sym (all_split nodes rounds (leading nodes kind.When cs) cs)
    where
      same : (j : NodeKind) → when_here j ≡ is_of kind.When j
      same kind.File = refl
      same _ = refl

      apart : (j : NodeKind) → (is_of kind.When j && first_of others_here j) ≡ false
      apart kind.File = refl
      apart _ = refl

  pub except_is : (node : Node) (cs : List ℕ) → Stand nodes n (just (is_child shape.statement) ∷ several when_here ∷ others_here) cs → Whole kind.Except node cs
  except_is node cs s =
      on_head nodes n (Whole kind.Except node) (is_child shape.statement) (several when_here ∷ others_here)
      (λ c rest is s. append_assoc (of_statement (items c).statement) (of_whens (whens_at items (run nodes kind.When rest))) (of_others (others_at items (one_of nodes kind.Others (after_run nodes kind.When rest))))
      ∙ ap₂ (λ (xs ys : Bindings). xs ++ ys) (one_statement c is) (arms_part rest s) ∙ sym (all_more nodes rounds c rest)) cs s

  -- ---- declarations

  abbrev more_decl : NodeKind → Bool
  more_decl = may_stand 2 (parts_of shape.more_decls)

  abbrev one_decl : NodeKind → Bool
  one_decl = is_child (shape.one kind.Decl)

  same_more : (j : NodeKind) → more_decl j ≡ is_of kind.Decl j
  same_more kind.File = refl
  same_more _ = refl

  same_one : (j : NodeKind) → one_decl j ≡ more_decl j
  same_one kind.File = refl
  same_one _ = refl

  decls_end : (j : NodeKind) → (is_of kind.Decl j && first_of [] j) ≡ false
  decls_end kind.File = refl
  decls_end _ = refl

  decls_call : (j : NodeKind) → (is_of kind.Decl j && first_of (just (is_child (shape.one kind.Call)) ∷ []) j) ≡ false
  decls_call kind.File = refl
  decls_call _ = refl

  pub declare_is : (node : Node) (cs : List ℕ) → Stand nodes n (just one_decl ∷ []) cs → AreVariables nodes rounds n is_local cs → Whole kind.Declare node cs
  declare_is node cs s =
      on_head nodes n (λ cs. AreVariables nodes rounds n is_local cs → Whole kind.Declare node cs) one_decl []
      (λ c rest is s. on_end nodes n (λ rest. AreVariables nodes rounds n is_local (c ∷ rest) → Whole kind.Declare node (c ∷ rest)) (λ vs. declarations_in nodes rounds n is_local (c ∷ []) ((is.0, sym (same_more (kind_at nodes c)) ∙ sym (same_one (kind_at nodes c)) ∙ is.1), tt) vs) rest s) cs s

  -- Decl#, and what stands behind them
  decls_then : (v : TypeExpression → Meaning) (ss : List Slot) (cs : List ℕ) → ((j : NodeKind) → (is_of kind.Decl j && first_of ss j) ≡ false) → AreVariables nodes rounds n v cs → Stand nodes n (just one_decl ∷ several more_decl ∷ ss) cs →
      (of_declarations v (declarations_at items (run nodes kind.Decl cs)) ≡ all (run nodes kind.Decl cs)) × Stand nodes n ss (after_run nodes kind.Decl cs)
  decls_then v ss cs apart vs s =
      let r = run_is nodes n kind.Decl more_decl ss cs same_more apart (several_from nodes n one_decl more_decl ss cs same_one s) in
      (declarations_in nodes rounds n v (run nodes kind.Decl cs) r.parts (variables_taken nodes rounds n v (leading nodes kind.Decl cs) cs vs), r.rest)

  ended : (cs : List ℕ) → Stand nodes n [] cs → all cs ≡ []
  ended cs s = on_end nodes n (λ cs. all cs ≡ []) (all_nil nodes rounds) cs s

  plain_calls : (cs : List ℕ) → Stand nodes n (just (is_child (shape.one kind.Call)) ∷ []) cs → all cs ≡ []
  plain_calls cs s = plain_stand nodes rounds n (just (is_child (shape.one kind.Call)) ∷ []) cs pl s
    where
      pl : (j : NodeKind) → (some_of (just (is_child (shape.one kind.Call)) ∷ []) j && binds j) ≡ false
      pl kind.File = refl
      pl _ = refl

  -- declarations, and nothing that binds behind them
  alone_decls : (v : TypeExpression → Meaning) (cs : List ℕ) → of_declarations v (declarations_at items (run nodes kind.Decl cs)) ≡ all (run nodes kind.Decl cs) → all (after_run nodes kind.Decl cs) ≡ [] → of_declarations v (declarations_at items (run nodes kind.Decl cs)) ≡ all cs
  alone_decls v cs e none = e ∙ sym (append-nil (all (run nodes kind.Decl cs))) ∙ ap (λ (bs : Bindings). all (run nodes kind.Decl cs) ++ bs) (sym none) ∙ sym (all_split nodes rounds (leading nodes kind.Decl cs) cs)

  abbrev type_expression : List Slot
  type_expression = just (is_child shape.any_type) ∷ just (is_child shape.expression) ∷ []

  plain_both : (cs : List ℕ) → Stand nodes n type_expression cs → all cs ≡ []
  plain_both cs s = plain_stand nodes rounds n type_expression cs pl s
    where
      pl : (j : NodeKind) → (some_of type_expression j && binds j) ≡ false
      pl kind.File = refl
      pl _ = refl

  abbrev InitWhole : Node → List Identifier → List ℕ → Type 0
  InitWhole node names cs = of_statement (init_of items nodes n (with_children node cs) names) ≡ of_initial (init_of items nodes n (with_children node cs) names) ++ all cs

  pub init_is : (node : Node) (name : Identifier) (names : List Identifier) (cs : List ℕ) → Stand nodes n type_expression cs → InitWhole node (name ∷ names) cs
  init_is node name names cs s = ap (λ (bs : Bindings). of_initial (init_of items nodes n (with_children node cs) (name ∷ names)) ++ bs) (sym (plain_both cs s))

  pub call_init_is : (node : Node) (cs : List ℕ) → AreVariables nodes rounds n is_local cs → Stand nodes n (just one_decl ∷ several more_decl ∷ just (is_child (shape.one kind.Call)) ∷ []) cs → InitWhole node [] cs
  call_init_is node cs vs s =
      let d = decls_then is_local (just (is_child (shape.one kind.Call)) ∷ []) cs decls_call vs s in
      alone_decls is_local cs d.0 (plain_calls (after_run nodes kind.Decl cs) d.1)

  -- ---- own variables

  abbrev OwnWhole : (TypeExpression → Meaning) → List Identifier → List ℕ → Type 0
  OwnWhole v names cs = of_own v (owned items nodes n names (run nodes kind.Decl cs) (after_run nodes kind.Decl cs)) ≡ of_own_initial v (owned items nodes n names (run nodes kind.Decl cs) (after_run nodes kind.Decl cs)) ++ all cs

  pub owns_is : (v : TypeExpression → Meaning) (cs : List ℕ) → AreVariables nodes rounds n v cs → Stand nodes n (just one_decl ∷ several more_decl ∷ []) cs → OwnWhole v [] cs
  owns_is v cs vs s =
      let d = decls_then v [] cs decls_end vs s in
      on_end nodes n (λ rest. all rest ≡ [] → of_own v (owned items nodes n [] (run nodes kind.Decl cs) rest) ≡ of_own_initial v (owned items nodes n [] (run nodes kind.Decl cs) rest) ++ all cs)
      (λ none. alone_decls v cs d.0 (ended (after_run nodes kind.Decl cs) d.1)) (after_run nodes kind.Decl cs) d.1 (ended (after_run nodes kind.Decl cs) d.1)

  pub own_call_is : (v : TypeExpression → Meaning) (cs : List ℕ) → AreVariables nodes rounds n v cs → Stand nodes n (just one_decl ∷ several more_decl ∷ just (is_child (shape.one kind.Call)) ∷ []) cs → OwnWhole v [] cs
  own_call_is v cs vs s =
      let d = decls_then v (just (is_child (shape.one kind.Call)) ∷ []) cs decls_call vs s in
      let whole : of_declarations v (declarations_at items (run nodes kind.Decl cs)) ≡ all cs = alone_decls v cs d.0 (plain_calls (after_run nodes kind.Decl cs) d.1) in
      on_head nodes n (λ rest. of_own v (owned items nodes n [] (run nodes kind.Decl cs) rest) ≡ of_own_initial v (owned items nodes n [] (run nodes kind.Decl cs) rest) ++ all cs) (is_child (shape.one kind.Call)) []
      (λ c rest is s. whole) (after_run nodes kind.Decl cs) d.1

  pub own_init_is : (v : TypeExpression → Meaning) (name : Identifier) (names : List Identifier) (cs : List ℕ) → Stand nodes n type_expression cs → OwnWhole v (name ∷ names) cs
  own_init_is v name names cs s =
      let none : leading nodes kind.Decl cs ≡ 0 = no_run nodes n kind.Decl type_expression cs apart s in
      let plain : all cs ≡ [] = plain_both cs s in
      subst (λ (m : ℕ). of_own v (owned items nodes n (name ∷ names) (take m cs) (drop m cs)) ≡ of_own_initial v (owned items nodes n (name ∷ names) (take m cs) (drop m cs)) ++ all cs) (sym none)
      (on_head nodes n (λ cs. all cs ≡ [] → of_own v (owned items nodes n (name ∷ names) [] cs) ≡ of_own_initial v (owned items nodes n (name ∷ names) [] cs) ++ all cs) (is_child shape.any_type) (just (is_child shape.expression) ∷ [])
      (λ c rest is s. on_head nodes n (λ rest. all (c ∷ rest) ≡ [] → of_own v (owned items nodes n (name ∷ names) [] (c ∷ rest)) ≡ of_own_initial v (owned items nodes n (name ∷ names) [] (c ∷ rest)) ++ all (c ∷ rest)) (is_child shape.expression) []
      (λ d rest is s pl. ap (λ (bs : Bindings). of_own_initial v (owned items nodes n (name ∷ names) [] (c ∷ d ∷ rest)) ++ bs) (sym pl)) rest s) cs s plain)
    where
      apart : (j : NodeKind) → (is_of kind.Decl j && first_of type_expression j) ≡ false
      apart kind.File = refl
      apart _ = refl

  -- ---- loops

  abbrev decl_here : NodeKind → Bool
  decl_here = may_stand 2 (parts_of shape.decls)

  abbrev call_body : List Slot
  call_body = just (is_child (shape.one kind.Call)) ∷ body_slots

  same_decl : (j : NodeKind) → decl_here j ≡ is_of kind.Decl j
  same_decl kind.File = refl
  same_decl _ = refl

  loop_apart : (j : NodeKind) → (is_of kind.Decl j && first_of call_body j) ≡ false
  loop_apart kind.File = refl
  loop_apart _ = refl

  abbrev ForWhole : List Identifier → List ℕ → Type 0
  ForWhole names cs = of_statement (for_of items nodes n names (run nodes kind.Decl cs) (after_run nodes kind.Decl cs)) ≡ all cs

  pub for_is : (cs : List ℕ) → AreVariables nodes rounds n is_local cs → Stand nodes n (several decl_here ∷ call_body) cs → ForWhole [] cs
  for_is cs vs s =
      let r = run_is nodes n kind.Decl decl_here call_body cs same_decl loop_apart s in
      let ds : of_declarations is_local (declarations_at items (run nodes kind.Decl cs)) ≡ all (run nodes kind.Decl cs) = declarations_in nodes rounds n is_local (run nodes kind.Decl cs) r.parts (variables_taken nodes rounds n is_local (leading nodes kind.Decl cs) cs vs) in
      on_head nodes n (λ rest. of_statement (for_of items nodes n [] (run nodes kind.Decl cs) rest) ≡ all (run nodes kind.Decl cs) ++ all rest) (is_child (shape.one kind.Call)) body_slots
      (λ c rest is s. ap₂ (λ (xs ys : Bindings). xs ++ ys) ds (behind_plain (is_child (shape.one kind.Call)) c rest plain_call is s)) (after_run nodes kind.Decl cs) r.rest
      ∙ sym (all_split nodes rounds (leading nodes kind.Decl cs) cs)

  pub for_names_is : (name : Identifier) (names : List Identifier) (cs : List ℕ) → Stand nodes n call_body cs → ForWhole (name ∷ names) cs
  for_names_is name names cs s =
      let none : leading nodes kind.Decl cs ≡ 0 = no_run nodes n kind.Decl call_body cs loop_apart s in
      subst (λ (m : ℕ). of_statement (for_of items nodes n (name ∷ names) (take m cs) (drop m cs)) ≡ all cs) (sym none)
      (on_head nodes n (λ cs. of_statement (for_of items nodes n (name ∷ names) [] cs) ≡ all cs) (is_child (shape.one kind.Call)) body_slots
      (λ c rest is s. behind_plain (is_child (shape.one kind.Call)) c rest plain_call is s) cs s)

  -- ---- arms

  -- a body behind a type, if there is one
  pub behind_type : (cs : List ℕ) → Stand nodes n (at_most_one (may_stand 2 (parts_of shape.variable)) ∷ body_slots) cs → of_body (body_of items nodes (after_option (type_of nodes cs) cs)) ≡ all cs
  behind_type cs s =
      on_option nodes n (λ cs. of_body (body_of items nodes (after_option (type_of nodes cs) cs)) ≡ all cs) (may_stand 2 (parts_of shape.variable)) body_slots
      (λ cs s. ap (λ (o : Option ℕ). of_body (body_of items nodes (after_option o cs))) (no_type cs s) ∙ body_is cs s)
      (λ c rest is s. ap (λ (b : Bool). of_body (body_of items nodes (after_option (if b then Some c else None) (c ∷ rest)))) (sym (same (kind_at nodes c)) ∙ is.1) ∙ behind_plain (may_stand 2 (parts_of shape.variable)) c rest plain_type is s) cs s
    where
      same : (j : NodeKind) → may_stand 2 (parts_of shape.variable) j ≡ is_type j
      same kind.File = refl
      same _ = refl

      apart : (j : NodeKind) → (first_of body_slots j && is_type j) ≡ false
      apart kind.File = refl
      apart _ = refl

      no_type : (cs : List ℕ) → Stand nodes n body_slots cs → type_of nodes cs ≡ None
      no_type [] s = refl
      no_type (c ∷ cs) s = ap (λ (b : Bool). if b then Some c else None) (sym (ap (λ (b : Bool). b && is_type (kind_at nodes c)) (first_is nodes n body_slots c cs s)) ∙ apart (kind_at nodes c))

  abbrev decl_in_parens : NodeKind → Bool
  decl_in_parens = may_stand 2 (parts_of shape.decls_in_parens)

  same_in_parens : (j : NodeKind) → decl_in_parens j ≡ is_of kind.Decl j
  same_in_parens kind.File = refl
  same_in_parens _ = refl

  arm_apart : (j : NodeKind) → (is_of kind.Decl j && first_of body_slots j) ≡ false
  arm_apart kind.File = refl
  arm_apart _ = refl

  abbrev pub WhenWhole : Option ℕ → List ℕ → Type 0
  WhenWhole token cs = of_taken (taken_of items nodes token (run nodes kind.Decl cs)) ++ of_body (body_of items nodes (after_run nodes kind.Decl cs)) ≡ all cs

  pub when_is : (cs : List ℕ) → AreVariables nodes rounds n is_local cs → Stand nodes n (several decl_in_parens ∷ body_slots) cs → WhenWhole None cs
  when_is cs vs s =
      let r = run_is nodes n kind.Decl decl_in_parens body_slots cs same_in_parens arm_apart s in
      ap₂ (λ (xs ys : Bindings). xs ++ ys) (declarations_in nodes rounds n is_local (run nodes kind.Decl cs) r.parts (variables_taken nodes rounds n is_local (leading nodes kind.Decl cs) cs vs)) (body_is (after_run nodes kind.Decl cs) r.rest)
      ∙ sym (all_split nodes rounds (leading nodes kind.Decl cs) cs)

  pub any_when_is : (token : ℕ) (cs : List ℕ) → Stand nodes n body_slots cs → WhenWhole (Some token) cs
  any_when_is token cs s = subst (λ (m : ℕ). of_body (body_of items nodes (drop m cs)) ≡ all cs) (sym (no_run nodes n kind.Decl body_slots cs arm_apart s)) (body_is cs s)

  -- ---- the arms of a Tagcase

  abbrev arm_here : NodeKind → Bool
  arm_here = may_stand 2 (parts_of shape.more_arms)

  abbrev one_arm : NodeKind → Bool
  one_arm = is_child (shape.one kind.TagArm)

  same_arm : (j : NodeKind) → arm_here j ≡ is_of kind.TagArm j
  same_arm kind.File = refl
  same_arm _ = refl

  same_first : (j : NodeKind) → one_arm j ≡ arm_here j
  same_first kind.File = refl
  same_first _ = refl

  tags_end : (j : NodeKind) → (is_of kind.TagArm j && first_of [] j) ≡ false
  tags_end kind.File = refl
  tags_end _ = refl

  tags_apart : (j : NodeKind) → (is_of kind.TagArm j && first_of body_slots j) ≡ false
  tags_apart kind.File = refl
  tags_apart _ = refl

  abbrev TagsWhole : Option ℕ → List ℕ → Type 0
  TagsWhole token cs = of_tag_arms (tag_arms_at items (run nodes kind.TagArm cs)) ++ of_otherwise (otherwise_of items nodes token (after_run nodes kind.TagArm cs)) ≡ all cs

  tags_is : (ss : List Slot) (token : Option ℕ) (cs : List ℕ) → ((j : NodeKind) → (is_of kind.TagArm j && first_of ss j) ≡ false) → ((rest : List ℕ) → Stand nodes n ss rest → of_otherwise (otherwise_of items nodes token rest) ≡ all rest) → Stand nodes n (just one_arm ∷ several arm_here ∷ ss) cs → TagsWhole token cs
  tags_is ss token cs apart behind s =
      let r = run_is nodes n kind.TagArm arm_here ss cs same_arm apart (several_from nodes n one_arm arm_here ss cs same_first s) in
      ap₂ (λ (xs ys : Bindings). xs ++ ys) (tag_arms_in nodes rounds n (run nodes kind.TagArm cs) r.parts (are_arms nodes n (run nodes kind.TagArm cs) r.parts)) (behind (after_run nodes kind.TagArm cs) r.rest)
      ∙ sym (all_split nodes rounds (leading nodes kind.TagArm cs) cs)

  abbrev pub TagcaseWhole : Option ℕ → List ℕ → Type 0
  TagcaseWhole token cs = of_tag_arms (tag_arms_at items (run nodes kind.TagArm (drop 1 cs))) ++ of_otherwise (otherwise_of items nodes token (after_run nodes kind.TagArm (drop 1 cs))) ≡ all cs

  tagcase_by : (ss : List Slot) (token : Option ℕ) (cs : List ℕ) → ((j : NodeKind) → (is_of kind.TagArm j && first_of ss j) ≡ false) → ((rest : List ℕ) → Stand nodes n ss rest → of_otherwise (otherwise_of items nodes token rest) ≡ all rest) → Stand nodes n (just (is_child shape.expression) ∷ just one_arm ∷ several arm_here ∷ ss) cs → TagcaseWhole token cs
  tagcase_by ss token cs apart behind s =
      on_head nodes n (TagcaseWhole token) (is_child shape.expression) (just one_arm ∷ several arm_here ∷ ss)
      (λ c rest is s. tags_is ss token rest apart behind s ∙ sym (skip_first nodes rounds c rest (plain_part nodes rounds n c (is_child shape.expression) plain_expression is))) cs s

  pub tagcase_is : (cs : List ℕ) → Stand nodes n (just (is_child shape.expression) ∷ just one_arm ∷ several arm_here ∷ []) cs → TagcaseWhole None cs
  tagcase_is cs s = tagcase_by [] None cs tags_end (λ rest s. sym (ended rest s)) s

  pub tagcase_others_is : (token : ℕ) (cs : List ℕ) → Stand nodes n (just (is_child shape.expression) ∷ just one_arm ∷ several arm_here ∷ body_slots) cs → TagcaseWhole (Some token) cs
  tagcase_others_is token cs s = tagcase_by body_slots (Some token) cs tags_apart (λ rest s. body_is rest s) s
