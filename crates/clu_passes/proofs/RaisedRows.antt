-- Each node raises what its children raise, in the order of the text, and behind that what it raises by itself.
use Rattle.std.proofs.Common.{◌≡◌, ◌∙◌, ℕ, ◌-◌, ◌&&◌, ◌||◌, not, Bool, true, false, if◌then◌else◌, List, [], ◌∷◌, ◌++◌, take, drop, get_or, Option, Some, None, refl, ap, ap₂, sym, subst, append_assoc, append-nil}
use Rattle.clu_base.proofs.Bools.{implied}
use Rattle.clu_tree.specs.declared.node.Node.{Node}
use Rattle.clu_tree.specs.declared.node.NodeKind.{NodeKind}
use Rattle.clu_tree.specs.declared.node.NodeKind.TheVariants as kind
use Rattle.clu_grammar.specs.Kinds.{is_type}
use Rattle.clu_parser.specs.Shape as shape
use Rattle.clu_parser.specs.Shape.{is_child, parts_of}
use Rattle.clu_syntax.specs.Kinds.{kind_at, is_expression}
use Rattle.clu_syntax.specs.Splits.{is_of, run, after_run, leading, type_of, after_option, one_of}
use Rattle.clu_syntax.specs.Slots.{is_constant}
use Rattle.clu_syntax.specs.Syntax.{Clauses, clause_and, Constants, Expression, a_name, an_index, Identifier}
use Rattle.clu_syntax.specs.Items.{Item, expressions_at, components_at, constants_at, tag_arms_at, whens_at, others_at}
use Rattle.clu_syntax.specs.Nodes.{before, item_at, body_of, for_of, split_clauses, otherwise_of, elements_of}
use Rattle.clu_parts.specs.Slots.{body_slots, HasClauses, no_more_clauses, clause}
use Rattle.clu_parts.proofs.Fitting.{Slot, just, several, at_most_one, may_stand, IsPart, AreParts, Stand, no_others, first_of, first_is, run_is, no_run, on_head, on_option, on_end, all_several, several_from, some_of, some_slot}
use Rattle.clu_declares.proofs.Below.{and_false}
use Rattle.clu_checking.specs.Files.{File}
use Rattle.clu_checking.specs.Typing.{takes_actuals}
use Rattle.clu_checking.specs.Raising.{Raise, failure, by_index, by_expression, by_expressions, by_components, by_constants, by_statement, by_body, by_clauses, by_otherwise, by_tag_arms, by_whens, by_others}
use Rattle.clu_passes.specs.Raised.{has_actuals, own_raises, raises_of}
use Rattle.clu_passes.proofs.RaisedNodes.{raises_some, all_in, all_split, all_append, skip_first, plain_part, plain_parts, expression_in, expressions_in, components_in, constants_in, tag_arms_in, whens_in, body_is, others_part}

-- ---- lists

module _ {A : Type 0} where
  one_more : (x y own : List A) → x ≡ y → x ++ own ≡ (y ++ []) ++ own
  one_more x y own e = ap (λ (l : List A). l ++ own) (e ∙ sym (append-nil y))

  two_more : (a b x y own : List A) → a ≡ x → b ≡ y → (a ++ b) ++ own ≡ (x ++ (y ++ [])) ++ own
  two_more a b x y own e g = ap₂ (λ (p q : List A). (p ++ q) ++ own) e (g ∙ sym (append-nil y))

  three_more : (a b c x y z own : List A) → a ≡ x → b ≡ y → c ≡ z → ((a ++ b) ++ c) ++ own ≡ (x ++ (y ++ (z ++ []))) ++ own
  three_more a b c x y z own e g h =
      ap₂ (λ (p q : List A). (p ++ q) ++ own) (ap₂ (λ (p q : List A). p ++ q) e g) (h ∙ sym (append-nil z))
      ∙ ap (λ (p : List A). p ++ own) (append_assoc x y (z ++ []))

  then_list : (a b x y own : List A) → a ≡ x → b ≡ y → (a ++ b) ++ own ≡ (x ++ y) ++ own
  then_list a b x y own e g = ap₂ (λ (p q : List A). (p ++ q) ++ own) e g

  pub ended_by : (x y : List A) → x ≡ y → x ≡ y ++ []
  ended_by x y e = e ∙ sym (append-nil y)

pub parts_as : (nodes : List Node) (n : ℕ) (p q : NodeKind → Bool) → ((k : NodeKind) → p k ≡ q k) → (cs : List ℕ) → AreParts nodes p n cs → AreParts nodes q n cs
parts_as nodes n p q same [] ps = tt
parts_as nodes n p q same (c ∷ cs) ps = ((ps.0.0, sym (same (kind_at nodes c)) ∙ ps.0.1), parts_as nodes n p q same cs ps.1)

-- ---- kinds in slots

abbrev expression_slot : Slot
expression_slot = just (is_child shape.expression)

abbrev type_slot : Slot
type_slot = just (is_child shape.any_type)

abbrev pub here : shape.Group → NodeKind → Bool
here g = may_stand 2 (parts_of g)

pub plain_type : (j : NodeKind) → (is_child shape.any_type j && raises_some j) ≡ false
plain_type kind.File = refl
plain_type _ = refl

plain_variable : (j : NodeKind) → (here shape.variable j && raises_some j) ≡ false
plain_variable kind.File = refl
plain_variable _ = refl

pub plain_decls : (j : NodeKind) → (is_of kind.Decl j && raises_some j) ≡ false
plain_decls kind.File = refl
plain_decls _ = refl

call_is : (j : NodeKind) → (not (is_child (shape.one kind.Call) j) || is_expression j) ≡ true
call_is kind.File = refl
call_is _ = refl

pub a_call : (nodes : List Node) (n c : ℕ) → IsPart nodes (is_child (shape.one kind.Call)) n c → IsPart nodes is_expression n c
a_call nodes n c is = (is.0, implied (is_child (shape.one kind.Call) (kind_at nodes c)) (is_expression (kind_at nodes c)) (call_is (kind_at nodes c)) is.1)

pub same_expressions : (j : NodeKind) → here shape.expressions j ≡ is_expression j
same_expressions kind.File = refl
same_expressions _ = refl

pub same_in_parens : (j : NodeKind) → here shape.expressions_in_parens j ≡ is_expression j
same_in_parens kind.File = refl
same_in_parens _ = refl

pub same_more : (j : NodeKind) → here shape.more_expressions j ≡ is_expression j
same_more kind.File = refl
same_more _ = refl

pub first_more : (j : NodeKind) → is_child shape.expression j ≡ here shape.more_expressions j
first_more kind.File = refl
first_more _ = refl

same_constants : (j : NodeKind) → here shape.more_constants j ≡ is_constant j
same_constants kind.File = refl
same_constants _ = refl

first_constant : (j : NodeKind) → is_child shape.constant j ≡ here shape.more_constants j
first_constant kind.File = refl
first_constant _ = refl

same_components : (j : NodeKind) → here shape.more_components j ≡ is_of kind.FieldE j
same_components kind.File = refl
same_components _ = refl

first_component : (j : NodeKind) → is_child (shape.one kind.FieldE) j ≡ here shape.more_components j
first_component kind.File = refl
first_component _ = refl

components_end : (j : NodeKind) → (is_of kind.FieldE j && first_of [] j) ≡ false
components_end kind.File = refl
components_end _ = refl

same_decls : (j : NodeKind) → here shape.decls j ≡ is_of kind.Decl j
same_decls kind.File = refl
same_decls _ = refl

abbrev call_body : List Slot
call_body = just (is_child (shape.one kind.Call)) ∷ body_slots

loop_apart : (j : NodeKind) → (is_of kind.Decl j && first_of call_body j) ≡ false
loop_apart kind.File = refl
loop_apart _ = refl

same_taken : (j : NodeKind) → here shape.decls_in_parens j ≡ is_of kind.Decl j
same_taken kind.File = refl
same_taken _ = refl

arm_apart : (j : NodeKind) → (is_of kind.Decl j && first_of body_slots j) ≡ false
arm_apart kind.File = refl
arm_apart _ = refl

same_arms : (j : NodeKind) → here shape.more_arms j ≡ is_of kind.TagArm j
same_arms kind.File = refl
same_arms _ = refl

first_arm : (j : NodeKind) → is_child (shape.one kind.TagArm) j ≡ here shape.more_arms j
first_arm kind.File = refl
first_arm _ = refl

tags_end : (j : NodeKind) → (is_of kind.TagArm j && first_of [] j) ≡ false
tags_end kind.File = refl
tags_end _ = refl

tags_apart : (j : NodeKind) → (is_of kind.TagArm j && first_of body_slots j) ≡ false
tags_apart kind.File = refl
tags_apart _ = refl

same_whens : (j : NodeKind) → here shape.whens j ≡ is_of kind.When j
same_whens kind.File = refl
same_whens _ = refl

abbrev others_slots : List Slot
others_slots = at_most_one (here shape.others) ∷ []

whens_apart : (j : NodeKind) → (is_of kind.When j && first_of others_slots j) ≡ false
whens_apart kind.File = refl
whens_apart _ = refl

body_items : (k : NodeKind) → (some_of body_slots k && is_expression k) ≡ false
body_items kind.File = refl
body_items _ = refl

empty_body : (nodes : List Node) (n : ℕ) (cs : List ℕ) → Stand nodes n [] cs → Stand nodes n body_slots cs
empty_body nodes n cs s = no_others _ _ cs (no_others _ _ cs s)

module _ (f : File) (n : ℕ) where
  abbrev nodes : List Node
  nodes = f.nodes

  abbrev items : ℕ → Item
  items = before n (item_at nodes)

  abbrev all : List ℕ → List Raise
  all = all_in f

  abbrev E : ℕ → List Raise
  E c = by_expression f (items c).expression

  one_is : (c : ℕ) → IsPart nodes (is_child shape.expression) n c → E c ≡ raises_of f c
  one_is c is = expression_in f n c is.0 is.1

  -- ---- expressions

  -- operands by number, and what the node raises itself
  pub unary : (own : List Raise) (cs : List ℕ) → Stand nodes n (expression_slot ∷ []) cs → E (get_or cs 0 0) ++ own ≡ all cs ++ own
  unary own cs s =
      on_head nodes n (λ cs. E (get_or cs 0 0) ++ own ≡ all cs ++ own) (is_child shape.expression) []
      (λ c rest is s. on_end nodes n (λ rest. E c ++ own ≡ all (c ∷ rest) ++ own) (one_more (E c) (raises_of f c) own (one_is c is)) rest s) cs s

  pub alone : (cs : List ℕ) → Stand nodes n (expression_slot ∷ []) cs → E (get_or cs 0 0) ≡ all cs ++ []
  alone cs s = sym (append-nil (E (get_or cs 0 0))) ∙ unary [] cs s

  pub binary : (own : List Raise) (cs : List ℕ) → Stand nodes n (expression_slot ∷ expression_slot ∷ []) cs → (E (get_or cs 0 0) ++ E (get_or cs 1 0)) ++ own ≡ all cs ++ own
  binary own cs s =
      on_head nodes n (λ cs. (E (get_or cs 0 0) ++ E (get_or cs 1 0)) ++ own ≡ all cs ++ own) (is_child shape.expression) (expression_slot ∷ [])
      (λ a rest is_a s. on_head nodes n (λ rest. (E a ++ E (get_or rest 0 0)) ++ own ≡ all (a ∷ rest) ++ own) (is_child shape.expression) []
      (λ b rest is_b s. on_end nodes n (λ rest. (E a ++ E b) ++ own ≡ all (a ∷ b ∷ rest) ++ own) (two_more (E a) (E b) (raises_of f a) (raises_of f b) own (one_is a is_a) (one_is b is_b)) rest s) rest s) cs s

  pub ternary : (own : List Raise) (cs : List ℕ) → Stand nodes n (expression_slot ∷ expression_slot ∷ expression_slot ∷ []) cs → ((E (get_or cs 0 0) ++ E (get_or cs 1 0)) ++ E (get_or cs 2 0)) ++ own ≡ all cs ++ own
  ternary own cs s =
      on_head nodes n (λ cs. ((E (get_or cs 0 0) ++ E (get_or cs 1 0)) ++ E (get_or cs 2 0)) ++ own ≡ all cs ++ own) (is_child shape.expression) (expression_slot ∷ expression_slot ∷ [])
      (λ a rest is_a s. on_head nodes n (λ rest. ((E a ++ E (get_or rest 0 0)) ++ E (get_or rest 1 0)) ++ own ≡ all (a ∷ rest) ++ own) (is_child shape.expression) (expression_slot ∷ [])
      (λ b rest is_b s. on_head nodes n (λ rest. ((E a ++ E b) ++ E (get_or rest 0 0)) ++ own ≡ all (a ∷ b ∷ rest) ++ own) (is_child shape.expression) []
      (λ c rest is_c s. on_end nodes n (λ rest. ((E a ++ E b) ++ E c) ++ own ≡ all (a ∷ b ∷ c ∷ rest) ++ own) (three_more (E a) (E b) (E c) (raises_of f a) (raises_of f b) (raises_of f c) own (one_is a is_a) (one_is b is_b) (one_is c is_c)) rest s) rest s) rest s) cs s

  -- a type alone
  pub of_type : (cs : List ℕ) → Stand nodes n (type_slot ∷ []) cs → [] ≡ all cs ++ []
  of_type cs s =
      on_head nodes n (λ cs. [] ≡ all cs ++ []) (is_child shape.any_type) []
      (λ c rest is s. on_end nodes n (λ rest. [] ≡ all (c ∷ rest) ++ []) (sym (append-nil (all (c ∷ [])) ∙ skip_first f c [] (plain_part f n c (is_child shape.any_type) plain_type is))) rest s) cs s

  pub none : (cs : List ℕ) → Stand nodes n [] cs → all cs ≡ []
  none cs s = on_end nodes n (λ cs. all cs ≡ []) refl cs s

  -- a called routine and arguments
  pub call : (own : List Raise) (cs : List ℕ) → Stand nodes n (expression_slot ∷ several (here shape.expressions) ∷ []) cs → (E (get_or cs 0 0) ++ by_expressions f (expressions_at items (drop 1 cs))) ++ own ≡ all cs ++ own
  call own cs s =
      on_head nodes n (λ cs. (E (get_or cs 0 0) ++ by_expressions f (expressions_at items (drop 1 cs))) ++ own ≡ all cs ++ own) (is_child shape.expression) (several (here shape.expressions) ∷ [])
      (λ c rest is s. then_list (E c) (by_expressions f (expressions_at items rest)) (raises_of f c) (all rest) own (one_is c is) (expressions_in f n rest (all_several nodes n (here shape.expressions) is_expression rest same_expressions s))) cs s

  -- brackets after what is indexed
  index_by : (e : Expression) (cs : Constants) (x ys : List Raise) → by_expression f e ≡ x → by_constants f cs ≡ ys →
      by_expression f (an_index n e cs) ≡ (if not (has_actuals f (an_index n e cs)) then (x ++ ys) ++ own_raises f (an_index n e cs) else [])
  index_by (a_name m name) cs x ys e g = by (takes_actuals f m name)
    where
      by : (b : Bool) → by_index f b n m name (by_constants f cs) ≡ (if not b then (x ++ ys) ++ own_raises f (an_index n (a_name m name) cs) else [])
      by true = refl
      by false = then_list (by_expression f (a_name m name)) (by_constants f cs) x ys (own_raises f (an_index n (a_name m name) cs)) e g
  index_by e cs x ys g h = then_list (by_expression f e) (by_constants f cs) x ys (own_raises f (an_index n e cs)) g h

  pub index : (cs : List ℕ) → Stand nodes n (expression_slot ∷ just (is_child shape.constant) ∷ several (here shape.more_constants) ∷ []) cs →
      by_expression f (an_index n (items (get_or cs 0 0)).expression (constants_at items (drop 1 cs)))
      ≡ (if not (has_actuals f (an_index n (items (get_or cs 0 0)).expression (constants_at items (drop 1 cs)))) then all cs ++ own_raises f (an_index n (items (get_or cs 0 0)).expression (constants_at items (drop 1 cs))) else [])
  index cs s =
      on_head nodes n
      (λ cs. by_expression f (an_index n (items (get_or cs 0 0)).expression (constants_at items (drop 1 cs)))
      ≡ (if not (has_actuals f (an_index n (items (get_or cs 0 0)).expression (constants_at items (drop 1 cs)))) then all cs ++ own_raises f (an_index n (items (get_or cs 0 0)).expression (constants_at items (drop 1 cs))) else []))
      (is_child shape.expression) (just (is_child shape.constant) ∷ several (here shape.more_constants) ∷ [])
      (λ c rest is s. index_by (items c).expression (constants_at items rest) (raises_of f c) (all rest) (one_is c is)
      (constants_in f n rest (all_several nodes n (here shape.more_constants) is_constant rest same_constants (several_from nodes n (is_child shape.constant) (here shape.more_constants) [] rest first_constant s)))) cs s

  -- components behind a type
  pub components : (cs : List ℕ) → Stand nodes n (type_slot ∷ just (is_child (shape.one kind.FieldE)) ∷ several (here shape.more_components) ∷ []) cs → by_components f (components_at items (run nodes kind.FieldE (drop 1 cs))) ≡ all cs ++ []
  components cs s =
      on_head nodes n (λ cs. by_components f (components_at items (run nodes kind.FieldE (drop 1 cs))) ≡ all cs ++ []) (is_child shape.any_type) (just (is_child (shape.one kind.FieldE)) ∷ several (here shape.more_components) ∷ [])
      (λ c rest is s. ended_by _ (all (c ∷ rest)) (fields rest s ∙ sym (skip_first f c rest (plain_part f n c (is_child shape.any_type) plain_type is)))) cs s
    where
      fields : (rest : List ℕ) → Stand nodes n (just (is_child (shape.one kind.FieldE)) ∷ several (here shape.more_components) ∷ []) rest → by_components f (components_at items (run nodes kind.FieldE rest)) ≡ all rest
      fields rest s =
          let r = run_is nodes n kind.FieldE (here shape.more_components) [] rest same_components components_end (several_from nodes n (is_child (shape.one kind.FieldE)) (here shape.more_components) [] rest first_component s) in
          components_in f n (run nodes kind.FieldE rest) r.parts
          ∙ sym (append-nil (all (run nodes kind.FieldE rest)))
          ∙ ap (λ (l : List Raise). all (run nodes kind.FieldE rest) ++ l) (sym (none (after_run nodes kind.FieldE rest) r.rest))
          ∙ sym (all_split f (leading nodes kind.FieldE rest) rest)

  -- elements behind a type, the first of which may be the low bound
  pub elements : (token : Option ℕ) (c : ℕ) (rest : List ℕ) → IsPart nodes (is_child shape.any_type) n c → AreParts nodes is_expression n rest →
      by_expression f (elements_of items nodes n (items c).type token rest) ≡ all (c ∷ rest) ++ failure ∷ []
  elements token c rest is ps =
      by token rest ps ∙ ap (λ (l : List Raise). l ++ failure ∷ []) (sym (skip_first f c rest (plain_part f n c (is_child shape.any_type) plain_type is)))
    where
      by : (token : Option ℕ) (rest : List ℕ) → AreParts nodes is_expression n rest → by_expression f (elements_of items nodes n (items c).type token rest) ≡ all rest ++ failure ∷ []
      by None rest ps = ap (λ (l : List Raise). l ++ failure ∷ []) (expressions_in f n rest ps)
      by (Some at) [] ps = refl
      by (Some at) (d ∷ ds) ps = then_list (E d) (by_expressions f (expressions_at items ds)) (raises_of f d) (all ds) (failure ∷ []) (expression_in f n d ps.0.0 ps.0.1) (expressions_in f n ds ps.1)

  -- ---- statements

  pub values : (cs : List ℕ) → AreParts nodes is_expression n cs → by_expressions f (expressions_at items cs) ≡ all cs ++ []
  values cs ps = ended_by (by_expressions f (expressions_at items cs)) (all cs) (expressions_in f n cs ps)

  pub while_is : (cs : List ℕ) → Stand nodes n (expression_slot ∷ body_slots) cs → E (get_or cs 0 0) ++ by_body f (body_of items nodes (drop 1 cs)) ≡ all cs ++ []
  while_is cs s =
      on_head nodes n (λ cs. E (get_or cs 0 0) ++ by_body f (body_of items nodes (drop 1 cs)) ≡ all cs ++ []) (is_child shape.expression) body_slots
      (λ c rest is s. ended_by _ (all (c ∷ rest)) (ap₂ (λ (x y : List Raise). x ++ y) (one_is c is) (body_is f n rest s))) cs s

  -- a call behind declarations, or names
  pub for_is : (names : List Identifier) (cs : List ℕ) → all (run nodes kind.Decl cs) ≡ [] → Stand nodes n call_body (after_run nodes kind.Decl cs) → by_statement f (for_of items nodes n names (run nodes kind.Decl cs) (after_run nodes kind.Decl cs)) ≡ all cs ++ []
  for_is names cs plain s =
      ended_by _ (all cs)
      (on_head nodes n (λ rest. by_statement f (for_of items nodes n names (run nodes kind.Decl cs) rest) ≡ all rest) (is_child (shape.one kind.Call)) body_slots
      (λ c rest is s. by names c rest is s) (after_run nodes kind.Decl cs) s
      ∙ ap (λ (l : List Raise). l ++ all (after_run nodes kind.Decl cs)) (sym plain) ∙ sym (all_split f (leading nodes kind.Decl cs) cs))
    where
      by : (names : List Identifier) (c : ℕ) (rest : List ℕ) → IsPart nodes (is_child (shape.one kind.Call)) n c → Stand nodes n body_slots rest → by_statement f (for_of items nodes n names (run nodes kind.Decl cs) (c ∷ rest)) ≡ all (c ∷ rest)
      by [] c rest is s = let e = a_call nodes n c is in ap₂ (λ (x y : List Raise). x ++ y) (expression_in f n c e.0 e.1) (body_is f n rest s)
      by (name ∷ names) c rest is s = let e = a_call nodes n c is in ap₂ (λ (x y : List Raise). x ++ y) (expression_in f n c e.0 e.1) (body_is f n rest s)

  pub for_decls : (names : List Identifier) (cs : List ℕ) → Stand nodes n (several (here shape.decls) ∷ call_body) cs → by_statement f (for_of items nodes n names (run nodes kind.Decl cs) (after_run nodes kind.Decl cs)) ≡ all cs ++ []
  for_decls names cs s =
      let r = run_is nodes n kind.Decl (here shape.decls) call_body cs same_decls loop_apart s in
      for_is names cs (plain_parts f n (is_of kind.Decl) (run nodes kind.Decl cs) plain_decls r.parts) r.rest

  pub for_names : (names : List Identifier) (cs : List ℕ) → Stand nodes n call_body cs → by_statement f (for_of items nodes n names (run nodes kind.Decl cs) (after_run nodes kind.Decl cs)) ≡ all cs ++ []
  for_names names cs s =
      let none : leading nodes kind.Decl cs ≡ 0 = no_run nodes n kind.Decl call_body cs loop_apart s in
      for_is names cs (ap (λ (m : ℕ). all (take m cs)) none) (subst (λ (m : ℕ). Stand nodes n call_body (drop m cs)) (sym none) s)

  -- ---- arms

  pub when_is : (cs : List ℕ) → Stand nodes n (several (here shape.decls_in_parens) ∷ body_slots) cs → by_body f (body_of items nodes (after_run nodes kind.Decl cs)) ≡ all cs ++ []
  when_is cs s =
      let r = run_is nodes n kind.Decl (here shape.decls_in_parens) body_slots cs same_taken arm_apart s in
      ended_by _ (all cs)
      (body_is f n (after_run nodes kind.Decl cs) r.rest
      ∙ ap (λ (l : List Raise). l ++ all (after_run nodes kind.Decl cs)) (sym (plain_parts f n (is_of kind.Decl) (run nodes kind.Decl cs) plain_decls r.parts))
      ∙ sym (all_split f (leading nodes kind.Decl cs) cs))

  pub any_when_is : (cs : List ℕ) → Stand nodes n body_slots cs → by_body f (body_of items nodes (after_run nodes kind.Decl cs)) ≡ all cs ++ []
  any_when_is cs s =
      ended_by _ (all cs) (subst (λ (m : ℕ). by_body f (body_of items nodes (drop m cs)) ≡ all cs) (sym (no_run nodes n kind.Decl body_slots cs arm_apart s)) (body_is f n cs s))

  -- a body behind a type, if there is one
  pub behind_type : (cs : List ℕ) → Stand nodes n (at_most_one (here shape.variable) ∷ body_slots) cs → by_body f (body_of items nodes (after_option (type_of nodes cs) cs)) ≡ all cs ++ []
  behind_type cs s =
      ended_by _ (all cs)
      (on_option nodes n (λ cs. by_body f (body_of items nodes (after_option (type_of nodes cs) cs)) ≡ all cs) (here shape.variable) body_slots
      (λ cs s. ap (λ (o : Option ℕ). by_body f (body_of items nodes (after_option o cs))) (no_type cs s) ∙ body_is f n cs s)
      (λ c rest is s. ap (λ (b : Bool). by_body f (body_of items nodes (after_option (if b then Some c else None) (c ∷ rest)))) (sym (same (kind_at nodes c)) ∙ is.1) ∙ body_is f n rest s ∙ sym (skip_first f c rest (plain_part f n c (here shape.variable) plain_variable is))) cs s)
    where
      same : (j : NodeKind) → here shape.variable j ≡ is_type j
      same kind.File = refl
      same _ = refl

      apart : (j : NodeKind) → (first_of body_slots j && is_type j) ≡ false
      apart kind.File = refl
      apart _ = refl

      no_type : (cs : List ℕ) → Stand nodes n body_slots cs → type_of nodes cs ≡ None
      no_type [] s = refl
      no_type (c ∷ cs) s = ap (λ (b : Bool). if b then Some c else None) (sym (ap (λ (b : Bool). b && is_type (kind_at nodes c)) (first_is nodes n body_slots c cs s)) ∙ apart (kind_at nodes c))

  -- ---- the arms of a Tagcase, and what stands behind them

  tags : (ss : List Slot) (cs : List ℕ) → ((j : NodeKind) → (is_of kind.TagArm j && first_of ss j) ≡ false) → Stand nodes n (just (is_child (shape.one kind.TagArm)) ∷ several (here shape.more_arms) ∷ ss) cs → (by_tag_arms f (tag_arms_at items (run nodes kind.TagArm cs)) ≡ all (run nodes kind.TagArm cs)) × Stand nodes n ss (after_run nodes kind.TagArm cs)
  tags ss cs apart s =
      let r = run_is nodes n kind.TagArm (here shape.more_arms) ss cs same_arms apart (several_from nodes n (is_child (shape.one kind.TagArm)) (here shape.more_arms) ss cs first_arm s) in
      (tag_arms_in f n (run nodes kind.TagArm cs) r.parts, r.rest)

  abbrev pub TagcaseWhole : Option ℕ → List ℕ → Type 0
  TagcaseWhole token cs = (E (get_or cs 0 0) ++ by_tag_arms f (tag_arms_at items (run nodes kind.TagArm (drop 1 cs)))) ++ by_otherwise f (otherwise_of items nodes token (after_run nodes kind.TagArm (drop 1 cs))) ≡ all cs ++ []

  tagcase_by : (ss : List Slot) (token : Option ℕ) (cs : List ℕ) → ((j : NodeKind) → (is_of kind.TagArm j && first_of ss j) ≡ false) → ((rest : List ℕ) → Stand nodes n ss rest → by_otherwise f (otherwise_of items nodes token rest) ≡ all rest)
      → Stand nodes n (expression_slot ∷ just (is_child (shape.one kind.TagArm)) ∷ several (here shape.more_arms) ∷ ss) cs → TagcaseWhole token cs
  tagcase_by ss token cs apart behind s =
      on_head nodes n (TagcaseWhole token) (is_child shape.expression) (just (is_child (shape.one kind.TagArm)) ∷ several (here shape.more_arms) ∷ ss)
      (λ c rest is s.
      let t = tags ss rest apart s in
      ended_by _ (all (c ∷ rest))
      (append_assoc (E c) (by_tag_arms f (tag_arms_at items (run nodes kind.TagArm rest))) (by_otherwise f (otherwise_of items nodes token (after_run nodes kind.TagArm rest)))
      ∙ ap₂ (λ (x y : List Raise). x ++ y) (one_is c is)
      (ap₂ (λ (x y : List Raise). x ++ y) t.0 (behind (after_run nodes kind.TagArm rest) t.1) ∙ sym (all_split f (leading nodes kind.TagArm rest) rest)))) cs s

  pub tagcase_is : (cs : List ℕ) → Stand nodes n (expression_slot ∷ just (is_child (shape.one kind.TagArm)) ∷ several (here shape.more_arms) ∷ []) cs → TagcaseWhole None cs
  tagcase_is cs s = tagcase_by [] None cs tags_end (λ rest s. sym (none rest s)) s

  pub tagcase_others : (token : ℕ) (cs : List ℕ) → Stand nodes n (expression_slot ∷ just (is_child (shape.one kind.TagArm)) ∷ several (here shape.more_arms) ∷ body_slots) cs → TagcaseWhole (Some token) cs
  tagcase_others token cs s = tagcase_by body_slots (Some token) cs tags_apart (λ rest s. body_is f n rest s) s

  -- ---- the handlers of an Except

  pub handlers : (cs : List ℕ) → Stand nodes n (several (here shape.whens) ∷ others_slots) cs → by_whens f (whens_at items (run nodes kind.When cs)) ++ by_others f (others_at items (one_of nodes kind.Others (after_run nodes kind.When cs))) ≡ all cs
  handlers cs s =
      let r = run_is nodes n kind.When (here shape.whens) others_slots cs same_whens whens_apart s in
      ap₂ (λ (x y : List Raise). x ++ y) (whens_in f n (run nodes kind.When cs) r.parts) (others_part f n (after_run nodes kind.When cs) r.rest)
      ∙ sym (all_split f (leading nodes kind.When cs) cs)

  -- ---- the clauses of an If

  abbrev split : List ℕ → List ℕ × Clauses
  split = split_clauses items nodes

  split_by : ℕ → List ℕ → Bool → List ℕ × Clauses
  split_by c cs b = if b then ([], clause_and (items c).expression (body_of items nodes (split cs).0) (split cs).1) else (c ∷ (split cs).0, (split cs).1)

  a_condition : (c : ℕ) (cs : List ℕ) → is_expression (kind_at nodes c) ≡ true → split (c ∷ cs) ≡ ([], clause_and (items c).expression (body_of items nodes (split cs).0) (split cs).1)
  unfolding split_by
  a_condition c cs e = ap (λ (b : Bool). split_by c cs b) e

  an_item : (c : ℕ) (cs : List ℕ) → is_expression (kind_at nodes c) ≡ false → split (c ∷ cs) ≡ (c ∷ (split cs).0, (split cs).1)
  unfolding split_by
  an_item c cs e = ap (λ (b : Bool). split_by c cs b) e

  some_items : (xs cs : List ℕ) → AreParts nodes (some_of body_slots) n xs → split (xs ++ cs) ≡ (xs ++ (split cs).0, (split cs).1)
  some_items [] cs ps = refl
  some_items (x ∷ xs) cs ps =
      an_item x (xs ++ cs) (and_false (some_of body_slots (kind_at nodes x)) (is_expression (kind_at nodes x)) (body_items (kind_at nodes x)) ps.0.1)
      ∙ ap (λ (r : List ℕ × Clauses). (x ∷ r.0, r.1)) (some_items xs cs ps.1)

  pub clauses_are : (cs : List ℕ) → HasClauses nodes n cs → ((split cs).0 ≡ []) × (by_clauses f (split cs).1 ≡ all cs)
  clauses_are _ no_more_clauses = (refl, refl)
  clauses_are _ (clause c body rest is s more) =
      let m = clauses_are rest more in
      let behind : split (body ++ rest) ≡ (body ++ (split rest).0, (split rest).1) = some_items body rest (some_slot nodes n body_slots body s) in
      let first : split (c ∷ body ++ rest) ≡ ([], clause_and (items c).expression (body_of items nodes (split (body ++ rest)).0) (split (body ++ rest)).1) = a_condition c (body ++ rest) is.1 in
      let inside : (split (body ++ rest)).0 ≡ body = ap (λ (r : List ℕ × Clauses). r.0) behind ∙ ap (λ (xs : List ℕ). body ++ xs) m.0 ∙ append-nil body in
      let others : by_clauses f (split (body ++ rest)).1 ≡ all rest = ap (λ (r : List ℕ × Clauses). by_clauses f r.1) behind ∙ m.1 in
      let step : by_clauses f (split (c ∷ body ++ rest)).1 ≡ (E c ++ by_body f (body_of items nodes (split (body ++ rest)).0)) ++ by_clauses f (split (body ++ rest)).1 = ap (λ (r : List ℕ × Clauses). by_clauses f r.1) first in (
        ap (λ (r : List ℕ × Clauses). r.0) first,
        step
            ∙ ap₂ (λ (xs : List ℕ) (ys : List Raise). (E c ++ by_body f (body_of items nodes xs)) ++ ys) inside others
            ∙ ap (λ (xs : List Raise). (E c ++ xs) ++ all rest) (body_is f n body s)
            ∙ ap (λ (xs : List Raise). (xs ++ all body) ++ all rest) (expression_in f n c is.0 is.1)
            ∙ append_assoc (raises_of f c) (all body) (all rest)
            ∙ ap (λ (xs : List Raise). raises_of f c ++ xs) (sym (all_append f body rest)),
      )
