-- What a node raises by the definitions is its row over what its children raise; and tables in which each node has its row have
-- what each node raises.
use Rattle.std.proofs.Common.{◌≡◌, ◌∙◌, ℕ, ◌-◌, Bool, true, false, not, ◌&&◌, if◌then◌else◌, List, [], ◌∷◌, ◌++◌, length, take, drop, get_or, Option, Some, None, refl, ap, ap₂, sym, subst, inl, inr, append_assoc, append-nil}
use Rattle.clu_tree.specs.declared.node.Node.{Node}
use Rattle.clu_tree.specs.declared.node.NodeKind.{NodeKind}
use Rattle.clu_tree.specs.declared.node.NodeKind.TheVariants as kind
use Rattle.clu_parser.specs.Shape as shape
use Rattle.clu_parser.specs.Shape.{Part, is_child, IsWord, IsFormOf, forms, names_in, HasForm}
use Rattle.clu_parser.specs.Trees.{Text}
use Rattle.clu_syntax.specs.Kinds.{kind_at, is_expression}
use Rattle.clu_syntax.specs.Splits.{is_of, run, after_run, leading, leading_before, one_of}
use Rattle.clu_syntax.specs.Syntax.{Expression, Statement, Identifier, a_resignal}
use Rattle.clu_syntax.specs.Items.{Item, whens_at, others_at}
use Rattle.clu_syntax.specs.Nodes.{before, item_at, component_of, expression_of, for_of, elements_of, except_of, init_of, others_of, statement_of, tag_arm_of, when_of}
use Rattle.clu_parts.specs.Slots.{IfParts, slots_of}
use Rattle.clu_parts.proofs.Counted.{is_unnamed, no_names, unnamed, is_unvalued, no_values, no_value, is_valued, some_value, value_there}
use Rattle.clu_parts.proofs.Fitting.{Slot, just, several, at_most_one, IsPart, AreParts, Stand, first_of, run_is, on_head, on_end, all_several, several_from, some_of, some_slot, fitted}
use Rattle.clu_parts.proofs.Ifs.{if_parts}
use Rattle.clu_parts.proofs.Lists.{last_of, run_then}
use Rattle.clu_declares.specs.Declares.{IsParsed}
use Rattle.clu_declares.proofs.Below.{item_there}
use Rattle.clu_declares.proofs.Facts.{There, there}
use Rattle.clu_checking.specs.Files.{File, item, node_children, children}
use Rattle.clu_checking.specs.Raising.{Raise, failure, by_body, by_expression, by_others, by_statement, by_whens, without}
use Rattle.clu_typing.specs.Raises.{is_done_as, tail_of}
use Rattle.clu_passes.specs.Raised.{has_actuals, inside_as, own_as, own_raises, own_raises_of, part_raises, passed_by, raises_as, raises_of, row_as, row_of}
use Rattle.clu_passes.proofs.RaisedNodes.{all_in, all_split, body_is, else_is, expression_in, plain_parts, skip_first, plain_part, statement_in}
use Rattle.clu_passes.proofs.RaisedRows.{TagcaseWhole, alone, any_when_is, behind_type, binary, call, clauses_are, components, elements, ended_by, for_decls, for_names, handlers, here, index, none, of_type, parts_as, plain_decls, plain_type, same_expressions, same_in_parens, same_more, first_more, tagcase_is, tagcase_others, ternary, unary, values, a_call, when_is, while_is}

module _ (t : Text) (f : File) (parsed : IsParsed t f.nodes) (n : ℕ) where
  abbrev nodes : List Node
  nodes = f.nodes

  abbrev items : ℕ → Item
  items = before n (item_at nodes)

  abbrev D : ℕ → List Raise
  D = raises_of f

  abbrev all : List ℕ → List Raise
  all = all_in f

  -- ---- the form of the node

  module _ (k : NodeKind) (x : There nodes n k) where
    its_form : HasForm nodes x.node
    its_form = parsed.forms n x.node x.at

    stand_in : (form : List Part) → its_form.form ≡ form → Stand nodes n (slots_of form) x.node.children
    stand_in form e = subst (λ (form : List Part). Stand nodes n (slots_of form) x.node.children) e (fitted nodes parsed.tree n x.node x.at its_form)

    word_in : (form : List Part) → its_form.form ≡ form → IsWord form its_form.word
    word_in form e = subst (λ (form : List Part). IsWord form its_form.word) e its_form.is_word

    form_of : IsFormOf its_form.form (forms k)
    form_of = subst (λ (k : NodeKind). IsFormOf its_form.form (forms k)) x.is its_form.of_kind

    only : (form : List Part) → forms k ≡ form ∷ [] → Stand nodes n (slots_of form) x.node.children
    only form one = elim (subst (λ (fs : List (List Part)). IsFormOf its_form.form fs) one form_of) [ inl e ↦ stand_in form e | inr never ↦ absurd never ]

    unnamed_in : (form : List Part) → its_form.form ≡ form → is_unnamed 2 form ≡ true → x.node.names ≡ []
    unnamed_in form e free = unnamed x.node.names (names_in its_form.word) its_form.names_are (no_names 2 form its_form.word (word_in form e) free)

    without_value : (form : List Part) → its_form.form ≡ form → is_unvalued 2 form ≡ true → x.node.value_token ≡ None
    without_value form e free = no_value x.node (shape.values_in its_form.word) its_form.value_is (no_values 2 form its_form.word (word_in form e) free)

    with_value : (form : List Part) → its_form.form ≡ form → is_valued form ≡ true → (token : ℕ) × (x.node.value_token ≡ Some token)
    with_value form e some = value_there x.node (shape.values_in its_form.word) its_form.value_is (some_value form its_form.word (word_in form e) some)

    -- ---- what the node is

    its_children : children f n ≡ x.node.children
    its_children = ap (node_children f) x.at

    its_expression : (item f n).expression ≡ expression_of items nodes n x.node k
    its_expression = ap (λ (i : Item). i.expression) (item_there nodes n x.node x.at) ∙ ap (λ (k : NodeKind). expression_of items nodes n x.node k) x.is

    its_statement : (item f n).statement ≡ statement_of items nodes n x.node k
    its_statement = ap (λ (i : Item). i.statement) (item_there nodes n x.node x.at) ∙ ap (λ (k : NodeKind). statement_of items nodes n x.node k) x.is

    of_expression : by_expression f (expression_of items nodes n x.node k) ≡ all x.node.children ++ own_raises f (expression_of items nodes n x.node k)
        → by_expression f (item f n).expression ≡ all (children f n) ++ own_raises f (item f n).expression
    of_expression whole =
        subst (λ (e : Expression). by_expression f e ≡ all (children f n) ++ own_raises f e) (sym its_expression)
        (whole ∙ ap (λ (cs : List ℕ). all cs ++ own_raises f (expression_of items nodes n x.node k)) (sym its_children))

    of_statement : by_statement f (statement_of items nodes n x.node k) ≡ all x.node.children ++ own_raises_of f (statement_of items nodes n x.node k)
        → by_statement f (item f n).statement ≡ all (children f n) ++ own_raises_of f (item f n).statement
    of_statement whole =
        subst (λ (s : Statement). by_statement f s ≡ all (children f n) ++ own_raises_of f s) (sym its_statement)
        (whole ∙ ap (λ (cs : List ℕ). all cs ++ own_raises_of f (statement_of items nodes n x.node k)) (sym its_children))

    of_index : by_expression f (expression_of items nodes n x.node k) ≡ (if not (has_actuals f (expression_of items nodes n x.node k)) then all x.node.children ++ own_raises f (expression_of items nodes n x.node k) else [])
        → by_expression f (item f n).expression ≡ (if not (has_actuals f (item f n).expression) then all (children f n) ++ own_raises f (item f n).expression else [])
    of_index whole =
        subst (λ (e : Expression). by_expression f e ≡ (if not (has_actuals f e) then all (children f n) ++ own_raises f e else [])) (sym its_expression)
        (whole ∙ ap (λ (cs : List ℕ). if not (has_actuals f (expression_of items nodes n x.node k)) then all cs ++ own_raises f (expression_of items nodes n x.node k) else []) (sym its_children))

    -- what is passed on, and what the handlers raise
    abbrev guarded : Statement → List ℕ → List Raise
    guarded s (c ∷ cs) = passed_by f s (D c)
    guarded s [] = []

    of_guard : by_statement f (statement_of items nodes n x.node k) ≡ (guarded (statement_of items nodes n x.node k) x.node.children ++ all (tail_of x.node.children)) ++ own_raises_of f (statement_of items nodes n x.node k)
        → by_statement f (item f n).statement ≡ (guarded (item f n).statement (children f n) ++ all (tail_of (children f n))) ++ own_raises_of f (item f n).statement
    of_guard whole =
        subst (λ (s : Statement). by_statement f s ≡ (guarded s (children f n) ++ all (tail_of (children f n))) ++ own_raises_of f s) (sym its_statement)
        (whole ∙ ap (λ (cs : List ℕ). (guarded (statement_of items nodes n x.node k) cs ++ all (tail_of cs)) ++ own_raises_of f (statement_of items nodes n x.node k)) (sym its_children))

    of_part : (raises : List Raise) → raises ≡ all x.node.children ++ [] → raises ≡ all (children f n) ++ []
    of_part raises whole = whole ∙ ap (λ (cs : List ℕ). all cs ++ []) (sym its_children)

  -- ---- kinds with several forms

  several_values : (p : NodeKind → Bool) → ((j : NodeKind) → p j ≡ is_expression j) → (cs : List ℕ) → Stand nodes n (several p ∷ []) cs → AreParts nodes is_expression n cs
  several_values p same cs s = all_several nodes n p is_expression cs same s

  -- elements behind a type
  own_elements : (c : ℕ) (token : Option ℕ) (rest : List ℕ) → own_raises f (elements_of items nodes n (items c).type token rest) ≡ failure ∷ []
  own_elements c None rest = refl
  own_elements c (Some at) [] = refl
  own_elements c (Some at) (d ∷ ds) = refl

  elems_is : (token : Option ℕ) (ss : List Slot) (cs : List ℕ) → ((rest : List ℕ) → Stand nodes n ss rest → AreParts nodes is_expression n rest) → Stand nodes n (just (is_child shape.any_type) ∷ ss) cs
      → by_expression f (elements_of items nodes n (items (get_or cs 0 0)).type token (drop 1 cs)) ≡ all cs ++ own_raises f (elements_of items nodes n (items (get_or cs 0 0)).type token (drop 1 cs))
  elems_is token ss cs behind s =
      on_head nodes n (λ cs. by_expression f (elements_of items nodes n (items (get_or cs 0 0)).type token (drop 1 cs)) ≡ all cs ++ own_raises f (elements_of items nodes n (items (get_or cs 0 0)).type token (drop 1 cs))) (is_child shape.any_type) ss
      (λ c rest is s. elements f n token c rest is (behind rest s) ∙ ap (λ (l : List Raise). all (c ∷ rest) ++ l) (sym (own_elements c token rest))) cs s

  low_bound : (ss : List Slot) → ((k : NodeKind) → some_of ss k ≡ is_expression k) → (rest : List ℕ) → Stand nodes n ss rest → AreParts nodes is_expression n rest
  low_bound ss same rest s = parts_as nodes n (some_of ss) is_expression same rest (some_slot nodes n ss rest s)

  bound_slots : (k : NodeKind) → some_of (just (is_child shape.expression) ∷ several (here shape.expressions) ∷ []) k ≡ is_expression k
  bound_slots kind.File = refl
  bound_slots _ = refl

  -- a call alone
  call_alone : (cs : List ℕ) → Stand nodes n (just (is_child (shape.one kind.Call)) ∷ []) cs → by_expression f (items (get_or cs 0 0)).expression ≡ all cs ++ []
  call_alone cs s =
      on_head nodes n (λ cs. by_expression f (items (get_or cs 0 0)).expression ≡ all cs ++ []) (is_child (shape.one kind.Call)) []
      (λ c rest is s. on_end nodes n (λ rest. by_expression f (items c).expression ≡ all (c ∷ rest) ++ [])
      (let e = a_call nodes n c is in ended_by _ (all (c ∷ [])) (ended_by _ (raises_of f c) (expression_in f n c e.0 e.1))) rest s) cs s

  -- ---- an Init

  abbrev with_children : Node → List ℕ → Node
  with_children node cs = record node { children = cs }

  abbrev InitIs : Node → List Identifier → List ℕ → Type 0
  InitIs node names cs = by_statement f (init_of items nodes n (with_children node cs) names) ≡ all cs ++ own_raises_of f (init_of items nodes n (with_children node cs) names)

  own_init : (node : Node) (names : List Identifier) (l : List Raise) → l ≡ l ++ own_raises_of f (init_of items nodes n node names)
  own_init node [] l = sym (append-nil l)
  own_init node (name ∷ names) l = sym (append-nil l)

  init_typed : (node : Node) (names : List Identifier) (cs : List ℕ) → Stand nodes n (just (is_child shape.any_type) ∷ just (is_child shape.expression) ∷ []) cs → InitIs node names cs
  init_typed node names cs s =
      on_head nodes n (InitIs node names) (is_child shape.any_type) (just (is_child shape.expression) ∷ [])
      (λ c rest is s. on_head nodes n (λ rest. InitIs node names (c ∷ rest)) (is_child shape.expression) []
      (λ d rest is_d s. on_end nodes n (λ rest. InitIs node names (c ∷ d ∷ rest)) (by names c d is is_d) rest s) rest s) cs s
    where
      value : (c d : ℕ) → IsPart nodes (is_child shape.any_type) n c → IsPart nodes (is_child shape.expression) n d → by_expression f (items d).expression ≡ all (c ∷ d ∷ [])
      value c d is is_d = ended_by _ (raises_of f d) (expression_in f n d is_d.0 is_d.1) ∙ sym (skip_first f c (d ∷ []) (plain_part f n c (is_child shape.any_type) plain_type is))

      by : (names : List Identifier) (c d : ℕ) → IsPart nodes (is_child shape.any_type) n c → IsPart nodes (is_child shape.expression) n d → InitIs node names (c ∷ d ∷ [])
      by [] c d is is_d = ap (λ (m : ℕ). by_expression f (items m).expression) (last_of (c ∷ []) d) ∙ value c d is is_d ∙ sym (append-nil (all (c ∷ d ∷ [])))
      by (name ∷ names) c d is is_d = value c d is is_d ∙ sym (append-nil (all (c ∷ d ∷ [])))

  abbrev call_slots : List Slot
  call_slots = just (is_child (shape.one kind.Call)) ∷ []

  same_decls : (j : NodeKind) → here shape.more_decls j ≡ is_of kind.Decl j
  same_decls kind.File = refl
  same_decls _ = refl

  first_decl : (j : NodeKind) → is_child (shape.one kind.Decl) j ≡ here shape.more_decls j
  first_decl kind.File = refl
  first_decl _ = refl

  decls_call : (j : NodeKind) → (is_of kind.Decl j && first_of call_slots j) ≡ false
  decls_call kind.File = refl
  decls_call _ = refl

  init_called : (node : Node) (cs : List ℕ) → Stand nodes n (just (is_child (shape.one kind.Decl)) ∷ several (here shape.more_decls) ∷ call_slots) cs → InitIs node [] cs
  init_called node cs s =
      let r = run_is nodes n kind.Decl (here shape.more_decls) call_slots cs same_decls decls_call (several_from nodes n (is_child (shape.one kind.Decl)) (here shape.more_decls) call_slots cs first_decl s) in
      on_head nodes n (λ (xs : List ℕ). xs ≡ after_run nodes kind.Decl cs → InitIs node [] cs) (is_child (shape.one kind.Call)) []
      (λ c rest is s. on_end nodes n (λ (rest : List ℕ). c ∷ rest ≡ after_run nodes kind.Decl cs → InitIs node [] cs) (one c is (plain_parts f n (is_of kind.Decl) (run nodes kind.Decl cs) plain_decls r.parts)) rest s)
      (after_run nodes kind.Decl cs) r.rest refl
    where
      one : (c : ℕ) → IsPart nodes (is_child (shape.one kind.Call)) n c → all (run nodes kind.Decl cs) ≡ [] → c ∷ [] ≡ after_run nodes kind.Decl cs → InitIs node [] cs
      one c is plain e =
          let whole : run nodes kind.Decl cs ++ c ∷ [] ≡ cs = run_then nodes n kind.Decl cs (c ∷ []) e in
          let last : get_or cs (length cs - 1) 0 ≡ c = ap (λ (xs : List ℕ). get_or xs (length xs - 1) 0) (sym whole) ∙ last_of (run nodes kind.Decl cs) c in
          let its = a_call nodes n c is in
          ap (λ (m : ℕ). by_expression f (items m).expression) last
          ∙ ended_by _ (raises_of f c) (expression_in f n c its.0 its.1)
          ∙ ap all e
          ∙ ap (λ (l : List Raise). l ++ all (after_run nodes kind.Decl cs)) (sym plain)
          ∙ sym (all_split f (leading nodes kind.Decl cs) cs)
          ∙ sym (append-nil (all cs))

  -- ---- a loop

  own_for : (names : List Identifier) (ds cs : List ℕ) → own_raises_of f (for_of items nodes n names ds cs) ≡ []
  own_for names ds [] = refl
  own_for [] ds (c ∷ cs) = refl
  own_for (name ∷ names) ds (c ∷ cs) = refl

  for_whole : (names : List Identifier) (cs : List ℕ) → by_statement f (for_of items nodes n names (run nodes kind.Decl cs) (after_run nodes kind.Decl cs)) ≡ all cs ++ []
      → by_statement f (for_of items nodes n names (run nodes kind.Decl cs) (after_run nodes kind.Decl cs)) ≡ all cs ++ own_raises_of f (for_of items nodes n names (run nodes kind.Decl cs) (after_run nodes kind.Decl cs))
  for_whole names cs e = e ∙ ap (λ (l : List Raise). all cs ++ l) (sym (own_for names (run nodes kind.Decl cs) (after_run nodes kind.Decl cs)))

  -- ---- statements with handlers

  abbrev handled : Statement → List ℕ → List Raise
  handled s (c ∷ cs) = passed_by f s (D c)
  handled s [] = []

  abbrev GuardIs : Statement → List ℕ → Type 0
  GuardIs s cs = by_statement f s ≡ (handled s cs ++ all (tail_of cs)) ++ own_raises_of f s

  except_whole : (cs : List ℕ) → Stand nodes n (just (is_child shape.statement) ∷ several (here shape.whens) ∷ at_most_one (here shape.others) ∷ []) cs → GuardIs (except_of items nodes n (get_or cs 0 0) (drop 1 cs)) cs
  except_whole cs s =
      on_head nodes n (λ cs. GuardIs (except_of items nodes n (get_or cs 0 0) (drop 1 cs)) cs) (is_child shape.statement) (several (here shape.whens) ∷ at_most_one (here shape.others) ∷ [])
      (λ c rest is s.
      ended_by _ (handled (except_of items nodes n c rest) (c ∷ rest) ++ all rest)
      (append_assoc (passed_by f (except_of items nodes n c rest) (by_statement f (items c).statement)) (by_whens f (whens_at items (run nodes kind.When rest))) (by_others f (others_at items (one_of nodes kind.Others (after_run nodes kind.When rest))))
      ∙ ap₂ (λ (x y : List Raise). passed_by f (except_of items nodes n c rest) x ++ y) (statement_in f n c is.0 is.1) (handlers f n rest s))) cs s

  resignal_whole : (names : List Identifier) (cs : List ℕ) → Stand nodes n (just (is_child shape.statement) ∷ []) cs → GuardIs (a_resignal n (items (get_or cs 0 0)).statement names) cs
  resignal_whole names cs s =
      on_head nodes n (λ cs. GuardIs (a_resignal n (items (get_or cs 0 0)).statement names) cs) (is_child shape.statement) []
      (λ c rest is s. on_end nodes n (λ rest. GuardIs (a_resignal n (items c).statement names) (c ∷ rest))
      (ended_by _ (without names (D c) ++ []) (ended_by _ (without names (D c)) (ap (without names) (statement_in f n c is.0 is.1)))) rest s) cs s

  -- ---- each kind

  if_whole : (x : There nodes n kind.If) → by_statement f (statement_of items nodes n x.node kind.If) ≡ all x.node.children ++ []
  if_whole x =
      let p : IfParts nodes n x.node = if_parts t nodes parsed.shape parsed.tree n x.node x.at (parsed.shape n x.node x.at) x.is in
      let count : ℕ = leading_before nodes x.node x.node.children in
      ended_by _ (all x.node.children)
      (ap₂ (λ (a b : List Raise). a ++ b) (clauses_are f n (take (leading_before nodes x.node x.node.children) x.node.children) p.clauses).1 (else_is f n x.node.value_token (drop (leading_before nodes x.node x.node.children) x.node.children) p.behind)
      ∙ sym (all_split f (leading_before nodes x.node x.node.children) x.node.children))

  plain_own : (own : List Raise) (cs : List ℕ) → Stand nodes n [] cs → own ≡ all cs ++ own
  plain_own own cs s = sym (ap (λ (l : List Raise). l ++ own) (none f n cs s))

  by_kind : (k : NodeKind) → kind_at nodes n ≡ k → raises_as f k n ≡ row_as f D k n
  unfolding raises_as part_raises row_as inside_as own_as is_done_as
  by_kind kind.Infix is = let x = there nodes n kind.Infix refl is in of_expression kind.Infix x (binary f n (own_raises f (expression_of items nodes n x.node kind.Infix)) x.node.children (only kind.Infix x _ refl))
  by_kind kind.Prefix is = let x = there nodes n kind.Prefix refl is in of_expression kind.Prefix x (unary f n (own_raises f (expression_of items nodes n x.node kind.Prefix)) x.node.children (only kind.Prefix x _ refl))
  by_kind kind.Paren is = let x = there nodes n kind.Paren refl is in of_expression kind.Paren x (alone f n x.node.children (only kind.Paren x _ refl))
  by_kind kind.Up is = let x = there nodes n kind.Up refl is in of_expression kind.Up x (alone f n x.node.children (only kind.Up x _ refl))
  by_kind kind.Down is = let x = there nodes n kind.Down refl is in of_expression kind.Down x (alone f n x.node.children (only kind.Down x _ refl))
  by_kind kind.Literal is = let x = there nodes n kind.Literal refl is in of_expression kind.Literal x (plain_own [] x.node.children (only kind.Literal x _ refl))
  by_kind kind.Name is = let x = there nodes n kind.Name refl is in of_expression kind.Name x (plain_own (own_raises f (expression_of items nodes n x.node kind.Name)) x.node.children (only kind.Name x _ refl))
  by_kind kind.Index is = let x = there nodes n kind.Index refl is in of_index kind.Index x (index f n x.node.children (only kind.Index x _ refl))
  by_kind kind.Get is = let x = there nodes n kind.Get refl is in of_expression kind.Get x (unary f n (own_raises f (expression_of items nodes n x.node kind.Get)) x.node.children (only kind.Get x _ refl))
  by_kind kind.Call is = let x = there nodes n kind.Call refl is in of_expression kind.Call x (call f n (own_raises f (expression_of items nodes n x.node kind.Call)) x.node.children (only kind.Call x _ refl))
  by_kind kind.Fields is = let x = there nodes n kind.Fields refl is in of_expression kind.Fields x (components f n x.node.children (only kind.Fields x _ refl))
  by_kind kind.Elems is =
      let x = there nodes n kind.Elems refl is in
      of_expression kind.Elems x
      (elim (form_of kind.Elems x) [
        | inl e ↦ elems_is x.node.value_token (several (here shape.expressions) ∷ []) x.node.children (λ rest s. several_values (here shape.expressions) same_expressions rest s) (stand_in kind.Elems x _ e)
        | inr (inl e) ↦ elems_is x.node.value_token (just (is_child shape.expression) ∷ several (here shape.expressions) ∷ []) x.node.children (low_bound (just (is_child shape.expression) ∷ several (here shape.expressions) ∷ []) bound_slots) (stand_in kind.Elems x _ e)
        | inr (inr never) ↦ absurd never
      ])
  by_kind kind.OperOf is = let x = there nodes n kind.OperOf refl is in of_expression kind.OperOf x (of_type f n x.node.children (only kind.OperOf x _ refl))
  by_kind kind.Force is = let x = there nodes n kind.Force refl is in of_expression kind.Force x (of_type f n x.node.children (only kind.Force x _ refl))
  by_kind kind.FieldE is =
      let x = there nodes n kind.FieldE refl is in
      of_part kind.FieldE x _
      (ap (λ (i : Item). by_expression f i.component.value) (item_there nodes n x.node x.at)
      ∙ ap (λ (k : NodeKind). by_expression f (component_of items nodes n x.node k).value) x.is
      ∙ alone f n x.node.children (only kind.FieldE x _ refl))
  by_kind kind.Declare is = let x = there nodes n kind.Declare refl is in ap (by_statement f) (its_statement kind.Declare x)
  by_kind kind.Break is = let x = there nodes n kind.Break refl is in ap (by_statement f) (its_statement kind.Break x)
  by_kind kind.Continue is = let x = there nodes n kind.Continue refl is in ap (by_statement f) (its_statement kind.Continue x)
  by_kind kind.Init is =
      let x = there nodes n kind.Init refl is in
      of_statement kind.Init x
      (elim (form_of kind.Init x) [
        | inl e ↦ init_typed x.node x.node.names x.node.children (stand_in kind.Init x _ e)
        | inr (inl e) ↦ subst (λ (names : List Identifier). InitIs x.node names x.node.children) (sym (unnamed_in kind.Init x _ e refl)) (init_called x.node x.node.children (stand_in kind.Init x _ e))
        | inr (inr never) ↦ absurd never
      ])
  by_kind kind.Assign is =
      let x = there nodes n kind.Assign refl is in
      of_statement kind.Assign x
      (values f n x.node.children (several_values (here shape.more_expressions) same_more x.node.children (several_from nodes n (is_child shape.expression) (here shape.more_expressions) [] x.node.children first_more (only kind.Assign x _ refl))))
  by_kind kind.SetField is = let x = there nodes n kind.SetField refl is in of_statement kind.SetField x (binary f n (own_raises_of f (statement_of items nodes n x.node kind.SetField)) x.node.children (only kind.SetField x _ refl))
  by_kind kind.SetIndex is = let x = there nodes n kind.SetIndex refl is in of_statement kind.SetIndex x (ternary f n (own_raises_of f (statement_of items nodes n x.node kind.SetIndex)) x.node.children (only kind.SetIndex x _ refl))
  by_kind kind.CallS is = let x = there nodes n kind.CallS refl is in of_statement kind.CallS x (call_alone x.node.children (only kind.CallS x _ refl))
  by_kind kind.While is = let x = there nodes n kind.While refl is in of_statement kind.While x (while_is f n x.node.children (only kind.While x _ refl))
  by_kind kind.For is =
      let x = there nodes n kind.For refl is in
      of_statement kind.For x
      (for_whole x.node.names x.node.children
      (elim (form_of kind.For x) [
        | inl e ↦ for_decls f n x.node.names x.node.children (stand_in kind.For x _ e)
        | inr (inl e) ↦ for_names f n x.node.names x.node.children (stand_in kind.For x _ e)
        | inr (inr never) ↦ absurd never
      ]))
  by_kind kind.If is = let x = there nodes n kind.If refl is in of_statement kind.If x (if_whole x)
  by_kind kind.Tagcase is =
      let x = there nodes n kind.Tagcase refl is in
      of_statement kind.Tagcase x
      (elim (form_of kind.Tagcase x) [
        | inl e ↦ subst (λ (o : Option ℕ). TagcaseWhole f n o x.node.children) (sym (without_value kind.Tagcase x _ e refl)) (tagcase_is f n x.node.children (stand_in kind.Tagcase x _ e))
        | inr (inl e) ↦ (let token = with_value kind.Tagcase x _ e refl in subst (λ (o : Option ℕ). TagcaseWhole f n o x.node.children) (sym token.1) (tagcase_others f n token.0 x.node.children (stand_in kind.Tagcase x _ e)))
        | inr (inr never) ↦ absurd never
      ])
  by_kind kind.TagArm is =
      let x = there nodes n kind.TagArm refl is in
      of_part kind.TagArm x _
      (ap (λ (i : Item). by_body f i.tag_arm.body) (item_there nodes n x.node x.at)
      ∙ ap (λ (k : NodeKind). by_body f (tag_arm_of items nodes n x.node k).body) x.is
      ∙ behind_type f n x.node.children (only kind.TagArm x _ refl))
  by_kind kind.Return is = let x = there nodes n kind.Return refl is in of_statement kind.Return x (values f n x.node.children (several_values (here shape.expressions_in_parens) same_in_parens x.node.children (only kind.Return x _ refl)))
  by_kind kind.Yield is = let x = there nodes n kind.Yield refl is in of_statement kind.Yield x (values f n x.node.children (several_values (here shape.expressions_in_parens) same_in_parens x.node.children (only kind.Yield x _ refl)))
  by_kind kind.Signal is = let x = there nodes n kind.Signal refl is in of_statement kind.Signal x (values f n x.node.children (several_values (here shape.expressions_in_parens) same_in_parens x.node.children (only kind.Signal x _ refl)))
  by_kind kind.Exit is = let x = there nodes n kind.Exit refl is in of_statement kind.Exit x (values f n x.node.children (several_values (here shape.expressions_in_parens) same_in_parens x.node.children (only kind.Exit x _ refl)))
  by_kind kind.Begin is = let x = there nodes n kind.Begin refl is in of_statement kind.Begin x (ended_by _ (all x.node.children) (body_is f n x.node.children (only kind.Begin x _ refl)))
  by_kind kind.Resignal is = let x = there nodes n kind.Resignal refl is in of_guard kind.Resignal x (resignal_whole x.node.names x.node.children (only kind.Resignal x _ refl))
  by_kind kind.Except is = let x = there nodes n kind.Except refl is in of_guard kind.Except x (except_whole x.node.children (only kind.Except x _ refl))
  by_kind kind.When is =
      let x = there nodes n kind.When refl is in
      of_part kind.When x _
      (ap (λ (i : Item). by_body f i.when.body) (item_there nodes n x.node x.at)
      ∙ ap (λ (k : NodeKind). by_body f (when_of items nodes n x.node k).body) x.is
      ∙ elim (form_of kind.When x) [
        | inl e ↦ when_is f n x.node.children (stand_in kind.When x _ e)
        | inr (inl e) ↦ any_when_is f n x.node.children (stand_in kind.When x _ e)
        | inr (inr never) ↦ absurd never
      ])
  by_kind kind.Others is =
      let x = there nodes n kind.Others refl is in
      of_part kind.Others x _
      (ap (λ (i : Item). by_others f i.others) (item_there nodes n x.node x.at)
      ∙ ap (λ (k : NodeKind). by_others f (others_of items nodes n x.node k)) x.is
      ∙ behind_type f n x.node.children (only kind.Others x _ refl))
  by_kind _ is = refl

  pub row_is : raises_of f n ≡ row_of f D n
  unfolding raises_of
  row_is = by_kind (kind_at nodes n) refl
