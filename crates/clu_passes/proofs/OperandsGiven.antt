-- The types that are known of the children of a node are those of its operands.
use Rattle.std.proofs.Common.{◌≡◌, ◌∙◌, ℕ, ◌<◌, ◌&&◌, ◌||◌, Bool, true, false, if◌then◌else◌, List, [], ◌∷◌, drop, get_or, slice_get, Option, Some, None, refl, sym, ap, subst, inl, inr}
use Rattle.std.specs.List.{AllByRecursion}
use Rattle.std.proofs.lemmas.Bool.{true≢false}
use Rattle.clu_tree.specs.declared.node.Node.{Node}
use Rattle.clu_tree.specs.declared.node.NodeKind.{NodeKind}
use Rattle.clu_tree.specs.declared.node.NodeKind.TheVariants as kind
use Rattle.clu_grammar.specs.Kinds.{is_type}
use Rattle.clu_parser.specs.Shape as shape
use Rattle.clu_parser.specs.Shape.{Part, is_child, IsFormOf, forms, HasForm}
use Rattle.clu_parser.specs.Trees.{Text}
use Rattle.clu_types.specs.CluType.{CluType}
use Rattle.clu_types.specs.declared.term.Term.{Term}
use Rattle.clu_types.specs.declared.term.TypeId.{TypeId}
use Rattle.clu_syntax.specs.Kinds.{kind_at, kind_of, is_expression}
use Rattle.clu_syntax.specs.Slots.{is_constant}
use Rattle.clu_syntax.specs.Syntax.{Expression, Statement, TypeExpression}
use Rattle.clu_syntax.specs.Items.{Item, expressions_at, constants_at}
use Rattle.clu_syntax.specs.Nodes.{before, constant_of, item_at, elements_of, expression_of, statement_of}
use Rattle.clu_parts.specs.Slots.{slots_of}
use Rattle.clu_parts.proofs.Fitting.{Slot, just, several, IsPart, AreParts, Stand, on_head, on_end, all_several, several_from, fitted}
use Rattle.clu_declares.specs.Declares.{IsParsed}
use Rattle.clu_declares.proofs.Below.{and_false, before_is, item_there}
use Rattle.clu_declares.proofs.Facts.{There, there}
use Rattle.clu_bindings.specs.Tables.{optional}
use Rattle.clu_checking.specs.Files.{File, item, node_children, children}
use Rattle.clu_checking.specs.Typing.{type_of}
use Rattle.clu_checking.specs.Invocations.{type_of_index, types_of, types_of_indexes}
use Rattle.clu_passes.specs.FactTables.{AreTypes, IsType, typed}
use Rattle.clu_passes.specs.NotedLists.{types_given}
use Rattle.clu_passes.specs.StandsFor.{AreOperands, AreOperandsOf, operands_of_statement}
use Rattle.clu_passes.proofs.RaisedRows.{here, same_expressions}

abbrev expression_slot : Slot
expression_slot = just (is_child shape.expression)

same_constants : (k : NodeKind) → here shape.more_constants k ≡ is_constant k
same_constants kind.File = refl
same_constants _ = refl

first_constant : (k : NodeKind) → is_child shape.constant k ≡ here shape.more_constants k
first_constant kind.File = refl
first_constant _ = refl

no_expression : (k : NodeKind) → (is_type k && is_expression k) ≡ false
no_expression kind.File = refl
no_expression _ = refl

an_index : (k : NodeKind) → is_type k ≡ false → is_constant k ≡ true → is_expression k ≡ true
an_index k e h = by (is_expression k) (is_type k) e h
  where
    by : (a b : Bool) → b ≡ false → (a || b) ≡ true → a ≡ true
    by true b e h = refl
    by false b e h = absurd (true≢false (sym h ∙ e))

module _ (f : File) (n : ℕ) (terms : List Term) (types : List (Option TypeId)) where
  abbrev nodes : List Node
  nodes = f.nodes

  abbrev items : ℕ → Item
  items = before n (item_at nodes)

  abbrev known : ℕ → Option TypeId
  known c = optional (slice_get types c)

  -- each of these has its type
  abbrev pub Typed : List ℕ → Type 0
  Typed cs = AllByRecursion (λ c. IsType terms (optional (slice_get types c)) (typed f c)) cs

  abbrev T : ℕ → Option CluType
  T c = type_of f (items c).expression

  abbrev Given : List ℕ → List (Option CluType) → Type 0
  Given cs ts = AreTypes terms (types_given types cs) ts

  -- ---- of one node

  typed_as : (c : ℕ) (b : Bool) → is_expression (kind_at nodes c) ≡ b → typed f c ≡ if◌then◌else◌ {A = Option CluType} b (type_of f (item f c).expression) None
  typed_as c b e = ap (λ (b : Bool). if◌then◌else◌ {A = Option CluType} b (type_of f (item f c).expression) None) e

  one_is : (c : ℕ) → c < n → is_expression (kind_at nodes c) ≡ true → IsType terms (known c) (typed f c) → IsType terms (known c) (T c)
  one_is c l e is = subst (λ (t : Option CluType). IsType terms (known c) t) (typed_as c true e ∙ ap (λ (i : Item). type_of f i.expression) (sym (before_is nodes n c l))) is

  constant_item : (c : ℕ) (node : Node) → slice_get nodes c ≡ Some node → (item_at nodes c).constant ≡ constant_of (is_type node.kind) (item_at nodes c).expression (item_at nodes c).type
  constant_item c node at =
      ap (λ (i : Item). i.constant) (item_there nodes c node at)
      ∙ sym (ap (λ (i : Item). constant_of (is_type node.kind) i.expression i.type) (item_there nodes c node at))

  index_is : (c : ℕ) → c < n → is_constant (kind_at nodes c) ≡ true → type_of_index f (items c).constant ≡ typed f c
  index_is c l is = ap (λ (i : Item). type_of_index f i.constant) (before_is nodes n c l) ∙ by (slice_get nodes c) refl
    where
      of_kind : (node : Node) → slice_get nodes c ≡ Some node → (b : Bool) → is_type node.kind ≡ b → type_of_index f (constant_of b (item_at nodes c).expression (item_at nodes c).type) ≡ typed f c
      of_kind node at true e = sym (typed_as c false (and_false (is_type (kind_at nodes c)) (is_expression (kind_at nodes c)) (no_expression (kind_at nodes c)) (ap (λ (its : Option Node). is_type (kind_of its)) at ∙ e)))
      of_kind node at false e = sym (typed_as c true (an_index (kind_at nodes c) (ap (λ (its : Option Node). is_type (kind_of its)) at ∙ e) is))

      by : (its : Option Node) → slice_get nodes c ≡ its → type_of_index f (item_at nodes c).constant ≡ typed f c
      by None at = absurd (true≢false (sym is ∙ ap (λ (its : Option Node). is_constant (kind_of its)) at))
      by (Some node) at = ap (type_of_index f) (constant_item c node at) ∙ of_kind node at (is_type node.kind) refl

  -- ---- of several

  expressions_are : (cs : List ℕ) → AreParts nodes is_expression n cs → Typed cs → Given cs (types_of f (expressions_at items cs))
  expressions_are [] ps ts = tt
  expressions_are (c ∷ cs) ps ts = (one_is c ps.0.0 ps.0.1 ts.0, expressions_are cs ps.1 ts.1)

  constants_are : (cs : List ℕ) → AreParts nodes is_constant n cs → Typed cs → Given cs (types_of_indexes f (constants_at items cs))
  constants_are [] ps ts = tt
  constants_are (c ∷ cs) ps ts = (subst (λ (t : Option CluType). IsType terms (known c) t) (sym (index_is c ps.0.0 ps.0.1)) ts.0, constants_are cs ps.1 ts.1)

  one : (c : ℕ) → IsPart nodes (is_child shape.expression) n c → IsType terms (known c) (typed f c) → IsType terms (known c) (T c)
  one c is ty = one_is c is.0 is.1 ty

  unary : (cs : List ℕ) → Stand nodes n (expression_slot ∷ []) cs → Typed cs → Given cs (T (get_or cs 0 0) ∷ [])
  unary cs s =
      on_head nodes n (λ cs. Typed cs → Given cs (T (get_or cs 0 0) ∷ [])) (is_child shape.expression) []
      (λ c rest is s. on_end nodes n (λ rest. Typed (c ∷ rest) → Given (c ∷ rest) (T c ∷ [])) (λ ts. (one c is ts.0, tt)) rest s) cs s

  binary : (cs : List ℕ) → Stand nodes n (expression_slot ∷ expression_slot ∷ []) cs → Typed cs → Given cs (T (get_or cs 0 0) ∷ T (get_or cs 1 0) ∷ [])
  binary cs s =
      on_head nodes n (λ cs. Typed cs → Given cs (T (get_or cs 0 0) ∷ T (get_or cs 1 0) ∷ [])) (is_child shape.expression) (expression_slot ∷ [])
      (λ a rest is_a s. on_head nodes n (λ rest. Typed (a ∷ rest) → Given (a ∷ rest) (T a ∷ T (get_or rest 0 0) ∷ [])) (is_child shape.expression) []
      (λ b rest is_b s. on_end nodes n (λ rest. Typed (a ∷ b ∷ rest) → Given (a ∷ b ∷ rest) (T a ∷ T b ∷ [])) (λ ts. (one a is_a ts.0, (one b is_b ts.1.0, tt))) rest s) rest s) cs s

  ternary : (cs : List ℕ) → Stand nodes n (expression_slot ∷ expression_slot ∷ expression_slot ∷ []) cs → Typed cs → Given cs (T (get_or cs 0 0) ∷ T (get_or cs 1 0) ∷ T (get_or cs 2 0) ∷ [])
  ternary cs s =
      on_head nodes n (λ cs. Typed cs → Given cs (T (get_or cs 0 0) ∷ T (get_or cs 1 0) ∷ T (get_or cs 2 0) ∷ [])) (is_child shape.expression) (expression_slot ∷ expression_slot ∷ [])
      (λ a rest is_a s. on_head nodes n (λ rest. Typed (a ∷ rest) → Given (a ∷ rest) (T a ∷ T (get_or rest 0 0) ∷ T (get_or rest 1 0) ∷ [])) (is_child shape.expression) (expression_slot ∷ [])
      (λ b rest is_b s. on_head nodes n (λ rest. Typed (a ∷ b ∷ rest) → Given (a ∷ b ∷ rest) (T a ∷ T b ∷ T (get_or rest 0 0) ∷ [])) (is_child shape.expression) []
      (λ c rest is_c s. on_end nodes n (λ rest. Typed (a ∷ b ∷ c ∷ rest) → Given (a ∷ b ∷ c ∷ rest) (T a ∷ T b ∷ T c ∷ [])) (λ ts. (one a is_a ts.0, (one b is_b ts.1.0, (one c is_c ts.1.1.0, tt)))) rest s) rest s) rest s) cs s

  call : (cs : List ℕ) → Stand nodes n (expression_slot ∷ several (here shape.expressions) ∷ []) cs → Typed cs → Given cs (T (get_or cs 0 0) ∷ types_of f (expressions_at items (drop 1 cs)))
  call cs s =
      on_head nodes n (λ cs. Typed cs → Given cs (T (get_or cs 0 0) ∷ types_of f (expressions_at items (drop 1 cs)))) (is_child shape.expression) (several (here shape.expressions) ∷ [])
      (λ c rest is s ts. (one c is ts.0, expressions_are rest (all_several nodes n (here shape.expressions) is_expression rest same_expressions s) ts.1)) cs s

  index : (cs : List ℕ) → Stand nodes n (expression_slot ∷ just (is_child shape.constant) ∷ several (here shape.more_constants) ∷ []) cs → Typed cs → Given cs (T (get_or cs 0 0) ∷ types_of_indexes f (constants_at items (drop 1 cs)))
  index cs s =
      on_head nodes n (λ cs. Typed cs → Given cs (T (get_or cs 0 0) ∷ types_of_indexes f (constants_at items (drop 1 cs)))) (is_child shape.expression) (just (is_child shape.constant) ∷ several (here shape.more_constants) ∷ [])
      (λ c rest is s ts. (one c is ts.0, constants_are rest (all_several nodes n (here shape.more_constants) is_constant rest same_constants (several_from nodes n (is_child shape.constant) (here shape.more_constants) [] rest first_constant s)) ts.1)) cs s

  -- ---- by kinds

  module _ (t : Text) (parsed : IsParsed t f.nodes) where
    module _ (k : NodeKind) (x : There nodes n k) where
      its_form : HasForm nodes x.node
      its_form = parsed.forms n x.node x.at

      stand_in : (form : List Part) → its_form.form ≡ form → Stand nodes n (slots_of form) x.node.children
      stand_in form e = subst (λ (form : List Part). Stand nodes n (slots_of form) x.node.children) e (fitted nodes parsed.tree n x.node x.at its_form)

      pub only : (form : List Part) → forms k ≡ form ∷ [] → Stand nodes n (slots_of form) x.node.children
      only form one = elim (subst (λ (fs : List (List Part)). IsFormOf its_form.form fs) one (subst (λ (k : NodeKind). IsFormOf its_form.form (forms k)) x.is its_form.of_kind)) [ inl e ↦ stand_in form e | inr never ↦ absurd never ]

      its_children : children f n ≡ x.node.children
      its_children = ap (node_children f) x.at

      its_expression : (item f n).expression ≡ expression_of items nodes n x.node k
      its_expression = ap (λ (i : Item). i.expression) (item_there nodes n x.node x.at) ∙ ap (λ (k : NodeKind). expression_of items nodes n x.node k) x.is

      its_statement : (item f n).statement ≡ statement_of items nodes n x.node k
      its_statement = ap (λ (i : Item). i.statement) (item_there nodes n x.node x.at) ∙ ap (λ (k : NodeKind). statement_of items nodes n x.node k) x.is

      abbrev Of : List ℕ → Expression → Type 0
      Of cs e = AreOperandsOf f terms (types_given types cs) e

      of_expression : (Typed x.node.children → Of x.node.children (expression_of items nodes n x.node k)) → Typed (children f n) → Of (children f n) (item f n).expression
      of_expression given ts =
          subst (λ (e : Expression). Of (children f n) e) (sym its_expression)
          (subst (λ (cs : List ℕ). Of cs (expression_of items nodes n x.node k)) (sym its_children) (given (subst Typed its_children ts)))

      of_statement : (Typed x.node.children → Given x.node.children (operands_of_statement f (statement_of items nodes n x.node k))) → Typed (children f n) → Given (children f n) (operands_of_statement f (item f n).statement)
      of_statement given ts =
          subst (λ (s : Statement). Given (children f n) (operands_of_statement f s)) (sym its_statement)
          (subst (λ (cs : List ℕ). Given cs (operands_of_statement f (statement_of items nodes n x.node k))) (sym its_children) (given (subst Typed its_children ts)))

      plain : Of (children f n) (expression_of items nodes n x.node k) → Of (children f n) (item f n).expression
      plain given = subst (λ (e : Expression). Of (children f n) e) (sym its_expression) given

    elements_given : (ids : List (Option TypeId)) (of : TypeExpression) (token : Option ℕ) (cs : List ℕ) → AreOperandsOf f terms ids (elements_of items nodes n of token cs)
    elements_given ids of None cs = tt
    elements_given ids of (Some token) [] = tt
    elements_given ids of (Some token) (c ∷ cs) = tt

    by_kind : (k : NodeKind) → kind_at nodes n ≡ k → Typed (children f n) → AreOperands f terms (types_given types (children f n)) k n
    by_kind kind.SetField is ts = let x = there nodes n kind.SetField refl is in of_statement kind.SetField x (binary x.node.children (only kind.SetField x _ refl)) ts
    by_kind kind.SetIndex is ts = let x = there nodes n kind.SetIndex refl is in of_statement kind.SetIndex x (ternary x.node.children (only kind.SetIndex x _ refl)) ts
    by_kind kind.Infix is ts = λ e. let x = there nodes n kind.Infix refl is in of_expression kind.Infix x (binary x.node.children (only kind.Infix x _ refl)) ts
    by_kind kind.Prefix is ts = λ e. let x = there nodes n kind.Prefix refl is in of_expression kind.Prefix x (unary x.node.children (only kind.Prefix x _ refl)) ts
    by_kind kind.Get is ts = λ e. let x = there nodes n kind.Get refl is in of_expression kind.Get x (unary x.node.children (only kind.Get x _ refl)) ts
    by_kind kind.Index is ts = λ e. let x = there nodes n kind.Index refl is in of_expression kind.Index x (index x.node.children (only kind.Index x _ refl)) ts
    by_kind kind.Call is ts = λ e. let x = there nodes n kind.Call refl is in of_expression kind.Call x (call x.node.children (only kind.Call x _ refl)) ts
    by_kind kind.Paren is ts = λ e. let x = there nodes n kind.Paren refl is in of_expression kind.Paren x (unary x.node.children (only kind.Paren x _ refl)) ts
    by_kind kind.Literal is ts = λ e. plain kind.Literal (there nodes n kind.Literal refl is) tt
    by_kind kind.Name is ts = λ e. plain kind.Name (there nodes n kind.Name refl is) tt
    by_kind kind.Fields is ts = λ e. plain kind.Fields (there nodes n kind.Fields refl is) tt
    by_kind kind.Elems is ts =
        λ e. let x = there nodes n kind.Elems refl is in plain kind.Elems x (elements_given (types_given types (children f n)) _ x.node.value_token (drop 1 x.node.children))
    by_kind kind.OperOf is ts = λ e. plain kind.OperOf (there nodes n kind.OperOf refl is) tt
    by_kind kind.Force is ts = λ e. plain kind.Force (there nodes n kind.Force refl is) tt
    by_kind kind.Up is ts = λ e. plain kind.Up (there nodes n kind.Up refl is) tt
    by_kind kind.Down is ts = λ e. plain kind.Down (there nodes n kind.Down refl is) tt
    by_kind _ is ts = λ e. absurd (true≢false (sym e))

    pub operands_given : Typed (children f n) → AreOperands f terms (types_given types (children f n)) (kind_at nodes n) n
    operands_given ts = by_kind (kind_at nodes n) refl ts
