-- The row of a node, read from tables, has the same raises as that of the definitions.
use Rattle.std.proofs.Common.{◌≡◌, ◌∙◌, ℕ, Bool, true, false, not, if◌then◌else◌, List, [], ◌∷◌, ◌++◌, drop, flat_map, Option, Some, None, refl, sym, ap, ap₂, subst, append_assoc, append-nil}
use Rattle.std.specs.Prelude.{slice_get}
use Rattle.std.specs.List.{list_any}
use Rattle.clu_tree.specs.declared.node.Node.{Node}
use Rattle.clu_tree.specs.declared.node.NodeKind.{NodeKind}
use Rattle.clu_tree.specs.declared.node.NodeKind.TheVariants as kind
use Rattle.clu_parser.specs.Trees.{Text}
use Rattle.clu_types.specs.CluType.{CluType}
use Rattle.clu_types.specs.declared.term.Term.{Term}
use Rattle.clu_syntax.specs.Kinds.{kind_at, kind_of}
use Rattle.clu_syntax.specs.Items.{Item, expressions_at}
use Rattle.clu_syntax.specs.Nodes.{before, elements_of, expression_of, for_of, init_of, item_at, statement_of}
use Rattle.clu_syntax.specs.Splits.{after_run, child, children_of, first_name, run}
use Rattle.clu_syntax.specs.Syntax.{Expression, Identifier, Statement, TypeExpression}
use Rattle.clu_meaning.specs.Scoping as means
use Rattle.clu_meaning.specs.Scoping.{Scope}
use Rattle.clu_declares.specs.Declares.{IsParsed}
use Rattle.clu_declares.proofs.Below.{item_there}
use Rattle.clu_declares.proofs.Facts.{There, there}
use Rattle.clu_checking.specs.Specifications.{Specification}
use Rattle.clu_checking.specs.Files.{File, children, item, node_names}
use Rattle.clu_checking.specs.Invocations.{types_of}
use Rattle.clu_checking.specs.Raising.{Raise, by_name, failure, invoked, use_of}
use Rattle.clu_checking.specs.Typing.{type_of}
use Rattle.clu_checking.specs.Wanted.{first_name_at}
use Rattle.clu_bindings.specs.declared.file.File.{File as Read}
use Rattle.clu_bindings.specs.declared.meaning.Meaning.{Meaning}
use Rattle.clu_bindings.specs.declared.meaning.Meaning.TheVariants as meant
use Rattle.clu_bindings.specs.Readers.{children_in, kind_in, meaning_in}
use Rattle.clu_typing.specs.declared.applied.Applied.{Applied}
use Rattle.clu_typing.specs.declared.applied.Applied.TheVariants as applied
use Rattle.clu_typing.specs.declared.facts.Facts.{Facts}
use Rattle.clu_typing.specs.Nodes as read
use Rattle.clu_typing.specs.Raises as tables
use Rattle.clu_typing.specs.Raises.{called_in, fails_as, first_as, first_operation, guards_as, invoked_told, is_done_as, is_others, is_variable, raised_told, row_told, second_operation, statement_in, tail_of, arms_in, taken_as, told_without}
use Rattle.clu_typing.specs.Sets.{HaveSame}
use Rattle.clu_typing.proofs.Sets.{same_from, same_joined, same_refl, same_trans, same_turned}
use Rattle.clu_passes.specs.ConstantTables.{file_with, Means}
use Rattle.clu_passes.specs.FactTables.{AreTypes}
use Rattle.clu_passes.specs.NotedLists.{types_given}
use Rattle.clu_passes.specs.Raised.{has_actuals, inside_as, own_as, own_raises, own_raises_of, passed_from, row_as, row_of}
use Rattle.clu_passes.specs.RowsTold.{StandsElsewhere}
use Rattle.clu_passes.specs.StandsFor.{AreOperands, AreOperandsOf, NodeStandsFor, StandsFor, StatementStandsFor}
use Rattle.clu_passes.proofs.AtNodes.{kids_are}
use Rattle.clu_passes.proofs.RowsOwn.{by_applied, by_nothing, expression_told, operated, statement_told, typed_told}
use Rattle.clu_passes.proofs.RowsPassed.{at_except, at_resignal, passed_here, passed_there}

-- ---- lists

grouped : {A : Type 0} (a x y z : List A) → ((a ++ x) ++ y) ++ z ≡ a ++ ((x ++ y) ++ z)
grouped {A} a x y z = ap (λ (l : List A). l ++ z) (append_assoc a x y) ∙ append_assoc a (x ++ y) z

first_alone : {A : Type 0} (v x y : List A) → x ++ y ≡ [] → (v ++ x) ++ y ≡ v
first_alone {A} v x y none = append_assoc v x y ∙ ap (λ (l : List A). v ++ l) none ∙ append-nil v

-- ---- what a name means

pub name_told : (nodes : List Node) (a : Meaning) (m : means.Meaning) → Means nodes a m → (if is_variable a then failure ∷ [] else []) ≡ use_of m
name_told nodes (meant.Equate c) m is = sym (ap (λ (m : means.Meaning). use_of m) is.1)
name_told nodes meant.TypeSet m is = sym (ap (λ (m : means.Meaning). use_of m) is)
name_told nodes (meant.TypeParameter k) m is = sym (ap (λ (m : means.Meaning). use_of m) is)
name_told nodes (meant.ConstantParameter k) m is = sym (ap (λ (m : means.Meaning). use_of m) is)
name_told nodes (meant.Local t) m is = sym (ap (λ (m : means.Meaning). use_of m) is)
name_told nodes (meant.OwnOfRoutine t) m is = sym (ap (λ (m : means.Meaning). use_of m) is)
name_told nodes (meant.OwnOfCluster t) m is = sym (ap (λ (m : means.Meaning). use_of m) is)
name_told nodes meant.RoutineOfCluster m is = sym (ap (λ (m : means.Meaning). use_of m) is)
name_told nodes (meant.Module its) m is = sym (ap (λ (m : means.Meaning). use_of m) is)

-- what is called has the type that it is to have
called_told : (terms : List Term) (facts : Facts) (cs : List ℕ) (t : Option CluType) (ts : List (Option CluType)) → AreTypes terms (types_given facts.types.items cs) (t ∷ ts) → invoked_told terms (called_in facts cs) ≡ invoked t
called_told terms facts [] t ts given = absurd given
called_told terms facts (c ∷ cs) t ts given = typed_told terms (called_in facts (c ∷ cs)) t given.0

module _ (r : Read) (scope : Scope) (library : List Specification) (refused : List ℕ) (t : Text) (parsed : IsParsed t r.syntax.now) (terms : List Term) (facts : Facts) (n : ℕ) (its : Applied) where
  abbrev nodes : List Node
  nodes = r.syntax.now

  abbrev f : File
  f = file_with r scope library refused

  abbrev items : ℕ → Item
  items = before n (item_at nodes)

  abbrev told : ℕ → List Raise
  told = raised_told terms facts

  -- ---- what stands in the node

  abbrev inside_by : Bool → List Raise
  inside_by g = flat_map told (if g then arms_in r n else children_in r n) ++ (if g then tables.passed_from r terms facts n (statement_in r n) else [])

  unguarded : HaveSame (inside_by false) (inside_as f told false n)
  unfolding inside_as
  unguarded = same_from _ _ (append-nil (flat_map told (children_in r n)) ∙ ap (λ (cs : List ℕ). flat_map told cs) (kids_are f n))

  -- by the list of the children
  abbrev passed_by_list : NodeKind → Option ℕ → List ℕ → List Raise
  passed_by_list k (Some s) arms = if list_any (is_others r) arms then [] else told_without (taken_as r k n arms) (told s)
  passed_by_list k None arms = []

  listed_so : (o : Option ℕ) → tables.passed_from r terms facts n o ≡ passed_by_list (kind_in r n) o (arms_in r n)
  listed_so (Some s) = refl
  listed_so None = refl

  here_so : (k : NodeKind) (cs : List ℕ) → passed_by_list k (slice_get cs 0) (tail_of cs) ≡ passed_here r scope library refused t parsed n told k cs
  here_so k [] = refl
  here_so k (s ∷ arms) = refl

  there_so : (cs : List ℕ) → passed_there r scope library refused t parsed n told (item f n).statement cs ≡ passed_from f told n cs
  there_so [] = refl
  there_so (s ∷ arms) = refl

  passed_said : (k : NodeKind) (x : There nodes n k) → passed_here r scope library refused t parsed n told k x.node.children ≡ passed_there r scope library refused t parsed n told (item f n).statement x.node.children
      → tables.passed_from r terms facts n (statement_in r n) ≡ passed_from f told n (children f n)
  passed_said k x same =
      let own : children_in r n ≡ x.node.children = ap (λ (o : Option Node). children_of o) x.at in
      listed_so (statement_in r n)
      ∙ ap₂ (λ (k : NodeKind) (cs : List ℕ). passed_by_list k (slice_get cs 0) (tail_of cs)) (ap (λ (o : Option Node). kind_of o) x.at ∙ x.is) own
      ∙ here_so k x.node.children
      ∙ same
      ∙ there_so x.node.children
      ∙ ap (λ (cs : List ℕ). passed_from f told n cs) (sym own ∙ kids_are f n)

  guarded : tables.passed_from r terms facts n (statement_in r n) ≡ passed_from f told n (children f n) → HaveSame (inside_by true) (inside_as f told true n)
  unfolding inside_as
  guarded same =
      same_trans (inside_by true) (tables.passed_from r terms facts n (statement_in r n) ++ flat_map told (arms_in r n)) (passed_from f told n (children f n) ++ flat_map told (tail_of (children f n)))
      (same_turned (flat_map told (arms_in r n)) (tables.passed_from r terms facts n (statement_in r n)))
      (same_from _ _ (ap₂ (λ (xs : List Raise) (cs : List ℕ). xs ++ flat_map told (tail_of cs)) same (kids_are f n)))

  -- ---- what it raises by itself

  abbrev own_by : NodeKind → List Raise
  own_by k = ((if fails_as r k n then failure ∷ [] else []) ++ invoked_told terms (first_as r facts k its n)) ++ invoked_told terms (second_operation facts its)

  its_expression : (k : NodeKind) (x : There nodes n k) → (item f n).expression ≡ expression_of items nodes n x.node k
  its_expression k x = ap (λ (i : Item). i.expression) (item_there nodes n x.node x.at) ∙ ap (λ (k : NodeKind). expression_of items nodes n x.node k) x.is

  its_statement : (k : NodeKind) (x : There nodes n k) → (item f n).statement ≡ statement_of items nodes n x.node k
  its_statement k x = ap (λ (i : Item). i.statement) (item_there nodes n x.node x.at) ∙ ap (λ (k : NodeKind). statement_of items nodes n x.node k) x.is

  module _ (stands : NodeStandsFor f terms facts (kind_at nodes n) n its) (elsewhere : StandsElsewhere (kind_at nodes n) its) where
    stands_at : (k : NodeKind) → kind_at nodes n ≡ k → NodeStandsFor f terms facts k n its
    stands_at k is = subst (λ (k : NodeKind). NodeStandsFor f terms facts k n its) is stands

    elsewhere_at : (k : NodeKind) → kind_at nodes n ≡ k → StandsElsewhere k its
    elsewhere_at k is = subst (λ (k : NodeKind). StandsElsewhere k its) is elsewhere

    -- of an expression by an operation, if it is for one
    applied_here : (k : NodeKind) (x : There nodes n k) → has_actuals f (expression_of items nodes n x.node k) ≡ false → StandsFor f terms facts (item f n).expression its → by_applied f terms facts its ≡ operated f terms facts (expression_of items nodes n x.node k)
    applied_here k x plain stand = expression_told f terms facts (expression_of items nodes n x.node k) its plain (subst (λ (e : Expression). StandsFor f terms facts e its) (its_expression k x) stand)

    own_so : (k : NodeKind) (x : There nodes n k) → own_by k ≡ own_raises f (expression_of items nodes n x.node k) → own_by k ≡ own_raises f (item f n).expression
    own_so k x same = same ∙ ap (λ (e : Expression). own_raises f e) (sym (its_expression k x))

    statement_so : (k : NodeKind) (x : There nodes n k) → StatementStandsFor f terms facts (statement_of items nodes n x.node k) its → by_applied f terms facts its ≡ own_raises_of f (item f n).statement
    statement_so k x stand = statement_told f terms facts (statement_of items nodes n x.node k) its stand ∙ ap (λ (s : Statement). own_raises_of f s) (sym (its_statement k x))

    set_stands : (k : NodeKind) (x : There nodes n k) → StatementStandsFor f terms facts (item f n).statement its → StatementStandsFor f terms facts (statement_of items nodes n x.node k) its
    set_stands k x stand = subst (λ (s : Statement). StatementStandsFor f terms facts s its) (its_statement k x) stand

    init_stands : (node : Node) (names : List Identifier) → its ≡ applied.Nothing → StatementStandsFor f terms facts (init_of items nodes n node names) its
    init_stands node [] e = e
    init_stands node (name ∷ names) e = e

    for_stands : (names : List Identifier) (ds cs : List ℕ) → its ≡ applied.Nothing → StatementStandsFor f terms facts (for_of items nodes n names ds cs) its
    for_stands names ds [] e = e
    for_stands [] ds (c ∷ cs) e = e
    for_stands (name ∷ names) ds (c ∷ cs) e = e

    elements_stand : (of : TypeExpression) (token : Option ℕ) (cs : List ℕ) → StandsFor f terms facts (elements_of items nodes n of token cs) its → its ≡ applied.Nothing
    elements_stand of None cs e = e
    elements_stand of (Some token) [] e = e
    elements_stand of (Some token) (c ∷ cs) e = e

    elements_raise : (of : TypeExpression) (token : Option ℕ) (cs : List ℕ) → own_raises f (elements_of items nodes n of token cs) ≡ failure ∷ []
    elements_raise of None cs = refl
    elements_raise of (Some token) [] = refl
    elements_raise of (Some token) (c ∷ cs) = refl

    elements_own : (x : There nodes n kind.Elems) → own_by kind.Elems ≡ own_raises f (item f n).expression
    elements_own x =
        let of : TypeExpression = (items (child 0 x.node)).type in
        let none : its ≡ applied.Nothing = elements_stand of x.node.value_token (drop 1 x.node.children) (subst (λ (e : Expression). StandsFor f terms facts e its) (its_expression kind.Elems x) (stands_at kind.Elems (ap (λ (o : Option Node). kind_of o) x.at ∙ x.is) refl)) in
        own_so kind.Elems x
        (first_alone (failure ∷ []) (invoked_told terms (first_operation facts its)) (invoked_told terms (second_operation facts its)) (by_nothing f terms facts its none)
        ∙ sym (elements_raise of x.node.value_token (drop 1 x.node.children)))

    module _ (given : AreOperands f terms (types_given facts.types.items (children_in r n)) (kind_at nodes n) n) (means_so : kind_at nodes n ≡ kind.Name → (if is_variable (meaning_in r n) then failure ∷ [] else []) ≡ by_name f n (first_name_at f n))
        (actuals : kind_at nodes n ≡ kind.Index → read.has_actuals r n ≡ has_actuals f (item f n).expression) where
      call_own : (x : There nodes n kind.Call) → kind_at nodes n ≡ kind.Call → own_by kind.Call ≡ own_raises f (item f n).expression
      call_own x is =
          let none : its ≡ applied.Nothing = subst (λ (e : Expression). StandsFor f terms facts e its) (its_expression kind.Call x) (stands_at kind.Call is refl) in
          let called : invoked_told terms (called_in facts (children_in r n)) ≡ invoked (type_of f (items (child 0 x.node)).expression) =
          called_told terms facts (children_in r n) (type_of f (items (child 0 x.node)).expression) (types_of f (expressions_at items (drop 1 x.node.children)))
          (subst (λ (e : Expression). AreOperandsOf f terms (types_given facts.types.items (children_in r n)) e) (its_expression kind.Call x)
          (subst (λ (k : NodeKind). AreOperands f terms (types_given facts.types.items (children_in r n)) k n) is given refl)) in
          own_so kind.Call x
          (ap (λ (a : Applied). invoked_told terms (called_in facts (children_in r n)) ++ invoked_told terms (second_operation facts a)) none
          ∙ append-nil (invoked_told terms (called_in facts (children_in r n)))
          ∙ called)

      name_own : (x : There nodes n kind.Name) → kind_at nodes n ≡ kind.Name → own_by kind.Name ≡ own_raises f (item f n).expression
      name_own x is =
          let named : first_name_at f n ≡ first_name x.node.names = ap (λ (o : Option Node). first_name (node_names f o)) x.at in
          own_so kind.Name x
          (first_alone (if is_variable (meaning_in r n) then failure ∷ [] else []) (invoked_told terms (first_operation facts its)) (invoked_told terms (second_operation facts its)) (applied_here kind.Name x refl (stands_at kind.Name is refl))
          ∙ means_so is
          ∙ ap (λ (name : Identifier). by_name f n name) named)

      -- ---- the row

      abbrev row_by : NodeKind → List Raise
      row_by k = if is_done_as k (read.has_actuals r n) then inside_by (guards_as k) ++ own_by k else []

      done_here : (k : NodeKind) (own : List Raise) → own_by k ≡ own → HaveSame (inside_by false ++ own_by k) (inside_as f told false n ++ own)
      done_here k own same = same_joined (inside_by false) (own_by k) (inside_as f told false n) own unguarded (same_from _ _ same)

      guard_here : (k : NodeKind) (own : List Raise) → own_by k ≡ own → tables.passed_from r terms facts n (statement_in r n) ≡ passed_from f told n (children f n) → HaveSame (inside_by true ++ own_by k) (inside_as f told true n ++ own)
      guard_here k own same passed = same_joined (inside_by true) (own_by k) (inside_as f told true n) own (guarded passed) (same_from _ _ same)

      index_here : kind_at nodes n ≡ kind.Index → (b : Bool) → has_actuals f (item f n).expression ≡ b
          → HaveSame (if not b then inside_by false ++ own_by kind.Index else []) (if not b then inside_as f told false n ++ own_raises f (item f n).expression else [])
      index_here is true e = same_refl []
      index_here is false e =
          let x = there nodes n kind.Index refl is in
          let plain : has_actuals f (expression_of items nodes n x.node kind.Index) ≡ false = ap (λ (e : Expression). has_actuals f e) (sym (its_expression kind.Index x)) ∙ e in
          done_here kind.Index (own_raises f (item f n).expression) (own_so kind.Index x (applied_here kind.Index x plain (stands_at kind.Index is refl)))

      plain_here : (k : NodeKind) (x : There nodes n k) → StatementStandsFor f terms facts (statement_of items nodes n x.node k) its → HaveSame (inside_by false ++ by_applied f terms facts its) (inside_as f told false n ++ own_raises_of f (item f n).statement)
      plain_here k x stand = same_joined (inside_by false) (by_applied f terms facts its) (inside_as f told false n) (own_raises_of f (item f n).statement) unguarded (same_from _ _ (statement_so k x stand))

      part_here : its ≡ applied.Nothing → HaveSame (inside_by false ++ by_applied f terms facts its) (inside_as f told false n ++ [])
      part_here none = same_joined (inside_by false) (by_applied f terms facts its) (inside_as f told false n) [] unguarded (same_from _ _ (by_nothing f terms facts its none))

      by_kind : (k : NodeKind) → kind_at nodes n ≡ k → HaveSame (row_by k) (row_as f told k n)
      unfolding row_as own_as is_done_as
      by_kind kind.Infix is = let x = there nodes n kind.Infix refl is in done_here kind.Infix (own_raises f (item f n).expression) (own_so kind.Infix x (applied_here kind.Infix x refl (stands_at kind.Infix is refl)))
      by_kind kind.Prefix is = let x = there nodes n kind.Prefix refl is in done_here kind.Prefix (own_raises f (item f n).expression) (own_so kind.Prefix x (applied_here kind.Prefix x refl (stands_at kind.Prefix is refl)))
      by_kind kind.Paren is = let x = there nodes n kind.Paren refl is in done_here kind.Paren (own_raises f (item f n).expression) (own_so kind.Paren x (applied_here kind.Paren x refl (stands_at kind.Paren is refl)))
      by_kind kind.Literal is = let x = there nodes n kind.Literal refl is in done_here kind.Literal (own_raises f (item f n).expression) (own_so kind.Literal x (applied_here kind.Literal x refl (stands_at kind.Literal is refl)))
      by_kind kind.Get is = let x = there nodes n kind.Get refl is in done_here kind.Get (own_raises f (item f n).expression) (own_so kind.Get x (applied_here kind.Get x refl (stands_at kind.Get is refl)))
      by_kind kind.Fields is = let x = there nodes n kind.Fields refl is in done_here kind.Fields (own_raises f (item f n).expression) (own_so kind.Fields x (applied_here kind.Fields x refl (stands_at kind.Fields is refl)))
      by_kind kind.OperOf is = let x = there nodes n kind.OperOf refl is in done_here kind.OperOf (own_raises f (item f n).expression) (own_so kind.OperOf x (applied_here kind.OperOf x refl (stands_at kind.OperOf is refl)))
      by_kind kind.Force is = let x = there nodes n kind.Force refl is in done_here kind.Force (own_raises f (item f n).expression) (own_so kind.Force x (applied_here kind.Force x refl (stands_at kind.Force is refl)))
      by_kind kind.Up is = let x = there nodes n kind.Up refl is in done_here kind.Up (own_raises f (item f n).expression) (own_so kind.Up x (applied_here kind.Up x refl (stands_at kind.Up is refl)))
      by_kind kind.Down is = let x = there nodes n kind.Down refl is in done_here kind.Down (own_raises f (item f n).expression) (own_so kind.Down x (applied_here kind.Down x refl (stands_at kind.Down is refl)))
      by_kind kind.Index is =
          subst (λ (b : Bool). HaveSame (if not b then inside_by false ++ own_by kind.Index else []) (if not (has_actuals f (item f n).expression) then inside_as f told false n ++ own_raises f (item f n).expression else [])) (sym (actuals is))
          (index_here is (has_actuals f (item f n).expression) refl)
      by_kind kind.Name is = done_here kind.Name (own_raises f (item f n).expression) (name_own (there nodes n kind.Name refl is) is)
      by_kind kind.Call is = done_here kind.Call (own_raises f (item f n).expression) (call_own (there nodes n kind.Call refl is) is)
      by_kind kind.Elems is = done_here kind.Elems (own_raises f (item f n).expression) (elements_own (there nodes n kind.Elems refl is))
      by_kind kind.SetField is = plain_here kind.SetField (there nodes n kind.SetField refl is) (set_stands kind.SetField (there nodes n kind.SetField refl is) (stands_at kind.SetField is))
      by_kind kind.SetIndex is = plain_here kind.SetIndex (there nodes n kind.SetIndex refl is) (set_stands kind.SetIndex (there nodes n kind.SetIndex refl is) (stands_at kind.SetIndex is))
      by_kind kind.Init is = let x = there nodes n kind.Init refl is in plain_here kind.Init x (init_stands x.node x.node.names (elsewhere_at kind.Init is refl))
      by_kind kind.For is = let x = there nodes n kind.For refl is in plain_here kind.For x (for_stands x.node.names (run nodes kind.Decl x.node.children) (after_run nodes kind.Decl x.node.children) (elsewhere_at kind.For is refl))
      by_kind kind.Assign is = let x = there nodes n kind.Assign refl is in plain_here kind.Assign x (elsewhere_at kind.Assign is refl)
      by_kind kind.CallS is = let x = there nodes n kind.CallS refl is in plain_here kind.CallS x (elsewhere_at kind.CallS is refl)
      by_kind kind.While is = let x = there nodes n kind.While refl is in plain_here kind.While x (elsewhere_at kind.While is refl)
      by_kind kind.If is = let x = there nodes n kind.If refl is in plain_here kind.If x (elsewhere_at kind.If is refl)
      by_kind kind.Tagcase is = let x = there nodes n kind.Tagcase refl is in plain_here kind.Tagcase x (elsewhere_at kind.Tagcase is refl)
      by_kind kind.Return is = let x = there nodes n kind.Return refl is in plain_here kind.Return x (elsewhere_at kind.Return is refl)
      by_kind kind.Yield is = let x = there nodes n kind.Yield refl is in plain_here kind.Yield x (elsewhere_at kind.Yield is refl)
      by_kind kind.Signal is = let x = there nodes n kind.Signal refl is in plain_here kind.Signal x (elsewhere_at kind.Signal is refl)
      by_kind kind.Exit is = let x = there nodes n kind.Exit refl is in plain_here kind.Exit x (elsewhere_at kind.Exit is refl)
      by_kind kind.Begin is = let x = there nodes n kind.Begin refl is in plain_here kind.Begin x (elsewhere_at kind.Begin is refl)
      by_kind kind.FieldE is = part_here (elsewhere_at kind.FieldE is refl)
      by_kind kind.TagArm is = part_here (elsewhere_at kind.TagArm is refl)
      by_kind kind.When is = part_here (elsewhere_at kind.When is refl)
      by_kind kind.Others is = part_here (elsewhere_at kind.Others is refl)
      by_kind kind.Resignal is =
          let x = there nodes n kind.Resignal refl is in
          guard_here kind.Resignal (own_raises_of f (item f n).statement) (statement_so kind.Resignal x (elsewhere_at kind.Resignal is refl)) (passed_said kind.Resignal x (at_resignal r scope library refused t parsed n told x))
      by_kind kind.Except is =
          let x = there nodes n kind.Except refl is in
          guard_here kind.Except (own_raises_of f (item f n).statement) (statement_so kind.Except x (elsewhere_at kind.Except is refl)) (passed_said kind.Except x (at_except r scope library refused t parsed n told x))
      by_kind _ is = same_refl []

      row_so : row_told r terms facts its n ≡ row_by (kind_in r n)
      row_so =
          ap (λ (l : List Raise). if is_done_as (kind_in r n) (read.has_actuals r n) then l else [])
          (grouped (inside_by (guards_as (kind_in r n))) (if fails_as r (kind_in r n) n then failure ∷ [] else []) (invoked_told terms (first_as r facts (kind_in r n) its n)) (invoked_told terms (second_operation facts its)))

      pub row_said : HaveSame (row_told r terms facts its n) (row_of f told n)
      row_said = same_trans (row_told r terms facts its n) (row_by (kind_in r n)) (row_of f told n) (same_from _ _ row_so) (by_kind (kind_at nodes n) refl)
