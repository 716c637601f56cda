-- What nodes bind, by what is known of types: variables and objects, each of them by a relation of its own.
use Rattle.std.proofs.Common.{◌≡◌, ◌∙◌, ℕ, suc, ◌+◌, ◌-◌, Bool, true, false, ◌&&◌, nat_lt, if◌then◌else◌, List, [], ◌∷◌, ◌++◌, length, map, replicate, drop, get_or, Option, Some, None, inl, inr, refl, sym, ap, ap₂, subst, arith, lt-ltb}
use Rattle.std.specs.Prelude.{slice_get}
use Rattle.std.specs.List.{AllByRecursion}
use Rattle.clu_tree.specs.declared.node.Node.{Node}
use Rattle.clu_tree.specs.declared.node.NodeKind.{NodeKind}
use Rattle.clu_tree.specs.declared.node.NodeKind.TheVariants as kind
use Rattle.clu_tree.specs.Nodes.{IsTree}
use Rattle.clu_parser.specs.Shape as shape
use Rattle.clu_parser.specs.Shape.{Part, Letter, IsWord, HaveForms, HasForm, IsFormOf, forms, is_child, names_in}
use Rattle.clu_types.specs.CluType.{CluType}
use Rattle.clu_types.specs.declared.term.TypeId.{TypeId}
use Rattle.clu_types.specs.declared.term.Term.{Term}
use Rattle.clu_types.specs.declared.term.Term.TheVariants as term
use Rattle.clu_types.specs.Arena.{type_of, types_at, types_of, AreBelow, PartsBelow, IsArena}
use Rattle.clu_syntax.specs.Kinds.{kind_of, kind_at, is_expression, is_type}
use Rattle.clu_syntax.specs.Slots.{any, slots}
use Rattle.clu_syntax.specs.Splits.{child, last_child, is_of, leading, run, after_run, children_of}
use Rattle.clu_syntax.specs.Syntax.{Identifier, no_expressions, expression_and, Typed}
use Rattle.clu_syntax.specs.Items.{Item, expressions_at, declarations_at}
use Rattle.clu_syntax.specs.Nodes.{before, item_at, item_with, expression_of, declaration_of, statement_of, init_of, for_of, owned, own_of}
use Rattle.clu_syntax.proofs.Items.{item_is}
use Rattle.clu_parts.specs.Slots.{just, several, slots_of, body_slots, Stand, IsPart, AreParts}
use Rattle.clu_parts.proofs.Counted.{is_unnamed, no_names, unnamed, FirstName, first_named}
use Rattle.clu_parts.proofs.Fitting.{fitted, on_end, run_is, no_run, several_from, children_before}
use Rattle.clu_parts.proofs.Lists.{last_of, run_then}
use Rattle.clu_settle.specs.Names.{names_of}
use Rattle.clu_settle.proofs.Shapes.{all_parts, first_part}
use Rattle.clu_meaning.specs.Scoping as means
use Rattle.clu_meaning.specs.Scoping.{Scope}
use Rattle.clu_checking.specs.Specifications.{Specification}
use Rattle.clu_checking.specs.Files.{File, item, meaning, node_names}
use Rattle.clu_checking.specs.Headings as headings
use Rattle.clu_checking.specs.Typing as typing
use Rattle.clu_checking.specs.Invocations as invoking
use Rattle.clu_checking.specs.StatementRules as statements
use Rattle.clu_checking.specs.StatementRules.{Binding, as_list, known, results_by, call_results, bound_to, bound_by, owned_by, bindings_in, target_types}
use Rattle.clu_bindings.specs.declared.meaning.Meaning.{Meaning}
use Rattle.clu_bindings.specs.Inside.{type_inside}
use Rattle.clu_declares.proofs.Below.{before_is, item_there, same_kind}
use Rattle.clu_declares.proofs.Facts.{There, there, all_take, all_drop, run_kinds}
use Rattle.clu_type_rules.specs.declared.known.Known.{Known}
use Rattle.clu_type_rules.specs.Known as tables
use Rattle.clu_type_rules.specs.Known.{term_of, type_at, heading_in, heading_of, invoked_by, is_node}
use Rattle.clu_type_rules.specs.Objects.{names}
use Rattle.clu_type_rules.specs.Objects as of_objects
use Rattle.clu_type_rules.specs.Bindings as of_tables
use Rattle.clu_type_rules.specs.Bindings.{meanings, variable_type, results_of, by_call, called, declared_by, looped_by, are_results, assigned_by, binding_at}
use Rattle.clu_passes.specs.Bound.{AllMean, AreTargets, is_assigning}
use Rattle.clu_passes.specs.ConstantTables.{Means, AreTables}
use Rattle.clu_passes.specs.FactTables.{typed, IsType, AreTypes, AreFacts}
use Rattle.clu_passes.proofs.BoundParts.{Each, each_joined, each_mapped, each_name, is_call, no_call, other_value, several_values, no_value, results_of_call, Two, two_of, One, one_of, head_of, one_call, one_decl, more_decls, same_call, same_decls, first_decl, call_apart, none_apart, type_apart, one_name, value_and_name}
use Rattle.clu_passes.proofs.FactNodes as so
use Rattle.clu_passes.proofs.FactTypes.{IsTerm, term_of_type}
use Rattle.clu_passes.proofs.Loops.{behind_decls}
use Rattle.clu_passes.proofs.OwnPlaces.{there_is}
use Rattle.clu_passes.proofs.Tagged.{first_known}

module _ (k : Known) (scope : Scope) (library : List Specification) (refused : List ℕ) where
  abbrev nodes : List Node
  nodes = k.tables.file.syntax.now

  abbrev f : File
  f = so.f k scope library refused

  abbrev terms : List Term
  terms = k.tables.types.now

  abbrev items : ℕ → ℕ → Item
  items n = before n (item_at nodes)

  names_same : (n : ℕ) (node : Node) → slice_get nodes n ≡ Some node → names k n ≡ node.names
  names_same n node at = ap names_of at

  -- ---- objects

  objects_known : (ids : List TypeId) → AreBelow (length terms) ids → AreTypes terms (map (λ of. Some of) ids) (known (as_list (types_at (types_of terms) ids)))
  objects_known [] below = tt
  objects_known (id ∷ ids) below = ((below.0, refl), objects_known ids below.1)

  module _ (V : Option (Option TypeId) → Option CluType → Type 0) where
    -- nothing is bound, or variables and objects that are these
    abbrev pub IsBound : Option of_tables.Binding → List Binding → Type 0
    IsBound None [] = Unit {0}
    IsBound (Some b) (x ∷ []) = Each V b.variables x.variables × AreTypes terms b.objects x.objects
    IsBound _ _ = ⊥

    moved : (a b : Option of_tables.Binding) (x y : List Binding) → b ≡ a → y ≡ x → IsBound a x → IsBound b y
    moved a b x y e g is = subst (λ (b : Option of_tables.Binding). IsBound b y) (sym e) (subst (IsBound a) (sym g) is)

    results_bound : (vs : List (Option (Option TypeId))) (ws : List (Option CluType)) → Each V vs ws → (its : Term) → PartsBelow (length terms) its → IsBound (results_of k vs (heading_of its)) (bound_to f ws (results_by f (Some (type_of (types_of terms) its))))
    results_bound vs ws are (term.Proc h) parts = (are, objects_known h.results parts.1)
    results_bound vs ws are (term.Iter h) parts = (are, objects_known h.results parts.1)
    results_bound vs ws are _ parts = tt

    results_told : IsArena terms → (vs : List (Option (Option TypeId))) (ws : List (Option CluType)) → Each V vs ws → (of : Option TypeId) (t : Option CluType) → IsType terms of t → IsBound (results_of k vs (heading_in (term_of k of))) (bound_to f ws (results_by f t))
    results_told arena vs ws are None None is = tt
    results_told arena vs ws are None (Some t) is = absurd is
    results_told arena vs ws are (Some of) None is = absurd is
    results_told arena vs ws are (Some of) (Some t) is =
        let x : IsTerm terms of t = term_of_type terms arena of t is.0 is.1 in
        moved (results_of k vs (heading_of x.its)) (results_of k vs (heading_in (term_of k (Some of)))) (bound_to f ws (results_by f (Some (type_of (types_of terms) x.its)))) (bound_to f ws (results_by f (Some t)))
        (ap (λ (o : Option Term). results_of k vs (heading_in o)) x.there) (ap (λ (t : CluType). bound_to f ws (results_by f (Some t))) x.is) (results_bound vs ws are x.its x.parts)

  module _ (shaped : HaveForms nodes) (tree : IsTree nodes) (are : AreTables f k.tables) (lost : ℕ → Bool) (facts : AreFacts f terms k.facts.now lost) where
    abbrev Here : List ℕ → Type 0
    Here cs = AllByRecursion (λ c. lost c ≡ false) cs

    below_is : (n : ℕ) (node : Node) → slice_get nodes n ≡ Some node → lost n ≡ false → Here node.children
    below_is n node at here = subst Here (so.children_same k scope library refused (slice_get nodes n) ∙ ap children_of at) (facts.below n here)

    -- the types of values
    value_known : (n c : ℕ) → IsPart nodes is_expression n c → lost c ≡ false → IsType terms (type_at k c) (typing.type_of f (items n c).expression)
    value_known n c p here =
        subst (IsType terms (type_at k c)) (so.an_expression k scope library refused c p.1 ∙ ap (λ (i : Item). typing.type_of f i.expression) (sym (before_is nodes n c p.0))) (facts.types c here)

    pub values_known : (n : ℕ) (cs : List ℕ) → AreParts nodes is_expression n cs → Here cs → AreTypes terms (map (type_at k) cs) (invoking.types_of f (expressions_at (items n) cs))
    values_known n [] ps here = tt
    values_known n (c ∷ cs) ps here = (value_known n c ps.0 here.0, values_known n cs ps.1 here.1)

    -- whether a node is a call
    item_calls : (c : ℕ) → is_of kind.Call (kind_at nodes c) ≡ true → is_call (item f c).expression ≡ true
    item_calls c is =
        let x = there nodes c kind.Call refl (same_kind kind.Call (kind_at nodes c) is) in
        ap (λ (i : Item). is_call i.expression) (item_there nodes c x.node x.at)
        ∙ ap (λ (j : NodeKind). is_call (expression_of (items c) nodes c x.node j)) x.is

    item_calls_none : (c : ℕ) → is_of kind.Call (kind_at nodes c) ≡ false → is_call (item f c).expression ≡ false
    item_calls_none c other = by (slice_get nodes c) refl
      where
        by : (its : Option Node) → slice_get nodes c ≡ its → is_call (item f c).expression ≡ false
        by None at = ap (λ (i : Item). is_call i.expression) (item_is nodes c ∙ ap (item_with (items c) nodes c) at)
        by (Some node) at =
            ap (λ (i : Item). is_call i.expression) (item_there nodes c node at)
            ∙ no_call (items c) nodes c node node.kind (ap (λ (its : Option Node). is_of kind.Call (kind_of its)) (sym at) ∙ other)

    form_one : (n : ℕ) (node : Node) → slice_get nodes n ≡ Some node → (form : List Part) → (h : HasForm nodes node) → h.form ≡ form → Stand nodes n (slots_of form) node.children
    form_one n node at form h e = subst (λ (form : List Part). Stand nodes n (slots_of form) node.children) e (fitted nodes tree n node at h)

    form_word : (node : Node) (form : List Part) → (h : HasForm nodes node) → h.form ≡ form → IsWord form h.word
    form_word node form h e = subst (λ (form : List Part). IsWord form h.word) e h.is_word

    no_names_in : (node : Node) (form : List Part) → (h : HasForm nodes node) → h.form ≡ form → is_unnamed 2 form ≡ true → node.names ≡ []
    no_names_in node form h e none = unnamed node.names (names_in h.word) h.names_are (no_names 2 form h.word (form_word node form h e) none)

    some_name_in : (node : Node) (form : List Part) → (h : HasForm nodes node) → h.form ≡ form → ((w : List Letter) → IsWord form w → (m : ℕ) × (names_in w ≡ m + 1)) → FirstName node.names
    some_name_in node form h e g = let m = g h.word (form_word node form h e) in first_named node.names m.0 (h.names_are ∙ m.1)

    -- what is bound by a relation V of variables, where P is known of what is assigned to
    module _ (V : Option (Option TypeId) → Option CluType → Type 0) (P : ℕ → Meaning → Type 0) (others : ℕ → Item) (inside : (n t : ℕ) → is_type (kind_at nodes t) ≡ true → lost t ≡ false → V (Some (type_inside k.tables.file others n t)) (Some (headings.type_inside f n (item f t).type))) (named : (n : ℕ) (m : Meaning) (x : means.Meaning) → Means nodes m x → P n m → V (variable_type k others n m) (statements.variable_type f n x)) where
      abbrev IsSo : Option of_tables.Binding → List Binding → Type 0
      IsSo b xs = IsBound V b xs

      -- ---- variables that are declared

      inside_of : (d t : ℕ) → IsPart nodes is_type d t → lost t ≡ false → V (Some (type_inside k.tables.file others d t)) (Some (headings.type_inside f d (items d t).type))
      inside_of d t p here = subst (λ (i : Item). V (Some (type_inside k.tables.file others d t)) (Some (headings.type_inside f d i.type))) (sym (before_is nodes d t p.0)) (inside d t p.1 here)

      abbrev Both : Option TypeId → CluType → Type 0
      Both x y = V (Some x) (Some y)

      one_declared : (n d : ℕ) → IsPart nodes (is_of kind.Decl) n d → lost d ≡ false → Each Both (of_objects.variables_of k others [] d) (map (λ name. headings.type_inside f (items n d).declaration.node (items n d).declaration.type) (items n d).declaration.names)
      one_declared n d p here =
          let x : There nodes d kind.Decl = there nodes d kind.Decl refl (same_kind kind.Decl (kind_at nodes d) p.1) in
          let first = first_part nodes tree shaped is_type [] d x.node x.at (ap slots x.is) in
          let t : ℕ = child 0 x.node in
          let kids : tables.children k d ≡ t ∷ drop 1 x.node.children = ap children_of x.at ∙ first.is in
          let all : Here (t ∷ drop 1 x.node.children) = subst Here first.is (below_is d x.node x.at here) in
          let its : (items n d).declaration ≡ declaration_of (items d) nodes d x.node kind.Decl =
          ap (λ (i : Item). i.declaration) (before_is nodes n d p.0)
          ∙ ap (λ (i : Item). i.declaration) (item_there nodes d x.node x.at)
          ∙ ap (declaration_of (items d) nodes d x.node) x.is in
          let code : of_objects.variables_of k others [] d ≡ replicate (length x.node.names) (type_inside k.tables.file others d t) =
          ap₂ (λ (ns : List Identifier) (of : Option TypeId). replicate (length ns) of) (names_same d x.node x.at) (ap (of_objects.first_inside k others d) kids) in
          subst (λ (vs : List (Option TypeId)). Each Both vs (map (λ name. headings.type_inside f (items n d).declaration.node (items n d).declaration.type) (items n d).declaration.names)) (sym code)
          (subst (λ (D : Typed). Each Both (replicate (length x.node.names) (type_inside k.tables.file others d t)) (map (λ name. headings.type_inside f D.node D.type) D.names)) (sym its)
          (each_name Both (type_inside k.tables.file others d t) (headings.type_inside f d (items d t).type) (inside_of d t first.first all.0) x.node.names))

      pub all_declared : (n : ℕ) (ds : List ℕ) → AreParts nodes (is_of kind.Decl) n ds → Here ds → Each Both (of_objects.declared_types k others [] ds) (statements.declared_types f (declarations_at (items n) ds))
      all_declared n [] ps here = tt
      all_declared n (d ∷ ds) ps here =
          each_joined Both (of_objects.variables_of k others [] d) (of_objects.declared_types k others [] ds) (map (λ name. headings.type_inside f (items n d).declaration.node (items n d).declaration.type) (items n d).declaration.names) (statements.declared_types f (declarations_at (items n) ds))
          (one_declared n d ps.0 here.0) (all_declared n ds ps.1 here.1)

      abbrev declared_in : List ℕ → List (Option (Option TypeId))
      declared_in ds = map (λ of. Some of) (of_objects.declared_types k others [] ds)

      variables_declared : (n : ℕ) (ds : List ℕ) → AreParts nodes (is_of kind.Decl) n ds → Here ds → Each V (declared_in ds) (known (statements.declared_types f (declarations_at (items n) ds)))
      variables_declared n ds ps here = each_mapped V (λ of. Some of) (λ t. Some t) (of_objects.declared_types k others [] ds) (statements.declared_types f (declarations_at (items n) ds)) (all_declared n ds ps here)

      -- ---- variables that are assigned to

      targets_each : (n : ℕ) (ms : List Meaning) (xs : List Identifier) → AllMean nodes ms (map (λ name. meaning f n name) xs) → AllByRecursion (P n) ms → Each V (map (variable_type k others n) ms) (target_types f n xs)
      targets_each n [] [] mean all = tt
      targets_each n [] (x ∷ xs) mean all = absurd mean
      targets_each n (m ∷ ms) [] mean all = absurd mean
      targets_each n (m ∷ ms) (x ∷ xs) mean all = (named n m (meaning f n x) mean.0 all.0, targets_each n ms xs mean.1 all.1)

      -- ---- the results of a call

      call_bound : (vs : List (Option (Option TypeId))) (ws : List (Option CluType)) → Each V vs ws → (c : ℕ) (cs : List ℕ) → is_of kind.Call (kind_at nodes c) ≡ true → lost c ≡ false → IsSo (by_call k vs (c ∷ cs)) (bound_to f ws (call_results f (item f c).expression))
      call_bound vs ws each c cs is here =
          let x = there nodes c kind.Call refl (same_kind kind.Call (kind_at nodes c) is) in
          let first = first_part nodes tree shaped is_expression (any is_expression ∷ []) c x.node x.at (ap slots x.is) in
          let its = first_known k scope library refused shaped tree are lost facts c x.node (any is_expression ∷ []) x.at first here in
          let e : ℕ = child 0 x.node in
          let invoked : invoked_by k c ≡ type_at k e =
          ap (λ (b : Bool). if◌then◌else◌ {A = Option TypeId} b (tables.first_type k (tables.children k c)) None) (sym (there_is kind.Call refl (slice_get nodes c)) ∙ is) ∙ its.code in
          moved V (results_of k vs (heading_in (term_of k (type_at k e)))) (by_call k vs (c ∷ cs)) (bound_to f ws (results_by f (typed f e))) (bound_to f ws (call_results f (item f c).expression))
          (ap (λ (of : Option TypeId). results_of k vs (heading_in (term_of k of))) invoked)
          (ap (λ (i : Item). bound_to f ws (call_results f i.expression)) (item_there nodes c x.node x.at)
          ∙ ap (λ (j : NodeKind). bound_to f ws (call_results f (expression_of (items c) nodes c x.node j))) x.is
          ∙ ap (λ (t : Option CluType). bound_to f ws (results_by f t)) its.definition)
          (results_told V are.arena vs ws each (type_at k e) (typed f e) its.is)

      -- ---- with a name its value

      first_bound : (n t e : ℕ) (name : Identifier) → tables.children k n ≡ t ∷ e ∷ [] → IsPart nodes is_type n t → lost t ≡ false → IsPart nodes is_expression n e → lost e ≡ false →
          IsSo (of_tables.initialised k others n (t ∷ e ∷ [])) (statements.initialised f n (record { name = name; type = (items n t).type }) (items n e).expression)
      first_bound n t e name kids t_is t_here e_is e_here =
          ((subst (λ (of : Option TypeId). V (Some of) (Some (headings.type_inside f n (items n t).type))) (sym (ap (of_objects.first_inside k others n) kids)) (inside_of n t t_is t_here), tt), (value_known n e e_is e_here, tt))

      -- ---- Decls, and behind them a call

      record DeclsCall (n : ℕ) (cs : List ℕ) : Type 0 where
        parts_are : AreParts nodes (is_of kind.Decl) n (run nodes kind.Decl cs)
        one : One nodes n one_call (after_run nodes kind.Decl cs)

      decls_call : (n : ℕ) (cs : List ℕ) → Stand nodes n (just one_decl ∷ several more_decls ∷ just one_call ∷ []) cs → DeclsCall n cs
      decls_call n cs s =
          let r = run_is nodes n kind.Decl more_decls (just one_call ∷ []) cs same_decls call_apart (several_from nodes n one_decl more_decls (just one_call ∷ []) cs first_decl s) in
          record { parts_are = r.parts; one = one_of nodes n one_call (after_run nodes kind.Decl cs) r.rest }

      decls_bound : (n : ℕ) (cs : List ℕ) → DeclsCall n cs → Here cs → (c : ℕ) → after_run nodes kind.Decl cs ≡ c ∷ [] → IsPart nodes one_call n c →
          IsSo (by_call k (declared_in (run nodes kind.Decl cs)) (c ∷ [])) (bound_to f (known (statements.declared_types f (declarations_at (items n) (run nodes kind.Decl cs)))) (call_results f (items n c).expression))
      decls_bound n cs d here c behind p =
          let ds : List ℕ = run nodes kind.Decl cs in
          let last : Here (c ∷ []) = subst Here behind (all_drop (λ c. lost c ≡ false) (leading nodes kind.Decl cs) cs here) in
          let each : Each V (declared_in ds) (known (statements.declared_types f (declarations_at (items n) ds))) = variables_declared n ds d.parts_are (all_take (λ c. lost c ≡ false) (leading nodes kind.Decl cs) cs here) in
          subst (λ (i : Item). IsSo (by_call k (declared_in ds) (c ∷ [])) (bound_to f (known (statements.declared_types f (declarations_at (items n) ds))) (call_results f i.expression))) (sym (before_is nodes n c p.0))
          (call_bound (declared_in ds) (known (statements.declared_types f (declarations_at (items n) ds))) each c [] (sym (same_call (kind_at nodes c)) ∙ p.1) last.0)

      abbrev code_of_call : List ℕ → Option of_tables.Binding
      code_of_call cs = by_call k (declared_in (run nodes kind.Decl cs)) (after_run nodes kind.Decl cs)

      declared_code : (n : ℕ) (node : Node) → slice_get nodes n ≡ Some node → node.names ≡ [] → declared_by k others n (names k n) ≡ code_of_call node.children
      declared_code n node at none = ap (declared_by k others n) (names_same n node at ∙ none) ∙ ap code_of_call (ap children_of at)

      named_code : (n : ℕ) (node : Node) (t e : ℕ) → slice_get nodes n ≡ Some node → (name : FirstName node.names) → node.children ≡ t ∷ e ∷ [] → declared_by k others n (names k n) ≡ of_tables.initialised k others n (t ∷ e ∷ [])
      named_code n node t e at name is = ap (declared_by k others n) (names_same n node at ∙ name.is) ∙ ap (of_tables.initialised k others n) (ap children_of at ∙ is)

      -- ---- by kind

      init_at : (n : ℕ) (x : There nodes n kind.Init) → bindings_in f kind.Init n ≡ bound_by f (init_of (items n) nodes n x.node x.node.names)
      init_at n x =
          ap (λ (i : Item). bound_by f i.statement) (item_there nodes n x.node x.at)
          ∙ ap (λ (j : NodeKind). bound_by f (statement_of (items n) nodes n x.node j)) x.is

      init_named : (n : ℕ) (x : There nodes n kind.Init) → Here x.node.children → FirstName x.node.names → Two nodes n (is_child shape.any_type) (is_child shape.expression) x.node.children → IsSo (binding_at k others kind.Init n) (bindings_in f kind.Init n)
      init_named n x here name two =
          let t : ℕ = two.first in
          let e : ℕ = two.second in
          let all : Here (t ∷ e ∷ []) = subst Here two.is here in
          moved V (of_tables.initialised k others n (t ∷ e ∷ [])) (binding_at k others kind.Init n) (statements.initialised f n (record { name = name.first; type = (items n t).type }) (items n e).expression) (bindings_in f kind.Init n)
          (named_code n x.node t e x.at name two.is)
          (init_at n x
          ∙ ap (λ (its : List Identifier). bound_by f (init_of (items n) nodes n x.node its)) name.is
          ∙ ap₂ (λ (a b : ℕ). statements.initialised f n (record { name = name.first; type = (items n a).type }) (items n b).expression) (ap (λ (cs : List ℕ). get_or cs 0 0) two.is) (ap (λ (cs : List ℕ). get_or cs 1 0) two.is))
          (first_bound n t e name.first (ap children_of x.at ∙ two.is) two.first_is all.0 two.second_is all.1.0)

      init_called : (n : ℕ) (x : There nodes n kind.Init) → Here x.node.children → x.node.names ≡ [] → DeclsCall n x.node.children → IsSo (binding_at k others kind.Init n) (bindings_in f kind.Init n)
      init_called n x here none d =
          let cs : List ℕ = x.node.children in
          let c : ℕ = d.one.first in
          let whole : run nodes kind.Decl cs ++ c ∷ [] ≡ cs = run_then nodes n kind.Decl cs (c ∷ []) (sym d.one.is) in
          let last : last_child x.node ≡ c = ap (λ (xs : List ℕ). get_or xs (length xs - 1) 0) (sym whole) ∙ last_of (run nodes kind.Decl cs) c in
          moved V (by_call k (declared_in (run nodes kind.Decl cs)) (c ∷ [])) (binding_at k others kind.Init n) (bound_to f (known (statements.declared_types f (declarations_at (items n) (run nodes kind.Decl cs)))) (call_results f (items n c).expression)) (bindings_in f kind.Init n)
          (declared_code n x.node x.at none ∙ ap (by_call k (declared_in (run nodes kind.Decl cs))) d.one.is)
          (init_at n x
          ∙ ap (λ (its : List Identifier). bound_by f (init_of (items n) nodes n x.node its)) none
          ∙ ap (λ (e : ℕ). bound_to f (known (statements.declared_types f (declarations_at (items n) (run nodes kind.Decl cs)))) (call_results f (items n e).expression)) last)
          (decls_bound n cs d here c d.one.is d.one.first_is)

      init_is : (n : ℕ) → kind_at nodes n ≡ kind.Init → lost n ≡ false → IsSo (binding_at k others kind.Init n) (bindings_in f kind.Init n)
      init_is n is here =
          let x : There nodes n kind.Init = there nodes n kind.Init refl is in
          let h : HasForm nodes x.node = shaped n x.node x.at in
          let all : Here x.node.children = below_is n x.node x.at here in
          elim (subst (λ (j : NodeKind). IsFormOf h.form (forms j)) x.is h.of_kind) [
            | inl e ↦ init_named n x all (some_name_in x.node _ h e (one_name _)) (two_of nodes n (is_child shape.any_type) (is_child shape.expression) x.node.children (form_one n x.node x.at _ h e))
            | inr (inl e) ↦ init_called n x all (no_names_in x.node _ h e refl) (decls_call n x.node.children (form_one n x.node x.at _ h e))
            | inr (inr never) ↦ absurd never
          ]

      own_at : (n : ℕ) (x : There nodes n kind.Own) → bindings_in f kind.Own n ≡ owned_by f (owned (items n) nodes n x.node.names (run nodes kind.Decl x.node.children) (after_run nodes kind.Decl x.node.children))
      own_at n x =
          ap (λ (i : Item). owned_by f i.own) (item_there nodes n x.node x.at)
          ∙ ap (λ (j : NodeKind). owned_by f (own_of (items n) nodes n x.node j)) x.is

      own_none : (n : ℕ) (x : There nodes n kind.Own) → x.node.names ≡ [] → after_run nodes kind.Decl x.node.children ≡ [] → IsSo (binding_at k others kind.Own n) (bindings_in f kind.Own n)
      own_none n x none behind =
          moved V (by_call k (declared_in (run nodes kind.Decl x.node.children)) []) (binding_at k others kind.Own n) [] (bindings_in f kind.Own n)
          (declared_code n x.node x.at none ∙ ap (by_call k (declared_in (run nodes kind.Decl x.node.children))) behind)
          (own_at n x ∙ ap₂ (λ (its : List Identifier) (rest : List ℕ). owned_by f (owned (items n) nodes n its (run nodes kind.Decl x.node.children) rest)) none behind)
          tt

      own_named : (n : ℕ) (x : There nodes n kind.Own) → Here x.node.children → FirstName x.node.names → Stand nodes n (just (is_child shape.any_type) ∷ just (is_child shape.expression) ∷ []) x.node.children → IsSo (binding_at k others kind.Own n) (bindings_in f kind.Own n)
      own_named n x here name s =
          let two = two_of nodes n (is_child shape.any_type) (is_child shape.expression) x.node.children s in
          let t : ℕ = two.first in
          let e : ℕ = two.second in
          let all : Here (t ∷ e ∷ []) = subst Here two.is here in
          let behind : after_run nodes kind.Decl x.node.children ≡ t ∷ e ∷ [] =
          ap (λ (m : ℕ). drop m x.node.children) (no_run nodes n kind.Decl (just (is_child shape.any_type) ∷ just (is_child shape.expression) ∷ []) x.node.children type_apart s) ∙ two.is in
          moved V (of_tables.initialised k others n (t ∷ e ∷ [])) (binding_at k others kind.Own n) (statements.initialised f n (record { name = name.first; type = (items n t).type }) (items n e).expression) (bindings_in f kind.Own n)
          (named_code n x.node t e x.at name two.is)
          (own_at n x ∙ ap₂ (λ (its : List Identifier) (rest : List ℕ). owned_by f (owned (items n) nodes n its (run nodes kind.Decl x.node.children) rest)) name.is behind)
          (first_bound n t e name.first (ap children_of x.at ∙ two.is) two.first_is all.0 two.second_is all.1.0)

      own_called : (n : ℕ) (x : There nodes n kind.Own) → Here x.node.children → x.node.names ≡ [] → DeclsCall n x.node.children → IsSo (binding_at k others kind.Own n) (bindings_in f kind.Own n)
      own_called n x here none d =
          let cs : List ℕ = x.node.children in
          let c : ℕ = d.one.first in
          moved V (by_call k (declared_in (run nodes kind.Decl cs)) (c ∷ [])) (binding_at k others kind.Own n) (bound_to f (known (statements.declared_types f (declarations_at (items n) (run nodes kind.Decl cs)))) (call_results f (items n c).expression)) (bindings_in f kind.Own n)
          (declared_code n x.node x.at none ∙ ap (by_call k (declared_in (run nodes kind.Decl cs))) d.one.is)
          (own_at n x ∙ ap₂ (λ (its : List Identifier) (rest : List ℕ). owned_by f (owned (items n) nodes n its (run nodes kind.Decl cs) rest)) none d.one.is)
          (decls_bound n cs d here c d.one.is d.one.first_is)

      own_is : (n : ℕ) → kind_at nodes n ≡ kind.Own → lost n ≡ false → IsSo (binding_at k others kind.Own n) (bindings_in f kind.Own n)
      own_is n is here =
          let x : There nodes n kind.Own = there nodes n kind.Own refl is in
          let h : HasForm nodes x.node = shaped n x.node x.at in
          let all : Here x.node.children = below_is n x.node x.at here in
          elim (subst (λ (j : NodeKind). IsFormOf h.form (forms j)) x.is h.of_kind) [
            | inl e ↦ own_none n x (no_names_in x.node _ h e refl) (none_behind n x.node.children (form_one n x.node x.at _ h e))
            | inr (inl e) ↦ own_named n x all (some_name_in x.node _ h e (value_and_name _ _)) (form_one n x.node x.at _ h e)
            | inr (inr (inl e)) ↦ own_called n x all (no_names_in x.node _ h e refl) (decls_call n x.node.children (form_one n x.node x.at _ h e))
            | inr (inr (inr never)) ↦ absurd never
          ]
        where
          none_behind : (n : ℕ) (cs : List ℕ) → Stand nodes n (just one_decl ∷ several more_decls ∷ []) cs → after_run nodes kind.Decl cs ≡ []
          none_behind n cs s =
              let r = run_is nodes n kind.Decl more_decls [] cs same_decls none_apart (several_from nodes n one_decl more_decls [] cs first_decl s) in
              on_end nodes n (λ (rest : List ℕ). rest ≡ []) refl (after_run nodes kind.Decl cs) r.rest

      module _ (targets : AreTargets f k) where
        targets_bound : (n : ℕ) (node : Node) → slice_get nodes n ≡ Some node → is_assigning (kind_at nodes n) ≡ true → AllByRecursion (P n) (meanings k n) → Each V (of_tables.targets k others n) (target_types f n node.names)
        targets_bound n node at is all =
            targets_each n (meanings k n) node.names (subst (λ (xs : List Identifier). AllMean nodes (meanings k n) (map (λ name. meaning f n name) xs)) (ap (λ (its : Option Node). node_names f its) at) (targets n is)) all

        -- with names or declarations, by what stands behind these
        abbrev looped : ℕ → List Identifier → List (Option (Option TypeId)) → List ℕ → Option of_tables.Binding
        looped n [] ds rest = by_call k ds rest
        looped n (name ∷ names) ds rest = by_call k (of_tables.targets k others n) rest

        for_is : (n : ℕ) → kind_at nodes n ≡ kind.For → lost n ≡ false → AllByRecursion (P n) (meanings k n) → IsSo (binding_at k others kind.For n) (bindings_in f kind.For n)
        for_is n is here all =
            let x : There nodes n kind.For = there nodes n kind.For refl is in
            let cs : List ℕ = x.node.children in
            let kids : Here cs = below_is n x.node x.at here in
            let head = head_of nodes n one_call body_slots (after_run nodes kind.Decl cs) (behind_decls k scope library refused shaped tree are lost facts n x) in
            let c : ℕ = head.first in
            let behind_here : Here (c ∷ head.rest) = subst Here head.is (all_drop (λ c. lost c ≡ false) (leading nodes kind.Decl cs) cs kids) in
            let definition : bindings_in f kind.For n ≡ bound_by f (for_of (items n) nodes n x.node.names (run nodes kind.Decl cs) (c ∷ head.rest)) =
            ap (λ (i : Item). bound_by f i.statement) (item_there nodes n x.node x.at)
            ∙ ap (λ (j : NodeKind). bound_by f (statement_of (items n) nodes n x.node j)) x.is
            ∙ ap (λ (rest : List ℕ). bound_by f (for_of (items n) nodes n x.node.names (run nodes kind.Decl cs) rest)) head.is in
            let code : binding_at k others kind.For n ≡ looped n x.node.names (declared_in (run nodes kind.Decl cs)) (c ∷ head.rest) =
            looped_code n (names k n) ∙ ap (λ (its : List Identifier). looped n its (of_tables.declared k others n) (called k others n)) (names_same n x.node x.at)
            ∙ ap (λ (ds : List ℕ). looped n x.node.names (declared_in (run nodes kind.Decl ds)) (after_run nodes kind.Decl ds)) (ap children_of x.at)
            ∙ ap (looped n x.node.names (declared_in (run nodes kind.Decl cs))) head.is in
            by n x.node.names c head.rest (run nodes kind.Decl cs) head.first_is behind_here.0
            (variables_declared n (run nodes kind.Decl cs) (run_kinds nodes kind.Decl n cs (children_before nodes tree n x.node x.at)) (all_take (λ c. lost c ≡ false) (leading nodes kind.Decl cs) cs kids))
            (targets_bound n x.node x.at (ap is_assigning is) all) code definition
          where
            looped_code : (n : ℕ) (its : List Identifier) → looped_by k others n its ≡ looped n its (of_tables.declared k others n) (called k others n)
            looped_code n [] = refl
            looped_code n (name ∷ its) = refl

            by : (n : ℕ) (its : List Identifier) (c : ℕ) (rest ds : List ℕ) → IsPart nodes one_call n c → lost c ≡ false → Each V (declared_in ds) (known (statements.declared_types f (declarations_at (items n) ds))) → Each V (of_tables.targets k others n) (target_types f n its) →
                binding_at k others kind.For n ≡ looped n its (declared_in ds) (c ∷ rest) → bindings_in f kind.For n ≡ bound_by f (for_of (items n) nodes n its ds (c ∷ rest)) → IsSo (binding_at k others kind.For n) (bindings_in f kind.For n)
            by n [] c rest ds p here each target code definition =
                moved V (by_call k (declared_in ds) (c ∷ rest)) (binding_at k others kind.For n) (bound_to f (known (statements.declared_types f (declarations_at (items n) ds))) (call_results f (item f c).expression)) (bindings_in f kind.For n) code
                (definition ∙ ap (λ (i : Item). bound_to f (known (statements.declared_types f (declarations_at (items n) ds))) (call_results f i.expression)) (before_is nodes n c p.0))
                (call_bound (declared_in ds) (known (statements.declared_types f (declarations_at (items n) ds))) each c rest (sym (same_call (kind_at nodes c)) ∙ p.1) here)
            by n (name ∷ its) c rest ds p here each target code definition =
                moved V (by_call k (of_tables.targets k others n) (c ∷ rest)) (binding_at k others kind.For n) (bound_to f (target_types f n (name ∷ its)) (call_results f (item f c).expression)) (bindings_in f kind.For n) code
                (definition ∙ ap (λ (i : Item). bound_to f (target_types f n (name ∷ its)) (call_results f i.expression)) (before_is nodes n c p.0))
                (call_bound (of_tables.targets k others n) (target_types f n (name ∷ its)) target c rest (sym (same_call (kind_at nodes c)) ∙ p.1) here)

        -- ---- an Assign

        means_count : (n : ℕ) (ms : List Meaning) (xs : List Identifier) → AllMean nodes ms (map (λ name. meaning f n name) xs) → length ms ≡ length xs
        means_count n [] [] mean = refl
        means_count n [] (x ∷ xs) mean = absurd mean
        means_count n (m ∷ ms) [] mean = absurd mean
        means_count n (m ∷ ms) (x ∷ xs) mean = ap suc (means_count n ms xs mean.1)

        module _ (n : ℕ) (xs : List Identifier) (each : Each V (of_tables.targets k others n) (target_types f n xs)) (count : length (meanings k n) ≡ length xs) where
          abbrev Assigned : List ℕ → Type 0
          Assigned cs = IsSo (assigned_by k others n (are_results k others n cs) cs) (statements.assigned f n xs (expressions_at (items n) cs))

          -- each variable a value
          as_values : (cs : List ℕ) → AreParts nodes is_expression n cs → Here cs → are_results k others n cs ≡ false → statements.assigned f n xs (expressions_at (items n) cs) ≡ bound_to f (target_types f n xs) (invoking.types_of f (expressions_at (items n) cs) ∷ []) → Assigned cs
          as_values cs ps here none definition =
              moved V (assigned_by k others n false cs) (assigned_by k others n (are_results k others n cs) cs) (bound_to f (target_types f n xs) (invoking.types_of f (expressions_at (items n) cs) ∷ [])) (statements.assigned f n xs (expressions_at (items n) cs))
              (ap (λ (b : Bool). assigned_by k others n b cs) none) definition (each, values_known n cs ps here)

          as_results : (c : ℕ) → IsPart nodes is_expression n c → lost c ≡ false → is_of kind.Call (kind_at nodes c) ≡ true → are_results k others n (c ∷ []) ≡ true → statements.assigned f n xs (expression_and (items n c).expression no_expressions) ≡ bound_to f (target_types f n xs) (call_results f (items n c).expression) → Assigned (c ∷ [])
          as_results c p here is all definition =
              moved V (by_call k (of_tables.targets k others n) (c ∷ [])) (assigned_by k others n (are_results k others n (c ∷ [])) (c ∷ [])) (bound_to f (target_types f n xs) (call_results f (item f c).expression)) (statements.assigned f n xs (expression_and (items n c).expression no_expressions))
              (ap (λ (b : Bool). assigned_by k others n b (c ∷ [])) all)
              (definition ∙ ap (λ (i : Item). bound_to f (target_types f n xs) (call_results f i.expression)) (before_is nodes n c p.0))
              (call_bound (of_tables.targets k others n) (target_types f n xs) each c [] is here)

        calls_in : (n c : ℕ) (b : Bool) → IsPart nodes is_expression n c → is_call (item f c).expression ≡ b → is_call (items n c).expression ≡ b
        calls_in n c b p e = ap (λ (i : Item). is_call i.expression) (before_is nodes n c p.0) ∙ e

        one_assigned : (n : ℕ) (xs : List Identifier) (each : Each V (of_tables.targets k others n) (target_types f n xs)) (count : length (meanings k n) ≡ length xs) (c : ℕ) → IsPart nodes is_expression n c → lost c ≡ false → Assigned n xs each count (c ∷ [])
        one_assigned n [] each count c p here =
            as_values n [] each count (c ∷ []) (p, tt) (here, tt) (ap (λ (m : ℕ). nat_lt 1 m && is_node k kind.Call c) count) refl
        one_assigned n (x ∷ []) each count c p here =
            as_values n (x ∷ []) each count (c ∷ []) (p, tt) (here, tt) (ap (λ (m : ℕ). nat_lt 1 m && is_node k kind.Call c) count) refl
        one_assigned n (x ∷ y ∷ xs) each count c p here = by (is_of kind.Call (kind_at nodes c)) refl
          where
            code : (b : Bool) → is_of kind.Call (kind_at nodes c) ≡ b → are_results k others n (c ∷ []) ≡ b
            code b e = ap₂ (λ (m : ℕ) (b : Bool). nat_lt 1 m && b) count (sym (there_is kind.Call refl (slice_get nodes c)) ∙ e) ∙ ap (λ (t : Bool). t && b) (lt-ltb 1 (length (x ∷ y ∷ xs)) (omega arith))

            by : (b : Bool) → is_of kind.Call (kind_at nodes c) ≡ b → Assigned n (x ∷ y ∷ xs) each count (c ∷ [])
            by true e = as_results n (x ∷ y ∷ xs) each count c p here e (code true e) (results_of_call f x y xs n (items n c).expression (calls_in n c true p (item_calls c e)))
            by false e = as_values n (x ∷ y ∷ xs) each count (c ∷ []) (p, tt) (here, tt) (code false e) (other_value f n (x ∷ y ∷ xs) (items n c).expression (calls_in n c false p (item_calls_none c e)))

        assigned_each : (n : ℕ) (xs : List Identifier) (each : Each V (of_tables.targets k others n) (target_types f n xs)) (count : length (meanings k n) ≡ length xs) (cs : List ℕ) → AreParts nodes is_expression n cs → Here cs → Assigned n xs each count cs
        assigned_each n xs each count [] ps here = as_values n xs each count [] ps here refl (no_value f n xs)
        assigned_each n xs each count (c ∷ []) ps here = one_assigned n xs each count c ps.0 here.0
        assigned_each n xs each count (c ∷ d ∷ cs) ps here = as_values n xs each count (c ∷ d ∷ cs) ps here refl (several_values f n xs (items n c).expression (items n d).expression (expressions_at (items n) cs))

        assign_is : (n : ℕ) → kind_at nodes n ≡ kind.Assign → lost n ≡ false → AllByRecursion (P n) (meanings k n) → IsSo (binding_at k others kind.Assign n) (bindings_in f kind.Assign n)
        assign_is n is here all =
            let x : There nodes n kind.Assign = there nodes n kind.Assign refl is in
            let cs : List ℕ = x.node.children in
            let mean : AllMean nodes (meanings k n) (map (λ name. meaning f n name) x.node.names) = subst (λ (xs : List Identifier). AllMean nodes (meanings k n) (map (λ name. meaning f n name) xs)) (ap (λ (its : Option Node). node_names f its) x.at) (targets n (ap is_assigning is)) in
            moved V (assigned_by k others n (are_results k others n cs) cs) (binding_at k others kind.Assign n) (statements.assigned f n x.node.names (expressions_at (items n) cs)) (bindings_in f kind.Assign n)
            (ap (of_tables.assigned k others n) (ap children_of x.at))
            (ap (λ (i : Item). bound_by f i.statement) (item_there nodes n x.node x.at) ∙ ap (λ (j : NodeKind). bound_by f (statement_of (items n) nodes n x.node j)) x.is)
            (assigned_each n x.node.names (targets_bound n x.node x.at (ap is_assigning is) all) (means_count n (meanings k n) x.node.names mean) cs
            (all_parts nodes tree shaped is_expression n x.node x.at (ap slots x.is)) (below_is n x.node x.at here))

        pub bound_is : (n : ℕ) → lost n ≡ false → (j : NodeKind) → kind_at nodes n ≡ j → (is_assigning j ≡ true → AllByRecursion (P n) (meanings k n)) → IsSo (binding_at k others j n) (bindings_in f j n)
        bound_is n here kind.Init is all = init_is n is here
        bound_is n here kind.Own is all = own_is n is here
        bound_is n here kind.For is all = for_is n is here (all refl)
        bound_is n here kind.Assign is all = assign_is n is here (all refl)
        bound_is n here _ is all = tt
