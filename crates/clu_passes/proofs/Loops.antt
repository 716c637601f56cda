-- V36 by what is known of types and invocations.
use Rattle.std.proofs.Common.{◌≡◌, ◌∙◌, ℕ, suc, ◌+◌, Bool, true, false, ◌&&◌, if◌then◌else◌, List, [], ◌∷◌, drop, Option, Some, None, inl, inr, refl, sym, ap, ap₂, subst, add-one}
use Rattle.std.specs.Prelude.{slice_get, not, is_some}
use Rattle.std.specs.List.{AllByRecursion, list_any}
use Rattle.clu_tree.specs.declared.node.Node.{Node}
use Rattle.clu_tree.specs.declared.node.NodeKind.{NodeKind}
use Rattle.clu_tree.specs.declared.node.NodeKind.TheVariants as kind
use Rattle.clu_tree.specs.Nodes.{IsTree}
use Rattle.clu_parser.specs.Shape as shape
use Rattle.clu_parser.specs.Shape.{Part, HaveForms, HasForm, IsFormOf, forms, is_child, parts_of}
use Rattle.clu_types.specs.declared.term.TypeId.{TypeId}
use Rattle.clu_syntax.specs.Kinds.{kind_at, is_expression}
use Rattle.clu_syntax.specs.Slots.{any, slots}
use Rattle.clu_syntax.specs.Splits.{child, is_of, leading, run, after_run}
use Rattle.clu_syntax.specs.Syntax.{Identifier}
use Rattle.clu_syntax.specs.Items.{Item}
use Rattle.clu_syntax.specs.Nodes.{before, item_at, expression_of, statement_of, for_of}
use Rattle.clu_parts.specs.Slots.{Slot, just, may_stand, slots_of, body_slots, Stand}
use Rattle.clu_parts.proofs.Fitting.{fitted, on_head, run_is, no_run, first_of}
use Rattle.clu_settle.proofs.Shapes.{first_part}
use Rattle.clu_meaning.specs.Scoping.{Scope}
use Rattle.clu_checking.specs.Specifications.{Specification}
use Rattle.clu_checking.specs.Files.{File, item, children}
use Rattle.clu_checking.specs.Invocations as invoking
use Rattle.clu_checking.specs.ExpressionRules.{invokes_iterator, is_loop_call}
use Rattle.clu_checking.specs.StatementRules as statements
use Rattle.clu_checking.specs.StatementRules.{is_other_than_iterator, loops_over, v36, v36_in}
use Rattle.clu_checking.specs.Wanted as wants
use Rattle.clu_declares.proofs.Below.{before_is, item_there, same_kind}
use Rattle.clu_declares.proofs.Facts.{There, there, all_drop}
use Rattle.clu_type_rules.specs.declared.known.Known.{Known}
use Rattle.clu_type_rules.specs.declared.invocation_rules.Fault.TheVariants as fault
use Rattle.clu_type_rules.specs.Known as known
use Rattle.clu_type_rules.specs.Known.{term_of, type_at, is_iterator, first_type, is_node, wanted_in}
use Rattle.clu_type_rules.specs.StatementRules.{call_in, invoked_at, loops_over_other}
use Rattle.clu_type_rules.specs.InvocationRules as of_tables
use Rattle.clu_type_rules.specs.InvocationRules.{some_has_fault, misuses_iterator}
use Rattle.clu_passes.specs.ConstantTables.{AreTables, AreWantedKnown}
use Rattle.clu_passes.specs.FactTables.{typed, AreFacts}
use Rattle.clu_passes.proofs.FactNodes as so
use Rattle.clu_passes.proofs.OwnPlaces.{there_is}
use Rattle.clu_passes.proofs.Tagged.{first_known}
use Rattle.clu_passes.proofs.Invoked.{iterators_are}

abbrev first_in : List ℕ → Option ℕ
first_in [] = None
first_in (c ∷ cs) = Some c

abbrev call_body : List Slot
call_body = just (is_child (shape.one kind.Call)) ∷ body_slots

same_decl : (j : NodeKind) → may_stand 2 (parts_of shape.decls) j ≡ is_of kind.Decl j
same_decl kind.File = refl
same_decl _ = refl

loop_apart : (j : NodeKind) → (is_of kind.Decl j && first_of call_body j) ≡ false
loop_apart kind.File = refl
loop_apart _ = refl

same_call : (j : NodeKind) → is_child (shape.one kind.Call) j ≡ is_of kind.Call j
same_call kind.File = refl
same_call _ = refl

-- the call is the first child behind the declarations
call_is : (nodes : List Node) (cs : List ℕ) → call_in nodes cs ≡ first_in (after_run nodes kind.Decl cs)
unfolding leading
call_is nodes [] = refl
call_is nodes (c ∷ cs) = by (is_of kind.Decl (kind_at nodes c)) refl (call_is nodes cs)
  where
    by : (b : Bool) → is_of kind.Decl (kind_at nodes c) ≡ b → call_in nodes cs ≡ first_in (after_run nodes kind.Decl cs) → call_in nodes (c ∷ cs) ≡ first_in (after_run nodes kind.Decl (c ∷ cs))
    by true e rest =
        let counted : leading nodes kind.Decl (c ∷ cs) ≡ suc (leading nodes kind.Decl cs) = ap (λ (b : Bool). if b then leading nodes kind.Decl cs + 1 else 0) e ∙ add-one (leading nodes kind.Decl cs) in
        ap (λ (b : Bool). if◌then◌else◌ {A = Option ℕ} b (call_in nodes cs) (Some c)) (sym (there_is kind.Decl refl (slice_get nodes c)) ∙ e)
        ∙ rest ∙ ap (λ (m : ℕ). first_in (drop m (c ∷ cs))) (sym counted)
    by false e rest =
        let none : leading nodes kind.Decl (c ∷ cs) ≡ 0 = ap (λ (b : Bool). if b then leading nodes kind.Decl cs + 1 else 0) e in
        ap (λ (b : Bool). if◌then◌else◌ {A = Option ℕ} b (call_in nodes cs) (Some c)) (sym (there_is kind.Decl refl (slice_get nodes c)) ∙ e)
        ∙ ap (λ (m : ℕ). first_in (drop m (c ∷ cs))) (sym none)

module _ (k : Known) (scope : Scope) (library : List Specification) (refused : List ℕ) where
  abbrev nodes : List Node
  nodes = k.tables.file.syntax.now

  abbrev f : File
  f = so.f k scope library refused

  module _ (shaped : HaveForms nodes) (tree : IsTree nodes) (are : AreTables f k.tables) (lost : ℕ → Bool) (facts : AreFacts f k.tables.types.now k.facts.now lost) where
    abbrev other : Option TypeId → Bool
    other of = is_some of && not (is_iterator (term_of k of))

    -- the type of what a Call invokes
    called : (c : ℕ) → is_of kind.Call (kind_at nodes c) ≡ true → lost c ≡ false → is_other_than_iterator f (statements.invoked_by f (item f c).expression) ≡ other (known.invoked_by k c)
    called c is here =
        let x = there nodes c kind.Call refl (same_kind kind.Call (kind_at nodes c) is) in
        let first = first_part nodes tree shaped is_expression (any is_expression ∷ []) c x.node x.at (ap slots x.is) in
        let its = first_known k scope library refused shaped tree are lost facts c x.node (any is_expression ∷ []) x.at first here in
        let here_is : is_node k kind.Call c ≡ true = sym (there_is kind.Call refl (slice_get nodes c)) ∙ is in
        let invoked : known.invoked_by k c ≡ type_at k (child 0 x.node) =
        ap (λ (b : Bool). if◌then◌else◌ {A = Option TypeId} b (first_type k (known.children k c)) None) here_is ∙ its.code in
        ap (λ (i : Item). is_other_than_iterator f (statements.invoked_by f i.expression)) (item_there nodes c x.node x.at)
        ∙ ap (λ (its : NodeKind). is_other_than_iterator f (statements.invoked_by f (expression_of (before c (item_at nodes)) nodes c x.node its))) x.is
        ∙ ap (is_other_than_iterator f) its.definition
        ∙ so.no_iterator k scope library refused are (type_at k (child 0 x.node)) (typed f (child 0 x.node)) its.is
        ∙ ap other (sym invoked)

    abbrev items : ℕ → ℕ → Item
    items n = before n (item_at nodes)

    looped : (n : ℕ) (names : List Identifier) (decls : List ℕ) (c : ℕ) (rest : List ℕ) → loops_over f (for_of (items n) nodes n names decls (c ∷ rest)) ≡ statements.invoked_by f (items n c).expression
    looped n [] decls c rest = refl
    looped n (name ∷ names) decls c rest = refl

    -- what stands behind the declarations
    behind : (n : ℕ) (names : List Identifier) (decls cs : List ℕ) → Stand nodes n call_body cs → AllByRecursion (λ c. lost c ≡ false) cs → is_other_than_iterator f (loops_over f (for_of (items n) nodes n names decls cs)) ≡ other (invoked_at k (first_in cs))
    behind n names decls cs s =
        on_head nodes n (λ cs. AllByRecursion (λ c. lost c ≡ false) cs → is_other_than_iterator f (loops_over f (for_of (items n) nodes n names decls cs)) ≡ other (invoked_at k (first_in cs))) (is_child (shape.one kind.Call)) body_slots
        (λ c rest is s all.
        ap (is_other_than_iterator f) (looped n names decls c rest)
        ∙ ap (λ (i : Item). is_other_than_iterator f (statements.invoked_by f i.expression)) (before_is nodes n c is.0)
        ∙ called c (sym (same_call (kind_at nodes c)) ∙ is.1) all.0) cs s

    pub behind_decls : (n : ℕ) (x : There nodes n kind.For) → Stand nodes n call_body (after_run nodes kind.Decl x.node.children)
    behind_decls n x =
        let h : HasForm nodes x.node = shaped n x.node x.at in
        elim (subst (λ (k : NodeKind). IsFormOf h.form (forms k)) x.is h.of_kind) [
          | inl e ↦ (run_is nodes n kind.Decl (may_stand 2 (parts_of shape.decls)) call_body x.node.children same_decl loop_apart (subst (λ (form : List Part). Stand nodes n (slots_of form) x.node.children) e (fitted nodes tree n x.node x.at h))).rest
          | inr (inl e) ↦
              let s : Stand nodes n call_body x.node.children = subst (λ (form : List Part). Stand nodes n (slots_of form) x.node.children) e (fitted nodes tree n x.node x.at h) in
              subst (λ (m : ℕ). Stand nodes n call_body (drop m x.node.children)) (sym (no_run nodes n kind.Decl call_body x.node.children loop_apart s)) s
          | inr (inr never) ↦ absurd never
        ]

    for_is : (n : ℕ) → kind_at nodes n ≡ kind.For → lost n ≡ false → is_other_than_iterator f (loops_over f (item f n).statement) ≡ loops_over_other k n
    for_is n is here =
        let x = there nodes n kind.For refl is in
        let cs : children f n ≡ x.node.children = ap (so.children_of_file k scope library refused) x.at in
        let all : AllByRecursion (λ c. lost c ≡ false) x.node.children = subst (AllByRecursion (λ c. lost c ≡ false)) cs (facts.below n here) in
        let call : call_in nodes (known.children k n) ≡ first_in (after_run nodes kind.Decl x.node.children) =
        call_is nodes (known.children k n) ∙ ap (λ (cs : List ℕ). first_in (after_run nodes kind.Decl cs)) (sym (so.children_same k scope library refused (slice_get nodes n)) ∙ cs) in
        ap (λ (i : Item). is_other_than_iterator f (loops_over f i.statement)) (item_there nodes n x.node x.at)
        ∙ ap (λ (its : NodeKind). is_other_than_iterator f (loops_over f (statement_of (items n) nodes n x.node its))) x.is
        ∙ behind n x.node.names (run nodes kind.Decl x.node.children) (after_run nodes kind.Decl x.node.children) (behind_decls n x) (all_drop (λ c. lost c ≡ false) (leading nodes kind.Decl x.node.children) x.node.children all)
        ∙ ap (λ (o : Option ℕ). other (invoked_at k o)) (sym call)

    misused : AreWantedKnown k.tables.file lost → (n : ℕ) → lost n ≡ false → (not (is_loop_call (wants.wanted f n)) && list_any invokes_iterator (invoking.invocations f n)) ≡ (not (of_tables.is_loop_call (wanted_in k n)) && some_has_fault k fault.Iterator n)
    misused wanted n here =
        ap₂ (λ (a b : Bool). not a && b) (so.loop_wanted_at k scope library refused are n (wanted n here)) (iterators_are f k are.arena lost facts n here)

    by_kind : AreWantedKnown k.tables.file lost → (n : ℕ) → lost n ≡ false → (its : NodeKind) → kind_at nodes n ≡ its → v36_in f its n ≡ misuses_iterator k its n
    by_kind wanted n here kind.For is = for_is n is here
    by_kind wanted n here _ is = misused wanted n here

    pub v36_is : AreWantedKnown k.tables.file lost → (n : ℕ) → lost n ≡ false → v36 f n ≡ misuses_iterator k (known.kind_in k n) n
    v36_is wanted n here = by_kind wanted n here (kind_at nodes n) refl
