-- V23 by the raises of statements and by what is known of types.
use Rattle.std.proofs.Common.{◌≡◌, ◌∙◌, ◌<◌, ◌+◌, ℕ, Bool, true, false, ◌&&◌, ◌||◌, filter, if◌then◌else◌, List, [], ◌∷◌, ◌++◌, length, drop, Option, Some, None, inl, inr, refl, sym, ap, ap₂, subst}
use Rattle.std.specs.Prelude.{slice_get, not, is_some}
use Rattle.std.specs.List.{AllByRecursion, list_all}
use Rattle.std.proofs.lemmas.Bool.{true≢false, and_parts}
use Rattle.clu_base.proofs.Bools.{first_true}
use Rattle.clu_tree.specs.declared.node.Node.{Node}
use Rattle.clu_tree.specs.declared.node.NodeKind.{NodeKind}
use Rattle.clu_tree.specs.declared.node.NodeKind.TheVariants as kind
use Rattle.clu_tree.specs.Nodes.{IsTree}
use Rattle.clu_grammar.specs.Kinds.{is_statement}
use Rattle.clu_lexer.specs.declared.symbols.Symbol.TheVariants as symbol
use Rattle.clu_parser.specs.Shape as shape
use Rattle.clu_parser.specs.Shape.{Part, Letter, IsWord, token_is, name_is, without, with_one, HaveForms, HasForm, HaveKinds, IsFormOf, forms, names_in, kinds_in}
use Rattle.clu_types.specs.CluType.{CluType, string_type}
use Rattle.clu_types.specs.declared.term.TypeId.{TypeId}
use Rattle.clu_types.specs.declared.term.Term.{Term}
use Rattle.clu_layout.specs.SameType.{fits}
use Rattle.clu_syntax.specs.Kinds.{kind_of, kind_at, is_type}
use Rattle.clu_syntax.specs.Slots.{any, slots}
use Rattle.clu_syntax.specs.Splits.{child, is_of, leading, run, type_of, last_option, children_of}
use Rattle.clu_syntax.specs.Syntax.{Identifier, Body, others as an_others}
use Rattle.clu_syntax.specs.Items.{Item, When, declarations_at, variable_of}
use Rattle.clu_syntax.specs.Nodes.{before, item_at, body_of, taken_of, when_of, others_with, others_of, statement_of}
use Rattle.clu_parts.specs.Slots.{AreBefore, body_slots, may_stand, Stand}
use Rattle.clu_parts.proofs.Counted.{first_named, FirstName}
use Rattle.clu_parts.proofs.Fitting.{children_before, children_stand, first_of, first_is, stand, word_fits}
use Rattle.clu_settle.specs.Names.{names_of}
use Rattle.clu_settle.proofs.Shapes.{first_part}
use Rattle.clu_meaning.specs.Scoping.{Scope}
use Rattle.clu_checking.specs.Specifications.{Specification}
use Rattle.clu_checking.specs.Files.{File, item, parent, node_children}
use Rattle.clu_checking.specs.Headings as headings
use Rattle.clu_checking.specs.Raising as definition
use Rattle.clu_checking.specs.Raising.{is_named, by_statement}
use Rattle.clu_checking.specs.ExceptionRules as checking
use Rattle.clu_checking.specs.ExceptionRules.{guarded, raised_round, v23, v23_in}
use Rattle.clu_checking.specs.StatementRules.{as_list, in_order, known, declared_types}
use Rattle.clu_bindings.specs.Inside.{type_inside}
use Rattle.clu_declares.proofs.Below.{before_is, item_there, same_kind}
use Rattle.clu_declares.proofs.Facts.{There, there, all_take, run_kinds}
use Rattle.clu_declares.proofs.Parents.{of_all, no_form}
use Rattle.clu_type_rules.specs.declared.known.Known.{Known}
use Rattle.clu_type_rules.specs.Known as tables
use Rattle.clu_type_rules.specs.Objects as of_objects
use Rattle.clu_type_rules.specs.Objects.{take_objects}
use Rattle.clu_type_rules.specs.ExceptionRules as of_tables
use Rattle.clu_type_rules.specs.ExceptionRules.{raised_first, raised_objects, takes_all, arm_takes_raise}
use Rattle.clu_typing.specs.declared.raising.Raise.{Raise}
use Rattle.clu_typing.specs.Facts.{raised_at}
use Rattle.clu_typing.specs.Raised.{raises_of}
use Rattle.clu_passes.specs.Bound.{AreInside, IsFirstKnown, has_arms}
use Rattle.clu_passes.specs.ConstantTables.{AreTables}
use Rattle.clu_passes.specs.FactTables.{IsType, AreFacts}
use Rattle.clu_passes.specs.Notes.{has, HaveParents}
use Rattle.clu_passes.specs.TableRaises.{IsAmong, IsRaise, AreSame, AreRaises}
use Rattle.clu_passes.proofs.Bound.{all_declared}
use Rattle.clu_passes.proofs.BoundParts.{Each}
use Rattle.clu_passes.proofs.FactNodes as so
use Rattle.clu_passes.proofs.Fits.{AreWanted, fit_same, all_at_once, takes_string_same}
use Rattle.clu_passes.proofs.Known.{equal_turned}
use Rattle.clu_passes.proofs.OfParents.{is_in}
use Rattle.clu_passes.proofs.TableRaises.{tests_same}

-- ---- when arms stand in an Except alone

above_when : (j : NodeKind) → (is_of kind.Except j || no_form (forms j) kind.When) ≡ true
unfolding no_form
above_when kind.File = refl
above_when _ = refl

not_both : (b : Bool) → not b ≡ true → b ≡ true → ⊥
not_both true e h = true≢false (sym e)
not_both false e h = true≢false (sym h)

in_no_form : (form : List Part) (fs : List (List Part)) (j : NodeKind) → IsFormOf form fs → no_form fs j ≡ true → may_stand 3 form j ≡ true → ⊥
unfolding no_form
in_no_form form [] j at none may = at
in_no_form form (g ∷ fs) j (inl e) none may = not_both (may_stand 3 g j) (and_parts (not (may_stand 3 g j)) (no_form fs j) none).0 (subst (λ (g : List Part). may_stand 3 g j ≡ true) e may)
in_no_form form (g ∷ fs) j (inr more) none may = in_no_form form fs j more (and_parts (not (may_stand 3 g j)) (no_form fs j) none).1 may

-- ---- the variable of others has a name

type_behind : (j : NodeKind) → (is_type j && first_of body_slots j) ≡ false
type_behind kind.File = refl
type_behind _ = refl

both_false : (a b : Bool) → (a && b) ≡ false → a ≡ true → b ≡ true → ⊥
both_false true b e g h = true≢false (sym h ∙ e)
both_false false b e g h = true≢false (sym g)

abbrev behind_variable : List Part
behind_variable = shape.token symbol.Colon ∷ shape.many shape.equates ∷ shape.many shape.statements ∷ []

typed_named : (nodes : List Node) (n c : ℕ) (cs : List ℕ) (ps : List Part) (w : List Letter) → ((w : List Letter) → IsWord ps w → HaveKinds nodes (c ∷ cs) (kinds_in w) → Stand nodes n body_slots (c ∷ cs)) → IsWord (shape.maybe shape.variable ∷ ps) w → HaveKinds nodes (c ∷ cs) (kinds_in w) → is_type (kind_at nodes c) ≡ true → (m : ℕ) × (names_in w ≡ m + 1)
typed_named nodes n c cs ps _ stands (without _ _ w d) kinds is = absurd (both_false (is_type (kind_at nodes c)) (first_of body_slots (kind_at nodes c)) (type_behind (kind_at nodes c)) is (first_is nodes n body_slots c cs (stands w d kinds)))
typed_named nodes n c cs ps _ stands (with_one _ _ _ w _ (token_is _ _ _ (name_is _ v _)) d e) kinds is = (names_in (v ++ w), ap names_in e)

module _ (k : Known) (scope : Scope) (library : List Specification) (refused : List ℕ) where
  abbrev nodes : List Node
  nodes = k.tables.file.syntax.now

  abbrev f : File
  f = so.f k scope library refused

  abbrev terms : List Term
  terms = k.tables.types.now

  abbrev items : ℕ → ℕ → Item
  items n = before n (item_at nodes)

  module _ (shaped : HaveForms nodes) (tree : IsTree nodes) where
    -- ---- the statement of an Except or a Resignal

    pub record FirstStatement (e : ℕ) : Type 0 where
      pub first : ℕ
      pub rest : List ℕ
      pub kids : tables.children k e ≡ first ∷ rest
      pub is : is_statement (kind_at nodes first) ≡ true
      pub raised : guarded f (item f e).statement ≡ by_statement f (item f first).statement

    pub in_except : (e : ℕ) → kind_at nodes e ≡ kind.Except → FirstStatement e
    in_except e is =
        let x : There nodes e kind.Except = there nodes e kind.Except refl is in
        let first = first_part nodes tree shaped is_statement (any (is_of kind.When) ∷ any (is_of kind.Others) ∷ []) e x.node x.at (ap slots x.is) in
        let s : ℕ = child 0 x.node in
        record {
          first = s;
          rest = drop 1 x.node.children;
          kids = ap children_of x.at ∙ first.is;
          is = first.first.1;
          raised =
              ap (λ (i : Item). guarded f i.statement) (item_there nodes e x.node x.at)
              ∙ ap (λ (j : NodeKind). guarded f (statement_of (items e) nodes e x.node j)) x.is
              ∙ ap (λ (i : Item). by_statement f i.statement) (before_is nodes e s first.first.0);
        }

    pub in_resignal : (e : ℕ) → kind_at nodes e ≡ kind.Resignal → FirstStatement e
    in_resignal e is =
        let x : There nodes e kind.Resignal = there nodes e kind.Resignal refl is in
        let first = first_part nodes tree shaped is_statement [] e x.node x.at (ap slots x.is) in
        let s : ℕ = child 0 x.node in
        record {
          first = s;
          rest = drop 1 x.node.children;
          kids = ap children_of x.at ∙ first.is;
          is = first.first.1;
          raised =
              ap (λ (i : Item). guarded f i.statement) (item_there nodes e x.node x.at)
              ∙ ap (λ (j : NodeKind). guarded f (statement_of (items e) nodes e x.node j)) x.is
              ∙ ap (λ (i : Item). by_statement f i.statement) (before_is nodes e s first.first.0);
        }

    -- each raise of these names in the statement of e passes a test
    pub takes_same : (e : ℕ) (s : FirstStatement e) → AreSame k (raises_of k.facts.now.raising (raised_at k.facts.now s.first)) (by_statement f (item f s.first).statement) → (its : List Identifier) (test : Identifier → Raise → Bool) (its_test : definition.Raise → Bool) →
        ((name : Identifier) → IsAmong name its → (r : Raise) (x : definition.Raise) → IsRaise k r x → x.0 ≡ name → its_test x ≡ test name r) → list_all its_test (filter (is_named its) (guarded f (item f e).statement)) ≡ takes_all k test e its
    takes_same e s same its test its_test agree =
        ap (λ (xs : List definition.Raise). list_all its_test (filter (is_named its) xs)) s.raised
        ∙ tests_same k (raised_at k.facts.now s.first) (by_statement f (item f s.first).statement) same its test its_test agree
        ∙ ap (λ (cs : List ℕ). list_all (λ name. list_all (test name) (raised_first k cs name)) its) (sym s.kids)

    above_is : HaveParents f → (n e : ℕ) → kind_at nodes n ≡ kind.When → parent f n ≡ Some e → kind_at nodes e ≡ kind.Except
    above_is parents n e is above = by (slice_get nodes e) refl
      where
        child_there : has n (node_children f (slice_get nodes e)) ≡ true
        child_there = parents.below e n above

        by : (its : Option Node) → slice_get nodes e ≡ its → kind_at nodes e ≡ kind.Except
        by None at = absurd (true≢false (sym child_there ∙ ap (λ (its : Option Node). has n (node_children f its)) at))
        by (Some node) at =
            let h : HasForm nodes node = shaped e node at in
            let there_is : has n node.children ≡ true = sym (ap (λ (its : Option Node). has n (node_children f its)) at) ∙ child_there in
            let may : may_stand 3 h.form (kind_at nodes n) ≡ true = (of_all (λ c. (c < e) × (may_stand 3 h.form (kind_at nodes c) ≡ true)) n node.children (children_stand nodes tree e node at h) (is_in n node.children there_is)).1 in
            let may_when : may_stand 3 h.form kind.When ≡ true = ap (may_stand 3 h.form) (sym is) ∙ may in
            ap kind_of at
            ∙ same_kind kind.Except node.kind (first_true (is_of kind.Except node.kind) (no_form (forms node.kind) kind.When) (above_when node.kind) (λ none. in_no_form h.form (forms node.kind) kind.When h.of_kind none may_when))

    module _ (are : AreTables f k.tables) (lost : ℕ → Bool) (facts : AreFacts f terms k.facts.now lost) (inside : AreInside f k lost) where
      abbrev Here : List ℕ → Type 0
      Here cs = AllByRecursion (λ c. lost c ≡ false) cs

      below_is : (n : ℕ) → lost n ≡ false → Here (tables.children k n)
      below_is n here = subst Here (so.children_same k scope library refused (slice_get nodes n)) (facts.below n here)

      -- ---- variables and the objects of a raise

      abbrev IsTyped : Option (Option TypeId) → Option CluType → Type 0
      IsTyped None t = Unit {0}
      IsTyped (Some of) t = IsType terms of t

      in_their_order : (os : List (Option TypeId)) (ts : List CluType) → Each (λ x y. IsTyped (Some x) (Some y)) os ts → AreWanted k os (in_order ts)
      in_their_order [] [] each = tt
      in_their_order [] (t ∷ ts) each = absurd each
      in_their_order (o ∷ os) [] each = absurd each
      in_their_order (o ∷ os) (t ∷ ts) each = (each.0, in_their_order os ts each.1)

      declared_known : (others : ℕ → Item) (n : ℕ) → lost n ≡ false → AreWanted k (of_objects.declared_types k others [] (run nodes kind.Decl (tables.children k n))) (in_order (declared_types f (declarations_at (items n) (run nodes kind.Decl (tables.children k n)))))
      declared_known others n here =
          let cs : List ℕ = tables.children k n in
          in_their_order (of_objects.declared_types k others [] (run nodes kind.Decl cs)) (declared_types f (declarations_at (items n) (run nodes kind.Decl cs)))
          (all_declared k scope library refused shaped tree are lost facts IsTyped (λ n m. ⊥) others (inside.types others) (λ n m x mean never. absurd never) n (run nodes kind.Decl cs)
          (run_kinds nodes kind.Decl n cs (kids_before n)) (all_take (λ c. lost c ≡ false) (leading nodes kind.Decl cs) cs (below_is n here)))
        where
          kids_before : (n : ℕ) → AreBefore n (tables.children k n)
          kids_before n = by (slice_get nodes n) refl
            where
              by : (its : Option Node) → slice_get nodes n ≡ its → AreBefore n (children_of its)
              by None at = tt
              by (Some node) at = children_before nodes tree n node at

      raise_taken : (others : ℕ → Item) (ds : List ℕ) (ts : List CluType) → AreWanted k (of_objects.declared_types k others [] ds) (in_order ts) → (r : Raise) (x : definition.Raise) → IsRaise k r x → checking.takes_raise f ts x ≡ take_objects k others [] (raised_objects k r) ds
      raise_taken others ds ts wanted r x is =
          fit_same k (raised_objects k r) (known (as_list x.1)) is.1 (of_objects.declared_types k others [] ds) (in_order ts) wanted
          ∙ ap₂ (λ (a b : Bool). a && b)
          (equal_turned [] (length (raised_objects k r)) (length (of_objects.declared_types k others [] ds)))
          (sym (all_at_once k others [] ds (raised_objects k r)))

      -- ---- a when arm

      when_at : (n : ℕ) (x : There nodes n kind.When) → (item f n).when ≡ when_of (items n) nodes n x.node kind.When
      when_at n x = ap (λ (i : Item). i.when) (item_there nodes n x.node x.at) ∙ ap (when_of (items n) nodes n x.node) x.is

      module _ (raises : AreRaises f k lost) (parents : HaveParents f) where
        -- whether an arm of this value, these names and these declarations misfits
        abbrev misfits : (ℕ → Item) → Bool → List Identifier → List ℕ → Option ℕ → Bool
        misfits others takes its ds (Some e) = not takes && not (takes_all k (arm_takes_raise k others ds) e its)
        misfits others takes its ds None = false

        arm_is : (others : ℕ → Item) (n : ℕ) → kind_at nodes n ≡ kind.When → lost n ≡ false → IsFirstKnown f lost n → v23_in f kind.When n ≡ of_tables.v23_at k others kind.When n
        arm_is others n is here round =
            let x : There nodes n kind.When = there nodes n kind.When refl is in
            ap (λ (w : When). not (checking.takes_raises f w w.taken (raised_round f (parent f n)))) (when_at n x)
            ∙ by_token x.node x.node.value_token (parent f n) refl x.at refl
            ∙ ap (λ (its : Option Node). misfits others (of_tables.has_value its) (names_of its) (run nodes kind.Decl (children_of its)) (parent f n)) (sym x.at)
            ∙ sym (by_parent (parent f n))
          where
            by_parent : (o : Option ℕ) → of_tables.arm_misfits k others n o ≡ misfits others (of_tables.has_value (slice_get nodes n)) (names_of (slice_get nodes n)) (run nodes kind.Decl (children_of (slice_get nodes n))) o
            by_parent None = refl
            by_parent (Some e) = refl

            taken_by : (node : Node) → slice_get nodes n ≡ Some node → (o : Option ℕ) → parent f n ≡ o → not (list_all (checking.takes_raise f (declared_types f (declarations_at (items n) (run nodes kind.Decl node.children)))) (filter (is_named node.names) (raised_round f o))) ≡ misfits others false node.names (run nodes kind.Decl node.children) o
            taken_by node at None above = refl
            taken_by node at (Some e) above =
                let s : FirstStatement e = in_except e (above_is parents n e is above) in
                let its : lost s.first ≡ false = round e s.first s.rest above (ap has_arms (above_is parents n e is above)) (so.children_same k scope library refused (slice_get nodes e) ∙ s.kids) in
                let wanted : AreWanted k (of_objects.declared_types k others [] (run nodes kind.Decl node.children)) (in_order (declared_types f (declarations_at (items n) (run nodes kind.Decl node.children)))) =
                subst (λ (cs : List ℕ). AreWanted k (of_objects.declared_types k others [] (run nodes kind.Decl cs)) (in_order (declared_types f (declarations_at (items n) (run nodes kind.Decl cs))))) (ap children_of at) (declared_known others n here) in
                ap not (takes_same e s (raises s.first s.is its) node.names (arm_takes_raise k others (run nodes kind.Decl node.children)) (checking.takes_raise f (declared_types f (declarations_at (items n) (run nodes kind.Decl node.children))))
                (λ name among r x raise named. raise_taken others (run nodes kind.Decl node.children) (declared_types f (declarations_at (items n) (run nodes kind.Decl node.children))) wanted r x raise))

            by_token : (node : Node) → (token : Option ℕ) (o : Option ℕ) → node.value_token ≡ token → slice_get nodes n ≡ Some node → parent f n ≡ o →
                not (checking.takes_raises f (when_of (items n) nodes n node kind.When) (taken_of (items n) nodes node.value_token (run nodes kind.Decl node.children)) (raised_round f o)) ≡ misfits others (is_some node.value_token) node.names (run nodes kind.Decl node.children) o
            by_token node None o e at above =
                ap (λ (token : Option ℕ). not (checking.takes_raises f (when_of (items n) nodes n node kind.When) (taken_of (items n) nodes token (run nodes kind.Decl node.children)) (raised_round f o))) e
                ∙ taken_by node at o above
                ∙ ap (λ (token : Option ℕ). misfits others (is_some token) node.names (run nodes kind.Decl node.children) o) (sym e)
            by_token node (Some token) None e at above = ap (λ (token : Option ℕ). not (checking.takes_raises f (when_of (items n) nodes n node kind.When) (taken_of (items n) nodes token (run nodes kind.Decl node.children)) (raised_round f None))) e
            by_token node (Some token) (Some p) e at above =
                ap (λ (token : Option ℕ). not (checking.takes_raises f (when_of (items n) nodes n node kind.When) (taken_of (items n) nodes token (run nodes kind.Decl node.children)) (raised_round f (Some p)))) e
                ∙ ap (λ (token : Option ℕ). misfits others (is_some token) node.names (run nodes kind.Decl node.children) (Some p)) (sym e)

      -- ---- others

      others_named : (n : ℕ) (x : There nodes n kind.Others) (c : ℕ) (cs : List ℕ) → x.node.children ≡ c ∷ cs → is_type (kind_at nodes c) ≡ true → FirstName x.node.names
      others_named n x c cs e is =
          let h : HasForm nodes x.node = shaped n x.node x.at in
          let kinds : HaveKinds nodes (c ∷ cs) (kinds_in h.word) = subst (λ (ds : List ℕ). HaveKinds nodes ds (kinds_in h.word)) e h.children_are in
          let before_n : AreBefore n (c ∷ cs) = subst (AreBefore n) e (children_before nodes tree n x.node x.at) in
          let stands : (w : List Letter) → IsWord behind_variable w → HaveKinds nodes (c ∷ cs) (kinds_in w) → Stand nodes n body_slots (c ∷ cs) = λ w d kinds. stand nodes n body_slots (kinds_in w) (c ∷ cs) (word_fits behind_variable w d) kinds before_n in
          elim (subst (λ (j : NodeKind). IsFormOf h.form (forms j)) x.is h.of_kind) [
            | inl same ↦ (let m = named_so h.word stands (subst (λ (form : List Part). IsWord form h.word) same h.is_word) kinds in first_named x.node.names m.0 (h.names_are ∙ m.1))
            | inr never ↦ absurd never
          ]
        where
          named_so : (w : List Letter) → ((w : List Letter) → IsWord behind_variable w → HaveKinds nodes (c ∷ cs) (kinds_in w) → Stand nodes n body_slots (c ∷ cs)) → IsWord (shape.token symbol.Others ∷ shape.maybe shape.variable ∷ behind_variable) w → HaveKinds nodes (c ∷ cs) (kinds_in w) → (m : ℕ) × (names_in w ≡ m + 1)
          named_so _ stands (token_is _ _ w d) kinds = typed_named nodes n c cs behind_variable w stands d kinds is

      none_named : (n : ℕ) (o : Option Identifier) (b : Body) → checking.takes_string f n (an_others n (variable_of (items n) o None) b) ≡ true
      none_named n None b = refl
      none_named n (Some name) b = refl

      others_is : (others : ℕ → Item) (n : ℕ) → kind_at nodes n ≡ kind.Others → lost n ≡ false → v23_in f kind.Others n ≡ of_tables.v23_at k others kind.Others n
      others_is others n is here =
          let x : There nodes n kind.Others = there nodes n kind.Others refl is in
          ap (λ (i : Item). not (checking.takes_string f n i.others)) (item_there nodes n x.node x.at)
          ∙ ap (λ (j : NodeKind). not (checking.takes_string f n (others_of (items n) nodes n x.node j))) x.is
          ∙ ap not (by_children x x.node.children refl (children_before nodes tree n x.node x.at) (subst Here (ap children_of x.at) (below_is n here)))
          ∙ ap (λ (cs : List ℕ). not (of_tables.takes_string k others n (type_of nodes cs))) (sym (ap children_of x.at))
        where
          by_children : (x : There nodes n kind.Others) (cs : List ℕ) → x.node.children ≡ cs → AreBefore n cs → Here cs → checking.takes_string f n (others_with (items n) nodes n x.node (type_of nodes cs)) ≡ of_tables.takes_string k others n (type_of nodes cs)
          by_children x [] e before_n here = none_named n (last_option x.node.names) (body_of (items n) nodes x.node.children)
          by_children x (c ∷ cs) e before_n here = by (is_type (kind_at nodes c)) refl
            where
              by : (b : Bool) → is_type (kind_at nodes c) ≡ b → checking.takes_string f n (others_with (items n) nodes n x.node (if b then Some c else None)) ≡ of_tables.takes_string k others n (if b then Some c else None)
              by true is =
                  let name : FirstName x.node.names = others_named n x c cs e is in
                  ap (λ (xs : List Identifier). checking.takes_string f n (an_others n (variable_of (items n) (last_option xs) (Some c)) (body_of (items n) nodes (drop 1 x.node.children)))) name.is
                  ∙ ap (λ (i : Item). fits string_type (headings.type_inside f n i.type)) (before_is nodes n c before_n.0)
                  ∙ takes_string_same k are.arena (type_inside k.tables.file others n c) (headings.type_inside f n (item f c).type) (inside.types others n c is here.0)
              by false is = none_named n (last_option x.node.names) (body_of (items n) nodes x.node.children)

      module _ (raises : AreRaises f k lost) (parents : HaveParents f) where
        by_kind : (others : ℕ → Item) (n : ℕ) → lost n ≡ false → IsFirstKnown f lost n → (j : NodeKind) → kind_at nodes n ≡ j → v23_in f j n ≡ of_tables.v23_at k others j n
        by_kind others n here round kind.When is = arm_is raises parents others n is here round
        by_kind others n here round kind.Others is = others_is others n is here
        by_kind others n here round _ is = refl

        pub v23_is : (others : ℕ → Item) (n : ℕ) → lost n ≡ false → IsFirstKnown f lost n → v23 f n ≡ of_tables.v23 k others n
        v23_is others n here round = by_kind others n here round (kind_at nodes n) refl
