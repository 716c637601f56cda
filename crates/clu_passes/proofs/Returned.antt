-- V30 by what is known of types and by the parts of routines.
use Rattle.std.proofs.Common.{◌≡◌, ◌∙◌, ◌<◌, ℕ, suc, Bool, true, false, ◌&&◌, if◌then◌else◌, List, [], ◌∷◌, length, Option, Some, None, refl, sym, ap, ap₂, subst}
use Rattle.std.specs.Prelude.{slice_get, ◌==◌, not}
use Rattle.std.specs.List.{AllByRecursion}
use Rattle.clu_tree.specs.declared.node.Node.{Node}
use Rattle.clu_tree.specs.declared.node.NodeKind.{NodeKind}
use Rattle.clu_tree.specs.declared.node.NodeKind.TheVariants as kind
use Rattle.clu_tree.specs.Nodes.{IsTree}
use Rattle.clu_parser.specs.Shape.{HaveForms}
use Rattle.clu_types.specs.CluType.{CluType, no_types}
use Rattle.clu_types.specs.declared.term.Term.{Term}
use Rattle.clu_syntax.specs.Kinds.{kind_at, is_expression, is_type}
use Rattle.clu_syntax.specs.Rounds.{round_at}
use Rattle.clu_syntax.specs.Slots.{any, slots}
use Rattle.clu_syntax.specs.Splits.{leading, after_run, parts, children_of}
use Rattle.clu_syntax.specs.Items.{Item, types_at, expressions_at}
use Rattle.clu_syntax.specs.Nodes.{before, item_at, statement_of, routine_of}
use Rattle.clu_parts.specs.Slots.{AreParts, AreBefore}
use Rattle.clu_parts.proofs.Fitting.{children_before}
use Rattle.clu_settle.proofs.Shapes.{all_parts, parts_of_first}
use Rattle.clu_meaning.specs.Scoping.{Scope}
use Rattle.clu_checking.specs.Specifications.{Specification}
use Rattle.clu_checking.specs.Files.{File, item, routine_at}
use Rattle.clu_checking.specs.Headings as headings
use Rattle.clu_checking.specs.Operations.{may_fit}
use Rattle.clu_checking.specs.Typing.{type_of}
use Rattle.clu_checking.specs.Invocations.{types_of}
use Rattle.clu_checking.specs.ExpressionRules.{count, all_may_fit}
use Rattle.clu_checking.specs.StatementRules as statements
use Rattle.clu_checking.specs.StatementRules.{fit, v30, v30_in}
use Rattle.clu_bindings.specs.Inside.{type_inside}
use Rattle.clu_declares.proofs.Below.{before_is, item_there, same_kind}
use Rattle.clu_declares.proofs.Facts.{There, there, all_drop}
use Rattle.clu_head.specs.There.{is_there}
use Rattle.clu_type_rules.specs.declared.known.Known.{Known}
use Rattle.clu_type_rules.specs.declared.routines.Parts.{Parts}
use Rattle.clu_type_rules.specs.Included.{may_be}
use Rattle.clu_type_rules.specs.Routines.{child_of_kind, parts_in, is_in_procedure}
use Rattle.clu_type_rules.specs.Known as known
use Rattle.clu_type_rules.specs.Known.{type_at, parts_round}
use Rattle.clu_type_rules.specs.StatementRules.{children_at, results_in, results_round, are_included, fit_values, gives_other}
use Rattle.clu_passes.specs.FactTables.{typed, AreFacts, IsResultKnown}
use Rattle.clu_passes.specs.Routines.{StandInRoutines, AreParts as AreRoutineParts}
use Rattle.clu_passes.proofs.FactNodes as so
use Rattle.clu_passes.proofs.FactTypes.{may_known}
use Rattle.clu_passes.proofs.Leaving.{found, in_procedure}
use Rattle.clu_passes.proofs.OwnPlaces.{there_is}
use Rattle.clu_passes.proofs.RoutineParts.{children_in, rest_of, results_of_routine}

module _ (k : Known) (scope : Scope) (library : List Specification) (refused : List ℕ) where
  abbrev nodes : List Node
  nodes = k.tables.file.syntax.now

  abbrev f : File
  f = so.f k scope library refused

  abbrev terms : List Term
  terms = k.tables.types.now

  abbrev table : List (Option Parts)
  table = k.routines.now.parts.items

  abbrev items : ℕ → ℕ → Item
  items n = before n (item_at nodes)

  abbrev Here : (ℕ → Bool) → List ℕ → Type 0
  Here lost cs = AllByRecursion (λ c. lost c ≡ false) cs

  -- types in the heading round a node
  abbrev Told : ℕ → List ℕ → Type 0
  Told n ts = AllByRecursion (IsResultKnown f k n) ts

  same_children : (o : Option ℕ) → children_at k o ≡ children_in nodes o
  same_children None = refl
  same_children (Some n) = refl

  lengths : (its : ℕ → Item) (cs : List ℕ) → length (types_of f (expressions_at its cs)) ≡ length cs
  lengths its [] = refl
  lengths its (c ∷ cs) = ap suc (lengths its cs)

  counted : (its : ℕ → Item) (r : ℕ) (cs : List ℕ) → count (headings.results_inside f r (types_at its cs)) ≡ length cs
  counted its r [] = refl
  counted its r (c ∷ cs) = ap suc (counted its r cs)

  -- where nothing is wanted
  none_fit : (others its : ℕ → Item) (n : ℕ) (vs : List ℕ) → fit (types_of f (expressions_at its vs)) no_types ≡ fit_values k others n vs []
  none_fit others its n [] = refl
  none_fit others its n (v ∷ vs) = ap (λ (m : ℕ). m == 0 && true) (lengths its (v ∷ vs))

  module _ (shaped : HaveForms nodes) (tree : IsTree nodes) (lost : ℕ → Bool) (facts : AreFacts f terms k.facts.now lost) (stand : StandInRoutines f) (routines : AreRoutineParts f table) where
    value_may : (others : ℕ → Item) (n r : ℕ) → (round_at f.rounds n).routine ≡ Some r → (v t : ℕ) → v < n → is_expression (kind_at nodes v) ≡ true → lost v ≡ false → t < r → is_type (kind_at nodes t) ≡ true → IsResultKnown f k n t →
        may_fit (type_of f (items n v).expression) (headings.type_inside f r (items r t).type) ≡ may_be terms (type_at k v) (type_inside k.tables.file others n t)
    value_may others n r e v t v_before v_is v_here t_before t_is t_here =
        ap (λ (i : Item). may_fit (type_of f i.expression) (headings.type_inside f r (items r t).type)) (before_is nodes n v v_before)
        ∙ ap (λ (its : Option CluType). may_fit its (headings.type_inside f r (items r t).type)) (sym (so.an_expression k scope library refused v v_is))
        ∙ ap (λ (i : Item). may_fit (typed f v) (headings.type_inside f r i.type)) (before_is nodes r t t_before)
        ∙ may_known terms (type_at k v) (typed f v) (facts.types v v_here) (type_inside k.tables.file others n t) (headings.type_inside f r (item f t).type) (t_here others r e)

    included_same : (others : ℕ → Item) (n r : ℕ) → (round_at f.rounds n).routine ≡ Some r → (vs : List ℕ) → AreParts nodes is_expression n vs → Here lost vs → (ts : List ℕ) → AreParts nodes is_type r ts → Told n ts →
        all_may_fit (types_of f (expressions_at (items n) vs)) (headings.results_inside f r (types_at (items r) ts)) ≡ are_included k others n vs ts
    included_same others n r e [] v_parts v_here [] t_parts t_here = refl
    included_same others n r e [] v_parts v_here (t ∷ ts) t_parts t_here = refl
    included_same others n r e (v ∷ vs) v_parts v_here [] t_parts t_here = refl
    included_same others n r e (v ∷ vs) v_parts v_here (t ∷ ts) t_parts t_here =
        ap₂ (λ (a b : Bool). a && b)
        (value_may others n r e v t v_parts.0.0 v_parts.0.1 v_here.0 t_parts.0.0 t_parts.0.1 t_here.0)
        (included_same others n r e vs v_parts.1 v_here.1 ts t_parts.1 t_here.1)

    fits : (others : ℕ → Item) (n r : ℕ) → (round_at f.rounds n).routine ≡ Some r → (vs : List ℕ) → AreParts nodes is_expression n vs → Here lost vs → (ts : List ℕ) → AreParts nodes is_type r ts → Told n ts →
        fit (types_of f (expressions_at (items n) vs)) (headings.results_inside f r (types_at (items r) ts)) ≡ fit_values k others n vs ts
    fits others n r e vs v_parts v_here ts t_parts t_here =
        ap₂ (λ (a b : Bool). a && b)
        (ap₂ (λ (a b : ℕ). a == b) (lengths (items n) vs) (counted (items r) r ts))
        (included_same others n r e vs v_parts v_here ts t_parts t_here)

    -- by the routine round the node
    by_routine : (others : ℕ → Item) (n : ℕ) (vs : List ℕ) → AreParts nodes is_expression n vs → Here lost vs → (o : Option ℕ) → (round_at f.rounds n).routine ≡ o → Told n (children_at k (results_in k (parts_in table o))) →
        fit (types_of f (expressions_at (items n) vs)) (statements.results_round f (routine_at f o)) ≡ fit_values k others n vs (children_at k (results_in k (parts_in table o)))
    by_routine others n vs v_parts v_here None e here = none_fit others (items n) n vs
    by_routine others n vs v_parts v_here (Some r) e here =
        let at : is_there kind.Routine (slice_get nodes r) ≡ true = stand n r e in
        let x : There nodes r kind.Routine = there nodes r kind.Routine refl (same_kind kind.Routine (kind_at nodes r) (there_is kind.Routine refl (slice_get nodes r) ∙ at)) in
        let list : children_at k (results_in k (parts_in table (Some r))) ≡ parts nodes kind.Results (rest_of nodes x.node.children) =
        ap (λ (p : Option Parts). children_at k (results_in k p)) (found f stand table routines r at)
        ∙ same_children (child_of_kind nodes kind.Results (children_of (slice_get nodes r)))
        ∙ ap (λ (its : Option Node). children_in nodes (child_of_kind nodes kind.Results (children_of its))) x.at
        ∙ results_of_routine nodes shaped tree r x in
        let before_r : AreBefore r (rest_of nodes x.node.children) =
        all_drop (λ c. c < r) (leading nodes kind.Decl (after_run nodes kind.Parm x.node.children)) (after_run nodes kind.Parm x.node.children)
        (all_drop (λ c. c < r) (leading nodes kind.Parm x.node.children) x.node.children (children_before nodes tree r x.node x.at)) in
        let heading : statements.results_round f (routine_at f (Some r)) ≡ headings.results_inside f r (types_at (items r) (parts nodes kind.Results (rest_of nodes x.node.children))) =
        ap (λ (i : Item). headings.results_inside f i.routine.node i.routine.results) (item_there nodes r x.node x.at)
        ∙ ap (λ (its : NodeKind). headings.results_inside f (routine_of (items r) nodes r x.node its).node (routine_of (items r) nodes r x.node its).results) x.is in
        ap (fit (types_of f (expressions_at (items n) vs))) heading
        ∙ fits others n r e vs v_parts v_here (parts nodes kind.Results (rest_of nodes x.node.children))
        (parts_of_first nodes tree shaped kind.Results is_type refl r (rest_of nodes x.node.children) before_r) (subst (Told n) list here)
        ∙ ap (fit_values k others n vs) (sym list)

    -- of the values of a node
    record Values (n : ℕ) (node : Node) : Type 0 where
      parts_are : AreParts nodes is_expression n node.children
      here : Here lost node.children
      is : known.children k n ≡ node.children

    values : (its : NodeKind) → slots its ≡ any is_expression ∷ [] → (n : ℕ) (x : There nodes n its) → lost n ≡ false → Values n x.node
    values its only n x here =
        let cs : known.children k n ≡ x.node.children = ap children_of x.at in
        record {
          parts_are = all_parts nodes tree shaped is_expression n x.node x.at (ap slots x.is ∙ only);
          here = subst (Here lost) (so.children_same k scope library refused (slice_get nodes n) ∙ cs) (facts.below n here);
          is = cs;
        }

    yielded : (others : ℕ → Item) (n : ℕ) (node : Node) → Values n node → Told n (results_round k n) → fit (types_of f (expressions_at (items n) node.children)) (statements.results_round f (routine_at f (round_at f.rounds n).routine)) ≡ fit_values k others n (known.children k n) (results_round k n)
    yielded others n node v here =
        by_routine others n node.children v.parts_are v.here (round_at f.rounds n).routine refl here
        ∙ ap (λ (cs : List ℕ). fit_values k others n cs (results_round k n)) (sym v.is)

    returned_by : (others : ℕ → Item) (n : ℕ) (node : Node) → Values n node → Told n (results_round k n) → (b : Bool) → fit (types_of f (expressions_at (items n) node.children)) (statements.returned f b n) ≡ fit_values k others n (known.children k n) (if b then results_round k n else [])
    returned_by others n node v here true = yielded others n node v here
    returned_by others n node v here false =
        none_fit others (items n) n node.children ∙ ap (λ (cs : List ℕ). fit_values k others n cs []) (sym v.is)

    statement_at : (its : NodeKind) (n : ℕ) (x : There nodes n its) → statements.gives_other f n (item f n).statement ≡ statements.gives_other f n (statement_of (items n) nodes n x.node its)
    statement_at its n x =
        ap (λ (i : Item). statements.gives_other f n i.statement) (item_there nodes n x.node x.at)
        ∙ ap (λ (its : NodeKind). statements.gives_other f n (statement_of (items n) nodes n x.node its)) x.is

    by_kind : (others : ℕ → Item) (n : ℕ) → lost n ≡ false → Told n (results_round k n) → (its : NodeKind) → kind_at nodes n ≡ its → v30_in f its n ≡ gives_other k others its n
    by_kind others n here results kind.Return is =
        let x = there nodes n kind.Return refl is in
        let v = values kind.Return refl n x here in
        statement_at kind.Return n x
        ∙ ap (λ (b : Bool). not (fit (types_of f (expressions_at (items n) x.node.children)) (statements.returned f b n))) (in_procedure f stand table routines (round_at f.rounds n).routine (stand n))
        ∙ ap not (returned_by others n x.node v results (is_in_procedure (parts_round k n)))
    by_kind others n here results kind.Yield is =
        let x = there nodes n kind.Yield refl is in
        statement_at kind.Yield n x ∙ ap not (yielded others n x.node (values kind.Yield refl n x here) results)
    by_kind others n here results _ is = refl

    pub v30_is : (others : ℕ → Item) (n : ℕ) → lost n ≡ false → Told n (results_round k n) → v30 f n ≡ gives_other k others (known.kind_in k n) n
    v30_is others n here results = by_kind others n here results (kind_at nodes n) refl
