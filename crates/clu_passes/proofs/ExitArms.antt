-- The arm to which an exit goes, by tables: along what guards it, the first of its name.
use Rattle.std.proofs.Common.{◌≡◌, ◌∙◌, ◌<◌, ◌≤◌, ◌⊎◌, ℕ, zero, suc, ◌+◌, ◌-◌, Bool, true, false, ◌&&◌, ◌||◌, ◌==◌, cond, filter, find, if◌then◌else◌, List, [], ◌∷◌, length, drop, flat_map, bytes_eq, nat_le, Option, Some, None, inl, inr, refl, sym, ap, ap₂, subst, arith}
use Rattle.std.specs.Prelude.{slice_get, not}
use Rattle.std.specs.Option.{option_or}
use Rattle.std.specs.List.{list_any, range_with_len}
use Rattle.std.proofs.lemmas.Bool.{true≢false, cases_lt, and_parts, eq-eqb, ne_eqb, leb-true, not-true}
use Rattle.std.proofs.lemmas.List.{take-append-drop}
use Rattle.std.proofs.lemmas.List.Folds.{find-append}
use Rattle.std.proofs.lemmas.Option.{slice_get_within}
use Rattle.clu_tree.specs.declared.node.Node.{Node}
use Rattle.clu_tree.specs.declared.node.NodeKind.{NodeKind}
use Rattle.clu_tree.specs.declared.node.NodeKind.TheVariants as kind
use Rattle.clu_parser.specs.Shape as shape
use Rattle.clu_parser.specs.Shape.{is_child, forms}
use Rattle.clu_parser.specs.Trees.{Text}
use Rattle.clu_syntax.specs.declared.round.Round.{Round}
use Rattle.clu_syntax.specs.Kinds.{kind_of, kind_at, is_arm}
use Rattle.clu_syntax.specs.Rounds.{AreRounds, round_at, guard_in}
use Rattle.clu_syntax.specs.Splits.{is_of, leading, run, after_run, children_of}
use Rattle.clu_syntax.specs.Syntax.{Identifier, Taken}
use Rattle.clu_syntax.specs.Items.{Item, whens_at}
use Rattle.clu_syntax.specs.Nodes.{before, item_at, statement_of}
use Rattle.clu_parts.specs.Slots.{just, Stand, IsPart, AreParts, AreBefore}
use Rattle.clu_parts.proofs.Fitting.{children_before, on_head, run_is, some_of, some_slot}
use Rattle.clu_meaning.specs.Scoping.{Scope}
use Rattle.clu_checking.specs.Specifications.{Specification}
use Rattle.clu_checking.specs.Files.{File, item, is_kind, numbers, node_children, children}
use Rattle.clu_checking.specs.ExceptionRules as checking
use Rattle.clu_checking.specs.ExceptionRules.{takes_name, arms_of, arms_in, guards, is_guarded_by}
use Rattle.clu_declares.specs.Declares.{IsParsed}
use Rattle.clu_declares.proofs.Below.{before_is, item_there, same_kind, and_false}
use Rattle.clu_declares.proofs.Facts.{There, there}
use Rattle.clu_declares.proofs.Parents.{IsIn, of_all, HasParent, has_parent, child_before, kind_of_child, no_form}
use Rattle.clu_name_rules.specs.declared.repeated.ListKind.TheVariants as list
use Rattle.clu_name_rules.specs.Words.{words_to}
use Rattle.clu_type_rules.specs.declared.known.Known.{Known}
use Rattle.clu_type_rules.specs.ExceptionRules as of_tables
use Rattle.clu_type_rules.specs.ExceptionRules.{first_named, arm_from}
use Rattle.clu_passes.specs.Firsts.{AreItems}
use Rattle.clu_passes.proofs.Exits.{arm_slots, other_slots, whens_here, same_whens, whens_apart, others_no_when, statement_no_when, resignal_no_when, when_names, starts_told, except_stands, routine_free}
use Rattle.clu_passes.proofs.FactNodes as so
use Rattle.clu_passes.proofs.FirstItems.{word_found, item_is}
use Rattle.clu_passes.proofs.Guards.{IsGuarded, guarded, starts, is_statement_of, one_same, not_guarded}
use Rattle.clu_passes.proofs.Known.{is_known}
use Rattle.clu_passes.proofs.RightSides.{no_parent}
use Rattle.clu_passes.proofs.StandTwice.{all_names, arms_are}

-- ---- searches

or_none : {X : Type 0} (o : Option X) → option_or o None ≡ o
or_none None = refl
or_none (Some x) = refl

module _ {X : Type 0} where
  -- what comes first, if it counts
  abbrev pick : Bool → Option X → Option X → Option X
  pick true first rest = option_or first rest
  pick false first rest = rest

  abbrev first_when : (ℕ → Bool) → (ℕ → Option X) → List ℕ → Option X
  first_when q h [] = None
  first_when q h (e ∷ es) = pick (q e) (h e) (first_when q h es)

  in_each : (p : X → Bool) (g : ℕ → List X) (q : ℕ → Bool) (es : List ℕ) → find p (flat_map g (filter q es)) ≡ first_when q (λ e. find p (g e)) es
  in_each p g q [] = refl
  in_each p g q (e ∷ es) = by (q e) (in_each p g q es)
    where
      by : (b : Bool) → find p (flat_map g (filter q es)) ≡ first_when q (λ e. find p (g e)) es → find p (flat_map g (cond b (e ∷ filter q es) (filter q es))) ≡ pick b (find p (g e)) (first_when q (λ e. find p (g e)) es)
      by true rest = find-append p (g e) (flat_map g (filter q es)) ∙ ap (option_or (find p (g e))) rest
      by false rest = rest

  none_when : (q : ℕ → Bool) (h : ℕ → Option X) → ((e : ℕ) → q e ≡ false) → (es : List ℕ) → first_when q h es ≡ None
  none_when q h none [] = refl
  none_when q h none (e ∷ es) = ap (λ (b : Bool). pick b (h e) (first_when q h es)) (none e) ∙ none_when q h none es

  -- of numbers that count as in r, and one number p before them
  module _ (q r s : ℕ → Bool) (h : ℕ → Option X) (p : ℕ) (split : (e : ℕ) → q e ≡ (r e || (p == e && s e))) (above : (e : ℕ) → r e ≡ true → p < e) where
    not_yet : (e : ℕ) → e ≤ p → r e ≡ false
    not_yet e l = by (r e) refl
      where
        by : (b : Bool) → r e ≡ b → b ≡ false
        by false is = refl
        by true is = let later : p < e = above e is in absurd (omega (arith, l, later))

    or_false : (b : Bool) → (b || false) ≡ b
    or_false true = refl
    or_false false = refl

    as_in_r : (e : ℕ) → (p ≡ e → ⊥) → q e ≡ r e
    as_in_r e apart = split e ∙ ap (λ (b : Bool). r e || (b && s e)) (ne_eqb p e apart) ∙ or_false (r e)

    later_same : (count from : ℕ) → p < from → first_when q h (range_with_len from count) ≡ first_when r h (range_with_len from count)
    later_same zero from l = refl
    later_same (suc count) from l =
        ap₂ (λ (b : Bool) (rest : Option X). pick b (h from) rest) (as_in_r from (λ e. omega (arith, e, l))) (later_same count (from + 1) (omega (arith, l)))

    split_at : (count from : ℕ) → from ≤ p → p < from + count → first_when q h (range_with_len from count) ≡ pick (s p) (h p) (first_when r h (range_with_len from count))
    split_at zero from l m = absurd (omega (arith, l, m))
    split_at (suc count) from l m = by (cases_lt from p) (λ n o. split_at count (from + 1) n o)
      where
        by : (from < p) ⊎ (p ≤ from) → (from + 1 ≤ p → p < (from + 1) + count → first_when q h (range_with_len (from + 1) count) ≡ pick (s p) (h p) (first_when r h (range_with_len (from + 1) count))) →
            pick (q from) (h from) (first_when q h (range_with_len (from + 1) count)) ≡ pick (s p) (h p) (pick (r from) (h from) (first_when r h (range_with_len (from + 1) count)))
        by (inl less) rest =
            let none : r from ≡ false = not_yet from (omega (arith, less)) in
            ap (λ (b : Bool). pick b (h from) (first_when q h (range_with_len (from + 1) count))) (as_in_r from (λ e. omega (arith, e, less)) ∙ none)
            ∙ rest (omega (arith, less)) (omega (arith, m))
            ∙ ap (λ (b : Bool). pick (s p) (h p) (pick b (h from) (first_when r h (range_with_len (from + 1) count)))) (sym none)
        by (inr upto) rest =
            let same : p ≡ from = omega (arith, l, upto) in
            let none : r from ≡ false = not_yet from (omega (arith, same)) in
            ap₂ (λ (b : Bool) (rest : Option X). pick b (h from) rest)
            (split from ∙ ap₂ (λ (a b : Bool). a || (b && s from)) none (eq-eqb p from same)) (later_same count (from + 1) (omega (arith, same)))
            ∙ ap (λ (i : ℕ). pick (s i) (h i) (first_when r h (range_with_len (from + 1) count))) (sym same)
            ∙ ap (λ (b : Bool). pick (s p) (h p) (pick b (h from) (first_when r h (range_with_len (from + 1) count)))) (sym none)

module _ (k : Known) (scope : Scope) (library : List Specification) (refused : List ℕ) where
  abbrev nodes : List Node
  nodes = k.tables.file.syntax.now

  abbrev f : File
  f = so.f k scope library refused

  abbrev words : List (List ℕ)
  words = words_to nodes (length nodes)

  abbrev items : ℕ → ℕ → Item
  items n = before n (item_at nodes)

  abbrev Arm : Type 0
  Arm = List Identifier × Taken

  -- the names of a when arm, with what it takes
  abbrev pub arm_at : ℕ → List Identifier × Taken
  arm_at c = ((item f c).when.names, (item f c).when.taken)

  -- none is found, or this one
  abbrev pub IsArm : Option ℕ → Option (List Identifier × Taken) → Type 0
  IsArm None None = Unit {0}
  IsArm (Some c) (Some arm) = (kind_at nodes c ≡ kind.When) × (arm ≡ arm_at c)
  IsArm _ _ = ⊥

  either_arm : (a b : Option ℕ) (x y : Option Arm) → IsArm a x → IsArm b y → IsArm (option_or a b) (option_or x y)
  either_arm None b None y is rest = rest
  either_arm None b (Some x) y is rest = absurd is
  either_arm (Some a) b None y is rest = absurd is
  either_arm (Some a) b (Some x) y is rest = is

  module _ (t : Text) (parsed : IsParsed t nodes) (are : AreRounds nodes f.rounds) (firsts : AreItems f k.tables) (name : Identifier) (numbered : is_known words name ≡ true) where
    abbrev word : Option ℕ
    word = of_tables.number_of k name

    abbrev has_name : ℕ → Bool
    has_name c = is_of kind.When (kind_at nodes c) && list_any (bytes_eq name) (all_names nodes c)

    -- the first arm of the name at the node e
    abbrev code_at : ℕ → Option ℕ
    code_at e = first_named k list.WhenArms (Some e) (of_tables.number_of k name)

    code_is : (e : ℕ) → code_at e ≡ find has_name (children_of (slice_get nodes e))
    code_is e =
        ap (first_named k list.WhenArms (Some e)) (word_found f k.tables firsts all_names kind.When list.WhenArms arms_are refl refl name numbered)
        ∙ item_is f k.tables firsts all_names kind.When list.WhenArms arms_are refl refl e name numbered

    abbrev definition_at : ℕ → Option Arm
    definition_at e = find (takes_name name) (arms_in f (item f e).statement)

    -- ---- at an Except

    no_when : (cs : List ℕ) → ((c : ℕ) → IsIn c cs → is_of kind.When (kind_at nodes c) ≡ false) → find has_name cs ≡ None
    no_when [] none = refl
    no_when (c ∷ cs) none = ap (λ (b : Bool). cond (b && list_any (bytes_eq name) (all_names nodes c)) (Some c) (find has_name cs)) (none c (inl refl)) ∙ no_when cs (λ d i. none d (inr i))

    arms_found : (e : ℕ) (cs : List ℕ) → AreParts nodes (is_of kind.When) e cs → IsArm (find has_name cs) (find (takes_name name) (arms_of (whens_at (items e) cs)))
    arms_found e [] ps = tt
    arms_found e (c ∷ cs) ps =
        by (has_name c) (list_any (bytes_eq name) (items e c).when.names)
        (ap₂ (λ (b : Bool) (xs : List Identifier). b && list_any (bytes_eq name) xs) ps.0.1 (sym (when_names words nodes e c ps.0)))
        (arms_found e cs ps.1)
      where
        by : (a b : Bool) → a ≡ b → IsArm (find has_name cs) (find (takes_name name) (arms_of (whens_at (items e) cs))) →
            IsArm (cond a (Some c) (find has_name cs)) (cond b (Some ((items e c).when.names, (items e c).when.taken)) (find (takes_name name) (arms_of (whens_at (items e) cs))))
        by true true same rest = (same_kind kind.When (kind_at nodes c) ps.0.1, ap (λ (i : Item). (i.when.names, i.when.taken)) (before_is nodes e c ps.0.0))
        by true false same rest = absurd (true≢false same)
        by false true same rest = absurd (true≢false (sym same))
        by false false same rest = rest

    no_others : (e : ℕ) (cs : List ℕ) → AreParts nodes (some_of other_slots) e cs → find has_name cs ≡ None
    no_others e [] ps = refl
    no_others e (c ∷ cs) ps =
        ap (λ (b : Bool). cond (b && list_any (bytes_eq name) (all_names nodes c)) (Some c) (find has_name cs)) (and_false (some_of other_slots (kind_at nodes c)) (is_of kind.When (kind_at nodes c)) (others_no_when (kind_at nodes c)) ps.0.1)
        ∙ no_others e cs ps.1

    in_slots : (e : ℕ) (cs : List ℕ) → Stand nodes e (just (is_child shape.statement) ∷ arm_slots) cs → IsArm (find has_name cs) (find (takes_name name) (arms_of (whens_at (items e) (run nodes kind.When (drop 1 cs)))))
    in_slots e cs s =
        on_head nodes e (λ cs. IsArm (find has_name cs) (find (takes_name name) (arms_of (whens_at (items e) (run nodes kind.When (drop 1 cs)))))) (is_child shape.statement) arm_slots
        (λ c rest is s. at c rest is s) cs s
      where
        at : (c : ℕ) (rest : List ℕ) → IsPart nodes (is_child shape.statement) e c → Stand nodes e arm_slots rest → IsArm (find has_name (c ∷ rest)) (find (takes_name name) (arms_of (whens_at (items e) (run nodes kind.When rest))))
        at c rest is s =
            let r = run_is nodes e kind.When whens_here other_slots rest same_whens whens_apart s in
            let behind : find has_name (after_run nodes kind.When rest) ≡ None = no_others e (after_run nodes kind.When rest) (some_slot nodes e other_slots (after_run nodes kind.When rest) r.rest) in
            let code : find has_name (c ∷ rest) ≡ find has_name (run nodes kind.When rest) =
            ap (λ (b : Bool). cond (b && list_any (bytes_eq name) (all_names nodes c)) (Some c) (find has_name rest)) (and_false (is_child shape.statement (kind_at nodes c)) (is_of kind.When (kind_at nodes c)) (statement_no_when (kind_at nodes c)) is.1)
            ∙ ap (find has_name) (sym (take-append-drop (leading nodes kind.When rest) rest))
            ∙ find-append has_name (run nodes kind.When rest) (after_run nodes kind.When rest)
            ∙ ap (option_or (find has_name (run nodes kind.When rest))) behind
            ∙ or_none (find has_name (run nodes kind.When rest)) in
            subst (λ (o : Option ℕ). IsArm o (find (takes_name name) (arms_of (whens_at (items e) (run nodes kind.When rest))))) (sym code) (arms_found e (run nodes kind.When rest) r.parts)

    at_except : (e : ℕ) → kind_at nodes e ≡ kind.Except → IsArm (code_at e) (definition_at e)
    at_except e is =
        let x : There nodes e kind.Except = there nodes e kind.Except refl is in
        let its : definition_at e ≡ find (takes_name name) (arms_of (whens_at (items e) (run nodes kind.When (drop 1 x.node.children)))) =
        ap (λ (i : Item). find (takes_name name) (arms_in f i.statement)) (item_there nodes e x.node x.at)
        ∙ ap (λ (j : NodeKind). find (takes_name name) (arms_in f (statement_of (items e) nodes e x.node j))) x.is in
        subst (λ (o : Option Arm). IsArm (code_at e) o) (sym its)
        (subst (λ (o : Option ℕ). IsArm o (find (takes_name name) (arms_of (whens_at (items e) (run nodes kind.When (drop 1 x.node.children)))))) (sym (code_is e ∙ ap (λ (its : Option Node). find has_name (children_of its)) x.at))
        (in_slots e x.node.children (except_stands k scope library refused t parsed are e x)))

    -- ---- along the guards

    -- what guards a node stands above it
    above_guard : (p e : ℕ) → is_guarded_by f p e ≡ true → p < e
    above_guard p e h = by (slice_get nodes e) refl
      where
        within : guards f p (children f e) ≡ true
        within = (and_parts (is_kind f kind.Except e) (guards f p (children f e)) h).1

        first : (cs : List ℕ) → AreBefore e cs → guards f p cs ≡ true → p < e
        first [] l g = absurd (true≢false (sym g))
        first (s ∷ cs) l g =
            let most : p ≤ s = leb-true p s (and_parts (nat_le (round_at f.rounds s).first p) (nat_le p s) g).1 in
            let less : s < e = l.0 in
            omega (arith, most, less)

        by : (its : Option Node) → slice_get nodes e ≡ its → p < e
        by None at = absurd (true≢false (sym within ∙ ap (λ (its : Option Node). guards f p (node_children f its)) at))
        by (Some node) at = first node.children (children_before nodes parsed.tree e node at) (ap (λ (its : Option Node). guards f p (node_children f its)) (sym at) ∙ within)

    abbrev first_round : ℕ → Option Arm
    first_round n = first_when (is_guarded_by f n) definition_at (numbers nodes)

    by_parent : (n : ℕ) (q : HasParent nodes n) → first_round n ≡ pick (is_statement_of t f parsed are n q.parent) (definition_at q.parent) (first_round q.parent)
    by_parent n q =
        split_at (is_guarded_by f n) (is_guarded_by f q.parent) (is_statement_of t f parsed are n) definition_at q.parent (one_same t f parsed are n q.parent q.node q.at q.child) (above_guard q.parent)
        (length nodes) 0 (omega arith) (let inside : q.parent < length nodes = slice_get_within nodes q.parent q.node q.at in omega (arith, inside))

    abbrev Found : ℕ → Type 0
    Found n = (steps : ℕ) → length nodes ≤ n + steps → IsArm (arm_from k word (round_at f.rounds n).guard steps) (first_round n)

    at_last : (n : ℕ) → length nodes - 1 ≤ n → Found n
    at_last n last steps enough =
        subst (λ (o : Option Arm). IsArm (arm_from k word (round_at f.rounds n).guard steps) o) (sym (none_when (is_guarded_by f n) definition_at (not_guarded t f parsed are n last) (numbers nodes)))
        (subst (λ (o : Option ℕ). IsArm (arm_from k word o steps) None) (sym (ap (λ (r : Round). r.guard) (are.roots_are n (no_parent nodes parsed.tree n last)))) tt)

    module _ (n : ℕ) (q : HasParent nodes n) (up : Found q.parent) where
      abbrev p : ℕ
      p = q.parent

      less : n < p
      less = child_before nodes parsed.tree p q.node q.at (parsed.forms p q.node q.at) n q.child

      its_guard : (round_at f.rounds n).guard ≡ guard_in q.node.kind (kind_at nodes n) p (round_at f.rounds p)
      its_guard = of_all (IsGuarded nodes f.rounds p q.node) n q.node.children (guarded nodes f.rounds p q.node are parsed.tree q.at) q.child

      moved : (a b : Option ℕ) (x y : Option Arm) → b ≡ a → y ≡ x → IsArm a x → IsArm b y
      moved a b x y e g is = subst (λ (b : Option ℕ). IsArm b y) (sym e) (subst (IsArm a) (sym g) is)

      -- as the parent
      passed : (round_at f.rounds n).guard ≡ (round_at f.rounds p).guard → first_round n ≡ first_round p → Found n
      passed same alike steps enough =
          moved (arm_from k word (round_at f.rounds p).guard steps) (arm_from k word (round_at f.rounds n).guard steps) (first_round p) (first_round n)
          (ap (λ (o : Option ℕ). arm_from k word o steps) same) alike (up steps (let l : n < p = less in omega (arith, l, enough)))

      -- by the parent, and then as it
      by_it : (x : Option Arm) → (round_at f.rounds n).guard ≡ Some p → first_round n ≡ option_or x (first_round p) → IsArm (code_at p) x → Found n
      by_it x same alike its zero enough = absurd (let l : n < p = less in let m : p < length nodes = slice_get_within nodes p q.node q.at in omega (arith, l, m, enough))
      by_it x same alike its (suc steps) enough =
          moved (option_or (code_at p) (arm_from k word (round_at f.rounds p).guard steps)) (arm_from k word (round_at f.rounds n).guard (suc steps)) (option_or x (first_round p)) (first_round n)
          (ap (λ (o : Option ℕ). arm_from k word o (suc steps)) same) alike
          (either_arm (code_at p) (arm_from k word (round_at f.rounds p).guard steps) x (first_round p) its (up steps (let l : n < p = less in omega (arith, l, enough))))

      -- whether the node is the statement of an Except
      statement_is : is_statement_of t f parsed are n p ≡ (is_of kind.Except q.node.kind && starts n q.node.children)
      statement_is = ap (λ (its : Option Node). is_of kind.Except (kind_of its) && starts n (node_children f its)) q.at

      other_parent : is_of kind.Except q.node.kind ≡ false → first_round n ≡ first_round p
      other_parent other = by_parent n q ∙ ap (λ (b : Bool). pick b (definition_at p) (first_round p)) (statement_is ∙ ap (λ (b : Bool). b && starts n q.node.children) other)

      guard_by : (j : NodeKind) → q.node.kind ≡ j → (round_at f.rounds n).guard ≡ guard_in j (kind_at nodes n) p (round_at f.rounds p)
      guard_by j is = its_guard ∙ ap (λ (j : NodeKind). guard_in j (kind_at nodes n) p (round_at f.rounds p)) is

      in_except : q.node.kind ≡ kind.Except → (b : Bool) → is_arm (kind_at nodes n) ≡ b → Found n
      in_except is b arm = by b arm
        where
          at : kind_at nodes p ≡ kind.Except
          at = ap kind_of q.at ∙ is

          stands : starts n q.node.children ≡ not (is_arm (kind_at nodes n))
          stands = starts_told words nodes n p q.node.children (except_stands k scope library refused t parsed are p (record { node = q.node; at = q.at; is = is })) q.child

          picked : first_round n ≡ pick (not (is_arm (kind_at nodes n))) (definition_at p) (first_round p)
          picked = by_parent n q ∙ ap (λ (b : Bool). pick b (definition_at p) (first_round p)) (statement_is ∙ ap₂ (λ (j : NodeKind) (b : Bool). is_of kind.Except j && b) is stands)

          by : (b : Bool) → is_arm (kind_at nodes n) ≡ b → Found n
          by true e =
              passed (guard_by kind.Except is ∙ ap (λ (b : Bool). if◌then◌else◌ {A = Option ℕ} b (round_at f.rounds p).guard (Some p)) e)
              (picked ∙ ap (λ (b : Bool). pick (not b) (definition_at p) (first_round p)) e)
          by false e =
              by_it (definition_at p) (guard_by kind.Except is ∙ ap (λ (b : Bool). if◌then◌else◌ {A = Option ℕ} b (round_at f.rounds p).guard (Some p)) e)
              (picked ∙ ap (λ (b : Bool). pick (not b) (definition_at p) (first_round p)) e) (at_except p at)

      none_there : q.node.kind ≡ kind.Resignal → code_at p ≡ None
      none_there is =
          code_is p ∙ ap (λ (its : Option Node). find has_name (children_of its)) q.at
          ∙ no_when q.node.children (λ c i. not-true (is_of kind.When (kind_at nodes c))
          (kind_of_child nodes parsed.tree p q.node q.at (parsed.forms p q.node q.at) c i (λ j. not (is_of kind.When j)) (λ j. ap (λ (m : NodeKind). not (is_of kind.When j) || no_form (forms m) j) is ∙ resignal_no_when j)))

      in_resignal : q.node.kind ≡ kind.Resignal → Found n
      in_resignal is =
          by_it None (guard_by kind.Resignal is) (other_parent (ap (is_of kind.Except) is)) (subst (λ (o : Option ℕ). IsArm o None) (sym (none_there is)) tt)

      -- no Except stands round a routine
      in_routine : q.node.kind ≡ kind.Routine → Found n
      in_routine is steps enough =
          moved None (arm_from k word (round_at f.rounds n).guard steps) None (first_round n)
          (ap (λ (o : Option ℕ). arm_from k word o steps) (guard_by kind.Routine is))
          (other_parent (ap (is_of kind.Except) is) ∙ nothing (numbers nodes) (routine_free k scope library refused t parsed are (λ e. true) p (ap kind_of q.at ∙ is))) tt
        where
          nothing : (es : List ℕ) → list_any (λ e. is_guarded_by f p e && true) es ≡ false → first_when (is_guarded_by f p) definition_at es ≡ None
          nothing [] none = refl
          nothing (e ∷ es) none = by (is_guarded_by f p e) none (nothing es)
            where
              by : (b : Bool) → ((b && true) || list_any (λ e. is_guarded_by f p e && true) es) ≡ false → (list_any (λ e. is_guarded_by f p e && true) es ≡ false → first_when (is_guarded_by f p) definition_at es ≡ None) → pick b (definition_at e) (first_when (is_guarded_by f p) definition_at es) ≡ None
              by true none rest = absurd (true≢false none)
              by false none rest = rest none

      by_kind : (j : NodeKind) → q.node.kind ≡ j → Found n
      by_kind kind.Routine is = in_routine is
      by_kind kind.Resignal is = in_resignal is
      by_kind kind.Except is = in_except is (is_arm (kind_at nodes n)) refl
      by_kind _ is = passed (its_guard ∙ ap (λ (j : NodeKind). guard_in j (kind_at nodes n) p (round_at f.rounds p)) is) (other_parent (ap (is_of kind.Except) is))

    -- where at most m nodes come from it on
    found_from : (m n : ℕ) → length nodes ≤ n + m → Found n
    found_from zero n l = at_last n (omega (arith, l))
    found_from (suc m) n l = elim (cases_lt n (length nodes - 1)) [
      | inl inside ↦ (let q : HasParent nodes n = has_parent nodes parsed.order n inside in
          let above : n < q.parent = child_before nodes parsed.tree q.parent q.node q.at (parsed.forms q.parent q.node q.at) n q.child in
          by_kind n q (found_from m q.parent (omega (arith, l, above))) q.node.kind refl)
      | inr last ↦ at_last n last
    ]

    pub arm_found : (n : ℕ) → IsArm (arm_from k word (round_at f.rounds n).guard (length f.rounds)) (checking.arm_for f n name)
    arm_found n =
        subst (λ (o : Option Arm). IsArm (arm_from k word (round_at f.rounds n).guard (length f.rounds)) o) (sym (in_each (takes_name name) (λ e. arms_in f (item f e).statement) (is_guarded_by f n) (numbers nodes)))
        (found_from (length nodes) n (omega arith) (length f.rounds) (let size : length f.rounds ≡ length nodes = are.size in omega (arith, size)))
