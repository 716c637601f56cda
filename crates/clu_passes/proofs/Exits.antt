-- V27 by tables: the arm of an exit is looked for along what guards it.
use Rattle.std.proofs.Common.{◌≡◌, ◌∙◌, ◌<◌, ◌≤◌, ℕ, zero, suc, ◌+◌, ◌-◌, Bool, true, false, ◌&&◌, ◌||◌, ◌==◌, cond, filter, find, if◌then◌else◌, List, [], ◌∷◌, ◌++◌, length, drop, flat_map, bytes_eq, Option, Some, None, inl, inr, refl, sym, ap, ap₂, subst, arith}
use Rattle.std.specs.Prelude.{slice_get, is_some, is_none, not}
use Rattle.std.specs.Option.{option_or}
use Rattle.std.specs.List.{list_any}
use Rattle.std.proofs.Math.Bool.{or-false, or_comm}
use Rattle.std.proofs.lemmas.Bool.{true≢false, cases_lt, and_parts, or_cases, eq-eqb, ne_eqb, not-true, not-false}
use Rattle.std.proofs.lemmas.List.{take-append-drop}
use Rattle.std.proofs.lemmas.List.Folds.{list_any-append}
use Rattle.std.proofs.lemmas.Option.{slice_get_within}
use Rattle.clu_tree.specs.declared.node.Node.{Node}
use Rattle.clu_tree.specs.declared.node.NodeKind.{NodeKind}
use Rattle.clu_tree.specs.declared.node.NodeKind.TheVariants as kind
use Rattle.clu_parser.specs.Shape as shape
use Rattle.clu_parser.specs.Shape.{Part, is_child, HasForm, IsFormOf, forms, parts_of}
use Rattle.clu_parser.specs.Trees.{Text}
use Rattle.clu_syntax.specs.declared.round.Round.{Round}
use Rattle.clu_syntax.specs.Kinds.{kind_at, kind_of, is_arm}
use Rattle.clu_syntax.specs.Rounds.{AreRounds, round_at, guard_in}
use Rattle.clu_syntax.specs.Splits.{first_name, is_of, leading, run, after_run, children_of}
use Rattle.clu_syntax.specs.Syntax.{Identifier}
use Rattle.clu_syntax.specs.Items.{Item, whens_at}
use Rattle.clu_syntax.specs.Nodes.{before, item_at, when_of, statement_of}
use Rattle.clu_parts.specs.Slots.{Slot, just, several, at_most_one, may_stand, slots_of, Stand, IsPart, AreParts}
use Rattle.clu_parts.proofs.Fitting.{fitted, on_head, run_is, first_of, some_of, some_slot}
use Rattle.clu_settle.specs.Names.{names_of}
use Rattle.clu_meaning.specs.Scoping.{Scope}
use Rattle.clu_checking.specs.Specifications.{Specification}
use Rattle.clu_checking.specs.Files.{File, item, is_kind, names, numbers, node_children, children}
use Rattle.clu_checking.specs.ExceptionRules as checking
use Rattle.clu_checking.specs.ExceptionRules.{takes_name, arms_of, arms_in, arms_round, guards, is_guarded_by, v27}
use Rattle.clu_declares.specs.Declares.{IsParsed}
use Rattle.clu_declares.proofs.Below.{before_is, item_there, same_kind, and_false}
use Rattle.clu_declares.proofs.Facts.{There, there}
use Rattle.clu_declares.proofs.Parents.{IsIn, of_all, HasParent, has_parent, no_form, child_before, never_file, file_of_module, kind_of_child, module_of_cluster, round_routine}
use Rattle.clu_name_rules.specs.declared.repeated.ListKind.TheVariants as list
use Rattle.clu_name_rules.specs.Words.{words_to}
use Rattle.clu_type_rules.specs.declared.known.Known.{Known}
use Rattle.clu_type_rules.specs.Known as known
use Rattle.clu_type_rules.specs.ExceptionRules as of_tables
use Rattle.clu_type_rules.specs.ExceptionRules.{first_named, arm_from, arm_named, lacks_arm}
use Rattle.clu_passes.specs.Firsts.{AreItems}
use Rattle.clu_passes.proofs.AtNodes.{names_are}
use Rattle.clu_passes.proofs.FactNodes as so
use Rattle.clu_passes.proofs.FirstItems.{word_found, item_found}
use Rattle.clu_passes.proofs.Guards.{IsGuarded, guarded, starts, some_guard, by_parent, none_guards}
use Rattle.clu_passes.proofs.Known.{is_known, are_known, nodes_known}
use Rattle.clu_passes.proofs.Noted.{any_same}
use Rattle.clu_passes.proofs.OneName.{OneName, exit_name}
use Rattle.clu_passes.proofs.OwnPlaces.{there_is}
use Rattle.clu_passes.proofs.RightSides.{no_parent}
use Rattle.clu_passes.proofs.StandTwice.{all_names, arms_are, names_before}

-- ---- searches

none_found : {X : Type 0} (p : X → Bool) (xs : List X) → is_none (find p xs) ≡ not (list_any p xs)
none_found p [] = refl
none_found p (x ∷ xs) = by (p x) (none_found p xs)
  where
    by : (b : Bool) → is_none (find p xs) ≡ not (list_any p xs) → is_none (cond b (Some x) (find p xs)) ≡ not (b || list_any p xs)
    by true rest = refl
    by false rest = rest

any_of_passing : {X : Type 0} (p : X → Bool) (g : ℕ → List X) (r : ℕ → Bool) (es : List ℕ) → list_any p (flat_map g (filter r es)) ≡ list_any (λ e. r e && list_any p (g e)) es
any_of_passing p g r [] = refl
any_of_passing p g r (e ∷ es) = by (r e) (any_of_passing p g r es)
  where
    by : (b : Bool) → list_any p (flat_map g (filter r es)) ≡ list_any (λ e. r e && list_any p (g e)) es → list_any p (flat_map g (cond b (e ∷ filter r es) (filter r es))) ≡ ((b && list_any p (g e)) || list_any (λ e. r e && list_any p (g e)) es)
    by true rest = list_any-append p (g e) (flat_map g (filter r es)) ∙ ap (λ (b : Bool). list_any p (g e) || b) rest
    by false rest = rest

some_either : (a b : Option ℕ) → is_some (option_or a b) ≡ (is_some a || is_some b)
some_either None b = refl
some_either (Some x) b = refl

none_is : (o : Option ℕ) → is_none o ≡ not (is_some o)
none_is None = refl
none_is (Some x) = refl

-- ---- the parts of an Except

abbrev pub whens_here : NodeKind → Bool
whens_here = may_stand 2 (parts_of shape.whens)

abbrev others_here : NodeKind → Bool
others_here = may_stand 2 (parts_of shape.others)

abbrev pub other_slots : List Slot
other_slots = at_most_one others_here ∷ []

abbrev pub arm_slots : List Slot
arm_slots = several whens_here ∷ other_slots

pub same_whens : (j : NodeKind) → whens_here j ≡ is_of kind.When j
same_whens kind.File = refl
same_whens _ = refl

pub whens_apart : (j : NodeKind) → (is_of kind.When j && first_of other_slots j) ≡ false
whens_apart kind.File = refl
whens_apart _ = refl

pub others_no_when : (j : NodeKind) → (some_of other_slots j && is_of kind.When j) ≡ false
others_no_when kind.File = refl
others_no_when _ = refl

pub statement_no_when : (j : NodeKind) → (is_child shape.statement j && is_of kind.When j) ≡ false
statement_no_when kind.File = refl
statement_no_when _ = refl

statement_no_arm : (j : NodeKind) → (is_child shape.statement j && is_arm j) ≡ false
statement_no_arm kind.File = refl
statement_no_arm _ = refl

arm_is_arm : (j : NodeKind) → (some_of arm_slots j && not (is_arm j)) ≡ false
arm_is_arm kind.File = refl
arm_is_arm _ = refl

pub resignal_no_when : (j : NodeKind) → (not (is_of kind.When j) || no_form (forms kind.Resignal) j) ≡ true
unfolding no_form
resignal_no_when kind.File = refl
resignal_no_when _ = refl

module _ (all : List (List ℕ)) (nodes : List Node) where
  abbrev names_at : ℕ → List Identifier
  names_at c = names_of (slice_get nodes c)

  abbrev whens_in : List ℕ → List Identifier
  whens_in cs = names_before all nodes kind.When cs

  one_when : (c : ℕ) (cs : List ℕ) → is_of kind.When (kind_at nodes c) ≡ true → whens_in (c ∷ cs) ≡ names_at c ++ whens_in cs
  one_when c cs e = ap (λ (b : Bool). if◌then◌else◌ {A = List Identifier} b (names_at c ++ whens_in cs) (whens_in cs)) e

  no_when : (c : ℕ) (cs : List ℕ) → is_of kind.When (kind_at nodes c) ≡ false → whens_in (c ∷ cs) ≡ whens_in cs
  no_when c cs e = ap (λ (b : Bool). if◌then◌else◌ {A = List Identifier} b (names_at c ++ whens_in cs) (whens_in cs)) e

  no_whens : (cs : List ℕ) → ((c : ℕ) → IsIn c cs → is_of kind.When (kind_at nodes c) ≡ false) → whens_in cs ≡ []
  no_whens [] none = refl
  no_whens (c ∷ cs) none = no_when c cs (none c (inl refl)) ∙ no_whens cs (λ d i. none d (inr i))

  any_joined : (name : Identifier) (xs ys : List ℕ) → list_any (bytes_eq name) (whens_in (xs ++ ys)) ≡ (list_any (bytes_eq name) (whens_in xs) || list_any (bytes_eq name) (whens_in ys))
  any_joined name [] ys = refl
  any_joined name (c ∷ xs) ys = by (is_of kind.When (kind_at nodes c)) (any_joined name xs ys)
    where
      grouped : (a b d : Bool) → (a || (b || d)) ≡ ((a || b) || d)
      grouped true b d = refl
      grouped false b d = refl

      by : (b : Bool) → list_any (bytes_eq name) (whens_in (xs ++ ys)) ≡ (list_any (bytes_eq name) (whens_in xs) || list_any (bytes_eq name) (whens_in ys)) →
          list_any (bytes_eq name) (if b then names_at c ++ whens_in (xs ++ ys) else whens_in (xs ++ ys)) ≡ (list_any (bytes_eq name) (if b then names_at c ++ whens_in xs else whens_in xs) || list_any (bytes_eq name) (whens_in ys))
      by true rest =
          list_any-append (bytes_eq name) (names_at c) (whens_in (xs ++ ys))
          ∙ ap (λ (b : Bool). list_any (bytes_eq name) (names_at c) || b) rest
          ∙ grouped (list_any (bytes_eq name) (names_at c)) (list_any (bytes_eq name) (whens_in xs)) (list_any (bytes_eq name) (whens_in ys))
          ∙ ap (λ (b : Bool). b || list_any (bytes_eq name) (whens_in ys)) (sym (list_any-append (bytes_eq name) (names_at c) (whens_in xs)))
      by false rest = rest

  -- ---- the arms of an Except as the definition has them

  pub when_names : (n c : ℕ) → IsPart nodes (is_of kind.When) n c → (before n (item_at nodes) c).when.names ≡ names_at c
  when_names n c p =
      let x = there nodes c kind.When refl (same_kind kind.When (kind_at nodes c) p.1) in
      ap (λ (i : Item). i.when.names) (before_is nodes n c p.0)
      ∙ ap (λ (i : Item). i.when.names) (item_there nodes c x.node x.at)
      ∙ ap (λ (k : NodeKind). (when_of (before c (item_at nodes)) nodes c x.node k).names) x.is
      ∙ ap names_of (sym x.at)

  arms_taken : (name : Identifier) (n : ℕ) (cs : List ℕ) → AreParts nodes (is_of kind.When) n cs → list_any (takes_name name) (arms_of (whens_at (before n (item_at nodes)) cs)) ≡ list_any (bytes_eq name) (whens_in cs)
  arms_taken name n [] ps = refl
  arms_taken name n (c ∷ cs) ps =
      ap₂ (λ (xs : List Identifier) (b : Bool). list_any (bytes_eq name) xs || b) (when_names n c ps.0) (arms_taken name n cs ps.1)
      ∙ sym (list_any-append (bytes_eq name) (names_at c) (whens_in cs))
      ∙ ap (list_any (bytes_eq name)) (sym (one_when c cs ps.0.1))

  no_other_whens : (n : ℕ) (cs : List ℕ) → AreParts nodes (some_of other_slots) n cs → whens_in cs ≡ []
  no_other_whens n [] ps = refl
  no_other_whens n (c ∷ cs) ps =
      no_when c cs (and_false (some_of other_slots (kind_at nodes c)) (is_of kind.When (kind_at nodes c)) (others_no_when (kind_at nodes c)) ps.0.1)
      ∙ no_other_whens n cs ps.1

  arms_told : (name : Identifier) (n : ℕ) (cs : List ℕ) → Stand nodes n (just (is_child shape.statement) ∷ arm_slots) cs →
      list_any (takes_name name) (arms_of (whens_at (before n (item_at nodes)) (run nodes kind.When (drop 1 cs)))) ≡ list_any (bytes_eq name) (whens_in cs)
  arms_told name n cs s =
      on_head nodes n (λ cs. list_any (takes_name name) (arms_of (whens_at (before n (item_at nodes)) (run nodes kind.When (drop 1 cs)))) ≡ list_any (bytes_eq name) (whens_in cs)) (is_child shape.statement) arm_slots
      (λ c rest is s. (
      let r = run_is nodes n kind.When whens_here other_slots rest same_whens whens_apart s in
      arms_taken name n (run nodes kind.When rest) r.parts
      ∙ sym (or-false (list_any (bytes_eq name) (whens_in (run nodes kind.When rest))))
      ∙ ap (λ (xs : List Identifier). list_any (bytes_eq name) (whens_in (run nodes kind.When rest)) || list_any (bytes_eq name) xs) (sym (no_other_whens n (after_run nodes kind.When rest) (some_slot nodes n other_slots (after_run nodes kind.When rest) r.rest)))
      ∙ sym (any_joined name (run nodes kind.When rest) (after_run nodes kind.When rest))
      ∙ ap (λ (ds : List ℕ). list_any (bytes_eq name) (whens_in ds)) (take-append-drop (leading nodes kind.When rest) rest)
      ∙ ap (list_any (bytes_eq name)) (sym (no_when c rest (and_false (is_child shape.statement (kind_at nodes c)) (is_of kind.When (kind_at nodes c)) (statement_no_when (kind_at nodes c)) is.1))))) cs s

  -- ---- the statement stands first

  pub starts_told : (n p : ℕ) (cs : List ℕ) → Stand nodes p (just (is_child shape.statement) ∷ arm_slots) cs → IsIn n cs → starts n cs ≡ not (is_arm (kind_at nodes n))
  starts_told n p cs s =
      on_head nodes p (λ cs. IsIn n cs → starts n cs ≡ not (is_arm (kind_at nodes n))) (is_child shape.statement) arm_slots
      (λ c rest is s i. first_or_later c rest is s i) cs s
    where
      no_arm : (c : ℕ) → IsPart nodes (is_child shape.statement) p c → is_arm (kind_at nodes c) ≡ false
      no_arm c is = and_false (is_child shape.statement (kind_at nodes c)) (is_arm (kind_at nodes c)) (statement_no_arm (kind_at nodes c)) is.1

      arm : (rest : List ℕ) → Stand nodes p arm_slots rest → IsIn n rest → is_arm (kind_at nodes n) ≡ true
      arm rest s i =
          let its = of_all (IsPart nodes (some_of arm_slots) p) n rest (some_slot nodes p arm_slots rest s) i in
          not-false (is_arm (kind_at nodes n)) (and_false (some_of arm_slots (kind_at nodes n)) (not (is_arm (kind_at nodes n))) (arm_is_arm (kind_at nodes n)) its.1)

      first_or_later : (c : ℕ) (rest : List ℕ) → IsPart nodes (is_child shape.statement) p c → Stand nodes p arm_slots rest → IsIn n (c ∷ rest) → (n == c) ≡ not (is_arm (kind_at nodes n))
      first_or_later c rest is s (inl e) =
          eq-eqb n c (sym e) ∙ sym (ap (λ (m : ℕ). not (is_arm (kind_at nodes m))) (sym e) ∙ ap not (no_arm c is))
      first_or_later c rest is s (inr i) =
          ne_eqb n c (λ e. true≢false (sym (arm rest s i) ∙ ap (λ (m : ℕ). is_arm (kind_at nodes m)) e ∙ no_arm c is))
          ∙ ap not (sym (arm rest s i))

module _ (k : Known) (scope : Scope) (library : List Specification) (refused : List ℕ) where
  abbrev nodes : List Node
  nodes = k.tables.file.syntax.now

  abbrev f : File
  f = so.f k scope library refused

  abbrev words : List (List ℕ)
  words = words_to nodes (length nodes)

  module _ (t : Text) (parsed : IsParsed t nodes) (are : AreRounds nodes f.rounds) where
    abbrev guarded_by : (ℕ → Bool) → ℕ → Bool
    guarded_by asked n = some_guard t f parsed are asked n

    pub except_stands : (n : ℕ) (x : There nodes n kind.Except) → Stand nodes n (just (is_child shape.statement) ∷ arm_slots) x.node.children
    except_stands n x =
        let h : HasForm nodes x.node = parsed.forms n x.node x.at in
        elim (subst (λ (k : NodeKind). IsFormOf h.form (forms k)) x.is h.of_kind) [
          | inl e ↦ subst (λ (form : List Part). Stand nodes n (slots_of form) x.node.children) e (fitted nodes parsed.tree n x.node x.at h)
          | inr never ↦ absurd never
        ]

    -- ---- no Except stands round a routine

    through : (asked : ℕ → Bool) (n : ℕ) (q : HasParent nodes n) → is_of kind.Except q.node.kind ≡ false → guarded_by asked n ≡ guarded_by asked q.parent
    through asked n q other =
        by_parent t f parsed are n q.parent q.node q.at q.child asked
        ∙ ap (λ (its : Option Node). guarded_by asked q.parent || ((is_of kind.Except (kind_of its) && starts n (node_children f its)) && asked q.parent)) q.at
        ∙ ap (λ (b : Bool). guarded_by asked q.parent || ((b && starts n q.node.children) && asked q.parent)) other
        ∙ or-false (guarded_by asked q.parent)

    abbrev Last : ℕ → Type 0
    Last n = length nodes - 1 ≤ n

    free : (asked : ℕ → Bool) (n : ℕ) → ((q : HasParent nodes n) → guarded_by asked n ≡ false) → guarded_by asked n ≡ false
    free asked n each = elim (cases_lt n (length nodes - 1)) [
      | inl less ↦ each (has_parent nodes parsed.order n less)
      | inr last ↦ none_guards t f parsed are n last asked
    ]

    kind_above : (n : ℕ) (q : HasParent nodes n) (k : NodeKind) → is_of k q.node.kind ≡ true → kind_at nodes q.parent ≡ k
    kind_above n q k e = ap kind_of q.at ∙ same_kind k q.node.kind e

    other_above : (n : ℕ) (q : HasParent nodes n) (k : NodeKind) → is_of k q.node.kind ≡ true → is_of kind.Except k ≡ false → is_of kind.Except q.node.kind ≡ false
    other_above n q k e apart = ap (is_of kind.Except) (same_kind k q.node.kind e) ∙ apart

    file_free : (asked : ℕ → Bool) (n : ℕ) → kind_at nodes n ≡ kind.File → guarded_by asked n ≡ false
    file_free asked n is = free asked n (λ q. absurd (never_file nodes parsed.tree q.parent q.node q.at (parsed.forms q.parent q.node q.at) n q.child is))

    module_free : (asked : ℕ → Bool) (n : ℕ) → kind_at nodes n ≡ kind.Module → guarded_by asked n ≡ false
    module_free asked n is = free asked n (λ q. (
        let file : is_of kind.File q.node.kind ≡ true = file_of_module nodes parsed.tree q.parent q.node q.at (parsed.forms q.parent q.node q.at) n q.child is in
        through asked n q (other_above n q kind.File file refl) ∙ file_free asked q.parent (kind_above n q kind.File file)))

    cluster_free : (asked : ℕ → Bool) (n : ℕ) → kind_at nodes n ≡ kind.Cluster → guarded_by asked n ≡ false
    cluster_free asked n is = free asked n (λ q. (
        let its : is_of kind.Module q.node.kind ≡ true = module_of_cluster nodes parsed.tree q.parent q.node q.at (parsed.forms q.parent q.node q.at) n q.child is in
        through asked n q (other_above n q kind.Module its refl) ∙ module_free asked q.parent (kind_above n q kind.Module its)))

    pub routine_free : (asked : ℕ → Bool) (n : ℕ) → kind_at nodes n ≡ kind.Routine → guarded_by asked n ≡ false
    routine_free asked n is = free asked n (λ q.
        elim (or_cases (is_of kind.Module q.node.kind) (is_of kind.Cluster q.node.kind) (round_routine nodes parsed.tree q.parent q.node q.at (parsed.forms q.parent q.node q.at) n q.child is)) [
          | inl its ↦ through asked n q (other_above n q kind.Module its refl) ∙ module_free asked q.parent (kind_above n q kind.Module its)
          | inr its ↦ through asked n q (other_above n q kind.Cluster its refl) ∙ cluster_free asked q.parent (kind_above n q kind.Cluster its)
        ])

    module _ (firsts : AreItems f k.tables) (name : Identifier) (numbered : is_known words name ≡ true) where
      abbrev word : Option ℕ
      word = of_tables.number_of k name

      -- a when arm of the node has the name
      abbrev asked : ℕ → Bool
      asked e = is_some (first_named k list.WhenArms (Some e) (of_tables.number_of k name))

      asked_is : (e : ℕ) → asked e ≡ list_any (bytes_eq name) (whens_in words nodes (children_of (slice_get nodes e)))
      asked_is e =
          ap (λ (o : Option ℕ). is_some (first_named k list.WhenArms (Some e) o)) (word_found f k.tables firsts all_names kind.When list.WhenArms arms_are refl refl name numbered)
          ∙ item_found f k.tables firsts all_names kind.When list.WhenArms arms_are refl refl e name numbered

      -- ---- along the guards

      abbrev Found : ℕ → Type 0
      Found n = (steps : ℕ) → length nodes ≤ n + steps → is_some (arm_from k word (round_at f.rounds n).guard steps) ≡ guarded_by asked n

      module _ (n : ℕ) (q : HasParent nodes n) (up : Found q.parent) where
        abbrev p : ℕ
        p = q.parent

        less : n < p
        less = child_before nodes parsed.tree p q.node q.at (parsed.forms p q.node q.at) n q.child

        its_guard : (round_at f.rounds n).guard ≡ guard_in q.node.kind (kind_at nodes n) p (round_at f.rounds p)
        its_guard = of_all (IsGuarded nodes f.rounds p q.node) n q.node.children (guarded nodes f.rounds p q.node are parsed.tree q.at) q.child

        -- as the parent
        passed : (round_at f.rounds n).guard ≡ (round_at f.rounds p).guard → guarded_by asked n ≡ guarded_by asked p → (steps : ℕ) → length nodes ≤ n + steps → is_some (arm_from k word (round_at f.rounds n).guard steps) ≡ guarded_by asked n
        passed same alike steps enough =
            ap (λ (o : Option ℕ). is_some (arm_from k word o steps)) same
            ∙ up steps (let l : n < p = less in omega (arith, l, enough))
            ∙ sym alike

        -- by the parent, and then as it
        by_it : (round_at f.rounds n).guard ≡ Some p → guarded_by asked n ≡ (asked p || guarded_by asked p) → (steps : ℕ) → length nodes ≤ n + steps → is_some (arm_from k word (round_at f.rounds n).guard steps) ≡ guarded_by asked n
        by_it same alike zero enough = absurd (let l : n < p = less in let m : p < length nodes = slice_get_within nodes p q.node q.at in omega (arith, l, m, enough))
        by_it same alike (suc steps) enough =
            ap (λ (o : Option ℕ). is_some (arm_from k word o (suc steps))) same
            ∙ some_either (first_named k list.WhenArms (Some p) word) (arm_from k word (round_at f.rounds p).guard steps)
            ∙ ap (λ (b : Bool). asked p || b) (up steps (let l : n < p = less in omega (arith, l, enough)))
            ∙ sym alike

        in_except : (x : There nodes p kind.Except) → x.node ≡ q.node → (b : Bool) → is_arm (kind_at nodes n) ≡ b → Found n
        in_except x one b arm = by b arm
          where
            stands : starts n q.node.children ≡ not (is_arm (kind_at nodes n))
            stands =
                let s : Stand nodes p (just (is_child shape.statement) ∷ arm_slots) q.node.children = subst (λ (m : Node). Stand nodes p (just (is_child shape.statement) ∷ arm_slots) m.children) one (except_stands p x) in
                starts_told words nodes n p q.node.children s q.child

            is_except : q.node.kind ≡ kind.Except
            is_except = sym (ap (λ (m : Node). m.kind) one) ∙ x.is

            sum : guarded_by asked n ≡ (guarded_by asked p || (not (is_arm (kind_at nodes n)) && asked p))
            sum =
                by_parent t f parsed are n p q.node q.at q.child asked
                ∙ ap (λ (its : Option Node). guarded_by asked p || ((is_of kind.Except (kind_of its) && starts n (node_children f its)) && asked p)) q.at
                ∙ ap₂ (λ (j : NodeKind) (b : Bool). guarded_by asked p || ((is_of kind.Except j && b) && asked p)) is_except stands

            by : (b : Bool) → is_arm (kind_at nodes n) ≡ b → Found n
            by true e =
                passed (its_guard ∙ ap (λ (j : NodeKind). guard_in j (kind_at nodes n) p (round_at f.rounds p)) is_except ∙ ap (λ (b : Bool). if◌then◌else◌ {A = Option ℕ} b (round_at f.rounds p).guard (Some p)) e)
                (sum ∙ ap (λ (b : Bool). guarded_by asked p || (not b && asked p)) e ∙ or-false (guarded_by asked p))
            by false e =
                by_it (its_guard ∙ ap (λ (j : NodeKind). guard_in j (kind_at nodes n) p (round_at f.rounds p)) is_except ∙ ap (λ (b : Bool). if◌then◌else◌ {A = Option ℕ} b (round_at f.rounds p).guard (Some p)) e)
                (sum ∙ ap (λ (b : Bool). guarded_by asked p || (not b && asked p)) e ∙ or_comm (guarded_by asked p) (asked p))

        not_asked : q.node.kind ≡ kind.Resignal → asked p ≡ false
        not_asked is =
            asked_is p
            ∙ ap (λ (its : Option Node). list_any (bytes_eq name) (whens_in words nodes (children_of its))) q.at
            ∙ ap (list_any (bytes_eq name)) (no_whens words nodes q.node.children (λ c i. not-true (is_of kind.When (kind_at nodes c))
            (kind_of_child nodes parsed.tree p q.node q.at (parsed.forms p q.node q.at) c i (λ j. not (is_of kind.When j)) (λ j. ap (λ (m : NodeKind). not (is_of kind.When j) || no_form (forms m) j) is ∙ resignal_no_when j))))

        in_routine : q.node.kind ≡ kind.Routine → (steps : ℕ) → length nodes ≤ n + steps → is_some (arm_from k word (round_at f.rounds n).guard steps) ≡ guarded_by asked n
        in_routine is steps enough =
            ap (λ (o : Option ℕ). is_some (arm_from k word o steps)) (its_guard ∙ ap (λ (j : NodeKind). guard_in j (kind_at nodes n) p (round_at f.rounds p)) is)
            ∙ sym (through asked n q (ap (is_of kind.Except) is) ∙ routine_free asked p (ap kind_of q.at ∙ is))

        by_kind : (j : NodeKind) → q.node.kind ≡ j → Found n
        by_kind kind.Routine is = in_routine is
        by_kind kind.Resignal is =
            by_it (its_guard ∙ ap (λ (j : NodeKind). guard_in j (kind_at nodes n) p (round_at f.rounds p)) is)
            (through asked n q (ap (is_of kind.Except) is) ∙ ap (λ (b : Bool). b || guarded_by asked p) (sym (not_asked is)))
        by_kind kind.Except is =
            in_except (record { node = q.node; at = q.at; is = is }) refl (is_arm (kind_at nodes n)) refl
        by_kind _ is =
            passed (its_guard ∙ ap (λ (j : NodeKind). guard_in j (kind_at nodes n) p (round_at f.rounds p)) is) (through asked n q (ap (is_of kind.Except) is))

      at_last : (n : ℕ) → Last n → (steps : ℕ) → length nodes ≤ n + steps → is_some (arm_from k word (round_at f.rounds n).guard steps) ≡ guarded_by asked n
      at_last n last steps enough =
          ap (λ (r : Round). is_some (arm_from k word r.guard steps)) (are.roots_are n (no_parent nodes parsed.tree n last))
          ∙ sym (none_guards t f parsed are n last asked)

      -- where at most m nodes come from it on
      found_from : (m n : ℕ) → length nodes ≤ n + m → Found n
      found_from zero n l = at_last n (omega (arith, l))
      found_from (suc m) n l = elim (cases_lt n (length nodes - 1)) [
        | inl inside ↦ (let q : HasParent nodes n = has_parent nodes parsed.order n inside in
            let above : n < q.parent = child_before nodes parsed.tree q.parent q.node q.at (parsed.forms q.parent q.node q.at) n q.child in
            by_kind n q (found_from m q.parent (omega (arith, l, above))) q.node.kind refl)
        | inr last ↦ at_last n last
      ]

      found : (n : ℕ) → is_some (arm_from k word (round_at f.rounds n).guard (length f.rounds)) ≡ guarded_by asked n
      found n = found_from (length nodes) n (omega arith) (length f.rounds) (let size : length f.rounds ≡ length nodes = are.size in omega (arith, size))

      -- ---- as the definition has it

      abbrev takes : ℕ → Bool
      takes e = list_any (takes_name name) (arms_in f (item f e).statement)

      takes_is : (e : ℕ) → kind_at nodes e ≡ kind.Except → takes e ≡ asked e
      takes_is e is =
          let x : There nodes e kind.Except = there nodes e kind.Except refl is in
          ap (λ (i : Item). list_any (takes_name name) (arms_in f i.statement)) (item_there nodes e x.node x.at)
          ∙ ap (λ (j : NodeKind). list_any (takes_name name) (arms_in f (statement_of (before e (item_at nodes)) nodes e x.node j))) x.is
          ∙ arms_told words nodes name e x.node.children (except_stands e x)
          ∙ ap (λ (its : Option Node). list_any (bytes_eq name) (whens_in words nodes (children_of its))) (sym x.at)
          ∙ sym (asked_is e)

      both_same : (n e : ℕ) → (is_guarded_by f n e && takes e) ≡ (is_guarded_by f n e && asked e)
      both_same n e = by (is_kind f kind.Except e) refl
        where
          by : (b : Bool) → is_kind f kind.Except e ≡ b → (is_guarded_by f n e && takes e) ≡ (is_guarded_by f n e && asked e)
          by true is = ap (λ (b : Bool). is_guarded_by f n e && b) (takes_is e (same_kind kind.Except (kind_at nodes e) is))
          by false is =
              ap (λ (b : Bool). (b && guards f n (children f e)) && takes e) is
              ∙ sym (ap (λ (b : Bool). (b && guards f n (children f e)) && asked e) is)

      none_round : (n : ℕ) → is_none (checking.arm_for f n name) ≡ not (guarded_by asked n)
      none_round n =
          none_found (takes_name name) (arms_round f n)
          ∙ ap not (any_of_passing (takes_name name) (λ e. arms_in f (item f e).statement) (is_guarded_by f n) (numbers nodes)
          ∙ any_same (λ e. is_guarded_by f n e && takes e) (λ e. is_guarded_by f n e && asked e) (both_same n) (numbers nodes))

      lacks_same : (n : ℕ) → is_none (checking.arm_for f n name) ≡ is_none (arm_from k word (round_at f.rounds n).guard (length f.rounds))
      lacks_same n = none_round n ∙ ap not (sym (found n)) ∙ sym (none_is (arm_from k word (round_at f.rounds n).guard (length f.rounds)))

    -- ---- the rule

    in_exit : AreItems f k.tables → (n : ℕ) → kind_at nodes n ≡ kind.Exit → is_none (checking.arm_for f n (first_name (names f n))) ≡ is_none (of_tables.arm_for k n)
    in_exit firsts n is =
        let x : There nodes n kind.Exit = there nodes n kind.Exit refl is in
        let one : OneName nodes n = exit_name nodes parsed.forms n is in
        let all : are_known words (one.its ∷ []) ≡ true = ap (are_known words) (sym one.is) ∙ nodes_known nodes (length nodes) n (slice_get_within nodes n x.node x.at) in
        ap (λ (xs : List Identifier). is_none (checking.arm_for f n (first_name xs))) (sym (names_are f n) ∙ one.is)
        ∙ lacks_same firsts one.its (and_parts (is_known words one.its) true all).0 n
        ∙ ap (λ (xs : List Identifier). is_none (arm_named k n xs)) (sym one.is)

    pub v27_is : AreItems f k.tables → (n : ℕ) → v27 f n ≡ lacks_arm k n
    v27_is firsts n = by (is_of kind.Exit (kind_at nodes n)) refl
      where
        by : (b : Bool) → is_of kind.Exit (kind_at nodes n) ≡ b → (is_of kind.Exit (kind_at nodes n) && is_none (checking.arm_for f n (first_name (names f n)))) ≡ (known.is_node k kind.Exit n && is_none (of_tables.arm_for k n))
        by true e = ap₂ (λ (a b : Bool). a && b) (there_is kind.Exit refl (slice_get nodes n)) (in_exit firsts n (same_kind kind.Exit (kind_at nodes n) e))
        by false e =
            ap (λ (b : Bool). b && is_none (checking.arm_for f n (first_name (names f n)))) e
            ∙ ap (λ (b : Bool). b && is_none (of_tables.arm_for k n)) (sym (sym (there_is kind.Exit refl (slice_get nodes n)) ∙ e))
