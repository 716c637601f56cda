-- Rules over tables find the first fault that the definitions find, if they say the same up to it.
use Rattle.std.proofs.Common.{◌≡◌, ◌∙◌, ◌⊎◌, ℕ, zero, suc, ◌+◌, ◌-◌, ◌<◌, ◌≤◌, ◌||◌, ◌&&◌, if◌then◌else◌, Bool, true, false, List, [], ◌∷◌, ◌++◌, length, map, filter, cond, is_some, Option, Some, None, inl, inr, refl, sym, ap, subst, arith, zero-add}
use Rattle.std.specs.Prelude.{find, slice_get}
use Rattle.std.specs.List.{AllByRecursion, list_any, range_with_len}
use Rattle.std.proofs.Math.Bool.{and-false}
use Rattle.std.proofs.lemmas.Bool.{cases_eq, true≢false, and_parts}
use Rattle.std.proofs.lemmas.List.{length-map}
use Rattle.std.proofs.lemmas.List.FromFn.{length-range_with_len}
use Rattle.std.proofs.lemmas.Option.{get_or_from_slice_get, none-some, slice_get_within}
use Rattle.clu_base.specs.declared.rules.Rule.{Rule}
use Rattle.clu_base.proofs.Lists.{get_shifted}
use Rattle.clu_tree.specs.declared.node.NodeKind.{NodeKind}
use Rattle.clu_tree.specs.declared.node.NodeKind.TheVariants as kind
use Rattle.clu_syntax.specs.declared.round.Round.{Round}
use Rattle.clu_syntax.specs.Items.{Item}
use Rattle.clu_syntax.specs.Rounds.{outside}
use Rattle.clu_syntax.specs.Syntax.{Identifier}
use Rattle.clu_names.specs.declared.binding.Names.{Names}
use Rattle.clu_meaning.specs.Scoping.{Scope}
use Rattle.clu_checking.specs.Specifications.{Specification}
use Rattle.clu_checking.specs.Files.{File, is_kind, is_refused, kind_in, numbers, round}
use Rattle.clu_checking.specs.Equates.{is_bad_name, is_circular, names_unfolded}
use Rattle.clu_checking.specs.Rules as definition
use Rattle.clu_checking.specs.Rules.{all_rules, least}
use Rattle.clu_checking.specs.Refusals.{fault_at, first_on, heading_refusal, headings, is_bad, is_bad_by, is_bad_of, is_no_type_at, refusal, rest, right_side, rules_by, rules_of_types, with_refused}
use Rattle.clu_head.specs.Refused.{counts_to, grows_in}
use Rattle.clu_head.specs.There.{is_there}
use Rattle.clu_bindings.specs.Files.{stands_in}
use Rattle.clu_name_rules.specs.declared.tables.Tables.{Tables}
use Rattle.clu_type_rules.specs.declared.known.Known.{Known}
use Rattle.clu_type_rules.specs.Asked.{is_asked, rules_at, rules_of_headings, rules_of_rest}
use Rattle.clu_type_rules.specs.Rules.{violates, violates_of_types}
use Rattle.clu_type_rules.specs.Walking.{first_fault, first_of}
use Rattle.clu_passes.specs.Agreeing.{AgreeAt, FoundBefore}
use Rattle.clu_passes.specs.Bad.{AreBadBy}
use Rattle.clu_passes.specs.ConstantTables.{file_with}
use Rattle.clu_passes.specs.Refusing.{AgreeBelow, AgreeInEquates, AgreeInHeadings, AgreeInRest, AgreeOn, AgreeWithin, FindsFirst, IsOrder, bits_in, has_fault, heading_fault, is_no_type, is_of_types, of_types, refused_bits, rest_fault}
use Rattle.clu_passes.specs.Trees.{IsFileOfTree}
use Rattle.clu_passes.specs.Turns.{ReadsAlone, arm_declared, bit, equate_declared}
use Rattle.clu_passes.proofs.Apart.{IsNode, bits_right, equate_right, node_there}
use Rattle.clu_passes.proofs.BadEquates.{any_same, bad_is, least_same, names_are, solved, violates_same}
use Rattle.clu_passes.proofs.ByKinds.{least_at, least_of_headings, least_of_rest, not_elsewhere}
use Rattle.clu_passes.proofs.Chains.{ends_sooner, fewer_declared}
use Rattle.clu_passes.proofs.Counted.{refused_below, refused_is}
use Rattle.clu_passes.proofs.DeclaredOnce.{declare_once}
use Rattle.clu_passes.proofs.InEquates.{in_declarations}
use Rattle.clu_passes.proofs.Least.{all_kept, headings_kept, least_kept, rest_kept}
use Rattle.clu_passes.proofs.ReadBits.{faults_alone, faults_of_types_alone}
use Rattle.clu_passes.proofs.Walked as walked

-- ---- the first of some rules

pub first_found : (found violated : Rule → Bool) (rs : List Rule) → AgreeOn found violated rs → find found rs ≡ least violated rs
first_found found violated [] agree = refl
first_found found violated (r ∷ rs) agree =
    ap (λ (b : Bool). cond b (Some r) (find found rs)) agree.0
    ∙ by (violated r) refl (λ none. first_found found violated rs (agree.1 none))
  where
    by : (b : Bool) → violated r ≡ b → (violated r ≡ false → find found rs ≡ least violated rs) → cond b (Some r) (find found rs) ≡ elim b [ true ↦ Some r | false ↦ least violated rs ]
    by true is more = refl
    by false is more = more is

-- rules that say the same wherever they are asked
pub agree_kept : (found violated asked : Rule → Bool) → ((r : Rule) → asked r ≡ true → found r ≡ violated r) → (rs : List Rule) → AgreeOn found violated (filter asked rs)
agree_kept found violated asked same [] = tt
agree_kept found violated asked same (r ∷ rs) = by (asked r) refl (agree_kept found violated asked same rs)
  where
    by : (b : Bool) → asked r ≡ b → AgreeOn found violated (filter asked rs) → AgreeOn found violated (cond b (r ∷ filter asked rs) (filter asked rs))
    by true is more = (same r is, λ none. more)
    by false is more = more

module _ (found violated : Rule → Bool) (k : NodeKind) (same : (r : Rule) → is_asked k r ≡ true → found r ≡ violated r) where
  pub agree_at : AgreeOn found violated (rules_at k)
  agree_at = subst (AgreeOn found violated) (all_kept k) (agree_kept found violated (is_asked k) same all_rules)

  pub agree_of_headings : (in_heading : Bool) → AgreeOn found violated (rules_of_headings k in_heading)
  agree_of_headings h = subst (AgreeOn found violated) (headings_kept k h) (agree_kept found violated (is_asked k) same (rules_by k headings h))

  pub agree_of_rest : (in_heading : Bool) → AgreeOn found violated (rules_of_rest k in_heading)
  agree_of_rest h = subst (AgreeOn found violated) (rest_kept k h) (agree_kept found violated (is_asked k) same (rules_by k rest h))

-- ---- the first of some nodes

pub any_until : (g h : ℕ → Bool) (a len : ℕ) → ((n : ℕ) → a ≤ n → n < a + len → ((m : ℕ) → a ≤ m → m < n → h m ≡ false) → g n ≡ h n) → list_any g (range_with_len a len) ≡ list_any h (range_with_len a len)
any_until g h a zero same = refl
any_until g h a (suc len) same =
    ap (λ (b : Bool). b || list_any g (range_with_len (a + 1) len)) (same a (omega arith) (omega arith) (λ m l u. absurd (omega (arith, l, u))))
    ∙ by (h a) refl (λ none. any_until g h (a + 1) len (λ n l u before. same n (omega (arith, l)) (omega (arith, u)) (λ m from below. elim (cases_eq m a) [
      | inl here ↦ ap h here ∙ none
      | inr there ↦ before m (omega (arith, from, there)) below
    ])))
  where
    by : (b : Bool) → h a ≡ b → (h a ≡ false → list_any g (range_with_len (a + 1) len) ≡ list_any h (range_with_len (a + 1) len)) → (b || list_any g (range_with_len (a + 1) len)) ≡ (b || list_any h (range_with_len (a + 1) len))
    by true is more = refl
    by false is more = more is

-- either there is no fault before a node, or the first one is found
module _ (size : ℕ) (g h : ℕ → Option Rule) (finds : FindsFirst size g h) where
  before_or_not : (n : ℕ) → n ≤ size → ((m : ℕ) → m < n → h m ≡ None) ⊎ FoundBefore g h n
  before_or_not zero l = inl (λ m less. absurd (omega (arith, less)))
  before_or_not (suc n) l = elim (before_or_not n (omega (arith, l))) [
    | inl none ↦ by none (h n) refl
    | inr x ↦ let less : x.node < n = x.before in inr (record { node = x.node; before = omega (arith, less); same = x.same; found = x.found })
  ]
    where
      by : ((m : ℕ) → m < n → h m ≡ None) → (o : Option Rule) → h n ≡ o → ((m : ℕ) → m < suc n → h m ≡ None) ⊎ FoundBefore g h (suc n)
      by none None e = inl (λ m less. elim (cases_eq m n) [
        | inl here ↦ ap h here ∙ e
        | inr there ↦ none m (omega (arith, less, there))
      ])
      by none (Some r) e = let same : g n ≡ h n = finds n (omega (arith, l)) none in inr (record { node = n; before = omega arith; same = same; found = ap is_some (same ∙ e) })

  pub agree_first : (n : ℕ) → n < size → AgreeAt g h n
  agree_first n l = elim (before_or_not n (omega (arith, l))) [
    | inl none ↦ inl (finds n l none)
    | inr x ↦ inr x
  ]

-- ---- by tables

module _ (k : Known) (scope : Scope) (library : List Specification) (refused : List ℕ) (of : IsFileOfTree (file_with k.tables.file scope library refused)) (items : ℕ → Item) (bits : List Bool) where
  abbrev file : File
  file = file_with k.tables.file scope library refused

  module _ (heads : AgreeInHeadings file (violates k bits items)) where
    pub finds_headings : FindsFirst (length file.nodes) (heading_fault k items bits) (fault_at file headings)
    finds_headings n l before =
        first_found (violates k bits items n) (definition.violates file (is_bad file) n) (rules_of_headings (kind_in file n) (round file n).heading) (heads n l before)
        ∙ sym (least_of_headings file of (is_bad file) n (round file n).heading)

    heads_agree : (n : ℕ) → n < length file.nodes → AgreeAt (heading_fault k items bits) (fault_at file headings) n
    heads_agree = agree_first (length file.nodes) (heading_fault k items bits) (fault_at file headings) finds_headings

    pub heading_by_tables : first_fault (heading_fault k items bits) 0 file.nodes ≡ heading_refusal file
    heading_by_tables = walked.heading_said file (heading_fault k items bits) (rest_fault k items bits) heads_agree

    module _ (others : AgreeInRest file (violates k bits items)) where
      pub finds_rest : first_on file headings ≡ None → FindsFirst (length file.nodes) (rest_fault k items bits) (fault_at file rest)
      finds_rest none n l before =
          first_found (violates k bits items n) (definition.violates file (is_bad file) n) (rules_of_rest (kind_in file n) (round file n).heading) (others none n l before)
          ∙ sym (least_of_rest file of (is_bad file) n (round file n).heading)

      pub refused_by_tables : first_of (first_fault (heading_fault k items bits) 0 file.nodes) (first_fault (rest_fault k items bits) 0 file.nodes) ≡ refusal file
      refused_by_tables =
          walked.refusal_said file (heading_fault k items bits) (rest_fault k items bits) heads_agree
          (λ none. agree_first (length file.nodes) (rest_fault k items bits) (fault_at file rest) (finds_rest none))

-- ---- rules by which types are refused

module _ (f : File) (of : IsFileOfTree f) (bad : ℕ → Bool) (n : ℕ) where
  abbrev its : Rule → Bool
  its = of_types (definition.violates f bad n)

  elsewhere : (r : Rule) → is_asked (kind_in f n) r ≡ false → its r ≡ false
  elsewhere r e = ap (λ (b : Bool). is_of_types r && b) (not_elsewhere f of bad n r e) ∙ and-false (is_of_types r)

  listed : least its all_rules ≡ least (definition.violates f bad n) (rules_of_types f)
  listed = refl

  -- the rules by which types are refused are asked at a node among those of its kind
  pub least_of_types : least its (rules_at (kind_in f n)) ≡ least (definition.violates f bad n) (rules_of_types f)
  least_of_types = ap (least its) (sym (all_kept (kind_in f n))) ∙ least_kept its (is_asked (kind_in f n)) elsewhere all_rules ∙ listed

-- ---- bad equates

given : (b : Bool) (e : ℕ) → if◌then◌else◌ {A = Option ℕ} b (Some e) None ≡ Some e → b ≡ true
given true e h = refl
given false e h = absurd (none-some e h)

range_at : (h : ℕ → Option ℕ) (a len j : ℕ) → j < len → slice_get (map h (range_with_len a len)) j ≡ Some (h (a + j))
range_at h a zero j less = absurd (omega (arith, less))
range_at h a (suc len) zero less = let same : a ≡ a + 0 = omega arith in ap (λ (x : ℕ). Some (h x)) same
range_at h a (suc len) (suc j) less = let same : a + 1 + j ≡ a + suc j = omega arith in range_at h (a + 1) len j (omega (arith, less)) ∙ ap (λ (x : ℕ). Some (h x)) same

no_fault : (o : Option Rule) → is_some o ≡ false → o ≡ None
no_fault None e = refl
no_fault (Some r) e = absurd (true≢false e)

module _ (f : File) (of : IsFileOfTree f) (names : Names) (order : List ℕ) (circular : List Bool) (its_order : IsOrder f names order circular)
    (fault : List Bool → ℕ → Bool) (alone : ReadsAlone f.nodes names fault) where
  abbrev bits : List Bool
  bits = bits_in f order fault

  -- by these rules, of which those that are listed for a node's kind are asked there
  module _ (found violated : ℕ → Rule → Bool) (is : (n : ℕ) → fault bits n ≡ is_some (find (found n) (rules_at (kind_in f n)))) (its_rules : List Rule)
      (asked : (n : ℕ) → least (violated n) (rules_at (kind_in f n)) ≡ least (definition.violates f (bit bits) n) its_rules) where
    abbrev has_one : ℕ → Bool
    has_one n = is_some (least (definition.violates f (bit bits) n) its_rules)

    any_below : (e : ℕ) → AgreeBelow f found violated e → list_any (fault bits) (right_side f e) ≡ list_any has_one (right_side f e)
    any_below e agree = any_until (fault bits) has_one (round f e).first (e - (round f e).first) (λ n l u before.
        let same : find (found n) (rules_at (kind_in f n)) ≡ least (violated n) (rules_at (kind_in f n)) =
        first_found (found n) (violated n) (rules_at (kind_in f n)) (agree n l (omega (arith, l, u)) (λ m from below. asked m ∙ no_fault (least (definition.violates f (bit bits) m) its_rules) (before m from below))) in
        is n ∙ ap is_some (same ∙ asked n))

    module _ (agree : AgreeInEquates f found violated) where
      are_bad : AreBadBy f its_rules (bit bits)
      are_bad e equate straight =
          equate_right f of names its_order.named (declare_once f.nodes f.rounds f.scope.declarations of.shaped its_order.all) order circular its_order.circles fault alone its_order.all its_order.marks e equate straight
          ∙ any_below e (agree e equate straight)

      pub bad_met : (e : ℕ) → is_kind f kind.Equate e ≡ true → is_circular f e ≡ false → bit bits e ≡ is_bad_of f its_rules e
      bad_met = bad_is f of its_rules (bit bits) are_bad

      -- ---- a Decl of an arm, which is asked behind all equates

      module _ (e : ℕ) (arm : arm_declared f.nodes f.rounds e ≡ Some e) where
        its_node : IsNode kind.Decl (slice_get f.nodes e)
        its_node = node_there kind.Decl (slice_get f.nodes e) (and_parts (is_there kind.Decl (slice_get f.nodes e)) (stands_in f.nodes f.rounds kind.When e) (given (is_there kind.Decl (slice_get f.nodes e) && stands_in f.nodes f.rounds kind.When e) e arm)).0

        abbrev equates : List (Option ℕ)
        equates = map (λ place. equate_declared f.nodes (slice_get f.scope.declarations place)) order

        abbrev arms : List (Option ℕ)
        arms = map (arm_declared f.nodes f.rounds) (range_with_len 0 (length f.nodes))

        stands : slice_get (equates ++ arms) (length equates + e) ≡ Some (Some e)
        stands =
            get_shifted equates arms e
            ∙ range_at (arm_declared f.nodes f.rounds) 0 (length f.nodes) e (slice_get_within f.nodes e its_node.node its_node.there)
            ∙ ap (λ (x : ℕ). Some (arm_declared f.nodes f.rounds x)) (zero-add e)
            ∙ ap (λ (o : Option ℕ). Some o) arm

        -- one step fewer than there are declarations is enough for what is named there
        abbrev fewer : ℕ
        fewer = length f.scope.declarations - 1

        named_bad : (m : ℕ) → is_kind f kind.Equate m ≡ true → is_circular f m ≡ false → bit bits m ≡ is_bad_by f its_rules fewer m
        named_bad m equate straight =
            solved f of its_rules (bit bits) are_bad fewer m equate straight
            (ends_sooner f of names order circular its_order e its_node.node its_node.there its_node.its m equate straight) fewer (omega arith)

        all_named : (n : ℕ) (its : List Identifier) → AllByRecursion (λ (name : Identifier). is_bad_name f (bit bits) n name ≡ is_bad_name f (is_bad_by f its_rules fewer) n name) its
        all_named n [] = tt
        all_named n (name ∷ its) = (names_are f (bit bits) (is_bad_by f its_rules fewer) named_bad n name, all_named n its)

        one_step : (n : ℕ) → (round f e).first ≤ n → n < (round f e).first + (e - (round f e).first) → has_one n ≡ is_some (least (definition.violates f (is_bad_by f its_rules fewer) n) its_rules)
        one_step n l u =
            ap is_some (least_same (definition.violates f (bit bits) n) (definition.violates f (is_bad_by f its_rules fewer) n)
            (violates_same f of (bit bits) (is_bad_by f its_rules fewer) n
            (in_declarations f.nodes f.rounds of.shaped of.ordered of.tree of.surrounded e its_node.node its_node.there its_node.its n l (omega (arith, l, u)))
            (all_named n (names_unfolded f (kind_in f n) n)))
            its_rules)

        by_steps : AgreeBelow f found violated e → bit bits e ≡ is_bad_by f its_rules (suc fewer) e
        unfolding is_bad_by
        by_steps below =
            bits_right f of names its_order.named (declare_once f.nodes f.rounds f.scope.declarations of.shaped its_order.all) order circular its_order.circles fault alone (length equates + e) e stands
            ∙ any_below e below
            ∙ any_same has_one (λ n. is_some (least (definition.violates f (is_bad_by f its_rules fewer) n) its_rules)) (round f e).first (e - (round f e).first) one_step

        pub arm_met : AgreeBelow f found violated e → bit bits e ≡ is_bad_of f its_rules e
        arm_met below = by_steps below ∙ ap (λ (steps : ℕ). is_bad_by f its_rules steps e) (fewer_declared f of names order circular its_order e its_node.node its_node.there its_node.its)

module _ (k : Known) (scope : Scope) (library : List Specification) (refused : List ℕ) (of : IsFileOfTree (file_with k.tables.file scope library refused)) (items : ℕ → Item)
    (order : List ℕ) (circular : List Bool) (its_order : IsOrder (file_with k.tables.file scope library refused) k.tables.file.names.now order circular) where
  abbrev known_file : File
  known_file = file_with k.tables.file scope library refused

  abbrev all_bits : List Bool
  all_bits = bits_in known_file order (has_fault k items)

  by_all : AgreeInEquates known_file (violates k all_bits items) (definition.violates known_file (bit all_bits)) → (e : ℕ) → is_kind known_file kind.Equate e ≡ true → is_circular known_file e ≡ false → bit all_bits e ≡ is_bad known_file e
  by_all =
      bad_met known_file of k.tables.file.names.now order circular its_order (has_fault k items) (faults_alone k items)
      (violates k all_bits items) (definition.violates known_file (bit all_bits)) (λ n. refl) all_rules (λ n. sym (least_at known_file of (bit all_bits) n))

  pub bad_by_tables : (bits : List Bool) → bits ≡ bits_in known_file order (has_fault k items) → AgreeInEquates known_file (violates k bits items) (definition.violates known_file (bit bits)) →
      (e : ℕ) → is_kind known_file kind.Equate e ≡ true → is_circular known_file e ≡ false → bit bits e ≡ is_bad known_file e
  bad_by_tables bits are = subst (λ (b : List Bool). AgreeInEquates known_file (violates k b items) (definition.violates known_file (bit b)) → (e : ℕ) → is_kind known_file kind.Equate e ≡ true → is_circular known_file e ≡ false → bit b e ≡ is_bad known_file e) (sym are) by_all

  arms_all : AgreeInEquates known_file (violates k all_bits items) (definition.violates known_file (bit all_bits)) → (e : ℕ) → arm_declared known_file.nodes known_file.rounds e ≡ Some e →
      AgreeBelow known_file (violates k all_bits items) (definition.violates known_file (bit all_bits)) e → bit all_bits e ≡ is_bad known_file e
  arms_all =
      arm_met known_file of k.tables.file.names.now order circular its_order (has_fault k items) (faults_alone k items)
      (violates k all_bits items) (definition.violates known_file (bit all_bits)) (λ n. refl) all_rules (λ n. sym (least_at known_file of (bit all_bits) n))

  pub arms_by_tables : (bits : List Bool) → bits ≡ bits_in known_file order (has_fault k items) → AgreeInEquates known_file (violates k bits items) (definition.violates known_file (bit bits)) →
      (e : ℕ) → arm_declared known_file.nodes known_file.rounds e ≡ Some e → AgreeBelow known_file (violates k bits items) (definition.violates known_file (bit bits)) e → bit bits e ≡ is_bad known_file e
  arms_by_tables bits are =
      subst (λ (b : List Bool). AgreeInEquates known_file (violates k b items) (definition.violates known_file (bit b)) → (e : ℕ) → arm_declared known_file.nodes known_file.rounds e ≡ Some e →
      AgreeBelow known_file (violates k b items) (definition.violates known_file (bit b)) e → bit b e ≡ is_bad known_file e) (sym are) arms_all

module _ (t : Tables) (scope : Scope) (library : List Specification) (refused : List ℕ) (of : IsFileOfTree (file_with t.file scope library refused)) (items : ℕ → Item)
    (order : List ℕ) (circular : List Bool) (its_order : IsOrder (file_with t.file scope library refused) t.file.names.now order circular) where
  abbrev typed_file : File
  typed_file = file_with t.file scope library refused

  abbrev typed_bits : List Bool
  typed_bits = bits_in typed_file order (is_no_type t items)

  by_types : AgreeInEquates typed_file (violates_of_types t typed_bits items) (λ n. of_types (definition.violates typed_file (bit typed_bits) n)) →
      (e : ℕ) → is_kind typed_file kind.Equate e ≡ true → is_circular typed_file e ≡ false → bit typed_bits e ≡ is_bad_of typed_file (rules_of_types typed_file) e
  by_types =
      bad_met typed_file of t.file.names.now order circular its_order (is_no_type t items) (faults_of_types_alone t items)
      (violates_of_types t typed_bits items) (λ n. of_types (definition.violates typed_file (bit typed_bits) n)) (λ n. refl) (rules_of_types typed_file) (λ n. least_of_types typed_file of (bit typed_bits) n)

  pub bad_of_types_by_tables : (bits : List Bool) → bits ≡ bits_in typed_file order (is_no_type t items) → AgreeInEquates typed_file (violates_of_types t bits items) (λ n. of_types (definition.violates typed_file (bit bits) n)) →
      (e : ℕ) → is_kind typed_file kind.Equate e ≡ true → is_circular typed_file e ≡ false → bit bits e ≡ is_bad_of typed_file (rules_of_types typed_file) e
  bad_of_types_by_tables bits are =
      subst (λ (b : List Bool). AgreeInEquates typed_file (violates_of_types t b items) (λ n. of_types (definition.violates typed_file (bit b) n)) → (e : ℕ) → is_kind typed_file kind.Equate e ≡ true → is_circular typed_file e ≡ false → bit b e ≡ is_bad_of typed_file (rules_of_types typed_file) e) (sym are) by_types

-- ---- nodes that are refused

filter_same : (g h : ℕ → Bool) (a len : ℕ) → ((n : ℕ) → a ≤ n → n < a + len → g n ≡ h n) → filter g (range_with_len a len) ≡ filter h (range_with_len a len)
filter_same g h a zero same = refl
filter_same g h a (suc len) same =
    ap (λ (b : Bool). cond b (a ∷ filter g (range_with_len (a + 1) len)) (filter g (range_with_len (a + 1) len))) (same a (omega arith) (omega arith))
    ∙ ap (λ (xs : List ℕ). cond (h a) (a ∷ xs) xs) (filter_same g h (a + 1) len (λ n l m. same n (omega (arith, l)) (omega (arith, m))))

mapped_bit : (g : ℕ → Bool) (a len j : ℕ) → j < len → bit (map g (range_with_len a len)) j ≡ g (a + j)
mapped_bit g a zero j less = absurd (omega (arith, less))
mapped_bit g a (suc len) zero less = let same : a ≡ a + 0 = omega arith in ap g same
mapped_bit g a (suc len) (suc j) less = let same : a + 1 + j ≡ a + suc j = omega arith in mapped_bit g (a + 1) len j (omega (arith, less)) ∙ ap g same

module _ (g : ℕ → Bool) (size : ℕ) where
  abbrev all_of : List Bool
  all_of = map g (range_with_len 0 size)

  all_size : length all_of ≡ size
  all_size = length-map (range_with_len 0 size) g ∙ length-range_with_len 0 size

  bit_of : (n : ℕ) → n < size → bit all_of n ≡ g n
  bit_of n less = mapped_bit g 0 size n less ∙ ap g (zero-add n)

  filtered : filter g (range_with_len 0 size) ≡ filter (bit all_of) (range_with_len 0 (length all_of))
  filtered =
      filter_same g (bit all_of) 0 size (λ n l m. sym (bit_of n (omega (arith, m))))
      ∙ ap (λ (len : ℕ). filter (bit all_of) (range_with_len 0 len)) (sym all_size)

module _ (f : File) (found no_type : ℕ → Bool) (are : f.refused ≡ filter no_type (numbers f.nodes)) (n : ℕ) (its_round : Round) (inside : n < length f.nodes)
    (there : slice_get f.rounds n ≡ Some its_round) (ordered : its_round.first ≤ n)
    (same : (m : ℕ) → (round f n).first ≤ m → m < (round f n).first + (suc n - (round f n).first) → ((i : ℕ) → (round f n).first ≤ i → i < m → no_type i ≡ false) → found m ≡ no_type m) where
  abbrev found_bits : List Bool
  found_bits = all_of found (length f.nodes)

  abbrev true_bits : List Bool
  true_bits = all_of no_type (length f.nodes)

  abbrev found_file : File
  found_file = record f { refused = filter (bit found_bits) (range_with_len 0 (length found_bits)) }

  from_is : (round f n).first ≡ its_round.first
  from_is = ap (λ (r : Round). r.first) (get_or_from_slice_get f.rounds n its_round outside there)

  refused_met : is_refused f n ≡ grows_in (counts_to found_bits (length found_bits)) (slice_get f.rounds n) n
  refused_met =
      let from : (round f n).first ≡ its_round.first = from_is in
      let first_size : length true_bits ≡ length f.nodes = all_size no_type (length f.nodes) in
      let second_size : length found_bits ≡ length f.nodes = all_size found (length f.nodes) in
      refused_below f true_bits (are ∙ filtered no_type (length f.nodes)) n (omega (arith, inside, first_size)) (omega (arith, from, ordered))
      ∙ any_same (bit true_bits) no_type (round f n).first (suc n - (round f n).first) (λ m l u. bit_of no_type (length f.nodes) m (omega (arith, l, u, from, ordered, inside)))
      ∙ sym (any_until found no_type (round f n).first (suc n - (round f n).first) same)
      ∙ sym (any_same (bit found_bits) found (round f n).first (suc n - (round f n).first) (λ m l u. bit_of found (length f.nodes) m (omega (arith, l, u, from, ordered, inside))))
      ∙ sym (refused_below found_file found_bits refl n (omega (arith, inside, second_size)) (omega (arith, from, ordered)))
      ∙ refused_is found_file found_bits refl n its_round (omega (arith, inside, second_size)) there ordered

module _ (t : Tables) (scope : Scope) (library : List Specification) (refused : List ℕ) (of : IsFileOfTree (file_with t.file scope library refused)) (items : ℕ → Item) (its_bits : List Bool) where
  abbrev plain : File
  plain = file_with t.file scope library refused

  abbrev is_bad_type : ℕ → Bool
  is_bad_type = is_bad_of plain (rules_of_types plain)

  pub refused_by_bits : (n : ℕ) (its_round : Round) → n < length plain.nodes → slice_get plain.rounds n ≡ Some its_round → its_round.first ≤ n →
      AgreeWithin plain (violates_of_types t its_bits items) (λ m. of_types (definition.violates plain is_bad_type m)) n →
      is_refused (with_refused plain) n ≡ grows_in (counts_to (refused_bits t items its_bits) (length (refused_bits t items its_bits))) (slice_get plain.rounds n) n
  refused_by_bits n its_round inside there ordered agree =
      let from : (round plain n).first ≡ its_round.first = ap (λ (r : Round). r.first) (get_or_from_slice_get plain.rounds n its_round outside there) in
      refused_met (with_refused plain) (is_no_type t items its_bits) (is_no_type_at plain) refl n its_round inside there ordered
      (λ m l u before.
      ap is_some (first_found (violates_of_types t its_bits items m) (of_types (definition.violates plain is_bad_type m)) (rules_at (kind_in plain m))
      (agree m l (omega (arith, l, u, from, ordered)) (λ i after less.
      least_of_types plain of is_bad_type i ∙ no_fault (least (definition.violates plain is_bad_type i) (rules_of_types plain)) (before i after less)))
      ∙ least_of_types plain of is_bad_type m))
