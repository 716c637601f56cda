-- Where the walks over the tables find no fault before a node, the definitions find none there.
use Rattle.std.proofs.Common.{◌≡◌, ◌∙◌, ◌+◌, ◌<◌, ◌≤◌, ℕ, zero, suc, Bool, true, false, List, [], ◌∷◌, length, Option, Some, None, inl, inr, refl, sym, ap, subst, arith}
use Rattle.std.specs.List.{range_with_len}
use Rattle.std.proofs.lemmas.Bool.{true≢false, cases_lt}
use Rattle.std.proofs.lemmas.Option.{none-some}
use Rattle.clu_base.specs.declared.rules.Rule.{Rule}
use Rattle.clu_tree.specs.declared.node.Node.{Node}
use Rattle.clu_parser.specs.Trees.{Text}
use Rattle.clu_syntax.specs.Items.{Item}
use Rattle.clu_syntax.specs.Kinds.{kind_at}
use Rattle.clu_syntax.specs.Rounds.{round_at}
use Rattle.clu_meaning.specs.Scoping.{Scope}
use Rattle.clu_checking.specs.Specifications.{Specification}
use Rattle.clu_checking.specs.Files.{File, kind_in, round}
use Rattle.clu_checking.specs.Refusals.{Walk, fault_at, first_among, first_on, headings, rest}
use Rattle.clu_declares.specs.Declares.{IsParsed}
use Rattle.clu_type_rules.specs.declared.known.Known.{Known}
use Rattle.clu_type_rules.specs.Asked.{rules_at}
use Rattle.clu_type_rules.specs.Rules.{violates}
use Rattle.clu_type_rules.specs.Walking.{first_fault, first_of, told}
use Rattle.clu_passes.specs.ConstantTables.{file_with}
use Rattle.clu_passes.specs.Losing.{is_definition, walk_by, walk_of}
use Rattle.clu_passes.specs.Refusing.{AgreeInHeadings, AgreeInRest, FindsFirst, heading_fault, rest_fault}
use Rattle.clu_passes.specs.Right.{IsFirst}
use Rattle.clu_passes.specs.Tags.{asks_tags}
use Rattle.clu_passes.specs.Trees.{IsFileOfTree}
use Rattle.clu_passes.proofs.FaultsFound.{finds_headings, finds_rest}
use Rattle.clu_passes.proofs.TagsAsked.{none_in_headings}
use Rattle.clu_check_mod.specs.Asking.{is_violated}
use Rattle.clu_check_mod.specs.Walks as by_tables
use Rattle.clu_check_mod.specs.declared.rules.Walk.TheVariants as walk

-- ---- a walk that finds nothing

no_fault : (g : ℕ → Option Rule) (n : ℕ) (nodes : List Node) → first_fault g n nodes ≡ None → (m : ℕ) → n ≤ m → m < n + length nodes → g m ≡ None
no_fault g n [] none m low less = absurd (omega (arith, low, less))
no_fault g n (node ∷ nodes) none m low less = by (g n) refl (no_fault g (n + 1) nodes)
  where
    by : (o : Option Rule) → g n ≡ o → (first_fault g (n + 1) nodes ≡ None → (i : ℕ) → n + 1 ≤ i → i < n + 1 + length nodes → g i ≡ None) → g m ≡ None
    by (Some r) e more = absurd (none-some (record { rule = r; place = node.place }) (sym none ∙ ap (λ (o : Option Rule). first_of (told o node) (first_fault g (n + 1) nodes)) e))
    by None e more = elim (cases_lt n m) [
      | inl behind ↦ more (sym (ap (λ (o : Option Rule). first_of (told o node) (first_fault g (n + 1) nodes)) e) ∙ none) m (omega (arith, behind)) (omega (arith, less))
      | inr here ↦ (let same : n ≡ m = omega (arith, low, here) in subst (λ (i : ℕ). g i ≡ None) same e)
    ]

first_none : (h : ℕ → Option Rule) (a len : ℕ) → ((m : ℕ) → a ≤ m → m < a + len → h m ≡ None) → first_among h (range_with_len a len) ≡ None
first_none h a zero none = refl
first_none h a (suc len) none =
    ap (λ (o : Option Rule). elim o [ Some r ↦ Some (a, r) | None ↦ first_among h (range_with_len (a + 1) len) ]) (none a (omega arith) (omega arith))
    ∙ first_none h (a + 1) len (λ m low less. none m (omega (arith, low)) (omega (arith, less)))

-- what finds the first fault finds none before a node where there is none
none_before : (size : ℕ) (g h : ℕ → Option Rule) → FindsFirst size g h → (n : ℕ) → n ≤ size → ((m : ℕ) → m < n → g m ≡ None) → (m : ℕ) → m < n → h m ≡ None
none_before size g h finds zero most none m less = absurd (omega (arith, less))
none_before size g h finds (suc n) most none m less =
    let before : (i : ℕ) → i < n → h i ≡ None = none_before size g h finds n (omega (arith, most)) (λ i l. none i (omega (arith, l))) in
    elim (cases_lt m n) [
      | inl earlier ↦ before m earlier
      | inr later ↦
          (let same : n ≡ m = omega (arith, less, later) in
          subst (λ (i : ℕ). h i ≡ None) same (sym (finds n (omega (arith, most)) before) ∙ none n (omega arith)))
    ]

walk_rest : (definition heading : Bool) → heading ≡ false → walk_by definition heading ≡ rest
walk_rest true heading e = refl
walk_rest false true e = absurd (true≢false e)
walk_rest false false e = refl

-- ---- by tables

module _ (t : Text) (k : Known) (scope : Scope) (library : List Specification) (refused : List ℕ) (of : IsFileOfTree (file_with k.tables.file scope library refused)) (items : ℕ → Item) (bits : List Bool)
    (heads : AgreeInHeadings (file_with k.tables.file scope library refused) (violates k bits items)) (others : AgreeInRest (file_with k.tables.file scope library refused) (violates k bits items)) (parsed : IsParsed t k.tables.file.syntax.now) where
  abbrev f : File
  f = file_with k.tables.file scope library refused

  headings_none : by_tables.first_on k bits items walk.Headings ≡ None → first_on f headings ≡ None
  unfolding is_violated
  headings_none none =
      first_none (fault_at f headings) 0 (length f.nodes)
      (λ m low less.
      none_before (length f.nodes) (heading_fault k items bits) (fault_at f headings) (finds_headings k scope library refused of items bits heads) (length f.nodes) (omega arith)
      (λ i l. no_fault (heading_fault k items bits) 0 f.nodes none i (omega arith) (omega (arith, l))) m (omega (arith, less)))

  rest_none : by_tables.first_on k bits items walk.Headings ≡ None → (n : ℕ) → n ≤ length f.nodes → by_tables.NoneBefore k bits items walk.Rest n → (m : ℕ) → m < n → fault_at f rest m ≡ None
  unfolding is_violated
  rest_none none n most before = none_before (length f.nodes) (rest_fault k items bits) (fault_at f rest) (finds_rest k scope library refused of items bits heads others (headings_none none)) n most before

  -- a node at which tags are looked for stands in no heading
  not_heading : (n : ℕ) → asks_tags (rules_at (kind_at k.tables.file.syntax.now n)) ≡ true → (round_at k.tables.file.rounds.now n).heading ≡ false
  not_heading n tagged = by (round_at k.tables.file.rounds.now n).heading refl
    where
      by : (b : Bool) → (round_at k.tables.file.rounds.now n).heading ≡ b → (round_at k.tables.file.rounds.now n).heading ≡ false
      by true e = absurd (true≢false (sym tagged ∙ none_in_headings t k.tables.file.syntax.now k.tables.file.rounds.now parsed of.surrounded n e))
      by false e = e

  pub reached : (n : ℕ) → n < length f.nodes → by_tables.first_on k bits items walk.Headings ≡ None → by_tables.NoneBefore k bits items walk.Rest n → asks_tags (rules_at (kind_at k.tables.file.syntax.now n)) ≡ true → IsFirst f n
  reached n inside none before tagged =
      let on : walk_of f n ≡ rest = walk_rest (is_definition (kind_in f n)) (round f n).heading (not_heading n tagged) in
      record {
        before = λ m less. ap (λ (w : Walk). fault_at f w m) on ∙ rest_none none n (omega (arith, inside)) before m less;
        headed = λ its. headings_none none;
      }
